use Rattle.std.proofs.Common.{arith}
use Rattle.ts_bound.proofs.RowLaws.{start_below, start_is}
use Rattle.ts_bound.proofs.table.HullTable.bounds.Goals as goal

pub index-requires : goal.index-requires
index-requires c =
    start_below c.self.inside.starts.items c.self.inside.hulls.items _ _ _ c.self.invariant c.self.view_is (omega (arith, c.requires.last))
    c.self.inside.starts.ok.0

pub index-requires-2 : goal.index-requires-2
index-requires-2 c =
    start_below c.self.inside.starts.items c.self.inside.hulls.items _ _ _ c.self.invariant c.self.view_is c.requires.last c.self.inside.starts.ok.0

pub returns-clause-from : goal.returns-clause-from
returns-clause-from c =
    start_is c.self.inside.starts.items c.self.inside.hulls.items _ _ _ c.self.invariant c.self.view_is (omega (arith, c.requires.last)) c.index.ensures

pub returns-clause-to : goal.returns-clause-to
returns-clause-to c =
    start_is c.self.inside.starts.items c.self.inside.hulls.items _ _ _ c.self.invariant c.self.view_is c.requires.last c.index-2.ensures

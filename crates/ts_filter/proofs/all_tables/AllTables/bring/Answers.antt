use Rattle.std.proofs.Common.{subst, sym}
use Rattle.std.specs.List.{AllByRecursion}
use Rattle.ts_bound.specs.TermSpans.{LooksIn}
use Rattle.ts_filter.specs.Tables.{Tables}
use Rattle.ts_filter.proofs.MeetingLaws.{looks_each}
use Rattle.ts_filter.proofs.all_tables.AllTables.bring.Goals as goal

pub meet-requires-clause-looks : goal.meet-requires-clause-looks
meet-requires-clause-looks c =
    let b = c.args.cells.now.present in
    looks_each b c.self.inside.each.items (subst (λ (t : Tables). AllByRecursion (λ a. LooksIn a b) t.machines) (sym c.self.view_is) c.requires.looks)

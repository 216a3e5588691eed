use Rattle.std.proofs.Common.{◌<◌, ◌∙◌, length, ap, subst, sym}
use Rattle.std.specs.List.{AllByRecursion}
use Rattle.std.specs.Prelude.{IfOk}
use Rattle.ts_bound.specs.TermSpans.{LooksIn}
use Rattle.ts_model.specs.declared.model.Require.{Require}
use Rattle.ts_filter.specs.Boxes.{Box}
use Rattle.ts_filter.specs.Drops.{IsFirstDrop}
use Rattle.ts_filter.specs.KeptCells.{AreKept}
use Rattle.ts_filter.specs.MachineSpans.{spans_of}
use Rattle.ts_filter.specs.Tables.{AreRowsOfEach, Tables}
use Rattle.ts_filter.proofs.all_tables.AllTables.next_drop.Goals as goal

pub first_by_cells-requires-clause-terms : goal.first_by_cells-requires-clause-terms
first_by_cells-requires-clause-terms g c =
    subst (λ (t : Tables). AllByRecursion (λ (r : Require). r.term < length t.machines) c.args.requirements.now) (sym c.self.view_is) c.requires.terms

pub first_by_cells-requires-clause-looks : goal.first_by_cells-requires-clause-looks
first_by_cells-requires-clause-looks g c =
    subst (λ (t : Tables). AllByRecursion (λ a. LooksIn a c.args.cells.now.present) t.machines) (sym c.self.view_is) c.requires.looks

pub first_by_cells-requires-clause-kept : goal.first_by_cells-requires-clause-kept
first_by_cells-requires-clause-kept g c =
    subst (λ (t : Tables). AreKept c.args.requirements.now (spans_of t.machines) c.args.cells.now.present c.args.kept.now) (sym c.self.view_is)
    c.requires.kept

pub first_by_cells-requires-clause-spares : goal.first_by_cells-requires-clause-spares
first_by_cells-requires-clause-spares g c =
    subst (λ (t : Tables). g.S.Spares.knows c.args.requirements.now (spans_of t.machines) c.args.cells.now.present c.args.spares.now) (sym c.self.view_is)
    c.requires.spares

pub first_by_cells-requires-clause-known : goal.first_by_cells-requires-clause-known
first_by_cells-requires-clause-known g c =
    subst (λ (z : Box). AreRowsOfEach z c.self.inside.each.items) (ap (λ (t : Tables). t.cells) c.self.view_is ∙ c.requires.on) c.self.invariant

pub invariant_of-self : goal.invariant_of-self
invariant_of-self g c =
    subst (λ (z : Box). AreRowsOfEach z c.first_by_cells.new.each.items) (sym (ap (λ (t : Tables). t.cells) c.self.view_is ∙ c.requires.on))
    c.first_by_cells.ensures.known

pub returns-clause-same : goal.returns-clause-same
returns-clause-same g c =
    ap (λ l. record { machines = l; cells = c.self.inside.seen.items }) c.first_by_cells.ensures.machines ∙ c.self.view_is

pub returns-clause-found : goal.returns-clause-found
returns-clause-found g c =
    subst (λ (t : Tables). IfOk c.first_by_cells.result
    (λ found. IsFirstDrop c.args.requirements.now (spans_of t.machines) c.args.cells.now.present found)) c.self.view_is c.first_by_cells.ensures.found

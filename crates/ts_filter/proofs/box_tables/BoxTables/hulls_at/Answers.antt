use Rattle.std.proofs.Common.{ap, ◌∙◌, ◌<◌, length, sym, subst, [], get_or, ◌-◌}
use Rattle.ts_bound.specs.Laws.{AreAutomata}
use Rattle.ts_bound.specs.TermSpans.{automata_of}
use Rattle.ts_glue.specs.declared.machine.Machine.{Machine}
use Rattle.ts_bound.specs.AnyRows.{viewed}
use Rattle.ts_bound.specs.RowStacks.{IsPlanned}
use Rattle.ts_filter.specs.CellHulls.{AreHulls}
use Rattle.ts_filter.specs.KnownRows.{KnownRows}
use Rattle.ts_filter.proofs.TableSteps.{ahead_inside, hulls_are}
use Rattle.ts_filter.proofs.box_tables.BoxTables.hulls_at.Goals as goal

pub row-requires : goal.row-requires
row-requires c =
    let t = c.args.self.now in
    subst (λ (u : KnownRows). c.args.k - c.ends-first.result.0 < length u.ahead) (sym c.self.view_is)
    (subst (λ first. c.args.k - first < length t.ahead) (sym c.ends-first.ensures.first)
    (ahead_inside c.args.cells.now.present t c.args.k c.requires.hulls c.requires.known c.requires.there))

pub invariant_of-result : goal.invariant_of-result
invariant_of-result c =
    let t = c.args.self.now in let b = c.args.cells.now.present in let p = c.self.inside.ahead.planned in
    let row = viewed c.row.result in
    subst (λ (m : Machine). AreHulls (automata_of m) b c.args.k row c.back_side.result) (sym c.get.ensures)
    (subst (λ (u : KnownRows). AreHulls u.machine b c.args.k row c.back_side.result) (sym c.self.view_is)
    (hulls_are b t c.args.k c.requires.hulls c.requires.known c.requires.there p row c.back_side.result
    (subst (λ (u : KnownRows). AreAutomata u.machine) c.self.view_is c.self.invariant.0.whole)
    (ap (λ (u : KnownRows). u.form) c.self.view_is)
    (subst (λ (u : KnownRows). IsPlanned u.machine.forward p) c.self.view_is c.self.invariant.0.forward) c.row.ensures.states
    (c.row.ensures.hulls ∙ ap (λ (u : KnownRows). get_or u.ahead (c.args.k - c.ends-first.result.0) []) c.self.view_is
    ∙ ap (λ first. get_or t.ahead (c.args.k - first) []) c.ends-first.ensures.first)
    c.back_side.ensures.side c.back_side.ensures.form))

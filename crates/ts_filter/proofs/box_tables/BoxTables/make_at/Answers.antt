use Rattle.std.proofs.Common.{◌+◌, ◌-◌, ◌≤◌, ◌<◌, ◌∙◌, ap, length, sym, subst}
use Rattle.ts_base.specs.Windows.{looked_at}
use Rattle.ts_bound.specs.Looks.{first_looked, last_looked}
use Rattle.ts_bound.specs.TermSpans.{Automata}
use Rattle.ts_filter.proofs.TableSteps.{ahead_count, behind_count}
use Rattle.ts_filter.proofs.box_tables.BoxTables.make_at.Goals as goal

pub make_ahead-requires-clause-cells : goal.make_ahead-requires-clause-cells
make_ahead-requires-clause-cells c =
    let t = c.args.self.now in let b = c.args.cells.now.present in
    subst (λ (a : Automata). c.args.k - c.ends-first.result.0 + 1 ≤ length (looked_at a.window b)) (sym c.serve.ensures.known.machine)
    (subst (λ first. c.args.k - first + 1 ≤ length (looked_at t.machine.window b))
    (sym (c.ends-first.ensures.first ∙ ap (λ (a : Automata). first_looked a.window) c.serve.ensures.known.machine))
    (ahead_count b t c.args.k c.requires.hulls))

pub make_behind-requires-clause-cells : goal.make_behind-requires-clause-cells
make_behind-requires-clause-cells c =
    let t = c.args.self.now in let b = c.args.cells.now.present in
    let last_is = c.ends-first.ensures.last ∙ ap (λ (a : Automata). last_looked a.window (length b)) c.serve.ensures.known.machine in
    subst (λ (a : Automata). c.ends-first.result.1 - c.args.k + 1 ≤ length (looked_at a.window b))
    (sym (c.make_ahead.ensures.known.machine ∙ c.serve.ensures.known.machine))
    (subst (λ last. last - c.args.k + 1 ≤ length (looked_at t.machine.window b)) (sym last_is)
    (behind_count b t c.args.k c.requires.hulls (subst (λ last. c.args.k < last) last_is c.if-k-last.true)))

use Rattle.std.proofs.Common.{ap, ◌∙◌, length, arith}
use Rattle.ts_bound.specs.Looks.{last_looked}
use Rattle.ts_bound.specs.TermSpans.{Automata}
use Rattle.ts_filter.specs.Question.{Excludes}
use Rattle.ts_filter.proofs.EarlyCells.{far_enough, none_of_all}
use Rattle.ts_filter.proofs.SoundLaws.{clash}
use Rattle.ts_filter.proofs.box_tables.BoxTables.first_excluded.Goals as goal

pub returns-clause-found : goal.returns-clause-found
returns-clause-found c =
    let a = c.args.self.now.machine in let b = c.args.cells.now.present in
    let last = c.ends-first.ensures.last ∙ ap (λ (x : Automata). last_looked x.window (length b)) c.excluded_before.ensures.known.machine in
    none_of_all a (Excludes c.args.asked) b c.requires.looks c.loop-p.p c.cells.result c.loop-p.invariant.1 c.cells.ensures.count
    (λ e. clash c.is_plain.result (c.is_plain.ensures.1 e) c.if-is_plain.false)
    (far_enough c.loop-p.p c.end_of_walk-end.result c.cells.result c.ends-first.result.1 _ (omega (arith, c.loop-p-test.false)) last
    c.end_of_walk-end.ensures.far)

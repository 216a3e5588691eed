use Rattle.std.proofs.Common.{◌≡◌, ◌↔◌, false, Some}
use Rattle.std.specs.Prelude.{IsTrue}
use Rattle.std.proofs.lemmas.Result.{IfOk-weaker}
use Rattle.ts_bound.specs.Looks.{first_looked}
use Rattle.ts_bound.specs.TermSpans.{term_span}
use Rattle.ts_filter.specs.FirstCell.{IsFirstCell, NoneBefore}
use Rattle.ts_filter.specs.Question.{Excludes}
use Rattle.ts_filter.proofs.EarlyCells.{first_by_last, none_by_last}
use Rattle.ts_filter.proofs.box_tables.BoxTables.excluded_before.Goals as goal

pub returns-clause-first : goal.returns-clause-first
returns-clause-first c =
    let a = c.args.self.now.machine in let b = c.args.cells.now.present in
    IfOk-weaker c.excluded_at.result (λ told. IsTrue told ↔ Excludes c.args.asked (term_span a c.ends-first.result.1 b))
    (λ told. IsTrue told → IsFirstCell a (Excludes c.args.asked) b (Some 1))
    (λ told h so. first_by_last a (Excludes c.args.asked) b c.requires.looks c.ends-first.result.0 c.ends-first.result.1 c.ends-first.ensures.first
    c.ends-first.ensures.last c.if-first-eq1.false c.requires.split (h.0 so))
    c.excluded_at.ensures.answered

pub returns-clause-none : goal.returns-clause-none
returns-clause-none c =
    let a = c.args.self.now.machine in let b = c.args.cells.now.present in
    IfOk-weaker c.excluded_at.result (λ told. IsTrue told ↔ Excludes c.args.asked (term_span a c.ends-first.result.1 b))
    (λ told. told ≡ false → NoneBefore a (Excludes c.args.asked) b (first_looked a.window))
    (λ told h isnt. none_by_last a (Excludes c.args.asked) b c.requires.looks c.ends-first.result.1 told c.ends-first.ensures.last isnt h)
    c.excluded_at.ensures.answered

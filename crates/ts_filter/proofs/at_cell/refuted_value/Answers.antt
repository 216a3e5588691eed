use Rattle.std.proofs.Common.{◌↔◌, ℤ, IsTrue, subst, w64}
use Rattle.std.specs.Prelude.{IfOk}
use Rattle.std.proofs.lemmas.Int.{to_z-of_z}
use Rattle.ts_bound.specs.TermSpans.{Automata, term_span}
use Rattle.ts_filter.specs.Boxes.{only}
use Rattle.ts_filter.specs.Excluded.{Refutes}
use Rattle.ts_filter.proofs.at_cell.refuted_value.Goals as goal

pub value_excluded_at-requires-clause-known : goal.value_excluded_at-requires-clause-known
value_excluded_at-requires-clause-known c = c.new.ensures.known _

pub returns : goal.returns
returns c =
    let b = c.args.cells.now.present in let k = c.args.k in let r = c.args.r.now in
    subst (λ (a : Automata). IfOk c.value_excluded_at.result (λ told. IsTrue told ↔ Refutes r.op r.bound (term_span a k (only k c.args.v b))))
    c.new.ensures.machine
    (subst (λ (v : ℤ). IfOk c.value_excluded_at.result (λ told. IsTrue told ↔ Refutes r.op r.bound (term_span c.new.result.machine k (only k v b))))
    (to_z-of_z w64 c.args.v c.ranges.v) c.value_excluded_at.ensures.answered)

use Rattle.std.proofs.Common.{rules, pos, arith, w64, to_z, of_z, ◌≤ℤ◌, sym, subst}
use Rattle.std.proofs.lemmas.Int.{ints, to_z-of_z}
use Rattle.ts_search.proofs.FreeValues.{all_let, is_so, let_next, let_none, up_to_both}
use Rattle.ts_search.proofs.sparing.WitnessesSpares.tell.Goals as goal

pub loop-i-init : goal.loop-i-init
loop-i-init c = (
  search rules,
  let_none c.args.requirements.now c.args.cells.now.present c.args.self.now c.args.term c.args.k (to_z w64 (of_z w64 c.args.v)) (pos 9223372036854775807),
)

pub loop-i-preserved : goal.loop-i-preserved
loop-i-preserved c =
    let to_is = to_z-of_z w64 c.loop-i.to (search rules) in
    let one_is = to_z-of_z w64 c.tell_by_one-one.result.to (search rules) in
    let less_is = to_z-of_z w64 c.min-to.result (search rules) in
    let v_is = to_z-of_z w64 c.args.v c.ranges.v in
    let least = c.min-to.ensures in
    let one = c.tell_by_one-one.ensures.to in let to = c.loop-i.invariant.0 in (
      subst (λ z. to_z w64 (of_z w64 c.args.v) ≤ℤ z) (sym less_is)
          (up_to_both (to_z w64 (of_z w64 c.args.v)) (to_z w64 c.loop-i.to-bits) (to_z w64 (of_z w64 c.tell_by_one-one.result.to)) c.min-to.result
          least.value to (subst (λ z. to_z w64 (of_z w64 c.args.v) ≤ℤ z) (sym one_is) one)),
      let_next c.args.requirements.now c.args.cells.now.present c.args.self.now c.args.term c.args.k (to_z w64 (of_z w64 c.args.v))
          (to_z w64 c.loop-i.to-bits)
          c.tell_by_one-one.result.to (to_z w64 (of_z w64 c.min-to.result)) c.loop-i.i
          (omega (arith, ints, least, to_is, one_is, less_is)) (omega (arith, ints, least, to_is, one_is, less_is)) c.loop-i.invariant.1
          (c.tell_by_one-one.ensures.free (is_so c.tell_by_one-one.result.free c.if-not-one.false)),
    )

pub returns-clause-free : goal.returns-clause-free
returns-clause-free c = λ t s h x from up.
    let to_is = to_z-of_z w64 c.loop-i.to (search rules) in
    let v_is = to_z-of_z w64 c.args.v c.ranges.v in
    all_let c.args.requirements.now c.args.cells.now.present c.args.self.now c.args.term c.args.k (to_z w64 (of_z w64 c.args.v))
    (to_z w64 c.loop-i.to-bits) c.loop-i.i
    c.loop-i.invariant.1 (omega (arith, c.loop-i-test.false)) s h x (omega (arith, ints, from, v_is)) (omega (arith, ints, up, to_is))

use Rattle.std.proofs.Common.{◌≡◌, inl, inr, ◌<◌, ◌≤ℤ◌, ℕ, ℤ, Bool, cond, get_or, nat_eq, not, true, false, int_lt, w64, to_z, of_z, sym, ap, subst, ◌∙◌}
use Rattle.std.specs.Int.{int_max, int_min}
use Rattle.std.proofs.lemmas.Int.{to_z-of_z}
use denote.Param.{number, value_of}
use Rattle.ts_hull.specs.Sweeps.{compares}
use Rattle.ts_sweep.specs.declared.packed.Name.TheVariants.{R}
use Rattle.ts_sweep.specs.Lanes.{some_lanes}
use Rattle.ts_sweep.specs.Packed.{name_ends}
use Rattle.ts_sweep.specs.Sides.{as_read}
use Rattle.ts_sweep.specs.Small.{IsSmall}
use Rattle.ts_sweep.specs.Spreads.{Falls, apart, lesser, top}
use Rattle.ts_sweep.specs.Sweeps.{step_place}
use Rattle.ts_sweep.proofs.SpreadWalks.{not_less, walk_begun, walk_more, walk_end, walk_rest}
use Rattle.ts_sweep.proofs.spread.walked.Goals.{then-loop-found-test+else-may_give, else-loop-found-test}
use Rattle.ts_sweep.proofs.spread.walked.Goals as goal

pub loop-found-init : goal.loop-found-init
loop-found-init g c = (walk_begun _ _ _ _ c.first_step-k.result c.first_step-k.ensures, c.count-n.ensures, c.reach_of-reach.ensures)

pub loop-found-preserved : goal.loop-found-preserved
loop-found-preserved g c =
    let up = (not (nat_eq (value_of (number g.row.UP)) 0)) in
    let lanes = g.H.Packed.lanes in
    let s = g.H.Packed.sides in
    let w = to_z w64 (of_z w64 c.args.w) in
    let f = to_z w64 c.loop-found.found-bits in
    let value = g.V.Values.value c.args.values in
    let lane : ℕ → ℤ = λ i. lesser (not (nat_eq (value_of (number g.row.ABOVE)) 0)) c.args.bounded
    (some_lanes (lanes (get_or c.args.before.now i g.H.Hull.none)))
    (name_ends (as_read s (lanes (get_or c.args.before.now i g.H.Hull.none))) R) (value i) w in
    let is = c.loop-found.invariant in
    let less = c.may_give.ensures.inside c.if-may_give.true in (
      walk_more up (λ i. compares c.args.letter c.args.twin (value i) w) lane (g.V.Values.len c.args.values) c.loop-found.k f _ is.0
          (subst (λ n. c.loop-found.k < n) is.1 less)
          (to_z-of_z w64 c.with_given-found.result (record { sfits = c.with_given-found.type_inv }) ∙ c.with_given-found.ensures
          ∙ ap (λ i. cond (compares c.args.letter c.args.twin (value i) w) (int_max f (lane i)) f)
          (c.step_place-i.ensures.value ∙ ap (λ n. step_place up n c.loop-found.k) is.1)),
      is.1,
      is.2,
    )

pub returns : goal.returns
returns g c =
    let up = (not (nat_eq (value_of (number g.row.UP)) 0)) in
    let above = (not (nat_eq (value_of (number g.row.ABOVE)) 0)) in
    let lanes = g.H.Packed.lanes in
    let s = g.H.Packed.sides in
    let w = to_z w64 (of_z w64 c.args.w) in
    let f = to_z w64 c.loop-found.found-bits in
    let n = g.V.Values.len c.args.values in
    let k = c.loop-found.k in
    let value = g.V.Values.value c.args.values in
    let test : ℕ → Bool = λ i. compares c.args.letter c.args.twin (value i) w in
    let lane : ℕ → ℤ = λ i. lesser above c.args.bounded (some_lanes (lanes (get_or c.args.before.now i g.H.Hull.none)))
    (name_ends (as_read s (lanes (get_or c.args.before.now i g.H.Hull.none))) R) (value i) w in
    let is = c.loop-found.invariant in
    let same = to_z-of_z w64 c.args.w c.ranges.w in
    let most_is = to_z-of_z w64 c.args.most c.ranges.most in
    to_z-of_z w64 c.min.result (record { sfits = c.min.type_inv }) ∙ c.min.ensures.value ∙ ap (int_min f) most_is
    ∙ walk_end up test lane n k f c.args.most is.0 (elim c.loop-found-test.branch [
      | then-loop-found-test+else-may_give b ↦ inr (walk_rest above up c.args.bounded c.args.letter c.args.twin w value n k
          (λ i. some_lanes (lanes (get_or c.args.before.now i g.H.Hull.none)))
          (λ i. name_ends (as_read s (lanes (get_or c.args.before.now i g.H.Hull.none))) R) f
          (subst (Falls above up c.args.letter c.args.twin) (sym same) c.requires.falls)
          (λ i j lt inside. g.met.V.Values.rises c.args.values c.requires.ok i j lt inside)
          (λ i lt. g.met.V.Values.is_small c.args.values c.requires.ok i lt) (subst IsSmall (sym same) c.requires.next)
          (λ lt. subst (λ z. compares c.args.letter c.args.twin (value (step_place up z k)) w ≡ true) is.1
          (b.may_give.ensures.reached b.if-may_give.false (subst (λ z. k < z) (sym is.1) lt)))
          (λ lt. subst (λ z. apart above (value (step_place up z k)) w ≤ℤ f) is.1
          (b.may_give.ensures.more b.if-may_give.false (subst (λ z. k < z) (sym is.1) lt))))
      | else-loop-found-test b ↦ inl (not_less f c.args.most (subst (λ z. int_lt f z ≡ false) most_is b.loop-found-test.false))
    ])
    ∙ ap (λ z. int_min (top above c.args.bounded c.args.letter c.args.twin n (λ i. some_lanes (lanes (get_or c.args.before.now i g.H.Hull.none)))
    (λ i. name_ends (as_read s (lanes (get_or c.args.before.now i g.H.Hull.none))) R) value z) c.args.most) same

use Rattle.std.proofs.Common.{◌≡◌, Bool, cond, get_or, ℤ, sym, ap, ◌∙◌}
use Rattle.ts_automaton.specs.declared.regs.Hull.{Hull}
use Rattle.ts_hull.specs.Hulls.{hull_of_both, none}
use Rattle.ts_hull.specs.Sealed.{after_move}
use Rattle.ts_hull.specs.Sweeps.{compares}
use Rattle.ts_sweep.specs.Packed.{unpacked}
use Rattle.ts_sweep.specs.PackedLaws.{packed_takes_none}
use Rattle.ts_sweep.specs.PairMoves.{reaches}
use Rattle.ts_sweep.specs.Sides.{seen_hull}
use Rattle.ts_sweep.proofs.PairLaws.{reach_compares}
use Rattle.ts_sweep.proofs.PairSteps.{as_both_passed}
use Rattle.ts_sweep.proofs.RunSteps.{as_passed}
use Rattle.ts_sweep.proofs.SeenLaws.{none_seen}
use Rattle.ts_sweep.proofs.pairs.with_moved.Goals as goal

pub returns-then-reaches-clause-value : goal.returns-then-reaches-clause-value
returns-then-reaches-clause-value g c =
    let lanes = g.H.Packed.lanes in
    let m = g.M.PairMove.made c.args.by in
    let joined : Hull → ℤ → ℤ → Hull = λ h x y. hull_of_both (unpacked (lanes c.args.all)) (seen_hull g.H.Packed.sides (after_move m h x y)) in
    let at : ℤ = g.V.Values.value c.args.values c.args.i in
    as_both_passed (λ x y. unpacked (lanes c.with_pair.result) ≡ joined (unpacked (lanes c.hull_of.result)) x y) c.at-v.result c.args.w
    c.at-v.ensures.small c.requires.next c.with_pair.ensures.value
    ∙ ap (λ h. joined (unpacked (lanes h)) c.at-v.result c.args.w) c.hull_of.ensures
    ∙ ap (λ v. joined (unpacked (lanes (get_or c.args.before.now c.args.i g.H.Hull.none))) v c.args.w) c.at-v.ensures.value
    ∙ ap (λ b. hull_of_both (unpacked (lanes c.args.all)) (seen_hull g.H.Packed.sides
    (cond b (after_move m (unpacked (lanes (get_or c.args.before.now c.args.i g.H.Hull.none))) at c.args.w) none)))
    (sym c.if-reaches.true
    ∙ as_passed (λ v. c.reaches.result ≡ reaches c.args.reach v) c.at-v.result c.at-v.ensures.small c.reaches.ensures
    ∙ ap (λ r. reaches r c.at-v.result) c.requires.reach
    ∙ reach_compares c.args.letter c.args.twin c.at-v.result c.args.w c.at-v.ensures.small
    ∙ ap (λ v. compares c.args.letter c.args.twin v c.args.w) c.at-v.ensures.value)

pub returns-else-reaches-clause-value : goal.returns-else-reaches-clause-value
returns-else-reaches-clause-value g c =
    let lanes = g.H.Packed.lanes in
    let m = g.M.PairMove.made c.args.by in
    let at : ℤ = g.V.Values.value c.args.values c.args.i in
    sym (packed_takes_none g.H.Packed.count (lanes c.args.all) c.requires.registers c.requires.all)
    ∙ ap (hull_of_both (unpacked (lanes c.args.all))) (sym (none_seen g.H.Packed.sides))
    ∙ ap (λ b. hull_of_both (unpacked (lanes c.args.all)) (seen_hull g.H.Packed.sides
    (cond b (after_move m (unpacked (lanes (get_or c.args.before.now c.args.i g.H.Hull.none))) at c.args.w) none)))
    (sym c.if-reaches.false
    ∙ as_passed (λ v. c.reaches.result ≡ reaches c.args.reach v) c.at-v.result c.at-v.ensures.small c.reaches.ensures
    ∙ ap (λ r. reaches r c.at-v.result) c.requires.reach
    ∙ reach_compares c.args.letter c.args.twin c.at-v.result c.args.w c.at-v.ensures.small
    ∙ ap (λ v. compares c.args.letter c.args.twin v c.args.w) c.at-v.ensures.value)

use Rattle.std.proofs.Common.{◌≡◌, ℕ, get_or, ap, ◌∙◌, rules, arith}
use Rattle.ts_sweep.specs.declared.cover.Cover.{Cover}
use Rattle.ts_sweep.specs.declared.packed.PackedHull.{PackedHull}
use Rattle.ts_sweep.specs.Covers.{bound_ends, cover_ends, join_of, nothing_of, turned_hull}
use Rattle.ts_sweep.specs.MoveLaws.{by_names}
use Rattle.ts_sweep.specs.Packed.{ends_in, place}
use Rattle.ts_sweep.specs.Sides.{as_read, lane_count, lanes_in, sides}
use Rattle.ts_sweep.proofs.CoverLaws.{bounded}
use Rattle.ts_sweep.proofs.CoverSteps.{covers_nothing, covers_more, covers_all}
use Rattle.ts_sweep.proofs.cover.cover_of.Goals as goal

pub loop-i-init : goal.loop-i-init
loop-i-init g c = record {
  all = covers_nothing _ _ _ _ c.nothing-all.ensures;
  turned = λ not. covers_nothing _ _ _ _ c.nothing-turned.ensures;
  long = search rules;
}

pub loop-i-preserved : goal.loop-i-preserved
loop-i-preserved g c =
    let n = g.row.N in
    record {
      all = covers_more _ _ _ _ _ _ c.loop-i.invariant.all (c.joined-all.ensures ∙ ap (join_of n c.loop-i.all) c.hull-h.ensures);
      turned = λ not. covers_more _ _ _ _ _ _ (c.loop-i.invariant.turned not)
          (c.with_turned-turned.ensures not ∙ ap (λ (h : PackedHull n). join_of n c.loop-i.turned (turned_hull n h)) c.hull-h.ensures);
      long = search rules;
    }

pub returns : goal.returns
returns g c =
    let n = g.row.N in
    let s = sides n in
    let m = lane_count n in
    let f : ℕ → PackedHull n = λ i. get_or (g.C.Column.hulls c.args.from c.args.row.now) i (nothing_of n) in
    let made : Cover = record {
      c = c.bound.result;
      e = c.bound-2.result;
      d = c.bound-3.result;
      f = c.bound-4.result;
      r = c.bound-5.result;
    } in
    λ packed i lt some. bounded n f c.args.count c.loop-i.all c.loop-i.turned made c.requires.registers
    (covers_all _ _ _ _ _ _ c.loop-i.invariant.all (omega arith))
    (λ not. covers_all _ _ _ _ _ _ (c.loop-i.invariant.turned not) (omega arith)) c.loop-i.invariant.long
    (by_names (λ k. cover_ends made k ≡ bound_ends s (ends_in (as_read s (lanes_in n c.loop-i.all.at)) (place m k))
    (ends_in (as_read s (lanes_in n c.loop-i.turned.at)) (place m k)))
    c.bound.ensures c.bound-2.ensures c.bound-3.ensures c.bound-4.ensures c.bound-5.ensures) packed i lt some

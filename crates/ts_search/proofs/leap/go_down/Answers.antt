use Rattle.std.proofs.Common.{rules, ◌∙◌, ap, arith, length, refl}
use Rattle.std.proofs.lemmas.Int.{to_z-of_z}
use mir.Syntax.{w64}
use Rattle.ts_search.specs.Views.{search_of}
use Rattle.ts_search.proofs.CodeLeaps.{down_first, down_next, longer, low_stays, lowest, next_below, one_less_tried, part_below, single_before, tried_next}
use Rattle.ts_search.proofs.leap.go_down.Goals as goal

pub loop-i-init : goal.loop-i-init
loop-i-init c = record {
  machines = refl;
  deep = ap length c.requires.first;
  down = down_first c.args.below.now c.requires.first;
  from = omega arith;
  before = tt;
  tried = tt;
}

pub returns-in_default-clause-tried : goal.returns-in_default-clause-tried
returns-in_default-clause-tried c =
    one_less_tried (search_of c.args.problem.now) c.loop-i.i c.saturating_sub.result c.args.below.now.present c.saturating_sub.ensures c.loop-i.invariant.tried

pub bring_tables-requires : goal.bring_tables-requires
bring_tables-requires c =
    let b = c.args.below.now.present in
    record {
      asked = record {
        posed = c.requires.asked.posed;
        part = part_below b c.loop-i.below.present c.loop-i.i (lowest b c.loop-i.below c.loop-i.invariant.down c.loop-i.i c.loop-i.invariant.deep)
            (search_of c.args.problem.now).model.cells c.requires.asked.part;
        tables = c.loop-i.invariant.machines ∙ c.requires.asked.tables;
      };
    }

pub keep_low-requires-clause-stays : goal.keep_low-requires-clause-stays
keep_low-requires-clause-stays c =
    let b = c.args.below.now.present in
    low_stays c.loop-i.below.present c.in-Some.halving.cell c.in-Some.halving.at _ (to_z-of_z w64 c.in-Some.halving.at (search rules))
    (part_below b c.loop-i.below.present c.loop-i.i (lowest b c.loop-i.below c.loop-i.invariant.down c.loop-i.i c.loop-i.invariant.deep)
    (search_of c.args.problem.now).model.cells c.requires.asked.part).box c.in-Some.ensures

pub loop-i-preserved : goal.loop-i-preserved
loop-i-preserved c =
    let b = c.args.below.now.present in
    let w = c.loop-i.below in
    let k = c.in-Some.halving.cell in
    let t = c.in-Some.halving.at in
    let is = lowest b w c.loop-i.invariant.down c.loop-i.i c.loop-i.invariant.deep in
    let new = c.keep_low.new.self in
    let low = ap (λ z. z.present) c.in_ok-keep_low.ensures.ok in
    let trail = ap (λ z. z.earlier) c.in_ok-keep_low.ensures.ok in
    record {
      machines = ap (λ z. z.machines) c.takes_free_values.ensures.same ∙ c.bring_tables.ensures.machines ∙ c.loop-i.invariant.machines;
      deep = longer b w c.loop-i.invariant.down new trail c.loop-i.i c.loop-i.invariant.deep;
      down = down_next b w c.loop-i.invariant.down new trail c.loop-i.i c.loop-i.invariant.deep
          (next_below b w.present c.loop-i.i is new.present k t _ (to_z-of_z w64 t (search rules)) c.in-Some.ensures low);
      from = c.in-Some.ensures.cell.0;
      before = single_before w.present new.present k t _ c.in-Some.ensures low;
      tried = tried_next b w.present c.loop-i.i is (search_of c.args.problem.now) k t c.in-Some.ensures
          (c.in_ok-takes_free_values.ensures.free c.if-not-branch.false) c.loop-i.invariant.tried;
    }

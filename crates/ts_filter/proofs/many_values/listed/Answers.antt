use mir.Val.{SFits}
use Rattle.std.proofs.Common.{◌≡◌, ◌+◌, ℕ, ℤ, pos, drop, get_or, length, w64, sym, ap, ◌∙◌, arith, rules}
use Rattle.std.proofs.lemmas.Int.{to_z-of_z}
use Rattle.std.proofs.lemmas.List.{length-set}
use Rattle.std.proofs.lemmas.Option.{get_or_from_slice_get}
use Rattle.ts_glue.proofs.Calls.{filled_more}
use Rattle.ts_filter.proofs.CellLaws.{walk_step, walk_end}
use Rattle.ts_filter.proofs.many_values.listed.Goals as goal
use Rattle.ts_filter.proofs.many_values.listed.Goals.{in-Some, in_default}

pub loop-i-preserved : goal.loop-i-preserved
loop-i-preserved c =
    let from = c.args.from in let i = c.loop-i.i in let all = c.args.values.now in
    let below = c.loop-i-test.true in let few = c.requires.few in let inside = c.requires.inside in
    let long = c.loop-i.invariant.0 in
    elim c.match-next.branch [
      | in-Some w ↦
          let v = w.in-Some.v in let fits : SFits w64 v = search rules in let stored = to_z-of_z w64 v fits in
          let step = walk_step all (from + i) v c.next.new.self (sym c.loop-i.invariant.2 ∙ w.in-Some.ensures.steps) in
          let next : (from + i) + 1 ≡ from + (i + 1) = omega arith in (
            ap length w.listed-is ∙ length-set c.loop-i.listed i _ ∙ long,
            λ j lt. (ap (λ l. get_or l j (pos 0)) w.listed-is ∙
                filled_more (λ (k : ℕ) (x : ℤ). x ≡ get_or all (from + k) (pos 0)) c.loop-i.listed i _ (pos 0) (omega (arith, long, few, below))
                c.loop-i.invariant.1 (stored ∙ sym (get_or_from_slice_get all (from + i) v (pos 0) step.1)) j lt),
            step.2 ∙ ap (λ n. drop n all) next,
          )
      | in_default w ↦
          let end = walk_end all (from + i) (sym c.loop-i.invariant.2 ∙ w.in_default.ensures.steps.0) in absurd (omega (arith, end, below, inside))
    ]

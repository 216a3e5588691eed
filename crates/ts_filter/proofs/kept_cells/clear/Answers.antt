use Rattle.std.proofs.Common.{◌≡◌, ◌<◌, ◌∙◌, length, get_or, slice_set, ap, subst, sym, refl, arith}
use Rattle.std.proofs.lemmas.List.{get_or_default}
use Rattle.ts_filter.specs.KeptCells.{below_all}
use Rattle.ts_filter.proofs.SparedLaws.{all_mapped, mapped_count, next_mapped}
use Rattle.ts_filter.proofs.kept_cells.clear.Goals as goal

pub loop-i-preserved : goal.loop-i-preserved
loop-i-preserved c =
    let all = c.args.marks.now in let now = c.loop-i.marks in let i = c.loop-i.i in
    let count : length now ≡ length all = ap length c.loop-i.invariant ∙ mapped_count (λ limit. below_all) i all in
    let there : i < length now = subst (λ n. i < n) (sym count) c.loop-i-test.true in
    next_mapped (λ limit. below_all) i all now (slice_set now i below_all) (get_or now i below_all) below_all c.loop-i.invariant c.loop-i-test.true
    (get_or_default now i below_all (get_or now i below_all) there) refl refl

pub returns : goal.returns
returns c =
    c.loop-i.invariant ∙ all_mapped (λ limit. below_all) c.loop-i.i c.args.marks.now (let over = c.loop-i-test.false in omega (arith, over))

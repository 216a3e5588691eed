use Rattle.std.proofs.Common.{pos, neg_ℤ, length, sym, ap, ◌∙◌, subst}
use Rattle.ts_domain.specs.Union.{InSome, LowsRise}
use Rattle.ts_domain.proofs.Unions.{sorted_rise, sorted_same, written_back, length-sorted}
use Rattle.ts_domain.proofs.merge.sorted_ranges.Goals as goal

pub returns-clause-sorted : goal.returns-clause-sorted
returns-clause-sorted c =
    let back = written_back c.args.ranges.items c.sort_unstable.new.self _ c.args.ranges.ok.0 (c.sort_unstable.ensures.len
    ∙ ap length c.as_mut_slice.ensures.value) in
    subst (LowsRise (neg_ℤ (pos 1000000))) (sym back)
    (sorted_rise c.args.ranges.items _ c.sort_unstable.new.self c.requires c.as_mut_slice.ensures.value c.sort_unstable.ensures.permutation
    c.sort_unstable.ensures.sorted)

pub returns-clause-same : goal.returns-clause-same
returns-clause-same c v =
    let back = written_back c.args.ranges.items c.sort_unstable.new.self _ c.args.ranges.ok.0 (c.sort_unstable.ensures.len
    ∙ ap length c.as_mut_slice.ensures.value) in
    let same = sorted_same c.args.ranges.items _ c.sort_unstable.new.self v c.as_mut_slice.ensures.value c.sort_unstable.ensures.permutation in
    (λ h. same.0 (subst (λ l. InSome l v) back h), λ h. subst (λ l. InSome l v) (sym back) (same.1 h))

pub returns-clause-len : goal.returns-clause-len
returns-clause-len c =
    ap length (written_back c.args.ranges.items c.sort_unstable.new.self _ c.args.ranges.ok.0
    (c.sort_unstable.ensures.len ∙ ap length c.as_mut_slice.ensures.value)) ∙
    length-sorted c.args.ranges.items _ c.sort_unstable.new.self c.as_mut_slice.ensures.value c.sort_unstable.ensures.permutation

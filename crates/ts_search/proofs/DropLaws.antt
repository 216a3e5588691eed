-- The next drop is the least that may be made; drops end where none is possible, and keep boxes.
use Rattle.std.proofs.Common.{◌≡◌, ℕ, zero, suc, ◌+◌, ◌-◌, ◌≤◌, ℤ, [], length, Option, Some, None, option_map, unwrap_or, refl, arith}
use Rattle.std.proofs.lemmas.List.Sums.{sum_by-set}
use Rattle.ts_domain.specs.BoxSeries.{IsBox}
use Rattle.ts_domain.specs.Kept.{values_without}
use Rattle.ts_domain.proofs.BoxLaws.{length-without}
use Rattle.ts_model.specs.ModelParts.{ModelParts, total_of}
use Rattle.ts_filter.specs.Boxes.{Box, values_at, without, IsPart}
use Rattle.ts_filter.specs.RefutedWorseDrop.{Spans, IsDrop}
use Rattle.ts_filter.proofs.BoxParts.{place, domain_at, without_part, others_stay, inside_length, box_total}
use Rattle.ts_filter.specs.declared.drops.Removal.{Removal}
use Rattle.ts_search.specs.Drops.{next_drop, drops, after_drops}
use Rattle.ts_search.proofs.Choice.{DropFits, drop_fits}

module _ (m : ModelParts) (s : Spans) where
  pub drop_part : (k : ℕ) (v : ℤ) (j : ℕ) (b : Box) (all : Box) → IsPart b all → IsDrop m.requirements s k v j b → IsPart (without k v b) all
  drop_part k v j b all i d = without_part k v b all i d.cell (others_stay k v b i.box d.cell d.many d.there)

  drop_total : (k : ℕ) (v : ℤ) (j : ℕ) (b : Box) → IsBox b → IsDrop m.requirements s k v j b → total_of (without k v b) + 1 ≤ total_of b
  drop_total k v j b i d =
      let values = values_at k b in
      omega (
        arith,
        sum_by-set (length {A = ℤ}) b (k - 1) (values_without v values) [] (place k b d.cell),
        length-without v values (domain_at b (k - 1) i (place k b d.cell)).rising d.there,
      )

  -- what each drop keeps, drops keep
  keep_on : (P : Box → Type 0) (n : ℕ) (b : Box) → P b → ((r : Removal) → IsDrop m.requirements s r.cell r.value r.require b →
      P (drops m s n (without r.cell r.value b))) →
      (o : Option Removal) → DropFits m s b o → P (unwrap_or (option_map (λ r. drops m s n (without r.cell r.value b)) o) b)
  keep_on P n b h g None d = h
  keep_on P n b h g (Some r) d = g r d

  pub drops_keep : (P : Box → Type 0) →
      ((r : Removal) (b : Box) → IsDrop m.requirements s r.cell r.value r.require b → P b → P (without r.cell r.value b)) →
      (n : ℕ) (b : Box) → P b → P (drops m s n b)
  drops_keep P g zero b h = h
  drops_keep P g (suc n) b h =
      keep_on P n b h (λ r d. drops_keep P g n (without r.cell r.value b) (g r b d h)) (next_drop m s b) (drop_fits m s b)

  pub dropped_part : (all b : Box) → IsPart b all → IsPart (after_drops m s b) all
  dropped_part all b h =
      drops_keep (λ d. IsPart d all) (λ r d a k. drop_part r.cell r.value r.require d all k a) (total_of b) b h

  -- after as many drops as a box has values, none is left
  none_left : (all b : Box) → IsPart b all → total_of b ≤ length b → (o : Option Removal) → DropFits m s b o → o ≡ None
  none_left all b i l None d = refl
  none_left all b i l (Some r) d =
      let less = drop_total r.cell r.value r.require b i.box d in
      let after = drop_part r.cell r.value r.require b all i d in
      absurd (omega (
        arith,
        l,
        less,
        box_total (without r.cell r.value b) after.box,
        inside_length (without r.cell r.value b) all after.inside,
        inside_length b all i.inside,
      ))

  end_on : (n : ℕ) (b : Box) →
      ((r : Removal) → IsDrop m.requirements s r.cell r.value r.require b → next_drop m s (drops m s n (without r.cell r.value b)) ≡ None) →
      (o : Option Removal) → next_drop m s b ≡ o → DropFits m s b o →
      next_drop m s (unwrap_or (option_map (λ r. drops m s n (without r.cell r.value b)) o) b) ≡ None
  end_on n b g None e d = e
  end_on n b g (Some r) e d = g r d

  drops_done : (all : Box) (n : ℕ) (b : Box) → IsPart b all → total_of b ≤ n + length b → next_drop m s (drops m s n b) ≡ None
  drops_done all zero b i l = none_left all b i (omega (arith, l)) (next_drop m s b) (drop_fits m s b)
  drops_done all (suc n) b i l =
      end_on n b (λ r d. drops_done all n (without r.cell r.value b) (drop_part r.cell r.value r.require b all i d) (few r d)) (next_drop m s b) refl
      (drop_fits m s b)
    where
      few : (r : Removal) → IsDrop m.requirements s r.cell r.value r.require b → total_of (without r.cell r.value b) ≤ n + length (without r.cell r.value b)
      few r d =
          let after = drop_part r.cell r.value r.require b all i d in
          omega (
            arith,
            l,
            drop_total r.cell r.value r.require b i.box d,
            inside_length (without r.cell r.value b) all after.inside,
            inside_length b all i.inside,
          )

  pub dropped_done : (all b : Box) → IsPart b all → next_drop m s (after_drops m s b) ≡ None
  dropped_done all b i = drops_done all (total_of b) b i (omega arith)

-- Joining ranges that come by rising low ends: what is done and what is left have the numbers of all of them.
use Rattle.std.proofs.Common.{◌≡◌, ℕ, zero, suc, ◌+◌, ◌<◌, ◌≤◌, ℤ, pos, neg_ℤ, ◌+ℤ◌, ◌≤ℤ◌, ◌<ℤ◌, ◌⊎◌, inl, inr, ◌↔◌, List, [], ◌∷◌, ◌++◌, length, get_or, drop, sym, ap, ◌∙◌, subst, arith}
use Rattle.std.proofs.lemmas.Int.{ints, by_lt_z, to_z-of_z}
use mir.Val.{SFits, to_z, of_z}
use mir.Syntax.{w64}
use Rattle.std.specs.Prelude.{Contains}
use Rattle.std.specs.Int.{int_max}
use Rattle.ts_domain.specs.declared.interval.Interval.{Interval}
use Rattle.ts_domain.specs.Values.{values_of, RangesFrom, AreRanges}
use Rattle.ts_domain.specs.Union.{InSome, LowsRise}
use Rattle.ts_domain.proofs.Ranges.{value_in_some, some_has_value}
use Rattle.ts_domain.proofs.Places.{small_fits}
use Rattle.ts_domain.proofs.Unions.{rises_from, last_range, last_grown, one_more_range, in_append, in_left, in_right}
use Rattle.ts_domain.proofs.PieceReads.{off}

-- the ranges done stand apart, the last of them may still grow, and the next one begins no earlier than it does
pub record Joining (sorted done : List Interval) (last : Interval) (i : ℕ) : Type 0 where
  pub rest : LowsRise last.low (drop i sorted)
  pub apart : RangesFrom (neg_ℤ (pos 1000000)) (done ++ last ∷ [])
  pub same : (v : ℤ) → (InSome (done ++ last ∷ []) v ⊎ InSome (drop i sorted) v) ↔ InSome sorted v

pub joining_none : (sorted done : List Interval) (d : Interval) → 0 < length sorted → LowsRise (neg_ℤ (pos 1000000)) sorted → done ≡ [] →
    Joining sorted done (get_or sorted 0 d) 0
unfolding LowsRise RangesFrom InSome
joining_none [] done d h a e = absurd (omega (arith, h))
joining_none (r ∷ rs) done d h a e = record {
  rest = (omega (arith, ints), a.1, a.2, a.3);
  apart = subst (λ l. RangesFrom (neg_ℤ (pos 1000000)) (l ++ r ∷ [])) (sym e) (a.0, a.1, a.2, tt);
  same = λ v. (λ w. elim w [ inl p ↦ first_has r rs v (subst (λ l. InSome (l ++ r ∷ []) v) e p) | inr q ↦ q ], λ q. inr q);
}
  where
    first_has : (r : Interval) (rs : List Interval) (v : ℤ) → ((r.low ≤ℤ v) × (v ≤ℤ r.high)) ⊎ ⊥ → ((r.low ≤ℤ v) × (v ≤ℤ r.high)) ⊎ InSome rs v
    first_has r rs v p = elim p [ inl here ↦ inl here | inr never ↦ absurd never ]

next_rises : (f : ℤ) (r : Interval) (rs ds : List Interval) → ds ≡ r ∷ rs → LowsRise f ds →
    (f ≤ℤ r.low) × (r.low ≤ℤ r.high) × (r.high ≤ℤ pos 1000000) × LowsRise r.low rs
unfolding LowsRise
next_rises f r rs ds e a = subst (LowsRise f) e a

in_one : (r : Interval) (v : ℤ) → r.low ≤ℤ v → v ≤ℤ r.high → InSome (r ∷ []) v
unfolding InSome
in_one r v from to = inl (from, to)

one_in : (r : Interval) (v : ℤ) → InSome (r ∷ []) v → (r.low ≤ℤ v) × (v ≤ℤ r.high)
unfolding InSome
one_in r v h = elim h [ inl here ↦ here | inr never ↦ absurd never ]

in_next : (r : Interval) (rs : List Interval) (v : ℤ) → InSome (r ∷ rs) v → ((r.low ≤ℤ v) × (v ≤ℤ r.high)) ⊎ InSome rs v
unfolding InSome
in_next r rs v h = h

next_in : (r : Interval) (rs : List Interval) (v : ℤ) → ((r.low ≤ℤ v) × (v ≤ℤ r.high)) ⊎ InSome rs v → InSome (r ∷ rs) v
unfolding InSome
next_in r rs v h = h

-- no gap lies before the next range: the last one grows
grown_numbers : (done : List Interval) (last next grown : Interval) (rest : List Interval) (v : ℤ) → grown.low ≡ last.low →
    grown.high ≡ int_max last.high next.high → last.low ≤ℤ next.low → next.low ≤ℤ (last.high +ℤ pos 1) →
    (InSome (done ++ grown ∷ []) v ⊎ InSome rest v) ↔ (InSome (done ++ last ∷ []) v ⊎ InSome (next ∷ rest) v)
grown_numbers done last next grown rest v low high from touch = (
  λ w. elim w [
    | inl p ↦ elim (in_append done (grown ∷ []) v p) [ inl a ↦ inl (in_left done (last ∷ []) v a) | inr b ↦ old (one_in grown v b) ]
    | inr q
        ↦ inr (next_in next rest v (inr q))
  ],
  λ w. elim w [
    | inl p ↦ inl (elim (in_append done (last ∷ []) v p) [
      | inl a ↦ in_left done (grown ∷ []) v a
      | inr b ↦ in_right done (grown ∷ []) v
          (new_last (one_in last v b))
    ])
    | inr q ↦ elim (in_next next rest v q) [ inl here ↦ inl (in_right done (grown ∷ []) v (new_next here)) | inr there ↦ inr there ]
  ],
)
  where
    in_max : (a b m w : ℤ) → m ≡ int_max a b → w ≤ℤ m → a <ℤ w → w ≤ℤ b
    in_max a b m w e h k = grind (arith, ints)

    left_max : (a b m w : ℤ) → m ≡ int_max a b → w ≤ℤ a → w ≤ℤ m
    left_max a b m w e h = grind (arith, ints)

    right_max : (a b m w : ℤ) → m ≡ int_max a b → w ≤ℤ b → w ≤ℤ m
    right_max a b m w e h = grind (arith, ints)

    old : (grown.low ≤ℤ v) × (v ≤ℤ grown.high) → InSome (done ++ last ∷ []) v ⊎ InSome (next ∷ rest) v
    old b = by_lt_z last.high v (λ beyond. inr (next_in next rest v
        (inl (omega (arith, ints, touch, beyond), in_max last.high next.high grown.high v high b.1 beyond))))
        (λ within. inl (in_right done (last ∷ []) v (in_one last v (omega (arith, ints, b.0, low)) within)))

    new_last : (last.low ≤ℤ v) × (v ≤ℤ last.high) → InSome (grown ∷ []) v
    new_last b = in_one grown v (omega (arith, ints, b.0, low)) (left_max last.high next.high grown.high v high b.1)

    new_next : (next.low ≤ℤ v) × (v ≤ℤ next.high) → InSome (grown ∷ []) v
    new_next b = in_one grown v (omega (arith, ints, b.0, low, from)) (right_max last.high next.high grown.high v high b.1)

pub joining_grown : (sorted done done' : List Interval) (last grown : Interval) (i : ℕ) (d : Interval) → i < length sorted →
    Joining sorted done last i → (get_or sorted i d).low ≤ℤ (last.high +ℤ pos 1) →
    done' ≡ done → grown.low ≡ last.low → grown.high ≡ int_max last.high (get_or sorted i d).high → Joining sorted done' grown (i + 1)
joining_grown sorted done done' last grown i d h j touch kept low high =
    let next = get_or sorted i d in let rest = drop (i + 1) sorted in
    let left = off sorted i d h in let r = next_rises last.low next rest (drop i sorted) left j.rest in
    let l = last_range (neg_ℤ (pos 1000000)) done last j.apart in
    subst (λ x. Joining sorted x grown (i + 1)) (sym kept) (record {
      rest = rises_from grown.low next.low rest (omega (arith, ints, low, r.0)) r.3;
      apart = last_grown (neg_ℤ (pos 1000000)) done last grown j.apart (sym low)
          (ordered last.low last.high next.high grown.low grown.high low high l.1) (within last.high next.high grown.high high l.2 r.2);
      same = λ v. let g = grown_numbers done last next grown rest v low high r.0 touch in let s = j.same v in (
        λ w. s.0 (subst (λ l. InSome (done ++ last ∷ []) v ⊎ InSome l v) (sym left) (g.0 w)),
        λ w. g.1
            (subst (λ l. InSome (done ++ last ∷ []) v ⊎ InSome l v) left (s.1 w)),
      );
    })
  where
    ordered : (a b c l m : ℤ) → l ≡ a → m ≡ int_max b c → a ≤ℤ b → l ≤ℤ m
    ordered a b c l m e f h = grind (arith, ints)

    within : (a b m : ℤ) → m ≡ int_max a b → a ≤ℤ pos 1000000 → b ≤ℤ pos 1000000 → m ≤ℤ pos 1000000
    within a b m e h k = grind (arith, ints)

-- a gap lies before it: it is the last one now
pub joining_more : (sorted done done' : List Interval) (last next : Interval) (i : ℕ) (d : Interval) → i < length sorted → Joining sorted done last i →
    (last.high +ℤ pos 1) <ℤ (get_or sorted i d).low →
    done' ≡ done ++ last ∷ [] → next ≡ get_or sorted i d → Joining sorted done' next (i + 1)
joining_more sorted done done' last next i d h j gap grown is =
    let rest = drop (i + 1) sorted in let left = off sorted i d h ∙ ap (λ r. r ∷ rest) (sym is) in
    let r = next_rises last.low next rest (drop i sorted) left j.rest in let apart = subst (λ x. (last.high +ℤ pos 1) <ℤ x.low) (sym is) gap in
    subst (λ x. Joining sorted x next (i + 1)) (sym grown) (record {
      rest = r.3;
      apart = one_more_range (neg_ℤ (pos 1000000)) done last next j.apart (omega (arith, ints, apart)) r.1 r.2;
      same = λ v. let s = j.same v in (
        λ w. s.0 (elim w [
          | inl p ↦ elim (in_append (done ++ last ∷ []) (next ∷ []) v p)
              [ inl a ↦ inl a | inr b ↦ inr (subst (λ l. InSome l v) (sym left) (next_in next rest v (inl (one_in next v b)))) ]
          | inr q ↦ inr
              (subst (λ l. InSome l v) (sym left) (next_in next rest v (inr q)))
        ]),
        λ w. elim (s.1 w) [
          | inl a ↦ inl (in_left (done ++ last ∷ []) (next ∷ []) v a)
          | inr q ↦ left_over v
              (in_next next rest v (subst (λ l. InSome l v) left q))
        ],
      );
    })
  where
    left_over : (v : ℤ) → ((next.low ≤ℤ v) × (v ≤ℤ next.high)) ⊎ InSome (drop (i + 1) sorted) v →
        InSome ((done ++ last ∷ []) ++ next ∷ []) v ⊎ InSome (drop (i + 1) sorted) v
    left_over v w = elim w [ inl here ↦ inl (in_right (done ++ last ∷ []) (next ∷ []) v (in_one next v here.0 here.1)) | inr there ↦ inr there ]

none_left : (sorted : List Interval) (i : ℕ) (v : ℤ) → length sorted ≤ i → InSome (drop i sorted) v → ⊥
unfolding InSome
none_left [] zero v h s = s
none_left [] (suc i) v h s = s
none_left (r ∷ rs) zero v h s = omega (arith, h)
none_left (r ∷ rs) (suc i) v h s = none_left rs i v (omega (arith, h)) s

some_range : (done : List Interval) (last : Interval) → done ++ last ∷ [] ≡ [] → ⊥
some_range [] last e = cc
some_range (r ∷ rs) last e = cc

pub joined_ranges : (sorted done all : List Interval) (last : Interval) (i : ℕ) → Joining sorted done last i → all ≡ done ++ last ∷ [] → AreRanges all
joined_ranges sorted done all last i j e = subst AreRanges (sym e) (record { apart = j.apart; some = some_range done last })

pub joined_numbers : (sorted done all : List Interval) (last : Interval) (i : ℕ) → Joining sorted done last i → all ≡ done ++ last ∷ [] →
    length sorted ≤ i → (v : ℤ) → Contains (values_of all) v ↔ InSome sorted v
joined_numbers sorted done all last i j e past v =
    let are = joined_ranges sorted done all last i j e in (
      λ has. (j.same v).0 (inl (subst (λ l. InSome l v) e (value_in_some (neg_ℤ (pos 1000000)) all v are.apart has))),
      λ some. some_has_value all v (subst (λ l. InSome l v) (sym e)
          (elim ((j.same v).1 some) [ inl here ↦ here | inr left ↦ absurd (none_left sorted i v past left) ])),
    )

-- the bounds of the next range and of the last one, so that machine numbers hold them
pub next_within : (sorted done : List Interval) (last : Interval) (i : ℕ) (d : Interval) → Joining sorted done last i → i < length sorted →
    (neg_ℤ (pos 1000000) ≤ℤ (get_or sorted i d).low) × ((get_or sorted i d).low ≤ℤ pos 1000000) × (neg_ℤ (pos 1000000) ≤ℤ (get_or sorted i d).high) ×
    ((get_or sorted i d).high ≤ℤ pos 1000000)
next_within sorted done last i d j h =
    let l = last_range (neg_ℤ (pos 1000000)) done last j.apart in
    let r = next_rises last.low (get_or sorted i d) (drop (i + 1) sorted) (drop i sorted) (off sorted i d h) j.rest in
    (omega (arith, ints, l.0, r.0), omega (arith, ints, r.1, r.2), omega (arith, ints, l.0, r.0, r.1), r.2)

pub max_is : (a b m h : ℤ) → neg_ℤ (pos 1000000) ≤ℤ a → a ≤ℤ pos 1000000 → neg_ℤ (pos 1000000) ≤ℤ b → b ≤ℤ pos 1000000 → SFits w64 m →
    m ≡ int_max (to_z w64 (of_z w64 a)) (to_z w64 (of_z w64 b)) → h ≡ to_z w64 (of_z w64 m) → h ≡ int_max a b
max_is a b m h a0 a1 b0 b1 fits e f =
    f ∙ to_z-of_z w64 m fits ∙ e ∙ ap (λ x. int_max x (to_z w64 (of_z w64 b))) (to_z-of_z w64 a (small_fits a a0 a1))
    ∙ ap (int_max a) (to_z-of_z w64 b (small_fits b b0 b1))

pub last_within : (sorted done : List Interval) (last : Interval) (i : ℕ) → Joining sorted done last i →
    (neg_ℤ (pos 1000000) ≤ℤ last.high) × (last.high ≤ℤ pos 1000000)
last_within sorted done last i j = let l = last_range (neg_ℤ (pos 1000000)) done last j.apart in (omega (arith, ints, l.0, l.1), l.2)

-- A box with other values in one cell: its series, its values, and that it lies inside.
use Rattle.std.proofs.Common.{◌≡◌, ◌⊎◌, ℕ, zero, suc, ◌+◌, ◌-◌, ◌<◌, ◌≤◌, ℤ, pos, ◌≤ℤ◌, ◌<ℤ◌, int_le, int_lt, int_eq, not, take, List, [], ◌∷◌, length, get_or, set, refl, sym, ◌∙◌, ap, subst, inl, inr, ⊎_elim, arith}
use Rattle.std.proofs.lemmas.Int.{ints}
use Rattle.std.proofs.lemmas.List.Sums.{sum_by-cons}
use Rattle.std.specs.Prelude.{Contains}
use Rattle.std.specs.List.{AllByRecursion}
use Rattle.ts_domain.specs.BoxSeries.{InBox, IsBefore, IsBox, series_count}
use Rattle.ts_domain.specs.Kept.{values_up_to, values_above, values_without}
use Rattle.ts_domain.specs.Values.{IsRising, IsDomain, WithinLimits}
use Rattle.ts_domain.proofs.Sets.{contains_cons, each_contains}
use Rattle.ts_domain.proofs.BoxLaws.{contains_up_to, contains_above, contains_without, in_box_at, in_box_set, from_box_set, domain_filter, length-sides, length-without, series_count-split}
use Rattle.ts_model.specs.ModelParts.{total_of}
use Rattle.ts_filter.specs.Laws.{SplitCutsInTwo, DropLeavesOthers}
use Rattle.ts_filter.specs.Boxes.{Box, HasCell, values_at, with_values, low_side, high_side, without, only, box_of, IsInside, IsPart}

-- the place of a cell
pub place : (k : ℕ) (b : Box) → HasCell k b → k - 1 < length b
place k b c = omega (arith, c.0, c.1)

-- the series of the sides

pub to_low : (k : ℕ) (t : ℤ) (b : Box) (x : List ℤ) → HasCell k b → InBox x b → get_or x (k - 1) (pos 0) ≤ℤ t → InBox x (low_side k t b)
to_low k t b x c h l =
    in_box_set x b (k - 1) (values_up_to t (values_at k b)) h
    ((contains_up_to t (values_at k b) (get_or x (k - 1) (pos 0))).1 (in_box_at x b (k - 1) h (place k b c), l))

pub to_high : (k : ℕ) (t : ℤ) (b : Box) (x : List ℤ) → HasCell k b → InBox x b → t <ℤ get_or x (k - 1) (pos 0) → InBox x (high_side k t b)
to_high k t b x c h l =
    in_box_set x b (k - 1) (values_above t (values_at k b)) h
    ((contains_above t (values_at k b) (get_or x (k - 1) (pos 0))).1 (in_box_at x b (k - 1) h (place k b c), l))

pub to_without : (k : ℕ) (v : ℤ) (b : Box) (x : List ℤ) → HasCell k b → InBox x b → (get_or x (k - 1) (pos 0) ≡ v → ⊥) → InBox x (without k v b)
to_without k v b x c h l =
    in_box_set x b (k - 1) (values_without v (values_at k b)) h
    ((contains_without v (values_at k b) (get_or x (k - 1) (pos 0))).1 (in_box_at x b (k - 1) h (place k b c), l))

pub to_only : (k : ℕ) (v : ℤ) (b : Box) (x : List ℤ) → InBox x b → get_or x (k - 1) (pos 0) ≡ v → InBox x (only k v b)
to_only k v b x h e = in_box_set x b (k - 1) (v ∷ []) h ((contains_cons v [] (get_or x (k - 1) (pos 0))).1 (inl (sym e)))

pub from_low : (k : ℕ) (t : ℤ) (b : Box) (x : List ℤ) → HasCell k b → InBox x (low_side k t b) → InBox x b × (get_or x (k - 1) (pos 0) ≤ℤ t)
from_low k t b x c h =
    let d = values_at k b in
    let r = from_box_set x b (k - 1) (values_up_to t d) (place k b c) h (λ v g. ((contains_up_to t d v).0 g).0) in
    (r.0, ((contains_up_to t d (get_or x (k - 1) (pos 0))).0 r.1).1)

pub from_high : (k : ℕ) (t : ℤ) (b : Box) (x : List ℤ) → HasCell k b → InBox x (high_side k t b) → InBox x b × (t <ℤ get_or x (k - 1) (pos 0))
from_high k t b x c h =
    let d = values_at k b in
    let r = from_box_set x b (k - 1) (values_above t d) (place k b c) h (λ v g. ((contains_above t d v).0 g).0) in
    (r.0, ((contains_above t d (get_or x (k - 1) (pos 0))).0 r.1).1)

pub from_without : (k : ℕ) (v : ℤ) (b : Box) (x : List ℤ) → HasCell k b → InBox x (without k v b) → InBox x b × (get_or x (k - 1) (pos 0) ≡ v → ⊥)
from_without k v b x c h =
    let d = values_at k b in
    let r = from_box_set x b (k - 1) (values_without v d) (place k b c) h (λ u g. ((contains_without v d u).0 g).0) in
    (r.0, ((contains_without v d (get_or x (k - 1) (pos 0))).0 r.1).1)

pub at_most_or_above : (v t : ℤ) → (v ≤ℤ t) ⊎ (t <ℤ v)
at_most_or_above v t = grind (arith, ints)

same_or_other : (u v : ℤ) → (u ≡ v) ⊎ (u ≡ v → ⊥)
same_or_other u v = grind (arith, ints)

pub in_a_side : (k : ℕ) (t : ℤ) (b : Box) (x : List ℤ) → HasCell k b → InBox x b → InBox x (low_side k t b) ⊎ InBox x (high_side k t b)
in_a_side k t b x c h =
    ⊎_elim (λ l. inl (to_low k t b x c h l)) (λ l. inr (to_high k t b x c h l)) (at_most_or_above (get_or x (k - 1) (pos 0)) t)

pub only_or_without : (k : ℕ) (v : ℤ) (b : Box) (x : List ℤ) → HasCell k b → InBox x b → InBox x (only k v b) ⊎ InBox x (without k v b)
only_or_without k v b x c h =
    ⊎_elim (λ e. inl (to_only k v b x h e)) (λ n. inr (to_without k v b x c h n)) (same_or_other (get_or x (k - 1) (pos 0)) v)

-- what lies inside

pub inside_self : (b : Box) → IsInside b b
inside_self [] = tt
inside_self (d ∷ b) = ((λ v h. h), inside_self b)

pub inside_length : (b m : Box) → IsInside b m → length b ≡ length m
inside_length [] [] h = refl
inside_length [] (e ∷ m) h = absurd h
inside_length (d ∷ b) [] h = absurd h
inside_length (d ∷ b) (e ∷ m) h = ap suc (inside_length b m h.1)

pub in_box_inside : (b m : Box) (x : List ℤ) → IsInside b m → InBox x b → InBox x m
in_box_inside [] [] x i h = h
in_box_inside [] (e ∷ m) x i h = absurd i
in_box_inside (d ∷ b) [] x i h = absurd i
in_box_inside (d ∷ b) (e ∷ m) [] i h = absurd h
in_box_inside (d ∷ b) (e ∷ m) (v ∷ x) i h = (i.0 v h.0, in_box_inside b m x i.1 h.1)

inside_set : (b m : Box) (i : ℕ) (d : List ℤ) → IsInside b m → i < length b → ((v : ℤ) → Contains d v → Contains (get_or b i []) v) → IsInside (set b i d) m
inside_set [] m i d h l f = absurd (omega (arith, l))
inside_set (c ∷ b) [] i d h l f = absurd h
inside_set (c ∷ b) (e ∷ m) zero d h l f = ((λ v g. h.0 v (f v g)), h.1)
inside_set (c ∷ b) (e ∷ m) (suc i) d h l f = (h.0, inside_set b m i d h.1 (omega (arith, l)) f)

box_set : (b : Box) (i : ℕ) (d : List ℤ) → IsBox b → IsDomain d → IsBox (set b i d)
box_set [] i d h g = tt
box_set (c ∷ b) zero d h g = (g, h.1)
box_set (c ∷ b) (suc i) d h g = (h.0, box_set b i d h.1 g)

pub domain_at : (b : Box) (i : ℕ) → IsBox b → i < length b → IsDomain (get_or b i [])
domain_at [] i h l = absurd (omega (arith, l))
domain_at (d ∷ b) zero h l = h.0
domain_at (d ∷ b) (suc i) h l = domain_at b i h.1 (omega (arith, l))

part_set : (b m : Box) (k : ℕ) (d : List ℤ) → IsPart b m → HasCell k b → IsDomain d → ((v : ℤ) → Contains d v → Contains (values_at k b) v) →
    IsPart (with_values k d b) m
part_set b m k d h c g f = record { box = box_set b (k - 1) d h.box g; inside = inside_set b m (k - 1) d h.inside (place k b c) f }

one_domain : (d : List ℤ) (v : ℤ) → IsDomain d → Contains d v → IsDomain (v ∷ [])
unfolding IsRising
one_domain d v h c = record {
  rising = (tt, tt);
  some = λ e. some_none v e;
  within = (each_contains WithinLimits d v h.within c, tt);
}
  where
    some_none : (v : ℤ) → v ∷ [] ≡ [] → ⊥
    some_none v e = cc

pub low_part : (k : ℕ) (t : ℤ) (b m : Box) → IsPart b m → HasCell k b → (values_up_to t (values_at k b) ≡ [] → ⊥) → IsPart (low_side k t b) m
low_part k t b m h c some =
    let d = values_at k b in
    part_set b m k (values_up_to t d) h c (domain_filter (λ v. int_le v t) d (domain_at b (k - 1) h.box (place k b c)) some)
    (λ v g. ((contains_up_to t d v).0 g).0)

pub high_part : (k : ℕ) (t : ℤ) (b m : Box) → IsPart b m → HasCell k b → (values_above t (values_at k b) ≡ [] → ⊥) → IsPart (high_side k t b) m
high_part k t b m h c some =
    let d = values_at k b in
    part_set b m k (values_above t d) h c (domain_filter (λ v. int_lt t v) d (domain_at b (k - 1) h.box (place k b c)) some)
    (λ v g. ((contains_above t d v).0 g).0)

pub without_part : (k : ℕ) (u : ℤ) (b m : Box) → IsPart b m → HasCell k b → (values_without u (values_at k b) ≡ [] → ⊥) → IsPart (without k u b) m
without_part k u b m h c some =
    let d = values_at k b in
    part_set b m k (values_without u d) h c (domain_filter (λ v. not (int_eq v u)) d (domain_at b (k - 1) h.box (place k b c)) some)
    (λ v g. ((contains_without u d v).0 g).0)

pub only_part : (k : ℕ) (u : ℤ) (b m : Box) → IsPart b m → HasCell k b → Contains (values_at k b) u → IsPart (only k u b) m
only_part k u b m h c has =
    let d = values_at k b in
    part_set b m k (u ∷ []) h c (one_domain d u (domain_at b (k - 1) h.box (place k b c)) has) (λ v g. one_of v ((contains_cons u [] v).0 g))
  where
    one_of : (v : ℤ) → (u ≡ v) ⊎ Contains [] v → Contains (values_at k b) v
    one_of v (inl e) = subst (λ z. Contains (values_at k b) z) e has
    one_of v (inr n) = absurd (omega (arith, n.1))

-- another value stays
pub others_stay : (k : ℕ) (u : ℤ) (b : Box) → IsBox b → HasCell k b → 2 ≤ length (values_at k b) → Contains (values_at k b) u →
    values_without u (values_at k b) ≡ [] → ⊥
others_stay k u b h c many has none =
    let d = values_at k b in
    omega (arith, many, length-without u d (domain_at b (k - 1) h (place k b c)).rising has, ap (length {A = ℤ}) none)

pub part_self : (m : Box) → IsBox m → IsPart m m
part_self m h = record { box = h; inside = inside_self m }

-- the one series of the box of a series alone
pub only_series : (x y : List ℤ) → InBox y (box_of x) → y ≡ x
only_series [] [] h = refl
only_series [] (v ∷ y) h = absurd h
only_series (u ∷ x) [] h = absurd h
only_series (u ∷ x) (v ∷ y) h = first ((contains_cons u [] v).0 h.0) (only_series x y h.1)
  where
    first : (u ≡ v) ⊎ Contains [] v → y ≡ x → v ∷ y ≡ u ∷ x
    first (inl e) f = cc
    first (inr n) f = absurd (omega (arith, n.1))

-- how many values and series

some_length : (d : List ℤ) → (d ≡ [] → ⊥) → 1 ≤ length d
some_length [] some = absurd (some refl)
some_length (v ∷ d) some = omega arith

total_set : (b : Box) (i : ℕ) (d : List ℤ) → i < length b → total_of (set b i d) + length (get_or b i []) ≡ total_of b + length d
total_set [] i d l = absurd (omega (arith, l))
total_set (c ∷ b) zero d l = omega (arith, sum_by-cons (length {A = ℤ}) d b, sum_by-cons (length {A = ℤ}) c b)
total_set (c ∷ b) (suc i) d l =
    omega (arith, total_set b i d (omega (arith, l)), sum_by-cons (length {A = ℤ}) c (set b i d), sum_by-cons (length {A = ℤ}) c b)

pub box_total : (b : Box) → IsBox b → length b ≤ total_of b
box_total [] h = omega arith
box_total (d ∷ b) h = omega (arith, some_length d h.0.some, box_total b h.1, sum_by-cons (length {A = ℤ}) d b)

-- each side of a split has fewer values, by at least one; a drop has one less
pub low_total : (k : ℕ) (t : ℤ) (b : Box) → HasCell k b → (values_above t (values_at k b) ≡ [] → ⊥) → total_of (low_side k t b) + 1 ≤ total_of b
low_total k t b c some =
    let d = values_at k b in
    omega (arith, total_set b (k - 1) (values_up_to t d) (place k b c), length-sides t d, some_length (values_above t d) some)

pub high_total : (k : ℕ) (t : ℤ) (b : Box) → HasCell k b → total_of (high_side k t b) ≤ total_of b
high_total k t b c =
    let d = values_at k b in omega (arith, total_set b (k - 1) (values_above t d) (place k b c), length-sides t d)

pub without_total : (k : ℕ) (u : ℤ) (b : Box) → IsBox b → HasCell k b → Contains (values_at k b) u → total_of (without k u b) ≤ total_of b
without_total k u b h c has =
    let d = values_at k b in
    omega (arith, total_set b (k - 1) (values_without u d) (place k b c), length-without u d (domain_at b (k - 1) h (place k b c)).rising has)

pub sides_count : (k : ℕ) (t : ℤ) (b : Box) → HasCell k b → series_count (low_side k t b) + series_count (high_side k t b) ≡ series_count b
sides_count k t b c =
    let d = values_at k b in series_count-split b (k - 1) (values_up_to t d) (values_above t d) (place k b c) (length-sides t d)

pub drop_count : (k : ℕ) (u : ℤ) (b : Box) → IsBox b → HasCell k b → Contains (values_at k b) u →
    series_count (only k u b) + series_count (without k u b) ≡ series_count b
drop_count k u b h c has =
    let d = values_at k b in
    series_count-split b (k - 1) (u ∷ []) (values_without u d) (place k b c)
    (omega (arith, length-without u d (domain_at b (k - 1) h (place k b c)).rising has))

-- the lower side first

one_in : (d : List ℤ) (u v : ℤ) → length d ≡ 1 → Contains d u → Contains d v → u ≡ v
one_in [] u v l p q = absurd (omega (arith, l))
one_in (w ∷ []) u v l p q = both ((contains_cons w [] u).0 p) ((contains_cons w [] v).0 q)
  where
    both : (w ≡ u) ⊎ Contains [] u → (w ≡ v) ⊎ Contains [] v → u ≡ v
    both (inl e) (inl f) = sym e ∙ f
    both (inl e) (inr n) = absurd (omega (arith, n.1))
    both (inr n) f = absurd (omega (arith, n.1))
one_in (w ∷ z ∷ d) u v l p q = absurd (omega (arith, l))

before_at : (b : Box) (i : ℕ) (x y : List ℤ) → InBox x b → InBox y b → i < length b → AllByRecursion (λ d. length d ≡ 1) (take i b) →
    get_or x i (pos 0) <ℤ get_or y i (pos 0) → IsBefore x y
before_at [] i x y p q l s g = absurd (omega (arith, l))
before_at (d ∷ b) i [] y p q l s g = absurd p
before_at (d ∷ b) i (u ∷ x) [] p q l s g = absurd q
before_at (d ∷ b) zero (u ∷ x) (v ∷ y) p q l s g = inl g
before_at (d ∷ b) (suc i) (u ∷ x) (v ∷ y) p q l s g = inr (one_in d u v s.0 p.0 q.0, before_at b i x y p.1 q.1 (omega (arith, l)) s.1 g)

pub lower_first : (k : ℕ) (t : ℤ) (b : Box) (x y : List ℤ) → HasCell k b → AllByRecursion (λ d. length d ≡ 1) (take (k - 1) b) →
    InBox x (low_side k t b) → InBox y (high_side k t b) → IsBefore x y
lower_first k t b x y c s p q =
    let f = from_low k t b x c p in
    let g = from_high k t b y c q in
    before_at b (k - 1) x y f.0 g.0 (place k b c) s (between (get_or x (k - 1) (pos 0)) t (get_or y (k - 1) (pos 0)) f.1 g.1)
  where
    between : (a t c : ℤ) → a ≤ℤ t → t <ℤ c → a <ℤ c
    between a t c p q = omega (arith, ints, p, q)

pub split_cuts_in_two : SplitCutsInTwo
split_cuts_in_two k t b c = record {
  between = λ x h. in_a_side k t b x c h;
  below = λ x h. (from_low k t b x c h).0;
  above = λ x h. (from_high k t b x c h).0;
  apart = λ x p q. never (get_or x (k - 1) (pos 0)) (from_low k t b x c p).1 (from_high k t b x c q).1;
}
  where
    never : (v : ℤ) → v ≤ℤ t → t <ℤ v → ⊥
    never v p q = omega (arith, ints, p, q)

pub drop_leaves_others : DropLeavesOthers
drop_leaves_others k v b x c = (λ h. from_without k v b x c h, λ h. to_without k v b x c h.0 h.1)

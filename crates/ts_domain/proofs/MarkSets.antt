-- The numbers of a set that differs from another one at marks: which they are, that they rise, and how many.
use Rattle.std.proofs.Common.{◌≡◌, ℤ, pos, ◌+ℤ◌, ◌≤ℤ◌, ◌<ℤ◌, ◌⊎◌, inl, inr, ◌↔◌, Bool, true, false, cond, Option, None, Some, List, [], ◌∷◌, ◌++◌}
use Rattle.std.proofs.Common.{refl, sym, ap, subst, arith}
use Rattle.std.proofs.lemmas.Int.{ints, by_lt_z}
use Rattle.std.proofs.lemmas.Bool.Decides.{Decides-int_eq}
use Rattle.std.proofs.lemmas.List.Elements.{Contains-append_cases, Contains-append_left, Contains-append_right}
use Rattle.std.specs.Prelude.{filter, int_lt, Contains, MatchOption}
use Rattle.std.specs.Ordering.{int_eq}
use Rattle.std.specs.List.{AllByRecursion}
use Rattle.ts_domain.specs.declared.marks.Mark.{Mark}
use Rattle.ts_domain.specs.Marks.{mark_at, MarksFrom, numbers, own}
use Rattle.ts_domain.specs.Values.{IsRising}
use Rattle.ts_domain.proofs.Sets.{contains_cons, contains_filter, nothing_in, rising_filter, rising_append, each_from, true_lt, lt_true}
use Rattle.ts_domain.proofs.MarkLaws.{mark_map, no_mark_at, all_from}

abbrev below : Mark → List ℤ → List ℤ
below m all = filter (λ v. int_lt v m.value) all

abbrev over : Mark → List ℤ → List ℤ
over m all = filter (λ v. int_lt m.value v) all

-- a number is there by the set, or by what its mark says
abbrev pub IsThere : List ℤ → Option Bool → ℤ → Type 0
IsThere all o v = MatchOption o (Contains all v) (λ gone. gone ≡ false)

in_below : (m : Mark) (all : List ℤ) (v : ℤ) → Contains (below m all) v → Contains all v × (v <ℤ m.value)
in_below m all v h = let f = (contains_filter (λ v. int_lt v m.value) all v).0 h in (f.0, true_lt v m.value f.1)

in_over : (m : Mark) (all : List ℤ) (v : ℤ) → Contains (over m all) v → Contains all v × (m.value <ℤ v)
in_over m all v h = let f = (contains_filter (λ v. int_lt m.value v) all v).0 h in (f.0, true_lt m.value v f.1)

to_below : (m : Mark) (all : List ℤ) (v : ℤ) → Contains all v → v <ℤ m.value → Contains (below m all) v
to_below m all v h lt = (contains_filter (λ v. int_lt v m.value) all v).1 (h, lt_true v m.value lt)

to_over : (m : Mark) (all : List ℤ) (v : ℤ) → Contains all v → m.value <ℤ v → Contains (over m all) v
to_over m all v h lt = (contains_filter (λ v. int_lt m.value v) all v).1 (h, lt_true m.value v lt)

in_own : (m : Mark) (v : ℤ) → Contains (own m) v → (v ≡ m.value) × (m.gone ≡ false)
in_own m v = by_test m.gone refl
  where
    by_test : (b : Bool) → m.gone ≡ b → Contains (cond b [] (m.value ∷ [])) v → (v ≡ m.value) × (m.gone ≡ false)
    by_test true e h = absurd (nothing_in v h)
    by_test false e h = elim ((contains_cons m.value [] v).0 h) [ inl s ↦ (sym s, e) | inr t ↦ absurd (nothing_in v t) ]

to_own : (m : Mark) (v : ℤ) → v ≡ m.value → m.gone ≡ false → Contains (own m) v
to_own m v e g = subst (λ b. Contains (cond b [] (m.value ∷ [])) v) (sym g) ((contains_cons m.value [] v).1 (inl (sym e)))

-- a number of the whole lies in one of its three parts
pub three_parts : (m : Mark) (all : List ℤ) (ms : List Mark) (v : ℤ) → Contains (numbers all (m ∷ ms)) v →
    ((Contains all v × (v <ℤ m.value)) ⊎ ((v ≡ m.value) × (m.gone ≡ false))) ⊎ Contains (numbers (over m all) ms) v
unfolding numbers
three_parts m all ms v h = elim (Contains-append_cases (below m all ++ own m) (numbers (over m all) ms) v h) [
  | inl first ↦ elim (Contains-append_cases (below m all) (own m) v first)
      [ inl low ↦ inl (inl (in_below m all v low)) | inr here ↦ inl (inr (in_own m v here)) ]
  | inr later ↦ inr later
]

pub part_below : (m : Mark) (all : List ℤ) (ms : List Mark) (v : ℤ) → Contains all v → v <ℤ m.value → Contains (numbers all (m ∷ ms)) v
unfolding numbers
part_below m all ms v h lt =
    Contains-append_left (below m all ++ own m) (numbers (over m all) ms) v (Contains-append_left (below m all) (own m) v (to_below m all v h lt))

pub part_here : (m : Mark) (all : List ℤ) (ms : List Mark) (v : ℤ) → v ≡ m.value → m.gone ≡ false → Contains (numbers all (m ∷ ms)) v
unfolding numbers
part_here m all ms v e g =
    Contains-append_left (below m all ++ own m) (numbers (over m all) ms) v (Contains-append_right (below m all) (own m) v (to_own m v e g))

pub part_over : (m : Mark) (all : List ℤ) (ms : List Mark) (v : ℤ) → Contains (numbers (over m all) ms) v → Contains (numbers all (m ∷ ms)) v
unfolding numbers
part_over m all ms v h = Contains-append_right (below m all ++ own m) (numbers (over m all) ms) v h

-- the mark at a number, of a first mark and the later ones
at_below : (f : ℤ) (m : Mark) (ms : List Mark) (v : ℤ) → MarksFrom f (m ∷ ms) → v <ℤ m.value → mark_at v (m ∷ ms) ≡ None
unfolding MarksFrom
at_below f m ms v h lt = no_mark_at v (m ∷ ms) (
  lt,
  mark_map (λ y. (m.value +ℤ pos 1) ≤ℤ y.value) (λ y. v <ℤ y.value) (λ y le. omega (arith, ints, le, lt)) ms
      (all_from (m.value +ℤ pos 1) ms h.2),
)

at_here : (m : Mark) (ms : List Mark) (v : ℤ) → v ≡ m.value → mark_at v (m ∷ ms) ≡ Some m.gone
unfolding mark_at
at_here m ms v e = ap (λ b. cond b (Some m.gone) (mark_at v ms)) ((Decides-int_eq m.value v).1 (sym e))

at_over : (m : Mark) (ms : List Mark) (v : ℤ) → m.value <ℤ v → mark_at v (m ∷ ms) ≡ mark_at v ms
unfolding mark_at
at_over m ms v lt = ap (λ b. cond b (Some m.gone) (mark_at v ms)) (differ m.value v lt)
  where
    differ : (a b : ℤ) → a <ℤ b → int_eq a b ≡ false
    differ a b lt = grind (arith, ints)

there_over : (m : Mark) (all : List ℤ) (o : Option Bool) (v : ℤ) → m.value <ℤ v → IsThere (over m all) o v ↔ IsThere all o v
there_over m all None v lt = (λ h. (in_over m all v h).0, λ h. to_over m all v h lt)
there_over m all (Some gone) v lt = (λ h. h, λ h. h)

no_later : (m : Mark) (all : List ℤ) (ms : List Mark) (v : ℤ) → MarksFrom (m.value +ℤ pos 1) ms → v ≤ℤ m.value →
    (Contains (numbers (over m all) ms) v ↔ IsThere (over m all) (mark_at v ms) v) → Contains (numbers (over m all) ms) v → ⊥
no_later m all ms v h le later has =
    let none = no_mark_at v ms (mark_map (λ y. (m.value +ℤ pos 1) ≤ℤ y.value) (λ y. v <ℤ y.value) (λ y k. omega (arith, ints, k, le)) ms
    (all_from (m.value +ℤ pos 1) ms h)) in
    let found : Contains (over m all) v = subst (λ o. IsThere (over m all) o v) none (later.0 has) in
    let lt = (in_over m all v found).1 in absurd (omega (arith, ints, lt, le))

-- which numbers they are
pub contains_numbers : (f : ℤ) (all : List ℤ) (ms : List Mark) (v : ℤ) → MarksFrom f ms → Contains (numbers all ms) v ↔ IsThere all (mark_at v ms) v
unfolding MarksFrom numbers mark_at
contains_numbers f all [] v h = (λ k. k, λ k. k)
contains_numbers f all (m ∷ ms) v h =
    let later = contains_numbers (m.value +ℤ pos 1) (over m all) ms v h.2 in
    by_lt_z v m.value (λ lt. low later lt) (λ ge. by_lt_z m.value v (λ lt. high later lt) (λ le. here later (omega (arith, ints, ge, le))))
  where
    low : (Contains (numbers (over m all) ms) v ↔ IsThere (over m all) (mark_at v ms) v) → v <ℤ m.value →
        Contains (numbers all (m ∷ ms)) v ↔ IsThere all (mark_at v (m ∷ ms)) v
    low later lt = subst (λ o. Contains (numbers all (m ∷ ms)) v ↔ IsThere all o v) (sym (at_below f m ms v h lt)) (
      λ has. elim (three_parts m all ms v has) [
        | inl first ↦ elim first [ inl a ↦ a.0 | inr b ↦ let e = b.0 in absurd (omega (arith, ints, e, lt)) ]
        | inr third ↦ absurd (no_later m all ms v h.2 (omega (arith, ints, lt)) later third)
      ],
      λ has. part_below m all ms v has lt,
    )

    here : (Contains (numbers (over m all) ms) v ↔ IsThere (over m all) (mark_at v ms) v) → v ≡ m.value →
        Contains (numbers all (m ∷ ms)) v ↔ IsThere all (mark_at v (m ∷ ms)) v
    here later e = subst (λ o. Contains (numbers all (m ∷ ms)) v ↔ IsThere all o v) (sym (at_here m ms v e)) (
      λ has. elim (three_parts m all ms v has) [
        | inl first ↦ elim first [ inl a ↦ let lt = a.1 in absurd (omega (arith, ints, e, lt)) | inr b ↦ b.1 ]
        | inr third ↦ absurd (no_later m all ms v h.2 (omega (arith, ints, e)) later third)
      ],
      λ gone. part_here m all ms v e gone,
    )

    high : (Contains (numbers (over m all) ms) v ↔ IsThere (over m all) (mark_at v ms) v) → m.value <ℤ v →
        Contains (numbers all (m ∷ ms)) v ↔ IsThere all (mark_at v (m ∷ ms)) v
    high later lt = let through = there_over m all (mark_at v ms) v lt in
        subst (λ o. Contains (numbers all (m ∷ ms)) v ↔ IsThere all o v) (sym (at_over m ms v lt)) (
          λ has. elim (three_parts m all ms v has) [
            | inl first ↦ elim first [
              | inl a ↦ let gt = a.1 in absurd (omega (arith, ints, gt, lt))
              | inr b ↦ let e = b.0 in absurd (omega (arith, ints, e, lt))
            ]
            | inr third ↦ through.0 (later.0 third)
          ],
          λ is. part_over m all ms v (later.1 (through.1 is)),
        )

-- they rise
rising_end : (xs : List ℤ) (z : ℤ) → IsRising xs → AllByRecursion (λ v. v <ℤ z) xs → IsRising (xs ++ z ∷ [])
unfolding IsRising
rising_end [] z r lt = (tt, tt)
rising_end (x ∷ xs) z r lt = (ended xs r.0, rising_end xs z r.1 lt.1)
  where
    ended : (ys : List ℤ) → AllByRecursion (λ y. x <ℤ y) ys → AllByRecursion (λ y. x <ℤ y) (ys ++ z ∷ [])
    ended [] h = (lt.0, tt)
    ended (y ∷ ys) h = (h.0, ended ys h.1)

pub numbers_rise : (f : ℤ) (all : List ℤ) (ms : List Mark) → IsRising all → MarksFrom f ms → IsRising (numbers all ms)
unfolding MarksFrom numbers IsRising
numbers_rise f all [] rise h = rise
numbers_rise f all (m ∷ ms) rise h =
    let high = over m all in
    let later = numbers_rise (m.value +ℤ pos 1) high ms (rising_filter (λ v. int_lt m.value v) all rise) h.2 in
    let low = below m all in
    let first : IsRising (low ++ own m) = by_test m.gone in
    rising_append (low ++ own m) (numbers high ms) m.value first later
    (each_from (λ v. v ≤ℤ m.value) (low ++ own m) (λ v has. elim (Contains-append_cases low (own m) v has) [
      | inl a ↦ let lt = (in_below m all v a).1 in omega (arith, ints, lt)
      | inr b ↦ let e = (in_own m v b).0 in omega (arith, ints, e)
    ]))
    (each_from (λ v. m.value <ℤ v) (numbers high ms) (λ v has. beyond v ((contains_numbers (m.value +ℤ pos 1) high ms v h.2).0 has)))
  where
    beyond : (v : ℤ) → IsThere (over m all) (mark_at v ms) v → m.value <ℤ v
    beyond v is = by_lt_z m.value v (λ lt. lt) (λ le. absurd (no_later m all ms v h.2 le (contains_numbers (m.value +ℤ pos 1) (over m all) ms v h.2)
        ((contains_numbers (m.value +ℤ pos 1) (over m all) ms v h.2).1 is)))

    by_test : (b : Bool) → IsRising (below m all ++ cond b [] (m.value ∷ []))
    by_test true = rising_append (below m all) [] m.value (rising_filter (λ v. int_lt v m.value) all rise) tt
        (each_from (λ v. v ≤ℤ m.value) (below m all) (λ v a. let lt = (in_below m all v a).1 in omega (arith, ints, lt))) tt
    by_test false = rising_end (below m all) m.value (rising_filter (λ v. int_lt v m.value) all rise)
        (each_from (λ v. v <ℤ m.value) (below m all) (λ v a. (in_below m all v a).1))

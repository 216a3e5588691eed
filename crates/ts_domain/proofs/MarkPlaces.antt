-- How many numbers a set has that differs from another one at marks, and which of them stands where.
use Rattle.std.proofs.Common.{◌≡◌, ℕ, zero, suc, ◌+◌, ◌-◌, ◌<◌, ◌≤◌, ℤ, pos, negsuc, neg_ℤ, ◌+ℤ◌, ◌-ℤ◌, ◌≤ℤ◌, ◌<ℤ◌, ◌↔◌, Bool, true, false, not, cond}
use Rattle.std.proofs.Common.{◌&&◌, IsTrue, inl, inr, Some, List, [], ◌∷◌, ◌++◌, length}
use Rattle.std.proofs.Common.{refl, sym, ap, ◌∙◌, subst, arith, length-append, append_assoc}
use Rattle.std.proofs.lemmas.Int.{ints, by_lt_z, to_z-of_z}
use Rattle.std.proofs.lemmas.Bool.{both_ways}
use Rattle.std.proofs.lemmas.List.Filters.{length-filter_both}
use mir.Val.{SFits, to_z, of_z}
use mir.Syntax.{w64}
use Rattle.std.specs.Ordering.{int_eq}
use Rattle.std.specs.Prelude.{filter, int_le, int_lt, slice_get, Contains}
use Rattle.std.specs.List.{AllByRecursion}
use Rattle.ts_domain.specs.declared.marks.Mark.{Mark}
use Rattle.ts_domain.specs.declared.marks.Node.{Node}
use Rattle.ts_domain.specs.Marks.{gain, gain_of, MarksFrom, AreTold, numbers, own}
use Rattle.ts_domain.specs.Kept.{values_up_to, values_above, values_without}
use Rattle.ts_domain.specs.Values.{IsRising}
use Rattle.ts_domain.proofs.Sets.{contains_cons, contains_filter, each_contains, filter_alike, filter_both, filter_none, pass_all, rising_filter}
use Rattle.ts_domain.proofs.Sets.{differs, two_sides, lt_true, le_true, le_false, lt_false}
use Rattle.ts_domain.proofs.BoxLaws.{length-without, length-sides}
use Rattle.ts_domain.proofs.MarkLaws.{mark_map, all_from, all_before, all_behind, marks_front, small_gain}
use Rattle.ts_domain.proofs.MarkReads.{Opened, opened_as, medium_is}
use Rattle.ts_domain.proofs.Places.{small_is}
use Rattle.ts_domain.proofs.MarkParts.{below_below, over_over, either_order, numbers_between}

abbrev bottom : ℤ
bottom = neg_ℤ (pos 1000000)

-- the numbers below u, and those from u on
halves : (u : ℤ) (xs : List ℤ) → IsRising xs → xs ≡ filter (λ v. int_lt v u) xs ++ filter (λ v. int_le u v) xs
unfolding IsRising
halves u [] h = refl
halves u (x ∷ xs) h = by_lt_z x u (λ lt. low lt (halves u xs h.1)) (λ ge. high ge)
  where
    low : x <ℤ u → xs ≡ filter (λ v. int_lt v u) xs ++ filter (λ v. int_le u v) xs →
        x ∷ xs ≡ filter (λ v. int_lt v u) (x ∷ xs) ++ filter (λ v. int_le u v) (x ∷ xs)
    low lt rest =
        ap (λ l. x ∷ l) rest ∙ sym (ap (λ b. cond b (x ∷ filter (λ v. int_lt v u) xs) (filter (λ v. int_lt v u) xs) ++ filter (λ v. int_le u v) (x ∷ xs))
        (lt_true x u lt) ∙
        ap (λ b. (x ∷ filter (λ v. int_lt v u) xs) ++ cond b (x ∷ filter (λ v. int_le u v) xs) (filter (λ v. int_le u v) xs)) (le_false u x lt))

    high : u ≤ℤ x → x ∷ xs ≡ filter (λ v. int_lt v u) (x ∷ xs) ++ filter (λ v. int_le u v) (x ∷ xs)
    high ge =
        sym (pass_all (λ v. int_le u v) (x ∷ xs) (λ v has. le_true u v (from v has))) ∙
        ap (λ l. l ++ filter (λ v. int_le u v) (x ∷ xs)) (sym (filter_none (λ v. int_lt v u) (x ∷ xs) (λ v has. lt_false v u (from v has))))
      where
        from : (v : ℤ) → Contains (x ∷ xs) v → u ≤ℤ v
        from v has = elim ((contains_cons x xs v).0 has)
            [ inl e ↦ omega (arith, ints, ge, e) | inr there ↦ let later = each_contains (λ y. x <ℤ y) xs v h.0 there in omega (arith, ints, ge, later) ]

from_from : (a u : ℤ) (all : List ℤ) → a <ℤ u → filter (λ v. int_le u v) (filter (λ v. int_lt a v) all) ≡ filter (λ v. int_le u v) all
from_from a u all lt =
    filter_both (λ v. int_le u v) (λ v. int_lt a v) all ∙ filter_alike (λ v. int_lt a v && int_le u v) (λ v. int_le u v) all (λ v has. both v)
  where
    both : (v : ℤ) → (int_lt a v && int_le u v) ≡ int_le u v
    both v = grind (arith, ints)

-- marks below u change nothing from u on
pub numbers_front : (all : List ℤ) (xs : List Mark) (u : ℤ) → IsRising all → AllByRecursion (λ x. x.value <ℤ u) xs →
    numbers all xs ≡ numbers (filter (λ v. int_lt v u) all) xs ++ filter (λ v. int_le u v) all
unfolding numbers
numbers_front all [] u rise h = halves u all rise
numbers_front all (x ∷ xs) u rise h =
    let low = filter (λ v. int_lt v x.value) all in let over = filter (λ v. int_lt x.value v) all in let end = filter (λ v. int_le u v) all in
    let under = filter (λ v. int_lt v u) all in
    let rest = numbers_front over xs u (rising_filter (λ v. int_lt x.value v) all rise) h.1 in
    ap (λ l. (low ++ own x) ++ l) (rest ∙ ap (λ l. numbers (filter (λ v. int_lt v u) over) xs ++ l) (from_from x.value u all h.0) ∙
    ap (λ l. numbers l xs ++ end) (either_order (λ v. int_lt v u) (λ v. int_lt x.value v) all)) ∙
    sym (append_assoc (low ++ own x) (numbers (filter (λ v. int_lt x.value v) under) xs) end) ∙
    ap (λ l. ((l ++ own x) ++ numbers (filter (λ v. int_lt x.value v) under) xs) ++ end) (sym (below_below x.value u all h.0))

-- what marks tell of a set they tell of the part that they lie in
pub told_within : (test : ℤ → Bool) (all : List ℤ) (ms : List Mark) → AllByRecursion (λ m. test m.value ≡ true) ms → AreTold all ms →
    AreTold (filter test all) ms
told_within test all [] h told = tt
told_within test all (m ∷ ms) h told = (
  (λ gone. (contains_filter test all m.value).1 (told.0.0 gone, h.0), λ has. told.0.1 ((contains_filter test all m.value).0 has).0),
  told_within test all ms h.1 told.1,
)

pub told_front : (all : List ℤ) (xs ys : List Mark) → AreTold all (xs ++ ys) → AreTold all xs
told_front all [] ys h = tt
told_front all (x ∷ xs) ys h = (h.0, told_front all xs ys h.1)

pub told_back : (all : List ℤ) (xs ys : List Mark) → AreTold all (xs ++ ys) → AreTold all ys
told_back all [] ys h = h
told_back all (x ∷ xs) ys h = told_back all xs ys h.1

pub each_front : (P : Mark → Type 0) (xs ys : List Mark) → AllByRecursion P (xs ++ ys) → AllByRecursion P xs
each_front P [] ys h = tt
each_front P (x ∷ xs) ys h = (h.0, each_front P xs ys h.1)

pub each_back : (P : Mark → Type 0) (xs ys : List Mark) → AllByRecursion P (xs ++ ys) → AllByRecursion P ys
each_back P [] ys h = h
each_back P (x ∷ xs) ys h = each_back P xs ys h.1

-- the numbers on both sides of one
beside : (u : ℤ) (all : List ℤ) → IsRising all →
    length (filter (λ v. int_lt v u) all) + length (filter (λ v. int_lt u v) all) ≡ length (values_without u all)
beside u all rise =
    let e : length (values_without u all) ≡ length (filter (λ v. int_le v (u -ℤ pos 1)) all ++ filter (λ v. int_lt u v) all) =
    ap length (two_sides u all rise) in let f = ap length (filter_alike (λ v. int_lt v u) (λ v. int_le v (u -ℤ pos 1)) all (λ v has. same v)) in
    omega (arith, e, f, length-append (filter (λ v. int_le v (u -ℤ pos 1)) all) (filter (λ v. int_lt u v) all))
  where
    same : (v : ℤ) → int_lt v u ≡ int_le v (u -ℤ pos 1)
    same v = grind (arith, ints)

pub none_without : (u : ℤ) (all : List ℤ) → (Contains all u → ⊥) → values_without u all ≡ all
none_without u all none = pass_all (λ v. not (int_eq v u)) all (λ v has. differs u v (λ e. none (subst (Contains all) e has)))

-- how many they are
counted_first : (m : Mark) (all : List ℤ) (rest : ℕ) (g : ℤ) → IsRising all → (IsTrue m.gone ↔ Contains all m.value) →
    pos rest ≡ pos (length (filter (λ v. int_lt m.value v) all)) +ℤ g →
    pos ((length (filter (λ v. int_lt v m.value) all) + length (own m)) + rest) ≡ pos (length all) +ℤ (gain_of m +ℤ g)
unfolding gain_of
counted_first m all rest g rise told e = by_test m.gone refl
  where
    by_test : (b : Bool) → m.gone ≡ b →
        pos ((length (filter (λ v. int_lt v m.value) all) + length (cond b [] (m.value ∷ []))) + rest) ≡
        pos (length all) +ℤ (cond b (neg_ℤ (pos 1)) (pos 1) +ℤ g)
    by_test true is = let n = length-without m.value all rise (told.0 is) in let s = beside m.value all rise in omega (arith, ints, n, s, e)
    by_test false is =
        let n = ap length (none_without m.value all (λ has. both_ways m.gone is (told.1 has))) in
        let s = beside m.value all rise in omega (arith, ints, n, s, e)

pub length-numbers : (f : ℤ) (all : List ℤ) (ms : List Mark) → IsRising all → MarksFrom f ms → AreTold all ms →
    pos (length (numbers all ms)) ≡ pos (length all) +ℤ gain ms
unfolding MarksFrom numbers gain
length-numbers f all [] rise h told = omega (arith, ints)
length-numbers f all (m ∷ ms) rise h told =
    let over = filter (λ v. int_lt m.value v) all in let low = filter (λ v. int_lt v m.value) all in
    let above = all_from (m.value +ℤ pos 1) ms h.2 in
    let rest = length-numbers (m.value +ℤ pos 1) over ms (rising_filter (λ v. int_lt m.value v) all rise) h.2 (told_within (λ v. int_lt m.value v) all ms
    (mark_map (λ x. (m.value +ℤ pos 1) ≤ℤ x.value) (λ x. int_lt m.value x.value ≡ true) (λ x le. lt_true m.value x.value (step x.value le))
    ms above) told.1) in
    ap pos (length-append (low ++ own m) (numbers over ms) ∙ ap (λ n. n + length (numbers over ms)) (length-append low (own m))) ∙
    counted_first m all (length (numbers over ms)) (gain ms) rise told.0 rest
  where
    step : (x : ℤ) → (m.value +ℤ pos 1) ≤ℤ x → m.value <ℤ x
    step x le = omega (arith, ints, le)

-- a place in two lists
get_first : (xs ys : List ℤ) (i : ℕ) (r : ℤ) → slice_get xs i ≡ Some r → slice_get (xs ++ ys) i ≡ Some r
get_first [] ys i r h = cc
get_first (x ∷ xs) ys zero r h = h
get_first (x ∷ xs) ys (suc i) r h = get_first xs ys i r h

get_front : (xs ys : List ℤ) (i : ℕ) (r : ℤ) → i < length xs → slice_get (xs ++ ys) i ≡ Some r → slice_get xs i ≡ Some r
get_front [] ys i r below h = absurd (omega (arith, below))
get_front (x ∷ xs) ys zero r below h = h
get_front (x ∷ xs) ys (suc i) r below h = get_front xs ys i r (omega (arith, below)) h

get_second : (xs ys : List ℤ) (i k : ℕ) (r : ℤ) → i ≡ length xs + k → slice_get ys k ≡ Some r → slice_get (xs ++ ys) i ≡ Some r
get_second [] ys i k r e h = let same : i ≡ k = omega (arith, e) in ap (slice_get ys) same ∙ h
get_second (x ∷ xs) ys zero k r e h = absurd (omega (arith, e))
get_second (x ∷ xs) ys (suc i) k r e h = get_second xs ys i k r (omega (arith, e)) h

-- the numbers above t about a mark: those before it, its own, and those after it
pub record About (all : List ℤ) (t : ℤ) (xs : List Mark) (m : Mark) (ys : List Mark) : Type 0 where
  pub before : List ℤ
  pub rest : List ℤ
  pub whole : numbers (values_above t all) (xs ++ m ∷ ys) ≡ (before ++ own m) ++ numbers (values_above m.value all) ys
  pub first : numbers (values_above t all) xs ≡ before ++ rest
  pub size : pos (length before) ≡ pos (length (filter (λ v. int_lt v m.value) (values_above t all))) +ℤ gain xs

pub about : (all : List ℤ) (t : ℤ) (xs : List Mark) (m : Mark) (ys : List Mark) → IsRising all → MarksFrom bottom (xs ++ m ∷ ys) → AreTold all (xs ++ m ∷ ys) →
    AllByRecursion (λ x. t <ℤ x.value) (xs ++ m ∷ ys) → About all t xs m ys
about all t xs m ys rise h told above =
    let A = values_above t all in let low = filter (λ v. int_lt v m.value) A in
    let rise' = rising_filter (λ v. int_lt t v) all rise in
    let below = all_before bottom xs m ys h in
    let later = each_front (λ x. t <ℤ x.value) xs (m ∷ ys) above in
    let here = (each_back (λ x. t <ℤ x.value) xs (m ∷ ys) above).0 in
    let told' : AreTold low xs = told_within (λ v. int_lt v m.value) A xs
    (mark_map (λ x. x.value <ℤ m.value) (λ x. int_lt x.value m.value ≡ true) (λ x lt. lt_true x.value m.value lt) xs below)
    (told_within (λ v. int_lt t v) all xs
    (mark_map (λ x. t <ℤ x.value) (λ x. int_lt t x.value ≡ true) (λ x lt. lt_true t x.value lt) xs later) (told_front all xs (m ∷ ys) told)) in record {
      before = numbers low xs;
      rest = filter (λ v. int_le m.value v) A;
      whole = numbers_between bottom A xs m ys h ∙ ap (λ l. (numbers low xs ++ own m) ++ numbers l ys) (over_over t m.value all here);
      first = numbers_front A xs m.value rise' below;
      size = length-numbers bottom low xs (rising_filter (λ v. int_lt v m.value) A rise') (marks_front bottom xs (m ∷ ys) h) told';
    }

module _ (all : List ℤ) (t : ℤ) (xs : List Mark) (m : Mark) (ys : List Mark) (a : About all t xs m ys) where
  pub place_before : (n i : ℕ) → n ≡ length a.before → i < n → (i < length (numbers (values_above t all) xs)) ×
      ((r : ℤ) → slice_get (numbers (values_above t all) xs) i ≡ Some r → slice_get (numbers (values_above t all) (xs ++ m ∷ ys)) i ≡ Some r)
  place_before n i e lt = (
    let size = ap length a.first in omega (arith, size, length-append a.before a.rest, lt, e),
    λ r at. ap (λ l. slice_get l i) a.whole ∙ get_first (a.before ++ own m) (numbers (values_above m.value all) ys) i r (get_first a.before (own m) i r
        (get_front a.before a.rest i r (omega (arith, lt, e)) (sym (ap (λ l. slice_get l i) a.first) ∙ at))),
  )

  pub place_here : (n i : ℕ) → n ≡ length a.before → m.gone ≡ false → i ≡ n → slice_get (numbers (values_above t all) (xs ++ m ∷ ys)) i ≡ Some m.value
  place_here n i e there is =
      ap (λ l. slice_get l i) a.whole ∙ get_first (a.before ++ own m) (numbers (values_above m.value all) ys) i m.value (
      get_second a.before (own m) i 0 m.value (omega (arith, e, is)) (ap (λ b. slice_get (cond b [] (m.value ∷ [])) 0) there))

  behind : (i k : ℕ) → i ≡ length (a.before ++ own m) + k → i < length (numbers (values_above t all) (xs ++ m ∷ ys)) →
      (k < length (numbers (values_above m.value all) ys)) × ((r : ℤ) → slice_get (numbers (values_above m.value all) ys) k ≡ Some r →
      slice_get (numbers (values_above t all) (xs ++ m ∷ ys)) i ≡ Some r)
  behind i k e below = (
    let size = ap length a.whole in omega (arith, size, length-append (a.before ++ own m) (numbers (values_above m.value all) ys), e, below),
    λ r at. ap (λ l. slice_get l i) a.whole ∙ get_second (a.before ++ own m) (numbers (values_above m.value all) ys) i k r e at,
  )

  pub place_past_gone : (n i : ℕ) → n ≡ length a.before → m.gone ≡ true → n ≤ i → i < length (numbers (values_above t all) (xs ++ m ∷ ys)) →
      ((i - n) < length (numbers (values_above m.value all) ys)) × ((r : ℤ) → slice_get (numbers (values_above m.value all) ys) (i - n) ≡ Some r →
      slice_get (numbers (values_above t all) (xs ++ m ∷ ys)) i ≡ Some r)
  place_past_gone n i e gone le below =
      let size = length-append a.before (own m) in let none = ap (λ b. length (cond b [] (m.value ∷ []))) gone in
      behind i (i - n) (omega (arith, size, none, e, le)) below

  pub place_past : (n i : ℕ) → n ≡ length a.before → m.gone ≡ false → n < i → i < length (numbers (values_above t all) (xs ++ m ∷ ys)) →
      (((i - n) - 1) < length (numbers (values_above m.value all) ys)) × ((r : ℤ) → slice_get (numbers (values_above m.value all) ys) ((i - n) - 1) ≡ Some r →
      slice_get (numbers (values_above t all) (xs ++ m ∷ ys)) i ≡ Some r)
  place_past n i e there lt below =
      let size = length-append a.before (own m) in let one = ap (λ b. length (cond b [] (m.value ∷ []))) there in
      behind i ((i - n) - 1) (omega (arith, size, one, e, lt)) below

-- a test leaves no more
pub fewer : (test : ℤ → Bool) (xs : List ℤ) → length (filter test xs) ≤ length xs
fewer test [] = omega arith
fewer test (x ∷ xs) = elim (test x) as (λ b. length (cond b (x ∷ filter test xs) (filter test xs)) ≤ length (x ∷ xs))
    [ true ↦ omega (arith, fewer test xs) | false ↦ omega (arith, fewer test xs) ]

-- how many of a list lie between two numbers, by how many lie up to each
pub between_counts : (t u : ℤ) (all : List ℤ) → t <ℤ u →
    length (values_up_to t all) + length (filter (λ v. int_lt v u) (values_above t all)) ≡ length (values_up_to (u -ℤ pos 1) all)
between_counts t u all lt =
    let both = length-filter_both (λ v. int_le v t) (λ v. int_lt t v) (λ v. other t v) (values_up_to (u -ℤ pos 1) all) in
    let low = ap length (filter_both (λ v. int_le v t) (λ v. int_le v (u -ℤ pos 1)) all ∙
    filter_alike (λ v. int_le v (u -ℤ pos 1) && int_le v t) (λ v. int_le v t) all (λ v has. lower v)) in
    let high = ap length (either_order (λ v. int_lt t v) (λ v. int_le v (u -ℤ pos 1)) all ∙
    filter_alike (λ v. int_le v (u -ℤ pos 1)) (λ v. int_lt v u) (values_above t all) (λ v has. upper v)) in
    omega (arith, both, low, high)
  where
    other : (t v : ℤ) → int_lt t v ≡ not (int_le v t)
    other t v = grind (arith, ints)

    lower : (v : ℤ) → (int_le v (u -ℤ pos 1) && int_le v t) ≡ int_le v t
    lower v = grind (arith, ints)

    upper : (v : ℤ) → int_le v (u -ℤ pos 1) ≡ int_lt v u
    upper v = grind (arith, ints)

-- with no mark: the numbers above t stand after those up to t
up_and_above : (t : ℤ) (all : List ℤ) → IsRising all → all ≡ values_up_to t all ++ values_above t all
up_and_above t all rise =
    halves (t +ℤ pos 1) all rise ∙ ap (λ l. l ++ filter (λ v. int_le (t +ℤ pos 1) v) all) (filter_alike (λ v. int_lt v (t +ℤ pos 1)) (λ v. int_le v t) all
    (λ v has. lower v)) ∙ ap (λ l. values_up_to t all ++ l) (filter_alike (λ v. int_le (t +ℤ pos 1) v) (λ v. int_lt t v) all (λ v has. upper v))
  where
    lower : (v : ℤ) → int_lt v (t +ℤ pos 1) ≡ int_le v t
    lower v = grind (arith, ints)

    upper : (v : ℤ) → int_le (t +ℤ pos 1) v ≡ int_lt t v
    upper v = grind (arith, ints)

get_back : (xs ys : List ℤ) (k : ℕ) (r : ℤ) → slice_get (xs ++ ys) (length xs + k) ≡ Some r → slice_get ys k ≡ Some r
get_back [] ys k r h = let same : k ≡ 0 + k = omega arith in ap (slice_get ys) same ∙ h
get_back (x ∷ xs) ys k r h = let e : suc (length xs + k) ≡ length (x ∷ xs) + k = omega arith in
    get_back xs ys k r (ap (slice_get (x ∷ (xs ++ ys))) e ∙ h)

pub place_plain : (t : ℤ) (all : List ℤ) (ms : List Mark) (n i : ℕ) → IsRising all → ms ≡ [] → n ≡ length (values_up_to t all) →
    i < length (numbers (values_above t all) ms) → (n + i < length all) × ((r : ℤ) → slice_get all (n + i) ≡ Some r →
    slice_get (numbers (values_above t all) ms) i ≡ Some r)
unfolding numbers
place_plain t all ms n i rise none e below = (
  let size = length-sides t all in let b = subst (λ l. i < length (numbers (values_above t all) l)) none below in omega (arith, size, b, e),
  λ r at. subst (λ l. slice_get (numbers (values_above t all) l) i ≡ Some r) (sym none) (get_back (values_up_to t all) (values_above t all) i r
      (ap (λ k. slice_get (values_up_to t all ++ values_above t all) (k + i)) (sym e) ∙ ap (λ l. slice_get l (n + i)) (sym (up_and_above t all rise)) ∙ at)),
)

-- the count before a mark, as it is read in machine numbers
pub counted_before : (all : List ℤ) (t : ℤ) (xs : List Mark) (m : Mark) (ys : List Mark) (n : ℕ) (more : ℤ) (a : About all t xs m ys) → length all ≤ 2000003 →
    MarksFrom bottom (xs ++ m ∷ ys) → n ≡ length (filter (λ v. int_lt v m.value) (values_above t all)) → more ≡ gain xs →
    (n ≤ 4000000) × (neg_ℤ (pos n) ≤ℤ more) × (more ≤ℤ pos 4000000) × ((r : ℕ) → pos r ≡ pos n +ℤ more → r ≡ length a.before)
counted_before all t xs m ys n more a few h en em =
    let size = a.size in let small = small_gain bottom xs (omega (arith, ints)) (marks_front bottom xs (m ∷ ys) h) in
    let less = fewer (λ v. int_lt v m.value) (values_above t all) in let less' = fewer (λ v. int_lt t v) all in
    (omega (arith, en, few, less, less'), omega (arith, ints, size, en, em), omega (arith, ints, em, small.to), λ r e. omega (arith, ints, e, size, en, em))

-- counts in machine numbers
abbrev word : ℤ → ℤ
word z = to_z w64 (of_z w64 z)

fits_between : (z t : ℤ) → SFits w64 t → t ≤ℤ z → z <ℤ pos 9223372036854775808 → SFits w64 z
fits_between (pos n) t fits from to = record { sfits = omega (arith, ints, to) }
fits_between (negsuc n) (pos k) fits from to = absurd (omega (arith, ints, from))
fits_between (negsuc n) (negsuc k) fits from to = let small = fits.sfits in record { sfits = omega (arith, ints, from, small) }

below_top : (z : ℤ) → SFits w64 z → z <ℤ pos 9223372036854775808
below_top (pos n) fits = let small = fits.sfits in omega (arith, ints, small)
below_top (negsuc n) fits = omega (arith, ints)

one_less : (t u : ℤ) → SFits w64 t → SFits w64 u → t <ℤ u → word (word u -ℤ pos 1) ≡ u -ℤ pos 1
one_less t u ft fu lt =
    let top = below_top u fu in ap (λ x. word (x -ℤ pos 1)) (to_z-of_z w64 u fu) ∙
    to_z-of_z w64 (u -ℤ pos 1) (fits_between (u -ℤ pos 1) t ft (omega (arith, ints, lt)) (omega (arith, ints, top)))

pub counted_between : (t u : ℤ) (all : List ℤ) (a b : ℕ) → SFits w64 t → SFits w64 u → t <ℤ u → a ≡ length (values_up_to (word (word u -ℤ pos 1)) all) →
    b ≡ length (values_up_to (word t) all) → (b ≤ a) × (a - b ≡ length (filter (λ v. int_lt v u) (values_above t all)))
counted_between t u all a b ft fu lt ea eb =
    let counts = between_counts t u all lt in
    let a_is = ea ∙ ap (λ x. length (values_up_to x all)) (one_less t u ft fu lt) in
    let b_is = eb ∙ ap (λ x. length (values_up_to x all)) (to_z-of_z w64 t ft) in
    (omega (arith, counts, a_is, b_is), omega (arith, counts, a_is, b_is))

pub empty_place : (t : ℤ) (all : List ℤ) (ms : List Mark) (n i : ℕ) → SFits w64 t → IsRising all → length all ≤ 2000003 → [] ≡ ms →
    n ≡ length (values_up_to (word t) all) → i < length (numbers (values_above t all) ms) → (n + i ≤ 2000003) × (n + i < length all) ×
    ((r : ℤ) → SFits w64 r → slice_get all (n + i) ≡ Some r → slice_get (numbers (values_above t all) ms) i ≡ Some (word r))
empty_place t all ms n i fits rise few none e below =
    let p = place_plain t all ms n i rise (sym none) (e ∙ ap (λ x. length (values_up_to x all)) (to_z-of_z w64 t fits)) below in
    let inside = p.0 in (omega (arith, few, inside), inside, λ r fit at. p.1 r at ∙ ap Some (sym (to_z-of_z w64 r fit)))

past_it : (i k : ℕ) → k ≤ i → (i ≡ k → ⊥) → k < i
past_it zero zero le other = absurd (other refl)
past_it zero (suc k) le other = absurd (omega (arith, le))
past_it (suc i) zero le other = omega arith
past_it (suc i) (suc k) le other = let later = past_it i k (omega (arith, le)) (λ e. other (ap suc e)) in omega (arith, later)

-- a tree's topmost node where a place is looked for
pub record Standing (all : List ℤ) (t : ℤ) (self : List Mark) (n : Node) : Type 0 where
  pub top : Opened self n.before n.mark n.behind
  pub here : About all t n.before n.mark n.behind
  pub few : length all ≤ 2000003
  pub fits : SFits w64 t
  pub over : AllByRecursion (λ m. t <ℤ m.value) (n.before ++ n.mark ∷ n.behind)
  pub told : AreTold all (n.before ++ n.mark ∷ n.behind)

pub standing : (all : List ℤ) (t : ℤ) (self : List Mark) (n : Node) → n.before ++ n.mark ∷ n.behind ≡ self →
    MarksFrom bottom (n.before ++ n.mark ∷ n.behind) → IsRising all → length all ≤ 2000003 → SFits w64 t → AreTold all self →
    AllByRecursion (λ m. t <ℤ m.value) self → Standing all t self n
standing all t self n is h rise few fits told over =
    let told' = subst (AreTold all) (sym is) told in let over' = subst (AllByRecursion (λ m. t <ℤ m.value)) (sym is) over in record {
      top = opened_as self n.before n.mark n.behind is h;
      here = about all t n.before n.mark n.behind rise h told' over';
      few = few;
      fits = fits;
      over = over';
      told = told';
    }

module _ (all : List ℤ) (t : ℤ) (self : List Mark) (n : Node) (s : Standing all t self n) where
  t_is : word t ≡ t
  t_is = to_z-of_z w64 t s.fits

  here_is : (d : Node) → d ≡ n → word d.mark.value ≡ n.mark.value
  here_is d e = ap (λ d. word d.mark.value) e ∙ small_is n.mark.value s.top.from s.top.to

  pub mark_over : (d : Node) → d ≡ n → word t <ℤ word d.mark.value
  mark_over d e = subst (λ x. x <ℤ word d.mark.value) (sym t_is) (subst (λ x. t <ℤ x) (sym (here_is d e))
      (each_back (λ m. t <ℤ m.value) n.before (n.mark ∷ n.behind) s.over).0)

  pub count_fits : (d d' : Node) (count : ℕ) (more : ℤ) → d ≡ n → d' ≡ n →
      count ≡ length (filter (λ v. int_lt v (word d.mark.value)) (values_above (word t) all)) → more ≡ gain d'.before →
      (count ≤ 4000000) × (neg_ℤ (pos count) ≤ℤ word more) × (word more ≤ℤ pos 4000000) ×
      ((r : ℕ) → pos r ≡ pos count +ℤ word more → r ≡ length s.here.before)
  count_fits d d' count more e e' ec em =
      let rising = s.top.rising in let more_is = em ∙ ap (λ d. gain d.before) e' in
      let small = small_gain bottom n.before (omega (arith, ints)) (marks_front bottom n.before (n.mark ∷ n.behind) rising) in
      let same = medium_is more (omega (arith, ints, more_is, small.from)) (omega (arith, ints, more_is, small.to)) in
      let c = counted_before all t n.before n.mark n.behind count more s.here s.few rising
      (ec ∙ ap (λ x. length (filter (λ v. int_lt v x) (values_above (word t) all))) (here_is d e) ∙
      ap (λ x. length (filter (λ v. int_lt v n.mark.value) (values_above x all))) t_is) more_is in (
        c.0,
        subst (λ x. neg_ℤ (pos count) ≤ℤ x) (sym same) c.1,
        subst (λ x. x ≤ℤ pos 4000000) (sym same) c.2,
        λ r is. c.3 r (subst (λ x. pos r ≡ pos count +ℤ x) same is),
      )

  -- the two sides
  pub first_side : (d : Node) → d ≡ n → (length d.before < length self) × AreTold all d.before × AllByRecursion (λ m. word t <ℤ m.value) d.before
  first_side d e = subst (λ d. (length d.before < length self) × AreTold all d.before × AllByRecursion (λ m. word t <ℤ m.value) d.before) (sym e) (
    let size = ap length s.top.is in omega (arith, size, length-append n.before (n.mark ∷ n.behind)),
    told_front all n.before (n.mark ∷ n.behind) s.told,
    subst (λ x. AllByRecursion (λ m. x <ℤ m.value) n.before) (sym t_is) (each_front (λ m. t <ℤ m.value) n.before (n.mark ∷ n.behind) s.over),
  )

  pub second_side : (d d' : Node) → d ≡ n → d' ≡ n →
      (length d'.behind < length self) × AreTold all d'.behind × AllByRecursion (λ m. word d.mark.value <ℤ m.value) d'.behind
  second_side d d' e e' =
      subst (λ d'. (length d'.behind < length self) × AreTold all d'.behind × AllByRecursion (λ m. word d.mark.value <ℤ m.value) d'.behind) (sym e') (
        let size = ap length s.top.is in omega (arith, size, length-append n.before (n.mark ∷ n.behind)),
        (told_back all n.before (n.mark ∷ n.behind) s.told).1,
        subst (λ x. AllByRecursion (λ m. x <ℤ m.value) n.behind) (sym (here_is d e)) (all_behind bottom n.before n.mark n.behind s.top.rising),
      )

  -- where the place is
  told_at : (i : ℕ) (r : ℤ) → SFits w64 r → slice_get (numbers (values_above t all) (n.before ++ n.mark ∷ n.behind)) i ≡ Some r →
      slice_get (numbers (values_above t all) self) i ≡ Some (word r)
  told_at i r fit at = ap (λ l. slice_get (numbers (values_above t all) l) i) s.top.is ∙ at ∙ ap Some (sym (to_z-of_z w64 r fit))

  pub found_before : (d : Node) (k i : ℕ) → d ≡ n → k ≡ length s.here.before → i < k →
      (i < length (numbers (values_above (word t) all) d.before)) × ((r : ℤ) → SFits w64 r →
      slice_get (numbers (values_above (word t) all) d.before) i ≡ Some r → slice_get (numbers (values_above t all) self) i ≡ Some (word r))
  found_before d k i e is lt =
      let same : numbers (values_above (word t) all) d.before ≡ numbers (values_above t all) n.before =
      ap (λ x. numbers (values_above x all) d.before) t_is ∙ ap (λ d. numbers (values_above t all) d.before) e in
      let p = place_before all t n.before n.mark n.behind s.here k i is lt in
      (subst (λ l. i < length l) (sym same) p.0, λ r fit at. told_at i r fit (p.1 r (subst (λ l. slice_get l i ≡ Some r) same at)))

  pub found_here : (d d' : Node) (k i : ℕ) → d ≡ n → d' ≡ n → k ≡ length s.here.before → d'.mark.gone ≡ false → i ≡ k →
      slice_get (numbers (values_above t all) self) i ≡ Some (word d.mark.value)
  found_here d d' k i e e' is there eq =
      ap (λ l. slice_get (numbers (values_above t all) l) i) s.top.is ∙
      place_here all t n.before n.mark n.behind s.here k i is (ap (λ d. d.mark.gone) (sym e') ∙ there) eq ∙ ap Some (sym (here_is d e))

  behind_is : (d d' : Node) → d ≡ n → d' ≡ n →
      numbers (values_above (word d.mark.value) all) d'.behind ≡ numbers (values_above n.mark.value all) n.behind
  behind_is d d' e e' = ap (λ x. numbers (values_above x all) d'.behind) (here_is d e) ∙ ap (λ d. numbers (values_above n.mark.value all) d.behind) e'

  pub found_past_gone : (d d' d'' : Node) (k i : ℕ) → d ≡ n → d' ≡ n → d'' ≡ n → k ≡ length s.here.before → k ≤ i → d'.mark.gone ≡ true →
      i < length (numbers (values_above t all) self) → ((i - k) < length (numbers (values_above (word d.mark.value) all) d''.behind)) × ((r : ℤ) →
      SFits w64 r → slice_get (numbers (values_above (word d.mark.value) all) d''.behind) (i - k) ≡ Some r →
      slice_get (numbers (values_above t all) self) i ≡ Some (word r))
  found_past_gone d d' d'' k i e e' e'' is le gone below =
      let p = place_past_gone all t n.before n.mark n.behind s.here k i is (ap (λ d. d.mark.gone) (sym e') ∙ gone) le
      (subst (λ l. i < length (numbers (values_above t all) l)) s.top.is below) in
      let same = behind_is d d'' e e'' in
      (subst (λ l. (i - k) < length l) (sym same) p.0, λ r fit at. told_at i r fit (p.1 r (subst (λ l. slice_get l (i - k) ≡ Some r) same at)))

  pub found_past : (d d' d'' : Node) (k i : ℕ) → d ≡ n → d' ≡ n → d'' ≡ n → k ≡ length s.here.before → k ≤ i → d'.mark.gone ≡ false →
      (i ≡ k → ⊥) → i < length (numbers (values_above t all) self) →
      (((i - k) - 1) < length (numbers (values_above (word d.mark.value) all) d''.behind)) × ((r : ℤ) → SFits w64 r →
      slice_get (numbers (values_above (word d.mark.value) all) d''.behind) ((i - k) - 1) ≡ Some r →
      slice_get (numbers (values_above t all) self) i ≡ Some (word r))
  found_past d d' d'' k i e e' e'' is le there other below =
      let p = place_past all t n.before n.mark n.behind s.here k i is (ap (λ d. d.mark.gone) (sym e') ∙ there) (past_it i k le other)
      (subst (λ l. i < length (numbers (values_above t all) l)) s.top.is below) in
      let same = behind_is d d'' e e'' in
      (subst (λ l. ((i - k) - 1) < length l) (sym same) p.0, λ r fit at. told_at i r fit (p.1 r (subst (λ l. slice_get l ((i - k) - 1) ≡ Some r) same at)))

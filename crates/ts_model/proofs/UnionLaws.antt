-- The union of ranges is the one rising list of the numbers that some range has.
use Rattle.std.proofs.Common.{◌≡◌, ℕ, zero, suc, ◌<◌, ℤ, pos, neg_ℤ, ◌+ℤ◌, ◌≤ℤ◌, ◌<ℤ◌, ◌⊎◌, inl, inr, ◌↔◌, Bool, true, false, cond, not, ◌&&◌, ◌||◌, Ok, Err, List, [], ◌∷◌, ◌++◌, length, get_or, refl, sym, ap, subst, ◌∙◌, arith, append-nil}
use Rattle.std.proofs.lemmas.Int.{ints, by_lt_z}
use Rattle.std.proofs.lemmas.List.Elements.{recursion_from_All, All-from_recursion, Contains-get_or, filter-append}
use Rattle.std.specs.Prelude.{filter, Contains, All, int_lt, Result, IfOk}
use Rattle.std.specs.List.{AllByRecursion, list_any}
use Rattle.ts_domain.specs.declared.interval.Interval.{Interval}
use Rattle.ts_domain.specs.Values.{WithinLimits, IsRising, IsDomain, run, values_between}
use Rattle.ts_domain.specs.Union.{InSome, IsUsable}
use Rattle.ts_domain.proofs.Runs.{length-between, between_split, all_between, none_between, between_has, rising_run, all_run}
use Rattle.ts_domain.proofs.Sets.{contains_filter, each_filter, nothing_in, rising_filter}
use Rattle.ts_domain.proofs.Unions.{has_number, any_in_some, in_some_any}
use Rattle.ts_model.specs.ModelParts.{is_between, is_backward, is_value, is_outside, union_of, digits}

abbrev Among : ℤ → List ℤ → Type 0
Among v [] = ⊥
Among v (x ∷ xs) = (x ≡ v) ⊎ Among v xs

among_at : (xs : List ℤ) (v : ℤ) (k : ℕ) → k < length xs → get_or xs k v ≡ v → Among v xs
among_at [] v k h e = absurd (omega (arith, h))
among_at (x ∷ xs) v zero h e = inl e
among_at (x ∷ xs) v (suc k) h e = inr (among_at xs v k (omega (arith, h)) e)

both_all : (P Q R : ℤ → Type 0) → ((v : ℤ) → P v → Q v → R v) → (xs : List ℤ) → AllByRecursion P xs → AllByRecursion Q xs → AllByRecursion R xs
both_all P Q R f [] p q = tt
both_all P Q R f (x ∷ xs) p q = (f x p.0 q.0, both_all P Q R f xs p.1 q.1)

above_among : (b : ℤ) (xs : List ℤ) (v : ℤ) → AllByRecursion (λ y. b <ℤ y) xs → Among v xs → b <ℤ v
above_among b [] v all h = absurd h
above_among b (x ∷ xs) v all (inl e) = let P : ℤ → Type 0 = λ y. b <ℤ y in subst P e all.0
above_among b (x ∷ xs) v all (inr h) = above_among b xs v all.1 h

abbrev IsIn : ℤ → ℕ → ℤ → Type 0
IsIn low n v = (low ≤ℤ v) × (v <ℤ (low +ℤ pos n))

next_in : (low x : ℤ) (n : ℕ) → low ≤ℤ x → (v : ℤ) → x <ℤ v → IsIn low (suc n) v → IsIn (low +ℤ pos 1) n v
next_in low x n h v above within = (omega (arith, ints, h, above), omega (arith, ints, within.1))

module _ (test : ℤ → Bool) where
  keep_or_skip : (low : ℤ) (rest d : List ℤ) → (test low ≡ true → low ∷ filter test rest ≡ d) → (test low ≡ false → filter test rest ≡ d) →
      filter test (low ∷ rest) ≡ d
  keep_or_skip low rest d pass fail = go (test low) refl
    where
      go : (b : Bool) → test low ≡ b → cond b (low ∷ filter test rest) (filter test rest) ≡ d
      go true e = pass e
      go false e = fail e

  -- the first number of a rising list is the least number that it may have, if that one is in it
  head_is : (low x : ℤ) (xs : List ℤ) → low ≤ℤ x → AllByRecursion (λ y. x <ℤ y) xs → Among low (x ∷ xs) → x ≡ low
  head_is low x xs from rest (inl e) = e
  head_is low x xs from rest (inr h) = absurd (omega (arith, ints, above_among x xs low rest h, from))

  -- a number beyond the head is in the rest
  rest_has : (low x v : ℤ) (xs : List ℤ) → x ≡ low → (low +ℤ pos 1) ≤ℤ v → Among v (x ∷ xs) → Among v xs
  rest_has low x v xs same from (inl e) = absurd (omega (arith, ints, same, e, from))
  rest_has low x v xs same from (inr h) = h

  -- the head is beyond a number that isn't in the list
  head_beyond : (low x : ℤ) → low ≤ℤ x → test low ≡ false → test x ≡ true → (low +ℤ pos 1) ≤ℤ x
  head_beyond low x from fail pass =
      by_lt_z low x (λ lt. omega (arith, ints, lt))
      (λ le. let same : x ≡ low = omega (arith, ints, le, from) in let e : test x ≡ test low = ap test same in absurd (cc))

  -- what a test leaves of the numbers of a range is the rising list of those that pass it
  pub all_left : (low : ℤ) (n : ℕ) (d : List ℤ) → IsRising d → AllByRecursion (IsIn low n) d → AllByRecursion (λ v. test v ≡ true) d →
      ((v : ℤ) → low ≤ℤ v → v <ℤ (low +ℤ pos n) → test v ≡ true → Among v d) → filter test (run low n) ≡ d
  unfolding run IsRising
  all_left low zero [] rising within each only = refl
  all_left low zero (x ∷ xs) rising within each only = let a = within.0.0 in let b = within.0.1 in absurd (omega (arith, ints, a, b))
  all_left low (suc n) [] rising within each only =
      keep_or_skip low (run (low +ℤ pos 1) n) [] (λ pass. absurd (only low (omega (arith, ints)) (omega (arith, ints)) pass))
      (λ fail. all_left (low +ℤ pos 1) n [] tt tt tt (λ v from to pass. only v (omega (arith, ints, from)) (omega (arith, ints, to)) pass))
  all_left low (suc n) (x ∷ xs) rising within each only =
      keep_or_skip low (run (low +ℤ pos 1) n) (x ∷ xs)
      (λ pass.
      let same : x ≡ low = head_is low x xs within.0.0 rising.0 (only low (omega (arith, ints)) (omega (arith, ints)) pass) in
      ap (λ (l : List ℤ). low ∷ l)
      (all_left (low +ℤ pos 1) n xs rising.1 beyond each.1
      (λ v from to t. rest_has low x v xs same from (only v (omega (arith, ints, from)) (omega (arith, ints, to)) t)))
      ∙ ap (λ (y : ℤ). y ∷ xs) (sym same))
      (λ fail.
      all_left (low +ℤ pos 1) n (x ∷ xs) rising ((head_beyond low x within.0.0 fail each.0, omega (arith, ints, within.0.1)), beyond) each
      (λ v from to t. only v (omega (arith, ints, from)) (omega (arith, ints, to)) t))
    where
      beyond : AllByRecursion (IsIn (low +ℤ pos 1) n) xs
      beyond = both_all (λ y. x <ℤ y) (IsIn low (suc n)) (IsIn (low +ℤ pos 1) n) (next_in low x n within.0.0) xs rising.0 within.1

within_limits : (v : ℤ) → WithinLimits v → WithinLimits v → IsIn (neg_ℤ (pos 1000000)) 2000001 v
within_limits v h h' = (h.0, omega (arith, ints, h.1))

union_is : (rs : List Interval) (d : List ℤ) → IsDomain d → ((v : ℤ) → Contains d v ↔ InSome rs v) → d ≡ union_of rs
unfolding union_of values_between
union_is rs d dom has =
    sym (all_left (λ v. list_any (has_number v) rs) (neg_ℤ (pos 1000000)) 2000001 d dom.rising
    (both_all WithinLimits WithinLimits (IsIn (neg_ℤ (pos 1000000)) 2000001) within_limits d dom.within dom.within)
    (recursion_from_All (λ v. list_any (has_number v) rs ≡ true) d
    (λ k e below. in_some_any rs (get_or d k e) ((has (get_or d k e)).0 (Contains-get_or d k e below))))
    (λ v from to t. let c = (has v).1 (any_in_some rs v t) in among_at d v c.0 c.1 c.2))

pub union_made : {E : Type 0} (rs : List Interval) (result : Result (List ℤ) E) → IfOk result IsDomain →
    IfOk result (λ d. (v : ℤ) → Contains d v ↔ InSome rs v) → IfOk result (λ d. d ≡ union_of rs)
union_made rs (Ok d) dom has = union_is rs d dom has
union_made rs (Err stop) dom has = tt

-- the ends of ranges of which none passes the limits
is_within : (v : ℤ) → is_value v ≡ true → WithinLimits v
is_within v h = (grind (arith, ints), grind (arith, ints))

inside_parts : (a b rest : Bool) → (not (a && b) || rest) ≡ false → (a ≡ true) × (b ≡ true) × (rest ≡ false)
inside_parts true true rest h = (refl, refl, h)
inside_parts true false rest h = cc
inside_parts false b rest h = cc

first_inside : (r : Interval) (rest : Bool) → (is_outside r || rest) ≡ false → WithinLimits r.low × WithinLimits r.high
first_inside r rest h = let p = inside_parts (is_value r.low) (is_value r.high) rest h in (is_within r.low p.0, is_within r.high p.1)

-- the digits
digit_test : (v : ℤ) → list_any (λ r. is_between r.low v r.high) digits ≡ is_between (pos 0) v (pos 9)
digit_test v = or_false (is_between (pos 0) v (pos 9))
  where
    or_false : (b : Bool) → (b || false) ≡ b
    or_false true = refl
    or_false false = refl

pub ten_digits : length (union_of digits) ≡ 10
unfolding union_of
ten_digits =
    let test : ℤ → Bool = λ v. list_any (λ r. is_between r.low v r.high) digits in
    let low = neg_ℤ (pos 1000000) in let high = pos 1000000 in
    let first = between_split low (neg_ℤ (pos 1)) high (omega (arith, ints)) (omega (arith, ints)) in
    let second = between_split (pos 0) (pos 9) high (omega (arith, ints)) (omega (arith, ints)) in
    let below = none_between test low (neg_ℤ (pos 1)) (omega (arith, ints)) (λ v from to. digit_test v ∙ outside v (inl (omega (arith, ints, to)))) in
    let here = all_between test (pos 0) (pos 9) (omega (arith, ints)) (λ v from to. digit_test v ∙ inside v from to) in
    let above = none_between test (pos 10) high (omega (arith, ints)) (λ v from to. digit_test v ∙ outside v (inr (omega (arith, ints, from)))) in
    let a =
    values_between low (neg_ℤ (pos 1)) in let b =
    values_between (pos 0) (pos 9) in let c = values_between (pos 10) high in let rest = values_between (pos 0) high in
    let whole : filter test (values_between low high) ≡ b =
    ap (filter test) first ∙ filter-append test a rest ∙ ap (λ (l : List ℤ). l ++ filter test rest) below ∙ ap (filter test) second ∙ filter-append test b c
    ∙ ap (λ (l : List ℤ). l ++ filter test c) here ∙ ap (λ (l : List ℤ). b ++ l) above ∙ append-nil b in
    let ten = length-between (pos 0) (pos 9) (omega (arith, ints)) in
    ap length whole ∙ omega (arith, ints, ten)
  where
    inside : (v : ℤ) → pos 0 ≤ℤ v → v ≤ℤ pos 9 → is_between (pos 0) v (pos 9) ≡ true
    inside v from to = grind (arith, ints)

    outside : (v : ℤ) → (v <ℤ pos 0) ⊎ (pos 9 <ℤ v) → is_between (pos 0) v (pos 9) ≡ false
    outside v (inl h) = grind (arith, ints)
    outside v (inr h) = grind (arith, ints)

-- ranges of which none is empty and none passes the limits may be united
forward_first : (r : Interval) (rest : Bool) → (is_backward r || rest) ≡ false → r.low ≤ℤ r.high
forward_first r rest h = not_below r.high r.low (left (is_backward r) rest h)
  where
    left : (a b : Bool) → (a || b) ≡ false → a ≡ false
    left true b h = cc
    left false b h = refl

    not_below : (a b : ℤ) → int_lt a b ≡ false → b ≤ℤ a
    not_below a b h = grind (arith, ints)

right : (a b : Bool) → (a || b) ≡ false → b ≡ false
right true b h = cc
right false b h = h

each_usable : (rs : List Interval) → list_any is_backward rs ≡ false → list_any is_outside rs ≡ false → AllByRecursion IsUsable rs
each_usable [] forward inside = tt
each_usable (r ∷ rs) forward inside =
    let ends = first_inside r (list_any is_outside rs) inside in
    let ordered = forward_first r (list_any is_backward rs) forward in (
      (ends.0.0, ordered, ends.1.1),
      each_usable rs (right (is_backward r) (list_any is_backward rs) forward) (right (is_outside r) (list_any is_outside rs) inside),
    )

pub all_usable : (rs : List Interval) → list_any is_backward rs ≡ false → list_any is_outside rs ≡ false → All IsUsable rs
all_usable rs forward inside = All-from_recursion IsUsable rs (each_usable rs forward inside)

-- and their union is a domain
pub union_is_domain : (rs : List Interval) → 0 < length rs → list_any is_backward rs ≡ false → list_any is_outside rs ≡ false → IsDomain (union_of rs)
unfolding union_of values_between IsRising InSome
union_is_domain [] some forward inside = absurd (omega (arith, some))
union_is_domain (r ∷ rs) some forward inside =
    let test : ℤ → Bool = λ v. list_any (λ q. is_between q.low v q.high) (r ∷ rs) in
    let all = run (neg_ℤ (pos 1000000)) 2000001 in
    let ordered = forward_first r (list_any is_backward rs) forward in
    let low = (first_inside r (list_any is_outside rs) inside).0 in
    let has = (contains_filter test all r.low).1
    (between_has (neg_ℤ (pos 1000000)) (pos 1000000) r.low low.0 low.1, in_some_any (r ∷ rs) r.low (inl (omega (arith, ints), ordered))) in record {
      rising = rising_filter test all (subst IsRising (append-nil all) (rising_run (neg_ℤ (pos 1000000)) 2000001 [] tt tt));
      some = λ none. nothing_in r.low (subst (λ l. Contains l r.low) none has);
      within = each_filter WithinLimits test all
          (all_run (neg_ℤ (pos 1000000)) (neg_ℤ (pos 1000000)) 2000001 (pos 1000000) (omega (arith, ints)) (omega (arith, ints)));
    }

pub digits_are_domain : IsDomain (union_of digits)
digits_are_domain = union_is_domain digits (omega arith) refl refl

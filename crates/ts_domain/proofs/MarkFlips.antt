-- What one more mark, or one less, does to the numbers: the number at it is there exactly if it wasn't.
use Rattle.std.proofs.Common.{◌≡◌, ℤ, pos, neg_ℤ, ◌+ℤ◌, ◌-ℤ◌, ◌≤ℤ◌, ◌<ℤ◌, ◌⊎◌, inl, inr, ◌↔◌, Bool, true, false, not, cond, IsTrue, Option, None}
use Rattle.std.proofs.Common.{Some, List, [], ◌∷◌, ◌++◌, refl, sym, ap, ◌∙◌, subst, arith}
use Rattle.std.proofs.lemmas.Int.{ints, by_lt_z}
use Rattle.std.proofs.lemmas.Bool.{both_ways}
use Rattle.std.proofs.lemmas.Bool.Decides.{Decides-int_eq}
use Rattle.std.proofs.lemmas.List.Elements.{Contains-append_cases, Contains-append_left, Contains-append_right}
use Rattle.std.specs.Prelude.{filter, int_le, int_lt, Contains, MatchOption}
use Rattle.std.specs.Ordering.{int_eq}
use Rattle.std.specs.List.{AllByRecursion}
use Rattle.ts_domain.specs.declared.marks.Mark.{Mark}
use Rattle.ts_domain.specs.Marks.{mark_at, flip_mark, MarksFrom, AreTold, numbers, own, put_back}
use Rattle.ts_domain.specs.Kept.{values_up_to, values_above, values_without}
use Rattle.ts_domain.specs.Values.{IsRising, IsDomain, WithinLimits}
use Rattle.ts_domain.proofs.Sets.{contains_cons, each_from, each_filter, rising_filter, rising_append, all_append, lt_true, lt_false}
use Rattle.ts_domain.proofs.BoxLaws.{contains_up_to, contains_above, contains_without, some_stay}
use Rattle.ts_domain.proofs.SameSets.{same_set}
use Rattle.ts_domain.proofs.MarkLaws.{mark_map, no_mark_at, all_from, marks_earlier}
use Rattle.ts_domain.proofs.MarkSets.{IsThere, contains_numbers, numbers_rise}

abbrev bottom : ℤ
bottom = neg_ℤ (pos 1000000)

not_eq : (a b : ℤ) → a <ℤ b → int_eq b a ≡ false
not_eq a b lt = grind (arith, ints)

-- one mark more or less at each of three places of the first mark
flip_before : (m x : Mark) (xs : List Mark) → m.value <ℤ x.value → flip_mark m (x ∷ xs) ≡ m ∷ x ∷ xs
unfolding flip_mark
flip_before m x xs lt =
    ap (λ b. cond b (x ∷ flip_mark m xs) (cond (int_eq x.value m.value) xs (m ∷ x ∷ xs))) (lt_false x.value m.value (weak lt)) ∙
    ap (λ b. cond b xs (m ∷ x ∷ xs)) (not_eq m.value x.value lt)
  where
    weak : m.value <ℤ x.value → m.value ≤ℤ x.value
    weak h = omega (arith, ints, h)

flip_here : (m x : Mark) (xs : List Mark) → x.value ≡ m.value → flip_mark m (x ∷ xs) ≡ xs
unfolding flip_mark
flip_here m x xs e =
    ap (λ b. cond b (x ∷ flip_mark m xs) (cond (int_eq x.value m.value) xs (m ∷ x ∷ xs))) (lt_false x.value m.value (weak e)) ∙
    ap (λ b. cond b xs (m ∷ x ∷ xs)) ((Decides-int_eq x.value m.value).1 e)
  where
    weak : x.value ≡ m.value → m.value ≤ℤ x.value
    weak h = omega (arith, ints, h)

flip_later : (m x : Mark) (xs : List Mark) → x.value <ℤ m.value → flip_mark m (x ∷ xs) ≡ x ∷ flip_mark m xs
unfolding flip_mark
flip_later m x xs lt =
    ap (λ b. cond b (x ∷ flip_mark m xs) (cond (int_eq x.value m.value) xs (m ∷ x ∷ xs))) (lt_true x.value m.value lt)

three : (P : Type 0) (x m : ℤ) → (x <ℤ m → P) → (x ≡ m → P) → (m <ℤ x → P) → P
three P x m low here high = by_lt_z x m low (λ ge. by_lt_z m x high (λ le. here (omega (arith, ints, ge, le))))

-- the marks rise, and tell of the set
pub flip_rises : (f : ℤ) (m : Mark) (ms : List Mark) → MarksFrom f ms → f ≤ℤ m.value → m.value ≤ℤ pos 1000000 → MarksFrom f (flip_mark m ms)
unfolding MarksFrom flip_mark
flip_rises f m [] h from to = (from, to, tt)
flip_rises f m (x ∷ xs) h from to = three (MarksFrom f (flip_mark m (x ∷ xs))) x.value m.value
    (λ lt. subst (MarksFrom f) (sym (flip_later m x xs lt)) (h.0, h.1, flip_rises (x.value +ℤ pos 1) m xs h.2 (up x.value m.value lt) to))
    (λ e. subst (MarksFrom f) (sym (flip_here m x xs e)) (marks_earlier f (x.value +ℤ pos 1) xs (past f x.value h.0) h.2))
    (λ lt. subst (MarksFrom f) (sym (flip_before m x xs lt)) (from, to, (up m.value x.value lt, h.1, h.2)))
  where
    up : (a b : ℤ) → a <ℤ b → (a +ℤ pos 1) ≤ℤ b
    up a b lt = omega (arith, ints, lt)

    past : (a b : ℤ) → a ≤ℤ b → a ≤ℤ (b +ℤ pos 1)
    past a b le = omega (arith, ints, le)

pub flip_told : (all : List ℤ) (m : Mark) (ms : List Mark) → AreTold all ms → (IsTrue m.gone ↔ Contains all m.value) → AreTold all (flip_mark m ms)
unfolding flip_mark
flip_told all m [] h told = (told, tt)
flip_told all m (x ∷ xs) h told = three (AreTold all (flip_mark m (x ∷ xs))) x.value m.value
    (λ lt. subst (AreTold all) (sym (flip_later m x xs lt)) (h.0, flip_told all m xs h.1 told))
    (λ e. subst (AreTold all) (sym (flip_here m x xs e)) h.1)
    (λ lt. subst (AreTold all) (sym (flip_before m x xs lt)) (told, h))

-- the mark at a number
at_first : (v : ℤ) (x : Mark) (xs : List Mark) → x.value ≡ v → mark_at v (x ∷ xs) ≡ Some x.gone
unfolding mark_at
at_first v x xs e = ap (λ b. cond b (Some x.gone) (mark_at v xs)) ((Decides-int_eq x.value v).1 e)

at_later : (v : ℤ) (x : Mark) (xs : List Mark) → (x.value ≡ v → ⊥) → mark_at v (x ∷ xs) ≡ mark_at v xs
unfolding mark_at
at_later v x xs ne = by_test (int_eq x.value v) refl
  where
    by_test : (b : Bool) → int_eq x.value v ≡ b → cond b (Some x.gone) (mark_at v xs) ≡ mark_at v xs
    by_test true e = absurd (ne ((Decides-int_eq x.value v).0 e))
    by_test false e = refl

at_rest : (v : ℤ) (x : Mark) (xs ys : List Mark) → mark_at v xs ≡ mark_at v ys → mark_at v (x ∷ xs) ≡ mark_at v (x ∷ ys)
unfolding mark_at
at_rest v x xs ys e = ap (λ o. cond (int_eq x.value v) (Some x.gone) o) e

pub flip_elsewhere : (v : ℤ) (m : Mark) (ms : List Mark) → (m.value ≡ v → ⊥) → mark_at v (flip_mark m ms) ≡ mark_at v ms
unfolding flip_mark
flip_elsewhere v m [] ne = at_later v m [] ne
flip_elsewhere v m (x ∷ xs) ne = three (mark_at v (flip_mark m (x ∷ xs)) ≡ mark_at v (x ∷ xs)) x.value m.value
    (λ lt. ap (mark_at v) (flip_later m x xs lt) ∙ at_rest v x (flip_mark m xs) xs (flip_elsewhere v m xs ne))
    (λ e. ap (mark_at v) (flip_here m x xs e) ∙ sym (at_later v x xs (λ is. ne (sym e ∙ is))))
    (λ lt. ap (mark_at v) (flip_before m x xs lt) ∙ at_later v m (x ∷ xs) ne)

-- at its own number: a mark comes in where none was, and goes where one was
abbrev Turned : Mark → Option Bool → Option Bool → Type 0
Turned m None after = after ≡ Some m.gone
Turned m (Some g) after = after ≡ None

flip_own : (f : ℤ) (m : Mark) (ms : List Mark) → MarksFrom f ms → Turned m (mark_at m.value ms) (mark_at m.value (flip_mark m ms))
unfolding flip_mark mark_at MarksFrom
flip_own f m [] h = at_first m.value m [] refl
flip_own f m (x ∷ xs) h = three (Turned m (mark_at m.value (x ∷ xs)) (mark_at m.value (flip_mark m (x ∷ xs)))) x.value m.value
    (λ lt. subst (λ o. Turned m o (mark_at m.value (flip_mark m (x ∷ xs)))) (sym (at_later m.value x xs (λ e. differ x.value m.value lt e)))
    (subst (Turned m (mark_at m.value xs))
    (sym (ap (mark_at m.value) (flip_later m x xs lt) ∙ at_later m.value x (flip_mark m xs) (λ e. differ x.value m.value lt e)))
    (flip_own (x.value +ℤ pos 1) m xs h.2)))
    (λ e. subst (λ o. Turned m o (mark_at m.value (flip_mark m (x ∷ xs)))) (sym (at_first m.value x xs e)) (ap (mark_at m.value) (flip_here m x xs e) ∙
    no_mark_at m.value xs (mark_map (λ y. (x.value +ℤ pos 1) ≤ℤ y.value) (λ y. m.value <ℤ y.value) (λ y le. over x.value m.value y.value e le) xs
    (all_from (x.value +ℤ pos 1) xs h.2))))
    (λ lt. subst (λ o. Turned m o (mark_at m.value (flip_mark m (x ∷ xs)))) (sym (no_mark_at m.value (x ∷ xs) (
      lt,
      mark_map (λ y. (x.value +ℤ pos 1) ≤ℤ y.value) (λ y. m.value <ℤ y.value) (λ y le. far m.value x.value y.value lt le) xs
          (all_from (x.value +ℤ pos 1) xs h.2),
    )))
    (ap (mark_at m.value) (flip_before m x xs lt) ∙ at_first m.value m (x ∷ xs) refl))
  where
    differ : (a b : ℤ) → a <ℤ b → a ≡ b → ⊥
    differ a b lt e = omega (arith, ints, lt, e)

    over : (a b c : ℤ) → a ≡ b → (a +ℤ pos 1) ≤ℤ c → b <ℤ c
    over a b c e le = omega (arith, ints, e, le)

    far : (a b c : ℤ) → a <ℤ b → (b +ℤ pos 1) ≤ℤ c → a <ℤ c
    far a b c lt le = omega (arith, ints, lt, le)

told_at : (all : List ℤ) (ms : List Mark) (v : ℤ) → AreTold all ms → MatchOption (mark_at v ms) (Unit {0}) (λ g. IsTrue g ↔ Contains all v)
unfolding mark_at
told_at all [] v h = tt
told_at all (x ∷ xs) v h = by_test (told_at all xs v h.1) (int_eq x.value v) refl
  where
    by_test : MatchOption (mark_at v xs) (Unit {0}) (λ g. IsTrue g ↔ Contains all v) → (b : Bool) → int_eq x.value v ≡ b →
        MatchOption (cond b (Some x.gone) (mark_at v xs)) (Unit {0}) (λ g. IsTrue g ↔ Contains all v)
    by_test rest true e = subst (λ w. IsTrue x.gone ↔ Contains all w) ((Decides-int_eq x.value v).0 e) h.0
    by_test rest false e = rest

-- where a number is told, it is there after the change exactly if it wasn't before
turned_there : (all : List ℤ) (m : Mark) (o after : Option Bool) → MatchOption o (Unit {0}) (λ g. IsTrue g ↔ Contains all m.value) →
    (IsTrue m.gone ↔ Contains all m.value) → Turned m o after → (IsThere all o m.value → IsThere all after m.value → ⊥) ×
    ((IsThere all o m.value → ⊥) → IsThere all after m.value)
turned_there all m None after t told is = (
  λ was now. both_ways m.gone (subst (λ o. IsThere all o m.value) is now) (told.1 was),
  λ wasnt. subst (λ o. IsThere all o m.value) (sym is) (by_test m.gone refl wasnt),
)
  where
    by_test : (b : Bool) → m.gone ≡ b → (Contains all m.value → ⊥) → m.gone ≡ false
    by_test true e wasnt = absurd (wasnt (told.0 e))
    by_test false e wasnt = e
turned_there all m (Some g) after t told is = (
  λ was now. both_ways g was (t.1 (subst (λ o. IsThere all o m.value) is now)),
  λ wasnt. subst (λ o. IsThere all o m.value) (sym is) (by_test g refl wasnt),
)
  where
    by_test : (b : Bool) → g ≡ b → (g ≡ false → ⊥) → Contains all m.value
    by_test true e wasnt = t.0 e
    by_test false e wasnt = absurd (wasnt e)

pub record Flips (old new : List ℤ) (v : ℤ) : Type 0 where
  pub gone : Contains old v → Contains new v → ⊥
  pub come : (Contains old v → ⊥) → Contains new v
  pub other : (w : ℤ) → (v ≡ w → ⊥) → Contains new w ↔ Contains old w

pub flips : (all : List ℤ) (m : Mark) (ms : List Mark) → MarksFrom bottom ms → bottom ≤ℤ m.value → m.value ≤ℤ pos 1000000 → AreTold all ms →
    (IsTrue m.gone ↔ Contains all m.value) → Flips (numbers all ms) (numbers all (flip_mark m ms)) m.value
flips all m ms h from to told own_told =
    let h' = flip_rises bottom m ms h from to in
    let was = contains_numbers bottom all ms m.value h in let is = contains_numbers bottom all (flip_mark m ms) m.value h' in
    let t = turned_there all m (mark_at m.value ms) (mark_at m.value (flip_mark m ms)) (told_at all ms m.value told) own_told
    (flip_own bottom m ms h) in record {
      gone = λ old new. t.0 (was.0 old) (is.0 new);
      come = λ none. is.1 (t.1 (λ there. none (was.1 there)));
      other = λ w ne. (
          let a = contains_numbers bottom all ms w h in let b = contains_numbers bottom all (flip_mark m ms) w h' in
          let e = flip_elsewhere w m ms ne in
          (λ has. a.1 (subst (λ o. IsThere all o w) e (b.0 has)), λ has. b.1 (subst (λ o. IsThere all o w) (sym e) (a.0 has))));
    }

-- the list without the number, or with it
pub flipped_away : (old new : List ℤ) (v : ℤ) → IsRising old → IsRising new → Flips old new v → Contains old v → new ≡ values_without v old
flipped_away old new v rise rise' f has = same_set new (values_without v old) rise' (rising_filter (λ w. other w) old rise) (λ w. (
  λ there. let ne : w ≡ v → ⊥ = λ e. f.gone has (subst (Contains new) e there) in (contains_without v old w).1 ((f.other w (λ e. ne (sym e))).0 there, ne),
  λ there. let d = (contains_without v old w).0 there in (f.other w (λ e. d.1 (sym e))).1 d.0,
))
  where
    other : ℤ → Bool
    other w = not (int_eq w v)

pub put_back_rises : (v : ℤ) (old : List ℤ) → IsRising old → (Contains old v → ⊥) → IsRising (put_back v old)
unfolding IsRising
put_back_rises v old rise none =
    rising_append (values_up_to v old) (v ∷ values_above v old) (v -ℤ pos 1) (rising_filter (λ w. int_le w v) old rise)
    (each_from (λ w. v <ℤ w) (values_above v old) (λ w has. ((contains_above v old w).0 has).1), rising_filter (λ w. int_lt v w) old rise)
    (each_from (λ w. w ≤ℤ (v -ℤ pos 1)) (values_up_to v old) (λ w has. let d = (contains_up_to v old w).0 has in
    by_lt_z w v (λ lt. down w v lt) (λ ge. absurd (none (subst (Contains old) (same w v ge d.1) d.0)))))
    (here v, each_from (λ w. (v -ℤ pos 1) <ℤ w) (values_above v old) (λ w has. far v w ((contains_above v old w).0 has).1))
  where
    down : (a b : ℤ) → a <ℤ b → a ≤ℤ (b -ℤ pos 1)
    down a b lt = omega (arith, ints, lt)

    same : (a b : ℤ) → b ≤ℤ a → a ≤ℤ b → a ≡ b
    same a b h g = omega (arith, ints, h, g)

    here : (a : ℤ) → (a -ℤ pos 1) <ℤ a
    here a = omega (arith, ints)

    far : (a b : ℤ) → a <ℤ b → (a -ℤ pos 1) <ℤ b
    far a b lt = omega (arith, ints, lt)

pub contains_put_back : (v : ℤ) (old : List ℤ) (w : ℤ) → Contains (put_back v old) w ↔ (Contains old w ⊎ (v ≡ w))
contains_put_back v old w = (
  λ has. elim (Contains-append_cases (values_up_to v old) (v ∷ values_above v old) w has) [
    | inl low ↦ inl ((contains_up_to v old w).0 low).0
    | inr high ↦ elim ((contains_cons v (values_above v old) w).0 high) [ inl e ↦ inr e | inr later ↦ inl ((contains_above v old w).0 later).0 ]
  ],
  λ h. elim h [
    | inl has ↦ by_lt_z v w
        (λ lt. Contains-append_right (values_up_to v old) (v ∷ values_above v old) w
        ((contains_cons v (values_above v old) w).1 (inr ((contains_above v old w).1 (has, lt)))))
        (λ le. Contains-append_left (values_up_to v old) (v ∷ values_above v old) w ((contains_up_to v old w).1 (has, le)))
    | inr e ↦ Contains-append_right (values_up_to v old) (v ∷ values_above v old) w ((contains_cons v (values_above v old) w).1 (inl e))
  ],
)

pub flipped_back : (old new : List ℤ) (v : ℤ) → IsRising old → IsRising new → Flips old new v → (Contains old v → ⊥) → new ≡ put_back v old
flipped_back old new v rise rise' f none = same_set new (put_back v old) rise' (put_back_rises v old rise none) (λ w. (
  λ there. (contains_put_back v old w).1 (three (Contains old w ⊎ (v ≡ w)) v w (λ lt. inl ((f.other w (λ e. differ v w lt e)).0 there)) (λ e. inr e)
      (λ lt. inl ((f.other w (λ e. differ w v lt (sym e))).0 there))),
  λ there. elim ((contains_put_back v old w).0 there) [
    | inl has ↦ (f.other w (λ e. none (subst (Contains old) (sym e) has))).1 has
    | inr e ↦ subst (Contains new) e (f.come none)
  ],
))
  where
    differ : (a b : ℤ) → a <ℤ b → a ≡ b → ⊥
    differ a b lt e = omega (arith, ints, lt, e)

pub put_back_without : (v : ℤ) (old : List ℤ) → IsRising old → Contains old v → put_back v (values_without v old) ≡ old
put_back_without v old rise has = let left = values_without v old in
    same_set (put_back v left) old (put_back_rises v left (rising_filter (λ w. not (int_eq w v)) old rise)
    (λ there. ((contains_without v old v).0 there).1 refl)) rise (λ w. (
      λ there. elim ((contains_put_back v left w).0 there) [ inl h ↦ ((contains_without v old w).0 h).0 | inr e ↦ subst (Contains old) e has ],
      λ h. (contains_put_back v left w).1 (three (Contains left w ⊎ (v ≡ w)) v w (λ lt. inl ((contains_without v old w).1 (h, λ e. differ v w lt (sym e))))
          (λ e. inr e) (λ lt. inl ((contains_without v old w).1 (h, λ e. differ w v lt e)))),
    ))
  where
    differ : (a b : ℤ) → a <ℤ b → a ≡ b → ⊥
    differ a b lt e = omega (arith, ints, lt, e)

-- the change leaves a number
pub flipped_some : (old new : List ℤ) (v : ℤ) → IsRising old → IsRising new → Flips old new v → (Contains old v → values_without v old ≡ [] → ⊥) → new ≡ [] → ⊥
flipped_some old new v rise rise' f stays none =
    let without : Contains old v → ⊥ = λ has. stays has (sym (flipped_away old new v rise rise' f has) ∙ none) in some_stay new v (f.come without) none

-- they are within the limits
pub numbers_within : (P : ℤ → Type 0) (all : List ℤ) (ms : List Mark) → AllByRecursion P all → AllByRecursion (λ m. P m.value) ms →
    AllByRecursion P (numbers all ms)
unfolding numbers
numbers_within P all [] a h = a
numbers_within P all (m ∷ ms) a h =
    all_append P (filter (λ v. int_lt v m.value) all ++ own m) (numbers (filter (λ v. int_lt m.value v) all) ms)
    (all_append P (filter (λ v. int_lt v m.value) all) (own m) (each_filter P (λ v. int_lt v m.value) all a) (by_test m.gone))
    (numbers_within P (filter (λ v. int_lt m.value v) all) ms (each_filter P (λ v. int_lt m.value v) all a) h.1)
  where
    by_test : (b : Bool) → AllByRecursion P (cond b [] (m.value ∷ []))
    by_test true = tt
    by_test false = (h.0, tt)

pub marks_within : (f : ℤ) (ms : List Mark) → bottom ≤ℤ f → MarksFrom f ms → AllByRecursion (λ m. WithinLimits m.value) ms
unfolding MarksFrom
marks_within f [] le h = tt
marks_within f (m ∷ ms) le h = ((low f m.value le h.0, h.1), marks_within (m.value +ℤ pos 1) ms (next f m.value le h.0) h.2)
  where
    low : (f v : ℤ) → bottom ≤ℤ f → f ≤ℤ v → bottom ≤ℤ v
    low f v h g = omega (arith, ints, h, g)

    next : (f v : ℤ) → bottom ≤ℤ f → f ≤ℤ v → bottom ≤ℤ (v +ℤ pos 1)
    next f v h g = omega (arith, ints, h, g)

pub numbers_domain : (all : List ℤ) (ms : List Mark) → IsRising all → AllByRecursion WithinLimits all → MarksFrom bottom ms → (numbers all ms ≡ [] → ⊥) →
    IsDomain (numbers all ms)
numbers_domain all ms rise within h some = record {
  rising = numbers_rise bottom all ms rise h;
  some = some;
  within = numbers_within WithinLimits all ms within (marks_within bottom ms (omega (arith, ints)) h);
}

-- What is made of marks that were cut at a number: one of them more or less, and those on one side.
use Rattle.std.proofs.Common.{◌≡◌, ℤ, pos, neg_ℤ, ◌+ℤ◌, ◌≤ℤ◌, ◌<ℤ◌, Bool, true, false, cond, List, [], ◌∷◌, ◌++◌, refl, sym, ap, ◌∙◌, subst, arith}
use Rattle.std.proofs.Common.{append_assoc, append-nil}
use Rattle.std.proofs.lemmas.Int.{ints}
use Rattle.std.proofs.lemmas.Bool.Decides.{Decides-int_eq}
use Rattle.std.specs.Prelude.{filter, int_le, int_lt}
use Rattle.std.specs.Ordering.{int_eq}
use Rattle.std.specs.List.{AllByRecursion}
use Rattle.ts_domain.specs.declared.marks.Mark.{Mark}
use Rattle.ts_domain.specs.Marks.{MarksFrom, flip_mark}
use Rattle.ts_domain.proofs.Sets.{lt_true, lt_false, le_false}
use Rattle.ts_domain.proofs.MarkLaws.{marks_back, marks_front, marks_between}
use Rattle.ts_domain.proofs.MarkReads.{IsCutAt}

abbrev bottom : ℤ
bottom = neg_ℤ (pos 1000000)

no_eq : (a b : ℤ) → b <ℤ a → int_eq a b ≡ false
no_eq a b lt = grind (arith, ints)

-- one more mark, and one less
flip_in : (m : Mark) (a c : List Mark) → AllByRecursion (λ x. x.value <ℤ m.value) a → AllByRecursion (λ y. m.value <ℤ y.value) c →
    flip_mark m (a ++ c) ≡ a ++ m ∷ c
unfolding flip_mark
flip_in m [] [] low high = refl
flip_in m [] (y ∷ ys) low high =
    ap (λ b. cond b (y ∷ flip_mark m ys) (cond (int_eq y.value m.value) ys (m ∷ y ∷ ys))) (lt_false y.value m.value (weak high.0)) ∙
    ap (λ b. cond b ys (m ∷ y ∷ ys)) (no_eq y.value m.value high.0)
  where
    weak : m.value <ℤ y.value → m.value ≤ℤ y.value
    weak h = omega (arith, ints, h)
flip_in m (x ∷ xs) c low high =
    ap (λ b. cond b (x ∷ flip_mark m (xs ++ c)) (cond (int_eq x.value m.value) (xs ++ c) (m ∷ x ∷ (xs ++ c)))) (lt_true x.value m.value low.0) ∙
    ap (λ l. x ∷ l) (flip_in m xs c low.1 high)

flip_out : (m : Mark) (a : List Mark) (n : Mark) (c : List Mark) → AllByRecursion (λ x. x.value <ℤ m.value) a → n.value ≡ m.value →
    flip_mark m (a ++ n ∷ c) ≡ a ++ c
unfolding flip_mark
flip_out m [] n c low e =
    ap (λ b. cond b (n ∷ flip_mark m c) (cond (int_eq n.value m.value) c (m ∷ n ∷ c))) (lt_false n.value m.value (weak e)) ∙
    ap (λ b. cond b c (m ∷ n ∷ c)) ((Decides-int_eq n.value m.value).1 e)
  where
    weak : n.value ≡ m.value → m.value ≤ℤ n.value
    weak h = omega (arith, ints, h)
flip_out m (x ∷ xs) n c low e =
    ap (λ b. cond b (x ∷ flip_mark m (xs ++ n ∷ c)) (cond (int_eq x.value m.value) (xs ++ n ∷ c) (m ∷ x ∷ (xs ++ n ∷ c)))) (lt_true x.value m.value low.0) ∙
    ap (λ l. x ∷ l) (flip_out m xs n c low.1 e)

-- without the marks between
pub sides : (f : ℤ) (a b c : List Mark) → MarksFrom f ((a ++ b) ++ c) → MarksFrom f (a ++ c)
unfolding MarksFrom
sides f [] b c h = marks_back f b c h
sides f (x ∷ xs) b c h = (h.0, h.1, sides (x.value +ℤ pos 1) xs b c h.2)

pub front_two : (f : ℤ) (a b c : List Mark) → MarksFrom f ((a ++ b) ++ c) → MarksFrom f (a ++ b)
front_two f a b c h = marks_front f (a ++ b) c h

-- at one number there is one mark
one_at : (f v : ℤ) (a : List Mark) (x y : Mark) (b : List Mark) → MarksFrom f (a ++ x ∷ y ∷ b) → x.value ≡ v → y.value ≡ v → ⊥
unfolding MarksFrom
one_at f v a x y b h e g = let here = marks_back f a (x ∷ y ∷ b) h in let from = here.2.0 in absurd (omega (arith, ints, from, e, g))

pub flipped_out : (m : Mark) (self a b c made : List Mark) → MarksFrom bottom self → IsCutAt m.value self a b c → (b ≡ [] → ⊥) → made ≡ a ++ c →
    made ≡ flip_mark m self
flipped_out m self a [] c made h cut some is = absurd (some refl)
flipped_out m self a (x ∷ []) c made h cut some is =
    is ∙ sym (ap (flip_mark m) (cut.all ∙ append_assoc a (x ∷ []) c) ∙ flip_out m a x c cut.before cut.at.0)
flipped_out m self a (x ∷ y ∷ b) c made h cut some is =
    absurd (one_at bottom m.value a x y (b ++ c) (subst (MarksFrom bottom) (cut.all ∙ append_assoc a (x ∷ y ∷ b) c) h) cut.at.0 cut.at.1.0)

pub flipped_in : (m : Mark) (self a b c made : List Mark) → IsCutAt m.value self a b c → b ≡ [] → made ≡ a ++ m ∷ c → made ≡ flip_mark m self
flipped_in m self a b c made cut none is =
    is ∙ sym (ap (flip_mark m) (cut.all ∙ ap (λ l. (a ++ l) ++ c) none ∙ ap (λ l. l ++ c) (append-nil a)) ∙ flip_in m a c cut.before cut.behind)

-- the mark that comes in stands between the two sides
next_up : (v : ℤ) (f : ℤ) (c : List Mark) → MarksFrom f c → AllByRecursion (λ y. v <ℤ y.value) c → MarksFrom (v +ℤ pos 1) c
unfolding MarksFrom
next_up v f [] h high = tt
next_up v f (y ∷ ys) h high = (up v y.value high.0, h.1, h.2)
  where
    up : (a b : ℤ) → a <ℤ b → (a +ℤ pos 1) ≤ℤ b
    up a b lt = omega (arith, ints, lt)

pub with_mark : (m : Mark) (self a b c : List Mark) → MarksFrom bottom self → IsCutAt m.value self a b c → bottom ≤ℤ m.value → m.value ≤ℤ pos 1000000 →
    MarksFrom bottom (a ++ m ∷ c)
with_mark m self a b c h cut from to =
    let all = subst (MarksFrom bottom) cut.all h in
    marks_between bottom a m c (marks_front bottom a c (sides bottom a b c all)) cut.before from to
    (next_up m.value bottom c (marks_back bottom (a ++ b) c all) cut.behind)

pub just_one : (m : Mark) (none none' : List Mark) → none ≡ [] → none' ≡ [] → bottom ≤ℤ m.value → m.value ≤ℤ pos 1000000 → MarksFrom bottom (none ++ m ∷ none')
unfolding MarksFrom
just_one m none none' e e' from to = subst (λ x. MarksFrom bottom (x ++ m ∷ none')) (sym e) (subst (λ x. MarksFrom bottom (m ∷ x)) (sym e') (from, to, tt))

pub one_then : (m : Mark) (none none' one c : List Mark) → none ≡ [] → none' ≡ [] → one ≡ none ++ m ∷ none' → m ∷ c ≡ one ++ c
one_then m none none' one c e e' is = sym (ap (λ x. x ++ c) (is ∙ ap (λ x. x ++ m ∷ none') e ∙ ap (λ x. m ∷ x) e'))

pub one_before : (m : Mark) (self a b c : List Mark) → MarksFrom bottom self → IsCutAt m.value self a b c → bottom ≤ℤ m.value → m.value ≤ℤ pos 1000000 →
    MarksFrom bottom (m ∷ c)
one_before m self a b c h cut from to = marks_back bottom a (m ∷ c) (with_mark m self a b c h cut from to)

-- the marks that pass a test
pub passing : (test : Mark → Bool) (P : Mark → Type 0) → ((m : Mark) → P m → test m ≡ true) → (xs ys : List Mark) → AllByRecursion P xs →
    filter test (xs ++ ys) ≡ xs ++ filter test ys
passing test P passes [] ys h = refl
passing test P passes (x ∷ xs) ys h =
    ap (λ b. cond b (x ∷ filter test (xs ++ ys)) (filter test (xs ++ ys))) (passes x h.0) ∙ ap (λ l. x ∷ l) (passing test P passes xs ys h.1)

pub failing : (test : Mark → Bool) (P : Mark → Type 0) → ((m : Mark) → P m → test m ≡ false) → (xs ys : List Mark) → AllByRecursion P xs →
    filter test (xs ++ ys) ≡ filter test ys
failing test P fails [] ys h = refl
failing test P fails (x ∷ xs) ys h =
    ap (λ b. cond b (x ∷ filter test (xs ++ ys)) (filter test (xs ++ ys))) (fails x h.0) ∙ failing test P fails xs ys h.1

le_of_lt : (t v : ℤ) → v <ℤ t → int_le v t ≡ true
le_of_lt t v lt = grind (arith, ints)

le_of_eq : (t v : ℤ) → v ≡ t → int_le v t ≡ true
le_of_eq t v e = grind (arith, ints)

lt_of_eq : (t v : ℤ) → v ≡ t → int_lt t v ≡ false
lt_of_eq t v e = grind (arith, ints)

no_lt : (t v : ℤ) → v <ℤ t → int_lt t v ≡ false
no_lt t v lt = grind (arith, ints)

pub marks_up_to : (t : ℤ) (self a b c made : List Mark) → IsCutAt t self a b c → made ≡ a ++ b → made ≡ filter (λ m. int_le m.value t) self
marks_up_to t self a b c made cut is =
    let test : Mark → Bool = λ m. int_le m.value t in
    is ∙ sym (ap (filter test) (cut.all ∙ append_assoc a b c) ∙
    passing test (λ m. m.value <ℤ t) (λ m lt. le_of_lt t m.value lt) a (b ++ c) cut.before ∙
    ap (λ l. a ++ l) (passing test (λ m. m.value ≡ t) (λ m e. le_of_eq t m.value e) b c cut.at ∙
    ap (λ l. b ++ l) (ap (filter test) (sym (append-nil c)) ∙ failing test (λ m. t <ℤ m.value) (λ m lt. le_false m.value t lt) c [] cut.behind) ∙ append-nil b))

pub marks_above : (t : ℤ) (self a b c made : List Mark) → IsCutAt t self a b c → made ≡ c → made ≡ filter (λ m. int_lt t m.value) self
marks_above t self a b c made cut is =
    let test : Mark → Bool = λ m. int_lt t m.value in
    is ∙ sym (ap (filter test) (cut.all ∙ append_assoc a b c) ∙
    failing test (λ m. m.value <ℤ t) (λ m lt. no_lt t m.value lt) a (b ++ c) cut.before ∙
    failing test (λ m. m.value ≡ t) (λ m e. lt_of_eq t m.value e) b c cut.at ∙
    ap (filter test) (sym (append-nil c)) ∙ passing test (λ m. t <ℤ m.value) (λ m lt. lt_true t m.value lt) c [] cut.behind ∙ append-nil c)

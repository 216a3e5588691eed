-- Marks in rising order: parts of them, and what they do together.
use Rattle.std.proofs.Common.{◌≡◌, ℤ, pos, neg_ℤ, ◌+ℤ◌, ◌-ℤ◌, ◌≤ℤ◌, ◌<ℤ◌, true, false, cond, None, Some, List, [], ◌∷◌, ◌++◌}
use Rattle.std.proofs.Common.{refl, sym, ap, ◌∙◌, arith}
use Rattle.std.proofs.lemmas.Int.{ints}
use Rattle.std.specs.Ordering.{int_eq}
use Rattle.std.specs.List.{AllByRecursion}
use Rattle.std.proofs.lemmas.Bool.Decides.{Decides-int_eq}
use Rattle.ts_domain.specs.declared.marks.Mark.{Mark}
use Rattle.ts_domain.specs.Marks.{gain, gain_of, mark_at, MarksFrom}

-- parts of rising marks
pub marks_earlier : (f g : ℤ) (ms : List Mark) → f ≤ℤ g → MarksFrom g ms → MarksFrom f ms
unfolding MarksFrom
marks_earlier f g [] le h = tt
marks_earlier f g (m ∷ ms) le h = (omega (arith, ints, le, h.0), h.1, h.2)

pub marks_front : (f : ℤ) (xs ys : List Mark) → MarksFrom f (xs ++ ys) → MarksFrom f xs
unfolding MarksFrom
marks_front f [] ys h = tt
marks_front f (x ∷ xs) ys h = (h.0, h.1, marks_front (x.value +ℤ pos 1) xs ys h.2)

pub marks_back : (f : ℤ) (xs ys : List Mark) → MarksFrom f (xs ++ ys) → MarksFrom f ys
unfolding MarksFrom
marks_back f [] ys h = h
marks_back f (x ∷ xs) ys h = marks_earlier f (x.value +ℤ pos 1) ys (omega (arith, ints, h.0)) (marks_back (x.value +ℤ pos 1) xs ys h.2)

-- each is below the ones after it
pub all_before : (f : ℤ) (xs : List Mark) (m : Mark) (ys : List Mark) → MarksFrom f (xs ++ m ∷ ys) → AllByRecursion (λ x. x.value <ℤ m.value) xs
unfolding MarksFrom
all_before f [] m ys h = tt
all_before f (x ∷ xs) m ys h = let later = marks_back (x.value +ℤ pos 1) xs (m ∷ ys) h.2 in
    (omega (arith, ints, later.0), all_before (x.value +ℤ pos 1) xs m ys h.2)

pub all_from : (f : ℤ) (ms : List Mark) → MarksFrom f ms → AllByRecursion (λ m. f ≤ℤ m.value) ms
unfolding MarksFrom
all_from f [] h = tt
all_from f (m ∷ ms) h = (h.0, all_from f ms (marks_earlier f (m.value +ℤ pos 1) ms (omega (arith, ints, h.0)) h.2))

pub mark_map : (P Q : Mark → Type 0) → ((m : Mark) → P m → Q m) → (ms : List Mark) → AllByRecursion P ms → AllByRecursion Q ms
mark_map P Q f [] h = tt
mark_map P Q f (m ∷ ms) h = (f m h.0, mark_map P Q f ms h.1)

pub all_behind : (f : ℤ) (xs : List Mark) (m : Mark) (ys : List Mark) → MarksFrom f (xs ++ m ∷ ys) → AllByRecursion (λ y. m.value <ℤ y.value) ys
unfolding MarksFrom
all_behind f xs m ys h = let here = marks_back f xs (m ∷ ys) h in
    mark_map (λ y. (m.value +ℤ pos 1) ≤ℤ y.value) (λ y. m.value <ℤ y.value) (λ y le. omega (arith, ints, le)) ys (all_from (m.value +ℤ pos 1) ys here.2)

-- marks of two lists with one between
pub marks_between : (f : ℤ) (xs : List Mark) (m : Mark) (ys : List Mark) → MarksFrom f xs → AllByRecursion (λ x. x.value <ℤ m.value) xs → f ≤ℤ m.value →
    m.value ≤ℤ pos 1000000 → MarksFrom (m.value +ℤ pos 1) ys → MarksFrom f (xs ++ m ∷ ys)
unfolding MarksFrom
marks_between f [] m ys h below from to later = (from, to, later)
marks_between f (x ∷ xs) m ys h below from to later =
    let first = below.0 in (h.0, h.1, marks_between (x.value +ℤ pos 1) xs m ys h.2 below.1 (omega (arith, ints, first)) to later)

-- what they do together
pub gain-append : (xs ys : List Mark) → gain (xs ++ ys) ≡ gain xs +ℤ gain ys
unfolding gain
gain-append [] ys = omega (arith, ints)
gain-append (x ∷ xs) ys = let e = gain-append xs ys in omega (arith, ints, e)

pub record Small (f g : ℤ) : Type 0 where
  pub from : neg_ℤ (pos 1000001 -ℤ f) ≤ℤ g
  pub to : g ≤ℤ (pos 1000001 -ℤ f)

pub small_gain_of : (m : Mark) → Small (pos 1000000) (gain_of m)
unfolding gain_of
small_gain_of m = elim m.gone as (λ b. Small (pos 1000000) (cond b (neg_ℤ (pos 1)) (pos 1))) [
  | true ↦ record { from = omega (arith, ints); to = omega (arith, ints) }
  | false ↦ record { from = omega (arith, ints); to = omega (arith, ints) }
]

pub small_gain : (f : ℤ) (ms : List Mark) → f ≤ℤ pos 1000001 → MarksFrom f ms → Small f (gain ms)
unfolding MarksFrom gain
small_gain f [] le h = record { from = omega (arith, ints, le); to = omega (arith, ints, le) }
small_gain f (m ∷ ms) le h =
    let to = h.1 in let from = h.0 in
    let one = small_gain_of m in let rest = small_gain (m.value +ℤ pos 1) ms (omega (arith, ints, to)) h.2 in record {
      from = omega (arith, ints, from, to, one.from, one.to, rest.from, rest.to);
      to = omega (arith, ints, from, to, one.from, one.to, rest.from, rest.to);
    }

-- the mark at a number
pub no_mark_at : (v : ℤ) (ms : List Mark) → AllByRecursion (λ m. v <ℤ m.value) ms → mark_at v ms ≡ None
unfolding mark_at
no_mark_at v [] h = refl
no_mark_at v (m ∷ ms) h =
    ap (λ b. cond b (Some m.gone) (mark_at v ms)) (differ m.value v h.0) ∙ no_mark_at v ms h.1
  where
    differ : (a b : ℤ) → b <ℤ a → int_eq a b ≡ false
    differ a b lt = grind (arith, ints)

pub mark_before : (v f : ℤ) (xs : List Mark) (m : Mark) (ys : List Mark) → MarksFrom f (xs ++ m ∷ ys) → v <ℤ m.value →
    mark_at v xs ≡ mark_at v (xs ++ m ∷ ys)
unfolding mark_at MarksFrom
mark_before v f [] m ys h lt = sym (no_mark_at v (m ∷ ys) (
  lt,
  mark_map (λ y. m.value <ℤ y.value) (λ y. v <ℤ y.value) (λ y k. omega (arith, ints, k, lt)) ys
      (all_behind f [] m ys h),
))
mark_before v f (x ∷ xs) m ys h lt =
    ap (λ o. cond (int_eq x.value v) (Some x.gone) o) (mark_before v (x.value +ℤ pos 1) xs m ys h.2 lt)

passed : (v : ℤ) (xs ys : List Mark) → AllByRecursion (λ m. m.value <ℤ v) xs → mark_at v (xs ++ ys) ≡ mark_at v ys
unfolding mark_at
passed v [] ys h = refl
passed v (x ∷ xs) ys h = ap (λ b. cond b (Some x.gone) (mark_at v (xs ++ ys))) (differ x.value v h.0) ∙ passed v xs ys h.1
  where
    differ : (a b : ℤ) → a <ℤ b → int_eq a b ≡ false
    differ a b lt = grind (arith, ints)

pub mark_here : (v f : ℤ) (xs : List Mark) (m : Mark) (ys : List Mark) → MarksFrom f (xs ++ m ∷ ys) → v ≡ m.value →
    Some m.gone ≡ mark_at v (xs ++ m ∷ ys)
unfolding mark_at
mark_here v f xs m ys h e =
    sym (passed v xs (m ∷ ys) (mark_map (λ x. x.value <ℤ m.value) (λ x. x.value <ℤ v) (λ x k. omega (arith, ints, k, e)) xs (all_before f xs m ys h)) ∙
    ap (λ b. cond b (Some m.gone) (mark_at v ys)) ((Decides-int_eq m.value v).1 (sym e)))

pub mark_behind : (v f : ℤ) (xs : List Mark) (m : Mark) (ys : List Mark) → MarksFrom f (xs ++ m ∷ ys) → m.value <ℤ v →
    mark_at v ys ≡ mark_at v (xs ++ m ∷ ys)
unfolding mark_at
mark_behind v f xs m ys h lt =
    sym (passed v xs (m ∷ ys) (mark_map (λ x. x.value <ℤ m.value) (λ x. x.value <ℤ v) (λ x k. omega (arith, ints, k, lt)) xs (all_before f xs m ys h)) ∙
    ap (λ b. cond b (Some m.gone) (mark_at v ys)) (differ m.value v lt))
  where
    differ : (a b : ℤ) → a <ℤ b → int_eq a b ≡ false
    differ a b lt = grind (arith, ints)

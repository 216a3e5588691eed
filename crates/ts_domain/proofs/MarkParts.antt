-- The numbers about the topmost mark of a tree.
use Rattle.std.proofs.Common.{◌≡◌, ℤ, pos, ◌+ℤ◌, ◌<ℤ◌, Bool, true, false, ◌&&◌, List, [], ◌∷◌, ◌++◌, refl, sym, ap, ◌∙◌, arith, append_assoc}
use Rattle.std.proofs.lemmas.Int.{ints}
use Rattle.std.specs.Prelude.{filter, int_lt}
use Rattle.ts_domain.specs.declared.marks.Mark.{Mark}
use Rattle.ts_domain.specs.Marks.{MarksFrom, numbers, own}
use Rattle.ts_domain.proofs.Sets.{filter_both, filter_alike}
use Rattle.ts_domain.proofs.MarkLaws.{marks_back}

pub below_below : (a b : ℤ) (all : List ℤ) → a <ℤ b → filter (λ v. int_lt v a) (filter (λ v. int_lt v b) all) ≡ filter (λ v. int_lt v a) all
below_below a b all lt =
    filter_both (λ v. int_lt v a) (λ v. int_lt v b) all ∙ filter_alike (λ v. int_lt v b && int_lt v a) (λ v. int_lt v a) all (λ v has. both v)
  where
    both : (v : ℤ) → (int_lt v b && int_lt v a) ≡ int_lt v a
    both v = grind (arith, ints)

pub over_over : (a b : ℤ) (all : List ℤ) → a <ℤ b → filter (λ v. int_lt b v) (filter (λ v. int_lt a v) all) ≡ filter (λ v. int_lt b v) all
over_over a b all lt =
    filter_both (λ v. int_lt b v) (λ v. int_lt a v) all ∙ filter_alike (λ v. int_lt a v && int_lt b v) (λ v. int_lt b v) all (λ v has. both v)
  where
    both : (v : ℤ) → (int_lt a v && int_lt b v) ≡ int_lt b v
    both v = grind (arith, ints)

pub either_order : (f g : ℤ → Bool) (all : List ℤ) → filter f (filter g all) ≡ filter g (filter f all)
either_order f g all = filter_both f g all ∙ filter_alike (λ v. g v && f v) (λ v. f v && g v) all (λ v has. turned (g v) (f v)) ∙ sym (filter_both g f all)
  where
    turned : (a b : Bool) → (a && b) ≡ (b && a)
    turned true true = refl
    turned true false = refl
    turned false true = refl
    turned false false = refl

pub numbers_between : (f : ℤ) (all : List ℤ) (xs : List Mark) (m : Mark) (ys : List Mark) → MarksFrom f (xs ++ m ∷ ys) →
    numbers all (xs ++ m ∷ ys) ≡ (numbers (filter (λ v. int_lt v m.value) all) xs ++ own m) ++ numbers (filter (λ v. int_lt m.value v) all) ys
unfolding MarksFrom numbers
numbers_between f all [] m ys h = refl
numbers_between f all (x ∷ xs) m ys h =
    let later = marks_back (x.value +ℤ pos 1) xs (m ∷ ys) h.2 in
    let lt : x.value <ℤ m.value = omega (arith, ints, later.0) in
    let low = filter (λ v. int_lt v x.value) all in let high = filter (λ v. int_lt x.value v) all in
    let rest = numbers_between (x.value +ℤ pos 1) high xs m ys h.2 in
    let last = numbers (filter (λ v. int_lt m.value v) all) ys in
    ap (λ l. (low ++ own x) ++ l) (rest ∙
    ap (λ l. (numbers (filter (λ v. int_lt v m.value) high) xs ++ own m) ++ numbers l ys) (over_over x.value m.value all lt)) ∙
    sym (append_assoc (low ++ own x) (numbers (filter (λ v. int_lt v m.value) high) xs ++ own m) last) ∙
    ap (λ l. l ++ last) (sym (append_assoc (low ++ own x) (numbers (filter (λ v. int_lt v m.value) high) xs) (own m))) ∙
    ap (λ l. (((l ++ own x) ++ numbers (filter (λ v. int_lt v m.value) high) xs) ++ own m) ++ last) (sym (below_below x.value m.value all lt)) ∙
    ap (λ l. (((filter (λ v. int_lt v x.value) (filter (λ v. int_lt v m.value) all) ++ own x) ++ numbers l xs) ++ own m) ++ last)
    (either_order (λ v. int_lt v m.value) (λ v. int_lt x.value v) all)

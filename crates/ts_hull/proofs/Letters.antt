-- Letters as orders.
use Rattle.std.proofs.Common.{◌≡◌, Bool, true, false, cond, ℤ, refl, sym, arith, int_lt}
use Rattle.std.specs.Ordering.{int_eq}
use Rattle.std.proofs.lemmas.Bool.Decides.{Decides-int_eq}
use Rattle.std.proofs.lemmas.Int.{ints}
use Rattle.ts_base.specs.declared.letter.Letter.TheVariants.{Less, Equal, Greater}
use Rattle.ts_base.specs.Signature.{letter_of}
use Rattle.ts_hull.specs.Sweeps.{same_letter}

pub less_is : (v w : ℤ) → same_letter (letter_of v w) Less ≡ int_lt v w
less_is v w = go (int_lt v w) (int_lt w v)
  where
    go : (a b : Bool) → same_letter (cond a Less (cond b Greater Equal)) Less ≡ a
    go true b = refl
    go false true = refl
    go false false = refl

not_both : (v w : ℤ) → int_lt v w ≡ true → int_lt w v ≡ false
not_both v w h = grind (arith, ints)

pub greater_is : (v w : ℤ) → same_letter (letter_of v w) Greater ≡ int_lt w v
greater_is v w = go (int_lt v w) (int_lt w v) (not_both v w)
  where
    go : (a b : Bool) → (a ≡ true → b ≡ false) → same_letter (cond a Less (cond b Greater Equal)) Greater ≡ b
    go true b h = sym (h refl)
    go false true h = refl
    go false false h = refl

not_equal : (v w : ℤ) → (v ≡ w → ⊥) → int_eq v w ≡ false
not_equal v w h = go (int_eq v w) refl
  where
    go : (b : Bool) → int_eq v w ≡ b → int_eq v w ≡ false
    go true e = absurd (h ((Decides-int_eq v w).0 e))
    go false e = e

below_apart : (v w : ℤ) → int_lt v w ≡ true → v ≡ w → ⊥
below_apart v w h e = grind (arith, ints)

neither_is : (v w : ℤ) → int_lt v w ≡ false → int_lt w v ≡ false → v ≡ w
neither_is v w h k = grind (arith, ints)

pub equal_is : (v w : ℤ) → same_letter (letter_of v w) Equal ≡ int_eq v w
equal_is v w = go (int_lt v w) (int_lt w v) refl refl
  where
    go : (a b : Bool) → int_lt v w ≡ a → int_lt w v ≡ b → same_letter (cond a Less (cond b Greater Equal)) Equal ≡ int_eq v w
    go true b e f = sym (not_equal v w (below_apart v w e))
    go false true e f = sym (not_equal v w (λ s. below_apart w v f (sym s)))
    go false false e f = sym ((Decides-int_eq v w).1 (neither_is v w e f))

pub ruleset letters_are = (less_is, equal_is, greater_is)

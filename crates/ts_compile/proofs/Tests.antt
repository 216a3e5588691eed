-- The test of a forward and a reverse table with the pairs of states at which one occurrence goes on: it computes, and
-- what it says holds of all states and letters.
use Rattle.std.specs.Prelude.{◌≡◌, ℕ, zero, suc, ◌<◌, ◌≤◌, Bool, true, false, not, ◌&&◌, List, length, refl}
use Rattle.std.proofs.Common.{sym, subst, arith, ⊎_elim}
use Rattle.std.proofs.Math.Nat.{eq-or-lt_of_le}
use Rattle.std.proofs.lemmas.Bool.{and_parts, not-true}
use Rattle.ts_base.specs.declared.letter.Letter.{Letter}
use Rattle.ts_base.specs.declared.letter.Letter.TheVariants.{Less, Equal, Greater}
use Rattle.ts_base.specs.declared.range.Kind.{Kind}
use Rattle.ts_base.specs.declared.range.Kind.TheVariants.{Idle, Pending, Held}
use Rattle.ts_base.specs.Signature.{flip_of}
use Rattle.ts_transducer.specs.declared.row.Row.{Row}
use Rattle.ts_transducer.specs.Typing.{is_held, is_typed}
use Rattle.ts_transducer.specs.Decode.{row_at, arrow_at}
use Rattle.ts_compile.proofs.Rules.{impossible, fits}

abbrev pub kind_at : List Row → ℕ → Kind
kind_at rows q = (row_at rows q).kind

-- where an occurrence keeps its last cell, it goes on only where both runs hold it
abbrev pub HeldPair : ℕ → Kind → Kind → Type 0
HeldPair zero k l = (k ≡ Held) × (l ≡ Held)
HeldPair (suc n) k l = Unit {0}

-- the letters of the two moves between a cell and the next one: forward from q on l, and back from r on the letter
-- read from the other side
abbrev pub triple_fits : ℕ → (ℕ → ℕ → Bool) → List Row → List Row → ℕ → ℕ → Letter → Bool
triple_fits a pairs fs bs q r l =
    let f = arrow_at fs q l in
    let b = arrow_at bs r (flip_of l) in
    fits a (kind_at fs q) f.phase (kind_at bs r) b.phase (pairs q b.next) (pairs f.next r)

pub record AreFitting (a : ℕ) (pairs : ℕ → ℕ → Bool) (fs bs : List Row) : Type 0 where
  pub forward : is_typed fs ≡ true
  pub reverse : is_typed bs ≡ true
  pub apart : (q : ℕ) → q < length fs → pairs q 0 ≡ false
  pub held : (q r : ℕ) → q < length fs → r < length bs → pairs q r ≡ true → HeldPair a (kind_at fs q) (kind_at bs r)
  pub triples : (q r : ℕ) (l : Letter) → q < length fs → r < length bs → triple_fits a pairs fs bs q r l ≡ true

-- the test

abbrev pub below : ℕ → (ℕ → Bool) → Bool
below zero p = true
below (suc n) p = p n && below n p

abbrev pub on_letters : (Letter → Bool) → Bool
on_letters p = p Less && (p Equal && p Greater)

abbrev pub may_join : ℕ → Bool → Kind → Kind → Bool
may_join zero true k l = is_held k && is_held l
may_join zero false k l = true
may_join (suc n) j k l = true

abbrev pub are_fitting : ℕ → (ℕ → ℕ → Bool) → List Row → List Row → Bool
are_fitting a pairs fs bs =
    is_typed fs
    && (is_typed bs
    && (below (length fs) (λ q. not (pairs q 0))
    && (below (length fs) (λ q. below (length bs) (λ r. may_join a (pairs q r) (kind_at fs q) (kind_at bs r)))
    && below (length fs) (λ q. below (length bs) (λ r. on_letters (λ l. triple_fits a pairs fs bs q r l))))))

-- what it says

pub below_is : (n : ℕ) (p : ℕ → Bool) → below n p ≡ true → (i : ℕ) → i < n → p i ≡ true
below_is zero p h i q = absurd (omega (arith, q))
below_is (suc n) p h i q =
    let y = and_parts (p n) (below n p) h in
    let m : i ≤ n = omega (arith, q) in
    ⊎_elim (λ e. subst (λ j. p j ≡ true) (sym e) y.0) (λ e. below_is n p y.1 i e) (eq-or-lt_of_le m)

pub on_letters_is : (p : Letter → Bool) → on_letters p ≡ true → (l : Letter) → p l ≡ true
on_letters_is p h Less = (and_parts (p Less) (p Equal && p Greater) h).0
on_letters_is p h Equal = (and_parts (p Equal) (p Greater) (and_parts (p Less) (p Equal && p Greater) h).1).0
on_letters_is p h Greater = (and_parts (p Equal) (p Greater) (and_parts (p Less) (p Equal && p Greater) h).1).1

is_held_is : (k : Kind) → is_held k ≡ true → k ≡ Held
is_held_is Idle h = impossible h
is_held_is Pending h = impossible h
is_held_is Held h = refl

may_join_is : (a : ℕ) (j : Bool) (k l : Kind) → may_join a j k l ≡ true → j ≡ true → HeldPair a k l
may_join_is zero true k l h e = let y = and_parts (is_held k) (is_held l) h in (is_held_is k y.0, is_held_is l y.1)
may_join_is zero false k l h e = impossible e
may_join_is (suc n) j k l h e = tt

pub are_fitting_is : (a : ℕ) (pairs : ℕ → ℕ → Bool) (fs bs : List Row) → are_fitting a pairs fs bs ≡ true → AreFitting a pairs fs bs
are_fitting_is a pairs fs bs h =
    let x = and_parts _ _ h in
    let y = and_parts _ _ x.1 in
    let z = and_parts _ _ y.1 in
    let w = and_parts _ _ z.1 in
    record {
      forward = x.0;
      reverse = y.0;
      apart = λ q p. not-true (pairs q 0) (below_is (length fs) (λ q. not (pairs q 0)) z.0 q p);
      held = λ q r p u. may_join_is a (pairs q r) (kind_at fs q) (kind_at bs r)
          (below_is (length bs) (λ r. may_join a (pairs q r) (kind_at fs q) (kind_at bs r))
          (below_is (length fs) (λ q. below (length bs) (λ r. may_join a (pairs q r) (kind_at fs q) (kind_at bs r))) w.0 q p) r u);
      triples = λ q r l p u.
          on_letters_is (λ l. triple_fits a pairs fs bs q r l)
          (below_is (length bs) (λ r. on_letters (λ l. triple_fits a pairs fs bs q r l))
          (below_is (length fs) (λ q. below (length bs) (λ r. on_letters (λ l. triple_fits a pairs fs bs q r l))) w.1 q p) r u) l;
    }

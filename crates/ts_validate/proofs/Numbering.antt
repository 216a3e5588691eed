-- The numbers of residuals that stand in a table of expressions. No two expressions of the table are the same, so the
-- first residual that is an expression stands where the number of the expression comes first.
use Rattle.std.specs.Prelude.{◌≡◌, ℕ, zero, suc, ◌+◌, ◌<◌, ◌==◌, nat_lt, Bool, true, false, cond, if◌then◌else◌, not, List, [], ◌∷◌, None, Some, length, get_or, refl}
use Rattle.std.specs.List.{position, position_or_len}
use Rattle.std.proofs.Common.{sym, ◌∙◌, ap, subst, arith}
use Rattle.std.proofs.lemmas.Bool.{false≢true, eq-eqb, eqb-true}
use Rattle.std.proofs.lemmas.List.{length-map}
use Rattle.std.proofs.lemmas.Option.{none-some, same_Some}
use Rattle.ts_base.specs.declared.letter.Letter.{Letter}
use Rattle.ts_regex.specs.Shape.{Shape}
use Rattle.ts_regex.specs.Derivative.{has_word}
use Rattle.ts_regex.specs.NormalForm.{residual, same_shape}
use Rattle.ts_regex.proofs.Laws.{same_law}
use Rattle.ts_forms.specs.Nodes.{form_at}
use Rattle.ts_forms.specs.Tables.{shapes, AreDifferent, AreThere, forms_at}
use Rattle.ts_validate.specs.declared.residuals.Residuals.{Residuals}
use Rattle.ts_validate.specs.Numbers.{number_of, next_number}
use Rattle.ts_validate.specs.ResidualTables.{residuals_of, IsSound}

-- residual i among the expressions

one_there : (ss : List Shape) (is : List ℕ) (i n : ℕ) → AreThere ss is → i < length is → n ≡ get_or is i n → n < length ss
one_there ss [] i n h q e = absurd (omega (arith, q))
one_there ss (k ∷ is) zero n h q e = subst (λ z. z < length ss) (sym e) h.0
one_there ss (k ∷ is) (suc i) n h q e = one_there ss is i n h.1 (omega (arith, q)) e

one_is : (ss : List Shape) (is : List ℕ) (i n : ℕ) → i < length is → n ≡ get_or is i n → form_at ss n ≡ form_at (forms_at ss is) i
one_is ss [] i n q e = absurd (omega (arith, q))
one_is ss (k ∷ is) zero n q e = ap (λ z. form_at ss z) e
one_is ss (k ∷ is) (suc i) n q e = one_is ss is i n (omega (arith, q)) e

pub form_there : (x : Residuals) (i n : ℕ) → IsSound x → i < length x.numbers.items → n ≡ get_or x.numbers.items i n → n < length (shapes x.forms)
form_there x i n s q e = one_there (shapes x.forms) x.numbers.items i n s.there q e

pub form_is : (x : Residuals) (i n : ℕ) → i < length x.numbers.items → n ≡ get_or x.numbers.items i n → form_at (shapes x.forms) n ≡ form_at (residuals_of x) i
form_is x i n q e = one_is (shapes x.forms) x.numbers.items i n q e

pub as_many : (x : Residuals) → length (residuals_of x) ≡ length x.numbers.items
as_many x = length-map x.numbers.items (λ i. form_at (shapes x.forms) i)

-- two expressions are the same where their numbers are

other_shapes : (ss : List Shape) (i j : ℕ) → AreDifferent ss → i < length ss → j < length ss → (i == j) ≡ false → (b : Bool) →
    same_shape (form_at ss i) (form_at ss j) ≡ b → b ≡ false
other_shapes ss i j d p q e false r = refl
other_shapes ss i j d p q e true r =
    absurd (false≢true (sym e ∙ eq-eqb i j (d i j p q ((same_law (form_at ss i) (form_at ss j)).0 r))))

same_number : (ss : List Shape) (i j : ℕ) → AreDifferent ss → i < length ss → j < length ss → same_shape (form_at ss i) (form_at ss j) ≡ (i == j)
same_number ss i j d p q = go (i == j) refl
  where
    go : (b : Bool) → (i == j) ≡ b → same_shape (form_at ss i) (form_at ss j) ≡ b
    go true e = (same_law (form_at ss i) (form_at ss j)).1 (ap (λ z. form_at ss z) (eqb-true i j e))
    go false e = other_shapes ss i j d p q e (same_shape (form_at ss i) (form_at ss j)) refl

-- the first place at which a test holds; where it holds nowhere, the length plus 1

one_more : (b : Bool) (n p len : ℕ) → n ≡ cond (nat_lt p len) p (len + 1) →
    cond b 0 (n + 1) ≡ cond (nat_lt (cond (not b) (1 + p) 0) (suc len)) (cond (not b) (1 + p) 0) (suc len + 1)
one_more true n p len h = grind arith
one_more false n p len h = grind (arith, h)

number_place : (ss : List Shape) (is : List ℕ) (j : ℕ) → AreDifferent ss → AreThere ss is → j < length ss → number_of (forms_at ss is) (form_at ss j)
    ≡ cond (nat_lt (position_or_len (λ n. n == j) is) (length is)) (position_or_len (λ n. n == j) is) (length is + 1)
number_place ss [] j d h q = refl
number_place ss (i ∷ is) j d h q =
    ap (λ b. if b then 0 else number_of (forms_at ss is) (form_at ss j) + 1) (same_number ss i j d h.0 q)
    ∙ one_more (i == j) (number_of (forms_at ss is) (form_at ss j)) (position_or_len (λ n. n == j) is) (length is) (number_place ss is j d h.1 q)

number_of_option : (n len i : ℕ) → Some i ≡ cond (nat_lt n len) (Some n) None → i ≡ cond (nat_lt n len) n (len + 1)
number_of_option n len i q = go (nat_lt n len) q
  where
    go : (b : Bool) → Some i ≡ cond b (Some n) None → i ≡ cond b n (len + 1)
    go true q = same_Some i n q
    go false q = absurd (none-some i (sym q))

none_of_option : (n len : ℕ) → None ≡ cond (nat_lt n len) (Some n) None → len + 1 ≡ cond (nat_lt n len) n (len + 1)
none_of_option n len q = go (nat_lt n len) q
  where
    go : (b : Bool) → None ≡ cond b (Some n) None → len + 1 ≡ cond b n (len + 1)
    go true q = absurd (none-some n q)
    go false q = refl

pub number_some : (x : Residuals) (form i : ℕ) → IsSound x → form < length (shapes x.forms) → Some i ≡ position (λ n. n == form) x.numbers.items →
    i ≡ number_of (residuals_of x) (form_at (shapes x.forms) form)
number_some x form i s q e =
    number_of_option (position_or_len (λ n. n == form) x.numbers.items) (length x.numbers.items) i e
    ∙ sym (number_place (shapes x.forms) x.numbers.items form s.table.once s.there q)

pub number_none : (x : Residuals) (form n : ℕ) → IsSound x → form < length (shapes x.forms) → None ≡ position (λ n. n == form) x.numbers.items →
    n ≡ length x.numbers.items → n + 1 ≡ number_of (residuals_of x) (form_at (shapes x.forms) form)
number_none x form n s q e size =
    ap (λ z. z + 1) size
    ∙ none_of_option (position_or_len (λ n. n == form) x.numbers.items) (length x.numbers.items) e
    ∙ sym (number_place (shapes x.forms) x.numbers.items form s.table.once s.there q)

-- the number after a letter

word_left : (rs : List Shape) (r d : Shape) (l : Letter) (n : ℕ) → d ≡ residual r l → true ≡ has_word d → n ≡ number_of rs d → n ≡ next_number rs r l
word_left rs r d l n e t q =
    q ∙ ap (λ z. number_of rs z) e
    ∙ sym (ap (λ b. if b then number_of rs (residual r l) else length rs) (ap (λ z. has_word z) (sym e) ∙ sym t))

no_word_left : (rs : List Shape) (r d : Shape) (l : Letter) (n : ℕ) → d ≡ residual r l → false ≡ has_word d → n ≡ length rs → n ≡ next_number rs r l
no_word_left rs r d l n e t q =
    q ∙ sym (ap (λ b. if b then number_of rs (residual r l) else length rs) (ap (λ z. has_word z) (sym e) ∙ sym t))

pub next_some : (x y : Residuals) (i k n : ℕ) (l : Letter) → residuals_of y ≡ residuals_of x → form_at (shapes y.forms) k
    ≡ residual (form_at (residuals_of x) i) l →
    true ≡ has_word (form_at (shapes y.forms) k) → n ≡ number_of (residuals_of y) (form_at (shapes y.forms) k) →
    n ≡ next_number (residuals_of x) (form_at (residuals_of x) i) l
next_some x y i k n l s e t q =
    word_left (residuals_of x) (form_at (residuals_of x) i) (form_at (shapes y.forms) k) l n e t
    (q ∙ ap (λ z. number_of z (form_at (shapes y.forms) k)) s)

pub next_none : (x y : Residuals) (i k n : ℕ) (l : Letter) → y.numbers.items ≡ x.numbers.items →
    form_at (shapes y.forms) k ≡ residual (form_at (residuals_of x) i) l → false ≡ has_word (form_at (shapes y.forms) k) →
    n ≡ length y.numbers.items → n ≡ next_number (residuals_of x) (form_at (residuals_of x) i) l
next_none x y i k n l s e t q =
    no_word_left (residuals_of x) (form_at (residuals_of x) i) (form_at (shapes y.forms) k) l n e t
    (q ∙ ap (λ z. length z) s ∙ sym (as_many x))

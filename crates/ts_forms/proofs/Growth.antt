-- What stays when a table grows.
use Rattle.std.specs.Prelude.{◌≡◌, ℕ, ◌+◌, ◌<◌, List, [], ◌∷◌, ◌++◌, Option, None, Some, length, refl}
use Rattle.std.proofs.Common.{sym, ◌∙◌, ap, subst, arith}
use Rattle.std.proofs.lemmas.List.{append_assoc, get_or_append_left, length-append}
use Rattle.ts_regex.specs.Shape.{Shape, Empty}
use Rattle.ts_regex.specs.Derivative.{derivative}
use Rattle.ts_regex.specs.NormalForm.{normal_form}
use Rattle.ts_forms.specs.declared.known.Known.{Known}
use Rattle.ts_forms.specs.declared.forms.Forms.{Forms}
use Rattle.ts_forms.specs.Nodes.{form_at, left_on}
use Rattle.ts_forms.specs.Tables.{shapes, Grows, IsNumberOf, IsNoted, IsKnown, IsPut, AreThere, forms_at}

no_more : (ss : List Shape) → ss ≡ ss ++ []
no_more [] = refl
no_more (s ∷ ss) = ap (λ z. s ∷ z) (no_more ss)

pub grows_not : (ss : List Shape) → Grows ss ss
grows_not ss = ([], no_more ss)

pub grows_on : (a b c : List Shape) → Grows a b → Grows b c → Grows a c
grows_on a b c p q = (p.0 ++ q.0, q.1 ∙ ap (λ z. z ++ q.0) p.1 ∙ append_assoc a p.0 q.0)

longer : (a more : List Shape) (i : ℕ) → i < length a → i < length (a ++ more)
longer a more i q = let h = length-append a more in omega (arith, q, h)

pub there_on : (a b : List Shape) (i : ℕ) → Grows a b → i < length a → i < length b
there_on a b i p q = subst (λ z. i < length z) (sym p.1) (longer a p.0 i q)

pub form_on : (a b : List Shape) (i : ℕ) → Grows a b → i < length a → form_at b i ≡ form_at a i
form_on a b i p q = ap (λ z. form_at z i) p.1 ∙ get_or_append_left a p.0 Empty i q

pub number_on : (a b : List Shape) (r : Shape) (j : ℕ) → Grows a b → IsNumberOf a r j → IsNumberOf b r j
number_on a b r j p h = (there_on a b j p h.0, form_on a b j p h.0 ∙ h.1)

noted_on : (a b : List Shape) (r : Shape) (o : Option ℕ) → Grows a b → IsNoted a r o → IsNoted b r o
noted_on a b r None p h = tt
noted_on a b r (Some j) p h = number_on a b r j p h

pub known_on : (a b : List Shape) (r : Shape) (k : Known) → Grows a b → IsKnown a r k → IsKnown b r k
known_on a b r k p h = record {
  nullable = h.nullable;
  some = h.some;
  longer = h.longer;
  normal = noted_on a b (normal_form r) k.normal p h.normal;
  left = λ l. noted_on a b (derivative r l) (left_on l k) p (h.left l);
}

-- a call, or several one after the other

pub put_as : (f g : Forms) (r s : Shape) (j : ℕ) → r ≡ s → IsPut f g r j → IsPut f g s j
put_as f g r s j e p = subst (λ z. IsPut f g z j) e p

pub put_on : (f g h : Forms) (r s : Shape) (i j : ℕ) → IsPut f g r i → IsPut g h s j → IsPut f h s j
put_on f g h r s i j p q = record { table = q.table; grows = grows_on (shapes f) (shapes g) (shapes h) p.grows q.grows; number = q.number }

-- one that stood there, and then a new one
pub put_behind : (op : Shape → Shape → Shape) (f g h : Forms) (r : Shape) (i k m : ℕ) → i < length (shapes f) → IsPut f g r k →
    IsPut g h (op (form_at (shapes g) i) (form_at (shapes g) k)) m → IsPut f h (op (form_at (shapes f) i) r) m
put_behind op f g h r i k m q p n =
    put_as f h (op (form_at (shapes g) i) (form_at (shapes g) k)) (op (form_at (shapes f) i) r) m
    (ap (λ z. op z (form_at (shapes g) k)) (form_on (shapes f) (shapes g) i p.grows q) ∙ ap (λ z. op (form_at (shapes f) i) z) p.number.1)
    (put_on f g h r (op (form_at (shapes g) i) (form_at (shapes g) k)) k m p n)

-- a new one, and then one that stood there
pub put_before : (op : Shape → Shape → Shape) (f g h : Forms) (r : Shape) (i k m : ℕ) → i < length (shapes f) → IsPut f g r k →
    IsPut g h (op (form_at (shapes g) k) (form_at (shapes g) i)) m → IsPut f h (op r (form_at (shapes f) i)) m
put_before op f g h r i k m q p n = put_behind (λ a b. op b a) f g h r i k m q p n

-- two new ones
pub put_both : (op : Shape → Shape → Shape) (f g h k : Forms) (r s : Shape) (x y m : ℕ) → IsPut f g r x → IsPut g h s y →
    IsPut h k (op (form_at (shapes h) x) (form_at (shapes h) y)) m → IsPut f k (op r s) m
put_both op f g h k r s x y m p q n =
    put_as f k (op (form_at (shapes g) x) s) (op r s) m (ap (λ z. op z s) p.number.1)
    (put_on f g k r (op (form_at (shapes g) x) s) x m p (put_behind op g h k s x y m p.number.0 q n))

-- one new one
pub put_one : (op : Shape → Shape) (f g h : Forms) (r : Shape) (x m : ℕ) → IsPut f g r x → IsPut g h (op (form_at (shapes g) x)) m → IsPut f h (op r) m
put_one op f g h r x m p n = put_as f h (op (form_at (shapes g) x)) (op r) m (ap op p.number.1) (put_on f g h r (op (form_at (shapes g) x)) x m p n)

-- lists of expressions stay where they were put

pub all_there_on : (a b : List Shape) (is : List ℕ) → Grows a b → AreThere a is → AreThere b is
all_there_on a b [] p h = h
all_there_on a b (i ∷ is) p h = (there_on a b i p h.0, all_there_on a b is p h.1)

pub all_forms_on : (a b : List Shape) (is : List ℕ) → Grows a b → AreThere a is → forms_at b is ≡ forms_at a is
all_forms_on a b [] p h = refl
all_forms_on a b (i ∷ is) p h =
    ap (λ z. z ∷ forms_at b is) (form_on a b i p h.0) ∙ ap (λ z. form_at a i ∷ z) (all_forms_on a b is p h.1)

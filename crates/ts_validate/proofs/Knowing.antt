-- A plan's residuals are put into a table of expressions, and what is known of each is looked up there.
use Rattle.std.specs.Prelude.{◌≡◌, ℕ, ◌+◌, ◌<◌, ◌≤◌, List, [], ◌∷◌, ◌++◌, map, take, length, get_or, refl}
use Rattle.std.proofs.Common.{sym, ◌∙◌, ap, subst, arith, take_all}
use Rattle.std.proofs.lemmas.List.{length-map, map-append, take_more}
use Rattle.ts_base.specs.declared.letter.Letter.TheVariants.{Less, Equal, Greater}
use Rattle.ts_base.specs.declared.letter.Letter.{Letter}
use Rattle.ts_regex.specs.Shape.{Shape, Empty, shape_of}
use Rattle.ts_regex.specs.NormalForm.{residual}
use Rattle.ts_regex.specs.declared.regex.Regex.{Regex}
use Rattle.ts_forms.specs.declared.forms.Forms.{Forms}
use Rattle.ts_forms.specs.Nodes.{form_at}
use Rattle.ts_forms.specs.Tables.{shapes, IsTable, IsNumberOf, IsPut, AreThere, forms_at}
use Rattle.ts_forms.proofs.Growth.{all_there_on, all_forms_on}
use Rattle.ts_validate.specs.declared.words.Words.{Words}
use Rattle.ts_validate.specs.declared.knowledge.Knowledge.{Knowledge}
use Rattle.ts_validate.specs.declared.residuals.Residuals.{Residuals}
use Rattle.ts_validate.specs.Facts.{words_of}
use Rattle.ts_validate.specs.Numbers.{number_of, next_number, known_of, table_of}
use Rattle.ts_validate.specs.ResidualTables.{residuals_of, IsSound}
use Rattle.ts_validate.proofs.Numbering.{as_many}

-- the residuals are put there

-- these were put there so far, by these numbers
pub record AreAdded (xs : List Regex) (f : Forms) (is : List ℕ) : Type 0 where
  pub table : IsTable f
  pub there : AreThere (shapes f) is
  pub residuals : forms_at (shapes f) is ≡ map (λ s. shape_of s) xs

pub added_none : (f : Forms) (is : List ℕ) → IsTable f → is ≡ [] → AreAdded [] f is
added_none f is t e =
    record { table = t; there = subst (λ z. AreThere (shapes f) z) (sym e) tt; residuals = ap (λ z. forms_at (shapes f) z) e }

there_more : (ss : List Shape) (is : List ℕ) (i : ℕ) → AreThere ss is → i < length ss → AreThere ss (is ++ i ∷ [])
there_more ss [] i h q = (q, tt)
there_more ss (j ∷ is) i h q = (h.0, there_more ss is i h.1 q)

pub added_more : (f g : Forms) (is js : List ℕ) (xs : List Regex) (i k : ℕ) (r : Regex) → i < length xs → AreAdded (take i xs) f is → r ≡ get_or xs i r →
    IsPut f g (shape_of r) k → js ≡ is ++ k ∷ [] → AreAdded (take (i + 1) xs) g js
added_more f g is js xs i k r q h x p e =
    record {
      table = p.table;
      there = subst (λ z. AreThere (shapes g) z) (sym e)
          (there_more (shapes g) is k (all_there_on (shapes f) (shapes g) is p.grows h.there) p.number.0);
      residuals = ap (λ z. forms_at (shapes g) z) e
          ∙ map-append (λ z. form_at (shapes g) z) is (k ∷ [])
          ∙ ap (λ z. z ++ form_at (shapes g) k ∷ []) (all_forms_on (shapes f) (shapes g) is p.grows h.there ∙ h.residuals)
          ∙ ap (λ z. map (λ s. shape_of s) (take i xs) ++ z ∷ []) (p.number.1 ∙ ap (λ s. shape_of s) x)
          ∙ sym (map-append (λ s. shape_of s) (take i xs) (get_or xs i r ∷ []))
          ∙ ap (λ z. map (λ s. shape_of s) z) (sym (take_more xs i r q));
    }

pub added_all : (f : Forms) (is : List ℕ) (xs : List Regex) (i : ℕ) → length xs ≤ i → AreAdded (take i xs) f is →
    forms_at (shapes f) is ≡ map (λ s. shape_of s) xs
added_all f is xs i q h = h.residuals ∙ ap (λ z. map (λ s. shape_of s) z) (take_all i xs q)

-- what a letter leaves is put there

pub sound_on : (x : Residuals) (g : Forms) (r : Shape) (k : ℕ) → IsSound x → IsPut x.forms g r k → IsSound (record x { forms = g })
sound_on x g r k s p = record { table = p.table; there = all_there_on (shapes x.forms) (shapes g) x.numbers.items p.grows s.there }

pub residuals_on : (x : Residuals) (g : Forms) (r : Shape) (k : ℕ) → IsSound x → IsPut x.forms g r k → residuals_of (record x { forms = g }) ≡ residuals_of x
residuals_on x g r k s p = all_forms_on (shapes x.forms) (shapes g) x.numbers.items p.grows s.there

pub rest_is : (ss : List Shape) (r s : Shape) (l : Letter) (k : ℕ) → r ≡ s → IsNumberOf ss (residual r l) k → IsNumberOf ss (residual s l) k
rest_is ss r s l k e h = subst (λ z. IsNumberOf ss (residual z l) k) e h

-- what is known of one

abbrev pub knowledge : ℕ → ℕ → ℕ → ℕ → Words → Knowledge
knowledge a b c d w = record { less = a; equal = b; greater = c; own = d; words = w }

same_knowledge : (a b c d e f g h : ℕ) (v w : Words) → a ≡ e → b ≡ f → c ≡ g → d ≡ h → v ≡ w → knowledge a b c d v ≡ knowledge e f g h w
same_knowledge a b c d e f g h v w p q r s t =
    ap (λ z. knowledge z b c d v) p ∙ ap (λ z. knowledge e z c d v) q ∙ ap (λ z. knowledge e f z d v) r ∙ ap (λ z. knowledge e f g z v) s
    ∙ ap (λ z. knowledge e f g h z) t

known_by : (a b c d : List Shape) (i : ℕ) (s : Shape) (less equal greater own : ℕ) (words : Words) → b ≡ a → c ≡ b → d ≡ c →
    less ≡ next_number a (form_at a i) Less → equal ≡ next_number b (form_at b i) Equal → greater ≡ next_number c (form_at c i) Greater →
    s ≡ form_at d i → own ≡ number_of d s → words ≡ words_of s → knowledge less equal greater own words ≡ known_of a (form_at a i)
known_by a b c d i s less equal greater own words p q r x y z e o w =
    let same : d ≡ a = r ∙ q ∙ p in
    same_knowledge less equal greater own (next_number a (form_at a i) Less) (next_number a (form_at a i) Equal) (next_number a (form_at a i) Greater)
    (number_of a (form_at a i)) words (words_of (form_at a i)) x
    (y ∙ ap (λ k. next_number k (form_at k i) Equal) p)
    (z ∙ ap (λ k. next_number k (form_at k i) Greater) (q ∙ p))
    (o ∙ ap (λ k. number_of d k) e ∙ ap (λ k. number_of k (form_at k i)) same)
    (w ∙ ap (λ k. words_of k) e ∙ ap (λ k. words_of (form_at k i)) same)

pub residual_known : (x0 x1 x2 x3 : Residuals) (i form less equal greater own : ℕ) (words : Words) → residuals_of x1 ≡ residuals_of x0 →
    residuals_of x2 ≡ residuals_of x1 → residuals_of x3 ≡ residuals_of x2 → less ≡ next_number (residuals_of x0) (form_at (residuals_of x0) i) Less →
    equal ≡ next_number (residuals_of x1) (form_at (residuals_of x1) i) Equal →
    greater ≡ next_number (residuals_of x2) (form_at (residuals_of x2) i) Greater → form_at (shapes x3.forms) form ≡ form_at (residuals_of x3) i →
    own ≡ number_of (residuals_of x3) (form_at (shapes x3.forms) form) → words ≡ words_of (form_at (shapes x3.forms) form) →
    knowledge less equal greater own words ≡ known_of (residuals_of x0) (form_at (residuals_of x0) i)
residual_known x0 x1 x2 x3 i form less equal greater own words p q r x y z e o w =
    known_by (residuals_of x0) (residuals_of x1) (residuals_of x2) (residuals_of x3) i (form_at (shapes x3.forms) form) less equal greater own words
    p q r x y z e o w

-- what is known of all

-- the table has what is known of the first i of these residuals
pub record AreKnown (xs : List Regex) (x : Residuals) (i : ℕ) (table : List Knowledge) : Type 0 where
  pub sound : IsSound x
  pub residuals : residuals_of x ≡ map (λ s. shape_of s) xs
  pub known : table ≡ map (λ r. known_of (map (λ s. shape_of s) xs) r) (take i (map (λ s. shape_of s) xs))

pub known_none : (xs : List Regex) (x : Residuals) (table : List Knowledge) → IsSound x → residuals_of x ≡ map (λ s. shape_of s) xs → table ≡ [] →
    AreKnown xs x 0 table
known_none xs x table s e t = record { sound = s; residuals = e; known = t }

pub known_more : (xs : List Regex) (x y : Residuals) (i : ℕ) (k : Knowledge) (old new : List Knowledge) → i < length xs → AreKnown xs x i old → IsSound y →
    residuals_of y ≡ residuals_of x → k ≡ known_of (residuals_of x) (form_at (residuals_of x) i) → new ≡ old ++ k ∷ [] → AreKnown xs y (i + 1) new
known_more xs x y i k old new q h s e is on =
    let rs : List Shape = map (λ s. shape_of s) xs in
    let size : length rs ≡ length xs = length-map xs (λ s. shape_of s) in
    record {
      sound = s;
      residuals = e ∙ h.residuals;
      known = on
          ∙ ap (λ z. z ++ k ∷ []) h.known
          ∙ ap (λ z. map (λ r. known_of rs r) (take i rs) ++ z ∷ []) (is ∙ ap (λ z. known_of z (form_at z i)) h.residuals)
          ∙ sym (map-append (λ r. known_of rs r) (take i rs) (form_at rs i ∷ []))
          ∙ ap (λ z. map (λ r. known_of rs r) z) (sym (take_more rs i Empty (omega (arith, q, size))));
    }

pub known_all : (xs : List Regex) (x : Residuals) (i : ℕ) (table : List Knowledge) → length xs ≤ i → AreKnown xs x i table →
    table ≡ table_of (map (λ s. shape_of s) xs)
known_all xs x i table q h =
    let rs : List Shape = map (λ s. shape_of s) xs in
    let size : length rs ≡ length xs = length-map xs (λ s. shape_of s) in
    h.known ∙ ap (λ z. map (λ r. known_of rs r) z) (take_all i rs (omega (arith, q, size)))

as_many_listed : (xs : List Regex) (x : Residuals) (i : ℕ) (table : List Knowledge) → AreKnown xs x i table → length x.numbers.items ≡ length xs
as_many_listed xs x i table h = sym (as_many x) ∙ ap (λ z. length z) h.residuals ∙ length-map xs (λ s. shape_of s)

pub still_there : (xs : List Regex) (x : Residuals) (i : ℕ) (table : List Knowledge) → AreKnown xs x i table → i < length xs → i < length x.numbers.items
still_there xs x i table h q = let size = as_many_listed xs x i table h in omega (arith, q, size)

pub still_few : (xs : List Regex) (x : Residuals) (i n : ℕ) (table : List Knowledge) → AreKnown xs x i table → length xs < n → length x.numbers.items < n
still_few xs x i n table h q = let size = as_many_listed xs x i table h in omega (arith, q, size)

-- A book of residuals: what it says goes on to hold while residuals come last and answers are kept.
use Rattle.std.specs.Prelude.{◌≡◌, ◌⊎◌, ℕ, zero, suc, ◌+◌, ◌<◌, ◌≤◌, Bool, true, false, not, ◌||◌, if◌then◌else◌, nat_eq, List, [], ◌∷◌, ◌++◌, None, Some, IfSome, map, length, slice_get, slice_set, get_or, refl}
use Rattle.std.specs.List.{list_any}
use Rattle.std.proofs.Common.{sym, ◌∙◌, ap, subst, inl, inr, arith, ⊎_elim}
use Rattle.std.proofs.lemmas.Bool.{false≢true, eq-eqb, eqb-true}
use Rattle.std.proofs.lemmas.Option.{none-some, same_Some, slice_get_within}
use Rattle.std.proofs.lemmas.List.{length-map, map-append}
use Rattle.indexmap.specs.IndexSet.{insert_key}
use Rattle.ts_base.specs.declared.letter.Letter.{Letter}
use Rattle.ts_base.specs.declared.letter.Letter.TheVariants.{Less, Equal, Greater}
use Rattle.ts_regex.specs.Shape.{Shape}
use Rattle.ts_regex.specs.Derivative.{has_word}
use Rattle.ts_regex.specs.NormalForm.{residual, normal_form}
use Rattle.ts_pattern.specs.Plans.{shape_at}
use Rattle.ts_validate.specs.Facts.{words_of}
use Rattle.ts_user.specs.declared.book.Next.{Next}
use Rattle.ts_user.specs.declared.book.Next.TheVariants.{Unread, NoWord, Number}
use Rattle.ts_user.specs.declared.book.Nexts.{Nexts}
use Rattle.ts_user.specs.declared.book.Book.{Book}
use Rattle.ts_user.specs.Books.{residuals_of, next_on, next_with, all_unread, IsNumberOf, NextSays, NextsSay, IsBook, IsFound, IsAfter}
use Rattle.ts_forms.specs.declared.forms.Forms.{Forms}
use Rattle.ts_forms.specs.Nodes.{form_at}
use Rattle.ts_forms.specs.Tables.{shapes as shapes_in, Grows, IsNumberOf as IsFormOf, IsTable, IsPut, AreThere, forms_at}
use Rattle.ts_forms.proofs.Growth.{all_there_on, all_forms_on}
use Rattle.ts_user.proofs.Places.{at_most}

-- a list with one more

pub push_length : {A : Type 0} (xs : List A) (x : A) → length (xs ++ x ∷ []) ≡ length xs + 1
push_length [] x = refl
push_length (y ∷ xs) x = let h = push_length xs x in omega (arith, h)

pub shape_old : (rs more : List Shape) (i : ℕ) → i < length rs → shape_at (rs ++ more) i ≡ shape_at rs i
shape_old [] more i q = absurd (omega (arith, q))
shape_old (r ∷ rs) more zero q = refl
shape_old (r ∷ rs) more (suc i) q = shape_old rs more i (omega (arith, q))

pub shape_new : (rs : List Shape) (r : Shape) (i : ℕ) → i ≡ length rs → shape_at (rs ++ r ∷ []) i ≡ r
shape_new [] r zero q = refl
shape_new [] r (suc i) q = absurd (omega (arith, q))
shape_new (s ∷ rs) r zero q = absurd (omega (arith, q))
shape_new (s ∷ rs) r (suc i) q = shape_new rs r i (omega (arith, q))

-- an element of a list with one more is one of the list, or the last
pub get_push : {A : Type 0} (xs : List A) (x y : A) (i : ℕ) → slice_get (xs ++ x ∷ []) i ≡ Some y →
    ((i < length xs) × (slice_get xs i ≡ Some y)) ⊎ ((i ≡ length xs) × (x ≡ y))
get_push [] x y zero q = inr (refl, same_Some x y q)
get_push [] x y (suc i) q = absurd (none-some y q)
get_push (z ∷ xs) x y zero q = inl (omega arith, q)
get_push (z ∷ xs) x y (suc i) q =
    ⊎_elim (λ a. inl (let b = a.0 in omega (arith, b), a.1)) (λ a. inr (let b = a.0 in omega (arith, b), a.1)) (get_push xs x y i q)

-- an element of a list of which one was set is that one, or one of the list
get_set : {A : Type 0} (xs : List A) (x y : A) (i k : ℕ) → slice_get (slice_set xs i x) k ≡ Some y →
    ((k ≡ i) × (x ≡ y)) ⊎ (slice_get xs k ≡ Some y)
get_set [] x y i k q = inr q
get_set (z ∷ xs) x y zero zero q = inl (refl, same_Some x y q)
get_set (z ∷ xs) x y zero (suc k) q = inr q
get_set (z ∷ xs) x y (suc i) zero q = inr q
get_set (z ∷ xs) x y (suc i) (suc k) q =
    ⊎_elim (λ a. inl (let b = a.0 in omega (arith, b), a.1)) (λ a. inr a) (get_set xs x y i k q)

set_length : {A : Type 0} (xs : List A) (i : ℕ) (x : A) → length (slice_set xs i x) ≡ length xs
set_length [] i x = refl
set_length (z ∷ xs) zero x = refl
set_length (z ∷ xs) (suc i) x = let h = set_length xs i x in omega (arith, h)

pub get_there : {A : Type 0} (xs : List A) (i : ℕ) → i < length xs → (x : A) × (slice_get xs i ≡ Some x)
get_there [] i q = absurd (omega (arith, q))
get_there (x ∷ xs) zero q = (x, refl)
get_there (x ∷ xs) (suc i) q = get_there xs i (omega (arith, q))

-- the number of a residual is the place of its number among the expressions

-- entry i of the list names expression j, and so does residual i
named : (ss : List Shape) (is : List ℕ) (i j : ℕ) → slice_get is i ≡ Some j → shape_at (forms_at ss is) i ≡ form_at ss j
named ss [] i j q = absurd (none-some j q)
named ss (k ∷ is) zero j q = ap (λ z. form_at ss z) (same_Some k j q)
named ss (k ∷ is) (suc i) j q = named ss is i j q

one_there : (ss : List Shape) (is : List ℕ) (i j : ℕ) → AreThere ss is → slice_get is i ≡ Some j → j < length ss
one_there ss [] i j h q = absurd (none-some j q)
one_there ss (k ∷ is) zero j h q = subst (λ z. z < length ss) (same_Some k j q) h.0
one_there ss (k ∷ is) (suc i) j h q = one_there ss is i j h.1 q

as_many : (ss : List Shape) (is : List ℕ) → length (forms_at ss is) ≡ length is
as_many ss is = length-map is (λ i. form_at ss i)

pub book_length : (b : Book) → length (residuals_of b) ≡ length b.residuals.items
book_length b = as_many (shapes_in b.forms) b.residuals.items

pub number_there : (b : Book) (form i : ℕ) → slice_get b.residuals.items i ≡ Some form → IsNumberOf (residuals_of b) (form_at (shapes_in b.forms) form) i
number_there b form i q =
    let low = slice_get_within b.residuals.items i form q in let size = as_many (shapes_in b.forms) b.residuals.items in
    (omega (arith, low, size), named (shapes_in b.forms) b.residuals.items i form q)

pub number_nowhere : (p : Shape) (b : Book) (form : ℕ) → IsBook p b → form < length (shapes_in b.forms) →
    ((i : ℕ) → slice_get b.residuals.items i ≡ Some form → ⊥) →
    (i : ℕ) → i < length (residuals_of b) → shape_at (residuals_of b) i ≡ form_at (shapes_in b.forms) form → ⊥
number_nowhere p b form h low n i q e =
    let size = as_many (shapes_in b.forms) b.residuals.items in
    let x = get_there b.residuals.items i (omega (arith, q, size)) in
    let there = one_there (shapes_in b.forms) b.residuals.items i x.0 h.there x.1 in
    n i (x.1 ∙ ap (λ z. Some z) (h.forms.once x.0 form there low (sym (named (shapes_in b.forms) b.residuals.items i x.0 x.1) ∙ e)))

-- what is known goes on to hold

number_grows : (rs more : List Shape) (r : Shape) (j : ℕ) → IsNumberOf rs r j → IsNumberOf (rs ++ more) r j
number_grows rs more r j h = (longer rs more j h.0, shape_old rs more j h.0 ∙ h.1)
  where
    longer : (rs more : List Shape) (j : ℕ) → j < length rs → j < length (rs ++ more)
    longer [] more j q = absurd (omega (arith, q))
    longer (r ∷ rs) more zero q = omega arith
    longer (r ∷ rs) more (suc j) q = let h = longer rs more j (omega (arith, q)) in omega (arith, h)

next_grows : (rs more : List Shape) (r : Shape) (n : Next) → NextSays rs r n → NextSays (rs ++ more) r n
next_grows rs more r Unread h = tt
next_grows rs more r NoWord h = h
next_grows rs more r (Number j) h = (h.0, number_grows rs more r j h.1)

unread_says : (rs : List Shape) (r : Shape) → NextsSay rs r all_unread
unread_says rs r Less = tt
unread_says rs r Equal = tt
unread_says rs r Greater = tt

with_says : (rs : List Shape) (r : Shape) (n : Nexts) (l : Letter) (x : Next) → NextsSay rs r n → NextSays rs (residual r l) x → NextsSay rs r (next_with n l x)
with_says rs r n Less x h k Less = k
with_says rs r n Less x h k Equal = h Equal
with_says rs r n Less x h k Greater = h Greater
with_says rs r n Equal x h k Less = h Less
with_says rs r n Equal x h k Equal = k
with_says rs r n Equal x h k Greater = h Greater
with_says rs r n Greater x h k Less = h Less
with_says rs r n Greater x h k Equal = h Equal
with_says rs r n Greater x h k Greater = k

-- one more residual

added_residuals : (old new : Book) (form : ℕ) → new.forms ≡ old.forms → new.residuals.items ≡ old.residuals.items ++ form ∷ [] →
    residuals_of new ≡ residuals_of old ++ form_at (shapes_in old.forms) form ∷ []
added_residuals old new form f e =
    ap (λ z. forms_at (shapes_in z) new.residuals.items) f
    ∙ ap (λ z. forms_at (shapes_in old.forms) z) e
    ∙ map-append (λ i. form_at (shapes_in old.forms) i) old.residuals.items (form ∷ [])

there_more : (ss : List Shape) (is : List ℕ) (i : ℕ) → AreThere ss is → i < length ss → AreThere ss (is ++ i ∷ [])
there_more ss [] i h q = (q, tt)
there_more ss (j ∷ is) i h q = (h.0, there_more ss is i h.1 q)

pub book_added : (p : Shape) (old new : Book) (form : ℕ) → IsBook p old → form < length (shapes_in old.forms) →
    ((i : ℕ) → i < length (residuals_of old) → shape_at (residuals_of old) i ≡ form_at (shapes_in old.forms) form → ⊥) →
    new.forms ≡ old.forms → new.residuals.items ≡ old.residuals.items ++ form ∷ [] →
    new.places.keys ≡ old.residuals.items ++ form ∷ [] →
    new.words.items ≡ old.words.items ++ words_of (form_at (shapes_in old.forms) form) ∷ [] →
    new.nexts.items ≡ old.nexts.items ++ all_unread ∷ [] → IsBook p new
book_added p old new form h low none f e ks w x =
    let rs : List Shape = residuals_of old in
    let d : Shape = form_at (shapes_in old.forms) form in
    let is : residuals_of new ≡ rs ++ d ∷ [] = added_residuals old new form f e in
    let size : length (residuals_of new) ≡ length rs + 1 = ap (λ z. length z) is ∙ push_length rs d in
    let nexts_size : length new.nexts.items ≡ length old.nexts.items + 1 = ap (λ z. length z) x ∙ push_length old.nexts.items all_unread in
    let whole = h.whole in let some = h.some in let as_nexts = h.as_many_nexts in
    record {
      some = omega (arith, size);
      whole = ap (λ z. shape_at z 0) is ∙ shape_old rs (d ∷ []) 0 some ∙ whole;
      forms = subst (λ z. IsTable z) (sym f) h.forms;
      there = subst (λ z. AreThere (shapes_in z) new.residuals.items) (sym f)
          (subst (λ z. AreThere (shapes_in old.forms) z) (sym e) (there_more (shapes_in old.forms) old.residuals.items form h.there low));
      places = ks ∙ sym e;
      words = w ∙ ap (λ z. z ++ words_of d ∷ []) h.words ∙ sym (map-append (λ r. words_of r) rs (d ∷ [])) ∙ ap (λ z. map (λ r. words_of r) z) (sym is);
      as_many_nexts = omega (arith, size, nexts_size, as_nexts);
      once = λ i j a b q. once_in i j (at_most i (length rs) (omega (arith, a, size))) (at_most j (length rs) (omega (arith, b, size)))
          (sym (ap (λ z. shape_at z i) is) ∙ q ∙ ap (λ z. shape_at z j) is);
      nexts = λ i y q. subst (λ z. NextsSay z (shape_at z i) y) (sym is)
          (nexts_in i y as_nexts (get_push old.nexts.items all_unread y i (ap (λ z. slice_get z i) (sym x) ∙ q)));
    }
  where
    once_in : (i j : ℕ) → (i < length (residuals_of old)) ⊎ (i ≡ length (residuals_of old)) →
        (j < length (residuals_of old)) ⊎ (j ≡ length (residuals_of old)) →
        shape_at (residuals_of old ++ form_at (shapes_in old.forms) form ∷ []) i ≡ shape_at (residuals_of old ++ form_at (shapes_in old.forms) form ∷ []) j →
        i ≡ j
    once_in i j (inl a) (inl b) q = h.once i j a b (sym (shape_old (residuals_of old) (form_at (shapes_in old.forms) form ∷ []) i a) ∙ q
        ∙ shape_old (residuals_of old) (form_at (shapes_in old.forms) form ∷ []) j b)
    once_in i j (inl a) (inr b) q = absurd (none i a (sym (shape_old (residuals_of old) (form_at (shapes_in old.forms) form ∷ []) i a) ∙ q
        ∙ shape_new (residuals_of old) (form_at (shapes_in old.forms) form) j b))
    once_in i j (inr a) (inl b) q = absurd (none j b (sym (shape_old (residuals_of old) (form_at (shapes_in old.forms) form ∷ []) j b) ∙ sym q
        ∙ shape_new (residuals_of old) (form_at (shapes_in old.forms) form) i a))
    once_in i j (inr a) (inr b) q = a ∙ sym b

    nexts_in : (i : ℕ) (y : Nexts) → length old.nexts.items ≡ length (residuals_of old) →
        ((i < length old.nexts.items) × (slice_get old.nexts.items i ≡ Some y)) ⊎ ((i ≡ length old.nexts.items) × (all_unread ≡ y)) →
        NextsSay (residuals_of old ++ form_at (shapes_in old.forms) form ∷ []) (shape_at (residuals_of old ++ form_at (shapes_in old.forms) form ∷ []) i) y
    nexts_in i y s (inl a) =
        let b = a.0 in
        subst (λ z. NextsSay (residuals_of old ++ form_at (shapes_in old.forms) form ∷ []) z y)
        (sym (shape_old (residuals_of old) (form_at (shapes_in old.forms) form ∷ []) i (omega (arith, b, s))))
        (λ l. next_grows (residuals_of old) (form_at (shapes_in old.forms) form ∷ []) (residual (shape_at (residuals_of old) i) l) (next_on l y)
        (h.nexts i y a.1 l))
    nexts_in i y s (inr a) =
        subst (λ z. NextsSay (residuals_of old ++ form_at (shapes_in old.forms) form ∷ [])
        (shape_at (residuals_of old ++ form_at (shapes_in old.forms) form ∷ []) i) z) a.1
        (unread_says (residuals_of old ++ form_at (shapes_in old.forms) form ∷ []) (shape_at (residuals_of old ++ form_at (shapes_in old.forms) form ∷ []) i))

pub found_added : (old new : Book) (form j : ℕ) → new.forms ≡ old.forms → new.residuals.items ≡ old.residuals.items ++ form ∷ [] →
    j ≡ length old.residuals.items → IsFound (residuals_of old) (residuals_of new) (form_at (shapes_in old.forms) form) j
found_added old new form j f e q =
    let d : Shape = form_at (shapes_in old.forms) form in
    let is : residuals_of new ≡ residuals_of old ++ d ∷ [] = added_residuals old new form f e in
    let all : length (residuals_of old) ≡ length old.residuals.items = as_many (shapes_in old.forms) old.residuals.items in
    let size : length (residuals_of new) ≡ length (residuals_of old) + 1 = ap (λ z. length z) is ∙ push_length (residuals_of old) d in
    let last : j ≡ length (residuals_of old) = omega (arith, q, all) in
    (inr (is, last), (omega (arith, size, last), ap (λ z. shape_at z j) is ∙ shape_new (residuals_of old) d j last))

-- a book with the same residuals, and the same answers

book_moved : (p : Shape) (old new : Book) → IsBook p old → residuals_of old ≡ residuals_of new → IsTable new.forms →
    AreThere (shapes_in new.forms) new.residuals.items → new.places.keys ≡ new.residuals.items → new.words.items ≡ old.words.items →
    new.nexts.items ≡ old.nexts.items → IsBook p new
book_moved p old new h is t there ks w x = record {
  some = subst (λ z. 0 < length z) is h.some;
  whole = subst (λ z. shape_at z 0 ≡ normal_form p) is h.whole;
  forms = t;
  there = there;
  places = ks;
  words = w ∙ h.words ∙ ap (λ z. map (λ r. words_of r) z) is;
  as_many_nexts = ap (λ z. length z) x ∙ h.as_many_nexts ∙ ap (λ z. length z) is;
  once = subst (λ (z : List Shape). (i j : ℕ) → i < length z → j < length z → shape_at z i ≡ shape_at z j → i ≡ j) is h.once;
  nexts = λ i y q. subst (λ z. NextsSay z (shape_at z i) y) is (h.nexts i y (ap (λ z. slice_get z i) (sym x) ∙ q));
}

same_residuals : (old new : Book) → new.forms ≡ old.forms → new.residuals.items ≡ old.residuals.items → residuals_of new ≡ residuals_of old
same_residuals old new f e = ap (λ z. forms_at (shapes_in z) new.residuals.items) f ∙ ap (λ z. forms_at (shapes_in old.forms) z) e

-- a number among the places

any_nowhere : (ks : List ℕ) (k : ℕ) → list_any (λ w. nat_eq k w) ks ≡ false → (i : ℕ) → slice_get ks i ≡ Some k → ⊥
any_nowhere [] k n i q = none-some k q
any_nowhere (x ∷ ks) k n i q = go (nat_eq k x) refl (λ m j r. any_nowhere ks k m j r) n i q
  where
    go : (b : Bool) → nat_eq k x ≡ b → (list_any (λ w. nat_eq k w) ks ≡ false → (i : ℕ) → slice_get ks i ≡ Some k → ⊥) →
        b || list_any (λ w. nat_eq k w) ks ≡ false → (i : ℕ) → slice_get (x ∷ ks) i ≡ Some k → ⊥
    go true e h m i q = false≢true (sym m)
    go false e h m zero q = false≢true (sym e ∙ eq-eqb k x (sym (same_Some x k q)))
    go false e h m (suc i) q = h m i q

added_key : (ks new : List ℕ) (k : ℕ) (is_new : Bool) → is_new ≡ not (list_any (λ w. nat_eq k w) ks) → new ≡ insert_key nat_eq ks k → is_new ≡ true →
    (new ≡ ks ++ k ∷ []) × ((i : ℕ) → slice_get ks i ≡ Some k → ⊥)
added_key ks new k is_new a e q = go (list_any (λ w. nat_eq k w) ks) refl
  where
    go : (b : Bool) → list_any (λ w. nat_eq k w) ks ≡ b → (new ≡ ks ++ k ∷ []) × ((i : ℕ) → slice_get ks i ≡ Some k → ⊥)
    go true t = absurd (false≢true (sym (ap (λ z. not z) t) ∙ sym a ∙ q))
    go false t = (e ∙ ap (λ b. if b then ks else ks ++ k ∷ []) t, any_nowhere ks k t)

known_key : (ks new : List ℕ) (k : ℕ) (is_new : Bool) → is_new ≡ not (list_any (λ w. nat_eq k w) ks) → new ≡ insert_key nat_eq ks k → is_new ≡ false → new ≡ ks
known_key ks new k is_new a e q = go (list_any (λ w. nat_eq k w) ks) refl
  where
    go : (b : Bool) → list_any (λ w. nat_eq k w) ks ≡ b → new ≡ ks
    go true t = e ∙ ap (λ b. if b then ks else ks ++ k ∷ []) t
    go false t = absurd (false≢true (sym q ∙ a ∙ ap (λ z. not z) t))

-- the key that equals k stands at place j
abbrev pub IsStored : List ℕ → ℕ → ℕ → Type 0
IsStored ks k j = (x : ℕ) × (slice_get ks j ≡ Some x) × (nat_eq k x ≡ true)

pub number_new_book : (p : Shape) (old new : Book) (keys : List ℕ) (form : ℕ) (is_new : Bool) → IsBook p old → form < length (shapes_in old.forms) →
    is_new ≡ not (list_any (λ w. nat_eq form w) old.places.keys) → keys ≡ insert_key nat_eq old.places.keys form → is_new ≡ true → new.places.keys ≡ keys →
    new.forms ≡ old.forms → new.residuals.items ≡ old.residuals.items ++ form ∷ [] →
    new.words.items ≡ old.words.items ++ words_of (form_at (shapes_in old.forms) form) ∷ [] → new.nexts.items ≡ old.nexts.items ++ all_unread ∷ [] →
    IsBook p new
number_new_book p old new keys form is_new h low a e t ks f r w x =
    let added = added_key old.places.keys keys form is_new a e t in
    book_added p old new form h low (number_nowhere p old form h low (λ i q. added.1 i (ap (λ z. slice_get z i) h.places ∙ q))) f r
    (ks ∙ added.0 ∙ ap (λ z. z ++ form ∷ []) h.places) w x

pub number_new_found : (p : Shape) (old new : Book) (keys : List ℕ) (form place : ℕ) (is_new : Bool) → IsBook p old →
    is_new ≡ not (list_any (λ w. nat_eq form w) old.places.keys) → keys ≡ insert_key nat_eq old.places.keys form → is_new ≡ true → IsStored keys form place →
    new.forms ≡ old.forms → new.residuals.items ≡ old.residuals.items ++ form ∷ [] →
    IsFound (residuals_of old) (residuals_of new) (form_at (shapes_in old.forms) form) place
number_new_found p old new keys form place is_new h a e t s f r =
    let added = added_key old.places.keys keys form is_new a e t in
    let at : slice_get (old.places.keys ++ form ∷ []) place ≡ Some s.0 = ap (λ z. slice_get z place) (sym added.0) ∙ s.1 in
    let last : place ≡ length old.places.keys =
    ⊎_elim (λ b. absurd (added.1 place (b.1 ∙ ap (λ z. Some z) (sym (eqb-true form s.0 s.2))))) (λ b. b.0) (get_push old.places.keys form s.0 place at) in
    found_added old new form place f r (last ∙ ap (λ z. length z) h.places)

pub number_old_book : (p : Shape) (old new : Book) (keys : List ℕ) (form : ℕ) (is_new : Bool) → IsBook p old →
    is_new ≡ not (list_any (λ w. nat_eq form w) old.places.keys) → keys ≡ insert_key nat_eq old.places.keys form → is_new ≡ false → new.places.keys ≡ keys →
    new.forms ≡ old.forms → new.residuals.items ≡ old.residuals.items → new.words.items ≡ old.words.items → new.nexts.items ≡ old.nexts.items → IsBook p new
number_old_book p old new keys form is_new h a e t ks f r w x =
    book_moved p old new h (sym (same_residuals old new f r)) (subst (λ z. IsTable z) (sym f) h.forms)
    (subst (λ z. AreThere (shapes_in z) new.residuals.items) (sym f) (subst (λ z. AreThere (shapes_in old.forms) z) (sym r) h.there))
    (ks ∙ known_key old.places.keys keys form is_new a e t ∙ h.places ∙ sym r) w x

pub number_old_found : (p : Shape) (old new : Book) (keys : List ℕ) (form place : ℕ) (is_new : Bool) → IsBook p old →
    is_new ≡ not (list_any (λ w. nat_eq form w) old.places.keys) → keys ≡ insert_key nat_eq old.places.keys form → is_new ≡ false → IsStored keys form place →
    new.forms ≡ old.forms → new.residuals.items ≡ old.residuals.items → IsFound (residuals_of old) (residuals_of new) (form_at (shapes_in old.forms) form) place
number_old_found p old new keys form place is_new h a e t s f r =
    let here : slice_get old.residuals.items place ≡ Some form =
    ap (λ z. slice_get z place) (sym (known_key old.places.keys keys form is_new a e t ∙ h.places)) ∙ s.1 ∙ ap (λ z. Some z) (sym (eqb-true form s.0 s.2)) in
    let is : residuals_of new ≡ residuals_of old = same_residuals old new f r in
    (inl is, subst (λ z. IsNumberOf z (form_at (shapes_in old.forms) form) place) (sym is) (number_there old form place here))

-- an answer that is kept

pub book_noted : (p : Shape) (old new : Book) (i : ℕ) (l : Letter) (x : Next) → IsBook p old → new.forms ≡ old.forms →
    new.residuals.items ≡ old.residuals.items → new.places ≡ old.places → new.words.items ≡ old.words.items →
    IfSome (slice_get old.nexts.items i) (λ n. new.nexts.items ≡ slice_set old.nexts.items i (next_with n l x)) →
    i < length (residuals_of old) → NextSays (residuals_of old) (residual (shape_at (residuals_of old) i) l) x → IsBook p new
book_noted p old new i l x h f e ks w s q k =
    let as_nexts = h.as_many_nexts in
    let there = get_there old.nexts.items i (omega (arith, as_nexts, q)) in
    let set : new.nexts.items ≡ slice_set old.nexts.items i (next_with there.0 l x) =
    subst (λ z. IfSome z (λ n. new.nexts.items ≡ slice_set old.nexts.items i (next_with n l x))) there.1 s in
    let is : residuals_of old ≡ residuals_of new = sym (same_residuals old new f e) in
    let said : NextsSay (residuals_of old) (shape_at (residuals_of old) i) (next_with there.0 l x) =
    with_says (residuals_of old) (shape_at (residuals_of old) i) there.0 l x (h.nexts i there.0 there.1) k in
    record {
      some = subst (λ z. 0 < length z) is h.some;
      whole = subst (λ z. shape_at z 0 ≡ normal_form p) is h.whole;
      forms = subst (λ z. IsTable z) (sym f) h.forms;
      there = subst (λ z. AreThere (shapes_in z) new.residuals.items) (sym f) (subst (λ z. AreThere (shapes_in old.forms) z) (sym e) h.there);
      places = ap (λ z. z.keys) ks ∙ h.places ∙ sym e;
      words = w ∙ h.words ∙ ap (λ z. map (λ r. words_of r) z) is;
      as_many_nexts = ap (λ z. length z) set ∙ set_length old.nexts.items i (next_with there.0 l x) ∙ as_nexts ∙ ap (λ z. length z) is;
      once = subst (λ (z : List Shape). (i j : ℕ) → i < length z → j < length z → shape_at z i ≡ shape_at z j → i ≡ j) is h.once;
      nexts = λ j y r. subst (λ z. NextsSay z (shape_at z j) y) is
          (⊎_elim (λ a. subst (λ z. NextsSay (residuals_of old) (shape_at (residuals_of old) z) y) (sym a.0)
          (subst (λ z. NextsSay (residuals_of old) (shape_at (residuals_of old) i) z) a.1 said)) (λ a. h.nexts j y a)
          (get_set old.nexts.items (next_with there.0 l x) y i j (ap (λ z. slice_get z j) (sym set) ∙ r)));
    }

-- what stood there stands there

pub found_old : (old new : List Shape) (r : Shape) (j i : ℕ) → IsFound old new r j → i < length old → shape_at new i ≡ shape_at old i
found_old old new r j i h q = ⊎_elim (λ a. ap (λ z. shape_at z i) a) (λ a. ap (λ z. shape_at z i) a.0 ∙ shape_old old (r ∷ []) i q) h.0

pub found_longer : (old new : List Shape) (r : Shape) (j : ℕ) → IsFound old new r j → length old ≤ length new
found_longer old new r j h =
    ⊎_elim (λ a. let s = ap (λ z. length z) a in omega (arith, s)) (λ a. let s = ap (λ z. length z) a.0 ∙ push_length old r in omega (arith, s)) h.0

pub found_grows : (old new : List Shape) (r : Shape) (j : ℕ) → IsFound old new r j → Grows old new
found_grows old new r j h = ⊎_elim (λ a. ([], a ∙ sym (no_more old))) (λ a. (r ∷ [], a.0)) h.0
  where
    no_more : (xs : List Shape) → xs ++ [] ≡ xs
    no_more [] = refl
    no_more (x ∷ xs) = ap (λ z. x ∷ z) (no_more xs)

-- the table of expressions grows

pub residuals_stay : (b : Book) (g : Forms) (r : Shape) (k : ℕ) → AreThere (shapes_in b.forms) b.residuals.items → IsPut b.forms g r k →
    forms_at (shapes_in g) b.residuals.items ≡ residuals_of b
residuals_stay b g r k h p = all_forms_on (shapes_in b.forms) (shapes_in g) b.residuals.items p.grows h

pub book_grown : (p : Shape) (old new : Book) (r : Shape) (k : ℕ) → IsBook p old → IsPut old.forms new.forms r k →
    new.residuals ≡ old.residuals → new.places ≡ old.places → new.words ≡ old.words → new.nexts ≡ old.nexts → IsBook p new
book_grown p old new r k h g e ks w x =
    book_moved p old new h (sym (ap (λ z. forms_at (shapes_in new.forms) z.items) e ∙ residuals_stay old new.forms r k h.there g)) g.table
    (subst (λ z. AreThere (shapes_in new.forms) z.items) (sym e) (all_there_on (shapes_in old.forms) (shapes_in new.forms) old.residuals.items g.grows h.there))
    (ap (λ z. z.keys) ks ∙ h.places ∙ ap (λ z. z.items) (sym e)) (ap (λ z. z.items) w) (ap (λ z. z.items) x)

-- the calls, by what they computed

form_there : (ss : List Shape) (is : List ℕ) (x i : ℕ) → i < length is → x ≡ get_or is i x → form_at ss x ≡ shape_at (forms_at ss is) i
form_there ss [] x i q e = absurd (omega (arith, q))
form_there ss (y ∷ is) x zero q e = ap (λ z. form_at ss z) e
form_there ss (y ∷ is) x (suc i) q e = form_there ss is x i (omega (arith, q)) e

-- what the letter leaves of residual i, by the number of i among the expressions
pub rest_is : (b : Book) (x i : ℕ) (l : Letter) (ss : List Shape) (k : ℕ) → i < length b.residuals.items → x ≡ get_or b.residuals.items i x →
    IsFormOf ss (residual (form_at (shapes_in b.forms) x) l) k → IsFormOf ss (residual (shape_at (residuals_of b) i) l) k
rest_is b x i l ss k q e h =
    subst (λ z. IsFormOf ss (residual z l) k) (form_there (shapes_in b.forms) b.residuals.items x i q e) h

-- residual i stands there, and what the letter leaves of it, after that was put into the table
pub still_there : (old new : Book) (i : ℕ) → i < length old.residuals.items → residuals_of new ≡ residuals_of old → i < length (residuals_of new)
still_there old new i q e = let size = book_length old in let same = ap (λ z. length z) e in omega (arith, q, size, same)

pub left_is : (old new : Book) (i k : ℕ) (l : Letter) → residuals_of new ≡ residuals_of old →
    IsFormOf (shapes_in new.forms) (residual (shape_at (residuals_of old) i) l) k → form_at (shapes_in new.forms) k ≡ residual (shape_at (residuals_of new) i) l
left_is old new i k l e h = h.1 ∙ ap (λ z. residual (shape_at z i) l) (sym e)

pub read_some_book : (p : Shape) (b0 b1 b2 : Book) (i j : ℕ) (l : Letter) (d : Shape) → IsBook p b1 → IsFound (residuals_of b0) (residuals_of b1) d j →
    i < length (residuals_of b0) → d ≡ residual (shape_at (residuals_of b0) i) l → true ≡ has_word d → b2.forms ≡ b1.forms →
    b2.residuals.items ≡ b1.residuals.items → b2.places ≡ b1.places → b2.words.items ≡ b1.words.items →
    IfSome (slice_get b1.nexts.items i) (λ n. b2.nexts.items ≡ slice_set b1.nexts.items i (next_with n l (Number j))) → IsBook p b2
read_some_book p b0 b1 b2 i j l d h f low e t g r ks w n =
    let long = found_longer (residuals_of b0) (residuals_of b1) d j f in
    let is : d ≡ residual (shape_at (residuals_of b1) i) l = e ∙ ap (λ z. residual z l) (sym (found_old (residuals_of b0) (residuals_of b1) d j i f low)) in
    book_noted p b1 b2 i l (Number j) h g r ks w n (omega (arith, low, long)) (
      ap (λ z. has_word z) (sym is) ∙ sym t,
      subst (λ z. IsNumberOf (residuals_of b1) z j) is f.1,
    )

pub read_some_after : (b0 b1 b2 : Book) (i j : ℕ) (l : Letter) (d : Shape) → IsFound (residuals_of b0) (residuals_of b1) d j →
    d ≡ residual (shape_at (residuals_of b0) i) l → true ≡ has_word d → b2.forms ≡ b1.forms → b2.residuals.items ≡ b1.residuals.items →
    IsAfter (residuals_of b0) (residuals_of b2) (residual (shape_at (residuals_of b0) i) l) (Some j)
read_some_after b0 b1 b2 i j l d f e t g r =
    subst (λ z. IsAfter (residuals_of b0) z (residual (shape_at (residuals_of b0) i) l) (Some j)) (sym (same_residuals b1 b2 g r))
    (subst (λ z. IsAfter (residuals_of b0) (residuals_of b1) z (Some j)) e (sym t, f))

pub read_none_book : (p : Shape) (b0 b2 : Book) (i : ℕ) (l : Letter) (d : Shape) → IsBook p b0 → i < length (residuals_of b0) →
    d ≡ residual (shape_at (residuals_of b0) i) l → false ≡ has_word d → b2.forms ≡ b0.forms → b2.residuals.items ≡ b0.residuals.items →
    b2.places ≡ b0.places → b2.words.items ≡ b0.words.items →
    IfSome (slice_get b0.nexts.items i) (λ n. b2.nexts.items ≡ slice_set b0.nexts.items i (next_with n l NoWord)) → IsBook p b2
read_none_book p b0 b2 i l d h low e t g r ks w n =
    book_noted p b0 b2 i l NoWord h g r ks w n low (ap (λ z. has_word z) (sym e) ∙ sym t)

pub read_none_after : (b0 b2 : Book) (i : ℕ) (l : Letter) (d : Shape) → d ≡ residual (shape_at (residuals_of b0) i) l → false ≡ has_word d →
    b2.forms ≡ b0.forms → b2.residuals.items ≡ b0.residuals.items → IsAfter (residuals_of b0) (residuals_of b2) (residual (shape_at (residuals_of b0) i) l) None
read_none_after b0 b2 i l d e t g r = (ap (λ z. has_word z) (sym e) ∙ sym t, same_residuals b0 b2 g r)

-- One more step of a listing: what it shows, and what it lists.
use Rattle.std.specs.Prelude.{◌≡◌, ◌⊎◌, ℕ, zero, suc, ◌+◌, ◌*◌, ◌<◌, ◌≤◌, Bool, true, false, List, [], ◌∷◌, ◌++◌, Option, None, Some, map, length, get_or, slice_get, refl}
use Rattle.std.specs.List.{AllByRecursion}
use Rattle.std.proofs.Common.{Vec, Global, sym, ◌∙◌, ap, subst, inl, inr, arith, ⊎_elim}
use Rattle.std.proofs.lemmas.List.{length-map, length-append, map-append}
use Rattle.std.proofs.lemmas.Option.{slice_get_read, slice_get_within, none-some, same_Some}
use Rattle.ts_base.specs.declared.letter.Letter.{Letter}
use Rattle.ts_base.specs.declared.letter.Letter.TheVariants.{Less, Greater}
use Rattle.ts_regex.specs.Shape.{Shape}
use Rattle.ts_forms.specs.Tables.{Grows}
use Rattle.ts_pattern.specs.declared.plan.Tag.{Tag}
use Rattle.ts_pattern.specs.declared.plan.Live.{Live}
use Rattle.ts_pattern.specs.declared.plan.Configuration.{Configuration}
use Rattle.ts_pattern.specs.Entries.{Entry}
use Rattle.ts_pattern.specs.Closed.{PlainConfiguration, Subject, step_of}
use Rattle.ts_pattern.specs.Plans.{shape_at, entry_value, plain_live}
use Rattle.ts_user.specs.declared.book.Book.{Book}
use Rattle.ts_user.specs.declared.listing.Listing.{Listing}
use Rattle.ts_user.specs.declared.build_stop.BuildStop.{BuildStop}
use Rattle.ts_user.specs.declared.build_stop.BuildStop.TheVariants.{Refused, TooMany, Memory}
use Rattle.ts_user.specs.SignatureOrder.{digit, place, signature_at}
use Rattle.ts_user.specs.FirstReached.{blank, reached, agrees}
use Rattle.ts_user.specs.BuildAnswers.{most_configurations, IsRefused, IsStop}
use Rattle.ts_user.specs.Numbered.{AreNumbered, live_numbers, entry_numbers}
use Rattle.ts_user.specs.declared.keys.Keys.{Keys}
use Rattle.ts_user.specs.Keys.{key_lists, configuration_key, IsPlaced}
use Rattle.ts_user.specs.Books.{residuals_of, IsBook, AreListed, values, value_of, IsStep}
use Rattle.ts_user.specs.Listings.{IsTaken, IsReady, signatures_of, IsBegun, IsListed, AreSame, IsNew, IsFull}
use Rattle.ts_user.proofs.Places.{place_push}
use Rattle.ts_user.proofs.KeyLaws.{key_at, key_there, same_configuration, configuration_keys_same}
use Rattle.ts_user.proofs.Books.{book_length, push_length, get_push, get_there}
use Rattle.ts_user.proofs.Steps.{listed_grow, values_grow}
use Rattle.ts_user.proofs.Taking.{reached_push, at_old, at_new, pass_more, take_old, take_new, ready_next, signatures_are}

-- the values of configurations

abbrev rest_of : {A : Type 0} → List A → List A
rest_of [] = []
rest_of (x ∷ xs) = xs

entries_same : (rs : List Shape) → ((i k : ℕ) → i < length rs → k < length rs → shape_at rs i ≡ shape_at rs k → i ≡ k) → (es fs : List Live) → AreListed rs es →
    AreListed rs fs → values rs es ≡ values rs fs → es ≡ fs
entries_same rs once [] [] h k q = refl
entries_same rs once [] (f ∷ fs) h k q = absurd (let n = ap (λ z. length z) q in omega (arith, n))
entries_same rs once (e ∷ es) [] h k q = absurd (let n = ap (λ z. length z) q in omega (arith, n))
entries_same rs once (e ∷ es) (f ∷ fs) h k q =
    let first = ap (λ z. get_or z 0 (entry_value rs (plain_live e))) q in
    let number : e.residual ≡ f.residual = once e.residual f.residual h.0 k.0 (ap (λ (z : Entry (Unit {0}) Shape Tag). z.residual) first) in
    let tag : e.tag ≡ f.tag = ap (λ (z : Entry (Unit {0}) Shape Tag). z.tag) first in
    let rest : es ≡ fs = entries_same rs once es fs h.1 k.1 (ap (λ z. rest_of z) q) in
    ap (λ z. record { residual = z; tag = e.tag } ∷ es) number ∙ ap (λ z. record { residual = f.residual; tag = z } ∷ es) tag ∙ ap (λ z. f ∷ z) rest

configuration_same : (rs : List Shape) → ((i k : ℕ) → i < length rs → k < length rs → shape_at rs i ≡ shape_at rs k → i ≡ k) → (x y : Configuration) →
    AreListed rs x.live.items → AreListed rs y.live.items → value_of rs x ≡ value_of rs y → AreSame x y
configuration_same rs once x y h k q = (
  ap (λ (z : PlainConfiguration Shape). z.state) q,
  entries_same rs once x.live.items y.live.items h k (ap (λ (z : PlainConfiguration Shape). z.live) q),
)

same_value : (rs : List Shape) (x y : Configuration) → AreSame x y → value_of rs x ≡ value_of rs y
same_value rs x y a =
    ap (λ z. record { state = z; live = values rs x.live.items }) a.0 ∙ ap (λ z. record { state = y.state; live = values rs z }) a.1

grown_value : (old new : List Shape) (x : Configuration) → Grows old new → AreListed old x.live.items → value_of new x ≡ value_of old x
grown_value old new x g h = ap (λ z. record { state = x.state; live = z }) (values_grow old new x.live.items g h)

-- numbers

none_new : (n : ℕ) (is : List ℕ) (m : ℕ) → AreNumbered n is m → AllByRecursion (λ i. i < n) is → n ≡ m
none_new n [] m h k = h
none_new n (i ∷ is) m h k = ⊎_elim (λ a. none_new n is m a.1 k.1) (λ a. absurd (let q = a.0 in let r = k.0 in omega (arith, q, r))) h

numbered_on : (n : ℕ) (is js : List ℕ) (m k : ℕ) → AreNumbered n is m → AreNumbered m js k → AreNumbered n (is ++ js) k
numbered_on n [] js m k h g = subst (λ z. AreNumbered z js k) (sym h) g
numbered_on n (i ∷ is) js m k h g = ⊎_elim (λ a. inl (a.0, numbered_on n is js m k a.1 g)) (λ a. inr (a.0, numbered_on (n + 1) is js m k a.1 g)) h

no_more : (is : List ℕ) → is ++ [] ≡ is
no_more [] = refl
no_more (i ∷ is) = ap (λ z. i ∷ z) (no_more is)

assoc : (a b c : List ℕ) → (a ++ b) ++ c ≡ a ++ (b ++ c)
assoc [] b c = refl
assoc (x ∷ a) b c = ap (λ z. x ∷ z) (assoc a b c)

numbers_pushed : (xs : List Configuration) (x : Configuration) → entry_numbers (xs ++ x ∷ []) ≡ entry_numbers xs ++ live_numbers x.live.items
numbers_pushed [] x = no_more (live_numbers x.live.items)
numbers_pushed (y ∷ xs) x =
    ap (λ z. live_numbers y.live.items ++ z) (numbers_pushed xs x) ∙ sym (assoc (live_numbers y.live.items) (entry_numbers xs) (live_numbers x.live.items))

pub word_there : {W : Type 0} (f : W → List Letter) (ws : List W) (i : ℕ) (d : W) → i < length ws → signature_at (map f ws) i ≡ f (get_or ws i d)
word_there f [] i d q = absurd (omega (arith, q))
word_there f (w ∷ ws) zero d q = refl
word_there f (w ∷ ws) (suc i) d q = word_there f ws i d (omega (arith, q))

-- the configuration whose step is taken

pub here_listed : (s : Subject Shape) (p : Shape) (t : Listing) (k : ℕ) (here : Configuration) → IsListed s p t → k < length t.configurations.items →
    here ≡ get_or t.configurations.items k here → AreListed (residuals_of t.book) here.live.items
here_listed s p t k here h q e = h.listed k here (slice_get_read t.configurations.items _ k here refl q e)

-- how many residuals there are at most
numbers_few : (n : ℕ) (is : List ℕ) (all : ℕ) → AreNumbered n is all → all ≤ n + length is
numbers_few n [] all h = omega (arith, h)
numbers_few n (i ∷ is) all h =
    ⊎_elim (λ a. let r = numbers_few n is all a.1 in omega (arith, r)) (λ a. let r = numbers_few (n + 1) is all a.1 in omega (arith, r)) h

each_few : (xs : List Configuration) → ((i : ℕ) (x : Configuration) → slice_get xs i ≡ Some x → length x.live.items ≤ 512) →
    length (entry_numbers xs) ≤ 512 * length xs
each_few [] h = omega arith
each_few (x ∷ xs) h =
    let first = h 0 x refl in
    let rest = each_few xs (λ i y e. h (suc i) y e) in
    let both = length-append (live_numbers x.live.items) (entry_numbers xs) in
    let own = length-map x.live.items (λ (e : Live). e.residual) in
    omega (arith, first, rest, both, own)

pub residuals_few : (s : Subject Shape) (p : Shape) (t : Listing) → IsListed s p t → length (residuals_of t.book) ≤ 262145
residuals_few s p t h =
    let most = numbers_few 1 (entry_numbers t.configurations.items) (length (residuals_of t.book)) h.numbered in
    let few = h.few in
    let all = each_few t.configurations.items
    (λ i x e. let a = h.few_entries i x e in let b = slice_get_within t.configurations.items i x e in omega (arith, a, b, few)) in
    omega (arith, most, all, few)

-- there is room for the residuals of one more step
pub room_for : (s : Subject Shape) (p : Shape) (t : Listing) (k : ℕ) (here : Configuration) → IsListed s p t → k < length t.configurations.items →
    here ≡ get_or t.configurations.items k here → length t.book.residuals.items + length here.live.items < 4000000000
room_for s p t k here h q e =
    let most = residuals_few s p t h in
    let size = book_length t.book in
    let own = h.few_entries k here (slice_get_read t.configurations.items _ k here refl q e) in
    let few = h.few in
    omega (arith, most, size, own, few, q)

-- what is known of the step of signature k on the letter l: it leads to `to`, and ok says whether its checks hold
pub record IsLook (s : Subject Shape) (p : Shape) (t : Listing) (k : ℕ) (l : Letter) (book : Book) (to : Configuration) (ok : Bool) : Type 0 where
  pub listed : IsListed s p t
  pub inside : k < length (signatures_of t)
  pub taken : IsTaken s (signatures_of t) (place (signature_at (signatures_of t) k ++ l ∷ []))
  pub is_book : IsBook p book
  pub grows : Grows (residuals_of t.book) (residuals_of book)
  pub to_listed : AreListed (residuals_of book) to.live.items
  pub numbered : AreNumbered (length (residuals_of t.book)) (live_numbers to.live.items) (length (residuals_of book))
  pub value : value_of (residuals_of book) to ≡ reached s (signature_at (signatures_of t) k ++ l ∷ [])
  pub told : ok ≡ agrees s (reached s (signature_at (signatures_of t) k)) l
  pub few_entries : length to.live.items ≤ length t.configurations.items

pub looked : (s : Subject Shape) (p : Shape) (t : Listing) (k : ℕ) (l : Letter) (book : Book) (here to : Configuration) (ok : Bool) → IsListed s p t →
    k < length t.configurations.items → IsTaken s (signatures_of t) (place (signature_at (signatures_of t) k ++ l ∷ [])) →
    here ≡ get_or t.configurations.items k here →
    IsBook p book → IsStep s (residuals_of t.book) (residuals_of book) here l to ok → IsLook s p t k l book to ok
looked s p t k l book here to ok h q a e b st =
    let is : value_of (residuals_of t.book) here ≡ reached s (signature_at (signatures_of t) k) =
    h.values k here (slice_get_read t.configurations.items _ k here refl q e) in
    let size = h.size in
    let own = h.few_entries k here (slice_get_read t.configurations.items _ k here refl q e) in
    let one = st.few in
    record {
      listed = h;
      inside = subst (λ z. k < z) size q;
      taken = a;
      is_book = b;
      grows = st.grows;
      to_listed = st.listed;
      numbered = st.numbered;
      value = st.value ∙ ap (λ z. step_of s z l) is ∙ sym (reached_push s (signature_at (signatures_of t) k) l);
      told = st.agrees ∙ ap (λ z. agrees s z l) is;
      few_entries = omega (arith, own, one, q);
    }

-- a check fails

pub is_refused : (s : Subject Shape) (p : Shape) (t : Listing) (k : ℕ) (l : Letter) (book : Book) (to : Configuration) (ok : Bool) →
    IsLook s p t k l book to ok → ok ≡ false → (w : List Letter) → w ≡ signature_at (signatures_of t) k ++ l ∷ [] → IsRefused s w
is_refused s p t k l book to ok h q w e =
    let size = (h.listed).size in let few = (h.listed).few in
    subst (λ z. IsRefused s z) (sym e)
    (record {
      front = signature_at (signatures_of t) k;
      letter = l;
      is = refl;
      first = (h.taken).each k h.inside;
      fails = sym h.told ∙ q;
      before = (h.taken).pass;
      listed = signatures_of t;
      signatures = signatures_are s (signatures_of t) (place (signature_at (signatures_of t) k ++ l ∷ [])) h.taken;
      few = subst (λ z. z ≤ most_configurations) size few;
    })

-- the configuration is listed

-- the configuration's key is there
pub key_found : (cs : List Configuration) (old new : List (List ℕ)) (to : Configuration) (key : List ℕ) (o : Option ℕ) (i : ℕ) →
    old ≡ map (λ x. configuration_key x) cs → key ≡ configuration_key to → IsPlaced old new key o → o ≡ Some i →
    (x : Configuration) × (slice_get cs i ≡ Some x) × AreSame x to × (new ≡ map (λ x. configuration_key x) cs)
key_found cs old new to key o i e k h q =
    let placed = subst (λ z. IsPlaced old new key z) q h in
    let x = key_at (λ x. configuration_key x) cs i key (ap (λ z. slice_get z i) (sym e) ∙ placed.1) in
    (x.0, x.1, same_configuration x.0 to (x.2 ∙ k), placed.0 ∙ e)

-- the configuration's key wasn't there, and is now
pub key_added : (cs : List Configuration) (old new : List (List ℕ)) (to : Configuration) (key : List ℕ) (o : Option ℕ) →
    old ≡ map (λ x. configuration_key x) cs → key ≡ configuration_key to → IsPlaced old new key o → o ≡ None →
    IsNew cs to × (new ≡ map (λ x. configuration_key x) cs ++ configuration_key to ∷ [])
key_added cs old new to key o e k h q =
    let placed = subst (λ z. IsPlaced old new key z) q h in (
      λ i x t a. placed.1 i
          (ap (λ z. slice_get z i) e ∙ key_there (λ x. configuration_key x) cs i x t ∙ ap (λ z. Some z) (configuration_keys_same x to a ∙ sym k)),
      placed.0 ∙ ap (λ z. z ++ key ∷ []) e ∙ ap (λ z. map (λ x. configuration_key x) cs ++ z ∷ []) k,
    )

pub first_key : (old new : List (List ℕ)) (key : List ℕ) (o : Option ℕ) → old ≡ [] → IsPlaced old new key o → new ≡ key ∷ []
first_key old new key None e h = h.0 ∙ ap (λ z. z ++ key ∷ []) e
first_key old new key (Some i) e h = absurd (none-some key (ap (λ z. slice_get z i) (sym e) ∙ h.1))

pub old_listed : (s : Subject Shape) (p : Shape) (t : Listing) (k : ℕ) (l : Letter) (book : Book) (to : Configuration) (ok : Bool) →
    IsLook s p t k l book to ok → (i : ℕ) (x : Configuration) → slice_get t.configurations.items i ≡ Some x → AreSame x to →
    (keys : Keys) → key_lists keys ≡ map (λ x. configuration_key x) t.configurations.items →
    IsListed s p (record { book = book; configurations = t.configurations; signatures = t.signatures; keys = keys })
old_listed s p t k l book to ok h i x e a keys ks =
    let was : AreListed (residuals_of t.book) x.live.items = (h.listed).listed i x e in
    let none : AllByRecursion (λ i. i < length (residuals_of t.book)) (live_numbers to.live.items) =
    subst (λ z. AllByRecursion (λ i. i < length (residuals_of t.book)) (live_numbers z)) a.1 was in
    let size : length (residuals_of t.book) ≡ length (residuals_of book) =
    none_new (length (residuals_of t.book)) (live_numbers to.live.items) (length (residuals_of book)) h.numbered none in
    record {
      book = h.is_book;
      keys = ks;
      size = (h.listed).size;
      values = λ j y q. grown_value (residuals_of t.book) (residuals_of book) y h.grows ((h.listed).listed j y q) ∙ (h.listed).values j y q;
      listed = λ j y q. listed_grow (residuals_of t.book) (residuals_of book) y.live.items h.grows ((h.listed).listed j y q);
      numbered = subst (λ z. AreNumbered 1 (entry_numbers t.configurations.items) z) size (h.listed).numbered;
      few = (h.listed).few;
      few_entries = (h.listed).few_entries;
    }

pub old_taken : (s : Subject Shape) (p : Shape) (t : Listing) (k : ℕ) (l : Letter) (book : Book) (to : Configuration) (ok : Bool) →
    IsLook s p t k l book to ok → ok ≡ true → (i : ℕ) (x : Configuration) → slice_get t.configurations.items i ≡ Some x → AreSame x to →
    IsTaken s (signatures_of t) (place (signature_at (signatures_of t) k ++ l ∷ []) + 1)
old_taken s p t k l book to ok h q i x e a =
    let size = (h.listed).size in
    let low = slice_get_within t.configurations.items i x e in
    take_old s (signatures_of t) (place (signature_at (signatures_of t) k ++ l ∷ [])) (signature_at (signatures_of t) k) l h.taken refl (sym h.told ∙ q) i
    (subst (λ z. i < z) size low)
    (sym ((h.listed).values i x e) ∙ sym (grown_value (residuals_of t.book) (residuals_of book) x h.grows ((h.listed).listed i x e))
    ∙ same_value (residuals_of book) x to a ∙ h.value)

-- the configuration isn't listed

none_there : (s : Subject Shape) (p : Shape) (t : Listing) (k : ℕ) (l : Letter) (book : Book) (to : Configuration) (ok : Bool) →
    IsLook s p t k l book to ok → IsNew t.configurations.items to → (i : ℕ) → i < length (signatures_of t) →
    reached s (signature_at (signatures_of t) i) ≡ reached s (signature_at (signatures_of t) k ++ l ∷ []) → ⊥
none_there s p t k l book to ok h new i q e =
    let size = (h.listed).size in
    let there = get_there t.configurations.items i (subst (λ z. i < z) (sym size) q) in
    let was = (h.listed).listed i there.0 there.1 in
    new i there.0 there.1
    (configuration_same (residuals_of book) (h.is_book).once there.0 to (listed_grow (residuals_of t.book) (residuals_of book) (there.0).live.items h.grows was)
    h.to_listed
    (grown_value (residuals_of t.book) (residuals_of book) there.0 h.grows was ∙ (h.listed).values i there.0 there.1 ∙ e ∙ sym h.value))

pub new_words : (t new : Listing) (w : List Letter) → signatures_of new ≡ signatures_of t ++ w ∷ [] → (k : ℕ) → k < length (signatures_of t) →
    signature_at (signatures_of new) k ≡ signature_at (signatures_of t) k
new_words t new w e k q = ap (λ z. signature_at z k) e ∙ at_old (signatures_of t) w k q

pub new_taken : (s : Subject Shape) (p : Shape) (t new : Listing) (k : ℕ) (l : Letter) (book : Book) (to : Configuration) (ok : Bool) →
    IsLook s p t k l book to ok → ok ≡ true → IsNew t.configurations.items to → signatures_of new
    ≡ signatures_of t ++ (signature_at (signatures_of t) k ++ l ∷ []) ∷ [] →
    IsTaken s (signatures_of new) (place (signature_at (signatures_of t) k ++ l ∷ []) + 1)
new_taken s p t new k l book to ok h q none e =
    subst (λ z. IsTaken s z (place (signature_at (signatures_of t) k ++ l ∷ []) + 1)) (sym e)
    (take_new s (signatures_of t) (place (signature_at (signatures_of t) k ++ l ∷ [])) (signature_at (signatures_of t) k) l h.taken refl (sym h.told ∙ q)
    (none_there s p t k l book to ok h none))

pub new_listed : (s : Subject Shape) (p : Shape) (t new : Listing) (k : ℕ) (l : Letter) (book : Book) (to : Configuration) (ok : Bool) →
    IsLook s p t k l book to ok → new.book ≡ book → new.configurations.items ≡ t.configurations.items ++ to ∷ [] →
    signatures_of new ≡ signatures_of t ++ (signature_at (signatures_of t) k ++ l ∷ []) ∷ [] → length t.configurations.items < most_configurations →
    key_lists new.keys ≡ map (λ x. configuration_key x) t.configurations.items ++ configuration_key to ∷ [] → IsListed s p new
new_listed s p t new k l book to ok h eb ec ew few ks =
    let w : List Letter = signature_at (signatures_of t) k ++ l ∷ [] in
    let size = (h.listed).size in
    let sc : length new.configurations.items ≡ length t.configurations.items + 1 = ap (λ z. length z) ec ∙ push_length t.configurations.items to in
    let sw : length (signatures_of new) ≡ length (signatures_of t) + 1 = ap (λ z. length z) ew ∙ push_length (signatures_of t) w in
    record {
      book = subst (λ z. IsBook p z) (sym eb) h.is_book;
      keys = ks ∙ sym (map-append (λ x. configuration_key x) t.configurations.items (to ∷ [])) ∙ ap (λ z. map (λ x. configuration_key x) z) (sym ec);
      size = omega (arith, size, sc, sw);
      values = λ j y q. subst (λ z. value_of (residuals_of z) y ≡ reached s (signature_at (signatures_of new) j)) (sym eb)
          (subst (λ z. value_of (residuals_of book) y ≡ reached s (signature_at z j)) (sym ew)
          (value_in j y (get_push t.configurations.items to y j (ap (λ z. slice_get z j) (sym ec) ∙ q))));
      listed = λ j y q. subst (λ z. AreListed (residuals_of z) y.live.items) (sym eb)
          (listed_in j y (get_push t.configurations.items to y j (ap (λ z. slice_get z j) (sym ec) ∙ q)));
      numbered = subst (λ z. AreNumbered 1 (entry_numbers new.configurations.items) (length (residuals_of z))) (sym eb)
          (subst (λ z. AreNumbered 1 z (length (residuals_of book))) (sym (ap (λ z. entry_numbers z) ec ∙ numbers_pushed t.configurations.items to))
          (numbered_on 1 (entry_numbers t.configurations.items) (live_numbers to.live.items) (length (residuals_of t.book)) (length (residuals_of book))
          (h.listed).numbered h.numbered));
      few = omega (arith, sc, few);
      few_entries = λ j y q. entries_in j y (get_push t.configurations.items to y j (ap (λ z. slice_get z j) (sym ec) ∙ q));
    }
  where
    entries_in : (j : ℕ) (y : Configuration) → ((j < length t.configurations.items) × (slice_get t.configurations.items j ≡ Some y))
        ⊎ ((j ≡ length t.configurations.items) × (to ≡ y)) → length y.live.items ≤ j
    entries_in j y (inl a) = (h.listed).few_entries j y a.1
    entries_in j y (inr a) =
        let own : length y.live.items ≤ length t.configurations.items = subst
        (λ (z : Configuration). length z.live.items ≤ length t.configurations.items) a.1 h.few_entries in
        let last = a.0 in omega (arith, own, last)

    value_in : (j : ℕ) (y : Configuration) → ((j < length t.configurations.items) × (slice_get t.configurations.items j ≡ Some y))
        ⊎ ((j ≡ length t.configurations.items) × (to ≡ y)) →
        value_of (residuals_of book) y ≡ reached s (signature_at (signatures_of t ++ (signature_at (signatures_of t) k ++ l ∷ []) ∷ []) j)
    value_in j y (inl a) =
        grown_value (residuals_of t.book) (residuals_of book) y h.grows ((h.listed).listed j y a.1) ∙ (h.listed).values j y a.1
        ∙ ap (λ z. reached s z) (sym (at_old (signatures_of t) (signature_at (signatures_of t) k ++ l ∷ []) j (subst (λ z. j < z) (h.listed).size a.0)))
    value_in j y (inr a) =
        ap (λ z. value_of (residuals_of book) z) (sym a.1) ∙ h.value
        ∙ ap (λ z. reached s z) (sym (at_new (signatures_of t) (signature_at (signatures_of t) k ++ l ∷ []) j (a.0 ∙ (h.listed).size)))

    listed_in : (j : ℕ) (y : Configuration) → ((j < length t.configurations.items) × (slice_get t.configurations.items j ≡ Some y))
        ⊎ ((j ≡ length t.configurations.items) × (to ≡ y)) → AreListed (residuals_of book) y.live.items
    listed_in j y (inl a) = listed_grow (residuals_of t.book) (residuals_of book) y.live.items h.grows ((h.listed).listed j y a.1)
    listed_in j y (inr a) = subst (λ (z : Configuration). AreListed (residuals_of book) z.live.items) a.1 h.to_listed

-- the configuration can't be listed

pub is_full : (s : Subject Shape) (p : Shape) (t : Listing) (k : ℕ) (l : Letter) (book : Book) (to : Configuration) (ok : Bool) →
    IsLook s p t k l book to ok → ok ≡ true → IsNew t.configurations.items to → (e : BuildStop) → IsFull (length t.configurations.items) e → IsStop s e
is_full s p t k l book to ok h q none (Refused signature) f = absurd f
is_full s p t k l book to ok h q none TooMany f =
    let w : List Letter = signature_at (signatures_of t) k ++ l ∷ [] in
    let size = (h.listed).size in let few = (h.listed).few in
    record {
      signature = w;
      first = λ v low e. let c = (h.taken).covers v low in none_there s p t k l book to ok h none c.0 c.1 (c.3 ∙ e);
      pass = pass_more s (place w) (signature_at (signatures_of t) k) l refl (h.taken).pass (sym h.told ∙ q);
      listed = signatures_of t;
      signatures = signatures_are s (signatures_of t) (place w) h.taken;
      full = omega (arith, size, few, f);
    }
is_full s p t k l book to ok h q none Memory f = tt

-- the signatures of a listing with one more

pub longer_is : (t : Listing) (k : ℕ) (l : Letter) (x : Vec Letter Global) (signs w : List Letter) → k < length t.configurations.items →
    length t.configurations.items ≡ length (signatures_of t) → x ≡ get_or t.signatures.items k x → signs ≡ x.items → w ≡ signs ++ l ∷ [] →
    w ≡ signature_at (signatures_of t) k ++ l ∷ []
longer_is t k l x signs w q size e a b =
    b ∙ ap (λ z. z ++ l ∷ [])
    (a ∙ ap (λ (z : Vec Letter Global). z.items) e
    ∙ sym (word_there (λ (z : Vec Letter Global). z.items) t.signatures.items k x
    (subst (λ z. k < z) (length-map t.signatures.items (λ (z : Vec Letter Global). z.items)) (subst (λ z. k < z) size q))))

pub words_pushed : (t new : Listing) (x : Vec Letter Global) (w : List Letter) → new.signatures.items ≡ t.signatures.items ++ x ∷ [] → x.items ≡ w →
    signatures_of new ≡ signatures_of t ++ w ∷ []
words_pushed t new x w e q =
    ap (λ z. map (λ (z : Vec Letter Global). z.items) z) e ∙ map-append (λ (z : Vec Letter Global). z.items) t.signatures.items (x ∷ [])
    ∙ ap (λ z. signatures_of t ++ z ∷ []) q

-- from letter to letter, and to the next signature

pub ready_taken : (s : Subject Shape) (p : Shape) (t : Listing) (k : ℕ) → IsListed s p t → k < length t.configurations.items → IsReady s (signatures_of t) k →
    IsTaken s (signatures_of t) (place (signature_at (signatures_of t) k ++ Less ∷ []))
ready_taken s p t k h q r =
    let size = h.size in
    subst (λ z. IsTaken s (signatures_of t) z) (sym (place_push (signature_at (signatures_of t) k) Less)) (r.more (subst (λ z. k < z) size q))

pub taken_next : (s : Subject Shape) (old new : Listing) (k : ℕ) (l m : Letter) → digit m ≡ digit l + 1 →
    signature_at (signatures_of new) k ≡ signature_at (signatures_of old) k →
    IsTaken s (signatures_of new) (place (signature_at (signatures_of old) k ++ l ∷ []) + 1) →
    IsTaken s (signatures_of new) (place (signature_at (signatures_of new) k ++ m ∷ []))
taken_next s old new k l m d e h =
    let a = place_push (signature_at (signatures_of old) k) l in
    let b = place_push (signature_at (signatures_of new) k) m in
    let c = ap (λ z. place z) e in
    let n : place (signature_at (signatures_of old) k ++ l ∷ []) + 1 ≡ place (signature_at (signatures_of new) k ++ m ∷ []) = omega (arith, a, b, c, d) in
    subst (λ z. IsTaken s (signatures_of new) z) n h

pub taken_ready : (s : Subject Shape) (p : Shape) (old new : Listing) (k : ℕ) → IsListed s p new → k < length new.configurations.items →
    signature_at (signatures_of new) k ≡ signature_at (signatures_of old) k →
    IsTaken s (signatures_of new) (place (signature_at (signatures_of old) k ++ Greater ∷ []) + 1) →
    IsReady s (signatures_of new) (k + 1)
taken_ready s p old new k g q e h =
    let a = place_push (signature_at (signatures_of old) k) Greater in
    let c = ap (λ z. place z) e in
    let size = g.size in
    ready_next s (signatures_of new) (place (signature_at (signatures_of old) k ++ Greater ∷ []) + 1) k h (subst (λ z. k < z) size q) (omega (arith, a, c))

-- the first configuration

first_listed : (s : Subject Shape) (p : Shape) (t : Listing) (x : Configuration) (w : Shape) → IsBook p t.book → residuals_of t.book ≡ w ∷ [] →
    t.configurations.items ≡ x ∷ [] → x.state ≡ 0 → x.live.items ≡ [] → signatures_of t ≡ [] ∷ [] → key_lists t.keys ≡ configuration_key x ∷ [] → IsListed s p t
first_listed s p t x w b r c st lv ws ks =
    record {
      book = b;
      keys = ks ∙ ap (λ z. map (λ x. configuration_key x) z) (sym c);
      size = ap (λ z. length z) c ∙ sym (ap (λ z. length z) ws);
      values = λ i y q. value_in i y (ap (λ z. slice_get z i) (sym c) ∙ q) ∙ ap (λ z. reached s (signature_at z i)) (sym ws);
      listed = λ i y q. listed_in i y (ap (λ z. slice_get z i) (sym c) ∙ q);
      numbered = subst (λ z. AreNumbered 1 (entry_numbers z) (length (residuals_of t.book))) (sym c)
          (subst (λ z. AreNumbered 1 (live_numbers z ++ []) (length (residuals_of t.book))) (sym lv) (sym (ap (λ z. length z) r)));
      few = let n = ap (λ z. length z) c in omega (arith, n);
      few_entries = λ i y q. entries_in i y (ap (λ z. slice_get z i) (sym c) ∙ q);
    }
  where
    entries_in : (i : ℕ) (y : Configuration) → slice_get (x ∷ []) i ≡ Some y → length y.live.items ≤ i
    entries_in zero y q =
        subst (λ (z : Configuration). length z.live.items ≤ 0) (same_Some x y q) (subst (λ z. length z ≤ 0) (sym lv) (omega arith))
    entries_in (suc i) y q = absurd (none-some y q)

    value_x : value_of (residuals_of t.book) x ≡ blank
    value_x =
        ap (λ z. record { state = z; live = values (residuals_of t.book) x.live.items }) st
        ∙ ap (λ z. record { state = 0; live = values (residuals_of t.book) z }) lv

    value_in : (i : ℕ) (y : Configuration) → slice_get (x ∷ []) i ≡ Some y → value_of (residuals_of t.book) y ≡ reached s (signature_at ([] ∷ []) i)
    value_in zero y q = ap (λ z. value_of (residuals_of t.book) z) (sym (same_Some x y q)) ∙ value_x
    value_in (suc i) y q = absurd (none-some y q)

    listed_in : (i : ℕ) (y : Configuration) → slice_get (x ∷ []) i ≡ Some y → AreListed (residuals_of t.book) y.live.items
    listed_in zero y q =
        subst (λ (z : Configuration). AreListed (residuals_of t.book) z.live.items) (same_Some x y q)
        (subst (λ z. AreListed (residuals_of t.book) z) (sym lv) tt)
    listed_in (suc i) y q = absurd (none-some y q)

pub begun_listed : (s : Subject Shape) (p : Shape) (t : Listing) (book : Book) (w : Shape) → t.book ≡ book → IsBook p book → residuals_of book ≡ w ∷ [] →
    IsBegun t → IsListed s p t
begun_listed s p t book w same is only h =
    first_listed s p t h.blank w (subst (λ z. IsBook p z) (sym same) is) (ap (λ z. residuals_of z) same ∙ only) h.alone h.start h.empty h.signatures h.keys

pub first_one : {A : Type 0} (xs old : List A) (x : A) → xs ≡ old ++ x ∷ [] → old ≡ [] → xs ≡ x ∷ []
first_one xs old x e q = e ∙ ap (λ z. z ++ x ∷ []) q

pub first_words : (ss old : List (Vec Letter Global)) (w : Vec Letter Global) → ss ≡ old ++ w ∷ [] → old ≡ [] → w.items ≡ [] →
    map (λ (w : Vec Letter Global). w.items) ss ≡ [] ∷ []
first_words ss old w e q r = ap (λ z. map (λ (w : Vec Letter Global). w.items) z) (first_one ss old w e q) ∙ ap (λ z. z ∷ []) r

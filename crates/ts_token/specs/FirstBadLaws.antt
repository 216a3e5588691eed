-- Who reads row after row finds the first bad one, and there is one first bad row.
-- Lemmas, and what they speak of: they are here since other crates' proofs cite them.
use Rattle.std.proofs.Common.{◌≡◌, ℕ, zero, suc, ◌<◌, ⊎_elim, Option, Some, None, Ok, Err, List, [], ◌∷◌, take, refl, sym, ap, subst, ◌∙◌, arith}
use Rattle.std.specs.Prelude.{Result, slice_get}
use Rattle.std.proofs.str.Laws.{order}
use Rattle.std.proofs.lemmas.Option.{same_Some}
use Rattle.ts_token.specs.Text.{Row}
use Rattle.ts_token.specs.FirstBad.{with_rows, AreGood, FirstBad}

-- what is read from a row on is its kind beside its number, or what is read after it
abbrev pub Goes : {S K : Type 0} → ℕ → Option K → Result S (ℕ × K) → Result S (ℕ × K) → Type 0
Goes number None here later = here ≡ later
Goes number (Some kind) here later = here ≡ Err (number, kind)

module _ {S K : Type 0} (with_row : S → Row → S) (kind : S → Row → Option K) where
  -- the kind of a row after rows that come after m
  abbrev pub kind_after : S → List Row → Row → Option K
  kind_after m before row = kind (with_rows with_row m before) row

  abbrev pub Found : S → List Row → Result S (ℕ × K) → Type 0
  Found m rows (Ok after) = AreGood (kind_after m) rows × (with_rows with_row m rows ≡ after)
  Found m rows (Err e) = FirstBad (kind_after m) rows e.0 e.1

  good_more : (m : S) (r : Row) (rs : List Row) → kind m r ≡ None → AreGood (kind_after (with_row m r)) rs →
      AreGood (kind_after m) (r ∷ rs)
  good_more m r rs none good zero row e = ap (kind m) (sym (same_Some r row e)) ∙ none
  good_more m r rs none good (suc i) row e = good i row e

  first_more : (m : S) (r : Row) (rs : List Row) (place : ℕ) → kind m r ≡ None →
      ((i : ℕ) (earlier : Row) → i < place → slice_get rs i ≡ Some earlier →
      kind_after (with_row m r) (take i rs) earlier ≡ None) →
      (i : ℕ) (earlier : Row) → i < suc place → slice_get (r ∷ rs) i ≡ Some earlier →
      kind_after m (take i (r ∷ rs)) earlier ≡ None
  first_more m r rs place none first zero earlier h e = ap (kind m) (sym (same_Some r earlier e)) ∙ none
  first_more m r rs place none first (suc i) earlier h e = first i earlier (omega arith) e

  found_more : (m : S) (r : Row) (rs : List Row) (read : Result S (ℕ × K)) → kind m r ≡ None →
      Found (with_row m r) rs read → Found m (r ∷ rs) read
  found_more m r rs (Ok after) none found = (good_more m r rs none found.0, found.1)
  found_more m r rs (Err e) none bad = record {
    place = suc bad.place;
    row = bad.row;
    is_there = bad.is_there;
    number = bad.number;
    kind_is = bad.kind_is;
    first = first_more m r rs bad.place none bad.first;
  }

  found_step : (m : S) (r : Row) (rs : List Row) (k : Option K) (here later : Result S (ℕ × K)) → kind m r ≡ k →
      Goes r.number k here later → Found (with_row m r) rs later → Found m (r ∷ rs) here
  found_step m r rs None here later e goes found = subst (Found m (r ∷ rs)) (sym goes) (found_more m r rs later e found)
  found_step m r rs (Some k) here later e goes found = subst (Found m (r ∷ rs)) (sym goes) (record {
    place = 0;
    row = r;
    is_there = refl;
    number = refl;
    kind_is = e;
    first = λ i earlier h there. absurd (omega arith);
  })

  -- all rows are good and state what is read, or the first bad one is read
  pub found_rows : (read : S → List Row → Result S (ℕ × K)) → ((m : S) → read m [] ≡ Ok m) →
      ((m : S) (r : Row) (rs : List Row) → Goes r.number (kind m r) (read m (r ∷ rs)) (read (with_row m r) rs)) →
      (m : S) (rows : List Row) → Found m rows (read m rows)
  found_rows read none goes m [] = subst (Found m []) (sym (none m)) ((λ i row e. cc), refl)
  found_rows read none goes m (r ∷ rs) =
      found_step m r rs (kind m r) (read m (r ∷ rs)) (read (with_row m r) rs) refl (goes m r rs)
      (found_rows read none goes (with_row m r) rs)

module _ {K : Type 0} (kind_at : List Row → Row → Option K) (rows : List Row) where
  -- no row is bad where all are good
  pub good_bad : (line : ℕ) (kind : K) → AreGood kind_at rows → FirstBad kind_at rows line kind → ⊥
  good_bad line kind good bad =
      let none = good bad.place bad.row bad.is_there in
      let some = bad.kind_is in
      cc

  earlier : (l k : ℕ) (a b : K) (x : FirstBad kind_at rows l a) (y : FirstBad kind_at rows k b) → x.place < y.place → ⊥
  earlier l k a b x y h =
      let none = y.first x.place x.row h x.is_there in
      let some = x.kind_is in
      cc

  one_place : (l k : ℕ) (a b : K) (x : FirstBad kind_at rows l a) (y : FirstBad kind_at rows k b) → x.place ≡ y.place
  one_place l k a b x y = nat_cases x.place y.place (earlier l k a b x y) (earlier k l b a y x)
    where
      nat_cases : (m n : ℕ) → (m < n → ⊥) → (n < m → ⊥) → m ≡ n
      nat_cases m n f g =
          ⊎_elim (λ h. absurd (f h)) (λ h. ⊎_elim (λ h'. absurd (g h')) (λ h'. omega arith) (order n m)) (order m n)

  -- two first bad rows are one
  pub one_bad : (l k : ℕ) (a b : K) → FirstBad kind_at rows l a → FirstBad kind_at rows k b → (l ≡ k) × (a ≡ b)
  one_bad l k a b x y =
      let place = one_place l k a b x y in
      let row : x.row ≡ y.row = same_Some x.row y.row (sym x.is_there ∙ ap (slice_get rows) place ∙ y.is_there) in
      let kind : ◌≡◌ {A = Option K} (Some a) (Some b) =
      sym x.kind_is ∙ ap (λ (n : ℕ). kind_at (take n rows) x.row) place ∙ ap (kind_at (take y.place rows)) row
      ∙ y.kind_is in
      (sym x.number ∙ ap (λ (r : Row). r.number) row ∙ y.number, same_Some a b kind)

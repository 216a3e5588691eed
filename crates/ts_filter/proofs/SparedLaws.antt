-- What is known of drops stays right after each mark, and what is known of all terms is known of each machine.
use Rattle.std.proofs.Common.{◌≡◌, ◌⊎◌, ℕ, zero, suc, ◌+◌, ◌-◌, ◌<◌, ◌≤◌, ℤ, ◌<ℤ◌, ◌≤ℤ◌, true, false, List, [], ◌∷◌, length, map, drop, pos, replicate, set, get_or}
use Rattle.std.proofs.Common.{Option, Some, None, unwrap_or, slice_get, refl, sym, ◌∙◌, ap, subst, inl, inr, ⊎_elim, arith}
use Rattle.std.proofs.lemmas.Int.{ints}
use Rattle.std.proofs.lemmas.List.{length-map, length-replicate, length-set}
use Rattle.std.proofs.lemmas.Option.{none-some, same_Some, slice_get-get_or}
use Rattle.std.specs.Prelude.{Contains, IsTrue}
use Rattle.std.specs.List.{AllByRecursion}
use Rattle.ts_base.specs.Limits.{IsCellValue, greatest_value}
use Rattle.ts_domain.specs.BoxSeries.{IsBox}
use Rattle.ts_domain.specs.Values.{IsRising, WithinLimits}
use Rattle.ts_domain.proofs.MarkedSets.{at_contains}
use Rattle.ts_domain.proofs.Sets.{each_contains}
use Rattle.ts_bound.specs.TermSpans.{Automata, LooksIn, value_span, IsUsable as IsUsableOf}
use Rattle.ts_model.specs.declared.model.Require.{Require}
use Rattle.ts_filter.specs.declared.drops.Removal.{Removal}
use Rattle.ts_filter.specs.declared.spares.Answer.{Answer}
use Rattle.ts_filter.specs.declared.term_requirements.TermRequirements.{TermRequirements}
use Rattle.ts_filter.specs.Boxes.{Box, values_at}
use Rattle.ts_filter.specs.KeptCells.{AreFree, AreKept, AreSized, IsAliveTerm, IsFree, IsKeptIfKnown, IsSpared, IsSparedAt, IsTermKept, Tells, TermKept, below_all, forgotten, is_alive_in, spared_in, unknown, with_alive, with_known, with_spared}
use Rattle.ts_filter.specs.MachineSpans.{spans_of}
use Rattle.ts_filter.specs.OfTerm.{OfTerm}
use Rattle.ts_filter.specs.RefutedWorseDrop.{Spans, IsDrop}
use Rattle.ts_filter.specs.TermDrops.{AreLeft, IsDropAt, IsRefuting, IsRefutedOutside}
use Rattle.ts_filter.proofs.BoxParts.{domain_at}
use Rattle.ts_filter.proofs.CallLaws.{to_refuted}
use Rattle.ts_filter.proofs.CellLaws.{left_is}
use Rattle.ts_filter.proofs.DropLaws.{all_left, fewer_left, left_between, to_drop}
use Rattle.ts_filter.proofs.SoundLaws.{clash}
use Rattle.ts_filter.proofs.TermsAsked.{looks_of}

-- elements of lists

-- an element is the one that was put there, or was there before
pub found_after_set : {X : Type 0} (xs : List X) (i j : ℕ) (x y : X) → slice_get (set xs i x) j ≡ Some y →
    ((j ≡ i) × (i < length xs) × (y ≡ x)) ⊎ (slice_get xs j ≡ Some y)
found_after_set [] i j x y e = absurd (none-some y e)
found_after_set (z ∷ xs) zero zero x y e = inl (refl, omega arith, sym (same_Some x y e))
found_after_set (z ∷ xs) zero (suc j) x y e = inr e
found_after_set (z ∷ xs) (suc i) zero x y e = inr e
found_after_set (z ∷ xs) (suc i) (suc j) x y e =
    ⊎_elim (λ h. inl (ap suc h.0, (let l = h.1 in omega (arith, l)), h.2)) (λ h. inr h) (found_after_set xs i j x y e)

found_in_equals : {X : Type 0} (n i : ℕ) (x y : X) → slice_get (replicate n x) i ≡ Some y → y ≡ x
found_in_equals zero i x y e = absurd (none-some y e)
found_in_equals (suc n) zero x y e = sym (same_Some x y e)
found_in_equals (suc n) (suc i) x y e = found_in_equals n i x y e

found_in_map : {X Y : Type 0} (f : X → Y) (xs : List X) (i : ℕ) (y : Y) → slice_get (map f xs) i ≡ Some y →
    (x : X) × (slice_get xs i ≡ Some x) × (y ≡ f x)
found_in_map f [] i y e = absurd (none-some y e)
found_in_map f (x ∷ xs) zero y e = (x, refl, sym (same_Some (f x) y e))
found_in_map f (x ∷ xs) (suc i) y e = found_in_map f xs i y e

-- a list with its first i elements mapped
module _ {X : Type 0} (f : X → X) where
  abbrev pub mapped : ℕ → List X → List X
  mapped zero xs = xs
  mapped (suc i) [] = []
  mapped (suc i) (x ∷ xs) = f x ∷ mapped i xs

  more_mapped : (i : ℕ) (xs : List X) (x : X) → i < length xs → x ≡ get_or (mapped i xs) i x → set (mapped i xs) i (f x) ≡ mapped (suc i) xs
  more_mapped i [] x l e = absurd (omega (arith, l))
  more_mapped zero (y ∷ xs) x l e = ap (λ z. f z ∷ xs) e
  more_mapped (suc i) (y ∷ xs) x l e = ap (λ zs. f y ∷ zs) (more_mapped i xs x (omega (arith, l)) e)

  -- one more element is mapped, as the code changes it
  pub next_mapped : (i : ℕ) (xs now later : List X) (x y : X) → now ≡ mapped i xs → i < length xs → x ≡ get_or now i x → y ≡ f x → later ≡ set now i y →
      later ≡ mapped (i + 1) xs
  next_mapped i xs now later x y is l e same put =
      let next : suc i ≡ i + 1 = omega arith in
      put ∙ ap (λ zs. set zs i y) is ∙ ap (set (mapped i xs) i) same ∙ more_mapped i xs x l (subst (λ zs. x ≡ get_or zs i x) is e)
      ∙ ap (λ k. mapped k xs) next

  pub mapped_count : (i : ℕ) (xs : List X) → length (mapped i xs) ≡ length xs
  mapped_count zero xs = refl
  mapped_count (suc i) [] = refl
  mapped_count (suc i) (x ∷ xs) = ap suc (mapped_count i xs)

  pub all_mapped : (i : ℕ) (xs : List X) → length xs ≤ i → mapped i xs ≡ map f xs
  all_mapped zero [] l = refl
  all_mapped zero (x ∷ xs) l = absurd (omega (arith, l))
  all_mapped (suc i) [] l = refl
  all_mapped (suc i) (x ∷ xs) l = ap (λ zs. f x ∷ zs) (all_mapped i xs (omega (arith, l)))

-- what was known of a term is more now, or is as it was
known_at : (more : TermKept → TermKept) (kept : List TermKept) (term at : ℕ) (t : TermKept) → slice_get (with_known more term kept) at ≡ Some t →
    ((at ≡ term) × (u : TermKept) × (slice_get kept term ≡ Some u) × (t ≡ more u)) ⊎ (slice_get kept at ≡ Some t)
known_at more kept term at t e =
    let u = get_or kept term (unknown 0) in
    ⊎_elim (λ h. inl (h.0, u, slice_get-get_or kept term (unknown 0) h.1, h.2)) (λ h. inr h) (found_after_set kept term at (more u) t e)

-- the sizes stay

pub none_sized : (terms cells : ℕ) → AreSized terms cells (replicate terms (unknown cells))
none_sized terms cells = record {
  terms_count = length-replicate terms (unknown cells);
  cells_count = λ term t e. ap (λ (z : TermKept). length z.cells) (found_in_equals terms term (unknown cells) t e) ∙ length-replicate cells below_all;
}

pub forgotten_sized : (terms cells : ℕ) (kept : List TermKept) → AreSized terms cells kept → AreSized terms cells (map forgotten kept)
forgotten_sized terms cells kept h = record {
  terms_count = length-map kept forgotten ∙ h.terms_count;
  cells_count = λ term t e.
      let u = found_in_map forgotten kept term t e in
      ap (λ (z : TermKept). length z.cells) u.2 ∙ length-map u.0.cells (λ limit. below_all) ∙ h.cells_count term u.0 u.1;
}

more_sized : (more : TermKept → TermKept) (terms cells term : ℕ) (kept : List TermKept) → ((t : TermKept) → length (more t).cells ≡ length t.cells) →
    AreSized terms cells kept → AreSized terms cells (with_known more term kept)
more_sized more terms cells term kept same h = record {
  terms_count = length-set kept term _ ∙ h.terms_count;
  cells_count = λ at t e.
      ⊎_elim (λ g. ap (λ (z : TermKept). length z.cells) g.3 ∙ same g.1 ∙ h.cells_count term g.1 g.2) (λ g. h.cells_count at t g)
      (known_at more kept term at t e);
}

pub term_sized : (terms cells term : ℕ) (kept : List TermKept) → AreSized terms cells kept → AreSized terms cells (with_known with_alive term kept)
term_sized terms cells term kept h = more_sized with_alive terms cells term kept (λ t. refl) h

pub cell_sized : (terms cells term k : ℕ) (limit : ℤ) (kept : List TermKept) → AreSized terms cells kept →
    AreSized terms cells (with_known (with_spared k limit) term kept)
cell_sized terms cells term k limit kept h = more_sized (with_spared k limit) terms cells term kept (λ t. length-set t.cells (k - 1) limit) h

-- no value of a cell is up to the limit below all values
under_all : (v l : ℤ) → l ≡ below_all → IsCellValue v → v ≤ℤ l → ⊥
under_all v l e c at = let low = c.0 in omega (arith, ints, e, low, at)

-- what is known stays right

module _ (rs : List Require) (s : Spans) (b : Box) where
  pub none_kept : (terms cells : ℕ) → AreKept rs s b (replicate terms (unknown cells))
  none_kept terms cells = record {
    alive = λ term t e marked. absurd (clash t.alive marked (ap (λ (z : TermKept). z.alive) (found_in_equals terms term (unknown cells) t e)));
    spared = λ term i t limit e marked v j r c at.
        let same : t.cells ≡ replicate cells below_all = ap (λ (z : TermKept). z.cells) (found_in_equals terms term (unknown cells) t e) in
        absurd (under_all v limit (found_in_equals cells i below_all limit (subst (λ l. slice_get l i ≡ Some limit) same marked)) c at);
  }

  pub forgotten_kept : (kept : List TermKept) → AreKept rs s b (map forgotten kept)
  forgotten_kept kept = record {
    alive = λ term t e marked. absurd (clash t.alive marked (ap (λ (z : TermKept). z.alive) (found_in_map forgotten kept term t e).2));
    spared = λ term i t limit e marked v j r c at.
        let u = found_in_map forgotten kept term t e in
        let same : t.cells ≡ map (λ limit. below_all) u.0.cells = ap (λ (z : TermKept). z.cells) u.2 in
        absurd (under_all v limit (found_in_map (λ limit. below_all) u.0.cells i limit (subst (λ l. slice_get l i ≡ Some limit) same marked)).2 c at);
  }

  pub term_kept : (kept : List TermKept) (term : ℕ) → AreKept rs s b kept → IsAliveTerm rs s b term → AreKept rs s b (with_known with_alive term kept)
  term_kept kept term h new = record {
    alive = λ at t e marked.
        ⊎_elim (λ g. subst (IsAliveTerm rs s b) (sym g.0) new) (λ g. h.alive at t g marked) (known_at with_alive kept term at t e);
    spared = λ at i t limit e marked.
        ⊎_elim
        (λ g. subst (λ z. IsSpared rs s b z (i + 1) limit) (sym g.0)
        (h.spared term i g.1 limit g.2 (subst (λ (z : TermKept). slice_get z.cells i ≡ Some limit) g.3 marked)))
        (λ g. h.spared at i t limit g marked) (known_at with_alive kept term at t e);
  }

  pub cell_kept : (kept : List TermKept) (term k : ℕ) (limit : ℤ) → 1 ≤ k → AreKept rs s b kept → IsSpared rs s b term k limit →
      AreKept rs s b (with_known (with_spared k limit) term kept)
  cell_kept kept term k limit from h new = record {
    alive = λ at t e marked.
        ⊎_elim (λ g. subst (IsAliveTerm rs s b) (sym g.0) (h.alive term g.1 g.2 (subst (λ (z : TermKept). z.alive ≡ true) g.3 marked)))
        (λ g. h.alive at t g marked) (known_at (with_spared k limit) kept term at t e);
    spared = λ at i t l e marked.
        ⊎_elim
        (λ g. subst (λ z. IsSpared rs s b z (i + 1) l) (sym g.0)
        (by_cell i g.1 l g.2 (found_after_set g.1.cells (k - 1) i limit l (subst (λ (z : TermKept). slice_get z.cells i ≡ Some l) g.3 marked))))
        (λ g. h.spared at i t l g marked) (known_at (with_spared k limit) kept term at t e);
  }
    where
      by_cell : (i : ℕ) (u : TermKept) (l : ℤ) → slice_get kept term ≡ Some u →
          ((i ≡ k - 1) × (k - 1 < length u.cells) × (l ≡ limit)) ⊎ (slice_get u.cells i ≡ Some l) → IsSpared rs s b term (i + 1) l
      by_cell i u l there (inl g) =
          let same = g.0 in let next : k ≡ i + 1 = omega (arith, same, from) in
          subst (λ n. IsSpared rs s b term n l) next (subst (IsSpared rs s b term k) (sym g.2) new)
      by_cell i u l there (inr g) = h.spared term i u l there g

-- what is known of each machine

module _ (rs : List Require) (ms : List Automata) (b : Box) (kept : List TermKept) (h : AreKept rs (spans_of ms) b kept) where
  term_of : (term : ℕ) (t : TermKept) (a : Automata) → slice_get kept term ≡ Some t → slice_get ms term ≡ Some a → LooksIn a b → IsTermKept rs term a b t
  term_of term t a e has looks = record {
    alive = λ marked k j u r.
        h.alive term t e marked k j r.require r.is r.of_term (to_refuted rs ms term a has j r.require r.is r.of_term k b u r.refutes);
    spared = λ i limit marked r c at d.
        h.spared term i t limit e marked r.value r.require d.1.refuting.require c at d.1.refuting.is d.1.refuting.of_term
        (subst (λ k. IsDrop rs (spans_of ms) k r.value r.require b) d.0 (to_drop rs ms b term a has looks r d.1));
  }

  pub kept_of : (term : ℕ) → AllByRecursion (λ a. LooksIn a b) ms → OfTerm ms term (λ a. IsKeptIfKnown rs term a b (slice_get kept term))
  kept_of term looks a has = by_entry (slice_get kept term) refl
    where
      by_entry : (o : Option TermKept) → slice_get kept term ≡ o → IsKeptIfKnown rs term a b o
      by_entry None e = tt
      by_entry (Some t) e = term_of term t a e has (looks_of b ms term looks a has)

-- what is known of one machine

module _ (rs : List Require) (term : ℕ) (a : Automata) (b : Box) (kept : Option TermKept) (h : IsKeptIfKnown rs term a b kept) where
  pub none_outside : is_alive_in kept ≡ true → IsRefutedOutside rs term a b None
  none_outside marked k u e j r = by_entry kept h marked
    where
      by_entry : (o : Option TermKept) → IsKeptIfKnown rs term a b o → is_alive_in o ≡ true → ⊥
      by_entry None g m = clash false m refl
      by_entry (Some t) g m = g.alive m k j u r

  pub spared_at : (k : ℕ) (limit : ℤ) → 1 ≤ k → limit ≡ spared_in kept k → IsSparedAt rs term a b k limit
  spared_at k limit from is = by_entry kept h is
    where
      by_mark : (t : TermKept) → IsTermKept rs term a b t → (o : Option ℤ) → slice_get t.cells (k - 1) ≡ o → limit ≡ unwrap_or o below_all →
          IsSparedAt rs term a b k limit
      by_mark t g None e m = λ r c at d. under_all r.value limit m c at
      by_mark t g (Some l) e m =
          let next : (k - 1) + 1 ≡ k = omega (arith, from) in
          subst (IsSparedAt rs term a b k) (sym m) (subst (λ z. IsSparedAt rs term a b z l) next (g.spared (k - 1) l e))

      by_entry : (o : Option TermKept) → IsKeptIfKnown rs term a b o → limit ≡ spared_in o k → IsSparedAt rs term a b k limit
      by_entry None g m = λ r c at d. under_all r.value limit m c at
      by_entry (Some t) g m = by_mark t g (slice_get t.cells (k - 1)) refl m

  -- a value of a cell is one that a cell may have
  cell_value : (k : ℕ) (v : ℤ) → IsBox b → 1 ≤ k → k ≤ length b → Contains (values_at k b) v → IsCellValue v
  cell_value k v box from to has =
      each_contains WithinLimits (values_at k b) v (domain_at b (k - 1) box (omega (arith, from, to))).within has

  -- where all values are spared there is no drop
  pub none_at : (k : ℕ) (limit : ℤ) → IsBox b → 1 ≤ k → limit ≡ spared_in kept k → greatest_value ≤ℤ limit → (r : Removal) → IsDropAt rs term a b k r → ⊥
  none_at k limit box from is all r d =
      let c = cell_value r.cell r.value box d.1.usable.from d.1.usable.to d.1.there in let most = c.1 in
      spared_at k limit from is r c (omega (arith, ints, most, all)) d

-- where no value up to a limit is dropped, none of these is left to be asked

pub up_to_place : (values : List ℤ) (i p : ℕ) (v limit : ℤ) → IsRising values → i < p + 1 → slice_get values i ≡ Some v →
    slice_get values p ≡ Some limit → v ≤ℤ limit
unfolding IsRising
up_to_place [] i p v limit rises below e at = absurd (none-some v e)
up_to_place (x ∷ values) zero zero v limit rises below e at = let same = same_Some v limit (sym e ∙ at) in omega (arith, ints, same)
up_to_place (x ∷ values) zero (suc p) v limit rises below e at =
    let same : x ≡ v = same_Some x v e in
    let more = each_contains (λ y. x <ℤ y) values limit rises.0 (at_contains values p limit at) in omega (arith, ints, same, more)
up_to_place (x ∷ values) (suc i) zero v limit rises below e at = absurd (omega (arith, below))
up_to_place (x ∷ values) (suc i) (suc p) v limit rises below e at = up_to_place values i p v limit rises.1 (omega (arith, below)) e at

pub after_place : (values : List ℤ) (i p : ℕ) (v limit : ℤ) → IsRising values → p + 1 ≤ i → slice_get values i ≡ Some v →
    slice_get values p ≡ Some limit → limit <ℤ v
unfolding IsRising
after_place [] i p v limit rises after e at = absurd (none-some v e)
after_place (x ∷ values) zero p v limit rises after e at = absurd (omega (arith, after))
after_place (x ∷ values) (suc i) zero v limit rises after e at =
    let same : x ≡ limit = same_Some x limit at in
    let more = each_contains (λ y. x <ℤ y) values v rises.0 (at_contains values i v e) in omega (arith, ints, same, more)
after_place (x ∷ values) (suc i) (suc p) v limit rises after e at =
    after_place values i p v limit rises.1 (let l = after in omega (arith, l)) e at

-- the values up to a limit are found by halving

abbrev pub AreUpTo : List ℤ → ℕ → ℤ → Type 0
AreUpTo values count limit = (i : ℕ) (v : ℤ) → i < count → slice_get values i ≡ Some v → v ≤ℤ limit

abbrev pub AreAbove : List ℤ → ℕ → ℤ → Type 0
AreAbove values count limit = (i : ℕ) (v : ℤ) → count ≤ i → slice_get values i ≡ Some v → limit <ℤ v

pub nothing_before : (values : List ℤ) (limit : ℤ) → AreUpTo values 0 limit
nothing_before values limit i v l e = absurd (omega (arith, l))

pub all_up_to : (values : List ℤ) (count : ℕ) (w limit : ℤ) → IsRising values → slice_get values count ≡ Some w → w ≤ℤ limit →
    AreUpTo values (count + 1) limit
all_up_to values count w limit rises at most i v l e = let no_more = up_to_place values i count v w rises l e at in omega (arith, ints, no_more, most)

pub all_above : (values : List ℤ) (count : ℕ) (w limit : ℤ) → IsRising values → slice_get values count ≡ Some w → limit <ℤ w → AreAbove values count limit
all_above values count w limit rises at more i v l e =
    let no_less = up_to_place values count i w v rises (omega (arith, l)) at e in omega (arith, ints, no_less, more)

pub none_above : (values : List ℤ) (count : ℕ) (limit : ℤ) → length values ≤ count → AreAbove values count limit
none_above values count limit all i v l e = absurd (past values i (omega (arith, all, l)) e)
  where
    past : (values : List ℤ) (i : ℕ) → length values ≤ i → slice_get values i ≡ Some v → ⊥
    past [] i l e = none-some v e
    past (x ∷ values) zero l e = omega (arith, l)
    past (x ∷ values) (suc i) l e = past values i (omega (arith, l)) e

module _ (rs : List Require) (term : ℕ) (a : Automata) (b : Box) (k : ℕ) (limit : ℤ) (spared : IsSparedAt rs term a b k limit) (usable : IsUsableOf a k b)
    (many : 2 ≤ length (values_at k b)) (rises : IsRising (values_at k b)) (within : AllByRecursion WithinLimits (values_at k b)) where
  pub left_above : (n : ℕ) → n ≤ length (values_at k b) → ((i : ℕ) (v : ℤ) → i < n → slice_get (values_at k b) i ≡ Some v → v ≤ℤ limit) →
      AreLeft rs term a b k (drop n (values_at k b))
  left_above zero to up = all_left rs term a b k rises
  left_above (suc n) to up =
      let all = values_at k b in let v = get_or all n (pos 0) in
      let lt : n < length all = omega (arith, to) in
      let is : slice_get all n ≡ Some v = slice_get-get_or all n (pos 0) lt in
      let there = at_contains all n v is in
      let e : n + 1 ≡ suc n = omega arith in
      subst (λ i. AreLeft rs term a b k (drop i all)) e
      (fewer_left rs term a b k (drop n all) (drop (n + 1) all) v
      (left_above n (omega (arith, to)) (λ i u l. up i u (omega (arith, l)))) (left_is all n v lt is)
      (λ j h. spared (record { cell = k; value = v; require = j }) (each_contains WithinLimits all v within there) (up n v (omega arith) is)
      (refl, record { usable = usable; many = many; there = there; refuting = h })))

-- what is known of a term, as the code holds its requirements
pub kept_of_own : (own : TermRequirements) (rs : List Require) (term : ℕ) (a : Automata) (b : Box) (kept : Option TermKept) → own.all.now ≡ rs →
    own.term ≡ term → IsKeptIfKnown rs term a b kept → IsKeptIfKnown own.all.now own.term a b kept
kept_of_own own rs term a b kept is_all is_term h =
    subst (λ z. IsKeptIfKnown z own.term a b kept) (sym is_all) (subst (λ z. IsKeptIfKnown rs z a b kept) (sym is_term) h)

-- what is known of single values

pub none_of_free : {A : Type 0} (knows : List Require → Spans → Box → A → Type 0) (rs : List Require) (term : ℕ) (a : Automata) (b : Box) (x : A) (k : ℕ)
    (v : ℤ) (h : Tells knows rs term a b x) → IsUsableOf a k b → 2 ≤ length (values_at k b) → Contains (values_at k b) v → IsFree rs h.spans b term k v →
    (j : ℕ) → IsRefuting rs term (value_span a k b v) j → ⊥
none_of_free knows rs term a b x k v h usable many there free j r =
    free j r.require r.is r.of_term
    (h.drops (record { cell = k; value = v; require = j }) (record { usable = usable; many = many; there = there; refuting = r }))

of_machines : {A : Type 0} (knows : List Require → Spans → Box → A → Type 0) (rs : List Require) (ms : List Automata) (b : Box) (x : A) →
    knows rs (spans_of ms) b x → (term : ℕ) (a : Automata) → slice_get ms term ≡ Some a → LooksIn a b → Tells knows rs term a b x
of_machines knows rs ms b x h term a has looks = record {
  spans = spans_of ms;
  known = h;
  drops = λ r d. to_drop rs ms b term a has looks r d;
}

pub told_of_each : {A : Type 0} (knows : List Require → Spans → Box → A → Type 0) (rs : List Require) (ms : List Automata) (b : Box) (x : A) →
    knows rs (spans_of ms) b x → (term : ℕ) → AllByRecursion (λ a. LooksIn a b) ms → OfTerm ms term (λ a. Tells knows rs term a b x)
told_of_each knows rs ms b x h term looks a has = of_machines knows rs ms b x h term a has (looks_of b ms term looks a has)

last_of_equals : (term : ℕ) (a : Automata) → slice_get (replicate (suc term) a) term ≡ Some a
last_of_equals zero a = refl
last_of_equals (suc term) a = last_of_equals term a

-- where nothing is known of single values
pub nothing_told : {A : Type 0} (knows : List Require → Spans → Box → A → Type 0) (rs : List Require) (term : ℕ) (a : Automata) (b : Box) (x : A) →
    ((s : Spans) → knows rs s b x) → LooksIn a b → Tells knows rs term a b x
nothing_told knows rs term a b x h looks =
    let ms = replicate (suc term) a in of_machines knows rs ms b x (h (spans_of ms)) term a (last_of_equals term a) looks

-- what is known of the values from a given one on, up to a number

pub past_value : (values : List ℤ) (i n : ℕ) (v limit : ℤ) → AreAbove values n limit → slice_get values i ≡ Some v → v ≤ℤ limit → i < n
past_value values i n v limit above here up = by_order (split i n)
  where
    split : (i n : ℕ) → (i < n) ⊎ (n ≤ i)
    split i n = grind arith

    by_order : (i < n) ⊎ (n ≤ i) → i < n
    by_order (inl l) = l
    by_order (inr l) = absurd (let more = above i v l here in omega (arith, ints, more, up))

pub left_free : (rs : List Require) (term : ℕ) (a : Automata) (b : Box) (k from to : ℕ) (v : ℤ) (told : Answer) → from ≤ to → to ≤ length (values_at k b) →
    IsRising (values_at k b) → slice_get (values_at k b) from ≡ Some v → AreUpTo (values_at k b) to told.to → AreFree rs term a b k v told →
    AreLeft rs term a b k (drop from (values_at k b)) → IsTrue told.free → AreLeft rs term a b k (drop to (values_at k b))
left_free rs term a b k from to v told le within rises here up are left free =
    left_between rs term a b k from to le within
    (λ i w first last at. are free w (at_contains (values_at k b) i w at)
    (up_to_place (values_at k b) from i v w rises (let f = first in omega (arith, f)) here at) (up i w last at)) left

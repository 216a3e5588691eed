-- A leap as the code makes it: the boxes below on the trail, the values that are taken away, and where it ends.
use Rattle.std.proofs.Common.{◌≡◌, ◌⊎◌, ℕ, zero, suc, ◌+◌, ◌-◌, ◌/◌, ◌<◌, ◌≤◌, ℤ, ◌<ℤ◌, Bool, false, List, [], ◌∷◌, length, get_or, set, take, Some, None, slice_get, refl, sym, ◌∙◌, ap, subst, inl, inr, ⊎_elim, arith, ◌↔◌}
use Rattle.std.proofs.lemmas.List.{get_or-take, get_or_append_left, length-set, length-take-le, length_push, take-set, take_more}
use Rattle.std.proofs.lemmas.Option.{slice_get_within}
use Rattle.std.proofs.Math.Seq.{get_or-append_seam}
use Rattle.std.specs.Prelude.{Contains, IsTrue, int_lt}
use Rattle.ts_bound.specs.TermSpans.{Automata, term_span}
use Rattle.ts_certificate.specs.declared.certificate.TreeLine.{TreeLine}
use Rattle.ts_certificate.specs.declared.certificate.TreeLine.TheVariants.{Split}
use Rattle.ts_domain.specs.BoxSeries.{Boxes, IsBox, all_boxes, back_to}
use Rattle.ts_domain.specs.Kept.{values_up_to}
use Rattle.ts_domain.proofs.BoxLaws.{contains_above}
use Rattle.ts_domain.proofs.Sets.{contains_cons, lt_true}
use Rattle.ts_filter.specs.Boxes.{Box, HasCell, IsPart, only, values_at}
use Rattle.ts_filter.specs.Excluded.{Refutes}
use Rattle.ts_filter.specs.RefutedWorseDrop.{IsRefuted}
use Rattle.ts_filter.proofs.BoxParts.{part_self}
use Rattle.ts_filter.proofs.SoundLaws.{clash}
use Rattle.ts_frontier.specs.Forms.{Wide, form}
use Rattle.ts_frontier.specs.Halve.{IsHalving, IsSingle}
use Rattle.ts_frontier.proofs.Halves.{halving_form}
use Rattle.ts_model.specs.declared.model.Require.{Require}
use Rattle.ts_model.specs.Views.{model_parts}
use Rattle.ts_spans.specs.Machines.{automata_in}
use Rattle.ts_search.specs.Leaps.{AreSplits, AreTried, ExcludesInside, LeadDown, SplitsIt, TakesFreeValues, after_splits, lower}
use Rattle.ts_search.specs.LineOf.{Search, Sought, is_refuted_at, line_of, requirements, search_in}
use Rattle.ts_search.specs.Views.{problem_of, search_of, sought_of}
use Rattle.ts_search.specs.declared.problem.Problem.{Problem}
use Rattle.ts_search.specs.declared.seeking.Seeking.{Seeking}
use Rattle.ts_search.specs.declared.seeking.Seeking.TheVariants.{Best as SeeksBest, First as SeeksFirst}
use Rattle.ts_search.proofs.CallLaws.{refuted_is}
use Rattle.ts_search.proofs.Known.{from_refuted}
use Rattle.ts_search.proofs.Leaps.{after_more, after_part, leap_splits, splits_it, tried_less, tried_more}
use Rattle.ts_search.proofs.Parts.{wide_split}

one_more : (n : ℕ) → suc n ≡ n + 1
one_more n = omega arith

which : (i n : ℕ) → i < n + 1 → (i ≡ n) ⊎ (i < n)
which zero zero h = inl refl
which zero (suc n) h = inr (omega arith)
which (suc i) zero h = absurd (omega (arith, h))
which (suc i) (suc n) h = ⊎_elim (λ e. inl (ap suc e)) (λ l. inr (omega (arith, l))) (which i n (omega (arith, h)))

-- one split further down

module _ (b e : Box) (n : ℕ) (is : e ≡ after_splits n b) where
  below_is : after_splits (n + 1) b ≡ lower e (form e)
  below_is = ap (λ m. after_splits m b) (sym (one_more n)) ∙ after_more n b ∙ ap (λ z. lower z (form z)) (sym is)

  pub next_below : (new : Box) (k : ℕ) (t told : ℤ) → told ≡ t → IsHalving k t e → new ≡ set e (k - 1) (values_up_to told (get_or e (k - 1) [])) →
      new ≡ after_splits (n + 1) b
  next_below new k t told same h low =
      low ∙ ap (λ z. set e (k - 1) (values_up_to z (get_or e (k - 1) []))) same ∙ sym (below_is ∙ ap (lower e) (halving_form e k t h))

  pub part_below : (cells : Box) → IsPart b cells → IsPart e cells
  part_below cells part = subst (λ z. IsPart z cells) (sym is) (after_part cells n b part)

  pub tried_next : (s : Search) (k : ℕ) (t : ℤ) → IsHalving k t e → TakesFreeValues s e (Wide k t) → AreTried s n b → AreTried s (n + 1) b
  tried_next s k t h takes tried =
      subst (λ m. AreTried s m b) (one_more n)
      (tried_more s n b tried (subst (λ z. TakesFreeValues s z (form z)) is (subst (TakesFreeValues s e) (sym (halving_form e k t h)) takes)))

-- the cells before the one that is split stay as they are
pub single_before : (e new : Box) (k : ℕ) (t told : ℤ) → IsHalving k t e → new ≡ set e (k - 1) (values_up_to told (get_or e (k - 1) [])) →
    IsSingle (take (k - 1) new)
single_before e new k t told h low =
    subst (λ z. IsSingle z) (sym (ap (take (k - 1)) low ∙ take-set e (k - 1) (values_up_to told (get_or e (k - 1) [])))) h.before

-- the boxes of the trail

trail_size : (w : Boxes) → length (all_boxes w) ≡ length w.earlier + 1
trail_size w = length_push w.earlier w.present

pub down_first : (w : Boxes) → w.earlier ≡ [] → LeadDown w.present w
down_first w none = subst (λ e. LeadDown w.present (record { earlier = e; present = w.present })) (sym none) one
  where
    one : LeadDown w.present (record { earlier = []; present = w.present })
    one zero h = refl
    one (suc i) h = absurd (omega (arith, h))

module _ (b : Box) (w : Boxes) (down : LeadDown b w) where
  pub lowest : (n : ℕ) → length w.earlier ≡ n → w.present ≡ after_splits n b
  lowest n size =
      sym (get_or-append_seam w.earlier w.present [] []) ∙ down (length w.earlier) (omega arith) ∙ ap (λ m. after_splits m b) size

  -- one split further down
  module _ (new : Boxes) (is : new.earlier ≡ all_boxes w) where
    pub longer : (n : ℕ) → length w.earlier ≡ n → length new.earlier ≡ n + 1
    longer n size = ap length is ∙ trail_size w ∙ ap (λ m. m + 1) size

    pub down_next : (n : ℕ) → length w.earlier ≡ n → new.present ≡ after_splits (n + 1) b → LeadDown b new
    down_next n size at i h = ⊎_elim here further_up (which i (n + 1) (let more = longer n size in omega (arith, h, more)))
      where
        here : i ≡ n + 1 → get_or (all_boxes new) i [] ≡ after_splits i b
        here same =
            ap (λ j. get_or (all_boxes new) j []) (same ∙ sym (longer n size)) ∙ get_or-append_seam new.earlier new.present [] [] ∙ at
            ∙ ap (λ m. after_splits m b) (sym same)

        further_up : i < n + 1 → get_or (all_boxes new) i [] ≡ after_splits i b
        further_up below =
            let more = longer n size in
            get_or_append_left new.earlier (new.present ∷ []) [] i (omega (arith, below, more)) ∙ ap (λ l. get_or l i []) is
            ∙ down i (omega (arith, below, size))

  -- back to a box further up
  module _ (new : Boxes) (n : ℕ) (there : n ≤ length w.earlier) (is : new ≡ back_to n w) where
    pub back_there : new.present ≡ after_splits n b
    back_there = ap (λ z. z.present) is ∙ down n there

    pub shorter : length new.earlier ≡ n
    shorter = ap (λ z. length z.earlier) is ∙ length-take-le n (all_boxes w) (let all = trail_size w in omega (arith, there, all))

    pub down_back : LeadDown b new
    down_back i h =
        let all = trail_size w in let size = shorter in
        ap (λ z. get_or (all_boxes z) i []) is
        ∙ ap (λ l. get_or l i []) (sym (take_more (all_boxes w) n [] (omega (arith, there, all))))
        ∙ get_or-take (n + 1) (all_boxes w) i [] (omega (arith, h, size))
        ∙ down i (omega (arith, h, size, there))

-- what a split leaves of its cell
pub low_stays : (e : Box) (k : ℕ) (t told : ℤ) → told ≡ t → IsBox e → IsHalving k t e → values_up_to told (values_at k e) ≡ [] → ⊥
low_stays e k t told same box h =
    subst (λ z. values_up_to z (values_at k e) ≡ [] → ⊥) (sym same) (wide_split e e k t (part_self e box) (halving_form e k t h)).below

-- each value above t with which a requirement is refuted is still to come
abbrev pub AreFreeBut : Search → Box → ℕ → ℤ → List ℤ → Type 0
AreFreeBut s b k t left =
    (v : ℤ) (j : ℕ) → Contains (values_at k b) v → t <ℤ v → IsRefuted s.model.requirements s.spans j k (only k v b) → Contains left v

-- the value that comes first
module _ (left rest : List ℤ) (v : ℤ) (e : left ≡ v ∷ rest) where
  pub comes : Contains left v
  comes = subst (λ z. Contains z v) (sym e) ((contains_cons v rest v).1 (inl refl))

  pub comes_later : (u : ℤ) → Contains rest u → Contains left u
  comes_later u c = subst (λ z. Contains z u) (sym e) ((contains_cons v rest u).1 (inr c))

  pub free_next : (s : Search) (b : Box) (k : ℕ) (t : ℤ) → (t <ℤ v → (j : ℕ) → IsRefuted s.model.requirements s.spans j k (only k v b) → ⊥) →
      AreFreeBut s b k t left → AreFreeBut s b k t rest
  free_next s b k t free h u j has above r = go ((contains_cons v rest u).0 (subst (λ z. Contains z u) e (h u j has above r)))
    where
      go : (v ≡ u) ⊎ Contains rest u → Contains rest u
      go (inr later) = later
      go (inl same) =
          absurd
          (free (subst (λ z. t <ℤ z) (sym same) above) j (subst (λ z. IsRefuted s.model.requirements s.spans j k (only k z b)) (sym same) r))

-- a value above t, as the code compares them
pub not_above : {P : Type 0} (t v told seen : ℤ) → told ≡ t → seen ≡ v → int_lt told seen ≡ false → t <ℤ v → P
not_above t v told seen e f under above =
    absurd (clash (int_lt t v) (lt_true t v above) (subst (λ z. int_lt z v ≡ false) e (subst (λ z. int_lt told z ≡ false) f under)))

pub all_free : (s : Search) (b : Box) (k : ℕ) (t : ℤ) (left : List ℤ) → left ≡ [] → AreFreeBut s b k t left → TakesFreeValues s b (Wide k t)
all_free s b k t left end h v j has r =
    let c = (contains_above t (values_at k b) v).0 has in
    let there = subst (λ z. Contains z v) end (h v j c.0 c.1 r) in let below = there.1 in absurd (omega (arith, below))

-- by no requirement so far is the value refuted

abbrev pub NoneRefutes : Search → Box → ℕ → ℤ → ℕ → Type 0
NoneRefutes s b k v n = (j : ℕ) → 1 ≤ j → j < n → is_refuted_at s j k (only k v b) ≡ false

pub none_at_all : (s : Search) (b : Box) (k : ℕ) (v : ℤ) (n m : ℕ) → m + 1 ≤ n → m ≡ requirements s → NoneRefutes s b k v n → (j : ℕ) →
    IsRefuted s.model.requirements s.spans j k (only k v b) → ⊥
none_at_all s b k v n m end count h j r =
    let within = slice_get_within s.model.requirements (j - 1) r.require r.is.1 in
    let from = r.is.0 in
    clash (is_refuted_at s j k (only k v b)) (from_refuted s j k (only k v b) r) (h j from (omega (arith, from, within, end, count)))

-- a value at a cell that may be used, and at one that may not
module _ (q : Problem) (b : Box) (j : ℕ) (r : Require) (a : Automata) (from : 1 ≤ j) (there : slice_get q.model.now.requirements.items (j - 1) ≡ Some r)
    (machine : slice_get (automata_in (model_parts q.model.now)) r.term ≡ Some a) (k : ℕ) (v : ℤ) (cell : HasCell k b) where
  same_size : length (only k v b) ≡ length b
  same_size = length-set b (k - 1) (v ∷ [])

  pub value_told : (told : Bool) → (a.pair ≡ None → k ≡ length b) → IsTrue told ↔ Refutes r.op r.bound (term_span a k (only k v b)) →
      told ≡ is_refuted_at (search_of q) j k (only k v b)
  value_told told usable h =
      refuted_is (automata_in (model_parts q.model.now)) r.term a machine q.model.now.requirements.items j r (from, there) refl k (only k v b)
      (record {
        from = cell.0;
        to = (let to = cell.1 in let same = same_size in omega (arith, to, same));
        last = λ n. usable n ∙ sym same_size;
      }) told h

-- the end of a leap

pub half_tried : (s : Search) (n : ℕ) (b : Box) → AreTried s n b → AreTried s (n / 2) b
half_tried s n b h = tried_less s (n / 2) n b (omega arith) h

pub one_less_tried : (s : Search) (n m : ℕ) (b : Box) → m ≡ n - 1 → AreTried s n b → AreTried s m b
one_less_tried s n m b e h = tried_less s m n b (omega (arith, e)) h

pub leap_done : (q : Sought) → ExcludesInside q → (n : ℕ) (b e : Box) → IsPart b (search_in q).model.cells → AreTried (search_in q) n b → e ≡ after_splits n b →
    (l : TreeLine) (k : ℕ) (t : ℤ) → l ≡ line_of q e → l ≡ Split k t → AreSplits q (n + 1) b
leap_done q x n b e part tried is l k t line split =
    subst (λ m. AreSplits q m b) (one_more n)
    (leap_splits q x n b part tried
    (subst (λ z. splits z) is (splits_it q e k t (sym line ∙ split))))
  where
    splits : Box → Type 0
    splits z = SplitsIt (line_of q z) (form z)

-- the search that the code seeks in
pub search_is : (s : Seeking) → search_in (sought_of s) ≡ search_of (problem_of s)
search_is (SeeksBest c found) = refl
search_is (SeeksFirst q) = refl

pub leap_sought : (s : Seeking) → ExcludesInside (sought_of s) → (n : ℕ) (b e : Box) → IsPart b (search_of (problem_of s)).model.cells →
    AreTried (search_of (problem_of s)) n b → e ≡ after_splits n b → (l : TreeLine) (k : ℕ) (t : ℤ) → l ≡ line_of (sought_of s) e → l ≡ Split k t →
    AreSplits (sought_of s) (n + 1) b
leap_sought s x n b e part tried =
    leap_done (sought_of s) x n b e (subst (λ z. IsPart b z.model.cells) (sym (search_is s)) part) (subst (λ z. AreTried z n b) (sym (search_is s)) tried)

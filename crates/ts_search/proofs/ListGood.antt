-- What every turn of a listing keeps.
use Rattle.std.proofs.Common.{◌≡◌, ◌⊎◌, ℕ, zero, suc, ◌+◌, ◌<◌, ◌≤◌, ℤ, Bool, true, false, cond, nat_lt, List, [], ◌∷◌, ◌++◌, length, slice_get, Option, Some, None, refl, sym, ap, subst, inl, inr, ⊎_elim, arith, ltb-true}
use Rattle.std.proofs.lemmas.List.{length_push}
use Rattle.std.specs.List.{AllByRecursion}
use Rattle.ts_certificate.specs.declared.certificate.Aim.TheVariants.{List as ListOf}
use Rattle.ts_certificate.specs.declared.certificate.Claim.TheVariants.{BudgetList}
use Rattle.ts_certificate.specs.declared.certificate.TreeLine.{TreeLine}
use Rattle.ts_certificate.specs.declared.certificate.TreeLine.TheVariants.{Split, Remove, No, Worse, Yes, Unsearched}
use Rattle.ts_domain.specs.BoxSeries.{InBox, IsBefore, AreRising}
use Rattle.ts_model.specs.Meets.{Meets}
use Rattle.ts_filter.specs.Boxes.{Box, InSome, only}
use Rattle.ts_filter.specs.Holds.{IsListed}
use Rattle.ts_filter.specs.Rules.{Head, KeepsRule}
use Rattle.ts_filter.specs.Steps.{made_by, Steps}
use Rattle.ts_filter.specs.Tree.{reported_by}
use Rattle.ts_filter.proofs.BoxParts.{from_without, in_a_side, only_or_without, only_part, part_self}
use Rattle.ts_filter.proofs.TreeLaws.{parts_made, steps_go_on}
use Rattle.ts_frontier.specs.Forms.{Alone, form}
use Rattle.ts_search.specs.LineOf.{Search, TheFirst, last, requirements, is_refuted_at, line_of}
use Rattle.ts_search.specs.Turns.{ListState, list_start, listed_after, list_after, list_turn_on, list_turn, list_turns}
use Rattle.ts_search.proofs.Choice.{Choice, by_refuted, by_cut, by_new, by_yes, by_drop, by_split, line_choice}
use Rattle.ts_search.proofs.Known.{Known, no_series}
use Rattle.ts_search.proofs.Parts.{AreParts, InOrder, in_made, in_parts, ordered_split, alone_is, single, alone_within, wide_split, wide_order}
use Rattle.ts_search.proofs.Walk.{IsChecked, AllChecked, all_checked_snoc, steps_under}

abbrev pub head_so_far : ℕ → List (List ℤ) → Head
head_so_far count xs = record { aim = ListOf count; claim = BudgetList 0; series = xs }

pub record GoodList (c : Search) (count : ℕ) (s : ListState) : Type 0 where
  pub stepped : Steps c.model c.spans (head_so_far count s.listed) (c.model.cells ∷ []) 0 s.lines s.pending (length s.listed)
  pub boxes : AreParts c.model.cells s.pending
  pub ordered : InOrder s.pending
  pub meet : AllByRecursion (Meets c.model) s.listed
  pub rising : AreRising s.listed
  pub before : (x y : List ℤ) → IsListed x s.listed → InSome s.pending y → IsBefore x y
  pub settled : (y : List ℤ) → Meets c.model y → InSome s.pending y ⊎ IsListed y s.listed
  pub few : length s.listed ≤ count
  pub all_checked : AllChecked s.lines

pub list_good_start : (c : Search) (count : ℕ) → Known c → GoodList c count (list_start c)
list_good_start c count k = record {
  stepped = (refl, refl);
  boxes = (part_self c.model.cells k.box, tt);
  ordered = ((λ x y p q. absurd q), tt);
  meet = tt;
  rising = tt;
  before = λ x y p q. absurd p;
  settled = λ y n. inl (inl n.inside);
  few = omega arith;
  all_checked = tt;
}

abbrev pub list_put : ListState → Box → List Box → TreeLine → List (List ℤ) → ListState
list_put s b u l listed = record { lines = s.lines ++ l ∷ []; pending = made_by l b ++ u; listed = listed }

-- a line that lists nothing
list_same : (c : Search) (count : ℕ) (s : ListState) (b : Box) (u : List Box) (l : TreeLine) → GoodList c count s → s.pending ≡ b ∷ u →
    ((y : ℕ) → reported_by l y ≡ y) → IsChecked l → KeepsRule c.model c.spans (head_so_far count s.listed) (length s.listed) b l → InOrder (made_by l b ++ u) →
    ((y : List ℤ) → Meets c.model y → InBox y b → InSome (made_by l b) y) → GoodList c count (list_put s b u l s.listed)
list_same c count s b u l g at still ch keeps order treated =
    let n = length s.listed in
    let h = head_so_far count s.listed in
    let st = subst (λ z. Steps c.model c.spans h (c.model.cells ∷ []) 0 s.lines z n) at g.stepped in
    let here = subst (λ z. AreParts c.model.cells z) at g.boxes in
    record {
      stepped = steps_go_on c.model c.spans h s.lines (l ∷ []) (c.model.cells ∷ []) (b ∷ u) (made_by l b ++ u) 0 n n st (keeps, (refl, still n));
      boxes = parts_made c.model c.spans h n l b u here keeps;
      ordered = order;
      meet = g.meet;
      rising = g.rising;
      before = λ x y p q. g.before x y p (subst (λ z. InSome z y) (sym at) (in_made c.model c.spans h n l b u y keeps q));
      settled = λ y k. ⊎_elim (λ i. inl (in_parts (made_by l b) u y (⊎_elim (λ a. inl (treated y k a)) (λ a. inr a) i))) (λ z. inr z)
          (subst (λ z. InSome z y ⊎ IsListed y s.listed) at (g.settled y k));
      few = g.few;
      all_checked = all_checked_snoc s.lines l g.all_checked ch;
    }

get_front : (xs zs : List (List ℤ)) (i : ℕ) (x : List ℤ) → slice_get xs i ≡ Some x → slice_get (xs ++ zs) i ≡ Some x
get_front [] zs i x e = absurd (let k : ◌≡◌ {A = Option (List ℤ)} None (Some x) = e in cc)
get_front (a ∷ xs) zs zero x e = e
get_front (a ∷ xs) zs (suc i) x e = get_front xs zs i x e

get_last : (xs : List (List ℤ)) (x : List ℤ) → slice_get (xs ++ x ∷ []) (length xs) ≡ Some x
get_last [] x = refl
get_last (a ∷ xs) x = get_last xs x

pub listed_snoc : (xs : List (List ℤ)) (x z : List ℤ) → IsListed z (xs ++ x ∷ []) → IsListed z xs ⊎ (z ≡ x)
listed_snoc [] x z i = ⊎_elim (λ e. inr e) (λ a. absurd a) i
listed_snoc (a ∷ xs) x z i = ⊎_elim (λ e. inl (inl e)) (λ r. ⊎_elim (λ k. inl (inr k)) (λ e. inr e) (listed_snoc xs x z r)) i

listed_front : (xs zs : List (List ℤ)) (y : List ℤ) → IsListed y xs → IsListed y (xs ++ zs)
listed_front [] zs y i = absurd i
listed_front (a ∷ xs) zs y i = ⊎_elim (λ e. inl e) (λ r. inr (listed_front xs zs y r)) i

listed_last : (xs : List (List ℤ)) (x y : List ℤ) → y ≡ x → IsListed y (xs ++ x ∷ [])
listed_last [] x y e = inl e
listed_last (a ∷ xs) x y e = inr (listed_last xs x y e)

all_snoc : (P : List ℤ → Type 0) (xs : List (List ℤ)) (x : List ℤ) → AllByRecursion P xs → P x → AllByRecursion P (xs ++ x ∷ [])
all_snoc P [] x h m = (m, tt)
all_snoc P (a ∷ xs) x h m = (h.0, all_snoc P xs x h.1 m)

rising_snoc : (xs : List (List ℤ)) (x : List ℤ) → AreRising xs → ((z : List ℤ) → IsListed z xs → IsBefore z x) → AreRising (xs ++ x ∷ [])
rising_snoc [] x h g = (tt, tt)
rising_snoc (a ∷ xs) x h g = (all_snoc (IsBefore a) xs x h.0 (g a (inl refl)), rising_snoc xs x h.1 (λ z i. g z (inr i)))

list_yes : (c : Search) → Known c → (count : ℕ) (s : ListState) (b : Box) (u : List Box) (x : List ℤ) → GoodList c count s → s.pending ≡ b ∷ u →
    length s.listed < count → form b ≡ Alone x → ((j : ℕ) → 1 ≤ j → j ≤ requirements c → is_refuted_at c j (last c) b ≡ false) →
    GoodList c count (list_put s b u Yes (s.listed ++ x ∷ []))
list_yes c e count s b u x g at room alone free =
    let n = length s.listed in
    let all = c.model.cells ∷ [] in
    let xs = s.listed ++ x ∷ [] in
    let st = subst (λ z. Steps c.model c.spans (head_so_far count s.listed) all 0 s.lines z n) at g.stepped in
    let here = subst (λ z. AreParts c.model.cells z) at g.boxes in
    let order = subst (λ z. InOrder z) at g.ordered in
    let within = alone_within c.model.cells b x here.0 alone in
    let meets = e.single b x here.0 alone free in
    let long : length xs ≡ n + 1 = length_push s.listed x in
    let earlier = λ (z : List ℤ) (i : IsListed z s.listed). g.before z x i (subst (λ w. InSome w x) (sym at) (inl within)) in
    record {
      stepped = steps_go_on c.model c.spans (head_so_far count xs) s.lines (Yes ∷ []) all (b ∷ u) u 0 n (length xs)
          (steps_under c.model c.spans (head_so_far count s.listed) (head_so_far count xs) (λ y d l ch k. more y d l ch k) s.lines 0 all
          (b ∷ u) n g.all_checked st)
          (record { listing = tt; series = x; listed = get_last s.listed x; alone = alone_is c.model.cells b x here.0 alone }, (refl, omega (arith, long)));
      boxes = here.1;
      ordered = order.1;
      meet = all_snoc (Meets c.model) s.listed x g.meet meets;
      rising = rising_snoc s.listed x g.rising earlier;
      before = λ z y p q. ⊎_elim (λ i. g.before z y i (subst (λ w. InSome w y) (sym at) (inr q)))
          (λ k. subst (λ w. IsBefore w y) (sym k) (order.0 x y within q)) (listed_snoc s.listed x z p);
      settled = λ y k. ⊎_elim
          (λ i. ⊎_elim (λ a. inr (listed_last s.listed x y (single c.model.cells b x y here.0 alone a))) (λ a. inl a) i)
          (λ z. inr (listed_front s.listed (x ∷ []) y z))
          (subst (λ z. InSome z y ⊎ IsListed y s.listed) at (g.settled y k));
      few = omega (arith, long, room);
      all_checked = all_checked_snoc s.lines Yes g.all_checked tt;
    }
  where
    more : (y : ℕ) (d : Box) (l : TreeLine) → IsChecked l → KeepsRule c.model c.spans (head_so_far count s.listed) y d l →
        KeepsRule c.model c.spans (head_so_far count (s.listed ++ x ∷ [])) y d l
    more y d (Split k t) ch r = r
    more y d (Remove k v j) ch r = r
    more y d (No j q) ch r = r
    more y d (Worse q) ch r = r
    more y d Yes ch r = record { listing = tt; series = r.series; listed = get_front s.listed (x ∷ []) y r.series r.listed; alone = r.alone }
    more y d Unsearched ch r = absurd ch

list_choice : (c : Search) → Known c → (count : ℕ) (s : ListState) (b : Box) (u : List Box) (l : TreeLine) → GoodList c count s → s.pending ≡ b ∷ u →
    length s.listed < count → Choice (TheFirst c) b l → GoodList c count (list_after s b u l)
list_choice c e count s b u (No j p) g at room (by_refuted r) =
    let here = subst (λ z. AreParts c.model.cells z) at g.boxes in
    list_same c count s b u (No j p) g at (λ y. refl) tt r (subst (λ z. InOrder z) at g.ordered).1 (λ y k a. absurd (no_series c e j p b y here.0 a k r))
list_choice c e count s b u (Remove k v j) g at room (by_drop d) =
    let here = subst (λ z. AreParts c.model.cells z) at g.boxes in
    let order = subst (λ z. InOrder z) at g.ordered in
    list_same c count s b u (Remove k v j) g at (λ y. refl) tt d ((λ x y p q. order.0 x y (from_without k v b x d.cell p).0 q), order.1)
    (λ y n a. ⊎_elim
    (λ i. absurd (no_series c e j k (only k v b) y (only_part k v b c.model.cells here.0 d.cell d.there) i n d.refuted))
    (λ i. inl i) (only_or_without k v b y d.cell a))
list_choice c e count s b u (Split k t) g at room (by_split w) =
    let here = subst (λ z. AreParts c.model.cells z) at g.boxes in
    let fit = wide_split c.model.cells b k t here.0 w in
    list_same c count s b u (Split k t) g at (λ y. refl) tt fit
    (ordered_split k t b u fit.cell (wide_order c.model.cells b k t here.0 w) (subst (λ z. InOrder z) at g.ordered))
    (λ y n a. ⊎_elim (λ i. inl i) (λ i. inr (inl i)) (in_a_side k t b y fit.cell a))
list_choice c e count s b u (Worse p) g at room (by_cut h) = absurd (let k : ◌≡◌ {A = Bool} false true = h in cc)
list_choice c e count s b u (Worse p) g at room (by_new q z w n h) = absurd (let k : ◌≡◌ {A = Bool} false true = q in cc)
list_choice c e count s b u Yes g at room (by_yes {x = x} q w free) =
    subst (λ z. GoodList c count (list_put s b u Yes z)) (ap (λ z. listed_after s.listed z Yes) (sym w)) (list_yes c e count s b u x g at room w free)
list_choice c e count s b u Unsearched g at room x = elim x [ ]

pub list_good_turn : (c : Search) → Known c → (count : ℕ) (s : ListState) → GoodList c count s → GoodList c count (list_turn c count s)
list_good_turn c e count s g =
    elim (nat_lt (length s.listed) count) as (λ t. nat_lt (length s.listed) count ≡ t → GoodList c count (cond t (list_turn_on c s s.pending) s)) [
      | true ↦ λ q. go (ltb-true (length s.listed) count q) s.pending refl
      | false ↦ λ q. g
    ] refl
  where
    go : length s.listed < count → (w : List Box) → s.pending ≡ w → GoodList c count (list_turn_on c s w)
    go room [] at = g
    go room (b ∷ u) at = list_choice c e count s b u (line_of (TheFirst c) b) g at room (line_choice (TheFirst c) b)

pub list_good_turns : (c : Search) → Known c → (count n : ℕ) (s : ListState) → GoodList c count s → GoodList c count (list_turns c count n s)
list_good_turns c e count zero s g = g
list_good_turns c e count (suc n) s g = list_good_turns c e count n (list_turn c count s) (list_good_turn c e count s g)

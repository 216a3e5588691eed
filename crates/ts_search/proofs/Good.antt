-- What every turn of the search for the best series keeps.
use Rattle.std.proofs.Common.{◌≡◌, ◌⊎◌, ℕ, zero, suc, ◌≤◌, ℤ, Bool, true, false, not, cond, ◌&&◌, List, [], ◌∷◌, ◌++◌, Option, Some, None, MatchOption, refl, sym, ◌∙◌, ap, subst, inl, inr, ⊎_elim}
use Rattle.std.proofs.lemmas.Bool.{false_from_ne_true, not-true, not-false, and_from, true_from_ne_false}
use Rattle.ts_base.specs.declared.ext.Ext.{Ext}
use Rattle.ts_certificate.specs.declared.certificate.Aim.TheVariants.{Best as BestOf}
use Rattle.ts_certificate.specs.declared.certificate.TreeLine.{TreeLine}
use Rattle.ts_certificate.specs.declared.certificate.TreeLine.TheVariants.{Split, Remove, No, Worse, Yes, Unsearched}
use Rattle.ts_domain.specs.BoxSeries.{InBox, IsBefore}
use Rattle.ts_model.specs.FirstBest.{is_better}
use Rattle.ts_model.specs.Judgement.{is_met}
use Rattle.ts_model.specs.Meets.{Meets}
use Rattle.ts_model.proofs.MeetsLaw.{judged_is_met}
use Rattle.ts_filter.specs.declared.bar.Bar.{Bar}
use Rattle.ts_filter.specs.declared.bar.Bar.TheVariants.{Better, AsGood}
use Rattle.ts_filter.specs.Boxes.{Box, IsPart, InSome, only}
use Rattle.ts_filter.specs.RefutedWorseDrop.{IsCut}
use Rattle.ts_filter.specs.Rules.{Head, claimed_value, KeepsRule}
use Rattle.ts_filter.specs.Steps.{made_by, Steps}
use Rattle.ts_filter.specs.Tree.{reported_by}
use Rattle.ts_filter.proofs.BoxParts.{from_without, in_a_side, only_or_without, only_part, part_self}
use Rattle.ts_filter.proofs.TreeLaws.{parts_made, steps_go_on}
use Rattle.ts_filter.proofs.SoundLaws.{clash}
use Rattle.ts_filter.proofs.KeptLaws.{better_trans}
use Rattle.ts_search.specs.Dive.{Find, value_of, find}
use Rattle.ts_frontier.specs.Forms.{Form, Alone, Wide, form}
use Rattle.ts_search.specs.Found.{beats, tally_after, tally, reported_or_warm}
use Rattle.ts_search.specs.LineOf.{Contest, TheBest, last, requirements, is_refuted_at, is_cut_at, bar_of, cut_by, counts_for, line_of}
use Rattle.ts_search.specs.Turns.{State, start, found_after, after, turn_on, turn, turns, found_or_warm, budget_claim}
use Rattle.ts_search.proofs.Choice.{Choice, by_refuted, by_cut, by_new, by_yes, by_drop, by_split, line_choice}
use Rattle.ts_search.proofs.Known.{never_itself, apart, Known, KnownBest, more_cut, to_cut, no_series, cut_counts}
use Rattle.ts_search.proofs.Parts.{AreParts, InOrder, in_made, in_parts, ordered_split, single, alone_within, wide_split, wide_order}
use Rattle.ts_search.proofs.Walk.{IsChecked, AllChecked, all_checked_snoc, steps_under, tally_snoc}

-- the found series, if there is one, isn't worse than the value
abbrev pub AtLeast : Contest → Option Find → Ext → Type 0
AtLeast c None v = Unit {0}
AtLeast c (Some w) v = is_better c.goal w.value v ≡ false

pub record IsFound (c : Contest) (f : Find) (w : List Box) : Type 0 where
  pub meets : Meets c.search.model f.series
  pub value : f.value ≡ value_of c.search.model f.series
  pub earlier : (y : List ℤ) → InSome w y → IsBefore f.series y
  pub warm : AtLeast c c.warm f.value

abbrev pub FoundOk : Contest → Option Find → List Box → Type 0
FoundOk c None w = Unit {0}
FoundOk c (Some f) w = IsFound c f w

-- a series that was treated is no better than what is known, and later where it is as good
abbrev pub Settled : Contest → Option Find → Option Find → List ℤ → Type 0
Settled c (Some f) warm y =
    (is_better c.goal (value_of c.search.model y) f.value ≡ false) × (value_of c.search.model y ≡ f.value → (f.series ≡ y) ⊎ IsBefore f.series y)
Settled c None (Some w) y = is_better c.goal w.value (value_of c.search.model y) ≡ true
Settled c None None y = ⊥

-- the best reported series, where it is as good as the warm value
abbrev pub kept : Contest → Option Find → Option Find → Option Find
kept c None warm = None
kept c (Some f) None = Some f
kept c (Some f) (Some w) = cond (is_better c.goal w.value f.value) None (Some f)

abbrev pub head_now : Contest → Option Find → Head
head_now c found = record { aim = BestOf c.goal; claim = budget_claim (found_or_warm found c.warm); series = [] }

pub record Good (c : Contest) (s : State) : Type 0 where
  pub stepped : Steps c.search.model c.search.spans (head_now c s.found) (c.search.model.cells ∷ []) 0 s.lines s.pending 0
  pub boxes : AreParts c.search.model.cells s.pending
  pub ordered : InOrder s.pending
  pub found_ok : FoundOk c s.found s.pending
  pub settled : (y : List ℤ) → Meets c.search.model y → InSome s.pending y ⊎ Settled c s.found c.warm y
  pub found_is : s.found ≡ kept c (tally c None (c.search.model.cells ∷ []) s.lines) c.warm
  pub all_checked : AllChecked s.lines

pub good_start : (c : Contest) → Known c.search → Good c (start c)
good_start c k = record {
  stepped = (refl, refl);
  boxes = (part_self c.search.model.cells k.box, tt);
  ordered = ((λ x y p q. absurd q), tt);
  found_ok = tt;
  settled = λ y m. inl (inl m.inside);
  found_is = refl;
  all_checked = tt;
}

-- the state after a line, with the found one given
abbrev pub put : State → Box → List Box → TreeLine → Option Find → State
put s b u l found = record { lines = s.lines ++ l ∷ []; pending = made_by l b ++ u; found = found }

-- a line that leaves the found one as it is
good_same : (c : Contest) (s : State) (b : Box) (u : List Box) (l : TreeLine) →
    Good c s → s.pending ≡ b ∷ u → reported_by l 0 ≡ 0 → IsChecked l → KeepsRule c.search.model c.search.spans (head_now c s.found) 0 b l →
    InOrder (made_by l b ++ u) →
    ((y : List ℤ) → Meets c.search.model y → InBox y b → InSome (made_by l b) y ⊎ Settled c s.found c.warm y) →
    ((f : Option Find) → s.found ≡ kept c f c.warm → s.found ≡ kept c (tally_after c f (form b) l) c.warm) →
    Good c (put s b u l s.found)
good_same c s b u l g at none ch keeps order treated more =
    let h = head_now c s.found in
    let st = subst (λ z. Steps c.search.model c.search.spans h (c.search.model.cells ∷ []) 0 s.lines z 0) at g.stepped in
    let here = subst (λ z. AreParts c.search.model.cells z) at g.boxes in
    record {
      stepped = steps_go_on c.search.model c.search.spans h s.lines (l ∷ []) (c.search.model.cells ∷ []) (b ∷ u) (made_by l b ++ u) 0 0 0 st
          (keeps, (refl, none));
      boxes = parts_made c.search.model c.search.spans h 0 l b u here keeps;
      ordered = order;
      found_ok = still s.found (subst (λ z. FoundOk c s.found z) at g.found_ok);
      settled = λ y m. ⊎_elim
          (λ i. ⊎_elim (λ a. ⊎_elim (λ z. inl (in_parts (made_by l b) u y (inl z))) (λ z. inr z) (treated y m a))
          (λ a. inl (in_parts (made_by l b) u y (inr a))) i)
          (λ z. inr z) (subst (λ z. InSome z y ⊎ Settled c s.found c.warm y) at (g.settled y m));
      found_is = more (tally c None (c.search.model.cells ∷ []) s.lines) g.found_is
          ∙ ap (λ z. kept c z c.warm) (sym (tally_snoc c h l b u s.lines None 0 (c.search.model.cells ∷ []) 0 st));
      all_checked = all_checked_snoc s.lines l g.all_checked ch;
    }
  where
    still : (o : Option Find) → FoundOk c o (b ∷ u) → FoundOk c o (made_by l b ++ u)
    still None f = tt
    still (Some f) h = record {
      meets = h.meets;
      value = h.value;
      earlier = (λ y i. h.earlier y (in_made c.search.model c.search.spans (head_now c s.found) 0 l b u y keeps i));
      warm = h.warm;
    }

module _ (c : Contest) where
  -- what counts for the bar is as good as all that is known
  counts_best : (found warm : Option Find) (v : Ext) → counts_for c (bar_of found warm) v ≡ true → AtLeast c (found_or_warm found warm) v
  counts_best (Some f) warm v h =
      false_from_ne_true (is_better c.goal f.value v) (λ e. never_itself c.goal v (better_trans c.goal v f.value v h e))
  counts_best None (Some w) v h = not-true (is_better c.goal w.value v) h
  counts_best None None v h = tt

  counts_warm : (found warm : Option Find) (v : Ext) → MatchOption found (Unit {0}) (λ f. AtLeast c warm f.value) → counts_for c (bar_of found warm) v ≡ true →
      AtLeast c warm v
  counts_warm found None v k h = tt
  counts_warm (Some f) (Some w) v k h =
      false_from_ne_true (is_better c.goal w.value v) (λ e. clash (is_better c.goal w.value f.value) (better_trans c.goal w.value v f.value e h) k)
  counts_warm None (Some w) v k h = not-true (is_better c.goal w.value v) h

  -- the rule of a worse line, under a claim of this
  abbrev IsBelowClaim : Option Find → ℕ → Box → Type 0
  IsBelowClaim best p b = MatchOption (claimed_value (budget_claim best)) ⊥ (λ v. IsCut c.search.model c.search.spans c.goal p b (Better v))

  -- a `worse` line keeps its rule where the claim gets better
  worse_more : (best : Option Find) (v : Ext) (p : ℕ) (b : Box) → AtLeast c best v → IsBelowClaim best p b →
      IsCut c.search.model c.search.spans c.goal p b (Better v)
  worse_more None v p b h k = absurd k
  worse_more (Some f) v p b h k =
      more_cut c p b (Better f.value) (Better v)
      (λ u e. ⊎_elim (λ a. a) (λ a. absurd (clash (is_better c.goal f.value v) a h)) (apart c.goal u f.value v e)) k

  not_worse : (w u : Ext) → is_better c.goal u w ≡ true → not (is_better c.goal w u) ≡ true
  not_worse w u e = ap not (false_from_ne_true (is_better c.goal w u) (λ a. never_itself c.goal u (better_trans c.goal u w u e a)))

  -- the line worse, by the bar
  worse_now : (found warm : Option Find) (p : ℕ) (b : Box) → cut_by c (bar_of found warm) p b ≡ true → IsBelowClaim (found_or_warm found warm) p b
  worse_now (Some f) warm p b h = to_cut c p b (Better f.value) h
  worse_now None (Some w) p b h = more_cut c p b (AsGood w.value) (Better w.value) (λ u e. not_worse w.value u e) (to_cut c p b (AsGood w.value) h)
  worse_now None None p b h = absurd (let f : ◌≡◌ {A = Bool} false true = h in cc)

  settled_cut : (found warm : Option Find) (y : List ℤ) → MatchOption found (Unit {0}) (λ f. IsBefore f.series y) →
      counts_for c (bar_of found warm) (value_of c.search.model y) ≡ false → Settled c found warm y
  settled_cut (Some f) warm y h e = (e, λ q. inr h)
  settled_cut None (Some w) y h e = not-false (is_better c.goal w.value (value_of c.search.model y)) e
  settled_cut None None y h e = absurd (let f : ◌≡◌ {A = Bool} true false = e in cc)

  settled_new : (found warm : Option Find) (x y : List ℤ) → counts_for c (bar_of found warm) (value_of c.search.model x) ≡ true → Settled c found warm y →
      Settled c (Some (find c.search.model x)) warm y
  settled_new (Some f) warm x y h g =
      let vx = value_of c.search.model x in
      let vy = value_of c.search.model y in (
        false_from_ne_true (is_better c.goal vy vx) (λ e. clash (is_better c.goal vy f.value) (better_trans c.goal vy vx f.value e h) g.0),
        λ q. absurd (clash (is_better c.goal vy f.value) (subst (λ z. is_better c.goal z f.value ≡ true) (sym q) h) g.0),
      )
  settled_new None (Some w) x y h g =
      let vx = value_of c.search.model x in
      let vy = value_of c.search.model y in
      let n = not-true (is_better c.goal w.value vx) h in (
        false_from_ne_true (is_better c.goal vy vx) (λ e. clash (is_better c.goal w.value vx) (better_trans c.goal w.value vy vx g e) n),
        λ q. absurd (clash (is_better c.goal w.value vx) (subst (λ z. is_better c.goal w.value z ≡ true) q g) n),
      )
  settled_new None None x y h g = absurd g

  settled_itself : (warm : Option Find) (x y : List ℤ) → y ≡ x → Settled c (Some (find c.search.model x)) warm y
  settled_itself warm x y e = (
    subst (λ z. is_better c.goal (value_of c.search.model z) (value_of c.search.model x) ≡ false) (sym e)
        (false_from_ne_true (is_better c.goal (value_of c.search.model x) (value_of c.search.model x))
        (λ a. never_itself c.goal (value_of c.search.model x) a)),
    λ q. inl (sym e),
  )

  -- what counts beats the tally, and what doesn't changes nothing that is kept
  counts_beats : (f warm : Option Find) (v : Ext) → counts_for c (bar_of (kept c f warm) warm) v ≡ true → beats c f v ≡ true
  counts_beats None warm v h = refl
  counts_beats (Some g) None v h = h
  counts_beats (Some g) (Some w) v h =
      elim (is_better c.goal w.value g.value) as (λ t. is_better c.goal w.value g.value ≡ t → counts_for c (bar_of (cond t None (Some g)) (Some w)) v ≡ true →
      is_better c.goal v g.value ≡ true) [
        | true ↦ λ e k. ⊎_elim (λ a. absurd (clash (is_better c.goal w.value v) a (not-true (is_better c.goal w.value v) k))) (λ a. a)
            (apart c.goal w.value v g.value e)
        | false ↦ λ e k. k
      ] refl h

  kept_new : (warm : Option Find) (f : Find) → AtLeast c warm f.value → Some f ≡ kept c (Some f) warm
  kept_new None f h = refl
  kept_new (Some w) f h = ap (λ t. cond t None (Some f)) (sym h)

  kept_worse : (w : Find) (f : Find) → is_better c.goal w.value f.value ≡ true → kept c (Some f) (Some w) ≡ None
  kept_worse w f h = ap (λ t. cond t None (Some f)) h

  kept_cut : (f warm : Option Find) (new : Find) (t : Bool) → counts_for c (bar_of (kept c f warm) warm) new.value ≡ false →
      kept c f warm ≡ kept c (cond (t && beats c f new.value) (Some new) f) warm
  kept_cut f warm new false h = refl
  kept_cut None None new true h = absurd (let k : ◌≡◌ {A = Bool} true false = h in cc)
  kept_cut None (Some w) new true h = sym (kept_worse w new (not-false (is_better c.goal w.value new.value) h))
  kept_cut (Some g) None new true h = ap (λ t. kept c (cond t (Some new) (Some g)) None) (sym h)
  kept_cut (Some g) (Some w) new true h =
      elim (is_better c.goal w.value g.value) as (λ t. is_better c.goal w.value g.value ≡ t → counts_for c
      (bar_of (cond t None (Some g)) (Some w)) new.value ≡ false →
      cond t None (Some g) ≡ kept c (cond (is_better c.goal new.value g.value) (Some new) (Some g)) (Some w)) [
        | true ↦ λ e k. elim (is_better c.goal new.value g.value) as (λ t. None ≡ kept c (cond t (Some new) (Some g)) (Some w)) [
          | true ↦ sym (kept_worse w new (not-false (is_better c.goal w.value new.value) k))
          | false ↦ sym (kept_worse w g e)
        ]
        | false ↦ λ e k. ap (λ t. cond t None (Some g)) (sym e) ∙ ap (λ t. kept c (cond t (Some new) (Some g)) (Some w)) (sym k)
      ] refl h

  pub found_is_best : (f warm : Option Find) → reported_or_warm c f warm ≡ found_or_warm (kept c f warm) warm
  found_is_best None warm = refl
  found_is_best (Some g) None = refl
  found_is_best (Some g) (Some w) =
      elim (is_better c.goal w.value g.value) as (λ t. cond t (Some w) (Some g) ≡ found_or_warm (cond t None (Some g)) (Some w)) [ true ↦ refl | false ↦ refl ]

  found_fact : (o : Option Find) (w : List Box) → FoundOk c o w → MatchOption o (Unit {0}) (λ f. AtLeast c c.warm f.value)
  found_fact None w h = tt
  found_fact (Some f) w h = h.warm

  found_earlier : (o : Option Find) (w : List Box) (y : List ℤ) → FoundOk c o w → InSome w y → MatchOption o (Unit {0}) (λ f. IsBefore f.series y)
  found_earlier None w y h i = tt
  found_earlier (Some f) w y h i = h.earlier y i

-- a box of one series that counts: it becomes the found one
good_new : (c : Contest) → KnownBest c → (s : State) (b : Box) (u : List Box) (p : ℕ) (x : List ℤ) →
    Good c s → s.pending ≡ b ∷ u → form b ≡ Alone x → ((j : ℕ) → 1 ≤ j → j ≤ requirements c.search → is_refuted_at c.search j (last c.search) b ≡ false) →
    counts_for c (bar_of s.found c.warm) (value_of c.search.model x) ≡ true →
    IsCut c.search.model c.search.spans c.goal p b (Better (value_of c.search.model x)) →
    Good c (put s b u (Worse p) (Some (find c.search.model x)))
good_new c e s b u p x g at alone free count is_cut =
    let new = find c.search.model x in
    let all = c.search.model.cells ∷ [] in
    let st = subst (λ z. Steps c.search.model c.search.spans (head_now c s.found) all 0 s.lines z 0) at g.stepped in
    let here = subst (λ z. AreParts c.search.model.cells z) at g.boxes in
    let within = alone_within c.search.model.cells b x here.0 alone in
    let meets = e.known.single b x here.0 alone free in
    let best = counts_best c s.found c.warm (value_of c.search.model x) count in
    let warm = counts_warm c s.found c.warm (value_of c.search.model x) (found_fact c s.found s.pending g.found_ok) count in
    let order = subst (λ z. InOrder z) at g.ordered in
    record {
      stepped = steps_go_on c.search.model c.search.spans (head_now c (Some new)) s.lines (Worse p ∷ []) all (b ∷ u) u 0 0 0
          (steps_under c.search.model c.search.spans (head_now c s.found) (head_now c (Some new)) (λ y d l ch k. more best y d l ch k) s.lines 0 all
          (b ∷ u) 0 g.all_checked st)
          (is_cut, (refl, refl));
      boxes = here.1;
      ordered = order.1;
      found_ok = record { meets = meets; value = refl; earlier = (λ y i. order.0 x y within i); warm = warm };
      settled = λ y m. ⊎_elim
          (λ i. ⊎_elim (λ a. inr (settled_itself c c.warm x y (single c.search.model.cells b x y here.0 alone a))) (λ a. inl a) i)
          (λ z. inr (settled_new c s.found c.warm x y count z))
          (subst (λ z. InSome z y ⊎ Settled c s.found c.warm y) at (g.settled y m));
      found_is = is_found meets warm (tally c None all s.lines) g.found_is
          ∙ ap (λ z. kept c z c.warm) (ap (λ z. tally_after c (tally c None all s.lines) z (Worse p)) (sym alone)
          ∙ sym (tally_snoc c (head_now c s.found) (Worse p) b u s.lines None 0 all 0 st));
      all_checked = all_checked_snoc s.lines (Worse p) g.all_checked tt;
    }
  where
    more : AtLeast c (found_or_warm s.found c.warm) (value_of c.search.model x) → (y : ℕ) (d : Box) (l : TreeLine) → IsChecked l →
        KeepsRule c.search.model c.search.spans (head_now c s.found) y d l →
        KeepsRule c.search.model c.search.spans (head_now c (Some (find c.search.model x))) y d l
    more best y d (Split k t) ch r = r
    more best y d (Remove k v j) ch r = r
    more best y d (No j q) ch r = r
    more best y d (Worse q) ch r = worse_more c (found_or_warm s.found c.warm) (value_of c.search.model x) q d best r
    more best y d Yes ch r = absurd r.listing
    more best y d Unsearched ch r = absurd ch

    is_found : Meets c.search.model x → AtLeast c c.warm (value_of c.search.model x) → (f : Option Find) → s.found ≡ kept c f c.warm →
        Some (find c.search.model x) ≡ kept c (tally_after c f (Alone x) (Worse p)) c.warm
    is_found m w f q =
        let new = find c.search.model x in
        let d = counts_beats c f c.warm new.value (subst (λ z. counts_for c (bar_of z c.warm) new.value ≡ true) q count) in
        kept_new c c.warm new w
        ∙ ap (λ t. kept c (cond t (Some new) f) c.warm)
        (sym (and_from (is_met c.search.model x) (beats c f new.value) ((judged_is_met c.search.model x m.cells).1 m) d))

good_worse : (c : Contest) → KnownBest c → (s : State) (b : Box) (u : List Box) (p : ℕ) → Good c s → s.pending ≡ b ∷ u →
    cut_by c (bar_of s.found c.warm) p b ≡ true → Good c (after c s b u (Worse p))
good_worse c e s b u p g at h =
    let here = subst (λ z. AreParts c.search.model.cells z) at g.boxes in
    let found = subst (λ z. FoundOk c s.found z) at g.found_ok in
    by_form here.0 found (form b) refl
  where
    cut_none : (bar : Option Bar) → cut_by c bar p b ≡ true → IsPart b c.search.model.cells → (y : List ℤ) → InBox y b →
        counts_for c bar (value_of c.search.model y) ≡ false
    cut_none None k i y a = absurd (let f : ◌≡◌ {A = Bool} false true = k in cc)
    cut_none (Some bar) k i y a = cut_counts c e p b bar y i a k

    no_count : IsPart b c.search.model.cells → (y : List ℤ) → InBox y b → counts_for c (bar_of s.found c.warm) (value_of c.search.model y) ≡ false
    no_count i y a = cut_none (bar_of s.found c.warm) h i y a

    same : IsPart b c.search.model.cells → FoundOk c s.found (b ∷ u) →
        ((f : Option Find) → s.found ≡ kept c f c.warm → s.found ≡ kept c (tally_after c f (form b) (Worse p)) c.warm) → Good c (put s b u (Worse p) s.found)
    same i found more = good_same c s b u (Worse p) g at refl tt (worse_now c s.found c.warm p b h)
        (subst (λ z. InOrder z) at g.ordered).1
        (λ y m a. inr (settled_cut c s.found c.warm y (found_earlier c s.found (b ∷ u) y found (inl a)) (no_count i y a)))
        more

    by_form : IsPart b c.search.model.cells → FoundOk c s.found (b ∷ u) → (F : Form) → form b ≡ F → Good c (after c s b u (Worse p))
    by_form i found (Wide k t) w =
        subst (λ z. Good c (put s b u (Worse p) z)) (ap (λ z. found_after c s.found z (Worse p)) (sym w))
        (same i found (λ f r. r ∙ ap (λ z. kept c (tally_after c f z (Worse p)) c.warm) (sym w)))
    by_form i found (Alone x) w =
        let n = no_count i x (alone_within c.search.model.cells b x i w) in
        subst (λ z. Good c (put s b u (Worse p) z))
        (ap (λ t. cond t (Some (find c.search.model x)) s.found) (sym n) ∙ ap (λ z. found_after c s.found z (Worse p)) (sym w))
        (same i found (λ f r. r
        ∙ kept_cut c f c.warm (find c.search.model x) (is_met c.search.model x)
        (subst (λ z. counts_for c (bar_of z c.warm) (value_of c.search.model x) ≡ false) r n)
        ∙ ap (λ z. kept c (tally_after c f z (Worse p)) c.warm) (sym w)))

good_single : (c : Contest) → KnownBest c → (s : State) (b : Box) (u : List Box) (p : ℕ) (x : List ℤ) → Good c s → s.pending ≡ b ∷ u → p ≡ last c.search →
    form b ≡ Alone x → ((j : ℕ) → 1 ≤ j → j ≤ requirements c.search → is_refuted_at c.search j (last c.search) b ≡ false) →
    cut_by c (bar_of s.found c.warm) (last c.search) b ≡ false →
    Good c (after c s b u (Worse p))
good_single c e s b u p x g at end w free h =
    let here = subst (λ z. AreParts c.search.model.cells z) at g.boxes in
    let count = counting here.0 (bar_of s.found c.warm) h in
    subst (λ z. Good c (put s b u (Worse p) z))
    (ap (λ t. cond t (Some (find c.search.model x)) s.found) (sym count) ∙ ap (λ z. found_after c s.found z (Worse p)) (sym w))
    (good_new c e s b u p x g at w free count (to_cut c p b (Better (value_of c.search.model x)) (not_itself here.0)))
  where
    counting : IsPart b c.search.model.cells → (bar : Option Bar) → cut_by c bar (last c.search) b ≡ false → counts_for c bar (value_of c.search.model x) ≡ true
    counting i None k = refl
    counting i (Some bar) k = e.cut_single b bar x i w k

    not_itself : IsPart b c.search.model.cells → is_cut_at c p b (Better (value_of c.search.model x)) ≡ true
    not_itself i =
        true_from_ne_false (is_cut_at c p b (Better (value_of c.search.model x)))
        (λ k. never_itself c.goal (value_of c.search.model x)
        (e.cut_single b (Better (value_of c.search.model x)) x i w (subst (λ n. is_cut_at c n b (Better (value_of c.search.model x)) ≡ false) end k)))

pub good_choice : (c : Contest) → KnownBest c → (s : State) (b : Box) (u : List Box) (l : TreeLine) → Good c s → s.pending ≡ b ∷ u →
    Choice (TheBest c s.found) b l → Good c (after c s b u l)
good_choice c e s b u (No j p) g at (by_refuted r) =
    let here = subst (λ z. AreParts c.search.model.cells z) at g.boxes in
    good_same c s b u (No j p) g at refl tt r (subst (λ z. InOrder z) at g.ordered).1
    (λ y m a. absurd (no_series c.search e.known j p b y here.0 a m r)) (λ f q. q)
good_choice c e s b u (Remove k v j) g at (by_drop d) =
    let here = subst (λ z. AreParts c.search.model.cells z) at g.boxes in
    let order = subst (λ z. InOrder z) at g.ordered in
    good_same c s b u (Remove k v j) g at refl tt d ((λ x y p q. order.0 x y (from_without k v b x d.cell p).0 q), order.1)
    (λ y m a. ⊎_elim
    (λ i. absurd (no_series c.search e.known j k (only k v b) y (only_part k v b c.search.model.cells here.0 d.cell d.there) i m d.refuted))
    (λ i. inl (inl i)) (only_or_without k v b y d.cell a)) (λ f q. q)
good_choice c e s b u (Split k t) g at (by_split w) =
    let here = subst (λ z. AreParts c.search.model.cells z) at g.boxes in
    let fit = wide_split c.search.model.cells b k t here.0 w in
    good_same c s b u (Split k t) g at refl tt fit
    (ordered_split k t b u fit.cell (wide_order c.search.model.cells b k t here.0 w) (subst (λ z. InOrder z) at g.ordered))
    (λ y m a. ⊎_elim (λ i. inl (inl i)) (λ i. inl (inr (inl i))) (in_a_side k t b y fit.cell a)) (λ f q. q)
good_choice c e s b u (Worse p) g at (by_cut h) = good_worse c e s b u p g at h
good_choice c e s b u (Worse p) g at (by_new {x = x} q end w free h) = good_single c e s b u p x g at end w free h
good_choice c e s b u Yes g at (by_yes q w free) = absurd (let k : ◌≡◌ {A = Bool} true false = q in cc)
good_choice c e s b u Unsearched g at x = elim x [ ]

pub good_turn : (c : Contest) → KnownBest c → (s : State) → Good c s → (w : List Box) → s.pending ≡ w → Good c (turn_on c s w)
good_turn c e s g [] at = g
good_turn c e s g (b ∷ u) at = good_choice c e s b u (line_of (TheBest c s.found) b) g at (line_choice (TheBest c s.found) b)

pub good_turns : (c : Contest) → KnownBest c → (n : ℕ) (s : State) → Good c s → Good c (turns c n s)
good_turns c e zero s g = g
good_turns c e (suc n) s g = good_turns c e n (turn c s) (good_turn c e s g s.pending refl)

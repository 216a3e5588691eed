-- The trail: the newest step leads back from the present box.
use Rattle.std.proofs.Common.{◌≡◌, ℕ, zero, suc, ◌-◌, ◌<◌, ◌≤◌, ℤ, List, [], ◌∷◌, ◌++◌, inr, length, get_or, set, take, refl, sym, ap, ◌∙◌, subst, arith, length-append, append_assoc, Fits, w32}
use Rattle.std.proofs.lemmas.List.{set-set, set-get_or, get_or-set_same, length-set, get_or_default, take_all}
use Rattle.std.proofs.Math.Seq.{take-append_seam, get_or-append_seam}
use Rattle.ts_domain.specs.declared.boxed.Step.{Step}
use Rattle.ts_domain.specs.BoxSeries.{Boxes, IsBox, IsCell, cell_of, all_boxes, box_with, back_to}
use Rattle.std.specs.Prelude.{int_le, int_lt, Contains}
use Rattle.ts_domain.specs.declared.boxed.Back.{Back}
use Rattle.ts_domain.specs.declared.boxed.Back.TheVariants.{Whole, One}
use Rattle.ts_domain.specs.Kept.{values_up_to, values_above, values_without}
use Rattle.ts_domain.specs.Marks.{put_back}
use Rattle.ts_domain.specs.Trail.{before, BackFits, box_before, first_box, earlier_boxes, StepsFit}
use Rattle.ts_domain.specs.Values.{IsDomain, WithinLimits}
use Rattle.ts_domain.proofs.Sets.{nothing_in, each_contains, each_filter, all_append}
use Rattle.ts_domain.proofs.BoxLaws.{contains_without}
use Rattle.ts_domain.proofs.MarkFlips.{put_back_rises, contains_put_back, put_back_without}

-- the boxes that the fields stand for
abbrev pub boxes_of : List Step → List (List ℤ) → Boxes
boxes_of steps cells = record { earlier = earlier_boxes steps cells; present = cells }

pub length-earlier : (ss : List Step) (cells : List (List ℤ)) → length (earlier_boxes ss cells) ≡ length ss
unfolding earlier_boxes
length-earlier [] cells = refl
length-earlier (s ∷ ss) cells = omega (arith, length-earlier ss cells)

first-snoc : (ss : List Step) (s : Step) (cells : List (List ℤ)) → first_box (ss ++ s ∷ []) cells ≡ first_box ss (box_before s cells)
unfolding first_box
first-snoc [] s cells = refl
first-snoc (t ∷ ss) s cells = ap (box_before t) (first-snoc ss s cells)

-- the newest step leads back from the present box
pub earlier-snoc : (ss : List Step) (s : Step) (cells : List (List ℤ)) →
    earlier_boxes (ss ++ s ∷ []) cells ≡ earlier_boxes ss (box_before s cells) ++ box_before s cells ∷ []
unfolding earlier_boxes first_box
earlier-snoc [] s cells = refl
earlier-snoc (t ∷ ss) s cells = let b = first-snoc ss s cells in let e = earlier-snoc ss s cells in
    ap (λ b. box_before t b ∷ earlier_boxes (ss ++ s ∷ []) cells) b ∙ ap (λ l. box_before t (first_box ss (box_before s cells)) ∷ l) e

box_set : (cells : List (List ℤ)) (i : ℕ) (d : List ℤ) → IsBox cells → IsDomain d → IsBox (set cells i d)
box_set [] i d h k = tt
box_set (c ∷ cs) zero d h k = (k, h.1)
box_set (c ∷ cs) (suc i) d h k = (h.0, box_set cs i d h.1 k)

box_at : (cells : List (List ℤ)) (i : ℕ) (d : List ℤ) → IsBox cells → i < length cells → IsDomain (get_or cells i d)
box_at [] i d h k = absurd (omega (arith, k))
box_at (c ∷ cs) zero d h k = h.0
box_at (c ∷ cs) (suc i) d h k = box_at cs i d h.1 (omega (arith, k))

pub cells_fit : (ss : List Step) (cells : List (List ℤ)) → StepsFit ss cells → (length cells < 4000000000) × IsBox cells
unfolding StepsFit
cells_fit [] cells h = h
cells_fit (s ∷ ss) cells h = cells_fit ss cells h.2

pub count_fits : (ss : List Step) (cells : List (List ℤ)) (n : ℕ) → StepsFit ss cells → n ≡ length cells → Fits w32 n
count_fits ss cells n h e = let few = (cells_fit ss cells h).0 in omega (arith, few, e)

pub box_of : (ss : List Step) (cells : List (List ℤ)) (b : Boxes) → boxes_of ss cells ≡ b → StepsFit ss cells → IsBox b.present
box_of ss cells b view h = subst (λ b. IsBox b.present) view (cells_fit ss cells h).1

-- what a step leads back to is a domain
back_domain : (b : Back) (values : List ℤ) → BackFits b values → IsDomain values → IsDomain (before b values)
back_domain (Whole old) values fit domain = fit
back_domain (One v node) values fit domain = record {
  rising = put_back_rises v values domain.rising fit.1;
  some = λ none. nothing_in v (subst (λ l. Contains l v) none ((contains_put_back v values v).1 (inr refl)));
  within = all_append WithinLimits (values_up_to v values) (v ∷ values_above v values) (each_filter WithinLimits (λ w. int_le w v) values domain.within)
      (fit.0, each_filter WithinLimits (λ w. int_lt v w) values domain.within);
}

steps_push : (ss : List Step) (s : Step) (cells cells' : List (List ℤ)) → box_before s cells' ≡ cells → s.cell < length cells' →
    BackFits s.back (get_or cells' s.cell []) → IsBox cells' → StepsFit ss cells → StepsFit (ss ++ s ∷ []) cells'
unfolding StepsFit first_box
steps_push [] s cells cells' e below fit box h =
    let same = ap length e in
    (below, fit, (omega (arith, same, length-set cells' s.cell (before s.back (get_or cells' s.cell [])), h.0), box))
steps_push (t ∷ ss) s cells cells' e below fit box h =
    let same = ap length e in (
      omega (arith, same, length-set cells' s.cell (before s.back (get_or cells' s.cell [])), h.0),
      subst (λ b. BackFits t.back (get_or b t.cell [])) (sym (first-snoc ss s cells' ∙ ap (first_box ss) e)) h.1,
      steps_push ss s cells cells' e below fit box h.2,
    )

steps_pop : (ss : List Step) (s : Step) (cells : List (List ℤ)) → IsBox (box_before s cells) → StepsFit (ss ++ s ∷ []) cells → StepsFit ss (box_before s cells)
unfolding StepsFit first_box
steps_pop [] s cells box h =
    let few = h.2.0 in (omega (arith, length-set cells s.cell (before s.back (get_or cells s.cell [])), few), box)
steps_pop (t ∷ ss) s cells box h =
    let below = h.0 in (
      omega (arith, length-set cells s.cell (before s.back (get_or cells s.cell [])), below),
      subst (λ b. BackFits t.back (get_or b t.cell [])) (first-snoc ss s cells) h.1,
      steps_pop ss s cells box h.2,
    )

newest_fits : (ss : List Step) (s : Step) (cells : List (List ℤ)) → StepsFit (ss ++ s ∷ []) cells →
    (s.cell < length cells) × BackFits s.back (get_or cells s.cell [])
unfolding StepsFit first_box
newest_fits [] s cells h = (h.0, h.1)
newest_fits (t ∷ ss) s cells h = newest_fits ss s cells h.2

-- a change: the step, and what stays of the cell's domain
pub record Leads (s : Step) (cells : List (List ℤ)) (dest : List ℤ) : Type 0 where
  pub below : s.cell < length cells
  pub old : before s.back dest ≡ get_or cells s.cell []
  pub fits : BackFits s.back dest
  pub domain : IsDomain dest

leads_back : (s : Step) (cells : List (List ℤ)) (dest : List ℤ) → Leads s cells dest → box_before s (set cells s.cell dest) ≡ cells
leads_back s cells dest h =
    ap (set (set cells s.cell dest) s.cell) (ap (before s.back) (get_or-set_same cells s.cell dest [] h.below) ∙ h.old) ∙
    set-set cells s.cell dest (get_or cells s.cell []) ∙ set-get_or cells s.cell []

pub fit_more : (ss mid ss' : List Step) (cells : List (List ℤ)) (s : Step) (dest : List ℤ) → StepsFit ss cells → mid ≡ ss → ss' ≡ mid ++ s ∷ [] →
    Leads s cells dest → StepsFit ss' (set cells s.cell dest)
fit_more ss mid ss' cells s dest h same steps leads =
    subst (λ x. StepsFit x (set cells s.cell dest)) (sym (steps ∙ ap (λ x. x ++ s ∷ []) same))
    (steps_push ss s cells (set cells s.cell dest) (leads_back s cells dest leads)
    (let below = leads.below in omega (arith, length-set cells s.cell dest, below))
    (subst (BackFits s.back) (sym (get_or-set_same cells s.cell dest [] leads.below)) leads.fits)
    (box_set cells s.cell dest (cells_fit ss cells h).1 leads.domain) h)

pub changed : (ss mid ss' : List Step) (cells : List (List ℤ)) (b : Boxes) (k : ℕ) (s : Step) (dest : List ℤ) (keep : List ℤ → List ℤ) →
    boxes_of ss cells ≡ b → s.cell ≡ k - 1 → mid ≡ ss → ss' ≡ mid ++ s ∷ [] → Leads s cells dest → dest ≡ keep (get_or cells s.cell []) →
    boxes_of ss' (set cells s.cell dest) ≡ box_with k keep b
changed ss mid ss' cells b k s dest keep view place same steps leads kept =
    let earlier : earlier_boxes ss' (set cells s.cell dest) ≡ all_boxes (boxes_of ss cells) =
    ap (λ x. earlier_boxes x (set cells s.cell dest)) (steps ∙ ap (λ x. x ++ s ∷ []) same) ∙
    earlier-snoc ss s (set cells s.cell dest) ∙ ap (λ c. earlier_boxes ss c ++ c ∷ []) (leads_back s cells dest leads) in
    let present : set cells s.cell dest ≡ set cells (k - 1) (keep (get_or cells (k - 1) [])) = ap (set cells s.cell) kept
    ∙ ap (λ i. set cells i (keep (get_or cells i []))) place in
    ap (λ e. boxes e (set cells s.cell dest)) earlier ∙ ap (boxes (all_boxes (boxes_of ss cells))) present ∙ ap (box_with k keep) view
  where
    boxes : List (List (List ℤ)) → List (List ℤ) → Boxes
    boxes e p = record { earlier = e; present = p }

-- the two kinds of a change, as they are read and written
pub leads_whole : (cells : List (List ℤ)) (at : ℕ) (old lent dest : List ℤ) → IsBox cells → at < length cells → lent ≡ get_or cells at lent →
    old ≡ lent → IsDomain dest → Leads (record { cell = at; back = Whole old }) cells dest
leads_whole cells at old lent dest box below is_lent is_old domain = record {
  below = below;
  old = is_old ∙ is_lent ∙ get_or_default cells at lent [] below;
  fits = subst IsDomain (sym (is_old ∙ is_lent)) (box_at cells at lent box below);
  domain = domain;
}

abbrev pub IsOne : Back → ℤ → Type 0
IsOne (Whole old) v = ⊥
IsOne (One w node) v = w ≡ v

pub leads_one : (cells : List (List ℤ)) (s : Step) (v : ℤ) (dest : List ℤ) → IsOne s.back v → IsBox cells → s.cell < length cells →
    Contains (get_or cells s.cell []) v → dest ≡ values_without v (get_or cells s.cell []) → IsDomain dest → Leads s cells dest
leads_one cells s v dest one box below has is domain = let b = by_back s.back one in record { below = below; old = b.0; fits = b.1; domain = domain }
  where
    fit : IsDomain (get_or cells s.cell [])
    fit = box_at cells s.cell [] box below

    by_back : (b : Back) → IsOne b v → (before b dest ≡ get_or cells s.cell []) × BackFits b dest
    by_back (Whole w) one = absurd one
    by_back (One w node) e = (
      ap (λ x. put_back x dest) e ∙ ap (put_back v) is ∙ put_back_without v (get_or cells s.cell []) fit.rising has,
      (
        subst WithinLimits (sym e) (each_contains WithinLimits (get_or cells s.cell []) v fit.within has),
        λ there. ((contains_without v (get_or cells s.cell []) v).0 (subst (λ l. Contains l v) is (subst (Contains dest) e there))).1 refl,
      ),
    )

-- the domain that is lent has lost a number
pub taken : (cells : List (List ℤ)) (at : ℕ) (v w : ℤ) (lent dest : List ℤ) → w ≡ v → at < length cells → lent ≡ get_or cells at lent →
    Contains (get_or cells at []) v → (Contains lent w → dest ≡ values_without w lent) → dest ≡ values_without v (get_or cells at [])
taken cells at v w lent dest same below is_lent has out =
    let read : lent ≡ get_or cells at [] = is_lent ∙ get_or_default cells at lent [] below in
    out (subst (Contains lent) (sym same) (subst (λ l. Contains l v) (sym read) has)) ∙ ap (λ n. values_without n lent) same ∙ ap (values_without v) read

-- a number of a cell is within the limits
pub cell_limits : (ss : List Step) (cells : List (List ℤ)) (b : Boxes) (k : ℕ) (v w : ℤ) → w ≡ v → boxes_of ss cells ≡ b → StepsFit ss cells → IsCell k b →
    Contains (cell_of k b) v → WithinLimits w
cell_limits ss cells b k v w is view h cell has =
    subst WithinLimits (sym is)
    (each_contains WithinLimits (cell_of k b) v (box_at b.present (k - 1) [] (box_of ss cells b view h) (omega (arith, cell.0, cell.1))).within has)

pub place_below : (ss : List Step) (cells : List (List ℤ)) (b : Boxes) (k : ℕ) → boxes_of ss cells ≡ b → IsCell k b → k - 1 < length cells
place_below ss cells b k view cell = let same : length cells ≡ length b.present = ap (λ b. length b.present) view in omega (arith, same, cell.0, cell.1)

pub steps_left : (ss : List Step) (cells : List (List ℤ)) (b : Boxes) (n : ℕ) → boxes_of ss cells ≡ b → n ≡ length ss → 0 < length b.earlier → n ≡ 0 → ⊥
steps_left ss cells b n view size some none = let same = ap (λ b. length b.earlier) view in omega (arith, same, length-earlier ss cells, size, some, none)

-- a step back
pub newest_cell : (ss ss' : List Step) (s : Step) (cells : List (List ℤ)) → ss ≡ ss' ++ s ∷ [] → StepsFit ss cells → s.cell < length cells
newest_cell ss ss' s cells steps h = (newest_fits ss' s cells (subst (λ x. StepsFit x cells) steps h)).0

pub newest_back : (ss ss' : List Step) (s : Step) (cells : List (List ℤ)) → ss ≡ ss' ++ s ∷ [] → StepsFit ss cells →
    BackFits s.back (get_or cells s.cell [])
newest_back ss ss' s cells steps h = (newest_fits ss' s cells (subst (λ x. StepsFit x cells) steps h)).1

pub fit_less : (ss ss' : List Step) (s : Step) (cells : List (List ℤ)) → ss ≡ ss' ++ s ∷ [] → StepsFit ss cells → StepsFit ss' (box_before s cells)
fit_less ss ss' s cells steps h =
    let all = subst (λ x. StepsFit x cells) steps h in let newest = newest_fits ss' s cells all in
    let box = (cells_fit ss cells h).1 in
    steps_pop ss' s cells (box_set cells s.cell (before s.back (get_or cells s.cell [])) box
    (back_domain s.back (get_or cells s.cell []) newest.1 (box_at cells s.cell [] box newest.0))) all

same_boxes : (e f : List (List (List ℤ))) (p q : List (List ℤ)) → e ≡ f → p ≡ q →
    let b : Boxes = record { earlier = e; present = p } in let c : Boxes = record { earlier = f; present = q } in b ≡ c
same_boxes e f p q h k = cc

pub one_back : (ss ss' : List Step) (s : Step) (cells : List (List ℤ)) (b : Boxes) → boxes_of ss cells ≡ b → ss ≡ ss' ++ s ∷ [] →
    boxes_of ss' (box_before s cells) ≡ back_to (length b.earlier - 1) b
one_back ss ss' s cells b view steps =
    let old = box_before s cells in let first = earlier_boxes ss' old in
    let earlier : earlier_boxes ss cells ≡ first ++ old ∷ [] = ap (λ x. earlier_boxes x cells) steps ∙ earlier-snoc ss' s cells in
    let n : length (earlier_boxes ss cells) - 1 ≡ length first = let e = ap length earlier in omega (arith, e, length-append first (old ∷ [])) in
    let all : all_boxes (boxes_of ss cells) ≡ first ++ (old ∷ cells ∷ []) = ap (λ e. e ++ cells ∷ []) earlier ∙ rw append_assoc refl in
    same_boxes first _ old _
    (sym (ap (λ k. take k (all_boxes (boxes_of ss cells))) n ∙ ap (take (length first)) all ∙ take-append_seam first (old ∷ cells ∷ [])))
    (sym (ap (λ k. get_or (all_boxes (boxes_of ss cells)) k []) n ∙ ap (λ l. get_or l (length first) []) all ∙ get_or-append_seam first old
    (cells ∷ []) [])) ∙
    ap (λ b. back_to (length b.earlier - 1) b) view

pub begun : (cells given : List (List ℤ)) (n : ℕ) → cells ≡ take n given → length given ≤ n → cells ≡ given
begun cells given n is end = is ∙ take_all n given end

pub begun_fit : (ss : List Step) (cells given : List (List ℤ)) → ss ≡ [] → cells ≡ given → length given < 4000000000 → IsBox cells → StepsFit ss cells
unfolding StepsFit
begun_fit ss cells given none is few box = let same = ap length is in subst (λ s. StepsFit s cells) (sym none) (omega (arith, same, few), box)

pub begun_boxes : (ss : List Step) (cells given : List (List ℤ)) → ss ≡ [] → cells ≡ given →
    let b : Boxes = record { earlier = []; present = given } in boxes_of ss cells ≡ b
unfolding earlier_boxes
begun_boxes ss cells given none is = ap (λ s. boxes_of s cells) none ∙ no_steps cells ∙ ap (λ c. present_only c) is
  where
    present_only : List (List ℤ) → Boxes
    present_only c = record { earlier = []; present = c }

    no_steps : (c : List (List ℤ)) → boxes_of [] c ≡ present_only c
    no_steps c = refl

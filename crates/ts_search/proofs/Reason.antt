-- A lean line is the line of its box, and the line of a box is lean.
use Rattle.std.proofs.Common.{◌≡◌, ◌⊎◌, ℕ, zero, suc, ◌+◌, ◌-◌, ◌<◌, ◌≤◌, ℤ, Bool, true, false, not, cond, ◌||◌, Option, Some, None, option_map, unwrap_or, refl, sym, ◌∙◌, ap, subst, inl, inr, ⊎_elim, arith, eq-or-lt_of_le}
use Rattle.std.proofs.lemmas.Bool.{not-true, false_from_ne_true}
use Rattle.std.proofs.lemmas.Option.{slice_get_within}
use Rattle.ts_certificate.specs.declared.certificate.Aim.TheVariants.{Best as BestOf}
use Rattle.ts_certificate.specs.declared.certificate.TreeLine.{TreeLine}
use Rattle.ts_certificate.specs.declared.certificate.TreeLine.TheVariants.{Split, Remove, No, Worse, Yes, Unsearched}
use Rattle.ts_model.specs.FirstBest.{is_better}
use Rattle.ts_filter.specs.declared.bar.Bar.{Bar}
use Rattle.ts_filter.specs.declared.bar.Bar.TheVariants.{Better, AsGood}
use Rattle.ts_filter.specs.Boxes.{Box, HasCell, IsPart}
use Rattle.ts_filter.specs.RefutedWorseDrop.{IsRefuted}
use Rattle.ts_filter.specs.Rules.{Head, IsListing, KeepsRule}
use Rattle.ts_filter.proofs.SoundLaws.{clash}
use Rattle.ts_filter.proofs.KeptLaws.{better_trans}
use Rattle.ts_search.specs.Dive.{Find}
use Rattle.ts_filter.specs.declared.drops.Removal.{Removal}
use Rattle.ts_search.specs.Drops.{least, or_later, next_drop}
use Rattle.ts_frontier.specs.Forms.{Form, Alone, Wide, form}
use Rattle.ts_search.specs.Lean.{below_reported, below_warm, below, worse_line, last_worse, inner_reason, first_reason, IsFree, IsLeanLine}
use Rattle.ts_search.specs.LineOf.{Search, Contest, Sought, TheBest, search_in, last, requirements, inner, is_refuted_at, is_cut_at, bar_of, cut_by, refuted_last, no_line, first_no, removal_line, branch_line, wide_line, form_line, line_of}
use Rattle.ts_search.proofs.Choice.{LeastFits, least_fits}
use Rattle.ts_search.proofs.Good.{kept}
use Rattle.ts_search.proofs.Known.{apart, cut_more, to_refuted, from_refuted, to_cut, part_length}
use Rattle.ts_search.proofs.Parts.{drop_not_alone}
use Rattle.ts_search.proofs.Walk.{IsChecked}

implied : (x y : Bool) → (y ≡ true → x ≡ true) → (x || y) ≡ x
implied true y h = refl
implied false true h = sym (h refl)
implied false false h = refl

implies : (x y : Bool) → (x ≡ true → y ≡ true) → (x || y) ≡ y
implies true y h = sym (h refl)
implies false y h = refl

-- one bar says what the reported value and the warm value say together
pub one_bar : (c : Contest) (p : ℕ) (b : Box) (f warm : Option Find) →
    (below_reported c f p b || below_warm c warm p b) ≡ cut_by c (bar_of (kept c f warm) warm) p b
one_bar c p b None None = refl
one_bar c p b None (Some w) = refl
one_bar c p b (Some f) None = implied (is_cut_at c p b (Better f.value)) false (λ e. absurd (let k : ◌≡◌ {A = Bool} false true = e in cc))
one_bar c p b (Some f) (Some w) =
    elim (is_better c.goal w.value f.value) as (λ t. is_better c.goal w.value f.value ≡ t →
    (is_cut_at c p b (Better f.value) || is_cut_at c p b (AsGood w.value)) ≡ cut_by c (bar_of (cond t None (Some f)) (Some w)) p b) [
      | true ↦ λ e. implies (is_cut_at c p b (Better f.value)) (is_cut_at c p b (AsGood w.value))
          (cut_more c p b (Better f.value) (AsGood w.value)
          (λ u k. ⊎_elim (λ a. absurd (clash (is_better c.goal w.value u) a (not-true (is_better c.goal w.value u) k))) (λ a. a)
          (apart c.goal w.value u f.value e)))
      | false ↦ λ e. implied (is_cut_at c p b (Better f.value)) (is_cut_at c p b (AsGood w.value))
          (cut_more c p b (AsGood w.value) (Better f.value)
          (λ u k. ap not (false_from_ne_true (is_better c.goal w.value u)
          (λ a. clash (is_better c.goal w.value f.value) (better_trans c.goal w.value u f.value a k) e))))
    ] refl

least_same : (q r : ℕ → Bool) → ((i : ℕ) → q i ≡ r i) → (n j : ℕ) → least q n j ≡ least r n j
least_same q r e zero j = refl
least_same q r e (suc n) j =
    ap (λ t. cond t (Some j) (least q n (suc j))) (e j) ∙ ap (λ t. cond (r j) (Some j) t) (least_same q r e n (suc j))

pub least_none : (q : ℕ → Bool) (n j : ℕ) → ((i : ℕ) → j ≤ i → i < j + n → q i ≡ false) → least q n j ≡ None
least_none q n j h = go (least q n j) (least_fits q n j)
  where
    go : (o : Option ℕ) → LeastFits q n j o → o ≡ None
    go None k = refl
    go (Some i) k = absurd (clash (q i) k.holds (h i k.from k.to))

pub none_least : (q : ℕ → Bool) (n j : ℕ) → least q n j ≡ None → (i : ℕ) → j ≤ i → i < j + n → q i ≡ false
none_least q n j e = subst (λ o. LeastFits q n j o) e (least_fits q n j)

pub or_none : (o r : Option TreeLine) → or_later o r ≡ None → (o ≡ None) × (r ≡ None)
or_none None r e = (refl, e)
or_none (Some l) r e = absurd (let k : ◌≡◌ {A = Option TreeLine} (Some l) None = e in cc)

pub map_none : {A : Type 0} (g : A → TreeLine) (o : Option A) → option_map g o ≡ None → o ≡ None
map_none g None e = refl
map_none g (Some a) e = absurd (let k : ◌≡◌ {A = Option TreeLine} (Some (g a)) None = e in cc)

no_line_none : (j : ℕ) (o : Option ℕ) (r : Option TreeLine) → no_line j o r ≡ None → (o ≡ None) × (r ≡ None)
no_line_none j None r e = (refl, e)
no_line_none j (Some p) r e = absurd (let k : ◌≡◌ {A = Option TreeLine} (Some (No j p)) None = e in cc)

pub first_no_none : (c : Search) (b : Box) (n j : ℕ) → first_no c b n j ≡ None → (i p : ℕ) → j ≤ i → i < j + n → 1 ≤ p → p ≤ inner c →
    is_refuted_at c i p b ≡ false
first_no_none c b zero j e = λ i p a d k m. absurd (omega arith)
first_no_none c b (suc n) j e =
    let r = no_line_none j (least (λ p. is_refuted_at c j p b) (inner c) 1) (first_no c b n (suc j)) e in
    let later = first_no_none c b n (suc j) r.1 in
    λ i p a d k m. ⊎_elim
    (λ q. subst (λ z. is_refuted_at c z p b ≡ false) q (none_least (λ z. is_refuted_at c j z b) (inner c) 1 r.0 p k (omega arith)))
    (λ q. later i p q (omega arith) k m)
    (eq-or-lt_of_le a)

pub none_first_no : (c : Search) (b : Box) (n j : ℕ) → ((i p : ℕ) → is_refuted_at c i p b ≡ false) → first_no c b n j ≡ None
none_first_no c b zero j h = refl
none_first_no c b (suc n) j h =
    ap (λ o. no_line j o (first_no c b n (suc j))) (least_none (λ p. is_refuted_at c j p b) (inner c) 1 (λ p k m. h j p)) ∙ none_first_no c b n (suc j) h

abbrev pub branch_at : Search → Box → Form → TreeLine
branch_at c b (Alone x) = Worse (last c)
branch_at c b (Wide k t) = branch_line c b k t

pub or_unwrap : (o r : Option TreeLine) (z : TreeLine) → unwrap_or o (unwrap_or r z) ≡ unwrap_or (or_later o r) z
or_unwrap None r z = refl
or_unwrap (Some l) r z = refl

-- where no requirement is refuted, the test says so, and the reverse
pub never_refuted : (c : Search) (b : Box) → ((j p : ℕ) → IsRefuted c.model.requirements c.spans j p b → ⊥) → (j p : ℕ) → is_refuted_at c j p b ≡ false
never_refuted c b h j p = false_from_ne_true (is_refuted_at c j p b) (λ e. h j p (to_refuted c j p b e))

at_last_or_inner : (p n : ℕ) → 1 ≤ p → p ≤ n → (p ≡ n) ⊎ (p ≤ n - 1)
at_last_or_inner p n a b = ⊎_elim (λ e. inl e) (λ l. inr (omega (arith, l))) (eq-or-lt_of_le b)

-- a test that holds nowhere at the last cell and below it holds nowhere
pub nowhere : (c : Search) (b : Box) (q : ℕ → Bool) → IsPart b c.model.cells → ((p : ℕ) → q p ≡ true → HasCell p b) → q (last c) ≡ false →
    ((p : ℕ) → 1 ≤ p → p ≤ inner c → q p ≡ false) → (p : ℕ) → q p ≡ false
nowhere c b q i at end below p = false_from_ne_true (q p) (λ e. go e (at p e))
  where
    go : q p ≡ true → HasCell p b → ⊥
    go e cell =
        let n = part_length c b i in
        ⊎_elim (λ z. clash (q p) e (subst (λ y. q y ≡ false) (sym z) end)) (λ l. clash (q p) e (below p cell.0 l))
        (at_last_or_inner p (last c) cell.0 (omega (arith, n, cell.1)))

-- where the objective is below what is known there is a cell
pub cut_cell : (c : Contest) (bar : Option Bar) (b : Box) (p : ℕ) → cut_by c bar p b ≡ true → HasCell p b
cut_cell c None b p e = absurd (let k : ◌≡◌ {A = Bool} false true = e in cc)
cut_cell c (Some bar) b p e = (to_cut c p b bar e).usable.cell

-- no requirement is refuted, from what the two `no` lines ask
pub free_of_no : (c : Search) (b : Box) → IsPart b c.model.cells → refuted_last c b ≡ None → first_no c b (requirements c) 1 ≡ None →
    (j p : ℕ) → IsRefuted c.model.requirements c.spans j p b → ⊥
free_of_no c b i end below j p r =
    let t = from_refuted c j p b r in
    let within = slice_get_within c.model.requirements (j - 1) r.require r.is.1 in
    let many : j ≤ requirements c = (let a = r.is.0 in omega (arith, within, a)) in
    let n = part_length c b i in
    ⊎_elim
    (λ z. clash (is_refuted_at c j p b) t (subst (λ y. is_refuted_at c j y b ≡ false) (sym z)
    (none_least (λ k. is_refuted_at c k (last c) b) (requirements c) 1 end j r.is.0 (omega (arith, many)))))
    (λ l. clash (is_refuted_at c j p b) t (first_no_none c b (requirements c) 1 below j p r.is.0 (omega (arith, many)) r.usable.cell.0 l))
    (at_last_or_inner p (last c) r.usable.cell.0 (omega (arith, n, r.usable.cell.1)))

module _ (c : Contest) (f : Option Find) (b : Box) where
  abbrev inner_part : Option TreeLine
  inner_part = or_later (first_no c.search b (requirements c.search) 1) (inner_reason (TheBest c f) b)

  bar_is : (p : ℕ) → cut_by c (bar_of (kept c f c.warm) c.warm) p b ≡ below (TheBest c f) p b
  bar_is p = sym (one_bar c p b f c.warm)

  wide_is : (k : ℕ) (t : ℤ) → wide_line (TheBest c (kept c f c.warm)) b k t ≡ unwrap_or inner_part (branch_line c.search b k t)
  wide_is k t =
      ap (λ o. unwrap_or (first_no c.search b (requirements c.search) 1) (unwrap_or (option_map (λ p. Worse p) o) (branch_line c.search b k t)))
      (least_same (λ p. cut_by c (bar_of (kept c f c.warm) c.warm) p b) (λ p. below (TheBest c f) p b) bar_is (inner c.search) 1)
      ∙ or_unwrap (first_no c.search b (requirements c.search) 1) (inner_reason (TheBest c f) b) (branch_line c.search b k t)

  form_is : (g : Form) → form_line (TheBest c (kept c f c.warm)) b g ≡ unwrap_or (or_later (last_worse (TheBest c f) b g) inner_part) (branch_at c.search b g)
  form_is (Alone x) = refl
  form_is (Wide k t) =
      ap (λ z. cond z (Worse (last c.search)) (wide_line (TheBest c (kept c f c.warm)) b k t)) (bar_is (last c.search))
      ∙ (elim (below (TheBest c f) (last c.search) b) as (λ z. cond z (Worse (last c.search)) (wide_line (TheBest c (kept c f c.warm)) b k t) ≡
      unwrap_or (or_later (worse_line (last c.search) z) inner_part) (branch_line c.search b k t)) [
        | true ↦ refl
        | false ↦ wide_is k t
      ])

  line_is : line_of (TheBest c (kept c f c.warm)) b ≡ unwrap_or (first_reason (TheBest c f) b) (branch_at c.search b (form b))
  line_is =
      let o = option_map (λ j. No j (last c.search)) (refuted_last c.search b) in
      let r = or_later (last_worse (TheBest c f) b (form b)) inner_part in
      ap (λ z. unwrap_or o z) (form_is (form b)) ∙ or_unwrap o r (branch_at c.search b (form b))

  -- no reason on a box that is free and has two series
  no_reason : (k : ℕ) (t : ℤ) → form b ≡ Wide k t → IsFree (TheBest c f) b → first_reason (TheBest c f) b ≡ None
  no_reason k t w h =
      let never = never_refuted c.search b h.refuted in
      let end = least_none (λ j. is_refuted_at c.search j (last c.search) b) (requirements c.search) 1 (λ j i m. never j (last c.search)) in
      let below_end = h.above (last c.search) in
      let inside = none_first_no c.search b (requirements c.search) 1 never in
      let worse = least_none (λ p. below (TheBest c f) p b) (inner c.search) 1 (λ p i m. h.above p) in
      ap (λ o. or_later (option_map (λ j. No j (last c.search)) o) (or_later (last_worse (TheBest c f) b (form b)) inner_part)) end
      ∙ ap (λ g. or_later (last_worse (TheBest c f) b g) inner_part) w
      ∙ ap (λ z. or_later (worse_line (last c.search) z) inner_part) below_end
      ∙ ap (λ o. or_later o (inner_reason (TheBest c f) b)) inside
      ∙ ap (λ o. option_map (λ p. Worse p) o) worse

  -- a lean line is the box's line
  pub lean_fixes : (h : Head) (y : ℕ) (l : TreeLine) → IsPart b c.search.model.cells → h.aim ≡ BestOf c.goal → IsChecked l →
      KeepsRule c.search.model c.search.spans h y b l →
      IsLeanLine (TheBest c f) b l → l ≡ line_of (TheBest c (kept c f c.warm)) b
  lean_fixes h y (Split k t) i a ch r n =
      sym (line_is
      ∙ ap (λ o. unwrap_or o (branch_at c.search b (form b))) (no_reason k t n.2 n.0)
      ∙ ap (λ g. branch_at c.search b g) n.2
      ∙ ap (λ o. unwrap_or (option_map removal_line o) (Split k t)) n.1)
  lean_fixes h y (Remove k v j) i a ch r n = sym (line_is ∙ go (form b) refl)
    where
      go : (g : Form) → form b ≡ g → unwrap_or (first_reason (TheBest c f) b) (branch_at c.search b (form b)) ≡ Remove k v j
      go (Alone x) w = absurd (drop_not_alone c.search.model c.search.spans k v j b x i r w)
      go (Wide first t) w =
          ap (λ o. unwrap_or o (branch_at c.search b (form b))) (no_reason first t w n.0)
          ∙ ap (λ g. branch_at c.search b g) w
          ∙ ap (λ o. unwrap_or (option_map removal_line o) (Split first t)) n.1
  lean_fixes h y (No j p) i a ch r n = sym (line_is ∙ ap (λ o. unwrap_or o (branch_at c.search b (form b))) n)
  lean_fixes h y (Worse p) i a ch r n = sym (line_is ∙ ap (λ o. unwrap_or o (branch_at c.search b (form b))) n)
  lean_fixes h y Yes i a ch r n = absurd (subst (λ z. IsListing z) a r.listing)
  lean_fixes h y Unsearched i a ch r n = absurd ch

abbrev pub IsReason : TreeLine → Type 0
IsReason (Split k t) = ⊥
IsReason (Remove k v j) = ⊥
IsReason (No j p) = Unit {0}
IsReason (Worse p) = Unit {0}
IsReason Yes = ⊥
IsReason Unsearched = ⊥

abbrev pub GivesReason : Option TreeLine → Type 0
GivesReason None = Unit {0}
GivesReason (Some l) = IsReason l

pub reason_later : (o r : Option TreeLine) → GivesReason o → GivesReason r → GivesReason (or_later o r)
reason_later None r g h = h
reason_later (Some l) r g h = g

pub reason_no : (o : Option ℕ) (end : ℕ) → GivesReason (option_map (λ j. No j end) o)
reason_no None end = tt
reason_no (Some j) end = tt

reason_worse : (o : Option ℕ) → GivesReason (option_map (λ p. Worse p) o)
reason_worse None = tt
reason_worse (Some p) = tt

pub reason_first_no : (c : Search) (b : Box) (n j : ℕ) → GivesReason (first_no c b n j)
reason_first_no c b zero j = tt
reason_first_no c b (suc n) j = go (least (λ p. is_refuted_at c j p b) (inner c) 1) (first_no c b n (suc j)) (reason_first_no c b n (suc j))
  where
    go : (o : Option ℕ) (r : Option TreeLine) → GivesReason r → GivesReason (no_line j o r)
    go None r h = h
    go (Some p) r h = tt

reason_end : (c : Contest) (f : Option Find) (b : Box) (g : Form) → GivesReason (last_worse (TheBest c f) b g)
reason_end c f b (Alone x) = tt
reason_end c f b (Wide k t) =
    elim (below (TheBest c f) (last c.search) b) as (λ z. GivesReason (worse_line (last c.search) z)) [ true ↦ tt | false ↦ tt ]

worse_none : (p : ℕ) (t : Bool) → worse_line p t ≡ None → t ≡ false
worse_none p true e = absurd (let k : ◌≡◌ {A = Option TreeLine} (Some (Worse p)) None = e in cc)
worse_none p false e = refl

pub by_reason : (q : Sought) (b : Box) (l : TreeLine) → IsReason l → first_reason q b ≡ Some l → IsLeanLine q b l
by_reason q b (Split k t) r e = absurd r
by_reason q b (Remove k v j) r e = absurd r
by_reason q b (No j p) r e = e
by_reason q b (Worse p) r e = e
by_reason q b Yes r e = absurd r
by_reason q b Unsearched r e = absurd r

pub branch_lean : (q : Sought) (b : Box) (k : ℕ) (t : ℤ) → form b ≡ Wide k t → IsFree q b → (o : Option Removal) →
    next_drop (search_in q).model (search_in q).spans b ≡ o → IsLeanLine q b (unwrap_or (option_map removal_line o) (Split k t))
branch_lean q b k t w h None e = (h, e, w)
branch_lean q b k t w h (Some r) e = (h, e)

module _ (c : Contest) (f : Option Find) (b : Box) (i : IsPart b c.search.model.cells) where
  abbrev no_last : Option TreeLine
  no_last = option_map (λ j. No j (last c.search)) (refuted_last c.search b)

  abbrev inner_lines : Option TreeLine
  inner_lines = or_later (first_no c.search b (requirements c.search) 1) (inner_reason (TheBest c f) b)

  gives_reason : GivesReason (first_reason (TheBest c f) b)
  gives_reason =
      reason_later no_last (or_later (last_worse (TheBest c f) b (form b)) inner_lines) (reason_no (refuted_last c.search b) (last c.search))
      (reason_later (last_worse (TheBest c f) b (form b)) inner_lines (reason_end c f b (form b))
      (reason_later (first_no c.search b (requirements c.search) 1) (inner_reason (TheBest c f) b) (reason_first_no c.search b (requirements c.search) 1)
      (reason_worse (least (λ p. below (TheBest c f) p b) (inner c.search) 1))))

  below_cell : (p : ℕ) → below (TheBest c f) p b ≡ true → HasCell p b
  below_cell p e = cut_cell c (bar_of (kept c f c.warm) c.warm) b p (sym (one_bar c p b f c.warm) ∙ e)

  free_if_none : (k : ℕ) (t : ℤ) → form b ≡ Wide k t → first_reason (TheBest c f) b ≡ None → IsFree (TheBest c f) b
  free_if_none k t w q =
      let a = or_none no_last (or_later (last_worse (TheBest c f) b (form b)) inner_lines) q in
      let d = or_none (last_worse (TheBest c f) b (form b)) inner_lines a.1 in
      let g = or_none (first_no c.search b (requirements c.search) 1) (inner_reason (TheBest c f) b) d.1 in
      let end = map_none (λ j. No j (last c.search)) (refuted_last c.search b) a.0 in
      let below_end =
      worse_none (last c.search) (below (TheBest c f) (last c.search) b) (subst (λ z. last_worse (TheBest c f) b z ≡ None) w d.0) in
      let worse = none_least (λ p. below (TheBest c f) p b) (inner c.search) 1
      (map_none (λ p. Worse p) (least (λ p. below (TheBest c f) p b) (inner c.search) 1) g.1) in
      record {
        refuted = free_of_no c.search b i end g.0;
        above = λ p. nowhere c.search b (λ p. below (TheBest c f) p b) i below_cell below_end (λ p o m. worse p o (omega (arith, m))) p;
      }

  -- the box's line is lean
  pub lean_has : IsLeanLine (TheBest c f) b (line_of (TheBest c (kept c f c.warm)) b)
  lean_has = subst (λ z. IsLeanLine (TheBest c f) b z) (sym (line_is c f b)) (go (first_reason (TheBest c f) b) refl gives_reason)
    where
      wide : (g : Form) → form b ≡ g → first_reason (TheBest c f) b ≡ None → IsLeanLine (TheBest c f) b (branch_at c.search b g)
      wide (Alone x) w q =
          absurd (let a = or_none no_last (or_later (last_worse (TheBest c f) b (form b)) inner_lines) q in
          let d = or_none (last_worse (TheBest c f) b (form b)) inner_lines a.1 in
          let k : ◌≡◌ {A = Option TreeLine} (Some (Worse (last c.search))) None = subst (λ z. last_worse (TheBest c f) b z ≡ None) w d.0 in cc)
      wide (Wide k t) w q =
          branch_lean (TheBest c f) b k t w (free_if_none k t w q) (next_drop c.search.model c.search.spans b) refl

      go : (o : Option TreeLine) → first_reason (TheBest c f) b ≡ o → GivesReason o → IsLeanLine (TheBest c f) b (unwrap_or o (branch_at c.search b (form b)))
      go None q r = wide (form b) refl q
      go (Some l) q r = by_reason (TheBest c f) b l r q

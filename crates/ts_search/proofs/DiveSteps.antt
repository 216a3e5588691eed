-- The steps of the dive in code: a drop more, all drops, a value kept, the early end and the end.
use Rattle.std.proofs.Common.{◌≡◌, ℕ, zero, suc, ◌+◌, ◌-◌, ◌<◌, ◌≤◌, ℤ, pos, negsuc, ◌-ℤ◌, ◌<ℤ◌, w64, to_z, of_z, Bool, true, false, cond, List, [], ◌∷◌, length, set, Option, Some, None, option_map, unwrap_or, refl, sym, ◌∙◌, ap, subst, ⊎_elim, arith}
use Rattle.std.proofs.lemmas.Int.{ints, to_z-of_z}
use Rattle.std.proofs.lemmas.List.{get_or-set_same, set-set}
use Rattle.std.proofs.lemmas.List.Sums.{sum_by-set}
use mir.Val.{SFits}
use Rattle.std.specs.Prelude.{Contains, is_some, int_le, int_lt, neg_ℤ, not, ◌≤ℤ◌}
use Rattle.ts_base.specs.Limits.{IsCellValue}
use Rattle.ts_base.specs.declared.ext.Ext.{Ext}
use Rattle.ts_base.specs.declared.goal.Goal.{Goal}
use Rattle.ts_domain.specs.BoxSeries.{IsBox}
use Rattle.ts_domain.specs.Kept.{values_up_to, values_above, values_without}
use Rattle.ts_domain.specs.Values.{IsRising}
use Rattle.ts_domain.proofs.BoxLaws.{contains_up_to, length-without, some_stay}
use Rattle.ts_domain.proofs.Sets.{contains_cons, each_contains, filter_none, nothing_in, le_true, le_false}
use Rattle.ts_model.specs.Judgement.{all_hold, holdings, insides, is_met}
use Rattle.ts_model.specs.Meets.{values_on}
use Rattle.ts_model.specs.ModelParts.{ModelParts, total_of}
use Rattle.ts_filter.specs.Boxes.{Box, HasCell, values_at, low_side, high_side, only, without, IsPart}
use Rattle.ts_filter.specs.Laws.{IsSound}
use Rattle.ts_filter.specs.RefutedWorseDrop.{Spans, IsRefuted, IsDrop}
use Rattle.ts_filter.proofs.BoxParts.{place, domain_at, inside_length, others_stay, part_self}
use Rattle.ts_search.specs.Dive.{Find, find, value_of, kept_value, keep_from, dive_end, dive}
use Rattle.ts_filter.specs.declared.drops.Removal.{Removal}
use Rattle.ts_search.specs.Drops.{next_drop, drops, after_drops}
use Rattle.ts_frontier.specs.Forms.{Alone, Wide, form}
use Rattle.ts_search.specs.LineOf.{Search, last, is_refuted_at, refuted_last, requirements}
use Rattle.ts_search.specs.Views.{IsSettled}
use Rattle.ts_search.proofs.Choice.{drop_fits, DropFits, least_fits, LeastFits}
use Rattle.ts_search.proofs.DiveLaws.{keep_inside, kept_in, kept_part, none_inside}
use Rattle.ts_search.proofs.DropLaws.{drop_part, dropped_part}
use Rattle.ts_search.proofs.Known.{to_refuted}

-- drops

module _ (m : ModelParts) (s : Spans) where
  -- a drop takes one value
  one_less : (k : ℕ) (v : ℤ) (j : ℕ) (b : Box) → IsBox b → IsDrop m.requirements s k v j b → total_of (without k v b) + 1 ≡ total_of b
  one_less k v j b i d =
      let values = values_at k b in
      omega (
        arith,
        sum_by-set (length {A = ℤ}) b (k - 1) (values_without v values) [] (place k b d.cell),
        length-without v values (domain_at b (k - 1) i (place k b d.cell)).rising d.there,
      )

  pub is_next : (b : Box) (r : Removal) → next_drop m s b ≡ Some r → IsDrop m.requirements s r.cell r.value r.require b
  is_next b r e = subst (λ o. DropFits m s b o) e (drop_fits m s b)

  -- where no drop is possible, none is made
  drops_stop : (n : ℕ) (b : Box) → next_drop m s b ≡ None → drops m s n b ≡ b
  drops_stop zero b e = refl
  drops_stop (suc n) b e = ap (λ o. unwrap_or (option_map (λ r. drops m s n (without r.cell r.value b)) o) b) e

  pub none_more : (b : Box) → next_drop m s b ≡ None → after_drops m s b ≡ b
  none_more b e = drops_stop (total_of b) b e

  -- after the next drop the same drops are left
  pub one_more : (b : Box) (r : Removal) → IsBox b → next_drop m s b ≡ Some r → after_drops m s (without r.cell r.value b) ≡ after_drops m s b
  one_more b r box e =
      let left = without r.cell r.value b in
      let less : total_of b ≡ suc (total_of left) = omega (arith, one_less r.cell r.value r.require b box (is_next b r e)) in
      ap (λ o. unwrap_or (option_map (λ (r : Removal). drops m s (total_of left) (without r.cell r.value b)) o) b) (sym e)
      ∙ ap (λ n. drops m s n b) (sym less)

  -- what `remove` asks, and what the loop keeps
  pub removal_cell : (b : Box) (r : Removal) → next_drop m s b ≡ Some r → HasCell r.cell b
  removal_cell b r e = (is_next b r e).cell

  pub removal_stays : (b : Box) (r : Removal) → IsBox b → next_drop m s b ≡ Some r → values_without r.value (values_at r.cell b) ≡ [] → ⊥
  removal_stays b r box e = let d = is_next b r e in others_stay r.cell r.value b box d.cell d.many d.there

  pub removal_part : (all b : Box) (r : Removal) → IsPart b all → next_drop m s b ≡ Some r → IsPart (without r.cell r.value b) all
  removal_part all b r i e = drop_part m s r.cell r.value r.require b all i (is_next b r e)

  pub removal_less : (b : Box) (r : Removal) → IsBox b → next_drop m s b ≡ Some r → total_of (without r.cell r.value b) < total_of b
  removal_less b r box e = omega (arith, one_less r.cell r.value r.require b box (is_next b r e))

-- the code found a requirement that is refuted at the last cell
pub refuted_some : (c : Search) (b : Box) (o : Option ℕ) → o ≡ refuted_last c b → (none : Bool) → is_some o ≡ not none → none ≡ false →
    (j p : ℕ) × IsRefuted c.model.requirements c.spans j p b
refuted_some c b None is none told fails = absurd (let e : ◌≡◌ {A = Bool} false true = told ∙ ap not fails in cc)
refuted_some c b (Some j) is none told fails =
    let first = subst (LeastFits (λ j. is_refuted_at c j (last c) b) (requirements c) 1) (sym is)
    (least_fits (λ j. is_refuted_at c j (last c) b) (requirements c) 1) in
    (j, last c, to_refuted c j (last c) b first.holds)

-- all drops were made
pub settled_all : (c : Search) (before after : Box) → IsSettled c before after true → after ≡ after_drops c.model c.spans before
settled_all c before after h = sym (none_more c.model c.spans after h.settled) ∙ h.same

pub settled_part : (c : Search) (before after : Box) (all : Bool) → IsSettled c before after all → IsPart after c.model.cells
settled_part c before after all h = h.part

-- the number of cells of a box inside the model's
pub end_is : (c : Search) (b : Box) (n : ℕ) → IsPart b c.model.cells → n ≡ length b → n ≡ length c.model.cells
end_is c b n i is = is ∙ inside_length b c.model.cells i.inside

-- a cell that the loop over the cells comes to
pub cell_there : (c : Search) (b : Box) (k end : ℕ) → IsPart b c.model.cells → 1 ≤ k → k < end + 1 → end ≡ length c.model.cells → HasCell k b
cell_there c b k end i from below is = let long = inside_length b c.model.cells i.inside in (from, omega (arith, long, below, is))

pub within_cells : (k end n : ℕ) → k < end + 1 → end ≡ n → k < n + 1
within_cells k end n below is = omega (arith, below, is)

-- a requirement is refuted: no series that is left meets

module _ (m : ModelParts) (s : Spans) (goal : Goal) (sound : IsSound m s) where
  refuted_end : (j p : ℕ) (b : Box) → IsPart b m.cells → IsRefuted m.requirements s j p b → (n k : ℕ) → 1 ≤ k → k + n ≤ length m.cells + 1 →
      dive_end m (form (keep_from m s goal n k (after_drops m s b))) ≡ None
  refuted_end j p b i r n k f l =
      none_inside m s goal sound j p b (keep_from m s goal n k (after_drops m s b)) i r
      (keep_inside m s goal b n k (after_drops m s b) f (omega (arith, l, inside_length b m.cells i.inside)) (dropped_part m s b b (part_self b i.box)))

pub settled_early : (c : Search) (goal : Goal) → IsSound c.model c.spans → (before after : Box) (n k : ℕ) → 1 ≤ k → k + n ≤ length c.model.cells + 1 →
    IsSettled c before after false → None ≡ dive_end c.model (form (keep_from c.model c.spans goal n k (after_drops c.model c.spans before)))
settled_early c goal sound before after n k f l h =
    sym (refuted_end c.model c.spans goal sound h.settled.0 h.settled.1 after h.part h.settled.2 n k f l)
    ∙ ap (λ d. dive_end c.model (form (keep_from c.model c.spans goal n k d))) h.same

-- the value that is kept: those up to it, and of these those above the number below it

up_to_first : (v : ℤ) (d : List ℤ) → ((u : ℤ) → Contains d u → v <ℤ u) → values_up_to v d ≡ []
up_to_first v d f = filter_none (λ u. int_le u v) d (λ u h. le_false u v (f u h))

below_gone : (v : ℤ) → int_lt (v -ℤ pos 1) v ≡ true
below_gone v = grind (arith, ints)

before_gone : (v w : ℤ) → w <ℤ v → int_lt (v -ℤ pos 1) w ≡ false
before_gone v w l = grind (arith, ints)

pub kept_alone : (v : ℤ) (d : List ℤ) → IsRising d → Contains d v → values_above (v -ℤ pos 1) (values_up_to v d) ≡ v ∷ []
unfolding IsRising
kept_alone v [] r h = absurd (nothing_in v h)
kept_alone v (w ∷ d) r h = ⊎_elim here (λ a. later a (kept_alone v d r.1 a)) ((contains_cons w d v).0 h)
  where
    above : ℤ → List ℤ → List ℤ
    above v xs = values_above (v -ℤ pos 1) xs

    here : w ≡ v → values_above (v -ℤ pos 1) (values_up_to v (w ∷ d)) ≡ v ∷ []
    here e =
        let none : values_up_to v d ≡ [] = up_to_first v d (λ u a. subst (λ z. z <ℤ u) e (each_contains (λ y. w <ℤ y) d u r.0 a)) in
        ap (λ z. above v (values_up_to v (z ∷ d))) e
        ∙ ap (λ t. above v (cond t (v ∷ values_up_to v d) (values_up_to v d))) (le_true v v (omega (arith, ints)))
        ∙ ap (λ xs. above v (v ∷ xs)) none
        ∙ ap (λ t. cond t (v ∷ []) []) (below_gone v)

    later : Contains d v → values_above (v -ℤ pos 1) (values_up_to v d) ≡ v ∷ [] → values_above (v -ℤ pos 1) (values_up_to v (w ∷ d)) ≡ v ∷ []
    later a rest =
        let less : w <ℤ v = each_contains (λ y. w <ℤ y) d v r.0 a in
        ap (λ t. above v (cond t (w ∷ values_up_to v d) (values_up_to v d))) (le_true w v (omega (arith, ints, less)))
        ∙ ap (λ t. cond t (w ∷ above v (values_up_to v d)) (above v (values_up_to v d))) (before_gone v w less)
        ∙ rest

-- what both changes of a cell to one value ask
pub low_stays : (v : ℤ) (d : List ℤ) → Contains d v → values_up_to v d ≡ [] → ⊥
low_stays v d there none = some_stay (values_up_to v d) v ((contains_up_to v d v).1 (there, (omega (arith, ints)))) none

pub high_stays : (v : ℤ) (d low : List ℤ) → IsRising d → Contains d v → low ≡ values_up_to v d → values_above (v -ℤ pos 1) low ≡ [] → ⊥
high_stays v d low r there is none = absurd (let e : v ∷ [] ≡ [] = sym (kept_alone v d r there) ∙ ap (values_above (v -ℤ pos 1)) (sym is) ∙ none in cc)

-- a number beside a value of a cell fits the machine's 64 bits
larger_fits : (z : ℤ) → neg_ℤ (pos 1000001) ≤ℤ z → z ≤ℤ pos 1000001 → SFits w64 z
larger_fits (pos n) from to = record { sfits = omega (arith, ints, from, to) }
larger_fits (negsuc n) from to = record { sfits = omega (arith, ints, from, to) }

pub kept_is : (v : ℤ) → IsCellValue v → to_z w64 (of_z w64 v) ≡ v
kept_is v h = let from = h.0 in let to = h.1 in to_z-of_z w64 v (larger_fits v (omega (arith, ints, from)) (omega (arith, ints, to)))

below_fits : (v : ℤ) → IsCellValue v → SFits w64 (v -ℤ pos 1)
below_fits v h = let from = h.0 in let to = h.1 in larger_fits (v -ℤ pos 1) (omega (arith, ints, from)) (omega (arith, ints, to))

pub sub_fits : (v : ℤ) → IsCellValue v → SFits w64 (to_z w64 (of_z w64 v) -ℤ pos 1)
sub_fits v h = subst (λ z. SFits w64 (z -ℤ pos 1)) (sym (kept_is v h)) (below_fits v h)

pub below_is : (v : ℤ) → IsCellValue v → to_z w64 (of_z w64 (to_z w64 (of_z w64 v) -ℤ pos 1)) ≡ v -ℤ pos 1
below_is v h = ap (λ z. to_z w64 (of_z w64 (z -ℤ pos 1))) (kept_is v h) ∙ to_z-of_z w64 (v -ℤ pos 1) (below_fits v h)

pub kept_value_within : (b : Box) (k : ℕ) (v : ℤ) → IsBox b → HasCell k b → Contains (values_at k b) v → IsCellValue v
kept_value_within b k v box cell there = each_contains IsCellValue (values_at k b) v (domain_at b (k - 1) box (place k b cell)).within there

pub kept_there : (c : Search) (goal : Goal) (k : ℕ) (b : Box) (v : ℤ) → IsPart b c.model.cells → HasCell k b → v ≡ kept_value c.model c.spans goal k b →
    Contains (values_at k b) v
kept_there c goal k b v i cell is = subst (Contains (values_at k b)) (sym is) (kept_in c.model c.spans goal k b i cell)

pub kept_inside : (c : Search) (goal : Goal) (k : ℕ) (b one : Box) → IsPart b c.model.cells → HasCell k b →
    one ≡ only k (kept_value c.model c.spans goal k b) b → IsPart one c.model.cells
kept_inside c goal k b one i cell is = subst (λ z. IsPart z c.model.cells) (sym is) (kept_part c.model c.spans goal k b i cell)

-- the box after both changes of its cell
pub kept_box : (k : ℕ) (v : ℤ) (b low high : Box) → IsBox b → HasCell k b → Contains (values_at k b) v → low ≡ low_side k v b →
    high ≡ high_side k (v -ℤ pos 1) low → high ≡ only k v b
kept_box k v b low high box cell there is_low is_high =
    let d = values_at k b in
    is_high
    ∙ ap (λ z. high_side k (v -ℤ pos 1) z) is_low
    ∙ ap (λ e. set (set b (k - 1) (values_up_to v d)) (k - 1) (values_above (v -ℤ pos 1) e))
    (get_or-set_same b (k - 1) (values_up_to v d) [] (place k b cell))
    ∙ set-set b (k - 1) (values_up_to v d) (values_above (v -ℤ pos 1) (values_up_to v d))
    ∙ ap (set b (k - 1)) (kept_alone v d (domain_at b (k - 1) box (place k b cell)).rising there)

-- the loop over the cells

module _ (m : ModelParts) (s : Spans) (goal : Goal) where
  -- n cells are still to be kept, from k on
  abbrev pub EndsAs : ℕ → ℕ → Box → Option Find → Type 0
  EndsAs n k b z = dive_end m (form (keep_from m s goal n k b)) ≡ z

  pub ends_first : (b : Box) (n : ℕ) → b ≡ after_drops m s m.cells → n ≡ length m.cells → EndsAs (n + 1 - 1) 1 b (dive m s goal)
  ends_first b n is size =
      let same : n + 1 - 1 ≡ length m.cells = omega (arith, size) in
      ap (λ z. dive_end m (form (keep_from m s goal z 1 b))) same ∙ ap (λ z. dive_end m (form (keep_from m s goal (length m.cells) 1 z))) is

  pub ends_next : (b one after : Box) (n k : ℕ) (z : Option Find) → k < n + 1 → one ≡ only k (kept_value m s goal k b) b → after ≡ after_drops m s one →
      EndsAs (n + 1 - k) k b z → EndsAs (n + 1 - (k + 1)) (k + 1) after z
  ends_next b one after n k z below kept all h =
      let more : n + 1 - k ≡ suc (n + 1 - (k + 1)) = omega (arith, below) in
      let next : k + 1 ≡ suc k = omega arith in
      ap (λ i. dive_end m (form (keep_from m s goal (n + 1 - (k + 1)) i after))) next
      ∙ ap (λ d. dive_end m (form (keep_from m s goal (n + 1 - (k + 1)) (suc k) d))) (all ∙ ap (after_drops m s) kept)
      ∙ ap (λ i. dive_end m (form (keep_from m s goal i k b))) (sym more) ∙ h

  pub ends_now : (b : Box) (n k : ℕ) (z f : Option Find) → n + 1 ≤ k → EndsAs (n + 1 - k) k b z → f ≡ dive_end m (form b) → f ≡ z
  ends_now b n k z f above h is =
      let none : 0 ≡ n + 1 - k = omega (arith, above) in is ∙ ap (λ i. dive_end m (form (keep_from m s goal i k b))) none ∙ h

  -- a requirement is refuted after cell k has kept its value
  pub ends_early : (b one : Box) (n k : ℕ) (z : Option Find) → k < n + 1 → one ≡ only k (kept_value m s goal k b) b → EndsAs (n + 1 - k) k b z →
      None ≡ dive_end m (form (keep_from m s goal (n + 1 - (k + 1)) (suc k) (after_drops m s one))) → None ≡ z
  ends_early b one n k z below kept h none =
      let more : n + 1 - k ≡ suc (n + 1 - (k + 1)) = omega (arith, below) in
      none
      ∙ ap (λ d. dive_end m (form (keep_from m s goal (n + 1 - (k + 1)) (suc k) (after_drops m s d)))) kept
      ∙ ap (λ i. dive_end m (form (keep_from m s goal i k b))) (sym more) ∙ h

-- the series that is left

-- the judgement's lists decide whether it meets
pub met_is : (m : ModelParts) (x y : List ℤ) (inside holding : List Bool) (t : Bool) → y ≡ x → t ≡ all_hold inside holding → inside ≡ insides m.cells y →
    holding ≡ holdings (values_on m y) m.requirements → t ≡ is_met m x
met_is m x y inside holding t same told inside_is holding_is = told ∙ (λ i. all_hold (inside_is i) (holding_is i)) ∙ ap (is_met m) same

module _ (m : ModelParts) (b : Box) where
  pub left_wide : (k : ℕ) (t : ℤ) → form b ≡ Wide k t → None ≡ dive_end m (form b)
  left_wide k t wide = ap (dive_end m) (sym wide)

  pub left_fails : (x : List ℤ) (t : Bool) → form b ≡ Alone x → t ≡ is_met m x → t ≡ false → None ≡ dive_end m (form b)
  left_fails x t alone is fails = ap (λ z. cond z (Some (find m x)) None) (sym fails ∙ is) ∙ ap (dive_end m) (sym alone)

  pub left_meets : (x : List ℤ) (t : Bool) (v : Ext) → form b ≡ Alone x → t ≡ is_met m x → t ≡ true → v ≡ value_of m x →
      let f : Find = record { series = x; value = v } in Some f ≡ dive_end m (form b)
  left_meets x t v alone is holds value =
      ap (λ (z : Ext). Some (record { series = x; value = z })) value ∙ ap (λ z. cond z (Some (find m x)) None) (sym holds ∙ is) ∙ ap (dive_end m) (sym alone)

-- The lines of a tree for the model's box are in the ranges of the grammar.
use Rattle.std.proofs.Common.{◌≡◌, ℕ, ◌-◌, ◌<◌, ◌≤◌, ℤ, neg_ℤ, ◌≤ℤ◌, ◌<ℤ◌, true, List, [], ◌∷◌, ◌++◌, length, Option, Some, None, MatchOption, refl, inl, ◌&&◌, arith}
use Rattle.std.proofs.lemmas.Bool.{and_from}
use Rattle.std.proofs.lemmas.Int.{ints}
use Rattle.std.proofs.lemmas.Option.{slice_get_within}
use Rattle.std.specs.Prelude.{Contains}
use Rattle.std.specs.List.{AllByRecursion, list_all}
use Rattle.ts_base.specs.declared.ext.Ext.{Ext}
use Rattle.ts_base.specs.Limits.{most_cells, most_requirements, greatest_value}
use Rattle.ts_certificate.specs.declared.certificate.Aim.{Aim}
use Rattle.ts_certificate.specs.declared.certificate.Aim.TheVariants.{Best as BestOf, List as ListOf}
use Rattle.ts_certificate.specs.declared.certificate.TreeLine.{TreeLine}
use Rattle.ts_certificate.specs.declared.certificate.TreeLine.TheVariants.{Split, Remove, No, Worse, Yes, Unsearched}
use Rattle.ts_certificate.specs.Ranges.{is_value, is_cell, is_requirement}
use Rattle.ts_certificate.specs.TreeLines.{is_tree_line}
use Rattle.ts_domain.specs.Kept.{values_up_to, values_above}
use Rattle.ts_domain.specs.Values.{IsDomain, WithinLimits}
use Rattle.ts_domain.proofs.Sets.{contains_cons, each_contains}
use Rattle.ts_domain.proofs.BoxLaws.{contains_up_to, contains_above}
use Rattle.ts_model.specs.declared.model.Require.{Require}
use Rattle.ts_model.specs.ModelParts.{ModelParts}
use Rattle.ts_filter.specs.Boxes.{Box, HasCell, values_at, IsPart}
use Rattle.ts_filter.specs.Laws.{LinesInRange}
use Rattle.ts_filter.specs.RefutedWorseDrop.{Spans, IsRequirement}
use Rattle.ts_filter.specs.Rules.{Head, IsWorseFor, claimed_value, KeepsRule}
use Rattle.ts_filter.specs.Steps.{made_by, Steps}
use Rattle.ts_filter.specs.Tree.{reported_by}
use Rattle.ts_filter.proofs.BoxParts.{place, domain_at, inside_length, part_self}
use Rattle.ts_filter.proofs.TreeLaws.{parts_made}

cell_range : (k n : ℕ) → 1 ≤ k → k ≤ n → n ≤ most_cells → is_cell k ≡ true
cell_range k n a b c = grind arith

requirement_range : (j n : ℕ) → 1 ≤ j → j - 1 < n → n ≤ most_requirements → is_requirement j ≡ true
requirement_range j n a b c = grind arith

value_range : (v : ℤ) → neg_ℤ greatest_value ≤ℤ v → v ≤ℤ greatest_value → is_value v ≡ true
value_range v a b = grind (arith, ints)

between : (low t high : ℤ) → neg_ℤ greatest_value ≤ℤ low → low ≤ℤ t → t ≤ℤ high → high ≤ℤ greatest_value → is_value t ≡ true
between low t high a b c d = grind (arith, ints)

first_of : (d : List ℤ) → (d ≡ [] → ⊥) → (v : ℤ) × Contains d v
first_of [] some = absurd (some refl)
first_of (v ∷ d) some = (v, (contains_cons v d v).1 (inl refl))

within_limits : (d : List ℤ) (v : ℤ) → IsDomain d → Contains d v → WithinLimits v
within_limits d v h c = each_contains WithinLimits d v h.within c

module _ (m : ModelParts) (s : Spans) (h : Head) (few : length m.cells ≤ most_cells) (short : length m.requirements ≤ most_requirements) where
  cell_in : (k : ℕ) (b : Box) → IsPart b m.cells → HasCell k b → is_cell k ≡ true
  cell_in k b i c = let n = inside_length b m.cells i.inside in cell_range k (length b) c.0 c.1 (omega arith)

  requirement_in : (j : ℕ) (r : Require) → IsRequirement m.requirements j r → is_requirement j ≡ true
  requirement_in j r i =
      requirement_range j (length m.requirements) i.0 (slice_get_within m.requirements (j - 1) r i.1) short

  worse_in : (a : Aim) (v : Ext) (p : ℕ) (b : Box) → IsPart b m.cells → IsWorseFor m s a v p b → is_cell p ≡ true
  worse_in (BestOf goal) v p b i f = cell_in p b i f.usable.cell
  worse_in (ListOf count) v p b i f = absurd f

  may_in : (o : Option Ext) (p : ℕ) (b : Box) → IsPart b m.cells → MatchOption o ⊥ (λ v. IsWorseFor m s h.aim v p b) → is_cell p ≡ true
  may_in None p b i f = absurd f
  may_in (Some v) p b i f = worse_in h.aim v p b i f

  line_in : (told : ℕ) (l : TreeLine) (b : Box) → IsPart b m.cells → KeepsRule m s h told b l → is_tree_line l ≡ true
  line_in told (Split k t) b i f =
      let d = values_at k b in
      let dom = domain_at b (k - 1) i.box (place k b f.cell) in
      let low = first_of (values_up_to t d) f.below in
      let high = first_of (values_above t d) f.above in
      let under = (contains_up_to t d low.0).0 low.1 in
      let over = (contains_above t d high.0).0 high.1 in
      and_from (is_cell k) (is_value t) (cell_in k b i f.cell)
      (between low.0 t high.0 (within_limits d low.0 dom under.0).0 under.1 (less t high.0 over.1) (within_limits d high.0 dom over.0).1)
    where
      less : (a b : ℤ) → a <ℤ b → a ≤ℤ b
      less a b l = omega (arith, ints, l)
  line_in told (Remove k v j) b i f =
      let dom = domain_at b (k - 1) i.box (place k b f.cell) in
      let w = within_limits (values_at k b) v dom f.there in
      and_from (is_cell k) (is_value v && is_requirement j) (cell_in k b i f.cell)
      (and_from (is_value v) (is_requirement j) (value_range v w.0 w.1) (requirement_in j f.refuted.require f.refuted.is))
  line_in told (No j p) b i f = and_from (is_requirement j) (is_cell p) (requirement_in j f.require f.is) (cell_in p b i f.usable.cell)
  line_in told (Worse p) b i f = may_in (claimed_value h.claim) p b i f
  line_in told Yes b i f = refl
  line_in told Unsearched b i f = refl

  lines_in : (ls : List TreeLine) (told : ℕ) (w left : List Box) (after : ℕ) → AllByRecursion (λ c. IsPart c m.cells) w →
      Steps m s h w told ls left after → list_all is_tree_line ls ≡ true
  lines_in [] told w left after e f = refl
  lines_in (l ∷ ls) told [] left after e f = absurd f
  lines_in (l ∷ ls) told (b ∷ w) left after e f =
      and_from (is_tree_line l) (list_all is_tree_line ls) (line_in told l b e.0 f.0)
      (lines_in ls (reported_by l told) (made_by l b ++ w) left after (parts_made m s h told l b w e f.0) f.1)

pub lines_in_range : LinesInRange
lines_in_range m s h ls w told i few short f = lines_in m s h few short ls 0 (m.cells ∷ []) w told (part_self m.cells i, tt) f

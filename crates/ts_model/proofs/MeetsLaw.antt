-- All that is judged of a series is so exactly where it meets what is stated.
use Rattle.std.proofs.Common.{◌≡◌, ℤ, Bool, true, List, [], ◌∷◌, length, refl, sym, ◌∙◌, subst, arith}
use Rattle.std.specs.Prelude.{◌↔◌, IsTrue, Option, Some, None}
use Rattle.std.specs.List.{AllByRecursion}
use Rattle.std.specs.Ordering.{int_eq}
use Rattle.std.proofs.lemmas.Bool.{and_from, and_parts}
use Rattle.std.proofs.lemmas.Cmp.{int_eq_equiv}
use Rattle.std.proofs.lemmas.Int.{ints}
use Rattle.std.proofs.lemmas.Map.Views.{list_any-from_Contains, Contains-from_any}
use Rattle.std.proofs.lemmas.Option.{same_Some}
use Rattle.ts_base.specs.declared.ext.Ext.{Ext}
use Rattle.ts_domain.specs.BoxSeries.{InBox}
use Rattle.ts_model.specs.declared.model.Require.{Require}
use Rattle.ts_model.specs.Compares.{compares}
use Rattle.ts_model.specs.Judgement.{all_hold, all_true, holdings, holds, holds_of, insides, is_among, is_met, JudgedIsMet}
use Rattle.ts_model.specs.Meets.{IsMet, Meets, value_at, values_on}
use Rattle.ts_model.specs.ModelParts.{ModelParts}

pub int_same : (x y : ℤ) → int_eq x y ≡ true → x ≡ y
int_same x y e = grind (arith, ints)

-- the cells

insides_box : (cells : List (List ℤ)) (xs : List ℤ) → length xs ≡ length cells → all_true (insides cells xs) ≡ true → InBox xs cells
insides_box [] [] n h = tt
insides_box [] (x ∷ xs) n h = absurd (grind (arith, n))
insides_box (d ∷ ds) [] n h = absurd (grind (arith, n))
insides_box (d ∷ ds) (x ∷ xs) n h =
    let p = and_parts (is_among d x) (all_true (insides ds xs)) h in
    (Contains-from_any int_same x d p.0, insides_box ds xs (omega (arith, n)) p.1)

box_insides : (cells : List (List ℤ)) (xs : List ℤ) → InBox xs cells → all_true (insides cells xs) ≡ true
box_insides [] [] b = refl
box_insides [] (x ∷ xs) b = absurd b
box_insides (d ∷ ds) [] b = absurd b
box_insides (d ∷ ds) (x ∷ xs) b =
    and_from (is_among d x) (all_true (insides ds xs)) (list_any-from_Contains int_eq_equiv x d b.0) (box_insides ds xs b.1)

-- the requirements
module _ (m : ModelParts) (xs : List ℤ) where
  met : (r : Require) (o : Option Ext) → value_at m xs r.term ≡ o → holds_of r o ≡ true → IsMet m xs r
  met r None e h = cc
  met r (Some v) e h = (v, e, h)

  held : (r : Require) (o : Option Ext) → value_at m xs r.term ≡ o → IsMet m xs r → holds_of r o ≡ true
  held r None e i = let there = i.1 in cc
  held r (Some v) e i = subst (λ (w : Ext). compares r.op r.bound w ≡ true) (same_Some i.0 v (sym i.1 ∙ e)) i.2

  all_met : (rs : List Require) → all_true (holdings (values_on m xs) rs) ≡ true → AllByRecursion (IsMet m xs) rs
  all_met [] h = tt
  all_met (r ∷ rs) h =
      let p = and_parts (holds (values_on m xs) r) (all_true (holdings (values_on m xs) rs)) h in
      (met r (value_at m xs r.term) refl p.0, all_met rs p.1)

  all_held : (rs : List Require) → AllByRecursion (IsMet m xs) rs → all_true (holdings (values_on m xs) rs) ≡ true
  all_held [] a = refl
  all_held (r ∷ rs) a =
      and_from (holds (values_on m xs) r) (all_true (holdings (values_on m xs) rs)) (held r (value_at m xs r.term) refl a.0) (all_held rs a.1)

pub judged_is_met : JudgedIsMet
judged_is_met m xs cells = (there, back)
  where
    there : is_met m xs ≡ true → Meets m xs
    there e =
        let p = and_parts (all_true (insides m.cells xs)) (all_true (holdings (values_on m xs) m.requirements)) e in
        record { cells = cells; inside = insides_box m.cells xs cells p.0; requirements = all_met m xs m.requirements p.1 }

    back : Meets m xs → is_met m xs ≡ true
    back w =
        and_from (all_true (insides m.cells xs)) (all_true (holdings (values_on m xs) m.requirements))
        (box_insides m.cells xs w.inside) (all_held m xs m.requirements w.requirements)

-- the judgement that the code makes tells whether the series meets
pub met_by : (m : ModelParts) (xs : List ℤ) (inside holding : List Bool) → length xs ≡ length m.cells → inside ≡ insides m.cells xs →
    holding ≡ holdings (values_on m xs) m.requirements →
    IsTrue (all_hold inside holding) ↔ Meets m xs
met_by m xs inside holding cells inside_is holding_is =
    subst (λ (b : Bool). IsTrue b ↔ Meets m xs) (sym (λ i. all_hold (inside_is i) (holding_is i))) (judged_is_met m xs cells)

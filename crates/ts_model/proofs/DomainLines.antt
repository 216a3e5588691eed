-- What a line on domains gives: the new domains of the cells, or that they are over the limit.
use Rattle.std.proofs.Common.{◌≡◌, ℕ, ℤ, Bool, true, false, cond, Ok, Err, Some, None, List, map, set, length, refl, ap, subst, sym}
use Rattle.std.specs.Prelude.{Result}
use Rattle.std.specs.List.{list_any}
use Rattle.ts_domain.specs.declared.interval.Interval.{Interval}
use Rattle.ts_model.specs.declared.error.ModelKind.{ModelKind}
use Rattle.ts_model.specs.declared.error.ModelKind.TheVariants.{Empty, Limit}
use Rattle.ts_model.specs.declared.error.LineStop.{LineStop}
use Rattle.ts_model.specs.declared.error.LineStop.TheVariants.{Bad, NoMemory}
use Rattle.ts_model.specs.Statement.{SaysDomain, SaysCell}
use Rattle.ts_model.specs.ModelParts.{ModelParts, IsPlace, has_cells, is_backward, is_outside, over_total, parts_after, union_given, union_of, unless_kind}
use Rattle.ts_model.specs.Cells.{within_total}
use Rattle.ts_model.specs.Views.{Gives}

-- ranges of which none is empty or outside, and their union
given_by : (union values : List ℤ) (b o : Bool) → cond b (Err Empty) (cond o (Err Limit) (Ok union)) ≡ Ok values →
    (b ≡ false) × (o ≡ false) × (union ≡ values)
given_by union values true o e = cc
given_by union values false true e = cc
given_by union values false false e = (refl, refl, cc)

-- with these domains, or over the limit
told_by : (over : Bool) (m : ModelParts) (cells new : List (List ℤ)) (result : Result (Unit {0}) LineStop) →
    Gives (λ _. new) result (cond over (Err Limit) (Ok cells)) →
    Gives (λ _. record m { cells = new }) result (unless_kind (cond over (Some Limit) None) (record m { cells = cells }))
told_by true m cells new (Ok x) g = cc
told_by true m cells new (Err (Bad k)) g = let e : Limit ≡ k = cc in ap (λ (z : ModelKind). Err z) e
told_by true m cells new (Err NoMemory) g = tt
told_by false m cells new (Ok x) g = let e : cells ≡ new = cc in ap (λ (z : List (List ℤ)). Ok (record m { cells = z })) e
told_by false m cells new (Err (Bad k)) g = cc
told_by false m cells new (Err NoMemory) g = tt

module _ (lists : Bool) (m : ModelParts) (rs : List Interval) (values : List ℤ) (result : Result (Unit {0}) LineStop) (new : List (List ℤ)) where
  pub domain_line : has_cells m ≡ true → union_given rs ≡ Ok values → Gives (λ _. new) result (within_total lists (map (λ _. values) m.cells)) →
      Gives (λ _. record m { cells = new }) result (parts_after lists m (SaysDomain rs))
  domain_line has given gives =
      let is = given_by (union_of rs) values (list_any is_backward rs) (list_any is_outside rs) given in
      let cells = map (λ _. union_of rs) m.cells in
      let told = told_by (over_total lists (record m { cells = cells })) m cells new result
      (subst (λ (v : List ℤ). Gives (λ _. new) result (within_total lists (map (λ _. v) m.cells))) (sym is.2) gives) in
      rw (has, is.0, is.1) told

  pub cell_line : (k : ℤ) (place : ℕ) → has_cells m ≡ true → IsPlace k (length m.cells) place → union_given rs ≡ Ok values →
      Gives (λ _. new) result (within_total lists (set m.cells place values)) →
      Gives (λ _. record m { cells = new }) result (parts_after lists m (SaysCell k rs))
  cell_line k place has at given gives =
      let is = given_by (union_of rs) values (list_any is_backward rs) (list_any is_outside rs) given in
      let cells = set m.cells place (union_of rs) in
      let told = told_by (over_total lists (record m { cells = cells })) m cells new result
      (subst (λ (v : List ℤ). Gives (λ _. new) result (within_total lists (set m.cells place v))) (sym is.2) gives) in
      rw (has, at.within, at.place_is, is.0, is.1) told

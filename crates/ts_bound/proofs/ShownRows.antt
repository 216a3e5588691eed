-- One row of which some places are shown: what it shows, and what is kept of it, without values that are gone.
use Rattle.std.proofs.Common.{◌≡◌, ◌⊎◌, inl, inr, ℕ, min, ◌+◌, ◌-◌, ◌<◌, ◌≤◌, ℤ, List, sym, ap, ◌∙◌, subst, arith}
use Rattle.std.specs.Prelude.{Result, Ok, OnOk}
use Rattle.std.specs.List.{remove_range}
use Rattle.ts_row.proofs.Parts.{whole_part}
use Rattle.ts_bound.specs.declared.any_row.AnyRow.{AnyRow}
use Rattle.ts_bound.specs.declared.any_row.AnyRow.TheVariants.{Narrow, Upper, Lower, Wide}
use Rattle.ts_bound.specs.declared.gone.Gone.{Gone}
use Rattle.ts_bound.specs.declared.planned.Planned.{Planned}
use Rattle.ts_bound.specs.declared.row_stack.HullRow.{HullRow}
use Rattle.ts_bound.specs.AnyRows.{row_part, row_without}
use Rattle.ts_bound.specs.RowStacks.{HasStates, IsFilled, IsLaid, hulls_in, kept_in, shown, values_in}
use Rattle.ts_bound.specs.RowWindows.{HasKept, HasLess, HasLost}
use Rattle.ts_bound.proofs.RowParts.{row_back, row_front, row_middle}
use Rattle.ts_bound.proofs.WithoutValues.{count_left, made_without}

-- what holds where there is a result
pub at_ok : {T E P : Type 0} {r : Result T E} {x : T} → r ≡ Ok x → OnOk r P → P
at_ok {P = P} e h = subst (λ z. OnOk z P) e h

-- a row that shows all of its places is shown whole

row_whole : (p : Planned) (row : AnyRow) → HasStates p row → row_part 0 (values_in row) row ≡ row
row_whole p (Narrow row) h = ap Narrow (whole_part 6 p.states (values_in (Narrow row)) row h.is_row)
row_whole p (Upper row) h = ap Upper (whole_part 3 p.states (values_in (Upper row)) row h.is_row)
row_whole p (Lower row) h = ap Lower (whole_part 4 p.states (values_in (Lower row)) row h.is_row)
row_whole p (Wide row) h = ap Wide (whole_part 10 p.states (values_in (Wide row)) row h.is_row)

shown_whole : (p : Planned) (r : HullRow) → IsLaid p r → r.from ≡ 0 → r.to ≡ r.count → shown r ≡ r.packed
shown_whole p r h first last =
    ap (λ i. row_part i r.to r.packed) first ∙ ap (λ i. row_part 0 i r.packed) (last ∙ sym h.count) ∙ row_whole p r.packed h.states

pub fresh_shown : (p : Planned) (r : HullRow) → HasStates p r.packed → values_in r.packed ≡ r.count → r.from ≡ 0 → r.to ≡ r.count →
    IsLaid p r × (shown r ≡ r.packed)
fresh_shown p r states count first last =
    let h : IsLaid p r = record { states = states; count = count; from = omega (arith, first); to = omega (arith, last) } in
    (h, shown_whole p r h first last)

-- values at the front, at the back and between others

module _ (gone : Gone) (old new : HullRow) (within : old.from ≤ old.to) (inside : old.to ≤ old.count) (same : new.packed ≡ old.packed)
    (count : new.count ≡ old.count) (values : new.values.items ≡ old.values.items) where
  -- what is shown moves
  moved : new.from ≤ new.to → new.to ≤ old.count → row_part new.from new.to old.packed ≡ row_without gone.from gone.to (shown old) → HasLess gone old new
  moved order last is = record {
    hulls = ap (row_part new.from new.to) same ∙ is;
    laid = λ p h. record {
      states = subst (HasStates p) (sym same) h.states;
      count = ap values_in same ∙ h.count ∙ sym count;
      from = order;
      to = omega (arith, last, count);
    };
    kept = λ p h. inl
        (ap (λ vs. record { values = vs; hulls = hulls_in p.states new.packed }) values
        ∙ ap (λ (r : AnyRow). record { values = old.values.items; hulls = hulls_in p.states r }) same);
  }

  pub less_in_front : gone.from ≡ 0 → new.from ≡ old.from + min gone.to (old.to - old.from) → new.to ≡ old.to → HasLess gone old new
  less_in_front first from to =
      moved (omega (arith, from, to, within)) (omega (arith, to, inside))
      (ap (λ i. row_part i new.to old.packed) from ∙ ap (λ i. row_part (old.from + min gone.to (old.to - old.from)) i old.packed) to
      ∙ row_front old.packed old.from old.to gone.to ∙ ap (λ i. row_without i gone.to (shown old)) (sym first))

  pub less_behind : old.to - old.from ≤ gone.to → new.from ≡ old.from → new.to ≡ old.from + min gone.from (old.to - old.from) → HasLess gone old new
  less_behind last from to =
      moved (omega (arith, from, to, within)) (omega (arith, to, within, inside))
      (ap (λ i. row_part i new.to old.packed) from ∙ ap (λ i. row_part old.from i old.packed) to
      ∙ row_back old.packed old.from old.to gone.from gone.to last)

pub less_between : (gone : Gone) (old new : HullRow) (f t : ℕ) → old.from ≤ old.to → old.to ≤ old.count → gone.from ≤ gone.to →
    gone.to < old.to - old.from → f ≡ old.from + gone.from → t ≡ old.from + gone.to → new.packed ≡ row_without f t old.packed →
    new.values.items ≡ remove_range old.values.items f t → new.count ≡ old.count - (t - f) → new.from ≡ old.from → new.to ≡ old.to - (t - f) →
    HasLess gone old new
less_between gone old new f t within inside order between is_f is_t packed values count from to = record {
  hulls = ap (λ (r : AnyRow). row_part new.from new.to r) packed ∙ ap (λ i. row_part i new.to (row_without f t old.packed)) from
      ∙ ap (λ i. row_part old.from i (row_without f t old.packed)) to
      ∙ ap (λ i. row_part old.from (old.to - (t - i)) (row_without i t old.packed)) is_f
      ∙ ap (λ i. row_part old.from (old.to - (i - (old.from + gone.from))) (row_without (old.from + gone.from) i old.packed)) is_t
      ∙ row_middle old.packed old.from old.to gone.from gone.to order (omega (arith, within, between));
  laid = λ p h.
      let all = h.count in record {
        states = subst (HasStates p) (sym packed) (made_without p f t old.packed h.states).0;
        count = ap values_in packed
            ∙ count_left f t old.packed (omega (arith, is_f, is_t, order)) (omega (arith, is_t, within, between, inside, all))
            ∙ ap (λ n. n - (t - f)) all ∙ sym count;
        from = omega (arith, from, to, is_f, is_t, within, between, order);
        to = omega (arith, to, count, inside);
      };
  kept = λ p h. inr (
    f,
    t,
    ap (λ vs. record { values = vs; hulls = hulls_in p.states new.packed }) values
        ∙ ap (λ hs. record { values = remove_range old.values.items f t; hulls = hs })
        (ap (hulls_in p.states) packed ∙ (made_without p f t old.packed h.states).1),
  );
}

-- the values that were shown may be kept before

pub lost_of_kept : (gone : Gone) (before : List ℤ) (old mid new : HullRow) → HasKept before old mid → HasLess gone mid new → HasLost gone before old new
lost_of_kept gone before old mid new k z =
    let same : shown mid ≡ shown old =
    ap (λ (r : AnyRow). row_part mid.from mid.to r) k.packed ∙ ap (λ i. row_part i mid.to old.packed) k.from
    ∙ ap (λ i. row_part old.from i old.packed) k.to in
    let laid : (p : Planned) → IsLaid p old → IsLaid p mid = λ p h. (let from = h.from in let to = h.to in let here = k.from in let there = k.to in
    let all = k.count in record {
      states = subst (HasStates p) (sym k.packed) h.states;
      count = ap values_in k.packed ∙ h.count ∙ sym k.count;
      from = omega (arith, from, here, there);
      to = omega (arith, to, there, all);
    }) in record {
      hulls = z.hulls ∙ ap (row_without gone.from gone.to) same;
      laid = λ p h. z.laid p (laid p h);
      kept = λ p h. (kept_in p.states mid, fill p h k.values, z.kept p (laid p h));
    }
  where
    with_hulls : (p : Planned) (vs : List ℤ) → mid.values.items ≡ vs → kept_in p.states mid ≡ record { values = vs; hulls = hulls_in p.states old.packed }
    with_hulls p vs e =
        ap (λ (w : List ℤ). record { values = w; hulls = hulls_in p.states mid.packed }) e
        ∙ ap (λ (r : AnyRow). record { values = vs; hulls = hulls_in p.states r }) k.packed

    fill : (p : Planned) → IsLaid p old → (mid.values.items ≡ old.values.items) ⊎ ((mid.values.items ≡ before) × (old.from ≡ 0) × (old.to ≡ old.count)) →
        IsFilled before (hulls_in p.states (shown old)) (kept_in p.states old) (kept_in p.states mid)
    fill p h (inl e) = inl (with_hulls p old.values.items e)
    fill p h (inr (e, first, last)) = inr
        (with_hulls p before e ∙ ap (λ (r : AnyRow). record { values = before; hulls = hulls_in p.states r }) (sym (shown_whole p old h first last)))

-- The tests that compute decide what is refuted, cut and may be dropped.
use Rattle.std.proofs.Common.{◌≡◌, ◌↔◌, ◌&&◌, ℕ, ◌-◌, ◌≤◌, ℤ, Bool, true, false, List, length, Option, Some, None, slice_get, refl, sym, subst, arith}
use Rattle.std.proofs.lemmas.Bool.{and_from, and_parts, leb-true, le-leb}
use Rattle.std.proofs.lemmas.Cmp.{int_eq_equiv}
use Rattle.std.proofs.lemmas.Map.Views.{list_any-from_Contains, Contains-from_any}
use Rattle.std.specs.Prelude.{◌||◌, IsTrue, nat_eq, nat_le}
use Rattle.ts_base.specs.declared.goal.Goal.{Goal}
use Rattle.ts_model.specs.declared.model.Require.{Require}
use Rattle.ts_model.specs.Judgement.{is_among}
use Rattle.ts_model.specs.ModelParts.{ModelParts}
use Rattle.ts_model.proofs.MeetsLaw.{int_same}
use Rattle.ts_filter.specs.declared.bar.Bar.{Bar}
use Rattle.ts_filter.specs.Boxes.{Box, HasCell, values_at, only}
use Rattle.ts_filter.specs.Ends.{refutes, cuts}
use Rattle.ts_filter.specs.Laws.{TestsTell}
use Rattle.ts_filter.specs.RefutedWorseDrop.{Spans, IsUsable, IsRefuted, IsCut, IsDrop}
use Rattle.ts_filter.specs.Tests.{has_cell, is_usable, refuted_by, is_refuted, cut_by, is_cut, has_others, is_drop}
use Rattle.ts_filter.proofs.SpanEnds.{refutes_exact, cuts_exact}

cell_tells : (k : ℕ) (b : Box) → IsTrue (has_cell k b) ↔ HasCell k b
cell_tells k b = (
  λ h. let e = and_parts (nat_le 1 k) (nat_le k (length b)) h in (leb-true 1 k e.0, leb-true k (length b) e.1),
  λ c. and_from (nat_le 1 k) (nat_le k (length b)) (le-leb 1 k c.0) (le-leb k (length b) c.1),
)

last_told : (t : Bool) (p n : ℕ) → (t || nat_eq p n) ≡ true → t ≡ false → p ≡ n
last_told true p n h e = grind arith
last_told false p n h e = grind arith

to_last : (t : Bool) (p n : ℕ) → (t ≡ false → p ≡ n) → (t || nat_eq p n) ≡ true
to_last true p n f = refl
to_last false p n f = grind (arith, f refl)

module _ (s : Spans) where
  usable_tells : (term p : ℕ) (b : Box) → IsTrue (is_usable s term p b) ↔ IsUsable s term p b
  usable_tells term p b = (
    λ h. let e = and_parts (has_cell p b) (s.reversible term || nat_eq p (length b)) h in
        record { cell = (cell_tells p b).0 e.0; last = last_told (s.reversible term) p (length b) e.1 },
    λ u. and_from (has_cell p b) (s.reversible term || nat_eq p (length b)) ((cell_tells p b).1 u.cell)
        (to_last (s.reversible term) p (length b) u.last),
  )

module _ (rs : List Require) (s : Spans) where
  refuted_told : (j p : ℕ) (b : Box) (o : Option Require) → slice_get rs (j - 1) ≡ o → 1 ≤ j → refuted_by s p b o ≡ true → IsRefuted rs s j p b
  refuted_told j p b None e l h = absurd (let f : ◌≡◌ {A = Bool} false true = h in cc)
  refuted_told j p b (Some r) e l h =
      let f = and_parts (is_usable s r.term p b) (refutes r.op r.bound (s.span_at r.term p b)) h in
      record {
        require = r;
        is = (l, e);
        usable = (usable_tells s r.term p b).0 f.0;
        refutes = (refutes_exact r.op r.bound (s.span_at r.term p b)).0 f.1;
      }

  to_refuted : (p : ℕ) (b : Box) (r : Require) (o : Option Require) → o ≡ Some r → IsUsable s r.term p b →
      IsTrue (refutes r.op r.bound (s.span_at r.term p b)) → refuted_by s p b o ≡ true
  to_refuted p b r o e u h =
      subst (λ z. refuted_by s p b z ≡ true) (sym e)
      (and_from (is_usable s r.term p b) (refutes r.op r.bound (s.span_at r.term p b)) ((usable_tells s r.term p b).1 u) h)

  refuted_tells : (j p : ℕ) (b : Box) → IsTrue (is_refuted rs s j p b) ↔ IsRefuted rs s j p b
  refuted_tells j p b = (
    λ h. let e = and_parts (nat_le 1 j) (refuted_by s p b (slice_get rs (j - 1))) h in
        refuted_told j p b (slice_get rs (j - 1)) refl (leb-true 1 j e.0) e.1,
    λ r. and_from (nat_le 1 j) (refuted_by s p b (slice_get rs (j - 1))) (le-leb 1 j r.is.0)
        (to_refuted p b r.require (slice_get rs (j - 1)) r.is.1 r.usable
        ((refutes_exact r.require.op r.require.bound (s.span_at r.require.term p b)).1 r.refutes)),
  )

  drop_tells : (k : ℕ) (v : ℤ) (j : ℕ) (b : Box) → IsTrue (is_drop rs s k v j b) ↔ IsDrop rs s k v j b
  drop_tells k v j b = (
    λ h.
        let e = and_parts (has_cell k b) (has_others k v b && is_refuted rs s j k (only k v b)) h in
        let f = and_parts (has_others k v b) (is_refuted rs s j k (only k v b)) e.1 in
        let g = and_parts (nat_le 2 (length (values_at k b))) (is_among (values_at k b) v) f.0 in
        record {
          cell = (cell_tells k b).0 e.0;
          many = leb-true 2 (length (values_at k b)) g.0;
          there = Contains-from_any int_same v (values_at k b) g.1;
          refuted = (refuted_tells j k (only k v b)).0 f.1;
        },
    λ d. and_from (has_cell k b) (has_others k v b && is_refuted rs s j k (only k v b)) ((cell_tells k b).1 d.cell)
        (and_from (has_others k v b) (is_refuted rs s j k (only k v b))
        (and_from (nat_le 2 (length (values_at k b))) (is_among (values_at k b) v) (le-leb 2 (length (values_at k b)) d.many)
        (list_any-from_Contains int_eq_equiv v (values_at k b) d.there)) ((refuted_tells j k (only k v b)).1 d.refuted)),
  )

module _ (m : ModelParts) (s : Spans) where
  cut_told : (goal : Goal) (p : ℕ) (b : Box) (bar : Bar) (o : Option ℕ) → m.objective ≡ o → cut_by s goal p b bar o ≡ true → IsCut m s goal p b bar
  cut_told goal p b bar None e h = absurd (let f : ◌≡◌ {A = Bool} false true = h in cc)
  cut_told goal p b bar (Some term) e h =
      let f = and_parts (is_usable s term p b) (cuts goal bar (s.span_at term p b)) h in
      record {
        term = term;
        is = e;
        usable = (usable_tells s term p b).0 f.0;
        cuts = (cuts_exact goal bar (s.span_at term p b)).0 f.1;
      }

  cut_tells : (goal : Goal) (p : ℕ) (b : Box) (bar : Bar) → IsTrue (is_cut m s goal p b bar) ↔ IsCut m s goal p b bar
  cut_tells goal p b bar = (
    λ h. cut_told goal p b bar m.objective refl h,
    λ c. subst (λ z. cut_by s goal p b bar z ≡ true) (sym c.is)
        (and_from (is_usable s c.term p b) (cuts goal bar (s.span_at c.term p b)) ((usable_tells s c.term p b).1 c.usable)
        ((cuts_exact goal bar (s.span_at c.term p b)).1 c.cuts)),
  )

pub tests_tell : TestsTell
tests_tell s = record { refuted = λ rs. refuted_tells rs s; cut = λ m. cut_tells m s; drop = λ rs. drop_tells rs s }

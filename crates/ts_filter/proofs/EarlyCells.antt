-- The first cell below the last at which a span is excluded, by looking at one cell after another.
use Rattle.std.proofs.Common.{◌≡◌, ◌⊎◌, ◌↔◌, inl, inr, ℕ, ◌+◌, ◌<◌, ◌≤◌, Bool, true, false, length, Option, None, Some, refl, sym, subst, ⊎_elim, arith}
use Rattle.ts_base.specs.declared.range.Range.{Range}
use Rattle.ts_base.specs.declared.span.Span.{Span}
use Rattle.ts_base.specs.Windows.{LooksInside}
use Rattle.ts_bound.specs.Looks.{first_looked, is_looked, last_looked}
use Rattle.ts_bound.specs.TermSpans.{Automata, LooksIn, term_span}
use Rattle.ts_bound.proofs.Looking.{ends_inside, looked_bounds}
use Rattle.ts_bound.proofs.CellsRead.{unseen}
use Rattle.ts_filter.specs.Boxes.{Box}
use Rattle.ts_filter.specs.FirstCell.{IsEarly, IsFirstCell, NoneBefore}
use Rattle.ts_filter.proofs.Looked.{span_outside}
use Rattle.ts_filter.proofs.SoundLaws.{clash}

module _ (a : Automata) (Excluded : Span → Type 0) (b : Box) (looks : LooksIn a b) where
  -- a cell is looked at or says what the last of these cells says
  outside : (q : ℕ) → IsEarly a Excluded b q → (is_looked a.window q ≡ false) → Excluded (term_span a (last_looked a.window (length b)) b)
  outside q early e = subst Excluded (sym (span_outside a b q looks (early.usable.from, early.usable.to) e)) early.excluded

  between : (q : ℕ) → IsEarly a Excluded b q →
      ((first_looked a.window ≤ q) × (q ≤ last_looked a.window (length b))) ⊎ Excluded (term_span a (last_looked a.window (length b)) b)
  between q early = by_test (is_looked a.window q) refl
    where
      by_test : (t : Bool) → is_looked a.window q ≡ t →
          ((first_looked a.window ≤ q) × (q ≤ last_looked a.window (length b))) ⊎ Excluded (term_span a (last_looked a.window (length b)) b)
      by_test true e = inl (looked_bounds a.window (length b) q early.usable.from early.usable.to e)
      by_test false e = inr (outside q early e)

  -- where the last one isn't excluded, no cell outside is
  pub none_outside : (Excluded (term_span a (last_looked a.window (length b)) b) → ⊥) → NoneBefore a Excluded b (first_looked a.window)
  none_outside none q early = ⊎_elim (λ in_window. in_window.0) (λ ex. absurd (none ex)) (between q early)

  -- where the last cell that is looked at is excluded, and some cell comes before the window, cell 1 is the first of all
  pub first_of_outside : (first : ℕ) → first ≡ first_looked a.window → 1 < first → 1 ≤ length b → (a.pair ≡ None → ⊥) →
      Excluded (term_span a (last_looked a.window (length b)) b) → IsFirstCell a Excluded b (Some 1)
  first_of_outside first is lt any split ex =
      let ends = ends_inside a.window (length b) looks in let last = ends.1 in let some = ends.2 any in (
        record {
          usable = record { from = omega arith; to = any; last = λ e. absurd (split e) };
          below = omega (arith, is, lt, some, last);
          excluded = subst Excluded (span_outside a b 1 looks (omega arith, any) (unseen a.window first is lt)) ex;
        },
        λ q early. early.usable.from,
      )

  -- the cells before the window, as the code asks about them

  pub first_by_last : (first last : ℕ) → first ≡ first_looked a.window → last ≡ last_looked a.window (length b) → (first ≡ 1 → ⊥) → (a.pair ≡ None → ⊥) →
      Excluded (term_span a last b) → IsFirstCell a Excluded b (Some 1)
  first_by_last first last is is_last ne split ex =
      let ends = ends_inside a.window (length b) looks in let from = ends.0 in
      let some = later first (omega (arith, from, is)) ne in
      first_of_outside first is some (any a.window (length b) looks (omega (arith, some, is))) split
      (subst (λ k. Excluded (term_span a k b)) is_last ex)
    where
      later : (n : ℕ) → 1 ≤ n → (n ≡ 1 → ⊥) → 1 < n
      later n le ne = grind (arith, le, ne)

      any : (w : Option Range) (n : ℕ) → LooksInside n w → 1 < first_looked w → 1 ≤ n
      any None n h lt = absurd (omega (arith, lt))
      any (Some r) n h lt = let order = h.1 in let last = h.2 in omega (arith, lt, order, last)

  pub none_by_last : (last : ℕ) (told : Bool) → last ≡ last_looked a.window (length b) → told ≡ false → (told ≡ true) ↔ Excluded (term_span a last b) →
      NoneBefore a Excluded b (first_looked a.window)
  none_by_last last told is isnt h =
      none_outside (λ ex. clash told (h.1 (subst (λ k. Excluded (term_span a k b)) (sym is) ex)) isnt)

  -- the cell that is looked at next is excluded, or isn't

  pub found_here : (p n : ℕ) → NoneBefore a Excluded b p → first_looked a.window ≤ p → n ≡ length b → p < n → (a.pair ≡ None → ⊥) →
      Excluded (term_span a p b) → IsFirstCell a Excluded b (Some p)
  found_here p n none from is lt split ex =
      let first = (ends_inside a.window (length b) looks).0 in (
        record {
          usable = record { from = omega (arith, first, from); to = omega (arith, is, lt); last = λ e. absurd (split e) };
          below = omega (arith, is, lt);
          excluded = ex;
        },
        none,
      )

  pub none_here : (p : ℕ) → NoneBefore a Excluded b p → (Excluded (term_span a p b) → ⊥) → NoneBefore a Excluded b (p + 1)
  none_here p none isnt q early = above p q (none q early) (λ same. isnt (subst (λ k. Excluded (term_span a k b)) (sym same) early.excluded))
    where
      above : (p q : ℕ) → p ≤ q → (p ≡ q → ⊥) → p + 1 ≤ q
      above p q le ne = grind (arith, le, ne)

  -- no cell is left
  pub none_of_all : (p n : ℕ) → NoneBefore a Excluded b p → n ≡ length b → (a.pair ≡ None → ⊥) → (n ≤ p) ⊎ (last_looked a.window (length b) + 1 ≤ p) →
      IsFirstCell a Excluded b None
  none_of_all p n none is split (inl end) q early = let from = none q early in let below = early.below in omega (arith, from, below, end, is)
  none_of_all p n none is split (inr end) q early =
      let from = none q early in let below = early.below in
      ⊎_elim (λ in_window. (let to = in_window.1 in omega (arith, from, to, end)))
      (λ ex. (let far = none (last_looked a.window (length b)) (at_last ex) in omega (arith, far, end))) (between q early)
    where
      at_last : Excluded (term_span a (last_looked a.window (length b)) b) → IsEarly a Excluded b (last_looked a.window (length b))
      at_last ex =
          let from = none q early in let below = early.below in let any = early.usable.from in let to = early.usable.to in
          let ends = ends_inside a.window (length b) looks in let first = ends.0 in let some = ends.2 (omega (arith, any, to)) in
          record {
            usable = record { from = omega (arith, first, some); to = omega (arith, from, below, end); last = λ e. absurd (split e) };
            below = omega (arith, from, below, end);
            excluded = ex;
          }

pub far_enough : (p end n last last' : ℕ) → end ≤ p → last ≡ last' → (n ≤ end) ⊎ (last + 1 ≤ end) → (n ≤ p) ⊎ (last' + 1 ≤ p)
far_enough p end n last last' le is (inl far) = inl (omega (arith, le, far))
far_enough p end n last last' le is (inr far) = inr (omega (arith, le, is, far))

-- Whether a hull in lanes is small.
use Rattle.std.proofs.Common.{◌≡◌, ◌⊎◌, inl, inr, ◌&&◌, Bool, true, false, cond, ℤ, pos, Option, None, Some, ℕ, ◌<◌, List, length, get_or, refl, sym, ap, subst, ◌∙◌}
use Rattle.std.specs.List.{list_all}
use Rattle.std.proofs.lemmas.List.Folds.{list_all_at}
use Rattle.ts_base.specs.declared.ext.Ext.TheVariants.{NegInf, Int, PosInf}
use Rattle.ts_base.specs.declared.span.Span.{Span}
use Rattle.ts_base.specs.Spans.{none_span, one_span, has_some}
use Rattle.ts_automaton.specs.declared.regs.Hull.{Hull}
use Rattle.ts_hull.specs.Sealed.{span_from}
use Rattle.ts_hull.specs.Smalls.{small, small_span, small_hull}
use Rattle.ts_sweep.specs.declared.packed.Ends.{Ends}
use Rattle.ts_sweep.specs.declared.packed.Name.{Name}
use Rattle.ts_sweep.specs.declared.packed.Name.TheVariants.{C, E, D, F, R}
use Rattle.ts_sweep.specs.FrontLaws.{never_added}
use Rattle.ts_sweep.specs.Packed.{ends_span, ends_at, ends_in, register_span, span_in_lanes, name_ends, name_span, is_wide, place, place_in, small_lanes, unpacked}
use Rattle.ts_sweep.specs.Sides.{Sides, BothEnds, UpperEnds, LowerEnds, as_read, read_ends, seen, seen_hull}
use Rattle.ts_sweep.specs.SidesLaws.{read_in, read_length}

-- 0 and none are small
rests_small : (some : Bool) → true ≡ small_span (cond some (one_span (Int (pos 0))) none_span)
rests_small true = refl
rests_small false = refl

and_true : (b : Bool) → (b && true) ≡ b
and_true true = refl
and_true false = refl

-- a span of which only one end is seen is small where that end is
seen_small : (s : Sides) (e : Ends) → seen s (ends_span e) ≡ ends_span e → small_span (ends_span (read_ends s e)) ≡ small_span (ends_span e)
seen_small BothEnds e is = refl
seen_small UpperEnds e is = go (has_some (ends_span e)) refl
  where
    t : Span
    t = ends_span e

    go : (b : Bool) → has_some t ≡ b → small t.hi ≡ small_span t
    go true h = ap (λ (u : Span). small_span (span_from u.lo t.hi)) (sym (ap (λ c. cond c (span_from NegInf t.hi) none_span) h) ∙ is)
    go false h =
        let none : t ≡ none_span = sym is ∙ ap (λ c. cond c (span_from NegInf t.hi) none_span) h in
        ap (λ (u : Span). small u.hi) none ∙ sym (ap small_span none)
seen_small LowerEnds e is = go (has_some (ends_span e)) refl
  where
    t : Span
    t = ends_span e

    go : (b : Bool) → has_some t ≡ b → (small t.lo && true) ≡ small_span t
    go true h =
        ap (λ (u : Span). small_span (span_from t.lo u.hi)) (sym (ap (λ c. cond c (span_from t.lo PosInf) none_span) h) ∙ is)
    go false h =
        let none : t ≡ none_span = sym is ∙ ap (λ c. cond c (span_from t.lo PosInf) none_span) h in
        ap (λ (u : Span). small u.lo && true) none ∙ sym (ap small_span none)

small_at : (s : Sides) (xs : List ℤ) (p : ℕ) → seen s (register_span xs p) ≡ register_span xs p →
    small_span (ends_span (ends_in (as_read s xs) (Some p))) ≡ small_span (register_span xs p)
small_at s xs p is = ap (λ e. small_span (ends_span e)) (read_in s xs (Some p)) ∙ seen_small s (ends_at xs p) is

-- E and F are read whole in wide lanes, of which both ends are kept
small_beside : (s : Sides) (xs : List ℤ) (o : Option ℕ) → (s ≡ BothEnds) ⊎ (o ≡ None) →
    small_span (ends_span (ends_in (as_read s xs) o)) ≡ small_span (span_in_lanes xs o)
small_beside s xs None alone = ap (λ e. small_span (ends_span e)) (read_in s xs None) ∙ zeros s ∙ rests_small (has_some (register_span xs 0))
  where
    zeros : (s : Sides) → small_span (ends_span (read_ends s (ends_in xs None))) ≡ true
    zeros BothEnds = refl
    zeros UpperEnds = refl
    zeros LowerEnds = refl
small_beside BothEnds xs (Some p) (inl e) = refl
small_beside UpperEnds xs (Some p) (inl e) = cc
small_beside LowerEnds xs (Some p) (inl e) = cc
small_beside s xs (Some p) (inr e) = cc

five_same : {a b c d e a' b' c' d' e' : Bool} → a ≡ a' → b ≡ b' → c ≡ c' → d ≡ d' → e ≡ e' → (a && b && c && d && e) ≡ (a' && b' && c' && d' && e')
five_same p q r s t = cc

-- whether lanes are small, by their number
abbrev small_with : ℕ → List ℤ → Bool
small_with n xs =
    small_span (ends_span (ends_in xs (place n C))) && small_span (ends_span (ends_in xs (place n E)))
    && small_span (ends_span (ends_in xs (place n D))) && small_span (ends_span (ends_in xs (place n F)))
    && small_span (ends_span (ends_in xs (place n R)))

no_place : (s : Sides) (wide : Bool) (o : Bool → Option ℕ) → o false ≡ None → (s ≡ BothEnds) ⊎ (wide ≡ false) → (s ≡ BothEnds) ⊎ (o wide ≡ None)
no_place s wide o none (inl e) = inl e
no_place s wide o none (inr f) = inr (ap o f ∙ none)

pub small_read : (s : Sides) (n : ℕ) (xs : List ℤ) → length xs ≡ n → (s ≡ BothEnds) ⊎ (is_wide n ≡ false) →
    seen_hull s (unpacked xs) ≡ unpacked xs → small_lanes (as_read s xs) ≡ small_hull (unpacked xs)
unfolding small_hull unpacked
small_read s n xs len alone shown =
    let narrow = subst (λ m. (s ≡ BothEnds) ⊎ (is_wide m ≡ false)) (sym len) alone in
    ap (λ m. small_with m (as_read s xs)) (read_length s xs)
    ∙ five_same (small_at s xs 0 (ap (λ (h : Hull). h.c) shown))
    (small_beside s xs (place (length xs) E) (no_place s (is_wide (length xs)) (λ b. place_in b E) refl narrow))
    (small_at s xs (cond (is_wide (length xs)) 2 1) (ap (λ (h : Hull). h.d) shown))
    (small_beside s xs (place (length xs) F) (no_place s (is_wide (length xs)) (λ b. place_in b F) refl narrow))
    (small_at s xs (cond (is_wide (length xs)) 4 2) (ap (λ (h : Hull). h.r) shown))

-- each hull of a small column is small
pub small_column : {X : Type 0} (s : Sides) (lanes : X → List ℤ) (none : X) (hulls : List X) (i : ℕ) → i < length hulls →
    list_all (λ h. small_lanes (as_read s (lanes h))) hulls ≡ true → small_lanes (as_read s (lanes (get_or hulls i none))) ≡ true
small_column s lanes none hulls i lt all = go (small_lanes (as_read s (lanes (get_or hulls i none)))) refl
  where
    go : (b : Bool) → small_lanes (as_read s (lanes (get_or hulls i none))) ≡ b → small_lanes (as_read s (lanes (get_or hulls i none))) ≡ true
    go true e = e
    go false e = never_added (sym all ∙ list_all_at (λ h. small_lanes (as_read s (lanes h))) hulls i none lt e)

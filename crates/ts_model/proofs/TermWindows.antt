-- Terms with their windows, by place; and the windows of tails.
use Rattle.std.proofs.Common.{◌≡◌, ℕ, zero, suc, ◌+◌, ◌≤◌, Bool, true, false, cond, Option, Some, None, Ok, Err, List, [], ◌∷◌, ◌++◌, length, map, drop, ℤ, pos, negsuc, refl, sym, ap, ◌∙◌, arith, String, Global}
use Rattle.std.specs.Prelude.{slice_get, option_map, is_some, Result, not, ◌&&◌, ◌||◌, int_lt}
use Rattle.std.specs.List.{list_any}
use Rattle.std.proofs.lemmas.List.{drop_all}
use Rattle.std.proofs.lemmas.Bool.{and_parts}
use Rattle.std.proofs.lemmas.Bool.Decides.{nat_tests}
use Rattle.std.proofs.lemmas.Int.{ints}
use Rattle.ts_base.specs.declared.range.Range.{Range}
use Rattle.ts_base.specs.Windows.{LooksInside}
use Rattle.ts_domain.specs.declared.interval.Interval.{Interval}
use Rattle.ts_pattern.specs.declared.term.Term.{Term}
use Rattle.ts_model.specs.declared.error.ModelKind.{ModelKind}
use Rattle.ts_model.specs.declared.error.ModelKind.TheVariants.{CellRange, Empty}
use Rattle.ts_model.specs.declared.model.ModelTerm.{ModelTerm}
use Rattle.ts_model.specs.declared.model.Window.{Window}
use Rattle.ts_model.specs.ModelParts.{StatedTerm, cells_between, count_of, is_backward, is_between, is_beyond, looks_backward, looks_beyond, window_made}
use Rattle.ts_model.specs.Views.{model_term, range_in, term_of, window_at, with_windows}

-- terms and windows, place by place

window_behind : (ws : List (Option Window)) (k : ℕ) → window_at (drop 1 ws) k ≡ window_at ws (suc k)
window_behind [] k = refl
window_behind (w ∷ ws) k = refl

pub term_there : (es : List (String Global × Term)) (ws : List (Option Window)) (k : ℕ) (t : Term) (w : Option Range) →
    slice_get (map (λ e. e.1) es) k ≡ Some t → w ≡ window_at ws k →
    slice_get (map (λ e. e.1) (with_windows es ws)) k ≡ Some (model_term t w)
term_there [] ws k t w e is = cc
term_there (x ∷ es) ws zero t w e is =
    let same : x.1 ≡ t = cc in
    ap (λ (z : Term). Some (model_term z (window_at ws 0))) same ∙ ap (λ (z : Option Range). Some (model_term t z)) (sym is)
term_there (x ∷ es) ws (suc k) t w e is = term_there es (drop 1 ws) k t w e (is ∙ sym (window_behind ws k))

-- the keys stay where windows are put beside the terms
pub keys_stay : (es : List (String Global × Term)) (ws : List (Option Window)) → map (λ e. e.0) (with_windows es ws) ≡ map (λ e. e.0) es
keys_stay [] ws = refl
keys_stay (e ∷ es) ws = ap (λ (ks : List (String Global)). e.0 ∷ ks) (keys_stay es (drop 1 ws))

pub windows_count : (es : List (String Global × Term)) (ws : List (Option Window)) → length (with_windows es ws) ≡ length es
windows_count [] ws = refl
windows_count (x ∷ es) ws = ap suc (windows_count es (drop 1 ws))

pub terms_count : (es : List (String Global × Term)) (ws : List (Option Window)) → length (map term_of (with_windows es ws)) ≡ length es
terms_count [] ws = refl
terms_count (x ∷ es) ws = ap suc (terms_count es (drop 1 ws))

pub windows_added : (es : List (String Global × Term)) (ws : List (Option Window)) (key : String Global) (t : Term) (w : Option Window) →
    length ws ≡ length es →
    with_windows (es ++ (key, t) ∷ []) (ws ++ w ∷ []) ≡ with_windows es ws ++ (key, model_term t (option_map range_in w)) ∷ []
windows_added [] [] key t w h = refl
windows_added [] (v ∷ ws) key t w h = absurd (omega (arith, h))
windows_added (x ∷ es) [] key t w h = absurd (omega (arith, h))
windows_added (x ∷ es) (v ∷ ws) key t w h =
    ap (λ (z : List (String Global × ModelTerm)). (x.0, model_term x.1 (option_map range_in v)) ∷ z)
    (windows_added es ws key t w (omega (arith, h)))

-- whether one of the terms has a window

abbrev pub any_window : List (String Global × ModelTerm) → Bool
any_window es = list_any (λ (t : List ℕ × StatedTerm). is_some t.1.window) (map term_of es)

pub window_next : (es : List (String Global × ModelTerm)) (k : ℕ) (t : ModelTerm) → slice_get (map (λ e. e.1) es) k ≡ Some t →
    any_window (drop k es) ≡ (is_some t.window || any_window (drop (k + 1) es))
window_next [] k t e = cc
window_next (x ∷ es) zero t e =
    let same : x.1 ≡ t = cc in ap (λ (z : ModelTerm). is_some z.window || any_window es) same
window_next (x ∷ es) (suc k) t e =
    let more : suc k + 1 ≡ suc (k + 1) = omega arith in
    window_next es k t e ∙ ap (λ (n : ℕ). is_some t.window || any_window (drop n (x ∷ es))) (sym more)

pub no_more : (es : List (String Global × ModelTerm)) (k : ℕ) → length es ≤ k → any_window (drop k es) ≡ false
no_more es k over = ap any_window (drop_all k es over)

-- where none has one, each looks at all cells

both_false : (a b : Bool) → (a || b) ≡ false → (a ≡ false) × (b ≡ false)
both_false true b h = cc
both_false false b h = (refl, h)

pub is_whole : (w : Option Range) → is_some w ≡ false → w ≡ None
is_whole None h = refl
is_whole (Some r) h = cc

pub none_windowed : (e : String Global × ModelTerm) (es : List (String Global × ModelTerm)) → any_window (e ∷ es) ≡ false →
    (e.1.window ≡ None) × (any_window es ≡ false)
none_windowed e es h = let p = both_false (is_some e.1.window) (any_window es) h in (is_whole e.1.window p.0, p.1)

-- the window of a tail

pub window_good : (count : ℕ) (r : Interval) (first last : ℕ) → is_between (pos 1) r.low (pos count) ≡ true →
    is_between (pos 1) r.high (pos count) ≡ true → count_of r.low ≡ first → count_of r.high ≡ last → is_backward r ≡ false →
    window_made count (Some r) ≡ Ok (Some (record { first = first; last = last }))
window_good count r first last low high from to order =
    rw (low, high, order)
    (ap (λ (n : ℕ). Ok (Some (record { first = n; last = count_of r.high }))) from ∙ ap (λ (n : ℕ). Ok (Some (record { first = first; last = n }))) to)

pub window_reversed : (count : ℕ) (r : Interval) → is_between (pos 1) r.low (pos count) ≡ true → is_between (pos 1) r.high (pos count) ≡ true →
    is_backward r ≡ true → window_made count (Some r) ≡ Err Empty
window_reversed count r low high order = rw (low, high, order) refl

pub window_low : (count : ℕ) (r : Interval) → is_between (pos 1) r.low (pos count) ≡ false → window_made count (Some r) ≡ Err CellRange
window_low count r low = rw low refl

pub window_high : (count : ℕ) (r : Interval) → is_between (pos 1) r.high (pos count) ≡ false → window_made count (Some r) ≡ Err CellRange
window_high count r high = go (is_between (pos 1) r.low (pos count)) refl where
  go : (b : Bool) → is_between (pos 1) r.low (pos count) ≡ b → window_made count (Some r) ≡ Err CellRange
  go true e = rw (e, high) refl
  go false e = window_low count r e

-- a tail of which a window is made is of none of the kinds, and what it says is the window
pub record IsGood (count : ℕ) (tail : Option Interval) (w : Option Range) : Type 0 where
  pub within : looks_beyond count tail ≡ false
  pub order : looks_backward tail ≡ false
  pub is : option_map cells_between tail ≡ w

pub made_good : (count : ℕ) (tail : Option Interval) (w : Option Range) → window_made count tail ≡ Ok w → IsGood count tail w
made_good count None w h = let same : ◌≡◌ {A = Option Range} None w = cc in record { within = refl; order = refl; is = same }
made_good count (Some r) w h = go (is_beyond count r) (is_backward r) refl refl h where
  go : (beyond back : Bool) → is_beyond count r ≡ beyond → is_backward r ≡ back →
      ◌≡◌ {A = Result (Option Range) ModelKind} (cond beyond (Err CellRange) (cond back (Err Empty) (Ok (Some (cells_between r))))) (Ok w) →
      IsGood count (Some r) w
  go true back e f h = cc
  go false true e f h = cc
  go false false e f h = let same : Some (cells_between r) ≡ w = cc in record { within = e; order = f; is = same }

-- and lies in the cells

not_false : (b : Bool) → not b ≡ false → b ≡ true
not_false true h = refl
not_false false h = cc

between_is : (n : ℤ) (count : ℕ) → is_between (pos 1) n (pos count) ≡ true → (1 ≤ count_of n) × (count_of n ≤ count)
between_is (pos k) count h = (grind (arith, ints, nat_tests), grind (arith, ints, nat_tests))
between_is (negsuc k) count h = cc

in_order : (low high : ℤ) → int_lt high low ≡ false → count_of low ≤ count_of high
in_order (pos a) (pos b) h = grind (arith, ints, nat_tests)
in_order (pos a) (negsuc b) h = grind (arith, ints, nat_tests)
in_order (negsuc a) high h = omega arith

pub tail_inside : (count : ℕ) (tail : Option Interval) → looks_beyond count tail ≡ false → looks_backward tail ≡ false →
    LooksInside count (option_map cells_between tail)
tail_inside count None beyond back = tt
tail_inside count (Some r) beyond back =
    let both = and_parts (is_between (pos 1) r.low (pos count)) (is_between (pos 1) r.high (pos count))
    (not_false (is_between (pos 1) r.low (pos count) && is_between (pos 1) r.high (pos count)) beyond) in
    let low = between_is r.low count both.0 in
    let high = between_is r.high count both.1 in
    (low.0, in_order r.low r.high back, high.1)

-- The rules of the lines around the tree, by what the code asks of a series.
use Rattle.std.proofs.Common.{◌≡◌, ◌↔◌, ℕ, zero, suc, ◌-◌, ℤ, Bool, true, IsTrue, List, [], ◌∷◌, length, Some, slice_get, sym, ◌∙◌, ap, subst, arith}
use Rattle.std.specs.Global.{Vec}
use Rattle.std.specs.List.{AllByRecursion, list_all}
use Rattle.std.specs.Prelude.{option_map}
use Rattle.std.proofs.lemmas.Bool.{and_parts}
use Rattle.std.proofs.lemmas.Int.{ints}
use Rattle.std.proofs.lemmas.List.{length-map}
use Rattle.std.proofs.lemmas.Option.{same_Some, slice_get-map, slice_get_within}
use Rattle.ts_base.specs.Limits.{IsCellValue}
use Rattle.ts_certificate.specs.declared.certificate.Parsed.{Parsed}
use Rattle.ts_certificate.specs.declared.certificate.Parsed.TheVariants.{Aim, Claim as ClaimLine, Series, Tree, End}
use Rattle.ts_certificate.specs.declared.state.State.{State}
use Rattle.ts_certificate.specs.declared.state.State.TheVariants.{Start, AfterAim, InSeries, InTree, AfterEnd}
use Rattle.ts_certificate.specs.Grammar.{SaysSeries, may_follow}
use Rattle.ts_certificate.specs.HeadLines.{is_series}
use Rattle.ts_certificate.specs.Ranges.{is_value}
use Rattle.ts_certificate.specs.Seen.{line_seen}
use Rattle.ts_domain.specs.BoxSeries.{IsBefore}
use Rattle.ts_filter.specs.Accepts.{ComesAfter}
use Rattle.ts_checker.specs.Standings.{AreValues}
use Rattle.ts_checker.specs.Subjects.{series_of}

-- the last of the series before decides
pub after_last : (before : List (List ℤ)) (n : ℕ) (z x : List ℤ) → length before ≡ suc n → slice_get before n ≡ Some z → ComesAfter before x ↔ IsBefore z x
after_last [] n z x l e = absurd (omega (arith, l))
after_last (y ∷ []) zero z x l e = subst (λ w. IsBefore y x ↔ IsBefore w x) (same_Some y z e) ((λ h. h), (λ h. h))
after_last (y ∷ []) (suc n) z x l e = absurd (omega (arith, l))
after_last (y ∷ w ∷ ys) zero z x l e = absurd (omega (arith, l))
after_last (y ∷ w ∷ ys) (suc n) z x l e = after_last (w ∷ ys) n z x (omega (arith, l)) e

-- the last of the series that were read, if there is one, decides
pub last_answered : (xs : List (Vec ℤ)) (z : Vec ℤ) (x w : List ℤ) (t : Bool) → Some z ≡ slice_get xs (length xs - 1) → w ≡ z.items →
    (IsTrue t ↔ IsBefore w x) → IsTrue t ↔ ComesAfter (series_of xs) x
last_answered xs z x w t e same told =
    let n = length xs - 1 in
    let below = slice_get_within xs n z (sym e) in
    let many = length-map xs (λ v. v.items) in
    let at = slice_get-map (λ v. v.items) xs n ∙ ap (option_map (λ v. v.items)) (sym e) in
    let last = after_last (series_of xs) n z.items x (omega (arith, below, many)) at in
    (λ k. last.1 (subst (λ y. IsBefore y x) same (told.0 k)), λ f. told.1 (subst (λ y. IsBefore y x) (sym same) (last.0 f)))

-- the numbers of a series line that was read are within the limits

value_cell : (v : ℤ) → is_value v ≡ true → IsCellValue v
value_cell v h = grind (arith, ints)

cell_values : (x : List ℤ) → list_all is_value x ≡ true → AllByRecursion IsCellValue x
cell_values [] h = tt
cell_values (v ∷ x) h = let each = and_parts (is_value v) (list_all is_value x) h in (value_cell v each.0, cell_values x each.1)

series_values : (x : List ℤ) → is_series x ≡ true → AllByRecursion IsCellValue x
series_values [] h = tt
series_values (v ∷ x) h = cell_values (v ∷ x) h

series_may : (s : State) (x : List ℤ) → may_follow s (SaysSeries x) ≡ true → is_series x ≡ true
series_may Start x h = cc
series_may (AfterAim a) x h = cc
series_may (InSeries n) x h = h
series_may (InTree c u) x h = cc
series_may AfterEnd x h = cc

pub read_values : (s : State) (line : Parsed) → may_follow s (line_seen line) ≡ true → AreValues line
read_values s (Aim a) h = tt
read_values s (ClaimLine c) h = tt
read_values s (Series x) h = series_values x.items (series_may s x.items h)
read_values s (Tree l) h = tt
read_values s (End checked unsearched) h = tt

-- How many occurrences a series has, and the value of a term from the parts that the code has.
use Rattle.std.specs.Prelude.{◌≡◌, ℕ, ◌+◌, ◌<◌, ◌≤◌, ℤ, List, [], ◌∷◌, map, length, refl}
use Rattle.std.proofs.Common.{sym, ◌∙◌, ap, subst, arith}
use Rattle.ts_base.specs.declared.ext.Ext.{Ext}
use Rattle.ts_base.specs.declared.letter.Letter.{Letter}
use Rattle.ts_base.specs.declared.range.Range.{Range}
use Rattle.ts_base.specs.Signature.{signature_of}
use Rattle.ts_regex.specs.Shape.{Shape}
use Rattle.ts_pattern.specs.declared.name.Aggregator.{Aggregator}
use Rattle.ts_pattern.specs.declared.name.Feature.{Feature}
use Rattle.ts_pattern.specs.declared.name.PatternId.{PatternId}
use Rattle.std.specs.List.{AllByRecursion}
use Rattle.ts_pattern.specs.Occurrences.{IsOccurrence}
use Rattle.ts_pattern.specs.OccurrenceList.{Place, RisingPlaces, e_range, AreRanges}
use Rattle.ts_pattern.specs.AllOccurrences.{occurrence_ranges}
use Rattle.ts_pattern.specs.PatternTable.{pattern_shape, pattern_b, pattern_a}
use Rattle.ts_pattern.specs.TermValue.{aggregate_of_ranges, value_of}
use Rattle.ts_pattern.proofs.CallerLemmas.{each_map}

pub signature_length : (xs : List ℤ) → 1 ≤ length xs → length (signature_of xs) + 1 ≡ length xs
signature_length [] q = absurd (omega arith)
signature_length (x ∷ []) q = refl
signature_length (x ∷ y ∷ xs) q = let h = signature_length (y ∷ xs) (omega arith) in omega arith

-- rising starts below n are at most n
rising_count : (low n : ℕ) (xs : List Place) → low ≤ n → RisingPlaces low xs → AllByRecursion (λ x. x.start < n) xs → low + length xs ≤ n
rising_count low n [] q r h = omega arith
rising_count low n (x ∷ xs) q r h =
    let a = r.0 in
    let b = h.0 in
    let k = rising_count (x.start + 1) n xs (omega arith) r.1 h.1 in
    omega arith

length_map : (b a : ℕ) (xs : List Place) → length (map (λ x. e_range b a x) xs) ≡ length xs
length_map b a [] = refl
length_map b a (x ∷ xs) = let h = length_map b a xs in omega arith

pub few_ranges : (p : Shape) (b a : ℕ) (w : List Letter) (ranges : List Range) → AreRanges p b a w ranges → length ranges ≤ length w
few_ranges p b a w ranges h =
    let count = rising_count 0 (length w) h.0 (omega arith) h.1.rising
    (each_map (λ x. IsOccurrence p w x.start x.end) (λ x. x.start < length w) (λ x o. let s = o.is.some in let i = o.is.inside in omega arith) h.0 h.1.each) in
    let n = length_map b a h.0 in
    subst (λ z. length z ≤ length w) (sym h.2) (omega arith)

pub value_is : (g : Aggregator) (f : Feature) (id : PatternId) (xs : List ℤ) (letters : List Letter) (p : Shape) (b a : ℕ) (ranges given : List Range)
    (v : Ext) → p ≡ pattern_shape id → b ≡ pattern_b id → a ≡ pattern_a id → letters ≡ signature_of xs → ranges ≡ occurrence_ranges p b a letters →
    given ≡ ranges → v ≡ aggregate_of_ranges g f given xs → v ≡ value_of g f id xs
unfolding value_of
value_is g f id xs letters p b a ranges given v ep eb ea el er eg ev =
    let all : given ≡ occurrence_ranges (pattern_shape id) (pattern_b id) (pattern_a id) (signature_of xs) =
    eg ∙ er
    ∙ ap (λ z. occurrence_ranges z b a letters) ep
    ∙ ap (λ z. occurrence_ranges (pattern_shape id) z a letters) eb
    ∙ ap (λ z. occurrence_ranges (pattern_shape id) (pattern_b id) z letters) ea
    ∙ ap (λ z. occurrence_ranges (pattern_shape id) (pattern_b id) (pattern_a id) z) el in
    ev ∙ ap (λ z. aggregate_of_ranges g f z xs) all

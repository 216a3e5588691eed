-- For tests: that a line may be followed, seen from the least and greatest values of its cell in the present box.
use Rattle.std.proofs.Common.{◌≡◌, ℕ, ◌≤◌, ℤ, ◌≤ℤ◌, ◌<ℤ◌, List, length, sym, subst, arith}
use Rattle.std.specs.Prelude.{Contains}
use Rattle.std.proofs.lemmas.Int.{ints}
use Rattle.ts_certificate.specs.declared.certificate.TreeLine.{TreeLine}
use Rattle.ts_certificate.specs.declared.certificate.TreeLine.TheVariants.{Split, Remove}
use Rattle.ts_domain.specs.BoxSeries.{Boxes, cell_of}
use Rattle.ts_domain.proofs.BoxLaws.{low_stays, high_stays, other_stays}
use Rattle.ts_filter.specs.Boxes.{HasCell}
use Rattle.ts_filter.specs.Rules.{IsSplit}
use Rattle.ts_filter.specs.Tree.{Removes}
use Rattle.ts_frontier.specs.Follow.{MakesBoxes}

cell_there : (b : Boxes) (k n : ℕ) → 1 ≤ k → k ≤ n → n ≡ length b.present → HasCell k b.present
cell_there b k n from to count = (from, omega (arith, to, count))

split_fits : (b : Boxes) (k : ℕ) (d : List ℤ) (low high t : ℤ) → HasCell k b.present → d ≡ cell_of k b → Contains d low → Contains d high →
    low ≤ℤ t → t <ℤ high → IsSplit k t b.present
split_fits b k d low high t cell is has_low has_high below above = record {
  cell = cell;
  below = low_stays b k d low t is has_low below;
  above = high_stays b k d high t is has_high above;
}

removal_fits : (b : Boxes) (k : ℕ) (d : List ℤ) (low high gone : ℤ) → HasCell k b.present → d ≡ cell_of k b → Contains d low → Contains d high →
    low <ℤ high → Contains d gone → Removes k gone b.present
removal_fits b k d low high gone cell is has_low has_high rise has = record {
  cell = cell;
  there = subst (λ z. Contains z gone) is has;
  leaves = λ none. other_stays b k d low gone is has_low (λ e. other_stays b k d high gone is has_high (λ f. grind (arith, ints)) none) none;
}

pub split_may : (l : TreeLine) (b : Boxes) (k n : ℕ) (d : List ℤ) (low high t : ℤ) → l ≡ Split k t → 1 ≤ k → k ≤ n → n ≡ length b.present →
    d ≡ cell_of k b → Contains d low → Contains d high → low ≤ℤ t → t <ℤ high → MakesBoxes l b.present
split_may l b k n d low high t line from to count is has_low has_high below above =
    subst (λ x. MakesBoxes x b.present) (sym line) (split_fits b k d low high t (cell_there b k n from to count) is has_low has_high below above)

pub removal_may : (l : TreeLine) (b : Boxes) (k n j : ℕ) (d : List ℤ) (low high gone : ℤ) → l ≡ Remove k gone j → 1 ≤ k → k ≤ n →
    n ≡ length b.present → d ≡ cell_of k b → Contains d low → Contains d high → low <ℤ high → Contains d gone → MakesBoxes l b.present
removal_may l b k n j d low high gone line from to count is has_low has_high rise has =
    subst (λ x. MakesBoxes x b.present) (sym line) (removal_fits b k d low high gone (cell_there b k n from to count) is has_low has_high rise has)

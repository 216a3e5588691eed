-- The words of the cells, which grow at their end: what has been written, and what the rest writes, are the whole.
use Rattle.std.proofs.Common.{◌≡◌, ℕ, suc, ◌+◌, ◌-◌, ◌<◌, Ok, Err, List, [], ◌∷◌, ◌++◌, sym, ap, ◌∙◌, append_assoc, arith}
use Rattle.std.specs.Prelude.{codes, OnOk, Result}
use Rattle.std.specs.Fmt.{decimal}
use Rattle.ts_base.specs.declared.error.Memory.{Memory}
use Rattle.ts_base.specs.declared.range.Range.{Range}
use Rattle.ts_mark.specs.MarkText.{count_line, holding, more_numbers, joined, cell_words}
use Rattle.ts_mark.specs.Rising.{AreRising}
use Rattle.ts_mark.specs.Walk.{ended, begun, counted}
use Rattle.ts_mark.proofs.Walk.{holding_counted}

-- the word of the cell after the first k
word_of : (ranges : List Range) (k first behind : ℕ) → AreRising ranges → first ≡ ended (k + 1) ranges → behind ≡ begun (k + 1) ranges →
    counted (first + 1) (behind - first) ≡ holding (k + 1) 1 ranges
word_of ranges k first behind rising starts ends =
    (λ i. counted (starts i + 1) (ends i - starts i)) ∙ sym (holding_counted (k + 1) 1 ranges rising)

-- one cell more
pub cell_more : (ranges : List Range) (k cells first behind : ℕ) (old mid new all : List ℕ) → AreRising ranges → k < cells →
    old ++ cell_words ranges (k + 1) (cells - k) ≡ all → first ≡ ended (k + 1) ranges → behind ≡ begun (k + 1) ranges → mid ≡ old ++ 32 ∷ [] →
    new ≡ mid ++ joined (counted (first + 1) (behind - first)) → new ++ cell_words ranges (k + 1 + 1) (cells - (k + 1)) ≡ all
cell_more ranges k cells first behind old mid new all rising within kept starts ends blank grown =
    let left : cells - k ≡ suc (cells - (k + 1)) = omega arith in
    let word = ap joined (word_of ranges k first behind rising starts ends) in
    ap (λ (x : List ℕ). x ++ cell_words ranges (k + 1 + 1) (cells - (k + 1)))
    (grown ∙ ap (λ (x : List ℕ). x ++ joined (counted (first + 1) (behind - first))) blank ∙ ap (λ (x : List ℕ). (old ++ 32 ∷ []) ++ x) word)
    ∙ append_assoc (old ++ 32 ∷ []) (joined (holding (k + 1) 1 ranges)) (cell_words ranges (k + 1 + 1) (cells - (k + 1)))
    ∙ append_assoc old (32 ∷ []) (joined (holding (k + 1) 1 ranges) ++ cell_words ranges (k + 1 + 1) (cells - (k + 1)))
    ∙ ap (λ (n : ℕ). old ++ cell_words ranges (k + 1) n) (sym left)
    ∙ kept

-- one number more after a `+`
pub number_more : (k behind : ℕ) (old mid new all : List ℕ) → k < behind → old ++ more_numbers (counted (k + 1) (behind - k)) ≡ all →
    mid ≡ old ++ 43 ∷ [] → new ≡ mid ++ decimal (k + 1) → new ++ more_numbers (counted (k + 1 + 1) (behind - (k + 1))) ≡ all
number_more k behind old mid new all within kept plus grown =
    let left : behind - k ≡ suc (behind - (k + 1)) = omega arith in
    ap (λ (x : List ℕ). x ++ more_numbers (counted (k + 1 + 1) (behind - (k + 1)))) (grown ∙ ap (λ (x : List ℕ). x ++ decimal (k + 1)) plus)
    ∙ append_assoc (old ++ 43 ∷ []) (decimal (k + 1)) (more_numbers (counted (k + 1 + 1) (behind - (k + 1))))
    ∙ append_assoc old (43 ∷ []) (decimal (k + 1) ++ more_numbers (counted (k + 1 + 1) (behind - (k + 1))))
    ∙ ap (λ (n : ℕ). old ++ more_numbers (counted (k + 1) n)) (sym left)
    ∙ kept

-- the first number, and the others after it
pub joined_more : (result : Result (Unit {0}) Memory) (first behind : ℕ) (old mid new : List ℕ) → first < behind → mid ≡ old ++ decimal (first + 1) →
    OnOk result (new ≡ mid ++ more_numbers (counted (first + 1 + 1) (behind - (first + 1)))) →
    OnOk result (new ≡ old ++ joined (counted (first + 1) (behind - first)))
joined_more (Ok x) first behind old mid new some begins grown =
    let left : behind - first ≡ suc (behind - (first + 1)) = omega arith in
    grown ∙ ap (λ (x : List ℕ). x ++ more_numbers (counted (first + 1 + 1) (behind - (first + 1)))) begins
    ∙ append_assoc old (decimal (first + 1)) (more_numbers (counted (first + 1 + 1) (behind - (first + 1))))
    ∙ ap (λ (n : ℕ). old ++ joined (counted (first + 1) n)) (sym left)
joined_more (Err e) first behind old mid new some begins grown = tt

-- the line with the number of ranges
pub count_told : (count : ℕ) (old head mid new : List ℕ) → head ≡ old ++ codes "occurrences " → mid ≡ head ++ decimal count → new ≡ mid ++ 10 ∷ [] →
    new ≡ old ++ count_line count
count_told count old head mid new begins told ends =
    ends
    ∙ ap (λ (x : List ℕ). x ++ 10 ∷ []) (told ∙ ap (λ (x : List ℕ). x ++ decimal count) begins)
    ∙ append_assoc (old ++ codes "occurrences ") (decimal count) (10 ∷ [])
    ∙ append_assoc old (codes "occurrences ") (decimal count ++ 10 ∷ [])

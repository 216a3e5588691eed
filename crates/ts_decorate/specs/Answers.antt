-- What a decorated automaton answers, on series far longer than those of a model.
use Rattle.std.specs.Prelude.{◌≡◌, ℕ, ◌≤◌, ℤ, IsTrue, List, length}
use Rattle.ts_base.specs.Signature.{signature_of}
use Rattle.ts_transducer.specs.declared.row.Row.{Row}
use Rattle.ts_transducer.specs.Typing.{is_typed}
use Rattle.ts_transducer.specs.Decode.{decode}
use Rattle.ts_pattern.specs.declared.name.Aggregator.{Aggregator}
use Rattle.ts_pattern.specs.declared.name.Feature.{Feature}
use Rattle.ts_pattern.specs.TermValue.{aggregate_of_ranges}
use Rattle.ts_automaton.specs.Body.{Body}
use Rattle.ts_automaton.specs.AutomatonRun.{answer, AreCellValues}

-- the most cells on which the answer is promised
abbrev pub longest : ℕ
longest = 100000

-- the answer on each series is the aggregate of the features of the ranges that the rows decode
abbrev pub AnswersRanges : Body → List Row → ℕ → Aggregator → Feature → Type 0
AnswersRanges b rows a g f =
    (xs : List ℤ) → 1 ≤ length xs → length xs ≤ longest → AreCellValues xs →
    answer b xs ≡ aggregate_of_ranges g f (decode rows a (signature_of xs)) xs

-- of the rows of each transducer, a trim of 0 or 1, and each aggregator and feature
abbrev pub ForRows : (List Row → ℕ → Aggregator → Feature → Type 0) → Type 0
ForRows P =
    (rows : List Row) → IsTrue (is_typed rows) → length rows ≤ 8 → (a : ℕ) → a ≤ 1 → (g : Aggregator) (f : Feature) →
    P rows a g f

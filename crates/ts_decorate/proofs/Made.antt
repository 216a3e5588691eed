-- The automaton of decorated rows is made, and answers what the rows decode.
use Rattle.std.specs.Prelude.{◌≡◌, ◌≤◌, ℕ, IsTrue, List, length}
use Rattle.std.proofs.Common.{sym, subst}
use Rattle.ts_transducer.specs.declared.row.Row.{Row}
use Rattle.ts_transducer.specs.Typing.{is_typed}
use Rattle.ts_pattern.specs.declared.name.Aggregator.{Aggregator}
use Rattle.ts_pattern.specs.declared.name.Feature.{Feature}
use Rattle.ts_automaton.specs.AutomatonRun.{HoldsMarkUpTo}
use Rattle.ts_automaton.specs.Body.{Body}
use Rattle.ts_automaton.specs.Typing.{is_automaton}
use Rattle.ts_decorate.specs.Answers.{AnswersRanges, longest}
use Rattle.ts_decorate.specs.Decoration.{decorated_body}
use Rattle.ts_decorate.proofs.Typed.{is_decorated_automaton}
use Rattle.ts_decorate.proofs.CallerLemmas.{answers_ranges, keeps_mark}

module _ (rows given : List Row) (typed : IsTrue (is_typed rows)) (these : given ≡ rows) (short : length given ≤ 8) (a : ℕ) (g : Aggregator) (f : Feature)
    (b : Body) (same : b ≡ decorated_body rows a g f) where
  few : length rows ≤ 8
  few = subst (λ l. length l ≤ 8) these short

  pub is_made : IsTrue (is_automaton b)
  is_made = subst (λ m. IsTrue (is_automaton m)) (sym same) (is_decorated_automaton rows typed few a g f)

  pub answers : a ≤ 1 → AnswersRanges b rows a g f
  answers one = subst (λ m. AnswersRanges m rows a g f) (sym same) (answers_ranges rows typed few a one g f)

  pub keeps : a ≤ 1 → HoldsMarkUpTo longest b
  keeps one = subst (HoldsMarkUpTo longest) (sym same) (keeps_mark rows typed few a one g f)

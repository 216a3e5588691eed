-- A problem that may be asked.
use Rattle.std.specs.Prelude.{◌≡◌, ◌≤◌, List, [], None, Some, length}
use Rattle.ts_base.specs.Limits.{most_requirements, most_terms}
use Rattle.ts_bound.specs.TermSpans.{Automata}
use Rattle.ts_filter.specs.Boxes.{Box, IsPart}
use Rattle.ts_filter.specs.Tables.{Tables}
use Rattle.ts_model.specs.Views.{model_parts}
use Rattle.ts_spans.specs.Machines.{automata_in, spans_in}
use Rattle.ts_search.specs.RightSpans.{AreRight}
use Rattle.ts_search.specs.declared.contest.Contest.{Contest}
use Rattle.ts_search.specs.declared.problem.Problem.{Problem}
use Rattle.ts_search.specs.declared.seeking.Seeking.{Seeking}
use Rattle.ts_search.specs.declared.seeking.Seeking.TheVariants.{Best as SeeksBest, First as SeeksFirst}

-- the model's terms and requirements are few, and its spans are right
pub record IsPosed (q : Problem) : Type 0 where
  pub right : AreRight (model_parts q.model.now) (spans_in (model_parts q.model.now))
  pub terms : length q.model.now.terms.entries ≤ most_terms
  pub requirements : length q.model.now.requirements.items ≤ most_requirements

-- the machines are those of the problem's terms
abbrev pub AreTablesOf : Problem → List Automata → Type 0
AreTablesOf q machines = machines ≡ automata_in (model_parts q.model.now)

-- the tables of these machines may be brought to a box: the problem is posed, the machines are those of its terms, and
-- the box lies in the model's
pub record MayBring (q : Problem) (machines : List Automata) (b : Box) : Type 0 where
  pub posed : IsPosed q
  pub part : IsPart b (model_parts q.model.now).cells
  pub tables : AreTablesOf q machines

-- nothing is asked of tables: the model has neither a requirement nor an objective
abbrev pub IsIdle : Problem → Type 0
IsIdle q = (q.model.now.requirements.items ≡ []) × (q.model.now.objective ≡ None)

-- the tables may be asked of a box: they might be brought to it, and have been where anything is asked
pub record MayAsk (q : Problem) (t : Tables) (b : Box) : Type 0 where
  pub posed : IsPosed q
  pub part : IsPart b (model_parts q.model.now).cells
  pub tables : AreTablesOf q t.machines
  pub on : (IsIdle q → ⊥) → t.cells ≡ b

-- the objective of a contest is the model's
abbrev pub HasObjective : Contest → Type 0
HasObjective q = q.problem.model.now.objective ≡ Some q.objective

-- what is sought may be: where it is the best series of a contest, its objective is the model's
abbrev pub MaySeek : Seeking → Type 0
MaySeek (SeeksBest c found) = HasObjective c.now
MaySeek (SeeksFirst q) = Unit {0}

-- How the structs of the code are seen.
use Rattle.std.specs.Prelude.{◌≡◌, ℕ, Bool, true, false, Option, Some, None, map}
use Rattle.ts_model.specs.Views.{model_parts}
use Rattle.ts_spans.specs.Machines.{spans_in}
use Rattle.ts_filter.specs.Boxes.{Box, IsPart}
use Rattle.ts_filter.specs.RefutedWorseDrop.{IsRefuted}
use Rattle.ts_search.specs.Dive.{Find}
use Rattle.ts_search.specs.Drops.{after_drops, next_drop}
use Rattle.ts_search.specs.LineOf.{Search, Contest, Sought, TheBest, TheFirst}
use Rattle.ts_search.specs.Turns.{State, ListState}
use Rattle.ts_search.specs.declared.found.FoundSeries.{FoundSeries}
use Rattle.ts_search.specs.declared.listing.ListTree.{ListTree}
use Rattle.ts_search.specs.declared.contest.Contest.{Contest as GivenContest}
use Rattle.ts_search.specs.declared.problem.Problem.{Problem}
use Rattle.ts_search.specs.declared.seeking.Seeking.{Seeking}
use Rattle.ts_search.specs.declared.seeking.Seeking.TheVariants.{Best as SeeksBest, First as SeeksFirst}
use Rattle.ts_search.specs.declared.tree.Tree.{Tree}

abbrev pub find_of : Option FoundSeries → Option Find
find_of None = None
find_of (Some f) = Some (record { series = f.series.items; value = f.value })

abbrev pub search_of : Problem → Search
search_of q = record {
  model = model_parts q.model.now;
  spans = spans_in (model_parts q.model.now);
}

abbrev pub contest_of : GivenContest → Contest
contest_of q = record { search = search_of q.problem; goal = q.goal; warm = find_of q.warm }

-- what is sought, and the problem of it
abbrev pub sought_of : Seeking → Sought
sought_of (SeeksBest c found) = TheBest (contest_of c.now) (find_of found.now)
sought_of (SeeksFirst q) = TheFirst (search_of q.now)

abbrev pub problem_of : Seeking → Problem
problem_of (SeeksBest c found) = c.now.problem
problem_of (SeeksFirst q) = q.now

abbrev pub state_of : Tree → State
state_of t = record { lines = t.lines.items; pending = t.frontier.boxes; found = find_of t.found }

abbrev pub list_state_of : ListTree → ListState
list_state_of t = record {
  lines = t.lines.items;
  pending = t.frontier.boxes;
  listed = map (λ x. x.items) t.listed.items;
}

-- after all drops none is possible; after some of them a requirement is refuted on the box
abbrev pub SettledBy : Search → Box → Bool → Type 0
SettledBy c b true = next_drop c.model c.spans b ≡ None
SettledBy c b false = (j p : ℕ) × IsRefuted c.model.requirements c.spans j p b

-- the second box lies in the model's, and both boxes come to the same one after all drops; no drop is left in it, or a
-- requirement is refuted on it
pub record IsSettled (c : Search) (before after : Box) (all : Bool) : Type 0 where
  pub part : IsPart after c.model.cells
  pub same : after_drops c.model c.spans after ≡ after_drops c.model c.spans before
  pub settled : SettledBy c after all

-- Machines that answer the values of their terms have spans that hold the values, and on a single series the value alone.
use Rattle.std.proofs.Common.{ℕ, ◌≤◌, ℤ, List, [], ◌∷◌, sym, ◌∙◌, ap, subst}
use Rattle.std.proofs.lemmas.List.{length-map}
use Rattle.ts_base.specs.Limits.{most_cells}
use Rattle.ts_base.specs.Spans.{Holds, one_span}
use Rattle.ts_base.specs.Windows.{LooksInside}
use Rattle.ts_automaton.specs.AutomatonRun.{AreCellValues}
use Rattle.ts_bound.specs.TermSpans.{Automata, term_span}
use Rattle.ts_bound.proofs.Reached.{spans_hold}
use Rattle.ts_bound.proofs.Singles.{spans_stay_single}
use Rattle.ts_domain.specs.BoxSeries.{InBox, IsBox}
use Rattle.ts_domain.specs.Values.{WithinLimits}
use Rattle.ts_domain.proofs.Sets.{each_contains}
use Rattle.ts_model.specs.Promise.{IsWhole}
use Rattle.ts_model.specs.ModelParts.{ModelParts}
use Rattle.ts_filter.specs.Boxes.{Box}
use Rattle.ts_filter.specs.MachineSpans.{HoldsTerm, TellsTerm, AnswersTerm, AnswersAreEnough}
use Rattle.ts_filter.proofs.BoxParts.{inside_length, in_box_inside}
use Rattle.ts_filter.proofs.MachineLaws.{machines_hold, machines_tell}
use Rattle.ts_filter.proofs.SoundLaws.{series_length}

cell_values : (x : List ℤ) (b : Box) → IsBox b → InBox x b → AreCellValues x
cell_values [] [] d h = tt
cell_values [] (e ∷ b) d h = absurd h
cell_values (v ∷ x) [] d h = absurd h
cell_values (v ∷ x) (e ∷ b) d h = (each_contains WithinLimits e v d.0.within h.0, cell_values x b d.1 h.1)

module _ (m : ModelParts) (term : ℕ) (a : Automata) (box : IsBox m.cells) (whole : IsWhole m) (h : AnswersTerm m term a) where
  holds_term : HoldsTerm m term a
  holds_term p b x v i u c e =
      let few = subst (λ k. k ≤ most_cells) (sym (inside_length b m.cells i.inside)) whole.few in
      let looks = subst (λ k. LooksInside k a.window) (sym (inside_length b m.cells i.inside)) h.looks in
      subst (λ w. Holds (term_span a p b) w) (h.answers x v (in_box_inside b m.cells x i.inside c) e)
      (spans_hold a h.machine h.marked b few i.box looks p u x c)

  tells_term : TellsTerm m term a
  tells_term x v c e =
      let n = sym (series_length x m.cells c) in
      let looks = subst (λ k. LooksInside k a.window) (n ∙ sym (length-map x (λ v. v ∷ []))) h.looks in
      spans_stay_single a h.machine x (subst (λ k. 1 ≤ k) n whole.some) (subst (λ k. k ≤ most_cells) n whole.few) (cell_values x m.cells box c) looks
      ∙ ap one_span (h.answers x v c e)

pub answers_are_enough : AnswersAreEnough
answers_are_enough m machines box whole h = (
  machines_hold m machines (λ term a is. holds_term m term a box whole (h.each term a is)),
  machines_tell m machines h.count (λ term a is. tells_term m term a box whole (h.each term a is)),
)

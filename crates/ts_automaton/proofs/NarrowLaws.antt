-- In a narrow automaton E and F are 0 in all registers, and hold 0 alone in each hull that isn't none.
use Rattle.std.proofs.Common.{◌≡◌, ◌<◌, ℕ, Bool, true, false, ◌&&◌, cond, ℤ, length, sym, ap, subst}
use Rattle.std.specs.Prelude.{IsTrue, ◌||◌}
use Rattle.std.specs.List.{list_all}
use Rattle.std.proofs.lemmas.Bool.{and_parts}
use Rattle.ts_base.specs.declared.ext.Ext.{Ext}
use Rattle.ts_base.specs.declared.letter.Letter.{Letter}
use Rattle.ts_base.specs.declared.letter.Letter.TheVariants.{Less, Equal, Greater}
use Rattle.ts_base.specs.declared.span.Span.{Span}
use Rattle.ts_base.specs.Signature.{letter_of}
use Rattle.ts_automaton.specs.declared.expr.Atom.TheVariants.{Zero}
use Rattle.ts_automaton.specs.Formula.{Leaf, is_zero}
use Rattle.ts_automaton.specs.Registers.{numbers, spans, value_in}
use Rattle.ts_automaton.specs.Body.{Body, Move, move_on, node_at, rest_node}
use Rattle.ts_automaton.specs.Typing.{each_is, is_constant, is_number_zero, is_expression, are_expressions, has_expressions_in, has_few_states, has_names, has_constants, has_targets, has_expressions, is_formed, is_typed, is_automaton}
use Rattle.ts_automaton.specs.AutomatonRun.{Standing, registers_after, move_between}
use Rattle.ts_automaton.specs.SpanRun.{none_hull}
use Rattle.ts_automaton.specs.Laws.{AreZero, HoldZero, NarrowRests}
use Rattle.ts_automaton.proofs.LineLaws.{three_parts, number_zero}
use Rattle.ts_automaton.proofs.MoveLaws.{zero_only}
use Rattle.ts_automaton.proofs.Rules.{passed_at}

-- the expressions of E and F
abbrev ZeroMove : Move → Type 0
ZeroMove m = (Leaf Zero ≡ m.to.e) × (Leaf Zero ≡ m.to.f)

zero_move : (m : Move) → are_expressions false m.to ≡ true → ZeroMove m
zero_move m h =
    let p = and_parts (each_is (is_expression false) m.to) (is_zero m.to.e && is_zero m.to.f) h in
    let q = and_parts (is_zero m.to.e) (is_zero m.to.f) p.1 in
    (zero_only m.to.e q.0, zero_only m.to.f q.1)

module _ (b : Body) (a : IsTrue (is_automaton b)) (narrow : b.wide ≡ false) where
  formed : (has_constants b ≡ true) × (has_expressions b ≡ true)
  formed =
      let p = and_parts (is_formed b) (is_typed b) a in
      let q = and_parts (has_few_states b && has_names b && has_constants b && has_targets b) (has_expressions b) p.0 in
      let r = and_parts (has_few_states b && has_names b && has_constants b) (has_targets b) q.0 in
      let s = and_parts (has_few_states b && has_names b) (has_constants b) r.0 in
      (s.1, q.1)

  zero_start : AreZero b.start
  zero_start =
      let h = subst (λ (w : Bool). (each_is is_constant b.start && (w || (is_number_zero b.start.e && is_number_zero b.start.f))) ≡ true) narrow formed.0 in
      let p = and_parts (each_is is_constant b.start) (is_number_zero b.start.e && is_number_zero b.start.f) h in
      let q = and_parts (is_number_zero b.start.e) (is_number_zero b.start.f) p.1 in
      (sym (number_zero b.start.e q.0), sym (number_zero b.start.f q.1))

  zero_moves : (q : ℕ) (l : Letter) → q < length b.states → ZeroMove (move_on l (node_at b.states q))
  zero_moves q l h = go l
    where
      all : list_all (has_expressions_in b.wide) b.states ≡ true
      all = (and_parts (list_all (has_expressions_in b.wide) b.states) (is_expression b.wide b.finish) formed.1).0

      here : has_expressions_in false (node_at b.states q) ≡ true
      here =
          subst (λ (w : Bool). has_expressions_in w (node_at b.states q) ≡ true) narrow
          (passed_at (has_expressions_in b.wide) b.states q rest_node all h)

      three : (are_expressions false (node_at b.states q).less.to ≡ true) × (are_expressions false (node_at b.states q).equal.to ≡ true)
          × (are_expressions false (node_at b.states q).greater.to ≡ true)
      three = three_parts _ _ _ here

      go : (l : Letter) → ZeroMove (move_on l (node_at b.states q))
      go Less = zero_move (node_at b.states q).less three.0
      go Equal = zero_move (node_at b.states q).equal three.1
      go Greater = zero_move (node_at b.states q).greater three.2

  zero_step : (s : Standing Ext) → s.state < length b.states → (x y : ℤ) → AreZero (registers_after numbers s.regs x y (move_between b s.state x y))
  zero_step s h x y =
      let m = zero_moves s.state (letter_of x y) h in
      (sym (ap (value_in numbers s.regs x y) m.0), sym (ap (value_in numbers s.regs x y) m.1))

  zero_spans : (s : Standing Span) → s.state < length b.states → (x y : ℤ) → HoldZero (registers_after spans s.regs x y (move_between b s.state x y))
  zero_spans s h x y =
      let m = zero_moves s.state (letter_of x y) h in
      (sym (ap (value_in spans s.regs x y) m.0), sym (ap (value_in spans s.regs x y) m.1))

pub narrow_rests : NarrowRests
narrow_rests b a narrow = record {
  start = zero_start b a narrow;
  step = zero_step b a narrow;
  span_step = λ s h t x y. subst (λ (v : Bool). HoldZero (cond v (registers_after spans s.regs x y (move_between b s.state x y)) none_hull)) (sym t)
      (zero_spans b a narrow s h x y);
}

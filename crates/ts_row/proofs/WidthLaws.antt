-- In a narrow automaton E and F stay 0, in its moves and at the start, and its expressions are narrow.
use Rattle.std.proofs.Common.{◌≡◌, ◌<◌, ℕ, Bool, true, false, ◌&&◌, ◌||◌, length, sym, ap, subst, ◌∙◌}
use Rattle.std.specs.Prelude.{IsTrue}
use Rattle.std.specs.List.{list_all}
use Rattle.std.proofs.lemmas.Bool.{and_parts}
use Rattle.ts_base.specs.declared.letter.Letter.{Letter}
use Rattle.ts_base.specs.declared.letter.Letter.TheVariants.{Less, Equal, Greater}
use Rattle.ts_automaton.specs.Formula.{Formula, is_narrow, is_of, is_zero}
use Rattle.ts_automaton.specs.Registers.{rests}
use Rattle.ts_automaton.specs.Body.{Body, Move, Node, move_on, node_at, rest_node}
use Rattle.ts_automaton.specs.Typing.{each_is, is_constant, is_number_zero, is_expression, is_short, are_expressions, has_expressions_in, has_few_states, has_names, has_constants, has_targets, has_expressions, is_formed, is_typed, is_automaton}
use Rattle.ts_automaton.proofs.Five.{five_parts}
use Rattle.ts_automaton.proofs.Rules.{passed_at}
use Rattle.ts_sweep.specs.Fronts.{IsNarrowMove}

abbrev Formed : Body → Type 0
Formed b = (has_constants b ≡ true) × (has_expressions b ≡ true)

formed : (b : Body) → IsTrue (is_automaton b) → Formed b
formed b a =
    let p = and_parts (is_formed b) (is_typed b) a in
    let q = and_parts (has_few_states b && has_names b && has_constants b && has_targets b) (has_expressions b) p.0 in
    let r = and_parts (has_few_states b && has_names b && has_constants b) (has_targets b) q.0 in
    ((and_parts (has_few_states b && has_names b) (has_constants b) r.0).1, q.1)

pub start_constants : (b : Body) → IsTrue (is_automaton b) → each_is is_constant b.start ≡ true
start_constants b a = (and_parts (each_is is_constant b.start) (rests is_number_zero b.wide b.start) (formed b a).0).0

pub start_rests : (b : Body) → IsTrue (is_automaton b) → rests is_number_zero b.wide b.start ≡ true
start_rests b a = (and_parts (each_is is_constant b.start) (rests is_number_zero b.wide b.start) (formed b a).0).1

-- the expressions of a move are of its width
node_moves : (wide : Bool) (s : Node) → has_expressions_in wide s ≡ true → (l : Letter) → are_expressions wide (move_on l s).to ≡ true
node_moves wide s h l = go l
  where
    outer : ((are_expressions wide s.less.to && are_expressions wide s.equal.to) ≡ true) × (are_expressions wide s.greater.to ≡ true)
    outer = and_parts (are_expressions wide s.less.to && are_expressions wide s.equal.to) (are_expressions wide s.greater.to) h

    inner : (are_expressions wide s.less.to ≡ true) × (are_expressions wide s.equal.to ≡ true)
    inner = and_parts (are_expressions wide s.less.to) (are_expressions wide s.equal.to) outer.0

    go : (l : Letter) → are_expressions wide (move_on l s).to ≡ true
    go Less = inner.0
    go Equal = inner.1
    go Greater = outer.1

move_formed : (b : Body) → IsTrue (is_automaton b) → (q : ℕ) (l : Letter) → q < length b.states → (u : Move) → u ≡ move_on l (node_at b.states q) →
    are_expressions b.wide u.to ≡ true
move_formed b a q l h u e =
    let all = (and_parts (list_all (has_expressions_in b.wide) b.states) (is_expression b.wide b.finish) (formed b a).1).0 in
    subst (λ (v : Move). are_expressions b.wide v.to ≡ true) (sym e)
    (node_moves b.wide (node_at b.states q) (passed_at (has_expressions_in b.wide) b.states q rest_node all h) l)

pub move_rests : (b : Body) → IsTrue (is_automaton b) → (q : ℕ) (l : Letter) → q < length b.states → (u : Move) → u ≡ move_on l (node_at b.states q) →
    rests is_zero b.wide u.to ≡ true
move_rests b a q l h u e = (and_parts (each_is (is_expression b.wide) u.to) (rests is_zero b.wide u.to) (move_formed b a q l h u e)).1

-- the expressions of a narrow automaton are narrow
narrow_expression : (wide : Bool) (f : Formula) → wide ≡ false → is_expression wide f ≡ true → is_narrow f ≡ true
narrow_expression wide f narrow h =
    ap (λ w. w || is_narrow f) (sym narrow) ∙ (and_parts (is_short f) (is_of wide f) h).1

pub move_narrow : (b : Body) → IsTrue (is_automaton b) → (q : ℕ) (l : Letter) → q < length b.states → (u : Move) → u ≡ move_on l (node_at b.states q) →
    b.wide ≡ false → IsNarrowMove u
move_narrow b a q l h u e narrow =
    let each = (and_parts (each_is (is_expression b.wide) u.to) (rests is_zero b.wide u.to) (move_formed b a q l h u e)).0 in
    let p = five_parts (is_expression b.wide u.to.c) (is_expression b.wide u.to.e) (is_expression b.wide u.to.d) (is_expression b.wide u.to.f)
    (is_expression b.wide u.to.r) each in
    (narrow_expression b.wide u.to.c narrow p.0, (narrow_expression b.wide u.to.d narrow p.2, (narrow_expression b.wide u.to.r narrow p.4, tt)))

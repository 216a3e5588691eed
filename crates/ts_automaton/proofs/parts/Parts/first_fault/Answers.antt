use Rattle.std.proofs.Common.{◌∙◌, ap, sym, cond, None, Some}
use Rattle.std.proofs.lemmas.List.{length-map}
use Rattle.ts_automaton.specs.declared.typing.Place.TheVariants.{Finish}
use Rattle.ts_automaton.specs.Body.{node_of, parts_of}
use Rattle.ts_automaton.proofs.Listed.{first_is_move, first_is_finish}
use Rattle.ts_automaton.proofs.parts.Parts.first_fault.Goals as goal

pub returns-then-is_some : goal.returns-then-is_some
returns-then-is_some c =
    first_is_move (parts_of c.args.self.now) _ _ (sym (length-map c.args.self.now.states.items node_of)) (sym c.starts_held.ensures ∙ c.if-starts_held.false)
    c.first_move_fault-moving.ensures (sym c.is_some.ensures ∙ c.if-is_some.true)

pub returns-then-is_finish_typed : goal.returns-then-is_finish_typed
returns-then-is_finish_typed c =
    ap (λ v. cond v None (Some Finish)) (sym c.if-is_finish_typed.true)
    ∙ first_is_finish (parts_of c.args.self.now) _ _ _ (sym (length-map c.args.self.now.states.items node_of))
    (sym c.starts_held.ensures ∙ c.if-starts_held.false)
    c.first_move_fault-moving.ensures (sym c.is_some.ensures ∙ c.if-is_some.false) c.is_finish_typed.ensures

pub returns-else-is_finish_typed : goal.returns-else-is_finish_typed
returns-else-is_finish_typed c =
    ap (λ v. cond v None (Some Finish)) (sym c.if-is_finish_typed.false)
    ∙ first_is_finish (parts_of c.args.self.now) _ _ _ (sym (length-map c.args.self.now.states.items node_of))
    (sym c.starts_held.ensures ∙ c.if-starts_held.false)
    c.first_move_fault-moving.ensures (sym c.is_some.ensures ∙ c.if-is_some.false) c.is_finish_typed.ensures

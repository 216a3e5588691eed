use Rattle.std.proofs.Common.{◌∙◌, ◌&&◌, ap, sym}
use Rattle.std.specs.Prelude.{is_none}
use Rattle.ts_automaton.specs.Body.{parts_of}
use Rattle.ts_automaton.specs.Typing.{is_typed}
use Rattle.ts_automaton.proofs.Listed.{none_told, typed_or_fault}
use Rattle.ts_automaton.proofs.parts.Parts.keep_rules.Goals as goal

pub returns-then-is_formed : goal.returns-then-is_formed
returns-then-is_formed c =
    none_told _ _ c.is_none.ensures ∙ ap is_none c.first_fault.ensures ∙ sym (typed_or_fault (parts_of c.args.self.now))
    ∙ ap (λ v. v && is_typed (parts_of c.args.self.now)) (sym c.if-is_formed.true ∙ c.is_formed.ensures)

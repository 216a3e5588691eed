use Rattle.std.proofs.Common.{◌≡◌, ◌-◌, length, take, drop, ◌∙◌, ap, sym, ◌&&◌, not, arith}
use Rattle.std.proofs.lemmas.Grind.{common_steps}
use Rattle.ts_automaton.proofs.Listed.{different_more, has_name_already}
use Rattle.ts_automaton.proofs.parts.+are_different.Goals as goal

pub returns-then-not-has_name : goal.returns-then-not-has_name
returns-then-not-has_name t c =
    let u : take (length c.args.states.now - 1) (drop 1 c.args.states.now) ≡ drop 1 c.args.states.now = grind (arith, common_steps) in
    ap (λ v. not v && c.are_different.result) (sym c.if-not-has_name.true)
    ∙ different_more c.args.states.now _ c.first-item.result _ _ c.in-len1-up.len_at_least u c.first-item.is c.has_name.ensures c.are_different.ensures

pub returns-else-not-has_name : goal.returns-else-not-has_name
returns-else-not-has_name t c =
    let u : take (length c.args.states.now - 1) (drop 1 c.args.states.now) ≡ drop 1 c.args.states.now = grind (arith, common_steps) in
    has_name_already c.args.states.now _ c.first-item.result _ c.in-len1-up.len_at_least u c.first-item.is c.has_name.ensures c.if-not-has_name.false

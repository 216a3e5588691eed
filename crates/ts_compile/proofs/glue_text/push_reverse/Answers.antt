use Rattle.std.proofs.Common.{subst, sym}
use Rattle.std.specs.Prelude.{IsTrue}
use Rattle.ts_automaton.specs.Body.{Body}
use Rattle.ts_glue.specs.Pairs.{pair, table_view}
use Rattle.ts_glue.specs.Rules.{has_join_states}
use Rattle.ts_compile.proofs.JoinStates.{states_there}
use Rattle.ts_compile.proofs.glue_text.push_reverse.Goals as goal

pub push_glued-requires : goal.push_glued-requires
push_glued-requires c =
    let lent = c.in-Some-Some in
    subst (λ (forward : Body). IsTrue (has_join_states (pair forward lent.reverse.now (table_view lent.table.now)))) (sym c.forward.ensures)
    (states_there c.args.machine.now lent.reverse.now (table_view lent.table.now) (sym lent.ensures) (sym lent.ensures'))

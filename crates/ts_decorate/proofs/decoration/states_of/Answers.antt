use Rattle.std.proofs.Common.{refl}
use Rattle.ts_decorate.proofs.States.{one_more_state, no_state_left}
use Rattle.ts_decorate.proofs.decoration.states_of.Goals as goal

abbrev pub loop-k-preserved : goal.loop-k-preserved
loop-k-preserved c =
    one_more_state c.args.builder.now.a c.args.builder.now.aggregator c.args.builder.now.feature c.args.rows.now c.loop-k.k _ _ _ _
    c.loop-k.states.items c.push.new.self.items c.in_ok-state.field-0 _
    c.loop-k-test.true c.requires refl refl c.in_ok-state.ensures c.in_ok-push.ensures.items c.loop-k.invariant

abbrev pub returns : goal.returns
returns c =
    no_state_left c.args.builder.now.a c.args.builder.now.aggregator c.args.builder.now.feature c.args.rows.now c.loop-k.k c.loop-k.states.items _
    c.loop-k-test.false c.loop-k.invariant

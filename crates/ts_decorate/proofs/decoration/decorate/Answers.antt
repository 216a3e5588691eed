use Rattle.std.proofs.Common.{rules, pos}
use Rattle.ts_base.specs.declared.ext.Ext.{Ext}
use Rattle.ts_base.specs.declared.ext.Ext.TheVariants.{Int}
use Rattle.ts_automaton.specs.declared.regs.Regs.{Regs}
use Rattle.ts_automaton.specs.Body.{body_of}
use Rattle.ts_transducer.specs.Rows.{rows_of}
use Rattle.ts_decorate.proofs.Made.{is_made, answers, keeps}
use Rattle.ts_decorate.proofs.decoration.decorate.Goals as goal

pub unwrap-requires : goal.unwrap-requires
unwrap-requires c =
    let zero : Ext = Int (pos 0) in
    let start : Regs = record { c = c.value-none.result; e = zero; d = c.value-neutral.result; f = c.value-low.result; r = c.value-none.result } in
    c.new.ensures.exactly.1
    (is_made (rows_of c.args.t.now) c.rows.result.now c.args.t.now.typed c.rows.ensures.rows c.rows.ensures.few c.args.a c.args.aggregator c.args.feature
    (body_of c.in_ok-states.states.items start c.in_ok-finish.finish c.mark.result c.is_some-wide.result) (search rules))

pub returns-clause-answer : goal.returns-clause-answer
returns-clause-answer c =
    answers (rows_of c.args.t.now) c.rows.result.now c.args.t.now.typed c.rows.ensures.rows c.rows.ensures.few c.args.a c.args.aggregator c.args.feature
    c.unwrap.result (search rules) c.requires

pub returns-clause-mark : goal.returns-clause-mark
returns-clause-mark c =
    keeps (rows_of c.args.t.now) c.rows.result.now c.args.t.now.typed c.rows.ensures.rows c.rows.ensures.few c.args.a c.args.aggregator c.args.feature
    c.unwrap.result (search rules) c.requires

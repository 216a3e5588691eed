use Rattle.std.proofs.Common.{◌∙◌, subst, sym}
use Rattle.ts_transducer.specs.Rows.{rows_of}
use Rattle.ts_glue.specs.Pairs.{table_view}
use Rattle.ts_compile.specs.Compiled.{AnswersTerm}
use Rattle.ts_compile.proofs.Pairs.{body_is, forward_found, made_by_tables}
use Rattle.ts_compile.proofs.Tables.{compiled_answers}
use Rattle.ts_compile.proofs.compile.compile_term.Goals as goal

pub glued-requires-clause-rules : goal.glued-requires-clause-rules
glued-requires-clause-rules c =
    (made_by_tables c.args.t.now c.in-Some.partner (rows_of c.transducer_by_id-rows.result) (rows_of c.transducer_by_id-back.result) c.trim_after-a.result
    c.in_ok-joins-in-Some.joins.items c.in_ok-forward.forward c.in_ok-reverse-in-Some.reverse (table_view c.glue_table-table.result)
    (sym c.partner_by_id.ensures ∙ c.in-Some.is) c.transducer_by_id-rows.ensures.table c.transducer_by_id-back.ensures.table c.trim_after-a.ensures.value
    c.in_ok-joins-in-Some.ensures c.in_ok-forward.ensures.body c.in_ok-reverse-in-Some.ensures.body c.glue_table-table.ensures).0.0

pub glued-requires-clause-local : goal.glued-requires-clause-local
glued-requires-clause-local c =
    (made_by_tables c.args.t.now c.in-Some.partner (rows_of c.transducer_by_id-rows.result) (rows_of c.transducer_by_id-back.result) c.trim_after-a.result
    c.in_ok-joins-in-Some.joins.items c.in_ok-forward.forward c.in_ok-reverse-in-Some.reverse (table_view c.glue_table-table.result)
    (sym c.partner_by_id.ensures ∙ c.in-Some.is) c.transducer_by_id-rows.ensures.table c.transducer_by_id-back.ensures.table c.trim_after-a.ensures.value
    c.in_ok-joins-in-Some.ensures c.in_ok-forward.ensures.body c.in_ok-reverse-in-Some.ensures.body c.glue_table-table.ensures).0.1

pub returns-in_ok-joins-in-Some-clause-pair : goal.returns-in_ok-joins-in-Some-clause-pair
returns-in_ok-joins-in-Some-clause-pair c =
    (made_by_tables c.args.t.now c.in-Some.partner (rows_of c.transducer_by_id-rows.result) (rows_of c.transducer_by_id-back.result) c.trim_after-a.result
    c.in_ok-joins-in-Some.joins.items c.in_ok-forward.forward c.in_ok-reverse-in-Some.reverse (table_view c.glue_table-table.result)
    (sym c.partner_by_id.ensures ∙ c.in-Some.is) c.transducer_by_id-rows.ensures.table c.transducer_by_id-back.ensures.table c.trim_after-a.ensures.value
    c.in_ok-joins-in-Some.ensures c.in_ok-forward.ensures.body c.in_ok-reverse-in-Some.ensures.body c.glue_table-table.ensures).1 _ c.glued.ensures.pair

pub returns-in_ok-joins-in-Some-clause-body : goal.returns-in_ok-joins-in-Some-clause-body
returns-in_ok-joins-in-Some-clause-body c =
    forward_found c.glued.result.forward c.glued.result.half _ c.glued.ensures.pair
    ∙ body_is c.in_ok-forward.forward c.args.t.now (rows_of c.transducer_by_id-rows.result) c.trim_after-a.result c.transducer_by_id-rows.ensures.table
    c.trim_after-a.ensures.value c.in_ok-forward.ensures.body

pub returns-in_ok-joins-in-Some-clause-answer : goal.returns-in_ok-joins-in-Some-clause-answer
returns-in_ok-joins-in-Some-clause-answer c =
    subst (λ b. AnswersTerm b c.args.t.now) (sym (forward_found c.glued.result.forward c.glued.result.half _ c.glued.ensures.pair
    ∙ body_is c.in_ok-forward.forward c.args.t.now (rows_of c.transducer_by_id-rows.result) c.trim_after-a.result c.transducer_by_id-rows.ensures.table
    c.trim_after-a.ensures.value c.in_ok-forward.ensures.body)) (compiled_answers c.args.t.now)

pub returns-in-None-clause-body : goal.returns-in-None-clause-body
returns-in-None-clause-body c =
    c.plain.ensures.forward
    ∙ body_is c.in_ok-forward.forward c.args.t.now (rows_of c.transducer_by_id-rows.result) c.trim_after-a.result c.transducer_by_id-rows.ensures.table
    c.trim_after-a.ensures.value c.in_ok-forward.ensures.body

pub returns-in-None-clause-answer : goal.returns-in-None-clause-answer
returns-in-None-clause-answer c =
    subst (λ b. AnswersTerm b c.args.t.now) (sym (c.plain.ensures.forward
    ∙ body_is c.in_ok-forward.forward c.args.t.now (rows_of c.transducer_by_id-rows.result) c.trim_after-a.result c.transducer_by_id-rows.ensures.table
    c.trim_after-a.ensures.value c.in_ok-forward.ensures.body)) (compiled_answers c.args.t.now)

use Rattle.std.proofs.Common.{sym, ◌∙◌, ap, arith}
use Rattle.ts_witness.specs.Letters.{node_reads_letters}
use Rattle.ts_witness.proofs.Letters.{all_read, read_next}
use Rattle.ts_witness.proofs.reading.reads_letters.Goals as goal

pub loop-q-preserved : goal.loop-q-preserved
loop-q-preserved c =
    read_next c.args.a.now.states c.loop-q.q c.loop-q.invariant
    (ap node_reads_letters (sym c.state.ensures.value) ∙ sym c.node_reads_letters.ensures ∙ c.if-not-node_reads_letters.false)

pub returns : goal.returns
returns c =
    let count = c.states-q-end.ensures.count in let end = c.loop-q-test.false in
    λ t. all_read c.args.a.now (λ i l. c.loop-q.invariant i (omega (arith, count, end, l)))

use Rattle.std.proofs.Common.{refl, rules}
use Rattle.std.proofs.lemmas.Bool.{false≢true}
use Rattle.std.proofs.lemmas.Int.{to_z-of_z}
use mir.Syntax.{w64}
use Rattle.ts_frontier.proofs.Halves.{halving_next, halving_here, all_single}
use Rattle.ts_frontier.proofs.halve.halving_from.Goals as goal

pub returns-then-not-is_single : goal.returns-then-not-is_single
returns-then-not-is_single c =
    halving_here c.args.b.now.present c.loop-i.i c.cells-i-end.result c.cell-domain.result.now c.lower_middle.result _
    c.loop-i-test.true c.cells-i-end.ensures.count c.cell-domain.ensures c.lower_middle.ensures.domain.some
    (λ one. false≢true (c.if-not-is_single.ensures.1 one)) c.lower_middle.ensures.middle
    (to_z-of_z w64 c.lower_middle.result (search rules)) c.loop-i.invariant

pub loop-i-preserved : goal.loop-i-preserved
loop-i-preserved c =
    halving_next c.args.b.now.present c.loop-i.i c.cells-i-end.result c.cell-domain.result.now c.loop-i-test.true
    c.cells-i-end.ensures.count c.cell-domain.ensures (c.if-not-is_single.ensures.0 refl) c.loop-i.invariant

pub returns : goal.returns
returns c =
    all_single c.args.b.now.present c.cells-i-end.result c.loop-i.i c.loop-i-test.false c.cells-i-end.ensures.count c.loop-i.invariant

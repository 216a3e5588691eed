use Rattle.std.proofs.Common.{sym, ◌∙◌, w64}
use Rattle.std.proofs.lemmas.Bool.{not-false}
use Rattle.std.proofs.lemmas.Int.{to_z-of_z}
use Rattle.ts_automaton.specs.Registers.{spans_of}
use Rattle.ts_automaton.specs.SpanRun.{has_registers}
use Rattle.ts_bound.proofs.FitLaws.{pair_told}
use Rattle.ts_bound.proofs.block.glue_pair.Goals as goal

pub packed-requires : goal.packed-requires
packed-requires c = record {
  some = not-false (has_registers (spans_of c.args.left.now)) (sym c.is_none.ensures ∙ c.if-is_none.false);
  fits = c.requires.left_fits;
}

pub packed-requires-2 : goal.packed-requires-2
packed-requires-2 c = record {
  some = not-false (has_registers (spans_of c.args.right.now)) (sym c.is_none-else-is_none.ensures ∙ c.if-is_none-2.false);
  fits = c.requires.right_fits;
}

pub returns : goal.returns
returns c p h =
    pair_told p c.args.q c.args.r _ _ c.args.left.now c.args.right.now _ c.args.cell c.args.n c.glued_pair.result c.packed.ensures.hull c.packed-2.ensures.hull
    (to_z-of_z w64 c.args.cell c.ranges.cell) (c.glued_pair.ensures p h)

use Rattle.std.proofs.Common.{sym, ◌∙◌}
use Rattle.std.proofs.lemmas.Bool.{both_ways}
use Rattle.ts_domain.proofs.CutLaws.{in_piece, under_piece, over_piece}
use Rattle.ts_domain.proofs.pieces.has_in.Goals as goal
use Rattle.ts_domain.proofs.pieces.has_in.Goals.{then-piece-v, else-piece-v}

pub returns-then-v-piece : goal.returns-then-v-piece
returns-then-v-piece c = elim c.if-piece-v.branch [
  | then-piece-v w ↦ in_piece c.args.ranges.now c.args.piece c.args.v c.has.result c.requires.apart c.requires.piece c.ranges.v w.if-piece-v.true
      (sym w.value-is ∙ c.if-v-piece.true) c.has.ensures
  | else-piece-v w ↦ absurd (both_ways c.if-piece-v.value (w.value-is ∙ w.if-piece-v.false) c.if-v-piece.true)
]

pub returns-else-v-piece : goal.returns-else-v-piece
returns-else-v-piece c = elim c.if-piece-v.branch [
  | then-piece-v w ↦ over_piece c.args.ranges.now c.args.piece c.args.v c.if-piece-v.value c.requires.apart c.requires.piece c.ranges.v
      (sym w.value-is ∙ c.if-v-piece.false) c.if-v-piece.false
  | else-piece-v w ↦ under_piece c.args.ranges.now c.args.piece c.args.v c.if-piece-v.value c.requires.apart c.requires.piece c.ranges.v
      w.if-piece-v.false c.if-v-piece.false
]

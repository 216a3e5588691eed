use Rattle.std.proofs.Common.{◌≡◌, ◌<◌, ◌≤◌, vec_len}
use Rattle.ts_base.proofs.Taking.{HasTaken}
use Rattle.ts_base.proofs.read_write.take_all.Given as goal

abbrev pub invariant-loop-buffer : goal.invariant-loop-buffer
invariant-loop-buffer g l = record {
  taken : HasTaken g.I.Intake.took l.limit l.spare (g.S.Source.left l.fn.source) (g.S.Source.left l.source) l.intake;
  room : 0 < vec_len l.buffer;
  calm : g.S.Source.source_faults l.source ≡ g.S.Source.source_faults l.fn.source;
  ends : g.S.Source.source_ends l.source ≡ g.S.Source.source_ends l.fn.source;
  later : g.S.Source.source_faults l.fn.source ≤ g.S.Source.source_faults l.source;
}

abbrev pub decreases-loop-buffer : goal.decreases-loop-buffer
decreases-loop-buffer g l = l.spare

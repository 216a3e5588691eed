use Rattle.std.proofs.Common.{rules, arith, ◌+◌, ◌≡◌, ◌∙◌, ap, ◌++◌, take, min, ◌-◌, ◌≤◌, length, vec_len, IsOk, false}
use Rattle.std.proofs.lemmas.Grind.{common_steps}
use Rattle.std.proofs.lemmas.List.{length-take}
use Rattle.std.specs.Vec.{vec_capacity}
use Rattle.ts_base.specs.Never.{after_keeping, RoomState}
use Rattle.ts_base.proofs.Pieces.{kept_in_room}
use Rattle.ts_base.proofs.never.NeverSinkSink.write.Goals as goal

pub returns-clause-after : goal.returns-clause-after
returns-clause-after c =
    let piece = c.args.piece.now in
    let kept = c.self.inside.kept.items in
    let room = c.self.inside.most in
    let len : vec_len c.self.inside.kept ≡ length kept = search rules in
    let fits : c.min-fits.result ≡ min (room - length kept) (length piece) =
    c.min-fits.ensures ∙ ap (λ n. min (room - n) (length piece)) (c.len.ensures ∙ len) in
    let enough : vec_len c.self.inside.kept + length (take c.min-fits.result piece) ≤ vec_capacity c.self.inside.kept =
    omega (arith, len, fits, length-take c.min-fits.result piece, c.self.invariant.0, c.self.invariant.1) in
    let fine : IsOk c.extend_from_slice.result = c.extend_from_slice.ensures.succeeds enough in
    let items : c.extend_from_slice.new.self.items ≡ kept ++ take c.min-fits.result piece = grind (arith, common_steps) in
    let all = items ∙ ap (λ n. kept ++ take n piece) fits ∙ kept_in_room kept piece room (omega (arith, len, c.self.invariant.0)) in
    ap {B = RoomState} (λ bytes. record { kept = bytes; most = room; finished = false; finishes = c.self.inside.finishes }) all
    ∙ ap (after_keeping piece) c.self.view_is

use Rattle.std.proofs.Common.{subst, sym, ap, ◌++◌, arith, length-append}
use Rattle.ts_checker.specs.Feeding.{HasFed, Verifying}
use Rattle.ts_checker.proofs.InputLaws.{room_seen, unrefused_seen, missing_seen}
use Rattle.ts_checker.proofs.verifier.Verifier.feed.Goals as goal

pub feed-requires : goal.feed-requires
feed-requires c =
    room_seen c.self.inside.input c.self.inside.count c.self.inside.missing c.args.self.now c.self.view_is _ (c.self.invariant.0 c.if-self.false) c.requires

pub invariant_of-self : goal.invariant_of-self
invariant_of-self c =
    let same = ap (λ (z : Verifying). z.count) c.self.view_is in (
      λ calm.
          let some = c.self.invariant.0 c.if-self.false in
          let size = length-append some.0 c.args.piece.now in
          (some.0 ++ c.args.piece.now, c.in-Ok.ensures.taken some.0 some.1, omega (arith, size, some.2)),
      omega (arith, same, c.requires),
    )

pub returns-in-Ok-clause-fed : goal.returns-in-Ok-clause-fed
returns-in-Ok-clause-fed c = λ bytes fed.
    let before = subst (HasFed bytes) (sym c.self.view_is) fed in
    record { calm = c.if-self.false; taken = c.in-Ok.ensures.taken bytes before.taken }

pub returns-then-self-clause-unrefused : goal.returns-then-self-clause-unrefused
returns-then-self-clause-unrefused c =
    missing_seen c.self.inside.input c.self.inside.count c.self.inside.missing c.args.self.now c.self.view_is c.if-self.true

pub returns-in-Err-clause-unrefused : goal.returns-in-Err-clause-unrefused
returns-in-Err-clause-unrefused c =
    unrefused_seen c.self.inside.input c.self.inside.count c.self.inside.missing c.args.self.now c.self.view_is c.in-Err.ensures.unrefused

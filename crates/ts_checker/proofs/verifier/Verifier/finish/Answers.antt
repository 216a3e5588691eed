use Rattle.std.proofs.Common.{arith}
use Rattle.ts_checker.proofs.verifier.Verifier.finish.Goals as goal

pub finish-requires : goal.finish-requires
finish-requires c = let some = c.self.invariant.0 c.if-missing.false in (some.0, some.1, omega (arith, some.2, c.self.invariant.1))

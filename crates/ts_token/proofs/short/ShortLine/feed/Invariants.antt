use Rattle.std.proofs.Common.{take}
use Rattle.ts_token.specs.Short.{TakesIn}
use Rattle.ts_token.proofs.short.ShortLine.feed.Given as goal

abbrev pub invariant-loop-byte : goal.invariant-loop-byte
invariant-loop-byte l = TakesIn l.initial.self (take l.byte-index l.bytes) l.self

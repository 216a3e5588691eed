use Rattle.std.proofs.Common.{◌↔◌, drop}
use Rattle.ts_regex.specs.Shape.{shape_of}
use Rattle.ts_regex.specs.Language.{InLanguage}
use Rattle.ts_regex.proofs.membership.member.Given as goal

abbrev pub invariant-loop-l : goal.invariant-loop-l
invariant-loop-l l = InLanguage (shape_of l.rest) (drop l.l-index l.w) ↔ InLanguage (shape_of l.r) l.w

use Rattle.std.proofs.Common.{take}
use Rattle.ts_regex.specs.Shape.{shape_of}
use Rattle.ts_user.specs.Books.{residuals_of, IsBook, HasNumbers}
use Rattle.ts_user.proofs.Steps.{IsLeftTo}
use Rattle.ts_user.proofs.step.left.Given as goal

abbrev pub invariant-loop-entry : goal.invariant-loop-entry
invariant-loop-entry l = record {
  book : IsBook (shape_of l.p.regex) l.book;
  left : IsLeftTo (residuals_of l.fn.book) (residuals_of l.book) l.letter (take l.entry-index l.live) l.kept.live.items;
  found : HasNumbers l.kept;
}

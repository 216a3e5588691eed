use Rattle.std.proofs.Common.{◌≡◌, take}
use Rattle.ts_pattern.specs.Entries.{shapes}
use Rattle.ts_validate.specs.Facts.{kept_by}
use Rattle.ts_user.specs.Books.{residuals_of, values}
use Rattle.ts_user.proofs.book.Book.kept.Given as goal

abbrev pub invariant-loop-entry : goal.invariant-loop-entry
invariant-loop-entry l = l.kept.items ≡ kept_by shapes (values (residuals_of l.self) (take l.entry-index l.live))

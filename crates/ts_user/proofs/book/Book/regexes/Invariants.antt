use Rattle.std.proofs.Common.{◌≡◌, take, map}
use Rattle.ts_regex.specs.Shape.{shape_of}
use Rattle.ts_forms.specs.Tables.{shapes as shapes_in, forms_at}
use Rattle.ts_user.proofs.book.Book.regexes.Given as goal

abbrev pub invariant-loop-form : goal.invariant-loop-form
invariant-loop-form l = map (λ r. shape_of r) l.regexes.items ≡ forms_at (shapes_in l.self.forms) (take l.form-index l.self.residuals.items)

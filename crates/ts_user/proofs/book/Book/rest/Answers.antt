use Rattle.std.specs.Prelude.{refl}
use Rattle.ts_regex.specs.Shape.{shape_of}
use Rattle.ts_forms.specs.Tables.{shapes as shapes_in}
use Rattle.ts_user.proofs.Books.{book_grown, residuals_stay, rest_is}
use Rattle.ts_user.proofs.book.Book.rest.Goals as goal

pub returns-clause-book : goal.returns-clause-book
returns-clause-book c =
    book_grown (shape_of c.args.p.now.regex) c.args.self.now (record c.args.self.now { forms = c.residual.new.self }) _ c.in_ok-residual.field-0
    c.requires.book c.in_ok-residual.ensures refl refl refl refl

pub returns-clause-same : goal.returns-clause-same
returns-clause-same c =
    residuals_stay c.args.self.now c.residual.new.self _ c.in_ok-residual.field-0 c.requires.book.there c.in_ok-residual.ensures

pub returns-clause-rest : goal.returns-clause-rest
returns-clause-rest c =
    rest_is c.args.self.now c.index-form.result.now c.args.i c.args.letter (shapes_in c.residual.new.self) c.in_ok-residual.field-0 c.requires.there
    c.index-form.ensures c.in_ok-residual.ensures.number

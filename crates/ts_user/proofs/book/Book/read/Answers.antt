use Rattle.std.specs.Prelude.{List, None, Some}
use Rattle.std.proofs.Common.{◌∙◌, sym, subst}
use Rattle.ts_regex.specs.Shape.{Shape, shape_of}
use Rattle.ts_regex.specs.NormalForm.{residual}
use Rattle.ts_pattern.specs.Plans.{shape_at}
use Rattle.ts_forms.specs.Nodes.{form_at}
use Rattle.ts_forms.specs.Tables.{shapes as shapes_in}
use Rattle.ts_user.specs.Books.{residuals_of, IsAfter}
use Rattle.ts_user.proofs.Books.{still_there, left_is, read_some_book, read_some_after, read_none_book, read_none_after}
use Rattle.ts_user.proofs.book.Book.read.Goals as goal

pub returns-in_ok-j-clause-book : goal.returns-in_ok-j-clause-book
returns-in_ok-j-clause-book c =
    let r = c.in_ok-rest.ensures in
    let e = c.note.ensures in
    read_some_book (shape_of c.args.p.now.regex) c.rest.new.self c.number.new.self c.note.new.self c.args.i c.in_ok-j.j c.args.letter
    (form_at (shapes_in c.rest.new.self.forms) c.in_ok-rest.rest) c.in_ok-j.ensures.book c.in_ok-j.ensures.found
    (still_there c.args.self.now c.rest.new.self c.args.i c.requires.there r.same)
    (left_is c.args.self.now c.rest.new.self c.args.i c.in_ok-rest.rest c.args.letter r.same r.rest)
    (sym c.if-has_word.true ∙ c.has_word.ensures) e.forms e.residuals e.places e.words e.nexts

pub returns-in_ok-j-clause-after : goal.returns-in_ok-j-clause-after
returns-in_ok-j-clause-after c =
    let r = c.in_ok-rest.ensures in
    subst (λ (z : List Shape). IsAfter z (residuals_of c.note.new.self) (residual (shape_at z c.args.i) c.args.letter) (Some c.in_ok-j.j)) r.same
    (read_some_after c.rest.new.self c.number.new.self c.note.new.self c.args.i c.in_ok-j.j c.args.letter
    (form_at (shapes_in c.rest.new.self.forms) c.in_ok-rest.rest) c.in_ok-j.ensures.found
    (left_is c.args.self.now c.rest.new.self c.args.i c.in_ok-rest.rest c.args.letter r.same r.rest)
    (sym c.if-has_word.true ∙ c.has_word.ensures) c.note.ensures.forms c.note.ensures.residuals)

pub returns-else-has_word-clause-book : goal.returns-else-has_word-clause-book
returns-else-has_word-clause-book c =
    let r = c.in_ok-rest.ensures in
    let e = c.note-else-has_word.ensures in
    read_none_book (shape_of c.args.p.now.regex) c.rest.new.self c.note-else-has_word.new.self c.args.i c.args.letter
    (form_at (shapes_in c.rest.new.self.forms) c.in_ok-rest.rest) r.book
    (still_there c.args.self.now c.rest.new.self c.args.i c.requires.there r.same)
    (left_is c.args.self.now c.rest.new.self c.args.i c.in_ok-rest.rest c.args.letter r.same r.rest)
    (sym c.if-has_word.false ∙ c.has_word.ensures) e.forms e.residuals e.places e.words e.nexts

pub returns-else-has_word-clause-after : goal.returns-else-has_word-clause-after
returns-else-has_word-clause-after c =
    let r = c.in_ok-rest.ensures in
    let e = c.note-else-has_word.ensures in
    subst (λ (z : List Shape). IsAfter z (residuals_of c.note-else-has_word.new.self) (residual (shape_at z c.args.i) c.args.letter) None) r.same
    (read_none_after c.rest.new.self c.note-else-has_word.new.self c.args.i c.args.letter (form_at (shapes_in c.rest.new.self.forms) c.in_ok-rest.rest)
    (left_is c.args.self.now c.rest.new.self c.args.i c.in_ok-rest.rest c.args.letter r.same r.rest)
    (sym c.if-has_word.false ∙ c.has_word.ensures) e.forms e.residuals)

use Rattle.std.specs.Prelude.{refl}
use Rattle.std.proofs.Common.{sym, ap, subst}
use Rattle.ts_regex.specs.Shape.{shape_of}
use Rattle.ts_forms.specs.Nodes.{form_at}
use Rattle.ts_forms.specs.Tables.{shapes as shapes_in}
use Rattle.ts_user.specs.declared.book.Book.{Book}
use Rattle.ts_user.specs.Books.{residuals_of, IsBook, IsFound}
use Rattle.ts_user.proofs.Books.{number_new_book, number_new_found, number_old_book, number_old_found}
use Rattle.ts_user.proofs.book.Book.number.Goals.{then-is_new+in_ok-add, else-is_new}
use Rattle.ts_user.proofs.book.Book.number.Goals as goal

pub returns-clause-book : goal.returns-clause-book
returns-clause-book c =
    let e = c.in_ok-place.ensures in
    elim c.if-is_new.branch [
      | then-is_new+in_ok-add w ↦
          let a = w.in_ok-add.ensures in
          subst (λ (z : Book). IsBook (shape_of c.args.p.now.regex) z) (sym w.self-is)
          (number_new_book (shape_of c.args.p.now.regex) c.args.self.now w.add.new.self c.insert_full.new.self.keys c.args.form c.in_ok-place.is_new
          c.requires.book c.requires.there e.added e.keys w.if-is_new.true (ap (λ z. z.keys) a.places) a.forms a.residuals a.words a.nexts)
      | else-is_new w ↦
          subst (λ (z : Book). IsBook (shape_of c.args.p.now.regex) z) (sym w.self-is)
          (number_old_book (shape_of c.args.p.now.regex) c.args.self.now (record c.args.self.now { places = c.insert_full.new.self })
          c.insert_full.new.self.keys c.args.form c.in_ok-place.is_new c.requires.book e.added e.keys w.if-is_new.false refl refl refl refl refl)
    ]

pub returns-clause-found : goal.returns-clause-found
returns-clause-found c =
    let e = c.in_ok-place.ensures in
    elim c.if-is_new.branch [
      | then-is_new+in_ok-add w ↦
          let a = w.in_ok-add.ensures in
          subst (λ (z : Book). IsFound (residuals_of c.args.self.now) (residuals_of z)
          (form_at (shapes_in c.args.self.now.forms) c.args.form) c.in_ok-place.place)
          (sym w.self-is)
          (number_new_found (shape_of c.args.p.now.regex) c.args.self.now w.add.new.self c.insert_full.new.self.keys c.args.form c.in_ok-place.place
          c.in_ok-place.is_new c.requires.book e.added e.keys w.if-is_new.true e.stored a.forms a.residuals)
      | else-is_new w ↦
          subst (λ (z : Book). IsFound (residuals_of c.args.self.now) (residuals_of z)
          (form_at (shapes_in c.args.self.now.forms) c.args.form) c.in_ok-place.place)
          (sym w.self-is)
          (number_old_found (shape_of c.args.p.now.regex) c.args.self.now (record c.args.self.now { places = c.insert_full.new.self })
          c.insert_full.new.self.keys c.args.form c.in_ok-place.place c.in_ok-place.is_new c.requires.book e.added e.keys w.if-is_new.false e.stored refl refl)
    ]

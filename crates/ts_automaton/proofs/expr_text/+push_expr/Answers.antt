use Rattle.std.proofs.Common.{codes, ap, sym, ◌∙◌, ◌++◌}
use Rattle.ts_base.specs.Words.{behind}
use Rattle.ts_automaton.specs.Formula.{formula}
use Rattle.ts_automaton.specs.FormulaText.{formula_words}
use Rattle.ts_automaton.proofs.FrontLaws.{two_operands}
use Rattle.ts_automaton.proofs.expr_text.+push_expr.Goals as goal

pub returns-in_ok-push_expr-in-Add-2 : goal.returns-in_ok-push_expr-in-Add-2
returns-in_ok-push_expr-in-Add-2 n c =
    two_operands c.args.text.now.items (codes "add") (formula_words (formula c.in-Add.f.value)) (formula_words (formula c.in-Add.g.value))
    c.extend_from_slice-in-Add.new.self.items c.push_expr.new.text.items c.push_expr-in-Add.new.text.items
    c.in_ok-extend_from_slice-in-Add.ensures.items
    (c.in_ok-push_expr-in-Add.ensures ∙ ap (λ e. c.extend_from_slice-in-Add.new.self.items ++ behind (formula_words (formula e))) c.deref.ensures)
    (c.in_ok-push_expr-in-Add-2.ensures ∙ ap (λ e. c.push_expr.new.text.items ++ behind (formula_words (formula e))) c.deref-in-Add.ensures)
    ∙ ap (λ e. c.args.text.now.items ++ behind (formula_words (formula e))) (sym c.in-Add.is)

pub returns-in_ok-push_expr-in-Sub-2 : goal.returns-in_ok-push_expr-in-Sub-2
returns-in_ok-push_expr-in-Sub-2 n c =
    two_operands c.args.text.now.items (codes "sub") (formula_words (formula c.in-Sub.f.value)) (formula_words (formula c.in-Sub.g.value))
    c.extend_from_slice-in-Sub.new.self.items c.push_expr-in-Sub.new.text.items c.push_expr-in-Sub-2.new.text.items
    c.in_ok-extend_from_slice-in-Sub.ensures.items
    (c.in_ok-push_expr-in-Sub.ensures ∙ ap (λ e. c.extend_from_slice-in-Sub.new.self.items ++ behind (formula_words (formula e))) c.deref-in-Sub.ensures)
    (c.in_ok-push_expr-in-Sub-2.ensures ∙ ap (λ e. c.push_expr-in-Sub.new.text.items ++ behind (formula_words (formula e))) c.deref-in-Sub-2.ensures)
    ∙ ap (λ e. c.args.text.now.items ++ behind (formula_words (formula e))) (sym c.in-Sub.is)

pub returns-in_ok-push_expr-in-Max-2 : goal.returns-in_ok-push_expr-in-Max-2
returns-in_ok-push_expr-in-Max-2 n c =
    two_operands c.args.text.now.items (codes "max") (formula_words (formula c.in-Max.f.value)) (formula_words (formula c.in-Max.g.value))
    c.extend_from_slice-in-Max.new.self.items c.push_expr-in-Max.new.text.items c.push_expr-in-Max-2.new.text.items
    c.in_ok-extend_from_slice-in-Max.ensures.items
    (c.in_ok-push_expr-in-Max.ensures ∙ ap (λ e. c.extend_from_slice-in-Max.new.self.items ++ behind (formula_words (formula e))) c.deref-in-Max.ensures)
    (c.in_ok-push_expr-in-Max-2.ensures ∙ ap (λ e. c.push_expr-in-Max.new.text.items ++ behind (formula_words (formula e))) c.deref-in-Max-2.ensures)
    ∙ ap (λ e. c.args.text.now.items ++ behind (formula_words (formula e))) (sym c.in-Max.is)

pub returns-in_ok-push_expr-in-Min-2 : goal.returns-in_ok-push_expr-in-Min-2
returns-in_ok-push_expr-in-Min-2 n c =
    two_operands c.args.text.now.items (codes "min") (formula_words (formula c.in-Min.f.value)) (formula_words (formula c.in-Min.g.value))
    c.extend_from_slice-in-Min.new.self.items c.push_expr-in-Min.new.text.items c.push_expr-in-Min-2.new.text.items
    c.in_ok-extend_from_slice-in-Min.ensures.items
    (c.in_ok-push_expr-in-Min.ensures ∙ ap (λ e. c.extend_from_slice-in-Min.new.self.items ++ behind (formula_words (formula e))) c.deref-in-Min.ensures)
    (c.in_ok-push_expr-in-Min-2.ensures ∙ ap (λ e. c.push_expr-in-Min.new.text.items ++ behind (formula_words (formula e))) c.deref-in-Min-2.ensures)
    ∙ ap (λ e. c.args.text.now.items ++ behind (formula_words (formula e))) (sym c.in-Min.is)

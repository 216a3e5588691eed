use Rattle.std.specs.Prelude.{length}
use Rattle.std.proofs.Common.{sym, ◌∙◌, ap}
use Rattle.ts_regex.specs.Shape.{Alt}
use Rattle.ts_regex.specs.Derivative.{derivative}
use Rattle.ts_forms.specs.Nodes.{form_at}
use Rattle.ts_forms.specs.Tables.{shapes}
use Rattle.ts_forms.proofs.Puts.{part_there, put_of_two, left_of_star, left_of_both}
use Rattle.ts_forms.proofs.forms.Forms.+derivative.Goals as goal

pub left_of-returns-in_ok-second-in-Alt-default : goal.left_of-returns-in_ok-second-in-Alt-default
left_of-returns-in_ok-second-in-Alt-default t c =
    put_of_two (λ z. derivative z c.args.letter) (λ r s. Alt r s) (derivative (form_at (shapes c.args.self.now) c.args.i) c.args.letter)
    c.args.self.now c.derive.new.self c.derive-in-Alt-default.new.self c.put.new.self c.in-Alt-default.r c.in-Alt-default.s
    c.in_ok-first-in-Alt-default.first c.in_ok-second-in-Alt-default.second c.put.result
    (sym (ap (λ z. derivative z c.args.letter) c.in-Alt-default.ensures.shape))
    (part_there c.in-Alt-default.s c.args.i (length (shapes c.args.self.now)) c.in-Alt-default.ensures.parts.1 c.requires.there)
    c.in_ok-first-in-Alt-default.ensures c.in_ok-second-in-Alt-default.ensures c.put.ensures

pub left_of-returns-in_ok-first-in-Star-default : goal.left_of-returns-in_ok-first-in-Star-default
left_of-returns-in_ok-first-in-Star-default t c =
    left_of_star c.args.self.now c.derive-in-Star-default.new.self c.put-in-Star-default.new.self c.args.i c.in-Star-default.r
    c.in_ok-first-in-Star-default.first c.args.letter c.put-in-Star-default.result c.in-Star-default.ensures.shape c.requires.there
    c.in_ok-first-in-Star-default.ensures c.put-in-Star-default.ensures

pub left_of_cat-returns-in_ok-second : goal.left_of_cat-returns-in_ok-second
left_of_cat-returns-in_ok-second t c =
    left_of_both c.args.self.now c.derive.new.self c.put.new.self c.derive-then-nullable.new.self c.put-then-nullable.new.self c.args.i c.args.r c.args.s
    c.in_ok-left.left c.in_ok-first.first c.in_ok-second.second c.args.letter c.put-then-nullable.result c.requires.cat
    (part_there c.args.r c.args.i (length (shapes c.args.self.now)) c.requires.parts.0 c.requires.there)
    (part_there c.args.s c.args.i (length (shapes c.args.self.now)) c.requires.parts.1 c.requires.there)
    c.in_ok-left.ensures c.in_ok-first.ensures (sym c.nullable.ensures ∙ c.if-nullable.true) c.in_ok-second.ensures c.put-then-nullable.ensures

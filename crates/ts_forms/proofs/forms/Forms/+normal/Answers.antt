use Rattle.std.specs.Prelude.{length}
use Rattle.std.proofs.Common.{sym, ap}
use Rattle.ts_regex.specs.NormalForm.{normal_cat, normal_alt, normal_star, normal_form}
use Rattle.ts_forms.specs.Nodes.{form_at}
use Rattle.ts_forms.specs.Tables.{shapes}
use Rattle.ts_forms.proofs.Puts.{part_there, put_of_two, put_of_one}
use Rattle.ts_forms.proofs.forms.Forms.+normal.Goals as goal

pub simplified-returns-in_ok-second-in-Cat : goal.simplified-returns-in_ok-second-in-Cat
simplified-returns-in_ok-second-in-Cat t c =
    put_of_two normal_form normal_cat (normal_form (form_at (shapes c.args.self.now) c.args.i)) c.args.self.now c.normal.new.self c.normal-in-Cat.new.self
    c.normal_cat.new.self c.in-Cat.r c.in-Cat.s c.in_ok-first-in-Cat.first c.in_ok-second-in-Cat.second c.normal_cat.result
    (sym (ap normal_form c.in-Cat.ensures.shape))
    (part_there c.in-Cat.s c.args.i (length (shapes c.args.self.now)) c.in-Cat.ensures.parts.1 c.requires.there)
    c.in_ok-first-in-Cat.ensures c.in_ok-second-in-Cat.ensures c.normal_cat.ensures

pub simplified-returns-in_ok-second-in-Alt : goal.simplified-returns-in_ok-second-in-Alt
simplified-returns-in_ok-second-in-Alt t c =
    put_of_two normal_form normal_alt (normal_form (form_at (shapes c.args.self.now) c.args.i)) c.args.self.now c.normal-in-Alt.new.self
    c.normal-in-Alt-2.new.self c.normal_alt.new.self c.in-Alt.r c.in-Alt.s c.in_ok-first-in-Alt.first c.in_ok-second-in-Alt.second c.normal_alt.result
    (sym (ap normal_form c.in-Alt.ensures.shape))
    (part_there c.in-Alt.s c.args.i (length (shapes c.args.self.now)) c.in-Alt.ensures.parts.1 c.requires.there)
    c.in_ok-first-in-Alt.ensures c.in_ok-second-in-Alt.ensures c.normal_alt.ensures

pub simplified-returns-in_ok-inner-in-Star : goal.simplified-returns-in_ok-inner-in-Star
simplified-returns-in_ok-inner-in-Star t c =
    put_of_one normal_star (normal_form (form_at (shapes c.args.self.now) c.args.i)) c.args.self.now c.normal-in-Star.new.self c.normal_star.new.self
    (normal_form (form_at (shapes c.args.self.now) c.in-Star.r)) c.in_ok-inner-in-Star.inner c.normal_star.result
    (sym (ap normal_form c.in-Star.ensures.shape)) c.in_ok-inner-in-Star.ensures c.normal_star.ensures

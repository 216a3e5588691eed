use Rattle.std.proofs.Common.{◌≡◌, sym, ◌∙◌, length, rules}
use Rattle.ts_regex.specs.Shape.{shape_of}
use Rattle.ts_occurrence.proofs.Known.{found_is, pushed_right}
use Rattle.ts_occurrence.proofs.residuals.Residuals.number_of.Goals as goal

pub returns-in-Some-clause-exact : goal.returns-in-Some-clause-exact
returns-in-Some-clause-exact c = found_is c.args.self.now.met.items (shape_of c.args.rest) c.in-Some.number (sym c.find.ensures ∙ c.in-Some.is)

pub returns-in_ok-push-in-None-clause-right : goal.returns-in_ok-push-in-None-clause-right
returns-in_ok-push-in-None-clause-right c =
    let size : c.len-number.result ≡ length c.args.self.now.met.items = search rules in
    (pushed_right c.args.self.now.met.items c.push.new.self.items c.new.result c.args.rest c.len-number.result c.requires (sym c.find.ensures ∙ c.in-None.is)
    c.new.ensures c.in_ok-push-in-None.ensures.items size).0

pub returns-in_ok-push-in-None-clause-grown : goal.returns-in_ok-push-in-None-clause-grown
returns-in_ok-push-in-None-clause-grown c =
    let size : c.len-number.result ≡ length c.args.self.now.met.items = search rules in
    (pushed_right c.args.self.now.met.items c.push.new.self.items c.new.result c.args.rest c.len-number.result c.requires (sym c.find.ensures ∙ c.in-None.is)
    c.new.ensures c.in_ok-push-in-None.ensures.items size).1

pub returns-in_ok-push-in-None-clause-exact : goal.returns-in_ok-push-in-None-clause-exact
returns-in_ok-push-in-None-clause-exact c =
    let size : c.len-number.result ≡ length c.args.self.now.met.items = search rules in
    (pushed_right c.args.self.now.met.items c.push.new.self.items c.new.result c.args.rest c.len-number.result c.requires (sym c.find.ensures ∙ c.in-None.is)
    c.new.ensures c.in_ok-push-in-None.ensures.items size).2

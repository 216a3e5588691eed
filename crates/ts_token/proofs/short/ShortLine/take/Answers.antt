use Rattle.std.proofs.Common.{sym, refl}
use Rattle.ts_token.proofs.ShortLaws.{keeps, leaves_out}
use Rattle.ts_token.proofs.short.ShortLine.take.Goals as goal

pub returns-in_ok-push-in-Some-clause-taken : goal.returns-in_ok-push-in-Some-clause-taken
returns-in_ok-push-in-Some-clause-taken c =
    keeps c.args.self.now (record { kept = c.push.new.self; place = c.in-Some.place }) c.args.byte c.in-Some.place
    c.in_ok-push-in-Some.ensures.items refl (sym c.in-Some.ensures)

pub returns-in-None-clause-taken : goal.returns-in-None-clause-taken
returns-in-None-clause-taken c = leaves_out c.args.self.now c.args.byte (sym c.in-None.ensures)

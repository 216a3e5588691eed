use Rattle.std.proofs.Common.{◌≡◌, ◌∙◌, length, rules, arith}
use Rattle.ts_validate.specs.Trials.{subject_of}
use Rattle.ts_validate.proofs.Failing.{expanded}
use Rattle.ts_validate.proofs.arrival.Tour.expand_next.Goals as goal

pub returns-clause-tour : goal.returns-clause-tour
returns-clause-tour c =
    let from : c.len-from.result ≡ length c.args.self.now.failing.items = search rules in
    let more = c.requires.more in
    let less = c.in_ok-less.ensures in
    let equal = c.in_ok-equal.ensures in
    let greater = c.in_ok-greater.ensures in
    let h = expanded (subject_of c.args.trial.now) c.args.self.now c.expand.new.self.arrivals.items c.expand-2.new.self.arrivals.items
    c.expand-3.new.self.arrivals.items c.expand-3.new.self.failing.items c.push.new.self.items c.len-from.result c.in_ok-less.less c.in_ok-equal.equal
    c.in_ok-greater.greater c.first_false.result c.requires.tour from (omega arith) less.grows equal.grows greater.grows less.follows equal.follows
    greater.follows less.meets equal.meets greater.meets c.first_false.ensures (greater.failing ∙ equal.failing ∙ less.failing) c.in_ok-push.ensures.items in
    record { reaches = greater.reaches; followed = h.0; judged = h.1; inside = h.2 }

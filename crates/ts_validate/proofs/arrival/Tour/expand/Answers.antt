use Rattle.std.proofs.Common.{arith}
use Rattle.ts_validate.specs.Trials.{subject_of}
use Rattle.ts_validate.proofs.Tours.{seen_first, follows_old, follows_new, add_reached}
use Rattle.ts_validate.proofs.arrival.Tour.expand.Goals as goal

pub place-requires : goal.place-requires
place-requires c =
    let f = seen_first (subject_of c.args.trial.now) c.args.self.now.arrivals.items c.args.from c.arrival-here.result c.args.letter
    c.in_ok-seen.seen c.in-Some.next c.arrival-here.ensures c.in_ok-seen.ensures c.in-Some.is in
    let size = c.requires.reaches.size in
    let i = f.1.0 in
    omega arith

pub add-requires : goal.add-requires
add-requires c =
    let f = seen_first (subject_of c.args.trial.now) c.args.self.now.arrivals.items c.args.from c.arrival-here.result c.args.letter
    c.in_ok-seen.seen c.in-Some.next c.arrival-here.ensures c.in_ok-seen.ensures c.in-Some.is in
    let size = c.requires.reaches.size in
    let i = f.1.0 in
    omega arith

pub returns-in-Some-place-clause-follows : goal.returns-in-Some-place-clause-follows
returns-in-Some-place-clause-follows c =
    let f = seen_first (subject_of c.args.trial.now) c.args.self.now.arrivals.items c.args.from c.arrival-here.result c.args.letter
    c.in_ok-seen.seen c.in-Some.next c.arrival-here.ensures c.in_ok-seen.ensures c.in-Some.is in
    follows_old (subject_of c.args.trial.now) c.args.self.now.arrivals.items c.args.self.now.places.items c.requires.reaches
    c.args.from c.in-Some.next c.in-Some-place.field-0 c.args.letter f.1 c.in-Some-place.ensures

pub returns-in_ok-add-in-None-place-clause-reaches : goal.returns-in_ok-add-in-None-place-clause-reaches
returns-in_ok-add-in-None-place-clause-reaches c =
    let f = seen_first (subject_of c.args.trial.now) c.args.self.now.arrivals.items c.args.from c.arrival-here.result c.args.letter
    c.in_ok-seen.seen c.in-Some.next c.arrival-here.ensures c.in_ok-seen.ensures c.in-Some.is in
    add_reached (subject_of c.args.trial.now) c.args.self.now.arrivals.items c.add.new.self.arrivals.items c.args.self.now.places.items
    c.add.new.self.places.items c.requires.reaches c.in-Some.next c.args.from c.args.letter c.requires.there f.1 f.0 c.in-None-place.ensures
    c.in_ok-add-in-None-place.ensures.arrivals c.in_ok-add-in-None-place.ensures.places

pub returns-in_ok-add-in-None-place-clause-follows : goal.returns-in_ok-add-in-None-place-clause-follows
returns-in_ok-add-in-None-place-clause-follows c =
    let f = seen_first (subject_of c.args.trial.now) c.args.self.now.arrivals.items c.args.from c.arrival-here.result c.args.letter
    c.in_ok-seen.seen c.in-Some.next c.arrival-here.ensures c.in_ok-seen.ensures c.in-Some.is in
    follows_new (subject_of c.args.trial.now) c.args.self.now.arrivals.items c.add.new.self.arrivals.items c.args.from c.in-Some.next
    c.args.letter c.requires.there f.1 c.in_ok-add-in-None-place.ensures.arrivals

use Rattle.std.proofs.Common.{◌∙◌, ap}
use Rattle.ts_regex.specs.Shape.{shape_of}
use Rattle.ts_user.specs.BuildAnswers.{unplanned_of}
use Rattle.ts_user.specs.Keys.{key_lists}
use Rattle.ts_user.proofs.Listings.{here_listed, room_for, looked, key_found, key_added, longer_is, words_pushed, is_refused, old_listed, old_taken, new_listed, new_taken, new_words, is_full}
use Rattle.ts_user.proofs.listing.Listing.take.Goals as goal

pub make_step-requires-clause-listed : goal.make_step-requires-clause-listed
make_step-requires-clause-listed c =
    here_listed (unplanned_of c.args.rows.now c.args.p.now) (shape_of c.args.p.now.regex) c.args.self.now c.args.from c.index-here.result.now c.requires.listed
    c.requires.there c.index-here.ensures

pub make_step-requires-clause-room : goal.make_step-requires-clause-room
make_step-requires-clause-room c =
    room_for (unplanned_of c.args.rows.now c.args.p.now) (shape_of c.args.p.now.regex) c.args.self.now c.args.from c.index-here.result.now c.requires.listed
    c.requires.there c.index-here.ensures

pub returns-then-not-seen-clause-stop : goal.returns-then-not-seen-clause-stop
returns-then-not-seen-clause-stop c =
    let s = unplanned_of c.args.rows.now c.args.p.now in
    let p = shape_of c.args.p.now.regex in
    let t = c.args.self.now in
    let to = c.in_ok-seen.seen.to in
    let ok = c.in_ok-seen.seen.agrees in
    let look = looked s p t c.args.from c.args.letter c.make_step.new.book c.index-here.result.now to ok c.requires.listed c.requires.there c.requires.taken
    c.index-here.ensures c.in_ok-seen.ensures.book c.in_ok-seen.ensures.step in
    let longer = longer_is t c.args.from c.args.letter c.index.result.now c.deref.result.now c.in_ok-signature.signature.items c.requires.there
    c.requires.listed.size c.index.ensures c.deref.ensures.value c.in_ok-signature.ensures in
    is_refused s p t c.args.from c.args.letter c.make_step.new.book to ok look c.if-not-seen.true c.in_ok-signature.signature.items longer

pub returns-in-Some-clause-listed : goal.returns-in-Some-clause-listed
returns-in-Some-clause-listed c =
    let s = unplanned_of c.args.rows.now c.args.p.now in
    let p = shape_of c.args.p.now.regex in
    let t = c.args.self.now in
    let to = c.in_ok-seen.seen.to in
    let ok = c.in_ok-seen.seen.agrees in
    let look = looked s p t c.args.from c.args.letter c.make_step.new.book c.index-here.result.now to ok c.requires.listed c.requires.there c.requires.taken
    c.index-here.ensures c.in_ok-seen.ensures.book c.in_ok-seen.ensures.step in
    let x = key_found t.configurations.items (key_lists t.keys) (key_lists c.place.new.self) to c.in_ok-key.key.items c.in_ok-listed.listed c.in-Some.field-0
    c.requires.listed.keys c.in_ok-key.ensures c.in_ok-listed.ensures c.in-Some.is in
    old_listed s p t c.args.from c.args.letter c.make_step.new.book to ok look c.in-Some.field-0 x.0 x.1 x.2
    c.place.new.self x.3

pub returns-in-Some-clause-taken : goal.returns-in-Some-clause-taken
returns-in-Some-clause-taken c =
    let s = unplanned_of c.args.rows.now c.args.p.now in
    let p = shape_of c.args.p.now.regex in
    let t = c.args.self.now in
    let to = c.in_ok-seen.seen.to in
    let ok = c.in_ok-seen.seen.agrees in
    let look = looked s p t c.args.from c.args.letter c.make_step.new.book c.index-here.result.now to ok c.requires.listed c.requires.there c.requires.taken
    c.index-here.ensures c.in_ok-seen.ensures.book c.in_ok-seen.ensures.step in
    let x = key_found t.configurations.items (key_lists t.keys) (key_lists c.place.new.self) to c.in_ok-key.key.items c.in_ok-listed.listed c.in-Some.field-0
    c.requires.listed.keys c.in_ok-key.ensures c.in_ok-listed.ensures c.in-Some.is in
    old_taken s p t c.args.from c.args.letter c.make_step.new.book to ok look c.if-not-seen.false c.in-Some.field-0 x.0 x.1 x.2

pub returns-in-Err-clause-stop : goal.returns-in-Err-clause-stop
returns-in-Err-clause-stop c =
    let s = unplanned_of c.args.rows.now c.args.p.now in
    let p = shape_of c.args.p.now.regex in
    let t = c.args.self.now in
    let to = c.in_ok-seen.seen.to in
    let ok = c.in_ok-seen.seen.agrees in
    let look = looked s p t c.args.from c.args.letter c.make_step.new.book c.index-here.result.now to ok c.requires.listed c.requires.there c.requires.taken
    c.index-here.ensures c.in_ok-seen.ensures.book c.in_ok-seen.ensures.step in
    let added = key_added t.configurations.items (key_lists t.keys) (key_lists c.place.new.self) to c.in_ok-key.key.items c.in_ok-listed.listed
    c.requires.listed.keys c.in_ok-key.ensures c.in_ok-listed.ensures c.in-None.is in
    is_full s p t c.args.from c.args.letter c.make_step.new.book to ok look c.if-not-seen.false added.0 c.in-Err.stop c.in-Err.ensures.full

pub returns-in-Ok-clause-listed : goal.returns-in-Ok-clause-listed
returns-in-Ok-clause-listed c =
    let s = unplanned_of c.args.rows.now c.args.p.now in
    let p = shape_of c.args.p.now.regex in
    let t = c.args.self.now in
    let to = c.in_ok-seen.seen.to in
    let ok = c.in_ok-seen.seen.agrees in
    let look = looked s p t c.args.from c.args.letter c.make_step.new.book c.index-here.result.now to ok c.requires.listed c.requires.there c.requires.taken
    c.index-here.ensures c.in_ok-seen.ensures.book c.in_ok-seen.ensures.step in
    let added = key_added t.configurations.items (key_lists t.keys) (key_lists c.place.new.self) to c.in_ok-key.key.items c.in_ok-listed.listed
    c.requires.listed.keys c.in_ok-key.ensures c.in_ok-listed.ensures c.in-None.is in
    let longer = longer_is t c.args.from c.args.letter c.index.result.now c.deref.result.now c.in_ok-signature.signature.items c.requires.there
    c.requires.listed.size c.index.ensures c.deref.ensures.value c.in_ok-signature.ensures in
    let words = words_pushed t c.list.new.self c.in_ok-signature.signature _ c.in-Ok.ensures.signatures longer in
    new_listed s p t c.list.new.self c.args.from c.args.letter c.make_step.new.book to ok look c.in-Ok.ensures.book c.in-Ok.ensures.configurations words
    c.in-Ok.ensures.few (ap key_lists c.in-Ok.ensures.keys ∙ added.1)

pub returns-in-Ok-clause-taken : goal.returns-in-Ok-clause-taken
returns-in-Ok-clause-taken c =
    let s = unplanned_of c.args.rows.now c.args.p.now in
    let p = shape_of c.args.p.now.regex in
    let t = c.args.self.now in
    let to = c.in_ok-seen.seen.to in
    let ok = c.in_ok-seen.seen.agrees in
    let look = looked s p t c.args.from c.args.letter c.make_step.new.book c.index-here.result.now to ok c.requires.listed c.requires.there c.requires.taken
    c.index-here.ensures c.in_ok-seen.ensures.book c.in_ok-seen.ensures.step in
    let added = key_added t.configurations.items (key_lists t.keys) (key_lists c.place.new.self) to c.in_ok-key.key.items c.in_ok-listed.listed
    c.requires.listed.keys c.in_ok-key.ensures c.in_ok-listed.ensures c.in-None.is in
    let longer = longer_is t c.args.from c.args.letter c.index.result.now c.deref.result.now c.in_ok-signature.signature.items c.requires.there
    c.requires.listed.size c.index.ensures c.deref.ensures.value c.in_ok-signature.ensures in
    let words = words_pushed t c.list.new.self c.in_ok-signature.signature _ c.in-Ok.ensures.signatures longer in
    new_taken s p t c.list.new.self c.args.from c.args.letter c.make_step.new.book to ok look c.if-not-seen.false added.0 words

pub returns-in-Ok-clause-same : goal.returns-in-Ok-clause-same
returns-in-Ok-clause-same c =
    let s = unplanned_of c.args.rows.now c.args.p.now in
    let p = shape_of c.args.p.now.regex in
    let t = c.args.self.now in
    let to = c.in_ok-seen.seen.to in
    let ok = c.in_ok-seen.seen.agrees in
    let look = looked s p t c.args.from c.args.letter c.make_step.new.book c.index-here.result.now to ok c.requires.listed c.requires.there c.requires.taken
    c.index-here.ensures c.in_ok-seen.ensures.book c.in_ok-seen.ensures.step in
    let longer = longer_is t c.args.from c.args.letter c.index.result.now c.deref.result.now c.in_ok-signature.signature.items c.requires.there
    c.requires.listed.size c.index.ensures c.deref.ensures.value c.in_ok-signature.ensures in
    let words = words_pushed t c.list.new.self c.in_ok-signature.signature _ c.in-Ok.ensures.signatures longer in
    new_words t c.list.new.self _ words c.args.from look.inside

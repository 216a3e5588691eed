use Rattle.std.proofs.Common.{arith, refl}
use Rattle.ts_base.specs.declared.letter.Letter.TheVariants.{Less, Equal, Greater}
use Rattle.ts_regex.specs.Shape.{shape_of}
use Rattle.ts_user.specs.BuildAnswers.{unplanned_of}
use Rattle.ts_user.proofs.Listings.{ready_taken, taken_next, taken_ready}
use Rattle.ts_user.proofs.listing.Listing.expand.Goals as goal

pub take-requires-clause-taken : goal.take-requires-clause-taken
take-requires-clause-taken c =
    ready_taken (unplanned_of c.args.rows.now c.args.p.now) (shape_of c.args.p.now.regex) c.args.self.now c.args.from c.requires.listed c.requires.there
    c.requires.ready

pub take-requires-2-clause-taken : goal.take-requires-2-clause-taken
take-requires-2-clause-taken c =
    taken_next (unplanned_of c.args.rows.now c.args.p.now) c.args.self.now c.take.new.self c.args.from Less Equal refl c.in_ok-take.ensures.same
    c.in_ok-take.ensures.taken

pub take-requires-3-clause-taken : goal.take-requires-3-clause-taken
take-requires-3-clause-taken c =
    taken_next (unplanned_of c.args.rows.now c.args.p.now) c.take.new.self c.take-2.new.self c.args.from Equal Greater refl c.in_ok-take-2.ensures.same
    c.in_ok-take-2.ensures.taken

pub returns-clause-ready : goal.returns-clause-ready
returns-clause-ready c =
    let a = c.in_ok-take.ensures.longer in
    let b = c.in_ok-take-2.ensures.longer in
    let d = c.in_ok-take-3.ensures.longer in
    let there = c.requires.there in
    taken_ready (unplanned_of c.args.rows.now c.args.p.now) (shape_of c.args.p.now.regex) c.take-2.new.self c.take-3.new.self c.args.from
    c.in_ok-take-3.ensures.listed (omega (arith, a, b, d, there)) c.in_ok-take-3.ensures.same c.in_ok-take-3.ensures.taken

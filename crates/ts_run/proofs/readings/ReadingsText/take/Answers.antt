use Rattle.std.proofs.Common.{None, refl, subst}
use Rattle.std.proofs.lemmas.Result.{IfOk-weaker}
use Rattle.ts_run.proofs.ReadingSteps.{line_adds, line_come, line_ends, line_on, may_end, on_line, on_line_adds, on_line_open, on_ok_of}
use Rattle.ts_run.specs.Watching.{ReadsLine}
use Rattle.ts_run.proofs.readings.ReadingsText.take.Goals as goal

pub returns-in-None-clause-put : goal.returns-in-None-clause-put
returns-in-None-clause-put c = λ m bytes h.
    on_line_adds m bytes c.args.part.now c.args.self.now (record c.args.self.now { line = c.feed.new.self }) h refl refl c.in_ok-feed.ensures.taken
    c.in-None.ensures c.requires.part c.args.text.now.items c.args.text.now.items refl

pub returns-in-None-clause-ended : goal.returns-in-None-clause-ended
returns-in-None-clause-ended c = λ m bytes h.
    on_line_open m bytes c.args.part.now c.args.self.now (record c.args.self.now { line = c.feed.new.self }) h refl refl c.in_ok-feed.ensures.taken
    c.in-None.ensures c.requires.part

pub returns-in-None-clause-goes_on : goal.returns-in-None-clause-goes_on
returns-in-None-clause-goes_on c = λ e m bytes h.
    on_line m bytes c.args.part.now c.args.self.now h (record c.args.self.now { line = c.feed.new.self }) refl refl c.in_ok-feed.ensures.taken
    c.in-None.ensures c.requires.part

pub end_line-requires : goal.end_line-requires
end_line-requires c =
    let some = c.requires.some in
    may_end some.0 some.1 c.args.part.now c.args.self.now (record c.args.self.now { line = c.feed.new.self }) c.args.self.now some.2 refl refl
    c.in_ok-feed.ensures.taken c.in-Some.field-0.now c.in-Some.ensures c.requires.part some.3

pub returns-in-Some-clause-put : goal.returns-in-Some-clause-put
returns-in-Some-clause-put c =
    let mid = record c.args.self.now { line = c.feed.new.self } in
    let before = c.args.text.now.items in
    let after = c.end_line.new.text.items in
    on_ok_of c.end_line.result _ _
    (λ ended reads m bytes h.
    line_adds m bytes c.args.part.now c.args.self.now h c.in-Some.field-0.now c.in-Some.ensures c.requires.part before after ended c.end_line.new.self
    (line_come m bytes c.args.part.now c.args.self.now mid c.end_line.new.self h refl refl c.in_ok-feed.ensures.taken c.in-Some.field-0.now c.in-Some.ensures
    c.requires.part before after ended reads))
    c.end_line.ensures.reads

pub returns-in-Some-clause-ended : goal.returns-in-Some-clause-ended
returns-in-Some-clause-ended c =
    let mid = record c.args.self.now { line = c.feed.new.self } in
    let before = c.args.text.now.items in
    let after = c.end_line.new.text.items in
    IfOk-weaker c.end_line.result _ _
    (λ ended reads m bytes h.
    line_ends m bytes c.args.part.now c.args.self.now h c.in-Some.field-0.now c.in-Some.ensures c.requires.part before after ended c.end_line.new.self
    (line_come m bytes c.args.part.now c.args.self.now mid c.end_line.new.self h refl refl c.in_ok-feed.ensures.taken c.in-Some.field-0.now c.in-Some.ensures
    c.requires.part before after ended reads))
    c.end_line.ensures.reads

pub returns-in-Some-clause-goes_on : goal.returns-in-Some-clause-goes_on
returns-in-Some-clause-goes_on c =
    let mid = record c.args.self.now { line = c.feed.new.self } in
    let before = c.args.text.now.items in
    let after = c.end_line.new.text.items in
    IfOk-weaker c.end_line.result _ _
    (λ ended reads none m bytes h.
    line_on m bytes c.args.part.now c.args.self.now h c.in-Some.field-0.now c.in-Some.ensures c.requires.part before after c.end_line.new.self
    (line_come m bytes c.args.part.now c.args.self.now mid c.end_line.new.self h refl refl c.in_ok-feed.ensures.taken c.in-Some.field-0.now c.in-Some.ensures
    c.requires.part before after None (subst (λ e. ReadsLine mid before after e c.end_line.new.self) none reads)))
    c.end_line.ensures.reads

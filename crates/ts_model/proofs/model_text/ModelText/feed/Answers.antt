use Rattle.std.proofs.Common.{refl, ◌++◌, arith, length-append}
use Rattle.std.proofs.lemmas.Result.{IfOk-weaker}
use Rattle.ts_model.proofs.ModelTexts.{goes_on, has_ended}
use Rattle.ts_model.proofs.model_text.ModelText.feed.Goals as goal

pub returns-in-None-clause-taken : goal.returns-in-None-clause-taken
returns-in-None-clause-taken c = λ bytes h.
    goes_on bytes c.args.part.now c.args.self.now (record c.args.self.now { line = c.feed.new.self }) refl refl c.in_ok-feed.ensures.taken h c.in-None.ensures
    c.requires.part

pub end_line-requires : goal.end_line-requires
end_line-requires c =
    let some = c.requires.few in
    let size = length-append some.0 c.args.part.now in (
      some.0 ++ c.args.part.now,
      has_ended some.0 c.args.part.now c.args.self.now (record c.args.self.now { line = c.feed.new.self }) refl refl c.in_ok-feed.ensures.taken some.1
          c.in-Some.field-0.now c.in-Some.ensures c.requires.part,
      omega (arith, size, some.2),
    )

pub returns-in-Some-clause-taken : goal.returns-in-Some-clause-taken
returns-in-Some-clause-taken c =
    IfOk-weaker c.end_line.result _ _
    (λ ended ends bytes h.
    ends (bytes ++ c.args.part.now)
    (has_ended bytes c.args.part.now c.args.self.now (record c.args.self.now { line = c.feed.new.self }) refl refl c.in_ok-feed.ensures.taken h
    c.in-Some.field-0.now c.in-Some.ensures c.requires.part))
    c.end_line.ensures.at

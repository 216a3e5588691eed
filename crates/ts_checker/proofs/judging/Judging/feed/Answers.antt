use Rattle.std.proofs.Common.{ap, refl, sym, ◌∙◌}
use Rattle.std.specs.Prelude.{is_some}
use Rattle.ts_checker.proofs.JudgingLaws.{closed_ok, few_lines, on_err, on_ok, open_ok, some_stands, unstopped}
use Rattle.ts_checker.proofs.judging.Judging.feed.Goals as goal

pub returns-then-is_some-clause-read : goal.returns-then-is_some-clause-read
returns-then-is_some-clause-read c =
    some_stands c.args.self.now c.args.part.now (ap is_some (sym c.refused_line.ensures) ∙ sym c.is_some.ensures ∙ c.if-is_some.true) c.requires.part

pub returns-in-None-clause-read : goal.returns-in-None-clause-read
returns-in-None-clause-read c =
    open_ok c.feed.result c.args.self.now (record c.args.self.now { line = c.feed.new.self }) c.args.part.now refl
    (ap is_some (sym c.refused_line.ensures) ∙ sym c.is_some.ensures ∙ c.if-is_some.false) c.in-None.ensures c.requires.part c.feed.ensures.extends
    c.feed.ensures.small

pub returns-in_ok-feed-in-Some-clause-read : goal.returns-in_ok-feed-in-Some-clause-read
returns-in_ok-feed-in-Some-clause-read c =
    let closed = c.end_line.ensures in
    closed_ok c.end_line.result c.args.self.now (record c.args.self.now { line = c.feed-in-Some.new.self }) c.end_line.new.self c.args.part.now _ refl
    (ap is_some (sym c.refused_line.ensures) ∙ sym c.is_some.ensures ∙ c.if-is_some.false) c.in-Some.ensures c.requires.part
    c.in_ok-feed-in-Some.ensures.extends closed.judged closed.cleared

pub end_line-requires : goal.end_line-requires
end_line-requires c = let some = c.requires.few in few_lines some.0 c.args.self.now _ some.1 some.2

pub returns-in-None-clause-going : goal.returns-in-None-clause-going
returns-in-None-clause-going c =
    on_err c.feed.result (unstopped c.args.self.now.checker.reading (ap is_some (sym c.refused_line.ensures) ∙ sym c.is_some.ensures ∙ c.if-is_some.false))

pub returns-in-None-clause-stays : goal.returns-in-None-clause-stays
returns-in-None-clause-stays c =
    on_ok c.feed.result
    (λ e. unstopped c.args.self.now.checker.reading (ap is_some (sym c.refused_line.ensures) ∙ sym c.is_some.ensures ∙ c.if-is_some.false))

pub returns-in_ok-feed-in-Some-clause-going : goal.returns-in_ok-feed-in-Some-clause-going
returns-in_ok-feed-in-Some-clause-going c =
    on_err c.end_line.result
    (unstopped c.args.self.now.checker.reading (ap is_some (sym c.refused_line.ensures) ∙ sym c.is_some.ensures ∙ c.if-is_some.false))

pub returns-in_ok-feed-in-Some-clause-stays : goal.returns-in_ok-feed-in-Some-clause-stays
returns-in_ok-feed-in-Some-clause-stays c =
    on_ok c.end_line.result
    (λ e. unstopped c.args.self.now.checker.reading (ap is_some (sym c.refused_line.ensures) ∙ sym c.is_some.ensures ∙ c.if-is_some.false))

pub returns-in_err-feed-in-Some-clause-going : goal.returns-in_err-feed-in-Some-clause-going
returns-in_err-feed-in-Some-clause-going c =
    on_err c.from_residual.result
    (unstopped c.args.self.now.checker.reading (ap is_some (sym c.refused_line.ensures) ∙ sym c.is_some.ensures ∙ c.if-is_some.false))

use Rattle.std.proofs.Common.{lit<}
use Rattle.ts_base.specs.Words.{words_of}
use Rattle.ts_checker.proofs.LongLines.{kept_mark, kept_series, mark_small, series_small}
use Rattle.ts_checker.proofs.certificate_line.shortened.Goals as goal

pub returns-in_ok-extend_from_slice-in-Some-clause-shortens : goal.returns-in_ok-extend_from_slice-in-Some-clause-shortens
returns-in_ok-extend_from_slice-in-Some-clause-shortens c =
    kept_series c.args.line.now c.requires _ c.in_ok-short-in-Some.short.items c.extend_from_slice.new.self.items 513 (lit< tt) c.in-Some.ensures
    c.in_ok-short-in-Some.ensures c.in_ok-extend_from_slice-in-Some.ensures.items

pub returns-in_ok-extend_from_slice-in-Some-clause-small : goal.returns-in_ok-extend_from_slice-in-Some-clause-small
returns-in_ok-extend_from_slice-in-Some-clause-small c =
    series_small (words_of c.args.line.now) _ c.in_ok-short-in-Some.short.items c.extend_from_slice.new.self.items 513 (lit< tt) c.in-Some.ensures
    c.in_ok-short-in-Some.ensures c.in_ok-extend_from_slice-in-Some.ensures.items

pub returns-in_ok-push-in-None-clause-shortens : goal.returns-in_ok-push-in-None-clause-shortens
returns-in_ok-push-in-None-clause-shortens c =
    kept_mark c.args.line.now c.requires c.new-short.result.items c.push.new.self.items c.in-None.ensures c.new-short.ensures.items
    c.in_ok-push-in-None.ensures.items

pub returns-in_ok-push-in-None-clause-small : goal.returns-in_ok-push-in-None-clause-small
returns-in_ok-push-in-None-clause-small c =
    mark_small c.new-short.result.items c.push.new.self.items c.new-short.ensures.items c.in_ok-push-in-None.ensures.items

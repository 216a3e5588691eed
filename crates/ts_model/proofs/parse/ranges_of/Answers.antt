use Rattle.std.proofs.Common.{length, arith}
use Rattle.ts_token.specs.Text.{words_from}
use Rattle.ts_token.specs.Views.{piece}
use Rattle.ts_model.specs.ModelReading.{texts_of}
use Rattle.ts_model.specs.Words.{ranges_of}
use Rattle.ts_model.proofs.RangeLaws.{one_range, range_stop, some_range}
use Rattle.ts_model.proofs.parse.ranges_of.Goals as goal

pub returns-in_err-range : goal.returns-in_err-range
returns-in_err-range c =
    let next = c.in-Some.ensures.some in
    range_stop c.loop-next.items.items (words_from c.loop-next.at c.loop-next.rest.now) _ (piece c.in-Some.next.word)
    (ranges_of (texts_of (words_from c.args.column c.args.bytes.now))) next.words c.loop-next.invariant.read c.in_err-range.field-0.0
    c.from_residual-in_err-range.result c.in_err-range.ensures c.from_residual-in_err-range.ensures.1

pub loop-next-preserved : goal.loop-next-preserved
loop-next-preserved c =
    let next = c.in-Some.ensures.some in
    let kept = c.loop-next.invariant in
    record {
      read = one_range c.loop-next.items.items (words_from c.loop-next.at c.loop-next.rest.now) _ (piece c.in-Some.next.word)
          (ranges_of (texts_of (words_from c.args.column c.args.bytes.now))) next.words kept.read c.push.new.self.items c.in_ok-range.range c.in_ok-range.ensures
          c.in_ok-push.ensures.items;
      some = some_range c.loop-next.items.items c.push.new.self.items c.in_ok-range.range
          (length (words_from c.in-Some.next.column c.in-Some.next.rest.now)) c.in_ok-push.ensures.items;
      place = omega (arith, next.place, kept.place);
    }

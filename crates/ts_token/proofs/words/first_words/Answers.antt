use Rattle.std.proofs.Common.{arith}
use Rattle.ts_token.specs.Text.{words_from}
use Rattle.ts_token.proofs.FewWords.{none_left, one_taken}
use Rattle.ts_token.proofs.words.first_words.Goals as goal

pub returns-in-None : goal.returns-in-None
returns-in-None c =
    none_left c.loop.counter c.args.most (words_from c.args.column c.args.bytes.now) c.loop.words.items (words_from c.loop.at c.loop.rest.now) (omega arith)
    c.loop.invariant.taken c.loop.invariant.left c.in-None.ensures.none

pub loop-preserved : goal.loop-preserved
loop-preserved c =
    let next = c.in-Some.ensures.some in
    let kept = c.loop.invariant in
    let one = one_taken c.loop.counter (words_from c.args.column c.args.bytes.now) c.loop.words.items c.push.new.self.items c.in-Some.next.word
    (words_from c.loop.at c.loop.rest.now) (words_from c.in-Some.next.column c.in-Some.next.rest.now) kept.taken kept.left next.words
    c.in_ok-push-in-Some.ensures.items in
    record { taken = one.0; left = one.1; place = omega (arith, next.place, kept.place) }

use Rattle.std.proofs.Common.{sym, ap, ◌∙◌, rules, arith}
use Rattle.std.proofs.lemmas.Int.{ints}
use mir.Syntax.{w64}
use mir.Val.{SFits}
use Rattle.ts_base.specs.Words.{all_words, more_seen}
use Rattle.ts_certificate.proofs.ValueLaws.{value_taken}
use Rattle.ts_certificate.proofs.head.values_of.Goals as goal

pub loop-rest-preserved : goal.loop-rest-preserved
loop-rest-preserved c =
    let words = c.words_of-words.result in
    let fits : SFits w64 c.in-Some-value_of.v = search rules in
    value_taken c.loop-rest.values.items c.push.new.self.items c.in-Some-value_of.v _ words.first.now (more_seen c.loop-rest.rest) (more_seen words.rest) _
    (ap more_seen c.in-Some.is ∙ sym (ap all_words c.words_of-words.ensures.words)) c.in-Some-value_of.ensures (omega (arith, ints))
    c.in_ok-push-in-Some-value_of.ensures.items c.loop-rest.invariant

use Rattle.std.proofs.Common.{◌≡◌, Bool, Ok, Err, arith, subst, ap, ◌∙◌, length, length-append}
use Rattle.std.proofs.lemmas.Bool.Decides.{nat_tests}
use Rattle.std.proofs.lemmas.List.{nil_from_length}
use Rattle.ts_token.specs.Gist.{without_end}
use Rattle.ts_token.specs.Text.{lines_of, cut_of}
use Rattle.ts_user.specs.LineByLine.{line_after, lines_reading}
use Rattle.ts_user.specs.PatternReading.{is_alone, pattern_reading}
use Rattle.ts_user.specs.Views.{stated_of, Gives}
use Rattle.ts_user.proofs.TextLines.{text_is, first_cut, line_on, line_stops, all_said, end_stops}
use Rattle.ts_user.proofs.Told.{told}
use Rattle.ts_user.proofs.text.read_pattern_text.Goals as goal

pub loop-rest-init : goal.loop-rest-init
loop-rest-init c = record {
  read = ap (λ z. lines_reading (is_alone (cut_of c.args.text.now)) 0 z (lines_of c.args.text.now)) c.new-draft.ensures.empty ∙ text_is c.args.text.now;
  few = omega arith;
  sound = c.new-draft.ensures.sound;
  alone = c.new-draft.ensures.alone ∙ c.is_alone.ensures;
}

pub loop-rest-preserved : goal.loop-rest-preserved
loop-rest-preserved c =
    let kept = c.loop-rest.invariant in
    let cut = c.first_line.ensures in
    let alone = is_alone (cut_of c.args.text.now) in
    let before = stated_of c.loop-rest.draft in
    let after = stated_of c.read_line.new.draft in
    record {
      read = line_on alone c.loop-rest.count before after c.loop-rest.rest.now c.first_line.result.0.now c.first_line.result.1.now
          (pattern_reading c.args.text.now)
          (first_cut c.loop-rest.rest.now c.first_line.result.0.now c.first_line.result.1.now cut.cut cut.parts cut.some)
          (subst (λ (b : Bool). line_after b before (without_end c.first_line.result.0.now) ≡ Ok after) kept.alone c.in-Ok.ensures.taken) kept.read;
      few = let size = ap length cut.parts ∙ length-append c.first_line.result.0.now c.first_line.result.1.now in
          omega (arith, size, cut.some, kept.few);
      sound = c.in-Ok.ensures.sound;
      alone = c.in-Ok.ensures.alone ∙ kept.alone;
    }

pub returns-in-Err-clause-exact : goal.returns-in-Err-clause-exact
returns-in-Err-clause-exact c =
    let kept = c.loop-rest.invariant in
    let cut = c.first_line.ensures in
    let before = stated_of c.loop-rest.draft in
    let after = stated_of c.read_line.new.draft in
    line_stops (is_alone (cut_of c.args.text.now)) c.loop-rest.count before after c.loop-rest.rest.now c.first_line.result.0.now
    c.first_line.result.1.now c.in-Err.stop c.at_line.result (pattern_reading c.args.text.now) c.at_line.ensures
    (first_cut c.loop-rest.rest.now c.first_line.result.0.now c.first_line.result.1.now cut.cut cut.parts cut.some)
    (subst (λ (b : Bool). Gives {X = Unit {0}} (λ _. after) (Err c.in-Err.stop) (line_after b before (without_end c.first_line.result.0.now)))
    kept.alone c.in-Err.ensures.taken) kept.read

pub returns-in-Err-clause-first : goal.returns-in-Err-clause-first
returns-in-Err-clause-first c = told (cut_of c.args.text.now) (Err c.at_line.result) (returns-in-Err-clause-exact c)

pub returns-in-Ok-ended-clause-first : goal.returns-in-Ok-ended-clause-first
returns-in-Ok-ended-clause-first c =
    told (cut_of c.args.text.now) (Ok c.in-Ok-ended.pattern)
    (all_said (is_alone (cut_of c.args.text.now)) c.loop-rest.count (stated_of c.loop-rest.draft) c.loop-rest.rest.now c.in-Ok-ended.pattern
    (pattern_reading c.args.text.now) (nil_from_length c.loop-rest.rest.now (grind (arith, nat_tests))) c.in-Ok-ended.ensures.ended
    c.loop-rest.invariant.read)

pub returns-in-Err-ended-clause-first : goal.returns-in-Err-ended-clause-first
returns-in-Err-ended-clause-first c =
    told (cut_of c.args.text.now) (Err c.at_line-in-Err-ended.result)
    (end_stops (is_alone (cut_of c.args.text.now)) c.loop-rest.count (stated_of c.loop-rest.draft) c.loop-rest.rest.now c.in-Err-ended.stop
    c.at_line-in-Err-ended.result (pattern_reading c.args.text.now) c.at_line-in-Err-ended.ensures
    (nil_from_length c.loop-rest.rest.now (grind (arith, nat_tests))) c.in-Err-ended.ensures.ended c.loop-rest.invariant.read)

use Rattle.std.proofs.Common.{◌≡◌, Bool, Ok, Err, arith, subst, ◌∙◌}
use Rattle.ts_user.specs.PatternReading.{line_gives}
use Rattle.ts_user.specs.Views.{stated_of, texts, Gives}
use Rattle.ts_user.proofs.LineLaws.{line_taken, line_stopped}
use Rattle.ts_user.proofs.read.read_lines.Goals as goal

pub loop-line-preserved : goal.loop-line-preserved
loop-line-preserved c =
    let before = stated_of c.loop-line.draft in
    let after = stated_of c.read_line.new.self in
    let kept = c.loop-line.invariant in
    record {
      read =
          line_taken c.args.alone before after c.args.lines.now c.loop-line.line-index c.line-item.result c.deref.result.now _
          (omega arith) c.line-item.is c.deref.ensures.value
          (subst (λ (b : Bool). line_gives b before (texts c.deref.result.now) ≡ Ok after) kept.alone c.in-Ok.ensures.taken) kept.read;
      sound = c.in-Ok.ensures.sound;
      alone = c.in-Ok.ensures.alone ∙ kept.alone;
    }

pub returns-in-Err-clause-rows : goal.returns-in-Err-clause-rows
returns-in-Err-clause-rows c =
    let before = stated_of c.loop-line.draft in
    let after = stated_of c.read_line.new.self in
    line_stopped c.args.alone before after c.args.lines.now c.loop-line.line-index c.line-item.result c.deref.result.now c.in-Err.stop c.at_line.result _
    c.at_line.ensures (omega arith)
    c.line-item.is c.deref.ensures.value
    (subst (λ (b : Bool). Gives {X = Unit {0}} (λ _. after) (Err c.in-Err.stop) (line_gives b before (texts c.deref.result.now)))
    c.loop-line.invariant.alone c.in-Err.ensures.taken)
    c.loop-line.invariant.read

use Rattle.std.proofs.Common.{◌∙◌, arith}
use Rattle.ts_search.specs.Views.{problem_of, search_of}
use Rattle.ts_search.proofs.CodeLeaps.{back_there, down_back, half_tried, leap_sought, part_below, shorter}
use Rattle.ts_search.proofs.Posed.{part_size}
use Rattle.ts_search.proofs.leap.leap.Goals as goal

pub copied-requires : goal.copied-requires
copied-requires c =
    let size = part_size (problem_of c.args.seeking.now) c.requires.asked.posed c.args.cells.now.present c.requires.asked.part in
    let few = c.requires.asked.posed.right.whole.few in omega (arith, size, few)

pub line-requires-clause-asked : goal.line-requires-clause-asked
line-requires-clause-asked c =
    let b = c.args.cells.now.present in
    record {
      posed = c.requires.asked.posed;
      part = part_below b c.undo.new.self.present c.loop-far.far
          (back_there b c.loop-far.below c.loop-far.invariant.down c.undo.new.self c.loop-far.far c.loop-far.invariant.there c.undo.ensures)
          (search_of (problem_of c.args.seeking.now)).model.cells c.requires.asked.part;
      tables = c.loop-far.invariant.machines ∙ c.requires.asked.tables;
    }

pub returns-in-Split-clause-splits : goal.returns-in-Split-clause-splits
returns-in-Split-clause-splits c =
    let b = c.args.cells.now.present in
    leap_sought c.args.seeking.now c.requires.inside c.loop-far.far b c.undo.new.self.present c.requires.asked.part c.loop-far.invariant.tried
    (back_there b c.loop-far.below c.loop-far.invariant.down c.undo.new.self c.loop-far.far c.loop-far.invariant.there c.undo.ensures)
    c.in_ok-line.line _ _ c.in_ok-line.ensures.line c.in-Split.is

pub loop-far-preserved : goal.loop-far-preserved
loop-far-preserved c =
    let b = c.args.cells.now.present in
    record {
      machines = c.line.ensures.machines ∙ c.loop-far.invariant.machines;
      held = c.in_ok-line.ensures.held;
      few = (let few = c.loop-far.invariant.few in omega (arith, few));
      there = (let size = shorter b c.loop-far.below c.loop-far.invariant.down c.undo.new.self c.loop-far.far c.loop-far.invariant.there c.undo.ensures in
          omega (arith, size));
      down = down_back b c.loop-far.below c.loop-far.invariant.down c.undo.new.self c.loop-far.far c.loop-far.invariant.there c.undo.ensures;
      tried = half_tried (search_of (problem_of c.args.seeking.now)) c.loop-far.far b c.loop-far.invariant.tried;
    }

pub loop-far-smaller : goal.loop-far-smaller
loop-far-smaller c = let some = c.loop-far-test.true in omega (arith, some)

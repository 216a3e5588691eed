use Rattle.std.proofs.Common.{arith}
use Rattle.ts_filter.proofs.CourseLaws.{none_at_end}
use Rattle.ts_filter.proofs.box_tables.BoxTables.remember.Goals as goal

pub returns : goal.returns
returns c =
    let none = none_at_end c.args.own.all.now c.args.own.term c.args.self.now.machine c.args.cells.now.present c.args.course c.requires.course
    (let over = c.if-course.false in omega (arith, over)) in
    record { known = c.found_nothing.ensures c.args.cells.now.present c.requires.looks none c.requires.known }

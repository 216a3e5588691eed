use Rattle.std.proofs.Common.{true, false, length, rules}
use Rattle.ts_meet.proofs.Watched.{told_taken}
use Rattle.ts_meet.proofs.along.along_held.Goals as goal

pub along_glued-requires : goal.along_glued-requires
along_glued-requires g c =
    let has = c.requires in let a = c.args in let arm = c.in-true-true in
    let taken = told_taken g.row.N a.here a.there true true a.gluing a.left.now a.right.now a.from (length a.values.now) arm.is-0 arm.is-1 has.held in
    (search rules, (has.apart, (has.registers, (has.alone, (has.left, (has.right, (has.values, taken)))))))

pub along_glued-requires-in-true-false : goal.along_glued-requires-in-true-false
along_glued-requires-in-true-false g c =
    let has = c.requires in let a = c.args in let arm = c.in-true-false in
    let taken = told_taken g.row.N a.here a.there true false a.gluing a.left.now a.right.now a.from (length a.values.now) arm.is-0 arm.is-1 has.held in
    (search rules, (has.apart, (has.registers, (has.alone, (has.left, (has.right, (has.values, taken)))))))

pub along_glued-requires-in-false-true : goal.along_glued-requires-in-false-true
along_glued-requires-in-false-true g c =
    let has = c.requires in let a = c.args in let arm = c.in-false-true in
    let taken = told_taken g.row.N a.here a.there false true a.gluing a.left.now a.right.now a.from (length a.values.now) arm.is-0 arm.is-1 has.held in
    (search rules, (has.apart, (has.registers, (has.alone, (has.left, (has.right, (has.values, taken)))))))

pub along_glued-requires-in-false-false : goal.along_glued-requires-in-false-false
along_glued-requires-in-false-false g c =
    let has = c.requires in let a = c.args in let arm = c.in-false-false in
    let taken = told_taken g.row.N a.here a.there false false a.gluing a.left.now a.right.now a.from (length a.values.now) arm.is-0 arm.is-1 has.held in
    (search rules, (has.apart, (has.registers, (has.alone, (has.left, (has.right, (has.values, taken)))))))

use Rattle.std.proofs.Common.{◌≡◌, sym, ap, ◌∙◌, ◌-◌, length, refl, subst, rules, w64, arith}
use Rattle.std.proofs.lemmas.Int.{to_z-of_z}
use Rattle.ts_base.specs.Limits.{IsCellValue}
use Rattle.ts_base.specs.Windows.{looked_at}
use Rattle.ts_domain.specs.Boxes.{values_at}
use Rattle.ts_glue.specs.Machines.{forward_of, pair_of, window_of}
use Rattle.ts_meet.specs.Meets.{hull_of_spans}
use Rattle.ts_bound.specs.Blocks.{AreBackRows, finishes}
use Rattle.ts_bound.specs.HullTables.{cells_before, cells_after}
use Rattle.ts_bound.specs.Looks.{count_looked, place_in}
use Rattle.ts_bound.specs.TermSpans.{automata_of}
use Rattle.ts_bound.proofs.FitLaws.{after_within, back_fit, before_within, value_hulls_fit}
use Rattle.ts_bound.proofs.SpanRuns.{row_there, back_row_there, count_is, ahead_fits, ahead_block, back_fits, back_block, back_length, length-hulls_at, split_some}
use Rattle.ts_bound.proofs.SpanEnds.{back_count, front_count, glued_there, pair_is, split_one, split_value_ends, last_one, last_value_ends, value_within, within_of}
use Rattle.ts_bound.proofs.spans.span_at.Goals as goal

pub row-row-requires : goal.row-row-requires
row-row-requires c =
    let m = c.args.m.now in let cells = c.args.cells.now.present in let w = window_of m in let b = forward_of m in
    row_there w cells c.requires.looks c.args.k c.requires.cell.0 c.requires.cell.1 b c.args.ahead.now c.requires.ahead

pub block-left-requires : goal.block-left-requires
block-left-requires c =
    let m = c.args.m.now in let cells = c.args.cells.now.present in let w = window_of m in let b = forward_of m in
    ahead_fits w cells c.requires.looks c.args.k c.requires.cell.0 c.requires.cell.1 c.args.i c.args.v c.requires.value c.states.result
    c.row-row.result.now c.requires.looked b c.args.ahead.now (c.states.ensures.count ∙ ap (λ b. length b.states) c.forward-a.ensures) c.requires.ahead
    c.row-row.ensures

pub of-joints-requires : goal.of-joints-requires
of-joints-requires c =
    let m = c.args.m.now in let cells = c.args.cells.now.present in let w = window_of m in let b = forward_of m in
    let back : AreBackRows (pair_of m) w cells c.in-Some.back.now = search rules in
    record { split = split_some (pair_of m) _ back }

pub row-back_row-requires : goal.row-back_row-requires
row-back_row-requires c =
    let m = c.args.m.now in let cells = c.args.cells.now.present in let w = window_of m in let b = forward_of m in
    let back : AreBackRows (pair_of m) w cells c.in-Some.back.now = search rules in
    back_row_there w cells c.requires.looks c.args.k c.requires.cell.0 c.requires.cell.1 (pair_of m) c.in-Some.back.now back

pub block-right-requires : goal.block-right-requires
block-right-requires c =
    let m = c.args.m.now in let cells = c.args.cells.now.present in let w = window_of m in let b = forward_of m in
    let back : AreBackRows (pair_of m) w cells c.in-Some.back.now = search rules in
    let some = split_some (pair_of m) _ back in
    let count = back_count (pair_of m) c.of-joints.result some c.of-joints.ensures in
    back_fits w cells c.requires.looks c.args.k c.requires.cell.0 c.requires.cell.1 c.args.i c.args.v c.requires.value c.of-joints.result.right_states
    c.row-back_row.result.now c.requires.looked (pair_of m) c.in-Some.back.now count back c.row-back_row.ensures

pub glue_block-requires-clause-left_states : goal.glue_block-requires-clause-left_states
glue_block-requires-clause-left_states c =
    let m = c.args.m.now in let cells = c.args.cells.now.present in let w = window_of m in let b = forward_of m in
    let back : AreBackRows (pair_of m) w cells c.in-Some.back.now = search rules in
    let left =
    ahead_block w cells c.requires.looks c.args.k c.requires.cell.0 c.requires.cell.1 c.args.i c.args.v c.requires.value c.states.result
    c.row-row.result.now c.requires.looked b c.args.ahead.now (c.states.ensures.count ∙ ap (λ b. length b.states) c.forward-a.ensures) c.requires.ahead
    c.row-row.ensures c.block-left.result.now c.block-left.ensures in
    let at = place_in w c.args.k in let inner = looked_at w cells in
    let some = split_some (pair_of m) _ back in
    ap length left ∙ length-hulls_at b (cells_before at inner) c.args.v
    ∙ sym (front_count b (pair_of m) c.of-joints.result some (pair_is m) c.of-joints.ensures)

pub glue_block-requires-clause-right_states : goal.glue_block-requires-clause-right_states
glue_block-requires-clause-right_states c =
    let m = c.args.m.now in let cells = c.args.cells.now.present in let w = window_of m in let b = forward_of m in
    let back : AreBackRows (pair_of m) w cells c.in-Some.back.now = search rules in
    let some = split_some (pair_of m) _ back in
    let count = back_count (pair_of m) c.of-joints.result some c.of-joints.ensures in
    let right =
    back_block w cells c.requires.looks c.args.k c.requires.cell.0 c.requires.cell.1 c.args.i c.args.v c.requires.value c.of-joints.result.right_states
    c.row-back_row.result.now c.requires.looked (pair_of m) c.in-Some.back.now count back c.row-back_row.ensures
    c.block-right.result.now c.block-right.ensures in
    let at = place_in w c.args.k in let inner = looked_at w cells in
    ap length right ∙ back_length (pair_of m) (cells_after at inner) c.args.v ∙ sym count

pub glue_block-requires-clause-left_fit : goal.glue_block-requires-clause-left_fit
glue_block-requires-clause-left_fit c =
    let m = c.args.m.now in let cells = c.args.cells.now.present in let w = window_of m in let b = forward_of m in
    let left =
    ahead_block w cells c.requires.looks c.args.k c.requires.cell.0 c.requires.cell.1 c.args.i c.args.v c.requires.value c.states.result
    c.row-row.result.now c.requires.looked b c.args.ahead.now (c.states.ensures.count ∙ ap (λ b. length b.states) c.forward-a.ensures) c.requires.ahead
    c.row-row.ensures c.block-left.result.now c.block-left.ensures in
    let first = c.requires.cell.0 in let last = c.requires.cell.1 in let values = values_at c.args.k cells in
    let value =
    value_within values c.args.i c.args.v
    (within_of cells (c.args.k - 1) values c.cells.ensures.domains (omega (arith, first, last)) refl) c.requires.value in
    let at = place_in w c.args.k in let inner = looked_at w cells in
    value_hulls_fit b c.machine_is_whole.ensures.forward (cells_before at inner) c.args.v _ (before_within w cells at c.cells.ensures.domains) value left

pub glue_block-requires-clause-right_fit : goal.glue_block-requires-clause-right_fit
glue_block-requires-clause-right_fit c =
    let m = c.args.m.now in let cells = c.args.cells.now.present in let w = window_of m in let b = forward_of m in
    let back : AreBackRows (pair_of m) w cells c.in-Some.back.now = search rules in
    let some = split_some (pair_of m) _ back in
    let count = back_count (pair_of m) c.of-joints.result some c.of-joints.ensures in
    let right =
    back_block w cells c.requires.looks c.args.k c.requires.cell.0 c.requires.cell.1 c.args.i c.args.v c.requires.value c.of-joints.result.right_states
    c.row-back_row.result.now c.requires.looked (pair_of m) c.in-Some.back.now count back c.row-back_row.ensures
    c.block-right.result.now c.block-right.ensures in
    let first = c.requires.cell.0 in let last = c.requires.cell.1 in let values = values_at c.args.k cells in
    let value =
    value_within values c.args.i c.args.v
    (within_of cells (c.args.k - 1) values c.cells.ensures.domains (omega (arith, first, last)) refl) c.requires.value in
    let at = place_in w c.args.k in let inner = looked_at w cells in
    back_fit b (pair_of m) c.machine_is_whole.ensures.pair (cells_after at inner) c.args.v _ (after_within w cells at c.cells.ensures.domains) value right

pub glue_block-requires-clause-cell : goal.glue_block-requires-clause-cell
glue_block-requires-clause-cell c =
    let cells = c.args.cells.now.present in
    let first = c.requires.cell.0 in let last = c.requires.cell.1 in let values = values_at c.args.k cells in
    let value =
    value_within values c.args.i c.args.v
    (within_of cells (c.args.k - 1) values c.cells.ensures.domains (omega (arith, first, last)) refl) c.requires.value in
    subst IsCellValue (sym (to_z-of_z w64 c.args.v c.ranges.v)) value

pub finish_block-requires-clause-states : goal.finish_block-requires-clause-states
finish_block-requires-clause-states c =
    let m = c.args.m.now in let cells = c.args.cells.now.present in let w = window_of m in let b = forward_of m in
    let left =
    ahead_block w cells c.requires.looks c.args.k c.requires.cell.0 c.requires.cell.1 c.args.i c.args.v c.requires.value c.states.result
    c.row-row.result.now c.requires.looked b c.args.ahead.now (c.states.ensures.count ∙ ap (λ b. length b.states) c.forward-a.ensures) c.requires.ahead
    c.row-row.ensures c.block-left.result.now c.block-left.ensures in
    let at = place_in w c.args.k in let inner = looked_at w cells in
    ap length left ∙ length-hulls_at b (cells_before at inner) c.args.v ∙ ap (λ b. length b.states) (sym c.forward-a.ensures)

pub finish_block-requires-clause-fit : goal.finish_block-requires-clause-fit
finish_block-requires-clause-fit c =
    let m = c.args.m.now in let cells = c.args.cells.now.present in let w = window_of m in let b = forward_of m in
    let left =
    ahead_block w cells c.requires.looks c.args.k c.requires.cell.0 c.requires.cell.1 c.args.i c.args.v c.requires.value c.states.result
    c.row-row.result.now c.requires.looked b c.args.ahead.now (c.states.ensures.count ∙ ap (λ b. length b.states) c.forward-a.ensures) c.requires.ahead
    c.row-row.ensures c.block-left.result.now c.block-left.ensures in
    let first = c.requires.cell.0 in let last = c.requires.cell.1 in let values = values_at c.args.k cells in
    let value =
    value_within values c.args.i c.args.v
    (within_of cells (c.args.k - 1) values c.cells.ensures.domains (omega (arith, first, last)) refl) c.requires.value in
    let at = place_in w c.args.k in let inner = looked_at w cells in
    value_hulls_fit b c.machine_is_whole.ensures.forward (cells_before at inner) c.args.v _ (before_within w cells at c.cells.ensures.domains) value left

pub returns-in-Some : goal.returns-in-Some
returns-in-Some c =
    let m = c.args.m.now in let cells = c.args.cells.now.present in let w = window_of m in let b = forward_of m in
    let back : AreBackRows (pair_of m) w cells c.in-Some.back.now = search rules in
    let left =
    ahead_block w cells c.requires.looks c.args.k c.requires.cell.0 c.requires.cell.1 c.args.i c.args.v c.requires.value c.states.result
    c.row-row.result.now c.requires.looked b c.args.ahead.now (c.states.ensures.count ∙ ap (λ b. length b.states) c.forward-a.ensures) c.requires.ahead
    c.row-row.ensures c.block-left.result.now c.block-left.ensures in
    let some = split_some (pair_of m) _ back in
    let count = back_count (pair_of m) c.of-joints.result some c.of-joints.ensures in
    let right =
    back_block w cells c.requires.looks c.args.k c.requires.cell.0 c.requires.cell.1 c.args.i c.args.v c.requires.value c.of-joints.result.right_states
    c.row-back_row.result.now c.requires.looked (pair_of m) c.in-Some.back.now count back c.row-back_row.ensures
    c.block-right.result.now c.block-right.ensures in
    let n =
    count_is w cells c.requires.looks c.args.k c.requires.cell.0 c.requires.cell.1 _ _ c.cells.ensures.count
    (c.looked_count-n.ensures ∙ ap (λ w. count_looked w c.cells.result) c.window.ensures) in
    let at = place_in w c.args.k in let inner = looked_at w cells in
    split_one b (pair_of m) at inner c.args.v _ _ _ _ _ c.glue_block.result (to_z-of_z w64 c.args.v c.ranges.v) left right n count
    (glued_there b (pair_of m) c.of-joints.result c.block-left.result.now c.block-right.result.now _ _ c.glue_block.result some (pair_is m) c.of-joints.ensures
    c.glue_block.ensures)
    ∙ split_value_ends (automata_of m) at inner c.args.v some (pair_is m)

pub returns-in-None : goal.returns-in-None
returns-in-None c =
    let m = c.args.m.now in let cells = c.args.cells.now.present in let w = window_of m in let b = forward_of m in
    let left =
    ahead_block w cells c.requires.looks c.args.k c.requires.cell.0 c.requires.cell.1 c.args.i c.args.v c.requires.value c.states.result
    c.row-row.result.now c.requires.looked b c.args.ahead.now (c.states.ensures.count ∙ ap (λ b. length b.states) c.forward-a.ensures) c.requires.ahead
    c.row-row.ensures c.block-left.result.now c.block-left.ensures in
    let n =
    count_is w cells c.requires.looks c.args.k c.requires.cell.0 c.requires.cell.1 _ _ c.cells.ensures.count
    (c.looked_count-n.ensures ∙ ap (λ w. count_looked w c.cells.result) c.window.ensures) in
    let at = place_in w c.args.k in let inner = looked_at w cells in
    let last : at ≡ length inner = search rules in
    last_one b at inner c.args.v c.block-left.result.now c.looked_count-n.result c.finish_block.result left n
    (c.finish_block.ensures ∙ ap (λ b. hull_of_spans (finishes b c.block-left.result.now c.looked_count-n.result (length b.states))) c.forward-a.ensures)
    ∙ last_value_ends (automata_of m) c.machine_is_whole.ensures at inner c.args.v last

use Rattle.std.proofs.Common.{◌≡◌, ◌∙◌, suc, ap, sym, subst, length, take, reverse, [], ◌∷◌, get_or, arith, ◌-◌}
use Rattle.ts_row.specs.Plans.{IsPlanOf}
use Rattle.ts_sweep.specs.Sides.{has_wide}
use Rattle.ts_bound.specs.AnyRows.{form_lanes, viewed}
use Rattle.ts_bound.specs.Reading.{cells_read}
use Rattle.ts_bound.proofs.PackedStacks.{first_made, fresh_made, next_made, packed_before}
use Rattle.ts_bound.proofs.rows.next_row.Goals as goal

pub started-requires : goal.started-requires
started-requires c =
    c.requires.known.planned.form ∙ ap (λ f. has_wide (form_lanes f)) (sym (c.with_room-spare.ensures ∙ c.form.ensures))

pub returns-then-i-eq0-clause-laid : goal.returns-then-i-eq0-clause-laid
returns-then-i-eq0-clause-laid c =
    let a = c.args.a.now in let cells = cells_read c.args.reading in let rows = c.args.rows.now in
    (fresh_made a rows.planned [] c.lend.result.values.now c.in_ok-first.first _ c.requires.known.planned c.in_ok-first.ensures.fresh
    c.in_ok-first.ensures.row
    (first_made a cells rows.known rows.planned c.lend.result.values.now c.in_ok-first.first.packed c.requires.known.planned
    (sym c.len-i.ensures ∙ c.if-i-eq0.true) c.requires.more
    (c.lend.ensures ∙ c.in_ok-reset.ensures.values ∙ c.at-values.ensures ∙ ap (λ j. get_or cells j []) c.len-i.ensures)
    (c.in_ok-first.ensures.form ∙ c.with_room-spare.ensures ∙ c.form.ensures) c.in_ok-first.ensures.row)).0

pub returns-then-i-eq0-clause-hulls : goal.returns-then-i-eq0-clause-hulls
returns-then-i-eq0-clause-hulls c =
    let a = c.args.a.now in let cells = cells_read c.args.reading in let rows = c.args.rows.now in
    (fresh_made a rows.planned [] c.lend.result.values.now c.in_ok-first.first _ c.requires.known.planned c.in_ok-first.ensures.fresh
    c.in_ok-first.ensures.row
    (first_made a cells rows.known rows.planned c.lend.result.values.now c.in_ok-first.first.packed c.requires.known.planned
    (sym c.len-i.ensures ∙ c.if-i-eq0.true) c.requires.more
    (c.lend.ensures ∙ c.in_ok-reset.ensures.values ∙ c.at-values.ensures ∙ ap (λ j. get_or cells j []) c.len-i.ensures)
    (c.in_ok-first.ensures.form ∙ c.with_room-spare.ensures ∙ c.form.ensures) c.in_ok-first.ensures.row)).1

pub stepped-requires : goal.stepped-requires
stepped-requires c =
    let a = c.args.a.now in let cells = cells_read c.args.reading in let rows = c.args.rows.now in
    let i = c.len-i.result - 1 in let count = c.len-i.ensures in
    let at : suc i ≡ length rows.known = omega (arith, c.if-i-eq0.false, count) in
    let here = c.requires.before (omega (arith, at)) ∙ ap (λ j. get_or cells (j - 1) []) (sym count) in
    let before = packed_before a cells rows.known rows.planned i c.lend-2.result.values.now (viewed c.row-before.result) c.requires.known.planned
    c.requires.known.known at c.requires.more c.row-before.ensures.states c.row-before.ensures.hulls
    (c.lend-2.ensures ∙ here) in
    record {
      width = c.requires.known.planned.form ∙ ap (λ f. has_wide (form_lanes f)) (sym (c.with_room-spare.ensures ∙ c.form.ensures));
      form_before = c.row-before.ensures.states.form ∙ sym (c.with_room-spare.ensures ∙ c.form.ensures);
      plan = subst (IsPlanOf a) (sym c.plan.ensures) c.requires.known.planned.plan;
      row = before.packed.is_row;
    }

pub returns-clause-laid : goal.returns-clause-laid
returns-clause-laid c =
    let a = c.args.a.now in let cells = cells_read c.args.reading in let rows = c.args.rows.now in
    let i = c.len-i.result - 1 in let count = c.len-i.ensures in let p = rows.planned in
    let at : suc i ≡ length rows.known = omega (arith, c.if-i-eq0.false, count) in
    let here = c.requires.before (omega (arith, at)) ∙ ap (λ j. get_or cells (j - 1) []) (sym count) in
    let was = c.lend-2.result.values.now in let values = c.lend-3.result.values.now in
    let behind = packed_before a cells rows.known p i was (viewed c.row-before.result) c.requires.known.planned c.requires.known.known at c.requires.more
    c.row-before.ensures.states c.row-before.ensures.hulls (c.lend-2.ensures ∙ here) in
    (fresh_made a p (was ∷ reverse (take i cells)) values c.in_ok-row.row _ c.requires.known.planned c.in_ok-row.ensures.fresh
    (c.in_ok-row.ensures.row (reverse (take i cells)) behind)
    (next_made a cells rows.known p i was (viewed c.row-before.result) c.requires.known.planned c.requires.known.known at
    c.requires.more c.row-before.ensures.states c.row-before.ensures.hulls (c.lend-2.ensures ∙ here) values c.in_ok-row.row.packed
    (c.lend-3.ensures ∙ c.in_ok-reset.ensures.values ∙ c.at-values.ensures ∙ ap (λ j. get_or cells j []) count)
    (c.in_ok-row.ensures.form ∙ c.with_room-spare.ensures ∙ c.form.ensures) c.in_ok-row.ensures.row)).0

pub returns-clause-hulls : goal.returns-clause-hulls
returns-clause-hulls c =
    let a = c.args.a.now in let cells = cells_read c.args.reading in let rows = c.args.rows.now in
    let i = c.len-i.result - 1 in let count = c.len-i.ensures in let p = rows.planned in
    let at : suc i ≡ length rows.known = omega (arith, c.if-i-eq0.false, count) in
    let here = c.requires.before (omega (arith, at)) ∙ ap (λ j. get_or cells (j - 1) []) (sym count) in
    let was = c.lend-2.result.values.now in let values = c.lend-3.result.values.now in
    let behind = packed_before a cells rows.known p i was (viewed c.row-before.result) c.requires.known.planned c.requires.known.known at c.requires.more
    c.row-before.ensures.states c.row-before.ensures.hulls (c.lend-2.ensures ∙ here) in
    (fresh_made a p (was ∷ reverse (take i cells)) values c.in_ok-row.row _ c.requires.known.planned c.in_ok-row.ensures.fresh
    (c.in_ok-row.ensures.row (reverse (take i cells)) behind)
    (next_made a cells rows.known p i was (viewed c.row-before.result) c.requires.known.planned c.requires.known.known at
    c.requires.more c.row-before.ensures.states c.row-before.ensures.hulls (c.lend-2.ensures ∙ here) values c.in_ok-row.row.packed
    (c.lend-3.ensures ∙ c.in_ok-reset.ensures.values ∙ c.at-values.ensures ∙ ap (λ j. get_or cells j []) count)
    (c.in_ok-row.ensures.form ∙ c.with_room-spare.ensures ∙ c.form.ensures) c.in_ok-row.ensures.row)).1

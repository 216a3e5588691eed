use Rattle.std.proofs.Common.{◌∙◌, length, refl, sym, subst}
use Rattle.std.proofs.lemmas.List.{length-map}
use Rattle.ts_bound.specs.declared.row_stack.HullRow.{HullRow}
use Rattle.ts_bound.specs.AnyRows.{viewed}
use Rattle.ts_bound.specs.RowStacks.{IsLaid, Stack, Stands, all_hulls, all_kept, hulls_in, shown}
use Rattle.ts_bound.proofs.HeldRows.{laid_at, long_hulls, shown_states, standing_row}
use Rattle.ts_bound.proofs.LaidRows.{below, standing}
use Rattle.ts_bound.proofs.row_stack.RowStack.stands.Goals as goal

pub are_same-requires-clause-first : goal.are_same-requires-clause-first
are_same-requires-clause-first c =
    let p = c.self.inside.planned in let rows = c.self.inside.rows.items in let k = c.self.inside.known in let row = c.index.result.now in
    let le = c.self.invariant.0 in let count = c.len.ensures ∙ c.self.inside.rows.ok.0 in let ne = c.if-self-len.false in
    shown_states p row (viewed c.lend-there.result) (laid_at p rows k row c.self.invariant.1 (below k c.len.result (length rows) le count ne) c.index.ensures)
    c.lend-there.ensures

pub are_same-requires-clause-second : goal.are_same-requires-clause-second
are_same-requires-clause-second c =
    let p = c.self.inside.planned in let row = c.args.row.now in
    shown_states p row (viewed c.lend-here.result) (subst (λ (s : Stack). IsLaid s.planned row) (sym c.self.view_is) c.requires) c.lend-here.ensures

pub returns : goal.returns
returns c = λ t.
    let p = c.self.inside.planned in let rows = c.self.inside.rows.items in let k = c.self.inside.known in
    let row = c.args.row.now in let here = c.index.result.now in
    subst (λ (s : Stack). Stands (hulls_in s.planned.states (shown row)) c.args.self.now) c.self.view_is
    (standing p (all_hulls p.states rows) k c.self.inside.from c.len.result (all_kept p.states rows) (hulls_in p.states (shown row))
    (hulls_in p.states (shown row)) (hulls_in p.states (shown here)) c.args.self.now c.self.view_is (long_hulls p.states k rows c.self.invariant.0)
    (c.len.ensures ∙ c.self.inside.rows.ok.0 ∙ sym (length-map rows (λ (r : HullRow). hulls_in p.states (shown r)))) c.if-self-len.false c.if-self.false
    (standing_row p.states k rows here here row c.index.ensures (sym c.lend-there.ensures ∙ c.are_same.ensures t ∙ c.lend-here.ensures)) refl)

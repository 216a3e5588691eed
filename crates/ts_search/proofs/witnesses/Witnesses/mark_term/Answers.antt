use Rattle.std.proofs.Common.{rules, ◌≡◌, ◌∙◌, ap, refl, length, vec_len, arith}
use Rattle.std.specs.Prelude.{IsSome}
use Rattle.std.proofs.lemmas.Option.{slice_get_within}
use Rattle.ts_bound.specs.Looks.{first_looked, last_looked}
use Rattle.ts_bound.specs.TermSpans.{automata_of}
use Rattle.ts_bound.proofs.Looking.{ends_inside}
use Rattle.ts_filter.proofs.BoxParts.{inside_length}
use Rattle.ts_glue.specs.Machines.{pair_of, window_of}
use Rattle.ts_search.specs.LineOf.{last}
use Rattle.ts_search.specs.Views.{search_of}
use Rattle.ts_search.specs.declared.witnesses.Witnesses.{Witnesses}
use Rattle.ts_search.proofs.Marks.{can_spare, looks_on, mark_alive, met_there, met_with_marks, on_term}
use Rattle.ts_search.proofs.Witnessed.{found}
use Rattle.ts_search.proofs.witnesses.Witnesses.mark_term.Goals as goal

pub index-requires : goal.index-requires
index-requires c =
    let q = c.args.problem.now in let w = c.args.self.now in let b = c.args.cells.now.present in
    let on = c.in-Some.ensures in
    let s = met_there q c.requires.posed w b c.requires.part c.requires.marked.shown c.args.term c.in-Some.i on.require
    (c.all_met.ensures.0 c.if-not-all_met.false) on.there on.on in
    let count : vec_len w.each ≡ length w.each.items = search rules in
    let below = slice_get_within w.each.items c.in-Some.i s.0 s.1 in omega (arith, below, count)

pub overflow_add-cell-end : goal.overflow_add-cell-end
overflow_add-cell-end c =
    let q = c.args.problem.now in let w = c.args.self.now in let b = c.args.cells.now.present in
    let on = c.in-Some.ensures in
    let some = met_there q c.requires.posed w b c.requires.part c.requires.marked.shown c.args.term c.in-Some.i on.require
    (c.all_met.ensures.0 c.if-not-all_met.false) on.there on.on in
    let s = c.index.result.now in
    let there = found w.each.items c.in-Some.i s c.index.ensures (slice_get_within w.each.items c.in-Some.i some.0 some.1) in
    let looks = looks_on q c.requires.posed w c.requires.marked.shown.held c.args.term c.in-Some.i s on.require there on.there on.on in
    let size = inside_length b (search_of q).model.cells c.requires.part.inside in
    let is_last = c.ends-first.ensures.last ∙ ap (λ z. last_looked z c.cells.result) c.window.ensures
    ∙ ap (last_looked (window_of s.machine.now)) (c.cells.ensures.count ∙ size) in
    let to = (ends_inside (window_of s.machine.now) (last (search_of q)) looks).1 in
    let few = c.requires.posed.right.whole.few in omega (arith, is_last, to, few)

pub loop-cell-init : goal.loop-cell-init
loop-cell-init c =
    let q = c.args.problem.now in let w = c.args.self.now in let b = c.args.cells.now.present in
    let met = c.all_met.ensures.0 c.if-not-all_met.false in
    let after : Witnesses = record { each = w.each; kept = c.keep_term.new.self; ends = w.ends } in
    record {
      marked = mark_alive q c.requires.posed w after b refl c.args.term refl c.keep_term.ensures c.requires.part met c.requires.marked;
      met = met_with_marks q w after refl refl c.args.term met;
      from = omega arith;
    }

pub mark_cell-requires-clause-cell : goal.mark_cell-requires-clause-cell
mark_cell-requires-clause-cell c =
    let q = c.args.problem.now in let w = c.args.self.now in let b = c.args.cells.now.present in
    let on = c.in-Some.ensures in
    let some = met_there q c.requires.posed w b c.requires.part c.requires.marked.shown c.args.term c.in-Some.i on.require
    (c.all_met.ensures.0 c.if-not-all_met.false) on.there on.on in
    let s = c.index.result.now in
    let there = found w.each.items c.in-Some.i s c.index.ensures (slice_get_within w.each.items c.in-Some.i some.0 some.1) in
    let looks = looks_on q c.requires.posed w c.requires.marked.shown.held c.args.term c.in-Some.i s on.require there on.there on.on in
    let size = inside_length b (search_of q).model.cells c.requires.part.inside in
    let is_first = c.ends-first.ensures.first ∙ ap first_looked c.window.ensures in
    let is_last = c.ends-first.ensures.last ∙ ap (λ z. last_looked z c.cells.result) c.window.ensures
    ∙ ap (last_looked (window_of s.machine.now)) (c.cells.ensures.count ∙ size) in
    let ends = ends_inside (window_of s.machine.now) (last (search_of q)) looks in
    let low = ends.0 in let high = ends.1 in
    let from = c.loop-cell.invariant.from in let to = c.loop-cell-test.true in
    (omega (arith, low, is_first, from), omega (arith, high, is_last, to, size))

pub mark_cell-requires-clause-spare : goal.mark_cell-requires-clause-spare
mark_cell-requires-clause-spare c =
    let q = c.args.problem.now in let w = c.args.self.now in let b = c.args.cells.now.present in
    let on = c.in-Some.ensures in
    let some = met_there q c.requires.posed w b c.requires.part c.requires.marked.shown c.args.term c.in-Some.i on.require
    (c.all_met.ensures.0 c.if-not-all_met.false) on.there on.on in
    let s = c.index.result.now in
    let there = found w.each.items c.in-Some.i s c.index.ensures (slice_get_within w.each.items c.in-Some.i some.0 some.1) in
    let looks = looks_on q c.requires.posed w c.requires.marked.shown.held c.args.term c.in-Some.i s on.require there on.there on.on in
    let size = inside_length b (search_of q).model.cells c.requires.part.inside in
    let is_first = c.ends-first.ensures.first ∙ ap first_looked c.window.ensures in
    let is_last = c.ends-first.ensures.last ∙ ap (λ z. last_looked z c.cells.result) c.window.ensures
    ∙ ap (last_looked (window_of s.machine.now)) (c.cells.ensures.count ∙ size) in
    let split : IsSome (pair_of s.machine.now) = search rules in
    let from = c.loop-cell.invariant.from in let to = c.loop-cell-test.true in
    can_spare q c.args.term c.loop-cell.cell c.ends-first.result.0 (automata_of s.machine.now) _
    (on_term q w c.requires.marked.shown.held c.args.term c.in-Some.i s on.require there on.there on.on) looks split is_first
    (omega (arith, is_first, from)) (omega (arith, is_last, to)) refl refl refl

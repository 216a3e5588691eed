use Rattle.std.proofs.Common.{reverse, ap, rules}
use Rattle.std.proofs.lemmas.Int.{to_z-of_z}
use mir.Syntax.{w64}
use Rattle.ts_domain.specs.Kept.{values_above}
use Rattle.ts_frontier.proofs.Trailed.{on_err, newest_read, none_read, rest_read, ready_waits, none_waits, upper_waits, mark_at, cell_at, stays_at, kept_fits, kept_boxes, next_fits, next_boxes}
use Rattle.ts_frontier.proofs.frontier.Frontier.advance.Goals as goal

pub returns-then-self-clause-some : goal.returns-then-self-clause-some
returns-then-self-clause-some c =
    ready_waits c.self.inside.boxed c.self.inside.ready (reverse c.self.inside.uppers.items) _ c.self.view_is c.if-self.true

pub undo-requires : goal.undo-requires
undo-requires c =
    let uppers = c.self.inside.uppers.items in
    let parts = newest_read uppers _ _ _ c.in-Some.next c.deref.ensures.value c.last.ensures.value c.copied.ensures c.in-Some.is in
    mark_at c.self.inside.boxed c.self.inside.ready (reverse uppers) _ c.in-Some.next parts c.self.invariant

pub keep_high-requires-clause-cell : goal.keep_high-requires-clause-cell
keep_high-requires-clause-cell c =
    let uppers = c.self.inside.uppers.items in
    let parts = newest_read uppers _ _ _ c.in-Some.next c.deref.ensures.value c.last.ensures.value c.copied.ensures c.in-Some.is in
    cell_at c.self.inside.boxed c.undo.new.self c.self.inside.ready (reverse uppers) _ c.in-Some.next parts c.self.invariant c.undo.ensures

pub keep_high-requires-clause-stays : goal.keep_high-requires-clause-stays
keep_high-requires-clause-stays c =
    let uppers = c.self.inside.uppers.items in
    let parts = newest_read uppers _ _ _ c.in-Some.next c.deref.ensures.value c.last.ensures.value c.copied.ensures c.in-Some.is in
    stays_at c.self.inside.boxed c.undo.new.self c.self.inside.ready (reverse uppers) _ c.in-Some.next _ parts c.self.invariant c.undo.ensures
    (ap values_above (to_z-of_z w64 c.in-Some.next.above (search rules)))

pub invariant_of-self : goal.invariant_of-self
invariant_of-self c =
    let uppers = c.self.inside.uppers.items in
    let parts = newest_read uppers _ _ _ c.in-Some.next c.deref.ensures.value c.last.ensures.value c.copied.ensures c.in-Some.is in
    kept_fits c.self.inside.boxed c.undo.new.self c.keep_high.new.self c.self.inside.ready (reverse uppers) _ c.in-Some.next c.if-self.false parts
    c.self.invariant c.undo.ensures c.in_err-keep_high-in-Some.ensures.err

pub returns-in_err-keep_high-in-Some-clause-same : goal.returns-in_err-keep_high-in-Some-clause-same
returns-in_err-keep_high-in-Some-clause-same c =
    let uppers = c.self.inside.uppers.items in
    let parts = newest_read uppers _ _ _ c.in-Some.next c.deref.ensures.value c.last.ensures.value c.copied.ensures c.in-Some.is in
    ap (λ w. w.boxes)
    (kept_boxes c.self.inside.boxed c.undo.new.self c.keep_high.new.self c.self.inside.ready (reverse uppers) _ c.in-Some.next _ c.self.view_is
    c.if-self.false parts c.self.invariant c.undo.ensures c.in_err-keep_high-in-Some.ensures.err)

pub returns-in_err-keep_high-in-Some-clause-err : goal.returns-in_err-keep_high-in-Some-clause-err
returns-in_err-keep_high-in-Some-clause-err c =
    let uppers = c.self.inside.uppers.items in
    let parts = newest_read uppers _ _ _ c.in-Some.next c.deref.ensures.value c.last.ensures.value c.copied.ensures c.in-Some.is in
    on_err c.from_residual.result
    (kept_boxes c.self.inside.boxed c.undo.new.self c.keep_high.new.self c.self.inside.ready (reverse uppers) _ c.in-Some.next _ c.self.view_is
    c.if-self.false parts c.self.invariant c.undo.ensures c.in_err-keep_high-in-Some.ensures.err)

pub invariant_of-self-in-Some : goal.invariant_of-self-in-Some
invariant_of-self-in-Some c =
    let uppers = c.self.inside.uppers.items in
    let parts = newest_read uppers _ _ _ c.in-Some.next c.deref.ensures.value c.last.ensures.value c.copied.ensures c.in-Some.is in
    let behind = rest_read uppers c.pop.new.self.items _ c.in-Some.next c.self.inside.uppers.ok.0 c.pop.ensures.rest parts in
    next_fits c.self.inside.boxed c.undo.new.self c.keep_high.new.self c.self.inside.ready (reverse uppers) (reverse c.pop.new.self.items)
    c.in-Some.next _ c.if-self.false behind c.self.invariant c.undo.ensures (to_z-of_z w64 c.in-Some.next.above (search rules))
    c.in_ok-keep_high-in-Some.ensures.ok

pub returns-in-None-clause-some : goal.returns-in-None-clause-some
returns-in-None-clause-some c =
    let uppers = c.self.inside.uppers.items in
    none_waits c.self.inside.boxed c.self.inside.ready uppers _ c.self.view_is c.if-self.false
    (none_read uppers _ _ _ c.deref.ensures.value c.last.ensures.value c.copied.ensures c.in-None.is)

pub returns-in_ok-keep_high-in-Some-clause-same : goal.returns-in_ok-keep_high-in-Some-clause-same
returns-in_ok-keep_high-in-Some-clause-same c =
    let uppers = c.self.inside.uppers.items in
    let parts = newest_read uppers _ _ _ c.in-Some.next c.deref.ensures.value c.last.ensures.value c.copied.ensures c.in-Some.is in
    let behind = rest_read uppers c.pop.new.self.items _ c.in-Some.next c.self.inside.uppers.ok.0 c.pop.ensures.rest parts in
    next_boxes c.self.inside.boxed c.undo.new.self c.keep_high.new.self c.self.inside.ready (reverse uppers) (reverse c.pop.new.self.items)
    c.in-Some.next _ _ c.self.view_is c.if-self.false behind c.self.invariant c.undo.ensures
    (to_z-of_z w64 c.in-Some.next.above (search rules)) c.in_ok-keep_high-in-Some.ensures.ok

pub returns-in_ok-keep_high-in-Some-clause-some : goal.returns-in_ok-keep_high-in-Some-clause-some
returns-in_ok-keep_high-in-Some-clause-some c =
    let uppers = c.self.inside.uppers.items in
    let parts = newest_read uppers _ _ _ c.in-Some.next c.deref.ensures.value c.last.ensures.value c.copied.ensures c.in-Some.is in
    upper_waits c.self.inside.boxed c.self.inside.ready (reverse uppers) _ c.in-Some.next _ c.self.view_is c.if-self.false parts

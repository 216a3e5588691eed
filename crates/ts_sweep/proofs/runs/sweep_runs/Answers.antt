use Rattle.std.proofs.Common.{arith, sym, subst, ◌∙◌}
use Rattle.ts_sweep.proofs.RunSteps.{at_begin, at_takes, at_step, at_end}
use Rattle.ts_sweep.proofs.runs.sweep_runs.Goals as goal

pub loop-t-init : goal.loop-t-init
loop-t-init g c =
    let h = g.met.H.Hull in (
      at_begin _ _ _ _ h.associative h.commutative h.idempotent _ c.args.twin _ _ _ _ _ _ _ _ _ (g.met.F.Fronts.closes_none c.args.by) _ _
          c.nothing-run.ensures,
      subst (g.F.Fronts.closable c.args.by) (sym c.nothing-run.ensures) (g.met.F.Fronts.closable_none c.args.by),
      g.met.C.Column.beside_itself c.args.to _,
      c.requires.next_same,
      c.requires.next_whole,
    )

pub taken_at-run-requires-clause-takes : goal.taken_at-run-requires-clause-takes
taken_at-run-requires-clause-takes g c =
    let h = g.met.H.Hull in
    at_takes _ _ _ _ h.associative h.commutative h.idempotent _ c.args.twin _ _ _ _ _ _ _ _ _ _ _ _ _ c.loop-t.invariant.0

pub loop-t-preserved : goal.loop-t-preserved
loop-t-preserved g c =
    let h = g.met.H.Hull in
    let is = c.loop-t.invariant in (
      at_step _ _ _ _ h.associative h.commutative h.idempotent _ c.args.twin _ _ _ _ _ _ _ _ _ _ _ _ _ _ _ is.0
          c.taken_at-run.ensures.there c.taken_at-run.ensures.beyond c.put_at.ensures.len c.put_at.ensures.here c.put_at.ensures.others,
      c.taken_at-run.ensures.closable is.1,
      g.met.C.Column.beside_both c.args.to _ _ _ is.2 c.put_at.ensures.beside,
      c.put_at.ensures.len ∙ is.3,
      c.put_at.ensures.whole,
    )

pub returns-clause-taken : goal.returns-clause-taken
returns-clause-taken g c =
    let h = g.met.H.Hull in
    at_end _ _ _ _ h.associative h.commutative h.idempotent _ c.args.twin _ _ _ _ _ _ _ _ _ _ _ _ _ c.loop-t.invariant.0 (omega arith)
    c.requires.next_same
    (g.met.C.Column.same_length c.args.from c.args.before.now ∙ c.requires.same) c.lead_of-lead.ensures.leads

use Rattle.std.proofs.Common.{arith, sym, ◌∙◌, subst, ◌+◌, pos, ◌+ℤ◌}
use Rattle.std.proofs.lemmas.Int.{ints}
use Rattle.ts_domain.specs.Values.{AreNext}
use Rattle.ts_domain.proofs.CutLaws.{m}
use Rattle.ts_domain.proofs.Places.{small_is}
use Rattle.ts_domain.proofs.Stretches.{more_next, first_next, step_next, run_next, went_on}
use Rattle.ts_domain.proofs.Ways.{range_given, behind_next, first_small, no_range}
use Rattle.ts_domain.proofs.values.ValuesIterator.next.Goals as goal

pub overflow_add-self-in-len1-up : goal.overflow_add-self-in-len1-up
overflow_add-self-in-len1-up c =
    let s = c.self.inside in let is = c.self.invariant in
    let small = first_small s.domain.now s.rest.now (record { low = pos 0; high = pos 0 }) s.passed s.next s.last s.limit is.2 is.3
    c.in-len1-up.len_at_least in
    omega (arith, ints, small.0, small.1)

pub invariant_of-self : goal.invariant_of-self
invariant_of-self c =
    let s = c.self.inside in let is = c.self.invariant in let size = is.0 in
    let step = range_given s.domain.now s.rest.now (record { low = pos 0; high = pos 0 }) s.passed s.size s.next s.last s.limit c.min-self-inside.result
    size is.1 c.if-self-2.false is.2 is.3 c.in-len1-up.len_at_least c.if-self.true c.min-self-inside.ensures.value in
    let below = step.below in (size, omega (arith, size, below), step.next, step.behind)

pub returns-in-len1-up-clause-steps : goal.returns-in-len1-up-clause-steps
returns-in-len1-up-clause-steps c =
    let s = c.self.inside in let is = c.self.invariant in
    sym c.self.view_is ∙ (range_given s.domain.now s.rest.now (record { low = pos 0; high = pos 0 }) s.passed s.size s.next s.last s.limit
    c.min-self-inside.result is.0 is.1 c.if-self-2.false is.2 is.3 c.in-len1-up.len_at_least c.if-self.true c.min-self-inside.ensures.value).first

pub invariant_of-self-then-self : goal.invariant_of-self-then-self
invariant_of-self-then-self c =
    let d = c.self.inside.domain.now in let r = c.run_from-run.result in let e = c.run_from-run.ensures in
    let from = e.from in let ordered = e.ordered in
    let are = run_next d c.self.inside.passed r.low r.high from ordered e.to e.stand in
    let below = (first_next d c.self.inside.passed r.low r.high are ordered).0 in let size = c.self.invariant.0 in (
      size,
      omega (arith, size, below),
      subst (AreNext d (c.self.inside.passed + 1) (m (m r.low +ℤ pos 1))) (sym (small_is r.high (omega (arith, ints, from, ordered)) e.to))
          (step_next d c.self.inside.passed r.low r.high are ordered),
      no_range d c.self.inside.rest.now _ _ _ c.self.inside.limit c.in_default.len_below,
    )

pub returns-then-self-clause-steps : goal.returns-then-self-clause-steps
returns-then-self-clause-steps c =
    let d = c.self.inside.domain.now in let r = c.run_from-run.result in let e = c.run_from-run.ensures in
    sym c.self.view_is ∙ (first_next d c.self.inside.passed r.low r.high
    (run_next d c.self.inside.passed r.low r.high e.from e.ordered e.to e.stand) e.ordered).1

pub overflow_add-self-2 : goal.overflow_add-self-2
overflow_add-self-2 c =
    let s = c.self.inside in let are = c.self.invariant.2 in
    let below = (first_next s.domain.now s.passed s.next s.last are (more_next s.domain.now s.passed s.next s.last are c.if-self.false)).0 in
    let size = c.self.invariant.0 in omega (arith, size, below)

pub overflow_add-self-3 : goal.overflow_add-self-3
overflow_add-self-3 c =
    let s = c.self.inside in let are = c.self.invariant.2 in
    let le = more_next s.domain.now s.passed s.next s.last are c.if-self.false in
    let from = are.from in let to = are.to in omega (arith, ints, le, from, to)

pub invariant_of-self-2 : goal.invariant_of-self-2
invariant_of-self-2 c =
    let s = c.self.inside in let are = c.self.invariant.2 in
    let le = more_next s.domain.now s.passed s.next s.last are c.if-self.false in
    let below = (first_next s.domain.now s.passed s.next s.last are le).0 in let size = c.self.invariant.0 in (
      size,
      omega (arith, size, below),
      step_next s.domain.now s.passed s.next s.last are le,
      behind_next s.domain.now s.passed s.next s.last s.rest.now s.limit are le c.self.invariant.3,
    )

pub returns-clause-steps : goal.returns-clause-steps
returns-clause-steps c =
    let s = c.self.inside in let are = c.self.invariant.2 in
    sym c.self.view_is ∙ (first_next s.domain.now s.passed s.next s.last are (more_next s.domain.now s.passed s.next s.last are c.if-self.false)).1

pub returns-clause-goes : goal.returns-clause-goes
returns-clause-goes c =
    let s = c.self.inside in let are = c.self.invariant.2 in
    let left = went_on _ _ _ (sym c.self.view_is ∙
    (first_next s.domain.now s.passed s.next s.last are (more_next s.domain.now s.passed s.next s.last are c.if-self.false)).1) in
    record { on = λ _. (tt, tt, left); keeps = tt; rests = λ _. tt }

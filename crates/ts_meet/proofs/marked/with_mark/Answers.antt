use Rattle.std.proofs.Common.{◌≤◌, sym, subst, arith}
use Rattle.ts_automaton.specs.SpanRun.{marked_span}
use Rattle.ts_sweep.specs.Packed.{IsPackOf}
use Rattle.ts_meet.proofs.Marks.{finite_kept, marked_packs}
use Rattle.ts_meet.proofs.marked.with_mark.Goals as goal

pub returns-then-are_finite : goal.returns-then-are_finite
returns-then-are_finite c s p =
    let few : c.args.n ≤ 4294967295 = (let f = c.ranges.n.fits in omega (arith, f)) in
    let are = c.are_finite.ensures c.if-are_finite.true in finite_kept c.args.mark c.args.n c.args.e s few are.0 are.1 p

pub returns-else-are_finite : goal.returns-else-are_finite
returns-else-are_finite c s p =
    let few : c.args.n ≤ 4294967295 = (let f = c.ranges.n.fits in omega (arith, f)) in
    subst (λ z. IsPackOf z (marked_span c.args.mark c.args.n s)) (sym c.marked_ends.ensures) (marked_packs c.args.mark c.args.n c.args.e s few p)

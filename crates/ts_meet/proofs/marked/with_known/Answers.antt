use Rattle.std.proofs.Common.{◌≤◌, sym, subst, arith}
use Rattle.ts_automaton.specs.SpanRun.{marked_span}
use Rattle.ts_sweep.specs.Packed.{IsPackOf}
use Rattle.ts_meet.proofs.Marks.{first_kept, marked_packs}
use Rattle.ts_meet.proofs.marked.with_known.Goals as goal

pub returns-then-is_kept : goal.returns-then-is_kept
returns-then-is_kept c s p =
    let few : c.args.n ≤ 4294967295 = (let f = c.ranges.n.fits in omega (arith, f)) in
    first_kept c.args.mark c.args.n c.args.e s few (c.is_kept.ensures c.if-is_kept.true) p

pub returns-else-is_kept : goal.returns-else-is_kept
returns-else-is_kept c s p =
    let few : c.args.n ≤ 4294967295 = (let f = c.ranges.n.fits in omega (arith, f)) in
    subst (λ z. IsPackOf z (marked_span c.args.mark c.args.n s)) (sym c.marked_ends.ensures) (marked_packs c.args.mark c.args.n c.args.e s few p)

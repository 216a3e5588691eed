use Rattle.std.proofs.Common.{◌≡◌, true, false, pos, replicate, sym, ap, ◌∙◌}
use Rattle.ts_automaton.specs.Registers.{EachOf, each}
use Rattle.ts_hull.specs.Sealed.{some_hull}
use Rattle.ts_hull.proofs.SplitLaws.{small_spans}
use Rattle.ts_sweep.specs.declared.packed.Ends.{Ends}
use Rattle.ts_sweep.specs.declared.packed.Name.{Name}
use Rattle.ts_sweep.specs.declared.packed.Name.TheVariants.{C, E, D, F, R}
use Rattle.ts_sweep.specs.declared.packed.PackedHull.{PackedHull}
use Rattle.ts_sweep.specs.Packed.{place, with_ends_in}
use Rattle.ts_sweep.specs.Sides.{lane_count, sides, with_kept}
use Rattle.ts_sweep.specs.SidesLaws.{full_with}
use Rattle.ts_sweep.proofs.HullLanes.{lanes_none, packed_lanes_of}
use Rattle.ts_sweep.proofs.strided.packed.Goals as goal

pub ends_of-c-requires : goal.ends_of-c-requires
ends_of-c-requires g c = (small_spans c.args.h.now c.requires.small).0

pub ends_of-e-requires : goal.ends_of-e-requires
ends_of-e-requires g c = (small_spans c.args.h.now c.requires.small).1

pub ends_of-d-requires : goal.ends_of-d-requires
ends_of-d-requires g c = (small_spans c.args.h.now c.requires.small).2

pub ends_of-f-requires : goal.ends_of-f-requires
ends_of-f-requires g c = (small_spans c.args.h.now c.requires.small).3

pub ends_of-r-requires : goal.ends_of-r-requires
ends_of-r-requires g c = (small_spans c.args.h.now c.requires.small).4

pub returns-then-not-has_registers : goal.returns-then-not-has_registers
returns-then-not-has_registers g c =
    let none : some_hull c.args.h.now ≡ false = sym c.has_registers.ensures ∙ c.if-not-has_registers.true in
    sym (lanes_none g.row.N c.args.h.now none)

pub returns : goal.returns
returns g c =
    let n = g.row.N in
    let some : some_hull c.args.h.now ≡ true = sym c.has_registers.ensures ∙ c.if-not-has_registers.false in
    let x : EachOf Ends = each c.ends_of-c.result c.ends_of-e.result c.ends_of-d.result c.ends_of-f.result c.ends_of-r.result in
    let at : (z y : PackedHull n) (k : Name) (e : Ends) → z ≡ record { at = with_kept (sides n) y.at (place (lane_count n) k) e } →
    z.at ≡ with_ends_in y.at (place n k) e =
    λ z y k e is. ap (λ (u : PackedHull n). u.at) is ∙ full_with n y.at k e c.requires.registers in
    packed_lanes_of n c.args.h.now x c.with-5.result.at some c.ends_of-c.ensures c.ends_of-e.ensures c.ends_of-d.ensures c.ends_of-f.ensures c.ends_of-r.ensures
    (at c.with-5.result c.with-4.result R x.r c.with-5.ensures ∙ ap (λ xs. with_ends_in xs (place n R) x.r)
    (at c.with-4.result c.with-3.result F x.f c.with-4.ensures ∙ ap (λ xs. with_ends_in xs (place n F) x.f)
    (at c.with-3.result c.with-2.result D x.d c.with-3.ensures ∙ ap (λ xs. with_ends_in xs (place n D) x.d)
    (at c.with-2.result c.with.result E x.e c.with-2.ensures ∙ ap (λ xs. with_ends_in xs (place n E) x.e)
    (ap (λ (z : PackedHull n). z.at) c.with.ensures ∙ full_with n (replicate n (pos 0)) C x.c c.requires.registers)))))

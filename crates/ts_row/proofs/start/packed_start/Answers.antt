use Rattle.std.proofs.Common.{◌≡◌, pos, replicate, ap, ◌∙◌}
use Rattle.ts_automaton.specs.Registers.{EachOf, each, regs_of}
use Rattle.ts_row.specs.Rows.{lanes_of, nothing}
use Rattle.ts_row.proofs.StartLaws.{all_constants, start_packed}
use Rattle.ts_sweep.specs.declared.packed.Ends.{Ends}
use Rattle.ts_sweep.specs.declared.packed.Name.{Name}
use Rattle.ts_sweep.specs.declared.packed.Name.TheVariants.{E, D, F, R}
use Rattle.ts_sweep.specs.declared.packed.PackedHull.{PackedHull}
use Rattle.ts_sweep.specs.Moves.{of_name, replaced_all}
use Rattle.ts_sweep.specs.MoveLaws.{all_lanes}
use Rattle.ts_sweep.specs.Packed.{place}
use Rattle.ts_sweep.specs.Sides.{lane_count, sides, with_kept}
use Rattle.ts_sweep.specs.SidesLaws.{none_by, replaced_by}
use Rattle.ts_row.proofs.start.packed_start.Goals as goal

pub constant_ends-d-requires : goal.constant_ends-d-requires
constant_ends-d-requires g c = (all_constants (regs_of c.args.regs) c.requires.constants).2

pub constant_ends-f-requires : goal.constant_ends-f-requires
constant_ends-f-requires g c = (all_constants (regs_of c.args.regs) c.requires.constants).3

pub constant_ends-r-requires : goal.constant_ends-r-requires
constant_ends-r-requires g c = (all_constants (regs_of c.args.regs) c.requires.constants).4

pub returns : goal.returns
returns g c =
    let n = g.row.N in
    let s = sides n in
    let m = lane_count n in
    let x : EachOf Ends = each c.constant_ends-c.result c.constant_ends-e.result c.constant_ends-d.result c.constant_ends-f.result c.constant_ends-r.result in
    let replaced : PackedHull n → Name → Ends → PackedHull n = λ h k e. record { at = with_kept s h.at (place m k) e } in
    let zeros : PackedHull n = record { at = replicate n (pos 0) } in
    let is : c.with-5.result ≡ replaced_all replaced zeros (of_name x) =
    c.with-5.ensures ∙ ap (λ z. replaced z R x.r) (c.with-4.ensures ∙ ap (λ z. replaced z F x.f)
    (c.with-3.ensures ∙ ap (λ z. replaced z D x.d) (c.with-2.ensures ∙ ap (λ z. replaced z E x.e) c.with.ensures))) in
    start_packed n c.with-5.result (regs_of c.args.regs) x c.requires.registers c.requires.width
    (ap (lanes_of n) is ∙ all_lanes s (lanes_of n) replaced m (nothing n) (none_by s n) (λ h k e. replaced_by s h.at (place m k) e) zeros (of_name x))
    c.constant_ends-c.ensures c.constant_ends-e.ensures c.constant_ends-d.ensures c.constant_ends-f.ensures c.constant_ends-r.ensures

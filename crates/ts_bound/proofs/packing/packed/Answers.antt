use Rattle.std.proofs.Common.{◌≡◌, pos, replicate, ap, ◌∙◌}
use Rattle.ts_automaton.specs.Registers.{EachOf, each}
use Rattle.ts_sweep.specs.declared.packed.Ends.{Ends}
use Rattle.ts_sweep.specs.declared.packed.Name.{Name}
use Rattle.ts_sweep.specs.declared.packed.Name.TheVariants.{E, D, F, R}
use Rattle.ts_sweep.specs.declared.packed.PackedHull.{PackedHull}
use Rattle.ts_sweep.specs.Moves.{of_name, replaced_all}
use Rattle.ts_sweep.specs.Packed.{place, with_ends_in}
use Rattle.ts_bound.proofs.FitLaws.{hull_packed}
use Rattle.ts_bound.proofs.packing.packed.Goals as goal

pub ends_of-c-requires : goal.ends_of-c-requires
ends_of-c-requires c = c.requires.fits.0

pub ends_of-e-requires : goal.ends_of-e-requires
ends_of-e-requires c = c.requires.fits.1

pub ends_of-d-requires : goal.ends_of-d-requires
ends_of-d-requires c = c.requires.fits.2

pub ends_of-f-requires : goal.ends_of-f-requires
ends_of-f-requires c = c.requires.fits.3

pub ends_of-r-requires : goal.ends_of-r-requires
ends_of-r-requires c = c.requires.fits.4

pub returns : goal.returns
returns c =
    let x : EachOf Ends = each c.ends_of-c.result c.ends_of-e.result c.ends_of-d.result c.ends_of-f.result c.ends_of-r.result in
    let replaced : PackedHull 10 → Name → Ends → PackedHull 10 = λ h k e. record { at = with_ends_in h.at (place 10 k) e } in
    let zeros : PackedHull 10 = record { at = replicate 10 (pos 0) } in
    let is : c.with-5.result ≡ replaced_all replaced zeros (of_name x) =
    c.with-5.ensures ∙ ap (λ z. replaced z R x.r) (c.with-4.ensures ∙ ap (λ z. replaced z F x.f)
    (c.with-3.ensures ∙ ap (λ z. replaced z D x.d) (c.with-2.ensures ∙ ap (λ z. replaced z E x.e) c.with.ensures))) in
    let p =
    hull_packed c.with-5.result.at c.args.h.now x (ap (λ (z : PackedHull 10). z.at) is) c.requires.some c.requires.fits
    c.ends_of-c.ensures c.ends_of-e.ensures c.ends_of-d.ensures c.ends_of-f.ensures c.ends_of-r.ensures in
    record { some = p.0; hull = p.1 }

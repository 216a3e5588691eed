use Rattle.std.proofs.Common.{ℕ, ◌<◌, get_or, subst}
use Rattle.ts_sweep.specs.declared.packed.PackedHull.{PackedHull}
use Rattle.ts_sweep.specs.Covers.{IsCoverOf, IsHullBounded, nothing_of}
use Rattle.ts_sweep.specs.Packed.{IsPacked}
use Rattle.ts_sweep.specs.Sides.{count_by, lanes_by}
use Rattle.ts_sweep.specs.SidesLaws.{full, full_count}
use Rattle.ts_sweep.proofs.Places.{columns_long}
use Rattle.ts_sweep.proofs.Rows.{all_fit, any_fit, column}
use Rattle.ts_sweep.proofs.row.row_fits.Goals as goal

pub is_fit-requires : goal.is_fit-requires
is_fit-requires g c = record { registers = full_count g.row.N c.requires.registers }

pub is_fit-requires-2 : goal.is_fit-requires-2
is_fit-requires-2 g c = record { registers = full_count g.row.N c.requires.registers }

pub cover_of-requires-clause-registers : goal.cover_of-requires-clause-registers
cover_of-requires-clause-registers g c = full_count g.row.N c.requires.registers

pub cover_of-requires-clause-same : goal.cover_of-requires-clause-same
cover_of-requires-clause-same g c = columns_long c.args.from.states c.args.from.state c.args.from.count c.args.before.now

pub returns-then-is_fit : goal.returns-then-is_fit
returns-then-is_fit g c =
    let n = g.row.N in
    let fit = g.F.Fronts.fit c.args.by in
    λ is. any_fit n c.requires.registers fit c.args.from.states c.args.from.state c.args.from.count c.args.before.now
    c.greatest.result c.requires.packable c.greatest.ensures
    (subst (λ s. (h : PackedHull n) → IsPacked (count_by s n) (lanes_by s h.at) → IsHullBounded s c.greatest.result (lanes_by s h.at) → fit h)
    (full n c.requires.registers) (c.is_fit.ensures c.if-is_fit.true))

pub returns : goal.returns
returns g c =
    let n = g.row.N in
    let fit = g.F.Fronts.fit c.args.by in
    let from = c.args.from in
    let hulls = column n c.requires.registers from.states from.state from.count c.args.before.now in
    λ is. all_fit n c.requires.registers fit from.states from.state from.count c.args.before.now
    c.cover_of.result c.requires.packable
    (subst (λ s. ((i : ℕ) → i < from.count → IsPacked (count_by s n) (lanes_by s (get_or hulls i (nothing_of n)).at)) →
    IsCoverOf s (λ (h : PackedHull n). lanes_by s h.at) (nothing_of n) c.cover_of.result from.count hulls)
    (full n c.requires.registers) c.cover_of.ensures)
    (subst (λ s. (h : PackedHull n) → IsPacked (count_by s n) (lanes_by s h.at) → IsHullBounded s c.cover_of.result (lanes_by s h.at) → fit h)
    (full n c.requires.registers) (c.is_fit-2.ensures is))

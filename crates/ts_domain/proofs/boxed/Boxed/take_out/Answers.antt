use Rattle.std.proofs.Common.{◌≡◌, ◌-◌, ◌<◌, [], length, get_or, sym, subst, refl, Contains, w64, to_z, of_z}
use Rattle.std.proofs.lemmas.Int.{to_z-of_z}
use Rattle.ts_domain.specs.BoxSeries.{cell_of}
use Rattle.ts_domain.specs.declared.boxed.Back.TheVariants.{One}
use Rattle.ts_domain.specs.Kept.{values_without}
use Rattle.ts_domain.proofs.Trails.{Leads, cells_fit, cell_limits, fit_more, changed, place_below, taken, leads_one}
use Rattle.ts_domain.proofs.boxed.Boxed.take_out.Goals as goal

below : (c : goal.After-push_reserved) → c.args.k - 1 < length c.self.inside.cells.items
below c = place_below c.self.inside.trail.items c.self.inside.cells.items _ _ c.self.view_is c.requires.cell

has : (c : goal.After-push_reserved) → Contains (get_or c.self.inside.cells.items (c.args.k - 1) []) c.args.v
has c = subst (λ b. Contains (cell_of c.args.k b) c.args.v) (sym c.self.view_is) c.requires.has

left : (c : goal.After-push_reserved) → c.flip.new.self ≡ values_without c.args.v (get_or c.self.inside.cells.items (c.args.k - 1) [])
left c =
    taken c.self.inside.cells.items (c.args.k - 1) c.args.v _ c.index_mut-cell.result.now c.flip.new.self (to_z-of_z w64 c.args.v c.ranges.v) (below c)
    c.index_mut-cell.ensures.value (has c) c.flip.ensures.out

leads : (c : goal.After-push_reserved) →
    Leads (record { cell = c.args.k - 1; back = One (to_z w64 (of_z w64 c.args.v)) c.in_ok-spare.spare }) c.self.inside.cells.items c.flip.new.self
leads c =
    leads_one c.self.inside.cells.items (record { cell = c.args.k - 1; back = One (to_z w64 (of_z w64 c.args.v)) c.in_ok-spare.spare }) c.args.v c.flip.new.self
    (to_z-of_z w64 c.args.v c.ranges.v)
    (cells_fit c.self.inside.trail.items c.self.inside.cells.items c.self.invariant).1 (below c) (has c) (left c) c.flip.ensures.domain

pub flip-requires-clause-limits : goal.flip-requires-clause-limits
flip-requires-clause-limits c =
    cell_limits c.self.inside.trail.items c.self.inside.cells.items _ _ c.args.v _ (to_z-of_z w64 c.args.v c.ranges.v) c.self.view_is c.self.invariant
    c.requires.cell c.requires.has

pub invariant_of-self-2 : goal.invariant_of-self-2
invariant_of-self-2 c =
    fit_more c.self.inside.trail.items _ c.push_reserved.new.self.items c.self.inside.cells.items _ c.flip.new.self c.self.invariant
    c.in_ok-reserve.ensures.items c.push_reserved.ensures.items (leads c)

pub returns-clause-ok : goal.returns-clause-ok
returns-clause-ok c =
    changed c.self.inside.trail.items _ c.push_reserved.new.self.items c.self.inside.cells.items _ c.args.k _ c.flip.new.self (values_without c.args.v)
    c.self.view_is refl c.in_ok-reserve.ensures.items c.push_reserved.ensures.items (leads c) (left c)

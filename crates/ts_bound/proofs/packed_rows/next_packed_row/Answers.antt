use Rattle.std.proofs.Common.{◌≡◌, ◌⊎◌, inl, inr, false, ◌∙◌}
use Rattle.ts_sweep.specs.Sides.{BothEnds, sides}
use Rattle.ts_sweep.specs.SidesLaws.{alone}
use Rattle.ts_bound.proofs.PackedRows.{packed_row_of}
use Rattle.ts_bound.proofs.packed_rows.next_packed_row.Goals as goal

pub returns : goal.returns
returns g c =
    let one_end : (sides g.row.N ≡ BothEnds) ⊎ (c.args.a.now.wide ≡ false) = elim (alone g.row.N) [
      | inl both ↦ inl both
      | inr narrow ↦ inr (c.requires.width ∙ narrow)
    ] in
    λ cells is. record {
      is_row = c.in_ok-next_row.ensures.0;
      is_flat = packed_row_of g.row.N c.args.a.now cells c.args.values.values.now c.args.next_values.values.now c.args.before.now c.next_row.new.next
          c.states.ensures.rules one_end is.is_flat c.in_ok-next_row.ensures.1;
    }

use Rattle.std.proofs.Common.{refl, ap, ◌∙◌, ◌-◌}
use Rattle.ts_bound.specs.Rows.{place}
use Rattle.ts_bound.proofs.RowLaws.{bounds_rise, bounds_inside, row_read, view_written, one_row}
use Rattle.ts_bound.proofs.table.HullTable.row_mut.Goals as goal

pub slice_mut-requires-clause-start_le_end : goal.slice_mut-requires-clause-start_le_end
slice_mut-requires-clause-start_le_end c =
    bounds_rise _ c.args.k _ _ c.requires.0 c.bounds-from.ensures.from (one_row _ c.args.k _ c.requires.0 c.bounds-from.ensures.to)

pub slice_mut-requires-clause-in_bounds : goal.slice_mut-requires-clause-in_bounds
slice_mut-requires-clause-in_bounds c =
    bounds_inside c.self.inside.starts.items c.self.inside.hulls.items _ c.args.k _ _ c.self.invariant refl
    (one_row _ c.args.k _ c.requires.0 c.bounds-from.ensures.to) c.self.inside.hulls.ok.0

pub returns : goal.returns
returns c =
    let from = c.bounds-from.ensures.from ∙ ap (λ t. place t (c.args.k - 1)) c.self.view_is in
    let to = one_row _ c.args.k _ c.requires.0 c.bounds-from.ensures.to ∙ ap (λ t. place t c.args.k) c.self.view_is in (
      (
        refl,
        λ w. view_written c.self.inside.starts.items c.self.inside.hulls.items _ _ _ (c.args.k - 1) w c.self.invariant c.self.view_is
            c.self.inside.hulls.ok.0 from,
      ),
      record {
        writes_back = tt;
        value = row_read c.self.inside.starts.items c.self.inside.hulls.items _ _ c.args.k _ _ c.self.invariant c.self.view_is c.requires from to
            c.slice_mut.ensures.value;
      },
    )

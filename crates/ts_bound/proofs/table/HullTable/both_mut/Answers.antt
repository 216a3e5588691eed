use Rattle.std.proofs.Common.{refl, ap, ◌∙◌, ◌-◌, ◌+◌}
use Rattle.ts_bound.specs.Rows.{place}
use Rattle.ts_bound.proofs.RowLaws.{bounds_rise_two, bounds_inside, both_are, view_written, two_rows}
use Rattle.ts_bound.proofs.table.HullTable.both_mut.Goals as goal

pub slice_mut-requires-clause-start_le_end : goal.slice_mut-requires-clause-start_le_end
slice_mut-requires-clause-start_le_end c =
    bounds_rise_two _ c.args.k _ _ c.requires.first c.bounds-from.ensures.from (two_rows _ c.args.k _ c.requires.first c.bounds-from.ensures.to)

pub slice_mut-requires-clause-in_bounds : goal.slice_mut-requires-clause-in_bounds
slice_mut-requires-clause-in_bounds c =
    bounds_inside c.self.inside.starts.items c.self.inside.hulls.items _ (c.args.k + 1) _ _ c.self.invariant refl
    (two_rows _ c.args.k _ c.requires.first c.bounds-from.ensures.to) c.self.inside.hulls.ok.0

pub returns : goal.returns
returns c =
    let from = c.bounds-from.ensures.from ∙ ap (λ t. place t (c.args.k - 1)) c.self.view_is in
    let to = two_rows _ c.args.k _ c.requires.first c.bounds-from.ensures.to ∙ ap (λ t. place t (c.args.k + 1)) c.self.view_is in (
      (
        refl,
        λ w. view_written c.self.inside.starts.items c.self.inside.hulls.items _ _ _ (c.args.k - 1) w c.self.invariant c.self.view_is
            c.self.inside.hulls.ok.0 from,
      ),
      record {
        writes_back = tt;
        value = both_are c.self.inside.starts.items c.self.inside.hulls.items _ _ _ _ _ _ c.self.invariant c.self.view_is from to
            c.slice_mut.ensures.value;
      },
    )

use Rattle.std.proofs.Common.{◌≡◌, IsTrue, ◌∷◌, [], map, length, drop}
use Rattle.ts_regex.specs.Shape.{shape_of}
use Rattle.ts_regex.specs.NormalForm.{normal_form}
use Rattle.ts_seed.specs.Table.{residuals_from}
use Rattle.ts_seed.specs.Written.{origin_read, from_earlier}
use Rattle.ts_seed.proofs.table.residuals.Given as goal

abbrev pub invariant-loop-from : goal.invariant-loop-from
invariant-loop-from l =
    record {
      earlier : IsTrue (from_earlier (length l.residuals.items) (drop l.from-index l.origins));
      rest : residuals_from (map (λ r. shape_of r) l.residuals.items) (map (λ o. origin_read l.reading o) (drop l.from-index l.origins))
          ≡ residuals_from (normal_form (shape_of l.regex) ∷ []) (map (λ o. origin_read l.reading o) l.origins);
    }

-- A table as it is written down, read as it is printed or with `<` and `>` exchanged.
use Rattle.std.specs.Prelude.{ℕ, Bool, true, ◌&&◌, ◌+◌, nat_lt, List, [], ◌∷◌, map}
use Rattle.std.specs.Borrow.{Bor}
use Rattle.ts_base.specs.Signature.{flip_of}
use Rattle.ts_base.specs.declared.letter.Letter.{Letter}
use Rattle.ts_base.specs.declared.range.Kind.{Kind}
use Rattle.ts_transducer.specs.declared.row.Phase.{Phase}
use Rattle.ts_transducer.specs.declared.row.Row.{Row}
use Rattle.ts_pattern.specs.declared.plan.Tag.{Tag}
use Rattle.ts_pattern.specs.declared.plan.Live.{Live}
use Rattle.ts_pattern.specs.Closed.{PlainConfiguration}
use Rattle.ts_seed.specs.declared.table.Reading.{Reading}
use Rattle.ts_seed.specs.declared.table.Reading.TheVariants.{Printed, Mirrored}
use Rattle.ts_seed.specs.declared.table.PrintedTable.{PrintedTable}
use Rattle.ts_seed.specs.Table.{Table, row, at, join, mirror_row}

abbrev pub letter_read : Reading → Letter → Letter
letter_read Printed l = l
letter_read Mirrored l = flip_of l

abbrev pub row_read : Reading → Kind × (Phase × ℕ) × (Phase × ℕ) × (Phase × ℕ) → Row
row_read Printed x = row x.0 x.1 x.2 x.3
row_read Mirrored x = mirror_row (row x.0 x.1 x.2 x.3)

abbrev pub origin_read : Reading → ℕ × Letter → ℕ × Letter
origin_read reading o = (o.0, letter_read reading o.1)

abbrev pub live_of : ℕ × Tag → Live
live_of e = record { residual = e.0; tag = e.1 }

abbrev pub configuration_of : ℕ × Bor (List (ℕ × Tag)) → PlainConfiguration ℕ
configuration_of c = at c.0 c.1.now

abbrev pub table_read : Reading → PrintedTable → Table
table_read reading t =
    record {
      rows = map (λ x. row_read reading x) t.rows.now;
      residuals = map (λ o. origin_read reading o) t.residuals.now;
      configurations = map (λ c. configuration_of c) t.configurations.now;
      joins = map (λ p. join p.0 p.1) t.joins.now;
    }

-- each residual is left by one that stands before it, n of them so far
abbrev pub from_earlier : ℕ → List (ℕ × Letter) → Bool
from_earlier n [] = true
from_earlier n (o ∷ os) = nat_lt o.0 n && from_earlier (n + 1) os

-- What a step shows: where it is listed first, and whether the checks hold. It is listed nowhere, and fails, where a
-- residual after the letter that has a word isn't listed.
use Rattle.std.specs.Prelude.{ℕ, Bool, true, false, ◌&&◌, Option, None, Some, is_some}
use Rattle.ts_transducer.specs.declared.row.Row.{Row}
use Rattle.ts_transducer.specs.Decode.{resting_row}
use Rattle.ts_validate.specs.declared.step.Look.{Look}

abbrev pub look_of : Bool → Option ℕ → Bool → Look
look_of true next agree = record { next = next; meets = is_some next && agree }
look_of false next agree = record { next = None; meets = false }

abbrev pub row_or : Option Row → Row
row_or None = resting_row
row_or (Some r) = r

-- Where a tour has found that a check fails.
use Rattle.std.specs.Prelude.{◌≡◌, ℕ, ◌<◌, Option, None, Some, MatchOption, length, slice_get}
use Rattle.ts_base.specs.declared.letter.Letter.{Letter}
use Rattle.ts_validate.specs.declared.arrival.Tour.{Tour}
use Rattle.ts_validate.specs.declared.failure.Failure.{Failure}
use Rattle.ts_validate.specs.Reaches.{place_at}

abbrev pub failure_on : ℕ → ℕ → Option (Option Letter) → Option Failure
failure_on i k None = None
failure_on i k (Some None) = None
failure_on i k (Some (Some l)) = Some (record { configuration = i; place = k; letter = l })

abbrev pub failure_from : Tour → ℕ → Option ℕ → Option Failure
failure_from t i None = None
failure_from t i (Some k) = failure_on i k (slice_get t.failing.items k)

-- the failure of configuration i, if it has arrived and fails
abbrev pub failure_at : Tour → ℕ → Option Failure
failure_at t i = failure_from t i (place_at t.places.items i)

-- the failure at the least configuration that has one
abbrev pub IsFirstFailure : Tour → Option Failure → Type 0
IsFirstFailure t o =
    MatchOption o ((i : ℕ) → i < length t.places.items → failure_at t i ≡ None)
    (λ f. (f.configuration < length t.places.items) × (failure_at t f.configuration ≡ Some f)
    × ((i : ℕ) → i < f.configuration → failure_at t i ≡ None))

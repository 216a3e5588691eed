-- What an intake has taken of a source.
use Rattle.std.specs.Prelude.{ℕ, ◌≡◌, ◌≤◌, List, length, Option}
use Rattle.ts_base.specs.Outside.{AtEnd, put_back}

-- all bytes that were left were taken: they are at most limit, and none is left
pub record TookAll {T : Type 0} (Took : List ℕ → T → Type 0) (limit : ℕ) (left left_now : Option (List ℕ))
    (now : T) : Type 0 where
  pub bytes : List ℕ
  pub took : Took bytes now
  pub gave : left ≡ put_back bytes left_now
  pub end : AtEnd left_now
  pub within : length bytes ≤ limit

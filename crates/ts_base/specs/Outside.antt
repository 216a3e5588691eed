-- What a source has left and what a sink has taken, where they tell it, and how faults and calls are counted.
use Rattle.std.specs.Prelude.{ℕ, ◌≡◌, ◌==◌, ◌<◌, ◌≤◌, ◌+◌, ◌&&◌, ◌⊎◌, Bool, nat_lt, min, if◌then◌else◌}
use Rattle.std.specs.Prelude.{List, [], ◌++◌, length, take, drop}
use Rattle.std.specs.Prelude.{Option, Some, None, IfSome, Result, Ok, Err}

-- a count rose in a call: it is greater afterwards, or stands at the last value of 64 bits
abbrev pub Rose : ℕ → ℕ → Type 0
Rose before after = (before < after) ⊎ (after ≡ 18446744073709551615)

-- the count after one more, which stays at the last value of 64 bits
abbrev pub one_more : ℕ → ℕ
one_more n = min (n + 1) 18446744073709551615

-- the count of faults after a call with this result
abbrev pub faults_after : {A E : Type 0} → Result A E → ℕ → ℕ
faults_after (Ok a) faults = faults
faults_after (Err e) faults = one_more faults

-- the count of reads that found the end, after one that gave m bytes into a buffer with this room: it found the end
-- where there was room and it gave none
abbrev pub ends_after : ℕ → ℕ → ℕ → ℕ
ends_after room m ends = if nat_lt 0 room && m == 0 then one_more ends else ends

-- a fault was counted
abbrev pub has_faults : ℕ → Bool
has_faults faults = nat_lt 0 faults

-- what was told before a piece was given, by what is told after it
abbrev pub put_back : List ℕ → Option (List ℕ) → Option (List ℕ)
put_back piece None = None
put_back piece (Some left) = Some (piece ++ left)

-- nothing is left, where it is told
abbrev pub AtEnd : Option (List ℕ) → Type 0
AtEnd left = IfSome left (λ bytes. bytes ≡ [])

-- what is left after n bytes
abbrev pub left_after : ℕ → Option (List ℕ) → Option (List ℕ)
left_after n None = None
left_after n (Some left) = Some (drop n left)

-- at most n bytes were given
abbrev pub GaveAtMost : ℕ → Option (List ℕ) → Option (List ℕ) → Type 0
GaveAtMost n before after = (m : ℕ) × (m ≤ n) × (after ≡ left_after m before)

-- more than n bytes are left, where it is told
abbrev pub HasMoreThan : ℕ → Option (List ℕ) → Type 0
HasMoreThan n left = IfSome left (λ bytes. n < length bytes)

-- what was taken, with a piece after it
abbrev pub taken_more : Option (List ℕ) → List ℕ → Option (List ℕ)
taken_more None piece = None
taken_more (Some taken) piece = Some (taken ++ piece)

-- a prefix of the text was taken
abbrev pub Prefix : List ℕ → Option (List ℕ) → Option (List ℕ) → Type 0
Prefix text before after = (n : ℕ) × (n ≤ length text) × (after ≡ taken_more before (take n text))

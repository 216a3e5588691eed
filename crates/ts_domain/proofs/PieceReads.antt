-- What reading ranges one by one tells, and reading a number at a place.
use Rattle.std.proofs.Common.{◌≡◌, ℕ, zero, suc, ◌+◌, ◌-◌, ◌<◌, ◌≤◌, ℤ, pos, neg_ℤ, ◌+ℤ◌, ◌-ℤ◌, ◌≤ℤ◌, Some, List, [], ◌∷◌, ◌++◌, length}
use Rattle.std.proofs.Common.{get_or, drop, refl, sym, ap, ◌∙◌, arith, slice_get}
use Rattle.std.proofs.lemmas.Int.{ints}
use Rattle.std.proofs.lemmas.List.{get_or_default}
use Rattle.std.proofs.lemmas.Option.{slice_get_read}
use Rattle.std.proofs.Math.Seq.{drop-cons}
use Rattle.ts_domain.specs.declared.interval.Interval.{Interval}
use Rattle.ts_domain.specs.Values.{to_natural, values_between, values_of, RangesFrom}
use Rattle.ts_domain.proofs.Runs.{natural_is, length-between, get_or-run}
use Rattle.ts_domain.proofs.Ranges.{few_values}

-- the range at a place, and those after it
pub off : (rs : List Interval) (i : ℕ) (d : Interval) → i < length rs → drop i rs ≡ get_or rs i d ∷ drop (i + 1) rs
off rs i d h = let e : suc i ≡ i + 1 = omega arith in drop-cons rs i d h ∙ ap (λ n. get_or rs i d ∷ drop n rs) e

-- there are few numbers
pub few : (rs : List Interval) → RangesFrom (neg_ℤ (pos 1000000)) rs → length (values_of rs) ≤ 2000003
few rs a = let n = few_values (neg_ℤ (pos 1000000)) rs a (omega (arith, ints)) in omega (arith, ints, n)

pub get_or-append_right : (xs ys : List ℤ) (i : ℕ) (d : ℤ) → length xs ≤ i → get_or (xs ++ ys) i d ≡ get_or ys (i - length xs) d
get_or-append_right [] ys i d h = let e : i ≡ i - 0 = omega arith in ap (λ n. get_or ys n d) e
get_or-append_right (x ∷ xs) ys zero d h = absurd (omega (arith, h))
get_or-append_right (x ∷ xs) ys (suc i) d h = let e : i - length xs ≡ suc i - length (x ∷ xs) = omega arith in
    get_or-append_right xs ys i d (omega (arith, h)) ∙ ap (λ n. get_or ys n d) e

pub at_between : (low high : ℤ) (k : ℕ) → low ≤ℤ high → k < length (values_between low high) → get_or (values_between low high) k (pos 0) ≡ low +ℤ pos k
unfolding values_between
at_between low high k o b =
    let n = length-between low high (omega (arith, ints, o)) in let c = natural_is ((high +ℤ pos 1) -ℤ low) (omega (arith, ints, o)) in
    get_or-run low (to_natural ((high +ℤ pos 1) -ℤ low)) k (pos 0) (omega (arith, ints, n, c, b))

-- a number is the one at a place
pub read_at : (vs : List ℤ) (at : ℕ) (v : ℤ) → at < length vs → get_or vs at (pos 0) ≡ v → slice_get vs at ≡ Some v
read_at vs at v below e = slice_get_read vs (length vs) at v refl below (sym e ∙ get_or_default vs at (pos 0) v below)

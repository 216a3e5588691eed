-- The values of a domain rise, and are small.
use Rattle.std.proofs.Common.{◌≡◌, ℕ, zero, suc, ◌+◌, ◌-◌, ◌<◌, ◌≤◌, ◌<ℤ◌, ◌≤ℤ◌, ◌+ℤ◌, ℤ, pos, List, [], ◌∷◌, length, get_or, sym, ap, ◌∙◌, subst, arith}
use Rattle.std.specs.Prelude.{Contains}
use Rattle.std.proofs.lemmas.Option.{get_or_from_slice_get, slice_get-get_or}
use Rattle.std.proofs.lemmas.List.Elements.{Contains-get_or}
use Rattle.std.proofs.lemmas.Int.{ints}
use Rattle.std.specs.List.{AllByRecursion}
use Rattle.ts_base.specs.Limits.{IsCellValue}
use Rattle.ts_domain.specs.Values.{WithinLimits, IsRising, IsDomain}
use Rattle.ts_sweep.specs.Small.{AreSmall, IsSmall, Rises}

above_at : (v : ℤ) (vs : List ℤ) (j : ℕ) → AllByRecursion (λ y. v <ℤ y) vs → j < length vs → v <ℤ get_or vs j (pos 0)
above_at v [] j h lt = absurd (omega (arith, lt))
above_at v (x ∷ vs) zero h lt = h.0
above_at v (x ∷ vs) (suc j) h lt = above_at v vs j h.1 (omega (arith, lt))

rise : (vs : List ℤ) → IsRising vs → (i j : ℕ) → i < j → j < length vs → get_or vs i (pos 0) <ℤ get_or vs j (pos 0)
unfolding IsRising
rise [] h i j lt inside = absurd (omega (arith, inside))
rise (v ∷ vs) h i zero lt inside = absurd (omega (arith, lt))
rise (v ∷ vs) h zero (suc j) lt inside = above_at v vs j h.0 (omega (arith, inside))
rise (v ∷ vs) h (suc i) (suc j) lt inside = rise vs h.1 i j (omega (arith, lt)) (omega (arith, inside))

pub domain_rises : (vs : List ℤ) → IsDomain vs → Rises vs
domain_rises vs d = rise vs d.rising

within_at : (vs : List ℤ) → AllByRecursion WithinLimits vs → (i : ℕ) → i < length vs → WithinLimits (get_or vs i (pos 0))
within_at [] h i lt = absurd (omega (arith, lt))
within_at (v ∷ vs) h zero lt = h.0
within_at (v ∷ vs) h (suc i) lt = within_at vs h.1 i (omega (arith, lt))

limit_small : (v : ℤ) → WithinLimits v → IsSmall v
limit_small v h = let a = h.0 in let b = h.1 in (omega (arith, ints, a, b), omega (arith, ints, a, b))

pub domain_small : (vs : List ℤ) → IsDomain vs → AreSmall vs
domain_small vs d i lt = limit_small (get_or vs i (pos 0)) (within_at vs d.within i lt)

pub cells_at : (vs : List ℤ) → IsDomain vs → (i : ℕ) → i < length vs → IsCellValue (get_or vs i (pos 0))
cells_at vs d = within_at vs d.within

-- where a value stands
place_of : (vs : List ℤ) (x : ℤ) → Contains vs x → (k : ℕ) × (k < length vs) × (get_or vs k (pos 0) ≡ x)
place_of vs x (k, lt, e) = (k, lt, get_or_from_slice_get vs k (get_or vs k x) (pos 0) (slice_get-get_or vs k x lt) ∙ e)

pub domain_end : (vs : List ℤ) (x : ℤ) → IsDomain vs → Contains vs x → WithinLimits x
domain_end vs x d has = let p = place_of vs x has in subst WithinLimits p.2 (within_at vs d.within p.0 p.1)

pub domain_cell : (vs : List ℤ) (x x' : ℤ) → x' ≡ x → IsDomain vs → Contains vs x → IsCellValue x'
domain_cell vs x x' e d has = subst IsCellValue (sym e) (domain_end vs x d has)

-- a value that comes d places later is at least d greater
apart : (vs : List ℤ) → Rises vs → (i d : ℕ) → i + d < length vs → (get_or vs i (pos 0) +ℤ pos d) ≤ℤ get_or vs (i + d) (pos 0)
apart vs r i zero lt =
    let same : i ≡ i + 0 = omega arith in
    subst (λ (k : ℕ). (get_or vs i (pos 0) +ℤ pos 0) ≤ℤ get_or vs k (pos 0)) same (omega (arith, ints))
apart vs r i (suc d) lt =
    let h = apart vs r i d (omega (arith, lt)) in
    let k = r (i + d) (i + suc d) (omega arith) lt in
    omega (arith, ints, h, k)

pub domain_few : (vs : List ℤ) → IsDomain vs → length vs ≤ 2000001
domain_few [] d = omega arith
domain_few (v ∷ vs) d =
    let long = length vs in
    let h = apart (v ∷ vs) (rise (v ∷ vs) d.rising) 0 long (omega arith) in
    let low = (within_at (v ∷ vs) d.within 0 (omega arith)).0 in
    let high = (within_at (v ∷ vs) d.within (0 + long) (omega arith)).1 in
    omega (arith, ints, h, low, high)

-- without a gap from the first to the last one, each is as far from the first as its place says
run_at : (vs : List ℤ) → Rises vs → (n i d : ℕ) → length vs ≡ suc n → i + d ≡ n → get_or vs n (pos 0) ≡ (get_or vs 0 (pos 0) +ℤ pos n) →
    (get_or vs 0 (pos 0) +ℤ pos i) ≡ get_or vs i (pos 0)
run_at vs r n i d long at last =
    let low : (get_or vs 0 (pos 0) +ℤ pos i) ≤ℤ get_or vs i (pos 0) =
    (let e : 0 + i ≡ i = omega arith in
    subst (λ (k : ℕ). (get_or vs 0 (pos 0) +ℤ pos i) ≤ℤ get_or vs k (pos 0)) e (apart vs r 0 i (omega (arith, long, at)))) in
    let high : (get_or vs i (pos 0) +ℤ pos d) ≤ℤ get_or vs n (pos 0) =
    subst (λ (k : ℕ). (get_or vs i (pos 0) +ℤ pos d) ≤ℤ get_or vs k (pos 0)) at (apart vs r i d (omega (arith, long, at))) in
    omega (arith, ints, low, high, last, at)

-- the least and the greatest value stand first and last
first_is : (vs : List ℤ) (low : ℤ) → Rises vs → Contains vs low → ((v : ℤ) → Contains vs v → low ≤ℤ v) → get_or vs 0 (pos 0) ≡ low
first_is vs low r has all =
    let p = place_of vs low has in
    let inside = p.1 in
    let e = p.2 in
    let a : low ≤ℤ get_or vs 0 (pos 0) = all (get_or vs 0 (pos 0)) (Contains-get_or vs 0 (pos 0) (omega (arith, inside))) in
    let at : 0 + p.0 ≡ p.0 = omega arith in
    let b : (get_or vs 0 (pos 0) +ℤ pos p.0) ≤ℤ get_or vs p.0 (pos 0) =
    subst (λ (k : ℕ). (get_or vs 0 (pos 0) +ℤ pos p.0) ≤ℤ get_or vs k (pos 0)) at (apart vs r 0 p.0 (omega (arith, inside))) in
    omega (arith, ints, a, b, e)

last_is : (vs : List ℤ) (high : ℤ) (n : ℕ) → length vs ≡ suc n → Rises vs → Contains vs high → ((v : ℤ) → Contains vs v → v ≤ℤ high) →
    get_or vs n (pos 0) ≡ high
last_is vs high n long r has all =
    let p = place_of vs high has in
    let inside = p.1 in
    let e = p.2 in
    let at : p.0 + (n - p.0) ≡ n = omega (arith, long, inside) in
    let a : get_or vs n (pos 0) ≤ℤ high = all (get_or vs n (pos 0)) (Contains-get_or vs n (pos 0) (omega (arith, long))) in
    let b : (get_or vs p.0 (pos 0) +ℤ pos (n - p.0)) ≤ℤ get_or vs n (pos 0) =
    subst (λ (k : ℕ). (get_or vs p.0 (pos 0) +ℤ pos (n - p.0)) ≤ℤ get_or vs k (pos 0)) at (apart vs r p.0 (n - p.0) (omega (arith, long, at))) in
    omega (arith, ints, a, b, e)

-- where the first and the last value of a domain leave no gap, each is as far from the first as its place says
domain_run : (vs : List ℤ) (count : ℕ) (low high : ℤ) → IsDomain vs → count ≡ length vs → Contains vs low → Contains vs high →
    ((v : ℤ) → Contains vs v → (low ≤ℤ v) × (v ≤ℤ high)) → high +ℤ pos 1 ≡ low +ℤ pos count → (i : ℕ) → i < length vs →
    (low +ℤ pos i) ≡ get_or vs i (pos 0)
domain_run vs count low high d is has has' all far i lt =
    let n = count - 1 in
    let r = domain_rises vs d in
    let a = first_is vs low r has (λ v h. (all v h).0) in
    let b = last_is vs high n (omega (arith, is, lt)) r has' (λ v h. (all v h).1) in
    let whole : get_or vs n (pos 0) ≡ (get_or vs 0 (pos 0) +ℤ pos n) = omega (arith, ints, a, b, far, is, lt) in
    ap (λ z. z +ℤ pos i) (sym a)
    ∙ run_at vs r n i (n - i) (omega (arith, is, lt)) (omega (arith, is, lt)) whole

-- the values of a domain without gaps, with the first and the last one as the code has them
pub domain_run_from : (vs : List ℤ) (count : ℕ) (low low' high high' : ℤ) → low' ≡ low → high' ≡ high → IsDomain vs → count ≡ length vs →
    Contains vs low → Contains vs high → ((v : ℤ) → Contains vs v → (low ≤ℤ v) × (v ≤ℤ high)) → high' +ℤ pos 1 ≡ low' +ℤ pos count →
    (i : ℕ) → i < length vs → (low' +ℤ pos i) ≡ get_or vs i (pos 0)
domain_run_from vs count low low' high high' e f d is has has' all far i lt =
    ap (λ z. z +ℤ pos i) e ∙ domain_run vs count low high d is has has' all (ap (λ z. z +ℤ pos 1) (sym f) ∙ far ∙ ap (λ z. z +ℤ pos count) e) i lt

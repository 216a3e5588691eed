-- The numbers of one range: how many there are, which, and what a test leaves of them.
use Rattle.std.proofs.Common.{◌≡◌, ℕ, zero, suc, ◌+◌, ◌<◌, ℤ, pos, negsuc, ◌+ℤ◌, ◌-ℤ◌, ◌≤ℤ◌, ◌<ℤ◌, Bool, true, false, cond, List, [], ◌∷◌, ◌++◌, length, get_or, refl, sym, ap, ◌∙◌, arith}
use Rattle.std.proofs.lemmas.Int.{ints}
use Rattle.std.specs.Prelude.{filter, Contains}
use Rattle.std.specs.List.{AllByRecursion}
use Rattle.ts_domain.specs.Values.{to_natural, run, values_between, IsRising}

pub natural_is : (z : ℤ) → pos 0 ≤ℤ z → pos (to_natural z) ≡ z
natural_is (pos n) h = refl
natural_is (negsuc n) h = absurd (omega (arith, ints, h))

pub length-run : (low : ℤ) (n : ℕ) → length (run low n) ≡ n
unfolding run
length-run low zero = refl
length-run low (suc n) = omega (arith, length-run (low +ℤ pos 1) n)

pub get_or-run : (low : ℤ) (n i : ℕ) (d : ℤ) → i < n → get_or (run low n) i d ≡ low +ℤ pos i
unfolding run
get_or-run low zero i d h = absurd (omega (arith, h))
get_or-run low (suc n) zero d h = omega (arith, ints)
get_or-run low (suc n) (suc i) d h = let e : (low +ℤ pos 1) +ℤ pos i ≡ low +ℤ pos (suc i) = omega (arith, ints) in
    get_or-run (low +ℤ pos 1) n i d (omega (arith, h)) ∙ e

pub run_split : (low : ℤ) (a b : ℕ) → run low (a + b) ≡ run low a ++ run (low +ℤ pos a) b
unfolding run
run_split low zero b =
    let e : 0 + b ≡ b = omega arith in let f : low ≡ low +ℤ pos 0 = omega (arith, ints) in ap (run low) e ∙ ap (λ x. run x b) f
run_split low (suc a) b =
    let e : suc a + b ≡ suc (a + b) = omega arith in let f : (low +ℤ pos 1) +ℤ pos a ≡ low +ℤ pos (suc a) = omega (arith, ints) in
    ap (run low) e ∙ ap (λ l. low ∷ l) (run_split (low +ℤ pos 1) a b) ∙ ap (λ x. low ∷ (run (low +ℤ pos 1) a ++ run x b)) f

pub all_pass : (test : ℤ → Bool) (low : ℤ) (n : ℕ) → ((v : ℤ) → low ≤ℤ v → v <ℤ (low +ℤ pos n) → test v ≡ true) → filter test (run low n) ≡ run low n
unfolding run
all_pass test low zero h = refl
all_pass test low (suc n) h =
    ap (λ b. cond b (low ∷ filter test (run (low +ℤ pos 1) n)) (filter test (run (low +ℤ pos 1) n))) (h low (omega (arith, ints)) (omega (arith, ints))) ∙
    ap (λ l. low ∷ l) (all_pass test (low +ℤ pos 1) n (λ v from to. h v (omega (arith, ints, from)) (omega (arith, ints, to))))

pub none_pass : (test : ℤ → Bool) (low : ℤ) (n : ℕ) → ((v : ℤ) → low ≤ℤ v → v <ℤ (low +ℤ pos n) → test v ≡ false) → filter test (run low n) ≡ []
unfolding run
none_pass test low zero h = refl
none_pass test low (suc n) h =
    ap (λ b. cond b (low ∷ filter test (run (low +ℤ pos 1) n)) (filter test (run (low +ℤ pos 1) n))) (h low (omega (arith, ints)) (omega (arith, ints))) ∙
    none_pass test (low +ℤ pos 1) n (λ v from to. h v (omega (arith, ints, from)) (omega (arith, ints, to)))

-- two tests that agree on the numbers leave the same
pub same_pass : (p q : ℤ → Bool) (low : ℤ) (n : ℕ) → ((v : ℤ) → low ≤ℤ v → p v ≡ q v) → filter p (run low n) ≡ filter q (run low n)
unfolding run
same_pass p q low zero h = refl
same_pass p q low (suc n) h =
    ap (λ b. cond b (low ∷ filter p (run (low +ℤ pos 1) n)) (filter p (run (low +ℤ pos 1) n))) (h low (omega (arith, ints))) ∙
    ap (λ l. cond (q low) (low ∷ l) l) (same_pass p q (low +ℤ pos 1) n (λ v from. h v (omega (arith, ints, from))))

pub in_run : (low : ℤ) (n : ℕ) (v : ℤ) → Contains (run low n) v → (low ≤ℤ v) × (v <ℤ (low +ℤ pos n))
in_run low n v h =
    let below : h.0 < n = omega (arith, h.1, length-run low n) in
    let at : v ≡ low +ℤ pos h.0 = sym h.2 ∙ get_or-run low n h.0 v below in
    (omega (arith, ints, at), omega (arith, ints, at, below))

pub run_has : (low : ℤ) (n : ℕ) (v : ℤ) → low ≤ℤ v → v <ℤ (low +ℤ pos n) → Contains (run low n) v
run_has low n v from to =
    let k = natural_is (v -ℤ low) (omega (arith, ints, from)) in
    let below : to_natural (v -ℤ low) < n = omega (arith, ints, k, to) in
    let at : low +ℤ pos (to_natural (v -ℤ low)) ≡ v = omega (arith, ints, k) in
    (to_natural (v -ℤ low), omega (arith, below, length-run low n), get_or-run low n (to_natural (v -ℤ low)) v below ∙ at)

-- every number of a range is above a number below it, and so are those after it
above_run : (b low : ℤ) (n : ℕ) (ys : List ℤ) → b <ℤ low → AllByRecursion (λ y. (low +ℤ pos n) ≤ℤ y) ys → AllByRecursion (λ y. b <ℤ y) (run low n ++ ys)
unfolding run
above_run b low zero [] h all = tt
above_run b low zero (y ∷ ys) h all = (omega (arith, ints, h, all.0), above_run b low zero ys h all.1)
above_run b low (suc n) ys h all = (h, above_run b (low +ℤ pos 1) n ys (omega (arith, ints, h)) (rw (end_same low n) all))
  where
    end_same : (low : ℤ) (n : ℕ) → (low +ℤ pos 1) +ℤ pos n ≡ low +ℤ pos (suc n)
    end_same low n = omega (arith, ints)

pub rising_run : (low : ℤ) (n : ℕ) (ys : List ℤ) → AllByRecursion (λ y. (low +ℤ pos n) ≤ℤ y) ys → IsRising ys → IsRising (run low n ++ ys)
unfolding run IsRising
rising_run low zero ys all h = h
rising_run low (suc n) ys all h =
    let e : low +ℤ pos (suc n) ≡ (low +ℤ pos 1) +ℤ pos n = omega (arith, ints) in
    let rest : AllByRecursion (λ y. ((low +ℤ pos 1) +ℤ pos n) ≤ℤ y) ys = rw e at all in
    (above_run low (low +ℤ pos 1) n ys (omega (arith, ints)) rest, rising_run (low +ℤ pos 1) n ys rest h)

pub all_run : (from low : ℤ) (n : ℕ) (to : ℤ) → from ≤ℤ low → (low +ℤ pos n) ≤ℤ (to +ℤ pos 1) → AllByRecursion (λ y. (from ≤ℤ y) × (y ≤ℤ to)) (run low n)
unfolding run
all_run from low zero to f t = tt
all_run from low (suc n) to f t = ((f, omega (arith, ints, t)), all_run from (low +ℤ pos 1) n to (omega (arith, ints, f)) (omega (arith, ints, t)))

-- how many numbers a range has
pub length-between : (low high : ℤ) → low ≤ℤ (high +ℤ pos 1) → pos (length (values_between low high)) ≡ (high +ℤ pos 1) -ℤ low
unfolding values_between
length-between low high h = ap pos (length-run low (to_natural ((high +ℤ pos 1) -ℤ low))) ∙ natural_is ((high +ℤ pos 1) -ℤ low) (omega (arith, ints, h))

pub between_split : (low t high : ℤ) → low ≤ℤ (t +ℤ pos 1) → t ≤ℤ high → values_between low high ≡ values_between low t ++ values_between (t +ℤ pos 1) high
unfolding values_between
between_split low t high from to =
    let a = natural_is ((t +ℤ pos 1) -ℤ low) (omega (arith, ints, from)) in let b = natural_is ((high +ℤ pos 1) -ℤ (t +ℤ pos 1)) (omega (arith, ints, to)) in
    let c = natural_is ((high +ℤ pos 1) -ℤ low) (omega (arith, ints, from, to)) in
    let e : to_natural ((high +ℤ pos 1) -ℤ low) ≡ to_natural ((t +ℤ pos 1) -ℤ low) + to_natural ((high +ℤ pos 1) -ℤ (t +ℤ pos 1)) =
    omega (arith, ints, a, b, c) in
    let f : low +ℤ pos (to_natural ((t +ℤ pos 1) -ℤ low)) ≡ t +ℤ pos 1 = omega (arith, ints, a) in
    ap (run low) e ∙ run_split low (to_natural ((t +ℤ pos 1) -ℤ low)) (to_natural ((high +ℤ pos 1) -ℤ (t +ℤ pos 1))) ∙
    ap (λ x. run low (to_natural ((t +ℤ pos 1) -ℤ low)) ++ run x (to_natural ((high +ℤ pos 1) -ℤ (t +ℤ pos 1)))) f

pub in_between : (low high v : ℤ) → low ≤ℤ (high +ℤ pos 1) → Contains (values_between low high) v → (low ≤ℤ v) × (v ≤ℤ high)
unfolding values_between
in_between low high v h has =
    let c = natural_is ((high +ℤ pos 1) -ℤ low) (omega (arith, ints, h)) in
    let i = in_run low (to_natural ((high +ℤ pos 1) -ℤ low)) v has in (i.0, omega (arith, ints, c, i.1))

pub between_has : (low high v : ℤ) → low ≤ℤ v → v ≤ℤ high → Contains (values_between low high) v
unfolding values_between
between_has low high v from to =
    let c = natural_is ((high +ℤ pos 1) -ℤ low) (omega (arith, ints, from, to)) in
    run_has low (to_natural ((high +ℤ pos 1) -ℤ low)) v from (omega (arith, ints, c, to))

pub all_between : (test : ℤ → Bool) (low high : ℤ) → low ≤ℤ (high +ℤ pos 1) → ((v : ℤ) → low ≤ℤ v → v ≤ℤ high → test v ≡ true) →
    filter test (values_between low high) ≡ values_between low high
unfolding values_between
all_between test low high h each =
    let c = natural_is ((high +ℤ pos 1) -ℤ low) (omega (arith, ints, h)) in
    all_pass test low (to_natural ((high +ℤ pos 1) -ℤ low)) (λ v from to. each v from (omega (arith, ints, c, to)))

pub none_between : (test : ℤ → Bool) (low high : ℤ) → low ≤ℤ (high +ℤ pos 1) → ((v : ℤ) → low ≤ℤ v → v ≤ℤ high → test v ≡ false) →
    filter test (values_between low high) ≡ []
unfolding values_between
none_between test low high h each =
    let c = natural_is ((high +ℤ pos 1) -ℤ low) (omega (arith, ints, h)) in
    none_pass test low (to_natural ((high +ℤ pos 1) -ℤ low)) (λ v from to. each v from (omega (arith, ints, c, to)))

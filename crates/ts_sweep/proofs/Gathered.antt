-- What a sweep gathers step by step is the total by value, in both directions.
use Rattle.std.proofs.Common.{◌≡◌, ℕ, zero, suc, ◌-◌, ◌<◌, ◌≤◌, ◌⊎◌, inl, inr, Bool, true, false, cond, nat_lt, refl, sym, ap, ◌∙◌, arith}
use Rattle.ts_sweep.specs.Sweeps.{total, gathered, step_place}

not_below : (a b : ℕ) → b ≤ a → nat_lt a b ≡ false
not_below a b h = grind arith

is_below : (a b : ℕ) → a < b → nat_lt a b ≡ true
is_below a b h = grind arith

last_or_not : (c n : ℕ) → c ≤ suc n → (c ≤ n) ⊎ (c ≡ suc n)
last_or_not c n h = grind arith

module _ {X : Type 0} (both : X → X → X) (none : X) (assoc : (a b c : X) → both (both a b) c ≡ both a (both b c)) (comm : (a b : X) → both a b ≡ both b a)
    (f : ℕ → X) where
  swap : (a b c : X) → both (both a b) c ≡ both (both a c) b
  swap a b c = assoc a b c ∙ ap (both a) (comm b c) ∙ sym (assoc a c b)

  -- what a sweep up gathers doesn't depend on how many values there are
  up_same : (n m c : ℕ) → gathered both none true f n c ≡ gathered both none true f m c
  unfolding gathered
  up_same n m zero = refl
  up_same n m (suc c) = ap (λ x. both x (f c)) (up_same n m c)

  -- in a sweep down, one more value at the end comes first
  down_more : (n c : ℕ) → c ≤ n → gathered both none false f (suc n) (suc c) ≡ both (gathered both none false f n c) (f n)
  unfolding gathered
  down_more n zero h = let e : suc n - suc zero ≡ n = omega arith in ap (λ k. both none (f k)) e
  down_more n (suc c) h =
      let e : suc n - suc (suc c) ≡ n - suc c = omega arith in
      ap (λ x. both x (f (suc n - suc (suc c)))) (down_more n c (omega (arith, h)))
      ∙ ap (λ k. both (both (gathered both none false f n c) (f n)) (f k)) e
      ∙ swap (gathered both none false f n c) (f n) (f (n - suc c))

  up_total : (test : ℕ → Bool) (n c : ℕ) → c ≤ n → ((i : ℕ) → i < n → test i ≡ nat_lt i c) → total both none test f n ≡ gathered both none true f n c
  unfolding total gathered
  up_total test zero zero h t = refl
  up_total test zero (suc c) h t = absurd (omega (arith, h))
  up_total test (suc n) c h t = go (λ d le u. up_total test n d le u) (last_or_not c n h)
    where
      go : ((d : ℕ) → d ≤ n → ((i : ℕ) → i < n → test i ≡ nat_lt i d) → total both none test f n ≡ gathered both none true f n d) →
          (c ≤ n) ⊎ (c ≡ suc n) → total both none test f (suc n) ≡ gathered both none true f (suc n) c
      go ih (inl le) =
          ap (λ b. cond b (both (total both none test f n) (f n)) (total both none test f n)) (t n (omega arith) ∙ not_below n c le)
          ∙ ih c le (λ i lt. t i (omega (arith, lt))) ∙ up_same n (suc n) c
      go ih (inr e) =
          ap (λ b. cond b (both (total both none test f n) (f n)) (total both none test f n)) (t n (omega arith) ∙ is_below n c (omega (arith, e)))
          ∙ ap (λ x. both x (f n))
          (ih n (omega arith) (λ i lt. t i (omega (arith, lt)) ∙ is_below i c (omega (arith, e, lt)) ∙ sym (is_below i n lt)) ∙ up_same n (suc n) n)
          ∙ ap (gathered both none true f (suc n)) (sym e)

  down_total : (test : ℕ → Bool) (n c : ℕ) → c ≤ n → ((i : ℕ) → i < n → test (n - suc i) ≡ nat_lt i c) →
      total both none test f n ≡ gathered both none false f n c
  unfolding total gathered
  down_total test zero zero h t = refl
  down_total test zero (suc c) h t = absurd (omega (arith, h))
  down_total test (suc n) zero h t =
      let last : suc n - suc zero ≡ n = omega arith in
      ap (λ b. cond b (both (total both none test f n) (f n)) (total both none test f n))
      (ap test (sym last) ∙ t zero (omega arith) ∙ not_below zero zero (omega arith))
      ∙ down_total test n zero (omega arith)
      (λ i lt. (let e : n - suc i ≡ suc n - suc (suc i) = omega arith in
      ap test e ∙ t (suc i) (omega (arith, lt)) ∙ not_below (suc i) zero (omega arith) ∙ sym (not_below i zero (omega arith))))
  down_total test (suc n) (suc c) h t =
      let last : suc n - suc zero ≡ n = omega arith in
      ap (λ b. cond b (both (total both none test f n) (f n)) (total both none test f n))
      (ap test (sym last) ∙ t zero (omega arith) ∙ is_below zero (suc c) (omega arith))
      ∙ ap (λ x. both x (f n))
      (down_total test n c (omega (arith, h))
      (λ i lt. (let e : n - suc i ≡ suc n - suc (suc i) = omega arith in ap test e ∙ t (suc i) (omega (arith, lt)) ∙ same i c)))
      ∙ sym (down_more n c (omega (arith, h)))
    where
      same : (i c : ℕ) → nat_lt (suc i) (suc c) ≡ nat_lt i c
      same i c = grind arith

  -- what is gathered is the total by value, in both directions
  pub gathered_total : (up : Bool) (test : ℕ → Bool) (n c : ℕ) → c ≤ n → ((i : ℕ) → i < n → test (step_place up n i) ≡ nat_lt i c) →
      total both none test f n ≡ gathered both none up f n c
  gathered_total true test n c h t = up_total test n c h t
  gathered_total false test n c h t = down_total test n c h t

  -- what is gathered takes nothing
  pub gathered_takes : (up : Bool) (n c : ℕ) → both none none ≡ none → both (gathered both none up f n c) none ≡ gathered both none up f n c
  unfolding gathered
  gathered_takes up n zero h = h
  gathered_takes up n (suc c) h =
      swap (gathered both none up f n c) (f (step_place up n c)) none ∙ ap (λ x. both x (f (step_place up n c))) (gathered_takes up n c h)

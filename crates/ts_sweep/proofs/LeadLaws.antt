-- How many values are passed at a step, of cells without gaps.
use Rattle.std.proofs.Common.{◌≡◌, ℕ, suc, ◌+◌, ◌-◌, ◌<◌, ◌⊎◌, inl, inr, Bool, true, false, nat_lt, int_lt, int_le, ℤ, pos, neg_ℤ, ◌+ℤ◌, ◌<ℤ◌, ◌≤ℤ◌, refl, sym, ◌∙◌, arith}
use Rattle.std.proofs.lemmas.Int.{ints}
use Rattle.ts_sweep.specs.Sweeps.{Leads}
use Rattle.ts_sweep.specs.Small.{IsCut, ahead_of, with_twin}

lt_as : (x y : ℤ) (a b : ℕ) → (x <ℤ y → a < b) → (a < b → x <ℤ y) → int_lt x y ≡ nat_lt a b
lt_as x y a b h k = go (int_lt x y) refl (nat_lt a b) refl
  where
    means : int_lt x y ≡ true → x <ℤ y
    means e = grind (arith, ints)

    holds : x <ℤ y → int_lt x y ≡ true
    holds e = grind (arith, ints)

    nat_means : nat_lt a b ≡ true → a < b
    nat_means e = grind arith

    nat_holds : a < b → nat_lt a b ≡ true
    nat_holds e = grind arith

    go : (s : Bool) → int_lt x y ≡ s → (t : Bool) → nat_lt a b ≡ t → int_lt x y ≡ nat_lt a b
    go true e t f = e ∙ sym (nat_holds (h (means e)))
    go false e true f = holds (k (nat_means f)) ∙ sym f
    go false e false f = e ∙ sym f

int_same : (a b c d : ℤ) → (a <ℤ b → c <ℤ d) → (c <ℤ d → a <ℤ b) → int_lt a b ≡ int_lt c d
int_same a b c d h k = go (int_lt a b) refl (int_lt c d) refl
  where
    means : (x y : ℤ) → int_lt x y ≡ true → x <ℤ y
    means x y e = grind (arith, ints)

    holds : (x y : ℤ) → x <ℤ y → int_lt x y ≡ true
    holds x y e = grind (arith, ints)

    go : (s : Bool) → int_lt a b ≡ s → (t : Bool) → int_lt c d ≡ t → int_lt a b ≡ int_lt c d
    go true e t f = e ∙ sym (holds c d (h (means a b e)))
    go false e true f = holds a b (k (means c d f)) ∙ sym f
    go false e false f = e ∙ sym f

le_is : (x y : ℤ) → int_le x y ≡ int_lt x (y +ℤ pos 1)
le_is x y = grind (arith, ints)

-- a lead, cut to the counts, compares alike
cut_lead : (x : ℤ) (n m a b i k : ℕ) → IsCut x n a → IsCut (neg_ℤ x) m b → i < n → k < m → int_lt (pos i) (pos k +ℤ x) ≡ nat_lt (i + b) (k + a)
cut_lead x n m a b i k ha hb li lk =
    lt_as (pos i) (pos k +ℤ x) (i + b) (k + a) (go (low_or_not x))
    (back (low_or_not x))
  where
    low_or_not : (x : ℤ) → (x ≤ℤ pos 0) ⊎ (pos 0 <ℤ x)
    low_or_not x = grind (arith, ints)

    few_or_not : (x : ℤ) (n : ℕ) → (x ≤ℤ pos n) ⊎ (pos n <ℤ x)
    few_or_not x n = grind (arith, ints)

    go : (x ≤ℤ pos 0) ⊎ (pos 0 <ℤ x) → pos i <ℤ (pos k +ℤ x) → i + b < k + a
    go (inl le) lt =
        let z = ha.low le in let y = hb.same (omega (arith, ints, le)) (omega (arith, ints, le, lt, lk)) in omega (arith, ints, z, y, lt)
    go (inr gt) lt =
        let z = hb.low (omega (arith, ints, gt)) in
        elim (few_or_not x n) [
          | inl le ↦ (let y = ha.same (omega (arith, ints, gt)) le in omega (arith, ints, z, y, lt))
          | inr more ↦ (let y = ha.high (omega (arith, ints, more)) in omega (arith, ints, z, y, li))
        ]

    back : (x ≤ℤ pos 0) ⊎ (pos 0 <ℤ x) → i + b < k + a → pos i <ℤ (pos k +ℤ x)
    back (inl le) lt =
        let z = ha.low le in
        elim (few_or_not (neg_ℤ x) m) [
          | inl few ↦ (let y = hb.same (omega (arith, ints, le)) few in omega (arith, ints, z, y, lt))
          | inr more ↦ (let y = hb.high (omega (arith, ints, more)) in absurd (omega (arith, z, y, lt, lk)))
        ]
    back (inr gt) lt =
        let z = hb.low (omega (arith, ints, gt)) in
        elim (few_or_not x n) [
          | inl le ↦ (let y = ha.same (omega (arith, ints, gt)) le in omega (arith, ints, z, y, lt))
          | inr more ↦ omega (arith, ints, more, li)
        ]

-- the lead of a sweep
pub lead_is : (up twin : Bool) (v w x y : ℤ) (n m a b : ℕ) → x ≡ ahead_of up v n w m → y ≡ with_twin twin x → IsCut y n a → IsCut (neg_ℤ y) m b →
    Leads up twin (λ i. v +ℤ pos i) n (λ k. w +ℤ pos k) m a b
lead_is true false v w x y n m a b ex ey ha hb i k li lk =
    int_same (v +ℤ pos i) (w +ℤ pos k) (pos i) (pos k +ℤ y) (λ h. omega (arith, ints, ex, ey, h)) (λ h. omega (arith, ints, ex, ey, h))
    ∙ cut_lead y n m a b i k ha hb li lk
lead_is true true v w x y n m a b ex ey ha hb i k li lk =
    le_is (v +ℤ pos i) (w +ℤ pos k)
    ∙ int_same (v +ℤ pos i) ((w +ℤ pos k) +ℤ pos 1) (pos i) (pos k +ℤ y) (λ h. omega (arith, ints, ex, ey, h)) (λ h. omega (arith, ints, ex, ey, h))
    ∙ cut_lead y n m a b i k ha hb li lk
lead_is false false v w x y n m a b ex ey ha hb i k li lk =
    int_same (w +ℤ pos (m - suc k)) (v +ℤ pos (n - suc i)) (pos i) (pos k +ℤ y) (λ h. omega (arith, ints, ex, ey, h, li, lk))
    (λ h. omega (arith, ints, ex, ey, h, li, lk))
    ∙ cut_lead y n m a b i k ha hb li lk
lead_is false true v w x y n m a b ex ey ha hb i k li lk =
    le_is (w +ℤ pos (m - suc k)) (v +ℤ pos (n - suc i))
    ∙ int_same (w +ℤ pos (m - suc k)) ((v +ℤ pos (n - suc i)) +ℤ pos 1) (pos i) (pos k +ℤ y) (λ h. omega (arith, ints, ex, ey, h, li, lk))
    (λ h. omega (arith, ints, ex, ey, h, li, lk))
    ∙ cut_lead y n m a b i k ha hb li lk

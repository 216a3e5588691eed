-- The order of removals, and the first of two.
use Rattle.std.proofs.Common.{◌≡◌, ◌⊎◌, ◌<◌, ◌≤◌, ℕ, subst, Bool, true, false, cond, Option, Some, None, refl, inl, inr, ⊎_elim, arith}
use Rattle.std.proofs.lemmas.Int.{ints}
use Rattle.ts_filter.specs.declared.drops.Removal.{Removal}
use Rattle.ts_filter.specs.Drops.{IsNoLater, IsFirstOf}
use Rattle.ts_filter.specs.TermDrops.{cell_up_to, comes_before, earlier_of}

before : (r t : Removal) → comes_before r t ≡ true → IsNoLater r t
before r t e = grind (arith, ints)

not_before : (r t : Removal) → comes_before r t ≡ false → IsNoLater t r
not_before r t e = grind (arith, ints)

no_later_trans : (r s t : Removal) → IsNoLater r s → IsNoLater s t → IsNoLater r t
no_later_trans r s t a b = grind (arith, ints)

module _ (P Q : Removal → Type 0) where
  choose : (a b : Removal) → P a × ((t : Removal) → P t → IsNoLater a t) → Q b × ((t : Removal) → Q t → IsNoLater b t) →
      (f : Bool) → comes_before b a ≡ f → IsFirstOf (λ r. P r ⊎ Q r) (cond f (Some b) (Some a))
  choose a b p q true e =
      (inr q.0, λ t h. ⊎_elim (λ g. no_later_trans b a t (before b a e) (p.1 t g)) (λ g. q.1 t g) h)
  choose a b p q false e =
      (inl p.0, λ t h. ⊎_elim (λ g. p.1 t g) (λ g. no_later_trans a b t (not_before b a e) (q.1 t g)) h)

  pub first_of_both : (x y : Option Removal) → IsFirstOf P x → IsFirstOf Q y → IsFirstOf (λ r. P r ⊎ Q r) (earlier_of x y)
  first_of_both None None p q = λ t h. ⊎_elim (λ g. p t g) (λ g. q t g) h
  first_of_both None (Some b) p q = (inr q.0, λ t h. ⊎_elim (λ g. absurd (p t g)) (λ g. q.1 t g) h)
  first_of_both (Some a) None p q = (inl p.0, λ t h. ⊎_elim (λ g. p.1 t g) (λ g. absurd (q t g)) h)
  first_of_both (Some a) (Some b) p q = choose a b p q (comes_before b a) refl

-- the first removal that has one property is the first that has another one that says the same
pub first_same : (P Q : Removal → Type 0) (x : Option Removal) → ((r : Removal) → P r → Q r) → ((r : Removal) → Q r → P r) → IsFirstOf P x → IsFirstOf Q x
first_same P Q None f g h = λ t q. h t (g t q)
first_same P Q (Some r) f g h = (f r h.0, λ t q. h.1 t (g t q))

-- removals with Q after the first one with P needn't be known

module _ (P Q : Removal → Type 0) (n : ℕ) (inside : (t : Removal) → Q t → t.cell ≤ n) where
  wider : (a : Removal) (z : Option Removal) → P a → IsFirstOf (λ r. P r ⊎ (Q r × (r.cell ≤ a.cell))) z → IsFirstOf (λ r. P r ⊎ Q r) z
  wider a None p f = absurd (f a (inl p))
  wider a (Some c) p f = (
    ⊎_elim (λ g. inl g) (λ g. inr g.0) f.0,
    λ t h. ⊎_elim (λ g. f.1 t (inl g)) (λ g. near t g (split t)) h,
  )
    where
      split : (t : Removal) → (t.cell ≤ a.cell) ⊎ (a.cell < t.cell)
      split t = grind arith

      near : (t : Removal) → Q t → (t.cell ≤ a.cell) ⊎ (a.cell < t.cell) → IsNoLater c t
      near t g (inl le) = f.1 t (inr (g, le))
      near t g (inr lt) = no_later_trans c a t (f.1 a (inl p)) (inl lt)

  pub first_of_near : (x y : Option Removal) (to : ℕ) → to ≡ cell_up_to x n → IsFirstOf P x → IsFirstOf (λ r. Q r × (r.cell ≤ to)) y →
      IsFirstOf (λ r. P r ⊎ Q r) (earlier_of x y)
  first_of_near None y to is p q = first_of_both P Q None y p (first_same (λ r. Q r × (r.cell ≤ to)) Q y (λ t h. h.0) (λ t h. (h, here t h)) q)
    where
      here : (t : Removal) → Q t → t.cell ≤ to
      here t h = let le = inside t h in omega (arith, le, is)
  first_of_near (Some a) y to is p q =
      wider a (earlier_of (Some a) y) p.0
      (first_of_both P (λ r. Q r × (r.cell ≤ a.cell)) (Some a) y p (subst (λ m. IsFirstOf (λ r. Q r × (r.cell ≤ m)) y) is q))

-- Lanes whose D, F and R are replaced, and totals over hulls.
use Rattle.std.proofs.Common.{◌≡◌, inl, inr, ◌≤◌, ◌<◌, ◌+◌, ◌*◌, ◌≤ℤ◌, ℕ, zero, suc, ℤ, pos, Bool, true, false, cond, ◌||◌, List, [], ◌∷◌, length, get_or, set, refl, sym, ap, subst, ◌∙◌, arith}
use Rattle.std.specs.Int.{int_max}
use Rattle.std.proofs.lemmas.Int.{ints}
use Rattle.std.proofs.lemmas.List.{get_or-replicate, set-get_or}
use Rattle.ts_automaton.specs.Registers.{each}
use Rattle.ts_sweep.specs.declared.packed.Ends.{Ends}
use Rattle.ts_sweep.specs.declared.packed.Name.TheVariants.{C, E, D, F, R}
use Rattle.ts_sweep.specs.FrontLaws.{never_added}
use Rattle.ts_sweep.specs.LaneLaws.{lanes_neutral}
use Rattle.ts_sweep.specs.Lanes.{greater_of, least, no_lanes, some_lanes}
use Rattle.ts_sweep.specs.MoveLaws.{first_is, none_is}
use Rattle.ts_sweep.specs.Moves.{of_name, with_all}
use Rattle.ts_sweep.specs.Packed.{IsPacked, ends, ends_at, ends_in, is_wide, max_ends, name_ends, place_in, with_ends_at, with_ends_in}
use Rattle.ts_sweep.specs.PackedLaws.{packed_lanes, same_ends, some_greater, some_lanes_are}
use Rattle.ts_sweep.specs.Sweeps.{total}
use Rattle.ts_sweep.proofs.PairSteps.{before_or}

-- nothing of a register
abbrev pub no_ends : Ends
no_ends = ends least least

greater_set : (xs ys : List ℤ) (k : ℕ) (a b : ℤ) → greater_of (set xs k a) (set ys k b) ≡ set (greater_of xs ys) k (int_max a b)
unfolding greater_of
greater_set [] ys k a b = refl
greater_set (x ∷ xs) [] zero a b = refl
greater_set (x ∷ xs) [] (suc k) a b = refl
greater_set (x ∷ xs) (y ∷ ys) zero a b = refl
greater_set (x ∷ xs) (y ∷ ys) (suc k) a b = ap (λ zs. int_max x y ∷ zs) (greater_set xs ys k a b)

greater_at : (xs ys : List ℤ) (p : ℕ) (e f : Ends) → greater_of (with_ends_at xs p e) (with_ends_at ys p f) ≡ with_ends_at (greater_of xs ys) p (max_ends e f)
greater_at xs ys p e f =
    greater_set (set xs (2 * p) e.below) (set ys (2 * p) f.below) (2 * p + 1) e.above f.above
    ∙ ap (λ zs. set zs (2 * p + 1) (int_max e.above f.above)) (greater_set xs ys (2 * p) e.below f.below)

own_ends : (xs : List ℤ) (p : ℕ) → with_ends_at xs p (ends_at xs p) ≡ xs
own_ends xs p =
    ap (λ zs. set zs (2 * p + 1) (get_or xs (2 * p + 1) (pos 0))) (set-get_or xs (2 * p) (pos 0)) ∙ set-get_or xs (2 * p + 1) (pos 0)

-- lanes of a wide hull with other ends of D, F and R
abbrev pub three_at : List ℤ → Ends → Ends → Ends → List ℤ
three_at xs d f r = with_ends_at (with_ends_at (with_ends_at xs 2 d) 3 f) 4 r

pub three_greater : (xs ys : List ℤ) (d f r d' f' r' : Ends) → greater_of (three_at xs d f r) (three_at ys d' f' r')
    ≡ three_at (greater_of xs ys) (max_ends d d') (max_ends f f') (max_ends r r')
three_greater xs ys d f r d' f' r' =
    greater_at (with_ends_at (with_ends_at xs 2 d) 3 f) (with_ends_at (with_ends_at ys 2 d') 3 f') 4 r r'
    ∙ ap (λ zs. with_ends_at zs 4 (max_ends r r')) (greater_at (with_ends_at xs 2 d) (with_ends_at ys 2 d') 3 f f'
    ∙ ap (λ zs. with_ends_at zs 3 (max_ends f f')) (greater_at xs ys 2 d d'))

pub none_at : (n p : ℕ) → 2 * p + 1 < n → ends_at (no_lanes n) p ≡ no_ends
none_at n p lt =
    same_ends _ _ _ _ (get_or-replicate n (2 * p) least (pos 0) (omega (arith, lt))) (get_or-replicate n (2 * p + 1) least (pos 0) lt)

with_none : (n p : ℕ) → 2 * p + 1 < n → with_ends_at (no_lanes n) p no_ends ≡ no_lanes n
with_none n p lt = ap (with_ends_at (no_lanes n) p) (sym (none_at n p lt)) ∙ own_ends (no_lanes n) p

pub ten_of : (n : ℕ) → is_wide n ≡ true → 10 ≤ n
ten_of n wide = grind arith

pub three_none : (n : ℕ) → is_wide n ≡ true → three_at (no_lanes n) no_ends no_ends no_ends ≡ no_lanes n
three_none n wide =
    let ten = ten_of n wide in
    ap (λ xs. with_ends_at (with_ends_at xs 3 no_ends) 4 no_ends) (with_none n 2 (omega (arith, ten)))
    ∙ ap (λ xs. with_ends_at xs 4 no_ends) (with_none n 3 (omega (arith, ten))) ∙ with_none n 4 (omega (arith, ten))

-- lanes whose C and E are replaced by their own ends have other ends of D, F and R alone
five : (b : Bool) (xs : List ℤ) (d f r : Ends) → b ≡ true →
    with_ends_in (with_ends_in (with_ends_in (with_ends_in (with_ends_in xs (place_in b C) (ends_in xs (place_in b C))) (place_in b E)
    (ends_in xs (place_in b E))) (place_in b D) d) (place_in b F) f) (place_in b R) r ≡ three_at xs d f r
five true xs d f r wide =
    ap (λ zs. three_at zs d f r) (ap (λ zs. with_ends_at zs 1 (ends_at xs 1)) (own_ends xs 0) ∙ own_ends xs 1)
five false xs d f r wide = never_added (sym wide)

pub with_three : (n : ℕ) (xs : List ℤ) (d f r : Ends) → is_wide n ≡ true → length xs ≡ n →
    with_all n xs (of_name (each (name_ends xs C) (name_ends xs E) d f r)) ≡ three_at xs d f r
with_three n xs d f r wide len =
    subst (λ k. with_all n xs (of_name (each (ends_in xs (place_in (is_wide k) C)) (ends_in xs (place_in (is_wide k) E)) d f r)) ≡ three_at xs d f r)
    (sym len) (five (is_wide n) xs d f r wide)

-- R in lanes of a wide hull
pub r_at : (n : ℕ) (xs : List ℤ) → is_wide n ≡ true → length xs ≡ n → name_ends xs R ≡ ends_at xs 4
r_at n xs wide len = ap (λ b. ends_in xs (place_in b R)) (ap is_wide len ∙ wide)

or_right : (a b : Bool) → b ≡ false → a ≡ (a || b)
or_right true b e = refl
or_right false b e = sym e

-- registers lie in joined lanes where they lie in either
pub some_or : (n : ℕ) (xs ys : List ℤ) → 6 ≤ n → IsPacked n xs → IsPacked n ys → some_lanes (greater_of xs ys) ≡ (some_lanes xs || some_lanes ys)
some_or n xs ys big p (inl f) =
    ap some_lanes (ap (greater_of xs) f ∙ packed_lanes n xs p) ∙ or_right (some_lanes xs) (some_lanes ys) (ap some_lanes f ∙ none_is n)
some_or n xs ys big (inl e) (inr q) =
    ap some_lanes (ap (λ zs. greater_of zs ys) e ∙ lanes_neutral n ys (some_lanes_are n ys q))
    ∙ ap (λ b. b || some_lanes ys) (sym (ap some_lanes e ∙ none_is n))
some_or n xs ys big (inr p) (inr q) =
    first_is n (greater_of xs ys) big (some_greater n xs ys p q) ∙ ap (λ b. b || some_lanes ys) (sym (first_is n xs big p))

-- ends of a constant for each hull in which registers lie are those ends, if there is such a hull
module _ (test some run : ℕ → Bool) (begun : run 0 ≡ false) (count : ℕ)
    (more : (i : ℕ) → i < count → run (suc i) ≡ cond (test i) (run i || some i) (run i)) where
  module _ (c : Ends) (same : max_ends c c ≡ c) (left : max_ends c no_ends ≡ c) (right : max_ends no_ends c ≡ c) where
    each_step : (t g b : Bool) → cond t (max_ends (cond g c no_ends) (cond b c no_ends)) (cond g c no_ends) ≡ cond (cond t (g || b) g) c no_ends
    each_step false g b = refl
    each_step true true true = same
    each_step true true false = left
    each_step true false true = right
    each_step true false false = refl

    pub const_total : (i : ℕ) → i ≤ count → total max_ends no_ends test (λ k. cond (some k) c no_ends) i ≡ cond (run i) c no_ends
    unfolding total
    const_total zero lt = sym (ap (λ z. cond z c no_ends) begun)
    const_total (suc i) lt =
        ap (λ z. cond (test i) (max_ends z (cond (some i) c no_ends)) z) (const_total i (omega (arith, lt)))
        ∙ each_step (test i) (run i) (some i) ∙ ap (λ z. cond z c no_ends) (sym (more i (omega (arith, lt))))

  -- the total over no hull is nothing
  pub none_total : (x : ℕ → Ends) (i : ℕ) → i ≤ count → run i ≡ false → total max_ends no_ends test (λ k. cond (some k) (x k) no_ends) i ≡ no_ends
  unfolding total
  none_total x zero lt e = refl
  none_total x (suc i) lt e =
      go (test i) (run i) (some i) (total max_ends no_ends test (λ k. cond (some k) (x k) no_ends) i)
      (sym (more i (omega (arith, lt))) ∙ e) (none_total x i (omega (arith, lt)))
    where
      go : (t g b : Bool) (u : Ends) → cond t (g || b) g ≡ false → (g ≡ false → u ≡ no_ends) →
          cond t (max_ends u (cond b (x i) no_ends)) u ≡ no_ends
      go false g b u e ih = ih e
      go true false false u e ih = ap (λ z. max_ends z no_ends) (ih refl)
      go true false true u e ih = never_added e
      go true true b u e ih = never_added e

-- the greatest of numbers
module _ (test : ℕ → Bool) where
  pub below_total : (f : ℕ → Ends) (i : ℕ) → (total max_ends no_ends test f i).below ≡ total int_max least test (λ k. (f k).below) i
  unfolding total
  below_total f zero = refl
  below_total f (suc i) =
      step (test i) (total max_ends no_ends test f i) (f i) ∙ ap (λ z. cond (test i) (int_max z (f i).below) z) (below_total f i)
    where
      step : (b : Bool) (u x : Ends) → (cond b (max_ends u x) u).below ≡ cond b (int_max u.below x.below) u.below
      step true u x = refl
      step false u x = refl

  pub above_total : (f : ℕ → Ends) (i : ℕ) → (total max_ends no_ends test f i).above ≡ total int_max least test (λ k. (f k).above) i
  unfolding total
  above_total f zero = refl
  above_total f (suc i) =
      step (test i) (total max_ends no_ends test f i) (f i) ∙ ap (λ z. cond (test i) (int_max z (f i).above) z) (above_total f i)
    where
      step : (b : Bool) (u x : Ends) → (cond b (max_ends u x) u).above ≡ cond b (int_max u.above x.above) u.above
      step true u x = refl
      step false u x = refl

  max_mono : (a b c d : ℤ) → a ≤ℤ c → b ≤ℤ d → int_max a b ≤ℤ int_max c d
  max_mono a b c d p q = grind (arith, ints)

  pub total_mono : (f g : ℕ → ℤ) (n : ℕ) → ((i : ℕ) → i < n → f i ≤ℤ g i) → total int_max least test f n ≤ℤ total int_max least test g n
  unfolding total
  total_mono f g zero h = omega (arith, ints)
  total_mono f g (suc n) h = step (test n) _ _ _ _ (total_mono f g n (λ i lt. h i (omega (arith, lt)))) (h n (omega arith))
    where
      step : (t : Bool) (a b c d : ℤ) → a ≤ℤ c → b ≤ℤ d → cond t (int_max a b) a ≤ℤ cond t (int_max c d) c
      step true a b c d p q = max_mono a b c d p q
      step false a b c d p q = p

  max_swap : (a b c d : ℤ) → int_max (int_max a b) (int_max c d) ≡ int_max (int_max a c) (int_max b d)
  max_swap a b c d = grind (arith, ints)

  pub total_max : (f g : ℕ → ℤ) (n : ℕ) → total int_max least test (λ i. int_max (f i) (g i)) n
      ≡ int_max (total int_max least test f n) (total int_max least test g n)
  unfolding total
  total_max f g zero = refl
  total_max f g (suc n) =
      ap (λ z. cond (test n) (int_max z (int_max (f n) (g n))) z) (total_max f g n)
      ∙ step (test n) (total int_max least test f n) (total int_max least test g n) (f n) (g n)
    where
      step : (t : Bool) (a b c d : ℤ) → cond t (int_max (int_max a b) (int_max c d)) (int_max a b) ≡ int_max (cond t (int_max a c) a) (cond t (int_max b d) b)
      step true a b c d = max_swap a b c d
      step false a b c d = refl

  le_max_left : (a b : ℤ) → a ≤ℤ int_max a b
  le_max_left a b = grind (arith, ints)

  le_max_right : (a b c : ℤ) → a ≤ℤ b → a ≤ℤ int_max c b
  le_max_right a b c h = grind (arith, ints)

  max_lub : (a b c : ℤ) → a ≤ℤ c → b ≤ℤ c → int_max a b ≤ℤ c
  max_lub a b c p q = grind (arith, ints)

  trans : (a b c : ℤ) → a ≤ℤ b → b ≤ℤ c → a ≤ℤ c
  trans a b c p q = omega (arith, ints, p, q)

  pub total_some : (f : ℕ → ℤ) (n : ℕ) → least ≤ℤ total int_max least test f n
  unfolding total
  total_some f zero = omega (arith, ints)
  total_some f (suc n) = step (test n) _ (f n) (total_some f n)
    where
      step : (t : Bool) (a b : ℤ) → least ≤ℤ a → least ≤ℤ cond t (int_max a b) a
      step true a b h = trans least a (int_max a b) h (le_max_left a b)
      step false a b h = h

  pub total_above : (f : ℕ → ℤ) (n i : ℕ) → i < n → test i ≡ true → f i ≤ℤ total int_max least test f n
  unfolding total
  total_above f zero i lt e = absurd (omega (arith, lt))
  total_above f (suc n) i lt e = elim (before_or i n lt) [
    | inl less ↦ step (test n) (f i) (total int_max least test f n) (f n) (total_above f n i less e)
    | inr same ↦ subst (λ k. f k ≤ℤ cond (test n) (int_max (total int_max least test f n) (f n)) (total int_max least test f n)) (sym same)
        (here (test n) (total int_max least test f n) (f n) (ap test (sym same) ∙ e))
  ]
    where
      step : (t : Bool) (x a b : ℤ) → x ≤ℤ a → x ≤ℤ cond t (int_max a b) a
      step true x a b h = trans x a (int_max a b) h (le_max_left a b)
      step false x a b h = h

      here : (t : Bool) (a b : ℤ) → t ≡ true → b ≤ℤ cond t (int_max a b) a
      here true a b e = le_max_right b b a (omega (arith, ints))
      here false a b e = never_added (sym e)

  pub total_least : (f : ℕ → ℤ) (n : ℕ) (z : ℤ) → least ≤ℤ z → ((i : ℕ) → i < n → test i ≡ true → f i ≤ℤ z) → total int_max least test f n ≤ℤ z
  unfolding total
  total_least f zero z low h = low
  total_least f (suc n) z low h =
      step (test n) refl (total int_max least test f n) (f n) (total_least f n z low (λ i lt e. h i (omega (arith, lt)) e)) (h n (omega arith))
    where
      step : (t : Bool) → test n ≡ t → (a b : ℤ) → a ≤ℤ z → (test n ≡ true → b ≤ℤ z) → cond t (int_max a b) a ≤ℤ z
      step true e a b p q = max_lub a b z p (q e)
      step false e a b p q = p

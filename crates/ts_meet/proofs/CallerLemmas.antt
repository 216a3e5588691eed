-- For crates above: a row that has each of its places, and the spans of a value by whatever else gives the hulls there.
use Rattle.std.proofs.Common.{◌≡◌, ℕ, zero, suc, ◌+◌, ◌≤◌, ◌<◌, ℤ, List, ◌∷◌, ◌++◌, map, refl, ap, ◌∙◌, arith}
use Rattle.std.specs.Prelude.{flat_map}
use Rattle.std.specs.List.{range_with_len}
use Rattle.ts_base.specs.declared.span.Span.{Span}
use Rattle.ts_automaton.specs.declared.regs.Hull.{Hull}
use Rattle.ts_automaton.specs.AutomatonRun.{Standing}
use Rattle.ts_automaton.specs.Body.{Body}
use Rattle.ts_automaton.specs.Registers.{spans_of}
use Rattle.ts_glue.specs.Pairs.{Pair}
use Rattle.ts_row.specs.Rows.{hull_in}
use Rattle.ts_sweep.specs.declared.packed.PackedHull.{PackedHull}
use Rattle.ts_sweep.specs.Sides.{sides}
use Rattle.ts_meet.specs.Meets.{finish_seen, finishes_in, glued_seen, spans_between, spans_with, standing, standing_in}
pub use Rattle.ts_meet.proofs.Meeting.{row_place, row_places}

same_cons : {A : Type 0} (x y : A) (xs ys : List A) → x ≡ y → xs ≡ ys → (x ∷ xs) ≡ (y ∷ ys)
same_cons x y xs ys e f = ap (λ z. z ∷ xs) e ∙ ap (λ zs. y ∷ zs) f

same_append : {A : Type 0} (xs ys zs ws : List A) → xs ≡ ys → zs ≡ ws → xs ++ zs ≡ ys ++ ws
same_append xs ys zs ws e f = ap (λ l. l ++ zs) e ∙ ap (λ l. ys ++ l) f

map_same : {A : Type 0} (f g : ℕ → A) (a n : ℕ) → ((j : ℕ) → a ≤ j → j < a + n → f j ≡ g j) → map f (range_with_len a n) ≡ map g (range_with_len a n)
map_same f g a zero h = refl
map_same f g a (suc n) h =
    same_cons _ _ _ _ (h a (omega arith) (omega arith)) (map_same f g (a + 1) n (λ j le lt. h j (omega (arith, le)) (omega (arith, lt))))

flat_same : {A : Type 0} (f g : ℕ → List A) (a n : ℕ) → ((j : ℕ) → a ≤ j → j < a + n → f j ≡ g j) →
    flat_map f (range_with_len a n) ≡ flat_map g (range_with_len a n)
flat_same f g a zero h = refl
flat_same f g a (suc n) h =
    same_append _ _ _ _ (h a (omega arith) (omega arith)) (flat_same f g (a + 1) n (λ j le lt. h j (omega (arith, le)) (omega (arith, lt))))

-- a state with a hull
abbrev pub with_hull : ℕ → Hull → Standing Span
with_hull q h = standing q (spans_of h)

module _ (n : ℕ) (p : Pair) (i : ℕ) (x : ℤ) (cells : ℕ) where
  with_are : (left : Standing Span) (right : List (List (PackedHull n))) (g : ℕ → Hull) (m : ℕ) → ((r : ℕ) → r < m → hull_in n right r i ≡ g r) →
      spans_with n p left right i x cells m ≡ map (λ r. glued_seen (sides n) p left (with_hull r (g r)) x cells) (range_with_len 0 m)
  unfolding spans_with
  with_are left right g m h =
      map_same (λ r. glued_seen (sides n) p left (standing_in n right r i) x cells) (λ r. glued_seen (sides n) p left (with_hull r (g r)) x cells) 0 m
      (λ r le lt. ap (λ z. glued_seen (sides n) p left (with_hull r z) x cells) (h r (omega (arith, lt))))

  -- the glued spans, where f and g give the hulls on both sides
  pub spans_are : (left right : List (List (PackedHull n))) (f g : ℕ → Hull) (m k : ℕ) → ((q : ℕ) → q < k → hull_in n left q i ≡ f q) →
      ((r : ℕ) → r < m → hull_in n right r i ≡ g r) →
      spans_between n p left right i x cells m k
      ≡ flat_map (λ q. map (λ r. glued_seen (sides n) p (with_hull q (f q)) (with_hull r (g r)) x cells) (range_with_len 0 m)) (range_with_len 0 k)
  unfolding spans_between
  spans_are left right f g m k h j =
      flat_same (λ q. spans_with n p (standing_in n left q i) right i x cells m)
      (λ q. map (λ r. glued_seen (sides n) p (with_hull q (f q)) (with_hull r (g r)) x cells) (range_with_len 0 m)) 0 k
      (λ q le lt. ap (λ z. spans_with n p (with_hull q z) right i x cells m) (h q (omega (arith, lt))) ∙ with_are (with_hull q (f q)) right g m j)

-- the finish spans, where f gives the hulls
pub finishes_are : (n : ℕ) (b : Body) (row : List (List (PackedHull n))) (i cells k : ℕ) (f : ℕ → Hull) → ((q : ℕ) → q < k → hull_in n row q i ≡ f q) →
    finishes_in n b row i cells k ≡ map (λ q. finish_seen (sides n) b (with_hull q (f q)) cells) (range_with_len 0 k)
unfolding finishes_in
finishes_are n b row i cells k f h =
    map_same (λ q. finish_seen (sides n) b (standing_in n row q i) cells) (λ q. finish_seen (sides n) b (with_hull q (f q)) cells) 0 k
    (λ q le lt. ap (λ z. finish_seen (sides n) b (with_hull q z) cells) (h q (omega (arith, lt))))

-- A packed row that is written out hull by hull.
use Rattle.std.proofs.Common.{◌≡◌, ◌⊎◌, inl, inr, ℕ, suc, ◌+◌, ◌/◌, ◌%◌, ◌<◌, ◌≤◌, List, [], ◌∷◌, length, get_or, set, refl, sym, ap, ◌∙◌, arith}
use Rattle.std.proofs.lemmas.List.{get_or-set_other, get_or-set_same, length-set}
use Rattle.std.proofs.lemmas.Nat.{div-add-mod', div_below, mod_below}
use Rattle.ts_automaton.specs.declared.regs.Hull.{Hull}
use Rattle.ts_hull.specs.Hulls.{none}
use Rattle.ts_row.specs.Rows.{flat_row, lanes_of, nothing}
use Rattle.ts_row.proofs.Flat.{flat_at, flat_length}
use Rattle.ts_sweep.specs.declared.packed.PackedHull.{PackedHull}
use Rattle.ts_sweep.specs.Packed.{unpacked}
use Rattle.ts_sweep.specs.Sides.{lanes_by}
use Rattle.ts_sweep.specs.SidesLaws.{full}

-- the first p hulls are those of another row
pub record IsWritten (first all : List Hull) (p : ℕ) (row : List Hull) : Type 0 where
  pub long : length row ≡ length first
  pub each : (k : ℕ) → k < p → get_or row k none ≡ get_or all k none

before_or : (j i : ℕ) → j < i + 1 → (j < i) ⊎ (j ≡ i)
before_or j i h = grind arith

pub written_more : (first all : List Hull) (p : ℕ) (row new : List Hull) (h : Hull) → p < length first → h ≡ get_or all p none → new ≡ set row p h →
    IsWritten first all p row → IsWritten first all (p + 1) new
written_more first all p row new h inside is_h is so_far = record {
  long = ap length is ∙ length-set row p h ∙ so_far.long;
  each = λ k lt. ap (λ z. get_or z k none) is ∙ go k (before_or k p lt);
}
  where
    go : (k : ℕ) → (k < p) ⊎ (k ≡ p) → get_or (set row p h) k none ≡ get_or all k none
    go k (inl less) = get_or-set_other row p k h none (λ e. omega (arith, e, less)) ∙ so_far.each k less
    go k (inr e) =
        let long = so_far.long in
        ap (λ z. get_or (set row p h) z none) e ∙ get_or-set_same row p h none (omega (arith, long, inside)) ∙ is_h
        ∙ ap (λ z. get_or all z none) (sym e)

same_hulls : (xs ys : List Hull) → length xs ≡ length ys → ((k : ℕ) → k < length ys → get_or xs k none ≡ get_or ys k none) → xs ≡ ys
same_hulls [] [] l h = refl
same_hulls [] (y ∷ ys) l h = absurd (omega (arith, l))
same_hulls (x ∷ xs) [] l h = absurd (omega (arith, l))
same_hulls (x ∷ xs) (y ∷ ys) l h =
    ap (λ z. z ∷ xs) (h 0 (omega arith)) ∙ ap (λ z. y ∷ z) (same_hulls xs ys (omega (arith, l)) (λ k lt. h (suc k) (omega (arith, lt))))

pub written_all : (first all : List Hull) (p : ℕ) (row : List Hull) → length first ≡ length all → length first ≤ p → IsWritten first all p row → row ≡ all
written_all first all p row same end so_far =
    same_hulls row all (so_far.long ∙ same) (λ k lt. so_far.each k (omega (arith, lt, same, end)))

-- the hull at a place
module _ (n s c : ℕ) (row : List (List (PackedHull n))) (p : ℕ) (big : 6 ≤ n) (some : 0 < s) where
  pub place_inside : p < length (flat_row n s c row) → (p % s < s) × (p / s < c)
  place_inside lt = let l = flat_length n s c row in (mod_below p s some, div_below p s c some (omega (arith, lt, l)))

  pub hull_there : (packed : PackedHull n) (h : Hull) → p < length (flat_row n s c row) → packed ≡ get_or (get_or row (p % s) []) (p / s) (nothing n) →
      h ≡ unpacked packed.at → h ≡ get_or (flat_row n s c row) p none
  hull_there packed h lt is_packed is_h =
      let inside = place_inside lt in
      is_h ∙ ap (λ z. unpacked (lanes_by z packed.at)) (sym (full n big)) ∙ ap (λ (z : PackedHull n). unpacked (lanes_of n z)) is_packed
      ∙ sym (flat_at n s c row (p % s) (p / s) inside.0 inside.1)
      ∙ ap (λ z. get_or (flat_row n s c row) z none) (div-add-mod' p s)

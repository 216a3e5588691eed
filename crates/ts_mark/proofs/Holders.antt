-- The numbers in the word of a cell are those of the ranges that hold it.
use Rattle.std.proofs.Common.{◌≡◌, ℕ, zero, suc, ◌+◌, ◌≤◌, inl, inr, Bool, true, false, cond, Some, List, [], ◌∷◌, sym, subst, refl, arith}
use Rattle.std.specs.Prelude.{◌&&◌, nat_le, slice_get}
use Rattle.std.specs.List.{AllByRecursion}
use Rattle.std.proofs.lemmas.Bool.{and_from, and_parts, false≢true, le-leb, leb-true}
use Rattle.ts_base.specs.declared.range.Range.{Range}
use Rattle.ts_pattern.specs.EachOf.{OneOf}
use Rattle.ts_pattern.proofs.CallerLemmas.{each_map}
use Rattle.ts_mark.specs.MarkText.{holding}
use Rattle.ts_mark.specs.Holders.{AreHolders, IsHolder, RiseFrom}

abbrev holds : ℕ → Range → Bool
holds cell r = nat_le r.first cell && nat_le cell r.last

-- they rise

lower : (m n : ℕ) (numbers : List ℕ) → m ≤ n → RiseFrom n numbers → RiseFrom m numbers
lower m n [] q h = tt
lower m n (k ∷ ks) q h = (let low = h.0 in omega (arith, q, low), h.1)

one_rises : (b : Bool) (n : ℕ) (rest : List ℕ) → RiseFrom (n + 1) rest → RiseFrom n (cond b (n ∷ rest) rest)
one_rises true n rest h = (omega arith, h)
one_rises false n rest h = lower n (n + 1) rest (omega arith) h

rise : (cell n : ℕ) (ranges : List Range) → RiseFrom n (holding cell n ranges)
rise cell n [] = tt
rise cell n (r ∷ rs) = one_rises (holds cell r) n (holding cell (n + 1) rs) (rise cell (n + 1) rs)

-- each range holds the cell

module _ (cell n : ℕ) (r : Range) (rs : List Range) where
  first_holder : holds cell r ≡ true → IsHolder cell n (r ∷ rs) n
  first_holder e =
      let both = and_parts (nat_le r.first cell) (nat_le cell r.last) e in
      record {
        place = zero;
        range = r;
        number = omega arith;
        is_there = refl;
        first = leb-true r.first cell both.0;
        last = leb-true cell r.last both.1;
      }

  holder_behind : (m : ℕ) → IsHolder cell (n + 1) rs m → IsHolder cell n (r ∷ rs) m
  holder_behind m h = let is = h.number in record {
    place = suc h.place;
    range = h.range;
    number = omega (arith, is);
    is_there = h.is_there;
    first = h.first;
    last = h.last;
  }

  one_holds : (b : Bool) → holds cell r ≡ b → (rest : List ℕ) → AllByRecursion (λ m. IsHolder cell (n + 1) rs m) rest →
      AllByRecursion (λ m. IsHolder cell n (r ∷ rs) m) (cond b (n ∷ rest) rest)
  one_holds true e rest h = (first_holder e, each_map (λ m. IsHolder cell (n + 1) rs m) (λ m. IsHolder cell n (r ∷ rs) m) (λ m k. holder_behind m k) rest h)
  one_holds false e rest h = each_map (λ m. IsHolder cell (n + 1) rs m) (λ m. IsHolder cell n (r ∷ rs) m) (λ m k. holder_behind m k) rest h

each_holds : (cell n : ℕ) (ranges : List Range) → AllByRecursion (λ m. IsHolder cell n ranges m) (holding cell n ranges)
each_holds cell n [] = tt
each_holds cell n (r ∷ rs) = one_holds cell n r rs (holds cell r) refl (holding cell (n + 1) rs) (each_holds cell (n + 1) rs)

-- there are no others

found_first : (b : Bool) (n m : ℕ) (rest : List ℕ) → b ≡ true → m ≡ n → OneOf (λ i. i ≡ m) (cond b (n ∷ rest) rest)
found_first true n m rest e is = inl (sym is)
found_first false n m rest e is = absurd (false≢true e)

found_behind : (b : Bool) (n m : ℕ) (rest : List ℕ) → OneOf (λ i. i ≡ m) rest → OneOf (λ i. i ≡ m) (cond b (n ∷ rest) rest)
found_behind true n m rest h = inr h
found_behind false n m rest h = h

found : (cell n : ℕ) (ranges : List Range) (m place : ℕ) (x : Range) → m ≡ n + place → slice_get ranges place ≡ Some x → x.first ≤ cell → cell ≤ x.last →
    OneOf (λ i. i ≡ m) (holding cell n ranges)
found cell n [] m place x is there first last = cc
found cell n (r ∷ rs) m zero x is there first last =
    let same : r ≡ x = cc in
    let here : holds cell x ≡ true = and_from (nat_le x.first cell) (nat_le cell x.last) (le-leb x.first cell first) (le-leb cell x.last last) in
    found_first (holds cell r) n m (holding cell (n + 1) rs) (subst (λ (z : Range). holds cell z ≡ true) (sym same) here) (omega (arith, is))
found cell n (r ∷ rs) m (suc place) x is there first last =
    found_behind (holds cell r) n m (holding cell (n + 1) rs) (found cell (n + 1) rs m place x (omega (arith, is)) there first last)

pub holders : (cell : ℕ) (ranges : List Range) → AreHolders cell ranges (holding cell 1 ranges)
holders cell ranges = record {
  rising = rise cell 1 ranges;
  each = each_holds cell 1 ranges;
  all = λ m h. found cell 1 ranges m h.place h.range h.number h.is_there h.first h.last;
}

-- The numbers of the ranges that hold a cell stand one after the other, between two places that go on with the cells.
use Rattle.std.proofs.Common.{◌≡◌, ℕ, suc, ◌+◌, ◌-◌, Bool, true, false, cond, List, [], ◌∷◌, drop, refl, sym, ap, ◌∙◌, arith}
use Rattle.std.specs.Prelude.{◌&&◌, nat_le, nat_lt}
use Rattle.ts_base.specs.declared.range.Range.{Range}
use Rattle.ts_mark.specs.MarkText.{holding}
use Rattle.ts_mark.specs.Rising.{RiseAfter, AreRising}
use Rattle.ts_mark.specs.Walk.{leading, ended, begun, counted}

zero_plus : (n : ℕ) → 0 + n ≡ n
zero_plus n = omega arith

suc_plus : (m n : ℕ) → suc m + n ≡ suc (m + n)
suc_plus m n = omega arith

-- from where a test stopped, one that holds of more goes on
goes_on : (p q : Range → Bool) → ((r : Range) → p r ≡ true → q r ≡ true) → (ranges : List Range) →
    leading p ranges + leading q (drop (leading p ranges) ranges) ≡ leading q ranges
goes_on p q more [] = refl
goes_on p q more (r ∷ rs) = by (p r) refl (goes_on p q more rs)
  where
    by : (b : Bool) → p r ≡ b → leading p rs + leading q (drop (leading p rs) rs) ≡ leading q rs →
        cond b (suc (leading p rs)) 0 + leading q (drop (cond b (suc (leading p rs)) 0) (r ∷ rs)) ≡ leading q (r ∷ rs)
    by false e rest = zero_plus (leading q (r ∷ rs))
    by true e rest = suc_plus (leading p rs) (leading q (drop (leading p rs) rs)) ∙ ap suc rest ∙ ap (λ b. cond b (suc (leading q rs)) 0) (sym (more r e))

pub ended_goes_on : (cell : ℕ) (ranges : List Range) → ended cell ranges + ended (cell + 1) (drop (ended cell ranges) ranges) ≡ ended (cell + 1) ranges
ended_goes_on cell ranges = goes_on (λ r. nat_lt r.last cell) (λ r. nat_lt r.last (cell + 1)) (λ r e. grind arith) ranges

pub begun_goes_on : (cell : ℕ) (ranges : List Range) → begun cell ranges + begun (cell + 1) (drop (begun cell ranges) ranges) ≡ begun (cell + 1) ranges
begun_goes_on cell ranges = goes_on (λ r. nat_le r.first cell) (λ r. nat_le r.first (cell + 1)) (λ r e. grind arith) ranges

-- after a range that doesn't end before the cell, none does
none_ended : (cell : ℕ) (r : Range) (rs : List Range) → RiseAfter r rs → nat_lt r.last cell ≡ false → ended cell rs ≡ 0
none_ended cell r [] h e = refl
none_ended cell r (s ∷ ss) h e =
    let later = h.1 in
    let not_yet : nat_lt s.last cell ≡ false = grind arith in ap (λ b. cond b (suc (ended cell ss)) 0) not_yet

none_begun : (cell : ℕ) (r : Range) (rs : List Range) → RiseAfter r rs → nat_le r.first cell ≡ false → begun cell rs ≡ 0
none_begun cell r [] h e = refl
none_begun cell r (s ∷ ss) h e =
    let later = h.0 in
    let not_yet : nat_le s.first cell ≡ false = grind arith in ap (λ b. cond b (suc (begun cell ss)) 0) not_yet

rising_rest : (r : Range) (rs : List Range) → RiseAfter r rs → AreRising rs
rising_rest r [] h = tt
rising_rest r (s ∷ ss) h = h.2

same_counted : (m n i j : ℕ) → m ≡ n → i ≡ j → counted m i ≡ counted n j
same_counted m n i j e f = ap (λ (x : ℕ). counted x i) e ∙ ap (counted n) f

none_counted : (m i : ℕ) → i ≡ 0 → counted m i ≡ []
none_counted m i e = ap (counted m) e

-- the numbers of the ranges that hold the cell
pub holding_counted : (cell n : ℕ) (ranges : List Range) → AreRising ranges →
    holding cell n ranges ≡ counted (ended cell ranges + n) (begun cell ranges - ended cell ranges)
holding_counted cell n [] h = refl
holding_counted cell n (r ∷ rs) h =
    by (nat_lt r.last cell) (nat_le r.first cell) (nat_le cell r.last) refl refl refl (holding_counted cell (n + 1) rs (rising_rest r rs h))
  where
    by : (x y z : Bool) → nat_lt r.last cell ≡ x → nat_le r.first cell ≡ y → nat_le cell r.last ≡ z →
        holding cell (n + 1) rs ≡ counted (ended cell rs + (n + 1)) (begun cell rs - ended cell rs) →
        cond (y && z) (n ∷ holding cell (n + 1) rs) (holding cell (n + 1) rs)
        ≡ counted (cond x (suc (ended cell rs)) 0 + n) (cond y (suc (begun cell rs)) 0 - cond x (suc (ended cell rs)) 0)
    by true y true p q s behind = absurd (grind arith)
    by false y false p q s behind = absurd (grind arith)
    by true true false p q s behind =
        behind
        ∙ same_counted (ended cell rs + (n + 1)) (suc (ended cell rs) + n) (begun cell rs - ended cell rs) (suc (begun cell rs) - suc (ended cell rs))
        (omega arith) (omega arith)
    by true false false p q s behind =
        let none = none_begun cell r rs h q in
        behind ∙ none_counted (ended cell rs + (n + 1)) (begun cell rs - ended cell rs) (omega (arith, none))
        ∙ sym (none_counted (suc (ended cell rs) + n) (0 - suc (ended cell rs)) (omega arith))
    by false true true p q s behind =
        let none = none_ended cell r rs h p in
        ap (λ (ns : List ℕ). n ∷ ns)
        (behind ∙ same_counted (ended cell rs + (n + 1)) (n + 1) (begun cell rs - ended cell rs) (begun cell rs) (omega (arith, none)) (omega (arith, none)))
        ∙ same_counted n (0 + n) (suc (begun cell rs)) (suc (begun cell rs) - 0) (omega arith) (omega arith)
    by false false true p q s behind =
        let none = none_begun cell r rs h q in
        behind ∙ none_counted (ended cell rs + (n + 1)) (begun cell rs - ended cell rs) (omega (arith, none))
        ∙ sym (none_counted (0 + n) (0 - 0) (omega arith))

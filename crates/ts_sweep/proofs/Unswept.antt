-- A move that can't be swept: one of its expressions can't.
use Rattle.std.proofs.Common.{◌≡◌, Bool, true, false, ◌&&◌, refl, sym, ap}
use Rattle.ts_hull.specs.Cuts.{Cut, all_swept}
use Rattle.ts_hull.specs.Splits.{ByPairs, is_swept}

fourth_false : (a b c d e : Bool) → d ≡ false → (a && b && c && d && e) ≡ false
fourth_false true true true d e h = ap (λ z. z && e) h
fourth_false true true false d e h = refl
fourth_false true false c d e h = refl
fourth_false false b c d e h = refl

last_false : (a b c d e : Bool) → e ≡ false → (a && b && c && d && e) ≡ false
last_false true true true true e h = h
last_false true true true false e h = refl
last_false true true false d e h = refl
last_false true false c d e h = refl
last_false false b c d e h = refl

pub unswept_f : (k : Cut) → ByPairs ≡ k.f → all_swept k ≡ false
unswept_f k is =
    fourth_false (is_swept k.c) (is_swept k.e) (is_swept k.d) (is_swept k.f) (is_swept k.r) (ap is_swept (sym is))

pub unswept_r : (k : Cut) → ByPairs ≡ k.r → all_swept k ≡ false
unswept_r k is =
    last_false (is_swept k.c) (is_swept k.e) (is_swept k.d) (is_swept k.f) (is_swept k.r) (ap is_swept (sym is))

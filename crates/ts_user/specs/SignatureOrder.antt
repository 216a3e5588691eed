-- All signatures in one row: a shorter one stands before a longer one, and those of one length stand in the order of
-- their letters. So the empty signature has place 0, `<`, `=` and `>` have places 1 to 3, and `<<` has place 4.
use Rattle.std.specs.Prelude.{ℕ, zero, suc, ◌+◌, ◌*◌, List, [], ◌∷◌}
use Rattle.ts_base.specs.declared.letter.Letter.{Letter}
use Rattle.ts_base.specs.declared.letter.Letter.TheVariants.{Less, Equal, Greater}

abbrev pub digit : Letter → ℕ
digit Less = 1
digit Equal = 2
digit Greater = 3

abbrev pub place_after : ℕ → List Letter → ℕ
place_after n [] = n
place_after n (l ∷ w) = place_after (3 * n + digit l) w

-- the place of a signature in that row
abbrev pub place : List Letter → ℕ
place w = place_after 0 w

-- signature i of a list of them; the empty one where there is none
abbrev pub signature_at : List (List Letter) → ℕ → List Letter
signature_at [] i = []
signature_at (w ∷ ws) zero = w
signature_at (w ∷ ws) (suc i) = signature_at ws i

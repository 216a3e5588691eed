-- What a monitor keeps of the readings so far, and which readings it stands for.
use Rattle.std.specs.Prelude.{◌≡◌, ℕ, zero, suc, ℤ, List, [], ◌∷◌, length, map}
use Rattle.ts_base.specs.declared.ext.Ext.{Ext}
use Rattle.ts_automaton.specs.Body.{Body}
use Rattle.ts_automaton.specs.AutomatonRun.{Standing, Stands, after, step_of, AreCellValues}
use Rattle.ts_compile.specs.Compiled.{machine_body}
use Rattle.ts_pattern.specs.declared.term.Term.{Term}

-- what contracts see of a monitor: its terms, the number of readings, the last one, and where each automaton stands
pub record Watched : Type 0 where
  pub terms : List Term
  pub count : ℕ
  pub last : ℤ
  pub standings : List (Standing Ext)

-- the last of some readings, where there is one
abbrev pub IsLast : List ℤ → ℤ → Type 0
IsLast [] v = Unit {0}
IsLast (x ∷ []) v = x ≡ v
IsLast (x ∷ y ∷ ys) v = IsLast (y ∷ ys) v

-- where the automata stand after a series
abbrev pub standings_after : List Body → List ℤ → List (Standing Ext)
standings_after bs xs = map (λ b. after b xs) bs

-- the readings so far are these: their number, the last of them, and the run of each term's automaton over all of them
pub record StandsFor (w : Watched) (xs : List ℤ) : Type 0 where
  pub count : w.count ≡ length xs
  pub last : IsLast xs w.last
  pub standings : w.standings ≡ standings_after (map machine_body w.terms) xs
  pub readings : AreCellValues xs

-- each automaton stands in one of its states, with registers of the kinds that they have there
abbrev pub AllStand : List Body → List (Standing Ext) → Type 0
AllStand [] [] = Unit {0}
AllStand [] (s ∷ ss) = ⊥
AllStand (b ∷ bs) [] = ⊥
AllStand (b ∷ bs) (s ∷ ss) = Stands b s × AllStand bs ss

-- each automaton after the move of two neighbouring readings
abbrev pub moved : List Body → List (Standing Ext) → ℤ → ℤ → List (Standing Ext)
moved [] ss x y = []
moved (b ∷ bs) [] x y = []
moved (b ∷ bs) (s ∷ ss) x y = step_of b s x y ∷ moved bs ss x y

-- each automaton after a reading, with n readings before it: at the first one none moves
abbrev pub moved_after : ℕ → List Body → List (Standing Ext) → ℤ → ℤ → List (Standing Ext)
moved_after zero bs ss x y = ss
moved_after (suc n) bs ss x y = moved bs ss x y

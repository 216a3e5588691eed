-- The moves of a typed table, case by case; what kinds of moves there are; and the test of a forward move beside a
-- reverse one.
use Rattle.std.specs.Prelude.{ℕ, zero, suc, Bool, true, false, ◌&&◌, ◌||◌, ◌≡◌}
use Rattle.std.proofs.lemmas.Bool.{false≢true}
use Rattle.ts_base.specs.declared.range.Kind.{Kind}
use Rattle.ts_base.specs.declared.range.Kind.TheVariants.{Idle, Pending, Held}
use Rattle.ts_transducer.specs.declared.row.Phase.{Phase}
use Rattle.ts_transducer.specs.declared.row.Phase.TheVariants.{Out, OutR, OutA, MaybeB, MaybeA, Found, FoundE, Inside}
use Rattle.ts_transducer.specs.Typing.{may_move}

-- a move that the typing allows, one constructor for each of the 16
pub data Move : Kind → Phase → Kind → Type 0 where
  Out_idle : Move Idle Out Idle
  Out_pending : Move Idle Out Pending
  OutR_idle : Move Pending OutR Idle
  OutR_pending : Move Pending OutR Pending
  OutA_idle : Move Held OutA Idle
  OutA_pending : Move Held OutA Pending
  MaybeB_idle : Move Idle MaybeB Pending
  MaybeB_pending : Move Pending MaybeB Pending
  MaybeA_held : Move Held MaybeA Held
  Found_idle : Move Idle Found Held
  Found_pending : Move Pending Found Held
  FoundE_idle_idle : Move Idle FoundE Idle
  FoundE_idle_pending : Move Idle FoundE Pending
  FoundE_pending_idle : Move Pending FoundE Idle
  FoundE_pending_pending : Move Pending FoundE Pending
  Inside_held : Move Held Inside Held

pub impossible : {C : Type 0} → false ≡ true → C
impossible h = absurd (false≢true h)

pub move_of : (k : Kind) (f : Phase) (l : Kind) → may_move k f l ≡ true → Move k f l
move_of Idle Out Idle h = Out_idle
move_of Idle Out Pending h = Out_pending
move_of Pending OutR Idle h = OutR_idle
move_of Pending OutR Pending h = OutR_pending
move_of Held OutA Idle h = OutA_idle
move_of Held OutA Pending h = OutA_pending
move_of Idle MaybeB Pending h = MaybeB_idle
move_of Pending MaybeB Pending h = MaybeB_pending
move_of Held MaybeA Held h = MaybeA_held
move_of Idle Found Held h = Found_idle
move_of Pending Found Held h = Found_pending
move_of Idle FoundE Idle h = FoundE_idle_idle
move_of Idle FoundE Pending h = FoundE_idle_pending
move_of Pending FoundE Idle h = FoundE_pending_idle
move_of Pending FoundE Pending h = FoundE_pending_pending
move_of Held Inside Held h = Inside_held
move_of k f l h = impossible h

-- C and R taken together stay
abbrev pub keeps : Phase → Bool
keeps Out = true
keeps OutR = true
keeps OutA = true
keeps MaybeB = true
keeps MaybeA = true
keeps f = false

-- what is open is given up, or put to the result
abbrev pub closes : Phase → Bool
closes Out = true
closes OutR = true
closes OutA = true
closes f = false

-- what is open and the cell make a whole range
abbrev pub completes : Phase → Bool
completes Found = true
completes FoundE = true
completes Inside = true
completes f = false

-- what is open takes the cell
abbrev pub extends : Phase → Bool
extends MaybeB = true
extends MaybeA = true
extends Found = true
extends Inside = true
extends f = false

-- what is open and the cell are put to the result
abbrev pub hands_over : Phase → Bool
hands_over FoundE = true
hands_over f = false

-- what the phases do where occurrences keep their last cell

abbrev pub begins : Kind → Phase → Bool
begins Idle Found = true
begins k f = false

abbrev pub stands_alone : Kind → Phase → Bool
stands_alone Idle FoundE = true
stands_alone k f = false

abbrev pub goes_on : Phase → Bool
goes_on Inside = true
goes_on f = false

abbrev pub grows : Phase → Bool
grows MaybeA = true
grows Inside = true
grows f = false

-- how many cells an occurrence leaves out at its end, kind and letter of the forward move from cell k to cell k + 1, of
-- the reverse move from cell k + 1 to cell k, and whether one occurrence goes on over cell k, and over cell k + 1
abbrev pub fits : ℕ → Kind → Phase → Kind → Phase → Bool → Bool → Bool
fits zero k f l b false false = (keeps f && keeps b) || ((begins k f && begins l b) || (stands_alone k f && stands_alone l b))
fits zero k f l b false true = begins k f && goes_on b
fits zero k f l b true false = goes_on f && begins l b
fits zero k f l b true true = grows f && grows b
fits (suc n) k f l b false false = keeps f && keeps b
fits (suc n) k f l b false true = closes f && completes b
fits (suc n) k f l b true false = completes f && closes b
fits (suc n) k f l b true true = (extends f && extends b) || (hands_over f && hands_over b)

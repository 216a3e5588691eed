-- The first line that stops a reading, over the texts of all lines.
use Rattle.std.specs.Prelude.{◌≡◌, ℕ, ◌+◌, true, List, [], ◌∷◌, ◌++◌, length, map, Option, Some, None, Err}
use Rattle.ts_certificate.specs.declared.state.State.{State}
use Rattle.ts_certificate.specs.declared.state.State.TheVariants.{Start}
use Rattle.ts_certificate.specs.declared.stop.CertStop.{CertStop}
use Rattle.ts_certificate.specs.declared.stop.LineStop.{LineStop}
use Rattle.ts_certificate.specs.Grammar.{CertLine, line_text, next_state, state_after, may_follow, IsLine}
use Rattle.ts_certificate.specs.Reading.{Reading, stop_at}

-- each of the lines may follow those before
abbrev pub MayFollow : State → List CertLine → Type 0
MayFollow s [] = Unit {0}
MayFollow s (l ∷ ls) = (may_follow s l ≡ true) × MayFollow (next_state s l) ls

-- the lines up to one are lines of a certificate, and that one, by its number, is the first that isn't
pub record IsFirst (s : State) (number : ℕ) (texts : List (List ℕ)) (stop : CertStop) : Type 0 where
  pub before : List CertLine
  pub text : List ℕ
  pub after : List (List ℕ)
  pub why : LineStop
  pub parts : texts ≡ map line_text before ++ (text ∷ after)
  pub follow : MayFollow s before
  pub line : IsLine (state_after s before) text (Err why)
  pub is : stop ≡ stop_at (number + length before) why

-- the texts are those of lines each of which may follow those before
pub record AreLines (s : State) (number : ℕ) (texts : List (List ℕ)) (r : Reading) : Type 0 where
  pub lines : List CertLine
  pub are : texts ≡ map line_text lines
  pub follow : MayFollow s lines
  pub state : r.state ≡ state_after s lines
  pub next : r.next ≡ number + length lines

abbrev pub IsRead : State → ℕ → List (List ℕ) → Reading → Option CertStop → Type 0
IsRead s number texts r None = AreLines s number texts r
IsRead s number texts r (Some stop) = IsFirst s number texts stop

-- the reading of these texts: they are lines of a certificate so far, or the stop is that of the first that isn't one
abbrev pub IsReading : List (List ℕ) → Reading → Type 0
IsReading texts r = IsRead Start 1 texts r r.stop

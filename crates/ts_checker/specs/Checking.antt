-- What a checker knows of a certificate after some of its lines, and what one more makes of that.
use Rattle.std.specs.Prelude.{◌≡◌, ◌≢◌, ◌⊎◌, ℕ, ◌≤◌, Bool, false, List, [], ◌∷◌, ◌++◌, Option, Some, None, Result, Ok, Err}
use Rattle.ts_base.specs.Limits.{too_many}
use Rattle.ts_certificate.specs.declared.state.State.TheVariants.{Start}
use Rattle.ts_certificate.specs.declared.stop.CertStop.{CertStop}
use Rattle.ts_certificate.specs.FirstStop.{AreLines}
use Rattle.ts_certificate.specs.Grammar.{CertLine}
use Rattle.ts_certificate.specs.Reading.{Reading, fresh, reading_with, reading_after, answer_to}
use Rattle.ts_model.specs.ModelParts.{ModelParts}
use Rattle.ts_filter.specs.Lines.{Stand, first_stand, KeepsLine, stand_after, IsOutcome}
use Rattle.ts_filter.specs.RefutedWorseDrop.{Spans}
use Rattle.ts_spans.specs.Machines.{spans_in}

-- the model, where the reader stands, what the lines so far say and leave, the first of them that breaks its rule, and
-- whether memory was missing
pub record Checking : Type 0 where
  pub model : ModelParts
  pub reading : Reading
  pub stand : Stand
  pub failed : Option ℕ
  pub missing : Bool

-- a checker before the first line
abbrev pub first_checking : ModelParts → Checking
first_checking m = record { model = m; reading = fresh; stand = first_stand m; failed = None; missing = false }

-- line number n of a certificate, which is read as l, is kept or broken, where none was broken before
abbrev pub TakesFirst : ModelParts → Spans → Stand → ℕ → CertLine → Stand → Option ℕ → Type 0
TakesFirst m s old n l new failed =
    (KeepsLine m s old l × (new ≡ stand_after old l) × (failed ≡ None))
    ⊎ ((KeepsLine m s old l → ⊥) × (new.waiting ≡ []) × (failed ≡ Some n))

-- once a line has broken its rule, no more are judged
abbrev pub TakesOn : ModelParts → Spans → Stand → Option ℕ → ℕ → CertLine → Stand → Option ℕ → Type 0
TakesOn m s old None n l new failed = TakesFirst m s old n l new failed
TakesOn m s old (Some k) n l new failed = (new.waiting ≡ old.waiting) × (failed ≡ Some k)

-- what the reader answers to the line: what it says, or a stop, after which nothing waits, and no more are judged
abbrev pub TakesBy : ModelParts → Spans → Stand → Option ℕ → ℕ → Result CertLine CertStop → Stand → Option ℕ → Type 0
TakesBy m s old before n (Ok l) new failed = TakesOn m s old before n l new failed
TakesBy m s old before n (Err stop) new failed = (new.waiting ≡ []) × (failed ≡ before)

-- a checker takes one line more
pub record Takes (old : Checking) (text : List ℕ) (new : Checking) : Type 0 where
  pub model : new.model ≡ old.model
  pub reading : new.reading ≡ reading_with old.reading text
  pub taken : TakesBy old.model (spans_in old.model) old.stand old.failed old.reading.next (answer_to old.reading text)
      new.stand new.failed
  pub calm : new.missing ≡ old.missing

-- the texts are those of lines that may follow one another, and what is known of a checker is known of these
pub record IsGoing (texts : List (List ℕ)) (c : Checking) : Type 0 where
  pub are : AreLines Start 1 texts c.reading
  pub found : IsOutcome c.model (spans_in c.model) are.lines c.stand c.failed

-- a line was refused; those before it may follow one another, and the first of them that breaks its rule is still known
pub record IsStopped (texts : List (List ℕ)) (c : Checking) : Type 0 where
  pub front : List (List ℕ)
  pub line : List ℕ
  pub more : List (List ℕ)
  pub parts : texts ≡ front ++ line ∷ more
  pub before : Checking
  pub reading : before.reading ≡ reading_after fresh front
  pub unstopped : before.reading.stop ≡ None
  pub few : before.reading.next ≤ too_many
  pub going : IsGoing front before
  pub refused : (reading_with before.reading line).stop ≢ None
  pub model : c.model ≡ before.model
  pub failed : c.failed ≡ before.failed

-- a line was refused, or has broken its rule
abbrev pub IsOver : Checking → Type 0
IsOver c = (c.reading.stop ≢ None) ⊎ (c.failed ≢ None)

-- the lines so far have these texts, and nothing waits once one was refused or broken
pub record HasChecked (texts : List (List ℕ)) (c : Checking) : Type 0 where
  pub calm : c.missing ≡ false
  pub reading : c.reading ≡ reading_after fresh texts
  pub going : c.reading.stop ≡ None → IsGoing texts c
  pub stopped : c.reading.stop ≢ None → IsStopped texts c
  pub emptied : IsOver c → c.stand.waiting ≡ []

-- whatever lines came before, this line has come too
abbrev pub Checks : Checking → List ℕ → Checking → Type 0
Checks old text new = (texts : List (List ℕ)) → HasChecked texts old → HasChecked (texts ++ text ∷ []) new

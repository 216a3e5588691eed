-- A certificate read line by line.
use Rattle.std.specs.Prelude.{ℕ, ◌+◌, List, [], ◌∷◌, Option, Some, None, Result, Ok, Err}
use Rattle.ts_certificate.specs.declared.state.State.{State}
use Rattle.ts_certificate.specs.declared.state.State.TheVariants.{Start, InSeries, InTree, AfterEnd}
use Rattle.ts_certificate.specs.declared.stop.CertStop.{CertStop}
use Rattle.ts_certificate.specs.declared.stop.CertStop.TheVariants.{Text, CountDiffers, Memory as NoMemory}
use Rattle.ts_certificate.specs.declared.stop.LineStop.{LineStop}
use Rattle.ts_certificate.specs.declared.stop.LineStop.TheVariants.{Grammar, Counts, Memory}
use Rattle.ts_certificate.specs.Grammar.{CertLine, next_state}
use Rattle.ts_certificate.specs.LineOf.{line_of}

-- the tree lines so far
abbrev pub tree_lines : State → ℕ
tree_lines (InTree c u) = c + u
tree_lines s = 0

-- a series line is to come
abbrev pub WantsSeries : State → Type 0
WantsSeries (InSeries n) = Unit {0}
WantsSeries s = ⊥

-- the stop of the line with this number
abbrev pub stop_at : ℕ → LineStop → CertStop
stop_at line Grammar = Text line
stop_at line (Counts said found) = CountDiffers line said found
stop_at line Memory = NoMemory

-- where the certificate stands, the number of the next line, and the stop, once there is one
pub record Reading : Type 0 where
  pub state : State
  pub next : ℕ
  pub stop : Option CertStop

-- before the first line
abbrev pub fresh : Reading
fresh = record { state = Start; next = 1; stop = None }

abbrev pub reading_by : Reading → Result CertLine LineStop → Reading
reading_by r (Ok l) = record { state = next_state r.state l; next = r.next + 1; stop = None }
reading_by r (Err e) = record { state = r.state; next = r.next; stop = Some (stop_at r.next e) }

abbrev pub reading_unless : Reading → Option CertStop → List ℕ → Reading
reading_unless r None text = reading_by r (line_of r.state text)
reading_unless r (Some stop) text = r

-- the reading after one more line
abbrev pub reading_with : Reading → List ℕ → Reading
reading_with r text = reading_unless r r.stop text

abbrev pub answer_at : ℕ → Result CertLine LineStop → Result CertLine CertStop
answer_at line (Ok l) = Ok l
answer_at line (Err e) = Err (stop_at line e)

abbrev pub answer_unless : Reading → Option CertStop → List ℕ → Result CertLine CertStop
answer_unless r None text = answer_at r.next (line_of r.state text)
answer_unless r (Some stop) text = Err stop

-- what is answered to one more line
abbrev pub answer_to : Reading → List ℕ → Result CertLine CertStop
answer_to r text = answer_unless r r.stop text

-- the reading after these lines
abbrev pub reading_after : Reading → List (List ℕ) → Reading
reading_after r [] = r
reading_after r (text ∷ texts) = reading_after (reading_with r text) texts

-- an end line that is missing counts as the line after the last
abbrev pub end_stop_at : ℕ → State → Option CertStop
end_stop_at line AfterEnd = None
end_stop_at line s = Some (Text line)

abbrev pub end_stop_unless : Reading → Option CertStop → Option CertStop
end_stop_unless r None = end_stop_at r.next r.state
end_stop_unless r (Some stop) = Some stop

-- why the lines read so far are no certificate, if they are none
abbrev pub end_stop : Reading → Option CertStop
end_stop r = end_stop_unless r r.stop

-- what is answered to each of these lines
abbrev pub answers_to : Reading → List (List ℕ) → List (Result CertLine CertStop)
answers_to r [] = []
answers_to r (text ∷ texts) = answer_to r text ∷ answers_to (reading_with r text) texts

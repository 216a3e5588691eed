-- A line that is fed: what the reader answers, and what the checker makes of that.
use Rattle.std.proofs.Common.{◌≡◌, ℕ, Bool, List, Option, Some, None, Ok, Err, refl, sym, ◌∙◌, ap, subst}
use Rattle.std.specs.Prelude.{Result}
use Rattle.ts_certificate.specs.declared.certificate.Parsed.{Parsed}
use Rattle.ts_certificate.specs.declared.stop.CertStop.{CertStop}
use Rattle.ts_certificate.specs.declared.stop.LineStop.{LineStop}
use Rattle.ts_certificate.specs.Grammar.{CertLine}
use Rattle.ts_certificate.specs.LineOf.{line_of}
use Rattle.ts_certificate.specs.Reading.{Reading, reading_with, answer_at, answer_unless, answer_to}
use Rattle.ts_certificate.specs.Seen.{line_seen}
use Rattle.ts_certificate.proofs.CallerLemmas.{line_of_only}
use Rattle.ts_model.specs.Promise.{IsWhole}
use Rattle.ts_model.specs.ModelParts.{ModelParts}
use Rattle.ts_domain.specs.BoxSeries.{IsBox}
use Rattle.ts_filter.specs.Lines.{Stand}
use Rattle.ts_checker.specs.Checking.{Checking, TakesOn, TakesBy, Takes}
use Rattle.ts_spans.specs.Machines.{spans_in}
use Rattle.ts_checker.specs.Standings.{AreValues}
use Rattle.ts_checker.proofs.HeadLaws.{read_values}

line_said : (n : ℕ) (g : Result CertLine LineStop) (l : CertLine) → answer_at n g ≡ Ok l → g ≡ Ok l
line_said n (Ok k) l e = let same : k ≡ l = cc in ap (λ z. Ok z) same
line_said n (Err s) l e = cc

-- the numbers of a line that was read are within the limits
pub said_values : (r : Reading) (text : List ℕ) (line : Parsed) → answer_to r text ≡ Ok (line_seen line) → AreValues line
said_values r text line e = go r.stop refl
  where
    go : (o : Option CertStop) → r.stop ≡ o → AreValues line
    go None f =
        let answer : answer_at r.next (line_of r.state text) ≡ Ok (line_seen line) = sym (ap (λ o. answer_unless r o text) f) ∙ e in
        read_values r.state line (line_of_only r.state text (line_seen line) (line_said r.next (line_of r.state text) (line_seen line) answer)).1
    go (Some stop) f = let answer : Err stop ≡ Ok (line_seen line) = sym (ap (λ o. answer_unless r o text) f) ∙ e in cc

-- the checker with the reader one line further
abbrev pub read_on : Checking → List ℕ → Checking
read_on c text = record c { reading = reading_with c.reading text }

-- the line was read and judged
pub takes_said : (old mid new : Checking) (text : List ℕ) (l : CertLine) (number : ℕ) → mid ≡ read_on old text → answer_to old.reading text ≡ Ok l →
    number ≡ old.reading.next → new.model ≡ mid.model → new.reading ≡ mid.reading → new.missing ≡ mid.missing →
    TakesOn mid.model (spans_in mid.model) mid.stand mid.failed number l new.stand new.failed → Takes old text new
takes_said old mid new text l number same answer count model reading calm taken =
    let here : TakesOn old.model (spans_in old.model) old.stand old.failed number l new.stand new.failed =
    subst (λ (z : Checking). TakesOn z.model (spans_in z.model) z.stand z.failed number l new.stand new.failed) same taken in
    record {
      model = model ∙ ap (λ (z : Checking). z.model) same;
      reading = reading ∙ ap (λ (z : Checking). z.reading) same;
      taken = subst (λ a. TakesBy old.model (spans_in old.model) old.stand old.failed old.reading.next a new.stand new.failed) (sym answer)
          (subst (λ n. TakesOn old.model (spans_in old.model) old.stand old.failed n l new.stand new.failed) count here);
      calm = calm ∙ ap (λ (z : Checking). z.missing) same;
    }

-- a checker whose reader has taken the line has taken it once the line is judged
pub step_judged : (m : ModelParts) (r after : Reading) (t : Stand) (f : Option ℕ) (w : Bool) (old new : Checking) (text : List ℕ) (l : CertLine) (number : ℕ) →
    ◌≡◌ {A = Checking} (record { model = m; reading = r; stand = t; failed = f; missing = w }) old → after ≡ reading_with r text → answer_to r text ≡ Ok l →
    number ≡ r.next → new.model ≡ m → new.reading ≡ after → new.missing ≡ w → TakesOn m (spans_in m) t f number l new.stand new.failed → Takes old text new
step_judged m r after t f w old new text l number is leads answer count model reading calm taken =
    let from : Checking = record { model = m; reading = r; stand = t; failed = f; missing = w } in
    let mid : Checking = record { model = m; reading = after; stand = t; failed = f; missing = w } in
    subst (λ (z : Checking). Takes z text new) is
    (takes_said from mid new text l number (ap (λ q. record mid { reading = q }) leads) answer count model reading calm taken)

-- what the checker keeps of its model, as contracts see it
pub whole_seen : (m : ModelParts) (seen c : Checking) → seen.model ≡ m → seen ≡ c → IsWhole m → IsWhole c.model
whole_seen m seen c is same h = subst IsWhole (sym is ∙ ap (λ (z : Checking). z.model) same) h

pub box_seen : (m : ModelParts) (seen c : Checking) → seen.model ≡ m → seen ≡ c → IsBox m.cells → IsBox c.model.cells
box_seen m seen c is same h = subst (λ (z : ModelParts). IsBox z.cells) (sym is ∙ ap (λ (z : Checking). z.model) same) h

-- The reading of lines is their relation, and the texts of lines that may follow one another are read as those lines.
use Rattle.std.proofs.Common.{◌≡◌, ℕ, suc, ◌^◌, ◌<◌, ◌≤◌, ◌+◌, ◌-◌, Bool, true, false, cond, Option, Some, None, Ok, Err, List, [], ◌∷◌, length, map, refl, sym, ap, subst, ◌∙◌, arith}
use Rattle.std.specs.Prelude.{Result, ◌==◌}
use Rattle.ts_certificate.specs.declared.stop.LineStop.{LineStop}
use Rattle.ts_certificate.specs.declared.stop.CertStop.{CertStop}
use Rattle.ts_certificate.specs.declared.state.State.{State}
use Rattle.ts_certificate.specs.declared.state.State.TheVariants.{Start, InSeries, InTree}
use Rattle.ts_certificate.specs.Grammar.{CertLine, SaysAim, SaysClaim, SaysSeries, SaysTree, SaysEnd, line_text, series_left, series_count, is_open, after_series, after_tree, next_state, state_after, may_follow, IsLine}
use Rattle.ts_certificate.specs.LineOf.{line_of}
use Rattle.ts_certificate.specs.Reading.{tree_lines, stop_at, Reading, fresh, reading_by, answer_at, reading_after, answers_to}
use Rattle.ts_certificate.specs.FirstStop.{MayFollow, IsFirst, IsRead, IsReading}
use Rattle.ts_certificate.proofs.LineLaws.{line_of_only, line_of_again}
use Rattle.ts_certificate.proofs.StopLaws.{line_is}

-- a line adds at most one tree line
none_left : (n : ℕ) → tree_lines (series_left n) ≡ 0
none_left n = elim (n == 0) as (λ v. tree_lines (cond v (InTree 0 0) (InSeries n)) ≡ 0) [ true ↦ omega arith | false ↦ refl ]

tree_few : (s : State) (o : Bool) → tree_lines (after_tree s o) ≤ tree_lines s + 1
tree_few (InTree c u) true = omega arith
tree_few (InTree c u) false = omega arith
tree_few s o = omega arith

series_few : (s : State) → tree_lines (after_series s) ≤ tree_lines s + 1
series_few (InSeries n) = let e = none_left (n - 1) in omega (arith, e)
series_few s = omega arith

pub moved_few : (s : State) (l : CertLine) → tree_lines (next_state s l) ≤ tree_lines s + 1
moved_few s (SaysAim a) = omega arith
moved_few s (SaysClaim c) = let e = none_left (series_count c) in omega (arith, e)
moved_few s (SaysSeries vs) = series_few s
moved_few s (SaysTree l) = tree_few s (is_open l)
moved_few s (SaysEnd p o) = omega arith

abbrev pub at_line : State → ℕ → Reading
at_line s n = record { state = s; next = n; stop = None }

abbrev stopped : State → ℕ → CertStop → Reading
stopped s n stop = record { state = s; next = n; stop = Some stop }

stays : (s : State) (n : ℕ) (stop : CertStop) (texts : List (List ℕ)) → reading_after (stopped s n stop) texts ≡ stopped s n stop
stays s n stop [] = refl
stays s n stop (text ∷ texts) = stays s n stop texts

-- the lines after one more
onto : (s : State) (n : ℕ) (text : List ℕ) (l : CertLine) (texts : List (List ℕ)) (r : Reading) (o : Option CertStop) → text ≡ line_text l →
    may_follow s l ≡ true → IsRead (next_state s l) (n + 1) texts r o → IsRead s n (text ∷ texts) r o
onto s n text l texts r None is may h = record {
  lines = l ∷ h.lines;
  are = ap (λ (x : List ℕ). x ∷ texts) is ∙ ap (λ (x : List (List ℕ)). line_text l ∷ x) h.are;
  follow = (may, h.follow);
  state = h.state;
  next = let e = h.next in omega (arith, e);
}
onto s n text l texts r (Some stop) is may h = record {
  before = l ∷ h.before;
  text = h.text;
  after = h.after;
  why = h.why;
  parts = ap (λ (x : List ℕ). x ∷ texts) is ∙ ap (λ (x : List (List ℕ)). line_text l ∷ x) h.parts;
  follow = (may, h.follow);
  line = h.line;
  is = h.is ∙ ap (λ (k : ℕ). stop_at k h.why) (count n (length h.before));
}
  where
    count : (n k : ℕ) → n + 1 + k ≡ n + suc k
    count n k = omega arith

step : (s : State) (n : ℕ) (text : List ℕ) (texts : List (List ℕ)) (g : Result CertLine LineStop) → tree_lines s < 2 ^ 63 → line_of s text ≡ g →
    ((l : CertLine) → g ≡ Ok l → IsRead (next_state s l) (n + 1) texts (reading_after (at_line (next_state s l) (n + 1)) texts)
    (reading_after (at_line (next_state s l) (n + 1)) texts).stop) →
    IsRead s n (text ∷ texts) (reading_after (reading_by (at_line s n) g) texts) (reading_after (reading_by (at_line s n) g) texts).stop
step s n text texts (Ok l) few e later =
    let read = line_of_only s text l e in
    onto s n text l texts (reading_after (at_line (next_state s l) (n + 1)) texts) (reading_after (at_line (next_state s l) (n + 1)) texts).stop read.0 read.1
    (later l refl)
step s n text texts (Err why) few e later =
    let here : IsFirst s n (text ∷ texts) (stop_at n why) = record {
      before = [];
      text = text;
      after = texts;
      why = why;
      parts = refl;
      follow = tt;
      line = subst (IsLine s text) e (line_is s text few);
      is = ap (λ (k : ℕ). stop_at k why) (none n);
    } in
    subst (λ (r : Reading). IsRead s n (text ∷ texts) r r.stop) (sym (stays s n (stop_at n why) texts)) here
  where
    none : (n : ℕ) → n ≡ n + 0
    none n = omega arith

read_from : (s : State) (n : ℕ) (texts : List (List ℕ)) → tree_lines s + length texts < 2 ^ 63 →
    IsRead s n texts (reading_after (at_line s n) texts) (reading_after (at_line s n) texts).stop
read_from s n [] few = record { lines = []; are = refl; follow = tt; state = refl; next = omega arith }
read_from s n (text ∷ texts) few = step s n text texts (line_of s text) (omega (arith, few)) refl
    (λ l e. read_from (next_state s l) (n + 1) texts (let more = moved_few s l in omega (arith, few, more)))

-- the reading tells the first line that is none of a certificate, or that there is none
pub reading_is : (texts : List (List ℕ)) → length texts < 2 ^ 63 → IsReading texts (reading_after fresh texts)
reading_is texts few = read_from Start 1 texts (omega (arith, few))

-- the texts of lines are read as those lines
abbrev pub AreRead : State → ℕ → List CertLine → Type 0
AreRead s n ls =
    (reading_after (at_line s n) (map line_text ls) ≡ at_line (state_after s ls) (n + length ls)) × (answers_to (at_line s n) (map line_text ls) ≡ map Ok ls)

told_step : (s : State) (n : ℕ) (l : CertLine) (ls : List CertLine) (g : Result CertLine LineStop) → g ≡ Ok l → AreRead (next_state s l) (n + 1) ls →
    (reading_after (reading_by (at_line s n) g) (map line_text ls) ≡ at_line (state_after (next_state s l) ls) (n + suc (length ls))) ×
    (answer_at n g ∷ answers_to (reading_by (at_line s n) g) (map line_text ls) ≡ Ok l ∷ map Ok ls)
told_step s n l ls g e later = (
  ap (λ (x : Result CertLine LineStop). reading_after (reading_by (at_line s n) x) (map line_text ls)) e ∙ later.0
      ∙ ap (at_line (state_after (next_state s l) ls)) (count n (length ls)),
  ap (λ (x : Result CertLine LineStop). answer_at n x ∷ answers_to (reading_by (at_line s n) x) (map line_text ls)) e
      ∙ ap (λ (x : List (Result CertLine CertStop)). Ok l ∷ x) later.1,
)
  where
    count : (n k : ℕ) → n + 1 + k ≡ n + suc k
    count n k = omega arith

pub lines_again : (s : State) (n : ℕ) (ls : List CertLine) → tree_lines s + length ls < 2 ^ 63 → MayFollow s ls → AreRead s n ls
lines_again s n [] few h = (ap (at_line s) (none n), refl) where
  none : (n : ℕ) → n ≡ n + 0
  none n = omega arith
lines_again s n (l ∷ ls) few h =
    told_step s n l ls (line_of s (line_text l)) (line_of_again s l (omega (arith, few)) h.0)
    (lines_again (next_state s l) (n + 1) ls (let more = moved_few s l in omega (arith, few, more)) h.1)

-- A pattern text that is read line by line is read as its rows are.
use Rattle.std.proofs.Common.{◌≡◌, ℕ, zero, suc, Bool, true, false, cond, ◌+◌, ◌<◌, ◌==◌, ◌&&◌, Some, Ok}
use Rattle.std.proofs.Common.{Err, List, [], ◌∷◌, ◌++◌, length, refl, sym, ap, subst, ◌∙◌, arith, append-nil, ne_eqb}
use Rattle.std.specs.Prelude.{Option, Result, is_none, if◌then◌else◌}
use Rattle.ts_base.specs.Words.{strict_lines}
use Rattle.ts_token.specs.Gist.{without_end}
use Rattle.ts_token.specs.Text.{Cut, Row, is_text, is_skipped, words_of, lines_of, rows_from, not_text_from, cut_of}
use Rattle.ts_token.proofs.EndLaws.{ended_before, one_line}
use Rattle.ts_user.specs.declared.user_pattern.UserPattern.{UserPattern}
use Rattle.ts_user.specs.declared.user_stop.UserKind.{UserKind}
use Rattle.ts_user.specs.declared.user_stop.UserKind.TheVariants.{NotText}
use Rattle.ts_user.specs.declared.user_stop.LineStop.{LineStop}
use Rattle.ts_user.specs.declared.user_stop.LineStop.TheVariants.{Bad, NoMemory}
use Rattle.ts_user.specs.declared.user_stop.UserStop.{UserStop}
use Rattle.ts_user.specs.LineByLine.{line_after, lines_reading}
use Rattle.ts_user.specs.PatternReading.{is_alone, texts_of, line_gives, onward, read_rows, numbered, end_reading, pattern_reading}
use Rattle.ts_user.specs.Stated.{Stated, Described, nothing, ended_stated}
use Rattle.ts_user.specs.Views.{at_line, described_of, Gives, Reads}

-- the first line of what is left
pub first_cut : (rest line left : List ℕ) → strict_lines rest ≡ line ∷ strict_lines left → rest ≡ line ++ left → 0 < length line →
    lines_of rest ≡ without_end line ∷ lines_of left
first_cut rest line [] cut parts some = ap lines_of (parts ∙ append-nil line) ∙ one_line rest line [] some cut
first_cut rest line (b ∷ left) cut parts some =
    ap lines_of parts ∙ ended_before rest line (b ∷ left) cut (omega arith) (b ∷ left)
    ∙ ap (λ (x : List (List ℕ)). x ++ lines_of (b ∷ left)) (one_line rest line (b ∷ left) some cut)

abbrev cut : List Row → ℕ → Option ℕ → Cut
cut rows count not_text = record { rows = rows; count = count; not_text = not_text }

abbrev row_at : ℕ → List ℕ → Row
row_at number line = record { number = number; words = words_of line }

-- the reading of lines after `count` others, by their rows
abbrev by_rows : Bool → ℕ → ℕ → Stated → List (List ℕ) → Result Described (ℕ × UserKind)
by_rows alone number count m lines =
    end_reading (cut (rows_from number lines) count (not_text_from number lines))
    (read_rows alone m (rows_from number lines))

-- the row and the number of a line, and those after it
abbrev row_cut : Bool → Bool → ℕ → Row → List (List ℕ) → List Row
row_cut t s number row lines = cond t (cond s (rows_from (number + 1) lines) (row ∷ rows_from (number + 1) lines)) []

lines_are : (alone : Bool) (count : ℕ) (m : Stated) (lines : List (List ℕ)) →
    by_rows alone (count + 1) (count + length lines) m lines ≡ lines_reading alone count m lines
lines_are alone count m [] = ap (λ (n : ℕ). numbered (n + 1) (ended_stated m)) (omega arith)
lines_are alone count m (line ∷ lines) =
    go (λ after.
    ap (λ (n : ℕ). by_rows alone (count + 1 + 1) n after lines) (omega arith) ∙ lines_are alone (count + 1) after lines)
    (is_text line) (is_skipped (words_of line))
  where
    given : ((after : Stated) → by_rows alone (count + 1 + 1) (count + suc (length lines)) after lines ≡ lines_reading alone (count + 1) after lines) →
        (g : Result Stated UserKind) →
        end_reading (cut (row_at (count + 1) line ∷ rows_from (count + 1 + 1) lines) (count + suc (length lines)) (not_text_from (count + 1 + 1) lines))
        (onward (count + 1) g (λ after. read_rows alone after (rows_from (count + 1 + 1) lines)))
        ≡ onward (count + 1) g (λ after. lines_reading alone (count + 1) after lines)
    given on (Err kind) = refl
    given on (Ok after) = on after

    go : ((after : Stated) → by_rows alone (count + 1 + 1) (count + suc (length lines)) after lines ≡ lines_reading alone (count + 1) after lines) →
        (t s : Bool) →
        end_reading (cut (row_cut t s (count + 1) (row_at (count + 1) line) lines) (count + suc (length lines))
        (cond t (not_text_from (count + 1 + 1) lines) (Some (count + 1))))
        (read_rows alone m (row_cut t s (count + 1) (row_at (count + 1) line) lines))
        ≡ onward (count + 1) (cond t (cond s (Ok m) (line_gives alone m (texts_of (words_of line)))) (Err NotText))
        (λ after. lines_reading alone (count + 1) after lines)
    go on true true = on m
    go on true false = given on (line_gives alone m (texts_of (words_of line)))
    go on false s = refl

lines_at : (alone : Bool) (number all : ℕ) (m : Stated) (lines : List (List ℕ)) → number ≡ 1 → all ≡ length lines →
    by_rows alone number all m lines ≡ lines_reading alone 0 m lines
lines_at alone number all m lines first is =
    ap (λ (n : ℕ). by_rows alone n all m lines) (first ∙ omega arith)
    ∙ ap (λ (n : ℕ). by_rows alone (0 + 1) n m lines) (is ∙ omega arith) ∙ lines_are alone 0 m lines

pub text_is : (text : List ℕ) → lines_reading (is_alone (cut_of text)) 0 nothing (lines_of text) ≡ pattern_reading text
text_is text = sym (lines_at (is_alone (cut_of text)) 1 (length (lines_of text)) nothing (lines_of text) refl refl)

-- no kind holds of the line
pub line_on : (alone : Bool) (count : ℕ) (m after : Stated) (rest line left : List ℕ) (all : Result Described (ℕ × UserKind)) →
    lines_of rest ≡ without_end line ∷ lines_of left → line_after alone m (without_end line) ≡ Ok after →
    lines_reading alone count m (lines_of rest) ≡ all → lines_reading alone (count + 1) after (lines_of left) ≡ all
line_on alone count m after rest line left all cut gives kept =
    let next : Result Stated UserKind → Result Described (ℕ × UserKind) =
    λ r. onward (count + 1) r (λ a. lines_reading alone (count + 1) a (lines_of left)) in
    sym (ap (lines_reading alone count m) cut ∙ ap next gives) ∙ kept

-- a kind holds of the line, or memory ran out
pub line_stops : (alone : Bool) (count : ℕ) (m after : Stated) (rest line left : List ℕ) (stop : LineStop) (told : UserStop)
    (all : Result Described (ℕ × UserKind)) → told ≡ at_line (count + 1) stop → lines_of rest ≡ without_end line ∷ lines_of left →
    Gives {X = Unit {0}} (λ _. after) (Err stop) (line_after alone m (without_end line)) → lines_reading alone count m (lines_of rest) ≡ all →
    Reads (Err told) all
line_stops alone count m after rest line left stop told all told_is cut gives kept =
    subst (λ (t : UserStop). Reads (Err t) all) (sym told_is) (by stop gives)
  where
    by : (stop : LineStop) → Gives {X = Unit {0}} (λ _. after) (Err stop) (line_after alone m (without_end line)) →
        Reads (Err (at_line (count + 1) stop)) all
    by (Bad kind) gives =
        let next : Result Stated UserKind → Result Described (ℕ × UserKind) =
        λ r. onward (count + 1) r (λ a. lines_reading alone (count + 1) a (lines_of left)) in
        sym kept ∙ ap (lines_reading alone count m) cut ∙ ap next gives
    by NoMemory gives = tt

-- at the end of the text
pub all_said : (alone : Bool) (count : ℕ) (m : Stated) (rest : List ℕ) (u : UserPattern) (all : Result Described (ℕ × UserKind)) → rest ≡ [] →
    ended_stated m ≡ Ok (described_of u) → lines_reading alone count m (lines_of rest) ≡ all → Reads (Ok u) all
all_said alone count m rest u all none ended kept =
    sym kept ∙ ap (λ (x : List ℕ). lines_reading alone count m (lines_of x)) none ∙ ap (numbered (count + 1)) ended

pub end_stops : (alone : Bool) (count : ℕ) (m : Stated) (rest : List ℕ) (stop : LineStop) (told : UserStop) (all : Result Described (ℕ × UserKind)) →
    told ≡ at_line (count + 1) stop → rest ≡ [] → Gives described_of (Err stop) (ended_stated m) →
    lines_reading alone count m (lines_of rest) ≡ all → Reads (Err told) all
end_stops alone count m rest stop told all told_is none ended kept =
    subst (λ (t : UserStop). Reads (Err t) all) (sym told_is) (by stop ended)
  where
    by : (stop : LineStop) → Gives described_of (Err stop) (ended_stated m) → Reads (Err (at_line (count + 1) stop)) all
    by (Bad kind) ended =
        sym kept ∙ ap (λ (x : List ℕ). lines_reading alone count m (lines_of x)) none ∙ ap (numbered (count + 1)) ended
    by NoMemory ended = tt

-- The one line that isn't skipped.

-- one line of these lines has words, or none where one was found; each is text
abbrev pub has_one : Bool → List (List ℕ) → Bool
has_one found [] = found
has_one found (line ∷ lines) =
    if is_text line then (if is_skipped (words_of line) then has_one found lines else (if found then false else has_one true lines))
    else false

abbrev counted : ℕ → ℕ → List (List ℕ) → Bool
counted n number lines = (length (rows_from number lines) == n) && is_none (not_text_from number lines)

none_more : (number : ℕ) (lines : List (List ℕ)) → has_one true lines ≡ counted 0 number lines
none_more number [] = refl
none_more number (line ∷ lines) = go (none_more (number + 1) lines) (is_text line) (is_skipped (words_of line))
  where
    go : has_one true lines ≡ counted 0 (number + 1) lines → (t s : Bool) → cond t (cond s (has_one true lines) false) false
        ≡ ((length (row_cut t s number (row_at number line) lines) == 0)
        && is_none (cond t (not_text_from (number + 1) lines) (Some number)))
    go later true true = later
    go later true false =
        ap (λ v. v && is_none (not_text_from (number + 1) lines)) (sym (ne_eqb (suc (length (rows_from (number + 1) lines))) 0 (λ e. omega (arith, e))))
    go later false s = refl

one_less : (n : ℕ) → (n == 0) ≡ (suc n == 1)
one_less zero = refl
one_less (suc n) = ne_eqb (suc n) 0 (λ e. omega (arith, e)) ∙ sym (ne_eqb (suc (suc n)) 1 (λ e. omega (arith, e)))

one_more : (number : ℕ) (lines : List (List ℕ)) → has_one false lines ≡ counted 1 number lines
one_more number [] = refl
one_more number (line ∷ lines) =
    go (one_more (number + 1) lines) (none_more (number + 1) lines) (is_text line) (is_skipped (words_of line))
  where
    go : has_one false lines ≡ counted 1 (number + 1) lines → has_one true lines ≡ counted 0 (number + 1) lines → (t s : Bool) →
        cond t (cond s (has_one false lines) (has_one true lines)) false
        ≡ ((length (row_cut t s number (row_at number line) lines) == 1)
        && is_none (cond t (not_text_from (number + 1) lines) (Some number)))
    go one none true true = one
    go one none true false = none ∙ ap (λ v. v && is_none (not_text_from (number + 1) lines)) (one_less (length (rows_from (number + 1) lines)))
    go one none false s = refl

pub alone_is : (text : List ℕ) → has_one false (lines_of text) ≡ is_alone (cut_of text)
alone_is text = one_more 1 (lines_of text)

abbrev one_by : Bool → List (List ℕ) → Bool → Bool → Bool
one_by found lines t s = cond t (cond s (has_one found lines) (cond found false (has_one true lines))) false

-- what one line more says of whether there is one line
pub skipped_on : (found : Bool) (rest line left : List ℕ) (all : Bool) → lines_of rest ≡ line ∷ lines_of left → is_text line ≡ true →
    is_skipped (words_of line) ≡ true → has_one found (lines_of rest) ≡ all → has_one found (lines_of left) ≡ all
skipped_on found rest line left all cut text skipped kept =
    sym (ap (has_one found) cut ∙ ap (λ t. one_by found (lines_of left) t (is_skipped (words_of line))) text
    ∙ ap (one_by found (lines_of left) true) skipped) ∙ kept

pub words_on : (found : Bool) (rest line left : List ℕ) (all : Bool) → lines_of rest ≡ line ∷ lines_of left → is_text line ≡ true →
    is_skipped (words_of line) ≡ false → has_one found (lines_of rest) ≡ all → cond found false (has_one true (lines_of left)) ≡ all
words_on found rest line left all cut text words kept =
    sym (ap (has_one found) cut ∙ ap (λ t. one_by found (lines_of left) t (is_skipped (words_of line))) text
    ∙ ap (one_by found (lines_of left) true) words) ∙ kept

pub no_text : (found : Bool) (rest line left : List ℕ) (all : Bool) → lines_of rest ≡ line ∷ lines_of left → is_text line ≡ false →
    has_one found (lines_of rest) ≡ all → false ≡ all
no_text found rest line left all cut text kept =
    sym (ap (has_one found) cut ∙ ap (λ t. one_by found (lines_of left) t (is_skipped (words_of line))) text) ∙ kept

-- The text of a model that is fed: what is known of it after each part of a line, and at its end.
use Rattle.std.proofs.Common.{◌≡◌, ℕ, ◌<◌, Bool, true, false, cond, Some, None, Ok, Err, ◌+◌, ◌≤◌, List, [], ◌∷◌, ◌++◌, length, refl, sym, ap, ◌∙◌, subst, arith, append_assoc, append-nil, length-append}
use Rattle.std.specs.Prelude.{Result, unwrap_or}
use Rattle.ts_base.specs.Words.{without_lf}
use Rattle.ts_base.proofs.WordLaws.{lf_is}
use Rattle.ts_token.specs.declared.short.ShortLine.{ShortLine}
use Rattle.ts_token.specs.Gist.{AreEnded, IsLine, StandsFor}
use Rattle.ts_token.specs.Halves.{Halves, after_front, halves_of, is_separator}
use Rattle.ts_token.specs.Short.{IsShort, TakesIn}
use Rattle.ts_token.proofs.LineLaws.{text_lines_few}
use Rattle.ts_token.proofs.GistLaws.{ended_append, ended_lf, ended_none, finished_line, unfinished_line}
use Rattle.ts_model.specs.declared.error.ModelStop.{ModelStop}
use Rattle.ts_model.specs.declared.model.Model.{Model}
use Rattle.ts_model.specs.declared.model.Need.{Need}
use Rattle.ts_model.specs.ModelReading.{model_reading}
use Rattle.ts_model.specs.Views.{Reads}
use Rattle.ts_model.specs.LineByLine.{HasRead, HasRoom, ReadsLine, SoFar}
use Rattle.ts_model.specs.declared.model_text.ModelText.{ModelText}
use Rattle.ts_model.specs.ModelTexts.{AreOfModel, AreWhole, AtLine, EndsModel, EndsSo, HasLines, IsFinished, IsInModel, IsMark, IsPart, IsUnfinished, MayRead, ReadsLast, ReadsOn, whole_lines}
use Rattle.ts_model.proofs.LinePieces.{finished_halves, halves_by, joins, part_ends, part_open, unfinished_halves, whole_append, whole_finished, whole_none, whole_unfinished}

-- before the first byte
pub none_taken : (t : ModelText) → t.reader ≡ None → IsShort [] t.line → IsInModel [] t
none_taken t none short = record {
  text = [];
  line = [];
  parts = refl;
  lines = λ more. refl;
  ended = ended_none;
  whole = whole_none;
  read = subst (HasLines t.need []) (sym none) refl;
  is = refl;
  short = short;
}

-- more bytes of a line

module _ (bytes part : List ℕ) (old new : ModelText) (need : new.need ≡ old.need) (same : new.reader ≡ old.reader) (more : TakesIn old.line part new.line)
    (h : IsInModel bytes old) where
  longer : (P : List ℕ → Type 0) → P (h.line ++ part) → AtLine P (bytes ++ part) new
  longer P is = record {
    text = h.text;
    line = h.line ++ part;
    parts = ap (λ (x : List ℕ). x ++ part) h.parts ∙ append_assoc h.text h.line part;
    lines = h.lines;
    ended = h.ended;
    whole = h.whole;
    read = subst (λ n. HasLines n h.text new.reader) (sym need) (subst (HasLines old.need h.text) (sym same) h.read);
    is = is;
    short = more h.line h.short;
  }

  pub goes_on : without_lf part ≡ None → IsPart part → IsInModel (bytes ++ part) new
  goes_on none whole = longer IsUnfinished (joins h.line part h.is (part_open part none whole))

  pub has_ended : (bare : List ℕ) → without_lf part ≡ Some bare → IsPart part → AtLine IsFinished (bytes ++ part) new
  has_ended bare some whole = longer IsFinished (part_ends h.line part bare h.is some whole)

-- so many bytes are left for a line

pub line_few : {P : List ℕ → Type 0} (bytes : List ℕ) (t : ModelText) (h : AtLine P bytes t) → length bytes < 4000000000 → length h.line < 4000000000
line_few bytes t h few =
    let size = ap length h.parts ∙ length-append h.text h.line in omega (arith, size, few)

pub may_read : {P : List ℕ → Type 0} (bytes : List ℕ) (t : ModelText) (h : AtLine P bytes t) → 0 < length h.line → length bytes < 4000000000 → MayRead t
may_read bytes t h some few =
    let size = ap length h.parts ∙ length-append h.text h.line in record {
      text = h.text;
      line = h.line;
      read = h.read;
      short = h.short;
      some = some;
      few = omega (arith, size, few);
    }

pub finished_some : (line : List ℕ) → IsFinished line → 0 < length line
finished_some line f =
    let size = ap length (lf_is line f.0 f.1) ∙ length-append f.0 (10 ∷ []) in omega (arith, size)

pub short_line : (t : ModelText) (given : List ℕ) → ((l : List ℕ) → IsShort l t.line → length given ≤ length l) → MayRead t → length given < 4000000000
short_line t given kept may = let less = kept may.line may.short in omega (arith, less, may.few)

pub room_left : (need : Need) (r : Result SoFar ModelStop) (text line : List ℕ) → HasRead need text r → 0 < length line →
    length text + length line < 4000000000 → HasRoom r
room_left need (Ok s) text line has some few = let lines = text_lines_few text in omega (arith, has.1, lines, some, few)
room_left need (Err stop) text line has some few = omega arith

-- one line more is counted
pub has_room : (t : ModelText) (r : Result SoFar ModelStop) → t.reader ≡ Some r → MayRead t → HasRoom r
has_room t r is may = room_left t.need r may.text may.line (subst (HasLines t.need may.text) is may.read) may.some may.few

pub fresh_room : (need : Need) (r : Result SoFar ModelStop) → HasRead need [] r → HasRoom r
fresh_room need r has = room_left need r [] (10 ∷ []) has (omega arith) (omega arith)

-- the line is read

short_read : (need : Need) (line given : List ℕ) (s : ShortLine) (old new : Result SoFar ModelStop) (text : List ℕ) →
    ((l : List ℕ) → IsShort l s → StandsFor given l) →
    ReadsLine old given new → AreEnded text → IsLine line → IsShort line s → HasRead need text old → HasRead need (text ++ line) new
short_read need line given s old new text stands reads ended is short h = reads need text line ended is (stands line short) h

pub next_read : (old new : ModelText) (r q : Result SoFar ModelStop) (given : List ℕ) → old.reader ≡ Some r → new.reader ≡ Some q →
    ((l : List ℕ) → IsShort l old.line → StandsFor given l) → ReadsLine r given q → ReadsOn old new
next_read old new r q given before after stands reads text line ended is short h =
    subst (HasLines old.need (text ++ line)) (sym after)
    (short_read old.need line given old.line r q text stands reads ended is short (subst (HasLines old.need text) before h))

pub first_read : (old new : ModelText) (r q : Result SoFar ModelStop) (given : List ℕ) → old.reader ≡ None → new.reader ≡ Some q → HasRead old.need [] r →
    ((l : List ℕ) → IsShort l old.line → StandsFor given l) → ReadsLine r given q → ReadsOn old new
first_read old new r q given before after fresh stands reads text line ended is short h =
    let none : text ≡ [] = subst (HasLines old.need text) before h in
    subst (HasLines old.need (text ++ line)) (sym after)
    (short_read old.need line given old.line r q text stands reads ended is short (subst (λ (x : List ℕ). HasRead old.need x r) (sym none) fresh))

-- a line that has its LF

pub one_line : (line : List ℕ) → IsFinished line → IsLine line
one_line line f = subst IsLine (sym (lf_is line f.0 f.1)) (finished_line f.0 f.2)

pub ended_line : (line : List ℕ) → IsFinished line → AreEnded line
ended_line line f = subst AreEnded (sym (lf_is line f.0 f.1)) (ended_lf f.0)

cut : (text line more : List ℕ) (t : Bool) → AreOfModel text → IsFinished line → is_separator line ≡ t →
    halves_of ((text ++ line) ++ more) ≡ after_front text (halves_by t line more)
cut text line more t lines is mark =
    ap halves_of (append_assoc text line more) ∙ lines (line ++ more)
    ∙ ap (after_front text) (finished_halves line more is ∙ ap (λ v. halves_by v line more) mark)

module _ (bytes : List ℕ) (old : ModelText) (h : AtLine IsFinished bytes old) where
  pub mark_comes : is_separator h.line ≡ true → AtLine IsMark bytes old
  mark_comes mark = record {
    text = h.text;
    line = h.line;
    parts = h.parts;
    lines = h.lines;
    ended = h.ended;
    whole = h.whole;
    read = h.read;
    is = (h.is, mark);
    short = h.short;
  }

  pub one_more : (mid new : ModelText) (t : Bool) → ((l : List ℕ) → IsShort l old.line → t ≡ is_separator l) → t ≡ false → ReadsOn old mid →
      new.need ≡ old.need → new.reader ≡ mid.reader → IsShort [] new.line → IsInModel bytes new
  one_more mid new t mark other reads need same short = record {
    text = h.text ++ h.line;
    line = [];
    parts = h.parts ∙ sym (append-nil (h.text ++ h.line));
    lines = λ more.
        cut h.text h.line more false h.lines h.is (sym (mark h.line h.short) ∙ other)
        ∙ ap (λ (x : List ℕ). record { model = x; rest = (halves_of more).rest }) (sym (append_assoc h.text h.line (halves_of more).model));
    ended = ended_append h.text h.line h.ended (ended_line h.line h.is);
    whole = whole_append h.text h.line h.whole (whole_finished h.line h.is);
    read = subst (λ n. HasLines n (h.text ++ h.line) new.reader) (sym need)
        (subst (HasLines old.need (h.text ++ h.line)) (sym same) (reads h.text h.line h.ended (one_line h.line h.is) h.short h.read));
    is = refl;
    short = short;
  }

-- the line '%%'
module _ (bytes : List ℕ) (old : ModelText) (h : AtLine IsMark bytes old) where
  pub mark_ends : EndsModel h.text (h.text ++ h.line)
  mark_ends more =
      cut h.text h.line more true h.lines h.is.0 h.is.1
      ∙ ap (λ (x : List ℕ). record { model = x; rest = Some more }) (append-nil h.text)

  pub mark_ends_so : (result : Result Model ModelStop) → ((text : List ℕ) → HasLines old.need text old.reader → Reads result (model_reading old.need text)) →
      EndsSo old.need bytes result
  mark_ends_so result reads = record {
    text = h.text;
    ends = λ more. ap (λ (x : List ℕ). halves_of (x ++ more)) h.parts ∙ mark_ends more;
    whole = subst AreWhole (sym h.parts) (whole_append h.text h.line h.whole (whole_finished h.line h.is.0));
    reads = reads h.text h.read;
  }

-- the last line, without an LF

module _ (bytes : List ℕ) (t : ModelText) (h : IsInModel bytes t) where
  all : halves_of bytes ≡ after_front h.text (halves_of h.line)
  all = ap halves_of h.parts ∙ h.lines h.line

  pub whole_is : whole_lines bytes ≡ h.text
  whole_is =
      ap whole_lines h.parts ∙ h.whole h.line ∙ ap (λ (x : List ℕ). h.text ++ x) (whole_unfinished h.line h.is) ∙ append-nil h.text

  -- no line before the last is the line '%%'
  pub none_marked : (halves_of (whole_lines bytes)).rest ≡ None
  none_marked =
      ap (λ (x : List ℕ). (halves_of x).rest) (whole_is ∙ sym (append-nil h.text)) ∙ ap (λ (x : Halves). x.rest) (h.lines [])

  none_behind : (line : List ℕ) → IsUnfinished line → unwrap_or (halves_of line).rest [] ≡ []
  none_behind [] free = refl
  none_behind (b ∷ bs) free = ap (λ (x : Halves). unwrap_or x.rest []) (unfinished_halves (b ∷ bs) free (omega arith)) ∙ go (is_separator (b ∷ bs))
    where
      go : (v : Bool) → unwrap_or (cond {A = Halves} v (record { model = []; rest = Some [] }) (record { model = b ∷ bs; rest = None })).rest [] ≡ []
      go true = refl
      go false = refl

  pub nothing_behind : unwrap_or (halves_of bytes).rest [] ≡ []
  nothing_behind = ap (λ (x : Halves). unwrap_or x.rest []) all ∙ none_behind h.line h.is

  model_is : (halves_of bytes).model ≡ h.text ++ (halves_of h.line).model
  model_is = ap (λ (x : Halves). x.model) all

  last_none : h.line ≡ [] → HasLines t.need (halves_of bytes).model t.reader
  last_none none =
      subst (λ (x : List ℕ). HasLines t.need x t.reader)
      (sym (model_is ∙ ap (λ (x : List ℕ). h.text ++ (halves_of x).model) none ∙ append-nil h.text)) h.read

  by_mark : (v : Bool) → is_separator h.line ≡ v → 0 < length h.line →
      (halves_of bytes).model ≡ h.text ++ (cond {A = Halves} v (record { model = []; rest = Some [] }) (record { model = h.line; rest = None })).model
  by_mark v mark some =
      model_is ∙ ap (λ (x : Halves). h.text ++ x.model) (unfinished_halves h.line h.is some)
      ∙ ap (λ t. h.text ++ (cond {A = Halves} t (record { model = []; rest = Some [] }) (record { model = h.line; rest = None })).model) mark

  last_mark : 0 < length h.line → is_separator h.line ≡ true → HasLines t.need (halves_of bytes).model t.reader
  last_mark some mark = subst (λ (x : List ℕ). HasLines t.need x t.reader) (sym (by_mark true mark some ∙ append-nil h.text)) h.read

  last_line : (new : ModelText) → 0 < length h.line → is_separator h.line ≡ false → ReadsOn t new → HasLines t.need (halves_of bytes).model new.reader
  last_line new some other reads =
      subst (λ (x : List ℕ). HasLines t.need x new.reader) (sym (by_mark false other some))
      (reads h.text h.line h.ended (unfinished_line h.line h.is some) h.short h.read)

-- the last line, by the tests of the code

pub no_last : (t : ModelText) → ((line : List ℕ) → IsShort line t.line → line ≡ []) → ReadsLast t t
no_last t none bytes h = last_none bytes t h (none h.line h.short)

pub mark_last : (t : ModelText) → ((line : List ℕ) → IsShort line t.line → 0 < length line) →
    ((line : List ℕ) → IsShort line t.line → true ≡ is_separator line) → ReadsLast t t
mark_last t some mark bytes h = last_mark bytes t h (some h.line h.short) (sym (mark h.line h.short))

pub read_last : (old new : ModelText) → ((line : List ℕ) → IsShort line old.line → 0 < length line) →
    ((line : List ℕ) → IsShort line old.line → false ≡ is_separator line) → ReadsOn old new → ReadsLast old new
read_last old new some other reads bytes h = last_line bytes old h new (some h.line h.short) (sym (other h.line h.short)) reads

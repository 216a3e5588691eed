-- A reader of a model takes a line, and comes to the end.
use Rattle.std.proofs.Common.{◌≡◌, ◌≢◌, ℕ, ◌+◌, ◌<◌, ◌≤◌, Bool, true, false, cond, Some, None, Ok, Err, List, [], ◌∷◌, length, refl, sym, ap, subst, ◌∙◌, arith, ◌⊎◌, inl, inr}
use Rattle.std.specs.Prelude.{Result, IfOk, OnOk}
use Rattle.ts_token.specs.Gist.{without_end}
use Rattle.ts_token.specs.Text.{is_text, is_skipped, lines_of, row_onto, words_of, cut_of}
use Rattle.ts_model.specs.declared.error.ModelKind.{ModelKind}
use Rattle.ts_model.specs.declared.error.ModelKind.TheVariants.{NotText}
use Rattle.ts_model.specs.declared.error.ModelStop.{ModelStop}
use Rattle.ts_model.specs.declared.error.ModelStop.TheVariants.{Refused, Memory}
use Rattle.ts_model.specs.declared.draft.Draft.{Draft}
use Rattle.ts_model.specs.declared.model.Model.{Model}
use Rattle.ts_model.specs.declared.model.Need.{Need}
use Rattle.ts_model.specs.declared.reader.Progress.{Progress}
use Rattle.ts_model.specs.declared.reader.State.{State}
use Rattle.ts_model.specs.declared.reader.State.TheVariants.{Open, Stopped}
use Rattle.ts_model.specs.LineByLine.{line_step, SoFar, HasRead, ReadsLine, lines_read}
use Rattle.ts_model.specs.ModelReading.{needs_lists, texts_of, line_gives, onward, read_rows, then_on, unless_bad, lines_reading, ended_model, model_reading}
use Rattle.ts_model.specs.Progress.{IsFit, HasTaken, TakesLine, state_view, StateTakes, IsCalm, StateEnds}
use Rattle.ts_model.specs.ModelParts.{ModelParts, nothing}
use Rattle.ts_model.specs.Views.{draft_parts, Adds, Follows, Reads}
use Rattle.ts_model.proofs.LineByLaws.{one_row, read_on, read_bad, still_bad, none_read}

-- a line that isn't text
pub step_bad : (need : Need) (n : ℕ) (m : ModelParts) (line : List ℕ) → is_text line ≡ false → line_step need n m line ≡ Err (n, NotText)
step_bad need n m line bad =
    ap (λ v. then_on (read_rows (needs_lists need) m (cond v (row_onto n (words_of line) []) [])) (unless_bad (cond v None (Some n)))) bad

step_text : (need : Need) (n : ℕ) (m : ModelParts) (line : List ℕ) → is_text line ≡ true →
    line_step need n m line ≡ then_on (read_rows (needs_lists need) m (row_onto n (words_of line) [])) (unless_bad None)
step_text need n m line text =
    ap (λ v. then_on (read_rows (needs_lists need) m (cond v (row_onto n (words_of line) []) [])) (unless_bad (cond v None (Some n)))) text

step_row : (need : Need) (n : ℕ) (m : ModelParts) (line : List ℕ) (skipped : Bool) → is_text line ≡ true → is_skipped (words_of line) ≡ skipped →
    line_step need n m line
    ≡ then_on (read_rows (needs_lists need) m (cond skipped [] (record { number = n; words = words_of line } ∷ []))) (unless_bad None)
step_row need n m line skipped text is =
    step_text need n m line text
    ∙ ap (λ v. then_on (read_rows (needs_lists need) m (cond v [] (record { number = n; words = words_of line } ∷ []))) (unless_bad None)) is

-- a skipped one
pub step_skipped : (need : Need) (n : ℕ) (m : ModelParts) (line : List ℕ) → is_text line ≡ true → is_skipped (words_of line) ≡ true →
    line_step need n m line ≡ Ok m
step_skipped need n m line text skipped = step_row need n m line true text skipped

-- one with words
pub step_words : (need : Need) (n : ℕ) (m : ModelParts) (line given : List ℕ) (lists : Bool) → is_text line ≡ true → is_skipped (words_of line) ≡ false →
    given ≡ line → lists ≡ needs_lists need → line_step need n m line ≡ onward n (line_gives lists m (texts_of (words_of given))) Ok
step_words need n m line given lists text words are limited =
    step_row need n m line false text words
    ∙ one_row n (line_gives (needs_lists need) m (texts_of (words_of line)))
    ∙ ap (λ (x : List ℕ). onward n (line_gives (needs_lists need) m (texts_of (words_of x))) Ok) (sym are)
    ∙ ap (λ v. onward n (line_gives v m (texts_of (words_of given))) Ok) (sym limited)

-- a line of words is taken, or is bad
pub line_read : (old : Progress) (draft : Draft) (line given : List ℕ) (result : Result (Unit {0}) ModelStop) → is_text line ≡ true →
    is_skipped (words_of line) ≡ false → given ≡ line → IsFit old → old.count + 1 < 4000000000 →
    Adds (draft_parts draft) result (onward (old.count + 1) (line_gives old.draft.cells.limited (draft_parts old.draft) (texts_of (words_of given))) Ok) →
    OnOk result (Follows old.draft draft) →
    TakesLine old line result (record { alloc = old.alloc; need = old.need; count = old.count + 1; draft = draft })
line_read old draft line given (Ok u) text words are fit room gives follows = record {
  fit = record {
    sound = follows.sound;
    limited = follows.limited ∙ fit.limited;
    turn = let turn = follows.turn in let before = fit.turn in omega (arith, turn, before);
    few = omega (arith, room);
  };
  need = refl;
  count = refl;
  gives = step_words old.need (old.count + 1) (draft_parts old.draft) line given old.draft.cells.limited text words are fit.limited ∙ gives;
}
line_read old draft line given (Err (Refused number kind)) text words are fit room gives follows =
    step_words old.need (old.count + 1) (draft_parts old.draft) line given old.draft.cells.limited text words are fit.limited ∙ gives
line_read old draft line given (Err Memory) text words are fit room gives follows = tt

-- the stop is kept
pub stops : (old new : Progress) (line : List ℕ) (stop : ModelStop) → TakesLine old line (Err stop) new → StateTakes (Open old) line (Stopped stop)
stops old new line (Refused number kind) taken = taken
stops old new line Memory taken = tt

open_on : (p q : Progress) (given : List ℕ) → HasTaken p q (without_end given) → ReadsLine (state_view (Open p)) given (state_view (Open q))
open_on p q given taken =
    subst (λ (n : Need). ReadsLine (state_view (Open p)) given (Ok (record { need = n; count = q.count; stated = draft_parts q.draft }))) (sym taken.need)
    (subst (λ (k : ℕ). ReadsLine (state_view (Open p)) given (Ok (record { need = p.need; count = k; stated = draft_parts q.draft }))) (sym taken.count)
    (read_on (record { need = p.need; count = p.count; stated = draft_parts p.draft }) given (draft_parts q.draft) taken.gives))

stopped_on : (stop : ModelStop) (given : List ℕ) → ReadsLine (Err stop) given (Err stop)
stopped_on (Refused number kind) given = still_bad given number kind
stopped_on Memory given = λ need text line whole is same has. absurd has

state_on : (old new : State) (given : List ℕ) → StateTakes old (without_end given) new → IsCalm new → ReadsLine (state_view old) given (state_view new)
state_on (Open p) (Open q) given taken calm = open_on p q given taken
state_on (Open p) (Stopped (Refused number kind)) given taken calm =
    read_bad (record { need = p.need; count = p.count; stated = draft_parts p.draft }) given number kind taken
state_on (Open p) (Stopped Memory) given taken calm = absurd calm
state_on (Stopped stop) (Open q) given taken calm = absurd taken
state_on (Stopped stop) (Stopped again) given taken calm =
    subst (λ (s : ModelStop). ReadsLine (Err stop) given (Err s)) (sym taken) (stopped_on stop given)

-- a line is read, unless memory was missing
pub reads : (old new : State) (before : Result SoFar ModelStop) (given : List ℕ) → state_view old ≡ before → StateTakes old (without_end given) new →
    IsCalm new →
    ReadsLine before given (state_view new)
reads old new before given is taken calm = subst (λ (b : Result SoFar ModelStop). ReadsLine b given (state_view new)) is (state_on old new given taken calm)

-- memory isn't wanting, of what contracts see
abbrev calm_seen : Result SoFar ModelStop → Type 0
calm_seen (Ok s) = Unit {0}
calm_seen (Err (Refused number kind)) = Unit {0}
calm_seen (Err Memory) = ⊥

calm_is : (s : State) → IsCalm s → state_view s ≢ Err Memory
calm_is (Open p) calm = λ e. subst calm_seen e tt
calm_is (Stopped (Refused number kind)) calm = λ e. subst calm_seen e tt
calm_is (Stopped Memory) calm = absurd calm

calm_before : (old new : State) (line : List ℕ) → StateTakes old line new → IsCalm new → IsCalm old
calm_before (Open p) new line taken calm = tt
calm_before (Stopped stop) (Open q) line taken calm = absurd taken
calm_before (Stopped stop) (Stopped again) line taken calm = subst (λ (s : ModelStop). IsCalm (Stopped s)) taken calm

-- memory wasn't missing before the line, and isn't after it
pub stays_calm : (old new : State) (before : Result SoFar ModelStop) (line : List ℕ) → state_view old ≡ before → StateTakes old line new → IsCalm new →
    (before ≢ Err Memory) × (state_view new ≢ Err Memory)
stays_calm old new before line is taken calm =
    (subst (λ (b : Result SoFar ModelStop). b ≢ Err Memory) is (calm_is old (calm_before old new line taken calm)), calm_is new calm)

-- one line more is counted, or none
pub counts : (old new : State) (before : Result SoFar ModelStop) (line : List ℕ) → state_view old ≡ before → StateTakes old line new →
    lines_read (state_view new) ≤ lines_read before + 1
counts old new before line is taken = subst (λ (b : Result SoFar ModelStop). lines_read (state_view new) ≤ lines_read b + 1) is (go old new taken)
  where
    go : (o n : State) → StateTakes o line n → lines_read (state_view n) ≤ lines_read (state_view o) + 1
    go (Open p) (Open q) t = let count = t.count in omega (arith, count)
    go (Open p) (Stopped stop) t = omega arith
    go (Stopped stop) (Open q) t = absurd t
    go (Stopped stop) (Stopped again) t = omega arith

-- lack of memory tells that the line is text, unless it was wanting before
pub wanted_text : (old new : State) (before : Result SoFar ModelStop) (given : List ℕ) → state_view old ≡ before →
    (new ≡ Stopped Memory → (old ≡ Stopped Memory) ⊎ (is_text (without_end given) ≡ true)) → new ≡ Stopped Memory →
    (before ≡ Err Memory) ⊎ (is_text (without_end given) ≡ true)
wanted_text old new before given is told wanted = go (told wanted)
  where
    go : (old ≡ Stopped Memory) ⊎ (is_text (without_end given) ≡ true) → (before ≡ Err Memory) ⊎ (is_text (without_end given) ≡ true)
    go (inl e) = inl (sym is ∙ ap state_view e)
    go (inr t) = inr t

abbrev stop_of : Result SoFar ModelStop → ModelStop
stop_of (Ok s) = Memory
stop_of (Err stop) = stop

wanted_ends : (s : State) (result : Result Model ModelStop) → StateEnds s result → state_view s ≡ Err Memory → result ≡ Err Memory
wanted_ends (Open p) result ends is = absurd (subst calm_seen is tt)
wanted_ends (Stopped stop) result ends is = ends ∙ ap (λ (r : Result SoFar ModelStop). Err (stop_of r)) is

-- where memory was missing, the end tells that
pub ends_wanted : (s : State) (before : Result SoFar ModelStop) (result : Result Model ModelStop) → state_view s ≡ before → StateEnds s result →
    before ≡ Err Memory → result ≡ Err Memory
ends_wanted s before result is end wanted = wanted_ends s result end (is ∙ wanted)

abbrev is_model : Result Model ModelStop → Type 0
is_model (Ok m) = Unit {0}
is_model (Err stop) = ⊥

-- a model tells that memory wasn't
pub ends_calm : (s : State) (before : Result SoFar ModelStop) (result : Result Model ModelStop) → state_view s ≡ before → StateEnds s result →
    IfOk result (λ m. before ≢ Err Memory)
ends_calm s before (Ok m) is end = λ wanted. subst is_model (ends_wanted s before (Ok m) is end wanted) tt
ends_calm s before (Err stop) is end = tt

-- a text whose lines read so, and its end
text_ends : (need : Need) (text : List ℕ) (read : Result ModelParts (ℕ × ModelKind)) → lines_reading need (cut_of text) ≡ read →
    model_reading need text ≡ then_on read (ended_model need (length (lines_of text)))
text_ends need text read is = ap (λ r. then_on r (ended_model need (length (lines_of text)))) is

state_ends : (s : State) (result : Result Model ModelStop) (need : Need) (text : List ℕ) → StateEnds s result → HasRead need text (state_view s) →
    Reads result (model_reading need text)
state_ends (Open p) result need text ends has =
    subst (Reads result) (sym (
    text_ends need text (Ok (draft_parts p.draft)) has.2 ∙ ap (λ (k : ℕ). ended_model need k (draft_parts p.draft)) (sym has.1)
    ∙ ap (λ (n : Need). ended_model n p.count (draft_parts p.draft)) (sym has.0))) ends
state_ends (Stopped (Refused number kind)) result need text ends has =
    subst (λ (r : Result Model ModelStop). Reads r (model_reading need text)) (sym ends) (text_ends need text (Err (number, kind)) has)
state_ends (Stopped Memory) result need text ends has = absurd has

-- the end tells the reading of the text
pub ends : (s : State) (before : Result SoFar ModelStop) (result : Result Model ModelStop) (need : Need) (text : List ℕ) → state_view s ≡ before →
    StateEnds s result → HasRead need text before → Reads result (model_reading need text)
ends s before result need text is end has = state_ends s result need text end (subst (HasRead need text) (sym is) has)

-- before the first line
pub fresh_read : (p : Progress) (need : Need) → p.need ≡ need → p.count ≡ 0 → draft_parts p.draft ≡ nothing → HasRead need [] (state_view (Open p))
fresh_read p need need_is count_is none =
    subst (λ (n : Need). HasRead need [] (Ok (record { need = n; count = p.count; stated = draft_parts p.draft }))) (sym need_is)
    (subst (λ (k : ℕ). HasRead need [] (Ok (record { need = need; count = k; stated = draft_parts p.draft }))) (sym count_is)
    (subst (λ (m : ModelParts). HasRead need [] (Ok (record { need = need; count = 0; stated = m }))) (sym none) (none_read need)))

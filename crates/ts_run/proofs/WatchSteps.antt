-- A stream of `watch` that comes part by part: its model, and what stands after it.
use Rattle.std.proofs.Common.{◌≡◌, ℕ, Bool, true, false, cond, Option, Some, None, Ok, Err, List, [], ◌++◌, length, refl, sym, ◌∙◌, ap, subst, append_assoc, append-nil, length-append, ◌+◌, ◌<◌, ◌≤◌, arith}
use Rattle.std.specs.Prelude.{Result}
use Rattle.std.proofs.lemmas.List.{nil_from_length}
use Rattle.ts_base.specs.Limits.{most_terms, too_many}
use Rattle.ts_token.specs.Text.{cut_of}
use Rattle.ts_token.specs.Halves.{halves_of}
use Rattle.ts_model.specs.declared.error.ModelKind.{ModelKind}
use Rattle.ts_model.specs.declared.error.ModelStop.{ModelStop}
use Rattle.ts_model.specs.declared.error.ModelStop.TheVariants.{Refused as RefusedModel, Memory as NoMemory}
use Rattle.ts_model.specs.declared.model.Model.{Model}
use Rattle.ts_model.specs.declared.model.Need.{Need}
use Rattle.ts_model.specs.declared.model.Need.TheVariants.{Values}
use Rattle.ts_model.specs.declared.model_text.ModelText.{ModelText}
use Rattle.ts_model.specs.ModelParts.{ModelParts}
use Rattle.ts_model.specs.ModelReading.{model_reading}
use Rattle.ts_model.specs.ModelTexts.{AreWhole, EndsModel, EndsSo, IsAt, IsInModel, TakesInModel, whole_lines}
use Rattle.ts_model.specs.Views.{Reads, model_parts}
use Rattle.ts_model.specs.Promise.{IsWhole}
use Rattle.ts_model.specs.TermValue.{has_window}
use Rattle.ts_model.proofs.FitLaws.{limits_stated, whole_stated}
use Rattle.ts_model.proofs.ModelTexts.{none_marked, nothing_behind}
use Rattle.ts_run.specs.Refusals.{refused_model, refused_window}
use Rattle.ts_run.specs.Streams.{AddsDue, AddsLines, AddsReply, Due, IsFront, IsLines, nothing_due}
use Rattle.ts_run.specs.Watch.{due_on, end_of, lines_due, readings_due, readings_reply, refused_due, reply_on, watch_due, watch_reply}
use Rattle.ts_run.specs.Watching.{AreReadings, EndsIn, HasCome, IsBehindModel, IsOwed, IsPut, IsRefusedBy}
use Rattle.ts_run.specs.declared.readings.ReadingsText.{ReadingsText}
use Rattle.ts_run.specs.declared.status.Status.{Status}
use Rattle.ts_run.specs.declared.status.Status.TheVariants.{Refused}
use Rattle.ts_run.specs.declared.watch.Stage.{Stage}
use Rattle.ts_run.specs.declared.watch.Stage.TheVariants.{InModel, InReadings}
use Rattle.ts_run.proofs.ReadingSteps.{due_is}
use Rattle.ts_run.proofs.WatchStream.{due_behind_model, due_none, reply_behind_model, watch_stream}

-- in the model nothing is owed

pub in_model_due : (bytes : List ℕ) (t : ModelText) → IsInModel bytes t → watch_due bytes ≡ nothing_due
in_model_due bytes t h = due_none (halves_of (whole_lines bytes)) (none_marked bytes t h)

pub in_model_adds : (bytes part before after : List ℕ) (old new : ModelText) → IsInModel bytes old → IsInModel (bytes ++ part) new → after ≡ before →
    AddsDue watch_due bytes part before after
in_model_adds bytes part before after old new h k same = (
  [],
  same ∙ sym (append-nil before),
  ap (λ (d : Due). d.text) (in_model_due (bytes ++ part) new k ∙ sym (in_model_due bytes old h)) ∙ sym (append-nil (watch_due bytes).text),
)

-- where no term has a window, readings are asked for
open_due : (m : ModelParts) (text : List ℕ) → has_window m ≡ false → due_on (Ok m) text ≡ lines_due m text
open_due m text windowless = ap (λ b. cond b (refused_due refused_window) (lines_due m text)) windowless

open_reply : (m : ModelParts) (text : List ℕ) → has_window m ≡ false → reply_on (Ok m) text ≡ readings_reply m text
open_reply m text windowless = ap (λ b. cond b refused_window (readings_reply m text)) windowless

-- without readings: the refusal of a window, or the end

module _ (m : ModelParts) (before after : List ℕ) (status : Status) where
  abbrev is_put_by : Bool → Type 0
  is_put_by windowed = IsPut (cond windowed refused_window (readings_reply m [])) before after status

  pub none_windowed : has_window m ≡ true → IsPut refused_window before after status → IsPut (reply_on (Ok m) []) before after status
  none_windowed windowed put = subst is_put_by (sym windowed) put

  pub none_open : has_window m ≡ false → IsPut (end_of 0) before after status → IsPut (reply_on (Ok m) []) before after status
  none_open windowless put = subst is_put_by (sym windowless) put

-- after the model

module _ (bytes : List ℕ) (r : ReadingsText) (h : IsBehindModel bytes r) where
  pub behind_due : watch_due bytes ≡ readings_due h.model h.rest
  behind_due =
      ap watch_due h.parts ∙ due_behind_model h.text h.front h.ends h.whole h.rest ∙ ap (λ f. due_on f (whole_lines h.rest)) h.reads
      ∙ open_due h.model (whole_lines h.rest) h.windowless

  pub behind_reply : watch_reply bytes ≡ readings_reply h.model h.rest
  behind_reply =
      ap watch_reply h.parts ∙ reply_behind_model h.text h.front h.ends h.whole h.rest ∙ ap (λ f. reply_on f h.rest) h.reads
      ∙ open_reply h.model h.rest h.windowless

  behind_later : (part : List ℕ) → watch_due (bytes ++ part) ≡ readings_due h.model (h.rest ++ part)
  behind_later part =
      ap watch_due (ap (λ (x : List ℕ). x ++ part) h.parts ∙ append_assoc h.front h.rest part)
      ∙ due_behind_model h.text h.front h.ends h.whole (h.rest ++ part) ∙ ap (λ f. due_on f (whole_lines (h.rest ++ part))) h.reads
      ∙ open_due h.model (whole_lines (h.rest ++ part)) h.windowless

  pub behind_adds : (part before after : List ℕ) → AddsDue (readings_due h.model) h.rest part before after → AddsDue watch_due bytes part before after
  behind_adds part before after a = (
    a.0,
    a.1,
    ap (λ (d : Due). d.text) (behind_later part) ∙ a.2 ∙ ap (λ (d : Due). d.text ++ a.0) (sym behind_due),
  )

  pub behind_ends : (part : List ℕ) (ended : Option Status) → (readings_due h.model (h.rest ++ part)).ended ≡ ended → (watch_due (bytes ++ part)).ended ≡ ended
  behind_ends part ended e = ap (λ (d : Due). d.ended) (behind_later part) ∙ e

  pub behind_on : (part : List ℕ) (new : ReadingsText) → AreReadings h.model (h.rest ++ part) new → IsBehindModel (bytes ++ part) new
  behind_on part new k = record {
    text = h.text;
    front = h.front;
    rest = h.rest ++ part;
    parts = ap (λ (x : List ℕ). x ++ part) h.parts ∙ append_assoc h.front h.rest part;
    ends = h.ends;
    whole = h.whole;
    model = h.model;
    reads = h.reads;
    windowless = h.windowless;
    readings = k;
  }

  pub behind_replies : (before after : List ℕ) (status : Status) → AddsReply (readings_due h.model h.rest) (readings_reply h.model h.rest) before after status →
      AddsReply (watch_due bytes) (watch_reply bytes) before after status
  behind_replies before after status a = (
    a.0,
    a.1,
    behind_reply ∙ a.2 ∙ ap (λ (d : Due). record { text = d.text ++ a.0; status = status }) (sym behind_due),
  )

-- the rest is no longer than all bytes
pub rest_few : (bytes part : List ℕ) (r : ReadingsText) (h : IsBehindModel bytes r) → length bytes + length part < too_many →
    length h.rest + length part < too_many
rest_few bytes part r h few =
    let long = ap (λ (x : List ℕ). length x) h.parts ∙ length-append h.front h.rest in
    omega (arith, long, few)

pub rest_short : (bytes : List ℕ) (r : ReadingsText) (h : IsBehindModel bytes r) → length bytes < too_many → length h.rest < too_many
rest_short bytes r h few =
    let long = ap (λ (x : List ℕ). length x) h.parts ∙ length-append h.front h.rest in
    omega (arith, long, few)

-- nothing has ended the stream so far
pub came_open : (bytes : List ℕ) (s : Stage) → HasCome bytes s → (watch_due bytes).ended ≡ None
came_open bytes (InModel t) h = ap (λ (d : Due). d.ended) (in_model_due bytes t h.0)
came_open bytes (InReadings r) h =
    ap (λ (d : Due). d.ended) (behind_due bytes r h ∙ due_is h.model h.rest [] r h.readings)

-- the model ends

module _ (bytes : List ℕ) (need : Need) (is : need ≡ Values) where
  ended_due : (found : Result ModelParts (ℕ × ModelKind)) (text : List ℕ) → EndsModel text bytes → AreWhole bytes →
      model_reading need text ≡ found → watch_due bytes ≡ due_on found []
  ended_due found text ends whole reads =
      ap watch_due (sym (append-nil bytes)) ∙ due_behind_model text bytes ends whole []
      ∙ ap (λ f. due_on f []) (ap (λ n. model_reading n text) (sym is) ∙ reads)

  pub model_opens : (model : Model) (r : ReadingsText) → EndsSo need bytes (Ok model) → has_window (model_parts model) ≡ false →
      AreReadings (model_parts model) [] r → IsBehindModel bytes r
  model_opens model r e windowless k = record {
    text = e.text;
    front = bytes;
    rest = [];
    parts = sym (append-nil bytes);
    ends = e.ends;
    whole = e.whole;
    model = model_parts model;
    reads = ap (λ n. model_reading n e.text) (sym is) ∙ e.reads;
    windowless = windowless;
    readings = k;
  }

  pub opens_owed : (model : Model) (before after : List ℕ) → EndsSo need bytes (Ok model) → has_window (model_parts model) ≡ false → after ≡ before →
      IsOwed (watch_due bytes) before after None
  opens_owed model before after e windowless same =
      let due = ended_due (Ok (model_parts model)) e.text e.ends e.whole e.reads ∙ open_due (model_parts model) [] windowless in (
        same ∙ sym (append-nil before) ∙ ap (λ (d : Due). before ++ d.text) (sym due),
        ap (λ (d : Due). d.ended) due,
      )

  -- a window in the model is refused
  pub window_owed : (model : Model) (before after : List ℕ) (status : Status) → EndsSo need bytes (Ok model) → has_window (model_parts model) ≡ true →
      IsPut refused_window before after status → IsOwed (watch_due bytes) before after (Some status)
  window_owed model before after status e windowed put =
      let due =
      ended_due (Ok (model_parts model)) e.text e.ends e.whole e.reads
      ∙ ap (λ b. cond b (refused_due refused_window) (lines_due (model_parts model) [])) windowed in (
        put.0 ∙ ap (λ (d : Due). before ++ d.text) (sym due),
        ap (λ (d : Due). d.ended) due ∙ ap (λ (s : Status). Some s) (sym put.1),
      )

  refused_owed : (line : ℕ) (kind : ModelKind) (before after : List ℕ) (status : Status) → EndsSo need bytes (Err (RefusedModel line kind)) →
      after ≡ before ++ (refused_model line kind).text → status ≡ Refused → IsOwed (watch_due bytes) before after (Some status)
  refused_owed line kind before after status e put same =
      let due = ended_due (Err (line, kind)) e.text e.ends e.whole e.reads in (
        put ∙ ap (λ (d : Due). before ++ d.text) (sym due),
        ap (λ (d : Due). d.ended) due ∙ ap (λ (s : Status). Some s) (sym same),
      )

  pub stop_owed : (stop : ModelStop) (before after : List ℕ) (status : Status) → EndsSo need bytes (Err stop) → IsRefusedBy stop before after status →
      IsOwed (watch_due bytes) before after (Some status)
  stop_owed (RefusedModel line kind) before after status e put = refused_owed line kind before after status e put.0 put.1
  stop_owed NoMemory before after status e put = absurd put

-- a model that is read is whole, and has few terms
pub whole_model : (bytes : List ℕ) (need : Need) (model : Model) → EndsSo need bytes (Ok model) → IsWhole (model_parts model)
whole_model bytes need model e = whole_stated need (cut_of e.text) (model_parts model) e.reads

pub few_terms : (bytes : List ℕ) (need : Need) (model : Model) → EndsSo need bytes (Ok model) → length (model_parts model).terms ≤ most_terms
few_terms bytes need model e = (limits_stated need (cut_of e.text) (model_parts model) e.reads).terms

-- all that is owed after a model that ends with the part is added by it
pub owed_adds : (bytes part before after : List ℕ) (old : ModelText) (ended : Option Status) → IsInModel bytes old →
    IsOwed (watch_due (bytes ++ part)) before after ended → AddsDue watch_due bytes part before after
owed_adds bytes part before after old ended h o = (
  (watch_due (bytes ++ part)).text,
  o.0,
  ap (λ (d : Due). d.text ++ (watch_due (bytes ++ part)).text) (sym (in_model_due bytes old h)),
)

-- a part of the model, or of its line `%%`
module _ (bytes part : List ℕ) (stage : Stage) (old new : ModelText) (ended : Bool) (is : stage ≡ InModel old) (takes : TakesInModel old part ended new)
    (need : new.need ≡ old.need) (h : HasCome bytes stage) where
  in_model : HasCome bytes (InModel old)
  in_model = subst (HasCome bytes) is h

  pub at_mark : ended ≡ true → EndsIn (bytes ++ part) (InModel new)
  at_mark e = (subst (λ (t : Bool). IsAt (bytes ++ part) t new) e (takes bytes in_model.0), need ∙ in_model.1)

  pub still_in : ended ≡ false → HasCome (bytes ++ part) (InModel new)
  still_in e = (subst (λ (t : Bool). IsAt (bytes ++ part) t new) e (takes bytes in_model.0), need ∙ in_model.1)

  pub mark_adds : (before after : List ℕ) (told : Option Status) → IsOwed (watch_due (bytes ++ part)) before after told →
      AddsDue watch_due bytes part before after
  mark_adds before after told owed = owed_adds bytes part before after old told in_model.0 owed

  pub still_adds : ended ≡ false → (before after : List ℕ) → after ≡ before → AddsDue watch_due bytes part before after
  still_adds e before after same = in_model_adds bytes part before after old new in_model.0 (still_in e).0 same

  pub still_open : ended ≡ false → (watch_due (bytes ++ part)).ended ≡ None
  still_open e = ap (λ (d : Due). d.ended) (in_model_due (bytes ++ part) new (still_in e).0)

-- the input ends in the model

module _ (bytes : List ℕ) (t : ModelText) (h : IsInModel bytes t) (is : t.need ≡ Values) where
  reply_is : (found : Result ModelParts (ℕ × ModelKind)) → model_reading t.need (halves_of bytes).model ≡ found → watch_reply bytes ≡ reply_on found []
  reply_is found reads =
      ap (λ (x : List ℕ). reply_on (model_reading Values (halves_of bytes).model) x) (nothing_behind bytes t h)
      ∙ ap (λ f. reply_on f []) (ap (λ n. model_reading n (halves_of bytes).model) (sym is) ∙ reads)

  pub none_replied : (model : ModelParts) (before after : List ℕ) (status : Status) → model_reading t.need (halves_of bytes).model ≡ Ok model →
      IsPut (reply_on (Ok model) []) before after status → AddsReply (watch_due bytes) (watch_reply bytes) before after status
  none_replied model before after status reads put = (
    (reply_on (Ok model) []).text,
    put.0,
    reply_is (Ok model) reads ∙ ap (λ (s : Status). record { text = (reply_on (Ok model) []).text; status = s }) (sym put.1)
        ∙ ap (λ (d : Due). record { text = d.text ++ (reply_on (Ok model) []).text; status = status }) (sym (in_model_due bytes t h)),
  )

  refusal_replied : (line : ℕ) (kind : ModelKind) (before after : List ℕ) (status : Status) →
      model_reading t.need (halves_of bytes).model ≡ Err (line, kind) → after ≡ before ++ (refused_model line kind).text → status ≡ Refused →
      AddsReply (watch_due bytes) (watch_reply bytes) before after status
  refusal_replied line kind before after status reads put same = (
    (refused_model line kind).text,
    put,
    reply_is (Err (line, kind)) reads ∙ ap (λ (s : Status). record { text = (refused_model line kind).text; status = s }) (sym same)
        ∙ ap (λ (d : Due). record { text = d.text ++ (refused_model line kind).text; status = status }) (sym (in_model_due bytes t h)),
  )

  pub stop_replied : (stop : ModelStop) (before after : List ℕ) (status : Status) → Reads (Err stop) (model_reading t.need (halves_of bytes).model) →
      IsRefusedBy stop before after status → AddsReply (watch_due bytes) (watch_reply bytes) before after status
  stop_replied (RefusedModel line kind) before after status reads put = refusal_replied line kind before after status reads put.0 put.1
  stop_replied NoMemory before after status reads put = absurd put

-- the parts of a piece, one after the other

pub record IsEaten (piece rest before now : List ℕ) (old new : Stage) : Type 0 where
  pub done : List ℕ
  pub parts : done ++ rest ≡ piece
  pub adds : (bytes : List ℕ) → HasCome bytes old → AddsDue watch_due bytes done before now
  pub came : (bytes : List ℕ) → HasCome bytes old → HasCome (bytes ++ done) new

pub none_eaten : (piece before : List ℕ) (s : Stage) → IsEaten piece piece before before s s
none_eaten piece before s = record {
  done = [];
  parts = refl;
  adds = λ bytes h. ([], sym (append-nil before), ap (λ (x : List ℕ). (watch_due x).text) (append-nil bytes) ∙ sym (append-nil (watch_due bytes).text));
  came = λ bytes h. subst (λ (x : List ℕ). HasCome x s) (sym (append-nil bytes)) h;
}

adds_twice : (bytes done part before mid after : List ℕ) → AddsDue watch_due bytes done before mid → AddsDue watch_due (bytes ++ done) part mid after →
    AddsDue watch_due bytes (done ++ part) before after
adds_twice bytes done part before mid after a b = (
  a.0 ++ b.0,
  b.1 ∙ ap (λ (t : List ℕ). t ++ b.0) a.1 ∙ append_assoc before a.0 b.0,
  ap (λ (x : List ℕ). (watch_due x).text) (sym (append_assoc bytes done part)) ∙ b.2 ∙ ap (λ (t : List ℕ). t ++ b.0) a.2
      ∙ append_assoc (watch_due bytes).text a.0 b.0,
)

module _ (piece rest part left before mid : List ℕ) (old now : Stage) (e : IsEaten piece rest before mid old now) (cut : rest ≡ part ++ left) where
  whole : (e.done ++ part) ++ left ≡ piece
  whole = append_assoc e.done part left ∙ ap (λ (x : List ℕ). e.done ++ x) (sym cut) ∙ e.parts

  both : (after : List ℕ) → ((bytes : List ℕ) → HasCome bytes now → AddsDue watch_due bytes part mid after) → (bytes : List ℕ) → HasCome bytes old →
      AddsDue watch_due bytes (e.done ++ part) before after
  both after adds bytes h = adds_twice bytes e.done part before mid after (e.adds bytes h) (adds (bytes ++ e.done) (e.came bytes h))

  -- fewer bytes came with the part than with the piece
  pub few_come : (bytes : List ℕ) → length bytes + length piece < too_many → length (bytes ++ e.done) + length part < too_many
  few_come bytes few =
      let long = length-append bytes e.done in
      let all = length-append (e.done ++ part) left in
      let most = length-append e.done part in
      let same = ap (λ (x : List ℕ). length x) whole in
      omega (arith, long, all, most, same, few)

  pub one_eaten : (after : List ℕ) (new : Stage) → ((bytes : List ℕ) → HasCome bytes now → AddsDue watch_due bytes part mid after) →
      ((bytes : List ℕ) → HasCome bytes now → HasCome (bytes ++ part) new) → IsEaten piece left before after old new
  one_eaten after new adds came = record {
    done = e.done ++ part;
    parts = whole;
    adds = both after adds;
    came = λ bytes h. subst (λ (x : List ℕ). HasCome x new) (append_assoc bytes e.done part) (came (bytes ++ e.done) (e.came bytes h));
  }

  -- the part ends the stream
  module _ (after : List ℕ) (status : Status) (adds : (bytes : List ℕ) → HasCome bytes now → AddsDue watch_due bytes part mid after)
      (ended : (bytes : List ℕ) → HasCome bytes now → (watch_due (bytes ++ part)).ended ≡ Some status) (bytes : List ℕ) (h : HasCome bytes old) where
    ended_there : (watch_due (bytes ++ (e.done ++ part))).ended ≡ Some status
    ended_there =
        ap (λ (x : List ℕ). (watch_due x).ended) (sym (append_assoc bytes e.done part)) ∙ ended (bytes ++ e.done) (e.came bytes h)

    same_due : watch_due (bytes ++ piece) ≡ watch_due (bytes ++ (e.done ++ part))
    same_due =
        ap watch_due (ap (λ (x : List ℕ). bytes ++ x) (sym whole) ∙ sym (append_assoc bytes (e.done ++ part) left))
        ∙ watch_stream.over (bytes ++ (e.done ++ part)) left status ended_there

    pub last_adds : AddsDue watch_due bytes piece before after
    last_adds = let b = both after adds bytes h in (b.0, b.1, ap (λ (d : Due). d.text) same_due ∙ b.2)

    pub last_ends : (watch_due (bytes ++ piece)).ended ≡ Some status
    last_ends = ap (λ (d : Due). d.ended) same_due ∙ ended_there

-- there is no memory for the part
pub lines_left : (piece rest before now after : List ℕ) (old s : Stage) (e : IsEaten piece rest before now old s) → after ≡ now →
    (bytes : List ℕ) → HasCome bytes old → AddsLines watch_due bytes piece before after
lines_left piece rest before now after old s e kept bytes h =
    let a = e.adds bytes h in record {
      more = a.0;
      put = kept ∙ a.1;
      lines = subst IsLines a.2 (watch_stream.lines (bytes ++ e.done));
      owed = subst (λ (t : List ℕ). IsFront t (watch_due (bytes ++ piece)).text) a.2
          (subst (λ (x : List ℕ). IsFront (watch_due (bytes ++ e.done)).text (watch_due x).text)
          (append_assoc bytes e.done rest ∙ ap (λ (x : List ℕ). bytes ++ x) e.parts) (watch_stream.grows (bytes ++ e.done) rest));
    }

-- all parts are taken
module _ (piece rest before now : List ℕ) (old s : Stage) (e : IsEaten piece rest before now old s) (none : length rest ≡ 0) where
  done_is : e.done ≡ piece
  done_is = sym (append-nil e.done) ∙ ap (λ (x : List ℕ). e.done ++ x) (sym (nil_from_length rest none)) ∙ e.parts

  pub all_adds : (bytes : List ℕ) → HasCome bytes old → AddsDue watch_due bytes piece before now
  all_adds bytes h = subst (λ (x : List ℕ). AddsDue watch_due bytes x before now) done_is (e.adds bytes h)

  pub all_came : (bytes : List ℕ) → HasCome bytes old → HasCome (bytes ++ piece) s
  all_came bytes h = subst (λ (x : List ℕ). HasCome (bytes ++ x) s) done_is (e.came bytes h)

  pub all_open : (bytes : List ℕ) → HasCome bytes old → (watch_due (bytes ++ piece)).ended ≡ None
  all_open bytes h = came_open (bytes ++ piece) s (all_came bytes h)

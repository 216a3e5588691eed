-- An input of `verify` that is fed: what is known of it after each part.
use Rattle.std.proofs.Common.{◌≡◌, ℕ, ◌+◌, ◌<◌, Bool, true, false, Ok, Err, List, [], ◌++◌, length, refl, sym, ap, ◌∙◌, subst, append_assoc, append-nil, length-append, inl, inr, arith}
use Rattle.std.specs.Prelude.{◌⊎◌, IsTrue, Result}
use Rattle.std.proofs.lemmas.List.{nil_from_length}
use Rattle.ts_model.specs.declared.error.ModelKind.{ModelKind}
use Rattle.ts_token.specs.Text.{cut_of}
use Rattle.ts_model.specs.declared.error.ModelStop.{ModelStop}
use Rattle.ts_model.specs.declared.error.ModelStop.TheVariants.{Refused as Stopped}
use Rattle.ts_model.specs.declared.model.Model.{Model}
use Rattle.ts_model.specs.declared.model.Need.TheVariants.{List as Listed}
use Rattle.ts_model.specs.declared.model_text.ModelText.{ModelText}
use Rattle.ts_model.specs.ModelParts.{ModelParts}
use Rattle.ts_model.specs.ModelReading.{model_reading}
use Rattle.ts_model.specs.ModelTexts.{AtLine, EndsModel, EndsSo, IsAt, IsInModel, IsMark, TakesInModel}
use Rattle.ts_model.specs.Promise.{IsWhole, KeepsLimits}
use Rattle.ts_model.specs.Views.{Reads, model_parts}
use Rattle.ts_model.proofs.FitLaws.{limits_stated, whole_stated}
use Rattle.ts_checker.specs.declared.input.Input.{Input}
use Rattle.ts_checker.specs.declared.input.Input.TheVariants.{InModel, Behind}
use Rattle.ts_checker.specs.declared.opened_model.OpenedModel.{OpenedModel}
use Rattle.ts_checker.specs.declared.opened_model.OpenedModel.TheVariants.{Refused, Judging}
use Rattle.ts_checker.specs.Feeding.{EndsIn, HasFew, HasRoomFor, HasTaken, IsBehind, IsBehindRefusal, IsCalm, IsOpened, IsUnrefused, TakesBytes, TakesPart, Verifying}
use Rattle.ts_checker.specs.Verified.{model_part}

-- more bytes of one line

behind_more : (bytes part : List ℕ) (n : ℕ) (kind : ModelKind) → IsBehindRefusal bytes n kind → IsBehindRefusal (bytes ++ part) n kind
behind_more bytes part n kind h = record {
  text = h.text;
  front = h.front;
  rest = h.rest ++ part;
  parts = ap (λ (x : List ℕ). x ++ part) h.parts ∙ append_assoc h.front h.rest part;
  ends = h.ends;
  reading = h.reading;
}

-- more bytes after the model
pub behind_taken : (o p : OpenedModel) (part : List ℕ) → TakesPart o part p → TakesBytes (Behind o) part (Behind p)
behind_taken (Refused n kind) p part t bytes h = subst (IsBehind (bytes ++ part)) (sym t) (behind_more bytes part n kind h)
behind_taken (Judging j) (Refused n kind) part t bytes h = absurd t
behind_taken (Judging j) (Judging k) part t bytes h = record {
  text = h.text;
  front = h.front;
  rest = h.rest ++ part;
  parts = ap (λ (x : List ℕ). x ++ part) h.parts ∙ append_assoc h.front h.rest part;
  ends = h.ends;
  reading = h.reading ∙ ap (λ (m : ModelParts). Ok m) (sym t.1);
  read = t.0 h.rest h.read;
}

-- more bytes of one line of the whole input

pub behind_goes_on : (old : Input) (o p : OpenedModel) (part : List ℕ) → old ≡ Behind o → TakesPart o part p → TakesBytes old part (Behind p)
behind_goes_on old o p part is t bytes h = behind_taken o p part t bytes (subst (HasTaken bytes) is h)

pub model_goes_on : (old : Input) (text new : ModelText) (ended : Bool) (part : List ℕ) → old ≡ InModel text → ended ≡ false →
    TakesInModel text part ended new → new.need ≡ text.need → TakesBytes old part (InModel new)
model_goes_on old text new ended part is other t need bytes h =
    let before = subst (HasTaken bytes) is h in (subst (λ e. IsAt (bytes ++ part) e new) other (t bytes before.0), need ∙ before.1)

pub mark_taken : (old : Input) (text new : ModelText) (ended : Bool) (part bytes : List ℕ) → old ≡ InModel text → ended ≡ true →
    TakesInModel text part ended new → new.need ≡ text.need → HasTaken bytes old → EndsIn (bytes ++ part) (InModel new)
mark_taken old text new ended part bytes is mark t need h =
    let before = subst (HasTaken bytes) is h in (subst (λ e. IsAt (bytes ++ part) e new) mark (t bytes before.0), need ∙ before.1)

-- what a model gives

pub model_whole : (text : List ℕ) (read : Result Model ModelStop) (m : Model) → read ≡ Ok m → Reads read (model_reading Listed text) →
    IsWhole (model_parts m)
model_whole text read m is reads = whole_stated Listed (cut_of text) (model_parts m) (subst (λ r. Reads r (model_reading Listed text)) is reads)

pub model_limits : (text : List ℕ) (read : Result Model ModelStop) (m : Model) → read ≡ Ok m → Reads read (model_reading Listed text) →
    KeepsLimits Listed (model_parts m)
model_limits text read m is reads = limits_stated Listed (cut_of text) (model_parts m) (subst (λ r. Reads r (model_reading Listed text)) is reads)

pub states : (text : List ℕ) (read : Result Model ModelStop) (m : Model) (parts : ModelParts) → read ≡ Ok m → parts ≡ model_parts m →
    Reads read (model_reading Listed text) → model_reading Listed text ≡ Ok parts
states text read m parts is same reads = subst (λ r. Reads r (model_reading Listed text)) is reads ∙ ap (λ (x : ModelParts). Ok x) (sym same)

pub refuses : (text : List ℕ) (stop : ModelStop) (line : ℕ) (kind : ModelKind) → stop ≡ Stopped line kind → Reads (Err stop) (model_reading Listed text) →
    model_reading Listed text ≡ Err (line, kind)
refuses text stop line kind is reads = subst (λ (s : ModelStop). Reads (Err s) (model_reading Listed text)) is reads

opened_behind : (bytes text : List ℕ) (o : OpenedModel) → EndsModel text bytes → IsOpened text o → IsBehind bytes o
opened_behind bytes text (Refused n kind) ends is = record {
  text = text;
  front = bytes;
  rest = [];
  parts = sym (append-nil bytes);
  ends = ends;
  reading = is;
}
opened_behind bytes text (Judging j) ends is = record {
  text = text;
  front = bytes;
  rest = [];
  parts = sym (append-nil bytes);
  ends = ends;
  reading = is.0;
  read = is.1;
}

-- the model ends at the line '%%'
module _ (bytes : List ℕ) (t : ModelText) (read : Result Model ModelStop) (gives : (b : List ℕ) → AtLine IsMark b t → EndsSo t.need b read)
    (h : EndsIn bytes (InModel t)) where
  mark_reads : Reads read (model_reading Listed (gives bytes h.0).text)
  mark_reads = subst (λ n. Reads read (model_reading n (gives bytes h.0).text)) h.1 (gives bytes h.0).reads

  pub mark_read : (text : List ℕ) × Reads read (model_reading Listed text)
  mark_read = ((gives bytes h.0).text, mark_reads)

  pub mark_opens : (o : OpenedModel) → ((text : List ℕ) → Reads read (model_reading Listed text) → IsOpened text o) → IsBehind bytes o
  mark_opens o opens = opened_behind bytes (gives bytes h.0).text o (gives bytes h.0).ends (opens (gives bytes h.0).text mark_reads)

-- the model ends with the input
pub end_reads : (bytes : List ℕ) (t : ModelText) (read : Result Model ModelStop) →
    ((b : List ℕ) → IsInModel b t → Reads read (model_reading t.need (model_part b))) → t.need ≡ Listed → IsInModel bytes t →
    Reads read (model_reading Listed (model_part bytes))
end_reads bytes t read gives need h = subst (λ n. Reads read (model_reading n (model_part bytes))) need (gives bytes h)

-- after the model memory wasn't missing

pub opened_calm : (text : List ℕ) (o : OpenedModel) → IsOpened text o → IsCalm o
opened_calm text (Refused n kind) h = tt
opened_calm text (Judging j) h = h.1.judged.checked.calm

pub behind_calm : (bytes : List ℕ) (o : OpenedModel) → IsBehind bytes o → IsCalm o
behind_calm bytes (Refused n kind) h = tt
behind_calm bytes (Judging j) h = h.read.judged.checked.calm

-- few bytes of the certificate came

pub opened_few : (text : List ℕ) (o : OpenedModel) → IsOpened text o → HasFew o 0
opened_few text (Refused n kind) h = tt
opened_few text (Judging j) h = ([], h.1, omega arith)

pub behind_few : (bytes : List ℕ) (o : OpenedModel) (more : ℕ) → IsBehind bytes o → length bytes + more < 4000000000 → HasFew o more
behind_few bytes (Refused n kind) more h few = tt
behind_few bytes (Judging j) more h few =
    let size = ap length h.parts ∙ length-append h.front h.rest in (h.rest, h.read, omega (arith, size, few))

-- a part of a piece is no longer than the piece
pub room_left : (bytes done piece rest part left : List ℕ) → done ++ rest ≡ piece → rest ≡ part ++ left → length bytes + length piece < 4000000000 →
    length (bytes ++ done) + length part < 4000000000
room_left bytes done piece rest part left parts cut few =
    let a = length-append bytes done in
    let b = sym (length-append done rest) ∙ ap length parts in
    let c = ap length cut ∙ length-append part left in
    omega (arith, a, b, c, few)

-- the parts of a piece, one after the other

pub record IsEaten (piece rest : List ℕ) (old new : Input) : Type 0 where
  pub done : List ℕ
  pub parts : done ++ rest ≡ piece
  pub taken : TakesBytes old done new
  pub stays : IsUnrefused new → IsUnrefused old

pub none_eaten : (piece : List ℕ) (i : Input) → IsEaten piece piece i i
none_eaten piece i = record {
  done = [];
  parts = refl;
  taken = λ bytes h. subst (λ (x : List ℕ). HasTaken x i) (sym (append-nil bytes)) h;
  stays = λ h. h;
}

pub one_eaten : (piece rest part left : List ℕ) (old mid new : Input) → IsEaten piece rest old mid → rest ≡ part ++ left → TakesBytes mid part new →
    (IsUnrefused new → IsUnrefused mid) → IsEaten piece left old new
one_eaten piece rest part left old mid new e cut t stays = record {
  done = e.done ++ part;
  parts = append_assoc e.done part left ∙ ap (λ (x : List ℕ). e.done ++ x) (sym cut) ∙ e.parts;
  taken = λ bytes h. subst (λ (x : List ℕ). HasTaken x new) (append_assoc bytes e.done part) (t (bytes ++ e.done) (e.taken bytes h));
  stays = λ h. e.stays (stays h);
}

pub all_eaten : (piece rest : List ℕ) (old new : Input) → IsEaten piece rest old new → length rest ≡ 0 → TakesBytes old piece new
all_eaten piece rest old new e none =
    subst (λ (x : List ℕ). TakesBytes old x new)
    (sym (append-nil e.done) ∙ ap (λ (x : List ℕ). e.done ++ x) (sym (nil_from_length rest none)) ∙ e.parts) e.taken

-- bytes that a verifier takes, by what contracts see of it

module _ (input : Input) (count : ℕ) (missing : Bool) (v : Verifying)
    (is : ◌≡◌ {A = Verifying} (record { input = input; count = count; missing = missing }) v) where
  pub room_seen : (more : ℕ) → ((bytes : List ℕ) × HasTaken bytes input × (length bytes ≡ count)) → v.count + more < 4000000000 → HasRoomFor input more
  room_seen more some few =
      let same : count ≡ v.count = ap (λ (z : Verifying). z.count) is in (some.0, some.1, omega (arith, some.2, same, few))

  pub unrefused_seen : IsUnrefused input → IsTrue v.missing ⊎ IsUnrefused v.input
  unrefused_seen h = inr (subst (λ (z : Verifying). IsUnrefused z.input) is h)

  pub missing_seen : missing ≡ true → IsTrue v.missing ⊎ IsUnrefused v.input
  missing_seen h = inl (subst (λ (z : Verifying). IsTrue z.missing) is h)

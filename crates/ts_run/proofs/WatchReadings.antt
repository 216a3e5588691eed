-- The readings of more lines, and the lines of more readings.
use Rattle.std.proofs.Common.{◌≡◌, ℕ, ◌+◌, ℤ, inl, inr, Bool, true, false, cond, nat_lt, Option, Some, None, Ok, Err, List, [], ◌∷◌, ◌++◌, length, map, refl, sym, ◌∙◌, ap, subst, arith, append_assoc, append-nil}
use Rattle.std.specs.Prelude.{Result, codes}
use Rattle.std.specs.Fmt.{decimal}
use Rattle.ts_base.specs.Text.{ext_text, line}
use Rattle.ts_base.specs.Words.{behind}
use Rattle.ts_decorate.specs.Answers.{longest}
use Rattle.ts_token.specs.Gist.{AreEnded}
use Rattle.ts_token.specs.Text.{lines_of}
use Rattle.ts_model.specs.declared.error.ModelKind.{ModelKind}
use Rattle.ts_model.specs.Meets.{values_on}
use Rattle.ts_model.specs.ModelParts.{ModelParts}
use Rattle.ts_model.specs.TermValue.{has_window}
use Rattle.ts_run.specs.Refusals.{kind_word, refused_model, refused_window}
use Rattle.ts_run.specs.Reply.{ComesOfInput, Reply}
use Rattle.ts_run.specs.Streams.{IsFront, IsLines}
use Rattle.ts_run.specs.Watch.{Readings, after_values, bad_at, due_on, end_due, last_line, line_gives, line_onto, lines_due, readings_from, readings_of, readings_reply, refusal_due, refused_due, reply_on, values_due, values_line, values_lines, values_reply}
use Rattle.ts_run.specs.declared.status.Status.{Status}
use Rattle.ts_run.specs.declared.status.Status.TheVariants.{Refused}
use Rattle.ts_run.proofs.StreamLaws.{front_all, lines_behind}

-- after a bad line nothing counts
abbrev pub joined_by : Option ℕ → Readings → Readings → Readings
joined_by (Some number) r more = r
joined_by None r more = after_values r.values more

after_joined : (bad : Option ℕ) (v : ℤ) (r more : Readings) → after_values (v ∷ []) (joined_by bad r more) ≡ joined_by bad (after_values (v ∷ []) r) more
after_joined (Some number) v r more = refl
after_joined None v r more = refl

-- with the readings of more lines, the first of which has this number
abbrev continued : Readings → ℕ → ℕ → List (List ℕ) → Readings
continued r count number ms = joined_by r.bad r (readings_from (count + length r.values) number ms)

abbrev Joins : ℕ → ℕ → List (List ℕ) → List (List ℕ) → Type 0
Joins count number ls ms = readings_from count number (ls ++ ms) ≡ continued (readings_from count number ls) count (number + length ls) ms

module _ (count number : ℕ) (l : List ℕ) (ls ms : List (List ℕ)) (same : Joins count (number + 1) ls ms) (later : Joins (count + 1) (number + 1) ls ms) where
  next : number + 1 + length ls ≡ number + length (l ∷ ls)
  next = omega arith

  abbrev Step : Option (List ℤ) → Type 0
  Step g =
      line_onto count number g (λ n. readings_from n (number + 1) (ls ++ ms))
      ≡ continued (line_onto count number g (λ n. readings_from n (number + 1) ls)) count (number + length (l ∷ ls)) ms

  taken : (t : Bool) (v : ℤ) →
      cond t (after_values (v ∷ []) (readings_from (count + 1) (number + 1) (ls ++ ms))) (bad_at number)
      ≡ continued (cond t (after_values (v ∷ []) (readings_from (count + 1) (number + 1) ls)) (bad_at number)) count (number + length (l ∷ ls)) ms
  taken false v = refl
  taken true v =
      let r = readings_from (count + 1) (number + 1) ls in
      let longer : count + 1 + length r.values ≡ count + length (v ∷ r.values) = omega arith in
      ap (after_values (v ∷ [])) later ∙ after_joined r.bad v r (readings_from (count + 1 + length r.values) (number + 1 + length ls) ms)
      ∙ ap (λ (n : ℕ). joined_by r.bad (after_values (v ∷ []) r) (readings_from n (number + 1 + length ls) ms)) longer
      ∙ ap (λ (n : ℕ). joined_by r.bad (after_values (v ∷ []) r) (readings_from (count + length (v ∷ r.values)) n ms)) next

  one_step : (g : Option (List ℤ)) → Step g
  one_step None = refl
  one_step (Some []) =
      let r = readings_from count (number + 1) ls in
      same ∙ ap (λ (n : ℕ). joined_by r.bad r (readings_from (count + length r.values) n ms)) next
  one_step (Some (v ∷ vs)) = taken (nat_lt count longest) v

pub more_lines : (count number : ℕ) (ls ms : List (List ℕ)) → Joins count number ls ms
more_lines count number [] ms =
    let same_count : count ≡ count + length {A = ℤ} [] = omega arith in
    let same_number : number ≡ number + length {A = List ℕ} [] = omega arith in
    ap (λ (n : ℕ). readings_from n number ms) same_count ∙ ap (λ (n : ℕ). readings_from (count + length {A = ℤ} []) n ms) same_number
more_lines count number (l ∷ ls) ms =
    one_step count number l ls ms (more_lines count (number + 1) ls ms) (more_lines (count + 1) (number + 1) ls ms) (line_gives l)

-- the readings of a text after whole lines
pub more_text : (text more : List ℕ) → AreEnded text →
    readings_of (text ++ more) ≡ joined_by (readings_of text).bad (readings_of text)
    (readings_from (0 + length (readings_of text).values) (1 + length (lines_of text)) (lines_of more))
more_text text more ended = ap (readings_from 0 1) (ended more) ∙ more_lines 0 1 (lines_of text) (lines_of more)

-- the lines of more readings
pub more_values : (m : ModelParts) (before xs ys : List ℤ) → values_lines m before (xs ++ ys) ≡ values_lines m before xs ++ values_lines m (before ++ xs) ys
more_values m before [] ys = ap (λ (zs : List ℤ). values_lines m zs ys) (sym (append-nil before))
more_values m before (x ∷ xs) ys =
    let first = values_line m (before ++ x ∷ []) in
    ap (λ (t : List ℕ). first ++ t) (more_values m (before ++ x ∷ []) xs ys)
    ∙ ap (λ (zs : List ℤ). first ++ (values_lines m (before ++ x ∷ []) xs ++ values_lines m zs ys)) (append_assoc before (x ∷ []) xs)
    ∙ sym (append_assoc first (values_lines m (before ++ x ∷ []) xs) (values_lines m (before ++ x ∷ xs) ys))

are_lines : (m : ModelParts) (before xs : List ℤ) → IsLines (values_lines m before xs)
are_lines m before [] = inl refl
are_lines m before (x ∷ xs) =
    lines_behind (values_line m (before ++ x ∷ [])) (values_lines m (before ++ x ∷ []) xs)
    (inr (decimal (length (before ++ x ∷ [])) ++ behind (map ext_text (values_on m (before ++ x ∷ []))), refl)) (are_lines m (before ++ x ∷ []) xs)

refusal_lines : (bad : Option ℕ) → IsLines (refusal_due bad)
refusal_lines None = inl refl
refusal_lines (Some number) = inr (codes "refused reading line " ++ decimal number, refl)

-- what was owed of readings begins what is owed of more, and the reply

module _ (m : ModelParts) where
  owed_by : (bad : Option ℕ) (values : List ℤ) (more : Readings) (r : Readings) → r ≡ record { values = values; bad = bad } →
      IsFront (values_due m r).text (values_due m (joined_by bad r more)).text
  owed_by (Some number) values more r is = front_all (values_due m r).text
  owed_by None values more r is = (
    values_lines m values more.values ++ refusal_due more.bad,
    ap (λ (t : List ℕ). t ++ refusal_due more.bad) (ap (λ (x : Readings). values_lines m [] (x.values ++ more.values)) is ∙ more_values m [] values more.values)
        ∙ append_assoc (values_lines m [] values) (values_lines m values more.values) (refusal_due more.bad)
        ∙ ap (λ (t : List ℕ). t ++ (values_lines m values more.values ++ refusal_due more.bad))
        (sym (ap (λ (x : Readings). (values_due m x).text) is ∙ append-nil (values_lines m [] values))),
  )

  replied_by : (bad : Option ℕ) (values : List ℤ) (more : Readings) (r : Readings) → r ≡ record { values = values; bad = bad } →
      IsFront (values_due m r).text (values_reply m (joined_by bad r more)).text
  replied_by (Some number) values more r is = (
    [],
    ap (λ (x : Readings). (values_reply m x).text) is ∙ sym (ap (λ (x : Readings). (values_due m x).text ++ []) is ∙ append-nil _),
  )
  replied_by None values more r is =
      let last = (last_line more.bad (length (r.values ++ more.values))).text in (
        values_lines m values more.values ++ last,
        ap (λ (t : List ℕ). t ++ last) (ap (λ (x : Readings). values_lines m [] (x.values ++ more.values)) is ∙ more_values m [] values more.values)
            ∙ append_assoc (values_lines m [] values) (values_lines m values more.values) last
            ∙ ap (λ (t : List ℕ). t ++ (values_lines m values more.values ++ last))
            (sym (ap (λ (x : Readings). (values_due m x).text) is ∙ append-nil (values_lines m [] values))),
      )

  closed_by : (bad : Option ℕ) (status : Status) (r more : Readings) → r.bad ≡ bad → end_due r.bad ≡ Some status →
      (joined_by bad r more ≡ r) × (values_reply m r ≡ record { text = (values_due m r).text; status = status })
  closed_by None status r more is ended = let wrong : None ≡ Some status = sym (ap end_due is) ∙ ended in absurd (cc)
  closed_by (Some number) status r more is ended =
      let same : Some Refused ≡ Some status = sym (ap end_due is) ∙ ended in
      let status_is : Refused ≡ status = cc in (
        refl,
        ap (λ b. record { text = values_lines m [] r.values ++ (last_line b (length r.values)).text; status = (last_line b (length r.values)).status }) is
            ∙ ap (λ b. record { text = values_lines m [] r.values ++ refusal_due b; status = Refused }) (sym is)
            ∙ ap (λ s. record { text = (values_due m r).text; status = s }) status_is,
      )

-- readings after whole lines of others

module _ (m : ModelParts) (rest more : List ℕ) (ended : AreEnded rest) where
  abbrev again : Readings
  again = readings_from (0 + length (readings_of rest).values) (1 + length (lines_of rest)) (lines_of more)

  lines_grow : IsFront (lines_due m rest).text (lines_due m (rest ++ more)).text
  lines_grow =
      subst (λ (x : Readings). IsFront (values_due m (readings_of rest)).text (values_due m x).text) (sym (more_text rest more ended))
      (owed_by m (readings_of rest).bad (readings_of rest).values again (readings_of rest) refl)

  lines_begin : IsFront (lines_due m rest).text (readings_reply m (rest ++ more)).text
  lines_begin =
      subst (λ (x : Readings). IsFront (values_due m (readings_of rest)).text (values_reply m x).text) (sym (more_text rest more ended))
      (replied_by m (readings_of rest).bad (readings_of rest).values again (readings_of rest) refl)

  lines_over : (status : Status) → (lines_due m rest).ended ≡ Some status → lines_due m (rest ++ more) ≡ lines_due m rest
  lines_over status e =
      ap (values_due m) (more_text rest more ended ∙ (closed_by m (readings_of rest).bad status (readings_of rest) again refl e).0)

  lines_close : (status : Status) → (lines_due m rest).ended ≡ Some status →
      readings_reply m (rest ++ more) ≡ record { text = (lines_due m rest).text; status = status }
  lines_close status e =
      let closed = closed_by m (readings_of rest).bad status (readings_of rest) again refl e in
      ap (values_reply m) (more_text rest more ended ∙ closed.0) ∙ closed.1

-- a refusal stays what it is

refusal_over : (r : Reply) (status : Status) → r.status ≡ Refused → (refused_due r).ended ≡ Some status →
    r ≡ record { text = (refused_due r).text; status = status }
refusal_over r status is e =
    let same : Refused ≡ status = cc in ap (λ s. record { text = r.text; status = s }) (is ∙ same)

-- by how the model in front was read

module _ (rest more : List ℕ) (ended : AreEnded rest) where
  pub due_grows : (found : Result ModelParts (ℕ × ModelKind)) → IsFront (due_on found rest).text (due_on found (rest ++ more)).text
  due_grows (Err bad) = front_all (refused_model bad.0 bad.1).text
  due_grows (Ok m) = go (has_window m) where
    go : (b : Bool) → IsFront (cond b (refused_due refused_window) (lines_due m rest)).text
        (cond b (refused_due refused_window) (lines_due m (rest ++ more))).text
    go true = front_all refused_window.text
    go false = lines_grow m rest more ended

  pub due_begins : (found : Result ModelParts (ℕ × ModelKind)) → IsFront (due_on found rest).text (reply_on found (rest ++ more)).text
  due_begins (Err bad) = front_all (refused_model bad.0 bad.1).text
  due_begins (Ok m) = go (has_window m) where
    go : (b : Bool) → IsFront (cond b (refused_due refused_window) (lines_due m rest)).text
        (cond b refused_window (readings_reply m (rest ++ more))).text
    go true = front_all refused_window.text
    go false = lines_begin m rest more ended

  pub due_over : (found : Result ModelParts (ℕ × ModelKind)) (status : Status) → (due_on found rest).ended ≡ Some status →
      due_on found (rest ++ more) ≡ due_on found rest
  due_over (Err bad) status e = refl
  due_over (Ok m) status e = go (has_window m) e where
    go : (b : Bool) → (cond b (refused_due refused_window) (lines_due m rest)).ended ≡ Some status →
        cond b (refused_due refused_window) (lines_due m (rest ++ more)) ≡ cond b (refused_due refused_window) (lines_due m rest)
    go true e = refl
    go false e = lines_over m rest more ended status e

  pub due_closes : (found : Result ModelParts (ℕ × ModelKind)) (status : Status) → (due_on found rest).ended ≡ Some status →
      reply_on found (rest ++ more) ≡ record { text = (due_on found rest).text; status = status }
  due_closes (Err bad) status e = refusal_over (refused_model bad.0 bad.1) status refl e
  due_closes (Ok m) status e = go (has_window m) e where
    go : (b : Bool) → (cond b (refused_due refused_window) (lines_due m rest)).ended ≡ Some status →
        cond b refused_window (readings_reply m (rest ++ more))
        ≡ record { text = (cond b (refused_due refused_window) (lines_due m rest)).text; status = status }
    go true e = refusal_over refused_window status refl e
    go false e = lines_close m rest more ended status e

pub due_lines : (found : Result ModelParts (ℕ × ModelKind)) (rest : List ℕ) → IsLines (due_on found rest).text
due_lines (Err bad) rest = inr (codes "refused model line " ++ decimal bad.0 ++ codes " " ++ kind_word bad.1, refl)
due_lines (Ok m) rest = go (has_window m) where
  go : (b : Bool) → IsLines (cond b (refused_due refused_window) (lines_due m rest)).text
  go true = inr (codes "refused window", refl)
  go false =
      let r = readings_of rest in lines_behind (values_lines m [] r.values) (refusal_due r.bad) (are_lines m [] r.values) (refusal_lines r.bad)

last_input : (bad : Option ℕ) (count : ℕ) → ComesOfInput (last_line bad count).status
last_input None count = tt
last_input (Some number) count = tt

pub reply_input : (found : Result ModelParts (ℕ × ModelKind)) (rest : List ℕ) → ComesOfInput (reply_on found rest).status
reply_input (Err bad) rest = tt
reply_input (Ok m) rest = go (has_window m) where
  go : (b : Bool) → ComesOfInput (cond b refused_window (readings_reply m rest)).status
  go true = tt
  go false = let r = readings_of rest in last_input r.bad (length r.values)

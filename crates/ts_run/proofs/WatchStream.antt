-- What `watch` owes is that of a stream: what was owed stays owed, whatever comes.
use Rattle.std.proofs.Common.{◌≡◌, ◌⊎◌, ℕ, inl, inr, Bool, true, false, not, cond, Some, None, List, [], ◌∷◌, ◌++◌, refl, sym, ◌∙◌, ap, subst, append_assoc, append-nil}
use Rattle.std.specs.Prelude.{unwrap_or}
use Rattle.std.specs.Option.{option_map}
use Rattle.std.specs.Cmp.Derive.{both_true}
use Rattle.std.specs.List.{AllByRecursion, concat}
use Rattle.ts_base.specs.Words.{is_lf, strict_lines}
use Rattle.ts_base.proofs.WordLaws.{lines_are}
use Rattle.ts_token.specs.Gist.{AreEnded}
use Rattle.ts_token.specs.Halves.{Halves, after_front, halves, halves_of, is_separator}
use Rattle.ts_token.proofs.GistLaws.{ended_append, ended_none}
use Rattle.ts_model.specs.declared.model.Need.TheVariants.{Values}
use Rattle.ts_model.specs.ModelReading.{model_reading}
use Rattle.ts_model.specs.ModelTexts.{AreWhole, EndsModel, IsFinished, IsUnfinished, whole_lines}
use Rattle.ts_model.proofs.LinePieces.{finished_first, lf_test, whole_append, whole_finished, whole_none, whole_unfinished}
use Rattle.ts_model.proofs.ModelTexts.{ended_line}
use Rattle.ts_run.specs.Streams.{Due, IsFront, IsLines, IsStream, nothing_due}
use Rattle.ts_run.specs.Watch.{due_in, due_on, reply_on, watch_due, watch_reply}
use Rattle.ts_run.specs.declared.status.Status.{Status}
use Rattle.ts_run.proofs.WatchReadings.{due_begins, due_closes, due_grows, due_lines, due_over, reply_input}

-- a text is lines with their LF, and a line without one

record IsCut (text : List ℕ) : Type 0 where
  lines : List (List ℕ)
  line : List ℕ
  parts : text ≡ concat lines ++ line
  each : AllByRecursion IsFinished lines
  free : IsUnfinished line

longer : (b : ℕ) (line : List ℕ) → IsFinished line → is_lf b ≡ false → IsFinished (b ∷ line)
longer b [] f e = let wrong : None ≡ Some f.0 = f.1 in absurd (cc)
longer b (c ∷ cs) f e = (b ∷ f.0, ap (option_map (λ (line : List ℕ). b ∷ line)) f.1, both_true (ap not e) f.2)

cut_on : (b : ℕ) (bs : List ℕ) (t : Bool) → is_lf b ≡ t → (lines : List (List ℕ)) (line : List ℕ) → bs ≡ concat lines ++ line →
    AllByRecursion IsFinished lines → IsUnfinished line → IsCut (b ∷ bs)
cut_on b bs true e lines line parts each free = record {
  lines = (b ∷ []) ∷ lines;
  line = line;
  parts = ap (λ (x : List ℕ). b ∷ x) parts;
  each = (([], ap (λ t. cond t (Some []) None) (lf_test b ∙ e), refl), each);
  free = free;
}
cut_on b bs false e [] line parts each free = record {
  lines = [];
  line = b ∷ line;
  parts = ap (λ (x : List ℕ). b ∷ x) parts;
  each = tt;
  free = both_true (ap not e) free;
}
cut_on b bs false e (l ∷ ls) line parts each free = record {
  lines = (b ∷ l) ∷ ls;
  line = line;
  parts = ap (λ (x : List ℕ). b ∷ x) parts;
  each = (longer b l each.0 e, each.1);
  free = free;
}

cut : (text : List ℕ) → IsCut text
cut [] = record { lines = []; line = []; parts = refl; each = tt; free = refl }
cut (b ∷ bs) = let c = cut bs in cut_on b bs (is_lf b) refl c.lines c.line c.parts c.each c.free

-- lines with their LF

lines_first : (ls : List (List ℕ)) (more : List ℕ) → AllByRecursion IsFinished ls → strict_lines (concat ls ++ more) ≡ ls ++ strict_lines more
lines_first [] more each = refl
lines_first (l ∷ ls) more each =
    ap strict_lines (append_assoc l (concat ls) more) ∙ finished_first l (concat ls ++ more) each.0
    ∙ ap (λ (x : List (List ℕ)). l ∷ x) (lines_first ls more each.1)

whole_all : (ls : List (List ℕ)) → AllByRecursion IsFinished ls → AreWhole (concat ls)
whole_all [] each = whole_none
whole_all (l ∷ ls) each = whole_append l (concat ls) (whole_finished l each.0) (whole_all ls each.1)

ended_all : (ls : List (List ℕ)) → AllByRecursion IsFinished ls → AreEnded (concat ls)
ended_all [] each = ended_none
ended_all (l ∷ ls) each = ended_append l (concat ls) (ended_line l each.0) (ended_all ls each.1)

concat_two : (a b : List (List ℕ)) → concat (a ++ b) ≡ concat a ++ concat b
concat_two [] b = refl
concat_two (l ∷ ls) b = ap (λ (x : List ℕ). l ++ x) (concat_two ls b) ∙ sym (append_assoc l (concat ls) (concat b))

-- the first of them that is `%%`

record IsMarked (ls : List (List ℕ)) : Type 0 where
  model : List ℕ
  front : List (List ℕ)
  rest : List (List ℕ)
  parts : ls ≡ front ++ rest
  each_front : AllByRecursion IsFinished front
  each_rest : AllByRecursion IsFinished rest
  ends : (more : List (List ℕ)) → halves (front ++ more) ≡ record { model = model; rest = Some (concat more) }

-- no line is `%%`
abbrev IsUnmarked : List (List ℕ) → Type 0
IsUnmarked ls = (halves ls).rest ≡ None

mark_on : (l : List ℕ) (ls : List (List ℕ)) (t : Bool) → is_separator l ≡ t → AllByRecursion IsFinished (l ∷ ls) → IsMarked ls ⊎ IsUnmarked ls →
    IsMarked (l ∷ ls) ⊎ IsUnmarked (l ∷ ls)
mark_on l ls true e each h = inl (record {
  model = [];
  front = l ∷ [];
  rest = ls;
  parts = refl;
  each_front = (each.0, tt);
  each_rest = each.1;
  ends = λ more. ap (λ t. cond {A = Halves} t (record { model = []; rest = Some (concat more) }) (after_front l (halves more))) e;
})
mark_on l ls false e each (inl h) = inl (record {
  model = l ++ h.model;
  front = l ∷ h.front;
  rest = h.rest;
  parts = ap (λ (x : List (List ℕ)). l ∷ x) h.parts;
  each_front = (each.0, h.each_front);
  each_rest = h.each_rest;
  ends = λ more.
      ap (λ t. cond {A = Halves} t (record { model = []; rest = Some (concat (h.front ++ more)) }) (after_front l (halves (h.front ++ more)))) e
      ∙ ap (after_front l) (h.ends more);
})
mark_on l ls false e each (inr h) =
    inr (ap (λ t. (cond {A = Halves} t (record { model = []; rest = Some (concat ls) }) (after_front l (halves ls))).rest) e ∙ h)

marks : (ls : List (List ℕ)) → AllByRecursion IsFinished ls → IsMarked ls ⊎ IsUnmarked ls
marks [] each = inr refl
marks (l ∷ ls) each = mark_on l ls (is_separator l) refl each (marks ls each.1)

-- what bytes owe after the model, and the reply to them

module _ (text front : List ℕ) (ends : EndsModel text front) (whole : AreWhole front) where
  pub due_behind_model : (more : List ℕ) → watch_due (front ++ more) ≡ due_on (model_reading Values text) (whole_lines more)
  due_behind_model more = ap (λ (x : List ℕ). due_in (halves_of x)) (whole more) ∙ ap due_in (ends (whole_lines more))

  pub reply_behind_model : (more : List ℕ) → watch_reply (front ++ more) ≡ reply_on (model_reading Values text) more
  reply_behind_model more = ap (λ (h : Halves). reply_on (model_reading Values h.model) (unwrap_or h.rest [])) (ends more)

-- a stream after its model, or in it

record IsBehind (bytes : List ℕ) : Type 0 where
  text : List ℕ
  front : List ℕ
  rest : List ℕ
  line : List ℕ
  parts : bytes ≡ front ++ (rest ++ line)
  ends : EndsModel text front
  whole : AreWhole front
  whole_rest : AreWhole rest
  ended : AreEnded rest
  free : IsUnfinished line

pub due_none : (h : Halves) → h.rest ≡ None → due_in h ≡ nothing_due
due_none h none = ap (λ o. due_in (record { model = h.model; rest = o })) none

module _ (bytes : List ℕ) (c : IsCut bytes) where
  whole_is : whole_lines bytes ≡ concat c.lines
  whole_is =
      ap whole_lines c.parts ∙ whole_all c.lines c.each c.line ∙ ap (λ (x : List ℕ). concat c.lines ++ x) (whole_unfinished c.line c.free)
      ∙ append-nil (concat c.lines)

  halves_are : halves_of (concat c.lines) ≡ halves c.lines
  halves_are =
      ap halves_of (sym (append-nil (concat c.lines))) ∙ ap halves (lines_first c.lines [] c.each) ∙ ap halves (append-nil c.lines)

  in_model : IsUnmarked c.lines → watch_due bytes ≡ nothing_due
  in_model h = ap (λ (x : List ℕ). due_in (halves_of x)) whole_is ∙ ap due_in halves_are ∙ due_none (halves c.lines) h

  behind_model : IsMarked c.lines → IsBehind bytes
  behind_model h = record {
    text = h.model;
    front = concat h.front;
    rest = concat h.rest;
    line = c.line;
    parts = c.parts ∙ ap (λ (x : List (List ℕ)). concat x ++ c.line) h.parts ∙ ap (λ (x : List ℕ). x ++ c.line) (concat_two h.front h.rest)
        ∙ append_assoc (concat h.front) (concat h.rest) c.line;
    ends = λ more.
        ap halves (lines_first h.front more h.each_front) ∙ h.ends (strict_lines more)
        ∙ ap (λ (x : List ℕ). record { model = h.model; rest = Some x }) (lines_are more);
    whole = whole_all h.front h.each_front;
    whole_rest = whole_all h.rest h.each_rest;
    ended = ended_all h.rest h.each_rest;
    free = c.free;
  }

  where_it_is : IsMarked c.lines ⊎ IsUnmarked c.lines → IsBehind bytes ⊎ (watch_due bytes ≡ nothing_due)
  where_it_is (inl h) = inl (behind_model h)
  where_it_is (inr h) = inr (in_model h)

place : (bytes : List ℕ) → IsBehind bytes ⊎ (watch_due bytes ≡ nothing_due)
place bytes = let c = cut bytes in where_it_is bytes c (marks c.lines c.each)

-- the laws of a stream

module _ (bytes : List ℕ) (h : IsBehind bytes) where
  due_is : watch_due bytes ≡ due_on (model_reading Values h.text) h.rest
  due_is =
      ap watch_due h.parts ∙ due_behind_model h.text h.front h.ends h.whole (h.rest ++ h.line)
      ∙ ap (due_on (model_reading Values h.text))
      (h.whole_rest h.line ∙ ap (λ (x : List ℕ). h.rest ++ x) (whole_unfinished h.line h.free) ∙ append-nil h.rest)

  due_later : (more : List ℕ) → watch_due (bytes ++ more) ≡ due_on (model_reading Values h.text) (h.rest ++ whole_lines (h.line ++ more))
  due_later more =
      ap watch_due (ap (λ (x : List ℕ). x ++ more) h.parts ∙ append_assoc h.front (h.rest ++ h.line) more
      ∙ ap (λ (x : List ℕ). h.front ++ x) (append_assoc h.rest h.line more))
      ∙ due_behind_model h.text h.front h.ends h.whole (h.rest ++ (h.line ++ more))
      ∙ ap (due_on (model_reading Values h.text)) (h.whole_rest (h.line ++ more))

  reply_is : watch_reply bytes ≡ reply_on (model_reading Values h.text) (h.rest ++ h.line)
  reply_is = ap watch_reply h.parts ∙ reply_behind_model h.text h.front h.ends h.whole (h.rest ++ h.line)

front_none : (d : Due) (text : List ℕ) → d ≡ nothing_due → IsFront d.text text
front_none d text none = subst (λ (x : Due). IsFront x.text text) (sym none) (text, refl)

goes_on : (d : Due) (status : Status) → d ≡ nothing_due → d.ended ≡ Some status → ⊥
goes_on d status none e = let wrong : None ≡ Some status = sym (ap (λ (x : Due). x.ended) none) ∙ e in cc

grows : (bytes more : List ℕ) → IsBehind bytes ⊎ (watch_due bytes ≡ nothing_due) → IsFront (watch_due bytes).text (watch_due (bytes ++ more)).text
grows bytes more (inr none) = front_none (watch_due bytes) _ none
grows bytes more (inl h) =
    subst (λ (x : Due). IsFront x.text (watch_due (bytes ++ more)).text) (sym (due_is bytes h))
    (subst (λ (x : Due). IsFront (due_on (model_reading Values h.text) h.rest).text x.text) (sym (due_later bytes h more))
    (due_grows h.rest (whole_lines (h.line ++ more)) h.ended (model_reading Values h.text)))

begins : (bytes : List ℕ) → IsBehind bytes ⊎ (watch_due bytes ≡ nothing_due) → IsFront (watch_due bytes).text (watch_reply bytes).text
begins bytes (inr none) = front_none (watch_due bytes) _ none
begins bytes (inl h) =
    subst (λ (x : Due). IsFront x.text (watch_reply bytes).text) (sym (due_is bytes h))
    (subst (λ r. IsFront (due_on (model_reading Values h.text) h.rest).text r.text) (sym (reply_is bytes h))
    (due_begins h.rest h.line h.ended (model_reading Values h.text)))

lines : (bytes : List ℕ) → IsBehind bytes ⊎ (watch_due bytes ≡ nothing_due) → IsLines (watch_due bytes).text
lines bytes (inr none) = subst (λ (x : Due). IsLines x.text) (sym none) (inl refl)
lines bytes (inl h) = subst (λ (x : Due). IsLines x.text) (sym (due_is bytes h)) (due_lines (model_reading Values h.text) h.rest)

module _ (bytes : List ℕ) (status : Status) (ended : (watch_due bytes).ended ≡ Some status) where
  over : (more : List ℕ) → IsBehind bytes ⊎ (watch_due bytes ≡ nothing_due) → watch_due (bytes ++ more) ≡ watch_due bytes
  over more (inr none) = absurd (goes_on (watch_due bytes) status none ended)
  over more (inl h) =
      due_later bytes h more
      ∙ due_over h.rest (whole_lines (h.line ++ more)) h.ended (model_reading Values h.text) status (sym (ap (λ (x : Due). x.ended) (due_is bytes h)) ∙ ended)
      ∙ sym (due_is bytes h)

  closes : IsBehind bytes ⊎ (watch_due bytes ≡ nothing_due) → watch_reply bytes ≡ record { text = (watch_due bytes).text; status = status }
  closes (inr none) = absurd (goes_on (watch_due bytes) status none ended)
  closes (inl h) =
      reply_is bytes h
      ∙ due_closes h.rest h.line h.ended (model_reading Values h.text) status (sym (ap (λ (x : Due). x.ended) (due_is bytes h)) ∙ ended)
      ∙ ap (λ (x : Due). record { text = x.text; status = status }) (sym (due_is bytes h))

pub watch_stream : IsStream watch_due watch_reply
watch_stream = record {
  opens = refl;
  grows = λ bytes more. grows bytes more (place bytes);
  lines = λ bytes. lines bytes (place bytes);
  over = λ bytes more status e. over bytes status e more (place bytes);
  begins = λ bytes. begins bytes (place bytes);
  closes = λ bytes status e. closes bytes status e (place bytes);
  input = λ bytes. reply_input (model_reading Values (halves_of bytes).model) (unwrap_or (halves_of bytes).rest []);
}

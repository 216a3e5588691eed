-- A line of readings more: what it gives, and what it adds.
use Rattle.std.proofs.Common.{◌≡◌, ℕ, ◌+◌, ◌<◌, ◌≤◌, ℤ, Bool, true, false, cond, nat_lt, Option, Some, None, Ok, List, [], ◌∷◌, ◌++◌, length, map, refl, sym, ◌∙◌, ap, subst, arith, append_assoc, append-nil, length-append}
use Rattle.std.specs.Prelude.{IfOk, OnErr, OnOk, Result, Err, String, option_map}
use Rattle.std.specs.Global.{Global}
use Rattle.std.proofs.lemmas.Bool.Decides.{nat_tests}
use Rattle.std.proofs.lemmas.List.{length-map}
use Rattle.ts_base.specs.declared.ext.Ext.{Ext}
use Rattle.ts_base.specs.Limits.{most_terms, too_many}
use Rattle.ts_base.specs.Words.{without_lf}
use Rattle.ts_compile.specs.Programs.{terms_of}
use Rattle.ts_pattern.specs.declared.term.Term.{Term}
use Rattle.ts_pattern.specs.TermValue.{term_value}
use Rattle.ts_model.specs.declared.model.Model.{Model}
use Rattle.ts_base.specs.Windows.{looked_at}
use Rattle.ts_base.specs.declared.range.Range.{Range}
use Rattle.ts_model.specs.declared.model.ModelTerm.{ModelTerm}
use Rattle.ts_model.specs.TermValue.{has_window, stated_value}
use Rattle.ts_model.specs.Views.{model_parts, stated_of, term_of, terms_in}
use Rattle.ts_model.proofs.TermWindows.{any_window, none_windowed}
use Rattle.ts_decorate.specs.Answers.{longest}
use Rattle.ts_token.specs.Gist.{AreEnded, IsLine, StandsFor, gist, heads, without_end}
use Rattle.ts_token.specs.Short.{IsShort, TakesIn}
use Rattle.ts_token.specs.Text.{Piece, is_skipped, is_text, lines_of, words_of}
use Rattle.ts_token.proofs.LineLaws.{text_lines_few}
use Rattle.ts_token.proofs.GistLaws.{ended_append, ended_none, same_gist, unfinished_line}
use Rattle.ts_model.specs.Meets.{values_on}
use Rattle.ts_model.specs.Series.{value_of}
use Rattle.ts_model.specs.ModelParts.{ModelParts}
use Rattle.ts_model.specs.ModelTexts.{IsFinished, IsPart, whole_lines}
use Rattle.ts_model.proofs.LinePieces.{joins, part_ends, part_open, whole_append, whole_finished, whole_none, whole_unfinished}
use Rattle.ts_model.proofs.LongWords.{value_kept}
use Rattle.ts_model.proofs.ModelTexts.{ended_line, one_line}
use Rattle.ts_monitor.specs.Monitors.{StandsFor as Stands, Watched}
use Rattle.ts_run.specs.Streams.{AddsDue, AddsReply, Due}
use Rattle.ts_run.specs.Watch.{Readings, after_values, bad_at, end_of, line_gives, line_onto, lines_due, only_value, readings_due, readings_from, readings_of, readings_reply, refused_reading, values_due, values_line, values_lines, values_reply, words_give}
use Rattle.ts_run.specs.Watching.{AreReadings, EndsLine, HasTaken, HasTerms, MayRead, ReadsLine}
use Rattle.ts_run.specs.declared.readings.ReadingsText.{ReadingsText}
use Rattle.ts_run.specs.declared.status.Status.{Status}
use Rattle.ts_run.specs.declared.status.Status.TheVariants.{Done, Refused}
use Rattle.ts_run.proofs.WatchReadings.{joined_by, more_text, more_values}

-- a line gives what bytes give that stand for it

abbrev gist_gives : Option (List (List ℕ)) → Option (List ℤ)
gist_gives None = None
gist_gives (Some []) = Some []
gist_gives (Some (h ∷ [])) = option_map (λ v. v ∷ []) (value_of h)
gist_gives (Some (h ∷ g ∷ hs)) = None

by_words : (ws : List Piece) → words_give ws ≡ gist_gives (Some (cond (is_skipped ws) [] (heads ws)))
by_words [] = refl
by_words (w ∷ []) = go (is_skipped (w ∷ []))
  where
    go : (t : Bool) → cond t (Some []) (only_value (w ∷ [])) ≡ gist_gives (Some (cond t [] (heads (w ∷ []))))
    go true = refl
    go false = ap (option_map (λ v. v ∷ [])) (sym (value_kept w.text))
by_words (w ∷ v ∷ ws) = go (is_skipped (w ∷ v ∷ ws))
  where
    go : (t : Bool) → cond t (Some []) None ≡ gist_gives (Some (cond t [] (heads (w ∷ v ∷ ws))))
    go true = refl
    go false = refl

by_gist : (line : List ℕ) → line_gives line ≡ gist_gives (gist line)
by_gist line = go (is_text line)
  where
    go : (t : Bool) → cond t (words_give (words_of line)) None ≡ gist_gives (cond t (Some (cond (is_skipped (words_of line)) [] (heads (words_of line)))) None)
    go true = by_words (words_of line)
    go false = refl

pub same_gives : (given line : List ℕ) → StandsFor given line → IsLine line → line_gives (without_end given) ≡ line_gives (without_end line)
same_gives given line same is = by_gist (without_end given) ∙ ap gist_gives (same_gist given line same is) ∙ sym (by_gist (without_end line))

-- the readings of a text with a line more

abbrev none_more : ℕ → Readings
none_more n = record { values = []; bad = None }

line_more : (text line : List ℕ) (values : List ℤ) → AreEnded text → IsLine line → readings_of text ≡ record { values = values; bad = None } →
    readings_of (text ++ line) ≡ after_values values (line_onto (length values) (1 + length (lines_of text)) (line_gives (without_end line)) none_more)
line_more text line values ended is good =
    more_text text line ended
    ∙ ap (λ (r : Readings). joined_by r.bad r (readings_from (0 + length r.values) (1 + length (lines_of text)) (lines_of line))) good
    ∙ ap (λ (ls : List (List ℕ)). after_values values (readings_from (0 + length values) (1 + length (lines_of text)) ls)) is
    ∙ ap (λ (n : ℕ). after_values values (line_onto n (1 + length (lines_of text)) (line_gives (without_end line)) none_more)) (omega arith)

count_more : (text line : List ℕ) → AreEnded text → IsLine line → length (lines_of (text ++ line)) ≡ length (lines_of text) + 1
count_more text line ended is =
    ap (λ (ls : List (List ℕ)). length ls) (ended line ∙ ap (λ (ls : List (List ℕ)). lines_of text ++ ls) is) ∙ pushed (lines_of text) (without_end line)
  where
    pushed : (ls : List (List ℕ)) (l : List ℕ) → length (ls ++ l ∷ []) ≡ length ls + 1
    pushed [] l = omega arith
    pushed (k ∷ ks) l = let n = pushed ks l in omega (arith, n)

-- the line is read

module _ (old : ReadingsText) (given : List ℕ) (stands : (l : List ℕ) → IsShort l old.line → StandsFor given l) (m : ModelParts) (text line : List ℕ)
    (values : List ℤ) (ended : AreEnded text) (is : IsLine line) (short : IsShort line old.line) (h : HasTaken m text values old) where
  gives_is : (gives : Option (List ℤ)) → line_gives (without_end given) ≡ gives → line_gives (without_end line) ≡ gives
  gives_is gives e = sym (same_gives given line (stands line short) is) ∙ e

  read_as : (gives : Option (List ℤ)) → line_gives (without_end given) ≡ gives →
      readings_of (text ++ line) ≡ after_values values (line_onto (length values) (1 + length (lines_of text)) gives none_more)
  read_as gives e =
      line_more text line values ended is h.good
      ∙ ap (λ g. after_values values (line_onto (length values) (1 + length (lines_of text)) g none_more)) (gives_is gives e)

  taken_more : (new : ReadingsText) (more : List ℤ) → readings_of (text ++ line) ≡ record { values = values ++ more; bad = None } →
      new.lines ≡ old.lines + 1 → Stands new.monitor (values ++ more) → HasTerms m new.monitor → HasTaken m (text ++ line) (values ++ more) new
  taken_more new more good one stands_now terms = record {
    good = good;
    count = one ∙ ap (λ (n : ℕ). n + 1) h.count ∙ sym (count_more text line ended is);
    stands = stands_now;
    terms = terms;
  }

  pub line_skipped : (new : ReadingsText) (before after : List ℕ) → line_gives (without_end given) ≡ Some [] → after ≡ before → new.lines ≡ old.lines + 1 →
      new.monitor ≡ old.monitor → IsShort [] new.line → EndsLine m (text ++ line) values before after None new
  line_skipped new before after gives same one monitor cleared = (
    [],
    same ∙ sym (append-nil before),
    taken_more new [] (read_as (Some []) gives) one
        (subst (λ w. Stands w (values ++ [])) (sym monitor) (subst (λ (xs : List ℤ). Stands old.monitor xs) (sym (append-nil values)) h.stands))
        (subst (λ w. HasTerms m w) (sym monitor) h.terms),
    cleared,
  )

  pub line_read : (v : ℤ) (new : ReadingsText) (before after : List ℕ) → line_gives (without_end given) ≡ Some (v ∷ []) →
      nat_lt (length values) longest ≡ true → after ≡ before ++ values_line m (values ++ v ∷ []) → new.lines ≡ old.lines + 1 →
      Stands new.monitor (values ++ v ∷ []) → HasTerms m new.monitor → IsShort [] new.line → EndsLine m (text ++ line) values before after None new
  line_read v new before after gives room put one stands_now terms cleared = (
    v ∷ [],
    put ∙ ap (λ (t : List ℕ). before ++ t) (sym (append-nil (values_line m (values ++ v ∷ [])))),
    taken_more new (v ∷ [])
        (read_as (Some (v ∷ [])) gives
        ∙ ap (λ t. after_values values (cond t (after_values (v ∷ []) (none_more (length values + 1))) (bad_at (1 + length (lines_of text))))) room)
        one stands_now terms,
    cleared,
  )

  pub line_bad : (new : ReadingsText) (before after : List ℕ) (number : ℕ) (status : Status) →
      ((n : ℕ) (next : ℕ → Readings) → line_onto (length values) n (line_gives (without_end given)) next ≡ bad_at n) → number ≡ old.lines + 1 →
      after ≡ before ++ (refused_reading number).text → status ≡ Refused → EndsLine m (text ++ line) values before after (Some status) new
  line_bad new before after number status bad one put same = (
    number,
    read_as (line_gives (without_end given)) refl ∙ ap (after_values values) (bad (1 + length (lines_of text)) none_more)
        ∙ ap (λ (xs : List ℤ). record { values = xs; bad = Some (1 + length (lines_of text)) }) (append-nil values)
        ∙ ap (λ (n : ℕ). record { values = values; bad = Some n }) (numbered one h.count),
    same,
    put,
  )
    where
      numbered : number ≡ old.lines + 1 → old.lines ≡ length (lines_of text) → 1 + length (lines_of text) ≡ number
      numbered e f = omega (arith, e, f)

-- a part of a line

module _ (m : ModelParts) (bytes part : List ℕ) (old : ReadingsText) (h : AreReadings m bytes old) where
  whole_is : whole_lines bytes ≡ h.text
  whole_is =
      ap whole_lines h.parts ∙ h.whole h.line ∙ ap (λ (x : List ℕ). h.text ++ x) (whole_unfinished h.line h.free) ∙ append-nil h.text

  pub due_is : readings_due m bytes ≡ record { text = values_lines m [] h.values; ended = None }
  due_is =
      ap (lines_due m) whole_is ∙ ap (values_due m) h.taken.good
      ∙ ap (λ (t : List ℕ). record { text = t; ended = None }) (append-nil (values_lines m [] h.values))

  parts_more : bytes ++ part ≡ h.text ++ (h.line ++ part)
  parts_more = ap (λ (x : List ℕ). x ++ part) h.parts ∙ append_assoc h.text h.line part

  -- a part of a line without an LF

  module _ (new : ReadingsText) (lines : new.lines ≡ old.lines) (monitor : new.monitor ≡ old.monitor) (pushed : TakesIn old.line part new.line)
      (none : without_lf part ≡ None) (is : IsPart part) where
    pub on_line : AreReadings m (bytes ++ part) new
    on_line = record {
      text = h.text;
      line = h.line ++ part;
      values = h.values;
      parts = parts_more;
      ended = h.ended;
      whole = h.whole;
      taken = record {
        good = h.taken.good;
        count = lines ∙ h.taken.count;
        stands = subst (λ w. Stands w h.values) (sym monitor) h.taken.stands;
        terms = subst (λ w. HasTerms m w) (sym monitor) h.taken.terms;
      };
      free = joins h.line part h.free (part_open part none is);
      short = pushed h.line h.short;
    }

  -- a part of a line with its LF

  module _ (bare : List ℕ) (some : without_lf part ≡ Some bare) (is : IsPart part) where
    line_is : IsFinished (h.line ++ part)
    line_is = part_ends h.line part bare h.free some is

    whole_now : whole_lines (bytes ++ part) ≡ h.text ++ (h.line ++ part)
    whole_now =
        ap whole_lines (parts_more ∙ sym (append-nil (h.text ++ (h.line ++ part))))
        ∙ whole_append h.text (h.line ++ part) h.whole (whole_finished (h.line ++ part) line_is) [] ∙ append-nil (h.text ++ (h.line ++ part))

    due_now : (r : Readings) → readings_of (h.text ++ (h.line ++ part)) ≡ r → readings_due m (bytes ++ part) ≡ values_due m r
    due_now r e = ap (lines_due m) whole_now ∙ ap (values_due m) e

    pub line_adds : (before after : List ℕ) (ended : Option Status) (new : ReadingsText) →
        EndsLine m (h.text ++ (h.line ++ part)) h.values before after ended new → AddsDue (readings_due m) bytes part before after
    line_adds before after None new e = (
      values_lines m h.values e.0,
      e.1,
      ap (λ (d : Due). d.text) (due_now (record { values = h.values ++ e.0; bad = None }) e.2.good) ∙ append-nil (values_lines m [] (h.values ++ e.0))
          ∙ more_values m [] h.values e.0 ∙ ap (λ (d : Due). d.text ++ values_lines m h.values e.0) (sym due_is),
    )
    line_adds before after (Some status) new e = (
      (refused_reading e.0).text,
      e.3,
      ap (λ (d : Due). d.text) (due_now (record { values = h.values; bad = Some e.0 }) e.1)
          ∙ ap (λ (d : Due). d.text ++ (refused_reading e.0).text) (sym due_is),
    )

    pub line_ends : (before after : List ℕ) (ended : Option Status) (new : ReadingsText) →
        EndsLine m (h.text ++ (h.line ++ part)) h.values before after ended new → (readings_due m (bytes ++ part)).ended ≡ ended
    line_ends before after None new e = ap (λ (d : Due). d.ended) (due_now (record { values = h.values ++ e.0; bad = None }) e.2.good)
    line_ends before after (Some status) new e =
        ap (λ (d : Due). d.ended) (due_now (record { values = h.values; bad = Some e.0 }) e.1) ∙ ap (λ (s : Status). Some s) (sym e.2)

    pub line_on : (before after : List ℕ) (new : ReadingsText) → EndsLine m (h.text ++ (h.line ++ part)) h.values before after None new →
        AreReadings m (bytes ++ part) new
    line_on before after new e = record {
      text = h.text ++ (h.line ++ part);
      line = [];
      values = h.values ++ e.0;
      parts = parts_more ∙ sym (append-nil (h.text ++ (h.line ++ part)));
      ended = ended_append h.text (h.line ++ part) h.ended (ended_line (h.line ++ part) line_is);
      whole = whole_append h.text (h.line ++ part) h.whole (whole_finished (h.line ++ part) line_is);
      taken = e.2;
      free = refl;
      short = e.3;
    }

-- a part without an LF adds nothing
module _ (m : ModelParts) (bytes part : List ℕ) (old new : ReadingsText) (h : AreReadings m bytes old) (lines : new.lines ≡ old.lines)
    (monitor : new.monitor ≡ old.monitor) (pushed : TakesIn old.line part new.line) (none : without_lf part ≡ None) (is : IsPart part) where
  then_on_line : AreReadings m (bytes ++ part) new
  then_on_line = on_line m bytes part old h new lines monitor pushed none is

  pub on_line_adds : (before after : List ℕ) → after ≡ before → AddsDue (readings_due m) bytes part before after
  unfolding then_on_line on_line
  on_line_adds before after same = (
    [],
    same ∙ sym (append-nil before),
    ap (λ (d : Due). d.text) (due_is m (bytes ++ part) [] new then_on_line ∙ sym (due_is m bytes [] old h)) ∙ sym (append-nil (readings_due m bytes).text),
  )

  pub on_line_open : (readings_due m (bytes ++ part)).ended ≡ None
  on_line_open = ap (λ (d : Due). d.ended) (due_is m (bytes ++ part) [] new then_on_line)

-- the line of a part with its LF is read
module _ (m : ModelParts) (bytes part : List ℕ) (old mid new : ReadingsText) (h : AreReadings m bytes old) (lines : mid.lines ≡ old.lines)
    (monitor : mid.monitor ≡ old.monitor) (pushed : TakesIn old.line part mid.line) (bare : List ℕ)
    (some : without_lf part ≡ Some bare) (is : IsPart part) where
  pub mid_taken : HasTaken m h.text h.values mid
  mid_taken = record {
    good = h.taken.good;
    count = lines ∙ h.taken.count;
    stands = subst (λ w. Stands w h.values) (sym monitor) h.taken.stands;
    terms = subst (λ w. HasTerms m w) (sym monitor) h.taken.terms;
  }

  pub may_end : length bytes + length part < too_many → MayRead mid
  may_end few =
      let long = ap (λ (x : List ℕ). length x) h.parts ∙ length-append h.text h.line in
      let line_long = length-append h.line part in
      record {
        model = m;
        text = h.text;
        line = h.line ++ part;
        values = h.values;
        taken = mid_taken;
        short = pushed h.line h.short;
        few = omega (arith, long, line_long, few);
      }

  pub line_come : (before after : List ℕ) (ended : Option Status) → ReadsLine mid before after ended new →
      EndsLine m (h.text ++ (h.line ++ part)) h.values before after ended new
  line_come before after ended reads =
      let f = part_ends h.line part bare h.free some is in
      reads m h.text (h.line ++ part) h.values h.ended (one_line (h.line ++ part) f) (pushed h.line h.short) mid_taken

-- the line may end after a last line without an LF
pub may_end_last : (m : ModelParts) (bytes : List ℕ) (old : ReadingsText) → AreReadings m bytes old → length bytes < too_many → MayRead old
may_end_last m bytes old h few =
    let long = ap (λ (x : List ℕ). length x) h.parts ∙ length-append h.text h.line in
    record {
      model = m;
      text = h.text;
      line = h.line;
      values = h.values;
      taken = h.taken;
      short = h.short;
      few = omega (arith, long, few);
    }

-- the terms of a monitor stay
pub same_terms : (m : ModelParts) (old new : Watched) → new.terms ≡ old.terms → HasTerms m old → HasTerms m new
same_terms m old new same h = record {
  values = subst (λ (ts : List Term). (xs : List ℤ) → map (λ t. term_value t xs) ts ≡ values_on m xs) (sym same) h.values;
  few = subst (λ (ts : List Term). length ts ≤ most_terms) (sym same) h.few;
}

-- the lines are as few as the bytes
pub few_lines : (r : ReadingsText) → MayRead r → r.lines < too_many
few_lines r h =
    let count = h.taken.count in
    let lines = text_lines_few h.text in
    let few = h.few in
    omega (arith, count, lines, few)

-- what is kept of the line is no longer than the line
pub few_kept : (r : ReadingsText) (kept : List ℕ) (h : MayRead r) → ((line : List ℕ) → IsShort line r.line → length kept ≤ length line) → length kept < too_many
few_kept r kept h short =
    let long = short h.line h.short in
    let few = h.few in
    omega (arith, long, few)

-- the input ends

module _ (m : ModelParts) (bytes : List ℕ) (old : ReadingsText) (h : AreReadings m bytes old) where
  replies : (r : Readings) (before after more : List ℕ) (status : Status) → readings_of bytes ≡ r → after ≡ before ++ more →
      values_reply m r ≡ record { text = values_lines m [] h.values ++ more; status = status } →
      AddsReply (readings_due m bytes) (readings_reply m bytes) before after status
  replies r before after more status e put is = (
    more,
    put,
    ap (values_reply m) e ∙ is ∙ ap (λ (d : Due). record { text = d.text ++ more; status = status }) (sym (due_is m bytes [] old h)),
  )

  -- the input ends after a line with its LF
  pub ends_none : (before after : List ℕ) (count : ℕ) (status : Status) → ((l : List ℕ) → IsShort l old.line → l ≡ []) → count ≡ old.monitor.count →
      after ≡ before ++ (end_of count).text → status ≡ Done → AddsReply (readings_due m bytes) (readings_reply m bytes) before after status
  ends_none before after count status none counted put same =
      let whole : bytes ≡ h.text = h.parts ∙ ap (λ (x : List ℕ). h.text ++ x) (none h.line h.short) ∙ append-nil h.text in
      let long : count ≡ length h.values = counted ∙ h.taken.stands.count in
      replies (record { values = h.values; bad = None }) before after (end_of count).text status (ap readings_of whole ∙ h.taken.good) put
      (ap (λ (n : ℕ). record { text = values_lines m [] h.values ++ (end_of n).text; status = Done }) (sym long)
      ∙ ap (λ (s : Status). record { text = values_lines m [] h.values ++ (end_of count).text; status = s }) (sym same))

  module _ (new : ReadingsText) (some : (l : List ℕ) → IsShort l old.line → 0 < length l) (before mid : List ℕ) where
    last_line_come : (ended : Option Status) → ReadsLine old before mid ended new → EndsLine m (h.text ++ h.line) h.values before mid ended new
    last_line_come ended reads =
        reads m h.text h.line h.values h.ended (unfinished_line h.line h.free (some h.line h.short)) h.short h.taken

    -- the input ends after a last line without an LF, which is good
    pub ends_good : (after : List ℕ) (count : ℕ) (status : Status) → ReadsLine old before mid None new → count ≡ new.monitor.count →
        after ≡ mid ++ (end_of count).text → status ≡ Done → AddsReply (readings_due m bytes) (readings_reply m bytes) before after status
    ends_good after count status reads counted put same =
        let e = last_line_come None reads in
        let long : count ≡ length (h.values ++ e.0) = counted ∙ e.2.stands.count in
        replies (record { values = h.values ++ e.0; bad = None }) before after (values_lines m h.values e.0 ++ (end_of count).text) status
        (ap readings_of h.parts ∙ e.2.good)
        (put ∙ ap (λ (t : List ℕ). t ++ (end_of count).text) e.1 ∙ append_assoc before (values_lines m h.values e.0) (end_of count).text)
        (ap (λ (n : ℕ). record { text = values_lines m [] (h.values ++ e.0) ++ (end_of n).text; status = Done }) (sym long)
        ∙ ap (λ (s : Status). record { text = values_lines m [] (h.values ++ e.0) ++ (end_of count).text; status = s }) (sym same)
        ∙ ap (λ (t : List ℕ). record { text = t; status = status })
        (ap (λ (t : List ℕ). t ++ (end_of count).text) (more_values m [] h.values e.0)
        ∙ append_assoc (values_lines m [] h.values) (values_lines m h.values e.0) (end_of count).text))

    -- the input ends after a last line without an LF, which is bad
    pub ends_bad : (status : Status) → ReadsLine old before mid (Some status) new → AddsReply (readings_due m bytes) (readings_reply m bytes) before mid status
    ends_bad status reads =
        let e = last_line_come (Some status) reads in
        replies (record { values = h.values; bad = Some e.0 }) before mid (refused_reading e.0).text status (ap readings_of h.parts ∙ e.1) e.3
        (ap (λ (s : Status). record { text = values_lines m [] h.values ++ (refused_reading e.0).text; status = s }) (sym e.2))

-- before the first reading

-- the terms of a model without windows have the values of all readings
term_values : (xs : List ℤ) (es : List (String Global × ModelTerm)) → any_window es ≡ false →
    map (λ t. term_value t xs) (map (λ e. e.1.term) es) ≡ map (λ t. stated_value t.1 xs) (map term_of es)
term_values xs [] none = refl
term_values xs (e ∷ es) none =
    let whole = none_windowed e es none in
    ap (λ (w : Option Range). term_value e.1.term (looked_at w xs) ∷ map (λ t. term_value t xs) (map (λ e. e.1.term) es)) (sym whole.0)
    ∙ ap (λ (vs : List Ext). stated_value (stated_of e.1) xs ∷ vs) (term_values xs es whole.1)

few_first : (es : List (String Global × ModelTerm)) (ts : List Term) → ts ≡ map (λ e. e.1.term) es → length (map term_of es) ≤ most_terms →
    length ts ≤ most_terms
few_first es ts is few =
    let same = ap (λ (x : List Term). length x) is in
    let firsts = length-map es (λ e. e.1.term) in
    let all = length-map es term_of in
    omega (arith, same, firsts, all, few)

pub first_readings : (model : Model) (r : ReadingsText) → length (model_parts model).terms ≤ most_terms →
    has_window (model_parts model) ≡ false → r.lines ≡ 0 → Stands r.monitor [] → r.monitor.terms ≡ terms_of model →
    IsShort [] r.line → AreReadings (model_parts model) [] r
first_readings model r few windowless none stands terms short = record {
  text = [];
  line = [];
  values = [];
  parts = refl;
  ended = ended_none;
  whole = whole_none;
  taken = record {
    good = refl;
    count = none;
    stands = stands;
    terms = record {
      values = λ xs. ap (map (λ t. term_value t xs)) terms ∙ term_values xs (terms_in model) windowless;
      few = few_first (terms_in model) r.monitor.terms terms few;
    };
  };
  free = refl;
  short = short;
}

-- the end of the input, by the tests of the code

pub on_ok_of : {A E : Type 0} (r : Result A E) (P : A → Type 0) (Q : Type 0) → ((a : A) → P a → Q) → IfOk r P → OnOk r Q
on_ok_of (Ok a) P Q f h = f a h
on_ok_of (Err e) P Q f h = tt

pub on_err_of : {A E P : Type 0} (r : Result A E) → P → OnErr r P
on_err_of (Ok a) p = tt
on_err_of (Err e) p = p

pub room_for : (count : ℕ) (values : List ℤ) → count < longest → count ≡ length values → nat_lt (length values) longest ≡ true
room_for count values few same = go (nat_lt (length values) longest) refl
  where
    go : (t : Bool) → nat_lt (length values) longest ≡ t → t ≡ true
    go true e = refl
    go false e = grind (arith, nat_tests)

-- A checker at work: the line that it refused, and the first that fails.
use Rattle.std.proofs.Common.{◌≡◌, ◌≢◌, ℕ, ◌+◌, ◌<◌, ◌≤◌, inl, inr, length, Bool, true, false, cond, Option, Some, None, Ok, Err, List, [], ◌∷◌, ◌++◌, refl, sym, ap, ◌∙◌, subst, append_assoc, append-nil, length-append, arith}
use Rattle.std.specs.Prelude.{◌==◌, filter, is_some, OnErr, OnOk, Result}
use Rattle.std.specs.Option.{option_map}
use Rattle.std.proofs.lemmas.Bool.{eqb-true}
use Rattle.std.proofs.lemmas.Bool.Decides.{nat_tests}
use Rattle.std.proofs.lemmas.List.Elements.{filter-append}
use Rattle.ts_base.specs.declared.error.Memory.{Memory as NoMemory}
use Rattle.ts_base.specs.Words.{strict_lines, without_lf}
use Rattle.ts_base.proofs.WordLaws.{lf_is, lines_few}
use Rattle.ts_certificate.specs.declared.stop.CertStop.{CertStop}
use Rattle.ts_certificate.specs.Reading.{Reading, fresh, reading_after, reading_with}
use Rattle.ts_certificate.proofs.CallerLemmas.{next_few}
use Rattle.ts_model.specs.ModelParts.{ModelParts}
use Rattle.ts_model.specs.ModelTexts.{IsFinished, IsPart, IsUnfinished, has_lf}
use Rattle.ts_model.proofs.LinePieces.{finished_first, joins, last_line, none_ended, part_ends, part_open, unfinished_alone}
use Rattle.ts_filter.specs.Lines.{IsOutcome}
use Rattle.ts_spans.specs.Machines.{spans_in}
use Rattle.ts_checker.specs.declared.judging.Judging.{Judging}
use Rattle.ts_checker.specs.declared.verdict.Verdict.{Verdict}
use Rattle.ts_checker.specs.declared.verdict.Verdict.TheVariants.{Accepted}
use Rattle.ts_checker.specs.Checking.{Checking, HasChecked, Takes}
use Rattle.ts_checker.specs.Feeding.{HasJudged, HasRead, JudgesLine, Reads}
use Rattle.ts_checker.specs.Shortened.{Extends, IsKeptOf, IsSmall}
use Rattle.ts_checker.specs.Verdicts.{IsTrueOf, IsVerdict, refused_line}
use Rattle.ts_checker.specs.Verified.{FailsFirst, IsShownBy, ended_lines}
use Rattle.ts_checker.proofs.KeptLines.{last_for, line_for, none_kept_of, some_kept_of, stopped_for}
use Rattle.ts_checker.proofs.Verdicts.{one_line_more, stopped_against}

-- before the first byte

none_small : (kept : List ℕ) → kept ≡ [] → IsSmall kept
none_small kept empty = let size = ap length empty in omega (arith, size)

-- lines are no more than bytes

next_reads : (r : Reading) (texts : List (List ℕ)) → (reading_after r texts).next ≤ r.next + length texts
next_reads r [] = omega arith
next_reads r (text ∷ texts) =
    let more = next_reads (reading_with r text) texts in let one = next_few r text in omega (arith, more, one)

pub few_lines : (bytes : List ℕ) (j : Judging) (more : ℕ) → HasRead bytes j → length bytes + more < 4000000000 → j.checker.reading.next ≤ 4000000000
few_lines bytes j more h few =
    let next = ap (λ (r : Reading). r.next) h.judged.checked.reading in
    let reads = next_reads fresh h.texts in
    let whole = ap length (ap strict_lines (sym (append-nil h.seen)) ∙ h.lines [] ∙ append-nil h.texts) in
    let lines = lines_few h.seen in
    let size = ap length h.parts ∙ length-append h.seen h.line in
    omega (arith, next, reads, whole, lines, size, few)

-- one line more

ended_more : (texts : List (List ℕ)) (line : List ℕ) → filter has_lf texts ≡ texts → IsFinished line →
    filter has_lf (texts ++ line ∷ []) ≡ texts ++ line ∷ []
ended_more texts line h f =
    filter-append has_lf texts (line ∷ []) ∙ ap (λ (x : List (List ℕ)). x ++ filter has_lf (line ∷ [])) h
    ∙ ap (λ o. texts ++ cond (is_some o) (line ∷ []) []) f.1

more_judged : (texts : List (List ℕ)) (old new : Judging) (text : List ℕ) → HasJudged texts old → Takes old.checker text new.checker →
    old.checker.reading.next ≤ 4000000000 → HasJudged (texts ++ text ∷ []) new
more_judged texts old new text h t next = record {
  checked = one_line_more texts text old.checker new.checker h.checked t (λ none. next);
  few = subst (λ (m : ModelParts). length m.cells ≤ 512) (sym t.model) h.few;
}

pub line_judged : (old new : Judging) (kept text lent : List ℕ) → kept ≡ old.line.bytes.items → text ≡ kept ++ 10 ∷ [] → lent ≡ text →
    Takes old.checker lent new.checker → old.checker.reading.next ≤ 4000000000 → JudgesLine old new
line_judged old new kept text lent this is same t next = λ texts line h k.
    more_judged texts old new (line ++ 10 ∷ []) h
    (line_for texts old.checker new.checker kept line h.checked next h.few (subst (λ (x : List ℕ). IsKeptOf x line) (sym this) k)
    (subst (λ (x : List ℕ). Takes old.checker x new.checker) (same ∙ is) t))
    next

-- after a line that was refused

not_none : (r : Reading) (stop : CertStop) → r.stop ≡ Some stop → r.stop ≢ None
not_none r stop is none = let wrong : ◌≡◌ {A = Option CertStop} None (Some stop) = sym none ∙ is in cc

more_unjudged : (texts : List (List ℕ)) (j : Judging) (stop : CertStop) (text : List ℕ) → j.checker.reading.stop ≡ Some stop → HasJudged texts j →
    HasJudged (texts ++ text ∷ []) j
more_unjudged texts j stop text is h = record {
  checked = one_line_more texts text j.checker j.checker h.checked (stopped_for texts j.checker stop text h.checked is)
      (λ none. absurd (not_none j.checker.reading stop is none));
  few = h.few;
}

-- more bytes of a line

module _ (bytes part : List ℕ) (old new : Judging) (h : HasRead bytes old) where
  goes_on : IsUnfinished part → HasJudged h.texts new → (new.checker.reading.stop ≡ None → IsKeptOf new.line.bytes.items (h.line ++ part)) →
      IsSmall new.line.bytes.items → (new.checker.reading.stop ≢ None → new.line.bytes.items ≡ []) → HasRead (bytes ++ part) new
  goes_on free judged kept small dropped = record {
    seen = h.seen;
    texts = h.texts;
    line = h.line ++ part;
    parts = ap (λ (x : List ℕ). x ++ part) h.parts ∙ append_assoc h.seen h.line part;
    lines = h.lines;
    ended = h.ended;
    free = joins h.line part h.free free;
    judged = judged;
    kept = kept;
    small = small;
    dropped = dropped;
  }

  ends : IsFinished (h.line ++ part) → HasJudged (h.texts ++ (h.line ++ part) ∷ []) new → new.line.bytes.items ≡ [] → HasRead (bytes ++ part) new
  ends whole judged empty =
      let line = h.line ++ part in
      record {
        seen = h.seen ++ line;
        texts = h.texts ++ line ∷ [];
        line = [];
        parts = ap (λ (x : List ℕ). x ++ part) h.parts ∙ append_assoc h.seen h.line part ∙ sym (append-nil (h.seen ++ line));
        lines = λ more.
            ap strict_lines (append_assoc h.seen line more) ∙ h.lines (line ++ more)
            ∙ ap (λ (x : List (List ℕ)). h.texts ++ x) (finished_first line more whole) ∙ sym (append_assoc h.texts (line ∷ []) (strict_lines more));
        ended = ended_more h.texts line h.ended whole;
        free = refl;
        judged = judged;
        kept = λ e. inl empty;
        small = none_small new.line.bytes.items empty;
        dropped = λ e. empty;
      }

-- nothing more is kept once a line was refused
refusal_stands : (j : Judging) (part : List ℕ) (stop : CertStop) → j.checker.reading.stop ≡ Some stop → IsPart part → Reads j part j
refusal_stands j part stop is whole = λ bytes h. by bytes h (without_lf part) refl
  where
    by : (bytes : List ℕ) (h : HasRead bytes j) (o : Option (List ℕ)) → without_lf part ≡ o → HasRead (bytes ++ part) j
    by bytes h None e =
        goes_on bytes part j j h (part_open part e whole) h.judged (λ none. absurd (not_none j.checker.reading stop is none)) h.small h.dropped
    by bytes h (Some bare) e =
        ends bytes part j j h (part_ends h.line part bare h.free e whole) (more_unjudged h.texts j stop (h.line ++ part) is h.judged)
        (h.dropped (not_none j.checker.reading stop is))

some_stop : (next : ℕ) (o : Option CertStop) → is_some (option_map (λ (stop : CertStop). next) o) ≡ true → (stop : CertStop) × (o ≡ Some stop)
some_stop next None e = cc
some_stop next (Some stop) e = (stop, refl)

none_stop : (next : ℕ) (o : Option CertStop) → is_some (option_map (λ (stop : CertStop). next) o) ≡ false → o ≡ None
none_stop next None e = refl
none_stop next (Some stop) e = cc

pub unstopped : (r : Reading) → is_some (refused_line r) ≡ false → r.stop ≡ None
unstopped r going = none_stop r.next r.stop going

pub on_err : {T E P : Type 0} (r : Result T E) → P → OnErr r P
on_err (Ok x) p = tt
on_err (Err e) p = p

pub on_ok : {T E P : Type 0} (r : Result T E) → P → OnOk r P
on_ok (Ok x) p = p
on_ok (Err e) p = tt

pub some_stands : (j : Judging) (part : List ℕ) → is_some (refused_line j.checker.reading) ≡ true → IsPart part → Reads j part j
some_stands j part some whole =
    let held = some_stop j.checker.reading.next j.checker.reading.stop some in refusal_stands j part held.0 held.1 whole

-- the line goes on
line_open : (old new : Judging) (part : List ℕ) → new.checker ≡ old.checker → is_some (refused_line old.checker.reading) ≡ false →
    without_lf part ≡ None → IsPart part → Extends old.line.bytes.items part new.line.bytes.items → IsSmall new.line.bytes.items → Reads old part new
line_open old new part same going none whole more small = λ bytes h.
    let stop : new.checker.reading.stop ≡ old.checker.reading.stop = ap (λ (z : Checking). z.reading.stop) same in
    let none_yet = none_stop old.checker.reading.next old.checker.reading.stop going in
    goes_on bytes part old new h (part_open part none whole)
    (record {
      checked = subst (HasChecked h.texts) (sym same) h.judged.checked;
      few = subst (λ (z : Checking). length z.model.cells ≤ 512) (sym same) h.judged.few;
    })
    (λ e. more h.line (h.kept none_yet))
    small
    (λ some. absurd (some (stop ∙ none_yet)))

pub open_ok : (given : Result (Unit {0}) NoMemory) (old new : Judging) (part : List ℕ) → new.checker ≡ old.checker →
    is_some (refused_line old.checker.reading) ≡ false → without_lf part ≡ None → IsPart part →
    OnOk given (Extends old.line.bytes.items part new.line.bytes.items) → OnOk given (IsSmall new.line.bytes.items) → OnOk given (Reads old part new)
open_ok (Ok u) old new part same going none whole more small = line_open old new part same going none whole more small
open_ok (Err e) old new part same going none whole more small = tt

-- the line has its LF
line_closed : (old mid new : Judging) (part bare : List ℕ) → mid.checker ≡ old.checker → old.checker.reading.stop ≡ None →
    without_lf part ≡ Some bare → IsPart part → Extends old.line.bytes.items bare mid.line.bytes.items → JudgesLine mid new → new.line.bytes.items ≡ [] →
    Reads old part new
line_closed old mid new part bare same none some whole more judges empty = λ bytes h.
    let is : h.line ++ part ≡ (h.line ++ bare) ++ 10 ∷ [] =
    ap (λ (x : List ℕ). h.line ++ x) (lf_is part bare some) ∙ sym (append_assoc h.line bare (10 ∷ [])) in
    ends bytes part old new h (part_ends h.line part bare h.free some whole)
    (subst (λ (x : List ℕ). HasJudged (h.texts ++ x ∷ []) new) (sym is)
    (judges h.texts (h.line ++ bare)
    (record {
      checked = subst (HasChecked h.texts) (sym same) h.judged.checked;
      few = subst (λ (z : Checking). length z.model.cells ≤ 512) (sym same) h.judged.few;
    })
    (more h.line (h.kept none))))
    empty

pub closed_ok : (given : Result (Unit {0}) NoMemory) (old mid new : Judging) (part bare : List ℕ) → mid.checker ≡ old.checker →
    is_some (refused_line old.checker.reading) ≡ false → without_lf part ≡ Some bare → IsPart part →
    Extends old.line.bytes.items bare mid.line.bytes.items → OnOk given (JudgesLine mid new) → OnOk given (new.line.bytes.items ≡ []) →
    OnOk given (Reads old part new)
closed_ok (Ok u) old mid new part bare same going some whole more judges empty =
    line_closed old mid new part bare same (none_stop old.checker.reading.next old.checker.reading.stop going) some whole more judges empty
closed_ok (Err e) old mid new part bare same going some whole more judges empty = tt

-- the first line that fails

fails_by : (texts : List (List ℕ)) (c : Checking) (failed : Option ℕ) → HasChecked texts c → c.reading.stop ≡ None → failed ≡ c.failed →
    FailsFirst c.model texts failed
fails_by texts c failed h none is =
    let g = h.going none in
    inr (record {
      lines = g.are.lines;
      are = g.are.are;
      follow = g.are.follow;
      stand = c.stand;
      found = subst (λ f. IsOutcome c.model (spans_in c.model) g.are.lines c.stand f) (sym is) g.found;
    })

-- the lines that have their LF
ended_are : (bytes : List ℕ) (j : Judging) (h : HasRead bytes j) → ended_lines bytes ≡ h.texts
ended_are bytes j h =
    ap (filter has_lf) (ap strict_lines h.parts ∙ h.lines h.line ∙ ap (λ (x : List (List ℕ)). h.texts ++ x) (unfinished_alone h.line h.free))
    ∙ filter-append has_lf h.texts (last_line h.line) ∙ ap (λ (x : List (List ℕ)). x ++ filter has_lf (last_line h.line)) h.ended
    ∙ ap (λ (x : List (List ℕ)). h.texts ++ x) (none_ended h.line h.free) ∙ append-nil h.texts

none_line : (next : ℕ) (o : Option CertStop) → option_map (λ (stop : CertStop). next) o ≡ None → o ≡ None
none_line next None e = refl
none_line next (Some stop) e = cc

some_line : (next n : ℕ) (o : Option CertStop) → option_map (λ (stop : CertStop). next) o ≡ Some n → (stop : CertStop) × (o ≡ Some stop) × (next ≡ n)
some_line next n None e = cc
some_line next n (Some stop) e = (stop, refl, cc)

pub fails_first : (bytes : List ℕ) (j : Judging) (failed : Option ℕ) → refused_line j.checker.reading ≡ None → failed ≡ j.checker.failed → HasRead bytes j →
    FailsFirst j.checker.model (ended_lines bytes) failed
fails_first bytes j failed none is h =
    subst (λ (x : List (List ℕ)). FailsFirst j.checker.model x failed) (sym (ended_are bytes j h))
    (fails_by h.texts j.checker failed h.judged.checked (none_line j.checker.reading.next j.checker.reading.stop none) is)

pub refused_first : (bytes : List ℕ) (j : Judging) (n : ℕ) → refused_line j.checker.reading ≡ Some n → HasRead bytes j →
    FailsFirst j.checker.model (ended_lines bytes) (Some n)
refused_first bytes j n is h =
    let held = some_line j.checker.reading.next n j.checker.reading.stop is in
    subst (λ (x : List (List ℕ)). FailsFirst j.checker.model x (Some n)) (sym (ended_are bytes j h))
    (inl (
      j.checker.reading.next,
      stopped_against h.texts j.checker h.judged.checked held.0 held.1,
      ap (λ (k : ℕ). Some k) (sym held.2),
    ))

-- the verdict after the last line

abbrev pub IsFinal : Checking → Verdict → Type 0
IsFinal c v =
    ((texts : List (List ℕ)) → HasChecked texts c → IsVerdict c.model texts v)
    × ((texts : List (List ℕ)) → HasChecked texts c → v ≡ Accepted → IsTrueOf c.model texts)

shown : (c : Checking) (m : ModelParts) (v : Verdict) → c.model ≡ m → IsFinal c v → (texts : List (List ℕ)) → HasChecked texts c → IsShownBy texts m v
shown c m v same final texts h = record {
  is = subst (λ (z : ModelParts). IsVerdict z texts v) same (final.0 texts h);
  holds = λ k. subst (λ (z : ModelParts). IsTrueOf z texts) same (final.1 texts h k);
}

all_lines : (bytes : List ℕ) (j : Judging) (h : HasRead bytes j) → strict_lines bytes ≡ h.texts ++ last_line h.line
all_lines bytes j h = ap strict_lines h.parts ∙ h.lines h.line ∙ ap (λ (x : List (List ℕ)). h.texts ++ x) (unfinished_alone h.line h.free)

-- a last line without an LF was judged
module _ (j : Judging) (end : Checking) (v : Verdict) (final : IsFinal end v) where
  pub shown_after : j.checker.reading.stop ≡ None → 0 < length j.line.bytes.items → Takes j.checker (63 ∷ []) end →
      j.checker.reading.next ≤ 4000000000 → (bytes : List ℕ) → HasRead bytes j →
      IsShownBy (strict_lines bytes) j.checker.model v
  shown_after none some t next bytes h =
      subst (λ (x : List (List ℕ)). IsShownBy x j.checker.model v) (sym (all_lines bytes j h))
      (go h.line (some_kept_of j.line.bytes.items h.line some (h.kept none)) (last_for j.checker end (63 ∷ []) h.line h.judged.few refl h.free t))
    where
      go : (line : List ℕ) → 0 < length line → Takes j.checker line end → IsShownBy (h.texts ++ last_line line) j.checker.model v
      go [] some t = absurd (omega (arith, some))
      go (b ∷ bs) some t =
          shown end j.checker.model v t.model final (h.texts ++ (b ∷ bs) ∷ []) (one_line_more h.texts (b ∷ bs) j.checker end h.judged.checked t (λ none. next))

-- no last line was judged, as none stands there or a line was refused before
module _ (j : Judging) (v : Verdict) (final : IsFinal j.checker v) where
  pub shown_at_once : length j.line.bytes.items ≡ 0 → j.checker.reading.stop ≡ None → (bytes : List ℕ) → HasRead bytes j →
      IsShownBy (strict_lines bytes) j.checker.model v
  shown_at_once empty none bytes h =
      subst (λ (x : List (List ℕ)). IsShownBy x j.checker.model v) (sym (all_lines bytes j h))
      (go h.line (none_kept_of j.line.bytes.items h.line empty (h.kept none)))
    where
      go : (line : List ℕ) → length line ≡ 0 → IsShownBy (h.texts ++ last_line line) j.checker.model v
      go [] e = subst (λ (x : List (List ℕ)). IsShownBy x j.checker.model v) (sym (append-nil h.texts))
          (shown j.checker j.checker.model v refl final h.texts h.judged.checked)
      go (b ∷ bs) e = absurd (omega (arith, e))

  pub shown_refused : (stop : CertStop) → j.checker.reading.stop ≡ Some stop → (bytes : List ℕ) → HasRead bytes j →
      IsShownBy (strict_lines bytes) j.checker.model v
  shown_refused stop is bytes h =
      subst (λ (x : List (List ℕ)). IsShownBy x j.checker.model v) (sym (all_lines bytes j h)) (go h.line)
    where
      go : (line : List ℕ) → IsShownBy (h.texts ++ last_line line) j.checker.model v
      go [] = subst (λ (x : List (List ℕ)). IsShownBy x j.checker.model v) (sym (append-nil h.texts))
          (shown j.checker j.checker.model v refl final h.texts h.judged.checked)
      go (b ∷ bs) =
          shown j.checker j.checker.model v refl final (h.texts ++ (b ∷ bs) ∷ []) (more_unjudged h.texts j stop (b ∷ bs) is h.judged).checked

-- the verdict after the last line, by the tests of the code

some_tested : (n : ℕ) (t : Bool) → t ≡ (n == 0) → t ≡ false → 0 < n
some_tested n t test e = let k = sym test ∙ e in grind (arith, nat_tests)

none_tested : (n : ℕ) (t : Bool) → t ≡ (n == 0) → t ≡ true → n ≡ 0
none_tested n t test e = eqb-true n 0 (sym test ∙ e)

module _ (j : Judging) (last : Checking) where
  pub some_shown : (end : Checking) (v : Verdict) → IsFinal last v → last ≡ end → is_some (refused_line j.checker.reading) ≡ false → (t : Bool) →
      t ≡ (length j.line.bytes.items == 0) → t ≡ false → Takes j.checker (63 ∷ []) end → j.checker.reading.next ≤ 4000000000 →
      (bytes : List ℕ) → HasRead bytes j → IsShownBy (strict_lines bytes) j.checker.model v
  some_shown end v final is going t test some takes next =
      shown_after j last v final (none_stop j.checker.reading.next j.checker.reading.stop going) (some_tested (length j.line.bytes.items) t test some)
      (subst (Takes j.checker (63 ∷ [])) (sym is) takes) next

  pub empty_shown : (v : Verdict) → IsFinal last v → last ≡ j.checker → is_some (refused_line j.checker.reading) ≡ false → (t : Bool) →
      t ≡ (length j.line.bytes.items == 0) → t ≡ true → (bytes : List ℕ) → HasRead bytes j → IsShownBy (strict_lines bytes) j.checker.model v
  empty_shown v final is going t test closed =
      shown_at_once j v (subst (λ (z : Checking). IsFinal z v) is final) (none_tested (length j.line.bytes.items) t test closed)
      (none_stop j.checker.reading.next j.checker.reading.stop going)

  pub refused_shown : (v : Verdict) → IsFinal last v → last ≡ j.checker → is_some (refused_line j.checker.reading) ≡ true → (bytes : List ℕ) →
      HasRead bytes j → IsShownBy (strict_lines bytes) j.checker.model v
  refused_shown v final is some =
      let held = some_stop j.checker.reading.next j.checker.reading.stop some in
      shown_refused j v (subst (λ (z : Checking). IsFinal z v) is final) held.0 held.1

-- Few bytes that are kept of an unfinished line stand for it when bytes come after both, and are checked as the line.
use Rattle.std.proofs.Common.{◌≡◌, ℕ, ◌^◌, ◌<◌, ◌≤◌, inl, inr, Option, Some, None, Ok, List, [], ◌∷◌, ◌++◌, length, refl, sym, ap, subst, ◌∙◌, arith, append-nil}
use Rattle.std.specs.Prelude.{ℤ, MatchOption, Result}
use Rattle.ts_base.specs.Words.{without_lf, words_of}
use Rattle.ts_base.proofs.WordLaws.{lf_again}
use Rattle.ts_certificate.specs.declared.certificate.Claim.{Claim}
use Rattle.ts_certificate.specs.declared.state.State.{State}
use Rattle.ts_certificate.specs.declared.state.State.TheVariants.{Start}
use Rattle.ts_certificate.specs.declared.stop.CertStop.{CertStop}
use Rattle.ts_certificate.specs.declared.stop.LineStop.{LineStop}
use Rattle.ts_certificate.specs.Grammar.{CertLine, SaysSeries}
use Rattle.ts_certificate.specs.LineOf.{line_if, line_of, line_of_words}
use Rattle.ts_certificate.specs.Reading.{answer_at, answer_unless, reading_by, reading_unless, tree_lines}
use Rattle.ts_certificate.proofs.CallerLemmas.{stop_kept}
use Rattle.ts_model.specs.ModelParts.{ModelParts}
use Rattle.ts_filter.specs.Accepts.{SeriesFits}
use Rattle.ts_filter.specs.Lines.{KeepsLine, Stand}
use Rattle.ts_filter.specs.RefutedWorseDrop.{Spans}
use Rattle.ts_spans.specs.Machines.{spans_in}
use Rattle.ts_model.specs.ModelTexts.{IsUnfinished}
use Rattle.ts_model.proofs.LinePieces.{none_without}
use Rattle.ts_checker.specs.Checking.{Checking, HasChecked, Takes, TakesBy, TakesFirst, TakesOn}
use Rattle.ts_checker.proofs.Verdicts.{state_few}
use Rattle.ts_checker.specs.Shortened.{AreAlike, IsKeptOf}

-- an empty line is kept as it is

pub none_kept_of : (kept line : List ℕ) → length kept ≡ 0 → IsKeptOf kept line → length line ≡ 0
none_kept_of kept line none (inl same) = sym (ap length same) ∙ none
none_kept_of kept line none (inr h) = absurd (let left = h.left in omega (arith, left, none))

pub some_kept_of : (kept line : List ℕ) → 0 < length kept → IsKeptOf kept line → 0 < length line
some_kept_of kept line some (inl same) = let e = ap length same in omega (arith, e, some)
some_kept_of kept line some (inr h) = h.some

-- a series of more numbers than the model has cells breaks its rule

too_many : (m : ModelParts) (s : Spans) (t : Stand) (vs : List ℤ) → length m.cells ≤ 512 → 512 < length vs → KeepsLine m s t (SaysSeries vs) → ⊥
too_many m s t vs few many = go t.claim
  where
    go : (o : Option Claim) → MatchOption o ⊥ (λ c. SeriesFits m c t.series vs) → ⊥
    go None k = k
    go (Some c) k = let e = k.meets.cells in omega (arith, e, few, many)

first_for : (m : ModelParts) (s : Spans) (old new : Stand) (n : ℕ) (failed : Option ℕ) (vs ws : List ℤ) → length m.cells ≤ 512 → 512 < length vs →
    512 < length ws → TakesFirst m s old n (SaysSeries vs) new failed → TakesFirst m s old n (SaysSeries ws) new failed
first_for m s old new n failed vs ws few many more (inl k) = absurd (too_many m s old vs few many k.0)
first_for m s old new n failed vs ws few many more (inr k) = inr (too_many m s old ws few more, k.1, k.2)

on_for : (m : ModelParts) (s : Spans) (old new : Stand) (before failed : Option ℕ) (n : ℕ) (vs ws : List ℤ) → length m.cells ≤ 512 → 512 < length vs →
    512 < length ws → TakesOn m s old before n (SaysSeries vs) new failed → TakesOn m s old before n (SaysSeries ws) new failed
on_for m s old new None failed n vs ws few many more t = first_for m s old new n failed vs ws few many more t
on_for m s old new (Some k) failed n vs ws few many more t = t

-- a line is checked as what is kept of it

module _ (old new : Checking) (kept line : List ℕ) (t : Takes old kept new) where
  given : (o : Option CertStop) → old.reading.stop ≡ o → reading_unless old.reading o kept ≡ reading_unless old.reading o line →
      TakesBy old.model (spans_in old.model) old.stand old.failed old.reading.next (answer_unless old.reading o line) new.stand new.failed →
      Takes old line new
  given o e same taken = record {
    model = t.model;
    reading = t.reading ∙ ap (λ z. reading_unless old.reading z kept) e ∙ same ∙ ap (λ z. reading_unless old.reading z line) (sym e);
    taken = subst (λ z. TakesBy old.model (spans_in old.model) old.stand old.failed old.reading.next (answer_unless old.reading z line) new.stand new.failed)
        (sym e) taken;
    calm = t.calm;
  }

  taken_at : (o : Option CertStop) → old.reading.stop ≡ o →
      TakesBy old.model (spans_in old.model) old.stand old.failed old.reading.next (answer_unless old.reading o kept) new.stand new.failed
  taken_at o e =
      subst (λ z. TakesBy old.model (spans_in old.model) old.stand old.failed old.reading.next (answer_unless old.reading z kept) new.stand new.failed)
      e t.taken

  alike_taken : (g h : Result CertLine LineStop) → line_of old.reading.state kept ≡ g → line_of old.reading.state line ≡ h →
      length old.model.cells ≤ 512 → old.reading.stop ≡ None → AreAlike g h → Takes old line new
  alike_taken g h e f few none (inl both) =
      let a : line_of old.reading.state kept ≡ line_of old.reading.state line = e ∙ both.0 ∙ sym (f ∙ both.1) in
      given None none (ap (reading_by old.reading) a)
      (subst (λ z. TakesBy old.model (spans_in old.model) old.stand old.failed old.reading.next (answer_at old.reading.next z) new.stand new.failed) a
      (taken_at None none))
  alike_taken g h e f few none (inr l) =
      let a : line_of old.reading.state kept ≡ Ok (SaysSeries l.few) = e ∙ l.kept_is in
      let b : line_of old.reading.state line ≡ Ok (SaysSeries l.all) = f ∙ l.line_is in
      given None none (ap (reading_by old.reading) a ∙ sym (ap (reading_by old.reading) b))
      (subst (λ z. TakesBy old.model (spans_in old.model) old.stand old.failed old.reading.next (answer_at old.reading.next z) new.stand new.failed) (sym b)
      (on_for old.model (spans_in old.model) old.stand new.stand old.failed new.failed old.reading.next l.few l.all few l.kept_long l.line_long
      (subst (λ z. TakesBy old.model (spans_in old.model) old.stand old.failed old.reading.next (answer_at old.reading.next z) new.stand new.failed) a
      (taken_at None none))))

  by_stop : length old.model.cells ≤ 512 → (old.reading.stop ≡ None → AreAlike (line_of old.reading.state kept) (line_of old.reading.state line)) →
      Takes old line new
  by_stop few alike = go old.reading.stop refl
    where
      go : (o : Option CertStop) → old.reading.stop ≡ o → Takes old line new
      go None e = alike_taken (line_of old.reading.state kept) (line_of old.reading.state line) refl refl few e (alike e)
      go (Some stop) e = given (Some stop) e refl (taken_at (Some stop) e)

few_read : (texts : List (List ℕ)) (c : Checking) → HasChecked texts c → c.reading.next ≤ 4000000000 → c.reading.stop ≡ None →
    tree_lines c.reading.state < 2 ^ 63
few_read texts c h next none =
    let a = (h.going none).are in
    let count = a.next in
    let few = state_few Start a.lines in
    let same = ap tree_lines a.state in
    omega (arith, count, few, same, next)

bare_read : (s : State) (line : List ℕ) → line_of s (line ++ 10 ∷ []) ≡ line_of_words s (words_of line)
bare_read s line = ap (line_if s) (lf_again line)

-- a line with its LF is checked as what is kept of it
pub line_for : (texts : List (List ℕ)) (old new : Checking) (kept line : List ℕ) → HasChecked texts old → old.reading.next ≤ 4000000000 →
    length old.model.cells ≤ 512 → IsKeptOf kept line → Takes old (kept ++ 10 ∷ []) new → Takes old (line ++ 10 ∷ []) new
line_for texts old new kept line h next few (inl same) t = subst (λ (x : List ℕ). Takes old (x ++ 10 ∷ []) new) same t
line_for texts old new kept line h next few (inr k) t =
    let s = old.reading.state in
    by_stop old new (kept ++ 10 ∷ []) (line ++ 10 ∷ []) t few
    (λ none.
    subst (λ z. AreAlike z (line_of s (line ++ 10 ∷ []))) (sym (bare_read s kept))
    (subst (λ z. AreAlike (line_of_words s (words_of kept)) z) (sym (bare_read s line))
    (subst (λ (x : List ℕ). AreAlike (line_of_words s (words_of x)) (line_of_words s (words_of line))) (append-nil kept)
    (subst (λ (x : List ℕ). AreAlike (line_of_words s (words_of (kept ++ []))) (line_of_words s (words_of x))) (append-nil line)
    (k.alike [] s (few_read texts old h next none))))))

-- a last line without an LF is checked as what is kept of it
pub last_for : (old new : Checking) (kept line : List ℕ) → length old.model.cells ≤ 512 → without_lf kept ≡ None → IsUnfinished line → Takes old kept new →
    Takes old line new
last_for old new kept line few none free t =
    by_stop old new kept line t few
    (λ stop. inl (ap (line_if old.reading.state) none, ap (line_if old.reading.state) (none_without line free)))

-- after a line that was refused whatever comes changes nothing
pub stopped_for : (texts : List (List ℕ)) (c : Checking) (stop : CertStop) (line : List ℕ) → HasChecked texts c → c.reading.stop ≡ Some stop → Takes c line c
stopped_for texts c stop line h e =
    let kept = stop_kept c.reading stop line e in
    record {
      model = refl;
      reading = sym kept.1;
      taken = subst (λ z. TakesBy c.model (spans_in c.model) c.stand c.failed c.reading.next z c.stand c.failed) (sym kept.0)
          (h.emptied (inl (λ none. let wrong : ◌≡◌ {A = Option CertStop} None (Some stop) = sym none ∙ e in cc)), refl);
      calm = refl;
    }

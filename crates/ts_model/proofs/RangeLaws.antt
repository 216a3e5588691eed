-- Ranges, word by word.
use Rattle.std.proofs.Common.{◌≡◌, ◌<◌, ◌+◌, ℕ, Option, Some, None, Ok, Err, List, [], ◌∷◌, ◌++◌, length, refl, sym, ap, subst, ◌∙◌, arith, append_assoc, length-append}
use Rattle.std.specs.Prelude.{Result, ok_or}
use Rattle.std.specs.Result.{IsErrAnd}
use Rattle.ts_domain.specs.declared.interval.Interval.{Interval}
use Rattle.ts_token.specs.Text.{Piece}
use Rattle.ts_model.specs.declared.error.LineStop.{LineStop}
use Rattle.ts_model.specs.declared.error.LineStop.TheVariants.{Bad, NoMemory}
use Rattle.ts_model.specs.declared.error.ModelKind.{ModelKind}
use Rattle.ts_model.specs.declared.error.ModelKind.TheVariants.{Number}
use Rattle.ts_model.specs.declared.statement.Ranges.{Ranges}
use Rattle.ts_model.specs.ModelReading.{texts_of}
use Rattle.ts_model.specs.Views.{Gives}
use Rattle.ts_model.specs.Words.{onto, range_of, ranges_of}

-- ranges read before those of the rest
abbrev pub ahead : List Interval → Option (List Interval) → Option (List Interval)
ahead rs None = None
ahead rs (Some more) = Some (rs ++ more)

is_range : (o : Option Interval) (r : Interval) → ok_or o Number ≡ Ok r → o ≡ Some r
is_range None r e = cc
is_range (Some s) r e = let same : s ≡ r = cc in ap (λ (x : Interval). Some x) same

no_range : (o : Option Interval) (k : ModelKind) → ok_or o Number ≡ Err k → (o ≡ None) × (k ≡ Number)
no_range None k e = let same : Number ≡ k = cc in (refl, sym same)
no_range (Some s) k e = cc

moved : (rs : List Interval) (r : Interval) (later : Option (List Interval)) → ahead (rs ++ r ∷ []) later ≡ ahead rs (onto (Some r) later)
moved rs r None = refl
moved rs r (Some ss) = ap (λ (x : List Interval). Some x) (append_assoc rs (r ∷ []) ss)

module _ (rs : List Interval) (words later : List Piece) (w : Piece) (all : Option (List Interval)) (are : words ≡ w ∷ later)
    (kept : ahead rs (ranges_of (texts_of words)) ≡ all) where
  -- the first word is the next range, or none
  first_is : (o : Option Interval) → range_of w.text ≡ o → ahead rs (onto o (ranges_of (texts_of later))) ≡ all
  first_is o is =
      sym (ap (λ (x : Option Interval). ahead rs (onto x (ranges_of (texts_of later)))) is)
      ∙ sym (ap (λ (x : List Piece). ahead rs (ranges_of (texts_of x))) are) ∙ kept

  pub one_range : (more : List Interval) (r : Interval) → ok_or (range_of w.text) Number ≡ Ok r → more ≡ rs ++ r ∷ [] →
      ahead more (ranges_of (texts_of later)) ≡ all
  one_range more r gives grown =
      ap (λ (x : List Interval). ahead x (ranges_of (texts_of later))) grown ∙ moved rs r (ranges_of (texts_of later))
      ∙ first_is (Some r) (is_range (range_of w.text) r gives)

  bad_range : (k : ModelKind) → ok_or (range_of w.text) Number ≡ Err k → ok_or all Number ≡ Err k
  bad_range k gives =
      let bad = no_range (range_of w.text) k gives in
      ap (λ (o : Option (List Interval)). ok_or o Number) (sym (first_is None bad.0)) ∙ ap (λ (x : ModelKind). Err x) (sym bad.1)

  stopped : (stop : LineStop) → Gives (λ (r : Interval). r) (Err stop) (ok_or (range_of w.text) Number) →
      Gives (λ (x : Ranges). x.items.items) (Err stop) (ok_or all Number)
  stopped (Bad k) gives = bad_range k gives
  stopped NoMemory gives = tt

  -- a word is no range, or memory ran out
  pub range_stop : (stop : LineStop) (result : Result Ranges LineStop) → Gives (λ (r : Interval). r) (Err stop) (ok_or (range_of w.text) Number) →
      IsErrAnd result (λ e. e ≡ stop) → Gives (λ (x : Ranges). x.items.items) result (ok_or all Number)
  range_stop stop (Ok said) gives is = absurd is
  range_stop stop (Err e) gives is =
      subst (λ (s : LineStop). Gives (λ (x : Ranges). x.items.items) (Err s) (ok_or all Number)) (sym is) (stopped stop gives)

-- one range at least
pub some_range : (rs more : List Interval) (r : Interval) (n : ℕ) → more ≡ rs ++ r ∷ [] → 0 < length more + n
some_range rs more r n grown = let size = ap length grown ∙ length-append rs (r ∷ []) in omega (arith, size)

-- The checks by the seven answers are the checks of the entries, whatever stands for a residual.
use Rattle.std.specs.Prelude.{◌≡◌, Bool, not, ◌&&◌, ◌||◌, List, [], ◌∷◌, map, refl}
use Rattle.std.specs.List.{list_any}
use Rattle.std.proofs.Common.{sym, ap}
use Rattle.ts_base.specs.declared.range.Kind.{Kind}
use Rattle.ts_transducer.specs.declared.row.Phase.{Phase}
use Rattle.ts_pattern.specs.declared.plan.Tag.{Tag}
use Rattle.ts_pattern.specs.declared.plan.Live.{Live}
use Rattle.ts_pattern.specs.Entries.{Entry, Residuals}
use Rattle.ts_pattern.specs.Closed.{is_due, is_ind, is_inc, tag_after, first_passes, entries_agree}
use Rattle.ts_validate.specs.declared.knowledge.Knowledge.{Knowledge}
use Rattle.ts_validate.specs.declared.facts.Facts.{Facts}
use Rattle.ts_validate.specs.declared.facts.Kept.{Kept}
use Rattle.ts_validate.specs.Numbers.{numbers, plain_lives, kept_at}
use Rattle.ts_validate.specs.Facts.{kept_by, facts_of, facts_agree}
use Rattle.ts_validate.proofs.Plain.{any_mapped, first_mapped}

seven : {a a' b b' c c' d d' e e' f f' g g' : Bool} → a ≡ a' → b ≡ b' → c ≡ c' → d ≡ d' → e ≡ e' → f ≡ f' → g ≡ g' →
    (let x : Facts = record { some_nullable = a; first_nullable = b; first_starts = c; first_ends = d; first_holds = e; some_held = f; some_keeps = g } in x)
    ≡ record { some_nullable = a'; first_nullable = b'; first_starts = c'; first_ends = d'; first_holds = e'; some_held = f'; some_keeps = g' }
seven p q r s t u v = cc

pub facts_law : {X R : Type 0} (t : Residuals R) (f : Phase) (k : Kind) (free : Bool) (es : List (Entry X R Tag)) →
    facts_agree (facts_of f free (kept_by t es)) f k ≡ entries_agree t f k free es
facts_law {X} {R} t f k free es =
    ap (λ z. facts_agree z f k)
    (seven
    (sym (any_mapped (λ (e : Kept). e.words.nullable) see es))
    (sym (first_mapped (λ (e : Kept). e.words.nullable) see es))
    (sym (first_mapped (λ (e : Kept). is_ind e.tag || (is_due e.tag && free)) see es))
    (sym (first_mapped (λ (e : Kept). not e.words.longer) see es))
    (sym (first_mapped (λ (e : Kept). is_inc (tag_after f free e.tag)) see es))
    (sym (any_mapped (λ (e : Kept). is_inc e.tag) see es))
    (sym (any_mapped (λ (e : Kept). is_ind (tag_after f free e.tag)) see es)))
  where
    see : Entry X R Tag → Kept
    see e = record { words = record { nullable = t.nullable e.residual; longer = t.has_longer e.residual }; tag = e.tag }

-- by numbers
pub seen_are : (table : List Knowledge) (es : List Live) → map (λ e. kept_at table e) es ≡ kept_by (numbers table) (plain_lives es)
seen_are table [] = refl
seen_are table (e ∷ es) = ap (λ z. kept_at table e ∷ z) (seen_are table es)

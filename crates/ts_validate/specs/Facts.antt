-- What the checks ask of the entries that a step keeps, in seven answers.
use Rattle.std.specs.Prelude.{Bool, not, ◌&&◌, ◌||◌, List, map}
use Rattle.std.specs.List.{list_any}
use Rattle.ts_base.specs.declared.range.Kind.{Kind}
use Rattle.ts_regex.specs.Shape.{Shape}
use Rattle.ts_regex.specs.Derivative.{nullable, has_longer}
use Rattle.ts_transducer.specs.declared.row.Phase.{Phase}
use Rattle.ts_transducer.specs.Typing.{is_held}
use Rattle.ts_pattern.specs.declared.plan.Tag.{Tag}
use Rattle.ts_pattern.specs.Entries.{Entry, Residuals}
use Rattle.ts_pattern.specs.Closed.{is_due, is_ind, is_inc, tag_after, implies, is_find, is_match, is_found_e, is_out_a, is_maybe_b, first_passes}
use Rattle.ts_validate.specs.declared.words.Words.{Words}
use Rattle.ts_validate.specs.declared.facts.Kept.{Kept}
use Rattle.ts_validate.specs.declared.facts.Facts.{Facts}

-- which words a residual has
abbrev pub words_of : Shape → Words
words_of r = record { nullable = nullable r; longer = has_longer r }

-- entries as the checks see them
abbrev pub kept_by : {X R : Type 0} → Residuals R → List (Entry X R Tag) → List Kept
kept_by t es =
    map
    (λ e. record { words = record { nullable = t.nullable e.residual; longer = t.has_longer e.residual }; tag = e.tag })
    es

abbrev pub facts_of : Phase → Bool → List Kept → Facts
facts_of f free es =
    record {
      some_nullable = list_any (λ e. e.words.nullable) es;
      first_nullable = first_passes (λ e. e.words.nullable) es;
      first_starts = first_passes (λ e. is_ind e.tag || (is_due e.tag && free)) es;
      first_ends = first_passes (λ e. not e.words.longer) es;
      first_holds = first_passes (λ e. is_inc (tag_after f free e.tag)) es;
      some_held = list_any (λ e. is_inc e.tag) es;
      some_keeps = list_any (λ e. is_ind (tag_after f free e.tag)) es;
    }

-- the checks of the entries by these answers, with the kind of the next state
abbrev pub facts_agree : Facts → Phase → Kind → Bool
facts_agree h f k =
    (implies h.some_nullable (is_match f) && implies (is_match f) h.first_nullable)
    && (implies (is_find f) h.first_starts
    && (implies (is_found_e f) h.first_ends
    && ((implies (is_held k) h.first_holds && implies (is_out_a f) (not h.some_held))
    && implies (is_maybe_b f) h.some_keeps)))

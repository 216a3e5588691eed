-- The residuals of a plan by their numbers: the tests on them read a table. The number of all residuals stands for one
-- without a word, and that plus 1 for one that the plan doesn't list.
use Rattle.std.specs.Prelude.{ℕ, ◌+◌, ◌==◌, nat_le, Bool, false, not, ◌&&◌, if◌then◌else◌, List, [], ◌∷◌, Option, None, Some, is_some, map, length, slice_get}
use Rattle.std.specs.List.{list_all, position}
use Rattle.ts_base.specs.declared.letter.Letter.{Letter}
use Rattle.ts_base.specs.declared.letter.Letter.TheVariants.{Less, Equal, Greater}
use Rattle.ts_regex.specs.Shape.{Shape}
use Rattle.ts_regex.specs.Derivative.{has_word}
use Rattle.ts_regex.specs.NormalForm.{residual, same_shape}
use Rattle.ts_transducer.specs.declared.row.Arrow.{Arrow}
use Rattle.ts_transducer.specs.declared.row.Row.{Row}
use Rattle.ts_pattern.specs.declared.plan.Tag.{Tag}
use Rattle.ts_pattern.specs.declared.plan.Live.{Live}
use Rattle.ts_pattern.specs.declared.plan.Configuration.{Configuration}
use Rattle.ts_pattern.specs.Plans.{plain_live, plain_configuration}
use Rattle.ts_pattern.specs.Entries.{Entry, Residuals}
use Rattle.ts_pattern.specs.Closed.{PlainConfiguration, Subject, no_ind, retag_entries, move_of, entries_before, kept_entries, step_of, entries_agree, same_configuration}
use Rattle.ts_transducer.specs.Decode.{row_at}
use Rattle.ts_validate.specs.declared.knowledge.Knowledge.{Knowledge}
use Rattle.ts_validate.specs.declared.facts.Kept.{Kept}
use Rattle.ts_validate.specs.Facts.{words_of}

-- the least number of a residual, or the number of all plus 1
abbrev pub number_of : List Shape → Shape → ℕ
number_of [] r = 1
number_of (s ∷ rs) r = if same_shape s r then 0 else number_of rs r + 1

abbrev pub next_number : List Shape → Shape → Letter → ℕ
next_number rs r l = if has_word (residual r l) then number_of rs (residual r l) else length rs

abbrev pub known_of : List Shape → Shape → Knowledge
known_of rs r =
    record {
      less = next_number rs r Less;
      equal = next_number rs r Equal;
      greater = next_number rs r Greater;
      own = number_of rs r;
      words = words_of r;
    }

abbrev pub table_of : List Shape → List Knowledge
table_of rs = map (λ r. known_of rs r) rs

abbrev pub nothing_known : Knowledge
nothing_known =
    record { less = 0; equal = 0; greater = 0; own = 0; words = record { nullable = false; longer = false } }

abbrev pub known_or : Option Knowledge → Knowledge
known_or None = nothing_known
known_or (Some k) = k

abbrev pub known_at : List Knowledge → ℕ → Knowledge
known_at table i = known_or (slice_get table i)

abbrev pub next_on : Letter → Knowledge → ℕ
next_on Less k = k.less
next_on Equal k = k.equal
next_on Greater k = k.greater

-- a kept entry, as the checks see it
abbrev pub kept_at : List Knowledge → Live → Kept
kept_at table e = record { words = (known_at table e.residual).words; tag = e.tag }

-- live entries and configurations in plain form
abbrev pub plain_lives : List Live → List (Entry (Unit {0}) ℕ Tag)
plain_lives es = map (λ e. plain_live e) es

abbrev pub plain_configurations : List Configuration → List (PlainConfiguration ℕ)
plain_configurations xs = map (λ x. plain_configuration x) xs

-- the configuration of a move's state and of the entries that are kept, with their tags after the step
abbrev pub configuration_after : Arrow → Bool → List Live → PlainConfiguration ℕ
configuration_after arrow free es =
    record { state = arrow.next; live = retag_entries arrow.phase free (plain_lives es) }

-- numbers as residuals, by the table
abbrev pub numbers : List Knowledge → Residuals ℕ
numbers table =
    record {
      next = λ i l. next_on l (known_at table i);
      has_word = λ i. not (i == length table);
      nullable = λ i. (known_at table i).words.nullable;
      has_longer = λ i. (known_at table i).words.longer;
      same = λ i j. (known_at table i).own == (known_at table j).own;
    }

-- rows against a plan by numbers; the whole pattern is residual 0
abbrev pub numbered_subject : List Row → List Knowledge → ℕ → List (PlainConfiguration ℕ) → Subject ℕ
numbered_subject rows table b configurations =
    record { rows = rows; trim = b; whole = 0; configurations = configurations; on = numbers table }

-- residual i after the letter is listed, or has no word
abbrev pub is_listed : List Knowledge → Letter → ℕ → Bool
is_listed table l i = nat_le (next_on l (known_at table i)) (length table)

-- each residual after the letter that has a word is listed
abbrev pub all_listed : {X T : Type 0} → List Knowledge → Letter → List (Entry X ℕ T) → Bool
all_listed table l es = list_all (λ e. is_listed table l e.residual) es

-- where the step of x is listed first, if each residual after it is listed
abbrev pub next_place : List Knowledge → Subject ℕ → PlainConfiguration ℕ → Letter → Option ℕ
next_place table s x l =
    if all_listed table l (entries_before s x) then position (λ y. same_configuration s.on y (step_of s x l))
    s.configurations else None

abbrev pub number_meets : List Knowledge → Subject ℕ → PlainConfiguration ℕ → Letter → Bool
number_meets table s x l =
    is_some (next_place table s x l)
    && entries_agree s.on (move_of s x l).phase (row_at s.rows (move_of s x l).next).kind
    (no_ind (entries_before s x)) (kept_entries s x l)

-- What a book of residuals says: the residuals themselves are plain expressions, no two of them the same, the whole
-- pattern in normal form first.
use Rattle.std.specs.Prelude.{◌≡◌, ◌⊎◌, ℕ, ◌+◌, ◌<◌, ◌≤◌, Bool, true, false, if◌then◌else◌, ◌==◌, List, [], ◌∷◌, ◌++◌, Option, None, Some, map, length, slice_get}
use Rattle.std.specs.List.{AllByRecursion, list_any}
use Rattle.ts_base.specs.declared.letter.Letter.{Letter}
use Rattle.ts_base.specs.declared.letter.Letter.TheVariants.{Less, Equal, Greater}
use Rattle.ts_regex.specs.Shape.{Shape}
use Rattle.ts_regex.specs.Derivative.{has_word}
use Rattle.ts_regex.specs.NormalForm.{residual, normal_form}
use Rattle.ts_forms.specs.Tables.{shapes as shapes_in, Grows, IsTable, AreThere, forms_at}
use Rattle.ts_pattern.specs.declared.plan.Tag.{Tag}
use Rattle.ts_pattern.specs.declared.plan.Live.{Live}
use Rattle.ts_pattern.specs.declared.plan.Configuration.{Configuration}
use Rattle.ts_pattern.specs.Entries.{Entry, shapes, derive_entry, survivors, with_entry}
use Rattle.ts_pattern.specs.Closed.{PlainConfiguration, Subject, step_of, with_start}
use Rattle.ts_pattern.specs.Plans.{shape_at, entry_value, configuration_value, plain_live, plain_configuration}
use Rattle.ts_validate.specs.Facts.{words_of}
use Rattle.ts_validate.specs.Numbers.{plain_lives}
use Rattle.ts_user.specs.declared.book.Next.{Next}
use Rattle.ts_user.specs.declared.book.Next.TheVariants.{Unread, NoWord, Number}
use Rattle.ts_user.specs.declared.book.Nexts.{Nexts}
use Rattle.ts_user.specs.declared.book.Book.{Book}
use Rattle.ts_user.specs.declared.step.KeptEntries.{KeptEntries}
use Rattle.ts_user.specs.FirstReached.{agrees}
use Rattle.ts_user.specs.Numbered.{AreDifferent, AreNumbered, live_numbers}

abbrev pub residuals_of : Book → List Shape
residuals_of b = forms_at (shapes_in b.forms) b.residuals.items

abbrev pub next_on : Letter → Nexts → Next
next_on Less n = n.less
next_on Equal n = n.equal
next_on Greater n = n.greater

abbrev pub next_with : Nexts → Letter → Next → Nexts
next_with n Less x = record n { less = x }
next_with n Equal x = record n { equal = x }
next_with n Greater x = record n { greater = x }

abbrev pub all_unread : Nexts
all_unread = record { less = Unread; equal = Unread; greater = Unread }

-- j is the number of r
abbrev pub IsNumberOf : List Shape → Shape → ℕ → Type 0
IsNumberOf rs r j = (j < length rs) × (shape_at rs j ≡ r)

-- what is known of r, as what a letter leaves
abbrev pub NextSays : List Shape → Shape → Next → Type 0
NextSays rs r Unread = Unit {0}
NextSays rs r NoWord = has_word r ≡ false
NextSays rs r (Number j) = (has_word r ≡ true) × IsNumberOf rs r j

abbrev pub NextsSay : List Shape → Shape → Nexts → Type 0
NextsSay rs r n = (l : Letter) → NextSays rs (residual r l) (next_on l n)

pub record IsBook (p : Shape) (b : Book) : Type 0 where
  pub some : 0 < length (residuals_of b)
  pub whole : shape_at (residuals_of b) 0 ≡ normal_form p
  pub forms : IsTable b.forms
  pub there : AreThere (shapes_in b.forms) b.residuals.items
  pub places : b.places.keys ≡ b.residuals.items
  pub words : b.words.items ≡ map (λ r. words_of r) (residuals_of b)
  pub as_many_nexts : length b.nexts.items ≡ length (residuals_of b)
  pub once : AreDifferent (residuals_of b)
  pub nexts : (i : ℕ) (n : Nexts) → slice_get b.nexts.items i ≡ Some n →
      NextsSay (residuals_of b) (shape_at (residuals_of b) i) n

-- r stood there or comes last now, and j is its number
abbrev pub IsFound : List Shape → List Shape → Shape → ℕ → Type 0
IsFound old new r j = ((new ≡ old) ⊎ ((new ≡ old ++ r ∷ []) × (j ≡ length old))) × IsNumberOf new r j

-- the number of r, or that it has no word
abbrev pub IsAfter : List Shape → List Shape → Shape → Option ℕ → Type 0
IsAfter old new r None = (has_word r ≡ false) × (new ≡ old)
IsAfter old new r (Some j) = (has_word r ≡ true) × IsFound old new r j

-- each entry has the number of a residual
abbrev pub AreListed : List Shape → List Live → Type 0
AreListed rs es = AllByRecursion (λ i. i < length rs) (live_numbers es)

-- the entries by their residuals themselves
abbrev pub values : List Shape → List Live → List (Entry (Unit {0}) Shape Tag)
values rs es = map (λ e. entry_value rs e) (plain_lives es)

-- what the letter leaves of the entry e is added to the entries before, if it is new
pub record IsAdded (old new : List Shape) (l : Letter) (e : Live) (before after : List Live) : Type 0 where
  pub grows : Grows old new
  pub one_residual : length new ≤ length old + 1
  pub one_entry : length after ≤ length before + 1
  pub value : values new after
      ≡ with_entry shapes (values old before) (derive_entry shapes l (entry_value old (plain_live e)))
  pub listed : AreListed new after
  pub numbered : (n : ℕ) → AreNumbered n (live_numbers before) (length old) →
      AreNumbered n (live_numbers after) (length new)

-- what the letter leaves of all entries and of the start at the sign now read
pub record IsLeft (old new : List Shape) (whole : Shape) (b : ℕ) (l : Letter) (live kept : List Live) : Type 0 where
  pub grows : Grows old new
  pub few : length kept ≤ length live + 1
  pub value : values new kept ≡ survivors shapes l (with_start tt whole b (values old live))
  pub listed : AreListed new kept
  pub numbered : AreNumbered (length old) (live_numbers kept) (length new)

-- the numbers of the residuals stand beside the entries
abbrev pub HasNumbers : KeptEntries → Type 0
HasNumbers kept = kept.numbers.keys ≡ live_numbers kept.live.items

-- an entry with residual j, unless one stands there
abbrev pub with_new : List Live → ℕ → Tag → List Live
with_new es j g = if list_any (λ e. e.residual == j) es then es else es ++ record { residual = j; tag = g } ∷ []

-- a configuration by its residuals themselves
abbrev pub value_of : List Shape → Configuration → PlainConfiguration Shape
value_of rs x = configuration_value rs (plain_configuration x)

-- the step of a configuration, and whether its checks hold
pub record IsStep (s : Subject Shape) (old new : List Shape) (here : Configuration) (l : Letter) (to : Configuration)
    (ok : Bool) : Type 0 where
  pub grows : Grows old new
  pub few : length to.live.items ≤ length here.live.items + 1
  pub value : value_of new to ≡ step_of s (value_of old here) l
  pub agrees : ok ≡ agrees s (value_of old here) l
  pub listed : AreListed new to.live.items
  pub numbered : AreNumbered (length old) (live_numbers to.live.items) (length new)

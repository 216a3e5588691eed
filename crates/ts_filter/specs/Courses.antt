-- Where drops may still be, of each term that requirements name, while they are looked for cell by cell.
use Rattle.std.specs.Prelude.{◌≡◌, ◌⊎◌, ℕ, ◌+◌, ◌<◌, ◌≤◌, ◌≤ℤ◌, List, length, Option, None, Some, slice_get}
use Rattle.ts_base.specs.Limits.{greatest_value}
use Rattle.ts_bound.specs.TermSpans.{Automata, IsUsable}
use Rattle.ts_domain.specs.BoxSeries.{IsBox}
use Rattle.ts_model.specs.declared.model.Require.{Require}
use Rattle.ts_filter.specs.declared.courses.Course.{Course}
use Rattle.ts_filter.specs.declared.courses.Step.{Step}
use Rattle.ts_filter.specs.declared.courses.TermCourse.{TermCourse}
use Rattle.ts_filter.specs.declared.drops.Removal.{Removal}
use Rattle.ts_filter.specs.Boxes.{Box, values_at}
use Rattle.ts_filter.specs.Drops.{IsFirstOf, MayDrop}
use Rattle.ts_filter.specs.KeptCells.{TermKept, spared_in}
use Rattle.ts_filter.specs.MachineSpans.{spans_of}
use Rattle.ts_filter.specs.OfTerm.{OfTerm}
use Rattle.ts_filter.specs.TermDrops.{IsDropAt, IsRefutedOutside, IsTermDrop}

-- more cells than come before any cell
abbrev pub past_all : ℕ
past_all = 4294967295

-- cell k has one value alone, or it is known that all its values are spared
abbrev pub IsPassed : Option TermKept → Box → ℕ → Type 0
IsPassed kept b k = (greatest_value ≤ℤ spared_in kept k) ⊎ (length (values_at k b) ≡ 1)

-- the cells after the first `from`, up to cell `to`, of the first `count`, are passed over
abbrev pub ArePassed : Option TermKept → Box → (from to count : ℕ) → Type 0
ArePassed kept b from to count = (k : ℕ) → from < k → k ≤ to → k ≤ count → IsPassed kept b k

-- each drop by the requirements of the term whose machine this is lies at a cell of the course
pub record IsCourse (requirements : List Require) (term : ℕ) (a : Automata) (b : Box) (c : Course) : Type 0 where
  pub holds : (r : Removal) → IsTermDrop requirements term a b r → (c.before < r.cell) × (r.cell ≤ c.last)
  pub usable : (k : ℕ) → c.before < k → k ≤ c.last → IsUsable a k b
  pub going : c.before < past_all →
      (c.before < c.last) × IsBox b × IsRefutedOutside requirements term a b c.outside

-- the first drop at the next cell of the course is found, and the others lie at a cell of the new course
pub record IsStep (requirements : List Require) (term : ℕ) (a : Automata) (b : Box) (c : Course)
    (s : Step) : Type 0 where
  pub found : IsFirstOf (IsDropAt requirements term a b (c.before + 1)) s.found
  pub course : IsCourse requirements term a b s.course
  pub on : c.before ≤ s.course.before
  pub past : s.found ≡ None → c.before < s.course.before

-- at least m cells come before the next one of each course
abbrev pub AllFrom : ℕ → List TermCourse → Type 0
AllFrom m cs = (i : ℕ) (c : TermCourse) → slice_get cs i ≡ Some c → m ≤ c.course.before

-- one of the courses is that of the term
pub record HasCourse (cs : List TermCourse) (term : ℕ) : Type 0 where
  pub place : ℕ
  pub course : TermCourse
  pub there : slice_get cs place ≡ Some course
  pub of_term : course.term ≡ term

-- it is the course of its term
abbrev pub IsTermCourse : List Require → List Automata → Box → TermCourse → Type 0
IsTermCourse requirements machines b c =
    (c.term < length machines) × OfTerm machines c.term (λ a. IsCourse requirements c.term a b c.course)

abbrev pub EachCourse : List Require → List Automata → Box → List TermCourse → Type 0
EachCourse requirements machines b cs =
    (i : ℕ) (c : TermCourse) → slice_get cs i ≡ Some c → IsTermCourse requirements machines b c

-- there is a course of each term that a requirement names
pub record AreCourses (requirements : List Require) (machines : List Automata) (b : Box)
    (cs : List TermCourse) : Type 0 where
  pub each : EachCourse requirements machines b cs
  pub all : (i : ℕ) (r : Require) → slice_get requirements i ≡ Some r → HasCourse cs r.term

-- the drop is at cell k
abbrev pub IsCellDrop : List Require → List Automata → Box → ℕ → Removal → Type 0
IsCellDrop requirements machines b k r = MayDrop requirements (spans_of machines) b r × (r.cell ≡ k)

-- the first drop at the cell after the first `before` is found; where there is none, the courses go on after it
pub record AreAsked (requirements : List Require) (machines : List Automata) (b : Box) (before : ℕ)
    (cs : List TermCourse) (found : Option Removal) : Type 0 where
  pub courses : AreCourses requirements machines b cs
  pub past : found ≡ None → AllFrom (before + 1) cs
  pub first : IsFirstOf (IsCellDrop requirements machines b (before + 1)) found

-- Boxes of which it is known without asking that their lines are splits.
use Rattle.std.specs.Prelude.{◌≡◌, ◌+◌, ◌≤◌, ◌≤ℤ◌, ℕ, zero, suc, ℤ, pos, Contains, IsTrue, List, [], ◌∷◌, get_or, length, min}
use Rattle.ts_base.specs.declared.ext.Ext.{Ext}
use Rattle.ts_base.specs.declared.ext.Ext.TheVariants.{NegInf, Int, PosInf}
use Rattle.ts_automaton.specs.declared.state.Mark.{Mark}
use Rattle.ts_automaton.specs.declared.state.Mark.TheVariants.{Same, Zero as ZeroMark, Cells}
use Rattle.ts_certificate.specs.declared.certificate.TreeLine.{TreeLine}
use Rattle.ts_certificate.specs.declared.certificate.TreeLine.TheVariants.{Split}
use Rattle.ts_filter.specs.declared.bar.Bar.{Bar}
use Rattle.ts_filter.specs.Boxes.{Box, IsInside, low_side, only, values_at}
use Rattle.ts_filter.specs.RefutedWorseDrop.{IsCut, IsRefuted}
use Rattle.ts_domain.specs.BoxSeries.{Boxes, all_boxes}
use Rattle.ts_domain.specs.Kept.{values_above}
use Rattle.ts_model.specs.declared.model.Op.{Op}
use Rattle.ts_model.specs.declared.model.Op.TheVariants.{AtMost}
use Rattle.ts_frontier.specs.Forms.{Form, Alone, Wide, form}
use Rattle.ts_search.specs.declared.pace.Pace.{Pace}
use Rattle.ts_search.specs.LineOf.{Contest, Search, Sought, TheBest, TheFirst, line_of}

-- the lower side of the box, by its form; of a box of one series, the box
abbrev pub lower : Box → Form → Box
lower b (Alone x) = b
lower b (Wide k t) = low_side k t b

-- the box after n splits, each time the lower side
abbrev pub after_splits : ℕ → Box → Box
after_splits zero b = b
after_splits (suc n) b = after_splits n (lower b (form b))

-- the line splits a box of this form
abbrev pub SplitsIt : TreeLine → Form → Type 0
SplitsIt l (Alone x) = ⊥
SplitsIt l (Wide k t) = l ≡ Split k t

-- the lines of the box and of the lower sides below it, n in all, are splits
abbrev pub AreSplits : Sought → ℕ → Box → Type 0
AreSplits q zero b = Unit {0}
AreSplits q (suc n) b = SplitsIt (line_of q b) (form b) × AreSplits q n (lower b (form b))

-- how many splits came one after the other, once this line is written too; at most the greatest number of 32 bits
abbrev pub splits_after : TreeLine → ℕ → ℕ
splits_after (Split k t) n = min (n + 1) 4294967295
splits_after other n = 0

-- the lines of the first box that waits and of the lower sides below it, n in all, are splits
abbrev pub AreAhead : Sought → ℕ → List Box → Type 0
AreAhead q n [] = Unit {0}
AreAhead q n (b ∷ waiting) = AreSplits q n b

-- with none of the values that a split takes away from the lower side is a requirement refuted at the cell
abbrev pub TakesFreeValues : Search → Box → Form → Type 0
TakesFreeValues c b (Alone x) = ⊥
TakesFreeValues c b (Wide k t) =
    (v : ℤ) (j : ℕ) → Contains (values_above t (values_at k b)) v →
    IsRefuted c.model.requirements c.spans j k (only k v b) → ⊥

-- none of n splits, of the box and then of each lower side, takes away a value with which a requirement is refuted at
-- the cell
abbrev pub AreTried : Search → ℕ → Box → Type 0
AreTried c zero b = Unit {0}
AreTried c (suc n) b = TakesFreeValues c b (form b) × AreTried c n (lower b (form b))

-- the box, and after it on the trail the lower side of each box before
abbrev pub LeadDown : Box → Boxes → Type 0
LeadDown b w = (i : ℕ) → i ≤ length w.earlier → get_or (all_boxes w) i [] ≡ after_splits i b

-- what is refuted on a box is refuted on each box inside it
abbrev pub RefutesInside : Search → Type 0
RefutesInside c =
    (j p : ℕ) (b inner : Box) → IsInside inner b → IsRefuted c.model.requirements c.spans j p b →
    IsRefuted c.model.requirements c.spans j p inner

-- what is cut on a box is cut on each box inside it
abbrev pub CutsInside : Contest → Type 0
CutsInside c =
    (p : ℕ) (b inner : Box) (bar : Bar) → IsInside inner b →
    IsCut c.search.model c.search.spans c.goal p b bar → IsCut c.search.model c.search.spans c.goal p inner bar

-- what excludes a box excludes each box inside it
abbrev pub ExcludesInside : Sought → Type 0
ExcludesInside (TheBest c found) = RefutesInside c.search × CutsInside c
ExcludesInside (TheFirst c) = RefutesInside c

-- under the mark of its term, a span that refutes a requirement refutes it on each box inside: the mark changes
-- nothing; or it makes 0 of -inf, and the term is to be at most a number that isn't below 0
abbrev pub ShowsInside : Mark → Op → Ext → Type 0
ShowsInside Same op bound = Unit {0}
ShowsInside ZeroMark op NegInf = ⊥
ShowsInside ZeroMark op (Int b) = (op ≡ AtMost) × (pos 0 ≤ℤ b)
ShowsInside ZeroMark op PosInf = ⊥
ShowsInside Cells op bound = ⊥

-- what is known of the lines to come holds, and where leaps may be made, what excludes a box excludes those inside it
pub record IsPaced (q : Sought) (p : Pace) (waiting : List Box) : Type 0 where
  pub inside : IsTrue p.leaps → ExcludesInside q
  pub ahead : AreAhead q p.ahead waiting

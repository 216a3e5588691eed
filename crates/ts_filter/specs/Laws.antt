-- What is promised of boxes, trees and certificates, and what is asked of spans for it.
use Rattle.std.specs.Prelude.{◌≡◌, ℕ, ◌+◌, ◌-◌, ◌*◌, ◌≤◌, ◌⊎◌, ◌↔◌, ℤ, pos, true, false, IsTrue, List, [], ◌∷◌, ◌++◌}
use Rattle.std.specs.Prelude.{Some, None}
use Rattle.std.specs.Prelude.{Option, MatchOption, get_or, length, take}
use Rattle.std.specs.List.{AllByRecursion, list_all}
use Rattle.ts_base.specs.declared.ext.Ext.{Ext}
use Rattle.ts_base.specs.declared.goal.Goal.{Goal}
use Rattle.ts_base.specs.Limits.{most_cells, most_requirements}
use Rattle.ts_base.specs.Spans.{Holds as SpanHolds, one_span}
use Rattle.ts_certificate.specs.declared.certificate.TreeLine.{TreeLine}
use Rattle.ts_certificate.specs.Certificate.{Cert, cert_lines}
use Rattle.ts_certificate.specs.Grammar.{CertLine, series_count}
use Rattle.ts_certificate.specs.TreeLines.{is_tree_line}
use Rattle.ts_domain.specs.BoxSeries.{InBox, IsBefore, IsBox, series_count as series_in}
use Rattle.ts_model.specs.declared.model.Require.{Require}
use Rattle.ts_model.specs.Meets.{IsMet, Meets, value_at}
use Rattle.ts_model.specs.Promise.{IsWhole}
use Rattle.ts_model.specs.ModelParts.{ModelParts, total_of}
use Rattle.ts_filter.specs.declared.bar.Bar.{Bar}
use Rattle.ts_model.specs.FirstBest.{objective_of}
use Rattle.ts_filter.specs.Accepts.{Accepts}
use Rattle.ts_filter.specs.Boxes.{Box, HasCell, low_side, high_side, without, box_of, IsPart}
use Rattle.ts_filter.specs.Excluded.{counts}
use Rattle.ts_filter.specs.Holds.{Holds}
use Rattle.ts_filter.specs.Lines.{Stand, first_stand, KeepsLine, stand_after, Leads, IsFirstFailing, IsOutcome}
use Rattle.ts_filter.specs.RefutedWorseDrop.{Spans, IsUsable, IsRequirement, IsRefuted, IsCut, IsDrop}
use Rattle.ts_filter.specs.Rules.{Head}
use Rattle.ts_filter.specs.Steps.{Steps}
use Rattle.ts_filter.specs.Tests.{is_refuted, is_cut, is_drop}
use Rattle.ts_filter.specs.Tree.{Tree, tree_lines, reported_after, Fits, IsFormed}

-- What is asked of spans.

-- what is refuted has no series that meets, and what is cut has none whose objective counts for the bar
pub record IsSound (m : ModelParts) (s : Spans) : Type 0 where
  pub refuted : (j p : ℕ) (b : Box) (x : List ℤ) → IsPart b m.cells → IsRefuted m.requirements s j p b → InBox x b →
      Meets m x → ⊥
  pub cut : (goal : Goal) (p : ℕ) (b : Box) (bar : Bar) (x : List ℤ) (v : Ext) → IsPart b m.cells →
      IsCut m s goal p b bar → InBox x b → objective_of m x ≡ Some v → counts goal bar v ≡ false

-- the span of a term at a usable cell holds its value on each series of the box
abbrev pub HoldsValues : ModelParts → Spans → Type 0
HoldsValues m s =
    (term p : ℕ) (b : Box) (x : List ℤ) (v : Ext) → IsPart b m.cells → IsUsable s term p b → InBox x b →
    value_at m x term ≡ Some v → SpanHolds (s.span_at term p b) v

abbrev pub ValuesAreSound : Type 0
ValuesAreSound = (m : ModelParts) (s : Spans) → HoldsValues m s → IsSound m s

-- on the box of one series, the span of a term at the last cell holds its value alone
abbrev pub TellsSingles : ModelParts → Spans → Type 0
TellsSingles m s =
    (term : ℕ) (x : List ℤ) (v : Ext) → InBox x m.cells → value_at m x term ≡ Some v →
    s.span_at term (length x) (box_of x) ≡ one_span v

-- on the box of one series, at the last cell, a requirement is refuted exactly where it isn't met, and the objective is
-- cut exactly where its value doesn't count
pub record IsExact (m : ModelParts) (s : Spans) : Type 0 where
  pub refuted : (j : ℕ) (r : Require) (x : List ℤ) → InBox x m.cells → IsRequirement m.requirements j r →
      IsRefuted m.requirements s j (length x) (box_of x) ↔ (IsMet m x r → ⊥)
  pub cut : (goal : Goal) (bar : Bar) (x : List ℤ) (v : Ext) → InBox x m.cells → objective_of m x ≡ Some v →
      IsCut m s goal (length x) (box_of x) bar ↔ (counts goal bar v ≡ false)

abbrev pub SinglesAreExact : Type 0
SinglesAreExact = (m : ModelParts) (s : Spans) → IsWhole m → TellsSingles m s → IsExact m s

-- where fewer values count, more boxes are cut
abbrev pub HigherBarCutsMore : Type 0
HigherBarCutsMore =
    (m : ModelParts) (s : Spans) (goal : Goal) (p : ℕ) (b : Box) (lower higher : Bar) →
    ((v : Ext) → counts goal higher v ≡ true → counts goal lower v ≡ true) →
    IsCut m s goal p b lower → IsCut m s goal p b higher

-- a drop loses no series that meets
abbrev pub DropLosesNone : Type 0
DropLosesNone =
    (m : ModelParts) (s : Spans) (k : ℕ) (v : ℤ) (j : ℕ) (b : Box) (x : List ℤ) → IsSound m s → IsPart b m.cells →
    IsDrop m.requirements s k v j b → InBox x b → Meets m x → InBox x (without k v b)

-- the tests that compute decide what is refuted, cut and may be dropped
pub record AreTests (s : Spans) : Type 0 where
  pub refuted : (requirements : List Require) (j p : ℕ) (b : Box) →
      IsTrue (is_refuted requirements s j p b) ↔ IsRefuted requirements s j p b
  pub cut : (m : ModelParts) (goal : Goal) (p : ℕ) (b : Box) (bar : Bar) →
      IsTrue (is_cut m s goal p b bar) ↔ IsCut m s goal p b bar
  pub drop : (requirements : List Require) (k : ℕ) (v : ℤ) (j : ℕ) (b : Box) →
      IsTrue (is_drop requirements s k v j b) ↔ IsDrop requirements s k v j b

abbrev pub TestsTell : Type 0
TestsTell = (s : Spans) → AreTests s

-- Boxes.

-- the two sides of a split have the series of the box between them, and none in common
pub record IsCutInTwo (b low high : Box) : Type 0 where
  pub between : (x : List ℤ) → InBox x b → InBox x low ⊎ InBox x high
  pub below : (x : List ℤ) → InBox x low → InBox x b
  pub above : (x : List ℤ) → InBox x high → InBox x b
  pub apart : (x : List ℤ) → InBox x low → InBox x high → ⊥

abbrev pub SplitCutsInTwo : Type 0
SplitCutsInTwo = (k : ℕ) (t : ℤ) (b : Box) → HasCell k b → IsCutInTwo b (low_side k t b) (high_side k t b)

-- where the cells before have one value each, the series of the lower side come first
abbrev pub LowerSideFirst : Type 0
LowerSideFirst =
    (k : ℕ) (t : ℤ) (b : Box) (x y : List ℤ) → HasCell k b → AllByRecursion (λ d. length d ≡ 1) (take (k - 1) b) →
    InBox x (low_side k t b) → InBox y (high_side k t b) → IsBefore x y

-- a drop leaves exactly the series that have another value
abbrev pub DropLeavesOthers : Type 0
DropLeavesOthers =
    (k : ℕ) (v : ℤ) (b : Box) (x : List ℤ) → HasCell k b →
    InBox x (without k v b) ↔ (InBox x b × (get_or x (k - 1) (pos 0) ≡ v → ⊥))

-- Trees.

-- the lines of one tree for a box, each by its rule, are steps from the box to none
abbrev pub TreeIsSteps : Type 0
TreeIsSteps =
    (m : ModelParts) (s : Spans) (h : Head) (b : Box) (ls : List TreeLine) (reported : ℕ) →
    ((t : Tree) × (tree_lines t ≡ ls) × Fits m s h 0 b t × (reported_after t 0 ≡ reported))
    ↔ Steps m s h (b ∷ []) 0 ls [] reported

-- a tree that is formed, for a box of S series, has at most 2·S - 1 lines
abbrev pub FormedIsShort : Type 0
FormedIsShort = (t : Tree) (b : Box) → IsBox b → IsFormed b t → length (tree_lines t) + 1 ≤ 2 * series_in b

-- each tree whose lines keep their rules is formed
abbrev pub FitIsFormed : Type 0
FitIsFormed =
    (m : ModelParts) (s : Spans) (h : Head) (reported : ℕ) (t : Tree) (b : Box) → IsBox b → Fits m s h reported b t →
    IsFormed b t

-- with V values in all domains together and n cells, at most V + 1 - n boxes wait at any time
abbrev pub StepsLeaveFew : Type 0
StepsLeaveFew =
    (m : ModelParts) (s : Spans) (h : Head) (ls : List TreeLine) (waiting : List Box) (reported : ℕ) → IsBox m.cells →
    Steps m s h (m.cells ∷ []) 0 ls waiting reported → length waiting + length m.cells ≤ total_of m.cells + 1

-- lines that keep their rules and more that keep theirs after them keep their rules together
abbrev pub StepsGoOn : Type 0
StepsGoOn =
    (m : ModelParts) (s : Spans) (h : Head) (ls more : List TreeLine) (waiting left end : List Box)
    (reported after last : ℕ) →
    Steps m s h waiting reported ls left after → Steps m s h left after more end last →
    Steps m s h waiting reported (ls ++ more) end last

-- each line is in the ranges of the grammar, where the model keeps its limits
abbrev pub LinesInRange : Type 0
LinesInRange =
    (m : ModelParts) (s : Spans) (h : Head) (ls : List TreeLine) (waiting : List Box) (reported : ℕ) → IsBox m.cells →
    length m.cells ≤ most_cells → length m.requirements ≤ most_requirements →
    Steps m s h (m.cells ∷ []) 0 ls waiting reported → list_all is_tree_line ls ≡ true

-- each box that waits is one inside the model's
abbrev pub WaitingAreParts : Type 0
WaitingAreParts =
    (m : ModelParts) (s : Spans) (h : Head) (ls : List TreeLine) (waiting : List Box) (reported : ℕ) → IsBox m.cells →
    Steps m s h (m.cells ∷ []) 0 ls waiting reported → AllByRecursion (λ b. IsPart b m.cells) waiting

-- Certificates.

-- what is accepted is true
abbrev pub AcceptedHolds : Type 0
AcceptedHolds = (m : ModelParts) (s : Spans) (c : Cert) → IsBox m.cells → IsSound m s → Accepts m s c → Holds m c

-- a certificate is accepted exactly where each of its lines keeps its rule
abbrev pub AcceptedIsKept : Type 0
AcceptedIsKept =
    (m : ModelParts) (s : Spans) (c : Cert) → length c.series ≡ series_count c.claim →
    Accepts m s c ↔ ((t : Stand) × Leads m s (first_stand m) (cert_lines c) t)

-- there is one first failing line, and none where the certificate is accepted
abbrev pub OneFirstFailing : Type 0
OneFirstFailing =
    (m : ModelParts) (s : Spans) (c : Cert) (k n : ℕ) → IsFirstFailing m s c k → IsFirstFailing m s c n → k ≡ n

abbrev pub FailingIsRejected : Type 0
FailingIsRejected = (m : ModelParts) (s : Spans) (c : Cert) (n : ℕ) → IsFirstFailing m s c n → Accepts m s c → ⊥

-- what is known of the lines so far, after one more
pub record GoesOn (m : ModelParts) (s : Spans) (ls : List CertLine) (l : CertLine) : Type 0 where
  pub keeps : (t : Stand) → IsOutcome m s ls t None → KeepsLine m s t l →
      IsOutcome m s (ls ++ l ∷ []) (stand_after t l) None
  pub breaks : (t u : Stand) → IsOutcome m s ls t None → (KeepsLine m s t l → ⊥) →
      IsOutcome m s (ls ++ l ∷ []) u (Some (length ls + 1))
  pub broken : (t u : Stand) (n : ℕ) → IsOutcome m s ls t (Some n) → IsOutcome m s (ls ++ l ∷ []) u (Some n)

abbrev pub LinesGoOn : Type 0
LinesGoOn = (m : ModelParts) (s : Spans) (ls : List CertLine) (l : CertLine) → GoesOn m s ls l

-- what is known of all lines of a certificate is the verdict on it
abbrev pub WholeIsJudged : Type 0
WholeIsJudged =
    (m : ModelParts) (s : Spans) (c : Cert) (t : Stand) (failed : Option ℕ) → length c.series ≡ series_count c.claim →
    IsOutcome m s (cert_lines c) t failed →
    MatchOption failed (Accepts m s c) (λ n. IsFirstFailing m s c n × (Accepts m s c → ⊥))

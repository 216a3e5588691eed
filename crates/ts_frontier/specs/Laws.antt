-- What is promised of the form of a box, and of lines that are followed.
use Rattle.std.specs.Prelude.{◌≡◌, ℕ, ◌+◌, ◌≤◌, ℤ, List, [], ◌∷◌, length, Option}
use Rattle.ts_certificate.specs.declared.certificate.TreeLine.{TreeLine}
use Rattle.ts_certificate.specs.Grammar.{CertLine}
use Rattle.ts_domain.specs.BoxSeries.{IsBox}
use Rattle.ts_model.specs.ModelParts.{ModelParts, total_of}
use Rattle.ts_filter.specs.Boxes.{Box, box_of}
use Rattle.ts_filter.specs.Lines.{Stand, IsOutcome}
use Rattle.ts_filter.specs.RefutedWorseDrop.{Spans}
use Rattle.ts_filter.specs.Rules.{Head, KeepsRule}
use Rattle.ts_frontier.specs.Follow.{MakesBoxes, LeadTo, WaitAfter}
use Rattle.ts_frontier.specs.Forms.{Alone, Wide, form}
use Rattle.ts_frontier.specs.Halve.{IsHalving}

-- the form of a box is its one series, or where it is split
pub record FormTells (b : Box) : Type 0 where
  pub alone : (x : List ℤ) → form b ≡ Alone x → b ≡ box_of x
  pub wide : (k : ℕ) (t : ℤ) → form b ≡ Wide k t → IsHalving k t b

abbrev pub FormsTell : Type 0
FormsTell = (b : Box) → IsBox b → FormTells b

-- a line that keeps its rule may be followed
abbrev pub RulesFollow : Type 0
RulesFollow =
    (m : ModelParts) (s : Spans) (h : Head) (told : ℕ) (b : Box) (l : TreeLine) → IsBox b → KeepsRule m s h told b l →
    MakesBoxes l b

-- with V values in all n cells together, at most V + 1 - n boxes wait, whatever lines are followed
abbrev pub FewWait : Type 0
FewWait =
    (cells : Box) (ls : List TreeLine) (waiting : List Box) → IsBox cells → LeadTo (cells ∷ []) ls waiting →
    length waiting + length cells ≤ total_of cells + 1

-- few boxes wait whatever the lines of a certificate are: those so far lead to the boxes of a stand, or one of them
-- broke its rule and nothing waits
abbrev pub FewWaitAfter : Type 0
FewWaitAfter =
    (m : ModelParts) (s : Spans) (ls : List CertLine) (t : Stand) (failed : Option ℕ) (waiting : List Box) →
    IsBox m.cells → IsOutcome m s ls t failed → WaitAfter failed t.waiting waiting →
    length waiting + length m.cells ≤ total_of m.cells + 1

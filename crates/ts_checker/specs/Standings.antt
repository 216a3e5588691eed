-- Where the lines of a certificate have led, as plain data, and when a line may lead on.
use Rattle.std.specs.Prelude.{◌≡◌, ◌<◌, [], ◌∷◌, length, IsTrue}
use Rattle.std.specs.List.{AllByRecursion}
use Rattle.ts_base.specs.Limits.{IsCellValue}
use Rattle.ts_certificate.specs.declared.certificate.Parsed.{Parsed}
use Rattle.ts_certificate.specs.declared.certificate.Parsed.TheVariants.{Aim, Claim, Series, Tree, End}
use Rattle.ts_certificate.specs.declared.certificate.TreeLine.{TreeLine}
use Rattle.ts_certificate.specs.declared.certificate.TreeLine.TheVariants.{Yes}
use Rattle.ts_frontier.specs.Follow.{MakesBoxes}
use Rattle.ts_frontier.specs.Waiting.{first, rest}
use Rattle.ts_filter.specs.Lines.{Stand}
use Rattle.ts_checker.specs.declared.standing.Standing.{Standing}
use Rattle.ts_checker.specs.Subjects.{series_of}

abbrev pub stand_of : Standing → Stand
stand_of t = record {
  aim = t.aim;
  claim = t.claim;
  series = series_of t.series.items;
  waiting = t.frontier.boxes;
  reported = t.reported;
}

-- where lines have led, with no box that waits any more
abbrev pub without_boxes : Stand → Stand
without_boxes t = record t { waiting = [] }

-- the next box is present and has what the line names, and a series waits for its `yes`
pub record MayStep (t : Standing) (line : TreeLine) : Type 0 where
  pub ready : IsTrue t.frontier.ready
  pub front : t.frontier.boxes ≡ first t.frontier.boxes ∷ rest t.frontier.boxes
  pub fits : MakesBoxes line (first t.frontier.boxes)
  pub reported : line ≡ Yes → t.reported < length t.series.items

abbrev pub MayTake : Standing → Parsed → Type 0
MayTake t (Aim a) = Unit {0}
MayTake t (Claim c) = Unit {0}
MayTake t (Series x) = Unit {0}
MayTake t (Tree line) = MayStep t line
MayTake t (End checked unsearched) = Unit {0}

-- the numbers of a series line are values that a cell may have
abbrev pub AreValues : Parsed → Type 0
AreValues (Aim a) = Unit {0}
AreValues (Claim c) = Unit {0}
AreValues (Series x) = AllByRecursion IsCellValue x.items
AreValues (Tree line) = Unit {0}
AreValues (End checked unsearched) = Unit {0}

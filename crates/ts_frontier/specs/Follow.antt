-- When each box that a line of a tree makes has series, and where such lines lead, whatever their rules ask.
use Rattle.std.specs.Prelude.{◌≡◌, ℕ, Bool, true, false, List, [], ◌∷◌, ◌++◌, Option, Some, None}
use Rattle.ts_certificate.specs.declared.certificate.TreeLine.{TreeLine}
use Rattle.ts_certificate.specs.declared.certificate.TreeLine.TheVariants.{Split, Remove, No, Worse, Yes, Unsearched}
use Rattle.ts_filter.specs.Boxes.{Box}
use Rattle.ts_filter.specs.Rules.{IsSplit}
use Rattle.ts_filter.specs.Steps.{made_by}
use Rattle.ts_filter.specs.Tree.{Removes}

-- both sides of a split have values, a removal takes a value and leaves one; any line may end a box
abbrev pub MakesBoxes : TreeLine → Box → Type 0
MakesBoxes (Split k t) b = IsSplit k t b
MakesBoxes (Remove k v j) b = Removes k v b
MakesBoxes (No j p) b = Unit {0}
MakesBoxes (Worse p) b = Unit {0}
MakesBoxes Yes b = Unit {0}
MakesBoxes Unsearched b = Unit {0}

-- whether the line makes boxes of the next one; the first of them is present then
abbrev pub makes_some : TreeLine → Bool
makes_some (Split k t) = true
makes_some (Remove k v j) = true
makes_some (No j p) = false
makes_some (Worse p) = false
makes_some Yes = false
makes_some Unsearched = false

-- from the boxes that wait, the lines lead to those boxes
abbrev pub LeadTo : List Box → List TreeLine → List Box → Type 0
LeadTo waiting [] left = waiting ≡ left
LeadTo [] (l ∷ ls) left = ⊥
LeadTo (b ∷ waiting) (l ∷ ls) left = MakesBoxes l b × LeadTo (made_by l b ++ waiting) ls left

-- what waits after lines that led to these boxes; nothing, where one of the lines broke its rule
abbrev pub WaitAfter : Option ℕ → List Box → List Box → Type 0
WaitAfter None led waiting = waiting ≡ led
WaitAfter (Some broken) led waiting = waiting ≡ []

-- The marks of a tree in order: those before its topmost one, that one, and those after it.
use Rattle.std.specs.Prelude.{◌≡◌, neg_ℤ, List, [], ◌∷◌, ◌++◌}
use Rattle.ts_base.specs.Limits.{greatest_value}
use Rattle.ts_domain.specs.declared.marks.Mark.{Mark}
use Rattle.ts_domain.specs.declared.marks.Root.{Root}
use Rattle.ts_domain.specs.declared.marks.Root.TheVariants.{Empty, Full}
use Rattle.ts_domain.specs.Marks.{MarksFrom, gain}

abbrev pub marks_of : Root → List Mark
marks_of Empty = []
marks_of (Full node) = node.value.before ++ node.value.mark ∷ node.value.behind

-- the marks rise, and the topmost node knows what all of them together do
abbrev pub RootFits : Root → Type 0
RootFits Empty = Unit {0}
RootFits (Full node) =
    MarksFrom (neg_ℤ greatest_value) (node.value.before ++ node.value.mark ∷ node.value.behind)
    × (node.value.more ≡ gain (node.value.before ++ node.value.mark ∷ node.value.behind))

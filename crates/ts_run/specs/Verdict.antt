-- What `check` says of a series: whether it meets the model, each cell and requirement at fault, and the value of each
-- term.
use Rattle.std.specs.Prelude.{ℕ, ◌+◌, ℤ, Bool, true, false, List, [], ◌∷◌, ◌++◌, map, codes}
use Rattle.std.specs.List.{zip}
use Rattle.std.specs.Fmt.{decimal}
use Rattle.ts_base.specs.declared.ext.Ext.{Ext}
use Rattle.ts_base.specs.Text.{ext_text, line}
use Rattle.ts_model.specs.Judgement.{all_hold, holdings, insides}
use Rattle.ts_model.specs.Meets.{values_on}
use Rattle.ts_model.specs.ModelParts.{ModelParts}
use Rattle.ts_run.specs.Reply.{Reply}
use Rattle.ts_run.specs.declared.status.Status.TheVariants.{Done, No}

-- a line with the number k, where the test fails
abbrev pub fault_line : List ℕ → ℕ → Bool → List ℕ
fault_line word k true = []
fault_line word k false = line (word ++ decimal k)

-- the lines of the tests, the first of which has the number k
abbrev pub fault_lines : List ℕ → ℕ → List Bool → List ℕ
fault_lines word k [] = []
fault_lines word k (t ∷ ts) = fault_line word k t ++ fault_lines word (k + 1) ts

abbrev pub value_line : List ℕ → Ext → List ℕ
value_line name value = line (codes "value " ++ name ++ codes " " ++ ext_text value)

abbrev pub value_lines : List (List ℕ × Ext) → List ℕ
value_lines [] = []
value_lines (v ∷ vs) = value_line v.0 v.1 ++ value_lines vs

-- the names of the terms
abbrev pub names_of : ModelParts → List (List ℕ)
names_of m = map (λ t. t.0) m.terms

-- what is said first, and the status, as all holds or not; then the rest
abbrev pub with_head : Bool → List ℕ → Reply
with_head true rest = record { text = codes "meets\n" ++ rest; status = Done }
with_head false rest = record { text = codes "fails\n" ++ rest; status = No }

-- the verdict by what lies inside, what holds, and the values
abbrev pub verdict_of : List Bool → List Bool → List (List ℕ × Ext) → Reply
verdict_of inside holding values =
    with_head (all_hold inside holding)
    (fault_lines (codes "outside ") 1 inside ++ fault_lines (codes "broken ") 1 holding ++ value_lines values)

-- the verdict on a series
abbrev pub verdict : ModelParts → List ℤ → Reply
verdict m xs =
    verdict_of (insides m.cells xs) (holdings (values_on m xs) m.requirements) (zip (names_of m) (values_on m xs))

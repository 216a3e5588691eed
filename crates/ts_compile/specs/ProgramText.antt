-- The text of a program: for each term a line with its name and what it is, its forward block, and either the line that
-- there is no reverse one, or the reverse block and how the two are glued.
use Rattle.std.specs.Prelude.{ℕ, codes, ◌==◌, ◌<◌, length, if◌then◌else◌, List, [], ◌∷◌, ◌++◌, map, Option, Some, None}
use Rattle.std.specs.Prelude.{String, string_bytes}
use Rattle.std.specs.Fmt.{decimal}
use Rattle.std.specs.Global.{Global}
use Rattle.ts_base.specs.declared.range.Join.{Join}
use Rattle.ts_base.specs.declared.range.Range.{Range}
use Rattle.ts_model.specs.declared.model.ModelTerm.{ModelTerm}
use Rattle.ts_pattern.specs.Names.{aggregator_name, feature_name, pattern_name}
use Rattle.ts_automaton.specs.Body.{Body}
use Rattle.ts_automaton.specs.declared.draft.Direction.TheVariants.{Forward, Reverse}
use Rattle.ts_automaton.specs.AutomatonText.{state_lines, name_at, words_text, lines_text, head_text, body_text}
use Rattle.ts_glue.specs.declared.table.FoldOp.{FoldOp}
use Rattle.ts_glue.specs.declared.table.FoldOp.TheVariants.{Add, Max, Min, Pair as Apart}
use Rattle.ts_glue.specs.declared.table.CellUnit.{CellUnit}
use Rattle.ts_glue.specs.declared.table.CellUnit.TheVariants.{Unit as UnitCell, Value as ValueCell}
use Rattle.ts_glue.specs.Pairs.{Table, Pair}
use Rattle.ts_compile.specs.Compiled.{machine_body, machine_pair}

-- the cells from the first to the last one
abbrev pub range_word : Range → List ℕ
range_word r = decimal r.first ++ (codes ".." ++ decimal r.last)

-- the tail of a term that looks at some of the cells alone
abbrev pub window_words : Option Range → List (List ℕ)
window_words None = []
window_words (Some window) = codes "in" ∷ range_word window ∷ []

-- a count is the sum of the feature one
abbrev pub term_words : List ℕ → ModelTerm → List (List ℕ)
term_words name t =
    codes "term" ∷ name ∷ aggregator_name t.term.aggregator ∷ feature_name t.term.feature ∷ pattern_name t.term.pattern
    ∷ window_words t.window

-- a trim is 0 or 1
abbrev pub trim_word : ℕ → List ℕ
trim_word a = if a == 0 then codes "0" else codes "1"

abbrev pub fold_word : FoldOp → List ℕ
fold_word Add = codes "add"
fold_word Max = codes "max"
fold_word Min = codes "min"
fold_word Apart = codes "range"

abbrev pub unit_word : CellUnit → List ℕ
unit_word UnitCell = codes "1"
unit_word ValueCell = codes "x"

-- the trim, by what an occurrence is folded, and what a cell is worth
abbrev pub glue_words : Table → List (List ℕ)
glue_words t = codes "glue" ∷ trim_word t.a ∷ fold_word t.op ∷ unit_word t.unit ∷ []

-- both states of a Join pair are there
abbrev pub IsBetween : Body → Body → Join → Type 0
IsBetween forward reverse j = (j.forward < length forward.states) × (j.reverse < length reverse.states)

-- their letters
abbrev pub join_words : Body → Body → Join → List (List ℕ)
join_words forward reverse j =
    codes "join" ∷ (name_at (state_lines forward.states) j.forward ∷ [])
    ∷ (name_at (state_lines reverse.states) j.reverse ∷ []) ∷ []

abbrev pub glue_text : Pair → List ℕ
glue_text p =
    words_text (glue_words p.table)
    ++ (lines_text (map (join_words p.forward p.reverse) p.table.joins) ++ codes "end\n")

-- what stands after the forward block
abbrev pub reverse_text : Option Pair → List ℕ
reverse_text None = codes "no reverse\n"
reverse_text (Some p) = head_text Reverse p.reverse.wide ++ (body_text p.reverse ++ glue_text p)

-- the part of a term with this machine
abbrev pub part_text : List ℕ → ModelTerm → Body → Option Pair → List ℕ
part_text name t body split =
    words_text (term_words name t) ++ (head_text Forward body.wide ++ (body_text body ++ reverse_text split))

-- the parts of the terms, in order
abbrev pub program_text : List (String Global × ModelTerm) → List ℕ
program_text [] = []
program_text (e ∷ es) =
    part_text (string_bytes e.0) e.1 (machine_body e.1.term) (machine_pair e.1.term) ++ program_text es

-- What the text of a program is worth: for each term of a model it has the line of the term and the block of an
-- automaton, which answers the value of the term on the cells that the term looks at, of every series; and where the
-- pattern has a partner, the block of a reverse automaton and a glue table, by which the two give that value at every
-- one of these cells.
use Rattle.std.specs.Prelude.{◌≡◌, ℕ, codes, List, [], ◌∷◌, ◌++◌, map, Option, Some, None, Ok}
use Rattle.std.specs.Prelude.{String, string_bytes}
use Rattle.std.specs.Global.{Global}
use Rattle.ts_pattern.specs.declared.name.PatternId.{PatternId}
use Rattle.ts_seed.specs.SeedTable.{seed_table}
use Rattle.ts_automaton.specs.declared.draft.Direction.TheVariants.{Forward, Reverse}
use Rattle.ts_automaton.specs.AutomatonText.{head_text, words_text}
use Rattle.ts_automaton.specs.Body.{Body}
use Rattle.ts_automaton.specs.TextReading.{Reads}
use Rattle.ts_glue.specs.Pairs.{Table, pair}
use Rattle.ts_model.specs.declared.model.ModelTerm.{ModelTerm}
use Rattle.ts_model.specs.ModelParts.{ModelParts}
use Rattle.ts_model.specs.Views.{term_of}
use Rattle.ts_compile.specs.Compiled.{AnswersOver, GluesOver}
use Rattle.ts_compile.specs.ProgramText.{glue_text, program_text, term_words}

-- the text is the program text of the terms that are stated
pub record IsProgramText (m : ModelParts) (text : List ℕ) : Type 0 where
  pub terms : List (String Global × ModelTerm)
  pub terms_are : map term_of terms ≡ m.terms
  pub text_is : text ≡ program_text terms

-- a reverse block and a glue part. The block is read as an automaton and the part is the text of a table, by which the
-- forward automaton and this one are glued to the value of the term, at every cell that the term looks at of a series
-- of 1 to 100,000 cells.
pub record IsSplit (t : ModelTerm) (forward : Body) (tail : List ℕ) : Type 0 where
  pub lines : List ℕ
  pub body : Body
  pub table : Table
  pub tail_is : tail ≡ head_text Reverse body.wide ++ (lines ++ glue_text (pair forward body table))
  pub reads : Reads (head_text Reverse body.wide ++ lines) (Ok body)
  pub glues : GluesOver (pair forward body table) t

-- what follows the forward block of a term: with a partner of its pattern, and without one
abbrev pub IsTail : Option PatternId → ModelTerm → Body → List ℕ → Type 0
IsTail (Some partner) t forward tail = IsSplit t forward tail
IsTail None t forward tail = tail ≡ codes "no reverse\n"

-- the part of a term: its line, a forward block, and what follows the block. The block is read as an automaton, whose
-- answer on the cells that the term looks at, of each series of 1 to 100,000 cells, is the value of the term.
pub record IsTermPart (name : List ℕ) (t : ModelTerm) (part : List ℕ) : Type 0 where
  pub lines : List ℕ
  pub tail : List ℕ
  pub body : Body
  pub part_is : part ≡ words_text (term_words name t) ++ (head_text Forward body.wide ++ (lines ++ tail))
  pub reads : Reads (head_text Forward body.wide ++ lines) (Ok body)
  pub answers : AnswersOver body t
  pub tail_is : IsTail (seed_table t.term.pattern).partner t body tail

-- the text has a part for each of these terms, in their order, and nothing else
abbrev pub HasParts : List (String Global × ModelTerm) → List ℕ → Type 0
HasParts [] text = text ≡ []
HasParts (t ∷ ts) text =
    (part rest : List ℕ) × (text ≡ part ++ rest) × IsTermPart (string_bytes t.0) t.1 part × HasParts ts rest

-- the text is the program text of what is stated, and has a part for each term
pub record IsCompiled (m : ModelParts) (text : List ℕ) : Type 0 where
  pub program : IsProgramText m text
  pub parts : HasParts program.terms text

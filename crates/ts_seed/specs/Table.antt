-- A seed as the catalogue prints it, with a row a state; the first row is the start (Global Constraint Catalog,
-- Volume II). Beside it stand the plan that shows it to be right, and the pairs of a forward and a reverse state
-- between which one occurrence goes on.
use Rattle.std.specs.Prelude.{ℕ, List, [], ◌∷◌, ◌++◌, map}
use Rattle.ts_base.specs.declared.letter.Letter.{Letter}
use Rattle.ts_base.specs.Signature.{flip_of}
use Rattle.ts_base.specs.declared.range.Kind.{Kind}
use Rattle.ts_base.specs.declared.range.Join.{Join}
use Rattle.ts_regex.specs.Shape.{Shape}
use Rattle.ts_regex.specs.NormalForm.{normal_form, residual}
use Rattle.ts_transducer.specs.declared.row.Phase.{Phase}
use Rattle.ts_transducer.specs.declared.row.Row.{Row}
use Rattle.ts_pattern.specs.declared.plan.Tag.{Tag}
use Rattle.ts_pattern.specs.Closed.{PlainConfiguration}
use Rattle.ts_pattern.specs.Entries.{Entry}
use Rattle.ts_pattern.specs.Plans.{PlainPlan, shape_at}

pub record Table : Type 0 where
  pub rows : List Row
  -- residual 0 is the whole pattern; for each further one the earlier residual and the letter that leave it
  pub residuals : List (ℕ × Letter)
  pub configurations : List (PlainConfiguration ℕ)
  pub joins : List Join

-- a row: the kind of its state, and its moves on `<`, `=` and `>`
abbrev pub row : Kind → Phase × ℕ → Phase × ℕ → Phase × ℕ → Row
row k x y z =
    record {
      kind = k;
      less = record { phase = x.0; next = x.1 };
      equal = record { phase = y.0; next = y.1 };
      greater = record { phase = z.0; next = z.1 };
    }

abbrev pub entry : ℕ × Tag → Entry (Unit {0}) ℕ Tag
entry e = record { mark = tt; residual = e.0; tag = e.1 }

-- a configuration: its state, and its entries by residual and tag
abbrev pub at : ℕ → List (ℕ × Tag) → PlainConfiguration ℕ
at q es = record { state = q; live = map (λ e. entry e) es }

abbrev pub join : ℕ → ℕ → Join
join q p = record { forward = q; reverse = p }

-- the residuals, in normal form (Brzozowski 1964): rs, then what the letters leave of earlier ones
abbrev pub residuals_from : List Shape → List (ℕ × Letter) → List Shape
residuals_from rs [] = rs
residuals_from rs (o ∷ os) = residuals_from (rs ++ residual (shape_at rs o.0) o.1 ∷ []) os

-- the plan, for the expression p
abbrev pub plan_of : Shape → Table → PlainPlan
plan_of p t = record { residuals = residuals_from (normal_form p ∷ []) t.residuals; configurations = t.configurations }

-- `<` and `>` exchanged throughout; states, kinds and phase letters stay

abbrev pub mirror_row : Row → Row
mirror_row r = record { kind = r.kind; less = r.greater; equal = r.equal; greater = r.less }

abbrev pub mirror_of : Table → Table
mirror_of t =
    record {
      rows = map (λ r. mirror_row r) t.rows;
      residuals = map (λ o. (o.0, flip_of o.1)) t.residuals;
      configurations = t.configurations;
      joins = t.joins;
    }

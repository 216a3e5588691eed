-- The line of a box.
use Rattle.std.specs.Prelude.{ℕ, zero, suc, ◌-◌, ℤ, Bool, false, true, cond, length}
use Rattle.std.specs.Prelude.{Option, Some, None, option_map, unwrap_or}
use Rattle.ts_base.specs.declared.ext.Ext.{Ext}
use Rattle.ts_base.specs.declared.goal.Goal.{Goal}
use Rattle.ts_certificate.specs.declared.certificate.Aim.{Aim}
use Rattle.ts_certificate.specs.declared.certificate.Aim.TheVariants.{Best as BestOf, List as ListOf}
use Rattle.ts_certificate.specs.declared.certificate.TreeLine.{TreeLine}
use Rattle.ts_certificate.specs.declared.certificate.TreeLine.TheVariants.{Split, Remove, No, Worse, Yes}
use Rattle.ts_model.specs.ModelParts.{ModelParts}
use Rattle.ts_filter.specs.declared.bar.Bar.{Bar}
use Rattle.ts_filter.specs.declared.bar.Bar.TheVariants.{Better, AsGood}
use Rattle.ts_filter.specs.Boxes.{Box}
use Rattle.ts_filter.specs.Excluded.{counts}
use Rattle.ts_filter.specs.RefutedWorseDrop.{Spans}
use Rattle.ts_filter.specs.Tests.{is_refuted, is_cut}
use Rattle.ts_search.specs.Dive.{Find, dive}
use Rattle.ts_filter.specs.declared.drops.Removal.{Removal}
use Rattle.ts_search.specs.Drops.{least, next_drop}
use Rattle.ts_frontier.specs.Forms.{Form, Alone, Wide, form}

-- what is searched: a model, by its spans
pub record Search : Type 0 where
  pub model : ModelParts
  pub spans : Spans

-- a search for the best series, with that of the dive
pub record Contest : Type 0 where
  pub search : Search
  pub goal : Goal
  pub warm : Option Find

-- what is sought, with what was found of it: the best series, of which this is the best so far; or the first in order
pub data Sought : Type 0 where
  TheBest : Contest → Option Find → Sought
  TheFirst : Search → Sought

abbrev pub search_in : Sought → Search
search_in (TheBest c found) = c.search
search_in (TheFirst c) = c

abbrev pub search_for : ModelParts → Spans → Search
search_for m s = record { model = m; spans = s }

abbrev pub contest_for : ModelParts → Spans → Goal → Contest
contest_for m s goal = record { search = search_for m s; goal = goal; warm = dive m s goal }

-- what is sought before the first line
abbrev pub sought_for : ModelParts → Spans → Aim → Sought
sought_for m s (BestOf goal) = TheBest (contest_for m s goal) None
sought_for m s (ListOf count) = TheFirst (search_for m s)

-- the number of cells, and that of requirements
abbrev pub last : Search → ℕ
last c = length c.model.cells

abbrev pub requirements : Search → ℕ
requirements c = length c.model.requirements

-- how many cells are below the last one
abbrev pub inner : Search → ℕ
inner c = last c - 1

abbrev pub is_refuted_at : Search → ℕ → ℕ → Box → Bool
is_refuted_at c j p b = is_refuted c.model.requirements c.spans j p b

abbrev pub is_cut_at : Contest → ℕ → Box → Bar → Bool
is_cut_at c p b bar = is_cut c.search.model c.search.spans c.goal p b bar

-- what a series has to reach: to be better than the found one, or as good as the warm one where none is found
abbrev pub bar_of : Option Find → Option Find → Option Bar
bar_of (Some found) warm = Some (Better found.value)
bar_of None (Some warm) = Some (AsGood warm.value)
bar_of None None = None

abbrev pub cut_by : Contest → Option Bar → ℕ → Box → Bool
cut_by c None p b = false
cut_by c (Some bar) p b = is_cut_at c p b bar

abbrev pub counts_for : Contest → Option Bar → Ext → Bool
counts_for c None v = true
counts_for c (Some bar) v = counts c.goal bar v

-- the least requirement that is refuted at the last cell
abbrev pub refuted_last : Search → Box → Option ℕ
refuted_last c b = least (λ j. is_refuted_at c j (last c) b) (requirements c) 1

abbrev pub no_line : ℕ → Option ℕ → Option TreeLine → Option TreeLine
no_line j None later = later
no_line j (Some p) later = Some (No j p)

-- of n requirements from j on the least that is refuted at a cell below the last one, and the least such cell
abbrev pub first_no : Search → Box → ℕ → ℕ → Option TreeLine
first_no c b zero j = None
first_no c b (suc n) j = no_line j (least (λ p. is_refuted_at c j p b) (inner c) 1) (first_no c b n (suc j))

abbrev pub removal_line : Removal → TreeLine
removal_line r = Remove r.cell r.value r.require

-- a drop where one is possible, else the split
abbrev pub branch_line : Search → Box → ℕ → ℤ → TreeLine
branch_line c b k t = unwrap_or (option_map removal_line (next_drop c.model c.spans b)) (Split k t)

abbrev pub inner_worse : Sought → Box → TreeLine → TreeLine
inner_worse (TheBest c found) b else_line =
    unwrap_or (option_map (λ p. Worse p) (least (λ p. cut_by c (bar_of found c.warm) p b) (inner c.search) 1)) else_line
inner_worse (TheFirst c) b else_line = else_line

-- the line of a box of two or more series that is neither refuted nor cut at the last cell
abbrev pub wide_line : Sought → Box → ℕ → ℤ → TreeLine
wide_line q b k t =
    unwrap_or (first_no (search_in q) b (requirements (search_in q)) 1)
    (inner_worse q b (branch_line (search_in q) b k t))

-- the line of a box that isn't refuted at the last cell
abbrev pub form_line : Sought → Box → Form → TreeLine
form_line (TheBest c found) b (Alone x) = Worse (last c.search)
form_line (TheBest c found) b (Wide k t) =
    cond (cut_by c (bar_of found c.warm) (last c.search) b) (Worse (last c.search)) (wide_line (TheBest c found) b k t)
form_line (TheFirst c) b (Alone x) = Yes
form_line (TheFirst c) b (Wide k t) = wide_line (TheFirst c) b k t

-- the line of a box
abbrev pub line_of : Sought → Box → TreeLine
line_of q b =
    unwrap_or (option_map (λ j. No j (last (search_in q))) (refuted_last (search_in q) b)) (form_line q b (form b))

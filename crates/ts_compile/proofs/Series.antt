-- A run over a whole series, from its first cell on or from its last one back.
use Rattle.std.specs.Prelude.{◌≡◌, ℕ, ◌+◌, ◌*◌, ◌≤◌, ℤ, true, List, [], ◌∷◌, ◌++◌, length, reverse, refl}
use Rattle.std.proofs.Common.{sym, ◌∙◌, ap, subst, arith, append_assoc}
use Rattle.std.proofs.lemmas.List.{reverse-append}
use Rattle.ts_base.specs.declared.ext.Ext.{Ext}
use Rattle.ts_transducer.specs.declared.row.Row.{Row}
use Rattle.ts_transducer.specs.Typing.{is_typed}
use Rattle.ts_pattern.specs.declared.name.Aggregator.{Aggregator}
use Rattle.ts_pattern.specs.declared.name.Feature.{Feature}
use Rattle.ts_automaton.specs.AutomatonRun.{Standing, after, AreCellValues}
use Rattle.ts_decorate.specs.Operators.{Operators}
use Rattle.ts_decorate.specs.Decoration.{decorated_body}
use Rattle.ts_decorate.proofs.Exact.{exact}
use Rattle.ts_pattern.specs.Arithmetic.{cell_value}
use Rattle.ts_decorate.proofs.Evaluation.{start_rests, after_is}
use Rattle.ts_decorate.proofs.Runs.{table_start, table_step, table_after}
use Rattle.ts_decorate.proofs.Sizes.{size_of_all, neutral_size, default_size, after_same, cost_small}
use Rattle.ts_compile.proofs.Whole.{some_row, table_back}

abbrev pub table_run : {V : Type 0} → Operators V → (ℤ → V) → ℕ → List Row → List ℤ → Standing V
table_run o over a rows [] = table_start o
table_run o over a rows (x ∷ xs) = table_after o over a rows (table_start o) x xs

module _ {V : Type 0} (o : Operators V) (over : ℤ → V) (a : ℕ) (rows : List Row) where
  -- the cells before x and x, then the cells after it
  after_more : (xs : List ℤ) (x : ℤ) (ys : List ℤ) (z : ℤ) (st : Standing V) →
      table_after o over a rows st z (xs ++ x ∷ ys) ≡ table_after o over a rows (table_after o over a rows st z (xs ++ x ∷ [])) x ys
  after_more [] x ys z st = refl
  after_more (w ∷ xs) x ys z st = after_more xs x ys w (table_step o over a rows st z w)

  pub run_more : (xs : List ℤ) (x : ℤ) (ys : List ℤ) →
      table_run o over a rows (xs ++ x ∷ ys) ≡ table_after o over a rows (table_run o over a rows (xs ++ x ∷ [])) x ys
  run_more [] x ys = refl
  run_more (z ∷ xs) x ys = after_more xs x ys z (table_start o)

  -- a step more
  run_step : (xs : List ℤ) (x y : ℤ) →
      table_run o over a rows ((xs ++ x ∷ []) ++ y ∷ []) ≡ table_step o over a rows (table_run o over a rows (xs ++ x ∷ [])) x y
  run_step xs x y = ap (table_run o over a rows) (append_assoc xs (x ∷ []) (y ∷ [])) ∙ run_more xs x (y ∷ [])

  -- from the last cell down to x
  pub back_is : (ys : List ℤ) (x : ℤ) → table_run o over a rows (reverse (x ∷ ys)) ≡ table_back o over a rows x ys
  back_is [] x = refl
  back_is (y ∷ ys) x =
      ap (table_run o over a rows) (reverse-append (x ∷ []) (y ∷ ys) ∙ ap (λ l. l ++ x ∷ []) (reverse-append (y ∷ []) ys))
      ∙ run_step (reverse ys) y x
      ∙ ap (λ st. table_step o over a rows st y x) (ap (table_run o over a rows) (sym (reverse-append (y ∷ []) ys)) ∙ back_is ys y)

-- cells of a part of a series, and of a series read from its end

pub cells_join : (xs ys : List ℤ) → AreCellValues xs → AreCellValues ys → AreCellValues (xs ++ ys)
cells_join [] ys h i = i
cells_join (x ∷ xs) ys h i = (h.0, cells_join xs ys h.1 i)

pub cells_parts : (xs ys : List ℤ) → AreCellValues (xs ++ ys) → AreCellValues xs × AreCellValues ys
cells_parts [] ys h = (tt, h)
cells_parts (x ∷ xs) ys h = let k = cells_parts xs ys h.1 in ((h.0, k.0), k.1)

pub cells_back : (xs : List ℤ) → AreCellValues xs → AreCellValues (reverse xs)
cells_back [] h = tt
cells_back (x ∷ xs) h =
    subst AreCellValues (sym (reverse-append (x ∷ []) xs)) (cells_join (reverse xs) (x ∷ []) (cells_back xs h.1) (h.0, tt))

-- the run of a decorated automaton is that of its table with exact sums, and its registers are small
module _ (rows : List Row) (typed : is_typed rows ≡ true) (few : length rows ≤ 8) (a : ℕ) (g : Aggregator) (f : Feature) where
  abbrev exact_run : List ℤ → Standing Ext
  exact_run xs = table_run (exact g f) (cell_value f) a rows xs

  start_size : size_of_all (table_start (exact g f)).regs ≤ 1
  start_size = let n = neutral_size f in let d = default_size g in omega (arith, n, d)

  pub run_is : (xs : List ℤ) → length xs ≤ 100000 → AreCellValues xs →
      (after (decorated_body rows a g f) xs ≡ exact_run xs) × (size_of_all (exact_run xs).regs ≤ 1 + length xs * 4000001)
  run_is [] short h = (refl, let n = start_size in omega (arith, n))
  run_is (x ∷ xs) short h =
      let o = exact g f in
      let n = start_size in
      let c = cost_small f xs x h.0 h.1 in
      let same = after_same g f a rows xs x (table_start o) (omega (arith, n, c, short)) in
      let size = same.1 in
      (after_is rows typed few a g f xs x (table_start o) (some_row rows typed) (start_rests g f) ∙ same.0, omega (arith, n, c, size))

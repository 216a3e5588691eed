-- The glued value of two tables that fit is the forward answer at every cell.
use Rattle.std.specs.Prelude.{◌≡◌, ℕ, ◌+◌, ◌*◌, ◌<◌, ◌≤◌, Bool, ℤ, is_some, List, [], ◌∷◌, ◌++◌, length, reverse, refl}
use Rattle.std.proofs.Common.{sym, ◌∙◌, ap, subst, arith, length-append}
use Rattle.std.proofs.lemmas.List.{length-reverse}
use Rattle.ts_base.specs.declared.ext.Ext.{Ext}
use Rattle.ts_base.specs.declared.ext.Ext.TheVariants.{Int}
use Rattle.ts_base.specs.Limits.{IsCellValue}
use Rattle.ts_transducer.specs.declared.row.Row.{Row}
use Rattle.ts_transducer.specs.Typing.{is_held}
use Rattle.ts_pattern.specs.declared.name.Aggregator.{Aggregator}
use Rattle.ts_pattern.specs.declared.name.Feature.{Feature}
use Rattle.ts_pattern.specs.declared.name.Feature.TheVariants.{One, Width, Surf, Max as MaxFeature, Min as MinFeature, Range}
use Rattle.ts_pattern.specs.declared.arithmetic.Worth.{Worth}
use Rattle.ts_pattern.specs.declared.arithmetic.Worth.TheVariants.{Unit as UnitWorth, Cell as CellWorth}
use Rattle.ts_pattern.specs.Arithmetic.{cell_fold, cell_op, cell_value, less_fold, range_op, worth_of}
use Rattle.ts_automaton.specs.Registers.{numbers}
use Rattle.ts_automaton.specs.Body.{Body, node_at}
use Rattle.ts_automaton.specs.AutomatonRun.{Standing, after, finish_value, under_mark}
use Rattle.ts_decorate.specs.Answers.{longest}
use Rattle.ts_decorate.specs.Operators.{Operators, total_of}
use Rattle.ts_decorate.specs.Decoration.{mark_of, state_names, decorated_body}
use Rattle.ts_decorate.proofs.Exact.{exact, held_at_limit}
use Rattle.ts_decorate.proofs.Evaluation.{node_is}
use Rattle.ts_decorate.proofs.CallerLemmas.{finish_is}
use Rattle.ts_decorate.proofs.Runs.{table_start}
use Rattle.ts_decorate.proofs.Sizes.{limit, size_of, size_of_all, total_same, cost_small}
use Rattle.ts_base.specs.declared.range.Join.{Join}
use Rattle.ts_glue.specs.Pairs.{Pair, pair}
use Rattle.ts_glue.specs.Glue.{fold_op, is_pair as folds_pairs, worth, glue_in, glue_of}
use Rattle.ts_glue.specs.Glued.{glue_at, LocalUpTo}
use Rattle.ts_glue.proofs.CallerLemmas.{AnswersAtCuts, local_by_cuts}
use Rattle.ts_compile.specs.TermPairs.{cell_unit_of, folding_of, glue_table_by}
use Rattle.ts_compile.proofs.Facts.{glued as proof_form}
use Rattle.ts_compile.proofs.Halves.{parts_of, paired}
use Rattle.ts_compile.proofs.Tests.{kind_at, AreFitting}
use Rattle.ts_compile.proofs.Whole.{table_back, Stands, stands_start, stands_after, stands_back, glued_is}
use Rattle.ts_compile.proofs.Instances.{away, away_by, both_joined, BothParts, BothFolded, same_away, cell_parts, laws_of}
use Rattle.ts_compile.proofs.Small.{glue_same}
use Rattle.ts_compile.proofs.Forms.{form_of, form_is, form_size}
use Rattle.ts_compile.proofs.Patterns.{is_pair}
use Rattle.ts_compile.proofs.Series.{table_run, run_more, back_is, cells_join, cells_parts, cells_back, run_is}

-- the table folds the whole of a range by the operator of its cells, and a pair where something is taken away
pub fold_op_is : (f : Feature) → fold_op (folding_of (less_fold f) (cell_op f)) ≡ cell_op f
fold_op_is One = refl
fold_op_is Width = refl
fold_op_is Surf = refl
fold_op_is MaxFeature = refl
fold_op_is MinFeature = refl
fold_op_is Range = refl

pair_is : (f : Feature) → folds_pairs (folding_of (less_fold f) (cell_op f)) ≡ is_some (less_fold f)
pair_is One = refl
pair_is Width = refl
pair_is Surf = refl
pair_is MaxFeature = refl
pair_is MinFeature = refl
pair_is Range = refl

unit_is : (w : Worth) (x : ℤ) → worth_of w x ≡ worth (cell_unit_of w) x
unit_is UnitWorth x = refl
unit_is CellWorth x = refl

pub worth_is : (f : Feature) (x : ℤ) → cell_value f x ≡ Int (worth (cell_unit_of (cell_fold f).worth) x)
worth_is f x = ap Int (unit_is (cell_fold f).worth x)

-- a state is held where its row is
held_is : (rows : List Row) → length rows ≤ 8 → (a : ℕ) (g : Aggregator) (f : Feature) (q : ℕ) → q < length rows →
    (node_at (decorated_body rows a g f).states q).held ≡ is_held (kind_at rows q)
held_is rows few a g f q h = ap (λ n. n.held) (node_is a g f state_names rows q h few).1

worth_size : (f : Feature) (x : ℤ) → IsCellValue x → size_of (Int (worth (cell_unit_of (cell_fold f).worth) x)) ≤ 1000000
worth_size f x h = let c = cost_small f (x ∷ []) x h (h, tt) in let e = ap size_of (worth_is f x) in omega (arith, c, e)

module _ (a : ℕ) (js : List Join) (fs bs : List Row) (t : AreFitting a (is_pair js) fs bs) (few_f : length fs ≤ 8) (few_b : length bs ≤ 8)
    (g : Aggregator) (f : Feature) where
  abbrev ahead : Body
  ahead = decorated_body fs a g f

  abbrev behind : Body
  behind = decorated_body bs a g f

  abbrev the_pair : Pair
  the_pair = pair ahead behind (glue_table_by a f js)

  abbrev o : Operators Ext
  o = exact g f

  abbrev over : ℤ → Ext
  over = cell_value f

  abbrev wide : Bool
  wide = is_some (less_fold f)

  -- what stands for the glued value
  glue_is : (q r : ℕ) (x : ℤ) → q < length fs → r < length bs →
      glue_of the_pair q r x
      ≡ form_of wide a (range_op g) (cell_op f) (is_pair js q r) (is_held (kind_at fs q)) (is_held (kind_at bs r))
      (worth (cell_unit_of (cell_fold f).worth) x)
  glue_is q r x hq hr =
      let w = worth (cell_unit_of (cell_fold f).worth) x in
      let op = folding_of (less_fold f) (cell_op f) in
      let u = (node_at ahead.states q).held in
      let v = (node_at behind.states r).held in
      ap (λ z. form_of z a (range_op g) (fold_op op) (is_pair js q r) u v w) (pair_is f)
      ∙ ap (λ z. form_of wide a (range_op g) z (is_pair js q r) u v w) (fold_op_is f)
      ∙ ap (λ z. form_of wide a (range_op g) (cell_op f) (is_pair js q r) z v w) (held_is fs few_f a g f q hq)
      ∙ ap (λ z. form_of wide a (range_op g) (cell_op f) (is_pair js q r) (is_held (kind_at fs q)) z w) (held_is bs few_b a g f r hr)

  abbrev exact_run : List Row → List ℤ → Standing Ext
  exact_run rows xs = table_run o over a rows xs

  abbrev Sound : List Row → Standing Ext → ℤ → Type 0
  Sound rows st x =
      Stands o (both_joined f) (BothParts f) (BothFolded f) (laws_of g f) over (away f) (same_away g f) (cell_parts f) a rows st x

  sound_run : (pre : List ℤ) (x : ℤ) → Sound fs (exact_run fs (pre ++ x ∷ [])) x
  sound_run [] x = stands_start o (both_joined f) (BothParts f) (BothFolded f) (laws_of g f) over (away f) (same_away g f) (cell_parts f) a fs t.forward x
  sound_run (z ∷ pre) x =
      stands_after o (both_joined f) (BothParts f) (BothFolded f) (laws_of g f) over (away f) (same_away g f) (cell_parts f) a
      fs t.forward pre x z (table_start o)
      (stands_start o (both_joined f) (BothParts f) (BothFolded f) (laws_of g f) over (away f) (same_away g f) (cell_parts f) a fs t.forward z)

  sound_back : (x : ℤ) (ys : List ℤ) → Sound bs (table_back o over a bs x ys) x
  sound_back x ys =
      stands_back o (both_joined f) (BothParts f) (BothFolded f) (laws_of g f) over (away f) (same_away g f) (cell_parts f) a bs t.reverse ys x

  -- the value as it is defined, at small registers, is the one of the proof
  value_is : (left right : Standing Ext) (x : ℤ) → IsCellValue x → size_of_all left.regs + size_of_all right.regs + 2000000 ≤ limit →
      left.state < length fs → right.state < length bs →
      glue_at numbers the_pair left right x
      ≡ proof_form (paired o) (both_joined f) a (is_pair js left.state right.state) (kind_at fs left.state) (kind_at bs right.state)
      (parts_of left.regs) (parts_of right.regs) (over x, away f x)
  value_is left right x inside small i j =
      let w = worth (cell_unit_of (cell_fold f).worth) x in
      let e = worth_is f x in
      let k = kind_at fs left.state in
      let l = kind_at bs right.state in
      let b = is_pair js left.state right.state in
      let form = form_of wide a (range_op g) (cell_op f) b (is_held k) (is_held l) w in
      let n = form_size wide a (range_op g) (cell_op f) b (is_held k) (is_held l) w left.regs right.regs in
      let m = worth_size f x inside in
      ap (glue_in numbers left.regs right.regs) (glue_is left.state right.state x i j)
      ∙ glue_same left.regs right.regs form (omega (arith, small, n, m))
      ∙ form_is g f w left.regs right.regs a b k l (t.held left.state right.state i j)
      ∙ ap (λ z. proof_form (paired o) (both_joined f) a b k l (parts_of left.regs) (parts_of right.regs) (z, away_by (less_fold f) z)) (sym e)

  -- the answer before the mark is what the registers hold in the end
  answer_is : (before : List ℤ) (x : ℤ) (rest : List ℤ) →
      let s = (after ahead (before ++ x ∷ rest)).regs in finish_value numbers ahead s ≡ total_of (held_at_limit g f) s
  answer_is [] x rest = finish_is fs t.forward few_f a g f x rest
  answer_is (z ∷ before) x rest = finish_is fs t.forward few_f a g f z (before ++ x ∷ rest)

  -- the glued value at the cell x between those before it and those after it is the answer
  at_cuts : AnswersAtCuts longest the_pair
  at_cuts before x rest short h =
      let cells = cells_parts before (x ∷ rest) h in
      let from_x = cells.1 in
      let n1 = length-append before (x ∷ []) in
      let n2 = length-append before (x ∷ rest) in
      let n3 = length-reverse (x ∷ rest) in
      let l = run_is fs t.forward few_f a g f (before ++ x ∷ []) (omega (arith, short, n1, n2)) (cells_join before (x ∷ []) cells.0 (from_x.0, tt)) in
      let r = run_is bs t.reverse few_b a g f (reverse (x ∷ rest)) (omega (arith, short, n2, n3)) (cells_back (x ∷ rest) from_x) in
      let w = run_is fs t.forward few_f a g f (before ++ x ∷ rest) (omega (arith, short)) h in
      let left = exact_run fs (before ++ x ∷ []) in
      let right = table_back o over a bs x rest in
      let whole = exact_run fs (before ++ x ∷ rest) in
      let back = back_is o over a bs rest x in
      let small_left = l.1 in
      let small_right : size_of_all right.regs ≤ 1 + length (reverse (x ∷ rest)) * 4000001 =
      subst (λ st. size_of_all st.regs ≤ 1 + length (reverse (x ∷ rest)) * 4000001) back r.1 in
      let small_whole = w.1 in
      let sound = sound_run before x in
      ap (under_mark (mark_of g f) (length (before ++ x ∷ rest)))
      (ap (λ z. glue_at numbers the_pair z (after behind (reverse (x ∷ rest))) x) l.0
      ∙ ap (λ z. glue_at numbers the_pair left z x) (r.0 ∙ back)
      ∙ value_is left right x from_x.0 (omega (arith, short, n1, n2, n3, small_left, small_right)) sound.0 (sound_back x rest).0
      ∙ glued_is o (both_joined f) (BothParts f) (BothFolded f) (laws_of g f) over (away f) (same_away g f) (cell_parts f) a (is_pair js) fs bs t
      rest x left sound
      ∙ ap (λ st. total_of o st.regs) (sym (run_more o over a fs before x rest))
      ∙ sym (total_same g f whole.regs (omega (arith, short, small_whole)))
      ∙ ap (λ st. total_of (held_at_limit g f) st.regs) (sym w.0)
      ∙ sym (answer_is before x rest))

  pub is_local : LocalUpTo longest the_pair
  is_local = local_by_cuts longest the_pair at_cuts

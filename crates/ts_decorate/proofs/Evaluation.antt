-- The run of a decorated automaton is the run of its table by the operators of the term.
use Rattle.std.specs.Prelude.{◌≡◌, ℕ, zero, suc, ◌<◌, ◌≤◌, ℤ, pos, true, List, [], ◌∷◌, length, Option, None, Some, refl}
use Rattle.std.proofs.Common.{sym, ◌∙◌, ap, arith}
use Rattle.ts_base.specs.declared.constant.Constant.{Constant}
use Rattle.ts_base.specs.declared.constant.Constant.TheVariants.{Zero as ZeroConstant, Unit as UnitConstant, NegInf as LowConstant, PosInf as HighConstant}
use Rattle.ts_base.specs.declared.ext.Ext.{Ext}
use Rattle.ts_base.specs.declared.ext.Ext.TheVariants.{Int}
use Rattle.ts_base.specs.Operators.{constant_value}
use Rattle.ts_base.specs.declared.letter.Letter.{Letter}
use Rattle.ts_base.specs.declared.letter.Letter.TheVariants.{Less, Equal, Greater}
use Rattle.ts_base.specs.Signature.{letter_of}
use Rattle.ts_transducer.specs.declared.row.Phase.{Phase}
use Rattle.ts_transducer.specs.declared.row.Phase.TheVariants.{Out, OutR, OutA, MaybeB, MaybeA, Found, FoundE, Inside}
use Rattle.ts_transducer.specs.declared.row.Row.{Row}
use Rattle.ts_transducer.specs.Typing.{is_typed}
use Rattle.ts_transducer.specs.Decode.{row_at, arrow_on, arrow_at}
use Rattle.ts_transducer.proofs.CallerLemmas.{move_stays}
use Rattle.ts_pattern.specs.declared.arithmetic.CellFold.{CellFold}
use Rattle.ts_pattern.specs.declared.name.Aggregator.{Aggregator}
use Rattle.ts_pattern.specs.declared.name.Feature.{Feature}
use Rattle.ts_pattern.specs.declared.arithmetic.Worth.{Worth}
use Rattle.ts_pattern.specs.declared.arithmetic.Worth.TheVariants.{Unit as UnitWorth, Cell as CellWorth}
use Rattle.ts_pattern.specs.Arithmetic.{cell_fold, less_fold, cell_value, range_fold, worth_of}
use Rattle.ts_automaton.specs.declared.expr.Atom.{Atom}
use Rattle.ts_automaton.specs.declared.expr.Atom.TheVariants.{C, E, D, F, This, Next}
use Rattle.ts_automaton.specs.Differences.{number_op}
use Rattle.ts_automaton.specs.Formula.{Formula, Leaf, Join, constant_atom}
use Rattle.ts_automaton.specs.Registers.{EachOf, each, numbers, value_in}
use Rattle.ts_automaton.specs.Body.{move_on, node_at}
use Rattle.ts_automaton.specs.AutomatonRun.{Standing, registers_after, step_of, after_from}
use Rattle.ts_decorate.specs.Operators.{Half, Operators, with_last, with_all, range_after, cells_after, ranges_after, after_phase, at_start, total_of}
use Rattle.ts_decorate.specs.Rows.{phi_by, neutral_by, read_by, half_by}
use Rattle.ts_decorate.specs.Decoration.{worth_atom, here, next, constant_formula, expression_operators, register_by, registers, move_made, node_made, nodes_made, state_names, decorated_body}
use Rattle.ts_decorate.proofs.Exact.{held_at_limit}
use Rattle.ts_decorate.proofs.Runs.{table_step, table_after}

constant_is : (k : Constant) (s : EachOf Ext) (x y : ℤ) → value_in numbers s x y (Leaf (constant_atom k)) ≡ constant_value k
constant_is ZeroConstant s x y = refl
constant_is UnitConstant s x y = refl
constant_is LowConstant s x y = refl
constant_is HighConstant s x y = refl

worth_is : (w : Worth) (cell : Atom) (z : ℤ) (s : EachOf Ext) (x y : ℤ) → value_in numbers s x y (Leaf cell) ≡ Int z →
    value_in numbers s x y (Leaf (worth_atom w cell)) ≡ Int (worth_of w z)
worth_is UnitWorth cell z s x y h = refl
worth_is CellWorth cell z s x y h = h

this_is : (f : Feature) (s : EachOf Ext) (x y : ℤ) → value_in numbers s x y (here f) ≡ cell_value f x
this_is f s x y = worth_is (cell_fold f).worth This x s x y refl

next_is : (f : Feature) (s : EachOf Ext) (x y : ℤ) → value_in numbers s x y (next f) ≡ cell_value f y
next_is f s x y = worth_is (cell_fold f).worth Next y s x y refl

five_same : {c c' e e' d d' f f' r r' : Ext} → c ≡ c' → e ≡ e' → d ≡ d' → f ≡ f' → r ≡ r' → each c e d f r ≡ each c' e' d' f' r'
five_same p q u v w = cc

-- E and F are 0 where nothing is taken away
abbrev pub AtRest : Option CellFold → EachOf Ext → Type 0
AtRest None s = (s.e ≡ Int (pos 0)) × (s.f ≡ Int (pos 0))
AtRest (Some row) s = Unit {0}

-- an expression computes what its operands compute, joined: of one half, by its row
module _ (row : Option CellFold) (idle : Constant) (s : EachOf Ext) (x y : ℤ) where
  abbrev val : Formula → Ext
  val u = value_in numbers s x y u

  abbrev e : Half Formula
  e = half_by constant_formula Join row idle

  abbrev o : Half Ext
  o = half_by constant_value number_op row idle

  neutral_is : val e.neutral ≡ o.neutral
  neutral_is = constant_is (neutral_by row) s x y

  idle_is : val e.idle ≡ o.idle
  idle_is = constant_is idle s x y

  phi_joins : (r : Option CellFold) (u v : Formula) → val (phi_by Join r u v) ≡ phi_by number_op r (val u) (val v)
  phi_joins None u v = refl
  phi_joins (Some r) u v = refl

  phi_is : (u w : Formula) (m n : Ext) → val u ≡ m → val w ≡ n → val (e.phi u w) ≡ o.phi m n
  phi_is u w m n p q = phi_joins row u w ∙ ap (λ z. o.phi z (val w)) p ∙ ap (λ z. o.phi m z) q

  last_is : (a : ℕ) (d h n : Formula) (i j k : Ext) → val d ≡ i → val h ≡ j → val n ≡ k → val (with_last e a d h n) ≡ with_last o a i j k
  last_is zero d h n i j k p q r = phi_is d n i k p r
  last_is (suc a) d h n i j k p q r = phi_is d h i j p q

  pub all_is : (a : ℕ) (d h n : Formula) (i j k : Ext) → val d ≡ i → val h ≡ j → val n ≡ k → val (with_all e a d h n) ≡ with_all o a i j k
  all_is zero d h n i j k p q r = phi_is (e.phi d h) n (o.phi i j) k (phi_is d h i j p q) r
  all_is (suc a) d h n i j k p q r = phi_is d h i j p q

  pub range_is : (a : ℕ) (p : Phase) (c d h n : Formula) (m i j k : Ext) → val c ≡ m → val d ≡ i → val h ≡ j → val n ≡ k →
      val (range_after e a p c d h n) ≡ range_after o a p m i j k
  range_is a Out c d h n m i j k u v w z = u
  range_is a OutR c d h n m i j k u v w z = u
  range_is a OutA c d h n m i j k u v w z = idle_is
  range_is a MaybeB c d h n m i j k u v w z = u
  range_is a MaybeA c d h n m i j k u v w z = u
  range_is a Found c d h n m i j k u v w z = all_is a d h n i j k v w z
  range_is a FoundE c d h n m i j k u v w z = u
  range_is a Inside c d h n m i j k u v w z = phi_is c (with_last e a d h n) m (with_last o a i j k) u (last_is a d h n i j k v w z)

  pub cells_is : (a : ℕ) (p : Phase) (d h n : Formula) (i j k : Ext) → val d ≡ i → val h ≡ j → val n ≡ k →
      val (cells_after e a p d h n) ≡ cells_after o a p i j k
  cells_is a Out d h n i j k v w z = v
  cells_is a OutR d h n i j k v w z = neutral_is
  cells_is a OutA d h n i j k v w z = neutral_is
  cells_is a MaybeB d h n i j k v w z = phi_is d h i j v w
  cells_is a MaybeA d h n i j k v w z = last_is a d h n i j k v w z
  cells_is a Found d h n i j k v w z = neutral_is
  cells_is a FoundE d h n i j k v w z = neutral_is
  cells_is a Inside d h n i j k v w z = neutral_is

-- a half without a row stays at rest
module _ (a : ℕ) (x y : Ext) where
  abbrev rest : Half Ext
  rest = half_by constant_value number_op None ZeroConstant

  range_rests : (p : Phase) (c d : Ext) → c ≡ Int (pos 0) → d ≡ Int (pos 0) → range_after rest a p c d x y ≡ Int (pos 0)
  range_rests Out c d h i = h
  range_rests OutR c d h i = h
  range_rests OutA c d h i = refl
  range_rests MaybeB c d h i = h
  range_rests MaybeA c d h i = h
  range_rests Found c d h i = go a
    where
      go : (n : ℕ) → with_all rest n d x y ≡ Int (pos 0)
      go zero = i
      go (suc n) = i
  range_rests FoundE c d h i = h
  range_rests Inside c d h i = h

  cells_rest : (p : Phase) (d : Ext) → d ≡ Int (pos 0) → cells_after rest a p d x y ≡ Int (pos 0)
  cells_rest Out d i = i
  cells_rest OutR d i = refl
  cells_rest OutA d i = refl
  cells_rest MaybeB d i = i
  cells_rest MaybeA d i = go a
    where
      go : (n : ℕ) → with_last rest n d x y ≡ Int (pos 0)
      go zero = i
      go (suc n) = i
  cells_rest Found d i = refl
  cells_rest FoundE d i = refl
  cells_rest Inside d i = refl

-- what is taken away rests at 0 after each sign, and at the start, where nothing is taken away
rests_after : (row : Option CellFold) (o : Operators Ext) → o.less ≡ half_by constant_value number_op row ZeroConstant →
    (a : ℕ) (p : Phase) (s : EachOf Ext) (x y : Ext) → AtRest row s → AtRest row (after_phase o a p s x y)
rests_after (Some row) o same a p s x y h = tt
rests_after None o same a p s x y h = (
  ap (λ (k : Half Ext). range_after k a p s.e s.f x y) same ∙ range_rests a x y p s.e s.f h.0 h.1,
  ap (λ (k : Half Ext). cells_after k a p s.f x y) same ∙ cells_rest a x y p s.f h.1,
)

rests_at_start : (row : Option CellFold) (s : EachOf Ext) → s.e ≡ Int (pos 0) → s.f ≡ constant_value (neutral_by row) → AtRest row s
rests_at_start None s p q = (p, q)
rests_at_start (Some row) s p q = tt

pub start_rests : (g : Aggregator) (f : Feature) → AtRest (less_fold f) (at_start (held_at_limit g f))
start_rests g f = rests_at_start (less_fold f) (at_start (held_at_limit g f)) refl refl

module _ (g : Aggregator) (f : Feature) (s : EachOf Ext) (x y : ℤ) (at_rest : AtRest (less_fold f) s) where
  abbrev value : Formula → Ext
  value u = value_in numbers s x y u

  abbrev h : Operators Ext
  h = held_at_limit g f

  abbrev forms : Operators Formula
  forms = expression_operators g f

  extra_are : (row : Option CellFold) → AtRest row s → (value (register_by row E) ≡ s.e) × (value (register_by row F) ≡ s.f)
  extra_are None r = (sym r.0, sym r.1)
  extra_are (Some row) r = (refl, refl)

  reads : (row : Option CellFold) (u v : Formula) → value (read_by Join row u v) ≡ read_by number_op row (value u) (value v)
  reads None u v = refl
  reads (Some row) u v = refl

  read_is : (u v : Formula) (m n : Ext) → value u ≡ m → value v ≡ n → value (forms.read u v) ≡ h.read m n
  read_is u v m n p q = reads (less_fold f) u v ∙ ap (λ z. h.read z (value v)) p ∙ ap (λ z. h.read m z) q

  pub total_is : value (total_of forms (registers f)) ≡ total_of h s
  total_is = ap (h.g s.r) (read_is (Leaf C) (register_by (less_fold f) E) s.c s.e refl (extra_are (less_fold f) at_rest).0)

  ranges_are : (a : ℕ) (p : Phase) → value (ranges_after forms a p (registers f) (here f) (next f)) ≡ ranges_after h a p s (cell_value f x) (cell_value f y)
  ranges_are a Out = refl
  ranges_are a OutR = refl
  ranges_are a OutA = total_is
  ranges_are a MaybeB = refl
  ranges_are a MaybeA = refl
  ranges_are a Found = refl
  ranges_are a FoundE =
      let whole = Some (cell_fold f) in
      let low = less_fold f in
      let extra = extra_are low at_rest in
      let i = this_is f s x y in
      let j = next_is f s x y in
      ap (h.g s.r)
      (read_is (with_all forms.whole a (Leaf D) (here f) (next f)) (with_all forms.less a (register_by low F) (here f) (next f))
      (with_all h.whole a s.d (cell_value f x) (cell_value f y)) (with_all h.less a s.f (cell_value f x) (cell_value f y))
      (all_is whole (range_fold g).default s x y a (Leaf D) (here f) (next f) s.d (cell_value f x) (cell_value f y) refl i j)
      (all_is low ZeroConstant s x y a (register_by low F) (here f) (next f) s.f (cell_value f x) (cell_value f y) extra.1 i j))
  ranges_are a Inside = refl

  -- the expressions of a move compute what its phase letter does
  pub move_is : (a : ℕ) (p : Phase) (n : ℕ) →
      registers_after numbers s x y (move_made a g f (record { phase = p; next = n })) ≡ after_phase (held_at_limit g f) a p s (cell_value f x) (cell_value f y)
  move_is a p n =
      let whole = Some (cell_fold f) in
      let low = less_fold f in
      let extra = extra_are low at_rest in
      let i = this_is f s x y in
      let j = next_is f s x y in
      let v = cell_value f x in
      let w = cell_value f y in
      five_same
      (range_is whole (range_fold g).default s x y a p (Leaf C) (Leaf D) (here f) (next f) s.c s.d v w refl refl i j)
      (range_is low ZeroConstant s x y a p (register_by low E) (register_by low F) (here f) (next f) s.e s.f v w extra.0 extra.1 i j)
      (cells_is whole (range_fold g).default s x y a p (Leaf D) (here f) (next f) s.d v w refl i j)
      (cells_is low ZeroConstant s x y a p (register_by low F) (here f) (next f) s.f v w extra.1 i j)
      (ranges_are a p)

-- the node of a state is made of its row
pub node_is : (a : ℕ) (g : Aggregator) (f : Feature) (names : List ℕ) (rows : List Row) (q : ℕ) → q < length rows → length rows ≤ length names →
    (name : ℕ) × (node_at (nodes_made a g f names rows) q ≡ node_made a g f name (row_at rows q))
node_is a g f [] rows q h few = absurd (omega arith)
node_is a g f (name ∷ names) [] q h few = absurd (omega arith)
node_is a g f (name ∷ names) (r ∷ rows) zero h few = (name, refl)
node_is a g f (name ∷ names) (r ∷ rows) (suc q) h few = node_is a g f names rows q (omega arith) (omega arith)

pub move_on_is : (a : ℕ) (g : Aggregator) (f : Feature) (name : ℕ) (r : Row) (l : Letter) →
    move_on l (node_made a g f name r) ≡ move_made a g f (arrow_on l r)
move_on_is a g f name r Less = refl
move_on_is a g f name r Equal = refl
move_on_is a g f name r Greater = refl

module _ (rows : List Row) (typed : is_typed rows ≡ true) (few : length rows ≤ 8) (a : ℕ) (g : Aggregator) (f : Feature) where
  step_is : (st : Standing Ext) (x y : ℤ) → st.state < length rows → AtRest (less_fold f) st.regs →
      step_of (decorated_body rows a g f) st x y ≡ table_step (held_at_limit g f) (cell_value f) a rows st x y
  step_is st x y h i =
      let l = letter_of x y in
      let n = node_is a g f state_names rows st.state h few in
      let m = arrow_at rows st.state l in
      let made : move_on l (node_at (decorated_body rows a g f).states st.state) ≡ move_made a g f m =
      ap (move_on l) n.1 ∙ move_on_is a g f n.0 (row_at rows st.state) l in
      ap (λ t. let z : Standing Ext = record { state = t.next; regs = registers_after numbers st.regs x y t } in z) made
      ∙ ap (λ s. let z : Standing Ext = record { state = m.next; regs = s } in z) (move_is g f st.regs x y i a m.phase m.next)

  pub after_is : (ys : List ℤ) (x : ℤ) (st : Standing Ext) → st.state < length rows → AtRest (less_fold f) st.regs →
      after_from (decorated_body rows a g f) st x ys ≡ table_after (held_at_limit g f) (cell_value f) a rows st x ys
  after_is [] x st h i = refl
  after_is (y ∷ ys) x st h i =
      let m = arrow_at rows st.state (letter_of x y) in
      ap (λ z. after_from (decorated_body rows a g f) z y ys) (step_is st x y h i)
      ∙ after_is ys y (table_step (held_at_limit g f) (cell_value f) a rows st x y) (move_stays rows typed st.state (letter_of x y))
      (rests_after (less_fold f) (held_at_limit g f) refl a m.phase st.regs (cell_value f x) (cell_value f y) i)

  pub rests_behind : (ys : List ℤ) (x : ℤ) (st : Standing Ext) → AtRest (less_fold f) st.regs →
      AtRest (less_fold f) (table_after (held_at_limit g f) (cell_value f) a rows st x ys).regs
  rests_behind [] x st i = i
  rests_behind (y ∷ ys) x st i =
      let m = arrow_at rows st.state (letter_of x y) in
      rests_behind ys y (table_step (held_at_limit g f) (cell_value f) a rows st x y)
      (rests_after (less_fold f) (held_at_limit g f) refl a m.phase st.regs (cell_value f x) (cell_value f y) i)

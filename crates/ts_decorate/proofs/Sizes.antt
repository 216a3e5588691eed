-- No value of a run within the limits is held: the exact operators compute what the automaton computes.
use Rattle.std.specs.Prelude.{◌≡◌, ℕ, zero, suc, ◌+◌, ◌*◌, ◌≤◌, Bool, true, false, cond, ℤ, pos, negsuc, ◌+ℤ◌, ◌-ℤ◌, unsigned_abs, List, [], ◌∷◌, length, Option, None, Some, refl}
use Rattle.std.proofs.Common.{◌∙◌, ap, arith}
use Rattle.std.proofs.lemmas.Int.{ints}
use Rattle.ts_base.specs.declared.ext.Ext.{Ext}
use Rattle.ts_base.specs.declared.ext.Ext.TheVariants.{NegInf, Int, PosInf}
use Rattle.ts_base.specs.declared.constant.Constant.{Constant}
use Rattle.ts_base.specs.declared.constant.Constant.TheVariants.{Zero as ZeroConstant}
use Rattle.ts_base.specs.Limits.{IsCellValue}
use Rattle.ts_base.specs.Numbers.{clamp, ext_le, ext_plus}
use Rattle.ts_base.specs.Operators.{constant_value}
use Rattle.ts_base.specs.Signature.{letter_of}
use Rattle.ts_transducer.specs.declared.row.Phase.{Phase}
use Rattle.ts_transducer.specs.declared.row.Phase.TheVariants.{Out, OutR, OutA, MaybeB, MaybeA, Found, FoundE, Inside}
use Rattle.ts_transducer.specs.declared.row.Row.{Row}
use Rattle.ts_transducer.specs.Decode.{arrow_at}
use Rattle.ts_pattern.specs.declared.name.Aggregator.{Aggregator}
use Rattle.ts_pattern.specs.declared.name.Aggregator.TheVariants.{Sum, Max as MaxOf, Min as MinOf}
use Rattle.ts_pattern.specs.declared.name.Feature.{Feature}
use Rattle.ts_pattern.specs.declared.name.Feature.TheVariants.{One, Width, Surf, Max as MaxFeature, Min as MinFeature, Range}
use Rattle.ts_pattern.specs.declared.arithmetic.CellFold.{CellFold}
use Rattle.ts_pattern.specs.Arithmetic.{cell_fold, less_fold, neutral_value, range_fold, range_op, default_value, cell_value}
use Rattle.ts_base.specs.declared.op.Op.{Op}
use Rattle.ts_base.specs.declared.op.Op.TheVariants.{Add, Max, Min}
use Rattle.ts_automaton.specs.declared.expr.Operator.{Operator}
use Rattle.ts_automaton.specs.declared.expr.Operator.TheVariants.{Fold, Sub}
use Rattle.ts_automaton.specs.Differences.{difference, number_op}
use Rattle.ts_automaton.specs.Registers.{EachOf, each, ext_op}
use Rattle.ts_automaton.specs.AutomatonRun.{Standing, AreCellValues}
use Rattle.ts_decorate.specs.Operators.{Half, Operators, with_last, with_all, range_after, cells_after, ranges_after, after_phase, total_of}
use Rattle.ts_decorate.specs.Rows.{phi_by, neutral_by, read_by, half_by}
use Rattle.ts_decorate.proofs.Exact.{exact_plus, exact_op, exact_difference, exact_operator, exact, held_at_limit}
use Rattle.ts_decorate.proofs.Runs.{table_step, table_after}

abbrev pub limit : ℕ
limit = 100000000000000000

-- how large a number is; an infinity has no size
abbrev pub size_of : Ext → ℕ
size_of NegInf = 0
size_of (Int z) = unsigned_abs z
size_of PosInf = 0

abbrev pub size_of_all : EachOf Ext → ℕ
size_of_all s = size_of s.c + size_of s.e + size_of s.d + size_of s.f + size_of s.r

-- what the moves along a series can add, to both halves
abbrev pub cost : (ℤ → Ext) → ℤ → List ℤ → ℕ
cost over x [] = 0
cost over x (y ∷ ys) = size_of (over x) + size_of (over y) + (size_of (over x) + size_of (over y)) + 1 + cost over y ys

clamp_same : (z : ℤ) → unsigned_abs z ≤ limit → clamp z ≡ z
clamp_same (pos n) h = grind (arith, ints)
clamp_same (negsuc n) h = grind (arith, ints)

abs_sum : (x y : ℤ) → unsigned_abs (x +ℤ y) ≤ unsigned_abs x + unsigned_abs y
abs_sum x y = omega (arith, ints)

plus_same : (u v : Ext) → size_of u + size_of v ≤ limit → ext_plus u v ≡ exact_plus u v
plus_same NegInf v h = refl
plus_same (Int x) NegInf h = refl
plus_same (Int x) (Int y) h = ap Int (clamp_same (x +ℤ y) (let s = abs_sum x y in omega arith))
plus_same (Int x) PosInf h = refl
plus_same PosInf NegInf h = refl
plus_same PosInf (Int y) h = refl
plus_same PosInf PosInf h = refl

plus_size : (u v : Ext) → size_of (exact_plus u v) ≤ size_of u + size_of v
plus_size NegInf v = omega arith
plus_size (Int x) NegInf = omega arith
plus_size (Int x) (Int y) = abs_sum x y
plus_size (Int x) PosInf = omega arith
plus_size PosInf NegInf = omega arith
plus_size PosInf (Int y) = omega arith
plus_size PosInf PosInf = omega arith

abs_difference : (x y : ℤ) → unsigned_abs (x -ℤ y) ≤ unsigned_abs x + unsigned_abs y
abs_difference x y = omega (arith, ints)

difference_same : (u v : Ext) → size_of u + size_of v ≤ limit → difference u v ≡ exact_difference u v
difference_same NegInf v h = refl
difference_same (Int x) NegInf h = refl
difference_same (Int x) (Int y) h = ap Int (clamp_same (x -ℤ y) (let s = abs_difference x y in omega arith))
difference_same (Int x) PosInf h = refl
difference_same PosInf NegInf h = refl
difference_same PosInf (Int y) h = refl
difference_same PosInf PosInf h = refl

difference_size : (u v : Ext) → size_of (exact_difference u v) ≤ size_of u + size_of v
difference_size NegInf v = omega arith
difference_size (Int x) NegInf = omega arith
difference_size (Int x) (Int y) = abs_difference x y
difference_size (Int x) PosInf = omega arith
difference_size PosInf NegInf = omega arith
difference_size PosInf (Int y) = omega arith
difference_size PosInf PosInf = omega arith

either_size : (b : Bool) (u v : Ext) → size_of (cond b u v) ≤ size_of u + size_of v
either_size true u v = omega arith
either_size false u v = omega arith

-- an operator doesn't grow its operands, and on small ones it is the exact one
pub op_same : (o : Op) (u v : Ext) → size_of u + size_of v ≤ limit → ext_op o u v ≡ exact_op o u v
op_same Add u v h = plus_same u v h
op_same Max u v h = refl
op_same Min u v h = refl

pub op_size : (o : Op) (u v : Ext) → size_of (exact_op o u v) ≤ size_of u + size_of v
op_size Add u v = plus_size u v
op_size Max u v = let e = either_size (ext_le u v) v u in omega arith
op_size Min u v = either_size (ext_le u v) u v

pub operator_same : (o : Operator) (u v : Ext) → size_of u + size_of v ≤ limit → number_op o u v ≡ exact_operator o u v
operator_same (Fold o) u v h = op_same o u v h
operator_same Sub u v h = difference_same u v h

pub operator_size : (o : Operator) (u v : Ext) → size_of (exact_operator o u v) ≤ size_of u + size_of v
operator_size (Fold o) u v = op_size o u v
operator_size Sub u v = difference_size u v

-- the operators of a row, if any, give the exact results where numbers are small
phi_same : (row : Option CellFold) (u v : Ext) → size_of u + size_of v ≤ limit → phi_by number_op row u v ≡ phi_by exact_operator row u v
phi_same None u v h = refl
phi_same (Some row) u v h = op_same row.op u v h

phi_size : (row : Option CellFold) (u v : Ext) → size_of (phi_by exact_operator row u v) ≤ size_of u + size_of v
phi_size None u v = omega arith
phi_size (Some row) u v = op_size row.op u v

read_same : (row : Option CellFold) (u v : Ext) → size_of u + size_of v ≤ limit → read_by number_op row u v ≡ read_by exact_operator row u v
read_same None u v h = refl
read_same (Some row) u v h = difference_same u v h

pub read_size : (row : Option CellFold) (u v : Ext) → size_of (read_by exact_operator row u v) ≤ size_of u + size_of v
read_size None u v = omega arith
read_size (Some row) u v = difference_size u v

pub neutral_size : (f : Feature) → size_of (neutral_value f) + size_of (constant_value (neutral_by (less_fold f))) ≤ 1
neutral_size One = omega arith
neutral_size Width = omega arith
neutral_size Surf = omega arith
neutral_size MaxFeature = omega arith
neutral_size MinFeature = omega arith
neutral_size Range = omega arith

pub default_size : (g : Aggregator) → size_of (default_value g) ≤ 0
default_size Sum = omega arith
default_size MaxOf = omega arith
default_size MinOf = omega arith

five_same : {c c' e e' d d' f f' r r' : Ext} → c ≡ c' → e ≡ e' → d ≡ d' → f ≡ f' → r ≡ r' → each c e d f r ≡ each c' e' d' f' r'
five_same p q u v w = cc

-- one half over one sign
module _ (row : Option CellFold) (idle : Constant) where
  abbrev held : Half Ext
  held = half_by constant_value number_op row idle

  abbrev free : Half Ext
  free = half_by constant_value exact_operator row idle

  last_same : (a : ℕ) (d p q : Ext) → size_of d + size_of p + size_of q ≤ limit → with_last held a d p q ≡ with_last free a d p q
  last_same zero d p q l = phi_same row d q (omega arith)
  last_same (suc a) d p q l = phi_same row d p (omega arith)

  last_size : (a : ℕ) (d p q : Ext) → size_of (with_last free a d p q) ≤ size_of d + size_of p + size_of q
  last_size zero d p q = let e = phi_size row d q in omega arith
  last_size (suc a) d p q = let e = phi_size row d p in omega arith

  pub all_same : (a : ℕ) (d p q : Ext) → size_of d + size_of p + size_of q ≤ limit → with_all held a d p q ≡ with_all free a d p q
  all_same zero d p q l =
      let e = phi_size row d p in
      ap (λ z. held.phi z q) (phi_same row d p (omega arith)) ∙ phi_same row (free.phi d p) q (omega arith)
  all_same (suc a) d p q l = phi_same row d p (omega arith)

  pub all_size : (a : ℕ) (d p q : Ext) → size_of (with_all free a d p q) ≤ size_of d + size_of p + size_of q
  all_size zero d p q = let e = phi_size row d p in let i = phi_size row (free.phi d p) q in omega arith
  all_size (suc a) d p q = let e = phi_size row d p in omega arith

  range_same : (a : ℕ) (p : Phase) (c d u v : Ext) → size_of c + size_of d + size_of u + size_of v ≤ limit →
      range_after held a p c d u v ≡ range_after free a p c d u v
  range_same a Out c d u v l = refl
  range_same a OutR c d u v l = refl
  range_same a OutA c d u v l = refl
  range_same a MaybeB c d u v l = refl
  range_same a MaybeA c d u v l = refl
  range_same a Found c d u v l = all_same a d u v (omega arith)
  range_same a FoundE c d u v l = refl
  range_same a Inside c d u v l =
      let e = last_size a d u v in
      ap (held.phi c) (last_same a d u v (omega arith)) ∙ phi_same row c (with_last free a d u v) (omega arith)

  cells_same : (a : ℕ) (p : Phase) (d u v : Ext) → size_of d + size_of u + size_of v ≤ limit →
      cells_after held a p d u v ≡ cells_after free a p d u v
  cells_same a Out d u v l = refl
  cells_same a OutR d u v l = refl
  cells_same a OutA d u v l = refl
  cells_same a MaybeB d u v l = phi_same row d u (omega arith)
  cells_same a MaybeA d u v l = last_same a d u v (omega arith)
  cells_same a Found d u v l = refl
  cells_same a FoundE d u v l = refl
  cells_same a Inside d u v l = refl

-- both over one sign, and the ranges
module _ (g : Aggregator) (f : Feature) where
  abbrev h : Operators Ext
  h = held_at_limit g f

  abbrev o : Operators Ext
  o = exact g f

  abbrev whole : Option CellFold
  whole = Some (cell_fold f)

  abbrev low : Option CellFold
  low = less_fold f

  abbrev first : Constant
  first = (range_fold g).default

  pub total_same : (s : EachOf Ext) → size_of_all s ≤ limit → total_of h s ≡ total_of o s
  total_same s l =
      let e = read_size low s.c s.e in
      ap (h.g s.r) (read_same low s.c s.e (omega arith)) ∙ op_same (range_op g) s.r (o.read s.c s.e) (omega arith)

  pub total_size : (s : EachOf Ext) → size_of (total_of o s) ≤ size_of_all s
  total_size s = let e = read_size low s.c s.e in let i = op_size (range_op g) s.r (o.read s.c s.e) in omega arith

  -- the range that is found at once
  found_is : (a : ℕ) (s : EachOf Ext) (u v : Ext) → size_of_all s + size_of u + size_of v + (size_of u + size_of v) ≤ limit →
      h.read (with_all h.whole a s.d u v) (with_all h.less a s.f u v) ≡ o.read (with_all o.whole a s.d u v) (with_all o.less a s.f u v)
  found_is a s u v l =
      let e = all_size whole first a s.d u v in
      let i = all_size low ZeroConstant a s.f u v in
      ap (λ z. h.read z (with_all h.less a s.f u v)) (all_same whole first a s.d u v (omega arith))
      ∙ ap (λ z. h.read (with_all o.whole a s.d u v) z) (all_same low ZeroConstant a s.f u v (omega arith))
      ∙ read_same low (with_all o.whole a s.d u v) (with_all o.less a s.f u v) (omega arith)

  found_size : (a : ℕ) (s : EachOf Ext) (u v : Ext) →
      size_of (o.read (with_all o.whole a s.d u v) (with_all o.less a s.f u v)) ≤ size_of s.d + size_of s.f + size_of u + size_of v + (size_of u + size_of v)
  found_size a s u v =
      let e = all_size whole first a s.d u v in
      let i = all_size low ZeroConstant a s.f u v in
      let j = read_size low (with_all o.whole a s.d u v) (with_all o.less a s.f u v) in
      omega arith

  ranges_same : (a : ℕ) (p : Phase) (s : EachOf Ext) (u v : Ext) → size_of_all s + size_of u + size_of v + (size_of u + size_of v) ≤ limit →
      ranges_after h a p s u v ≡ ranges_after o a p s u v
  ranges_same a Out s u v l = refl
  ranges_same a OutR s u v l = refl
  ranges_same a OutA s u v l = total_same s (omega arith)
  ranges_same a MaybeB s u v l = refl
  ranges_same a MaybeA s u v l = refl
  ranges_same a Found s u v l = refl
  ranges_same a FoundE s u v l =
      let e = found_size a s u v in
      ap (h.g s.r) (found_is a s u v l)
      ∙ op_same (range_op g) s.r (o.read (with_all o.whole a s.d u v) (with_all o.less a s.f u v)) (omega arith)
  ranges_same a Inside s u v l = refl

  phase_same : (a : ℕ) (p : Phase) (s : EachOf Ext) (u v : Ext) → size_of_all s + size_of u + size_of v + (size_of u + size_of v) ≤ limit →
      after_phase h a p s u v ≡ after_phase o a p s u v
  phase_same a p s u v l =
      five_same (range_same whole first a p s.c s.d u v (omega arith)) (range_same low ZeroConstant a p s.e s.f u v (omega arith))
      (cells_same whole first a p s.d u v (omega arith)) (cells_same low ZeroConstant a p s.f u v (omega arith)) (ranges_same a p s u v l)

  phase_size : (a : ℕ) (p : Phase) (s : EachOf Ext) (u v : Ext) →
      size_of_all (after_phase o a p s u v) ≤ size_of_all s + size_of u + size_of v + (size_of u + size_of v) + 1
  phase_size a Out s u v = omega arith
  phase_size a OutR s u v = let e = neutral_size f in omega arith
  phase_size a OutA s u v = let e = neutral_size f in let i = default_size g in let j = total_size s in omega arith
  phase_size a MaybeB s u v = let e = phi_size whole s.d u in let i = phi_size low s.f u in omega arith
  phase_size a MaybeA s u v =
      let e = last_size whole first a s.d u v in
      let i = last_size low ZeroConstant a s.f u v in
      omega arith
  phase_size a Found s u v =
      let e = all_size whole first a s.d u v in
      let i = all_size low ZeroConstant a s.f u v in
      let j = neutral_size f in
      omega arith
  phase_size a FoundE s u v =
      let e = found_size a s u v in
      let i = neutral_size f in
      let j = op_size (range_op g) s.r (o.read (with_all o.whole a s.d u v) (with_all o.less a s.f u v)) in
      omega arith
  phase_size a Inside s u v =
      let e = last_size whole first a s.d u v in
      let i = last_size low ZeroConstant a s.f u v in
      let j = neutral_size f in
      let m = phi_size whole s.c (with_last o.whole a s.d u v) in
      let n = phi_size low s.e (with_last o.less a s.f u v) in
      omega arith

  -- along a series, from registers that leave room for what the moves add
  pub after_same : (a : ℕ) (rows : List Row) (ys : List ℤ) (x : ℤ) (st : Standing Ext) → size_of_all st.regs + cost (cell_value f) x ys ≤ limit →
      (table_after h (cell_value f) a rows st x ys ≡ table_after o (cell_value f) a rows st x ys)
      × (size_of_all (table_after o (cell_value f) a rows st x ys).regs ≤ size_of_all st.regs + cost (cell_value f) x ys)
  after_same a rows [] x st l = (refl, omega arith)
  after_same a rows (y ∷ ys) x st l =
      let m = arrow_at rows st.state (letter_of x y) in
      let s = phase_size a m.phase st.regs (cell_value f x) (cell_value f y) in
      let e = phase_same a m.phase st.regs (cell_value f x) (cell_value f y) (omega arith) in
      let z = table_step o (cell_value f) a rows st x y in
      let r = after_same a rows ys y z (omega arith) in
      let w = r.1 in
      (ap (λ t. let n : Standing Ext = record { state = m.next; regs = t } in table_after h (cell_value f) a rows n y ys) e ∙ r.0, omega arith)

cell_size : (f : Feature) (x : ℤ) → IsCellValue x → size_of (cell_value f x) ≤ 1000000
cell_size One x h = omega arith
cell_size Width x h = omega arith
cell_size Surf x h = let a = h.0 in let b = h.1 in omega (arith, ints)
cell_size MaxFeature x h = let a = h.0 in let b = h.1 in omega (arith, ints)
cell_size MinFeature x h = let a = h.0 in let b = h.1 in omega (arith, ints)
cell_size Range x h = let a = h.0 in let b = h.1 in omega (arith, ints)

-- a move adds at most 4,000,001
pub cost_small : (f : Feature) (ys : List ℤ) (x : ℤ) → IsCellValue x → AreCellValues ys → cost (cell_value f) x ys ≤ length ys * 4000001
cost_small f [] x h i = omega arith
cost_small f (y ∷ ys) x h i =
    let a = cell_size f x h in
    let b = cell_size f y i.0 in
    let c = cost_small f ys y i.0 i.1 in
    omega arith

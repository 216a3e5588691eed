-- The glued value as it is defined, over exact sums and differences, is the one of the proof.
use Rattle.std.specs.Prelude.{◌≡◌, ℕ, zero, suc, ◌+◌, ◌≤◌, Bool, true, false, ℤ, is_some, Option, None, Some, if◌then◌else◌, refl}
use Rattle.std.proofs.Common.{sym, ◌∙◌, ap, subst, arith}
use Rattle.std.proofs.lemmas.Int.{ints}
use Rattle.ts_base.specs.declared.ext.Ext.{Ext}
use Rattle.ts_base.specs.declared.ext.Ext.TheVariants.{Int}
use Rattle.ts_base.specs.declared.op.Op.{Op}
use Rattle.ts_base.specs.declared.op.Op.TheVariants.{Add, Max, Min}
use Rattle.ts_base.specs.declared.range.Kind.{Kind}
use Rattle.ts_base.specs.declared.range.Kind.TheVariants.{Idle, Pending, Held}
use Rattle.ts_transducer.specs.Typing.{is_held}
use Rattle.ts_pattern.specs.declared.arithmetic.CellFold.{CellFold}
use Rattle.ts_pattern.specs.declared.name.Aggregator.{Aggregator}
use Rattle.ts_pattern.specs.declared.name.Feature.{Feature}
use Rattle.ts_pattern.specs.declared.name.Feature.TheVariants.{One, Width, Surf, Max as MaxFeature, Min as MinFeature, Range}
use Rattle.ts_pattern.specs.Arithmetic.{cell_op, less_fold, range_op}
use Rattle.ts_automaton.specs.declared.expr.Operator.TheVariants.{Fold}
use Rattle.ts_automaton.specs.Registers.{EachOf}
use Rattle.ts_decorate.specs.Operators.{Operators}
use Rattle.ts_decorate.specs.Rows.{phi_by, read_by}
use Rattle.ts_decorate.proofs.Exact.{exact_op, exact_difference, exact_operator, exact, max_assoc, min_assoc, plus_assoc}
use Rattle.ts_decorate.proofs.Sizes.{size_of, size_of_all}
use Rattle.ts_glue.specs.declared.operand.Part.{Part}
use Rattle.ts_glue.specs.declared.operand.Part.TheVariants.{Whole, Away}
use Rattle.ts_glue.specs.Glue.{Glue, Left, Right, With, glue_in, apart, counted_once, fold_of, held_in, held_of, join_of, open_in, part_of}
use Rattle.ts_compile.proofs.Facts.{opened_by, through, glued}
use Rattle.ts_compile.proofs.Halves.{parts_of, paired, opened_both}
use Rattle.ts_compile.proofs.Tests.{HeldPair}
use Rattle.ts_compile.proofs.Instances.{exact_joined, joined_by, away_by, both_joined}
use Rattle.ts_compile.proofs.Small.{exact_numbers, side_value, size_in}

-- what stands for the glued value, by the operators of the ranges and of the cells
abbrev pub form_of : Bool → ℕ → Op → Op → Bool → Bool → Bool → ℤ → Glue
form_of wide a g o j held_left held_right w =
    if j then join_of g (fold_of wide o (part_of a held_left held_right w)) else apart wide g

counted_is : (o : Op) (s t : EachOf Ext) (u v : Glue) (w : ℤ) →
    glue_in exact_numbers s t (counted_once o w (With (Fold o) u v))
    ≡ exact_joined o (glue_in exact_numbers s t u) (glue_in exact_numbers s t v) (Int w)
counted_is Add s t u v w = refl
counted_is Max s t u v w = refl
counted_is Min s t u v w = refl

op_assoc : (o : Op) (u v w : Ext) → exact_op o (exact_op o u v) w ≡ exact_op o u (exact_op o v w)
op_assoc Add = plus_assoc
op_assoc Max = max_assoc
op_assoc Min = min_assoc

-- a part of the fold, by an operator

module _ (o : Op) (p : Part) (s t : EachOf Ext) (w : ℤ) where
  abbrev phi : Ext → Ext → Ext
  phi u v = exact_op o u v

  -- what is open of it on each side
  abbrev left_open : Kind → Ext
  left_open k = opened_by phi k (side_value s (held_in p)) (side_value s (open_in p))

  abbrev right_open : Kind → Ext
  right_open l = opened_by phi l (side_value t (held_in p)) (side_value t (open_in p))

  held_opened : (r : EachOf Ext) (k : Kind) → k ≡ Held →
      phi (side_value r (held_in p)) (side_value r (open_in p)) ≡ opened_by phi k (side_value r (held_in p)) (side_value r (open_in p))
  held_opened r k e =
      subst
      (λ z. phi (side_value r (held_in p)) (side_value r (open_in p)) ≡ opened_by phi z (side_value r (held_in p)) (side_value r (open_in p)))
      (sym e) refl

  -- what is held on the right is folded before what may come to it
  held_right : (u : Ext) → phi (phi u (side_value t (held_in p))) (side_value t (open_in p)) ≡ phi u (right_open Held)
  held_right u = op_assoc o u (side_value t (held_in p)) (side_value t (open_in p))

  part_value : (a : ℕ) (k l : Kind) → HeldPair a k l →
      glue_in exact_numbers s t (part_of a (is_held k) (is_held l) w o p) ≡ through phi (exact_joined o) a (left_open k) (right_open l) (Int w)
  part_value zero k l e =
      counted_is o s t (With (Fold o) (Left (held_in p)) (Left (open_in p))) (With (Fold o) (Right (held_in p)) (Right (open_in p))) w
      ∙ ap (λ z. exact_joined o z (phi (side_value t (held_in p)) (side_value t (open_in p))) (Int w)) (held_opened s k e.0)
      ∙ ap (λ z. exact_joined o (left_open k) z (Int w)) (held_opened t l e.1)
  part_value (suc n) Idle Idle e = refl
  part_value (suc n) Idle Pending e = refl
  part_value (suc n) Idle Held e = held_right (phi (left_open Idle) (Int w))
  part_value (suc n) Pending Idle e = refl
  part_value (suc n) Pending Pending e = refl
  part_value (suc n) Pending Held e = held_right (phi (left_open Pending) (Int w))
  part_value (suc n) Held Idle e = refl
  part_value (suc n) Held Pending e = refl
  part_value (suc n) Held Held e = held_right (phi (left_open Held) (Int w))

-- what is taken away are the least cells

abbrev TakesLeast : Option CellFold → Type 0
TakesLeast None = Unit {0}
TakesLeast (Some row) = row.op ≡ Min

takes_least : (f : Feature) → TakesLeast (less_fold f)
takes_least One = tt
takes_least Width = tt
takes_least Surf = tt
takes_least MaxFeature = tt
takes_least MinFeature = tt
takes_least Range = refl

module _ (s t : EachOf Ext) (w : ℤ) where
  -- what is folded of the half that is taken away
  abbrev away_form : Option CellFold → ℕ → Kind → Kind → Ext
  away_form row a k l =
      through (λ u v. phi_by exact_operator row u v) (joined_by row) a (opened_by (λ u v. phi_by exact_operator row u v) k s.e s.f)
      (opened_by (λ u v. phi_by exact_operator row u v) l t.e t.f) (away_by row (Int w))

  away_value : (row : Option CellFold) → TakesLeast row → (a : ℕ) (k l : Kind) → HeldPair a k l → (u : Ext) →
      read_by exact_operator row u (glue_in exact_numbers s t (part_of a (is_held k) (is_held l) w Min Away))
      ≡ read_by exact_operator row u (away_form row a k l)
  away_value None least a k l e u = refl
  away_value (Some row) least a k l e u =
      ap (exact_difference u)
      (ap (λ o. glue_in exact_numbers s t (part_of a (is_held k) (is_held l) w o Away)) (sym least) ∙ part_value row.op Away s t w a k l e)

  fold_value : (row : Option CellFold) (o : Op) (part : Op → Part → Glue) →
      glue_in exact_numbers s t (fold_of (is_some row) o part)
      ≡ read_by exact_operator row (glue_in exact_numbers s t (part o Whole)) (glue_in exact_numbers s t (part Min Away))
  fold_value None o part = refl
  fold_value (Some row) o part = refl

held_value : (row : Option CellFold) (s : EachOf Ext) → side_value s (held_of (is_some row)) ≡ read_by exact_operator row s.c s.e
held_value None s = refl
held_value (Some row) s = refl

module _ (g : Aggregator) (f : Feature) (w : ℤ) (s t : EachOf Ext) where
  abbrev o : Operators Ext
  o = exact g f

  abbrev row : Option CellFold
  row = less_fold f

  -- the parts of the form of the proof
  through_both : (a : ℕ) (k l : Kind) →
      (paired o).read
      (through (paired o).phi (both_joined f) a (opened_by (paired o).phi k (s.c, s.e) (s.d, s.f)) (opened_by (paired o).phi l (t.c, t.e) (t.d, t.f))
      (Int w, away_by row (Int w)))
      ≡ o.read
      (through o.whole.phi (exact_joined (cell_op f)) a (opened_by o.whole.phi k s.c s.d) (opened_by o.whole.phi l t.c t.d) (Int w))
      (away_form s t w row a k l)
  through_both zero k l =
      let u = opened_by (paired o).phi l (t.c, t.e) (t.d, t.f) in
      ap (λ z. (paired o).read (both_joined f z u (Int w, away_by row (Int w)))) (opened_both o k s.c s.e s.d s.f)
      ∙ ap
      (λ z. (paired o).read
      (both_joined f (opened_by o.whole.phi k s.c s.d, opened_by o.less.phi k s.e s.f) z (Int w, away_by row (Int w)))) (opened_both o l t.c t.e t.d t.f)
  through_both (suc n) k l =
      let u = opened_by (paired o).phi l (t.c, t.e) (t.d, t.f) in
      ap (λ z. (paired o).read ((paired o).phi ((paired o).phi z (Int w, away_by row (Int w))) u)) (opened_both o k s.c s.e s.d s.f)
      ∙ ap
      (λ z. (paired o).read
      ((paired o).phi ((paired o).phi (opened_by o.whole.phi k s.c s.d, opened_by o.less.phi k s.e s.f) (Int w, away_by row (Int w))) z))
      (opened_both o l t.c t.e t.d t.f)

  pub form_is : (a : ℕ) (j : Bool) (k l : Kind) → (j ≡ true → HeldPair a k l) →
      glue_in exact_numbers s t (form_of (is_some row) a (range_op g) (cell_op f) j (is_held k) (is_held l) w)
      ≡ glued (paired o) (both_joined f) a j k l (parts_of s) (parts_of t) (Int w, away_by row (Int w))
  form_is a false k l h =
      ap (λ z. o.g (o.g s.r z) (o.g t.r (side_value t (held_of (is_some row))))) (held_value row s)
      ∙ ap (λ z. o.g (o.g s.r (o.read s.c s.e)) (o.g t.r z)) (held_value row t)
  form_is a true k l h =
      let e = h refl in
      let part = part_of a (is_held k) (is_held l) w in
      let whole = through o.whole.phi (exact_joined (cell_op f)) a (opened_by o.whole.phi k s.c s.d) (opened_by o.whole.phi l t.c t.d) (Int w) in
      ap (o.g (o.g s.r t.r))
      (fold_value s t w row (cell_op f) part
      ∙ ap (λ z. o.read z (glue_in exact_numbers s t (part Min Away))) (part_value (cell_op f) Whole s t w a k l e)
      ∙ away_value s t w row (takes_least f) a k l e whole
      ∙ sym (through_both a k l))

-- each register and the cell stand in it once at most, the cell once in each part

both_size : (o : Op) (s t : EachOf Ext) (u : Glue) (w : ℤ) → size_in s t (counted_once o w u) ≤ size_in s t u + size_of (Int w)
both_size Add s t u w = omega (arith, ints)
both_size Max s t u w = omega arith
both_size Min s t u w = omega arith

-- what both sides have of a part, folded
abbrev both_sides : Op → Part → Glue
both_sides o p = With (Fold o) (With (Fold o) (Left (held_in p)) (Left (open_in p))) (With (Fold o) (Right (held_in p)) (Right (open_in p)))

part_size : (a : ℕ) (o : Op) (held_left held_right : Bool) (w : ℤ) (s t : EachOf Ext) (p : Part) →
    size_in s t (part_of a held_left held_right w o p)
    ≤ size_of (side_value s (held_in p)) + size_of (side_value s (open_in p)) + size_of (side_value t (held_in p)) + size_of (side_value t (open_in p))
    + size_of (Int w)
part_size zero o hl hr w s t Whole = let b = both_size o s t (both_sides o Whole) w in omega (arith, b)
part_size zero o hl hr w s t Away = let b = both_size o s t (both_sides o Away) w in omega (arith, b)
part_size (suc n) o true true w s t Whole = omega arith
part_size (suc n) o true false w s t Whole = omega arith
part_size (suc n) o false true w s t Whole = omega arith
part_size (suc n) o false false w s t Whole = omega arith
part_size (suc n) o true true w s t Away = omega arith
part_size (suc n) o true false w s t Away = omega arith
part_size (suc n) o false true w s t Away = omega arith
part_size (suc n) o false false w s t Away = omega arith

pub form_size : (wide : Bool) (a : ℕ) (g o : Op) (j held_left held_right : Bool) (w : ℤ) (s t : EachOf Ext) →
    size_in s t (form_of wide a g o j held_left held_right w) ≤ size_of_all s + size_of_all t + (size_of (Int w) + size_of (Int w))
form_size false a g o false hl hr w s t = omega arith
form_size true a g o false hl hr w s t = omega arith
form_size false a g o true hl hr w s t = let p = part_size a o hl hr w s t Whole in omega (arith, p)
form_size true a g o true hl hr w s t =
    let p = part_size a o hl hr w s t Whole in
    let q = part_size a Min hl hr w s t Away in
    omega (arith, p, q)

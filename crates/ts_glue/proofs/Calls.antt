-- What the calls of a machine that can be split need: the shapes are those of its pair, a shape with its operators and its worth is the expression
-- of the pair, and each operator in it meets values that it takes.
use Rattle.std.proofs.Common.{◌≡◌, ◌<◌, ◌⊎◌, ℕ, zero, suc, ◌+◌, Bool, true, false, cond, ℤ, List, length, set, get_or, refl, sym, ◌∙◌, ap, subst, ⊎_elim, arith}
use Rattle.std.proofs.lemmas.List.{get_or-set_same, get_or-set_other}
use Rattle.std.specs.Prelude.{IsTrue, IfSome, IsSome, ◌&&◌, Option, None, Some, option_map}
use Rattle.ts_base.specs.declared.ext.Ext.{Ext}
use Rattle.ts_base.specs.declared.span.Span.{Span}
use Rattle.ts_base.specs.declared.op.Op.{Op}
use Rattle.ts_base.specs.declared.op.Op.TheVariants.{Min}
use Rattle.ts_base.specs.Spans.{none_span}
use Rattle.ts_automaton.specs.declared.expr.Operator.TheVariants.{Sub}
use Rattle.ts_automaton.specs.Registers.{numbers, spans}
use Rattle.ts_automaton.specs.Kinds.{Fits, SpansFit}
use Rattle.ts_automaton.specs.Body.{Body, node_at}
use Rattle.ts_automaton.specs.Typing.{is_automaton}
use Rattle.ts_automaton.specs.AutomatonRun.{Standing, Stands}
use Rattle.ts_automaton.specs.declared.state.Mark.{Mark}
use Rattle.ts_automaton.specs.SpanRun.{has_registers, HullStands, marked_span}
use Rattle.ts_glue.specs.declared.machine.Half.{Half}
use Rattle.ts_glue.specs.declared.machine.Machine.{Machine}
use Rattle.ts_glue.specs.declared.gluing.Gluing.{Gluing}
use Rattle.ts_glue.specs.declared.operand.Part.{Part}
use Rattle.ts_glue.specs.declared.operand.Part.TheVariants.{Whole, Away}
use Rattle.ts_glue.specs.declared.shape.Shape.TheVariants.{Apart, Through}
use Rattle.ts_glue.specs.declared.shape.Shapes.{Shapes}
use Rattle.ts_glue.specs.Pairs.{Pair, pair, table_view}
use Rattle.ts_glue.specs.Machines.{forward_of, reverse_of, pair_of}
use Rattle.ts_glue.specs.Glued.{glued_span}
use Rattle.ts_glue.specs.Glue.{Glue, With, GlueTakes, glue_in, fold_op, worth, is_join, is_wide, apart, fold_of, join_of, part_of, result_op, glue_of}
use Rattle.ts_glue.specs.Shapes.{glue_by, expression, part_by, seam_of, shape_of, shape_at, AreShapes}
use Rattle.ts_glue.proofs.Facts.{facts_of}
use Rattle.ts_glue.proofs.Typed.{glue_fits, hulls_fit}

impossible : {B : Type 0} → false ≡ true → B
impossible e = cc

below_or_same : (i k : ℕ) → i < k + 1 → (i < k) ⊎ (i ≡ k)
below_or_same i k l = grind arith

-- a list that is right up to a place is so up to the next one, when that is filled
pub filled_more : {X : Type 0} (Is : ℕ → X → Type 0) (xs : List X) (k : ℕ) (x d : X) → k < length xs → ((i : ℕ) → i < k → Is i (get_or xs i d)) → Is k x →
    (i : ℕ) → i < k + 1 → Is i (get_or (set xs k x) i d)
filled_more Is xs k x d within before here i l =
    ⊎_elim
    (λ b. subst (Is i) (sym (get_or-set_other xs k i x d (λ e. absurd (omega (arith, b, e))))) (before i b))
    (λ e. subst (λ j. Is j (get_or (set xs k x) j d)) (sym e) (subst (Is k) (sym (get_or-set_same xs k x d within)) here))
    (below_or_same i k l)

-- the seam of an occurrence is its fold
part_is : (a : ℕ) (u v : Bool) (d : ℤ) (o : Op) (p : Part) → part_by (seam_of a u v) d o p ≡ part_of a u v d o p
part_is zero u v d o p = refl
part_is (suc a) u v d o p = refl

seam_is : (wide : Bool) (a : ℕ) (u v : Bool) (d : ℤ) (o : Op) → fold_of wide o (part_by (seam_of a u v) d) ≡ fold_of wide o (part_of a u v d)
seam_is false a u v d o = part_is a u v d o Whole
seam_is true a u v d o =
    ap (λ z. With Sub z (part_by (seam_of a u v) d Min Away)) (part_is a u v d o Whole) ∙ ap (With Sub (part_of a u v d o Whole)) (part_is a u v d Min Away)

module _ (p : Pair) (q r : ℕ) (x : ℤ) where
  abbrev held_left : Bool
  held_left = (node_at p.forward.states q).held

  abbrev held_right : Bool
  held_right = (node_at p.reverse.states r).held

  -- the shape of a pair of states is its expression
  pub shape_is : glue_by (result_op p) p.table.op (worth p.table.unit x) (shape_of p q r) ≡ glue_of p q r x
  shape_is = go (is_join p.table q r)
    where
      go : (b : Bool) →
          glue_by (result_op p) p.table.op (worth p.table.unit x) (cond b (Through (seam_of p.table.a held_left held_right)) Apart)
          ≡ cond b
          (join_of (result_op p)
          (fold_of (is_wide p) (fold_op p.table.op) (part_of p.table.a held_left held_right (worth p.table.unit x))))
          (apart (is_wide p) (result_op p))
      go true = ap (join_of (result_op p)) (seam_is (is_wide p) p.table.a held_left held_right (worth p.table.unit x) (fold_op p.table.op))
      go false = refl

-- what a table of shapes tells of a pair of states
pub gluing_is : (t : Shapes) (g : Gluing) (left right : ℕ) (x : ℤ) → g.result ≡ t.result → g.fold ≡ t.fold → g.worth ≡ worth t.unit x →
    g.shape ≡ shape_at t.rows left right → (p : Pair) → AreShapes p t → left < length p.forward.states → right < length p.reverse.states →
    expression g ≡ glue_of p left right x
gluing_is t g left right x er ef ew es p h l r =
    ap (λ z. glue_by z g.fold g.worth g.shape) (er ∙ h.0)
    ∙ ap (λ z. glue_by (result_op p) z g.worth g.shape) (ef ∙ h.1)
    ∙ ap (λ z. glue_by (result_op p) p.table.op z g.shape) (ew ∙ ap (λ u. worth u x) h.2)
    ∙ ap (glue_by (result_op p) p.table.op (worth p.table.unit x)) (es ∙ h.3 left l right r)
    ∙ shape_is p left right x

-- the expression is that of the machine's pair in the states where the two runs stand
module _ (m : Machine) (split : IsSome (pair_of m)) (forward : IsTrue (is_automaton (forward_of m)))
    (reverse : IfSome (reverse_of m) (λ b. IsTrue (is_automaton b))) (u : Glue) where
  abbrev with_half : Half → Pair
  with_half h = pair m.forward h.reverse (table_view h.table)

  module _ (h : Half) (e : m.half ≡ Some h) where
    of_pair : (P : Pair → Type 0) → IfSome (pair_of m) P → P (with_half h)
    of_pair P k = subst (λ o. IfSome (option_map with_half o) P) e k

    of_reverse : (P : Body → Type 0) → IfSome (reverse_of m) P → P h.reverse
    of_reverse P k = subst (λ o. IfSome (option_map (λ (p : Pair). p.reverse) (option_map with_half o)) P) e k

  pub value_fits : (left right : Standing Ext) → Stands (forward_of m) left → IfSome (reverse_of m) (λ b. Stands b right) → (x : ℤ) →
      IfSome (pair_of m) (λ p. u ≡ glue_of p left.state right.state x) → GlueTakes Fits numbers left.regs right.regs u
  value_fits left right l r x e = go m.half refl
    where
      go : (o : Option Half) → m.half ≡ o → GlueTakes Fits numbers left.regs right.regs u
      go None f = impossible (subst (λ o. IsSome (option_map with_half o)) f split)
      go (Some h) f =
          glue_fits (with_half h) (facts_of (with_half h) (m.rules h f)) forward (of_reverse h f (λ b. IsTrue (is_automaton b)) reverse) left right l
          (of_reverse h f (λ b. Stands b right) r) x u (of_pair h f (λ p. u ≡ glue_of p left.state right.state x) e)

  pub spans_fit : (left right : Standing Span) → HullStands (forward_of m) left → IfSome (reverse_of m) (λ b. HullStands b right) →
      has_registers left.regs ≡ true → has_registers right.regs ≡ true → (x : ℤ) →
      IfSome (pair_of m) (λ p. u ≡ glue_of p left.state right.state x) → GlueTakes SpansFit spans left.regs right.regs u
  spans_fit left right l r some_left some_right x e = go m.half refl
    where
      go : (o : Option Half) → m.half ≡ o → GlueTakes SpansFit spans left.regs right.regs u
      go None f = impossible (subst (λ o. IsSome (option_map with_half o)) f split)
      go (Some h) f =
          hulls_fit (with_half h) (facts_of (with_half h) (m.rules h f)) forward (of_reverse h f (λ b. IsTrue (is_automaton b)) reverse) left right l
          (of_reverse h f (λ b. HullStands b right) r) some_left some_right x u (of_pair h f (λ p. u ≡ glue_of p left.state right.state x) e)

-- the gluing that a machine's shapes tell is that of its pair
pub gluing_of_pair : (m : Machine) (h : Half) → m.half ≡ Some h → (u : Glue) (left right : ℕ) (x : ℤ) →
    ((p : Pair) → AreShapes p h.shapes → left < length p.forward.states → right < length p.reverse.states → u ≡ glue_of p left right x) →
    left < length (forward_of m).states → IfSome (reverse_of m) (λ b. right < length b.states) → IfSome (pair_of m) (λ p. u ≡ glue_of p left right x)
gluing_of_pair m h e u left right x tells l r =
    subst (λ o. IfSome (option_map (λ (i : Half). pair m.forward i.reverse (table_view i.table)) o) (λ p. u ≡ glue_of p left right x)) (sym e)
    (tells (pair m.forward h.reverse (table_view h.table)) (m.shapes h e) l
    (subst
    (λ o. IfSome (option_map (λ (p : Pair). p.reverse) (option_map (λ (i : Half). pair m.forward i.reverse (table_view i.table)) o))
    (λ b. right < length b.states)) e r))

-- and the shapes of a machine are those of its pair
pub shapes_of_pair : (m : Machine) (h : Half) → m.half ≡ Some h → IfSome (pair_of m) (λ p. AreShapes p h.shapes)
shapes_of_pair m h e =
    subst (λ o. IfSome (option_map (λ (i : Half). pair m.forward i.reverse (table_view i.table)) o) (λ p. AreShapes p h.shapes)) (sym e) (m.shapes h e)

-- the forward automaton of its pair is the machine's
pub forward_in_pair : (m : Machine) → IfSome (pair_of m) (λ p. p.forward ≡ forward_of m)
forward_in_pair m = go m.half
  where
    go : (o : Option Half) → IfSome (option_map (λ (i : Half). pair m.forward i.reverse (table_view i.table)) o) (λ p. p.forward ≡ m.forward)
    go None = tt
    go (Some h) = refl

-- two hulls that aren't none, glued by that and marked
pub spans_told : (o : Option Pair) (b : Body) (u : Glue) (left right : Standing Span) (x : ℤ) (n : ℕ) (k : Mark) (s t : Span) →
    IfSome o (λ p. p.forward ≡ b) → IfSome o (λ p. u ≡ glue_of p left.state right.state x) →
    has_registers left.regs ≡ true → has_registers right.regs ≡ true → k ≡ b.mark → s ≡ glue_in spans left.regs right.regs u → t ≡ marked_span k n s →
    IfSome o (λ p. t ≡ glued_span p left right x n)
spans_told None b u left right x n k s t eb eu l r ek es et = tt
spans_told (Some p) b u left right x n k s t eb eu l r ek es et =
    let both : has_registers left.regs && has_registers right.regs ≡ true = ap (λ z. z && has_registers right.regs) l ∙ r in
    et ∙ ap (λ z. marked_span z n s) (ek ∙ ap (λ z. z.mark) (sym eb))
    ∙ ap (marked_span p.forward.mark n)
    (es ∙ ap (glue_in spans left.regs right.regs) eu
    ∙ sym (ap (λ z. cond z (glue_in spans left.regs right.regs (glue_of p left.state right.state x)) none_span) both))

-- Where both runs stand with registers of their kinds, no operator in the glued value meets an operand that it doesn't take.
use Rattle.std.proofs.Common.{◌≡◌, ℕ, zero, suc, Bool, true, false, cond, ℤ, pos, refl, sym, ◌∙◌, ap, subst}
use Rattle.std.specs.Prelude.{IsTrue, is_some, Option, Some}
use Rattle.ts_base.specs.declared.ext.Ext.{Ext}
use Rattle.ts_base.specs.declared.span.Span.{Span}
use Rattle.ts_automaton.specs.declared.kind.RegKind.{RegKind}
use Rattle.ts_base.specs.declared.op.Op.{Op}
use Rattle.ts_automaton.specs.declared.expr.Operator.{Operator}
use Rattle.ts_automaton.specs.declared.expr.Operator.TheVariants.{Fold, Sub}
use Rattle.ts_base.specs.declared.op.Op.TheVariants.{Add, Max, Min}
use Rattle.ts_automaton.specs.declared.expr.Atom.TheVariants.{R}
use Rattle.ts_automaton.specs.Formula.{Formula, Leaf}
use Rattle.ts_automaton.specs.Registers.{EachOf, numbers, spans}
use Rattle.ts_automaton.specs.Kinds.{HasKind, SpanHasKind, op_kind, join_kind, Fits, SpansFit, formula_kind}
use Rattle.ts_automaton.specs.Body.{Body, node_at}
use Rattle.ts_automaton.specs.Typing.{kinds_at, is_automaton}
use Rattle.ts_automaton.specs.AutomatonRun.{Standing, Stands}
use Rattle.ts_automaton.specs.SpanRun.{has_registers, HullStands}
use Rattle.ts_automaton.proofs.Evaluation.{parted}
use Rattle.ts_automaton.proofs.KindLaws.{numbers_typed, spans_typed}
use Rattle.ts_automaton.proofs.Rules.{rules_of, finish_typed}
use Rattle.ts_automaton.proofs.StepLaws.{spans_have}
use Rattle.ts_automaton.proofs.Tables.{implies, implied, at_each}
use Rattle.ts_glue.specs.Pairs.{Pair}
use Rattle.ts_glue.specs.declared.operand.Part.{Part}
use Rattle.ts_glue.specs.declared.operand.Part.TheVariants.{Whole, Away}
use Rattle.ts_glue.specs.Glue.{Glue, Left, Right, With, GlueTakes, fold_op, worth, held_of, is_join, is_wide, apart, fold_of, join_of, part_of, result_of, result_op, glue_of}
use Rattle.ts_glue.proofs.Expressions.{kind_in, glue_meets}
use Rattle.ts_glue.specs.Laws.{OperandsFit}
use Rattle.ts_glue.proofs.Facts.{Facts, facts_of, join_is_typed}

-- an operator that folds takes what it makes
abbrev are_results : Operator → RegKind → RegKind → RegKind → RegKind → Bool
are_results (Fold o) i j k l =
    implies (is_some (op_kind (Fold o) i j))
    (implies (is_some (op_kind (Fold o) k l)) (is_some (join_kind (Fold o) (op_kind (Fold o) i j) (op_kind (Fold o) k l))))
are_results Sub i j k l = true

results_join : (o : Op) (i j k l : RegKind) → IsTrue (is_some (op_kind (Fold o) i j)) → IsTrue (is_some (op_kind (Fold o) k l)) →
    IsTrue (is_some (join_kind (Fold o) (op_kind (Fold o) i j) (op_kind (Fold o) k l)))
results_join o i j k l p q =
    let goal = is_some (join_kind (Fold o) (op_kind (Fold o) i j) (op_kind (Fold o) k l)) in
    implied (is_some (op_kind (Fold o) k l)) goal
    (implied (is_some (op_kind (Fold o) i j)) (implies (is_some (op_kind (Fold o) k l)) goal) (at_each are_results refl (Fold o) i j k l) p) q

-- whatever its operands are
results_joined : (o : Op) (u v s t : Option RegKind) → IsTrue (is_some (join_kind (Fold o) u v)) → IsTrue (is_some (join_kind (Fold o) s t)) →
    IsTrue (is_some (join_kind (Fold o) (join_kind (Fold o) u v) (join_kind (Fold o) s t)))
results_joined o u v s t h i =
    let p = parted (Fold o) u v h in
    let q = parted (Fold o) s t i in
    let first : join_kind (Fold o) u v ≡ op_kind (Fold o) p.left p.right =
    ap (λ z. join_kind (Fold o) z v) p.left_is ∙ ap (join_kind (Fold o) (Some p.left)) p.right_is in
    let second : join_kind (Fold o) s t ≡ op_kind (Fold o) q.left q.right =
    ap (λ z. join_kind (Fold o) z t) q.left_is ∙ ap (join_kind (Fold o) (Some q.left)) q.right_is in
    subst (λ z. IsTrue (is_some (join_kind (Fold o) z (join_kind (Fold o) s t)))) (sym first)
    (subst (λ z. IsTrue (is_some (join_kind (Fold o) (op_kind (Fold o) p.left p.right) z))) (sym second)
    (results_join o p.left p.right q.left q.right p.taken q.taken))

finish_has : (b : Body) → IsTrue (is_automaton b) → (f : Formula) → b.finish ≡ f → (q : ℕ) → IsTrue (is_some (formula_kind (kinds_at b q) f))
finish_has b a f e q = subst (λ g. IsTrue (is_some (formula_kind (kinds_at b q) g))) e (finish_typed b (rules_of b a) q)

-- the kind of a fold doesn't depend on the cell
part_kind : (a : ℕ) (held_left held_right : Bool) (d e : ℤ) (o : Op) (p : Part) (k l : EachOf RegKind) →
    kind_in k l (part_of a held_left held_right d o p) ≡ kind_in k l (part_of a held_left held_right e o p)
part_kind zero u v d e Add p k l = refl
part_kind zero u v d e Max p k l = refl
part_kind zero u v d e Min p k l = refl
part_kind (suc a) true true d e o p k l = refl
part_kind (suc a) true false d e o p k l = refl
part_kind (suc a) false true d e o p k l = refl
part_kind (suc a) false false d e o p k l = refl

fold_kind : (wide : Bool) (a : ℕ) (held_left held_right : Bool) (d e : ℤ) (o : Op) (k l : EachOf RegKind) →
    kind_in k l (fold_of wide o (part_of a held_left held_right d)) ≡ kind_in k l (fold_of wide o (part_of a held_left held_right e))
fold_kind false a u v d e o k l = part_kind a u v d e o Whole k l
fold_kind true a u v d e o k l =
    ap (λ z. join_kind Sub z (kind_in k l (part_of a u v d Min Away))) (part_kind a u v d e o Whole k l)
    ∙ ap (join_kind Sub (kind_in k l (part_of a u v e o Whole))) (part_kind a u v d e Min Away k l)

same_kind : (wide : Bool) (a : ℕ) (o g : Op) (held_left held_right : Bool) (d e : ℤ) (k l : EachOf RegKind) →
    kind_in k l (join_of g (fold_of wide o (part_of a held_left held_right d))) ≡
    kind_in k l (join_of g (fold_of wide o (part_of a held_left held_right e)))
same_kind wide a o g u v d e k l =
    ap (join_kind (Fold g) (kind_in k l (With (Fold g) (Left (Leaf R)) (Right (Leaf R))))) (fold_kind wide a u v d e o k l)

module _ (p : Pair) (f : Facts p) (forward : IsTrue (is_automaton p.forward)) (reverse : IsTrue (is_automaton p.reverse)) where
  -- the expression where one occurrence goes on through the cell
  abbrev through : ℕ → ℕ → ℤ → Glue
  through q r x =
      join_of (result_op p)
      (fold_of (is_wide p) (fold_op p.table.op)
      (part_of p.table.a (node_at p.forward.states q).held (node_at p.reverse.states r).held (worth p.table.unit x)))

  pub glue_typed : (q r : ℕ) (x : ℤ) → IsTrue (is_some (kind_in (kinds_at p.forward q) (kinds_at p.reverse r) (glue_of p q r x)))
  glue_typed q r x = go (is_join p.table q r) refl
    where
      k : EachOf RegKind
      k = kinds_at p.forward q

      l : EachOf RegKind
      l = kinds_at p.reverse r

      go : (v : Bool) → is_join p.table q r ≡ v → IsTrue (is_some (kind_in k l (cond v (through q r x) (apart (is_wide p) (result_op p)))))
      go true e =
          subst (λ u. IsTrue (is_some u))
          (same_kind (is_wide p) p.table.a (fold_op p.table.op) (result_op p) (node_at p.forward.states q).held (node_at p.reverse.states r).held
          (worth p.table.unit (pos 0)) (worth p.table.unit x) k l)
          (subst (λ v. IsTrue (is_some (kind_in k l (cond v (through q r (pos 0)) (apart (is_wide p) (result_op p)))))) e (join_is_typed p f q r e))
      go false e =
          let held = held_of (is_wide p) in
          results_joined (result_op p) (Some k.r) (formula_kind k held) (Some l.r) (formula_kind l held)
          (finish_has p.forward forward (result_of (is_wide p) (result_op p)) f.forward_finish q)
          (finish_has p.reverse reverse (result_of (is_wide p) (result_op p)) f.reverse_finish r)

  -- u is the expression of the two states
  pub glue_fits : (left right : Standing Ext) → Stands p.forward left → Stands p.reverse right → (x : ℤ) (u : Glue) → u ≡ glue_of p left.state right.state x →
      GlueTakes Fits numbers left.regs right.regs u
  glue_fits left right h i x u e =
      glue_meets numbers HasKind Fits numbers_typed u (kinds_at p.forward left.state) (kinds_at p.reverse right.state) left.regs right.regs h.kinds i.kinds
      (subst (λ z. IsTrue (is_some (kind_in (kinds_at p.forward left.state) (kinds_at p.reverse right.state) z))) (sym e) (glue_typed left.state right.state x))

  pub hulls_fit : (left right : Standing Span) → HullStands p.forward left → HullStands p.reverse right → has_registers left.regs ≡ true →
      has_registers right.regs ≡ true → (x : ℤ) (u : Glue) → u ≡ glue_of p left.state right.state x → GlueTakes SpansFit spans left.regs right.regs u
  hulls_fit left right h i s t x u e =
      glue_meets spans SpanHasKind SpansFit spans_typed u (kinds_at p.forward left.state) (kinds_at p.reverse right.state) left.regs right.regs
      (spans_have (kinds_at p.forward left.state) left.regs h.kinds s) (spans_have (kinds_at p.reverse right.state) right.regs i.kinds t)
      (subst (λ z. IsTrue (is_some (kind_in (kinds_at p.forward left.state) (kinds_at p.reverse right.state) z))) (sym e) (glue_typed left.state right.state x))

pub operands_fit : OperandsFit
operands_fit p k a b =
    let f = facts_of p k in
    record {
      fit = λ left right h i x. glue_fits p f a b left right h i x (glue_of p left.state right.state x) refl;
      spans_fit = λ left right h i s t x. hulls_fit p f a b left right h i s t x (glue_of p left.state right.state x) refl;
    }

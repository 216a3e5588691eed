-- Laws of the meaning of a glued value's expression, for any values.
use Rattle.std.proofs.Common.{ap, subst}
use Rattle.std.specs.Prelude.{IsTrue, pos, is_some, Option, Some}
use Rattle.ts_base.specs.declared.ext.Ext.{Ext}
use Rattle.ts_base.specs.declared.ext.Ext.TheVariants.{Int}
use Rattle.ts_automaton.specs.declared.kind.RegKind.{RegKind}
use Rattle.ts_automaton.specs.declared.expr.Operator.{Operator}
use Rattle.ts_automaton.specs.Registers.{EachOf, map_each, Each, Values}
use Rattle.ts_automaton.specs.Kinds.{kinds}
use Rattle.ts_automaton.proofs.Evaluation.{value_related, takes_typed, parted, HasIfSome, joins}
use Rattle.ts_automaton.proofs.KindLaws.{TypedValues}
use Rattle.ts_glue.specs.Glue.{Glue, Left, Right, Number, With, glue_in, GlueTakes}

-- a relation of two kinds of values that constants and operators keep
module _ {A B : Type 0} (m : Values A) (n : Values B) (P : A → B → Type 0)
    (constant : (e : Ext) → P (m.constant e) (n.constant e))
    (joined : (o : Operator) (a a' : A) (b b' : B) → P a b → P a' b' → P (m.join o a a') (n.join o b b')) where
  pub glue_related : (u : Glue) (s t : EachOf A) (s' t' : EachOf B) → Each P s s' → Each P t t' → P (glue_in m s t u) (glue_in n s' t' u)
  glue_related (Left f) s t s' t' h i =
      value_related m n P constant joined f s s' (pos 0) (pos 0) (pos 0) (pos 0) (constant (Int (pos 0))) (constant (Int (pos 0))) h
  glue_related (Right f) s t s' t' h i =
      value_related m n P constant joined f t t' (pos 0) (pos 0) (pos 0) (pos 0) (constant (Int (pos 0))) (constant (Int (pos 0))) i
  glue_related (Number x) s t s' t' h i = constant (Int x)
  glue_related (With o u v) s t s' t' h i = joined o _ _ _ _ (glue_related u s t s' t' h i) (glue_related v s t s' t' h i)

-- the kind of an expression at registers of these kinds
abbrev pub kind_in : EachOf RegKind → EachOf RegKind → Glue → Option RegKind
kind_in k l u = glue_in kinds (map_each (λ j. Some j) k) (map_each (λ j. Some j) l) u

module _ {A : Type 0} (m : Values A) (Has : RegKind → A → Type 0) (P : Operator → A → A → Type 0) (t : TypedValues m Has P) where
  -- a value has the kind of its expression
  pub glue_has : (u : Glue) (k l : EachOf RegKind) (left right : EachOf A) → Each Has k left → Each Has l right →
      HasIfSome m Has P t.constant t.taken t.made (glue_in m left right u) (kind_in k l u)
  glue_has u k l left right h i =
      glue_related m kinds (HasIfSome m Has P t.constant t.taken t.made) t.constant (joins m Has P t.constant t.taken t.made) u
      left right (map_each (λ j. Some j) k) (map_each (λ j. Some j) l) (h.0, h.1, h.2, h.3, h.4) (i.0, i.1, i.2, i.3, i.4)

  -- in an expression with a kind each operator meets two values that it takes
  pub glue_meets : (u : Glue) (k l : EachOf RegKind) (left right : EachOf A) → Each Has k left → Each Has l right → IsTrue (is_some (kind_in k l u)) →
      GlueTakes P m left right u
  glue_meets (Left f) k l left right h i e = takes_typed m Has P t.constant t.taken t.made f k left (pos 0) (pos 0) h e
  glue_meets (Right f) k l left right h i e = takes_typed m Has P t.constant t.taken t.made f l right (pos 0) (pos 0) i e
  glue_meets (Number x) k l left right h i e = tt
  glue_meets (With o u v) k l left right h i e =
      let p = parted o (kind_in k l u) (kind_in k l v) e in
      let Has' = HasIfSome m Has P t.constant t.taken t.made in (
        glue_meets u k l left right h i (ap is_some p.left_is),
        glue_meets v k l left right h i (ap is_some p.right_is),
        t.taken o p.left p.right _ _ p.taken (subst (Has' (glue_in m left right u)) p.left_is (glue_has u k l left right h i))
            (subst (Has' (glue_in m left right v)) p.right_is (glue_has v k l left right h i)),
      )

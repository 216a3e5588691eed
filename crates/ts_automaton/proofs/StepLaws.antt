-- In an automaton each operator meets operands that it takes, and a move gives the registers the kinds of the state that it reaches.
use Rattle.std.proofs.Common.{◌≡◌, ◌<◌, ℕ, Bool, true, false, cond, ℤ, length, inl, inr, refl, sym, subst, arith}
use Rattle.std.specs.Prelude.{IsTrue, is_some, pos, Option, None, Some}
use Rattle.std.proofs.lemmas.Bool.{both_ways}
use Rattle.ts_base.specs.declared.ext.Ext.{Ext}
use Rattle.ts_base.specs.declared.span.Span.{Span}
use Rattle.ts_base.specs.declared.letter.Letter.{Letter}
use Rattle.ts_automaton.specs.declared.kind.RegKind.{RegKind}
use Rattle.ts_automaton.specs.declared.expr.Operator.{Operator}
use Rattle.ts_automaton.specs.Formula.{Formula}
use Rattle.ts_automaton.specs.Registers.{EachOf, Each, Values, numbers, spans, value_in, Takes, TakesAll}
use Rattle.ts_automaton.specs.Kinds.{kind_of, HasKind, SpanHasKind, Fits, SpansFit, formula_kind}
use Rattle.ts_automaton.specs.Body.{Body, Move, move_on, node_at}
use Rattle.ts_automaton.specs.Typing.{fits_kind, kinds_where, kinds_at, is_move_typed, is_automaton}
use Rattle.ts_automaton.specs.AutomatonRun.{Standing, Stands, start_of, registers_after}
use Rattle.ts_automaton.specs.SpanRun.{none_hull, has_registers, moved_hull, HullHasKinds, HullStands}
use Rattle.ts_automaton.proofs.Evaluation.{HasIfSome, value_has, takes_typed}
use Rattle.ts_automaton.proofs.KindLaws.{TypedValues, numbers_typed, spans_typed}
use Rattle.ts_automaton.proofs.Rules.{rules_of, target_exists, move_typed, finish_typed, starts_free}
use Rattle.ts_automaton.proofs.Tables.{within_refl}
use Rattle.ts_automaton.proofs.Five.{five_parts, none_registers}

fitted : (u : Option RegKind) (k : RegKind) → IsTrue (fits_kind u k) → IsTrue (is_some u)
fitted None k h = h
fitted (Some j) k h = refl

module _ {A : Type 0} (m : Values A) (Has : RegKind → A → Type 0) (P : Operator → A → A → Type 0) (t : TypedValues m Has P) where
  within : (u : Option RegKind) (k : RegKind) (a : A) → IsTrue (fits_kind u k) → HasIfSome m Has P t.constant t.taken t.made a u → Has k a
  within None k a h g = cc
  within (Some j) k a h g = t.widened j k a h g

  takes_one : (f : Formula) (k : EachOf RegKind) (j : RegKind) (s : EachOf A) (x y : ℤ) → Each Has k s → IsTrue (fits_kind (formula_kind k f) j) →
      Takes P m s x y f
  takes_one f k j s x y h e = takes_typed m Has P t.constant t.taken t.made f k s x y h (fitted _ j e)

  has_one : (f : Formula) (k : EachOf RegKind) (j : RegKind) (s : EachOf A) (x y : ℤ) → Each Has k s → IsTrue (fits_kind (formula_kind k f) j) →
      Has j (value_in m s x y f)
  has_one f k j s x y h e = within _ j _ e (value_has m Has P t.constant t.taken t.made f k s x y h)

  -- u is the move of the state q on the letter l
  pub move_takes : (b : Body) → IsTrue (is_automaton b) → (q : ℕ) (l : Letter) → q < length b.states → (s : EachOf A) → Each Has (kinds_at b q) s →
      (u : Move) → u ≡ move_on l (node_at b.states q) → (x y : ℤ) → TakesAll P m s x y u.to
  move_takes b r q l h s k u e x y =
      let w = five_parts _ _ _ _ _ (subst (λ w. IsTrue (is_move_typed b q w)) (sym e) (move_typed b (rules_of b r) q l h)) in
      (takes_one u.to.c _ _ s x y k w.0, takes_one u.to.e _ _ s x y k w.1, takes_one u.to.d _ _ s x y k w.2, takes_one u.to.f _ _ s x y k w.3, takes_one u.to.r _ _ s x y k w.4)

  pub move_keeps : (b : Body) → IsTrue (is_automaton b) → (q : ℕ) (l : Letter) → q < length b.states → (s : EachOf A) → Each Has (kinds_at b q) s →
      (u : Move) → u ≡ move_on l (node_at b.states q) → (x y : ℤ) → Each Has (kinds_at b u.next) (registers_after m s x y u)
  move_keeps b r q l h s k u e x y =
      let w = five_parts _ _ _ _ _ (subst (λ w. IsTrue (is_move_typed b q w)) (sym e) (move_typed b (rules_of b r) q l h)) in
      (has_one u.to.c _ _ s x y k w.0, has_one u.to.e _ _ s x y k w.1, has_one u.to.d _ _ s x y k w.2, has_one u.to.f _ _ s x y k w.3, has_one u.to.r _ _ s x y k w.4)

  pub finish_takes : (b : Body) → IsTrue (is_automaton b) → (q : ℕ) (s : EachOf A) → Each Has (kinds_at b q) s → (f : Formula) → f ≡ b.finish →
      Takes P m s (pos 0) (pos 0) f
  finish_takes b r q s k f e =
      subst (Takes P m s (pos 0) (pos 0)) (sym e)
      (takes_typed m Has P t.constant t.taken t.made b.finish (kinds_at b q) s (pos 0) (pos 0) k (finish_typed b (rules_of b r) q))

pub next_exists : (b : Body) → IsTrue (is_automaton b) → (q : ℕ) (l : Letter) → q < length b.states → (u : Move) → u ≡ move_on l (node_at b.states q) →
    u.next < length b.states
next_exists b r q l h u e = subst (λ w. w.next < length b.states) (sym e) (target_exists b (rules_of b r) q l h)

-- the step of numbers, and that of spans, from a state in which the registers have their kinds
pub stands_after : (b : Body) → IsTrue (is_automaton b) → (s : Standing Ext) → Stands b s → (l : Letter) (u : Move) → u ≡ move_on l (node_at b.states s.state) →
    (x y : ℤ) (r : EachOf Ext) → r ≡ registers_after numbers s.regs x y u → Stands b (record { state = u.next; regs = r })
stands_after b a s h l u e x y r i = record {
  exists = next_exists b a s.state l h.exists u e;
  kinds = subst (Each HasKind (kinds_at b u.next)) (sym i) (move_keeps numbers HasKind Fits numbers_typed b a s.state l h.exists s.regs h.kinds u e x y);
}

-- where the hull isn't none, its spans have their kinds
pub spans_have : (k : EachOf RegKind) (h : EachOf Span) → HullHasKinds k h → has_registers h ≡ true → Each SpanHasKind k h
spans_have k h (inl e) t = absurd (both_ways (has_registers h) e t)
spans_have k h (inr g) t = g

pub hull_takes : (b : Body) → IsTrue (is_automaton b) → (s : Standing Span) → HullStands b s → (l : Letter) (u : Move) →
    u ≡ move_on l (node_at b.states s.state) →
    (x y : ℤ) → IsTrue (has_registers s.regs) → TakesAll SpansFit spans s.regs x y u.to
hull_takes b a s h l u e x y t =
    move_takes spans SpanHasKind SpansFit spans_typed b a s.state l h.exists s.regs (spans_have (kinds_at b s.state) s.regs h.kinds t) u e x y

pub hull_finish_takes : (b : Body) → IsTrue (is_automaton b) → (s : Standing Span) → HullStands b s → IsTrue (has_registers s.regs) →
    (f : Formula) → f ≡ b.finish → Takes SpansFit spans s.regs (pos 0) (pos 0) f
hull_finish_takes b a s h t f g =
    finish_takes spans SpanHasKind SpansFit spans_typed b a s.state s.regs (spans_have (kinds_at b s.state) s.regs h.kinds t) f g

pub hull_stands_after : (b : Body) → IsTrue (is_automaton b) → (s : Standing Span) → HullStands b s → (l : Letter) (u : Move) →
    u ≡ move_on l (node_at b.states s.state) →
    (x y : ℤ) (r : EachOf Span) → r ≡ moved_hull s.regs x y u → HullStands b (record { state = u.next; regs = r })
hull_stands_after b a s h l u e x y r i = record {
  exists = next_exists b a s.state l h.exists u e;
  kinds = subst (HullHasKinds (kinds_at b u.next)) (sym i) (go (has_registers s.regs) refl);
}
  where
    go : (v : Bool) → has_registers s.regs ≡ v → HullHasKinds (kinds_at b u.next) (cond v (registers_after spans s.regs x y u) none_hull)
    go false t = inl none_registers
    go true t = inr (move_keeps spans SpanHasKind SpansFit spans_typed b a s.state l h.exists s.regs (spans_have (kinds_at b s.state) s.regs h.kinds t) u e x y)

-- the start constants have the kinds of a free state
pub start_stands : (b : Body) → IsTrue (is_automaton b) → Stands b (start_of b)
start_stands b a =
    let r = rules_of b a in
    record {
      exists = omega (arith, r.some);
      kinds =
          subst (λ v. Each HasKind (kinds_where b v) b.start) (sym (starts_free b r)) (
            within_refl (kind_of b.start.c),
            within_refl (kind_of b.start.e),
            within_refl (kind_of b.start.d),
            within_refl (kind_of b.start.f),
            within_refl (kind_of b.start.r),
          );
    }

-- Both halves of a range as one part: what a phase letter does to the registers is what it does to the parts. What is
-- taken away may count a cell for something else, as long as its half joins both to the same.
use Rattle.std.specs.Prelude.{◌≡◌, ℕ, zero, suc, refl}
use Rattle.std.proofs.Common.{sym, ◌∙◌, ap}
use Rattle.ts_base.specs.declared.range.Kind.{Kind}
use Rattle.ts_base.specs.declared.range.Kind.TheVariants.{Idle, Pending, Held}
use Rattle.ts_transducer.specs.declared.row.Phase.{Phase}
use Rattle.ts_transducer.specs.declared.row.Phase.TheVariants.{Out, OutR, OutA, MaybeB, MaybeA, Found, FoundE, Inside}
use Rattle.ts_automaton.specs.Registers.{EachOf}
use Rattle.ts_decorate.specs.Operators.{Half, Operators, with_last, with_all, range_after, cells_after, ranges_after, after_phase}
use Rattle.ts_compile.proofs.Facts.{State, state, Ops, half_of, results_after, moved, opened_by}

pub pair_same : {A B : Type 0} {a a' : A} {b b' : B} → a ≡ a' → b ≡ b' → ◌≡◌ {A = A × B} (a, b) (a', b')
pair_same p q = cc

pub pair_is : {A B : Type 0} (u : A × B) → ◌≡◌ {A = A × B} (u.0, u.1) u
pair_is (a, b) = refl

state_same : {P E : Type 0} {c c' d d' : P} {r r' : E} → c ≡ c' → d ≡ d' → r ≡ r' → state c d r ≡ state c' d' r'
state_same p q u = cc

-- registers as parts
abbrev pub parts_of : {V : Type 0} → EachOf V → State (V × V) V
parts_of s = state (s.c, s.e) (s.d, s.f) s.r

abbrev pub paired : {V : Type 0} → Operators V → Ops (V × V) V
paired o = record {
  phi = λ u v. (o.whole.phi u.0 v.0, o.less.phi u.1 v.1);
  neutral = (o.whole.neutral, o.less.neutral);
  idle = (o.whole.idle, o.less.idle);
  read = λ u. o.read u.0 u.1;
  g = o.g;
  default = o.default;
}

-- one half, where cells count for others that it joins to the same
module _ {V : Type 0} (h : Half V) (x y x' y' : V) (same_x : (u : V) → h.phi u x ≡ h.phi u x') (same_y : (u : V) → h.phi u y ≡ h.phi u y') where
  last_same : (a : ℕ) (d : V) → with_last h a d x y ≡ with_last h a d x' y'
  last_same zero d = same_y d
  last_same (suc a) d = same_x d

  all_same : (a : ℕ) (d : V) → with_all h a d x y ≡ with_all h a d x' y'
  all_same zero d = same_y (h.phi d x) ∙ ap (λ z. h.phi z y') (same_x d)
  all_same (suc a) d = same_x d

  range_same : (a : ℕ) (f : Phase) (c d : V) → range_after h a f c d x y ≡ range_after h a f c d x' y'
  range_same a Out c d = refl
  range_same a OutR c d = refl
  range_same a OutA c d = refl
  range_same a MaybeB c d = refl
  range_same a MaybeA c d = refl
  range_same a Found c d = all_same a d
  range_same a FoundE c d = refl
  range_same a Inside c d = ap (h.phi c) (last_same a d)

  cells_same : (a : ℕ) (f : Phase) (d : V) → cells_after h a f d x y ≡ cells_after h a f d x' y'
  cells_same a Out d = refl
  cells_same a OutR d = refl
  cells_same a OutA d = refl
  cells_same a MaybeB d = same_x d
  cells_same a MaybeA d = last_same a d
  cells_same a Found d = refl
  cells_same a FoundE d = refl
  cells_same a Inside d = refl

-- two halves move as one
module _ {V : Type 0} (o : Operators V) (x y x' y' : V) where
  abbrev both : Half (V × V)
  both = half_of (paired o)

  range_both : (a : ℕ) (f : Phase) (c e d g : V) →
      range_after both a f (c, e) (d, g) (x, x') (y, y') ≡ (range_after o.whole a f c d x y, range_after o.less a f e g x' y')
  range_both a Out c e d g = refl
  range_both a OutR c e d g = refl
  range_both a OutA c e d g = refl
  range_both a MaybeB c e d g = refl
  range_both a MaybeA c e d g = refl
  range_both zero Found c e d g = refl
  range_both (suc a) Found c e d g = refl
  range_both a FoundE c e d g = refl
  range_both zero Inside c e d g = refl
  range_both (suc a) Inside c e d g = refl

  cells_both : (a : ℕ) (f : Phase) (d g : V) →
      cells_after both a f (d, g) (x, x') (y, y') ≡ (cells_after o.whole a f d x y, cells_after o.less a f g x' y')
  cells_both a Out d g = refl
  cells_both a OutR d g = refl
  cells_both a OutA d g = refl
  cells_both a MaybeB d g = refl
  cells_both zero MaybeA d g = refl
  cells_both (suc a) MaybeA d g = refl
  cells_both a Found d g = refl
  cells_both a FoundE d g = refl
  cells_both a Inside d g = refl

  found_both : (a : ℕ) (d g : V) → with_all both a (d, g) (x, x') (y, y') ≡ (with_all o.whole a d x y, with_all o.less a g x' y')
  found_both zero d g = refl
  found_both (suc a) d g = refl

module _ {V : Type 0} (o : Operators V) (x y x' y' : V) (same_x : (u : V) → o.less.phi u x ≡ o.less.phi u x')
    (same_y : (u : V) → o.less.phi u y ≡ o.less.phi u y') where
  results_are : (a : ℕ) (f : Phase) (s : EachOf V) → ranges_after o a f s x y ≡ results_after (paired o) a f (parts_of s) (x, x') (y, y')
  results_are a Out s = refl
  results_are a OutR s = refl
  results_are a OutA s = refl
  results_are a MaybeB s = refl
  results_are a MaybeA s = refl
  results_are a Found s = refl
  results_are a FoundE s =
      ap (λ z. o.g s.r (o.read (with_all o.whole a s.d x y) z)) (all_same o.less x y x' y' same_x same_y a s.f)
      ∙ ap (λ z. o.g s.r ((paired o).read z)) (sym (found_both o x y x' y' a s.d s.f))
  results_are a Inside s = refl

  pub parts_move : (a : ℕ) (f : Phase) (s : EachOf V) → parts_of (after_phase o a f s x y) ≡ moved (paired o) a f (parts_of s) (x, x') (y, y')
  parts_move a f s =
      state_same
      (pair_same refl (range_same o.less x y x' y' same_x same_y a f s.e s.f) ∙ sym (range_both o x y x' y' a f s.c s.e s.d s.f))
      (pair_same refl (cells_same o.less x y x' y' same_x same_y a f s.f) ∙ sym (cells_both o x y x' y' a f s.d s.f))
      (results_are a f s)

-- what is open of both
pub opened_both : {V : Type 0} (o : Operators V) (k : Kind) (c e d g : V) →
    opened_by (paired o).phi k (c, e) (d, g) ≡ (opened_by o.whole.phi k c d, opened_by o.less.phi k e g)
opened_both o Idle c e d g = refl
opened_both o Pending c e d g = refl
opened_both o Held c e d g = refl

-- What is seen of what a move makes of a hull depends on what is seen of the hull.
use Rattle.std.proofs.Common.{◌≡◌, ◌⊎◌, inl, inr, ℕ, ◌<◌, Bool, true, false, cond, ℤ, refl, sym, ap, ◌∙◌}
use Rattle.std.proofs.lemmas.Bool.{and_parts}
use Rattle.ts_base.specs.declared.letter.Letter.{Letter}
use Rattle.ts_base.specs.Spans.{has_some}
use Rattle.ts_automaton.specs.declared.expr.Atom.TheVariants.{C, E, D, F, R, This, Next, Zero, Unit as UnitAtom, NegInf as LowAtom, PosInf as HighAtom}
use Rattle.ts_automaton.specs.declared.expr.Operator.TheVariants.{Fold, Sub}
use Rattle.ts_automaton.specs.declared.regs.Hull.{Hull}
use Rattle.ts_automaton.specs.Body.{Move}
use Rattle.ts_automaton.specs.Formula.{Formula, Leaf, Join, is_narrow, is_zero}
use Rattle.ts_automaton.specs.Registers.{ext_op, rests, spans_of}
use Rattle.ts_automaton.proofs.Five.{registers_parts, some_registers}
use Rattle.ts_automaton.proofs.KindLaws.{op_mono}
use Rattle.ts_hull.specs.Hulls.{none, hull_of_both}
use Rattle.ts_hull.specs.Sealed.{after_move, hull_with, some_hull, span_in}
use Rattle.ts_hull.specs.Sweeps.{compares, total}
use Rattle.ts_hull.proofs.HullLaws.{same_hull}
use Rattle.ts_hull.proofs.SplitLaws.{after_is}
use Rattle.ts_hull.proofs.Sums.{total_same}
use Rattle.ts_sweep.specs.Columns.{gives}
use Rattle.ts_sweep.specs.Fronts.{IsFor, IsMoveFor}
use Rattle.ts_sweep.specs.FrontLaws.{never_added}
use Rattle.ts_sweep.specs.Sides.{Sides, BothEnds, UpperEnds, LowerEnds, seen, seen_hull}
use Rattle.ts_sweep.proofs.SeenLaws.{all_seen, none_seen, seen_cond, seen_op, seen_total, seen_twice, some_seen}
use Rattle.ts_sweep.proofs.Widths.{both_zero, zero_only}

-- an expression

narrow_seen : (s : Sides) (f : Formula) (h : Hull) (x y : ℤ) → is_narrow f ≡ true → seen s (span_in f (seen_hull s h) x y) ≡ seen s (span_in f h x y)
narrow_seen s (Leaf C) h x y n = seen_twice s h.c
narrow_seen s (Leaf E) h x y n = cc
narrow_seen s (Leaf D) h x y n = seen_twice s h.d
narrow_seen s (Leaf F) h x y n = cc
narrow_seen s (Leaf R) h x y n = seen_twice s h.r
narrow_seen s (Leaf This) h x y n = refl
narrow_seen s (Leaf Next) h x y n = refl
narrow_seen s (Leaf Zero) h x y n = refl
narrow_seen s (Leaf UnitAtom) h x y n = refl
narrow_seen s (Leaf LowAtom) h x y n = refl
narrow_seen s (Leaf HighAtom) h x y n = refl
narrow_seen s (Join (Fold o) f g) h x y n =
    let p = and_parts (is_narrow f) (is_narrow g) n in
    seen_op s (ext_op o) (op_mono o) _ _ _ _ (narrow_seen s f h x y p.0) (narrow_seen s g h x y p.1)
narrow_seen s (Join Sub f g) h x y n = cc

pub expression_seen : (s : Sides) (f : Formula) (h : Hull) (x y : ℤ) → IsFor s f → seen s (span_in f (seen_hull s h) x y) ≡ seen s (span_in f h x y)
expression_seen BothEnds f h x y suits = ap (λ k. span_in f k x y) (all_seen BothEnds h refl)
expression_seen UpperEnds f h x y suits = narrow_seen UpperEnds f h x y suits
expression_seen LowerEnds f h x y suits = narrow_seen LowerEnds f h x y suits

-- E and F of a narrow hull are 0
beside_seen : (s : Sides) (wide : Bool) (f : Formula) (h : Hull) (x y : ℤ) → (s ≡ BothEnds) ⊎ (wide ≡ false) → (wide ≡ false → is_zero f ≡ true) →
    span_in f (seen_hull s h) x y ≡ span_in f h x y
beside_seen s wide f h x y (inl both) zero = ap (λ k. span_in f k x y) (all_seen s h both)
beside_seen s wide f h x y (inr narrow) zero =
    let is = zero_only f (zero narrow) in ap (λ g. span_in g (seen_hull s h) x y) (sym is) ∙ ap (λ g. span_in g h x y) is

-- registers lie in what is seen where they lie in the hull

seen_registers : (s : Sides) (h : Hull) → some_hull h ≡ true → some_hull (seen_hull s h) ≡ true
seen_registers s h e =
    let p = registers_parts (spans_of h) e in
    some_registers (spans_of (seen_hull s h)) (some_seen s h.c ∙ p.0, p.1, some_seen s h.d ∙ p.2, p.3, some_seen s h.r ∙ p.4)

all_registers : (s : Sides) (h : Hull) → some_hull (seen_hull s h) ≡ true → some_hull h ≡ true
all_registers s h e =
    let p = registers_parts (spans_of (seen_hull s h)) e in
    some_registers (spans_of h) (sym (some_seen s h.c) ∙ p.0, p.1, sym (some_seen s h.d) ∙ p.2, p.3, sym (some_seen s h.r) ∙ p.4)

same_registers : (s : Sides) (h : Hull) (b : Bool) → some_hull h ≡ b → some_hull (seen_hull s h) ≡ b
same_registers s h true e = seen_registers s h e
same_registers s h false e = go (some_hull (seen_hull s h)) refl
  where
    go : (b : Bool) → some_hull (seen_hull s h) ≡ b → some_hull (seen_hull s h) ≡ false
    go true f = never_added (sym (all_registers s h f) ∙ e)
    go false f = f

-- a move

pub move_seen : (s : Sides) (wide : Bool) (m : Move) (h : Hull) (x y : ℤ) → (s ≡ BothEnds) ⊎ (wide ≡ false) → IsMoveFor s m →
    rests is_zero wide m.to ≡ true → seen_hull s (after_move m (seen_hull s h) x y) ≡ seen_hull s (after_move m h x y)
move_seen s wide m h x y alone suits width = go (some_hull h) refl
  where
    zero : wide ≡ false → (is_zero m.to.e ≡ true) × (is_zero m.to.f ≡ true)
    zero = both_zero wide (is_zero m.to.e) (is_zero m.to.f) width

    go : (b : Bool) → some_hull h ≡ b → seen_hull s (after_move m (seen_hull s h) x y) ≡ seen_hull s (after_move m h x y)
    go true e =
        ap (seen_hull s) (after_is m (seen_hull s h) x y true (same_registers s h true e))
        ∙ same_hull (expression_seen s m.to.c h x y suits.0) (beside_seen s wide m.to.e h x y alone (λ w. (zero w).0))
        (expression_seen s m.to.d h x y suits.1.0) (beside_seen s wide m.to.f h x y alone (λ w. (zero w).1))
        (expression_seen s m.to.r h x y suits.1.1.0)
        ∙ sym (ap (seen_hull s) (after_is m h x y true e))
    go false e =
        ap (seen_hull s) (after_is m (seen_hull s h) x y false (same_registers s h false e))
        ∙ sym (ap (seen_hull s) (after_is m h x y false e))

-- what is seen of what a move gives from all values
pub gives_seen : (s : Sides) (wide : Bool) (m : Move) (l : Letter) (twin : Bool) (n : ℕ) (v : ℕ → ℤ) (h : ℕ → Hull) (w : ℤ) →
    (s ≡ BothEnds) ⊎ (wide ≡ false) → IsMoveFor s m → rests is_zero wide m.to ≡ true →
    seen_hull s (gives m l twin n v (λ i. seen_hull s (h i)) w) ≡ seen_hull s (gives m l twin n v h w)
unfolding gives
gives_seen s wide m l twin n v h w alone suits width =
    let seen_one : ℕ → Hull = λ i. cond (compares l twin (v i) w) (after_move m (seen_hull s (h i)) (v i) w) none in
    let one : ℕ → Hull = λ i. cond (compares l twin (v i) w) (after_move m (h i) (v i) w) none in
    seen_total s n seen_one
    ∙ total_same n (λ i. seen_hull s (seen_one i)) (λ i. seen_hull s (one i))
    (λ i lt. seen_cond s (compares l twin (v i) w) (after_move m (seen_hull s (h i)) (v i) w)
    ∙ ap (λ z. cond (compares l twin (v i) w) z none) (move_seen s wide m (h i) (v i) w alone suits width)
    ∙ sym (seen_cond s (compares l twin (v i) w) (after_move m (h i) (v i) w)))
    ∙ sym (seen_total s n one)

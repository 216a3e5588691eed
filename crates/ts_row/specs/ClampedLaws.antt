-- The laws of clamped differences.
-- Lemmas, no definitions: they are here since ghost members of impls cite them.
use Rattle.std.proofs.Common.{◌≡◌, ℕ, ◌+◌, ◌≤◌, sym, subst}
use Rattle.ts_base.specs.declared.op.Op.TheVariants.{Add}
use Rattle.ts_base.specs.declared.span.Span.{Span}
use Rattle.ts_automaton.specs.declared.expr.Operator.TheVariants.{Sub}
use Rattle.ts_hull.specs.Sealed.{sealed_op}
use Rattle.ts_sweep.specs.declared.packed.Ends.{Ends}
use Rattle.ts_sweep.specs.Operators.{crossed}
use Rattle.ts_sweep.specs.OperatorLaws.{crossed_packs, less_is_sum, negated_span}
use Rattle.ts_sweep.specs.Packed.{AreWithin}
use Rattle.ts_sweep.specs.Sides.{Sides, BothEnds, UpperEnds, LowerEnds, IsEndsOf}
use Rattle.ts_sweep.specs.TreeLaws.{any_packs, any_within}
use Rattle.ts_sweep.specs.Trees.{folded_by, joined_by}

pub clamped_less_packs : (s : Sides) (a b : Ends) (t u : Span) → s ≡ BothEnds → IsEndsOf s a t → IsEndsOf s b u →
    IsEndsOf s (joined_by Sub a b) (sealed_op Sub t u)
clamped_less_packs BothEnds a b t u both p q =
    subst (IsEndsOf BothEnds (folded_by Add a (crossed b))) (sym (less_is_sum t u p.some q.some))
    (any_packs Add BothEnds a (crossed b) t (negated_span u) p (crossed_packs b u q))
clamped_less_packs UpperEnds a b t u both p q = cc
clamped_less_packs LowerEnds a b t u both p q = cc

pub clamped_less_within : (i j : ℕ) (a b : Ends) → i + j ≤ 10 → AreWithin i a → AreWithin j b →
    AreWithin (i + j) (joined_by Sub a b)
clamped_less_within i j a b few p q = any_within Add i j a (crossed b) few p (q.1, q.0)

-- What no number of a span does is decided by its ends.
use Rattle.std.proofs.Common.{◌≡◌, ◌&&◌, ◌↔◌, Bool, true, false, not, refl, sym, ◌∙◌, ap, arith}
use Rattle.std.proofs.lemmas.Bool.{and_from, and_parts, not_from_false, not_from_true, not-false, not-true}
use Rattle.std.specs.Prelude.{◌||◌, IsTrue}
use Rattle.ts_base.specs.declared.ext.Ext.{Ext}
use Rattle.ts_base.specs.declared.goal.Goal.{Goal}
use Rattle.ts_base.specs.declared.goal.Goal.TheVariants.{Maximise, Minimise}
use Rattle.ts_base.specs.declared.span.Span.{Span}
use Rattle.ts_base.specs.Numbers.{ext_le}
use Rattle.ts_base.specs.Spans.{Holds, has_some}
use Rattle.ts_base.proofs.Order.{le_refl, le_trans}
use Rattle.ts_base.proofs.SpanLaws.{none_held}
use Rattle.ts_model.specs.declared.model.Op.{Op}
use Rattle.ts_model.specs.declared.model.Op.TheVariants.{Equal, Unequal, AtMost, AtLeast, Below, Above}
use Rattle.ts_model.specs.Compares.{compares}
use Rattle.ts_filter.specs.declared.bar.Bar.{Bar}
use Rattle.ts_filter.specs.declared.bar.Bar.TheVariants.{Better, AsGood}
use Rattle.ts_filter.specs.Ends.{ends_refute, refutes, best_end, cuts}
use Rattle.ts_filter.specs.Excluded.{Refutes, counts, Cuts}

-- tests

not_not : (x : Bool) → x ≡ true → not (not x) ≡ true
not_not x e = ap (λ b. not (not b)) e

from_not_not : (x : Bool) → not (not x) ≡ true → x ≡ true
from_not_not x e = not-false x (not-true (not x) e)

-- what implies a false test is false
pub false_by : (x y : Bool) → (x ≡ true → y ≡ true) → y ≡ false → x ≡ false
false_by true y f e = sym (f refl) ∙ e
false_by false y f e = refl

not_both : (x y u v : Bool) → (not u || not v) ≡ true → (x ≡ true → u ≡ true) → (y ≡ true → v ≡ true) → (x && y) ≡ false
not_both true true true true h f g = grind arith
not_both true true false v h f g = grind (arith, f refl)
not_both true true true false h f g = grind (arith, g refl)
not_both true false u v h f g = refl
not_both false y u v h f g = refl

one_of : (u v : Bool) → (u ≡ true → v ≡ true → ⊥) → (not u || not v) ≡ true
one_of true true f = absurd (f refl refl)
one_of true false f = refl
one_of false v f = refl

-- comparisons

-- none of the numbers between the ends meets the comparison
ends_exclude : (op : Op) (b lo hi v : Ext) → ends_refute op b lo hi ≡ true → IsTrue (ext_le lo v) → IsTrue (ext_le v hi) → compares op b v ≡ false
ends_exclude Equal b lo hi v h p q =
    not_both (ext_le v b) (ext_le b v) (ext_le lo b) (ext_le b hi) h (λ e. le_trans lo v b p e) (λ e. le_trans b v hi e q)
ends_exclude Unequal b lo hi v h p q =
    let e = and_parts (ext_le b lo) (ext_le hi b) h in
    not_from_true (ext_le v b && ext_le b v) (and_from (ext_le v b) (ext_le b v) (le_trans v hi b q e.1) (le_trans b lo v e.0 p))
ends_exclude AtMost b lo hi v h p q = false_by (ext_le v b) (ext_le lo b) (λ e. le_trans lo v b p e) (not-true (ext_le lo b) h)
ends_exclude AtLeast b lo hi v h p q = false_by (ext_le b v) (ext_le b hi) (λ e. le_trans b v hi e q) (not-true (ext_le b hi) h)
ends_exclude Below b lo hi v h p q = not_from_true (ext_le b v) (le_trans b lo v h p)
ends_exclude Above b lo hi v h p q = not_from_true (ext_le v b) (le_trans v hi b q h)

-- where neither end nor the bound between them meets the comparison, the ends decide it
ends_tell : (op : Op) (b : Ext) (s : Span) → IsTrue (ext_le s.lo s.hi) → Refutes op b s → ends_refute op b s.lo s.hi ≡ true
ends_tell Equal b s some f = one_of (ext_le s.lo b) (ext_le b s.hi) (λ p q. clash (le_refl b) (f b (p, q)))
  where
    clash : ext_le b b ≡ true → (ext_le b b && ext_le b b) ≡ false → ⊥
    clash e g = grind (arith, and_from (ext_le b b) (ext_le b b) e e)
ends_tell Unequal b s some f =
    let low = not-false (ext_le s.lo b && ext_le b s.lo) (f s.lo (le_refl s.lo, some)) in
    let high = not-false (ext_le s.hi b && ext_le b s.hi) (f s.hi (some, le_refl s.hi)) in
    and_from (ext_le b s.lo) (ext_le s.hi b) (and_parts (ext_le s.lo b) (ext_le b s.lo) low).1 (and_parts (ext_le s.hi b) (ext_le b s.hi) high).0
ends_tell AtMost b s some f = not_from_false (ext_le s.lo b) (f s.lo (le_refl s.lo, some))
ends_tell AtLeast b s some f = not_from_false (ext_le b s.hi) (f s.hi (some, le_refl s.hi))
ends_tell Below b s some f = not-false (ext_le b s.lo) (f s.lo (le_refl s.lo, some))
ends_tell Above b s some f = not-false (ext_le s.hi b) (f s.hi (some, le_refl s.hi))

pub refutes_exact : (op : Op) (b : Ext) (s : Span) → IsTrue (refutes op b s) ↔ Refutes op b s
refutes_exact op b s = by_some (has_some s) refl
  where
    by_some : (t : Bool) → has_some s ≡ t → ((not t || ends_refute op b s.lo s.hi) ≡ true) ↔ Refutes op b s
    by_some true e = (λ h v i. ends_exclude op b s.lo s.hi v h i.0 i.1, λ f. ends_tell op b s e f)
    by_some false e = (λ h v i. absurd ((none_held s).0 e v i), λ f. refl)

-- bars

-- where a number of the span counts, its better end does
best_counts : (goal : Goal) (bar : Bar) (s : Span) (v : Ext) → Holds s v → counts goal bar v ≡ true → counts goal bar (best_end goal s) ≡ true
best_counts Maximise (Better w) s v i e =
    not_from_false (ext_le s.hi w) (false_by (ext_le s.hi w) (ext_le v w) (λ h. le_trans v s.hi w i.1 h) (not-true (ext_le v w) e))
best_counts Maximise (AsGood w) s v i e = not_not (ext_le w s.hi) (le_trans w v s.hi (from_not_not (ext_le w v) e) i.1)
best_counts Minimise (Better w) s v i e =
    not_from_false (ext_le w s.lo) (false_by (ext_le w s.lo) (ext_le w v) (λ h. le_trans w s.lo v h i.0) (not-true (ext_le w v) e))
best_counts Minimise (AsGood w) s v i e = not_not (ext_le s.lo w) (le_trans s.lo v w i.0 (from_not_not (ext_le v w) e))

best_held : (goal : Goal) (s : Span) → IsTrue (ext_le s.lo s.hi) → Holds s (best_end goal s)
best_held Maximise s some = (some, le_refl s.hi)
best_held Minimise s some = (le_refl s.lo, some)

end_excludes : (goal : Goal) (bar : Bar) (s : Span) (v : Ext) → not (counts goal bar (best_end goal s)) ≡ true → Holds s v → counts goal bar v ≡ false
end_excludes goal bar s v h i =
    false_by (counts goal bar v) (counts goal bar (best_end goal s)) (best_counts goal bar s v i) (not-true (counts goal bar (best_end goal s)) h)

end_tells : (goal : Goal) (bar : Bar) (s : Span) → IsTrue (ext_le s.lo s.hi) → Cuts goal bar s → not (counts goal bar (best_end goal s)) ≡ true
end_tells goal bar s some f = not_from_false (counts goal bar (best_end goal s)) (f (best_end goal s) (best_held goal s some))

pub cuts_exact : (goal : Goal) (bar : Bar) (s : Span) → IsTrue (cuts goal bar s) ↔ Cuts goal bar s
cuts_exact goal bar s = by_some (has_some s) refl
  where
    by_some : (t : Bool) → has_some s ≡ t → ((not t || not (counts goal bar (best_end goal s))) ≡ true) ↔ Cuts goal bar s
    by_some true e = (λ h v i. end_excludes goal bar s v h i, λ f. end_tells goal bar s e f)
    by_some false e = (λ h v i. absurd ((none_held s).0 e v i), λ f. refl)

-- what a span that isn't none refutes is decided by its ends
pub some_refutes : (op : Op) (b : Ext) (s : Span) (none told : Bool) → none ≡ not (has_some s) → none ≡ false → told ≡ ends_refute op b s.lo s.hi →
    IsTrue told ↔ Refutes op b s
some_refutes op b s none told e f g =
    let some = not-false (has_some s) (sym e ∙ f) in
    (λ h v i. ends_exclude op b s.lo s.hi v (sym g ∙ h) i.0 i.1, λ h. g ∙ ends_tell op b s some h)

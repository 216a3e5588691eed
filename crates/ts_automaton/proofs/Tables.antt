-- Laws of kinds by computation over all of them.
use Rattle.std.proofs.Common.{◌≡◌, Bool, true, not, ◌&&◌, ◌||◌, refl, subst}
use Rattle.std.specs.Prelude.{IsTrue, is_some, Option, None, Some}
use Rattle.std.proofs.lemmas.Bool.{and_parts}
use Rattle.ts_automaton.specs.declared.kind.RegKind.{RegKind}
use Rattle.ts_automaton.specs.declared.kind.RegKind.TheVariants.{Int, Low, High}
use Rattle.ts_base.specs.declared.op.Op.TheVariants.{Add, Max, Min}
use Rattle.ts_automaton.specs.declared.expr.Operator.{Operator}
use Rattle.ts_automaton.specs.declared.expr.Operator.TheVariants.{Fold, Sub}
use Rattle.ts_automaton.specs.Kinds.{is_within, op_kind}

abbrev pub on_kinds : (RegKind → Bool) → Bool
on_kinds p = p Int && p Low && p High

at_kind : (p : RegKind → Bool) → on_kinds p ≡ true → (k : RegKind) → p k ≡ true
at_kind p h Int = (and_parts (p Int) (p Low) (and_parts (p Int && p Low) (p High) h).0).0
at_kind p h Low = (and_parts (p Int) (p Low) (and_parts (p Int && p Low) (p High) h).0).1
at_kind p h High = (and_parts (p Int && p Low) (p High) h).1

abbrev pub on_ops : (Operator → Bool) → Bool
on_ops p = p (Fold Add) && p (Fold Max) && p (Fold Min) && p Sub

at_op : (p : Operator → Bool) → on_ops p ≡ true → (o : Operator) → p o ≡ true
at_op p h o =
    let all = and_parts (p (Fold Add) && p (Fold Max) && p (Fold Min)) (p Sub) h in
    let folds = and_parts (p (Fold Add) && p (Fold Max)) (p (Fold Min)) all.0 in
    let two = and_parts (p (Fold Add)) (p (Fold Max)) folds.0 in
    go o two.0 two.1 folds.1 all.1
  where
    go : (o : Operator) → p (Fold Add) ≡ true → p (Fold Max) ≡ true → p (Fold Min) ≡ true → p Sub ≡ true → p o ≡ true
    go (Fold Add) a b c d = a
    go (Fold Max) a b c d = b
    go (Fold Min) a b c d = c
    go Sub a b c d = d

abbrev pub implies : Bool → Bool → Bool
implies a b = not a || b

pub implied : (a b : Bool) → implies a b ≡ true → a ≡ true → b ≡ true
implied a b h e = subst (λ v. implies v b ≡ true) e h

pub within_refl : (k : RegKind) → IsTrue (is_within k k)
within_refl k = at_kind (λ k. is_within k k) refl k

abbrev is_transitive : RegKind → RegKind → RegKind → Bool
is_transitive i j k = implies (is_within i j) (implies (is_within j k) (is_within i k))

pub within_trans : (i j k : RegKind) → IsTrue (is_within i j) → IsTrue (is_within j k) → IsTrue (is_within i k)
within_trans i j k p q =
    let e = at_kind (λ i. on_kinds (λ j. on_kinds (λ k. is_transitive i j k))) refl i in
    let f = at_kind (λ j. on_kinds (λ k. is_transitive i j k)) e j in
    let g = at_kind (λ k. is_transitive i j k) f k in
    implied (is_within j k) (is_within i k) (implied (is_within i j) (implies (is_within j k) (is_within i k)) g p) q

-- the kind of what an operator makes of values of two kinds, whether it takes them or not
abbrev pub made_kind : Operator → RegKind → RegKind → RegKind
made_kind (Fold Add) Low k = Low
made_kind (Fold Add) Int k = k
made_kind (Fold Add) High Low = Low
made_kind (Fold Add) High Int = High
made_kind (Fold Add) High High = High
made_kind (Fold Max) Low k = k
made_kind (Fold Max) Int Low = Int
made_kind (Fold Max) Int Int = Int
made_kind (Fold Max) Int High = High
made_kind (Fold Max) High k = High
made_kind (Fold Min) Low k = Low
made_kind (Fold Min) Int Low = Low
made_kind (Fold Min) Int Int = Int
made_kind (Fold Min) Int High = Int
made_kind (Fold Min) High k = k
made_kind Sub Low k = Low
made_kind Sub Int Low = High
made_kind Sub Int Int = Int
made_kind Sub Int High = Low
made_kind Sub High Low = High
made_kind Sub High Int = High
made_kind Sub High High = Low

abbrev pub on_all : (Operator → RegKind → RegKind → RegKind → RegKind → Bool) → Bool
on_all t = on_ops (λ o. on_kinds (λ j. on_kinds (λ k. on_kinds (λ i. on_kinds (λ l. t o j k i l)))))

pub at_each : (t : Operator → RegKind → RegKind → RegKind → RegKind → Bool) → on_all t ≡ true → (o : Operator) (j k i l : RegKind) → t o j k i l ≡ true
at_each t h o j k i l =
    let a = at_op (λ o. on_kinds (λ j. on_kinds (λ k. on_kinds (λ i. on_kinds (λ l. t o j k i l))))) h o in
    let b = at_kind (λ j. on_kinds (λ k. on_kinds (λ i. on_kinds (λ l. t o j k i l)))) a j in
    let c = at_kind (λ k. on_kinds (λ i. on_kinds (λ l. t o j k i l))) b k in
    let d = at_kind (λ i. on_kinds (λ l. t o j k i l)) c i in
    at_kind (λ l. t o j k i l) d l

-- two kinds, and two within them
abbrev if_within : RegKind → RegKind → RegKind → RegKind → Bool → Bool
if_within j k i l b = implies (is_within i j) (implies (is_within l k) b)

since_within : (j k i l : RegKind) (b : Bool) → if_within j k i l b ≡ true → IsTrue (is_within i j) → IsTrue (is_within l k) → b ≡ true
since_within j k i l b h p q = implied (is_within l k) b (implied (is_within i j) (implies (is_within l k) b) h p) q

abbrev is_narrower : Operator → RegKind → RegKind → RegKind → RegKind → Bool
is_narrower o j k i l = if_within j k i l (implies (is_some (op_kind o j k)) (is_some (op_kind o i l)))

-- an operator that takes two kinds takes narrower ones
pub narrower : (o : Operator) (j k i l : RegKind) → IsTrue (is_some (op_kind o j k)) → IsTrue (is_within i j) → IsTrue (is_within l k) →
    IsTrue (is_some (op_kind o i l))
narrower o j k i l h p q =
    implied (is_some (op_kind o j k)) (is_some (op_kind o i l))
    (since_within j k i l (implies (is_some (op_kind o j k)) (is_some (op_kind o i l))) (at_each is_narrower refl o j k i l) p q) h

-- where there is a kind, this one is within it
abbrev pub within_any : RegKind → Option RegKind → Bool
within_any i None = true
within_any i (Some k) = is_within i k

abbrev is_made_within : Operator → RegKind → RegKind → RegKind → RegKind → Bool
is_made_within o j k i l = if_within j k i l (within_any (made_kind o i l) (op_kind o j k))

-- what an operator makes of narrower kinds than those that it takes is within its kind
pub made_within : (o : Operator) (j k i l : RegKind) → IsTrue (is_within i j) → IsTrue (is_within l k) → IsTrue (within_any (made_kind o i l) (op_kind o j k))
made_within o j k i l p q = since_within j k i l (within_any (made_kind o i l) (op_kind o j k)) (at_each is_made_within refl o j k i l) p q

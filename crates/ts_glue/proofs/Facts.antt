-- What the rules of a pair say, as facts.
use Rattle.std.proofs.Common.{◌≡◌, ℕ, Bool, true, false, not, ◌&&◌, ◌||◌, List, [], ◌∷◌, ℤ, pos, refl, sym, ◌∙◌, ap, subst, arith}
use Rattle.std.specs.Prelude.{IsTrue, is_some, nat_eq}
use Rattle.std.specs.List.{list_all, list_any}
use Rattle.std.specs.Ordering.{int_eq}
use Rattle.std.proofs.lemmas.Bool.{and_parts, eqb-true, not-true}
use Rattle.std.proofs.lemmas.Int.{ints}
use Rattle.ts_base.specs.declared.ext.Ext.{Ext}
use Rattle.ts_base.specs.declared.ext.Ext.TheVariants.{NegInf, Int, PosInf}
use Rattle.ts_base.specs.declared.range.Join.{Join}
use Rattle.ts_automaton.specs.declared.expr.Atom.TheVariants.{C, E, D, F, R, This, Next, Zero, Unit as UnitAtom, NegInf as LowAtom, PosInf as HighAtom}
use Rattle.ts_base.specs.declared.op.Op.{Op}
use Rattle.ts_automaton.specs.declared.expr.Operator.TheVariants.{Fold, Sub}
use Rattle.ts_base.specs.declared.op.Op.TheVariants.{Add, Max, Min}
use Rattle.ts_automaton.specs.Formula.{Formula, Leaf, Join as Joined, is_same_op}
use Rattle.ts_automaton.proofs.OperatorLaws.{same_op_is}
use Rattle.ts_glue.specs.Pairs.{Pair}
use Rattle.ts_automaton.specs.Body.{Body}
use Rattle.ts_automaton.specs.Typing.{is_number_zero}
use Rattle.ts_glue.specs.Glue.{held_of, is_join, is_wide, result_of, result_op}
use Rattle.ts_glue.specs.Rules.{has_trim, has_width, has_widths, is_held, gives_result, has_results, is_neutral, starts_neutral, has_join_states, starts_apart, glue_kind, has_typed_joins, keeps_rules}

pub width_is : (wide : Bool) (b : Body) → has_width wide b ≡ true → b.wide ≡ wide
width_is true b h = h
width_is false b h = not-true b.wide h

-- C, of a wide automaton `sub C E`
held_is : (wide : Bool) (f : Formula) → is_held wide f ≡ true → f ≡ held_of wide
held_is false (Leaf C) h = refl
held_is false (Leaf E) h = cc
held_is false (Leaf D) h = cc
held_is false (Leaf F) h = cc
held_is false (Leaf R) h = cc
held_is false (Leaf This) h = cc
held_is false (Leaf Next) h = cc
held_is false (Leaf Zero) h = cc
held_is false (Leaf UnitAtom) h = cc
held_is false (Leaf LowAtom) h = cc
held_is false (Leaf HighAtom) h = cc
held_is false (Joined o f g) h = cc
held_is true (Leaf a) h = cc
held_is true (Joined (Fold o) f g) h = cc
held_is true (Joined Sub (Leaf C) (Leaf C)) h = cc
held_is true (Joined Sub (Leaf C) (Leaf E)) h = refl
held_is true (Joined Sub (Leaf C) (Leaf D)) h = cc
held_is true (Joined Sub (Leaf C) (Leaf F)) h = cc
held_is true (Joined Sub (Leaf C) (Leaf R)) h = cc
held_is true (Joined Sub (Leaf C) (Leaf This)) h = cc
held_is true (Joined Sub (Leaf C) (Leaf Next)) h = cc
held_is true (Joined Sub (Leaf C) (Leaf Zero)) h = cc
held_is true (Joined Sub (Leaf C) (Leaf UnitAtom)) h = cc
held_is true (Joined Sub (Leaf C) (Leaf LowAtom)) h = cc
held_is true (Joined Sub (Leaf C) (Leaf HighAtom)) h = cc
held_is true (Joined Sub (Leaf C) (Joined o f g)) h = cc
held_is true (Joined Sub (Leaf E) g) h = cc
held_is true (Joined Sub (Leaf D) g) h = cc
held_is true (Joined Sub (Leaf F) g) h = cc
held_is true (Joined Sub (Leaf R) g) h = cc
held_is true (Joined Sub (Leaf This) g) h = cc
held_is true (Joined Sub (Leaf Next) g) h = cc
held_is true (Joined Sub (Leaf Zero) g) h = cc
held_is true (Joined Sub (Leaf UnitAtom) g) h = cc
held_is true (Joined Sub (Leaf LowAtom) g) h = cc
held_is true (Joined Sub (Leaf HighAtom) g) h = cc
held_is true (Joined Sub (Joined o e f) g) h = cc

pub result_is : (wide : Bool) (o : Op) (f : Formula) → gives_result wide o f ≡ true → f ≡ result_of wide o
result_is wide o (Leaf a) h = cc
result_is wide o (Joined Sub f g) h = cc
result_is wide o (Joined (Fold p) (Leaf C) g) h = cc
result_is wide o (Joined (Fold p) (Leaf E) g) h = cc
result_is wide o (Joined (Fold p) (Leaf D) g) h = cc
result_is wide o (Joined (Fold p) (Leaf F) g) h = cc
result_is wide o (Joined (Fold p) (Leaf R) g) h =
    let p_is = and_parts (is_same_op o p) (is_held wide g) h in
    ap (λ z. Joined (Fold z) (Leaf R) g) (sym (same_op_is o p p_is.0)) ∙ ap (Joined (Fold o) (Leaf R)) (held_is wide g p_is.1)
result_is wide o (Joined (Fold p) (Leaf This) g) h = cc
result_is wide o (Joined (Fold p) (Leaf Next) g) h = cc
result_is wide o (Joined (Fold p) (Leaf Zero) g) h = cc
result_is wide o (Joined (Fold p) (Leaf UnitAtom) g) h = cc
result_is wide o (Joined (Fold p) (Leaf LowAtom) g) h = cc
result_is wide o (Joined (Fold p) (Leaf HighAtom) g) h = cc
result_is wide o (Joined (Fold p) (Joined q f g) k) h = cc

-- what the operator leaves as it is
abbrev pub neutral_of : Op → Ext
neutral_of Add = Int (pos 0)
neutral_of Max = NegInf
neutral_of Min = PosInf

zero_is : (x : ℤ) → int_eq x (pos 0) ≡ true → Int x ≡ Int (pos 0)
zero_is x h = ap Int (grind (arith, ints))

pub neutral_is : (o : Op) (e : Ext) → is_neutral o e ≡ true → e ≡ neutral_of o
neutral_is Add NegInf h = cc
neutral_is Add (Int x) h = zero_is x h
neutral_is Add PosInf h = cc
neutral_is Max NegInf h = refl
neutral_is Max (Int x) h = cc
neutral_is Max PosInf h = cc
neutral_is Min NegInf h = cc
neutral_is Min (Int x) h = cc
neutral_is Min PosInf h = refl

number_zero_is : (e : Ext) → is_number_zero e ≡ true → e ≡ Int (pos 0)
number_zero_is NegInf h = cc
number_zero_is (Int x) h = zero_is x h
number_zero_is PosInf h = cc

-- a test that is asked of wide automata alone holds of these
of_wide : (wide b : Bool) → (not wide || b) ≡ true → wide ≡ true → b ≡ true
of_wide true b h e = h
of_wide false b h e = cc

-- a test of two states that all pairs of a list pass is passed by those that stand in it
pub join_passes : (test : ℕ → ℕ → Bool) (js : List Join) (q r : ℕ) → list_any (λ j. nat_eq j.forward q && nat_eq j.reverse r) js ≡ true →
    list_all (λ j. test j.forward j.reverse) js ≡ true → test q r ≡ true
join_passes test [] q r e h = cc
join_passes test (j ∷ js) q r e h =
    let p = and_parts (test j.forward j.reverse) (list_all (λ i. test i.forward i.reverse) js) h in
    go (nat_eq j.forward q && nat_eq j.reverse r) refl e p.0 (λ i. join_passes test js q r i p.1)
  where
    go : (v : Bool) → (nat_eq j.forward q && nat_eq j.reverse r) ≡ v → v || list_any (λ i. nat_eq i.forward q && nat_eq i.reverse r) js ≡ true →
        test j.forward j.reverse ≡ true → (list_any (λ i. nat_eq i.forward q && nat_eq i.reverse r) js ≡ true → test q r ≡ true) → test q r ≡ true
    go true i e h rest =
        let p = and_parts (nat_eq j.forward q) (nat_eq j.reverse r) i in
        subst (λ z. test z r ≡ true) (eqb-true j.forward q p.0) (subst (λ z. test j.forward z ≡ true) (eqb-true j.reverse r p.1) h)
    go false i e h rest = rest e

pub record Facts (p : Pair) : Type 0 where
  pub trim : IsTrue (has_trim p)
  pub forward_width : p.forward.wide ≡ is_wide p
  pub reverse_width : p.reverse.wide ≡ is_wide p
  pub forward_finish : p.forward.finish ≡ result_of (is_wide p) (result_op p)
  pub reverse_finish : p.reverse.finish ≡ result_of (is_wide p) (result_op p)
  pub start_c : p.reverse.start.c ≡ neutral_of (result_op p)
  pub start_r : p.reverse.start.r ≡ neutral_of (result_op p)
  pub start_e : is_wide p ≡ true → p.reverse.start.e ≡ Int (pos 0)
  pub join_states : IsTrue (has_join_states p)
  pub starts : IsTrue (starts_apart p)
  pub typed : IsTrue (has_typed_joins p)

pub facts_of : (p : Pair) → IsTrue (keeps_rules p) → Facts p
facts_of p h =
    let o = result_op p in
    let start = p.reverse.start in
    let a =
    and_parts (has_trim p && has_widths p && has_results p && starts_neutral p && has_join_states p && starts_apart p) (has_typed_joins p) h in
    let b = and_parts (has_trim p && has_widths p && has_results p && starts_neutral p && has_join_states p) (starts_apart p) a.0 in
    let c = and_parts (has_trim p && has_widths p && has_results p && starts_neutral p) (has_join_states p) b.0 in
    let d = and_parts (has_trim p && has_widths p && has_results p) (starts_neutral p) c.0 in
    let e = and_parts (has_trim p && has_widths p) (has_results p) d.0 in
    let f = and_parts (has_trim p) (has_widths p) e.0 in
    let widths = and_parts (has_width (is_wide p) p.forward) (has_width (is_wide p) p.reverse) f.1 in
    let results = and_parts (gives_result (is_wide p) o p.forward.finish) (gives_result (is_wide p) o p.reverse.finish) e.1 in
    let starts = and_parts (is_neutral o start.c && is_neutral o start.r) (not (is_wide p) || is_number_zero start.e) d.1 in
    let neutral = and_parts (is_neutral o start.c) (is_neutral o start.r) starts.0 in
    record {
      trim = f.0;
      forward_width = width_is (is_wide p) p.forward widths.0;
      reverse_width = width_is (is_wide p) p.reverse widths.1;
      forward_finish = result_is (is_wide p) o p.forward.finish results.0;
      reverse_finish = result_is (is_wide p) o p.reverse.finish results.1;
      start_c = neutral_is o start.c neutral.0;
      start_r = neutral_is o start.r neutral.1;
      start_e = λ wide. number_zero_is start.e (of_wide (is_wide p) (is_number_zero start.e) starts.1 wide);
      join_states = c.1;
      starts = b.1;
      typed = a.1;
    }

-- the reverse start state stands in no Join pair
pub start_is_apart : (p : Pair) → Facts p → (q : ℕ) → is_join p.table q 0 ≡ false
start_is_apart p f q = go (is_join p.table q 0) refl
  where
    go : (v : Bool) → is_join p.table q 0 ≡ v → v ≡ false
    go false e = refl
    go true e = sym (join_passes (λ i j. not (nat_eq j 0)) p.table.joins q 0 e f.starts)

-- in the two states of a Join pair the glued value has a kind
pub join_is_typed : (p : Pair) → Facts p → (q r : ℕ) → is_join p.table q r ≡ true → IsTrue (is_some (glue_kind p q r))
join_is_typed p f q r e = join_passes (λ i j. is_some (glue_kind p i j)) p.table.joins q r e f.typed

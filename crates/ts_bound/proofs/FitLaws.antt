-- A hull of a table fits into lanes: sums are clamped, and the values of cells and the start constants are small.
use Rattle.std.proofs.Common.{◌≡◌, ℕ, zero, suc, ◌+◌, ◌-◌, ◌<◌, ◌<ℤ◌, ◌+ℤ◌, ◌-ℤ◌, ℤ, pos, neg_ℤ, Bool, true, false, cond, ◌&&◌, nat_eq, List, [], ◌∷◌, length, map, take, drop, get_or, replicate, refl, sym, ap, ◌∙◌, subst, arith}
use Rattle.std.specs.Prelude.{IsTrue, IfSome, Option, None, Some, fold, flat_map, reverse}
use Rattle.std.specs.List.{AllByRecursion, range_with_len}
use Rattle.std.proofs.lemmas.Int.{ints, clamps}
use Rattle.std.proofs.lemmas.List.{get_or_default, reverse-append}
use Rattle.ts_base.specs.declared.ext.Ext.{Ext}
use Rattle.ts_base.specs.declared.ext.Ext.TheVariants.{NegInf, Int, PosInf}
use Rattle.ts_base.specs.declared.op.Op.{Op}
use Rattle.ts_base.specs.declared.op.Op.TheVariants.{Add, Max, Min}
use Rattle.ts_base.specs.declared.range.Range.{Range}
use Rattle.ts_base.specs.declared.span.Span.{Span}
use Rattle.ts_base.specs.Limits.{IsCellValue}
use Rattle.ts_base.specs.Numbers.{clamp, ext_le, ext_max, ext_min, ext_plus}
use Rattle.ts_base.specs.Operators.{ext_op}
use Rattle.ts_base.specs.Spans.{has_some, none_span, one_span, span_hull}
use Rattle.ts_base.specs.Windows.{looked_at}
use Rattle.ts_base.proofs.WindowLaws.{each_looked}
use Rattle.ts_automaton.proofs.Five.{registers_parts}
use Rattle.ts_automaton.specs.declared.expr.Atom.TheVariants.{C, E, D, F, R, This, Next, Zero, Unit as UnitAtom, NegInf as LowAtom, PosInf as HighAtom}
use Rattle.ts_automaton.specs.declared.expr.Operator.{Operator}
use Rattle.ts_automaton.specs.declared.expr.Operator.TheVariants.{Fold, Sub}
use Rattle.ts_automaton.specs.declared.regs.Hull.{Hull}
use Rattle.ts_automaton.specs.Differences.{difference, span_op}
use Rattle.ts_automaton.specs.Formula.{Formula, Leaf, Join}
use Rattle.ts_automaton.specs.Registers.{EachOf, spans, spans_of, value_in}
use Rattle.ts_automaton.specs.Typing.{is_automaton, is_constant}
use Rattle.ts_automaton.specs.Body.{Body, Move}
use Rattle.ts_automaton.specs.AutomatonRun.{Standing, move_between, registers_after}
use Rattle.ts_automaton.specs.SpanRun.{has_registers, moved_hull, none_hull, one_hull, span_step}
use Rattle.ts_domain.specs.BoxSeries.{IsBox}
use Rattle.ts_domain.proofs.Sets.{all_append}
use Rattle.ts_glue.specs.Glued.{glued_span}
use Rattle.ts_glue.specs.Pairs.{Pair}
use Rattle.ts_hull.specs.Hulls.{hull_of, hull_of_both, none}
use Rattle.ts_hull.specs.Sealed.{some_hull}
use Rattle.ts_meet.specs.Meets.{standing}
use Rattle.ts_row.proofs.StartLaws.{all_constants, constant_small}
use Rattle.ts_row.proofs.WidthLaws.{start_constants}
use Rattle.ts_sweep.specs.declared.packed.Ends.{Ends}
use Rattle.ts_sweep.specs.declared.packed.Name.{Name}
use Rattle.ts_sweep.specs.FrontLaws.{neg_neg}
use Rattle.ts_sweep.specs.Lanes.{least}
use Rattle.ts_sweep.specs.Moves.{of_name, with_all}
use Rattle.ts_sweep.specs.MoveLaws.{IsPackAt, all_packed, all_unpacked, by_names}
use Rattle.ts_sweep.specs.Packed.{ends_span, negated, place, unpacked, upper, AreSome, IsPackOf, IsWithin}
use Rattle.ts_sweep.specs.Strided.{span_ends}
use Rattle.ts_sweep.specs.Trees.{lane_of}
use Rattle.ts_sweep.specs.UpperLaws.{upper_mid}
use Rattle.ts_sweep.proofs.HullLanes.{zeros_some}
use Rattle.ts_bound.specs.Blocks.{back_hulls}
use Rattle.ts_bound.specs.HullTables.{cells_after, cells_before, hull_at, hulls_at, start_hull}
use Rattle.ts_bound.specs.Laws.{Splits}
use Rattle.ts_bound.specs.NextRow.{Source, source, standing_at, hull_from, next_hull, states_of}
use Rattle.ts_bound.specs.Fits.{AllFit, Fits, HullFits, HullsFit, SpanFits}
use Rattle.ts_bound.proofs.TableLaws.{all_range}

-- numbers

clamp_fits : (x : ℤ) → IsWithin 10 (clamp x)
clamp_fits x = (omega (arith, ints, clamps), omega (arith, ints, clamps))

plus_fits : (a b : Ext) → Fits (ext_plus a b)
plus_fits NegInf b = tt
plus_fits (Int x) NegInf = tt
plus_fits (Int x) (Int y) = clamp_fits (x +ℤ y)
plus_fits (Int x) PosInf = tt
plus_fits PosInf NegInf = tt
plus_fits PosInf (Int y) = tt
plus_fits PosInf PosInf = tt

less_fits : (a b : Ext) → Fits (difference a b)
less_fits NegInf b = tt
less_fits (Int x) NegInf = tt
less_fits (Int x) (Int y) = clamp_fits (x -ℤ y)
less_fits (Int x) PosInf = tt
less_fits PosInf NegInf = tt
less_fits PosInf (Int y) = tt
less_fits PosInf PosInf = tt

max_fits : (a b : Ext) → Fits a → Fits b → Fits (ext_max a b)
max_fits a b p q = elim (ext_le a b) as (λ v. Fits (cond v b a)) [ true ↦ q | false ↦ p ]

min_fits : (a b : Ext) → Fits a → Fits b → Fits (ext_min a b)
min_fits a b p q = elim (ext_le a b) as (λ v. Fits (cond v a b)) [ true ↦ p | false ↦ q ]

op_fits : (o : Op) (a b : Ext) → Fits a → Fits b → Fits (ext_op o a b)
op_fits Add a b p q = plus_fits a b
op_fits Max a b p q = max_fits a b p q
op_fits Min a b p q = min_fits a b p q

-- spans

spans_fit : (o : Operator) (s t : Span) → SpanFits s → SpanFits t → SpanFits (span_op o s t)
spans_fit (Fold o) s t p q =
    elim (has_some s && has_some t) as
    (λ v. SpanFits (cond v (record { lo = ext_op o s.lo t.lo; hi = ext_op o s.hi t.hi }) none_span))
    [ true ↦ (op_fits o s.lo t.lo p.0 q.0, op_fits o s.hi t.hi p.1 q.1) | false ↦ (tt, tt) ]
spans_fit Sub s t p q =
    elim (has_some s && has_some t) as
    (λ v. SpanFits (cond v (record { lo = difference s.lo t.hi; hi = difference s.hi t.lo }) none_span))
    [ true ↦ (less_fits s.lo t.hi, less_fits s.hi t.lo) | false ↦ (tt, tt) ]

hull_fits_of : (s t : Span) → SpanFits s → SpanFits t → SpanFits (span_hull s t)
hull_fits_of s t p q = go (has_some s) (has_some t)
  where
    both : Span
    both = record { lo = ext_min s.lo t.lo; hi = ext_max s.hi t.hi }

    go : (a b : Bool) → SpanFits (cond a (cond b both s) (cond b t none_span))
    go true true = (min_fits s.lo t.lo p.0 q.0, max_fits s.hi t.hi p.1 q.1)
    go true false = p
    go false true = q
    go false false = (tt, tt)

cell_within : (x : ℤ) → IsCellValue x → IsWithin 10 x
cell_within x h = let a = h.0 in let b = h.1 in (omega (arith, ints, a, b), omega (arith, ints, a, b))

zero_within : IsWithin 10 (pos 0)
zero_within = (grind (arith, ints), grind (arith, ints))

one_within : IsWithin 10 (pos 1)
one_within = (grind (arith, ints), grind (arith, ints))

value_fits : (regs : EachOf Span) (x y : ℤ) → AllFit regs → IsCellValue x → IsCellValue y → (f : Formula) → SpanFits (value_in spans regs x y f)
value_fits regs x y p hx hy (Leaf C) = p.0
value_fits regs x y p hx hy (Leaf E) = p.1
value_fits regs x y p hx hy (Leaf D) = p.2
value_fits regs x y p hx hy (Leaf F) = p.3
value_fits regs x y p hx hy (Leaf R) = p.4
value_fits regs x y p hx hy (Leaf This) = (cell_within x hx, cell_within x hx)
value_fits regs x y p hx hy (Leaf Next) = (cell_within y hy, cell_within y hy)
value_fits regs x y p hx hy (Leaf Zero) = (zero_within, zero_within)
value_fits regs x y p hx hy (Leaf UnitAtom) = (one_within, one_within)
value_fits regs x y p hx hy (Leaf LowAtom) = (tt, tt)
value_fits regs x y p hx hy (Leaf HighAtom) = (tt, tt)
value_fits regs x y p hx hy (Join o f g) = spans_fit o _ _ (value_fits regs x y p hx hy f) (value_fits regs x y p hx hy g)

-- hulls

none_fits : HullFits none
none_fits = ((tt, tt), (tt, tt), (tt, tt), (tt, tt), (tt, tt))

both_fit : (h k : Hull) → HullFits h → HullFits k → HullFits (hull_of_both h k)
unfolding hull_of_both
both_fit h k p q = (
  hull_fits_of h.c k.c p.0 q.0,
  hull_fits_of h.e k.e p.1 q.1,
  hull_fits_of h.d k.d p.2 q.2,
  hull_fits_of h.f k.f p.3 q.3,
  hull_fits_of h.r k.r p.4 q.4,
)

fold_fits : (h : Hull) (hs : List Hull) → HullFits h → AllByRecursion HullFits hs → HullFits (fold hull_of_both h hs)
fold_fits h [] p ps = p
fold_fits h (k ∷ hs) p ps = fold_fits (hull_of_both h k) hs (both_fit h k p ps.0) ps.1

moved_fits : (regs : EachOf Span) (x y : ℤ) (m : Move) → AllFit regs → IsCellValue x → IsCellValue y → AllFit (moved_hull regs x y m)
moved_fits regs x y m p hx hy =
    elim (has_registers regs) as (λ v. AllFit (cond v (registers_after spans regs x y m) none_hull)) [
      | true ↦ (
        value_fits regs x y p hx hy m.to.c,
        value_fits regs x y p hx hy m.to.e,
        value_fits regs x y p hx hy m.to.d,
        value_fits regs x y p hx hy m.to.f,
        value_fits regs x y p hx hy m.to.r,
      )
      | false ↦ none_fits
    ]

-- a hull that fits, of a value that a cell may have
abbrev SourceFits : Source → Type 0
SourceFits s = HullFits s.hull × IsCellValue s.value

constant_fits : (e : Ext) → is_constant e ≡ true → SpanFits (one_span e)
constant_fits NegInf h = (tt, tt)
constant_fits (Int x) h =
    let w = constant_small x h in let a = w.0 in let b = w.1 in
    let ten : IsWithin 10 x = (omega (arith, ints, a), omega (arith, ints, b)) in (ten, ten)
constant_fits PosInf h = (tt, tt)

module _ (b : Body) (rules : IsTrue (is_automaton b)) where
  given_fits : (s : Source) → SourceFits s → (w : ℤ) → IsCellValue w → (q : ℕ) → HullFits (hull_from b w q s)
  unfolding hull_from
  given_fits s p w hw q =
      let to : Standing Span = span_step b (standing_at s) s.value w in
      elim (nat_eq to.state q) as (λ v. HullFits (cond v (hull_of to.regs) none))
      [ true ↦ moved_fits (spans_of s.hull) s.value w (move_between b s.state s.value w) p.0 p.1 hw | false ↦ none_fits ]

  givens_fit : (ss : List Source) → AllByRecursion SourceFits ss → (w : ℤ) → IsCellValue w → (q : ℕ) → AllByRecursion HullFits (map (hull_from b w q) ss)
  givens_fit [] ps w hw q = tt
  givens_fit (s ∷ ss) ps w hw q = (given_fits s ps.0 w hw q, givens_fit ss ps.1 w hw q)

  sources_fit : (before : List (List ℤ)) (us : List ℤ) → AllByRecursion IsCellValue us →
      ((u : ℤ) → IsCellValue u → (p : ℕ) → HullFits (hull_at b before u p)) →
      AllByRecursion SourceFits (flat_map (λ u. map (λ p. source u p (hull_at b before u p)) (states_of b)) us)
  sources_fit before [] within h = tt
  sources_fit before (u ∷ us) within h =
      all_append SourceFits (map (λ p. source u p (hull_at b before u p)) (states_of b)) _
      (all_range SourceFits (λ p. source u p (hull_at b before u p)) (length b.states) 0 (length b.states) (omega arith)
      (λ p lt. (h u within.0 p, within.0)))
      (sources_fit before us within.1 h)

  start_fits : HullFits (hull_of (one_hull b.start))
  start_fits =
      let k = all_constants b.start (start_constants b rules) in (
        constant_fits b.start.c k.0,
        constant_fits b.start.e k.1,
        constant_fits b.start.d k.2,
        constant_fits b.start.f k.3,
        constant_fits b.start.r k.4,
      )

  -- each hull of a table fits
  pub table_fits : (before : List (List ℤ)) → AllByRecursion (AllByRecursion IsCellValue) before → (v : ℤ) → IsCellValue v → (q : ℕ) →
      HullFits (hull_at b before v q)
  unfolding hull_at start_hull next_hull
  table_fits [] cells v hv q =
      elim (nat_eq q 0) as (λ t. HullFits (cond t (hull_of (one_hull b.start)) none)) [ true ↦ start_fits | false ↦ none_fits ]
  table_fits (us ∷ before) cells v hv q =
      fold_fits none _ none_fits (givens_fit _ (sources_fit before us cells.0 (table_fits before cells.1)) v hv q)

  -- the hulls of a value fit
  pub value_hulls_fit : (before : List (List ℤ)) (v : ℤ) (hs : List Hull) → AllByRecursion (AllByRecursion IsCellValue) before → IsCellValue v →
      hs ≡ hulls_at b before v → HullsFit hs
  unfolding hulls_at
  value_hulls_fit before v hs cells hv is =
      subst HullsFit (sym is) (map_fits (hull_at b before v) (length b.states) 0 (table_fits before cells v hv))
    where
      map_fits : (f : ℕ → Hull) (n a : ℕ) → ((q : ℕ) → HullFits (f q)) → HullsFit (map f (range_with_len a n))
      map_fits f zero a h q = none_fits
      map_fits f (suc n) a h zero = h a
      map_fits f (suc n) a h (suc q) = map_fits f n (a + 1) h q

-- the hull that is read at a place
pub fits_at : (hulls : List Hull) (q : ℕ) (h d : Hull) → q < length hulls → h ≡ get_or hulls q d → HullsFit hulls → HullFits h
fits_at hulls q h d lt is fit = subst HullFits (sym (is ∙ get_or_default hulls q d none lt)) (fit q)

-- the values of the cells on either side

within_cells : (cells : List (List ℤ)) → IsBox cells → AllByRecursion (AllByRecursion IsCellValue) cells
within_cells [] box = tt
within_cells (d ∷ cells) box = (box.0.within, within_cells cells box.1)

each_taken : {A : Type 0} (P : A → Type 0) (n : ℕ) (xs : List A) → AllByRecursion P xs → AllByRecursion P (take n xs)
each_taken P zero xs h = tt
each_taken P (suc n) [] h = tt
each_taken P (suc n) (x ∷ xs) h = (h.0, each_taken P n xs h.1)

each_dropped : {A : Type 0} (P : A → Type 0) (n : ℕ) (xs : List A) → AllByRecursion P xs → AllByRecursion P (drop n xs)
each_dropped P zero xs h = h
each_dropped P (suc n) [] h = tt
each_dropped P (suc n) (x ∷ xs) h = each_dropped P n xs h.1

each_reversed : {A : Type 0} (P : A → Type 0) (xs : List A) → AllByRecursion P xs → AllByRecursion P (reverse xs)
each_reversed P [] h = tt
each_reversed P (x ∷ xs) h =
    subst (AllByRecursion P) (sym (reverse-append (x ∷ []) xs)) (all_append P (reverse xs) (reverse (x ∷ [])) (each_reversed P xs h.1) (h.0, tt))

pub before_within : (w : Option Range) (cells : List (List ℤ)) (k : ℕ) → IsBox cells →
    AllByRecursion (AllByRecursion IsCellValue) (cells_before k (looked_at w cells))
before_within w cells k box =
    each_reversed (AllByRecursion IsCellValue) (take (k - 1) (looked_at w cells))
    (each_taken (AllByRecursion IsCellValue) (k - 1) (looked_at w cells) (each_looked (AllByRecursion IsCellValue) w cells (within_cells cells box)))

pub after_within : (w : Option Range) (cells : List (List ℤ)) (k : ℕ) → IsBox cells →
    AllByRecursion (AllByRecursion IsCellValue) (cells_after k (looked_at w cells))
after_within w cells k box =
    each_dropped (AllByRecursion IsCellValue) k (looked_at w cells) (each_looked (AllByRecursion IsCellValue) w cells (within_cells cells box))

-- the hulls of a value for the reverse automaton fit

pub back_fit : (f : Body) (o : Option Pair) → IfSome o (Splits f) → (behind : List (List ℤ)) (v : ℤ) (hs : List Hull) →
    AllByRecursion (AllByRecursion IsCellValue) behind → IsCellValue v → hs ≡ back_hulls o behind v → HullsFit hs
back_fit f None rules behind v hs cells hv is = subst HullsFit (sym is) (λ q. none_fits)
back_fit f (Some p) rules behind v hs cells hv is = value_hulls_fit p.reverse rules.reverse behind v hs cells hv is

-- a hull that fits, in lanes

upper_is : (e : Ext) → Fits e → upper (lane_of e) ≡ e
upper_is NegInf h = refl
upper_is (Int x) h = let a = h.0 in let b = h.1 in upper_mid x (omega (arith, ints, a)) (omega (arith, ints, b))
upper_is PosInf h = refl

lower_is : (e : Ext) → Fits e → negated (upper (lane_of (negated e))) ≡ e
lower_is NegInf h = refl
lower_is (Int x) h =
    let a = h.0 in let b = h.1 in
    ap negated (upper_mid (neg_ℤ x) (omega (arith, ints, b)) (omega (arith, ints, a))) ∙ ap Int (neg_neg x)
lower_is PosInf h = refl

lane_above : (e : Ext) → Fits e → least <ℤ lane_of e
lane_above NegInf h = grind (arith, ints)
lane_above (Int x) h = let a = h.0 in omega (arith, ints, a)
lane_above PosInf h = grind (arith, ints)

lane_below : (e : Ext) → Fits e → least <ℤ lane_of (negated e)
lane_below NegInf h = grind (arith, ints)
lane_below (Int x) h = let b = h.1 in omega (arith, ints, b)
lane_below PosInf h = grind (arith, ints)

same_span : (a b c d : Ext) → a ≡ c → b ≡ d → ◌≡◌ {A = Span} (record { lo = a; hi = b }) (record { lo = c; hi = d })
same_span a b c d p q = cc

ends_stand : (s : Span) → SpanFits s → ends_span (span_ends s) ≡ s
ends_stand s h = same_span _ _ _ _ (lower_is s.lo h.0) (upper_is s.hi h.1)

ends_pack : (s : Span) (e : Ends) → has_some s ≡ true → SpanFits s → e ≡ span_ends s → IsPackOf e s
ends_pack s e some h is =
    subst (λ z. IsPackOf z s) (sym is) (record {
      some = record { below = lane_below s.lo h.0; above = lane_above s.hi h.1; some = ap has_some (ends_stand s h) ∙ some };
      span = ends_stand s h;
    })

pub hull_packed : (xs : List ℤ) (h : Hull) (e : EachOf Ends) → xs ≡ with_all 10 (replicate 10 (pos 0)) (of_name e) → some_hull h ≡ true → HullFits h →
    e.c ≡ span_ends h.c → e.e ≡ span_ends h.e → e.d ≡ span_ends h.d → e.f ≡ span_ends h.f → e.r ≡ span_ends h.r → AreSome 10 xs × (unpacked xs ≡ h)
hull_packed xs h e is some fits ec ee ed ef er =
    let zeros = replicate 10 (pos 0) in
    let value : Name → Span = of_name (spans_of h) in
    let p = registers_parts (spans_of h) some in
    let packs : (k : Name) → IsPackAt (place 10 k) (of_name e k) (value k) =
    by_names (λ k. IsPackAt (place 10 k) (of_name e k) (value k)) (ends_pack h.c e.c p.0 fits.0 ec) (ends_pack h.e e.e p.1 fits.1 ee)
    (ends_pack h.d e.d p.2 fits.2 ed) (ends_pack h.f e.f p.3 fits.3 ef) (ends_pack h.r e.r p.4 fits.4 er) in (
      subst (AreSome 10) (sym is) (all_packed 10 zeros (of_name e) value (omega arith) (zeros_some 10) packs),
      ap unpacked is ∙ all_unpacked 10 zeros (of_name e) value (omega arith) (zeros_some 10) packs,
    )

-- the glued span of two hulls that were packed
pub pair_told : (p : Pair) (q r : ℕ) (a b h k : Hull) (x' x : ℤ) (n : ℕ) (one : Span) → a ≡ h → b ≡ k → x' ≡ x →
    one ≡ glued_span p (standing q (spans_of a)) (standing r (spans_of b)) x' n → one ≡ glued_span p (standing q (spans_of h)) (standing r (spans_of k)) x n
pair_told p q r a b h k x' x n one is_h is_k is_x is =
    is ∙ ap (λ z. glued_span p (standing q (spans_of z)) (standing r (spans_of b)) x' n) is_h
    ∙ ap (λ z. glued_span p (standing q (spans_of h)) (standing r (spans_of z)) x' n) is_k
    ∙ ap (λ z. glued_span p (standing q (spans_of h)) (standing r (spans_of k)) z n) is_x

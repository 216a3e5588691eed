-- Each row of a table from its neighbour; the kinds of its hulls.
use Rattle.std.proofs.Common.{◌≡◌, ℕ, zero, suc, ◌+◌, ◌*◌, ◌<◌, ◌≤◌, ◌⊎◌, inl, inr, ℤ, Bool, true, false, cond, nat_eq, List, [], ◌∷◌, ◌++◌, length, map, take, drop, get_or, refl, sym, ap, ◌∙◌, subst, arith}
use Rattle.std.specs.Prelude.{IsTrue, fold, flat_map}
use Rattle.std.specs.List.{range_with_len, AllByRecursion}
use Rattle.std.proofs.lemmas.List.{length-append}
use Rattle.std.proofs.lemmas.List.FromFn.{length-map-range_with_len}
use Rattle.std.proofs.lemmas.Bool.{eqb-true}
use Rattle.std.proofs.Math.Seq.{take-append_seam, drop-append_seam}
use Rattle.ts_base.specs.declared.span.Span.{Span}
use Rattle.ts_base.specs.Numbers.{ext_le, ext_max, ext_min}
use Rattle.ts_base.specs.Spans.{none_span, has_some, span_hull}
use Rattle.ts_base.proofs.Order.{le_trans, min_left, max_left}
use Rattle.ts_base.proofs.SpanLaws.{one_some}
use Rattle.ts_automaton.specs.declared.kind.RegKind.{RegKind}
use Rattle.ts_automaton.specs.declared.regs.Hull.{Hull}
use Rattle.ts_automaton.specs.Registers.{Each, spans_of, spans}
use Rattle.ts_automaton.specs.Kinds.{HasKind, SpanHasKind, SpansFit}
use Rattle.ts_automaton.specs.Typing.{kinds_at, is_automaton}
use Rattle.ts_automaton.specs.Body.{Body, Move}
use Rattle.ts_automaton.specs.AutomatonRun.{Standing, move_between, registers_after}
use Rattle.ts_automaton.specs.SpanRun.{none_hull, has_registers, one_hull, HullStands, span_step}
use Rattle.ts_automaton.proofs.Five.{none_registers}
use Rattle.ts_automaton.proofs.KindLaws.{spans_typed}
use Rattle.ts_automaton.proofs.StepLaws.{start_stands, spans_have, move_keeps}
use Rattle.ts_base.specs.Signature.{letter_of}
use Rattle.ts_hull.specs.Hulls.{hull_of, none, hull_of_both}
use Rattle.ts_bound.specs.NextRow.{Source, source, standing_at, sources_from, sources, hull_from, next_hull, next_hulls, next_row, states_of, RowStands}
use Rattle.ts_bound.specs.HullTables.{start_hull, hull_at, hulls_at, row_of, rows_behind, backward_rows}
use Rattle.ts_domain.proofs.Sets.{all_append}

-- the sources of a row

module _ (f : ℤ → ℕ → Hull) where
  from_hulls : (v : ℤ) (q n : ℕ) → sources_from v q (map (f v) (range_with_len q n)) ≡ map (λ p. source v p (f v p)) (range_with_len q n)
  unfolding sources_from
  from_hulls v q zero = refl
  from_hulls v q (suc n) =
      let e : suc q ≡ q + 1 = omega arith in
      ap (λ k. source v q (f v q) ∷ sources_from v k (map (f v) (range_with_len (q + 1) n))) e ∙ ap (λ l. source v q (f v q) ∷ l) (from_hulls v (q + 1) n)

  pub sources_of : (n : ℕ) (us : List ℤ) →
      sources n us (flat_map (λ u. map (f u) (range_with_len 0 n)) us) ≡ flat_map (λ u. map (λ p. source u p (f u p)) (range_with_len 0 n)) us
  unfolding sources
  sources_of n [] = refl
  sources_of n (u ∷ us) =
      let hs = map (f u) (range_with_len 0 n) in
      let rest = flat_map (λ u. map (f u) (range_with_len 0 n)) us in
      let l : n ≡ length hs = sym (length-map-range_with_len (f u) 0 n) in
      ap (λ k. sources_from u 0 (take k (hs ++ rest)) ++ sources n us (drop k (hs ++ rest))) l
      ∙ ap (λ t. sources_from u 0 t ++ sources n us (drop (length hs) (hs ++ rest))) (take-append_seam hs rest)
      ∙ ap (λ t. sources_from u 0 hs ++ sources n us t) (drop-append_seam hs rest)
      ∙ ap (λ t. t ++ sources n us rest) (from_hulls u 0 n) ∙ ap (λ t. map (λ p. source u p (f u p)) (range_with_len 0 n) ++ t) (sources_of n us)

-- a row is made of the row before
pub row_from_row : (b : Body) (us : List ℤ) (before : List (List ℤ)) (vs : List ℤ) → row_of b (us ∷ before) vs ≡ next_row b us (row_of b before us) vs
unfolding row_of hulls_at hull_at next_row next_hulls
row_from_row b us before vs = ap (λ s. flat_map (λ v. map (next_hull b s v) (states_of b)) vs) (sym (sources_of (hull_at b before) (length b.states) us))

length-flat : (n : ℕ) (f : ℤ → List Hull) (vs : List ℤ) → ((v : ℤ) → length (f v) ≡ n) → length (flat_map f vs) ≡ length vs * n
length-flat n f [] h = omega arith
length-flat n f (v ∷ vs) h = let a = length-append (f v) (flat_map f vs) in let r = length-flat n f vs h in let k = h v in omega (arith, a, r, k)

pub length-row_of : (b : Body) (before : List (List ℤ)) (vs : List ℤ) → length (row_of b before vs) ≡ length vs * length b.states
unfolding row_of hulls_at
length-row_of b before vs = length-flat (length b.states) _ vs (λ v. length-map-range_with_len (hull_at b before v) 0 (length b.states))

-- kinds

-- the hull is none in its one form, or has the kinds of the state
abbrev pub IsKept : Body → ℕ → Hull → Type 0
IsKept b q h = (h ≡ none) ⊎ Each SpanHasKind (kinds_at b q) (spans_of h)

pub kept_stands : (b : Body) (q : ℕ) (h : Hull) → q < length b.states → IsKept b q h → HullStands b (record { state = q; regs = spans_of h })
kept_stands b q h lt (inl e) = record { exists = lt; kinds = inl (ap (λ k. has_registers (spans_of k)) e ∙ none_registers) }
kept_stands b q h lt (inr k) = record { exists = lt; kinds = inr k }

kept_span : (k : RegKind) (s t : Span) → SpanHasKind k s → SpanHasKind k t → SpanHasKind k (span_hull s t)
kept_span k s t p q =
    subst (SpanHasKind k) (sym (ap (λ v. cond v (cond (has_some t) both s) (cond (has_some t) t none_span)) p.0 ∙ ap (λ v. cond v both s) q.0)) (
      le_trans (ext_min s.lo t.lo) s.lo _ (min_left s.lo t.lo) (le_trans s.lo s.hi _ p.0 (max_left s.hi t.hi)),
      elim (ext_le s.lo t.lo) as (λ v. HasKind k (cond v s.lo t.lo)) [ true ↦ p.1 | false ↦ q.1 ],
      elim (ext_le s.hi t.hi) as (λ v. HasKind k (cond v t.hi s.hi)) [ true ↦ q.2 | false ↦ p.2 ],
    )
  where
    both : Span
    both = record { lo = ext_min s.lo t.lo; hi = ext_max s.hi t.hi }

none_first : (k : RegKind) (s : Span) → SpanHasKind k s → span_hull none_span s ≡ s
none_first k s p = ap (λ v. cond v s none_span) p.0

none_second : (k : RegKind) (s : Span) → SpanHasKind k s → span_hull s none_span ≡ s
none_second k s p = ap (λ v. cond v s none_span) p.0

pub kept_both : (b : Body) (q : ℕ) (h k : Hull) → IsKept b q h → IsKept b q k → IsKept b q (hull_of_both h k)
unfolding hull_of_both
kept_both b q h k (inl e) (inl f) = inl (ap (λ x. hull_of_both x k) e ∙ ap (λ x. hull_of_both none x) f)
kept_both b q h k (inl e) (inr g) =
    let n = kinds_at b q in
    inr (subst (λ x. Each SpanHasKind n (spans_of (hull_of_both x k))) (sym e) (
      subst (SpanHasKind n.c) (sym (none_first n.c k.c g.0)) g.0,
      subst (SpanHasKind n.e) (sym (none_first n.e k.e g.1)) g.1,
      subst (SpanHasKind n.d) (sym (none_first n.d k.d g.2)) g.2,
      subst (SpanHasKind n.f) (sym (none_first n.f k.f g.3)) g.3,
      subst (SpanHasKind n.r) (sym (none_first n.r k.r g.4)) g.4,
    ))
kept_both b q h k (inr g) (inl f) =
    let n = kinds_at b q in
    inr (subst (λ x. Each SpanHasKind n (spans_of (hull_of_both h x))) (sym f) (
      subst (SpanHasKind n.c) (sym (none_second n.c h.c g.0)) g.0,
      subst (SpanHasKind n.e) (sym (none_second n.e h.e g.1)) g.1,
      subst (SpanHasKind n.d) (sym (none_second n.d h.d g.2)) g.2,
      subst (SpanHasKind n.f) (sym (none_second n.f h.f g.3)) g.3,
      subst (SpanHasKind n.r) (sym (none_second n.r h.r g.4)) g.4,
    ))
kept_both b q h k (inr g) (inr i) =
    let n = kinds_at b q in
    inr (
      kept_span n.c h.c k.c g.0 i.0,
      kept_span n.e h.e k.e g.1 i.1,
      kept_span n.d h.d k.d g.2 i.2,
      kept_span n.f h.f k.f g.3 i.3,
      kept_span n.r h.r k.r g.4 i.4,
    )

kept_all : (b : Body) (q : ℕ) (h : Hull) (hs : List Hull) → IsKept b q h → AllByRecursion (IsKept b q) hs → IsKept b q (fold hull_of_both h hs)
kept_all b q h [] k ks = k
kept_all b q h (x ∷ hs) k ks = kept_all b q (hull_of_both h x) hs (kept_both b q h x k ks.0) ks.1

pub all_range : {A : Type 0} (P : A → Type 0) (f : ℕ → A) (m q n : ℕ) → q + n ≤ m → ((p : ℕ) → p < m → P (f p)) → AllByRecursion P (map f (range_with_len q n))
all_range P f m q zero le h = tt
all_range P f m q (suc n) le h = (h q (omega (arith, le)), all_range P f m (q + 1) n (omega (arith, le)) h)

module _ (b : Body) (rules : IsTrue (is_automaton b)) where
  kept_step : (s : Source) → HullStands b (standing_at s) → (w : ℤ) → let to = span_step b (standing_at s) s.value w in IsKept b to.state (hull_of to.regs)
  kept_step s h w = go (has_registers (spans_of s.hull)) refl
    where
      m : Move
      m = move_between b s.state s.value w

      go : (v : Bool) → has_registers (spans_of s.hull) ≡ v → IsKept b m.next (hull_of (cond v (registers_after spans (spans_of s.hull) s.value w m) none_hull))
      go false e = inl refl
      go true e =
          inr (move_keeps spans SpanHasKind SpansFit spans_typed b rules s.state (letter_of s.value w) h.exists (spans_of s.hull)
          (spans_have (kinds_at b s.state) (spans_of s.hull) h.kinds e) m refl s.value w)

  pub kept_given : (s : Source) → HullStands b (standing_at s) → (w : ℤ) (q : ℕ) → IsKept b q (hull_from b w q s)
  unfolding hull_from
  kept_given s h w q = go (nat_eq to.state q) refl
    where
      to : Standing Span
      to = span_step b (standing_at s) s.value w

      go : (v : Bool) → nat_eq to.state q ≡ v → IsKept b q (cond v (hull_of to.regs) none)
      go true e = subst (λ k. IsKept b k (hull_of to.regs)) (eqb-true to.state q e) (kept_step s h w)
      go false e = inl refl

  kept_givens : (ss : List Source) → AllByRecursion (λ s. HullStands b (standing_at s)) ss → (w : ℤ) (q : ℕ) →
      AllByRecursion (IsKept b q) (map (hull_from b w q) ss)
  kept_givens [] h w q = tt
  kept_givens (s ∷ ss) h w q = (kept_given s h.0 w q, kept_givens ss h.1 w q)

  all_stand : (before : List (List ℤ)) (us : List ℤ) → ((u : ℤ) (p : ℕ) → IsKept b p (hull_at b before u p)) →
      AllByRecursion (λ s. HullStands b (standing_at s)) (flat_map (λ u. map (λ p. source u p (hull_at b before u p)) (states_of b)) us)
  all_stand before [] h = tt
  all_stand before (u ∷ us) h =
      all_append (λ s. HullStands b (standing_at s)) (map (λ p. source u p (hull_at b before u p)) (states_of b)) _
      (all_range (λ s. HullStands b (standing_at s)) (λ p. source u p (hull_at b before u p)) (length b.states) 0 (length b.states) (omega arith)
      (λ p lt. kept_stands b p (hull_at b before u p) lt (h u p))) (all_stand before us h)

  -- each hull of a table is none or has the kinds of its state
  pub hull_kept : (before : List (List ℤ)) (v : ℤ) (q : ℕ) → IsKept b q (hull_at b before v q)
  unfolding hull_at start_hull next_hull
  hull_kept [] v q = go (nat_eq q 0) refl
    where
      go : (t : Bool) → nat_eq q 0 ≡ t → IsKept b q (cond t (hull_of (one_hull b.start)) none)
      go true e =
          let k = (start_stands b rules).kinds in
          subst (λ p. IsKept b p (hull_of (one_hull b.start))) (sym (eqb-true q 0 e))
          (inr (
            (one_some b.start.c, k.0, k.0),
            (one_some b.start.e, k.1, k.1),
            (one_some b.start.d, k.2, k.2),
            (one_some b.start.f, k.3, k.3),
            (one_some b.start.r, k.4, k.4),
          ))
      go false e = inl refl
  hull_kept (us ∷ before) v q = kept_all b q none _ (inl refl) (kept_givens _ (all_stand before us (hull_kept before)) v q)

  pub row_stands : (before : List (List ℤ)) (us : List ℤ) → RowStands b us (row_of b before us)
  unfolding row_of hulls_at
  row_stands before us =
      subst (AllByRecursion (λ s. HullStands b (standing_at s))) (sym (sources_of (hull_at b before) (length b.states) us))
      (all_stand before us (hull_kept before))

-- the rows of a table

pub row_on : (b : Body) (before cells : List (List ℤ)) (i : ℕ) → suc i < length cells →
    get_or (rows_behind b before cells) (suc i) [] ≡ next_row b (get_or cells i []) (get_or (rows_behind b before cells) i []) (get_or cells (suc i) [])
unfolding rows_behind
row_on b before [] i h = absurd (omega (arith, h))
row_on b before (v ∷ []) i h = absurd (omega (arith, h))
row_on b before (v ∷ w ∷ cells) zero h = row_from_row b v before w
row_on b before (v ∷ w ∷ cells) (suc i) h = row_on b (v ∷ before) (w ∷ cells) i (omega (arith, h))

pub length-forward : (b : Body) (before cells : List (List ℤ)) → length (rows_behind b before cells) ≡ length cells
unfolding rows_behind
length-forward b before [] = refl
length-forward b before (v ∷ cells) = ap suc (length-forward b (v ∷ before) cells)

pub length-backward : (b : Body) (cells : List (List ℤ)) → length (backward_rows b cells) ≡ length cells
unfolding backward_rows
length-backward b [] = refl
length-backward b (v ∷ cells) = ap suc (length-backward b cells)

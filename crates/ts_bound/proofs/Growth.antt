-- A smaller box has smaller hulls, and smaller spans before the mark; so where a marked span lies in a given one, that of a smaller box does, if the mark
-- keeps this.
use Rattle.std.proofs.Common.{◌≡◌, ℕ, zero, suc, ◌+◌, ◌-◌, ◌<◌, ◌≤◌, inl, inr, ⊎_elim, ℤ, pos, Bool, true, false, cond, nat_eq, List, [], ◌∷◌, ◌++◌, length, map, take, drop, get_or, refl, sym, ap, ◌∙◌, subst, arith}
use Rattle.std.specs.Prelude.{fold, flat_map, reverse, Contains, Option, None, Some, IfSome}
use Rattle.std.specs.List.{range_with_len, AllByRecursion}
use Rattle.std.proofs.lemmas.List.{reverse-append}
use Rattle.ts_base.specs.declared.ext.Ext.TheVariants.{Int as Number}
use Rattle.ts_base.specs.declared.range.Range.{Range}
use Rattle.ts_base.specs.declared.span.Span.{Span}
use Rattle.ts_base.specs.SpanLayer.{IsWithin}
use Rattle.ts_base.specs.Spans.{none_span, one_span, Holds, span_hull}
use Rattle.ts_base.specs.Windows.{looked_at}
use Rattle.ts_base.proofs.SpanLaws.{none_empty, hull_left, hull_right, hull_least}
use Rattle.ts_automaton.specs.declared.state.Mark.{Mark}
use Rattle.ts_automaton.specs.declared.state.Mark.TheVariants.{Same}
use Rattle.ts_automaton.specs.declared.regs.Hull.{Hull}
use Rattle.ts_automaton.specs.Formula.{Formula}
use Rattle.ts_automaton.specs.Registers.{EachOf, Each, spans_of, spans, value_in}
use Rattle.ts_automaton.specs.Body.{Body, Move}
use Rattle.ts_automaton.specs.AutomatonRun.{move_between, registers_after, finish_value}
use Rattle.ts_automaton.specs.SpanRun.{none_hull, has_registers, moved_hull, finished_span, marked_span, finish_span_of}
use Rattle.ts_automaton.proofs.Evaluation.{value_related}
use Rattle.ts_automaton.proofs.OperatorLaws.{op_within}
use Rattle.ts_domain.specs.Boxes.{values_at, IsInside}
use Rattle.ts_domain.proofs.Sets.{contains_cons, all_append}
use Rattle.ts_glue.specs.Pairs.{Pair}
use Rattle.ts_glue.specs.Glued.{glue_span_at, glued_span}
use Rattle.ts_glue.proofs.SpanGlue.{glued_spans_grow, wider_registers, same_grows}
use Rattle.ts_hull.specs.Hulls.{hull_of, none, hull_of_both, hull_of_all}
use Rattle.ts_meet.specs.Meets.{hull_of_spans}
use Rattle.ts_bound.specs.NextRow.{Source, source, hull_from, next_hull, states_of}
use Rattle.ts_bound.specs.HullTables.{hull_at, cells_before, cells_after}
use Rattle.ts_bound.specs.Looks.{place_in}
use Rattle.ts_bound.specs.TermSpans.{Automata, standing_in, finish_spans, glued_spans, spans_at, inner_value_span, inner_span, term_span}
use Rattle.ts_bound.specs.Laws.{Splits, AreAutomata}
use Rattle.ts_bound.proofs.Reached.{Any, any_of_map, any_flat, any_range, any_flat_range, any_mapped, spans_take}
use Rattle.ts_bound.proofs.TableLaws.{all_range}

abbrev pub HullWithin : EachOf Span → EachOf Span → Type 0
HullWithin h k = Each IsWithin h k

within_self : (s : Span) → IsWithin s s
within_self s e h = h

none_within : (k : EachOf Span) → HullWithin none_hull k
none_within k = (
  λ e h. absurd (none_empty e h),
  λ e h. absurd (none_empty e h),
  λ e h. absurd (none_empty e h),
  λ e h. absurd (none_empty e h),
  λ e h. absurd (none_empty e h),
)

value_within : (f : Formula) (h k : EachOf Span) (x y : ℤ) → HullWithin h k → IsWithin (value_in spans h x y f) (value_in spans k x y f)
value_within f h k x y w =
    value_related spans spans IsWithin (λ e. within_self (one_span e)) (λ o a a' b b' p q. op_within o a a' b b' p q) f h k x y x y
    (within_self (one_span (Number x))) (within_self (one_span (Number y))) (w.0, w.1, w.2, w.3, w.4)

moved_within : (m : Move) (h k : EachOf Span) (x y : ℤ) → HullWithin h k → HullWithin (moved_hull h x y m) (moved_hull k x y m)
moved_within m h k x y w = go (has_registers h) refl
  where
    go : (t : Bool) → has_registers h ≡ t → HullWithin (cond t (registers_after spans h x y m) none_hull) (moved_hull k x y m)
    go false e = none_within (moved_hull k x y m)
    go true e =
        subst (λ t. HullWithin (registers_after spans h x y m) (cond t (registers_after spans k x y m) none_hull)) (sym (wider_registers h k w e)) (
          value_within m.to.c h k x y w,
          value_within m.to.e h k x y w,
          value_within m.to.d h k x y w,
          value_within m.to.f h k x y w,
          value_within m.to.r h k x y w,
        )

given_within : (b : Body) (v : ℤ) (q : ℕ) (u : ℤ) (p : ℕ) (h k : Hull) → HullWithin (spans_of h) (spans_of k) →
    HullWithin (spans_of (hull_from b v q (source u p h))) (spans_of (hull_from b v q (source u p k)))
unfolding hull_from
given_within b v q u p h k w = go (nat_eq (move_between b p u v).next q)
  where
    go : (t : Bool) → HullWithin (spans_of (cond t (hull_of (moved_hull (spans_of h) u v (move_between b p u v))) none))
        (spans_of (cond t (hull_of (moved_hull (spans_of k) u v (move_between b p u v))) none))
    go true = moved_within (move_between b p u v) (spans_of h) (spans_of k) u v w
    go false = none_within none_hull

both_within : (h k x : Hull) → HullWithin (spans_of h) (spans_of x) → HullWithin (spans_of k) (spans_of x) →
    HullWithin (spans_of (hull_of_both h k)) (spans_of x)
unfolding hull_of_both
both_within h k x p q = (
  hull_least h.c k.c x.c p.0 q.0,
  hull_least h.e k.e x.e p.1 q.1,
  hull_least h.d k.d x.d p.2 q.2,
  hull_least h.f k.f x.f p.3 q.3,
  hull_least h.r k.r x.r p.4 q.4,
)

fold_within : (x : Hull) (hs : List Hull) (h : Hull) → HullWithin (spans_of h) (spans_of x) → AllByRecursion (λ k. HullWithin (spans_of k) (spans_of x)) hs →
    HullWithin (spans_of (fold hull_of_both h hs)) (spans_of x)
fold_within x [] h p a = p
fold_within x (k ∷ hs) h p a = fold_within x hs (hull_of_both h k) (both_within h k x p a.0) a.1

first_in : (s h k : Hull) → HullWithin (spans_of s) (spans_of h) → HullWithin (spans_of s) (spans_of (hull_of_both h k))
unfolding hull_of_both
first_in s h k w = (
  λ e p. hull_left h.c k.c e (w.0 e p),
  λ e p. hull_left h.e k.e e (w.1 e p),
  λ e p. hull_left h.d k.d e (w.2 e p),
  λ e p. hull_left h.f k.f e (w.3 e p),
  λ e p. hull_left h.r k.r e (w.4 e p),
)

second_in : (s h k : Hull) → HullWithin (spans_of s) (spans_of k) → HullWithin (spans_of s) (spans_of (hull_of_both h k))
unfolding hull_of_both
second_in s h k w = (
  λ e p. hull_right h.c k.c e (w.0 e p),
  λ e p. hull_right h.e k.e e (w.1 e p),
  λ e p. hull_right h.d k.d e (w.2 e p),
  λ e p. hull_right h.f k.f e (w.3 e p),
  λ e p. hull_right h.r k.r e (w.4 e p),
)

stays_in : (s : Hull) (hs : List Hull) (h : Hull) → HullWithin (spans_of s) (spans_of h) → HullWithin (spans_of s) (spans_of (fold hull_of_both h hs))
stays_in s [] h w = w
stays_in s (k ∷ hs) h w = stays_in s hs (hull_of_both h k) (first_in s h k w)

is_in : (s : Hull) (hs : List Hull) (h : Hull) → Any (λ k. HullWithin (spans_of s) (spans_of k)) hs →
    HullWithin (spans_of s) (spans_of (fold hull_of_both h hs))
is_in s [] h a = absurd a
is_in s (k ∷ hs) h a = ⊎_elim (λ w. stays_in s hs (hull_of_both h k) (second_in s h k w)) (λ r. is_in s hs (hull_of_both h k) r) a

-- lists over the values of a set and the states

all_flat : {A : Type 0} (P : A → Type 0) (f : ℤ → List A) (us : List ℤ) → ((u : ℤ) → Contains us u → AllByRecursion P (f u)) →
    AllByRecursion P (flat_map f us)
all_flat P f [] h = tt
all_flat P f (u ∷ us) h = all_append P (f u) (flat_map f us) (h u ((contains_cons u us u).1 (inl refl)))
    (all_flat P f us (λ w c. h w ((contains_cons u us w).1 (inr c))))

all_mapped : {A : Type 0} (P : A → Type 0) (f : ℤ → A) (us : List ℤ) → ((u : ℤ) → Contains us u → P (f u)) → AllByRecursion P (map f us)
all_mapped P f [] h = tt
all_mapped P f (u ∷ us) h = (h u ((contains_cons u us u).1 (inl refl)), all_mapped P f us (λ w c. h w ((contains_cons u us w).1 (inr c))))

all_flat_range : {A : Type 0} (P : A → Type 0) (f : ℕ → List A) (m q n : ℕ) → q + n ≤ m → ((p : ℕ) → p < m → AllByRecursion P (f p)) →
    AllByRecursion P (flat_map f (range_with_len q n))
all_flat_range P f m q zero le h = tt
all_flat_range P f m q (suc n) le h = all_append P (f q) (flat_map f (range_with_len (q + 1) n)) (h q (omega (arith, le)))
    (all_flat_range P f m (q + 1) n (omega (arith, le)) h)

all_of_map : {A B : Type 0} (P : B → Type 0) (f : A → B) (xs : List A) → AllByRecursion (λ x. P (f x)) xs → AllByRecursion P (map f xs)
all_of_map P f [] h = tt
all_of_map P f (x ∷ xs) h = (h.0, all_of_map P f xs h.1)

next_within : (b : Body) (v : ℤ) (q : ℕ) (us ws : List ℤ) (h k : ℤ → ℕ → Hull) → ((u : ℤ) → Contains us u → Contains ws u) →
    ((u : ℤ) (p : ℕ) → HullWithin (spans_of (h u p)) (spans_of (k u p))) →
    HullWithin (spans_of (next_hull b (flat_map (λ u. map (λ p. source u p (h u p)) (states_of b)) us) v q))
    (spans_of (next_hull b (flat_map (λ u. map (λ p. source u p (k u p)) (states_of b)) ws) v q))
unfolding next_hull
next_within b v q us ws h k sub w =
    let F : ℤ → List Source = λ u. map (λ p. source u p (h u p)) (states_of b) in
    let G : ℤ → List Source = λ u. map (λ p. source u p (k u p)) (states_of b) in
    let x = hull_of_all (map (hull_from b v q) (flat_map G ws)) in
    fold_within x (map (hull_from b v q) (flat_map F us)) none (none_within (spans_of x))
    (all_of_map (λ s. HullWithin (spans_of s) (spans_of x)) (hull_from b v q) (flat_map F us)
    (all_flat (λ s. HullWithin (spans_of (hull_from b v q s)) (spans_of x)) F us (λ u c.
    all_range (λ s. HullWithin (spans_of (hull_from b v q s)) (spans_of x)) (λ p. source u p (h u p)) (length b.states) 0 (length b.states)
    (omega arith) (λ p lt.
    is_in (hull_from b v q (source u p (h u p))) (map (hull_from b v q) (flat_map G ws)) none
    (any_of_map (λ t. HullWithin (spans_of (hull_from b v q (source u p (h u p)))) (spans_of t)) (hull_from b v q) (flat_map G ws)
    (any_flat (λ s. HullWithin (spans_of (hull_from b v q (source u p (h u p)))) (spans_of (hull_from b v q s))) G ws u (sub u c)
    (any_range (λ s. HullWithin (spans_of (hull_from b v q (source u p (h u p)))) (spans_of (hull_from b v q s))) (λ p. source u p (k u p)) 0
    (length b.states) p (omega arith) (omega (arith, lt)) (given_within b v q u p (h u p) (k u p) (w u p)))))))))

pub hull_grows : (b : Body) (before wider : List (List ℤ)) (v : ℤ) (q : ℕ) → IsInside before wider →
    HullWithin (spans_of (hull_at b before v q)) (spans_of (hull_at b wider v q))
unfolding hull_at
hull_grows b [] [] v q a = (λ e h. h, λ e h. h, λ e h. h, λ e h. h, λ e h. h)
hull_grows b [] (w ∷ wider) v q a = absurd a
hull_grows b (u ∷ before) [] v q a = absurd a
hull_grows b (us ∷ before) (ws ∷ wider) v q a = next_within b v q us ws (hull_at b before) (hull_at b wider) a.0 (λ u p. hull_grows b before wider u p a.1)

-- spans before the mark

finished_within : (b : Body) (h k : EachOf Span) → HullWithin h k → IsWithin (finished_span b h) (finished_span b k)
finished_within b h k w = go (has_registers h) refl
  where
    go : (t : Bool) → has_registers h ≡ t → IsWithin (cond t (finish_value spans b h) none_span) (finished_span b k)
    go true e = subst (λ t. IsWithin (finish_value spans b h) (cond t (finish_value spans b k) none_span)) (sym (wider_registers h k w e))
        (value_within b.finish h k (pos 0) (pos 0) w)
    go false e = λ x p. absurd (none_empty x p)

-- lists of spans that all lie in one

hull_in : (h : Span) (ss : List Span) (s : Span) → IsWithin s h → AllByRecursion (λ t. IsWithin t h) ss → IsWithin (fold span_hull s ss) h
hull_in h [] s p a = p
hull_in h (t ∷ ss) s p a = hull_in h ss (span_hull s t) (hull_least s t h p a.0) a.1

all_in : (h : Span) (ss : List Span) → AllByRecursion (λ t. IsWithin t h) ss → IsWithin (hull_of_spans ss) h
all_in h ss a = hull_in h ss none_span (λ e n. absurd (none_empty e n)) a

in_all : (s : Span) (ts : List Span) → Any (λ t. IsWithin s t) ts → IsWithin s (hull_of_spans ts)
in_all s ts a e h = spans_take e ts none_span (holding ts a)
  where
    holding : (ts : List Span) → Any (λ t. IsWithin s t) ts → Any (λ t. Holds t e) ts
    holding [] a = a
    holding (t ∷ ts) a = ⊎_elim (λ w. inl (w e h)) (λ r. inr (holding ts r)) a

within_trans : (s t u : Span) → IsWithin s t → IsWithin t u → IsWithin s u
within_trans s t u p q e h = q e (p e h)

-- boxes

same_length : (cells wider : List (List ℤ)) → IsInside cells wider → length cells ≡ length wider
same_length [] [] a = refl
same_length [] (w ∷ wider) a = absurd a
same_length (c ∷ cells) [] a = absurd a
same_length (c ∷ cells) (w ∷ wider) a = ap suc (same_length cells wider a.1)

within_append : (es bs cs ds : List (List ℤ)) → IsInside es cs → IsInside bs ds → IsInside (es ++ bs) (cs ++ ds)
within_append [] bs [] ds h k = k
within_append [] bs (c ∷ cs) ds h k = absurd h
within_append (a ∷ es) bs [] ds h k = absurd h
within_append (a ∷ es) bs (c ∷ cs) ds h k = (h.0, within_append es bs cs ds h.1 k)

within_reverse : (es cs : List (List ℤ)) → IsInside es cs → IsInside (reverse es) (reverse cs)
within_reverse [] [] h = tt
within_reverse [] (c ∷ cs) h = absurd h
within_reverse (a ∷ es) [] h = absurd h
within_reverse (a ∷ es) (c ∷ cs) h =
    subst (λ z. IsInside z (reverse (c ∷ cs))) (sym (reverse-append (a ∷ []) es))
    (subst (IsInside (reverse es ++ a ∷ [])) (sym (reverse-append (c ∷ []) cs))
    (within_append (reverse es) (a ∷ []) (reverse cs) (c ∷ []) (within_reverse es cs h.1) (h.0, tt)))

within_take : (i : ℕ) (es cs : List (List ℤ)) → IsInside es cs → IsInside (take i es) (take i cs)
within_take zero es cs h = tt
within_take (suc i) [] [] h = tt
within_take (suc i) [] (c ∷ cs) h = absurd h
within_take (suc i) (a ∷ es) [] h = absurd h
within_take (suc i) (a ∷ es) (c ∷ cs) h = (h.0, within_take i es cs h.1)

within_drop : (i : ℕ) (es cs : List (List ℤ)) → IsInside es cs → IsInside (drop i es) (drop i cs)
within_drop zero es cs h = h
within_drop (suc i) [] [] h = tt
within_drop (suc i) [] (c ∷ cs) h = absurd h
within_drop (suc i) (a ∷ es) [] h = absurd h
within_drop (suc i) (a ∷ es) (c ∷ cs) h = within_drop i es cs h.1

within_at : (i : ℕ) (es cs : List (List ℤ)) → IsInside es cs → (v : ℤ) → Contains (get_or es i []) v → Contains (get_or cs i []) v
within_at i [] [] h v k = k
within_at i [] (c ∷ cs) h v k = absurd h
within_at i (a ∷ es) [] h v k = absurd h
within_at zero (a ∷ es) (c ∷ cs) h v k = h.0 v k
within_at (suc i) (a ∷ es) (c ∷ cs) h v k = within_at i es cs h.1 v k

looked_within : (w : Option Range) (cells wider : List (List ℤ)) → IsInside cells wider → IsInside (looked_at w cells) (looked_at w wider)
looked_within None cells wider a = a
looked_within (Some r) cells wider a = within_take (r.last - (r.first - 1)) _ _ (within_drop (r.first - 1) cells wider a)

-- a mark and a span in which, under the mark, a smaller span lies where a larger one does
module _ (mark : Mark) (h : Span)
    (keeps : (n : ℕ) (s t : Span) → IsWithin s t → IsWithin (marked_span mark n t) h → IsWithin (marked_span mark n s) h) where
  marked_in : (m : Mark) → m ≡ mark → (n : ℕ) (s t : Span) → IsWithin s t → IsWithin (marked_span m n t) h → IsWithin (marked_span m n s) h
  marked_in m e n s t w = subst (λ z. IsWithin (marked_span z n t) h → IsWithin (marked_span z n s) h) (sym e) (keeps n s t w)

  finishes_in : (b : Body) → b.mark ≡ mark → (n : ℕ) (before wider : List (List ℤ)) (v : ℤ) → IsInside before wider →
      IsWithin (hull_of_spans (finish_spans b n wider v)) h → IsWithin (hull_of_spans (finish_spans b n before v)) h
  unfolding finish_spans
  finishes_in b is n before wider v a all =
      let f : ℕ → Span = λ q. finish_span_of b (standing_in b before v q) n in
      let g : ℕ → Span = λ q. finish_span_of b (standing_in b wider v q) n in
      all_in h (map f (states_of b))
      (all_range (λ t. IsWithin t h) f (length b.states) 0 (length b.states) (omega arith) (λ q lt.
      marked_in b.mark is n (finished_span b (spans_of (hull_at b before v q))) (finished_span b (spans_of (hull_at b wider v q)))
      (finished_within b _ _ (hull_grows b before wider v q a))
      (within_trans (g q) (hull_of_spans (map g (states_of b))) h
      (in_all (g q) (map g (states_of b)) (any_range (λ t. IsWithin (g q) t) g 0 (length b.states) q (omega arith) (omega (arith, lt)) (λ e k. k))) all)))

  glued_in : (p : Pair) → p.forward.mark ≡ mark → (n : ℕ) (before wider behind rest : List (List ℤ)) (v : ℤ) → IsInside before wider →
      IsInside behind rest →
      IsWithin (hull_of_spans (glued_spans p n wider rest v)) h → IsWithin (hull_of_spans (glued_spans p n before behind v)) h
  unfolding glued_spans
  glued_in p is n before wider behind rest v a c all =
      let f : ℕ → ℕ → Span = λ q r. glued_span p (standing_in p.forward before v q) (standing_in p.reverse behind v r) v n in
      let g : ℕ → ℕ → Span = λ q r. glued_span p (standing_in p.forward wider v q) (standing_in p.reverse rest v r) v n in
      let G : ℕ → List Span = λ q. map (g q) (states_of p.reverse) in
      all_in h (flat_map (λ q. map (f q) (states_of p.reverse)) (states_of p.forward))
      (all_flat_range (λ t. IsWithin t h) (λ q. map (f q) (states_of p.reverse)) (length p.forward.states) 0 (length p.forward.states) (omega arith) (λ q lt.
      all_range (λ t. IsWithin t h) (f q) (length p.reverse.states) 0 (length p.reverse.states) (omega arith) (λ r l.
      marked_in p.forward.mark is n
      (glue_span_at p (standing_in p.forward before v q) (standing_in p.reverse behind v r) v)
      (glue_span_at p (standing_in p.forward wider v q) (standing_in p.reverse rest v r) v)
      (glued_spans_grow p q r (spans_of (hull_at p.forward before v q)) (spans_of (hull_at p.reverse behind v r))
      (spans_of (hull_at p.forward wider v q)) (spans_of (hull_at p.reverse rest v r)) v
      (hull_grows p.forward before wider v q a) (hull_grows p.reverse behind rest v r c))
      (within_trans (g q r) (hull_of_spans (flat_map G (states_of p.forward))) h
      (in_all (g q r) (flat_map G (states_of p.forward)) (any_flat_range (λ t. IsWithin (g q r) t) G 0 (length p.forward.states) q (omega arith)
      (omega (arith, lt))
      (any_range (λ t. IsWithin (g q r) t) (g q) 0 (length p.reverse.states) r (omega arith) (omega (arith, l)) (λ e k. k)))) all))))

  by_pair : (b : Body) (o : Option Pair) → b.mark ≡ mark → IfSome o (λ p. p.forward ≡ b) → (k : ℕ) (cells wider : List (List ℤ)) (v : ℤ) →
      IsInside cells wider → IsWithin (hull_of_spans (spans_at b o k wider v)) h → IsWithin (hull_of_spans (spans_at b o k cells v)) h
  unfolding spans_at
  by_pair b None is s k cells wider v a all =
      finishes_in b is (length cells) (cells_before k cells) (cells_before k wider) v (within_reverse _ _ (within_take (k - 1) cells wider a))
      (subst (λ n. IsWithin (hull_of_spans (finish_spans b n (cells_before k wider) v)) h) (sym (same_length cells wider a)) all)
  by_pair b (Some p) is s k cells wider v a all =
      glued_in p (ap (λ z. z.mark) s ∙ is) (length cells) (cells_before k cells) (cells_before k wider) (cells_after k cells) (cells_after k wider) v
      (within_reverse _ _ (within_take (k - 1) cells wider a)) (within_drop k cells wider a)
      (subst (λ n. IsWithin (hull_of_spans (glued_spans p n (cells_before k wider) (cells_after k wider) v)) h) (sym (same_length cells wider a)) all)

  module _ (m : Automata) (is : m.forward.mark ≡ mark) (pair : IfSome m.pair (λ p. p.forward ≡ m.forward)) where
    value_in_inside : (k : ℕ) (cells wider : List (List ℤ)) (v : ℤ) → IsInside cells wider →
        IsWithin (inner_value_span m k wider v) h → IsWithin (inner_value_span m k cells v) h
    unfolding inner_value_span
    value_in_inside k cells wider v a all = by_pair m.forward m.pair is pair k cells wider v a all

    inner_in_inside : (cells wider : List (List ℤ)) → IsInside cells wider → (k : ℕ) → IsWithin (inner_span m k wider) h → IsWithin (inner_span m k cells) h
    unfolding inner_span
    inner_in_inside cells wider a k all =
        all_in h (map (inner_value_span m k cells) (values_at k cells))
        (all_mapped (λ t. IsWithin t h) (inner_value_span m k cells) (values_at k cells) (λ v c.
        value_in_inside k cells wider v a
        (within_trans (inner_value_span m k wider v) (hull_of_spans (map (inner_value_span m k wider) (values_at k wider))) h
        (in_all (inner_value_span m k wider v) (map (inner_value_span m k wider) (values_at k wider))
        (any_mapped (λ t. IsWithin (inner_value_span m k wider v) t) (inner_value_span m k wider) (values_at k wider) v
        (within_at (k - 1) cells wider a v c) (λ e q. q))) all)))

    pub term_in_inside : (cells wider : List (List ℤ)) → IsInside cells wider → (k : ℕ) → IsWithin (term_span m k wider) h → IsWithin (term_span m k cells) h
    unfolding term_span
    term_in_inside cells wider a k all =
        inner_in_inside (looked_at m.window cells) (looked_at m.window wider) (looked_within m.window cells wider a) (place_in m.window k) all

forward_of_pair : (b : Body) (o : Option Pair) → IfSome o (Splits b) → IfSome o (λ p. p.forward ≡ b)
forward_of_pair b None s = tt
forward_of_pair b (Some p) s = s.forward

-- where the mark leaves each answer as it is, the span of a smaller box lies in that of a larger one
pub smaller_within : (m : Automata) → AreAutomata m → m.forward.mark ≡ Same → (cells wider : List (List ℤ)) → IsInside cells wider → (k : ℕ) →
    IsWithin (term_span m k cells) (term_span m k wider)
smaller_within m are mark cells wider a k =
    let h = term_span m k wider in
    term_in_inside Same h (λ n s t w all. within_trans (marked_span Same n s) (marked_span Same n t) h (same_grows n s t w) all) m mark
    (forward_of_pair m.forward m.pair are.pair) cells wider a k (λ e p. p)

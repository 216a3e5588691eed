-- The hulls hold the registers of every run over a series of the box, and so the spans hold its answer.
use Rattle.std.proofs.Common.{◌≡◌, ℕ, zero, suc, ◌+◌, ◌-◌, ◌<◌, ◌≤◌, ◌⊎◌, inl, inr, ⊎_elim, ℤ, pos, Bool, true, false, cond, nat_eq, List, [], ◌∷◌, ◌++◌, length, map, take, drop, set, get_or, refl, sym, ap, ◌∙◌, subst, arith}
use Rattle.std.specs.Prelude.{IsTrue, fold, flat_map, reverse, Contains, Option, None, Some, IfSome}
use Rattle.std.specs.List.{range_with_len, AllByRecursion}
use Rattle.std.proofs.lemmas.Bool.{eq-eqb, eqb-true, eqb-false}
use Rattle.std.proofs.lemmas.List.{reverse-append, length-set, drop_all, get_or-set_same}
use Rattle.ts_base.specs.declared.ext.Ext.{Ext}
use Rattle.ts_base.specs.declared.span.Span.{Span}
use Rattle.ts_base.specs.declared.range.Range.{Range}
use Rattle.ts_base.specs.Limits.{most_cells}
use Rattle.ts_base.specs.Windows.{looked_at}
use Rattle.ts_base.specs.SpanLayer.{IsWithin}
use Rattle.ts_base.specs.Spans.{none_span, has_some, Holds, span_hull}
use Rattle.ts_base.proofs.SpanLaws.{holds_one, hull_left, hull_right}
use Rattle.ts_base.proofs.WindowLaws.{few_looked, each_looked}
use Rattle.ts_automaton.specs.declared.regs.Hull.{Hull}
use Rattle.ts_automaton.specs.Registers.{EachOf, spans_of, numbers}
use Rattle.ts_automaton.specs.Typing.{is_automaton}
use Rattle.ts_automaton.specs.Body.{Body}
use Rattle.ts_automaton.specs.AutomatonRun.{Standing, step_of, after, answer, finish_of, finish_value, under_mark, IsInMark, HoldsMark, AreCellValues}
use Rattle.ts_automaton.specs.SpanRun.{HoldsRegs, span_step, finished_span, finish_span_of}
use Rattle.ts_automaton.proofs.RunLaws.{steps_hold, finishes_hold, marks_hold}
use Rattle.ts_domain.specs.Values.{IsDomain, WithinLimits}
use Rattle.ts_domain.specs.BoxSeries.{InBox, IsBox}
use Rattle.ts_domain.specs.Boxes.{values_at}
use Rattle.ts_domain.proofs.Sets.{contains_cons}
use Rattle.ts_glue.specs.Pairs.{Pair}
use Rattle.ts_glue.specs.Glued.{glued_value, glued_span}
use Rattle.ts_glue.proofs.SpanGlue.{marked_spans_hold}
use Rattle.ts_glue.proofs.CallerLemmas.{after_back, after_stands, cut_at, answers_at_cuts}
use Rattle.ts_hull.specs.Hulls.{hull_of, none, hull_of_both}
use Rattle.ts_bound.specs.NextRow.{Source, source, standing_at, hull_from, next_hull, states_of}
use Rattle.ts_bound.specs.HullTables.{start_hull, hull_at, cells_before}
use Rattle.ts_bound.specs.TermSpans.{Automata, standing_in, finish_spans, glued_spans, spans_at, inner_value_span, inner_span, value_span, term_span, IsUsable, LooksIn}
use Rattle.ts_bound.specs.Laws.{Splits, AreAutomata, SpansHold, ValueSpansAreNarrowed}
use Rattle.ts_bound.specs.Looks.{is_looked, place_in}
use Rattle.ts_hull.proofs.HullLaws.{IsCanonical, hull_canonical}
use Rattle.ts_meet.specs.Meets.{hull_of_spans}
use Rattle.ts_bound.proofs.Looking.{looked_length, place_bounds, place_usable, looked_get, looked_set, looked_miss}

-- some element has a property
abbrev pub Any : {A : Type 0} → (A → Type 0) → List A → Type 0
Any P [] = ⊥
Any P (x ∷ xs) = P x ⊎ Any P xs

any_left : {A : Type 0} (P : A → Type 0) (xs ys : List A) → Any P xs → Any P (xs ++ ys)
any_left P [] ys h = absurd h
any_left P (x ∷ xs) ys h = ⊎_elim (λ p. inl p) (λ q. inr (any_left P xs ys q)) h

any_right : {A : Type 0} (P : A → Type 0) (xs ys : List A) → Any P ys → Any P (xs ++ ys)
any_right P [] ys h = h
any_right P (x ∷ xs) ys h = inr (any_right P xs ys h)

pub any_flat : {A : Type 0} (P : A → Type 0) (f : ℤ → List A) (us : List ℤ) (u : ℤ) → Contains us u → Any P (f u) → Any P (flat_map f us)
any_flat P f [] u c h = absurd (let l = c.1 in omega (arith, l))
any_flat P f (x ∷ us) u c h =
    ⊎_elim (λ e. any_left P (f x) (flat_map f us) (subst (λ y. Any P (f y)) (sym e) h)) (λ r. any_right P (f x) (flat_map f us) (any_flat P f us u r h))
    ((contains_cons x us u).0 c)

pub any_mapped : {A : Type 0} (P : A → Type 0) (f : ℤ → A) (us : List ℤ) (u : ℤ) → Contains us u → P (f u) → Any P (map f us)
any_mapped P f [] u c h = absurd (let l = c.1 in omega (arith, l))
any_mapped P f (x ∷ us) u c h =
    ⊎_elim (λ e. inl (subst (λ y. P (f y)) (sym e) h)) (λ r. inr (any_mapped P f us u r h)) ((contains_cons x us u).0 c)

above : (q p : ℕ) → q ≤ p → (q ≡ p → ⊥) → q + 1 ≤ p
above q p le ne = omega (arith, le, ne)

pub any_range : {A : Type 0} (P : A → Type 0) (f : ℕ → A) (q n p : ℕ) → q ≤ p → p < q + n → P (f p) → Any P (map f (range_with_len q n))
any_range P f q zero p low high h = absurd (omega (arith, low, high))
any_range P f q (suc n) p low high h = go (λ l. any_range P f (q + 1) n p l (omega (arith, high)) h) (nat_eq q p) refl
  where
    go : (q + 1 ≤ p → Any P (map f (range_with_len (q + 1) n))) → (t : Bool) → nat_eq q p ≡ t → P (f q) ⊎ Any P (map f (range_with_len (q + 1) n))
    go later true e = inl (subst (λ k. P (f k)) (sym (eqb-true q p e)) h)
    go later false e = inr (later (above q p low (eqb-false q p e)))

pub any_flat_range : {A : Type 0} (P : A → Type 0) (f : ℕ → List A) (q n p : ℕ) → q ≤ p → p < q + n → Any P (f p) → Any P (flat_map f (range_with_len q n))
any_flat_range P f q zero p low high h = absurd (omega (arith, low, high))
any_flat_range P f q (suc n) p low high h = go (λ l. any_flat_range P f (q + 1) n p l (omega (arith, high)) h) (nat_eq q p) refl
  where
    go : (q + 1 ≤ p → Any P (flat_map f (range_with_len (q + 1) n))) → (t : Bool) → nat_eq q p ≡ t → Any P (f q ++ flat_map f (range_with_len (q + 1) n))
    go later true e = any_left P (f q) (flat_map f (range_with_len (q + 1) n)) (subst (λ k. Any P (f k)) (sym (eqb-true q p e)) h)
    go later false e = any_right P (f q) (flat_map f (range_with_len (q + 1) n)) (later (above q p low (eqb-false q p e)))

pub any_of_map : {A B : Type 0} (P : B → Type 0) (f : A → B) (xs : List A) → Any (λ x. P (f x)) xs → Any P (map f xs)
any_of_map P f [] h = h
any_of_map P f (x ∷ xs) h = ⊎_elim (λ p. inl p) (λ q. inr (any_of_map P f xs q)) h

-- the hull of several holds what one of them holds

both_left : (h k : Hull) (s : EachOf Ext) → HoldsRegs (spans_of h) s → HoldsRegs (spans_of (hull_of_both h k)) s
unfolding hull_of_both
both_left h k s p =
    (hull_left h.c k.c s.c p.0, hull_left h.e k.e s.e p.1, hull_left h.d k.d s.d p.2, hull_left h.f k.f s.f p.3, hull_left h.r k.r s.r p.4)

both_right : (h k : Hull) (s : EachOf Ext) → HoldsRegs (spans_of k) s → HoldsRegs (spans_of (hull_of_both h k)) s
unfolding hull_of_both
both_right h k s p =
    (hull_right h.c k.c s.c p.0, hull_right h.e k.e s.e p.1, hull_right h.d k.d s.d p.2, hull_right h.f k.f s.f p.3, hull_right h.r k.r s.r p.4)

fold_keeps : (s : EachOf Ext) (hs : List Hull) (h : Hull) → HoldsRegs (spans_of h) s → HoldsRegs (spans_of (fold hull_of_both h hs)) s
fold_keeps s [] h p = p
fold_keeps s (k ∷ hs) h p = fold_keeps s hs (hull_of_both h k) (both_left h k s p)

fold_takes : (s : EachOf Ext) (hs : List Hull) (h : Hull) → Any (λ k. HoldsRegs (spans_of k) s) hs → HoldsRegs (spans_of (fold hull_of_both h hs)) s
fold_takes s [] h p = absurd p
fold_takes s (k ∷ hs) h p = ⊎_elim (λ q. fold_keeps s hs (hull_of_both h k) (both_right h k s q)) (λ q. fold_takes s hs (hull_of_both h k) q) p

spans_keep : (e : Ext) (ss : List Span) (s : Span) → Holds s e → Holds (fold span_hull s ss) e
spans_keep e [] s h = h
spans_keep e (t ∷ ss) s h = spans_keep e ss (span_hull s t) (hull_left s t e h)

pub spans_take : (e : Ext) (ss : List Span) (s : Span) → Any (λ t. Holds t e) ss → Holds (fold span_hull s ss) e
spans_take e [] s h = absurd h
spans_take e (t ∷ ss) s h = ⊎_elim (λ p. spans_keep e ss (span_hull s t) (hull_right s t e p)) (λ q. spans_take e ss (span_hull s t) q) h

-- a run over cells that are given by the nearest first
abbrev pub run : Body → ℤ → List ℤ → Standing Ext
run b v vs = after b (reverse (v ∷ vs))

-- what a hull gives where its move leads holds the registers after the move
given_holds : (b : Body) (u v : ℤ) (s : Standing Ext) (h : Hull) → HoldsRegs (spans_of h) s.regs →
    HoldsRegs (spans_of (hull_from b v (step_of b s u v).state (source u s.state h))) (step_of b s u v).regs
unfolding hull_from
given_holds b u v s h k =
    let to = span_step b (standing_at (source u s.state h)) u v in
    subst (λ t. HoldsRegs (spans_of (cond t (hull_of to.regs) none)) (step_of b s u v).regs) (sym (eq-eqb to.state (step_of b s u v).state refl))
    (steps_hold b s.state s.regs (spans_of h) u v k).1

all_hold : (b : Body) (v : ℤ) (to : Standing Ext) (ss : List Source) → Any (λ t. HoldsRegs (spans_of (hull_from b v to.state t)) to.regs) ss →
    HoldsRegs (spans_of (next_hull b ss v to.state)) to.regs
unfolding next_hull
all_hold b v to ss h = fold_takes to.regs (map (hull_from b v to.state) ss) none
    (any_of_map (λ k. HoldsRegs (spans_of k) to.regs) (hull_from b v to.state) ss h)

-- the hull at the state of a run holds its registers
pub hulls_hold : (b : Body) → IsTrue (is_automaton b) → (before : List (List ℤ)) (vs : List ℤ) (v : ℤ) → InBox vs before →
    HoldsRegs (spans_of (hull_at b before v (run b v vs).state)) (run b v vs).regs
unfolding hull_at start_hull
hulls_hold b rules [] [] v h = (holds_one b.start.c, holds_one b.start.e, holds_one b.start.d, holds_one b.start.f, holds_one b.start.r)
hulls_hold b rules [] (u ∷ vs) v h = absurd h
hulls_hold b rules (us ∷ before) [] v h = absurd h
hulls_hold b rules (us ∷ before) (u ∷ vs) v h =
    let s = run b u vs in
    let to = step_of b s u v in
    let P : Source → Type 0 = λ t. HoldsRegs (spans_of (hull_from b v to.state t)) to.regs in
    let f : ℤ → List Source = λ x. map (λ p. source x p (hull_at b before x p)) (states_of b) in
    let stands = after_stands b rules (reverse (u ∷ vs)) in
    let one : Any P (f u) = any_range P (λ p. source u p (hull_at b before u p)) 0 (length b.states) s.state (omega arith)
    (let e = stands.exists in omega (arith, e))
    (given_holds b u v s (hull_at b before u s.state) (hulls_hold b rules before vs u h.1)) in
    subst (λ t. HoldsRegs (spans_of (hull_at b (us ∷ before) v t.state)) t.regs) (sym (after_back b v u vs))
    (all_hold b v to (flat_map f us) (any_flat P f us u h.0 one))

-- series of a box, cut at a cell

contained : (P : ℤ → Type 0) (xs : List ℤ) (v : ℤ) → AllByRecursion P xs → Contains xs v → P v
contained P [] v h c = absurd (let l = c.1 in omega (arith, l))
contained P (x ∷ xs) v h c = ⊎_elim (λ e. subst P e h.0) (λ r. contained P xs v h.1 r) ((contains_cons x xs v).0 c)

pub within_limits : (xs : List ℤ) (cells : List (List ℤ)) → IsBox cells → InBox xs cells → AreCellValues xs
within_limits [] [] b h = tt
within_limits [] (d ∷ cells) b h = absurd h
within_limits (x ∷ xs) [] b h = absurd h
within_limits (x ∷ xs) (d ∷ cells) b h = (contained WithinLimits d x b.0.within h.0, within_limits xs cells b.1 h.1)

pub box_length : (xs : List ℤ) (cells : List (List ℤ)) → InBox xs cells → length xs ≡ length cells
box_length [] [] h = refl
box_length [] (d ∷ cells) h = absurd h
box_length (x ∷ xs) [] h = absurd h
box_length (x ∷ xs) (d ∷ cells) h = ap suc (box_length xs cells h.1)

box_append : (xs ys : List ℤ) (cs ds : List (List ℤ)) → InBox xs cs → InBox ys ds → InBox (xs ++ ys) (cs ++ ds)
box_append [] ys [] ds h k = k
box_append [] ys (c ∷ cs) ds h k = absurd h
box_append (x ∷ xs) ys [] ds h k = absurd h
box_append (x ∷ xs) ys (c ∷ cs) ds h k = (h.0, box_append xs ys cs ds h.1 k)

box_reverse : (xs : List ℤ) (cs : List (List ℤ)) → InBox xs cs → InBox (reverse xs) (reverse cs)
box_reverse [] [] h = tt
box_reverse [] (c ∷ cs) h = absurd h
box_reverse (x ∷ xs) [] h = absurd h
box_reverse (x ∷ xs) (c ∷ cs) h =
    subst (λ z. InBox z (reverse (c ∷ cs))) (sym (reverse-append (x ∷ []) xs))
    (subst (InBox (reverse xs ++ x ∷ [])) (sym (reverse-append (c ∷ []) cs))
    (box_append (reverse xs) (x ∷ []) (reverse cs) (c ∷ []) (box_reverse xs cs h.1) (h.0, tt)))

box_take : (i : ℕ) (xs : List ℤ) (cs : List (List ℤ)) → InBox xs cs → InBox (take i xs) (take i cs)
box_take zero xs cs h = tt
box_take (suc i) [] [] h = tt
box_take (suc i) [] (c ∷ cs) h = absurd h
box_take (suc i) (x ∷ xs) [] h = absurd h
box_take (suc i) (x ∷ xs) (c ∷ cs) h = (h.0, box_take i xs cs h.1)

box_drop : (i : ℕ) (xs : List ℤ) (cs : List (List ℤ)) → InBox xs cs → InBox (drop i xs) (drop i cs)
box_drop zero xs cs h = h
box_drop (suc i) [] [] h = tt
box_drop (suc i) [] (c ∷ cs) h = absurd h
box_drop (suc i) (x ∷ xs) [] h = absurd h
box_drop (suc i) (x ∷ xs) (c ∷ cs) h = box_drop i xs cs h.1

box_at : (i : ℕ) (xs : List ℤ) (cs : List (List ℤ)) → i < length cs → InBox xs cs → Contains (get_or cs i []) (get_or xs i (pos 0))
box_at i [] [] l h = absurd (omega (arith, l))
box_at i [] (c ∷ cs) l h = absurd h
box_at i (x ∷ xs) [] l h = absurd h
box_at zero (x ∷ xs) (c ∷ cs) l h = h.0
box_at (suc i) (x ∷ xs) (c ∷ cs) l h = box_at i xs cs (omega (arith, l)) h.1

-- the run from the first cell to that after `before`, as a run by the nearest first
pub turned : (before : List ℤ) (x : ℤ) → reverse (x ∷ reverse before) ≡ before ++ x ∷ []
turned before x = reverse-append (x ∷ []) (reverse before) ∙ ap (λ z. z ++ x ∷ []) (twice before)
  where
    twice : (ys : List ℤ) → reverse (reverse ys) ≡ ys
    twice [] = refl
    twice (y ∷ ys) = ap reverse (reverse-append (y ∷ []) ys) ∙ reverse-append (reverse ys) (y ∷ []) ∙ ap (λ z. y ∷ z) (twice ys)

-- the state and its hull at the end of a run over the cells before and the cell of the value v
abbrev pub HoldsRun : Body → List (List ℤ) → ℤ → Standing Ext → Type 0
HoldsRun b before v s = (s.state < length b.states) × HoldsRegs (spans_of (hull_at b before v s.state)) s.regs

pub run_held : (b : Body) → IsTrue (is_automaton b) → (before : List (List ℤ)) (vs : List ℤ) (v : ℤ) → InBox vs before → HoldsRun b before v (run b v vs)
run_held b rules before vs v h = ((after_stands b rules (reverse (v ∷ vs))).exists, hulls_hold b rules before vs v h)

-- the span at a value holds the answer of each series with that value there
module _ (m : Automata) (under_mark : HoldsMark m.forward) (cells : List (List ℤ)) (few : length cells ≤ most_cells) (box : IsBox cells) (xs : List ℤ)
    (inside : InBox xs cells) where
  n_is : length cells ≡ length xs
  n_is = sym (box_length xs cells inside)

  promise : 1 ≤ length cells → IsInMark m.forward.mark (length cells) (answer m.forward xs)
  promise some =
      subst (λ n. IsInMark m.forward.mark n (answer m.forward xs)) (sym n_is)
      (under_mark xs (subst (λ n. 1 ≤ n) n_is some) (subst (λ n. n ≤ most_cells) n_is few) (within_limits xs cells box inside))

  -- the finish spans at the last cell hold the answer, of an automaton alone
  finish_holds : IsTrue (is_automaton m.forward) → (i : ℕ) → length cells ≡ suc i →
      Any (λ t. Holds t (answer m.forward xs)) (finish_spans m.forward (length cells) (reverse (take i cells)) (get_or xs i (pos 0)))
  unfolding finish_spans
  finish_holds rules i last =
      let b = m.forward in
      let x = get_or xs i (pos 0) in
      let before = take i xs in
      let n = length cells in
      let s = after b (before ++ x ∷ []) in
      let h : HoldsRun b (reverse (take i cells)) x s =
      subst (λ z. HoldsRun b (reverse (take i cells)) x (after b z)) (turned before x)
      (run_held b rules (reverse (take i cells)) (reverse before) x (box_reverse before (take i cells) (box_take i xs cells inside))) in
      let whole : before ++ x ∷ [] ≡ xs =
      ap (λ t. before ++ x ∷ t) (sym (drop_all (suc i) xs (let l = n_is in omega (arith, last, l))))
      ∙ cut_at xs i (pos 0) (let l = n_is in omega (arith, last, l)) in
      let e : finish_of b s n ≡ answer b xs = ap (λ z. finish_of b (after b z) n) whole ∙ ap (finish_of b (after b xs)) n_is in
      let p : IsInMark b.mark n (finish_of b s n) = subst (IsInMark b.mark n) (sym e) (promise (omega (arith, last))) in
      let one : Holds (finish_span_of b (standing_in b (reverse (take i cells)) x s.state) n) (finish_of b s n) =
      marks_hold b.mark n (finished_span b (spans_of (hull_at b (reverse (take i cells)) x s.state))) (finish_value numbers b s.regs)
      (finishes_hold b s.regs (spans_of (hull_at b (reverse (take i cells)) x s.state)) h.1) p in
      any_range (λ t. Holds t (answer b xs)) (λ q. finish_span_of b (standing_in b (reverse (take i cells)) x q) n) 0 (length b.states) s.state (omega arith)
      (let l = h.0 in omega (arith, l)) (subst (Holds (finish_span_of b (standing_in b (reverse (take i cells)) x s.state) n)) e one)

  -- the glued spans at any cell hold the answer, where there is a pair
  glued_hold : IsTrue (is_automaton m.forward) → (p : Pair) → Splits m.forward p → (i : ℕ) → i < length cells →
      Any (λ t. Holds t (answer m.forward xs)) (glued_spans p (length cells) (reverse (take i cells)) (drop (suc i) cells) (get_or xs i (pos 0)))
  unfolding glued_spans
  glued_hold rules p splits i below =
      let b = p.forward in
      let r = p.reverse in
      let x = get_or xs i (pos 0) in
      let before = take i xs in
      let rest = drop (suc i) xs in
      let n = length cells in
      let left = after b (before ++ x ∷ []) in
      let right = after r (reverse (x ∷ rest)) in
      let l = n_is in
      let forward_rules : IsTrue (is_automaton b) = subst (λ z. IsTrue (is_automaton z)) (sym splits.forward) rules in
      let h : HoldsRun b (reverse (take i cells)) x left =
      subst (λ z. HoldsRun b (reverse (take i cells)) x (after b z)) (turned before x)
      (run_held b forward_rules (reverse (take i cells)) (reverse before) x (box_reverse before (take i cells) (box_take i xs cells inside))) in
      let k : HoldsRun r (drop (suc i) cells) x right = run_held r splits.reverse (drop (suc i) cells) rest x (box_drop (suc i) xs cells inside) in
      let whole : before ++ x ∷ rest ≡ xs = cut_at xs i (pos 0) (omega (arith, below, l)) in
      let is_answer : glued_value p left right x n ≡ answer m.forward xs =
      ap (λ z. glued_value p left right x z) (n_is ∙ ap length (sym whole))
      ∙ answers_at_cuts most_cells p splits.local before x rest (subst (λ z. length z ≤ most_cells) (sym whole) (subst (λ z. z ≤ most_cells) n_is few))
      (subst AreCellValues (sym whole) (within_limits xs cells box inside))
      ∙ ap (answer b) whole ∙ ap (λ z. answer z xs) splits.forward in
      let mark_is : b.mark ≡ m.forward.mark = ap (λ z. z.mark) splits.forward in
      let q : IsInMark b.mark n (glued_value p left right x n) =
      subst (IsInMark b.mark n) (sym is_answer) (subst (λ z. IsInMark z n (answer m.forward xs)) (sym mark_is) (promise (omega (arith, below)))) in
      let one : Holds (glued_span p (standing_in b (reverse (take i cells)) x left.state) (standing_in r (drop (suc i) cells) x right.state) x n)
      (glued_value p left right x n) =
      marked_spans_hold p left.state right.state (spans_of (hull_at b (reverse (take i cells)) x left.state))
      (spans_of (hull_at r (drop (suc i) cells) x right.state))
      left.regs right.regs x n h.1 k.1 q in
      let P : Span → Type 0 = λ t. Holds t (answer m.forward xs) in
      any_flat_range P
      (λ q. map (λ s. glued_span p (standing_in b (reverse (take i cells)) x q) (standing_in r (drop (suc i) cells) x s) x n) (states_of r))
      0 (length b.states) left.state (omega arith) (let c = h.0 in omega (arith, c))
      (any_range P (λ s. glued_span p (standing_in b (reverse (take i cells)) x left.state) (standing_in r (drop (suc i) cells) x s) x n)
      0 (length r.states) right.state (omega arith) (let c = k.0 in omega (arith, c))
      (subst (Holds (glued_span p (standing_in b (reverse (take i cells)) x left.state) (standing_in r (drop (suc i) cells) x right.state) x n))
      is_answer one))

  at_value : IsTrue (is_automaton m.forward) → (pair : Option Pair) → IfSome pair (Splits m.forward) → (k : ℕ) → 1 ≤ k → k ≤ length cells →
      (pair ≡ None → k ≡ length cells) →
      Any (λ t. Holds t (answer m.forward xs)) (spans_at m.forward pair k cells (get_or xs (k - 1) (pos 0)))
  unfolding spans_at
  at_value rules None splits k some to last =
      let e = last refl in finish_holds rules (k - 1) (omega (arith, e, some))
  at_value rules (Some p) splits k some to last =
      let back : suc (k - 1) ≡ k = omega (arith, some) in
      subst (λ j. Any (λ t. Holds t (answer m.forward xs)) (glued_spans p (length cells) (cells_before k cells) (drop j cells)
      (get_or xs (k - 1) (pos 0)))) back
      (glued_hold rules p splits (k - 1) (omega (arith, back, to)))

  pub value_holds : AreAutomata m → (k : ℕ) → IsUsable m k cells → Holds (inner_value_span m k cells (get_or xs (k - 1) (pos 0))) (answer m.forward xs)
  unfolding inner_value_span
  value_holds are k usable =
      spans_take (answer m.forward xs) (spans_at m.forward m.pair k cells (get_or xs (k - 1) (pos 0))) none_span
      (at_value are.forward m.pair are.pair k usable.from usable.to usable.last)

  pub inner_holds : AreAutomata m → (k : ℕ) → IsUsable m k cells → Holds (inner_span m k cells) (answer m.forward xs)
  unfolding inner_span
  inner_holds are k usable =
      let from = usable.from in
      let to = usable.to in
      spans_take (answer m.forward xs) (map (inner_value_span m k cells) (values_at k cells)) none_span
      (any_mapped (λ t. Holds t (answer m.forward xs)) (inner_value_span m k cells) (values_at k cells) (get_or xs (k - 1) (pos 0))
      (box_at (k - 1) xs cells (omega (arith, from, to)) inside) (value_holds are k usable))

looked_box : (w : Option Range) (xs : List ℤ) (cells : List (List ℤ)) → InBox xs cells → InBox (looked_at w xs) (looked_at w cells)
looked_box None xs cells h = h
looked_box (Some r) xs cells h = box_take (r.last - (r.first - 1)) (drop (r.first - 1) xs) (drop (r.first - 1) cells) (box_drop (r.first - 1) xs cells h)

pub spans_hold : SpansHold
unfolding term_span
spans_hold m are under_mark cells few box looks k usable xs inside =
    let w = m.window in
    let fewer = few_looked w cells looks in
    inner_holds m under_mark (looked_at w cells) (omega (arith, fewer, few)) (each_looked IsDomain w cells box) (looked_at w xs)
    (looked_box w xs cells inside) are (place_in w k) (place_usable m k cells looks usable)

pub inner_within : (m : Automata) (cells : List (List ℤ)) (k : ℕ) (v : ℤ) → Contains (values_at k cells) v →
    IsWithin (inner_value_span m k cells v) (inner_span m k cells)
unfolding inner_span
inner_within m cells k v c e h =
    spans_take e (map (inner_value_span m k cells) (values_at k cells)) none_span
    (any_mapped (λ t. Holds t e) (inner_value_span m k cells) (values_at k cells) v c h)

-- the span of the box with one value alone at a cell lies in that of the whole box
pub values_within : (m : Automata) (cells : List (List ℤ)) → LooksIn m cells → (k : ℕ) (v : ℤ) → Contains (values_at k cells) v →
    IsWithin (value_span m k cells v) (term_span m k cells)
unfolding value_span term_span
values_within m cells looks k v c = go (is_looked m.window k) refl
  where
    w : Option Range
    w = m.window

    s : Span
    s = inner_span m (place_in w k) (looked_at w cells)

    go : (t : Bool) → is_looked w k ≡ t → IsWithin (cond t (inner_value_span m (place_in w k) (looked_at w cells) v) s) s
    go true is = inner_within m (looked_at w cells) (place_in w k) v (subst (λ d. Contains d v) (sym (looked_get cells k w [] looks is)) c)
    go false is = λ e h. h

-- the box with one value alone at a cell

before_set : (i : ℕ) (cells : List (List ℤ)) (d : List ℤ) → take i (set cells i d) ≡ take i cells
before_set zero cells d = refl
before_set (suc i) [] d = refl
before_set (suc i) (c ∷ cells) d = ap (λ l. c ∷ l) (before_set i cells d)

after_set : (i : ℕ) (cells : List (List ℤ)) (d : List ℤ) → drop (suc i) (set cells i d) ≡ drop (suc i) cells
after_set i [] d = refl
after_set zero (c ∷ cells) d = refl
after_set (suc i) (c ∷ cells) d = after_set i cells d

-- the spans at a value of cell k don't look at the set of that cell
spans_same : (b : Body) (pair : Option Pair) (k : ℕ) (cells : List (List ℤ)) (d : List ℤ) (v : ℤ) → 1 ≤ k →
    spans_at b pair k (set cells (k - 1) d) v ≡ spans_at b pair k cells v
unfolding spans_at
spans_same b None k cells d v some =
    ap (λ n. finish_spans b n (reverse (take (k - 1) (set cells (k - 1) d))) v) (length-set cells (k - 1) d)
    ∙ ap (λ t. finish_spans b (length cells) (reverse t) v) (before_set (k - 1) cells d)
spans_same b (Some p) k cells d v some =
    let back : suc (k - 1) ≡ k = omega (arith, some) in
    ap (λ n. glued_spans p n (reverse (take (k - 1) (set cells (k - 1) d))) (drop k (set cells (k - 1) d)) v) (length-set cells (k - 1) d)
    ∙ ap (λ t. glued_spans p (length cells) (reverse t) (drop k (set cells (k - 1) d)) v) (before_set (k - 1) cells d)
    ∙ ap (glued_spans' p) (ap (λ j. drop j (set cells (k - 1) d)) (sym back) ∙ after_set (k - 1) cells d ∙ ap (λ j. drop j cells) back)
  where
    glued_spans' : Pair → List (List ℤ) → List Span
    glued_spans' p t = glued_spans p (length cells) (reverse (take (k - 1) cells)) t v

value_same : (m : Automata) (k : ℕ) (cells : List (List ℤ)) (d : List ℤ) (v : ℤ) → 1 ≤ k →
    inner_value_span m k (set cells (k - 1) d) v ≡ inner_value_span m k cells v
unfolding inner_value_span
value_same m k cells d v some = ap hull_of_spans (spans_same m.forward m.pair k cells d v some)

all_canonical : (ss : List Span) (s : Span) → IsCanonical s → IsCanonical (fold span_hull s ss)
all_canonical [] s h = h
all_canonical (t ∷ ss) s h = all_canonical ss (span_hull s t) (hull_canonical s t)

value_canonical : (m : Automata) (k : ℕ) (cells : List (List ℤ)) (v : ℤ) → IsCanonical (inner_value_span m k cells v)
unfolding inner_value_span
value_canonical m k cells v = all_canonical (spans_at m.forward m.pair k cells v) none_span refl

none_before : (s : Span) → IsCanonical s → span_hull none_span s ≡ s
none_before s h = go (has_some s) refl
  where
    go : (t : Bool) → has_some s ≡ t → cond t s none_span ≡ s
    go true e = refl
    go false e = sym (ap (λ v. cond v s none_span) e) ∙ h

pub inner_narrowed : (m : Automata) (cells : List (List ℤ)) (k : ℕ) → 1 ≤ k → k ≤ length cells → (v : ℤ) →
    inner_span m k (set cells (k - 1) (v ∷ [])) ≡ inner_value_span m k cells v
unfolding inner_span
inner_narrowed m cells k some to v =
    let here : get_or (set cells (k - 1) (v ∷ [])) (k - 1) [] ≡ v ∷ [] = get_or-set_same cells (k - 1) (v ∷ []) [] (omega (arith, some, to)) in
    ap (λ d. hull_of_spans (map (inner_value_span m k (set cells (k - 1) (v ∷ []))) d)) here
    ∙ ap (λ s. span_hull none_span s) (value_same m k cells (v ∷ []) v some) ∙ none_before (inner_value_span m k cells v) (value_canonical m k cells v)

pub values_narrowed : ValueSpansAreNarrowed
unfolding value_span term_span
values_narrowed m cells looks k some to v = go (is_looked m.window k) refl
  where
    w : Option Range
    w = m.window

    p : ℕ
    p = place_in w k

    go : (t : Bool) → is_looked w k ≡ t →
        inner_span m p (looked_at w (set cells (k - 1) (v ∷ []))) ≡ cond t (inner_value_span m p (looked_at w cells) v) (inner_span m p (looked_at w cells))
    go true is =
        let b = place_bounds w (length cells) k looks some to in
        ap (inner_span m p) (looked_set cells k w (v ∷ []) looks is)
        ∙ inner_narrowed m (looked_at w cells) p b.0 (subst (λ n. p ≤ n) (sym (looked_length w cells looks)) b.1) v
    go false is = ap (inner_span m p) (looked_miss cells k w (v ∷ []) looks some is)

-- On a box of one series the span at the last cell is exactly its answer.
use Rattle.std.proofs.Common.{◌≡◌, subst, ℕ, zero, suc, ◌+◌, ◌-◌, ◌<◌, ◌≤◌, ℤ, pos, Bool, true, false, cond, nat_eq, List, [], ◌∷◌, ◌++◌, length, map, take, get_or, refl, sym, ap, ◌∙◌, arith}
use Rattle.std.specs.Prelude.{IsTrue, fold, reverse}
use Rattle.std.specs.List.{range_with_len}
use Rattle.std.proofs.lemmas.Bool.{eqb-true, eqb-false}
use Rattle.std.proofs.lemmas.List.{append-nil, length-map, get_or-map, reverse-append, drop_all}
use Rattle.ts_base.specs.declared.ext.Ext.{Ext}
use Rattle.ts_base.specs.Spans.{none_span, one_span, span_hull}
use Rattle.ts_base.specs.Windows.{LooksInside, looked_at}
use Rattle.ts_base.proofs.SpanLaws.{one_some}
use Rattle.ts_base.proofs.WindowLaws.{some_looked}
use Rattle.ts_automaton.specs.declared.regs.Hull.{Hull}
use Rattle.ts_automaton.specs.Registers.{EachOf, spans, spans_of}
use Rattle.ts_automaton.specs.Typing.{is_automaton}
use Rattle.ts_automaton.specs.Body.{Body}
use Rattle.ts_automaton.specs.AutomatonRun.{Standing, move_between, registers_after, step_of, after, answer, finish_of}
use Rattle.ts_automaton.specs.SpanRun.{none_hull, one_hull, finish_span_of}
use Rattle.ts_automaton.proofs.Five.{none_registers}
use Rattle.ts_automaton.proofs.RunLaws.{steps_stay_single, finishes_stay_single, nones_stay}
use Rattle.ts_domain.specs.Boxes.{values_at}
use Rattle.ts_glue.proofs.CallerLemmas.{after_back, after_stands, cut_at}
use Rattle.ts_hull.specs.Hulls.{hull_of, none, hull_of_both, hull_of_all}
use Rattle.ts_bound.specs.NextRow.{Source, source, hull_from, next_hull, states_of}
use Rattle.ts_bound.specs.HullTables.{start_hull, hull_at, cells_before}
use Rattle.ts_bound.specs.Looks.{place_in}
use Rattle.ts_bound.specs.TermSpans.{Automata, standing_in, finish_spans, inner_value_span, inner_span, term_span}
use Rattle.ts_bound.specs.Blocks.{last_at}
use Rattle.ts_bound.specs.Laws.{AreAutomata, SpansStaySingle}
use Rattle.ts_hull.proofs.HullLaws.{IsCanonical, some_canonical, same_hull}
use Rattle.ts_meet.specs.Meets.{hull_of_spans}
use Rattle.ts_bound.proofs.Looking.{looked_length, looked_map, place_end}
use Rattle.ts_bound.proofs.Reached.{run, turned}
use Rattle.ts_bound.proofs.SpanEnds.{last_value_ends, finishes_are}

-- a fold over a range in which one place alone isn't neutral

module _ {A : Type 0} (op : A → A → A) (z x : A) (zz : op z z ≡ z) (zx : op z x ≡ x) (xz : op x z ≡ x) (g : ℕ → A) (i : ℕ) (here : g i ≡ x)
    (other : (p : ℕ) → (p ≡ i → ⊥) → g p ≡ z) where
  fold_rest : (a n : ℕ) → i < a → fold op x (map g (range_with_len a n)) ≡ x
  fold_rest a zero h = refl
  fold_rest a (suc n) h =
      ap (λ t. fold op t (map g (range_with_len (a + 1) n))) (ap (op x) (other a (λ e. absurd (omega (arith, h, e)))) ∙ xz)
      ∙ fold_rest (a + 1) n (omega (arith, h))

  pub fold_only : (a n : ℕ) → a ≤ i → i < a + n → fold op z (map g (range_with_len a n)) ≡ x
  fold_only a zero low high = absurd (omega (arith, low, high))
  fold_only a (suc n) low high = go (λ l. fold_only (a + 1) n l (omega (arith, high))) (nat_eq a i) refl
    where
      go : (a + 1 ≤ i → fold op z (map g (range_with_len (a + 1) n)) ≡ x) → (t : Bool) → nat_eq a i ≡ t →
          fold op (op z (g a)) (map g (range_with_len (a + 1) n)) ≡ x
      go later true e =
          let s = eqb-true a i e in
          ap (λ k. fold op (op z (g k)) (map g (range_with_len (a + 1) n))) s ∙ ap (λ y. fold op (op z y) (map g (range_with_len (a + 1) n))) here
          ∙ ap (λ y. fold op y (map g (range_with_len (a + 1) n))) zx ∙ fold_rest (a + 1) n (omega (arith, s))
      go later false e =
          let ne = eqb-false a i e in
          ap (λ y. fold op (op z y) (map g (range_with_len (a + 1) n))) (other a ne) ∙ ap (λ y. fold op y (map g (range_with_len (a + 1) n))) zz
          ∙ later (omega (arith, low, ne))

-- hulls of single registers, and none

one_canonical : (e : Ext) → IsCanonical (one_span e)
one_canonical e = some_canonical (one_span e) (one_some e)

none_one : (e : Ext) → span_hull none_span (one_span e) ≡ one_span e
none_one e = ap (λ v. cond v (one_span e) none_span) (one_some e)

abbrev pub only_where : Bool → EachOf Ext → Hull
only_where t s = cond t (hull_of (one_hull s)) none

both_none : (t : Bool) (s : EachOf Ext) → hull_of_both none (only_where t s) ≡ only_where t s
unfolding hull_of_both
both_none true s = same_hull (none_one s.c) (none_one s.e) (none_one s.d) (none_one s.f) (none_one s.r)
both_none false s = refl

none_both : (t : Bool) (s : EachOf Ext) → hull_of_both (only_where t s) none ≡ only_where t s
unfolding hull_of_both
none_both true s = same_hull (one_canonical s.c) (one_canonical s.e) (one_canonical s.d) (one_canonical s.f) (one_canonical s.r)
none_both false s = refl

nones : hull_of_both none none ≡ none
unfolding hull_of_both
nones = refl

-- each cell with one value
abbrev pub alone : List ℤ → List (List ℤ)
alone xs = map (λ x. x ∷ []) xs

cond_none : (t : Bool) → cond t none none ≡ none
cond_none true = refl
cond_none false = refl

given_none : (b : Body) (v : ℤ) (q : ℕ) (u : ℤ) (p : ℕ) → hull_from b v q (source u p none) ≡ none
unfolding hull_from
given_none b v q u p =
    let m = move_between b p u v in
    ap (λ t. cond (nat_eq m.next q) (hull_of (cond t (registers_after spans (spans_of none) u v m) none_hull)) none) none_registers
    ∙ cond_none (nat_eq m.next q)

given_one : (b : Body) (v : ℤ) (q : ℕ) (u : ℤ) (s : Standing Ext) →
    hull_from b v q (source u s.state (hull_of (one_hull s.regs))) ≡ only_where (nat_eq (step_of b s u v).state q) (step_of b s u v).regs
unfolding hull_from
given_one b v q u s = ap (λ t. cond (nat_eq t.state q) (hull_of t.regs) none) (steps_stay_single b s.state s.regs u v)

zero_first : (q : ℕ) → nat_eq q 0 ≡ nat_eq 0 q
zero_first q = go (nat_eq q 0) (nat_eq 0 q) refl refl
  where
    go : (s t : Bool) → nat_eq q 0 ≡ s → nat_eq 0 q ≡ t → s ≡ t
    go true true e f = refl
    go false false e f = refl
    go true false e f = absurd (eqb-false 0 q f (sym (eqb-true q 0 e)))
    go false true e f = absurd (eqb-false q 0 e (sym (eqb-true 0 q f)))

same_place : (p : ℕ) → nat_eq p p ≡ true
same_place p = go (nat_eq p p) refl
  where
    go : (t : Bool) → nat_eq p p ≡ t → nat_eq p p ≡ true
    go true e = e
    go false e = absurd (eqb-false p p e refl)

not_place : (r p : ℕ) → (p ≡ r → ⊥) → nat_eq r p ≡ false
not_place r p ne = go (nat_eq r p) refl
  where
    go : (t : Bool) → nat_eq r p ≡ t → nat_eq r p ≡ false
    go true e = absurd (ne (sym (eqb-true r p e)))
    go false e = e

sum_of : (b : Body) (v : ℤ) (q : ℕ) (u : ℤ) (h : ℕ → Hull) (s : Standing Ext) → s.state < length b.states →
    ((p : ℕ) → h p ≡ only_where (nat_eq s.state p) s.regs) →
    next_hull b (map (λ p. source u p (h p)) (states_of b) ++ []) v q ≡ only_where (nat_eq (step_of b s u v).state q) (step_of b s u v).regs
unfolding next_hull
sum_of b v q u h s lt is =
    let to = step_of b s u v in
    let x = only_where (nat_eq to.state q) to.regs in
    let g : ℕ → Hull = λ p. hull_from b v q (source u p (h p)) in
    ap (λ l. hull_of_all (map (hull_from b v q) l)) (append-nil (map (λ p. source u p (h p)) (states_of b)))
    ∙ ap hull_of_all (twice (hull_from b v q) (λ p. source u p (h p)) (states_of b))
    ∙ fold_only hull_of_both none x nones (both_none (nat_eq to.state q) to.regs) (none_both (nat_eq to.state q) to.regs) g s.state
    (ap (λ k. hull_from b v q (source u s.state k)) (is s.state ∙ ap (λ t. only_where t s.regs) (same_place s.state)) ∙ given_one b v q u s)
    (λ p ne. ap (λ k. hull_from b v q (source u p k)) (is p ∙ ap (λ t. only_where t s.regs) (not_place s.state p ne)) ∙ given_none b v q u p)
    0 (length b.states) (omega arith) (omega (arith, lt))
  where
    twice : (f : Source → Hull) (g : ℕ → Source) (xs : List ℕ) → map f (map g xs) ≡ map (λ p. f (g p)) xs
    twice f g [] = refl
    twice f g (p ∷ xs) = ap (λ l. f (g p) ∷ l) (twice f g xs)

pub single_hull : (b : Body) → IsTrue (is_automaton b) → (vs : List ℤ) (v : ℤ) (q : ℕ) →
    hull_at b (alone vs) v q ≡ only_where (nat_eq (run b v vs).state q) (run b v vs).regs
unfolding hull_at start_hull
single_hull b rules [] v q = ap (λ t. only_where t b.start) (zero_first q)
single_hull b rules (u ∷ vs) v q =
    sum_of b v q u (hull_at b (alone vs) u) (run b u vs) (after_stands b rules (reverse (u ∷ vs))).exists (single_hull b rules vs u)
    ∙ ap (λ s. only_where (nat_eq s.state q) s.regs) (sym (after_back b v u vs))

-- a series of one value a cell

alone_reverse : (xs : List ℤ) → alone (reverse xs) ≡ reverse (alone xs)
alone_reverse [] = refl
alone_reverse (x ∷ xs) =
    ap alone (reverse-append (x ∷ []) xs) ∙ joined (reverse xs) (x ∷ []) ∙ ap (λ l. l ++ (x ∷ []) ∷ []) (alone_reverse xs)
    ∙ sym (reverse-append ((x ∷ []) ∷ []) (alone xs))
  where
    joined : (xs ys : List ℤ) → alone (xs ++ ys) ≡ alone xs ++ alone ys
    joined [] ys = refl
    joined (x ∷ xs) ys = ap (λ l. (x ∷ []) ∷ l) (joined xs ys)

alone_take : (i : ℕ) (xs : List ℤ) → take i (alone xs) ≡ alone (take i xs)
alone_take zero xs = refl
alone_take (suc i) [] = refl
alone_take (suc i) (x ∷ xs) = ap (λ l. (x ∷ []) ∷ l) (alone_take i xs)

-- the finish spans at the last cell
finishes_single : (b : Body) → IsTrue (is_automaton b) → (n : ℕ) (vs : List ℤ) (v : ℤ) →
    hull_of_spans (finish_spans b n (alone vs) v) ≡ one_span (finish_of b (run b v vs) n)
unfolding finish_spans
finishes_single b rules n vs v =
    let s = run b v vs in
    let x = one_span (finish_of b s n) in
    fold_only span_hull none_span x refl (none_one (finish_of b s n)) (one_canonical (finish_of b s n))
    (λ q. finish_span_of b (standing_in b (alone vs) v q) n) s.state
    (ap (λ h. finish_span_of b (record { state = s.state; regs = spans_of h }) n)
    (single_hull b rules vs v s.state ∙ ap (λ t. only_where t s.regs) (same_place s.state))
    ∙ finishes_stay_single b s.state s.regs n)
    (λ p ne. ap (λ h. finish_span_of b (record { state = p; regs = spans_of h }) n)
    (single_hull b rules vs v p ∙ ap (λ t. only_where t s.regs) (not_place s.state p ne))
    ∙ (nones_stay b p (spans_of none) none_registers).1 n)
    0 (length b.states) (omega arith) (let e = (after_stands b rules (reverse (v ∷ vs))).exists in omega (arith, e))

pub inner_single : (m : Automata) → AreAutomata m → (xs : List ℤ) → 1 ≤ length xs → inner_span m (length xs) (alone xs) ≡ one_span (answer m.forward xs)
unfolding inner_span last_at
inner_single m are xs some =
    let n = length xs in
    let i = n - 1 in
    let b = m.forward in
    let box = alone xs in
    let x = get_or xs i (pos 0) in
    let lt : i < n = omega (arith, some) in
    let last : n ≡ length box = sym (length-map xs (λ x. x ∷ [])) in
    let here : values_at n box ≡ x ∷ [] = get_or-map (λ x. x ∷ []) xs i (pos 0) [] lt in
    let before : cells_before n box ≡ alone (reverse (take i xs)) = ap reverse (alone_take i xs) ∙ sym (alone_reverse (take i xs)) in
    let whole : reverse (x ∷ reverse (take i xs)) ≡ xs =
    turned (take i xs) x ∙ ap (λ t. take i xs ++ x ∷ t) (sym (drop_all (suc i) xs (omega (arith, some)))) ∙ cut_at xs i (pos 0) lt in
    let value : inner_value_span m n box x ≡ one_span (answer b xs) =
    sym (last_value_ends m are n box x last) ∙ ap hull_of_spans (finishes_are b (cells_before n box) x (length box))
    ∙ ap (λ t. hull_of_spans (finish_spans b (length box) t x)) before ∙ finishes_single b are.forward (length box) (reverse (take i xs)) x
    ∙ ap (λ k. one_span (finish_of b (run b x (reverse (take i xs))) k)) (sym last) ∙ ap (λ ys. one_span (finish_of b (after b ys) n)) whole in
    ap (λ d. hull_of_spans (map (inner_value_span m n box) d)) here ∙ ap (span_hull none_span) value ∙ none_one (answer b xs)

pub spans_stay_single : SpansStaySingle
unfolding term_span
spans_stay_single m are xs some few limits looks =
    let w = m.window in
    let h : LooksInside (length xs) w = subst (λ n. LooksInside n w) (length-map xs (λ x. x ∷ [])) looks in
    let last : place_in w (length xs) ≡ length (looked_at w xs) = place_end w (length xs) h ∙ sym (looked_length w xs h) in
    ap (inner_span m (place_in w (length xs))) (looked_map (λ x. x ∷ []) w xs) ∙ ap (λ k. inner_span m k (alone (looked_at w xs))) last
    ∙ inner_single m are (looked_at w xs) (some_looked w xs some h)

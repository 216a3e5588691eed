-- Spans read off rows are those of the definitions; at the last cell the glued form is the finish form.
use Rattle.std.proofs.Common.{◌≡◌, ℕ, zero, suc, ◌+◌, ◌<◌, ◌≤◌, inr, ℤ, Bool, true, false, cond, nat_eq, List, [], ◌∷◌, ◌++◌, length, map, take, get_or, slice_get, refl, sym, ap, ◌∙◌, subst, arith}
use Rattle.std.specs.Prelude.{IsTrue, IsSome, fold, flat_map, Option, None, Some, IfSome, option_map}
use Rattle.std.specs.List.{range_with_len, AllByRecursion}
use Rattle.std.proofs.lemmas.Bool.{eqb-true}
use Rattle.std.proofs.lemmas.List.{drop_all, get_or-map, length-map, take_all}
use Rattle.std.proofs.lemmas.List.Sums.{fold-append, fold_more}
use Rattle.std.proofs.lemmas.List.FromFn.{get_or-map-range_with_len}
use Rattle.std.proofs.lemmas.Option.{get_or_from_slice_get}
use Rattle.ts_base.specs.declared.span.Span.{Span}
use Rattle.ts_base.specs.Limits.{IsCellValue}
use Rattle.ts_base.specs.Spans.{none_span, span_hull}
use Rattle.ts_base.specs.Windows.{looked_at}
use Rattle.ts_automaton.specs.declared.regs.Hull.{Hull}
use Rattle.ts_automaton.specs.Registers.{spans_of}
use Rattle.ts_automaton.specs.Typing.{is_automaton}
use Rattle.ts_automaton.specs.Body.{Body}
use Rattle.ts_automaton.specs.SpanRun.{has_registers, finish_span_of, one_hull}
use Rattle.ts_automaton.proofs.Five.{none_registers}
use Rattle.ts_automaton.proofs.Rules.{rules_of}
use Rattle.ts_domain.specs.BoxSeries.{IsBox}
use Rattle.ts_domain.specs.Boxes.{values_at}
use Rattle.ts_glue.specs.declared.machine.Machine.{Machine}
use Rattle.ts_glue.specs.declared.machine.Half.{Half}
use Rattle.ts_glue.specs.Pairs.{Pair, pair, table_view}
use Rattle.ts_glue.specs.Machines.{forward_of, pair_of, reverse_of}
use Rattle.ts_glue.specs.Glued.{glued_span}
use Rattle.ts_glue.specs.Rules.{keeps_rules}
use Rattle.ts_glue.proofs.SpanGlue.{none_glues_to_none}
use Rattle.ts_glue.proofs.TwoForms.{two_forms_agree}
use Rattle.ts_hull.specs.Hulls.{hull_of, none}
use Rattle.ts_bound.specs.NextRow.{states_of}
use Rattle.ts_bound.specs.HullTables.{start_hull, hull_at, hulls_at, cells_before, cells_after}
use Rattle.ts_bound.specs.TermSpans.{Automata, LooksIn, automata_of, standing_in, finish_spans, glued_spans, spans_at, inner_value_span, inner_span, value_span, term_span}
use Rattle.ts_bound.specs.Laws.{Splits, AreAutomata}
use Rattle.ts_meet.specs.declared.joints.Joints.{Joints}
use Rattle.ts_meet.specs.Joints.{AreJoints}
use Rattle.ts_meet.specs.Meets.{hull_of_spans}
use Rattle.ts_bound.specs.Blocks.{standing_of, finishes, glued_with, glued_all, back_hulls, back_states, split_at, last_at}
use Rattle.ts_bound.specs.Looks.{is_looked, read_at, place_in}
use Rattle.ts_hull.proofs.HullLaws.{IsCanonical, hull_canonical}
use Rattle.ts_bound.proofs.Looking.{looked_get, place_read, read_inside_box}
use Rattle.ts_bound.proofs.SpanRuns.{none_some, same_some}

-- lists over a range that agree at each place

same_range : {A : Type 0} (f g : ℕ → A) (a n m : ℕ) → a + n ≤ m → ((q : ℕ) → q < m → f q ≡ g q) → map f (range_with_len a n) ≡ map g (range_with_len a n)
same_range f g a zero m le h = refl
same_range f g a (suc n) m le h =
    ap (λ x. x ∷ map f (range_with_len (a + 1) n)) (h a (omega (arith, le))) ∙ ap (λ l. g a ∷ l) (same_range f g (a + 1) n m (omega (arith, le)) h)

same_flat : {A : Type 0} (f g : ℕ → List A) (a n m : ℕ) → a + n ≤ m → ((q : ℕ) → q < m → f q ≡ g q) →
    flat_map f (range_with_len a n) ≡ flat_map g (range_with_len a n)
same_flat f g a zero m le h = refl
same_flat f g a (suc n) m le h =
    ap (λ x. x ++ flat_map f (range_with_len (a + 1) n)) (h a (omega (arith, le))) ∙ ap (λ l. g a ++ l) (same_flat f g (a + 1) n m (omega (arith, le)) h)

pub standing_is : (b : Body) (before : List (List ℤ)) (v : ℤ) (q : ℕ) → q < length b.states → standing_of (hulls_at b before v) q ≡ standing_in b before v q
unfolding hulls_at
standing_is b before v q lt =
    ap (λ h. record { state = q; regs = spans_of h }) (get_or-map-range_with_len (hull_at b before v) 0 (length b.states) q q none lt (omega arith))

pub finishes_are : (b : Body) (before : List (List ℤ)) (v : ℤ) (n : ℕ) → finishes b (hulls_at b before v) n (length b.states) ≡ finish_spans b n before v
unfolding finishes finish_spans
finishes_are b before v n =
    same_range (λ q. finish_span_of b (standing_of (hulls_at b before v) q) n) (λ q. finish_span_of b (standing_in b before v q) n) 0 (length b.states)
    (length b.states) (omega arith) (λ q lt. ap (λ s. finish_span_of b s n) (standing_is b before v q lt))

glued_are : (p : Pair) (before behind : List (List ℤ)) (v : ℤ) (n : ℕ) →
    glued_all (Some p) (hulls_at p.forward before v) (hulls_at p.reverse behind v) v n (length p.reverse.states) (length p.forward.states) ≡
    glued_spans p n before behind v
unfolding glued_all glued_with glued_spans
glued_are p before behind v n =
    let L = hulls_at p.forward before v in
    let R = hulls_at p.reverse behind v in
    same_flat (λ q. map (λ r. glued_span p (standing_of L q) (standing_of R r) v n) (range_with_len 0 (length p.reverse.states)))
    (λ q. map (λ r. glued_span p (standing_in p.forward before v q) (standing_in p.reverse behind v r) v n) (range_with_len 0 (length p.reverse.states)))
    0 (length p.forward.states) (length p.forward.states) (omega arith)
    (λ q lt. ap (λ s. map (λ r. glued_span p s (standing_of R r) v n) (range_with_len 0 (length p.reverse.states))) (standing_is p.forward before v q lt)
    ∙ same_range (λ r. glued_span p (standing_in p.forward before v q) (standing_of R r) v n)
    (λ r. glued_span p (standing_in p.forward before v q) (standing_in p.reverse behind v r) v n) 0 (length p.reverse.states)
    (length p.reverse.states) (omega arith)
    (λ r l. ap (λ s. glued_span p (standing_in p.forward before v q) s v n) (standing_is p.reverse behind v r l)))

-- a pair that was made with the forward body
abbrev pub IsPairOf : Body → Option Pair → Type 0
IsPairOf b o = IfSome o (λ p. p.forward ≡ b)

split_is : (m : Automata) (k : ℕ) (cells : List (List ℤ)) (v : ℤ) → IsSome m.pair → IsPairOf m.forward m.pair →
    split_at m.forward m.pair k cells v ≡ inner_value_span m k cells v
unfolding split_at inner_value_span spans_at
split_is m k cells v some is = go m.forward m.pair some is
  where
    go : (b : Body) (o : Option Pair) → IsSome o → IsPairOf b o → split_at b o k cells v ≡ hull_of_spans (spans_at b o k cells v)
    go b None some is = cc
    go b (Some p) some is =
        ap (λ f. hull_of_spans (glued_all (Some p) (hulls_at f (cells_before k cells) v) (hulls_at p.reverse (cells_after k cells) v) v (length cells)
        (length p.reverse.states)
        (length f.states))) (sym is)
        ∙ ap hull_of_spans (glued_are p (cells_before k cells) (cells_after k cells) v (length cells))

pub split_value_ends : (m : Automata) (k : ℕ) (cells : List (List ℤ)) (v : ℤ) → IsSome m.pair → IsPairOf m.forward m.pair →
    split_at m.forward m.pair k cells v ≡ inner_value_span m k cells v
split_value_ends m k cells v some is = split_is m k cells v some is

-- at the last cell

fold_nones : (g : ℕ → Span) (s : Span) (a n : ℕ) → IsCanonical s → 1 ≤ a → ((r : ℕ) → 1 ≤ r → g r ≡ none_span) →
    fold span_hull s (map g (range_with_len a n)) ≡ s
fold_nones g s a zero can some h = refl
fold_nones g s a (suc n) can some h =
    ap (λ t. fold span_hull t (map g (range_with_len (a + 1) n))) (ap (span_hull s) (h a some) ∙ can) ∙ fold_nones g s (a + 1) n can (omega arith) h

fold_first : (g : ℕ → Span) (s : Span) (m : ℕ) → 1 ≤ m → ((r : ℕ) → 1 ≤ r → g r ≡ none_span) →
    fold span_hull s (map g (range_with_len 0 m)) ≡ span_hull s (g 0)
fold_first g s zero some h = absurd (omega (arith, some))
fold_first g s (suc m) some h = fold_nones g (span_hull s (g 0)) (0 + 1) m (hull_canonical s (g 0)) (omega arith) h

fold_each : (G : ℕ → List Span) (g : ℕ → Span) (a k : ℕ) (s : Span) → ((q : ℕ) (s : Span) → fold span_hull s (G q) ≡ span_hull s (g q)) →
    fold span_hull s (flat_map G (range_with_len a k)) ≡ fold span_hull s (map g (range_with_len a k))
fold_each G g a zero s h = refl
fold_each G g a (suc k) s h =
    fold-append span_hull s (G a) (flat_map G (range_with_len (a + 1) k)) ∙ ap (λ t. fold span_hull t (flat_map G (range_with_len (a + 1) k))) (h a s)
    ∙ fold_each G g (a + 1) k (span_hull s (g a)) h

pub two_forms : (p : Pair) → IsTrue (keeps_rules p) → 1 ≤ length p.reverse.states → (n : ℕ) (before : List (List ℤ)) (v : ℤ) →
    hull_of_spans (glued_spans p n before [] v) ≡ hull_of_spans (finish_spans p.forward n before v)
unfolding glued_spans finish_spans hull_at start_hull
two_forms p rules some n before v =
    fold_each (λ q. map (λ r. glued_span p (standing_in p.forward before v q) (standing_in p.reverse [] v r) v n) (states_of p.reverse))
    (λ q. finish_span_of p.forward (standing_in p.forward before v q) n) 0 (length p.forward.states) none_span
    (λ q s. fold_first (λ r. glued_span p (standing_in p.forward before v q) (standing_in p.reverse [] v r) v n) s (length p.reverse.states) some (others q)
    ∙ ap (span_hull s) (two_forms_agree p rules q (spans_of (hull_at p.forward before v q)) v n))
  where
    not_start : (r : ℕ) → 1 ≤ r → hull_at p.reverse [] v r ≡ none
    not_start r h = go (nat_eq r 0) refl
      where
        go : (t : Bool) → nat_eq r 0 ≡ t → cond t (hull_of (one_hull p.reverse.start)) none ≡ none
        go true e = absurd (let z = eqb-true r 0 e in omega (arith, h, z))
        go false e = refl

    others : (q r : ℕ) → 1 ≤ r → glued_span p (standing_in p.forward before v q) (standing_in p.reverse [] v r) v n ≡ none_span
    others q r h = none_glues_to_none p (standing_in p.forward before v q) (standing_in p.reverse [] v r) v n
        (inr (ap (λ x. has_registers (spans_of x)) (not_start r h) ∙ none_registers))

last_is : (m : Automata) → AreAutomata m → (k : ℕ) (cells : List (List ℤ)) → k ≡ length cells → (v : ℤ) →
    last_at m.forward k cells v ≡ inner_value_span m k cells v
unfolding last_at inner_value_span spans_at
last_is m are k cells last v =
    ap hull_of_spans (finishes_are m.forward (cells_before k cells) v (length cells)) ∙ by_pair m.forward m.pair are.pair
  where
    by_pair : (b : Body) (o : Option Pair) → IfSome o (Splits b) →
        hull_of_spans (finish_spans b (length cells) (cells_before k cells) v) ≡ hull_of_spans (spans_at b o k cells v)
    by_pair b None s = refl
    by_pair b (Some p) s =
        let none_after : cells_after k cells ≡ [] = drop_all k cells (omega (arith, last)) in
        let r = rules_of p.reverse s.reverse in
        ap (λ f. hull_of_spans (finish_spans f (length cells) (cells_before k cells) v)) (sym s.forward)
        ∙ sym (two_forms p s.rules (omega (arith, r.some)) (length cells) (cells_before k cells) v)
        ∙ ap (λ t. hull_of_spans (glued_spans p (length cells) (cells_before k cells) t v)) (sym none_after)

pub last_value_ends : (m : Automata) → AreAutomata m → (k : ℕ) (cells : List (List ℤ)) (v : ℤ) → k ≡ length cells →
    last_at m.forward k cells v ≡ inner_value_span m k cells v
last_value_ends m are k cells v last = last_is m are k cells last v

-- what the type of a machine keeps

pub pair_is : (m : Machine) → IsPairOf (forward_of m) (pair_of m)
pair_is m = go m.half
  where
    go : (o : Option Half) → IsPairOf m.forward (option_map (λ h. pair m.forward h.reverse (table_view h.table)) o)
    go None = tt
    go (Some h) = refl

pub machine_splits : (m : Machine) → IfSome (reverse_of m) (λ b. IsTrue (is_automaton b)) → IfSome (pair_of m) (Splits (forward_of m))
machine_splits m r = go m.half refl r
  where
    go : (o : Option Half) → m.half ≡ o → IfSome (option_map (λ p. p.reverse) (option_map (λ h. pair m.forward h.reverse (table_view h.table)) o))
        (λ b. IsTrue (is_automaton b)) →
        IfSome (option_map (λ h. pair m.forward h.reverse (table_view h.table)) o) (Splits m.forward)
    go None e r = tt
    go (Some h) e r = record { forward = refl; reverse = r; rules = m.rules h e; local = m.local h e }

-- spans at a cell of the box, read where it is looked at

abbrev pub value_there : Automata → ℕ → List (List ℤ) → ℤ → Span
value_there m k cells = inner_value_span m (place_in m.window k) (looked_at m.window cells)

module _ (m : Automata) (k p : ℕ) (cells : List (List ℤ)) (looks : LooksIn m cells) (some : 1 ≤ p) (few : p ≤ length cells)
    (read : k ≡ read_at m.window p) where
  pub read_there : (1 ≤ k) × (k ≤ length cells) × (is_looked m.window k ≡ true)
  read_there =
      subst (λ j. (1 ≤ j) × (j ≤ length cells) × (is_looked m.window j ≡ true)) (sym read) (read_inside_box m.window (length cells) p looks some few)

  place_same : place_in m.window k ≡ place_in m.window p
  place_same = ap (place_in m.window) read ∙ place_read m.window (length cells) p looks some few

  -- all values of it were taken in
  pub term_taken : (i : ℕ) (span : Span) → length (values_at k cells) ≤ i →
      span ≡ hull_of_spans (take i (map (value_there m k cells) (values_at k cells))) → span ≡ term_span m p cells
  unfolding term_span inner_span
  term_taken i span all e =
      let inner = looked_at m.window cells in
      let l = length-map (values_at k cells) (value_there m k cells) in
      e ∙ ap hull_of_spans (take_all i (map (value_there m k cells) (values_at k cells)) (omega (arith, l, all)))
      ∙ ap (λ d. hull_of_spans (map (value_there m k cells) d)) (sym (looked_get cells k m.window [] looks read_there.2))
      ∙ ap (λ j. hull_of_spans (map (inner_value_span m j inner) (values_at j inner))) place_same

pub value_taken : (m : Automata) (k : ℕ) (cells : List (List ℤ)) (i : ℕ) (v : ℤ) (span one both : Span) → i < length (values_at k cells) →
    slice_get (values_at k cells) i ≡ Some v → one ≡ value_there m k cells v → both ≡ span_hull span one →
    span ≡ hull_of_spans (take i (map (value_there m k cells) (values_at k cells))) →
    both ≡ hull_of_spans (take (i + 1) (map (value_there m k cells) (values_at k cells)))
value_taken m k cells i v span one both lt at is_one is_both inv =
    let f = value_there m k cells in let values = values_at k cells in
    let l = length-map values f in
    is_both ∙ ap (λ s. span_hull s one) inv
    ∙ ap (span_hull (hull_of_spans (take i (map f values))))
    (is_one ∙ ap f (sym (get_or_from_slice_get values i v v at)) ∙ sym (get_or-map f values i v none_span lt))
    ∙ sym (fold_more span_hull none_span (map f values) i none_span (omega (arith, l, lt)))

pub value_inside : (m : Automata) (p : ℕ) (cells : List (List ℤ)) (v : ℤ) (s : Span) → is_looked m.window p ≡ true → s ≡ value_there m p cells v →
    s ≡ value_span m p cells v
unfolding value_span
value_inside m p cells v s there e = e ∙ sym (ap (λ t. cond t (value_there m p cells v) (term_span m p cells)) there)

pub value_outside : (m : Automata) (p : ℕ) (cells : List (List ℤ)) (v : ℤ) (s : Span) → is_looked m.window p ≡ false → s ≡ term_span m p cells →
    s ≡ value_span m p cells v
unfolding value_span
value_outside m p cells v s there e = e ∙ sym (ap (λ t. cond t (value_there m p cells v) (term_span m p cells)) there)

pub last_one : (b : Body) (k : ℕ) (cells : List (List ℤ)) (v : ℤ) (hs : List Hull) (n : ℕ) (one : Span) → hs ≡ hulls_at b (cells_before k cells) v →
    n ≡ length cells →
    one ≡ hull_of_spans (finishes b hs n (length b.states)) → one ≡ last_at b k cells v
unfolding last_at
last_one b k cells v hs n one is is_n is_one =
    is_one ∙ ap (λ h. hull_of_spans (finishes b h n (length b.states))) is
    ∙ ap (λ i. hull_of_spans (finishes b (hulls_at b (cells_before k cells) v) i (length b.states))) is_n

pub split_one : (b : Body) (o : Option Pair) (k : ℕ) (cells : List (List ℤ)) (v v' : ℤ) (left right : List Hull) (n m : ℕ) (one : Span) → v' ≡ v →
    left ≡ hulls_at b (cells_before k cells) v → right ≡ back_hulls o (cells_after k cells) v → n ≡ length cells → m ≡ back_states o →
    one ≡ hull_of_spans (glued_all o left right v' n m (length b.states)) → one ≡ split_at b o k cells v
unfolding split_at
split_one b o k cells v v' left right n m one is_v is_left is_right is_n is_m is_one =
    is_one ∙ ap (λ x. hull_of_spans (glued_all o left right x n m (length b.states))) is_v
    ∙ ap (λ h. hull_of_spans (glued_all o h right v n m (length b.states))) is_left
    ∙ ap (λ h. hull_of_spans (glued_all o (hulls_at b (cells_before k cells) v) h v n m (length b.states))) is_right
    ∙ ap (λ i. hull_of_spans (glued_all o (hulls_at b (cells_before k cells) v) (back_hulls o (cells_after k cells) v) v i m (length b.states))) is_n
    ∙ ap (λ i. hull_of_spans (glued_all o (hulls_at b (cells_before k cells) v) (back_hulls o (cells_after k cells) v) v (length cells) i
    (length b.states))) is_m

-- values lie within the limits
pub within_of : (cells : List (List ℤ)) (i : ℕ) (values : List ℤ) → IsBox cells → i < length cells → values ≡ get_or cells i [] →
    AllByRecursion IsCellValue values
within_of [] i values b lt is = absurd (omega (arith, lt))
within_of (d ∷ cells) zero values b lt is = subst (AllByRecursion IsCellValue) (sym is) b.0.within
within_of (d ∷ cells) (suc i) values b lt is = within_of cells i values b.1 (omega (arith, lt)) is

pub value_within : (values : List ℤ) (i : ℕ) (v : ℤ) → AllByRecursion IsCellValue values → slice_get values i ≡ Some v → IsCellValue v
value_within [] i v h at = absurd (none_some v at)
value_within (x ∷ values) zero v h at = subst IsCellValue (same_some x v at) h.0
value_within (x ∷ values) (suc i) v h at = value_within values i v h.1 at

-- how many states both automata have, and the spans of all pairs of them, by what is kept of the pair

pub front_count : (f : Body) (o : Option Pair) (j : Joints) → IsSome o → IsPairOf f o → IfSome o (λ p. AreJoints p j) → j.left_states ≡ length f.states
front_count f None j some is h = cc
front_count f (Some p) j some is h = h.left_states ∙ ap (λ (b : Body). length b.states) is

pub back_count : (o : Option Pair) (j : Joints) → IsSome o → IfSome o (λ p. AreJoints p j) → j.right_states ≡ back_states o
back_count None j some h = cc
back_count (Some p) j some h = h.right_states

pub glued_there : (f : Body) (o : Option Pair) (j : Joints) (left right : List Hull) (x : ℤ) (n : ℕ) (one : Span) → IsSome o → IsPairOf f o →
    IfSome o (λ p. AreJoints p j) →
    ((p : Pair) → AreJoints p j → one ≡ hull_of_spans (glued_all (Some p) left right x n j.right_states j.left_states)) →
    one ≡ hull_of_spans (glued_all o left right x n j.right_states (length f.states))
glued_there f None j left right x n one some is h told = cc
glued_there f (Some p) j left right x n one some is h told =
    told p h ∙ ap (λ k. hull_of_spans (glued_all (Some p) left right x n j.right_states k)) (front_count f (Some p) j some is h)

-- what the type of a machine keeps, seen through it

pub whole_split : (m : Machine) (b : Body) (r : Option Body) → r ≡ reverse_of m → r ≡ Some b → IsTrue (is_automaton b) →
    IsTrue (is_automaton (forward_of m)) → AreAutomata (automata_of m)
whole_split m b r e is h f = record { forward = f; pair = machine_splits m (subst (λ o. IfSome o (λ b. IsTrue (is_automaton b))) (sym is ∙ e) h) }

pub whole_plain : (m : Machine) (r : Option Body) → r ≡ reverse_of m → r ≡ None → IsTrue (is_automaton (forward_of m)) → AreAutomata (automata_of m)
whole_plain m r e is f = record { forward = f; pair = machine_splits m (subst (λ o. IfSome o (λ b. IsTrue (is_automaton b))) (sym is ∙ e) tt) }

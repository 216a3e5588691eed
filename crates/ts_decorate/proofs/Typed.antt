-- The body of a decorated transducer keeps every rule of automata.
use Rattle.std.specs.Prelude.{◌≡◌, ℕ, zero, suc, ◌+◌, ◌<◌, ◌≤◌, Bool, true, false, not, ◌&&◌, ◌||◌, nat_lt, is_some, IsTrue, List, [], ◌∷◌, length, refl}
use Rattle.std.specs.List.{list_all, list_any}
use Rattle.std.specs.Cmp.Derive.{both_true}
use Rattle.std.proofs.Common.{sym, ◌∙◌, ap, subst, arith}
use Rattle.std.proofs.lemmas.Bool.{and_parts, le-leb, lt-ltb}
use Rattle.std.proofs.lemmas.List.Folds.{list_all-append}
use Rattle.ts_base.specs.declared.letter.Letter.{Letter}
use Rattle.ts_base.specs.declared.letter.Letter.TheVariants.{Less, Equal, Greater}
use Rattle.ts_base.specs.declared.range.Kind.{Kind}
use Rattle.ts_base.specs.declared.range.Kind.TheVariants.{Idle, Pending, Held}
use Rattle.ts_transducer.specs.declared.row.Phase.{Phase}
use Rattle.ts_transducer.specs.declared.row.Phase.TheVariants.{Out, OutR, OutA, MaybeB, MaybeA, Found, FoundE, Inside}
use Rattle.ts_transducer.specs.declared.row.Arrow.{Arrow}
use Rattle.ts_transducer.specs.declared.row.Row.{Row}
use Rattle.ts_transducer.specs.Typing.{is_held, is_typed, row_is_typed, starts_idle, arrow_is_typed}
use Rattle.ts_transducer.specs.Decode.{row_at, arrow_at}
use Rattle.ts_transducer.proofs.CallerLemmas.{IsFree, Typed, move_typed, move_stays, start_idle}
use Rattle.ts_transducer.proofs.Moves.{next_exists}
use Rattle.ts_pattern.specs.declared.name.Aggregator.{Aggregator}
use Rattle.ts_pattern.specs.declared.name.Aggregator.TheVariants.{Sum, Max as MaxOf, Min as MinOf}
use Rattle.ts_pattern.specs.declared.name.Feature.{Feature}
use Rattle.ts_pattern.specs.declared.name.Feature.TheVariants.{One, Width, Surf, Max as MaxFeature, Min as MinFeature, Range}
use Rattle.ts_automaton.specs.Kinds.{formula_kind}
use Rattle.ts_automaton.specs.Body.{Node, Body, move_on, node_at}
use Rattle.ts_automaton.specs.Typing.{has_names, has_expressions_in, is_expression, are_expressions, reads_registers, leads_below, is_formed, is_typed as is_body_typed, is_typed_at, is_move_typed, is_finish_typed, fits_kinds, kinds_where, moves_from, is_automaton, has_few_states, has_constants, has_targets, has_expressions}
use Rattle.ts_decorate.specs.Decoration.{is_wide, move_made, node_made, nodes_made, state_names, decorated_body}
use Rattle.ts_decorate.proofs.Evaluation.{node_is, move_on_is}

-- a test of all aggregators and features

at_aggregator : (test : Aggregator → Bool) → test Sum && test MaxOf && test MinOf ≡ true → (g : Aggregator) → test g ≡ true
at_aggregator test h g =
    let p = and_parts (test Sum && test MaxOf) (test MinOf) h in
    let q = and_parts (test Sum) (test MaxOf) p.0 in
    go g q.0 q.1 p.1
  where
    go : (g : Aggregator) → test Sum ≡ true → test MaxOf ≡ true → test MinOf ≡ true → test g ≡ true
    go Sum x y z = x
    go MaxOf x y z = y
    go MinOf x y z = z

abbrev all_features : (Feature → Bool) → Bool
all_features test = test One && test Width && test Surf && test MaxFeature && test MinFeature && test Range

at_feature : (test : Feature → Bool) → all_features test ≡ true → (f : Feature) → test f ≡ true
at_feature test h f =
    let o = and_parts (test One && test Width && test Surf && test MaxFeature && test MinFeature) (test Range) h in
    let p = and_parts (test One && test Width && test Surf && test MaxFeature) (test MinFeature) o.0 in
    let q = and_parts (test One && test Width && test Surf) (test MaxFeature) p.0 in
    let r = and_parts (test One && test Width) (test Surf) q.0 in
    let s = and_parts (test One) (test Width) r.0 in
    go f s.0 s.1 r.1 q.1 p.1 o.1
  where
    go : (f : Feature) → test One ≡ true → test Width ≡ true → test Surf ≡ true → test MaxFeature ≡ true → test MinFeature ≡ true → test Range ≡ true →
        test f ≡ true
    go One u v w x y z = u
    go Width u v w x y z = v
    go Surf u v w x y z = w
    go MaxFeature u v w x y z = x
    go MinFeature u v w x y z = y
    go Range u v w x y z = z

at_term : (test : Aggregator → Feature → Bool) → all_features (test Sum) && all_features (test MaxOf) && all_features (test MinOf) ≡ true →
    (g : Aggregator) (f : Feature) → test g f ≡ true
at_term test h g f = at_feature (test g) (at_aggregator (λ k. all_features (test k)) h g) f

-- the moves

-- whether a range is held before a phase letter, and after it
abbrev held_before : Phase → Bool
held_before Out = false
held_before OutR = false
held_before OutA = true
held_before MaybeB = false
held_before MaybeA = true
held_before Found = false
held_before FoundE = false
held_before Inside = true

abbrev held_behind : Phase → Bool
held_behind Out = false
held_behind OutR = false
held_behind OutA = false
held_behind MaybeB = false
held_behind MaybeA = true
held_behind Found = true
held_behind FoundE = false
held_behind Inside = true

free_is : (k : Kind) → IsFree k → is_held k ≡ false
free_is Idle h = refl
free_is Pending h = refl
free_is Held h = absurd h

held_is : (k k' : Kind) (p : Phase) → Typed k p k' → (is_held k ≡ held_before p) × (is_held k' ≡ held_behind p)
held_is k k' Out t = (ap is_held t.0, free_is k' t.1)
held_is k k' OutR t = (ap is_held t.0, free_is k' t.1)
held_is k k' OutA t = (ap is_held t.0, free_is k' t.1)
held_is k k' MaybeB t = (free_is k t.0, ap is_held t.1)
held_is k k' MaybeA t = (ap is_held t.0, ap is_held t.1)
held_is k k' Found t = (free_is k t.0, ap is_held t.1)
held_is k k' FoundE t = (free_is k t.0, free_is k' t.1)
held_is k k' Inside t = (ap is_held t.0, ap is_held t.1)

-- the move of a phase letter has the kinds of its registers, whatever the rows are
abbrev is_phase_typed : ℕ → Phase → ℕ → List Row → Aggregator → Feature → Bool
is_phase_typed a p n rows g f =
    let b = decorated_body rows a g f in
    fits_kinds (kinds_where b (held_before p)) (move_made a g f (record { phase = p; next = n })).to (kinds_where b (held_behind p))

phase_typed : (a : ℕ) (p : Phase) (n : ℕ) (rows : List Row) (g : Aggregator) (f : Feature) → is_phase_typed a p n rows g f ≡ true
phase_typed a Out n rows g f = at_term (is_phase_typed a Out n rows) refl g f
phase_typed a OutR n rows g f = at_term (is_phase_typed a OutR n rows) refl g f
phase_typed a OutA n rows g f = at_term (is_phase_typed a OutA n rows) refl g f
phase_typed a MaybeB n rows g f = at_term (is_phase_typed a MaybeB n rows) refl g f
phase_typed zero MaybeA n rows g f = at_term (is_phase_typed 0 MaybeA n rows) refl g f
phase_typed (suc a) MaybeA n rows g f = at_term (is_phase_typed (suc a) MaybeA n rows) refl g f
phase_typed zero Found n rows g f = at_term (is_phase_typed 0 Found n rows) refl g f
phase_typed (suc a) Found n rows g f = at_term (is_phase_typed (suc a) Found n rows) refl g f
phase_typed zero FoundE n rows g f = at_term (is_phase_typed 0 FoundE n rows) refl g f
phase_typed (suc a) FoundE n rows g f = at_term (is_phase_typed (suc a) FoundE n rows) refl g f
phase_typed zero Inside n rows g f = at_term (is_phase_typed 0 Inside n rows) refl g f
phase_typed (suc a) Inside n rows g f = at_term (is_phase_typed (suc a) Inside n rows) refl g f

-- its expressions are those of an automaton of its width
abbrev is_phase_fit : ℕ → Phase → ℕ → Aggregator → Feature → Bool
is_phase_fit a p n g f = are_expressions (is_wide f) (move_made a g f (record { phase = p; next = n })).to

phase_fit : (a : ℕ) (p : Phase) (n : ℕ) (g : Aggregator) (f : Feature) → is_phase_fit a p n g f ≡ true
phase_fit a Out n g f = at_term (is_phase_fit a Out n) refl g f
phase_fit a OutR n g f = at_term (is_phase_fit a OutR n) refl g f
phase_fit a OutA n g f = at_term (is_phase_fit a OutA n) refl g f
phase_fit a MaybeB n g f = at_term (is_phase_fit a MaybeB n) refl g f
phase_fit zero MaybeA n g f = at_term (is_phase_fit 0 MaybeA n) refl g f
phase_fit (suc a) MaybeA n g f = at_term (is_phase_fit (suc a) MaybeA n) refl g f
phase_fit zero Found n g f = at_term (is_phase_fit 0 Found n) refl g f
phase_fit (suc a) Found n g f = at_term (is_phase_fit (suc a) Found n) refl g f
phase_fit zero FoundE n g f = at_term (is_phase_fit 0 FoundE n) refl g f
phase_fit (suc a) FoundE n g f = at_term (is_phase_fit (suc a) FoundE n) refl g f
phase_fit zero Inside n g f = at_term (is_phase_fit 0 Inside n) refl g f
phase_fit (suc a) Inside n g f = at_term (is_phase_fit (suc a) Inside n) refl g f

-- the states

count_same : (a : ℕ) (g : Aggregator) (f : Feature) (names : List ℕ) (rows : List Row) → length rows ≤ length names →
    length (nodes_made a g f names rows) ≡ length rows
count_same a g f [] [] h = refl
count_same a g f [] (r ∷ rows) h = absurd (omega (arith, h))
count_same a g f (n ∷ names) [] h = refl
count_same a g f (n ∷ names) (r ∷ rows) h = ap suc (count_same a g f names rows (omega (arith, h)))

all_nodes : (test : Node → Bool) (a : ℕ) (g : Aggregator) (f : Feature) (good : Row → Bool) →
    ((name : ℕ) (r : Row) → good r ≡ true → test (node_made a g f name r) ≡ true) →
    (names : List ℕ) (rows : List Row) → list_all good rows ≡ true → list_all test (nodes_made a g f names rows) ≡ true
all_nodes test a g f good each [] rows h = refl
all_nodes test a g f good each (n ∷ names) [] h = refl
all_nodes test a g f good each (n ∷ names) (r ∷ rows) h =
    let p = and_parts (good r) (list_all good rows) h in
    both_true (each n r p.0) (all_nodes test a g f good each names rows p.1)

fit_node : (a : ℕ) (g : Aggregator) (f : Feature) (name : ℕ) (r : Row) → has_expressions_in (is_wide f) (node_made a g f name r) ≡ true
fit_node a g f name r =
    both_true (both_true (phase_fit a r.less.phase r.less.next g f) (phase_fit a r.equal.phase r.equal.next g f))
    (phase_fit a r.greater.phase r.greater.next g f)

always : (rows : List Row) → list_all (λ r. true) rows ≡ true
always [] = refl
always (r ∷ rows) = always rows

names_good : (a : ℕ) (g : Aggregator) (f : Feature) (rows : List Row) → length rows ≤ 8 → has_names (decorated_body rows a g f) ≡ true
names_good a g f [] h = refl
names_good a g f (r1 ∷ []) h = refl
names_good a g f (r1 ∷ r2 ∷ []) h = refl
names_good a g f (r1 ∷ r2 ∷ r3 ∷ []) h = refl
names_good a g f (r1 ∷ r2 ∷ r3 ∷ r4 ∷ []) h = refl
names_good a g f (r1 ∷ r2 ∷ r3 ∷ r4 ∷ r5 ∷ []) h = refl
names_good a g f (r1 ∷ r2 ∷ r3 ∷ r4 ∷ r5 ∷ r6 ∷ []) h = refl
names_good a g f (r1 ∷ r2 ∷ r3 ∷ r4 ∷ r5 ∷ r6 ∷ r7 ∷ []) h = refl
names_good a g f (r1 ∷ r2 ∷ r3 ∷ r4 ∷ r5 ∷ r6 ∷ r7 ∷ r8 ∷ []) h = refl
names_good a g f (r1 ∷ r2 ∷ r3 ∷ r4 ∷ r5 ∷ r6 ∷ r7 ∷ r8 ∷ r9 ∷ rows) h = absurd (omega (arith, h))

start_good : (rows : List Row) (a : ℕ) (g : Aggregator) (f : Feature) → has_constants (decorated_body rows a g f) ≡ true
start_good rows a g f = at_term (λ g f. has_constants (decorated_body rows a g f)) refl g f

finish_fit : (rows : List Row) (a : ℕ) (g : Aggregator) (f : Feature) → is_expression (is_wide f) (decorated_body rows a g f).finish ≡ true
finish_fit rows a g f = at_term (λ g f. is_expression (is_wide f) (decorated_body rows a g f).finish) refl g f

finish_good : (a : ℕ) (g : Aggregator) (f : Feature) (rows : List Row) → is_finish_typed (decorated_body rows a g f) ≡ true
finish_good a g f rows = both_true (both_true reads (kind_known false)) (held_known (list_any (λ s. s.held) (decorated_body rows a g f).states))
  where
    reads : reads_registers (decorated_body rows a g f).finish ≡ true
    reads = at_term (λ g f. reads_registers (decorated_body rows a g f).finish) refl g f

    kind_known : (held : Bool) → is_some (formula_kind (kinds_where (decorated_body rows a g f) held) (decorated_body rows a g f).finish) ≡ true
    kind_known false = at_term (λ g f. let b = decorated_body rows a g f in is_some (formula_kind (kinds_where b false) b.finish)) refl g f
    kind_known true = at_term (λ g f. let b = decorated_body rows a g f in is_some (formula_kind (kinds_where b true) b.finish)) refl g f

    held_known : (v : Bool) → not v || is_some (formula_kind (kinds_where (decorated_body rows a g f) true) (decorated_body rows a g f).finish) ≡ true
    held_known false = refl
    held_known true = kind_known true

abbrev TypedMove : Body → ℕ → Letter → Type 0
TypedMove b q l = is_move_typed b q (move_on l (node_at b.states q)) ≡ true

all_moves : (b : Body) (n p : ℕ) → ((q : ℕ) (l : Letter) → q < p + n → TypedMove b q l) → list_all (is_typed_at b) (moves_from p n) ≡ true
all_moves b zero p h = refl
all_moves b (suc n) p h =
    both_true (h p Less (omega arith)) (both_true (h p Equal (omega arith)) (both_true (h p Greater (omega arith))
    (all_moves b n (p + 1) (λ q l i. h q l (omega (arith, i))))))

module _ (rows : List Row) (typed : is_typed rows ≡ true) (few : length rows ≤ 8) (a : ℕ) (g : Aggregator) (f : Feature) where
  abbrev b : Body
  b = decorated_body rows a g f

  count : length b.states ≡ length rows
  count = count_same a g f state_names rows few

  some : 1 ≤ length rows
  some = let h = move_stays rows typed 0 Less in omega (arith, h)

  node_typed : (q : ℕ) (l : Letter) → q < length rows → TypedMove b q l
  node_typed q l h =
      let m = arrow_at rows q l in
      let here = node_is a g f state_names rows q h few in
      let there = node_is a g f state_names rows m.next (move_stays rows typed q l) few in
      let held = held_is (row_at rows q).kind (row_at rows m.next).kind m.phase (move_typed rows typed q l) in
      let move : move_on l (node_at b.states q) ≡ move_made a g f m =
      ap (move_on l) here.1 ∙ move_on_is a g f here.0 (row_at rows q) l in
      ap (λ t. is_move_typed b q t) move
      ∙ ap (λ v. fits_kinds (kinds_where b v) (move_made a g f m).to (kinds_where b (node_at b.states m.next).held)) (ap (λ s. s.held) here.1 ∙ held.0)
      ∙ ap (λ v. fits_kinds (kinds_where b (held_before m.phase)) (move_made a g f m).to (kinds_where b v)) (ap (λ s. s.held) there.1 ∙ held.1)
      ∙ phase_typed a m.phase m.next rows g f

  starts_well : not (node_at b.states 0).held ≡ true
  starts_well =
      let here = node_is a g f state_names rows 0 some few in
      ap (λ s. not s.held) here.1 ∙ ap (λ k. not (is_held k)) (start_idle rows typed)

  body_typed : is_body_typed b ≡ true
  body_typed =
      both_true starts_well
      (list_all-append (is_typed_at b) (moves_from 0 (length b.states)) _
      ∙ both_true (all_moves b (length b.states) 0 (λ q l i. node_typed q l (let e = count in omega (arith, i)))) (both_true (finish_good a g f rows) refl))

  row_leads : (name : ℕ) (r : Row) → row_is_typed rows r ≡ true → leads_below (length b.states) (node_made a g f name r) ≡ true
  row_leads name r h =
      let p = and_parts (arrow_is_typed rows r.kind r.less && arrow_is_typed rows r.kind r.equal) (arrow_is_typed rows r.kind r.greater) h in
      let q = and_parts (arrow_is_typed rows r.kind r.less) (arrow_is_typed rows r.kind r.equal) p.0 in
      both_true (both_true (below r.less q.0) (below r.equal q.1)) (below r.greater p.1)
    where
      below : (m : Arrow) → arrow_is_typed rows r.kind m ≡ true → nat_lt m.next (length b.states) ≡ true
      below m h = lt-ltb m.next (length b.states) (subst (λ n. m.next < n) (sym count) (next_exists rows m.next r.kind m.phase h))

  few_states : has_few_states b ≡ true
  few_states =
      let same = count in
      let one = some in
      both_true (le-leb 1 (length b.states) (omega (arith, same, one))) (le-leb (length b.states) 8 (omega (arith, same, few)))

  constants : has_constants b ≡ true
  constants = start_good rows a g f

  targets : has_targets b ≡ true
  targets =
      let rows_typed = (and_parts (starts_idle rows) (list_all (λ r. row_is_typed rows r) rows) typed).1 in
      all_nodes (leads_below (length b.states)) a g f (λ r. row_is_typed rows r) row_leads state_names rows rows_typed

  short : has_expressions b ≡ true
  short =
      both_true (all_nodes (has_expressions_in (is_wide f)) a g f (λ r. true) (λ name r h. fit_node a g f name r) state_names rows (always rows))
      (finish_fit rows a g f)

  body_formed : is_formed b ≡ true
  body_formed = both_true (both_true (both_true (both_true few_states (names_good a g f rows few)) constants) targets) short

  pub is_decorated_automaton : IsTrue (is_automaton b)
  is_decorated_automaton = both_true body_formed body_typed

-- The row that sweeps make is the row over all pairs.
use Rattle.std.proofs.Common.{◌≡◌, ℕ, zero, suc, ◌+◌, ◌*◌, ◌<◌, ◌≤◌, Bool, true, false, cond, nat_eq, ℤ, pos, List, [], ◌∷◌, ◌++◌, length, map, take, drop, get_or, refl, sym, ◌∙◌, ap, subst, arith}
use Rattle.std.specs.Prelude.{IsTrue, fold, flat_map}
use Rattle.std.specs.List.{AllByRecursion, range_with_len}
use Rattle.std.proofs.lemmas.List.{get_or-take, get_or-drop, take-append-drop, length-take-le, length-drop, map-append}
use Rattle.std.proofs.lemmas.List.FromFn.{fill_by_all}
use Rattle.ts_base.specs.declared.letter.Letter.{Letter}
use Rattle.ts_base.specs.declared.letter.Letter.TheVariants.{Less, Equal, Greater}
use Rattle.ts_base.specs.Signature.{letter_of}
use Rattle.ts_automaton.specs.declared.regs.Hull.{Hull}
use Rattle.ts_automaton.specs.declared.regs.HullAt.{HullAt}
use Rattle.ts_automaton.specs.Body.{Body, Move, move_on, node_at}
use Rattle.ts_automaton.specs.Typing.{is_automaton}
use Rattle.ts_automaton.proofs.Rules.{rules_of, target_exists}
use Rattle.ts_hull.specs.Hulls.{hull_of, none, hull_of_both}
use Rattle.ts_automaton.specs.Registers.{spans_of}
use Rattle.ts_automaton.specs.SpanRun.{HullStands, hull_standing, span_step}
use Rattle.ts_bound.specs.NextRow.{RowStands, Source, standing_at, sources_from, sources, hull_from, next_hull, next_hulls, next_row}
use Rattle.ts_hull.specs.Sealed.{after_move, move_at}
use Rattle.ts_hull.specs.Sweeps.{AllTakeNone, total, same_letter, hull_in, pair_gives, move_entry, step_place, with_move, with_state, with_states}
use Rattle.ts_hull.proofs.HullLaws.{TakesNone, both_takes_none, none_takes_none}
use Rattle.ts_hull.proofs.SpanHulls.{both_comm, both_assoc}
use Rattle.ts_hull.proofs.Sums.{none_left, total_same, total_canonical, total_join, total_swap, total_canon, total_cond, total_first, fold_out, fold_both}
use Rattle.ts_sweep.specs.FrontLaws.{never_added as never}
use Rattle.ts_bound.proofs.PutLaws.{with_move_canonical}
use Rattle.ts_hull.proofs.Puts.{place_inside, length-puts, puts_at}

pub length-with_move : (m : Move) (l : Letter) (s q : ℕ) (vs : List ℤ) (row : List Hull) (ws : List ℤ) (next : List Hull) →
    length (with_move m l s q vs row ws next) ≡ length next
unfolding with_move
length-with_move m l s q vs row ws next = length-puts s m.next (step_place l (length ws)) _ next (length ws)

-- what a move gives to state t of the next value at place j
abbrev pub gift : Move → Letter → ℕ → ℕ → List ℤ → List Hull → ℤ → ℕ → Hull
gift m l s q vs row w t = cond (nat_eq m.next t) (move_entry m l s q vs row w) none

pub with_move_at : (m : Move) (l : Letter) (s q : ℕ) (vs : List ℤ) (row : List Hull) (ws : List ℤ) (next : List Hull) (j t : ℕ) → j < length ws → t < s →
    m.next < s → length next ≡ length ws * s →
    (x : Hull) → get_or next (j * s + t) none ≡ x → TakesNone x → get_or (with_move m l s q vs row ws next) (j * s + t) none ≡ hull_of_both x
    (gift m l s q vs row (get_or ws j (pos 0)) t)
unfolding with_move
with_move_at m l s q vs row ws next j t lt a b long x is c =
    puts_at m l s ws (λ i. move_entry m l s q vs row (get_or ws i (pos 0))) next j t lt a b long x is c

-- all moves of a state
abbrev pub gifts : Body → List ℤ → List Hull → ℤ → ℕ → ℕ → Hull
gifts a vs row w t q =
    hull_of_both (hull_of_both (gift (move_at a q Less) Less (length a.states) q vs row w t) (gift (move_at a q Equal) Equal (length a.states) q vs row w t))
    (gift (move_at a q Greater) Greater (length a.states) q vs row w t)

-- the moves of state q lead to states
abbrev pub LeadsFrom : Body → ℕ → Type 0
LeadsFrom a q = (l : Letter) → (move_at a q l).next < length a.states

with_state_at : (a : Body) (vs : List ℤ) (row : List Hull) (ws : List ℤ) (q : ℕ) (next : List Hull) (j t : ℕ) → j < length ws → t < length a.states →
    LeadsFrom a q → length next ≡ length ws * length a.states →
    (x : Hull) → get_or next (j * length a.states + t) none ≡ x → TakesNone x →
    get_or (with_state a vs row ws q next) (j * length a.states + t) none ≡ hull_of_both x (gifts a vs row (get_or ws j (pos 0)) t q)
unfolding with_state
with_state_at a vs row ws q next j t lt b leads long x is c =
    let s = length a.states in
    let w = get_or ws j (pos 0) in
    let g = λ (l : Letter). gift (move_at a q l) l s q vs row w t in
    let n1 = with_move (move_at a q Less) Less s q vs row ws next in
    let n2 = with_move (move_at a q Equal) Equal s q vs row ws n1 in
    let l1 : length n1 ≡ length ws * s = length-with_move (move_at a q Less) Less s q vs row ws next ∙ long in
    let l2 : length n2 ≡ length ws * s = length-with_move (move_at a q Equal) Equal s q vs row ws n1 ∙ l1 in
    let e1 = with_move_at (move_at a q Less) Less s q vs row ws next j t lt b (leads Less) long x is c in
    let e2 = with_move_at (move_at a q Equal) Equal s q vs row ws n1 j t lt b (leads Equal) l1 (hull_of_both x (g Less)) e1 (both_takes_none x (g Less)) in
    with_move_at (move_at a q Greater) Greater s q vs row ws n2 j t lt b (leads Greater) l2 (hull_of_both (hull_of_both x (g Less)) (g Equal)) e2
    (both_takes_none (hull_of_both x (g Less)) (g Equal))
    ∙ ap (λ z. hull_of_both z (g Greater)) (both_assoc x (g Less) (g Equal))
    ∙ both_assoc x (hull_of_both (g Less) (g Equal)) (g Greater)

length-with_state : (a : Body) (vs : List ℤ) (row : List Hull) (ws : List ℤ) (q : ℕ) (next : List Hull) → length (with_state a vs row ws q next) ≡ length next
unfolding with_state
length-with_state a vs row ws q next =
    let s = length a.states in
    let n1 = with_move (move_at a q Less) Less s q vs row ws next in
    let n2 = with_move (move_at a q Equal) Equal s q vs row ws n1 in
    length-with_move (move_at a q Greater) Greater s q vs row ws n2 ∙ length-with_move (move_at a q Equal) Equal s q vs row ws n1
    ∙ length-with_move (move_at a q Less) Less s q vs row ws next

pub length-with_states : (a : Body) (vs : List ℤ) (row : List Hull) (ws : List ℤ) (n : ℕ) (next : List Hull) →
    length (with_states a vs row ws n next) ≡ length next
unfolding with_states
length-with_states a vs row ws zero next = refl
length-with_states a vs row ws (suc n) next = length-with_state a vs row ws n (with_states a vs row ws n next) ∙ length-with_states a vs row ws n next

with_states_at : (a : Body) (vs : List ℤ) (row : List Hull) (ws : List ℤ) (n : ℕ) (next : List Hull) (j t : ℕ) → j < length ws → t < length a.states →
    ((q : ℕ) → q < n → LeadsFrom a q) → length next ≡ length ws * length a.states →
    get_or next (j * length a.states + t) none ≡ none → get_or (with_states a vs row ws n next) (j * length a.states + t) none ≡ total n
    (λ q. gifts a vs row (get_or ws j (pos 0)) t q)
unfolding with_states total
with_states_at a vs row ws zero next j t lt b leads long is = is
with_states_at a vs row ws (suc n) next j t lt b leads long is =
    with_state_at a vs row ws n (with_states a vs row ws n next) j t lt b (leads n (omega arith)) (length-with_states a vs row ws n next ∙ long)
    (total n (λ q. gifts a vs row (get_or ws j (pos 0)) t q))
    (with_states_at a vs row ws n next j t lt b (λ q h. leads q (omega arith)) long is) (total_canonical n (λ q. gifts a vs row (get_or ws j (pos 0)) t q))

-- one pair of values has one letter

pub cond_none : (b : Bool) → cond b none none ≡ none
cond_none true = refl
cond_none false = refl

three_letters : (l : Letter) (b : Letter → Bool) (g : Letter → Hull) →
    hull_of_both (hull_of_both (cond (b Less) (cond (same_letter l Less) (g Less) none) none)
    (cond (b Equal) (cond (same_letter l Equal) (g Equal) none) none))
    (cond (b Greater) (cond (same_letter l Greater) (g Greater) none) none)
    ≡ hull_of_both (cond (b l) (g l) none) none
three_letters Less b g =
    let x = cond (b Less) (g Less) none in
    ap (λ z. hull_of_both (hull_of_both x z) (cond (b Greater) none none)) (cond_none (b Equal))
    ∙ ap (hull_of_both (hull_of_both x none)) (cond_none (b Greater)) ∙ both_takes_none x none
three_letters Equal b g =
    let x = cond (b Equal) (g Equal) none in
    ap (λ z. hull_of_both (hull_of_both z x) (cond (b Greater) none none)) (cond_none (b Less))
    ∙ ap (hull_of_both (hull_of_both none x)) (cond_none (b Greater)) ∙ both_takes_none none x
    ∙ both_comm none x
three_letters Greater b g =
    let x = cond (b Greater) (g Greater) none in
    ap (λ z. hull_of_both (hull_of_both z (cond (b Equal) none none)) x) (cond_none (b Less))
    ∙ ap (λ z. hull_of_both (hull_of_both none z) x) (cond_none (b Equal)) ∙ ap (λ z. hull_of_both z x) none_takes_none
    ∙ both_comm none x

-- what the hull at place i, state q gives to state t of the next value w
abbrev given_at : Body → List ℤ → List Hull → ℤ → ℕ → ℕ → ℕ → Hull
given_at a vs row w t i q =
    cond (nat_eq (move_at a q (letter_of (get_or vs i (pos 0)) w)).next t)
    (after_move (move_at a q (letter_of (get_or vs i (pos 0)) w)) (hull_in (length a.states) q row i) (get_or vs i (pos 0)) w) none

gifts_are : (a : Body) (vs : List ℤ) (row : List Hull) (w : ℤ) (t q : ℕ) → gifts a vs row w t q ≡ total (length vs) (λ i. given_at a vs row w t i q)
unfolding move_entry
gifts_are a vs row w t q =
    let n = length vs in
    let s = length a.states in
    let b = λ (l : Letter). nat_eq (move_at a q l).next t in
    let p = λ (l : Letter) (i : ℕ). pair_gives (move_at a q l) l s q vs row w i in
    let x = λ (l : Letter) (i : ℕ). cond (b l) (p l i) none in
    ap (λ z. hull_of_both (hull_of_both z (cond (b Equal) (total n (p Equal)) none)) (cond (b Greater) (total n (p Greater)) none))
    (sym (total_cond (b Less) n (p Less)))
    ∙ ap (λ z. hull_of_both (hull_of_both (total n (x Less)) z) (cond (b Greater) (total n (p Greater)) none)) (sym (total_cond (b Equal) n (p Equal)))
    ∙ ap (hull_of_both (hull_of_both (total n (x Less)) (total n (x Equal)))) (sym (total_cond (b Greater) n (p Greater)))
    ∙ ap (λ z. hull_of_both z (total n (x Greater))) (sym (total_join n (x Less) (x Equal)))
    ∙ sym (total_join n (λ i. hull_of_both (x Less i) (x Equal i)) (x Greater))
    ∙ total_same n (λ i. hull_of_both (hull_of_both (x Less i) (x Equal i)) (x Greater i)) (λ i. hull_of_both (given_at a vs row w t i q) none)
    (λ i h. three_letters (letter_of (get_or vs i (pos 0)) w) b (λ l. after_move (move_at a q l) (hull_in s q row i) (get_or vs i (pos 0)) w))
    ∙ total_canon n (λ i. given_at a vs row w t i q)

-- the list of all sources, by places

sources_from_total : (G : Source → Hull) (v : ℤ) (p : ℕ) (hs : List Hull) → fold hull_of_both none (map G (sources_from v p hs)) ≡ total (length hs)
    (λ i. G (record { value = v; state = p + i; hull = get_or hs i none }))
unfolding sources_from total
sources_from_total G v p [] = refl
sources_from_total G v p (h ∷ hs) =
    let x = G (record { value = v; state = p; hull = h }) in
    let zero_is : p ≡ p + 0 = omega arith in
    fold_out (map G (sources_from v (suc p) hs)) (hull_of_both none x) (both_takes_none none x)
    ∙ ap (hull_of_both (hull_of_both none x)) (sources_from_total G v (suc p) hs)
    ∙ ap (hull_of_both (hull_of_both none x))
    (total_same (length hs) (λ i. G (record { value = v; state = suc p + i; hull = get_or hs i none }))
    (λ i. G (record { value = v; state = p + suc i; hull = get_or hs i none }))
    (λ i lt. ap (λ z. G (record { value = v; state = z; hull = get_or hs i none })) (let e : suc p + i ≡ p + suc i = omega arith in e)))
    ∙ ap (λ z. hull_of_both (hull_of_both none (G (record { value = v; state = z; hull = h })))
    (total (length hs) (λ i. G (record { value = v; state = p + suc i; hull = get_or hs i none })))) zero_is
    ∙ sym (total_first (length hs) (λ i. G (record { value = v; state = p + i; hull = get_or (h ∷ hs) i none })))

sources_total : (G : Source → Hull) (s : ℕ) (vs : List ℤ) (row : List Hull) → length row ≡ length vs * s →
    fold hull_of_both none (map G (sources s vs row)) ≡ total (length vs)
    (λ i. total s (λ q. G (record { value = get_or vs i (pos 0); state = q; hull = hull_in s q row i })))
unfolding sources total
sources_total G s [] row long = refl
sources_total G s (v ∷ vs) row long =
    let F : ℕ → Hull = λ i. total s (λ q. G (record { value = get_or (v ∷ vs) i (pos 0); state = q; hull = hull_in s q row i })) in
    let enough : s ≤ length row = omega arith in
    let left : length (drop s row) ≡ length vs * s = let d = length-drop s row in omega arith in
    ap (fold hull_of_both none) (map-append G (sources_from v 0 (take s row)) (sources s vs (drop s row)))
    ∙ fold_both (map G (sources_from v 0 (take s row))) (map G (sources s vs (drop s row)))
    ∙ ap (λ z. hull_of_both z (fold hull_of_both none (map G (sources s vs (drop s row)))))
    (sources_from_total G v 0 (take s row)
    ∙ ap (λ n. total n (λ q. G (record { value = v; state = 0 + q; hull = get_or (take s row) q none }))) (length-take-le s row enough)
    ∙ total_same s (λ q. G (record { value = v; state = 0 + q; hull = get_or (take s row) q none }))
    (λ q. G (record { value = v; state = q; hull = hull_in s q row 0 }))
    (λ q lt. ap (λ z. G (record { value = v; state = z; hull = get_or (take s row) q none })) (let e : 0 + q ≡ q = omega arith in e)
    ∙ ap (λ z. G (record { value = v; state = q; hull = z }))
    (get_or-take s row q none lt ∙ ap (λ n. get_or row n none) (let e : q ≡ 0 * s + q = omega arith in e))))
    ∙ ap (hull_of_both (F 0)) (sources_total G s vs (drop s row) left
    ∙ total_same (length vs) (λ i. total s (λ q. G (record { value = get_or vs i (pos 0); state = q; hull = hull_in s q (drop s row) i }))) (λ i. F (suc i))
    (λ i lt. total_same s (λ q. G (record { value = get_or vs i (pos 0); state = q; hull = hull_in s q (drop s row) i }))
    (λ q. G (record { value = get_or vs i (pos 0); state = q; hull = hull_in s q row (suc i) }))
    (λ q h. ap (λ z. G (record { value = get_or vs i (pos 0); state = q; hull = z }))
    (get_or-drop s row (i * s + q) none ∙ ap (λ n. get_or row n none) (let e : s + (i * s + q) ≡ suc i * s + q = omega arith in e)))))
    ∙ ap (λ z. hull_of_both z (total (length vs) (λ i. F (suc i))))
    (sym (none_left (F 0) (total_canonical s (λ q. G (record { value = v; state = q; hull = hull_in s q row 0 })))))
    ∙ sym (total_first (length vs) F)

-- one entry of the row
pub entry_total : (a : Body) (vs : List ℤ) (row : List Hull) (w : ℤ) (t : ℕ) → length row ≡ length vs * length a.states →
    total (length a.states) (λ q. gifts a vs row w t q) ≡ next_hull a (sources (length a.states) vs row) w t
unfolding next_hull hull_from after_move move_at
entry_total a vs row w t long =
    let n = length vs in
    let s = length a.states in
    total_same s (λ q. gifts a vs row w t q) (λ q. total n (λ i. given_at a vs row w t i q)) (λ q lt. gifts_are a vs row w t q)
    ∙ total_swap s n (λ q i. given_at a vs row w t i q)
    ∙ sym (sources_total (hull_from a w t) s vs row long)

-- a flat list by its places
pub row_by_places : (s : ℕ) (g : ℤ → ℕ → Hull) (ws : List ℤ) (xs : List Hull) → length xs ≡ length ws * s →
    ((j t : ℕ) → j < length ws → t < s → get_or xs (j * s + t) none ≡ g (get_or ws j (pos 0)) t) → xs ≡ flat_map (λ w. map (g w) (range_with_len 0 s)) ws
row_by_places s g [] [] long h = refl
row_by_places s g [] (x ∷ xs) long h = absurd (omega arith)
row_by_places s g (w ∷ ws) xs long h =
    let enough : s ≤ length xs = omega arith in
    let left : length (drop s xs) ≡ length ws * s = let d = length-drop s xs in omega arith in
    sym (take-append-drop s xs)
    ∙ ap (λ z. z ++ drop s xs) (fill_by_all (g w) (take s xs) s none (length-take-le s xs enough)
    (λ t lt. get_or-take s xs t none lt ∙ ap (λ n. get_or xs n none) (let e : t ≡ 0 * s + t = omega arith in e) ∙ h 0 t (omega arith) lt))
    ∙ ap (λ z. map (g w) (range_with_len 0 s) ++ z) (row_by_places s g ws (drop s xs) left
    (λ j t lt k. get_or-drop s xs (j * s + t) none ∙ ap (λ n. get_or xs n none) (let e : s + (j * s + t) ≡ suc j * s + t = omega arith in e)
    ∙ h (suc j) t (omega arith) k))

-- the row that the loops make is the row over all pairs
pub row_is : (a : Body) (vs : List ℤ) (row : List Hull) (ws : List ℤ) (next : List Hull) → ((q : ℕ) → q < length a.states → LeadsFrom a q) →
    length row ≡ length vs * length a.states → length next ≡ length ws * length a.states →
    ((p : ℕ) → p < length next → get_or next p none ≡ none) → with_states a vs row ws (length a.states) next ≡ next_row a vs row ws
unfolding next_row next_hulls
row_is a vs row ws next leads long long' clear =
    row_by_places (length a.states) (λ w t. next_hull a (sources (length a.states) vs row) w t) ws (with_states a vs row ws (length a.states) next)
    (length-with_states a vs row ws (length a.states) next ∙ long')
    (λ j t lt h. with_states_at a vs row ws (length a.states) next j t lt h leads long'
    (clear (j * length a.states + t) (let p = place_inside (length a.states) (length ws) j t lt h in omega arith))
    ∙ entry_total a vs row (get_or ws j (pos 0)) t long)

-- the ends of the loops

pub state_done : (a : Body) (vs : List ℤ) (row : List Hull) (ws : List ℤ) (q s : ℕ) (m1 m2 m3 : Move) (n0 n1 n2 n3 : List Hull) → s ≡ length a.states →
    m1 ≡ move_at a q Less → m2 ≡ move_at a q Equal → m3 ≡ move_at a q Greater →
    n1 ≡ with_move m1 Less s q vs row ws n0 → n2 ≡ with_move m2 Equal s q vs row ws n1 → n3 ≡ with_move m3 Greater s q vs row ws n2 →
    n3 ≡ with_state a vs row ws q n0
unfolding with_state
state_done a vs row ws q s m1 m2 m3 n0 n1 n2 n3 e f g h i j k =
    k ∙ ap (λ m. with_move m Greater s q vs row ws n2) h ∙ ap (λ n. with_move (move_at a q Greater) Greater n q vs row ws n2) e
    ∙ ap (with_move (move_at a q Greater) Greater (length a.states) q vs row ws)
    (j ∙ ap (λ m. with_move m Equal s q vs row ws n1) g ∙ ap (λ n. with_move (move_at a q Equal) Equal n q vs row ws n1) e
    ∙ ap (with_move (move_at a q Equal) Equal (length a.states) q vs row ws)
    (i ∙ ap (λ m. with_move m Less s q vs row ws n0) f ∙ ap (λ n. with_move (move_at a q Less) Less n q vs row ws n0) e))

pub states_begun : (a : Body) (vs : List ℤ) (row : List Hull) (ws : List ℤ) (next : List Hull) → next ≡ with_states a vs row ws 0 next
unfolding with_states
states_begun a vs row ws next = refl

pub states_more : (a : Body) (vs : List ℤ) (row : List Hull) (ws : List ℤ) (q : ℕ) (first next next' : List Hull) →
    next ≡ with_states a vs row ws q first → next' ≡ with_state a vs row ws q next → next' ≡ with_states a vs row ws (q + 1) first
unfolding with_states
states_more a vs row ws q first next next' e f =
    let more : q + 1 ≡ suc q = omega arith in f ∙ ap (with_state a vs row ws q) e ∙ sym (ap (λ n. with_states a vs row ws n first) more)

pub leads_from : (a : Body) → IsTrue (is_automaton a) → (q : ℕ) → q < length a.states → LeadsFrom a q
unfolding move_at
leads_from a h q lt l = target_exists a (rules_of a h) q l lt

pub states_done : (a : Body) (vs : List ℤ) (row : List Hull) (ws : List ℤ) (q : ℕ) (first next : List Hull) → IsTrue (is_automaton a) →
    length row ≡ length vs * length a.states → length first ≡ length ws * length a.states → ((p : ℕ) → get_or first p none ≡ none) →
    q ≡ length a.states → next ≡ with_states a vs row ws q first → next ≡ next_row a vs row ws
states_done a vs row ws q first next leads long long' clear same e =
    e ∙ ap (λ n. with_states a vs row ws n first) same ∙ row_is a vs row ws first (leads_from a leads) long long' (λ p lt. clear p)

with_states_canonical : (a : Body) (vs : List ℤ) (row : List Hull) (ws : List ℤ) (n : ℕ) (next : List Hull) → AllTakeNone next →
    AllTakeNone (with_states a vs row ws n next)
unfolding with_states with_state
with_states_canonical a vs row ws zero next h = h
with_states_canonical a vs row ws (suc n) next h =
    let s = length a.states in
    let n0 = with_states a vs row ws n next in
    let n1 = with_move (move_at a n Less) Less s n vs row ws n0 in
    let n2 = with_move (move_at a n Equal) Equal s n vs row ws n1 in
    with_move_canonical (move_at a n Greater) Greater s n vs row ws n2 (with_move (move_at a n Greater) Greater s n vs row ws n2) refl
    (with_move_canonical (move_at a n Equal) Equal s n vs row ws n1 n2 refl
    (with_move_canonical (move_at a n Less) Less s n vs row ws n0 n1 refl (with_states_canonical a vs row ws n next h)))

-- the row that is filled so far is a row of the next cell, into which moves can be taken
pub states_next : (a : Body) (vs : List ℤ) (row : List Hull) (ws : List ℤ) (n : ℕ) (first next : List Hull) → length first ≡ length ws * length a.states →
    ((p : ℕ) → get_or first p none ≡ none) → next ≡ with_states a vs row ws n first → AllTakeNone next × (length next ≡ length ws * length a.states)
states_next a vs row ws n first next long clear e = (
  subst (λ (z : List Hull). AllTakeNone z) (sym e)
      (with_states_canonical a vs row ws n first (λ p. subst (λ (z : Hull). TakesNone z) (sym (clear p)) none_takes_none)),
  ap length e ∙ length-with_states a vs row ws n first ∙ long,
)

-- a row of the next cell that took in one more move stays one
pub move_next : (m : Move) (l : Letter) (s q : ℕ) (vs : List ℤ) (row : List Hull) (ws : List ℤ) (first next : List Hull) →
    AllTakeNone first × (length first ≡ length ws * s) → next ≡ with_move m l s q vs row ws first → AllTakeNone next × (length next ≡ length ws * s)
move_next m l s q vs row ws first next h e = (
  with_move_canonical m l s q vs row ws first next e h.0,
  ap length e ∙ length-with_move m l s q vs row ws first ∙ h.1,
)

-- all hulls of a row that stands stand at their places

AllStand : Body → List Source → Type 0
AllStand b ss = AllByRecursion (λ s. HullStands b (standing_at s)) ss

all_parts : {A : Type 0} (P : A → Type 0) (xs ys : List A) → AllByRecursion P (xs ++ ys) → AllByRecursion P xs × AllByRecursion P ys
all_parts P [] ys h = (tt, h)
all_parts P (x ∷ xs) ys h = let t = all_parts P xs ys h.1 in ((h.0, t.0), t.1)

stands_from : (b : Body) (v : ℤ) (p : ℕ) (hs : List Hull) (q : ℕ) → AllStand b (sources_from v p hs) → q < length hs →
    HullStands b (record { state = p + q; regs = spans_of (get_or hs q none) })
unfolding sources_from AllStand
stands_from b v p [] q h lt = absurd (omega (arith, lt))
stands_from b v p (x ∷ hs) zero h lt =
    let e : p ≡ p + 0 = omega arith in subst (λ z. HullStands b (record { state = z; regs = spans_of x })) e h.0
stands_from b v p (x ∷ hs) (suc q) h lt =
    let e : suc p + q ≡ p + suc q = omega arith in
    subst (λ z. HullStands b (record { state = z; regs = spans_of (get_or hs q none) })) e (stands_from b v (suc p) hs q h.1 (omega (arith, lt)))

pub stands_at : (b : Body) (vs : List ℤ) (row : List Hull) (i q : ℕ) → RowStands b vs row → length row ≡ length vs * length b.states → i < length vs →
    q < length b.states → HullStands b (record { state = q; regs = spans_of (hull_in (length b.states) q row i) })
unfolding sources AllStand
stands_at b [] row i q h long inside lt = absurd (omega (arith, inside))
stands_at b (v ∷ vs) row zero q h long inside lt =
    let s = length b.states in
    let enough : s ≤ length row = omega (arith, long) in
    let wide = length-take-le s row enough in
    let here = stands_from b v 0 (take s row) q (all_parts (λ s. HullStands b (standing_at s)) _ _ h).0 (omega (arith, wide, lt)) in
    let e : 0 + q ≡ q = omega arith in
    let place : q ≡ 0 * s + q = omega arith in
    subst (λ z. HullStands b (record { state = q; regs = spans_of z })) (get_or-take s row q none lt ∙ ap (λ n. get_or row n none) place)
    (subst (λ z. HullStands b (record { state = z; regs = spans_of (get_or (take s row) q none) })) e here)
stands_at b (v ∷ vs) row (suc i) q h long inside lt =
    let s = length b.states in
    let left : length (drop s row) ≡ length vs * s = let d = length-drop s row in omega (arith, d, long) in
    let place : s + (i * s + q) ≡ suc i * s + q = omega arith in
    subst (λ z. HullStands b (record { state = q; regs = spans_of z })) (get_or-drop s row (i * s + q) none ∙ ap (λ n. get_or row n none) place)
    (stands_at b vs (drop s row) i q (all_parts (λ s. HullStands b (standing_at s)) _ _ h).1 left (omega (arith, inside)) lt)

-- what one hull gives to a next value

same_letters : (a l : Letter) → same_letter a l ≡ true → a ≡ l
same_letters Less Less e = refl
same_letters Less Equal e = never (sym e)
same_letters Less Greater e = never (sym e)
same_letters Equal Less e = never (sym e)
same_letters Equal Equal e = refl
same_letters Equal Greater e = never (sym e)
same_letters Greater Less e = never (sym e)
same_letters Greater Equal e = never (sym e)
same_letters Greater Greater e = refl

pub given_is : (b : Body) (q : ℕ) (l : Letter) (s i : ℕ) (vs : List ℤ) (row : List Hull) (v v' w w' : ℤ) (from to : HullAt) → v' ≡ v → w' ≡ w →
    v ≡ get_or vs i (pos 0) → from ≡ record { state = q; hull = hull_in s q row i } → true ≡ same_letter (letter_of v' w') l →
    hull_standing to ≡ span_step b (hull_standing from) v' w' → to.hull ≡ pair_gives (move_at b q l) l s q vs row w i
unfolding move_at after_move
given_is b q l s i vs row v v' w w' from to is_v is_w v_is from_is fit step =
    let h = hull_in s q row i in
    let x = get_or vs i (pos 0) in
    let ev = is_v ∙ v_is in
    let fits : same_letter (letter_of x w) l ≡ true = sym (fit ∙ ap (λ z. same_letter (letter_of z w') l) ev ∙ ap (λ z. same_letter (letter_of x z) l) is_w) in
    let at : hull_standing to ≡ span_step b (record { state = q; regs = spans_of h }) x w =
    step ∙ ap (λ z. span_step b (hull_standing z) v' w') from_is ∙ ap (λ z. span_step b (record { state = q; regs = spans_of h }) z w') ev
    ∙ ap (λ z. span_step b (record { state = q; regs = spans_of h }) x z) is_w in
    ap (λ z. hull_of z.regs) at
    ∙ ap (λ z. after_move (move_on z (node_at b.states q)) h x w) (same_letters (letter_of x w) l fits)
    ∙ ap (λ z. cond z (after_move (move_at b q l) h x w) none) (sym fits)

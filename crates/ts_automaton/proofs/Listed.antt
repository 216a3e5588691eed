-- Rules over the states of the program and over what contracts see of them, and faults state by state.
use Rattle.std.proofs.Common.{◌≡◌, ◌<◌, ◌≤◌, ℕ, suc, ◌+◌, ◌-◌, Bool, true, false, not, ◌&&◌, List, [], ◌∷◌, ◌++◌, map, length, drop, get_or, refl, sym, ◌∙◌, ap, arith}
use Rattle.std.specs.Prelude.{Option, None, Some, is_some, is_none, cond, nat_eq, nat_le}
use Rattle.std.specs.List.{list_all, list_any, find}
use Rattle.std.specs.Option.{option_or}
use Rattle.std.proofs.lemmas.List.Folds.{list_all-map, find-append}
use Rattle.std.proofs.lemmas.List.{length-map}
use Rattle.ts_base.specs.declared.letter.Letter.TheVariants.{Less, Equal, Greater}
use Rattle.ts_automaton.specs.declared.state.State.{State}
use Rattle.ts_automaton.specs.declared.typing.Place.{Place}
use Rattle.ts_automaton.specs.declared.typing.Place.TheVariants.{Start, Moving, Finish}
use Rattle.ts_automaton.specs.Body.{Body, node_of, node_at}
use Rattle.ts_automaton.specs.Typing.{leads_below, are_different, has_few_states, has_names, has_constants, has_targets, has_expressions, is_formed, is_typed, is_typed_at, is_finish_typed, moves_from, places, move_fault, typing_fault}
use Rattle.ts_automaton.proofs.Lists.{list_any_map}
use Rattle.std.proofs.lemmas.Bool.{and_parts, leb-true}

pub targets_within : (states items : List State) (r : Bool) → r ≡ list_all (λ s. leads_below (length states) (node_of s)) states → states ≡ items →
    r ≡ list_all (leads_below (length (map node_of items))) (map node_of items)
targets_within states items r h e =
    h ∙ ap (λ ss. list_all (λ s. leads_below (length ss) (node_of s)) ss) e ∙ sym (list_all-map (leads_below (length items)) node_of items)
    ∙ ap (λ m. list_all (leads_below m) (map node_of items)) (sym (length-map items node_of))

-- the faults of the state q come first
one_state : (b : Body) (q n : ℕ) → q < n → move_fault b q (n - q) ≡ option_or (move_fault b q 1) (move_fault b (q + 1) (n - (q + 1)))
one_state b q n h =
    let e : n - q ≡ suc (n - (q + 1)) = omega arith in
    ap (move_fault b q) e
    ∙ find-append (λ p. not (is_typed_at b p)) (Moving q Less ∷ Moving q Equal ∷ Moving q Greater ∷ []) (moves_from (q + 1) (n - (q + 1)))

pub found_here : (b : Body) (q n : ℕ) (r : Option Place) → q < n → r ≡ move_fault b q 1 → is_some r ≡ true →
    move_fault b 0 n ≡ move_fault b q (n - q) → r ≡ move_fault b 0 n
found_here b q n (Some p) h e s i = sym (i ∙ one_state b q n h ∙ ap (λ o. option_or o (move_fault b (q + 1) (n - (q + 1)))) (sym e))
found_here b q n None h e s i = cc

pub none_here : (b : Body) (q n : ℕ) (r : Option Place) → q < n → r ≡ move_fault b q 1 → is_some r ≡ false →
    move_fault b 0 n ≡ move_fault b q (n - q) → move_fault b 0 n ≡ move_fault b (q + 1) (n - (q + 1))
none_here b q n None h e s i = i ∙ one_state b q n h ∙ ap (λ o. option_or o (move_fault b (q + 1) (n - (q + 1)))) (sym e)
none_here b q n (Some p) h e s i = cc

-- all pass where the first that doesn't is nowhere
pub all_or_first : {X : Type 0} (test : X → Bool) (xs : List X) → list_all test xs ≡ is_none (find (λ x. not (test x)) xs)
all_or_first test [] = refl
all_or_first test (x ∷ xs) = go (test x) (all_or_first test xs)
  where
    go : (v : Bool) → list_all test xs ≡ is_none (find (λ y. not (test y)) xs) →
        v && list_all test xs ≡ is_none (cond (not v) (Some x) (find (λ y. not (test y)) xs))
    go true h = h
    go false h = refl

pub typed_or_fault : (b : Body) → is_typed b ≡ is_none (typing_fault b)
typed_or_fault b = all_or_first (is_typed_at b) (places b)

-- where the first state is free, the faults of moves come before that of the finish expression
after_start : (b : Body) (n : ℕ) → n ≡ length b.states → (node_at b.states 0).held ≡ false →
    typing_fault b ≡ option_or (move_fault b 0 n) (find (λ p. not (is_typed_at b p)) (Finish ∷ []))
after_start b n k h =
    ap (λ v. cond (not (not v)) (Some Start) (find (λ p. not (is_typed_at b p)) (moves_from 0 (length b.states) ++ Finish ∷ []))) h
    ∙ find-append (λ p. not (is_typed_at b p)) (moves_from 0 (length b.states)) (Finish ∷ [])
    ∙ ap (λ m. option_or (move_fault b 0 m) (find (λ p. not (is_typed_at b p)) (Finish ∷ []))) (sym k)

pub first_is_move : (b : Body) (n : ℕ) (r : Option Place) → n ≡ length b.states → (node_at b.states 0).held ≡ false → r ≡ move_fault b 0 n → is_some r ≡ true →
    r ≡ typing_fault b
first_is_move b n (Some p) k h e s = sym (after_start b n k h ∙ ap (λ o. option_or o (find (λ p. not (is_typed_at b p)) (Finish ∷ []))) (sym e))
first_is_move b n None k h e s = cc

-- no move is against the typing
pub first_is_finish : (b : Body) (n : ℕ) (r : Option Place) (f : Bool) → n ≡ length b.states → (node_at b.states 0).held ≡ false → r ≡ move_fault b 0 n →
    is_some r ≡ false →
    f ≡ is_finish_typed b → cond f None (Some Finish) ≡ typing_fault b
first_is_finish b n None f k h e s i =
    sym (after_start b n k h ∙ ap (λ o. option_or o (find (λ p. not (is_typed_at b p)) (Finish ∷ []))) (sym e)
    ∙ ap (λ v. cond (not v) (Some Finish) None) (sym i) ∙ turned f)
  where
    turned : (v : Bool) → cond (not v) (Some Finish) None ≡ cond v None (Some Finish)
    turned true = refl
    turned false = refl
first_is_finish b n (Some p) f k h e s i = cc

pub different_more : (states rest : List State) (first : State) (r d : Bool) → 1 ≤ length states → rest ≡ drop 1 states → first ≡ get_or states 0 first →
    r ≡ list_any (λ s. nat_eq s.name first.name) rest → d ≡ are_different (map node_of rest) → not r && d ≡ are_different (map node_of states)
different_more [] rest first r d k u e h i = absurd (omega (arith, k))
different_more (s ∷ ss) rest first r d k u e h i =
    ap (λ v. not v && d) (h ∙ ap (λ l. list_any (λ u. nat_eq u.name first.name) l) u ∙ ap (λ t. list_any (λ u. nat_eq u.name t.name) ss) e
    ∙ sym (list_any_map (λ u. nat_eq u.name s.name) node_of ss))
    ∙ ap (λ v. not (list_any (λ u. nat_eq u.name s.name) (map node_of ss)) && v) (i ∙ ap (λ l. are_different (map node_of l)) u)

pub has_name_already : (states rest : List State) (first : State) (r : Bool) → 1 ≤ length states → rest ≡ drop 1 states → first ≡ get_or states 0 first →
    r ≡ list_any (λ s. nat_eq s.name first.name) rest → r ≡ true → not r ≡ are_different (map node_of states)
has_name_already states rest first r k u e h t =
    ap not t ∙ ap (λ v. not v && are_different (map node_of rest)) (sym t) ∙ different_more states rest first r (are_different (map node_of rest)) k u e h refl

pub none_told : {X : Type 0} (o : Option X) (r : Bool) → is_some o ≡ not r → r ≡ is_none o
none_told None true h = refl
none_told None false h = cc
none_told (Some x) true h = cc
none_told (Some x) false h = refl

pub few_formed : (b : Body) (n : ℕ) → n ≡ length b.states → is_formed b ≡ true → n ≤ 256
few_formed b n k h =
    let q = and_parts (has_few_states b && has_names b && has_constants b && has_targets b) (has_expressions b) h in
    let r = and_parts (has_few_states b && has_names b && has_constants b) (has_targets b) q.0 in
    let s = and_parts (has_few_states b && has_names b) (has_constants b) r.0 in
    let t = and_parts (has_few_states b) (has_names b) s.0 in
    let u = and_parts (nat_le 1 (length b.states)) (nat_le (length b.states) 8) t.0 in
    let w : length b.states ≤ 8 = leb-true _ _ u.1 in
    omega (arith, w, k)

-- What the rules of an automaton say of its states, moves and finish expression.
use Rattle.std.proofs.Common.{inl, inr, ◌≡◌, ◌<◌, ◌≤◌, ℕ, zero, suc, ◌+◌, Bool, true, false, not, ◌&&◌, ◌||◌, List, [], ◌∷◌, ◌++◌, length, get_or, refl, sym, ◌∙◌, ap, subst, arith}
use Rattle.std.specs.Prelude.{IsTrue, is_some, nat_le, nat_lt}
use Rattle.std.specs.List.{list_all, list_any}
use Rattle.std.proofs.lemmas.Bool.{and_parts, leb-true, ltb-true, not-true, cases_eq}
use Rattle.std.proofs.lemmas.List.Folds.{list_all-append}
use Rattle.ts_base.specs.declared.letter.Letter.{Letter}
use Rattle.ts_base.specs.declared.letter.Letter.TheVariants.{Less, Equal, Greater}
use Rattle.ts_automaton.specs.declared.typing.Place.TheVariants.{Start, Moving, Finish}
use Rattle.ts_automaton.specs.Kinds.{formula_kind}
use Rattle.ts_automaton.specs.Body.{Node, Body, move_on, node_at, rest_node}
use Rattle.ts_automaton.specs.Typing.{has_few_states, has_names, has_constants, has_targets, has_expressions, is_formed, is_typed, is_automaton, leads_below, moves_from, is_typed_at, is_move_typed, is_finish_typed, is_finish_typed_where_held, reads_registers, kinds_where, kinds_at}

-- the rules as facts
pub record Rules (b : Body) : Type 0 where
  pub some : 1 ≤ length b.states
  pub few : length b.states ≤ 8
  pub targets : IsTrue (has_targets b)
  pub typed : IsTrue (is_typed b)

pub rules_of : (b : Body) → IsTrue (is_automaton b) → Rules b
rules_of b h =
    let p = and_parts (is_formed b) (is_typed b) h in
    let q = and_parts (has_few_states b && has_names b && has_constants b && has_targets b) (has_expressions b) p.0 in
    let r = and_parts (has_few_states b && has_names b && has_constants b) (has_targets b) q.0 in
    let s = and_parts (has_few_states b && has_names b) (has_constants b) r.0 in
    let t = and_parts (has_few_states b) (has_names b) s.0 in
    let u = and_parts (nat_le 1 (length b.states)) (nat_le (length b.states) 8) t.0 in
    record { some = leb-true _ _ u.0; few = leb-true _ _ u.1; targets = r.1; typed = p.1 }

pub few_states : (b : Body) → IsTrue (is_automaton b) → (1 ≤ length b.states) × (length b.states ≤ 8)
few_states b h = let r = rules_of b h in (r.some, r.few)

-- a test that all pass is passed at a place
pub passed_at : {X : Type 0} (test : X → Bool) (xs : List X) (q : ℕ) (d : X) → list_all test xs ≡ true → q < length xs → test (get_or xs q d) ≡ true
passed_at test [] q d h i = absurd (omega (arith, i))
passed_at test (x ∷ xs) zero d h i = (and_parts (test x) (list_all test xs) h).0
passed_at test (x ∷ xs) (suc q) d h i = passed_at test xs q d (and_parts (test x) (list_all test xs) h).1 (omega (arith, i))

-- a move of a state leads to a state
pub target_exists : (b : Body) → Rules b → (q : ℕ) (l : Letter) → q < length b.states → (move_on l (node_at b.states q)).next < length b.states
target_exists b r q l h = go l
  where
    all : IsTrue (leads_below (length b.states) (node_at b.states q))
    all = passed_at (leads_below (length b.states)) b.states q rest_node r.targets h

    front : IsTrue (nat_lt (node_at b.states q).less.next (length b.states) && nat_lt (node_at b.states q).equal.next (length b.states))
    front = (and_parts _ _ all).0

    go : (l : Letter) → (move_on l (node_at b.states q)).next < length b.states
    go Less = ltb-true _ _ (and_parts _ _ front).0
    go Equal = ltb-true _ _ (and_parts _ _ front).1
    go Greater = ltb-true _ _ (and_parts _ _ all).1

typed_from : (b : Body) (p n q : ℕ) (l : Letter) → list_all (is_typed_at b) (moves_from p n) ≡ true → p ≤ q → q < p + n → is_typed_at b (Moving q l) ≡ true
typed_from b p zero q l h i j = absurd (omega (arith, i, j))
typed_from b p (suc n) q l h i j = elim (cases_eq p q) [ inl e ↦ here e | inr d ↦ typed_from b (p + 1) n q l rest (omega (arith, i, d)) (omega (arith, j)) ]
  where
    parts : (is_typed_at b (Moving p Less) ≡ true) ×
        ((is_typed_at b (Moving p Equal) && (is_typed_at b (Moving p Greater) && list_all (is_typed_at b) (moves_from (p + 1) n))) ≡ true)
    parts = and_parts _ _ h

    parts2 : (is_typed_at b (Moving p Equal) ≡ true) × ((is_typed_at b (Moving p Greater) && list_all (is_typed_at b) (moves_from (p + 1) n)) ≡ true)
    parts2 = and_parts _ _ parts.1

    parts3 : (is_typed_at b (Moving p Greater) ≡ true) × (list_all (is_typed_at b) (moves_from (p + 1) n) ≡ true)
    parts3 = and_parts _ _ parts2.1

    rest : list_all (is_typed_at b) (moves_from (p + 1) n) ≡ true
    rest = parts3.1

    at_p : (k : Letter) → is_typed_at b (Moving p k) ≡ true
    at_p Less = parts.0
    at_p Equal = parts2.0
    at_p Greater = parts3.0

    here : p ≡ q → is_typed_at b (Moving q l) ≡ true
    here e = subst (λ m. is_typed_at b (Moving m l) ≡ true) e (at_p l)

-- the three parts of the typing
pub typed_parts : (b : Body) → IsTrue (is_typed b) →
    IsTrue (not (node_at b.states 0).held) × (list_all (is_typed_at b) (moves_from 0 (length b.states)) ≡ true) × IsTrue (is_finish_typed b)
typed_parts b h =
    let p = and_parts (is_typed_at b Start) (list_all (is_typed_at b) (moves_from 0 (length b.states) ++ Finish ∷ [])) h in
    let q = and_parts _ _ (sym (list_all-append (is_typed_at b) (moves_from 0 (length b.states)) (Finish ∷ [])) ∙ p.1) in
    let r = and_parts _ _ q.1 in
    (p.0, q.0, r.0)

pub move_typed : (b : Body) → Rules b → (q : ℕ) (l : Letter) → q < length b.states → IsTrue (is_move_typed b q (move_on l (node_at b.states q)))
move_typed b r q l h = typed_from b 0 (length b.states) q l (typed_parts b r.typed).1 (omega arith) (omega (arith, h))

pub starts_free : (b : Body) → Rules b → (node_at b.states 0).held ≡ false
starts_free b r = not-true _ (typed_parts b r.typed).0

any_held : (ss : List Node) (q : ℕ) → (node_at ss q).held ≡ true → list_any (λ s. s.held) ss ≡ true
any_held [] q h = h
any_held (s ∷ ss) zero h = ap (λ v. v || list_any (λ t. t.held) ss) h
any_held (s ∷ ss) (suc q) h = go s.held (any_held ss q h)
  where
    go : (v : Bool) → list_any (λ t. t.held) ss ≡ true → v || list_any (λ t. t.held) ss ≡ true
    go true e = refl
    go false e = e

-- the finish expression has a kind in each state
pub finish_typed : (b : Body) → Rules b → (q : ℕ) → IsTrue (is_some (formula_kind (kinds_at b q) b.finish))
finish_typed b r q = go (node_at b.states q).held refl
  where
    parts : IsTrue (reads_registers b.finish && is_some (formula_kind (kinds_where b false) b.finish)) × IsTrue (is_finish_typed_where_held b)
    parts = and_parts _ _ (typed_parts b r.typed).2

    with_held : list_any (λ s. s.held) b.states ≡ true → IsTrue (is_some (formula_kind (kinds_where b true) b.finish))
    with_held e = subst (λ v. IsTrue (not v || is_some (formula_kind (kinds_where b true) b.finish))) e parts.1

    go : (v : Bool) → (node_at b.states q).held ≡ v → IsTrue (is_some (formula_kind (kinds_where b v) b.finish))
    go false e = (and_parts (reads_registers b.finish) _ parts.0).1
    go true e = with_held (any_held b.states q e)

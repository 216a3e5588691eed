-- The states of the Join pairs that a machine lends are there.
use Rattle.std.proofs.Common.{◌≡◌, true, ◌&&◌, nat_lt, List, [], ◌∷◌, length, refl, sym, subst, ltb-true}
use Rattle.std.specs.Prelude.{All, IsTrue, Option, None, Some, option_map}
use Rattle.std.specs.List.{AllByRecursion, list_all}
use Rattle.std.proofs.lemmas.Bool.{and_parts}
use Rattle.std.proofs.lemmas.List.Elements.{All-from_recursion}
use Rattle.ts_base.specs.declared.range.Join.{Join}
use Rattle.ts_automaton.specs.Body.{Body}
use Rattle.ts_glue.specs.declared.machine.Half.{Half}
use Rattle.ts_glue.specs.declared.machine.Machine.{Machine}
use Rattle.ts_glue.specs.Machines.{reverse_of, table_of}
use Rattle.ts_glue.specs.Pairs.{Pair, Table, pair, table_view}
use Rattle.ts_glue.specs.Rules.{has_join_states}
use Rattle.ts_glue.proofs.Facts.{facts_of}
use Rattle.ts_compile.specs.ProgramText.{IsBetween}

between_each : (forward reverse : Body) (js : List Join) →
    list_all (λ j. nat_lt j.forward (length forward.states) && nat_lt j.reverse (length reverse.states)) js ≡ true →
    AllByRecursion (IsBetween forward reverse) js
between_each forward reverse [] h = tt
between_each forward reverse (j ∷ js) h =
    let p = and_parts (nat_lt j.forward (length forward.states) && nat_lt j.reverse (length reverse.states))
    (list_all (λ i. nat_lt i.forward (length forward.states) && nat_lt i.reverse (length reverse.states)) js) h in
    let b = and_parts (nat_lt j.forward (length forward.states)) (nat_lt j.reverse (length reverse.states)) p.0 in
    ((ltb-true j.forward (length forward.states) b.0, ltb-true j.reverse (length reverse.states) b.1), between_each forward reverse js p.1)

-- as the rule says it, of each pair
pub all_between : (forward reverse : Body) (t : Table) (js : List Join) → js ≡ t.joins → IsTrue (has_join_states (pair forward reverse t)) →
    All (IsBetween forward reverse) js
all_between forward reverse t js are h =
    All-from_recursion (IsBetween forward reverse) js
    (between_each forward reverse js
    (subst (λ (x : List Join). list_all (λ j. nat_lt j.forward (length forward.states) && nat_lt j.reverse (length reverse.states)) x ≡ true) (sym are) h))

abbrev held : Body → Option Half → Option Pair
held forward o = option_map (λ h. pair forward h.reverse (table_view h.table)) o

-- what a machine lends keeps the rule
pub states_there : (m : Machine) (reverse : Body) (t : Table) → reverse_of m ≡ Some reverse → table_of m ≡ Some t →
    IsTrue (has_join_states (pair m.forward reverse t))
states_there m reverse t = go m.half refl
  where
    go : (o : Option Half) → m.half ≡ o → option_map (λ p. p.reverse) (held m.forward o) ≡ Some reverse →
        option_map (λ p. p.table) (held m.forward o) ≡ Some t → IsTrue (has_join_states (pair m.forward reverse t))
    go None kept of_reverse of_table = cc
    go (Some h) kept of_reverse of_table =
        let back : h.reverse ≡ reverse = cc in
        let glue : table_view h.table ≡ t = cc in
        subst (λ b. IsTrue (has_join_states (pair m.forward b t))) back
        (subst (λ g. IsTrue (has_join_states (pair m.forward h.reverse g))) glue
        (facts_of (pair m.forward h.reverse (table_view h.table)) (m.rules h kept)).join_states)

-- The moves of a state by what its expressions are, and the nodes of the rows, one more at a time.
use Rattle.std.specs.Prelude.{◌≡◌, ℕ, zero, suc, ◌+◌, ◌<◌, ◌≤◌, List, [], ◌∷◌, ◌++◌, length, drop, map, get_or, Option, Some, refl}
use Rattle.std.proofs.Common.{sym, ◌∙◌, ap, arith, append_assoc, append-nil}
use Rattle.std.proofs.lemmas.List.{map-append}
use Rattle.ts_base.specs.declared.constant.Constant.{Constant}
use Rattle.ts_base.specs.declared.constant.Constant.TheVariants.{Zero}
use Rattle.ts_transducer.specs.declared.row.Arrow.{Arrow}
use Rattle.ts_transducer.specs.declared.row.Row.{Row}
use Rattle.ts_pattern.specs.declared.arithmetic.CellFold.{CellFold}
use Rattle.ts_pattern.specs.declared.name.Aggregator.{Aggregator}
use Rattle.ts_pattern.specs.declared.name.Feature.{Feature}
use Rattle.ts_pattern.specs.Arithmetic.{cell_fold, less_fold, range_fold}
use Rattle.ts_automaton.specs.declared.expr.Atom.TheVariants.{C, E, D, F}
use Rattle.ts_automaton.specs.declared.state.State.{State}
use Rattle.ts_automaton.specs.Formula.{Formula, Leaf, Join}
use Rattle.ts_automaton.specs.Registers.{each}
use Rattle.ts_automaton.specs.Body.{Move, Node, node_of}
use Rattle.ts_decorate.specs.Operators.{Half, range_after, cells_after, ranges_after}
use Rattle.ts_decorate.specs.Rows.{half_by}
use Rattle.ts_decorate.specs.Decoration.{here, next, constant_formula, expression_operators, register_by, registers, move_made, node_made, nodes_made, state_names}

five_formulas : {c c' e e' d d' u u' r r' : Formula} → c ≡ c' → e ≡ e' → d ≡ d' → u ≡ u' → r ≡ r' → each c e d u r ≡ each c' e' d' u' r'
five_formulas p q s t w = cc

half_is : (row same : Option CellFold) (idle constant : Constant) → row ≡ same → idle ≡ constant →
    half_by constant_formula Join row idle ≡ half_by constant_formula Join same constant
half_is row same idle constant p q = ap (λ z. half_by constant_formula Join z idle) p ∙ ap (half_by constant_formula Join same) q

-- the expressions of a move, built by halves with these rows and constants; x is E, y and z are F
pub turn_is : (a : ℕ) (g : Aggregator) (f : Feature) (m : Arrow) (row low : Option CellFold) (idle rest : Constant) (x y z c e d u r : Formula) →
    row ≡ Some (cell_fold f) → idle ≡ (range_fold g).default → low ≡ less_fold f → rest ≡ Zero →
    x ≡ register_by (less_fold f) E → y ≡ register_by (less_fold f) F → z ≡ register_by (less_fold f) F →
    c ≡ range_after (half_by constant_formula Join row idle) a m.phase (Leaf C) (Leaf D) (here f) (next f) →
    e ≡ range_after (half_by constant_formula Join low rest) a m.phase x y (here f) (next f) →
    d ≡ cells_after (half_by constant_formula Join row idle) a m.phase (Leaf D) (here f) (next f) →
    u ≡ cells_after (half_by constant_formula Join low rest) a m.phase z (here f) (next f) →
    r ≡ ranges_after (expression_operators g f) a m.phase (registers f) (here f) (next f) →
    ◌≡◌ {A = Move} (record { next = m.next; to = each c e d u r }) (move_made a g f m)
turn_is a g f m row low idle rest x y z c e d u r pr pi pl pz px py pw hc he hd hu hr =
    let o = expression_operators g f in
    let whole = half_is row (Some (cell_fold f)) idle (range_fold g).default pr pi in
    let less = half_is low (less_fold f) rest Zero pl pz in
    ap (λ t. let n : Move = record { next = m.next; to = t } in n)
    (five_formulas
    (hc ∙ ap (λ (h : Half Formula). range_after h a m.phase (Leaf C) (Leaf D) (here f) (next f)) whole)
    (he ∙ ap (λ (h : Half Formula). range_after h a m.phase x y (here f) (next f)) less
    ∙ ap (λ v. range_after o.less a m.phase v y (here f) (next f)) px
    ∙ ap (λ v. range_after o.less a m.phase (register_by (less_fold f) E) v (here f) (next f)) py)
    (hd ∙ ap (λ (h : Half Formula). cells_after h a m.phase (Leaf D) (here f) (next f)) whole)
    (hu ∙ ap (λ (h : Half Formula). cells_after h a m.phase z (here f) (next f)) less
    ∙ ap (λ v. cells_after o.less a m.phase v (here f) (next f)) pw)
    hr)

first_of : (a : ℕ) (g : Aggregator) (f : Feature) (names : List ℕ) (rows : List Row) (k : ℕ) (n : ℕ) (r : Row) → k < length rows → length rows ≤ length names →
    nodes_made a g f (drop k names) (drop k rows)
    ≡ node_made a g f (get_or names k n) (get_or rows k r) ∷ nodes_made a g f (drop (suc k) names) (drop (suc k) rows)
first_of a g f [] rows k n r h few = absurd (omega (arith, h, few))
first_of a g f (m ∷ names) [] k n r h few = absurd (omega (arith, h))
first_of a g f (m ∷ names) (q ∷ rows) zero n r h few = refl
first_of a g f (m ∷ names) (q ∷ rows) (suc k) n r h few = first_of a g f names rows k n r (omega (arith, h)) (omega (arith, few))

pub one_more_state : (a : ℕ) (g : Aggregator) (f : Feature) (rows : List Row) (k : ℕ) (name n : ℕ) (row r : Row)
    (states more : List State) (s : State) (all : List Node) →
    k < length rows → length rows ≤ 8 → name ≡ get_or state_names k n → row ≡ get_or rows k r →
    node_of s ≡ node_made a g f name row → more ≡ states ++ s ∷ [] →
    map node_of states ++ nodes_made a g f (drop k state_names) (drop k rows) ≡ all →
    map node_of more ++ nodes_made a g f (drop (k + 1) state_names) (drop (k + 1) rows) ≡ all
one_more_state a g f rows k name n row r states more s all h few en er es em i =
    let rest = nodes_made a g f (drop (k + 1) state_names) (drop (k + 1) rows) in
    let next : k + 1 ≡ suc k = omega arith in
    let made : node_of s ≡ node_made a g f (get_or state_names k n) (get_or rows k r) =
    es ∙ ap (λ m. node_made a g f m row) en ∙ ap (λ q. node_made a g f (get_or state_names k n) q) er in
    ap (λ l. map node_of l ++ rest) em
    ∙ ap (λ l. l ++ rest) (map-append node_of states (s ∷ []))
    ∙ append_assoc (map node_of states) (node_of s ∷ []) rest
    ∙ ap (λ q. map node_of states ++ q ∷ rest) made
    ∙ ap (λ m. map node_of states ++ node_made a g f (get_or state_names k n) (get_or rows k r) ∷ nodes_made a g f (drop m state_names) (drop m rows)) next
    ∙ ap (λ l. map node_of states ++ l) (sym (first_of a g f state_names rows k n r h few))
    ∙ i

no_nodes : (a : ℕ) (g : Aggregator) (f : Feature) (names : List ℕ) (rows : List Row) (k : ℕ) → length rows ≤ k →
    nodes_made a g f (drop k names) (drop k rows) ≡ []
no_nodes a g f names [] zero h = go names
  where
    go : (names : List ℕ) → nodes_made a g f names [] ≡ []
    go [] = refl
    go (m ∷ names) = refl
no_nodes a g f names [] (suc k) h = go (drop (suc k) names)
  where
    go : (names : List ℕ) → nodes_made a g f names [] ≡ []
    go [] = refl
    go (m ∷ names) = refl
no_nodes a g f names (r ∷ rows) zero h = absurd (omega (arith, h))
no_nodes a g f [] (r ∷ rows) (suc k) h = refl
no_nodes a g f (m ∷ names) (r ∷ rows) (suc k) h = no_nodes a g f names rows k (omega (arith, h))

pub no_state_left : (a : ℕ) (g : Aggregator) (f : Feature) (rows : List Row) (k : ℕ) (states : List State) (all : List Node) → length rows ≤ k →
    map node_of states ++ nodes_made a g f (drop k state_names) (drop k rows) ≡ all → map node_of states ≡ all
no_state_left a g f rows k states all h i =
    sym (append-nil (map node_of states)) ∙ ap (λ l. map node_of states ++ l) (sym (no_nodes a g f state_names rows k h)) ∙ i

-- What is seen of the next row depends on what is seen of the row before.
use Rattle.std.proofs.Common.{◌≡◌, ◌⊎◌, ℕ, ◌+◌, ◌*◌, ◌<◌, false, cond, nat_eq, ℤ, pos, List, [], ◌∷◌, ◌++◌, length, map, get_or, refl, sym, ap, ◌∙◌}
use Rattle.std.specs.Prelude.{IsTrue, flat_map}
use Rattle.std.proofs.lemmas.List.{length-map, map-append}
use Rattle.std.proofs.Math.ListN.{get_or-map}
use Rattle.ts_base.specs.declared.letter.Letter.{Letter}
use Rattle.ts_base.specs.declared.letter.Letter.TheVariants.{Less, Equal, Greater}
use Rattle.ts_automaton.specs.declared.regs.Hull.{Hull}
use Rattle.ts_automaton.specs.Body.{Body, Move}
use Rattle.ts_automaton.specs.Typing.{is_automaton}
use Rattle.ts_hull.specs.Hulls.{none, hull_of_both}
use Rattle.ts_hull.specs.Sealed.{after_move, move_at}
use Rattle.ts_hull.specs.Sweeps.{compares, hull_in, move_entry, pair_gives}
use Rattle.ts_hull.proofs.Sums.{total_same}
use Rattle.ts_sweep.specs.Columns.{gives}
use Rattle.ts_sweep.specs.Sides.{Sides, BothEnds, seen_hull}
use Rattle.ts_sweep.proofs.SeenLaws.{none_seen}
use Rattle.ts_row.specs.Rows.{state_gives, next_hull as next_packed}
use Rattle.ts_row.proofs.SeenRows.{next_seen}
use Rattle.ts_bound.specs.NextRow.{sources, states_of, next_hull, next_hulls, next_row}
use Rattle.ts_bound.specs.PackedRows.{seen_row}
use Rattle.ts_bound.proofs.SweptRows.{gift, gifts, entry_total}

-- what a move gives, from hulls that are those of a row
gives_is : (m : Move) (l : Letter) (s q : ℕ) (vs : List ℤ) (row : List Hull) (w : ℤ) (h : ℕ → Hull) →
    ((i : ℕ) → i < length vs → h i ≡ hull_in s q row i) →
    gives m l false (length vs) (λ i. get_or vs i (pos 0)) h w ≡ move_entry m l s q vs row w
unfolding gives move_entry
gives_is m l s q vs row w h same =
    total_same (length vs) (λ i. cond (compares l false (get_or vs i (pos 0)) w) (after_move m (h i) (get_or vs i (pos 0)) w) none)
    (λ i. pair_gives m l s q vs row w i)
    (λ i lt. ap (λ z. cond (compares l false (get_or vs i (pos 0)) w) (after_move m z (get_or vs i (pos 0)) w) none) (same i lt))

-- what a state gives
state_gives_is : (b : Body) (q : ℕ) (vs : List ℤ) (row : List Hull) (w : ℤ) (t : ℕ) (h : ℕ → Hull) →
    ((i : ℕ) → i < length vs → h i ≡ hull_in (length b.states) q row i) →
    state_gives b q (length vs) (λ i. get_or vs i (pos 0)) h w t ≡ gifts b vs row w t q
unfolding state_gives
state_gives_is b q vs row w t h same =
    let s = length b.states in
    let x = λ (l : Letter). cond (nat_eq (move_at b q l).next t) (gives (move_at b q l) l false (length vs) (λ i. get_or vs i (pos 0)) h w) none in
    let y = λ (l : Letter). gift (move_at b q l) l s q vs row w t in
    let to : (l : Letter) → x l ≡ y l = λ l. ap (λ z. cond (nat_eq (move_at b q l).next t) z none) (gives_is (move_at b q l) l s q vs row w h same) in
    ap (λ z. hull_of_both (hull_of_both z (x Equal)) (x Greater)) (to Less)
    ∙ ap (λ z. hull_of_both (hull_of_both (y Less) z) (x Greater)) (to Equal)
    ∙ ap (hull_of_both (hull_of_both (y Less) (y Equal))) (to Greater)

-- what all states give
pub all_gives : (b : Body) (vs : List ℤ) (row : List Hull) (w : ℤ) (t : ℕ) (h : ℕ → ℕ → Hull) → length row ≡ length vs * length b.states →
    ((q i : ℕ) → q < length b.states → i < length vs → h q i ≡ hull_in (length b.states) q row i) →
    next_packed b (length vs) (λ i. get_or vs i (pos 0)) h w t ≡ next_hull b (sources (length b.states) vs row) w t
all_gives b vs row w t h long same =
    total_same (length b.states) (λ q. state_gives b q (length vs) (λ i. get_or vs i (pos 0)) (h q) w t) (λ q. gifts b vs row w t q)
    (λ q lt. state_gives_is b q vs row w t (h q) (λ i less. same q i lt less))
    ∙ entry_total b vs row w t long

-- what is seen of a hull of a row
pub seen_at : (s : Sides) (n q : ℕ) (row : List Hull) (i : ℕ) → seen_hull s (hull_in n q row i) ≡ hull_in n q (seen_row s row) i
seen_at s n q row i =
    sym (ap (get_or (seen_row s row) (i * n + q)) (sym (none_seen s)) ∙ get_or-map (seen_hull s) row (i * n + q) none)

hull_seen : (s : Sides) (b : Body) → IsTrue (is_automaton b) → (s ≡ BothEnds) ⊎ (b.wide ≡ false) → (us : List ℤ) (row : List Hull) (w : ℤ) (t : ℕ) →
    length row ≡ length us * length b.states → seen_hull s (next_hull b (sources (length b.states) us (seen_row s row)) w t)
    ≡ seen_hull s (next_hull b (sources (length b.states) us row) w t)
hull_seen s b rules alone us row w t long =
    let h : ℕ → ℕ → Hull = λ q i. hull_in (length b.states) q row i in
    ap (seen_hull s) (sym (all_gives b us (seen_row s row) w t (λ q i. seen_hull s (h q i)) (length-map row (seen_hull s) ∙ long)
    (λ q i lt less. seen_at s (length b.states) q row i)))
    ∙ next_seen s b rules alone (length us) (λ i. get_or us i (pos 0)) w t h
    ∙ ap (seen_hull s) (all_gives b us row w t h long (λ q i lt less. refl))

-- what is seen of hulls that are made value by value
map_seen : (s : Sides) (f g : ℕ → Hull) (qs : List ℕ) → ((t : ℕ) → seen_hull s (f t) ≡ g t) → map (seen_hull s) (map f qs) ≡ map g qs
map_seen s f g [] same = refl
map_seen s f g (q ∷ qs) same =
    ap (λ z. z ∷ map (seen_hull s) (map f qs)) (same q) ∙ ap (λ zs. g q ∷ zs) (map_seen s f g qs same)

pub flat_seen : (s : Sides) (f g : ℤ → ℕ → Hull) (qs : List ℕ) (ws : List ℤ) → ((w : ℤ) (t : ℕ) → seen_hull s (f w t) ≡ g w t) →
    seen_row s (flat_map (λ w. map (f w) qs) ws) ≡ flat_map (λ w. map (g w) qs) ws
flat_seen s f g qs [] same = refl
flat_seen s f g qs (w ∷ ws) same =
    map-append (seen_hull s) (map (f w) qs) (flat_map (λ v. map (f v) qs) ws)
    ∙ ap (λ zs. zs ++ seen_row s (flat_map (λ v. map (f v) qs) ws)) (map_seen s (f w) (g w) qs (same w))
    ∙ ap (λ zs. map (g w) qs ++ zs) (flat_seen s f g qs ws same)

-- what is seen of a narrow row, or of a row with both ends, is enough for what is seen of the next
pub row_seen : (s : Sides) (b : Body) → IsTrue (is_automaton b) → (s ≡ BothEnds) ⊎ (b.wide ≡ false) → (us : List ℤ) (row : List Hull) (vs : List ℤ) →
    length row ≡ length us * length b.states → seen_row s (next_row b us (seen_row s row) vs) ≡ seen_row s (next_row b us row vs)
unfolding next_row next_hulls
row_seen s b rules alone us row vs long =
    let n = length b.states in
    let seen_one : ℤ → ℕ → Hull = λ w t. seen_hull s (next_hull b (sources n us row) w t) in
    flat_seen s (next_hull b (sources n us (seen_row s row))) seen_one (states_of b) vs (λ w t. hull_seen s b rules alone us row w t long)
    ∙ sym (flat_seen s (next_hull b (sources n us row)) seen_one (states_of b) vs (λ w t. refl))

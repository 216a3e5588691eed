-- Rows that stay packed are what is seen of the rows of the definition.
use Rattle.std.proofs.Common.{◌≡◌, ◌⊎◌, ℕ, ◌<◌, false, ℤ, pos, List, [], ◌∷◌, length, get_or, refl, sym, ap, ◌∙◌}
use Rattle.std.specs.Prelude.{IsTrue}
use Rattle.ts_automaton.specs.declared.regs.Hull.{Hull}
use Rattle.ts_automaton.specs.Body.{Body}
use Rattle.ts_automaton.specs.Typing.{is_automaton}
use Rattle.ts_sweep.specs.declared.packed.PackedHull.{PackedHull}
use Rattle.ts_sweep.specs.Sides.{BothEnds, seen_hull, sides}
use Rattle.ts_row.specs.Rows.{flat_row, hull_in as packed_hull_in, start_hull as packed_start, next_hull as next_packed}
use Rattle.ts_row.proofs.Flat.{flat_length, flat_at}
use Rattle.ts_bound.specs.HullTables.{start_hull, hull_at, hulls_at, row_of}
use Rattle.ts_bound.specs.NextRow.{sources, states_of, next_hull, next_hulls, next_row}
use Rattle.ts_bound.specs.PackedRows.{seen_row}
use Rattle.ts_bound.proofs.SeenRows.{all_gives, flat_seen, row_seen}
use Rattle.ts_bound.proofs.SweptRows.{row_by_places}
use Rattle.ts_bound.proofs.TableLaws.{length-row_of, row_from_row}

-- a row that is made from a packed row is what is seen of the next row
packed_next : (n : ℕ) (b : Body) (vs ws : List ℤ) (old new : List (List (PackedHull n))) →
    ((t j : ℕ) → t < length b.states → j < length ws → packed_hull_in n new t j
    ≡ seen_hull (sides n) (next_packed b (length vs) (λ i. get_or vs i (pos 0)) (packed_hull_in n old) (get_or ws j (pos 0)) t)) →
    flat_row n (length b.states) (length ws) new ≡ seen_row (sides n) (next_row b vs (flat_row n (length b.states) (length vs) old) ws)
unfolding next_row next_hulls
packed_next n b vs ws old new made =
    let s = length b.states in
    let row = flat_row n s (length vs) old in
    let seen_one : ℤ → ℕ → Hull = λ w t. seen_hull (sides n) (next_hull b (sources s vs row) w t) in
    row_by_places s seen_one ws (flat_row n s (length ws) new) (flat_length n s (length ws) new)
    (λ j t less lt. flat_at n s (length ws) new t j lt less ∙ made t j lt less
    ∙ ap (seen_hull (sides n)) (all_gives b vs row (get_or ws j (pos 0)) t (packed_hull_in n old) (flat_length n s (length vs) old)
    (λ q i lt less. sym (flat_at n s (length vs) old q i lt less))))
    ∙ sym (flat_seen (sides n) (next_hull b (sources s vs row)) seen_one (states_of b) ws (λ w t. refl))

-- a row that is made from what is seen of a row of the definition is what is seen of the next one
pub packed_row_of : (n : ℕ) (b : Body) (before : List (List ℤ)) (vs ws : List ℤ) (old new : List (List (PackedHull n))) →
    IsTrue (is_automaton b) → (sides n ≡ BothEnds) ⊎ (b.wide ≡ false) →
    flat_row n (length b.states) (length vs) old ≡ seen_row (sides n) (row_of b before vs) →
    ((t j : ℕ) → t < length b.states → j < length ws → packed_hull_in n new t j
    ≡ seen_hull (sides n) (next_packed b (length vs) (λ i. get_or vs i (pos 0)) (packed_hull_in n old) (get_or ws j (pos 0)) t)) →
    flat_row n (length b.states) (length ws) new ≡ seen_row (sides n) (row_of b (vs ∷ before) ws)
packed_row_of n b before vs ws old new rules alone is made =
    packed_next n b vs ws old new made ∙ ap (λ z. seen_row (sides n) (next_row b vs z ws)) is
    ∙ row_seen (sides n) b rules alone vs (row_of b before vs) ws (length-row_of b before vs)
    ∙ ap (seen_row (sides n)) (sym (row_from_row b vs before ws))

-- a row in which each hull is what is seen of that of the start is the first row
pub packed_first : (n : ℕ) (b : Body) (ws : List ℤ) (row : List (List (PackedHull n))) →
    ((t j : ℕ) → t < length b.states → j < length ws → packed_hull_in n row t j ≡ seen_hull (sides n) (packed_start b t)) →
    flat_row n (length b.states) (length ws) row ≡ seen_row (sides n) (row_of b [] ws)
unfolding row_of hulls_at hull_at start_hull packed_start
packed_first n b ws row started =
    let s = length b.states in
    let seen_one : ℤ → ℕ → Hull = λ w t. seen_hull (sides n) (start_hull b t) in
    row_by_places s seen_one ws (flat_row n s (length ws) row) (flat_length n s (length ws) row)
    (λ j t less lt. flat_at n s (length ws) row t j lt less ∙ started t j lt less)
    ∙ sym (flat_seen (sides n) (λ w t. start_hull b t) seen_one (states_of b) ws (λ w t. refl))

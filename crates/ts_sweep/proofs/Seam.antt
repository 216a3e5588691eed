-- From what a sweep makes of the hulls of a state to the row with the move taken in.
use Rattle.std.proofs.Common.{◌≡◌, ℕ, ◌+◌, ◌*◌, ◌<◌, ◌≤◌, Bool, true, false, cond, nat_eq, ℤ, List, length, map, get_or, refl, sym, ap, ◌∙◌, arith}
use Rattle.std.specs.List.{range_with_len}
use Rattle.std.proofs.lemmas.Bool.{eqb-true, eqb-false}
use Rattle.std.proofs.lemmas.List.FromFn.{length-map-range_with_len}
use Rattle.ts_base.specs.declared.letter.Letter.{Letter}
use Rattle.ts_automaton.specs.declared.regs.Hull.{Hull}
use Rattle.ts_automaton.specs.Body.{Move}
use Rattle.ts_hull.specs.Hulls.{none, hull_of_both}
use Rattle.ts_hull.specs.Sealed.{after_move}
use Rattle.ts_hull.specs.Cuts.{cut_of, all_swept, front_hull, closed_hull}
use Rattle.ts_hull.specs.Sweeps.{AllTakeNone, hull_in, step_place, puts, compares, total as hull_total}
use Rattle.ts_hull.proofs.Sums.{total_same}
use Rattle.ts_hull.proofs.Puts.{length-puts}
use Rattle.ts_sweep.specs.Lanes.{no_lanes, greater_of}
use Rattle.ts_sweep.specs.Moves.{IsFrontOf, IsClosingOf}
use Rattle.ts_sweep.specs.Packed.{unpacked}
use Rattle.ts_sweep.specs.Sides.{BothEnds}
use Rattle.ts_sweep.specs.Small.{IsSmall}
use Rattle.ts_sweep.specs.Strided.{AreBeside, IsPackable, lanes_of}
use Rattle.ts_sweep.specs.Sweeps.{IsTakenIn, met_hull}
use Rattle.ts_sweep.proofs.Entries.{given_is, gives_closed}
use Rattle.ts_sweep.proofs.HullLanes.{front_same, small_value}
use Rattle.ts_sweep.proofs.Places.{same_rows, other_state, column_at}

-- the row in whose state r each place j has taken in a hull is the row of the definition
pub row_taken : {X : Type 0} (unpack : X → Hull) (nothing : X) (h : ℕ → X) (m : Move) (l : Letter) (s n : ℕ) (g : ℕ → Hull) (old new : List Hull) →
    m.next < s → length old ≡ n * s → AllTakeNone old → unpack nothing ≡ none →
    IsTakenIn (λ y x. hull_of_both y (unpack x)) nothing none h (map (hull_in s m.next old) (range_with_len 0 n))
    (map (hull_in s m.next new) (range_with_len 0 n)) →
    AreBeside m.next s n old new → ((j : ℕ) → j < n → unpack (h j) ≡ g j) → ((j t : ℕ) → j < n → t < s →
    get_or (puts s m.next (step_place l n) g old n) (j * s + t) none
    ≡ hull_of_both (get_or old (j * s + t) none) (cond (nat_eq m.next t) (g j) none)) → new ≡ puts s m.next (step_place l n) g old n
row_taken unpack nothing h m l s n g old new leads long canonical empty taken beside gives at =
    same_rows s n new (puts s m.next (step_place l n) g old n) (beside.len ∙ long) (length-puts s m.next (step_place l n) g old n ∙ long)
    (λ j t lt b. here j t lt b (nat_eq m.next t) refl ∙ sym (at j t lt b))
  where
    here : (j t : ℕ) → j < n → t < s → (e : Bool) → nat_eq m.next t ≡ e →
        get_or new (j * s + t) none ≡ hull_of_both (get_or old (j * s + t) none) (cond (nat_eq m.next t) (g j) none)
    here j t lt b true is =
        let same : m.next ≡ t = eqb-true m.next t is in
        let inside : j < length (map (hull_in s m.next old) (range_with_len 0 n)) =
        (let len = length-map-range_with_len (hull_in s m.next old) 0 n in omega (arith, lt, len)) in
        let old_is = column_at s m.next n old j lt in
        let stays : hull_of_both (get_or (map (hull_in s m.next old) (range_with_len 0 n)) j none) (unpack nothing)
        ≡ get_or (map (hull_in s m.next old) (range_with_len 0 n)) j none =
        ap (λ z. hull_of_both z (unpack nothing)) old_is ∙ ap (hull_of_both (hull_in s m.next old j)) empty ∙ canonical (j * s + m.next) ∙ sym old_is in
        ap (λ z. get_or new (j * s + z) none) (sym same) ∙ sym (column_at s m.next n new j lt) ∙ taken.each j inside stays
        ∙ ap (λ z. hull_of_both z (unpack (h j))) old_is ∙ ap (hull_of_both (hull_in s m.next old j)) (gives j lt)
        ∙ ap (λ z. hull_of_both (get_or old (j * s + z) none) (g j)) same
        ∙ sym (ap (λ e. hull_of_both (get_or old (j * s + t) none) (cond e (g j) none)) is)
    here j t lt b false is =
        beside.same (j * s + t) (λ k less e. other_state s j k t m.next b leads (eqb-false m.next t is) e)
        ∙ sym (canonical (j * s + t)) ∙ sym (ap (λ e. hull_of_both (get_or old (j * s + t) none) (cond e (g j) none)) is)

-- what a sweep gives to a next value is what the move gives to it from all values that compare with it as the letter says
module _ {X : Type 0} (both : X → X → X) (nothing : X) (lanes : X → List ℤ) (n : ℕ) (big : 6 ≤ n)
    (both_lanes : (a b : X) → lanes (both a b) ≡ greater_of (lanes a) (lanes b)) (none_lanes : lanes nothing ≡ no_lanes n) (fit closable : X → Type 0)
    (front closing : X → ℤ → X) (m : Move) (closable_none : closable nothing) (closable_both : (a b : X) → closable a → closable b → closable (both a b))
    (closable_front : (h : X) (v : ℤ) → fit h → IsSmall v → closable (front h v))
    (front_is : (h : X) (v : ℤ) → fit h → IsSmall v → IsFrontOf BothEnds (cut_of m) n (lanes h) v (lanes (front h v)))
    (closing_is : (h : X) (w : ℤ) → closable h → IsSmall w → IsClosingOf BothEnds (cut_of m) n (lanes h) w (lanes (closing h w))) where
  pub gives_entry : (l : Letter) (twin : Bool) (count : ℕ) (hulls : List X) (h : ℕ → Hull) (value : ℕ → ℤ) (w : ℤ) → length hulls ≡ count →
      ((i : ℕ) → i < count → lanes (get_or hulls i nothing) ≡ lanes_of n (h i)) → all_swept (cut_of m) ≡ true →
      ((i : ℕ) → i < count → IsPackable n (h i)) → ((i : ℕ) → i < count → fit (get_or hulls i nothing)) →
      ((i : ℕ) → i < count → IsSmall (value i)) → IsSmall w →
      unpacked (lanes (closing (met_hull both nothing l twin front hulls value w) w))
      ≡ hull_total count (λ i. cond (compares l twin (value i) w) (after_move m (h i) (value i) w) none)
  gives_entry l twin count hulls h value w long lanes_are swept packs fits small_values small_next =
      let test : ℕ → Bool = λ i. compares l twin (value i) w in
      let fronts : (i : ℕ) → Hull = λ i. cond (test i) (front_hull (cut_of m) (unpacked (lanes (get_or hulls i nothing))) (value i)) none in
      (given_is both nothing lanes n both_lanes none_lanes big BothEnds fit closable front closing (cut_of m) closable_none closable_both closable_front
      front_is closing_is test hulls value w (λ i lt. fits i (omega (arith, lt, long))) (λ i lt. small_values i (omega (arith, lt, long))) small_next).1
      ∙ ap (λ k. closed_hull (cut_of m) (hull_total k fronts) w) long
      ∙ ap (λ z. closed_hull (cut_of m) z w)
      (total_same count fronts (λ i. cond (test i) (front_hull (cut_of m) (h i) (value i)) none)
      (λ i lt. ap (λ z. cond (test i) z none)
      (ap (λ xs. front_hull (cut_of m) (unpacked xs) (value i)) (lanes_are i lt) ∙ front_same (cut_of m) n (h i) (value i) big (packs i lt))))
      ∙ sym (gives_closed m test count h value w swept (λ i lt. (packs i lt).small) (λ i lt. small_value (value i) (small_values i lt))
      (small_value w small_next))

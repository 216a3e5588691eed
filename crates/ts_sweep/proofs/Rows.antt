-- From the hulls of a state to the row with a move taken in.
use Rattle.std.proofs.Common.{◌≡◌, ℕ, ◌+◌, ◌*◌, ◌<◌, ◌≤◌, Bool, true, cond, nat_eq, ℤ, pos, List, length, map, get_or, replicate, refl, sym, ap, subst, ◌∙◌, arith}
use Rattle.std.specs.List.{range_with_len}
use Rattle.std.proofs.lemmas.List.{length-replicate}
use Rattle.std.proofs.lemmas.List.FromFn.{length-map-range_with_len, get_or-map-range_with_len}
use Rattle.ts_base.specs.declared.letter.Letter.{Letter}
use Rattle.ts_automaton.specs.declared.regs.Hull.{Hull}
use Rattle.ts_automaton.specs.Body.{Move}
use Rattle.ts_hull.specs.Hulls.{none as none_hull, hull_of_both}
use Rattle.ts_hull.specs.Sealed.{after_move}
use Rattle.ts_hull.specs.Cuts.{Cut, cut_of, all_swept}
use Rattle.ts_hull.specs.Sweeps.{AllTakeNone, hull_in, step_place, puts, compares, total as hull_total}
use Rattle.ts_hull.proofs.Puts.{puts_at}
use Rattle.ts_sweep.specs.declared.cover.Cover.{Cover}
use Rattle.ts_sweep.specs.declared.packed.PackedHull.{PackedHull}
use Rattle.ts_sweep.specs.Covers.{IsBounded, IsCoverOf, IsHullBounded}
use Rattle.ts_sweep.specs.Lanes.{no_lanes, greater_of}
use Rattle.ts_sweep.specs.Moves.{IsFrontOf, IsClosingOf}
use Rattle.ts_sweep.specs.Packed.{unpacked, IsPacked}
use Rattle.ts_sweep.specs.PackedLaws.{none_unpacked}
use Rattle.ts_sweep.specs.Sides.{BothEnds}
use Rattle.ts_sweep.specs.Small.{IsSmall}
use Rattle.ts_sweep.specs.Strided.{AreBeside, IsPackable, packed_at}
use Rattle.ts_sweep.specs.Sweeps.{IsTakenIn, met_hull}
use Rattle.ts_sweep.proofs.HullLanes.{hull_packed}
use Rattle.ts_sweep.proofs.Seam.{row_taken, gives_entry}

module _ (n : ℕ) (big : 6 ≤ n) where
  abbrev of_lanes : List ℤ → PackedHull n
  of_lanes xs = record { at = xs }

  abbrev lanes : PackedHull n → List ℤ
  lanes h = h.at

  abbrev both : PackedHull n → PackedHull n → PackedHull n
  both a b = of_lanes (greater_of a.at b.at)

  abbrev nothing : PackedHull n
  nothing = of_lanes (no_lanes n)

  -- the hulls of the state q of s at n values
  abbrev pub column : ℕ → ℕ → ℕ → List Hull → List (PackedHull n)
  column s q count row = map (packed_at n s q row) (range_with_len 0 count)

  column_is : (s q count : ℕ) (row : List Hull) (i : ℕ) → i < count → get_or (column s q count row) i nothing ≡ packed_at n s q row i
  column_is s q count row i lt = get_or-map-range_with_len (packed_at n s q row) 0 count i i nothing lt (omega arith)

  pub column_long : (s q count : ℕ) (row : List Hull) → length (column s q count row) ≡ count
  column_long s q count row = length-map-range_with_len (packed_at n s q row) 0 count

  -- all hulls that a cover bounds can be taken
  pub all_fit : (fit : PackedHull n → Type 0) (s q count : ℕ) (row : List Hull) (cover : Cover) → ((p : ℕ) → IsPackable n (get_or row p none_hull)) →
      (((i : ℕ) → i < count → IsPacked n (lanes (get_or (column s q count row) i nothing))) →
      IsCoverOf BothEnds lanes nothing cover count (column s q count row)) →
      ((h : PackedHull n) → IsPacked n h.at → IsHullBounded BothEnds cover h.at → fit h) → (i : ℕ) → i < count → fit (packed_at n s q row i)
  all_fit fit s q count row cover packable bounds fits i lt =
      let packs : (k : ℕ) → k < count → IsPacked n (lanes (get_or (column s q count row) k nothing)) =
      (λ k less. subst (λ z. IsPacked n (lanes z)) (sym (column_is s q count row k less)) (hull_packed n (hull_in s q row k) big (packable (k * s + q)))) in
      fits (packed_at n s q row i) (hull_packed n (hull_in s q row i) big (packable (i * s + q)))
      (subst (λ z. IsHullBounded BothEnds cover (lanes z)) (column_is s q count row i lt) (bounds packs i lt))

  -- all hulls can be taken if any can
  pub any_fit : (fit : PackedHull n → Type 0) (s q count : ℕ) (row : List Hull) (cover : Cover) → ((p : ℕ) → IsPackable n (get_or row p none_hull)) →
      ((xs : List ℤ) → IsBounded cover xs) → ((h : PackedHull n) → IsPacked n h.at → IsHullBounded BothEnds cover h.at → fit h) →
      (i : ℕ) → i < count → fit (packed_at n s q row i)
  any_fit fit s q count row cover packable bounds fits i lt =
      fits (packed_at n s q row i) (hull_packed n (hull_in s q row i) big (packable (i * s + q))) (λ some. bounds (packed_at n s q row i).at)

  -- a hull that is read from the column can be taken
  pub column_fit : (fit : PackedHull n → Type 0) (s q count : ℕ) (row : List Hull) → ((i : ℕ) → i < count → fit (packed_at n s q row i)) → (i : ℕ) → i < count →
      fit (get_or (column s q count row) i nothing)
  column_fit fit s q count row fits i lt = subst fit (sym (column_is s q count row i lt)) (fits i lt)

  module _ (fit closable : PackedHull n → Type 0) (front closing : PackedHull n → ℤ → PackedHull n) (cut : Cut) (closable_none : closable nothing)
      (closable_both : (a b : PackedHull n) → closable a → closable b → closable (both a b))
      (closable_front : (h : PackedHull n) (v : ℤ) → fit h → IsSmall v → closable (front h v))
      (front_is : (h : PackedHull n) (v : ℤ) → fit h → IsSmall v → IsFrontOf BothEnds cut n h.at v (lanes (front h v)))
      (closing_is : (h : PackedHull n) (w : ℤ) → closable h → IsSmall w → IsClosingOf BothEnds cut n h.at w (lanes (closing h w))) where
    pub row_is : (m : Move) (l : Letter) (twin : Bool) (s q count r t k : ℕ) (before old new : List Hull) (value next : ℕ → ℤ) (g : ℕ → Hull) →
        cut_of m ≡ cut → all_swept (cut_of m) ≡ true → m.next ≡ r → r < t → length old ≡ k * t → AllTakeNone old →
        ((p : ℕ) → IsPackable n (get_or before p none_hull)) → ((i : ℕ) → i < count → fit (packed_at n s q before i)) →
        ((i : ℕ) → i < count → IsSmall (value i)) → ((j : ℕ) → j < k → IsSmall (next j)) →
        IsTakenIn (λ y x. hull_of_both y (unpacked (lanes x))) nothing none_hull
        (λ j. closing (met_hull both nothing l twin front (column s q count before) value (next j)) (next j))
        (map (hull_in t r old) (range_with_len 0 k)) (map (hull_in t r new) (range_with_len 0 k)) → AreBeside r t k old new →
        ((j : ℕ) → j < k → g j ≡ hull_total count (λ i. cond (compares l twin (value i) (next j))
        (after_move m (hull_in s q before i) (value i) (next j)) none_hull)) →
        new ≡ puts t r (step_place l k) g old k
    row_is m l twin s q count r t k before old new value next g cut_is swept to leads long canonical packable fits small_values small_next taken beside g_is =
        let ws : List ℤ = replicate k (pos 0) in
        let ws_long : length ws ≡ k = length-replicate k (pos 0) in
        let to_leads : m.next < t = omega (arith, to, leads) in
        subst (λ z. new ≡ puts t z (step_place l k) g old k) to
        (row_taken (λ x. unpacked (lanes x)) nothing
        (λ j. closing (met_hull both nothing l twin front (column s q count before) value (next j)) (next j)) m l t k g old new to_leads long canonical
        (none_unpacked n big)
        (subst (λ z. IsTakenIn (λ y x. hull_of_both y (unpacked (lanes x))) nothing none_hull
        (λ j. closing (met_hull both nothing l twin front (column s q count before) value (next j)) (next j))
        (map (hull_in t z old) (range_with_len 0 k)) (map (hull_in t z new) (range_with_len 0 k))) (sym to) taken)
        (subst (λ z. AreBeside z t k old new) (sym to) beside)
        (λ j lt. gives_entry both nothing lanes n big (λ a b. refl) refl fit closable front closing m closable_none closable_both closable_front
        (λ h v f s. subst (λ z. IsFrontOf BothEnds z n h.at v (lanes (front h v))) (sym cut_is) (front_is h v f s))
        (λ h w c s. subst (λ z. IsClosingOf BothEnds z n h.at w (lanes (closing h w))) (sym cut_is) (closing_is h w c s))
        l twin count (column s q count before) (hull_in s q before) value (next j) (column_long s q count before)
        (λ i less. ap lanes (column_is s q count before i less)) swept (λ i less. packable (i * s + q)) (column_fit fit s q count before fits) small_values
        (small_next j lt) ∙ sym (g_is j lt))
        (λ j u lt b. subst (λ z. get_or (puts t m.next (step_place l z) g old z) (j * t + u) none_hull
        ≡ hull_of_both (get_or old (j * t + u) none_hull) (cond (nat_eq m.next u) (g j) none_hull)) ws_long
        (puts_at m l t ws g old j u (omega (arith, lt, ws_long)) b to_leads (long ∙ ap (λ z. z * t) (sym ws_long)) (get_or old (j * t + u) none_hull) refl
        (canonical (j * t + u)))))

-- A move over pairs of values.
use Rattle.std.proofs.Common.{◌≡◌, ◌⊎◌, inl, inr, ℕ, suc, ◌+◌, ◌<◌, ◌≤◌, Bool, true, false, cond, None, Some, nat_eq, ℤ, List, length, get_or, refl, sym, ap, subst, ◌∙◌, arith}
use Rattle.std.proofs.lemmas.Bool.{eqb-true, eqb-false}
use Rattle.std.proofs.lemmas.List.{length-set, get_or-set_same, get_or-set_other}
use Rattle.ts_base.specs.declared.letter.Letter.{Letter}
use Rattle.ts_automaton.specs.declared.regs.Hull.{Hull}
use Rattle.ts_base.specs.declared.span.Span.{Span}
use Rattle.ts_automaton.specs.Body.{Move}
use Rattle.ts_automaton.specs.Formula.{Formula, is_zero}
use Rattle.ts_automaton.specs.Registers.{each, rests}
use Rattle.ts_automaton.proofs.Five.{none_registers}
use Rattle.ts_hull.specs.Hulls.{none, hull_of_both}
use Rattle.ts_hull.specs.Sealed.{some_hull, span_in, after_move}
use Rattle.ts_hull.specs.Sweeps.{compares, total}
use Rattle.ts_hull.proofs.SplitLaws.{after_is}
use Rattle.ts_sweep.specs.declared.packed.Ends.{Ends}
use Rattle.ts_sweep.specs.Columns.{gives, hull_at, IsGift}
use Rattle.ts_sweep.specs.FrontLaws.{never_added}
use Rattle.ts_sweep.specs.Lanes.{no_lanes, some_lanes, greater_of}
use Rattle.ts_sweep.specs.declared.packed.Name.{Name}
use Rattle.ts_sweep.specs.declared.packed.Name.TheVariants.{C, E, D, F, R}
use Rattle.ts_sweep.specs.Moves.{of_name, with_all, beside}
use Rattle.ts_sweep.specs.Fronts.{IsFor, IsMoveFor}
use Rattle.ts_sweep.specs.MoveLaws.{IsPackAt, all_kept, all_packed, all_unpacked, both_for, by_names, first_is, not_nothing, read_are, seen_at, some_unpacked}
use Rattle.ts_sweep.specs.Sides.{Sides, BothEnds, IsEndsOf, as_read, kept_ends, seen_hull}
use Rattle.ts_sweep.specs.SidesLaws.{both_kept, kept_packs, narrow_or_both}
use Rattle.ts_sweep.specs.Packed.{is_wide, place, unpacked, IsPacked, IsPackOf, ArePacked}
use Rattle.ts_sweep.specs.PackedLaws.{joined_packed, joined_is, none_unpacked}
use Rattle.ts_sweep.specs.Small.{IsSmall}
use Rattle.ts_sweep.specs.Trees.{tree_value}
use Rattle.ts_sweep.specs.TreeLaws.{tree_packs}
use Rattle.ts_sweep.proofs.RunSteps.{as_passed}
use Rattle.ts_sweep.proofs.SeenLaws.{none_seen, seen_both}
use Rattle.ts_sweep.proofs.Widths.{both_zero, zero_only}
use mir.Syntax.{w64}
use mir.Val.{of_z, to_z}

-- numbers that were passed on
pub as_both_passed : (P : ℤ → ℤ → Type 0) (x y : ℤ) → IsSmall x → IsSmall y → P (to_z w64 (of_z w64 x)) (to_z w64 (of_z w64 y)) → P x y
as_both_passed P x y a b h = as_passed (λ z. P x z) y b (as_passed (λ z. P z (to_z w64 (of_z w64 y))) x a h)

pub nothing_lanes : (n : ℕ) (xs : List ℤ) → 6 ≤ n → IsPacked n xs → some_lanes xs ≡ false → xs ≡ no_lanes n
nothing_lanes n xs big (inl e) f = e
nothing_lanes n xs big (inr s) f = never_added (sym (first_is n xs big s) ∙ f)

-- a move makes nothing of nothing
pub moved_nothing : (s : Sides) (m : Move) (n : ℕ) (xs : List ℤ) (x y : ℤ) → 6 ≤ n → IsPacked n xs → some_lanes xs ≡ false →
    unpacked xs ≡ seen_hull s (after_move m (unpacked xs) x y)
moved_nothing s m n xs x y big p f =
    let e : unpacked xs ≡ none = ap unpacked (nothing_lanes n xs big p f) ∙ none_unpacked n big in
    e ∙ sym (none_seen s) ∙ ap (seen_hull s) (sym (after_is m (unpacked xs) x y false (ap some_hull e ∙ none_registers)))

-- E and F of a narrow move are 0
beside_packs : (s : Sides) (wide : Bool) (p : ℕ) (f : Formula) (e : Ends) (h : Hull) (x y : ℤ) → (s ≡ BothEnds) ⊎ (wide ≡ false) →
    (IsFor s f → IsEndsOf s e (span_in f h x y)) → (wide ≡ false → is_zero f ≡ true) →
    IsPackAt (cond wide (Some p) None) (kept_ends s (beside wide e)) (span_in f h x y)
beside_packs s true p f e h x y alone pack zero =
    let both = narrow_or_both s true alone refl in both_kept s e (span_in f h x y) both (pack (both_for s f both))
beside_packs s false p f e h x y alone pack zero = sym (ap (λ g. span_in g h x y) (zero_only f (zero refl)))

-- a move makes of a hull in lanes what is seen of what its expressions make of the hull
pub moved_some : (s : Sides) (m : Move) (n : ℕ) (xs zs : List ℤ) (x y : ℤ) (c e d f r : Ends) → (s ≡ BothEnds) ⊎ (is_wide n ≡ false) →
    6 ≤ n → rests is_zero (is_wide n) m.to ≡ true → IsMoveFor s m → IsPacked n xs →
    some_lanes xs ≡ true → IsSmall x → IsSmall y →
    kept_ends s c ≡ kept_ends s (tree_value m.to.c (as_read s xs) x y) →
    kept_ends s e ≡ kept_ends s (beside (is_wide n) (tree_value m.to.e (as_read s xs) x y)) →
    kept_ends s d ≡ kept_ends s (tree_value m.to.d (as_read s xs) x y) →
    kept_ends s f ≡ kept_ends s (beside (is_wide n) (tree_value m.to.f (as_read s xs) x y)) →
    kept_ends s r ≡ kept_ends s (tree_value m.to.r (as_read s xs) x y) → zs ≡ with_all n xs (all_kept s (of_name (each c e d f r))) →
    IsPacked n zs × (unpacked zs ≡ seen_hull s (after_move m (unpacked xs) x y))
moved_some s m n xs zs x y c e d f r alone big width suits p some this next ec ee ed ef er is =
    let is_some = not_nothing n xs some p in
    let h = unpacked xs in
    let value : Name → Span = λ k. seen_at s k (span_in (of_name m.to k) h x y) in
    let kept : Name → Ends = all_kept s (of_name (each c e d f r)) in
    let tree : (g : Formula) → IsFor s g → IsEndsOf s (tree_value g (as_read s xs) x y) (span_in g h x y) =
    λ g is_for. tree_packs g s (as_read s xs) h x y (read_are s n xs big is_some) is_for this next in
    let zero : is_wide n ≡ false → (is_zero m.to.e ≡ true) × (is_zero m.to.f ≡ true) = both_zero (is_wide n) (is_zero m.to.e) (is_zero m.to.f) width in
    let packs : (k : Name) → IsPackAt (place n k) (kept k) (value k) =
    by_names (λ k. IsPackAt (place n k) (kept k) (value k))
    (subst (λ z. IsPackOf z (value C)) (sym ec) (kept_packs s _ _ (tree m.to.c suits.0)))
    (subst (λ z. IsPackAt (place n E) z (value E)) (sym ee)
    (beside_packs s (is_wide n) 1 m.to.e _ h x y alone (tree m.to.e) (λ w. (zero w).0)))
    (subst (λ z. IsPackOf z (value D)) (sym ed) (kept_packs s _ _ (tree m.to.d suits.1.0)))
    (subst (λ z. IsPackAt (place n F) z (value F)) (sym ef)
    (beside_packs s (is_wide n) 3 m.to.f _ h x y alone (tree m.to.f) (λ w. (zero w).1)))
    (subst (λ z. IsPackOf z (value R)) (sym er) (kept_packs s _ _ (tree m.to.r suits.1.1.0))) in (
      subst (IsPacked n) (sym is) (inr (all_packed n xs kept value big is_some packs)),
      ap unpacked is ∙ all_unpacked n xs kept value big is_some packs
          ∙ ap (seen_hull s) (sym (after_is m h x y true (some_unpacked n xs big is_some))),
    )

module _ {X : Type 0} (both : X → X → X) (nothing : X) (lanes : X → List ℤ) (n : ℕ) (both_lanes : (a b : X) → lanes (both a b) ≡ greater_of (lanes a) (lanes b))
    (none_lanes : lanes nothing ≡ no_lanes n) (big : 6 ≤ n) where
  -- a hull that one more joins
  pub with_joined : (a h z : X) (k : Hull) → IsPacked n (lanes a) → IsPacked n (lanes h) → unpacked (lanes h) ≡ k → z ≡ both a h →
      IsPacked n (lanes z) × (unpacked (lanes z) ≡ hull_of_both (unpacked (lanes a)) k)
  with_joined a h z k p q is e = (
    subst (IsPacked n) (sym (ap lanes e ∙ both_lanes a h)) (joined_packed n (lanes a) (lanes h) p q),
    ap (λ t. unpacked (lanes t)) e ∙ ap unpacked (both_lanes a h) ∙ joined_is n (lanes a) (lanes h) big p q ∙ ap (hull_of_both (unpacked (lanes a))) is,
  )

-- what is given so far, by the first i of the values
pub record IsGiven {X : Type 0} (s : Sides) (lanes : X → List ℤ) (nothing : X) (n : ℕ) (m : Move) (l : Letter) (twin : Bool) (i : ℕ) (v : ℕ → ℤ)
    (before : List X) (w : ℤ)
    (all : X) : Type 0 where
  pub packed : IsPacked n (lanes all)
  pub value : unpacked (lanes all) ≡ seen_hull s (gives m l twin i v (hull_at lanes nothing before) w)

gives_none : (m : Move) (l : Letter) (twin : Bool) (v : ℕ → ℤ) (h : ℕ → Hull) (w : ℤ) → none ≡ gives m l twin 0 v h w
unfolding gives total
gives_none m l twin v h w = refl

gives_more : (m : Move) (l : Letter) (twin : Bool) (i : ℕ) (v : ℕ → ℤ) (h : ℕ → Hull) (w : ℤ) →
    hull_of_both (gives m l twin i v h w) (cond (compares l twin (v i) w) (after_move m (h i) (v i) w) none) ≡ gives m l twin (suc i) v h w
unfolding gives total
gives_more m l twin i v h w = refl

-- the first j next hulls have taken in what is given to them
pub record ArePaired {X : Type 0} (s : Sides) (lanes : X → List ℤ) (nothing : X) (n : ℕ) (m : Move) (l : Letter) (twin : Bool) (count : ℕ) (v : ℕ → ℤ)
    (before : List X)
    (k : ℕ) (w : ℕ → ℤ) (j : ℕ) (old new : List X) : Type 0 where
  pub packed : ArePacked lanes nothing n k new
  pub done : (i : ℕ) → i < j → hull_at lanes nothing new i ≡ hull_of_both (hull_at lanes nothing old i)
      (seen_hull s (gives m l twin count v (hull_at lanes nothing before) (w i)))
  pub rest : (i : ℕ) → j ≤ i → get_or new i nothing ≡ get_or old i nothing

pub before_or : (i j : ℕ) → i < suc j → (i < j) ⊎ (i ≡ j)
before_or i j h = grind arith

same_or : (i j : ℕ) → (i ≡ j) ⊎ (i ≡ j → ⊥)
same_or i j = go (nat_eq i j) refl
  where
    go : (b : Bool) → nat_eq i j ≡ b → (i ≡ j) ⊎ (i ≡ j → ⊥)
    go true e = inl (eqb-true i j e)
    go false e = inr (eqb-false i j e)

module _ {X : Type 0} (both : X → X → X) (nothing : X) (lanes : X → List ℤ) (n : ℕ) (both_lanes : (a b : X) → lanes (both a b) ≡ greater_of (lanes a) (lanes b))
    (none_lanes : lanes nothing ≡ no_lanes n) (big : 6 ≤ n) (s : Sides) (m : Move) (l : Letter) (twin : Bool) (v : ℕ → ℤ) (before : List X) where
  pub given_begun : (w : ℤ) (all : X) → all ≡ nothing → IsGiven s lanes nothing n m l twin 0 v before w all
  given_begun w all e = record {
    packed = inl (ap lanes e ∙ none_lanes);
    value = ap (λ z. unpacked (lanes z)) e ∙ ap unpacked none_lanes ∙ none_unpacked n big ∙ sym (none_seen s)
        ∙ ap (seen_hull s) (gives_none m l twin v (hull_at lanes nothing before) w);
  }

  pub given_more : (i : ℕ) (w : ℤ) (all more : X) → IsGiven s lanes nothing n m l twin i v before w all → IsPacked n (lanes more) →
      unpacked (lanes more) ≡ hull_of_both (unpacked (lanes all))
      (seen_hull s (cond (compares l twin (v i) w) (after_move m (hull_at lanes nothing before i) (v i) w) none)) →
      IsGiven s lanes nothing n m l twin (i + 1) v before w more
  given_more i w all more given packed is =
      let next : suc i ≡ i + 1 = omega arith in
      record {
        packed = packed;
        value = is
            ∙ ap (λ z. hull_of_both z (seen_hull s (cond (compares l twin (v i) w) (after_move m (hull_at lanes nothing before i) (v i) w) none)))
            given.value
            ∙ sym (seen_both s (gives m l twin i v (hull_at lanes nothing before) w)
            (cond (compares l twin (v i) w) (after_move m (hull_at lanes nothing before i) (v i) w) none))
            ∙ ap (seen_hull s) (gives_more m l twin i v (hull_at lanes nothing before) w
            ∙ ap (λ z. gives m l twin z v (hull_at lanes nothing before) w) next);
      }

  pub paired_more : (count k : ℕ) (w : ℕ → ℤ) (j : ℕ) (old new new' : List X) → ArePaired s lanes nothing n m l twin count v before k w j old new →
      j < k → IsGift both lanes nothing n (seen_hull s (gives m l twin count v (hull_at lanes nothing before) (w j))) j new new' →
      ArePaired s lanes nothing n m l twin count v before k w (j + 1) old new'
  paired_more count k w j old new new' so_far inside given =
      let gift = given.gift in
      let here = both (get_or new j nothing) gift in
      let long = so_far.packed.0 in
      let joined = with_joined both nothing lanes n both_lanes none_lanes big (get_or new j nothing) gift here _
      (so_far.packed.1 j inside) given.packed given.value refl in
      let here_is : get_or new' j nothing ≡ here =
      ap (λ z. get_or z j nothing) given.joined ∙ get_or-set_same new j here nothing (omega (arith, inside, long)) in
      let other : (i : ℕ) → (i ≡ j → ⊥) → get_or new' i nothing ≡ get_or new i nothing =
      (λ i apart. ap (λ z. get_or z i nothing) given.joined ∙ get_or-set_other new j i here nothing apart) in
      record {
        packed = (
          ap length given.joined ∙ length-set new j here ∙ long,
          λ i lt. elim (same_or i j) [
            | inl same ↦ subst (λ z. IsPacked n (lanes (get_or new' z nothing))) (sym same) (subst (λ z. IsPacked n (lanes z)) (sym here_is) joined.0)
            | inr apart ↦ subst (λ z. IsPacked n (lanes z)) (sym (other i apart)) (so_far.packed.1 i lt)
          ],
        );
        done = λ i lt. elim (before_or i j (omega (arith, lt))) [
          | inl less ↦ ap (λ z. unpacked (lanes z)) (other i (λ e. omega (arith, e, less))) ∙ so_far.done i less
          | inr same ↦ subst (λ z. hull_at lanes nothing new' z ≡ hull_of_both (hull_at lanes nothing old z)
              (seen_hull s (gives m l twin count v (hull_at lanes nothing before) (w z))))
              (sym same) (ap (λ z. unpacked (lanes z)) here_is ∙ joined.1
              ∙ ap (λ z. hull_of_both (unpacked (lanes z)) (seen_hull s (gives m l twin count v (hull_at lanes nothing before) (w j))))
              (so_far.rest j (omega arith)))
        ];
        rest = λ i less. other i (λ e. omega (arith, e, less)) ∙ so_far.rest i (omega (arith, less));
      }

  pub paired_begun : (count k : ℕ) (w : ℕ → ℤ) (old : List X) → ArePacked lanes nothing n k old →
      ArePaired s lanes nothing n m l twin count v before k w 0 old old
  paired_begun count k w old packed = record { packed = packed; done = λ i lt. absurd (omega (arith, lt)); rest = λ i less. refl }

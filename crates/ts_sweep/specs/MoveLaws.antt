-- The laws of moves on lanes.
-- Lemmas, no definitions: they are here since ghost members of impls cite them.
use Rattle.std.proofs.Common.{◌≡◌, ◌⊎◌, inl, inr, ℕ, zero, suc, ◌+◌, ◌*◌, ◌<◌, ◌≤◌, ◌<ℤ◌, ℤ, pos, Bool, true, false, cond, ◌||◌, not, Option, None, Some, nat_eq, List, [], ◌∷◌, length, get_or, set, refl, sym, ap, subst, ◌∙◌, arith}
use Rattle.std.specs.Ordering.{int_eq}
use Rattle.std.proofs.lemmas.Bool.{eqb-true, eqb-false}
use Rattle.std.proofs.lemmas.Int.{ints}
use Rattle.std.proofs.lemmas.List.{get_or-set_same, get_or-set_other, length-set}
use Rattle.ts_base.specs.declared.ext.Ext.TheVariants.{Int}
use Rattle.ts_base.specs.declared.span.Span.{Span}
use Rattle.ts_base.specs.Spans.{has_some, one_span}
use Rattle.ts_automaton.specs.declared.expr.Atom.TheVariants.{E as AtomE, F as AtomF}
use Rattle.ts_automaton.specs.Formula.{Formula, Leaf}
use Rattle.ts_automaton.specs.Registers.{map_each, spans_of}
use Rattle.ts_automaton.proofs.Five.{some_registers, none_registers}
use Rattle.ts_hull.specs.Hulls.{hull_of, none as none_hull}
use Rattle.ts_hull.specs.Sealed.{some_hull}
use Rattle.ts_hull.specs.Splits.{Split, FrontOf, TailOf, ByPairs, front_span, closed_span}
use Rattle.ts_automaton.specs.declared.regs.Hull.{Hull}
use Rattle.ts_hull.specs.Cuts.{Cut, front_hull, closed_hull}
use Rattle.ts_hull.proofs.HullLaws.{same_hull}
use Rattle.ts_hull.proofs.SplitLaws.{closed_hull_none}
use Rattle.ts_sweep.specs.declared.packed.Ends.{Ends}
use Rattle.ts_sweep.specs.declared.packed.Name.{Name}
use Rattle.ts_sweep.specs.declared.packed.Name.TheVariants.{C, E, D, F, R}
use Rattle.ts_sweep.specs.Lanes.{least, no_lanes, some_lanes, greater_of}
use Rattle.ts_sweep.specs.LaneLaws.{lanes_neutral, lanes_commutative, lanes_idempotent}
use Rattle.ts_sweep.specs.Packed.{ends_at, ends_span, register_span, is_wide, place_in, place, ends_in, with_ends_at, with_ends_in, span_in_lanes, name_span, hull_by, unpacked, max_ends, IsPlace, IsSomeEnds, AreSome, IsPacked, IsPackOf}
use Rattle.ts_sweep.specs.PackedLaws.{some_lanes_are, same_ends, some_greater, greater_ends, placed, rests_at, name_some, same_by, none_unpacked, joined_packed}
use Rattle.ts_sweep.specs.Fronts.{name_of, AreEndsOf, IsCutFor, IsFor, IsSplitFor}
use Rattle.ts_sweep.specs.FrontLaws.{pack_at, never_added}
use Rattle.ts_sweep.specs.Sides.{Sides, BothEnds, UpperEnds, LowerEnds, IsEndsOf, as_read, kept_ends, read_ends, seen, seen_hull}
use Rattle.ts_sweep.specs.SidesLaws.{both_kept, ends_of_pack, kept_packs, narrow_or_both, read_in, read_kept, read_length, read_pack}
use Rattle.ts_sweep.specs.Moves.{of_name, rest_split, of_width, kept_cut, IsFrontOf, IsClosingOf, replaced_all, with_all, beside, any_tail, begun_by, closed_by, IfPlaced, IsFitFor, IsClosableBy}

-- lanes with other ends at a place

same_or : (i j : ℕ) → (i ≡ j) ⊎ (i ≡ j → ⊥)
same_or i j = go (nat_eq i j) refl
  where
    go : (b : Bool) → nat_eq i j ≡ b → (i ≡ j) ⊎ (i ≡ j → ⊥)
    go true e = inl (eqb-true i j e)
    go false e = inr (eqb-false i j e)

pub with_length : (xs : List ℤ) (q : ℕ) (e : Ends) → length (with_ends_at xs q e) ≡ length xs
with_length xs q e = length-set (set xs (2 * q) e.below) (2 * q + 1) e.above ∙ length-set xs (2 * q) e.below

ends_here : (xs : List ℤ) (q : ℕ) (e : Ends) → 2 * q + 1 < length xs → ends_at (with_ends_at xs q e) q ≡ e
ends_here xs q e lt =
    let ys = set xs (2 * q) e.below in
    let long = length-set xs (2 * q) e.below in
    same_ends _ _ _ _
    (get_or-set_other ys (2 * q + 1) (2 * q) e.above (pos 0) (λ s. omega (arith, s))
    ∙ get_or-set_same xs (2 * q) e.below (pos 0) (omega (arith, lt)))
    (get_or-set_same ys (2 * q + 1) e.above (pos 0) (omega (arith, lt, long)))

ends_other : (xs : List ℤ) (p q : ℕ) (e : Ends) → (p ≡ q → ⊥) → ends_at (with_ends_at xs q e) p ≡ ends_at xs p
ends_other xs p q e apart =
    let ys = set xs (2 * q) e.below in
    same_ends _ _ _ _
    (get_or-set_other ys (2 * q + 1) (2 * p) e.above (pos 0) (λ s. omega (arith, s))
    ∙ get_or-set_other xs (2 * q) (2 * p) e.below (pos 0) (λ s. apart (omega (arith, s))))
    (get_or-set_other ys (2 * q + 1) (2 * p + 1) e.above (pos 0) (λ s. apart (omega (arith, s)))
    ∙ get_or-set_other xs (2 * q) (2 * p + 1) e.below (pos 0) (λ s. omega (arith, s)))

-- what holds of the new number and of the old one at a place holds of the one there
pub set_at : (P : ℤ → Type 0) (xs : List ℤ) (i k : ℕ) (x : ℤ) → P x → P (get_or xs k (pos 0)) →
    P (get_or (set xs i x) k (pos 0))
set_at P [] i k x new old = old
set_at P (y ∷ ys) zero zero x new old = new
set_at P (y ∷ ys) zero (suc k) x new old = old
set_at P (y ∷ ys) (suc i) zero x new old = old
set_at P (y ∷ ys) (suc i) (suc k) x new old = set_at P ys i k x new old

with_above : (n : ℕ) (xs : List ℤ) (q : ℕ) (e : Ends) → AreSome n xs → IsSomeEnds e → (k : ℕ) → k < n →
    least <ℤ get_or (with_ends_at xs q e) k (pos 0)
with_above n xs q e h s k inside =
    set_at (λ z. least <ℤ z) (set xs (2 * q) e.below) (2 * q + 1) k e.above s.above
    (set_at (λ z. least <ℤ z) xs (2 * q) k e.below s.below (h.above k inside))

with_some : (n : ℕ) (xs : List ℤ) (o : Option ℕ) (e : Ends) → IsPlace n o → AreSome n xs → IfPlaced o (IsSomeEnds e) →
    AreSome n (with_ends_in xs o e)
with_some n xs None e lt h s = h
with_some n xs (Some q) e lt h s = record {
  len = with_length xs q e ∙ h.len;
  above = with_above n xs q e h s;
  some = λ r inside. elim (same_or r q) [
    | inl same ↦ ap (λ z. has_some (register_span (with_ends_at xs q e) z)) same
        ∙ ap (λ z. has_some (ends_span z)) (ends_here xs q e (let l = h.len in omega (arith, lt, l))) ∙ s.some
    | inr apart ↦ ap (λ z. has_some (ends_span z)) (ends_other xs r q e apart) ∙ h.some r inside
  ];
}

-- lanes with other ends of all registers

pub all_some : (n : ℕ) (xs : List ℤ) (e : Name → Ends) → 6 ≤ n → AreSome n xs →
    ((k : Name) → IfPlaced (place n k) (IsSomeEnds (e k))) →
    AreSome n (with_all n xs e)
all_some n xs e big h s =
    with_some n _ (place n R) (e R) (placed n R big)
    (with_some n _ (place n F) (e F) (placed n F big) (with_some n _ (place n D) (e D) (placed n D big)
    (with_some n _ (place n E) (e E) (placed n E big) (with_some n xs (place n C) (e C) (placed n C big) h (s C)) (s E))
    (s D)) (s F)) (s R)

-- the ends of a register stay where they were put: no other register has its place
abbrev HasEnds : Option ℕ → List ℤ → Ends → Type 0
HasEnds o ys e = IfPlaced o (ends_in ys o ≡ e)

abbrev IsNameAt : Bool → Name → Option ℕ → Type 0
IsNameAt wide k None = Unit {0}
IsNameAt wide k (Some p) = name_of (cond wide p (p + p)) ≡ k

name_at_place : (wide : Bool) (k : Name) → IsNameAt wide k (place_in wide k)
name_at_place true C = refl
name_at_place true E = refl
name_at_place true D = refl
name_at_place true F = refl
name_at_place true R = refl
name_at_place false C = refl
name_at_place false E = tt
name_at_place false D = refl
name_at_place false F = tt
name_at_place false R = refl

module _ (n : ℕ) (e : Name → Ends) (big : 6 ≤ n) where
  abbrev with_names : List ℤ → List Name → List ℤ
  with_names xs [] = xs
  with_names xs (k ∷ ks) = with_names (with_ends_in xs (place n k) (e k)) ks

  one_length : (xs : List ℤ) (o : Option ℕ) (d : Ends) → length (with_ends_in xs o d) ≡ length xs
  one_length xs None d = refl
  one_length xs (Some q) d = with_length xs q d

  names_length : (xs : List ℤ) (ks : List Name) → length (with_names xs ks) ≡ length xs
  names_length xs [] = refl
  names_length xs (k ∷ ks) = names_length (with_ends_in xs (place n k) (e k)) ks ∙ one_length xs (place n k) (e k)

  one_here : (ys : List ℤ) (o : Option ℕ) (d : Ends) → length ys ≡ n → IsPlace n o → HasEnds o (with_ends_in ys o d) d
  one_here ys None d len inside = tt
  one_here ys (Some q) d len inside = ends_here ys q d (omega (arith, inside, len))

  one_other : (ys : List ℤ) (j k : Name) (o p : Option ℕ) → length ys ≡ n → IsPlace n p →
      IsNameAt (is_wide n) k o → IsNameAt (is_wide n) j p → HasEnds o ys (e k) →
      HasEnds o (with_ends_in ys p (e j)) (e k)
  one_other ys j k None p len inside is other h = tt
  one_other ys j k (Some r) None len inside is other h = h
  one_other ys j k (Some r) (Some q) len inside is other h =
      elim (same_or r q) [
        | inl same ↦ ap (ends_at (with_ends_at ys q (e j))) same ∙ ends_here ys q (e j) (omega (arith, inside, len))
            ∙ ap e (sym other ∙ ap (λ t. name_of (cond (is_wide n) t (t + t))) (sym same) ∙ is)
        | inr apart ↦ ends_other ys r q (e j) apart ∙ h
      ]

  still_here : (k : Name) (ks : List Name) (ys : List ℤ) → length ys ≡ n → HasEnds (place n k) ys (e k) →
      HasEnds (place n k) (with_names ys ks) (e k)
  still_here k [] ys len h = h
  still_here k (j ∷ ks) ys len h =
      still_here k ks (with_ends_in ys (place n j) (e j)) (one_length ys (place n j) (e j) ∙ len)
      (one_other ys j k (place n k) (place n j) len (placed n j big) (name_at_place (is_wide n) k)
      (name_at_place (is_wide n) j) h)

  put_here : (k : Name) (before after : List Name) (xs : List ℤ) → length xs ≡ n →
      HasEnds (place n k) (with_names (with_names xs before) (k ∷ after)) (e k)
  put_here k before after xs len =
      let ys = with_names xs before in
      let long = names_length xs before ∙ len in
      still_here k after (with_ends_in ys (place n k) (e k)) (one_length ys (place n k) (e k) ∙ long)
      (one_here ys (place n k) (e k) long (placed n k big))

  all_here : (xs : List ℤ) → length xs ≡ n → (k : Name) → HasEnds (place n k) (with_all n xs e) (e k)
  all_here xs len C = put_here C [] (E ∷ D ∷ F ∷ R ∷ []) xs len
  all_here xs len E = put_here E (C ∷ []) (D ∷ F ∷ R ∷ []) xs len
  all_here xs len D = put_here D (C ∷ E ∷ []) (F ∷ R ∷ []) xs len
  all_here xs len F = put_here F (C ∷ E ∷ D ∷ []) (R ∷ []) xs len
  all_here xs len R = put_here R (C ∷ E ∷ D ∷ F ∷ []) [] xs len

-- ends stand for the span of a register; one that has no place holds 0
abbrev pub IsPackAt : Option ℕ → Ends → Span → Type 0
IsPackAt None e s = s ≡ one_span (Int (pos 0))
IsPackAt (Some p) e s = IsPackOf e s

pack_some : (o : Option ℕ) (e : Ends) (s : Span) → IsPackAt o e s → IfPlaced o (IsSomeEnds e)
pack_some None e s p = tt
pack_some (Some q) e s p = p.some

pack_span : (n : ℕ) (ys : List ℤ) (o : Option ℕ) (e : Ends) (s : Span) → IsPlace n o → AreSome n ys → HasEnds o ys e →
    IsPackAt o e s →
    span_in_lanes ys o ≡ s
pack_span n ys None e s lt h here p = rests_at n ys lt h ∙ sym p
pack_span n ys (Some q) e s lt h here p = ap ends_span here ∙ p.span

pub all_packed : (n : ℕ) (xs : List ℤ) (e : Name → Ends) (s : Name → Span) → 6 ≤ n → AreSome n xs →
    ((k : Name) → IsPackAt (place n k) (e k) (s k)) →
    AreSome n (with_all n xs e)
all_packed n xs e s big h p = all_some n xs e big h (λ k. pack_some (place n k) (e k) (s k) (p k))

pub all_unpacked : (n : ℕ) (xs : List ℤ) (e : Name → Ends) (s : Name → Span) → 6 ≤ n → AreSome n xs →
    ((k : Name) → IsPackAt (place n k) (e k) (s k)) → unpacked (with_all n xs e) ≡ hull_by s
unfolding unpacked
all_unpacked n xs e s big h p =
    let ys = with_all n xs e in
    let some = all_packed n xs e s big h p in
    same_by (name_span ys) s
    (λ k. ap (λ m. span_in_lanes ys (place m k)) some.len
    ∙ pack_span n ys (place n k) (e k) (s k) (placed n k big) some (all_here n e big xs h.len k) (p k))

-- whether registers lie in lanes

pub first_is : (n : ℕ) (xs : List ℤ) → 6 ≤ n → AreSome n xs → some_lanes xs ≡ true
first_is n [] big h = let e = h.len in absurd (omega (arith, e, big))
first_is n (x ∷ xs) big h = above_is x (h.above 0 (omega (arith, big)))
  where
    above_is : (x : ℤ) → least <ℤ x → not (int_eq x least) ≡ true
    above_is x h = grind (arith, ints)

pub none_is : (n : ℕ) → some_lanes (no_lanes n) ≡ false
none_is zero = refl
none_is (suc n) = refl

-- lanes in which registers lie aren't lanes of nothing
pub not_nothing : {A : Type 0} (n : ℕ) (xs : List ℤ) → some_lanes xs ≡ true → (xs ≡ no_lanes n) ⊎ A → A
not_nothing n xs some (inl e) = never_added (sym some ∙ ap some_lanes e ∙ none_is n)
not_nothing n xs some (inr a) = a

pub some_unpacked : (n : ℕ) (xs : List ℤ) → 6 ≤ n → AreSome n xs → some_hull (unpacked xs) ≡ true
unfolding unpacked
some_unpacked n xs big h =
    some_registers (spans_of (unpacked xs)) (
      name_some n xs C big h,
      name_some n xs E big h,
      name_some n xs D big h,
      name_some n xs F big h,
      name_some n xs R big h,
    )

-- fronts and closings of nothing

pub front_none : (k : Cut) (v : ℤ) → front_hull k none_hull v ≡ none_hull
unfolding front_hull
front_none k v = ap (λ b. cond b (hull_of (map_each (λ p. front_span p none_hull v) k)) none_hull) none_registers

seen_none : (s : Sides) → seen_hull s none_hull ≡ none_hull
seen_none BothEnds = refl
seen_none UpperEnds = refl
seen_none LowerEnds = refl

pub nothing_front : (s : Sides) (k : Cut) (n : ℕ) (v : ℤ) → 6 ≤ n → IsFrontOf s k n (no_lanes n) v (no_lanes n)
nothing_front s k n v big = (
  inl refl,
  none_unpacked n big ∙ sym (ap (seen_hull s) (ap (λ h. front_hull k h v) (none_unpacked n big) ∙ front_none k v)
      ∙ seen_none s),
)

pub nothing_closing : (s : Sides) (k : Cut) (n : ℕ) (w : ℤ) → 6 ≤ n → IsClosingOf s k n (no_lanes n) w (no_lanes n)
nothing_closing s k n w big = (
  inl refl,
  none_unpacked n big ∙ sym (ap (seen_hull s) (ap (λ h. closed_hull k h w) (none_unpacked n big) ∙ closed_hull_none k w)
      ∙ seen_none s),
)

-- what is seen of a register
abbrev pub seen_at : Sides → Name → Span → Span
seen_at s C t = seen s t
seen_at s E t = t
seen_at s D t = seen s t
seen_at s F t = t
seen_at s R t = seen s t

pub some_front : (s : Sides) (k : Cut) (n : ℕ) (xs : List ℤ) (v : ℤ) (e : Name → Ends) → 6 ≤ n → AreSome n xs →
    ((m : Name) → IsPackAt (place n m) (e m) (seen_at s m (front_span (of_name k m) (unpacked xs) v))) →
    IsFrontOf s k n xs v (with_all n xs e)
unfolding front_hull
some_front s k n xs v e big h p = (
  inr (all_packed n xs e (λ m. seen_at s m (front_span (of_name k m) (unpacked xs) v)) big h p),
  all_unpacked n xs e (λ m. seen_at s m (front_span (of_name k m) (unpacked xs) v)) big h p
      ∙ sym (ap (λ b. seen_hull s (cond b (hull_of (map_each (λ q. front_span q (unpacked xs) v) k)) none_hull))
      (some_unpacked n xs big h)),
)

pub some_closing : (s : Sides) (k : Cut) (n : ℕ) (xs : List ℤ) (w : ℤ) (e : Name → Ends) → 6 ≤ n → AreSome n xs →
    ((m : Name) → IsPackAt (place n m) (e m) (seen_at s m (closed_span (of_name k m) (name_span xs m) w))) →
    IsClosingOf s k n xs w (with_all n xs e)
unfolding closed_hull unpacked
some_closing s k n xs w e big h p = (
  inr (all_packed n xs e (λ m. seen_at s m (closed_span (of_name k m) (name_span xs m) w)) big h p),
  all_unpacked n xs e (λ m. seen_at s m (closed_span (of_name k m) (name_span xs m) w)) big h p,
)

-- a register of a width by its name

pub name_at : (n : ℕ) (xs : List ℤ) (k : Name) → length xs ≡ n → name_span xs k ≡ span_in_lanes xs (place n k)
name_at n xs k len = ap (λ m. span_in_lanes xs (place m k)) len

pub pack_name : (n : ℕ) (xs : List ℤ) (k : Name) → 6 ≤ n → AreSome n xs →
    IsPackOf (ends_in xs (place n k)) (name_span xs k)
pack_name n xs k big h =
    subst (IsPackOf (ends_in xs (place n k))) (sym (name_at n xs k h.len)) (pack_at n xs (place n k) (placed n k big) h)

-- a register of a width, as it is read
pub read_name : (s : Sides) (n : ℕ) (xs : List ℤ) (k : Name) → 6 ≤ n → AreSome n xs →
    IsEndsOf s (ends_in (as_read s xs) (place n k)) (name_span xs k)
read_name s n xs k big h =
    subst (λ e. IsEndsOf s e (name_span xs k)) (sym (read_in s xs (place n k)))
    (read_pack s _ _ (ends_of_pack s _ _ (pack_name n xs k big h)))

-- all registers, as they are read
pub read_are : (s : Sides) (n : ℕ) (xs : List ℤ) → 6 ≤ n → AreSome n xs → AreEndsOf s (as_read s xs) (unpacked xs)
unfolding unpacked
read_are s n xs big h k =
    subst (λ m. IsEndsOf s (ends_in (as_read s xs) (place m k)) (of_name (spans_of (hull_by (name_span xs))) k))
    (sym (read_length s xs ∙ h.len)) (by_name k)
  where
    by_name : (k : Name) → IsEndsOf s (ends_in (as_read s xs) (place n k))
        (of_name (spans_of (hull_by (name_span xs))) k)
    by_name C = read_name s n xs C big h
    by_name E = read_name s n xs E big h
    by_name D = read_name s n xs D big h
    by_name F = read_name s n xs F big h
    by_name R = read_name s n xs R big h

-- a register for which narrow lanes have no place is 0 in them
rest_zero : (n : ℕ) (xs : List ℤ) (m : Name) → 6 ≤ n → AreSome n xs → place_in false m ≡ None → is_wide n ≡ false →
    name_span xs m ≡ one_span (Int (pos 0))
rest_zero n xs m big h absent narrow =
    name_at n xs m h.len ∙ ap (λ b. span_in_lanes xs (place_in b m)) narrow ∙ ap (span_in_lanes xs) absent
    ∙ rests_at n xs (omega (arith, big)) h

rest_closed : (wide : Bool) (p : Split) (s : Span) (w : ℤ) → (wide ≡ true → closed_span p s w ≡ s) →
    closed_span (rest_split wide p) s w ≡ s
rest_closed true p s w h = h refl
rest_closed false p s w h = refl

-- keeping

kept_some : (n : ℕ) (xs : List ℤ) (v : ℤ) → 6 ≤ n → AreSome n xs → unpacked xs
    ≡ hull_of (map_each (λ q. front_span q (unpacked xs) v) (kept_cut (is_wide n)))
unfolding unpacked
kept_some n xs v big h =
    same_hull refl (rest_kept E (FrontOf (Leaf AtomE)) refl refl (is_wide n) refl) refl
    (rest_kept F (FrontOf (Leaf AtomF)) refl refl (is_wide n) refl) refl
  where
    rest_kept : (m : Name) (p : Split) → place_in false m ≡ None → name_span xs m ≡ front_span p (unpacked xs) v →
        (b : Bool) → is_wide n ≡ b → name_span xs m ≡ front_span (rest_split b p) (unpacked xs) v
    rest_kept m p absent same true w = same
    rest_kept m p absent same false w = rest_zero n xs m big h absent w

pub kept_front : (s : Sides) (n : ℕ) (xs : List ℤ) (v : ℤ) → 6 ≤ n → seen_hull s (unpacked xs) ≡ unpacked xs →
    IsPacked n xs →
    IsFrontOf s (kept_cut (is_wide n)) n xs v xs
unfolding front_hull
kept_front s n xs v big shown (inl e) =
    subst (λ zs. IsFrontOf s (kept_cut (is_wide n)) n zs v zs) (sym e) (nothing_front s (kept_cut (is_wide n)) n v big)
kept_front s n xs v big shown (inr h) = (
  inr h,
  sym shown ∙ ap (seen_hull s) (kept_some n xs v big h
      ∙ sym (ap (λ b. cond b (hull_of (map_each (λ q. front_span q (unpacked xs) v) (kept_cut (is_wide n)))) none_hull)
      (some_unpacked n xs big h))),
)

pub kept_closing : (s : Sides) (n : ℕ) (xs : List ℤ) (w : ℤ) → 6 ≤ n → seen_hull s (unpacked xs) ≡ unpacked xs →
    IsPacked n xs →
    IsClosingOf s (kept_cut (is_wide n)) n xs w xs
unfolding closed_hull unpacked
kept_closing s n xs w big shown p = (
  p,
  sym shown ∙ ap (seen_hull s) (sym (same_hull refl
      (rest_closed (is_wide n) (FrontOf (Leaf AtomE)) (name_span xs E) w (λ t. refl)) refl
      (rest_closed (is_wide n) (FrontOf (Leaf AtomF)) (name_span xs F) w (λ t. refl)) refl)),
)

read_max : (s : Sides) (a b : Ends) → read_ends s (max_ends a b) ≡ max_ends (read_ends s a) (read_ends s b)
read_max BothEnds a b = refl
read_max UpperEnds a b = refl
read_max LowerEnds a b = refl

module _ {X : Type 0} (both : X → X → X) (lanes : X → List ℤ) (n : ℕ)
    (both_lanes : (a b : X) → lanes (both a b) ≡ greater_of (lanes a) (lanes b)) where
  pub packed_both : (a b : X) → IsPacked n (lanes a) → IsPacked n (lanes b) → IsPacked n (lanes (both a b))
  packed_both a b p q = subst (IsPacked n) (sym (both_lanes a b)) (joined_packed n (lanes a) (lanes b) p q)

  pub parts_both : (s : Sides) (can : Name → Ends → Type 0) →
      ((k : Name) (a b : Ends) → can k a → can k b → can k (max_ends a b)) → (a b : X) →
      IsClosableBy s n can (lanes a) → IsClosableBy s n can (lanes b) → IsClosableBy s n can (lanes (both a b))
  parts_both s can c a b p q = subst (IsClosableBy s n can) (sym (both_lanes a b)) (go p q)
    where
      xs : List ℤ
      xs = lanes a

      ys : List ℤ
      ys = lanes b

      both_at : (o : Option ℕ) (k : Name) → IsPlace n o → AreSome n xs → AreSome n ys →
          IfPlaced o (can k (ends_in (as_read s xs) o)) → IfPlaced o (can k (ends_in (as_read s ys) o)) →
          IfPlaced o (can k (ends_in (as_read s (greater_of xs ys)) o))
      both_at None k lt h i p q = tt
      both_at (Some r) k lt h i p q =
          subst (can k) (sym (read_in s (greater_of xs ys) (Some r)
          ∙ ap (read_ends s) (greater_ends n xs ys r h.len i.len lt)
          ∙ read_max s (ends_at xs r) (ends_at ys r)))
          (c k (read_ends s (ends_at xs r)) (read_ends s (ends_at ys r)) (subst (can k) (read_in s xs (Some r)) p)
          (subst (can k) (read_in s ys (Some r)) q))

      go : IsClosableBy s n can xs → IsClosableBy s n can ys → IsClosableBy s n can (greater_of xs ys)
      go (inl e) (inl f) =
          inl (ap (λ zs. greater_of zs ys) e ∙ ap (greater_of (no_lanes n)) f ∙ lanes_idempotent (no_lanes n))
      go (inl e) (inr q) =
          subst (IsClosableBy s n can) (sym (ap (λ zs. greater_of zs ys) e
          ∙ lanes_neutral n ys (some_lanes_are n ys q.1))) (inr q)
      go (inr p) (inl f) =
          subst (IsClosableBy s n can)
          (sym (lanes_commutative xs ys ∙ ap (λ zs. greater_of zs xs) f ∙ lanes_neutral n xs (some_lanes_are n xs p.1)))
          (inr p)
      go (inr p) (inr q) =
          inr (p.0, some_greater n xs ys p.1 q.1, λ k. both_at (place n k) k (placed n k p.0) p.1 q.1 (p.2 k) (q.2 k))

pub parts_none : {X : Type 0} (lanes : X → List ℤ) (n : ℕ) (none : X) → lanes none ≡ no_lanes n → (t : Bool) (x : X) →
    cond t (cond (some_lanes (lanes none)) x none) none ≡ none
parts_none lanes n none e true x = ap (λ b. cond b x none) (ap some_lanes e ∙ none_is n)
parts_none lanes n none e false x = refl

-- both ends serve each expression
pub both_for : (s : Sides) (f : Formula) → s ≡ BothEnds → IsFor s f
both_for BothEnds f is = tt
both_for UpperEnds f is = cc
both_for LowerEnds f is = cc

both_suits : (s : Sides) (p : Split) → s ≡ BothEnds → IsSplitFor s p
both_suits BothEnds (FrontOf e) is = tt
both_suits BothEnds (TailOf o e) is = tt
both_suits BothEnds ByPairs is = tt
both_suits UpperEnds p is = cc
both_suits LowerEnds p is = cc

-- what holds of each register holds of all
pub by_names : (P : Name → Type 0) → P C → P E → P D → P F → P R → (k : Name) → P k
by_names P c e d f r C = c
by_names P c e d f r E = e
by_names P c e d f r D = d
by_names P c e d f r F = f
by_names P c e d f r R = r

pub or_false : (a b c d e : Bool) → (a || (b || (c || (d || e)))) ≡ false → (a ≡ false) × (b ≡ false) × (c ≡ false) ×
    (d ≡ false) × (e ≡ false)
or_false true b c d e h = cc
or_false false true c d e h = cc
or_false false false true d e h = cc
or_false false false false true e h = cc
or_false false false false false e h = (refl, refl, refl, refl, h)

-- the kept ends of all registers
abbrev pub all_kept : Sides → (Name → Ends) → Name → Ends
all_kept s e k = kept_ends s (e k)

module _ {X : Type 0} (s : Sides) (lanes : X → List ℤ) (replaced : X → Name → Ends → X) (n : ℕ) (none : X)
    (none_lanes : lanes none ≡ no_lanes n)
    (replaced_lanes : (h : X) (k : Name) (e : Ends) → lanes (replaced h k e) ≡ with_ends_in (lanes h) (place n k) (kept_ends s e))
  where
    one_lanes : (h : X) (zs : List ℤ) (k : Name) (e : Ends) → lanes h ≡ zs →
        lanes (replaced h k e) ≡ with_ends_in zs (place n k) (kept_ends s e)
    one_lanes h zs k e is = replaced_lanes h k e ∙ ap (λ ys. with_ends_in ys (place n k) (kept_ends s e)) is

    pub all_lanes : (h : X) (e : Name → Ends) → lanes (replaced_all replaced h e) ≡ with_all n (lanes h) (all_kept s e)
    all_lanes h e =
        one_lanes _ _ R (e R) (one_lanes _ _ F (e F)
        (one_lanes _ _ D (e D) (one_lanes _ _ E (e E) (replaced_lanes h C (e C)))))

    chosen_some : (h : X) (e : Name → Ends) → 6 ≤ n → AreSome n (lanes h) →
        lanes (cond (some_lanes (lanes h)) (replaced_all replaced h e) none) ≡ with_all n (lanes h) (all_kept s e)
    chosen_some h e big some =
        ap (λ b. lanes (cond b (replaced_all replaced h e) none)) (first_is n (lanes h) big some) ∙ all_lanes h e

    chosen_none : (h : X) (x : X) → lanes h ≡ no_lanes n → lanes (cond (some_lanes (lanes h)) x none) ≡ no_lanes n
    chosen_none h x e = ap (λ b. lanes (cond b x none)) (ap some_lanes e ∙ none_is n) ∙ none_lanes

    module _ (alone : (s ≡ BothEnds) ⊎ (is_wide n ≡ false)) (fit : Name → List ℤ → Type 0) (k : Cut)
        (front : Name → List ℤ → Ends) (v : ℤ)
        (packs : (m : Name) (xs : List ℤ) (h : Hull) → AreEndsOf s xs h → IsSplitFor s (of_name k m) → fit m xs → IsEndsOf s (front m xs) (front_span (of_name k m) h v))
        (suits : IsCutFor s k) where
      -- the front of E or F: lanes that have no place for it stand for 0
      rest_packs : (xs : List ℤ) → 6 ≤ n → AreSome n xs → (m : Name) (q : ℕ) (b : Bool) → is_wide n ≡ b →
          IfPlaced (cond b (Some q) None) (fit m (as_read s xs)) →
          IsPackAt (cond b (Some q) None) (kept_ends s (beside b (front m (as_read s xs))))
          (front_span (rest_split b (of_name k m)) (unpacked xs) v)
      rest_packs xs big some m q true w f =
          let both = narrow_or_both s (is_wide n) alone w in
          both_kept s _ _ both (packs m (as_read s xs) (unpacked xs) (read_are s n xs big some)
          (both_suits s (of_name k m) both) f)
      rest_packs xs big some m q false w f = refl

      -- the front of each register of the width
      begun_packs : (xs : List ℤ) → 6 ≤ n → AreSome n xs → ((m : Name) → IfPlaced (place n m) (fit m (as_read s xs))) →
          (m : Name) →
          IsPackAt (place n m) (all_kept s (begun_by (is_wide n) front (as_read s xs)) m)
          (seen_at s m (front_span (of_name (of_width (is_wide n) k) m) (unpacked xs) v))
      begun_packs xs big some fits C =
          kept_packs s _ _ (packs C (as_read s xs) (unpacked xs) (read_are s n xs big some) suits.0 (fits C))
      begun_packs xs big some fits E = rest_packs xs big some E 1 (is_wide n) refl (fits E)
      begun_packs xs big some fits D =
          kept_packs s _ _ (packs D (as_read s xs) (unpacked xs) (read_are s n xs big some) suits.1.0 (fits D))
      begun_packs xs big some fits F = rest_packs xs big some F 3 (is_wide n) refl (fits F)
      begun_packs xs big some fits R =
          kept_packs s _ _ (packs R (as_read s xs) (unpacked xs) (read_are s n xs big some) suits.1.1.0 (fits R))

      pub parts_front_is : (h : X) → 6 ≤ n → IsFitFor s n fit (lanes h) →
          IsFrontOf s (of_width (is_wide n) k) n (lanes h) v
          (lanes (cond (some_lanes (lanes h))
          (replaced_all replaced h (begun_by (is_wide n) front (as_read s (lanes h)))) none))
      parts_front_is h big (inl e) =
          subst (IsFrontOf s (of_width (is_wide n) k) n (lanes h) v) (sym (chosen_none h _ e))
          (subst (λ zs. IsFrontOf s (of_width (is_wide n) k) n zs v (no_lanes n)) (sym e)
          (nothing_front s (of_width (is_wide n) k) n v big))
      parts_front_is h big (inr p) =
          let e = begun_by (is_wide n) front (as_read s (lanes h)) in
          subst (IsFrontOf s (of_width (is_wide n) k) n (lanes h) v)
          (sym (chosen_some h e big p.1))
          (some_front s (of_width (is_wide n) k) n (lanes h) v (all_kept s e) big p.1
          (begun_packs (lanes h) big p.1 p.2))

      -- the ends that are kept are read again as they are
      closable_at : (can : Name → Ends → Type 0) → ((m : Name) (e : Ends) → can m e → can m (read_ends s e)) →
          (o : Option ℕ)
          (m : Name) (ys : List ℤ) (e : Ends) → HasEnds o ys (kept_ends s e) → IfPlaced o (can m e) →
          IfPlaced o (can m (ends_in (as_read s ys) o))
      closable_at can reads None m ys e here c = tt
      closable_at can reads (Some p) m ys e here c =
          subst (can m) (sym (read_in s ys (Some p) ∙ ap (read_ends s) here ∙ read_kept s e)) (reads m e c)

      rest_closable : (can : Name → Ends → Type 0) → ((m : Name) (xs : List ℤ) → fit m xs → can m (front m xs)) →
          (xs : List ℤ) (m : Name) (q : ℕ) (b : Bool) → IfPlaced (cond b (Some q) None) (fit m xs) →
          IfPlaced (cond b (Some q) None) (can m (beside b (front m xs)))
      rest_closable can keeps xs m q true f = keeps m xs f
      rest_closable can keeps xs m q false f = tt

      begun_closable : (can : Name → Ends → Type 0) → ((m : Name) (xs : List ℤ) → fit m xs → can m (front m xs)) →
          (xs : List ℤ) →
          ((m : Name) → IfPlaced (place n m) (fit m xs)) → (m : Name) →
          IfPlaced (place n m) (can m (begun_by (is_wide n) front xs m))
      begun_closable can keeps xs fits C = keeps C xs (fits C)
      begun_closable can keeps xs fits E = rest_closable can keeps xs E 1 (is_wide n) (fits E)
      begun_closable can keeps xs fits D = keeps D xs (fits D)
      begun_closable can keeps xs fits F = rest_closable can keeps xs F 3 (is_wide n) (fits F)
      begun_closable can keeps xs fits R = keeps R xs (fits R)

      pub parts_front : (can : Name → Ends → Type 0) → ((m : Name) (xs : List ℤ) → fit m xs → can m (front m xs)) →
          ((m : Name) (e : Ends) → can m e → can m (read_ends s e)) →
          (h : X) → IsFitFor s n fit (lanes h) →
          IsClosableBy s n can
          (lanes (cond (some_lanes (lanes h))
          (replaced_all replaced h (begun_by (is_wide n) front (as_read s (lanes h)))) none))
      parts_front can keeps reads h (inl e) = inl (chosen_none h _ e)
      parts_front can keeps reads h (inr p) =
          let xs = lanes h in
          let e = begun_by (is_wide n) front (as_read s xs) in
          let whole = of_width (is_wide n) k in
          subst (IsClosableBy s n can) (sym (chosen_some h e p.0 p.1))
          (inr (
            p.0,
            all_packed n xs (all_kept s e) (λ m. seen_at s m (front_span (of_name whole m) (unpacked xs) v)) p.0 p.1
                (begun_packs xs p.0 p.1 p.2),
            λ m. closable_at can reads (place n m) m (with_all n xs (all_kept s e)) (e m)
                (all_here n (all_kept s e) p.0 xs p.1.len m)
                (begun_closable can keeps (as_read s xs) p.2 m),
          ))

    module _ (alone : (s ≡ BothEnds) ⊎ (is_wide n ≡ false))
        (shown : (h : X) → 6 ≤ n → IsPacked n (lanes h) → seen_hull s (unpacked (lanes h)) ≡ unpacked (lanes h))
        (can : Name → Ends → Type 0) (k : Cut) (tail : Name → Bool) (close : Name → Ends → Ends) (w : ℤ)
        (packs : (m : Name) (e : Ends) (t : Span) → IsEndsOf s e t → can m e → IsEndsOf s (close m e) (closed_span (of_name k m) t w))
        (same : (m : Name) → tail m ≡ false → (t : Span) → closed_span (of_name k m) t w ≡ t) where
      -- what is made of C, D or R, of which one has a place; and of E or F, where lanes without a place stand for 0
      held_closed : (xs : List ℤ) → 6 ≤ n → AreSome n xs → (m : Name) → can m (ends_in (as_read s xs) (place n m)) →
          IsPackOf (kept_ends s (close m (ends_in (as_read s xs) (place n m))))
          (seen s (closed_span (of_name k m) (name_span xs m) w))
      held_closed xs big some m c =
          kept_packs s _ _ (packs m (ends_in (as_read s xs) (place n m)) (name_span xs m)
          (read_name s n xs m big some) c)

      rest_closed_packs : (xs : List ℤ) (m : Name) (q : ℕ) (b : Bool) → is_wide n ≡ b →
          (is_wide n ≡ false → name_span xs m ≡ one_span (Int (pos 0))) →
          IsEndsOf s (ends_in (as_read s xs) (cond b (Some q) None)) (name_span xs m) →
          IfPlaced (cond b (Some q) None) (can m (ends_in (as_read s xs) (cond b (Some q) None))) →
          IsPackAt (cond b (Some q) None)
          (kept_ends s (beside b (close m (ends_in (as_read s xs) (cond b (Some q) None)))))
          (closed_span (rest_split b (of_name k m)) (name_span xs m) w)
      rest_closed_packs xs m q true t rests p c =
          both_kept s _ _ (narrow_or_both s (is_wide n) alone t)
          (packs m (ends_in (as_read s xs) (Some q)) (name_span xs m) p c)
      rest_closed_packs xs m q false t rests p c = rests t

      closed_packs : (xs : List ℤ) → 6 ≤ n → AreSome n xs →
          ((m : Name) → IfPlaced (place n m) (can m (ends_in (as_read s xs) (place n m)))) → (m : Name) →
          IsPackAt (place n m) (all_kept s (closed_by n close (as_read s xs)) m)
          (seen_at s m (closed_span (of_name (of_width (is_wide n) k) m) (name_span xs m) w))
      closed_packs xs big some cans C = held_closed xs big some C (cans C)
      closed_packs xs big some cans E =
          rest_closed_packs xs E 1 (is_wide n) refl (rest_zero n xs E big some refl) (read_name s n xs E big some)
          (cans E)
      closed_packs xs big some cans D = held_closed xs big some D (cans D)
      closed_packs xs big some cans F =
          rest_closed_packs xs F 3 (is_wide n) refl (rest_zero n xs F big some refl) (read_name s n xs F big some)
          (cans F)
      closed_packs xs big some cans R = held_closed xs big some R (cans R)

      closed_same : (xs : List ℤ) → any_tail tail ≡ false →
          unpacked xs ≡ closed_hull (of_width (is_wide n) k) (unpacked xs) w
      unfolding closed_hull unpacked
      closed_same xs e =
          let no = or_false (tail C) (tail E) (tail D) (tail F) (tail R) e in
          sym (same_hull (same C no.0 (name_span xs C))
          (rest_closed (is_wide n) k.e (name_span xs E) w (λ t. same E no.1 (name_span xs E)))
          (same D no.2 (name_span xs D)) (rest_closed (is_wide n) k.f (name_span xs F) w
          (λ t. same F no.3 (name_span xs F))) (same R no.4 (name_span xs R)))

      pub parts_closing_is : (h : X) → 6 ≤ n → IsClosableBy s n can (lanes h) →
          IsClosingOf s (of_width (is_wide n) k) n (lanes h) w
          (lanes (cond (any_tail tail) (cond (some_lanes (lanes h))
          (replaced_all replaced h (closed_by n close (as_read s (lanes h)))) none) h))
      parts_closing_is h big can_close = go (any_tail tail) refl can_close
        where
          whole : Cut
          whole = of_width (is_wide n) k

          xs : List ℤ
          xs = lanes h

          new : X
          new = replaced_all replaced h (closed_by n close (as_read s xs))

          go : (t : Bool) → any_tail tail ≡ t → IsClosableBy s n can xs →
              IsClosingOf s whole n xs w (lanes (cond t (cond (some_lanes xs) new none) h))
          go true e (inl f) =
              subst (IsClosingOf s whole n xs w) (sym (chosen_none h new f))
              (subst (λ zs. IsClosingOf s whole n zs w (no_lanes n)) (sym f) (nothing_closing s whole n w big))
          go true e (inr p) =
              subst (IsClosingOf s whole n xs w) (sym (chosen_some h (closed_by n close (as_read s xs)) big p.1))
              (some_closing s whole n xs w (all_kept s (closed_by n close (as_read s xs))) big p.1
              (closed_packs xs big p.1 p.2))
          go false e (inl f) = subst (λ zs. IsClosingOf s whole n zs w zs) (sym f) (nothing_closing s whole n w big)
          go false e (inr p) = (inr p.1, sym (shown h big (inr p.1)) ∙ ap (seen_hull s) (closed_same xs e))

-- what is placed for E or F where lanes are wide
pub wide_of : (wide : Bool) (q : ℕ) (P : Type 0) → IfPlaced (cond wide (Some q) None) P → wide ≡ true → P
wide_of true q P p e = p
wide_of false q P p e = cc

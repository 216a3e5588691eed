-- What is known of the values at each place, wherever the runs have come to the same, and as more values are tried.
use Rattle.std.proofs.Common.{◌≡◌, ◌⊎◌, inl, inr, ⊎_elim, ℕ, zero, suc, ◌-◌, ◌<◌, ◌≤◌, ℤ, ◌<ℤ◌, ◌≤ℤ◌, Bool, true, false, List, [], ◌∷◌, length, set, get_or, replicate, reverse, drop, Option, Some, None, slice_get, refl, sym, ◌∙◌, ap, subst, arith}
use Rattle.std.specs.Prelude.{Contains, IfSome, IsSome, IsTrue}
use Rattle.std.specs.List.{AllByRecursion}
use Rattle.std.proofs.lemmas.Int.{ints}
use Rattle.std.proofs.lemmas.List.{length-set}
use Rattle.std.proofs.lemmas.Option.{same_Some, slice_get-get_or}
use Rattle.ts_base.specs.Limits.{IsCellValue, most_cells}
use Rattle.ts_base.specs.Signature.{signature_of}
use Rattle.ts_automaton.specs.Body.{Body}
use Rattle.ts_automaton.specs.AutomatonRun.{AreCellValues, answer}
use Rattle.ts_domain.specs.BoxSeries.{IsBox}
use Rattle.ts_domain.specs.Values.{IsDomain, IsRising, WithinLimits}
use Rattle.ts_domain.proofs.Sets.{contains_cons, each_contains, nothing_in}
use Rattle.ts_domain.proofs.MarkedSets.{at_contains}
use Rattle.ts_filter.proofs.BoxParts.{domain_at}
use Rattle.ts_glue.specs.declared.machine.Machine.{Machine}
use Rattle.ts_glue.specs.Machines.{forward_of, pair_of}
use Rattle.ts_glue.specs.Pairs.{Pair}
use Rattle.ts_model.specs.declared.model.Require.{Require}
use Rattle.ts_model.specs.Compares.{compares}
use Rattle.ts_witness.specs.declared.spared.Known.{Known}
use Rattle.ts_witness.specs.declared.spared.Spared.{Spared}
use Rattle.ts_witness.specs.declared.witness.Sides.{Sides}
use Rattle.ts_witness.specs.KnownValues.{AreBeside, IsEmpty, IsKnown, IsLike, IsSpared, MeetsWith}
use Rattle.ts_witness.specs.Letters.{ReadsLetters}
use Rattle.ts_witness.specs.Runs.{arrived}
use Rattle.ts_witness.specs.Witnesses.{AreSides, value_between}
use Rattle.ts_witness.proofs.Changed.{forward_is, glued_with}
use Rattle.ts_witness.proofs.Letters.{set_answer}

-- nothing is known

pub none_known : (m : Machine) (r : Require) (n : ℕ) (values : List ℤ) (i : ℕ) (e : Known) → IsEmpty e → IsKnown m r n values i e
none_known m r n values i e none p is v has from to = absurd (omega (arith, ints, none, from, to))

of_replicate : {A : Type 0} (n i : ℕ) (x e : A) → slice_get (replicate n x) i ≡ Some e → e ≡ x
of_replicate {A} zero i x e h = absurd (let z : ◌≡◌ {A = Option A} None (Some e) = h in cc)
of_replicate (suc n) zero x e h = sym (same_Some x e h)
of_replicate (suc n) (suc i) x e h = of_replicate n i x e h

length_replicate : {A : Type 0} (n : ℕ) (x : A) → length (replicate n x) ≡ n
length_replicate zero x = refl
length_replicate (suc n) x = ap suc (length_replicate n x)

pub new_spared : (s : Spared) (n : ℕ) (x : Known) → IsEmpty x → s.each.items ≡ replicate n x → n ≡ length s.cells.now → IsBox s.cells.now →
    (m : Machine) (r : Require) → (IsTrue s.letters → ReadsLetters (forward_of m)) → IsSpared m r s
new_spared s n x none are count box m r letters = record {
  box = box;
  count = ap length are ∙ length_replicate n x ∙ count;
  each = λ i e h.
      none_known m r (length s.cells.now) (get_or s.cells.now i []) i e
      (subst IsEmpty (sym (of_replicate n i x e (ap (λ z. slice_get z i) (sym are) ∙ h))) none);
  letters = letters;
}

-- an entry that is there
pub entry_there : (xs : List Known) (i : ℕ) (e : Known) → e ≡ get_or xs i e → i < length xs → slice_get xs i ≡ Some e
entry_there xs i e is below = slice_get-get_or xs i e below ∙ ap Some (sym is)

-- what the runs have beside a place decides the value with each value there

module _ (m : Machine) (y : List ℤ) (i : ℕ) (s : Sides) (inside : i < length y) (few : length y ≤ most_cells) (cells : AreCellValues y)
    (sides : AreSides m y i s) where
  value_is : (p : Pair) → pair_of m ≡ Some p → (v : ℤ) → IsCellValue v → value_between p (length y) i s v ≡ answer (forward_of m) (set y i v)
  value_is p is v c =
      glued_with m y i (length y - suc i) v inside refl few cells c p is (arrived p.forward i s.left v) (arrived p.reverse (length y - suc i) s.right v)
      (ap (λ b. arrived b i s.left v) (forward_is m p is) ∙ sides.left v) (sides.right p is v)

  pub known_meets : (r : Require) (values : List ℤ) (e : Known) → e.sides ≡ s → IsDomain values → IsSome (pair_of m) → IsKnown m r (length y) values i e →
      (v : ℤ) → Contains values v → e.least ≤ℤ v → v ≤ℤ e.greatest → MeetsWith (forward_of m) r y i v
  known_meets r values e same domain split known v has from to = go (pair_of m) refl split
    where
      go : (o : Option Pair) → pair_of m ≡ o → IsSome o → MeetsWith (forward_of m) r y i v
      go None is some = absurd (let z : ◌≡◌ {A = Bool} false true = some in cc)
      go (Some p) is some =
          ap (compares r.op r.bound)
          (sym (value_is p is v (each_contains WithinLimits values v domain.within has)) ∙ ap (λ z. value_between p (length y) i z v) (sym same))
          ∙ known p is v has from to

  pub meets_known : (r : Require) (values : List ℤ) (e : Known) → e.sides ≡ s → IsDomain values →
      ((v : ℤ) → Contains values v → e.least ≤ℤ v → v ≤ℤ e.greatest → MeetsWith (forward_of m) r y i v) → IsKnown m r (length y) values i e
  meets_known r values e same domain meets p is v has from to =
      ap (compares r.op r.bound)
      (ap (λ z. value_between p (length y) i z v) same ∙ value_is p is v (each_contains WithinLimits values v domain.within has))
      ∙ meets v has from to

-- more is known of one place, or as much

pub known_next : (m : Machine) (r : Require) (n : ℕ) (values : List ℤ) (i : ℕ) (low limit : ℤ) (e new : Known) → new.sides ≡ e.sides →
    ((new.least ≡ low) × (new.greatest ≡ limit)) ⊎ ((new.least ≡ e.least) × (new.greatest ≡ e.greatest)) → IsKnown m r n values i e →
    (new.least ≡ low → new.greatest ≡ limit → IsKnown m r n values i new) → IsKnown m r n values i new
known_next m r n values i low limit e new s (inl g) h tried = tried g.0 g.1
known_next m r n values i low limit e new s (inr g) h tried =
    λ p is v has from to. ap (λ z. compares r.op r.bound (value_between p n i z v)) s
    ∙ h p is v has (subst (λ z. z ≤ℤ v) g.0 from) (subst (λ z. v ≤ℤ z) g.1 to)

get_set : {A : Type 0} (xs : List A) (i k : ℕ) (y s : A) → slice_get (set xs i y) k ≡ Some s →
    ((k ≡ i) × (s ≡ y)) ⊎ ((k ≡ i → ⊥) × (slice_get xs k ≡ Some s))
get_set {A} [] i k y s e = absurd (let z : ◌≡◌ {A = Option A} None (Some s) = e in cc)
get_set (x ∷ xs) zero zero y s e = inl (refl, sym (same_Some y s e))
get_set (x ∷ xs) zero (suc k) y s e = inr ((λ z. omega (arith, z)), e)
get_set (x ∷ xs) (suc i) zero y s e = inr ((λ z. omega (arith, z)), e)
get_set (x ∷ xs) (suc i) (suc k) y s e =
    ⊎_elim (λ h. inl (ap suc h.0, h.1)) (λ h. inr ((λ z. h.0 (omega (arith, z))), h.1)) (get_set xs i k y s e)

pub put_spared : (m : Machine) (r : Require) (s t : Spared) (i : ℕ) (new : Known) → t.cells ≡ s.cells → t.letters ≡ s.letters →
    t.each.items ≡ set s.each.items i new → IsSpared m r s → IsKnown m r (length s.cells.now) (get_or s.cells.now i []) i new → IsSpared m r t
put_spared m r s t i new cells letters change h is = record {
  box = subst (λ z. IsBox z.now) (sym cells) h.box;
  count = ap length change ∙ length-set s.each.items i new ∙ h.count ∙ ap (λ z. length z.now) (sym cells);
  each = λ j e there.
      subst (λ z. IsKnown m r (length z.now) (get_or z.now j []) j e) (sym cells)
      (⊎_elim
      (λ same. subst (λ n. IsKnown m r (length s.cells.now) (get_or s.cells.now n []) n e) (sym same.0)
      (subst (IsKnown m r (length s.cells.now) (get_or s.cells.now i []) i) (sym same.1) is))
      (λ other. h.each j e other.1)
      (get_set s.each.items i j new e (ap (λ z. slice_get z j) (sym change) ∙ there)));
  letters = λ t. h.letters (subst IsTrue letters t);
}

-- where there is something else beside a place, nothing is known of it
pub cleared : (m : Machine) (r : Require) (s t : Spared) (i : ℕ) (new : Known) → IsEmpty new → t.cells ≡ s.cells → t.letters ≡ s.letters →
    t.each.items ≡ set s.each.items i new → IsSpared m r s → IsSpared m r t
cleared m r s t i new none cells letters change h =
    put_spared m r s t i new cells letters change h (none_known m r (length s.cells.now) (get_or s.cells.now i []) i new none)

-- what is beside a place of which nothing is known any more
pub beside_cleared : (m : Machine) (y : List ℤ) (xs : List Known) (i : ℕ) (new e : Known) → i < length xs → AreSides m y i new.sides →
    slice_get (set xs i new) i ≡ Some e → AreSides m y i e.sides
beside_cleared m y xs i new e l sides there =
    ⊎_elim (λ same. subst (λ (z : Known). AreSides m y i z.sides) (sym same.1) sides) (λ other. absurd (other.0 refl)) (get_set xs i i new e there)

pub entry_is : (xs : List Known) (i : ℕ) (old e : Known) → old ≡ get_or xs i old → i < length xs → slice_get xs i ≡ Some e → e ≡ old
entry_is xs i old e is l there = same_Some e old (sym there ∙ entry_there xs i old is l)

-- what is known of a place, where the runs have that beside it

module _ (m : Machine) (r : Require) (y : List ℤ) (old s : Spared) (i : ℕ) (e : Known) (cells : s.cells ≡ old.cells) (spared : IsSpared m r s)
    (long : length old.cells.now ≡ length y) (inside : i < length y) (few : length y ≤ most_cells) (values : AreCellValues y) (split : IsSome (pair_of m))
    (is : e ≡ get_or s.each.items i e) (sides : (e : Known) → slice_get s.each.items i ≡ Some e → AreSides m y i e.sides)
  where
    same_long : length s.cells.now ≡ length y
    same_long = ap (λ z. length z.now) cells ∙ long

    there : slice_get s.each.items i ≡ Some e
    there = let c = spared.count in let l = same_long in entry_there s.each.items i e is (omega (arith, c, l, inside))

    domain : IsDomain (get_or s.cells.now i [])
    domain = let l = same_long in domain_at s.cells.now i spared.box (omega (arith, l, inside))

    pub told_known : (v : ℤ) → Contains (get_or old.cells.now i []) v → e.least ≤ℤ v → v ≤ℤ e.greatest → MeetsWith (forward_of m) r y i v
    told_known v has from to =
        known_meets m y i e.sides inside few values (sides e there) r (get_or s.cells.now i []) e refl domain split
        (subst (λ n. IsKnown m r n (get_or s.cells.now i []) i e) same_long (spared.each i e there)) v
        (subst (λ z. Contains (get_or z.now i []) v) (sym cells) has) from to

    -- a value of the cell is one that a cell may have
    pub cell_value : (v : ℤ) → Contains (get_or old.cells.now i []) v → IsCellValue v
    cell_value v has =
        each_contains WithinLimits (get_or s.cells.now i []) v domain.within (subst (λ z. Contains (get_or z.now i []) v) (sym cells) has)

    pub learnt : (t : Spared) (new : Known) (low limit : ℤ) → t.cells ≡ s.cells → t.letters ≡ s.letters →
        t.each.items ≡ set s.each.items i new → new.sides ≡ e.sides →
        ((new.least ≡ low) × (new.greatest ≡ limit)) ⊎ ((new.least ≡ e.least) × (new.greatest ≡ e.greatest)) →
        ((v : ℤ) → Contains (get_or old.cells.now i []) v → low ≤ℤ v → v ≤ℤ limit → MeetsWith (forward_of m) r y i v) → IsSpared m r t
    learnt t new low limit same letters change beside either tried =
        put_spared m r s t i new same letters change spared
        (known_next m r (length s.cells.now) (get_or s.cells.now i []) i low limit e new beside either (spared.each i e there)
        (λ is_low is_high. subst (λ n. IsKnown m r n (get_or s.cells.now i []) i new) (sym same_long)
        (meets_known m y i e.sides inside few values (sides e there) r (get_or s.cells.now i []) new beside domain
        (λ v has from to. tried v (subst (λ z. Contains (get_or z.now i []) v) cells has) (subst (λ z. z ≤ℤ v) is_low from)
        (subst (λ z. v ≤ℤ z) is_high to)))))

-- when each place was last seen

pub new_beside : (s : Spared) (n : ℕ) (x : Known) → x.time ≡ 0 → s.time ≡ 1 → s.each.items ≡ replicate n x → (m : Machine) (y : List ℤ) → AreBeside m y s
new_beside s n x zero_time one are m y =
    let first : (i : ℕ) (e : Known) → slice_get s.each.items i ≡ Some e → e.time ≡ 0 =
    λ i e there. ap (λ (z : Known). z.time) (of_replicate n i x e (ap (λ z. slice_get z i) (sym are) ∙ there)) ∙ zero_time in
    record {
      past = λ i e there. let z = first i e there in omega (arith, z);
      now = λ i e there same moves. let z = first i e there in absurd (omega (arith, z, same, one));
    }

-- one place is seen now
pub seen_beside : (m : Machine) (y : List ℤ) (s t : Spared) (i : ℕ) (new : Known) → t.time ≡ s.time → t.each.items ≡ set s.each.items i new →
    new.time ≡ s.time → AreSides m y i new.sides → AreBeside m y s → AreBeside m y t
seen_beside m y s t i new time change seen sides h = record {
  past = λ j e there.
      ⊎_elim (λ same. let z = ap (λ (z : Known). z.time) same.1 in omega (arith, z, seen, time))
      (λ other. let z = h.past j e other.1 in omega (arith, z, time))
      (get_set s.each.items i j new e (ap (λ z. slice_get z j) (sym change) ∙ there));
  now = λ j e there is moves.
      ⊎_elim (λ same. subst (λ n. AreSides m y n e.sides) (sym same.0) (subst (λ (z : Known). AreSides m y i z.sides) (sym same.1) sides))
      (λ other. h.now j e other.1 (is ∙ time) (omega (arith, moves, time)))
      (get_set s.each.items i j new e (ap (λ z. slice_get z j) (sym change) ∙ there));
}

-- more is known of one place
pub learnt_beside : (m : Machine) (y : List ℤ) (s t : Spared) (i : ℕ) (old new : Known) → t.time ≡ s.time → t.each.items ≡ set s.each.items i new →
    new.time ≡ old.time → new.sides ≡ old.sides → slice_get s.each.items i ≡ Some old → AreBeside m y s → AreBeside m y t
learnt_beside m y s t i old new time change seen sides at h = record {
  past = λ j e there.
      ⊎_elim (λ same. let z = ap (λ (z : Known). z.time) same.1 in let l = h.past i old at in omega (arith, z, seen, l, time))
      (λ other. let z = h.past j e other.1 in omega (arith, z, time))
      (get_set s.each.items i j new e (ap (λ z. slice_get z j) (sym change) ∙ there));
  now = λ j e there is moves.
      ⊎_elim
      (λ same. subst (λ n. AreSides m y n e.sides) (sym same.0)
      (subst (λ (z : Known). AreSides m y i z.sides) (sym same.1)
      (subst (λ z. AreSides m y i z) (sym sides)
      (h.now i old at (sym seen ∙ ap (λ (z : Known). z.time) (sym same.1) ∙ is ∙ time) (omega (arith, moves, time))))))
      (λ other. h.now j e other.1 (is ∙ time) (omega (arith, moves, time)))
      (get_set s.each.items i j new e (ap (λ z. slice_get z j) (sym change) ∙ there));
}

-- the series meets with a value that compares with the cells beside the place as one does with which it meets
pub like_meets : (b : Body) (r : Require) (y : List ℤ) (i : ℕ) (u v : ℤ) → IsLike b r y i u → signature_of (set y i u) ≡ signature_of (set y i v) →
    MeetsWith b r y i v
like_meets b r y i u v like same = ap (compares r.op r.bound) (sym (set_answer b like.0 y i u v same)) ∙ like.1

pub liked : (b : Body) (r : Require) (y : List ℤ) (i : ℕ) (o : Option ℤ) (letters : Bool) (v : ℤ) → IfSome o (λ u. IsTrue letters × (u ≡ v)) →
    (IsTrue letters → ReadsLetters b) → MeetsWith b r y i v → IfSome o (IsLike b r y i)
liked b r y i None letters v h reads meets = tt
liked b r y i (Some u) letters v h reads meets = (reads h.0, subst (MeetsWith b r y i) (sym h.1) meets)

-- the values of a domain are tried one after the other

-- with each value from `low` on the series meets, but for those of a rising list that are still to be tried
pub record AreTried (b : Body) (r : Require) (y : List ℤ) (k : ℕ) (values : List ℤ) (low : ℤ) (rest : List ℤ) : Type 0 where
  pub rising : IsRising rest
  pub within : AllByRecursion WithinLimits rest
  pub met : (v : ℤ) → Contains values v → low ≤ℤ v → Contains rest v ⊎ MeetsWith b r y k v

rising_drop : (n : ℕ) (d : List ℤ) → IsRising d → IsRising (drop n d)
unfolding IsRising
rising_drop zero d rise = rise
rising_drop (suc n) [] rise = tt
rising_drop (suc n) (x ∷ d) rise = rising_drop n d rise.1

within_drop : (n : ℕ) (d : List ℤ) → AllByRecursion WithinLimits d → AllByRecursion WithinLimits (drop n d)
within_drop zero d all = all
within_drop (suc n) [] all = tt
within_drop (suc n) (x ∷ d) all = within_drop n d all.1

above_drop : (n : ℕ) (d : List ℤ) (low v : ℤ) → IsRising d → slice_get d n ≡ Some low → Contains d v → low ≤ℤ v → Contains (drop n d) v
unfolding IsRising
above_drop zero d low v rise at has up = has
above_drop (suc n) [] low v rise at has up = absurd (nothing_in v has)
above_drop (suc n) (x ∷ d) low v rise at has up = elim ((contains_cons x d v).0 has) [
  | inl e ↦ let lt = each_contains (λ y. x <ℤ y) d low rise.0 (at_contains d n low at) in absurd (omega (arith, ints, e, lt, up))
  | inr there ↦ above_drop n d low v rise.1 at there up
]

least_first : (x : ℤ) (d : List ℤ) (v : ℤ) → IsRising (x ∷ d) → Contains (x ∷ d) v → x ≤ℤ v
unfolding IsRising
least_first x d v rise has = elim ((contains_cons x d v).0 has) [
  | inl e ↦ omega (arith, ints, e)
  | inr there ↦ let lt = each_contains (λ y. x <ℤ y) d v rise.0 there in omega (arith, ints, lt)
]

rising_tail : (x : ℤ) (d : List ℤ) → IsRising (x ∷ d) → IsRising d
unfolding IsRising
rising_tail x d rise = rise.1

module _ (b : Body) (r : Require) (y : List ℤ) (k : ℕ) (values : List ℤ) (low : ℤ) where
  pub none_tried : (n : ℕ) (rest : List ℤ) → IsDomain values → slice_get values n ≡ Some low → rest ≡ drop n values →
      AreTried b r y k values low rest
  none_tried n rest domain at is =
      subst (AreTried b r y k values low) (sym is) (record {
        rising = rising_drop n values domain.rising;
        within = within_drop n values domain.within;
        met = λ v has up. inl (above_drop n values low v domain.rising at has up);
      })

  module _ (all : List ℤ) (x : ℤ) (rest : List ℤ) (steps : all ≡ x ∷ rest) (tried : AreTried b r y k values low all) where
    here : AreTried b r y k values low (x ∷ rest)
    here = subst (AreTried b r y k values low) steps tried

    pub next_within : WithinLimits x
    next_within = here.within.0

    pub one_tried : MeetsWith b r y k x → AreTried b r y k values low rest
    one_tried meets = record {
      rising = rising_tail x rest here.rising;
      within = here.within.1;
      met = λ v has up. elim (here.met v has up) [
        | inl there ↦ elim ((contains_cons x rest v).0 there) [ inl e ↦ inr (subst (MeetsWith b r y k) e meets) | inr later ↦ inl later ]
        | inr told ↦ inr told
      ];
    }

    pub tried_to : (high : ℤ) → high <ℤ x → (v : ℤ) → Contains values v → low ≤ℤ v → v ≤ℤ high → MeetsWith b r y k v
    tried_to high above v has from to = elim (here.met v has from) [
      | inl there ↦ let first = least_first x rest v here.rising there in absurd (omega (arith, ints, first, above, to))
      | inr told ↦ told
    ]

  pub tried_all : (rest : List ℤ) → rest ≡ [] → AreTried b r y k values low rest → (v : ℤ) → Contains values v → low ≤ℤ v → MeetsWith b r y k v
  tried_all rest none tried v has from = elim (tried.met v has from) [
    | inl there ↦ absurd (nothing_in v (subst (λ l. Contains l v) none there))
    | inr told ↦ told
  ]

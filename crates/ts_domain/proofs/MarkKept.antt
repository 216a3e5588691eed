-- The part of a set that passes a test, and the marks that go with it; and a set on ranges of one number each.
use Rattle.std.proofs.Common.{◌≡◌, ℤ, pos, neg_ℤ, ◌+ℤ◌, ◌≤ℤ◌, ◌<ℤ◌, ◌↔◌, inl, inr, Bool, true, false, cond, IsTrue, Option, None, Some, List, [], ◌∷◌}
use Rattle.std.proofs.Common.{map, refl, sym, ap, ◌∙◌, subst, arith}
use Rattle.std.proofs.lemmas.Int.{ints}
use Rattle.std.proofs.lemmas.Bool.{both_ways}
use Rattle.std.proofs.lemmas.Bool.Decides.{Decides-int_eq}
use Rattle.std.specs.Prelude.{filter, Contains}
use Rattle.std.specs.Ordering.{int_eq}
use Rattle.std.specs.List.{AllByRecursion}
use Rattle.ts_domain.specs.declared.interval.Interval.{Interval}
use Rattle.ts_domain.specs.declared.marks.Mark.{Mark}
use Rattle.ts_domain.specs.declared.keep.Keep.{Keep}
use Rattle.ts_domain.specs.Kept.{keeps, values_kept, values_without}
use Rattle.ts_domain.specs.Marks.{mark_at, MarksFrom, AreTold, numbers}
use Rattle.ts_domain.specs.Pieces.{values_in, IsPartOf, IsMarked}
use Rattle.ts_domain.specs.Union.{InSome, LowsRise}
use Rattle.ts_domain.specs.Values.{IsRising, IsDomain, WithinLimits, values_of, AreRanges}
use Rattle.ts_domain.proofs.Sets.{contains_cons, contains_filter, nothing_in, each_filter, rising_filter}
use Rattle.ts_domain.proofs.Ranges.{values_rise}
use Rattle.ts_domain.proofs.SameSets.{same_set}
use Rattle.ts_domain.proofs.MarkLaws.{marks_earlier}
use Rattle.ts_domain.proofs.MarkPlaces.{none_without}
use Rattle.ts_domain.proofs.MarkSets.{IsThere, contains_numbers, numbers_rise}
use Rattle.ts_domain.proofs.MarkedSets.{base_rises}

abbrev bottom : ℤ
bottom = neg_ℤ (pos 1000000)

abbrev pub passing : (ℤ → Bool) → List Mark → List Mark
passing test ms = filter (λ m. test m.value) ms

-- marks that pass rise, and tell of the part
pub passing_rise : (test : ℤ → Bool) (f : ℤ) (ms : List Mark) → MarksFrom f ms → MarksFrom f (passing test ms)
unfolding MarksFrom
passing_rise test f [] h = tt
passing_rise test f (m ∷ ms) h =
    let rest = passing_rise test (m.value +ℤ pos 1) ms h.2 in by_test rest (test m.value)
  where
    by_test : MarksFrom (m.value +ℤ pos 1) (passing test ms) → (b : Bool) → MarksFrom f (cond b (m ∷ passing test ms) (passing test ms))
    by_test rest true = (h.0, h.1, rest)
    by_test rest false = marks_earlier f (m.value +ℤ pos 1) (passing test ms) (past f m.value h.0) rest
      where
        past : (a b : ℤ) → a ≤ℤ b → a ≤ℤ (b +ℤ pos 1)
        past a b le = omega (arith, ints, le)

pub passing_told : (test : ℤ → Bool) (all : List ℤ) (ms : List Mark) → AreTold all ms → AreTold (filter test all) (passing test ms)
passing_told test all [] h = tt
passing_told test all (m ∷ ms) h = by_test (test m.value) refl (passing_told test all ms h.1)
  where
    by_test : (b : Bool) → test m.value ≡ b → AreTold (filter test all) (passing test ms) →
        AreTold (filter test all) (cond b (m ∷ passing test ms) (passing test ms))
    by_test true e rest = (
      (λ gone. (contains_filter test all m.value).1 (h.0.0 gone, e), λ has. h.0.1 ((contains_filter test all m.value).0 has).0),
      rest,
    )
    by_test false e rest = rest

-- the mark at a number that passes, and at one that doesn't
at_passing : (test : ℤ → Bool) (v : ℤ) (ms : List Mark) → test v ≡ true → mark_at v (passing test ms) ≡ mark_at v ms
unfolding mark_at
at_passing test v [] passes = refl
at_passing test v (m ∷ ms) passes = by_test (test m.value) refl (at_passing test v ms passes)
  where
    by_test : (b : Bool) → test m.value ≡ b → mark_at v (passing test ms) ≡ mark_at v ms →
        mark_at v (cond b (m ∷ passing test ms) (passing test ms)) ≡ cond (int_eq m.value v) (Some m.gone) (mark_at v ms)
    by_test true e rest = ap (λ o. cond (int_eq m.value v) (Some m.gone) o) rest
    by_test false e rest = rest ∙ sym (elsewhere (int_eq m.value v) refl)
      where
        elsewhere : (b : Bool) → int_eq m.value v ≡ b → cond b (Some m.gone) (mark_at v ms) ≡ mark_at v ms
        elsewhere true is = absurd (both_ways (test m.value) e (ap test ((Decides-int_eq m.value v).0 is) ∙ passes))
        elsewhere false is = refl

at_failing : (test : ℤ → Bool) (v : ℤ) (ms : List Mark) → test v ≡ false → mark_at v (passing test ms) ≡ None
unfolding mark_at
at_failing test v [] fails = refl
at_failing test v (m ∷ ms) fails = by_test (test m.value) refl (at_failing test v ms fails)
  where
    by_test : (b : Bool) → test m.value ≡ b → mark_at v (passing test ms) ≡ None → mark_at v (cond b (m ∷ passing test ms) (passing test ms)) ≡ None
    by_test true e rest = elsewhere (int_eq m.value v) refl
      where
        elsewhere : (b : Bool) → int_eq m.value v ≡ b → cond b (Some m.gone) (mark_at v (passing test ms)) ≡ None
        elsewhere true is = absurd (both_ways (test m.value) (ap test ((Decides-int_eq m.value v).0 is) ∙ fails) e)
        elsewhere false is = rest
    by_test false e rest = rest

there_passing : (test : ℤ → Bool) (all : List ℤ) (o : Option Bool) (v : ℤ) → test v ≡ true → IsThere (filter test all) o v ↔ IsThere all o v
there_passing test all None v passes = (λ h. ((contains_filter test all v).0 h).0, λ h. (contains_filter test all v).1 (h, passes))
there_passing test all (Some gone) v passes = (λ h. h, λ h. h)

-- the numbers that pass are those of the part, with the marks that pass
pub numbers_passing : (test : ℤ → Bool) (all : List ℤ) (ms : List Mark) → IsRising all → MarksFrom bottom ms →
    numbers (filter test all) (passing test ms) ≡ filter test (numbers all ms)
numbers_passing test all ms rise h =
    let h' = passing_rise test bottom ms h in
    same_set (numbers (filter test all) (passing test ms)) (filter test (numbers all ms)) (numbers_rise bottom (filter test all) (passing test ms)
    (rising_filter test all rise) h') (rising_filter test (numbers all ms) (numbers_rise bottom all ms rise h)) (λ v. by_test v (test v) refl)
  where
    by_test : (v : ℤ) (b : Bool) → test v ≡ b → Contains (numbers (filter test all) (passing test ms)) v ↔ Contains (filter test (numbers all ms)) v
    by_test v true e =
        let part = contains_numbers bottom (filter test all) (passing test ms) v (passing_rise test bottom ms h) in
        let whole = contains_numbers bottom all ms v h in
        let same = there_passing test all (mark_at v ms) v e in let at = at_passing test v ms e in (
          λ has. (contains_filter test (numbers all ms) v).1 (whole.1 (same.0 (subst (λ o. IsThere (filter test all) o v) at (part.0 has))), e),
          λ has. part.1 (subst (λ o. IsThere (filter test all) o v) (sym at) (same.1 (whole.0 ((contains_filter test (numbers all ms) v).0 has).0))),
        )
    by_test v false e =
        let part = contains_numbers bottom (filter test all) (passing test ms) v (passing_rise test bottom ms h) in (
          λ has. absurd (both_ways (test v) e
              ((contains_filter test all v).0 (subst (λ o. IsThere (filter test all) o v) (at_failing test v ms e) (part.0 has))).1),
          λ has. absurd (both_ways (test v) e ((contains_filter test (numbers all ms) v).0 has).1),
        )

-- a smaller piece with the marks that pass
pub part_is : (rs items : List Interval) (p q : Interval) (ms : List Mark) (d : List ℤ) (test : ℤ → Bool) (left : List Mark) →
    numbers (values_in (values_of rs) p) ms ≡ d → IsMarked rs p ms → items ≡ rs → IsPartOf (values_of rs) test p q → left ≡ passing test ms →
    (filter test d ≡ [] → ⊥) → IsMarked items q left × (numbers (values_in (values_of items) q) left ≡ filter test d)
part_is rs items p q ms d test left view is same part e some =
    let all = values_in (values_of rs) p in
    let values : numbers (values_in (values_of rs) q) (passing test ms) ≡ filter test d =
    ap (λ l. numbers l (passing test ms)) part.same ∙ numbers_passing test all ms (base_rises rs p is.set.apart) is.rising ∙ ap (filter test) view in
    let marked : IsMarked rs q (passing test ms) = record {
      set = is.set;
      piece = part.piece;
      rising = passing_rise test bottom ms is.rising;
      told = subst (λ l. AreTold l (passing test ms)) (sym part.same) (passing_told test all ms is.told);
      some = λ none. some (sym values ∙ none);
    } in (
      subst (λ l. IsMarked items q l) (sym e) (subst (λ r. IsMarked r q (passing test ms)) (sym same) marked),
      ap (λ l. numbers (values_in (values_of items) q) l) e ∙ ap (λ r. numbers (values_in (values_of r) q) (passing test ms)) same ∙ values,
    )

-- what a test leaves of a piece, from the ranges and marks that the code read in machine numbers
pub part_given : (rs slice items : List Interval) (p q : Interval) (ms copy : List Mark) (d : List ℤ) (test : ℤ → ℤ → Bool) (t w : ℤ) (left : List Mark) →
    numbers (values_in (values_of rs) p) ms ≡ d → IsMarked rs p ms → slice ≡ rs → items ≡ rs → w ≡ t → IsPartOf (values_of slice) (test w) p q →
    copy ≡ ms → left ≡ passing (test w) copy → (filter (test t) d ≡ [] → ⊥) →
    IsMarked items q left × (numbers (values_in (values_of items) q) left ≡ filter (test t) d)
part_given rs slice items p q ms copy d test t w left view is read same e part copied made some =
    part_is rs items p q ms d (test t) left view is same
    (subst (λ u. IsPartOf (values_of rs) (test u) p q) e (subst (λ l. IsPartOf (values_of l) (test w) p q) read part))
    (made ∙ ap (passing (test w)) copied ∙ ap (λ u. passing (test u) ms) e) some

-- ranges of one number each
abbrev pub single : ℤ → Interval
single v = record { low = v; high = v }

pub in_singles : (xs : List ℤ) (v : ℤ) → InSome (map single xs) v ↔ Contains xs v
unfolding InSome
in_singles [] v = (λ h. absurd h, λ h. absurd (nothing_in v h))
in_singles (x ∷ xs) v = let rest = in_singles xs v in (
  λ h. (contains_cons x xs v).1 (elim h [ inl here ↦ inl (both x v here.0 here.1) | inr there ↦ inr (rest.0 there) ]),
  λ h. elim ((contains_cons x xs v).0 h) [ inl e ↦ inl (omega (arith, ints, e), omega (arith, ints, e)) | inr there ↦ inr (rest.1 there) ],
)
  where
    both : (a b : ℤ) → a ≤ℤ b → b ≤ℤ a → a ≡ b
    both a b h g = omega (arith, ints, h, g)

pub singles_rise : (f : ℤ) (xs : List ℤ) → IsRising xs → AllByRecursion (λ v. (f ≤ℤ v) × (v ≤ℤ pos 1000000)) xs → LowsRise f (map single xs)
unfolding IsRising LowsRise
singles_rise f [] rise within = tt
singles_rise f (x ∷ xs) rise within =
    (within.0.0, omega (arith, ints), within.0.1, singles_rise x xs rise.1 (both xs rise.0 within.1))
  where
    weak : (v : ℤ) → x <ℤ v → x ≤ℤ v
    weak v lt = omega (arith, ints, lt)

    both : (ys : List ℤ) → AllByRecursion (λ y. x <ℤ y) ys → AllByRecursion (λ v. (f ≤ℤ v) × (v ≤ℤ pos 1000000)) ys →
        AllByRecursion (λ v. (x ≤ℤ v) × (v ≤ℤ pos 1000000)) ys
    both [] a b = tt
    both (y ∷ ys) a b = ((weak y a.0, b.0.1), both ys a.1 b.1)

pub singles_same : (xs : List ℤ) (read own : List Interval) → IsRising xs → read ≡ map single xs → ((v : ℤ) → Contains (values_of own) v ↔ InSome read v) →
    AreRanges own → values_of own ≡ xs
singles_same xs read own rise e union are = same_set (values_of own) xs (values_rise bottom own are.apart) rise (λ v. (
  λ has. (in_singles xs v).0 (subst (λ l. InSome l v) e ((union v).0 has)),
  λ has. (union v).1 (subst (λ l. InSome l v) (sym e) ((in_singles xs v).1 has)),
))

pub kept_singles : (keep : Keep) (d : List ℤ) (read : List Interval) → IsDomain d → read ≡ map single (filter (keeps keep) d) → LowsRise bottom read
kept_singles keep d read is e = subst (LowsRise bottom) (sym e)
    (singles_rise bottom (filter (keeps keep) d) (rising_filter (keeps keep) d is.rising) (each_filter WithinLimits (keeps keep) d is.within))

pub kept_renewed : (keep : Keep) (d : List ℤ) (read own : List Interval) → IsDomain d → read ≡ map single (filter (keeps keep) d) →
    ((v : ℤ) → Contains (values_of own) v ↔ InSome read v) → AreRanges own → values_of own ≡ values_kept keep d
kept_renewed keep d read own is e union are =
    singles_same (filter (keeps keep) d) read own (rising_filter (keeps keep) d is.rising) e union are

-- a number that isn't there
pub left_without : (gone w : ℤ) (d : List ℤ) (b : Bool) → w ≡ gone → IsTrue b ↔ Contains d w → b ≡ false → values_without gone d ≡ d
left_without gone w d b e told fails = none_without gone d (λ has. both_ways b fails (told.1 (subst (Contains d) (sym e) has)))

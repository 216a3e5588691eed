-- A way over ranges: the numbers that are next, and those of the ranges behind them.
use Rattle.std.proofs.Common.{◌≡◌, ℕ, zero, suc, ◌+◌, ◌-◌, ◌<◌, ◌≤◌, ℤ, pos, neg_ℤ, ◌+ℤ◌, ◌-ℤ◌, ◌≤ℤ◌, ◌<ℤ◌, ◌⊎◌, inl, inr, Bool, true, false, cond}
use Rattle.std.proofs.Common.{Some, List, [], ◌∷◌, length, get_or, refl, sym, ap, ◌∙◌, subst, arith, slice_get, take, drop}
use Rattle.std.proofs.lemmas.List.{take_rest}
use Rattle.std.proofs.lemmas.Int.{ints}
use Rattle.std.specs.Prelude.{int_lt, Contains}
use Rattle.std.specs.Int.{int_min}
use Rattle.ts_domain.specs.declared.interval.Interval.{Interval}
use Rattle.ts_domain.specs.declared.marks.Mark.{Mark}
use Rattle.ts_domain.specs.Marks.{numbers}
use Rattle.ts_domain.specs.Pieces.{values_in, IsPiece, IsMarked, leading_count}
use Rattle.ts_domain.specs.Union.{InSome}
use Rattle.ts_domain.specs.Values.{IsRising, AreNext, RangesFrom, to_natural, values_of}
use Rattle.ts_domain.specs.Ways.{HasBehind, AreBehind}
use Rattle.ts_domain.proofs.Sets.{contains_cons, each_contains}
use Rattle.ts_domain.proofs.Runs.{natural_is}
use Rattle.ts_domain.proofs.Ranges.{value_in_some, some_has_value}
use Rattle.ts_domain.proofs.PieceLaws.{contains_in}
use Rattle.ts_domain.proofs.CutLaws.{m, value_within, ends_small, lt_is}
use Rattle.ts_domain.proofs.Places.{in_from, small_is}
use Rattle.ts_domain.proofs.MarkReads.{medium_is}
use Rattle.ts_domain.proofs.MarkedSets.{at_contains, base_rises, plain_is}
use Rattle.ts_domain.proofs.Stretches.{first_at, stands, first_next, step_next}

abbrev bottom : ℤ
bottom = neg_ℤ (pos 1000000)

-- the least of the numbers above one at a place of a rising list stands at the next place
pub follows : (xs : List ℤ) (i : ℕ) (v w : ℤ) → IsRising xs → slice_get xs i ≡ Some v → Contains xs w → v <ℤ w →
    ((u : ℤ) → Contains xs u → v <ℤ u → w ≤ℤ u) → slice_get xs (suc i) ≡ Some w
unfolding IsRising
follows [] i v w rise at has lt least = cc
follows (x ∷ xs) zero v w rise at has lt least = let e : x ≡ v = cc in elim ((contains_cons x xs w).0 has) [
  | inl s ↦ absurd (omega (arith, ints, e, s, lt))
  | inr there ↦ first_at xs w rise.1 there (λ u in_rest. least u ((contains_cons x xs u).1 (inr in_rest))
      (over u e (each_contains (λ y. x <ℤ y) xs u rise.0 in_rest)))
]
  where
    over : (u : ℤ) → x ≡ v → x <ℤ u → v <ℤ u
    over u e lt = omega (arith, ints, e, lt)
follows (x ∷ xs) (suc i) v w rise at has lt least = elim ((contains_cons x xs w).0 has) [
  | inl s ↦ let below = each_contains (λ z. x <ℤ z) xs v rise.0 (at_contains xs i v at) in absurd (omega (arith, ints, s, lt, below))
  | inr there ↦ follows xs i v w rise.1 at there lt (λ u in_rest. least u ((contains_cons x xs u).1 (inr in_rest)))
]

-- a number at a later place is greater
pub later_is_more : (xs : List ℤ) (i : ℕ) (v : ℤ) → IsRising xs → slice_get xs i ≡ Some v → suc i < length xs →
    (w : ℤ) × Contains xs w × (v <ℤ w)
unfolding IsRising
later_is_more [] i v rise at below = absurd (omega (arith, below))
later_is_more (x ∷ []) i v rise at below = absurd (omega (arith, below))
later_is_more (x ∷ y ∷ ys) zero v rise at below = let e : x ≡ v = cc in
    (y, (contains_cons x (y ∷ ys) y).1 (inr ((contains_cons y ys y).1 (inl refl))), (let lt = rise.0.0 in omega (arith, ints, e, lt)))
later_is_more (x ∷ y ∷ ys) (suc i) v rise at below =
    let more = later_is_more (y ∷ ys) i v rise.1 at (omega (arith, below)) in
    (more.0, (contains_cons x (y ∷ ys) more.0).1 (inr more.1), more.2)

pub ranges_sooner : (f g : ℤ) (rs : List Interval) → RangesFrom f rs → g ≤ℤ f → RangesFrom g rs
unfolding RangesFrom
ranges_sooner f g [] apart le = tt
ranges_sooner f g (r ∷ rs) apart le = (omega (arith, ints, apart.0, le), apart.1, apart.2, apart.3)

-- the first range that doesn't end below one of the numbers has it, and the other numbers above it are behind
pub record Splits (rs : List Interval) (v : ℤ) (first : Interval) (rest : List Interval) : Type 0 where
  pub from : first.low ≤ℤ v
  pub to : v ≤ℤ first.high
  pub top : first.high ≤ℤ pos 1000000
  pub behind : RangesFrom (first.high +ℤ pos 2) rest
  pub here : (u : ℤ) → first.low ≤ℤ u → u ≤ℤ first.high → InSome rs u
  pub each : (u : ℤ) → InSome rest u → InSome rs u
  pub only : (u : ℤ) → InSome rs u → first.high <ℤ u → InSome rest u

pub splits : (f v : ℤ) (rs : List Interval) (first : Interval) (rest : List Interval) → RangesFrom f rs → InSome rs v →
    drop (leading_count (λ r. int_lt r.high v) rs) rs ≡ first ∷ rest → Splits rs v first rest
unfolding RangesFrom InSome leading_count
splits f v [] first rest apart has is = absurd has
splits f v (r ∷ rs) first rest apart has is = by_test (int_lt r.high v) refl (splits (r.high +ℤ pos 2) v rs first rest apart.3) is
  where
    not_in : (x v : ℤ) → int_lt x v ≡ true → v ≤ℤ x → ⊥
    not_in x v e h = grind (arith, ints)

    under : (x v : ℤ) → int_lt x v ≡ true → x <ℤ v
    under x v e = grind (arith, ints)

    reach : (x v : ℤ) → int_lt x v ≡ false → v ≤ℤ x
    reach x v e = grind (arith, ints)

    not_later : (x v : ℤ) → int_lt x v ≡ false → (x +ℤ pos 2) ≤ℤ v → ⊥
    not_later x v e h = grind (arith, ints)

    later : Splits rs v first rest → r.high <ℤ v → Splits (r ∷ rs) v first rest
    later s lt = record {
      from = s.from;
      to = s.to;
      top = s.top;
      behind = s.behind;
      here = λ u from to. inr (s.here u from to);
      each = λ u has. inr (s.each u has);
      only = λ u has over. elim has [
        | inl here ↦ let to = s.to in absurd (omega (arith, ints, here.1, over, to, lt))
        | inr there ↦ s.only u there over
      ];
    }

    at_first : v ≤ℤ r.high → r.low ≤ℤ v → Splits (r ∷ rs) v r rs
    at_first to from = record {
      from = from;
      to = to;
      top = apart.2;
      behind = apart.3;
      here = λ u from to. inl (from, to);
      each = λ u has. inr has;
      only = λ u has over. elim has [ inl here ↦ absurd (omega (arith, ints, here.1, over)) | inr there ↦ there ];
    }

    low_end : int_lt r.high v ≡ false → r.low ≤ℤ v
    low_end e = elim has [ inl here ↦ here.0 | inr there ↦ absurd (not_later r.high v e (in_from (r.high +ℤ pos 2) v rs apart.3 there)) ]

    by_test : (b : Bool) → int_lt r.high v ≡ b →
        (InSome rs v → drop (leading_count (λ r. int_lt r.high v) rs) rs ≡ first ∷ rest → Splits rs v first rest) →
        drop (cond b (suc (leading_count (λ r. int_lt r.high v) rs)) zero) (r ∷ rs) ≡ first ∷ rest → Splits (r ∷ rs) v first rest
    by_test true e rec is = elim has [
      | inl here ↦ absurd (not_in r.high v e here.1)
      | inr there ↦ later (rec there is) (under r.high v e)
    ]
    by_test false e rec is =
        let one : r ≡ first = cc in let others : rs ≡ rest = cc in
        subst (λ q. Splits (r ∷ rs) v q rest) one (subst (Splits (r ∷ rs) v r) others (at_first (reach r.high v e) (low_end e)))

least_of_two : (a b r : ℤ) → r ≡ int_min a b → (r ≤ℤ a) × (r ≤ℤ b) × ((v : ℤ) → v ≤ℤ a → v ≤ℤ b → v ≤ℤ r) × ((v : ℤ) → r <ℤ v → v ≤ℤ b → a <ℤ v)
least_of_two a b r e = (grind (arith, ints), grind (arith, ints), λ v le le'. grind (arith, ints), λ v lt le. grind (arith, ints))

-- the way from one of the numbers of a piece on
pub way_is : (rs : List Interval) (p first : Interval) (rest : List Interval) (i : ℕ) (v last : ℤ) → RangesFrom bottom rs → IsPiece (values_of rs) p →
    slice_get (values_in (values_of rs) p) i ≡ Some v → Splits rs v first rest → last ≡ int_min first.high p.high →
    AreNext (values_in (values_of rs) p) i v last × HasBehind (values_in (values_of rs) p) i v last rest p.high
way_is rs p first rest i v last apart is at split e =
    let all = values_in (values_of rs) p in
    let rising = base_rises rs p apart in
    let here = (contains_in (values_of rs) p v).0 (at_contains all i v at) in
    let within = value_within rs v apart here.0 in
    let high = value_within rs p.high apart is.2 in
    let least = least_of_two first.high p.high last e in
    let top = least.0 in let top' = least.1 in let le = least.2 v split.to here.2 in
    let from = here.1 in let to = high.1 in let low = within.0 in
    let stand = stands all i v last rising at (λ u a b. (contains_in (values_of rs) p u).1 (
      some_has_value rs u (split.here u (through first.low v u split.from a) (through u last first.high b top)),
      through p.low v u from a,
      through u last p.high b top',
    )) in
    let k = natural_is (last -ℤ v) (omega (arith, ints, le)) in (
      record {
        from = low;
        ordered = omega (arith, ints, le);
        to = omega (arith, ints, top', to);
        stand = stand;
      },
      record {
        rising = rising;
        here = (i + to_natural (last -ℤ v), omega (arith, ints, k), stand last le (omega (arith, ints)));
        apart = ranges_sooner (first.high +ℤ pos 2) (last +ℤ pos 2) rest split.behind (omega (arith, ints, top));
        limited = (high.0, high.1);
        each = λ u has le'. (contains_in (values_of rs) p u).1 (
          some_has_value rs u (split.each u has),
          behind u (in_from (first.high +ℤ pos 2) u rest split.behind has) split.to from,
          le',
        );
        only = λ u has lt. (let there = (contains_in (values_of rs) p u).0 has in
            (split.only u (value_in_some bottom rs u apart there.0) (least.3 u lt there.2), there.2));
      },
    )
  where
    through : (a b c : ℤ) → a ≤ℤ b → b ≤ℤ c → a ≤ℤ c
    through a b c h g = omega (arith, ints, h, g)

    behind : (u : ℤ) → (first.high +ℤ pos 2) ≤ℤ u → v ≤ℤ first.high → p.low ≤ℤ v → p.low ≤ℤ u
    behind u a b c = omega (arith, ints, a, b, c)

-- the next range, where no number stands before it
pub range_next : (d : List ℤ) (r : Interval) (rest : List Interval) (place : ℕ) (next last limit high : ℤ) → HasBehind d place next last (r ∷ rest) limit →
    next ≡ last +ℤ pos 1 → bottom ≤ℤ next → place < length d → high ≡ int_min r.high limit →
    AreNext d place r.low high × (r.low ≤ℤ high) × HasBehind d place r.low high rest limit
unfolding RangesFrom InSome
range_next d r rest place next last limit high b done from below e =
    let i = b.here.0 in let count = b.here.1 in
    let one : place ≡ suc i = omega (arith, ints, count, done) in
    let more = later_is_more d i last b.rising b.here.2 (omega (arith, below, one)) in
    let found = b.only more.0 more.1 more.2 in
    let least = least_of_two r.high limit high e in
    let ordered = b.apart.1 in let start = b.apart.0 in
    let first = at_least more.0 found.0 in
    let reached = found.1 in
    let le = least.2 r.low ordered (omega (arith, ints, first, reached)) in
    let has_low = b.each r.low (inl (omega (arith, ints), ordered)) (omega (arith, ints, first, reached)) in
    let at : slice_get d place ≡ Some r.low = ap (slice_get d) one ∙
    follows d i last r.low b.rising b.here.2 has_low (omega (arith, ints, start)) (λ u has lt. at_least u (b.only u has lt).0) in
    let top = least.0 in let top' = least.1 in
    let stand = stands d place r.low high b.rising at (λ u f t. b.each u (inl (f, through u high r.high t top)) (through u high limit t top')) in
    let k = natural_is (high -ℤ r.low) (omega (arith, ints, le)) in
    let end = b.apart.2 in (
      record {
        from = omega (arith, ints, from, done, start);
        ordered = omega (arith, ints, le);
        to = omega (arith, ints, top, end);
        stand = stand;
      },
      le,
      record {
        rising = b.rising;
        here = (place + to_natural (high -ℤ r.low), omega (arith, ints, k), stand high le (omega (arith, ints)));
        apart = ranges_sooner (r.high +ℤ pos 2) (high +ℤ pos 2) rest b.apart.3 (omega (arith, ints, top));
        limited = b.limited;
        each = λ u has le'. b.each u (inr has) le';
        only = λ u has lt. (let there = b.only u has (past u lt le start) in
            elim there.0 [
              | inl here ↦ absurd (beyond u (least.3 u lt there.1) here.1)
              | inr later ↦ (later, there.1)
            ]);
      },
    )
  where
    through : (a b c : ℤ) → a ≤ℤ b → b ≤ℤ c → a ≤ℤ c
    through a b c h g = omega (arith, ints, h, g)

    at_least : (u : ℤ) → ((r.low ≤ℤ u) × (u ≤ℤ r.high)) ⊎ InSome rest u → r.low ≤ℤ u
    at_least u has = in_from r.low u (r ∷ rest) (omega (arith, ints), b.apart.1, b.apart.2, b.apart.3) has

    past : (u : ℤ) → high <ℤ u → r.low ≤ℤ high → (last +ℤ pos 2) ≤ℤ r.low → last <ℤ u
    past u lt le start = omega (arith, ints, lt, le, start)

    beyond : (u : ℤ) → r.high <ℤ u → u ≤ℤ r.high → ⊥
    beyond u lt le = omega (arith, ints, lt, le)

-- one step along such numbers
pub behind_step : (d : List ℤ) (place : ℕ) (next last : ℤ) (rest : List Interval) (limit : ℤ) → HasBehind d place next last rest limit →
    HasBehind d (place + 1) (next +ℤ pos 1) last rest limit
behind_step d place next last rest limit b = record {
  rising = b.rising;
  here = (let count = b.here.1 in (b.here.0, omega (arith, ints, count), b.here.2));
  apart = b.apart;
  limited = b.limited;
  each = b.each;
  only = b.only;
}

-- the next range, in machine numbers
pub record RangeStep (d : List ℤ) (more : List Interval) (low high limit : ℤ) (place : ℕ) : Type 0 where
  pub from : bottom ≤ℤ low
  pub to : low ≤ℤ pos 1000000
  pub below : place < length d
  pub first : drop place d ≡ m low ∷ drop (place + 1) d
  pub next : AreNext d (place + 1) (m (m low +ℤ pos 1)) (m high)
  pub behind : AreBehind d (place + 1) (m (m low +ℤ pos 1)) (m high) more limit

range_made : (d : List ℤ) (r : Interval) (rest : List Interval) (place : ℕ) (next last limit high : ℤ) → HasBehind d place next last (r ∷ rest) limit →
    AreNext d place next last → int_lt (m last) (m next) ≡ true → place < length d → high ≡ int_min (m r.high) (m limit) →
    RangeStep d rest r.low high limit place
unfolding RangesFrom
range_made d r rest place next last limit high b are test below e =
    let from = are.from in let ordered = are.ordered in let to = are.to in
    let lt = lt_is (m last) (m next) last next (medium_is last (omega (arith, ints, from, ordered)) (omega (arith, ints, to)))
    (medium_is next (omega (arith, ints, from)) (omega (arith, ints, ordered, to))) test in
    let done : next ≡ last +ℤ pos 1 = omega (arith, ints, lt, ordered) in
    let low = b.apart.0 in let some = b.apart.1 in let top = b.apart.2 in
    let small = small_is r.high (omega (arith, ints, low, some, from, done)) top in
    let limit_is = small_is limit b.limited.0 b.limited.1 in
    let step = range_next d r rest place next last limit high b done from below
    (e ∙ ap (λ x. int_min x (m limit)) small ∙ ap (int_min r.high) limit_is) in
    let first = step.0 in let le = step.1 in let low_from = first.from in let high_to = first.to in
    let high_is = small_is high (omega (arith, ints, low_from, le)) high_to in
    let goes = first_next d place r.low high first le in
    let next_is : m (m r.low +ℤ pos 1) ≡ r.low +ℤ pos 1 = ap (λ x. m (x +ℤ pos 1)) (small_is r.low low_from (omega (arith, ints, le, high_to))) ∙
    medium_is (r.low +ℤ pos 1) (omega (arith, ints, low_from)) (omega (arith, ints, le, high_to)) in
    record {
      from = low_from;
      to = omega (arith, ints, le, high_to);
      below = goes.0;
      first = goes.1;
      next = subst (AreNext d (place + 1) (m (m r.low +ℤ pos 1))) (sym high_is) (step_next d place r.low high first le);
      behind = inr (subst (λ x. HasBehind d (place + 1) x (m high) rest limit) (sym next_is)
          (subst (λ x. HasBehind d (place + 1) (r.low +ℤ pos 1) x rest limit) (sym high_is) (behind_step d place r.low high rest limit step.2)));
    }

pub range_given : (d : List ℤ) (rs : List Interval) (e : Interval) (place size : ℕ) (next last limit high : ℤ) → size ≡ length d → place ≤ size →
    (place ≡ size → ⊥) → AreNext d place next last → AreBehind d place next last rs limit → 1 ≤ length rs → int_lt (m last) (m next) ≡ true →
    high ≡ int_min (m (get_or rs 0 e).high) (m limit) → RangeStep d (take (length rs - 1) (drop 1 rs)) (get_or rs 0 e).low high limit place
range_given d [] e place size next last limit high size_is order more are behind some test is = absurd (omega (arith, some))
range_given d (r ∷ rest) e place size next last limit high size_is order more are behind some test is =
    let below = under place size order more in
    subst (λ l. RangeStep d l r.low high limit place) (sym (take_rest (r ∷ rest) 1))
    (elim behind [
      | inl none ↦ cc
      | inr b ↦ range_made d r rest place next last limit high b are test (omega (arith, below, size_is)) is
    ])
  where
    under : (a b : ℕ) → a ≤ b → (a ≡ b → ⊥) → a < b
    under zero zero le not = absurd (not refl)
    under zero (suc b) le not = omega arith
    under (suc a) zero le not = absurd (omega (arith, le))
    under (suc a) (suc b) le not = (let lt = under a b (omega (arith, le)) (λ e. not (ap suc e)) in omega (arith, lt))

pub first_small : (d : List ℤ) (rs : List Interval) (e : Interval) (place : ℕ) (next last limit : ℤ) → AreNext d place next last →
    AreBehind d place next last rs limit → 1 ≤ length rs → (bottom ≤ℤ m (get_or rs 0 e).low) × (m (get_or rs 0 e).low ≤ℤ pos 1000000)
unfolding RangesFrom
first_small d [] e place next last limit are behind some = absurd (omega (arith, some))
first_small d (r ∷ rest) e place next last limit are behind some = elim behind [
  | inl none ↦ cc
  | inr b ↦ let from = are.from in let ordered = are.ordered in let low = b.apart.0 in let some = b.apart.1 in let top = b.apart.2 in
      let is = small_is r.low (omega (arith, ints, from, ordered, low)) (omega (arith, ints, some, top)) in
      (omega (arith, ints, is, from, ordered, low), omega (arith, ints, is, some, top))
]

pub no_range : (d : List ℤ) (rs : List Interval) (place : ℕ) (next last limit : ℤ) → length rs < 1 → AreBehind d place next last rs limit
no_range d [] place next last limit few = inl refl
no_range d (r ∷ rs) place next last limit few = absurd (omega (arith, few))

-- one step, with ranges or without
pub behind_next : (d : List ℤ) (place : ℕ) (next last : ℤ) (rest : List Interval) (limit : ℤ) → AreNext d place next last → next ≤ℤ last →
    AreBehind d place next last rest limit → AreBehind d (place + 1) (m (m next +ℤ pos 1)) last rest limit
behind_next d place next last rest limit are le behind =
    let from = are.from in let to = are.to in
    let is : m (m next +ℤ pos 1) ≡ next +ℤ pos 1 = ap (λ x. m (x +ℤ pos 1)) (small_is next from (omega (arith, ints, le, to))) ∙
    medium_is (next +ℤ pos 1) (omega (arith, ints, from)) (omega (arith, ints, le, to)) in
    elim behind [
      | inl none ↦ inl none
      | inr b ↦ inr (subst (λ x. HasBehind d (place + 1) x last rest limit) (sym is) (behind_step d place next last rest limit b))
    ]

-- the way from a number on, in machine numbers
way_made : (rs : List Interval) (p first : Interval) (rest : List Interval) (n i : ℕ) (v last : ℤ) → RangesFrom bottom rs → IsPiece (values_of rs) p →
    n ≡ leading_count (λ r. int_lt r.high v) rs → drop n rs ≡ first ∷ rest → last ≡ int_min (m first.high) (m p.high) →
    slice_get (values_in (values_of rs) p) i ≡ Some v →
    AreNext (values_in (values_of rs) p) i (m v) (m last) × HasBehind (values_in (values_of rs) p) i (m v) (m last) rest (m p.high)
way_made rs p first rest n i v last apart is count cut is_last at =
    let has = ((contains_in (values_of rs) p v).0 (at_contains (values_in (values_of rs) p) i v at)).0 in
    let split = splits bottom v rs first rest apart (value_in_some bottom rs v apart has) (ap (λ n. drop n rs) (sym count) ∙ cut) in
    let within = value_within rs v apart has in let to = split.to in let top = split.top in let low = within.0 in
    let high_is = (ends_small rs p apart is).1 in
    let way = way_is rs p first rest i v last apart is at split
    (is_last ∙ ap (λ x. int_min x (m p.high)) (small_is first.high (omega (arith, ints, low, to)) top) ∙ ap (int_min first.high) high_is) in
    let next = way.0 in let from = next.from in let ordered = next.ordered in let end = next.to in
    let last_is = medium_is last (omega (arith, ints, from, ordered)) (omega (arith, ints, end)) in
    let v_is = small_is v within.0 within.1 in (
      subst (λ x. AreNext (values_in (values_of rs) p) i x (m last)) (sym v_is)
          (subst (AreNext (values_in (values_of rs) p) i v) (sym last_is) next),
      subst (λ x. HasBehind (values_in (values_of rs) p) i x (m last) rest (m p.high)) (sym v_is)
          (subst (λ x. HasBehind (values_in (values_of rs) p) i v x rest (m p.high)) (sym last_is)
          (subst (HasBehind (values_in (values_of rs) p) i v last rest) (sym high_is) way.1)),
    )

way_cut : (rs part : List Interval) (p : Interval) (n i : ℕ) (e : Interval) (v last : ℤ) → RangesFrom bottom rs → IsPiece (values_of rs) p →
    n ≡ leading_count (λ r. int_lt r.high v) rs → drop n rs ≡ part → 1 ≤ length part → last ≡ int_min (m (get_or part 0 e).high) (m p.high) →
    slice_get (values_in (values_of rs) p) i ≡ Some v →
    AreNext (values_in (values_of rs) p) i (m v) (m last) ×
    HasBehind (values_in (values_of rs) p) i (m v) (m last) (take (length part - 1) (drop 1 part)) (m p.high)
way_cut rs [] p n i e v last apart is count cut some is_last at = absurd (omega (arith, some))
way_cut rs (first ∷ rest) p n i e v last apart is count cut some is_last at =
    subst (λ l. AreNext (values_in (values_of rs) p) i (m v) (m last) × HasBehind (values_in (values_of rs) p) i (m v) (m last) l (m p.high))
    (sym (take_rest (first ∷ rest) 1)) (way_made rs p first rest n i v last apart is count cut is_last at)

pub way_given : (rs : List Interval) (p : Interval) (n : ℕ) (e : Interval) (v last : ℤ) → RangesFrom bottom rs → IsPiece (values_of rs) p →
    n ≡ leading_count (λ r. int_lt r.high v) rs → 1 ≤ length (take (length rs - n) (drop n rs)) →
    last ≡ int_min (m (get_or (take (length rs - n) (drop n rs)) 0 e).high) (m p.high) → (i : ℕ) → slice_get (values_in (values_of rs) p) i ≡ Some v →
    AreNext (values_in (values_of rs) p) i (m v) (m last) ×
    HasBehind (values_in (values_of rs) p) i (m v) (m last)
    (take (length (take (length rs - n) (drop n rs)) - 1) (drop 1 (take (length rs - n) (drop n rs)))) (m p.high)
way_given rs p n e v last apart is count some is_last i at =
    way_cut rs (take (length rs - n) (drop n rs)) p n i e v last apart is count (sym (take_rest rs n)) some is_last at

pub way_of : (rs items : List Interval) (p : Interval) (ms : List Mark) (d : List ℤ) (i : ℕ) (v w : ℤ) (Is : List ℤ → ℕ → Type 0) →
    numbers (values_in (values_of rs) p) ms ≡ d → IsMarked rs p ms → ms ≡ [] → items ≡ rs → slice_get d i ≡ Some v → w ≡ v →
    ((i : ℕ) → slice_get (values_in (values_of items) p) i ≡ Some w → Is (values_in (values_of items) p) i) → Is d i
way_of rs items p ms d i v w Is view is none same at machine given =
    let all : values_in (values_of items) p ≡ d = ap (λ l. values_in (values_of l) p) same ∙ plain_is rs p ms d view is none in
    subst (λ l. Is l i) all (given i (ap (λ l. slice_get l i) all ∙ at ∙ ap (λ x. Some x) (sym machine)))

-- The place of a number of a set, by how many there are up to it.
use Rattle.std.proofs.Common.{◌≡◌, ℕ, zero, suc, ◌-◌, ◌≤◌, ℤ, pos, neg_ℤ, ◌+ℤ◌, ◌-ℤ◌, ◌≤ℤ◌}
use Rattle.std.proofs.Common.{◌<ℤ◌, inl, inr, not, true, false, cond, Some, List, [], ◌∷◌, ◌++◌, length}
use Rattle.std.proofs.Common.{get_or, sym, ap, ◌∙◌, subst, arith, slice_get, append-nil}
use Rattle.std.proofs.lemmas.Int.{ints, to_z-of_z}
use mir.Val.{SFits}
use mir.Syntax.{w64}
use Rattle.std.specs.Prelude.{filter, int_le, int_lt, Contains}
use Rattle.std.specs.Ordering.{int_eq}
use Rattle.ts_domain.specs.declared.interval.Interval.{Interval}
use Rattle.ts_domain.specs.declared.marks.Mark.{Mark}
use Rattle.ts_domain.specs.declared.marks.Node.{Node}
use Rattle.ts_domain.specs.Kept.{values_up_to, values_above, values_without}
use Rattle.ts_domain.specs.Marks.{gain, gain_of, MarksFrom, numbers}
use Rattle.ts_domain.specs.Pieces.{values_in, IsMarked}
use Rattle.ts_domain.specs.Values.{IsRising, IsRange, RangesFrom, values_between, values_of}
use Rattle.ts_domain.proofs.Sets.{contains_cons, nothing_in, each_contains, filter_none, rising_filter, le_true, le_false}
use Rattle.ts_domain.proofs.BoxLaws.{contains_up_to, contains_above, contains_without}
use Rattle.ts_domain.proofs.Runs.{in_between}
use Rattle.ts_domain.proofs.MarkLaws.{mark_map, all_before, all_behind, small_gain}
use Rattle.ts_domain.proofs.MarkReads.{Opened, Summed, summed_marks}
use Rattle.ts_domain.proofs.MarkCuts.{passing, failing}
use Rattle.ts_domain.proofs.MarkKept.{passing_rise, passing_told, numbers_passing}
use Rattle.ts_domain.proofs.MarkPlaces.{fewer, length-numbers}
use Rattle.ts_domain.proofs.MarkedSets.{base_rises, base_few, marked_domain}
use Rattle.ts_domain.proofs.Places.{small_is}
use Rattle.ts_domain.proofs.CutLaws.{m, lt_is, not_lt}
use Rattle.ts_domain.proofs.SameSets.{same_set}
use Rattle.ts_domain.proofs.Stretches.{range_domain, range_place, range_size}

abbrev bottom : ℤ
bottom = neg_ℤ (pos 1000000)

-- the marks up to a number, by a tree's topmost one
abbrev pub up_to : ℤ → List Mark → List Mark
up_to t ms = filter (λ m. int_le m.value t) ms

pub up_to_before : (t : ℤ) (xs : List Mark) (k : Mark) (ys : List Mark) → MarksFrom bottom (xs ++ k ∷ ys) → t <ℤ k.value →
    up_to t (xs ++ k ∷ ys) ≡ up_to t xs
up_to_before t xs k ys h lt = front xs ∙ append-nil (up_to t xs)
  where
    none : up_to t (k ∷ ys) ≡ []
    none = ap (up_to t) (sym (append-nil (k ∷ ys))) ∙ failing (λ m. int_le m.value t) (λ m. t <ℤ m.value) (λ m gt. le_false m.value t gt) (k ∷ ys) []
        (lt, mark_map (λ y. k.value <ℤ y.value) (λ y. t <ℤ y.value) (λ y gt. omega (arith, ints, gt, lt)) ys (all_behind bottom xs k ys h))

    front : (xs : List Mark) → up_to t (xs ++ k ∷ ys) ≡ up_to t xs ++ []
    front [] = none
    front (x ∷ xs) = elim (int_le x.value t) as (λ b. cond b (x ∷ up_to t (xs ++ k ∷ ys)) (up_to t (xs ++ k ∷ ys)) ≡ cond b (x ∷ up_to t xs) (up_to t xs) ++ [])
        [ true ↦ ap (λ l. x ∷ l) (front xs) | false ↦ front xs ]

pub up_to_behind : (t : ℤ) (xs : List Mark) (k : Mark) (ys : List Mark) → MarksFrom bottom (xs ++ k ∷ ys) → k.value ≤ℤ t →
    up_to t (xs ++ k ∷ ys) ≡ xs ++ k ∷ up_to t ys
up_to_behind t xs k ys h le =
    passing (λ m. int_le m.value t) (λ m. m.value ≤ℤ t) (λ m le. le_true m.value t le) xs (k ∷ ys)
    (mark_map (λ x. x.value <ℤ k.value) (λ x. x.value ≤ℤ t) (λ x lt. omega (arith, ints, lt, le)) xs (all_before bottom xs k ys h)) ∙
    ap (λ l. xs ++ l) (ap (λ b. cond b (k ∷ up_to t ys) (up_to t ys)) (le_true k.value t le))

pub more_before : (self : List Mark) (n d d' : Node) (t r : ℤ) → Opened self n.before n.mark n.behind → d ≡ n → d' ≡ n → SFits w64 t → SFits w64 r →
    int_lt (m t) (m d.mark.value) ≡ true → r ≡ gain (up_to (m t) d'.before) → m r ≡ gain (up_to t self)
more_before self n d d' t r o e e' fits fit test is =
    let t_is = to_z-of_z w64 t fits in
    let lt = lt_is (m t) (m d.mark.value) t n.mark.value t_is (ap (λ d. m d.mark.value) e ∙ small_is n.mark.value o.from o.to) test in
    to_z-of_z w64 r fit ∙ is ∙ ap (λ x. gain (up_to x d'.before)) t_is ∙ ap (λ d. gain (up_to t d.before)) e' ∙
    sym (ap gain (ap (up_to t) o.is ∙ up_to_before t n.before n.mark n.behind o.rising lt))

pub more_behind : (self : List Mark) (n d d₁ d₂ d₃ : Node) (t a b c : ℤ) → Opened self n.before n.mark n.behind → d ≡ n → d₁ ≡ n → d₂ ≡ n → d₃ ≡ n →
    SFits w64 t → int_lt (m t) (m d.mark.value) ≡ false → a ≡ gain d₁.before → b ≡ gain_of d₂.mark → c ≡ gain (up_to (m t) d₃.behind) →
    Summed a b c (gain (up_to t self))
more_behind self n d d₁ d₂ d₃ t a b c o e e₁ e₂ e₃ fits test ea eb ec =
    let t_is = to_z-of_z w64 t fits in
    let le = not_lt (m t) (m d.mark.value) t n.mark.value t_is (ap (λ d. m d.mark.value) e ∙ small_is n.mark.value o.from o.to) test in
    let same = up_to_behind t n.before n.mark n.behind o.rising le in
    let rising = subst (MarksFrom bottom) same (passing_rise (λ v. int_le v t) bottom (n.before ++ n.mark ∷ n.behind) o.rising) in
    subst (λ g. Summed a b c g) (sym (ap gain (ap (up_to t) o.is ∙ same)))
    (summed_marks n.before n.mark d₂.mark (up_to t n.behind) a b c rising (ap (λ d. d.mark) e₂) (ea ∙ ap (λ d. gain d.before) e₁) eb
    (ec ∙ ap (λ x. gain (up_to x d₃.behind)) t_is ∙ ap (λ d. gain (up_to t d.behind)) e₃))

-- a number stands after those below it
pub place_by_count : (xs : List ℤ) (v : ℤ) (n : ℕ) → IsRising xs → Contains xs v → suc n ≡ length (values_up_to v xs) → slice_get xs n ≡ Some v
unfolding IsRising
place_by_count [] v n rise has e = absurd (nothing_in v has)
place_by_count (x ∷ xs) v n rise has e = elim ((contains_cons x xs v).0 has) [
  | inl s ↦ here s n (e ∙ counts (le_true x v (omega (arith, ints, s))))
  | inr there ↦ let lt = each_contains (λ y. x <ℤ y) xs v rise.0 there in
      later there n (e ∙ counts (le_true x v (omega (arith, ints, lt)))) (λ k. place_by_count xs v k rise.1 there)
]
  where
    counts : int_le x v ≡ true → length (values_up_to v (x ∷ xs)) ≡ suc (length (values_up_to v xs))
    counts le = ap (λ b. length (cond b (x ∷ values_up_to v xs) (values_up_to v xs))) le

    over : (w : ℤ) → x ≡ v → x <ℤ w → v <ℤ w
    over w s lt = omega (arith, ints, s, lt)

    here : x ≡ v → (n : ℕ) → suc n ≡ suc (length (values_up_to v xs)) → slice_get (x ∷ xs) n ≡ Some v
    here s zero e = ap (λ z. Some z) s
    here s (suc n) e =
        let none = ap length (filter_none (λ w. int_le w v) xs (λ w has. le_false w v (over w s (each_contains (λ y. x <ℤ y) xs w rise.0 has)))) in
        absurd (omega (arith, e, none))

    later : Contains xs v → (n : ℕ) → suc n ≡ suc (length (values_up_to v xs)) → ((k : ℕ) → suc k ≡ length (values_up_to v xs) → slice_get xs k ≡ Some v) →
        slice_get (x ∷ xs) n ≡ Some v
    later there zero e rest = let some = ((contains_up_to v xs v).1 (there, omega (arith, ints))).1 in absurd (omega (arith, e, some))
    later there (suc n) e rest = rest n (omega (arith, e))

-- the count of a set that differs from a piece at marks, in machine numbers
pub record Counted (d : List ℤ) (v : ℤ) (n : ℕ) (g : ℤ) : Type 0 where
  pub small : n ≤ 4000000
  pub from : neg_ℤ (pos n) ≤ℤ g
  pub to : g ≤ℤ pos 4000000
  pub some : (k : ℕ) → pos k ≡ pos n +ℤ g → 1 ≤ k
  pub place : (k : ℕ) → pos k ≡ pos n +ℤ g → slice_get d (k - 1) ≡ Some v

pub counted : (rs items : List Interval) (p : Interval) (ms : List Mark) (d : List ℤ) (v : ℤ) (n : ℕ) (g : ℤ) → numbers (values_in (values_of rs) p) ms ≡ d →
    IsMarked rs p ms → items ≡ rs → SFits w64 v → SFits w64 g → Contains d v → n ≡ length (values_up_to (m v) (values_in (values_of items) p)) →
    g ≡ gain (up_to (m v) ms) → Counted d v n (m g)
counted rs items p ms d v n g view is same fits fit has en eg =
    let v_is = to_z-of_z w64 v fits in let g_is = to_z-of_z w64 g fit in
    let all = values_in (values_of rs) p in let rise = base_rises rs p is.set.apart in
    let n_is = en ∙ ap (λ l. length (values_up_to (m v) (values_in (values_of l) p))) same ∙ ap (λ x. length (values_up_to x all)) v_is in
    let more_is = eg ∙ ap (λ x. gain (up_to x ms)) v_is in
    let marks = passing_rise (λ w. int_le w v) bottom ms is.rising in
    let size = length-numbers bottom (values_up_to v all) (up_to v ms) (rising_filter (λ w. int_le w v) all rise) marks
    (passing_told (λ w. int_le w v) all ms is.told) in
    let cut = ap length (numbers_passing (λ w. int_le w v) all ms rise is.rising ∙ ap (values_up_to v) view) in
    let few = base_few rs p is.set.apart in let less = fewer (λ w. int_le w v) all in
    let small = small_gain bottom (up_to v ms) (omega (arith, ints)) marks in
    let there = ((contains_up_to v d v).1 (has, omega (arith, ints))).1 in
    record {
      small = omega (arith, n_is, few, less);
      from = omega (arith, ints, size, n_is, more_is, g_is);
      to = omega (arith, ints, small.to, more_is, g_is);
      some = λ k e. omega (arith, ints, e, size, cut, n_is, more_is, g_is, there);
      place = λ k e. at k (omega (arith, ints, e, size, cut, n_is, more_is, g_is)) (marked_domain rs p ms d view is).rising;
    }
  where
    at : (k : ℕ) → k ≡ length (values_up_to v d) → IsRising d → slice_get d (k - 1) ≡ Some v
    at zero e rise = let there = ((contains_up_to v d v).1 (has, omega (arith, ints))).1 in absurd (omega (arith, e, there))
    at (suc k) e rise = let same : suc k - 1 ≡ k = omega arith in ap (slice_get d) same ∙ place_by_count d v k rise has e

-- the place of a number of one range
pub range_has : (d : List ℤ) (r : Interval) (v : ℤ) → IsRange d r → Contains d v → (r.low ≤ℤ v) × (v ≤ℤ r.high)
range_has d r v is has = in_between r.low r.high v (past r.low r.high is.ordered) (subst (λ l. Contains l v) is.same has)
  where
    past : (a b : ℤ) → a ≤ℤ b → a ≤ℤ (b +ℤ pos 1)
    past a b le = omega (arith, ints, le)

pub place_in_range : (d : List ℤ) (r : Interval) (v : ℤ) (n : ℕ) → IsRange d r → Contains d v → pos n ≡ v -ℤ r.low → slice_get d n ≡ Some v
place_in_range d r v n is has e =
    let between = range_has d r v is has in let high = between.1 in let size = range_size d r is in
    range_place d r n is (omega (arith, ints, e, size, high)) ∙ ap (λ z. Some z) (omega (arith, ints, e))

-- without an end a range is what lies above it, or below
pub but_low : (d : List ℤ) (r : Interval) (v : ℤ) → IsRange d r → v ≡ r.low → values_above v d ≡ values_without v d
but_low d r v is e =
    let rise = (range_domain d r is).rising in
    same_set (values_above v d) (values_without v d) (rising_filter (λ w. int_lt v w) d rise) (rising_filter (λ w. not (int_eq w v)) d rise) (λ w. (
      λ h. let k = (contains_above v d w).0 h in (contains_without v d w).1 (k.0, λ same. below_itself v w k.1 same),
      λ h.
          let k = (contains_without v d w).0 h in let least = (range_has d r w is k.0).0 in
          (contains_above v d w).1 (k.0, other_above v w (omega (arith, ints, least, e)) k.1),
    ))
  where
    below_itself : (a b : ℤ) → a <ℤ b → b ≡ a → ⊥
    below_itself a b lt same = omega (arith, ints, lt, same)

    other_above : (a b : ℤ) → a ≤ℤ b → (b ≡ a → ⊥) → a <ℤ b
    other_above a b le ne = grind (arith, ints, le, ne)

pub but_high : (d : List ℤ) (r : Interval) (v : ℤ) → IsRange d r → v ≡ r.high → values_up_to (v -ℤ pos 1) d ≡ values_without v d
but_high d r v is e =
    let rise = (range_domain d r is).rising in let t = v -ℤ pos 1 in
    same_set (values_up_to t d) (values_without v d) (rising_filter (λ w. int_le w t) d rise) (rising_filter (λ w. not (int_eq w v)) d rise) (λ w. (
      λ h. let k = (contains_up_to t d w).0 h in (contains_without v d w).1 (k.0, λ same. above_itself v w k.1 same),
      λ h.
          let k = (contains_without v d w).0 h in let most = (range_has d r w is k.0).1 in
          (contains_up_to t d w).1 (k.0, other_below v w (omega (arith, ints, most, e)) k.1),
    ))
  where
    above_itself : (a b : ℤ) → b ≤ℤ (a -ℤ pos 1) → b ≡ a → ⊥
    above_itself a b le same = omega (arith, ints, le, same)

    other_below : (a b : ℤ) → b ≤ℤ a → (b ≡ a → ⊥) → b ≤ℤ (a -ℤ pos 1)
    other_below a b le ne = grind (arith, ints, le, ne)

-- one range alone
alone : (rs : List Interval) (e : Interval) → length rs ≡ 1 → RangesFrom (neg_ℤ (pos 1000000)) rs → IsRange (values_of rs) (get_or rs 0 e)
unfolding RangesFrom values_of
alone [] e one apart = absurd (omega (arith, one))
alone (r ∷ s ∷ rs) e one apart = absurd (omega (arith, one))
alone (r ∷ []) e one apart = record { same = append-nil (values_between r.low r.high); from = apart.0; ordered = apart.1; to = apart.2 }

pub single_is : (rs items : List Interval) (e : Interval) → items ≡ rs → length items ≡ 1 → RangesFrom (neg_ℤ (pos 1000000)) rs →
    IsRange (values_of rs) (get_or items 0 e)
single_is rs items e same one apart =
    subst (λ l. IsRange (values_of rs) (get_or l 0 e)) (sym same) (alone rs e (ap length (sym same) ∙ one) apart)

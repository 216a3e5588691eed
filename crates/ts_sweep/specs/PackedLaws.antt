-- The laws of what lanes stand for.
-- Lemmas, no definitions: they are here since ghost members of impls cite them.
use Rattle.std.proofs.Common.{◌≡◌, ◌⊎◌, inl, inr, ℕ, zero, suc, ◌+◌, ◌*◌, ◌<◌, ◌≤◌, ◌≤ℤ◌, ◌<ℤ◌, ℤ, pos, Bool, true, false, cond, Option, None, Some, List, [], ◌∷◌, length, get_or, refl, sym, ap, subst, ◌∙◌, arith}
use Rattle.std.specs.Int.{int_max}
use Rattle.std.proofs.lemmas.Bool.{leb-true}
use Rattle.std.proofs.lemmas.Int.{ints}
use Rattle.std.proofs.lemmas.List.{length-replicate}
use Rattle.ts_base.proofs.Order.{le_trans, min_left, max_left as ts_max_left}
use Rattle.ts_base.specs.Numbers.{ext_le, ext_max, ext_min}
use Rattle.ts_base.specs.declared.ext.Ext.{Ext}
use Rattle.ts_base.specs.declared.ext.Ext.TheVariants.{NegInf, Int, PosInf}
use Rattle.ts_base.specs.declared.span.Span.{Span}
use Rattle.ts_base.specs.Spans.{has_some, none_span, one_span, span_hull}
use Rattle.ts_hull.specs.Hulls.{none as none_hull, hull_of_both}
use Rattle.ts_hull.proofs.HullLaws.{same_hull}
use Rattle.ts_sweep.specs.declared.packed.Name.{Name}
use Rattle.ts_sweep.specs.declared.packed.Name.TheVariants.{C, E, D, F, R}
use Rattle.ts_sweep.specs.Lanes.{least, no_lanes, greater_of, AreLanes}
use Rattle.ts_sweep.specs.LaneLaws.{lanes_neutral, lanes_commutative, lanes_idempotent}
use Rattle.ts_sweep.specs.UpperLaws.{upper_max, lower_max}
use Rattle.ts_sweep.specs.Packed.{upper, negated, span_of, ends, ends_span, ends_at, register_span, is_wide, place_in, place, span_in_lanes, name_span, hull_by, unpacked, IsPlace, AreSome, IsPacked, IsUnder, max_ends}

-- two lanes in which a register lies, or there is nothing in both
abbrev pub IsPair : ℤ → ℤ → Type 0
IsPair x y = ((least <ℤ x) × (has_some (span_of x y) ≡ true)) ⊎ ((x ≡ least) × (y ≡ least))

abbrev pub span_with : Ext → Ext → Span
span_with lo hi = record { lo = lo; hi = hi }

max_bottom : (a : Ext) → ext_max a NegInf ≡ a
max_bottom NegInf = refl
max_bottom (Int x) = refl
max_bottom PosInf = refl

min_top : (a : Ext) → ext_min PosInf a ≡ a
min_top NegInf = refl
min_top (Int x) = refl
min_top PosInf = refl

top_min : (a : Ext) → ext_min a PosInf ≡ a
top_min NegInf = refl
top_min (Int x) = refl
top_min PosInf = refl

-- the hull of spans that are none or hold a number, by their ends
hull_ends : (s t : Span) → (has_some s ≡ true) ⊎ (s ≡ none_span) → (has_some t ≡ true) ⊎ (t ≡ none_span) →
    span_with (ext_min s.lo t.lo) (ext_max s.hi t.hi) ≡ span_hull s t
hull_ends s t (inl p) (inl q) =
    let ends = span_with (ext_min s.lo t.lo) (ext_max s.hi t.hi) in
    sym (ap (λ b. cond b (cond (has_some t) ends s) (cond (has_some t) t none_span)) p ∙ ap (λ b. cond b ends s) q)
hull_ends s t (inl p) (inr q) =
    subst (λ u. span_with (ext_min s.lo u.lo) (ext_max s.hi u.hi) ≡ span_hull s u) (sym q)
    (ap (λ e. span_with e (ext_max s.hi NegInf)) (top_min s.lo) ∙ ap (span_with s.lo) (max_bottom s.hi)
    ∙ sym (ap (λ b. cond b s none_span) p))
hull_ends s t (inr p) (inl q) =
    subst (λ u. span_with (ext_min u.lo t.lo) (ext_max u.hi t.hi) ≡ span_hull u t) (sym p)
    (ap (λ e. span_with e t.hi) (min_top t.lo) ∙ sym (ap (λ b. cond b t none_span) q))
hull_ends s t (inr p) (inr q) =
    subst (λ u. span_with (ext_min u.lo t.lo) (ext_max u.hi t.hi) ≡ span_hull u t) (sym p)
    (subst (λ u. span_with (ext_min none_span.lo u.lo) (ext_max none_span.hi u.hi) ≡ span_hull none_span u)
    (sym q) refl)

none_pair : (x y : ℤ) → x ≡ least → y ≡ least → span_of x y ≡ none_span
none_pair x y p q = ap (λ z. span_of z y) p ∙ ap (span_of least) q

span_is : (x y : ℤ) → IsPair x y → (has_some (span_of x y) ≡ true) ⊎ (span_of x y ≡ none_span)
span_is x y (inl p) = inl p.1
span_is x y (inr p) = inr (none_pair x y p.0 p.1)

span_max : (x y z w : ℤ) → IsPair x y → IsPair z w → span_of (int_max x z) (int_max y w)
    ≡ span_hull (span_of x y) (span_of z w)
span_max x y z w p q =
    ap (λ a. span_with a (upper (int_max y w))) (lower_max x z)
    ∙ ap (span_with (ext_min (negated (upper x)) (negated (upper z)))) (upper_max y w)
    ∙ hull_ends (span_of x y) (span_of z w) (span_is x y p) (span_is z w q)

max_same : (x : ℤ) → int_max x x ≡ x
max_same x = grind (arith, ints)

greater_left : (x y : ℤ) → least <ℤ x → least <ℤ int_max x y
greater_left x y h = grind (arith, ints)

holds_some : (a b : Ext) → ext_le a b ≡ true → (c d : Ext) → ext_le (ext_min a c) (ext_max b d) ≡ true
holds_some a b h c d =
    le_trans (ext_min a c) a (ext_max b d) (min_left a c) (le_trans a b (ext_max b d) h (ts_max_left b d))

-- places

get_greater : (xs ys : List ℤ) (k : ℕ) → k < length xs → k < length ys →
    get_or (greater_of xs ys) k (pos 0) ≡ int_max (get_or xs k (pos 0)) (get_or ys k (pos 0))
unfolding greater_of
get_greater [] ys k p q = absurd (omega (arith, p))
get_greater (x ∷ xs) [] k p q = absurd (omega (arith, q))
get_greater (x ∷ xs) (y ∷ ys) zero p q = refl
get_greater (x ∷ xs) (y ∷ ys) (suc k) p q = get_greater xs ys k (omega (arith, p)) (omega (arith, q))

pub length_greater : (xs ys : List ℤ) → length xs ≡ length ys → length (greater_of xs ys) ≡ length xs
unfolding greater_of
length_greater [] ys e = refl
length_greater (x ∷ xs) [] e = sym e
length_greater (x ∷ xs) (y ∷ ys) e = let f : length xs ≡ length ys = omega (arith, e) in ap suc (length_greater xs ys f)

get_none : (n k : ℕ) → k < n → get_or (no_lanes n) k (pos 0) ≡ least
get_none zero k lt = absurd (omega (arith, lt))
get_none (suc n) zero lt = refl
get_none (suc n) (suc k) lt = get_none n k (omega (arith, lt))

least_is : (x : ℤ) → least <ℤ x → least ≤ℤ x
least_is x h = grind (arith, ints)

pub some_lanes_are : (n : ℕ) (xs : List ℤ) → AreSome n xs → AreLanes n xs
some_lanes_are n xs h = (
  h.len,
  λ k lt. (let inside : k < n = let e = h.len in omega (arith, lt, e) in least_is
      (get_or xs k (pos 0)) (h.above k inside)),
)

pub same_ends : (a b c d : ℤ) → a ≡ b → c ≡ d → ends a c ≡ ends b d
same_ends a b c d p q = ap (λ u. ends u c) p ∙ ap (ends b) q

pub greater_ends : (n : ℕ) (xs ys : List ℤ) (r : ℕ) → length xs ≡ n → length ys ≡ n → 2 * r + 1 < n →
    ends_at (greater_of xs ys) r ≡ max_ends (ends_at xs r) (ends_at ys r)
greater_ends n xs ys r p q lt =
    same_ends _ _ _ _ (get_greater xs ys (2 * r) (omega (arith, p, lt)) (omega (arith, q, lt)))
    (get_greater xs ys (2 * r + 1) (omega (arith, p, lt)) (omega (arith, q, lt)))

-- a register of lanes in which registers lie
pair_at : (n : ℕ) (xs : List ℤ) (r : ℕ) → AreSome n xs → 2 * r + 1 < n →
    IsPair (get_or xs (2 * r) (pos 0)) (get_or xs (2 * r + 1) (pos 0))
pair_at n xs r h lt = inl (h.above (2 * r) (omega (arith, lt)), h.some r lt)

register_greater : (n : ℕ) (xs ys : List ℤ) (r : ℕ) → AreSome n xs → AreSome n ys → 2 * r + 1 < n →
    register_span (greater_of xs ys) r ≡ span_hull (register_span xs r) (register_span ys r)
register_greater n xs ys r p q lt =
    ap ends_span (greater_ends n xs ys r p.len q.len lt) ∙ span_max _ _ _ _ (pair_at n xs r p lt) (pair_at n ys r q lt)

some_pair : (x y z w : ℤ) → IsPair x y → IsPair z w → has_some (span_of x y) ≡ true →
    has_some (span_of (int_max x z) (int_max y w)) ≡ true
some_pair x y z w p q h =
    ap has_some (span_max x y z w p q)
    ∙ sym (ap has_some (hull_ends (span_of x y) (span_of z w) (inl h) (span_is z w q)))
    ∙ holds_some (negated (upper x)) (upper y) h (negated (upper z)) (upper w)

pub some_greater : (n : ℕ) (xs ys : List ℤ) → AreSome n xs → AreSome n ys → AreSome n (greater_of xs ys)
some_greater n xs ys p q =
    let a = p.len in let b = q.len in
    record {
      len = length_greater xs ys (a ∙ sym b) ∙ a;
      above = λ k lt. subst (λ z. least <ℤ z) (sym (get_greater xs ys k (omega (arith, a, lt)) (omega (arith, b, lt))))
          (greater_left (get_or xs k (pos 0)) (get_or ys k (pos 0)) (p.above k lt));
      some = λ r lt. ap has_some (ap ends_span (greater_ends n xs ys r a b lt))
          ∙ some_pair _ _ _ _ (pair_at n xs r p lt) (pair_at n ys r q lt) (p.some r lt);
    }

pub none_register : (n r : ℕ) → 2 * r + 1 < n → register_span (no_lanes n) r ≡ none_span
none_register n r lt =
    none_pair _ _ (get_none n (2 * r) (omega (arith, lt))) (get_none n (2 * r + 1) (omega (arith, lt)))

-- a register by its place

wide_place : (n : ℕ) (k : Name) → 10 ≤ n → IsPlace n (place_in true k)
wide_place n C big = omega (arith, big)
wide_place n E big = omega (arith, big)
wide_place n D big = omega (arith, big)
wide_place n F big = omega (arith, big)
wide_place n R big = omega (arith, big)

narrow_place : (n : ℕ) (k : Name) → 6 ≤ n → IsPlace n (place_in false k)
narrow_place n C big = omega (arith, big)
narrow_place n E big = omega (arith, big)
narrow_place n D big = omega (arith, big)
narrow_place n F big = omega (arith, big)
narrow_place n R big = omega (arith, big)

pub placed : (n : ℕ) (k : Name) → 6 ≤ n → IsPlace n (place n k)
placed n k big = go (is_wide n) refl
  where
    go : (b : Bool) → is_wide n ≡ b → IsPlace n (place_in b k)
    go true e = wide_place n k (leb-true 10 n e)
    go false e = narrow_place n k big

pub placed_by : (n : ℕ) (xs : List ℤ) (k : Name) → 6 ≤ n → length xs ≡ n → IsPlace n (place (length xs) k)
placed_by n xs k big e = subst (λ m. IsPlace n (place m k)) (sym e) (placed n k big)

-- 0 where registers lie in lanes
abbrev at_rest : Bool → Span
at_rest some = cond some (one_span (Int (pos 0))) none_span

pub rests_at : (n : ℕ) (xs : List ℤ) → 2 * 0 + 1 < n → AreSome n xs → span_in_lanes xs None ≡ one_span (Int (pos 0))
rests_at n xs lt h = ap at_rest (h.some 0 lt)

some_at : (n : ℕ) (xs : List ℤ) (o : Option ℕ) → IsPlace n o → AreSome n xs → has_some (span_in_lanes xs o) ≡ true
some_at n xs None lt h = ap has_some (rests_at n xs lt h)
some_at n xs (Some p) lt h = h.some p lt

none_at : (n : ℕ) (o : Option ℕ) → IsPlace n o → span_in_lanes (no_lanes n) o ≡ none_span
none_at n None lt = ap (λ s. at_rest (has_some s)) (none_register n 0 lt)
none_at n (Some p) lt = none_register n p lt

joined_at : (n : ℕ) (xs ys : List ℤ) (o : Option ℕ) → AreSome n xs → AreSome n ys → IsPlace n o →
    span_in_lanes (greater_of xs ys) o ≡ span_hull (span_in_lanes xs o) (span_in_lanes ys o)
joined_at n xs ys None p q lt =
    ap at_rest ((some_greater n xs ys p q).some 0 lt)
    ∙ sym (ap (λ b. span_hull (at_rest b) (span_in_lanes ys None)) (p.some 0 lt)
    ∙ ap (λ b. span_hull (at_rest true) (at_rest b)) (q.some 0 lt))
joined_at n xs ys (Some r) p q lt = register_greater n xs ys r p q lt

-- a register by its name

pub name_some : (n : ℕ) (xs : List ℤ) (k : Name) → 6 ≤ n → AreSome n xs → has_some (name_span xs k) ≡ true
name_some n xs k big h = some_at n xs (place (length xs) k) (placed_by n xs k big h.len) h

name_none : (n : ℕ) (k : Name) → 6 ≤ n → name_span (no_lanes n) k ≡ none_span
name_none n k big =
    none_at n (place (length (no_lanes n)) k) (placed_by n (no_lanes n) k big (length-replicate n least))

name_joined : (n : ℕ) (xs ys : List ℤ) (k : Name) → 6 ≤ n → AreSome n xs → AreSome n ys →
    name_span (greater_of xs ys) k ≡ span_hull (name_span xs k) (name_span ys k)
name_joined n xs ys k big p q =
    ap (λ m. span_in_lanes (greater_of xs ys) (place m k)) (some_greater n xs ys p q).len
    ∙ joined_at n xs ys (place n k) p q (placed n k big)
    ∙ sym (ap (λ m. span_hull (span_in_lanes xs (place m k)) (name_span ys k)) p.len
    ∙ ap (λ m. span_hull (span_in_lanes xs (place n k)) (span_in_lanes ys (place m k))) q.len)

-- what holds of each register holds of the hull
pub same_by : (g h : Name → Span) → ((k : Name) → g k ≡ h k) → hull_by g ≡ hull_by h
same_by g h e = same_hull (e C) (e E) (e D) (e F) (e R)

pub none_unpacked : (n : ℕ) → 6 ≤ n → unpacked (no_lanes n) ≡ none_hull
unfolding unpacked
none_unpacked n big = same_by (name_span (no_lanes n)) (λ k. none_span) (λ k. name_none n k big)

-- the hull of a span that holds something, and of none
hull_none : (s : Span) → has_some s ≡ true → span_hull s none_span ≡ s
hull_none s h = ap (λ b. cond b s none_span) h

none_hull_of : (s : Span) → has_some s ≡ true → span_hull none_span s ≡ s
none_hull_of s h = ap (λ b. cond b s none_span) h

hulls_none : (n : ℕ) (xs : List ℤ) → 6 ≤ n → AreSome n xs → hull_of_both (unpacked xs) none_hull ≡ unpacked xs
unfolding hull_of_both unpacked
hulls_none n xs big h =
    same_by (λ k. span_hull (name_span xs k) none_span) (name_span xs)
    (λ k. hull_none (name_span xs k) (name_some n xs k big h))

none_hulls : (n : ℕ) (xs : List ℤ) → 6 ≤ n → AreSome n xs → hull_of_both none_hull (unpacked xs) ≡ unpacked xs
unfolding hull_of_both unpacked
none_hulls n xs big h =
    same_by (λ k. span_hull none_span (name_span xs k)) (name_span xs)
    (λ k. none_hull_of (name_span xs k) (name_some n xs k big h))

none_both : hull_of_both none_hull none_hull ≡ none_hull
unfolding hull_of_both
none_both = refl

pub packed_takes_none : (n : ℕ) (xs : List ℤ) → 6 ≤ n → IsPacked n xs → hull_of_both (unpacked xs) none_hull
    ≡ unpacked xs
packed_takes_none n xs big (inl e) =
    subst (λ zs. hull_of_both (unpacked zs) none_hull ≡ unpacked zs) (sym e)
    (ap (λ h. hull_of_both h none_hull) (none_unpacked n big) ∙ none_both ∙ sym (none_unpacked n big))
packed_takes_none n xs big (inr h) = hulls_none n xs big h

pub joined_packed : (n : ℕ) (xs ys : List ℤ) → IsPacked n xs → IsPacked n ys → IsPacked n (greater_of xs ys)
joined_packed n xs ys (inl e) (inl f) =
    inl (ap (λ zs. greater_of zs ys) e ∙ ap (greater_of (no_lanes n)) f ∙ lanes_idempotent (no_lanes n))
joined_packed n xs ys (inl e) (inr q) =
    inr (subst (λ zs. AreSome n zs) (sym (ap (λ zs. greater_of zs ys) e ∙ lanes_neutral n ys (some_lanes_are n ys q)))
    q)
joined_packed n xs ys (inr p) (inl f) =
    inr (subst (λ zs. AreSome n zs) (sym (lanes_commutative xs ys ∙ ap (λ zs. greater_of zs xs) f
    ∙ lanes_neutral n xs (some_lanes_are n xs p))) p)
joined_packed n xs ys (inr p) (inr q) = inr (some_greater n xs ys p q)

-- nothing joined to packed lanes changes nothing
pub packed_lanes : (n : ℕ) (xs : List ℤ) → IsPacked n xs → greater_of xs (no_lanes n) ≡ xs
packed_lanes n xs (inl e) = ap (λ zs. greater_of zs (no_lanes n)) e ∙ lanes_idempotent (no_lanes n) ∙ sym e
packed_lanes n xs (inr h) = lanes_commutative xs (no_lanes n) ∙ lanes_neutral n xs (some_lanes_are n xs h)

pub packed_length : (n : ℕ) (xs : List ℤ) → IsPacked n xs → length xs ≡ n
packed_length n xs (inl e) = ap length e ∙ length-replicate n least
packed_length n xs (inr h) = h.len

-- the join stands for the hull of both
both_joined : (n : ℕ) (xs ys : List ℤ) → 6 ≤ n → AreSome n xs → AreSome n ys →
    unpacked (greater_of xs ys) ≡ hull_of_both (unpacked xs) (unpacked ys)
unfolding hull_of_both unpacked
both_joined n xs ys big p q =
    same_by (name_span (greater_of xs ys)) (λ k. span_hull (name_span xs k) (name_span ys k))
    (λ k. name_joined n xs ys k big p q)

pub joined_is : (n : ℕ) (xs ys : List ℤ) → 6 ≤ n → IsPacked n xs → IsPacked n ys →
    unpacked (greater_of xs ys) ≡ hull_of_both (unpacked xs) (unpacked ys)
joined_is n xs ys big (inl e) (inl f) =
    ap (λ zs. unpacked (greater_of zs ys)) e ∙ ap (λ zs. unpacked (greater_of (no_lanes n) zs)) f
    ∙ ap unpacked (lanes_idempotent (no_lanes n))
    ∙ none_unpacked n big ∙ sym none_both ∙ sym (ap (λ h. hull_of_both h none_hull) (ap unpacked e
    ∙ none_unpacked n big))
    ∙ sym (ap (hull_of_both (unpacked xs)) (ap unpacked f ∙ none_unpacked n big))
joined_is n xs ys big (inl e) (inr q) =
    ap (λ zs. unpacked (greater_of zs ys)) e ∙ ap unpacked (lanes_neutral n ys (some_lanes_are n ys q))
    ∙ sym (none_hulls n ys big q) ∙ sym (ap (λ h. hull_of_both h (unpacked ys)) (ap unpacked e ∙ none_unpacked n big))
joined_is n xs ys big (inr p) (inl f) =
    ap unpacked (lanes_commutative xs ys ∙ ap (λ zs. greater_of zs xs) f ∙ lanes_neutral n xs (some_lanes_are n xs p))
    ∙ sym (hulls_none n xs big p) ∙ sym (ap (hull_of_both (unpacked xs)) (ap unpacked f ∙ none_unpacked n big))
joined_is n xs ys big (inr p) (inr q) = both_joined n xs ys big p q

-- lanes that change nothing where they are joined to a cover are under it

pub beyond : (xs : List ℤ) (k : ℕ) → length xs ≤ k → get_or xs k (pos 0) ≡ pos 0
beyond [] k h = refl
beyond (x ∷ xs) zero h = absurd (omega (arith, h))
beyond (x ∷ xs) (suc k) h = beyond xs k (omega (arith, h))

inside_or : (k n : ℕ) → (k < n) ⊎ (n ≤ k)
inside_or k n = grind arith

max_at_most : (x y : ℤ) → int_max x y ≡ x → y ≤ℤ x
max_at_most x y h = grind (arith, ints)

same_at_most : (x y : ℤ) → y ≡ x → y ≤ℤ x
same_at_most x y h = omega (arith, ints, h)

pub covered_is_under : (n : ℕ) (cover xs : List ℤ) → length cover ≡ n → length xs ≡ n → greater_of cover xs ≡ cover →
    IsUnder xs cover
covered_is_under n cover xs p q e k = elim (inside_or k n) [
  | inl lt ↦ max_at_most (get_or cover k (pos 0)) (get_or xs k (pos 0))
      (sym (get_greater cover xs k (omega (arith, p, lt)) (omega (arith, q, lt))) ∙ ap (λ zs. get_or zs k (pos 0)) e)
  | inr le ↦ same_at_most (get_or cover k (pos 0)) (get_or xs k (pos 0))
      (beyond xs k (omega (arith, q, le)) ∙ sym (beyond cover k (omega (arith, p, le))))
]

-- Boxes by their form: one series, or two sides of which the lower comes first.
use Rattle.std.proofs.Common.{◌≡◌, ◌⊎◌, ℕ, zero, suc, ◌-◌, ◌/◌, ◌<◌, ◌≤◌, ℤ, pos, ◌<ℤ◌, List, [], ◌∷◌, ◌++◌, length, get_or, take, refl, sym, ap, subst, inl, inr, ⊎_elim, arith}
use Rattle.std.proofs.lemmas.Int.{ints}
use Rattle.std.specs.Prelude.{Contains}
use Rattle.std.specs.List.{AllByRecursion}
use Rattle.ts_domain.specs.BoxSeries.{InBox, IsBefore, IsBox}
use Rattle.ts_domain.specs.Kept.{values_up_to, values_above}
use Rattle.ts_domain.specs.Values.{IsRising}
use Rattle.ts_domain.proofs.BoxLaws.{contains_up_to, contains_above, some_stay}
use Rattle.ts_domain.proofs.Sets.{contains_cons}
use Rattle.ts_certificate.specs.declared.certificate.TreeLine.{TreeLine}
use Rattle.ts_certificate.specs.declared.certificate.TreeLine.TheVariants.{Split, Remove, No, Worse, Yes, Unsearched}
use Rattle.ts_model.specs.ModelParts.{ModelParts}
use Rattle.ts_filter.specs.Boxes.{Box, HasCell, values_at, low_side, high_side, box_of, IsPart, InSome}
use Rattle.ts_filter.specs.RefutedWorseDrop.{Spans, IsDrop}
use Rattle.ts_filter.specs.Rules.{Head, IsSplit, KeepsRule}
use Rattle.ts_filter.specs.Steps.{made_by}
use Rattle.ts_filter.proofs.BoxParts.{from_low, from_high, from_without, lower_first, only_series}
use Rattle.ts_frontier.specs.Forms.{Form, Alone, Wide, after_value, form}
use Rattle.ts_frontier.specs.Halve.{IsSingle, middle_of}

abbrev pub AreParts : Box → List Box → Type 0
AreParts m w = AllByRecursion (λ b. IsPart b m) w

-- the form of a box

abbrev FormFits : Box → Form → Type 0
FormFits b (Alone x) = b ≡ box_of x
FormFits b (Wide k t) =
    IsSplit k t b × IsSingle (take (k - 1) b)

contains_at : (z : ℤ) (d : List ℤ) (i : ℕ) → i < length d → Contains d (get_or d i z)
contains_at z [] i l = absurd (omega (arith, l))
contains_at z (u ∷ d) zero l = (contains_cons u d u).1 (inl refl)
contains_at z (u ∷ d) (suc i) l = (contains_cons u d (get_or d i z)).1 (inr (contains_at z d i (omega (arith, l))))

above_at : (v z : ℤ) (d : List ℤ) (j : ℕ) → AllByRecursion (λ y. v <ℤ y) d → j < length d → v <ℤ get_or d j z
above_at v z [] j h l = absurd (omega (arith, l))
above_at v z (u ∷ d) zero h l = h.0
above_at v z (u ∷ d) (suc j) h l = above_at v z d j h.1 (omega (arith, l))

rising_at : (z : ℤ) (d : List ℤ) (i : ℕ) → IsRising d → suc i < length d → get_or d i z <ℤ get_or d (suc i) z
unfolding IsRising
rising_at z [] i h l = absurd (omega (arith, l))
rising_at z (u ∷ d) zero h l = above_at u z d zero h.0 (omega (arith, l))
rising_at z (u ∷ d) (suc i) h l = rising_at z d i h.1 (omega (arith, l))

wide_here : (v u : ℤ) (d : List ℤ) (b : Box) → IsRising (v ∷ u ∷ d) → FormFits ((v ∷ u ∷ d) ∷ b) (Wide 1 (middle_of (v ∷ u ∷ d)))
wide_here v u d b r =
    let all = v ∷ u ∷ d in
    let i = (length all - 1) / 2 in
    let t = middle_of all in
    let next = get_or all (suc i) (pos 0) in
    let near : suc i < suc (suc (length d)) = omega arith in
    let below = (contains_up_to t all t).1 (contains_at (pos 0) all i (omega (arith, near)), omega (arith, ints)) in
    let above = (contains_above t all next).1 (contains_at (pos 0) all (suc i) near, rising_at (pos 0) all i r near) in (
      record {
        cell = ((omega arith), (omega arith));
        below = some_stay (values_up_to t all) t below;
        above = some_stay (values_above t all) next above;
      },
      tt,
    )

wide_later : (v : ℤ) (b : Box) (g : Form) → FormFits b g → FormFits ((v ∷ []) ∷ b) (after_value v g)
wide_later v b (Alone x) h = ap (λ z. (v ∷ []) ∷ z) h
wide_later v b (Wide zero t) h = absurd (omega (arith, h.0.cell.0))
wide_later v b (Wide (suc k) t) h =
    let e : suc k - 1 ≡ k = omega arith in
    let f : suc (suc k) - 1 ≡ suc k = omega arith in
    let all = (v ∷ []) ∷ b in (
      record {
        cell = ((omega arith), (omega (arith, h.0.cell.1)));
        below = subst (λ i. values_up_to t (get_or all i []) ≡ [] → ⊥) (sym f) (subst (λ i. values_up_to t (get_or b i []) ≡ [] → ⊥) e h.0.below);
        above = subst (λ i. values_above t (get_or all i []) ≡ [] → ⊥) (sym f) (subst (λ i. values_above t (get_or b i []) ≡ [] → ⊥) e h.0.above);
      },
      subst (λ i. IsSingle (take i all)) (sym f) (refl, subst (λ i. IsSingle (take i b)) e h.1),
    )

form_fits : (b : Box) → IsBox b → FormFits b (form b)
form_fits [] h = refl
form_fits ([] ∷ b) h = absurd (h.0.some refl)
form_fits ((v ∷ []) ∷ b) h = wide_later v b (form b) (form_fits b h.1)
form_fits ((v ∷ u ∷ d) ∷ b) h = wide_here v u d b h.0.rising

pub alone_is : (m b : Box) (x : List ℤ) → IsPart b m → form b ≡ Alone x → b ≡ box_of x
alone_is m b x i e = subst (λ g. FormFits b g) e (form_fits b i.box)

pub in_box_of : (x : List ℤ) → InBox x (box_of x)
in_box_of [] = tt
in_box_of (v ∷ x) = ((contains_cons v [] v).1 (inl refl), in_box_of x)

pub single : (m b : Box) (x y : List ℤ) → IsPart b m → form b ≡ Alone x → InBox y b → y ≡ x
single m b x y i e a = only_series x y (subst (λ z. InBox y z) (alone_is m b x i e) a)

pub alone_within : (m b : Box) (x : List ℤ) → IsPart b m → form b ≡ Alone x → InBox x b
alone_within m b x i e = subst (λ z. InBox x z) (sym (alone_is m b x i e)) (in_box_of x)

pub wide_split : (m b : Box) (k : ℕ) (t : ℤ) → IsPart b m → form b ≡ Wide k t → IsSplit k t b
wide_split m b k t i e = (subst (λ g. FormFits b g) e (form_fits b i.box)).0

pub wide_order : (m b : Box) (k : ℕ) (t : ℤ) → IsPart b m → form b ≡ Wide k t → (x y : List ℤ) → InBox x (low_side k t b) →
    InBox y (high_side k t b) → IsBefore x y
wide_order m b k t i e x y p q =
    let f = subst (λ g. FormFits b g) e (form_fits b i.box) in lower_first k t b x y f.0.cell f.1 p q

one_value : (x : List ℤ) (i : ℕ) → length (get_or (box_of x) i []) ≤ 1
one_value [] i = omega arith
one_value (v ∷ x) zero = omega arith
one_value (v ∷ x) (suc i) = one_value x i

-- a box of one series has no drop
pub drop_not_alone : (m : ModelParts) (s : Spans) (k : ℕ) (v : ℤ) (j : ℕ) (b : Box) (x : List ℤ) → IsPart b m.cells →
    IsDrop m.requirements s k v j b → form b ≡ Alone x → ⊥
drop_not_alone m s k v j b x i d e =
    let many = subst (λ z. 2 ≤ length (values_at k z)) (alone_is m.cells b x i e) d.many in
    omega (arith, many, one_value x (k - 1))

-- the boxes that wait

-- each box's series come before all series of the boxes after it
abbrev pub InOrder : List Box → Type 0
InOrder [] = Unit {0}
InOrder (b ∷ w) = ((x y : List ℤ) → InBox x b → InSome w y → IsBefore x y) × InOrder w

pub in_made : (m : ModelParts) (s : Spans) (h : Head) (told : ℕ) (l : TreeLine) (b : Box) (u : List Box) (y : List ℤ) → KeepsRule m s h told b l →
    InSome (made_by l b ++ u) y → InSome (b ∷ u) y
in_made m s h told (Split k t) b u y r i = ⊎_elim (λ a. inl (from_low k t b y r.cell a).0)
    (λ q. ⊎_elim (λ a. inl (from_high k t b y r.cell a).0) (λ a. inr a) q) i
in_made m s h told (Remove k v j) b u y r i = ⊎_elim (λ a. inl (from_without k v b y r.cell a).0) (λ a. inr a) i
in_made m s h told (No j p) b u y r i = inr i
in_made m s h told (Worse p) b u y r i = inr i
in_made m s h told Yes b u y r i = inr i
in_made m s h told Unsearched b u y r i = inr i

pub ordered_split : (k : ℕ) (t : ℤ) (b : Box) (u : List Box) → HasCell k b →
    ((x y : List ℤ) → InBox x (low_side k t b) → InBox y (high_side k t b) → IsBefore x y) →
    InOrder (b ∷ u) → InOrder (low_side k t b ∷ high_side k t b ∷ u)
ordered_split k t b u c h o = (
  (λ x y p q. ⊎_elim (λ a. h x y p a) (λ a. o.0 x y (from_low k t b x c p).0 a) q),
  ((λ x y p q. o.0 x y (from_high k t b x c p).0 q), o.1),
)

pub in_parts : (v w : List Box) (y : List ℤ) → InSome v y ⊎ InSome w y → InSome (v ++ w) y
in_parts [] w y i = ⊎_elim (λ a. absurd a) (λ a. a) i
in_parts (d ∷ v) w y i = ⊎_elim (λ a. ⊎_elim (λ z. inl z) (λ z. inr (in_parts v w y (inl z))) a) (λ a. inr (in_parts v w y (inr a))) i

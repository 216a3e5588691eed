-- The first cell with two or more values, the values of a box of one series, and the form of a box.
use Rattle.std.proofs.Common.{◌≡◌, ℕ, zero, suc, ◌+◌, ◌-◌, ◌<◌, ◌≤◌, ℤ, List, [], ◌∷◌, ◌++◌, length, get_or, take, map, Option, Some, None, MatchOption, refl, sym, ap, ◌∙◌, subst, arith}
use Rattle.std.proofs.lemmas.List.{map-append, take_all, take_more}
use Rattle.ts_domain.specs.Values.{least_of}
use Rattle.ts_domain.specs.BoxSeries.{IsBox}
use Rattle.ts_filter.specs.Boxes.{Box, box_of}
use Rattle.ts_frontier.specs.declared.halve.Halving.{Halving}
use Rattle.ts_frontier.specs.Forms.{Form, Alone, Wide, after_value, form}
use Rattle.ts_frontier.specs.Halve.{IsSingle, IsHalving, middle_of}
use Rattle.ts_frontier.specs.Laws.{FormsTell}

-- cell i + 1 stands at place i
place : (i : ℕ) → i + 1 - 1 ≡ i
place i = omega arith

-- the cells so far, and one more
single_more : (b : Box) (d : List ℤ) → IsSingle b → length d ≡ 1 → IsSingle (b ++ d ∷ [])
single_more [] d h one = (one, tt)
single_more (c ∷ b) d h one = (h.0, single_more b d h.1 one)

pub halving_next : (b : Box) (i n : ℕ) (d : List ℤ) → i < n → n ≡ length b → d ≡ get_or b (i + 1 - 1) [] → length d ≡ 1 → IsSingle (take i b) →
    IsSingle (take (i + 1) b)
halving_next b i n d below count is one h =
    let same = is ∙ ap (λ j. get_or b j []) (place i) in
    subst (λ z. IsSingle z) (sym (take_more b i [] (omega (arith, below, count))))
    (single_more (take i b) (get_or b i []) h (subst (λ z. length z ≡ 1) same one))

two_values : (d : List ℤ) → (d ≡ [] → ⊥) → (length d ≡ 1 → ⊥) → 2 ≤ length d
two_values [] some more = absurd (some refl)
two_values (v ∷ []) some more = absurd (more (omega arith))
two_values (v ∷ u ∷ d) some more = omega arith

pub halving_here : (b : Box) (i n : ℕ) (d : List ℤ) (t t' : ℤ) → i < n → n ≡ length b → d ≡ get_or b (i + 1 - 1) [] → (d ≡ [] → ⊥) →
    (length d ≡ 1 → ⊥) →
    t ≡ middle_of d → t' ≡ t → IsSingle (take i b) → IsHalving (i + 1) t' b
halving_here b i n d t t' below count is some more mid same h = record {
  cell = ((omega arith), (omega (arith, below, count)));
  before = subst (λ j. IsSingle (take j b)) (sym (place i)) h;
  many = subst (λ z. 2 ≤ length z) is (two_values d some more);
  middle = same ∙ mid ∙ ap middle_of is;
}

pub all_single : (b : Box) (n m : ℕ) → n ≤ m → n ≡ length b → IsSingle (take m b) → IsSingle b
all_single b n m end count h = subst (λ z. IsSingle z) (take_all m b (omega (arith, end, count))) h

-- the least values so far, and one more
pub least_next : (b : Box) (i n : ℕ) (d xs xs' : List ℤ) (v v' : ℤ) → i < n → n ≡ length b → d ≡ get_or b (i + 1 - 1) [] → v ≡ least_of d → v' ≡ v →
    xs' ≡ xs ++ v' ∷ [] → xs ≡ map least_of (take i b) → xs' ≡ map least_of (take (i + 1) b)
least_next b i n d xs xs' v v' below count is least same push h =
    let value = same ∙ least ∙ ap least_of (is ∙ ap (λ j. get_or b j []) (place i)) in
    push ∙ ap (λ l. l ++ v' ∷ []) h ∙ ap (λ x. map least_of (take i b) ++ x ∷ []) value ∙
    sym (ap (map least_of) (take_more b i [] (omega (arith, below, count))) ∙ map-append least_of (take i b) (get_or b i [] ∷ []))

single_values : (b : Box) → IsSingle b → b ≡ box_of (map least_of b)
single_values [] h = refl
single_values ([] ∷ b) h = absurd (omega (arith, h.0))
single_values ((v ∷ []) ∷ b) h = ap (λ z. (v ∷ []) ∷ z) (single_values b h.1)
single_values ((v ∷ u ∷ d) ∷ b) h = absurd (omega (arith, h.0))

pub only_values : (b : Box) (xs : List ℤ) (n m : ℕ) → n ≤ m → n ≡ length b → xs ≡ map least_of (take m b) → IsSingle b → b ≡ box_of xs
only_values b xs n m end count is single =
    single_values b single ∙ ap box_of (sym (is ∙ ap (map least_of) (take_all m b (omega (arith, end, count)))))

-- the form of a box

-- a box of single values has one series
pub single_form : (b : Box) → IsSingle b → (x : List ℤ) × (form b ≡ Alone x)
single_form [] h = ([], refl)
single_form ([] ∷ b) h = absurd (omega (arith, h.0))
single_form ((v ∷ []) ∷ b) h = let later = single_form b h.1 in (v ∷ later.0, ap (after_value v) later.1)
single_form ((v ∷ u ∷ d) ∷ b) h = absurd (omega (arith, h.0))

pub form_of : (x : List ℤ) → form (box_of x) ≡ Alone x
form_of [] = refl
form_of (v ∷ x) = ap (after_value v) (form_of x)

pub is_alone : (b : Box) (x : List ℤ) → b ≡ box_of x → form b ≡ Alone x
is_alone b x e = ap form e ∙ form_of x

wide_here : (d : List ℤ) (b : Box) (t : ℤ) → 2 ≤ length d → t ≡ middle_of d → form (d ∷ b) ≡ Wide 1 t
wide_here [] b t many is = absurd (omega (arith, many))
wide_here (v ∷ []) b t many is = absurd (omega (arith, many))
wide_here (v ∷ u ∷ d) b t many is = ap (Wide 1) (sym is)

wide_at : (b : Box) (i : ℕ) (t : ℤ) → i < length b → IsSingle (take i b) → 2 ≤ length (get_or b i []) → t ≡ middle_of (get_or b i []) →
    form b ≡ Wide (suc i) t
wide_at [] i t l before many is = absurd (omega (arith, l))
wide_at (d ∷ b) zero t l before many is = wide_here d b t many is
wide_at ([] ∷ b) (suc i) t l before many is = absurd (omega (arith, before.0))
wide_at ((v ∷ []) ∷ b) (suc i) t l before many is = ap (after_value v) (wide_at b i t (omega (arith, l)) before.1 many is)
wide_at ((v ∷ u ∷ d) ∷ b) (suc i) t l before many is = absurd (omega (arith, before.0))

pub halving_form : (b : Box) (k : ℕ) (t : ℤ) → IsHalving k t b → form b ≡ Wide k t
halving_form b k t h =
    let from = h.cell.0 in
    let to = h.cell.1 in
    let at : suc (k - 1) ≡ k = omega (arith, from) in
    wide_at b (k - 1) t (omega (arith, from, to)) h.before h.many h.middle ∙ ap (λ n. Wide n t) at

-- what the form says of the box

abbrev FormFits : Box → Form → Type 0
FormFits b (Alone x) = b ≡ box_of x
FormFits b (Wide k t) = IsHalving k t b

later_fits : (v : ℤ) (b : Box) (g : Form) → FormFits b g → FormFits ((v ∷ []) ∷ b) (after_value v g)
later_fits v b (Alone x) h = ap (λ z. (v ∷ []) ∷ z) h
later_fits v b (Wide zero t) h = absurd (omega (arith, h.cell.0))
later_fits v b (Wide (suc k) t) h =
    let all = (v ∷ []) ∷ b in
    let e : suc k - 1 ≡ k = omega arith in
    let f : suc (suc k) - 1 ≡ suc k = omega arith in
    record {
      cell = ((omega arith), (omega (arith, h.cell.1)));
      before = subst (λ i. IsSingle (take i all)) (sym f) (refl, subst (λ i. IsSingle (take i b)) e h.before);
      many = subst (λ i. 2 ≤ length (get_or all i [])) (sym f) (subst (λ i. 2 ≤ length (get_or b i [])) e h.many);
      middle = subst (λ i. t ≡ middle_of (get_or all i [])) (sym f) (subst (λ i. t ≡ middle_of (get_or b i [])) e h.middle);
    }

form_fits : (b : Box) → IsBox b → FormFits b (form b)
form_fits [] h = refl
form_fits ([] ∷ b) h = absurd (h.0.some refl)
form_fits ((v ∷ []) ∷ b) h = later_fits v b (form b) (form_fits b h.1)
form_fits ((v ∷ u ∷ d) ∷ b) h = record { cell = ((omega arith), (omega arith)); before = tt; many = omega arith; middle = refl }

pub forms_tell : FormsTell
forms_tell b i = record {
  alone = λ x e. subst (λ g. FormFits b g) e (form_fits b i);
  wide = λ k t e. subst (λ g. FormFits b g) e (form_fits b i);
}

-- as the code finds it: no cell, or the first, has two or more values

pub alone_found : (b : Box) (o : Option Halving) (x : List ℤ) → MatchOption o (IsSingle b) (λ h. IsHalving h.cell h.at b) → o ≡ None →
    (IsSingle b → b ≡ box_of x) → Alone x ≡ form b
alone_found b o x told none one = sym (is_alone b x (one (subst (λ z. MatchOption z (IsSingle b) (λ h. IsHalving h.cell h.at b)) none told)))

pub wide_found : (b : Box) (o : Option Halving) (h : Halving) → MatchOption o (IsSingle b) (λ h. IsHalving h.cell h.at b) → o ≡ Some h →
    Wide h.cell h.at ≡ form b
wide_found b o h told some =
    sym (halving_form b h.cell h.at (subst (λ z. MatchOption z (IsSingle b) (λ h. IsHalving h.cell h.at b)) some told))

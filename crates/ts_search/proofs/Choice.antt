-- Why a line is the line of its box.
use Rattle.std.proofs.Common.{◌≡◌, ℕ, zero, suc, ◌+◌, ◌<◌, ◌≤◌, ℤ, Bool, true, false, cond, List, [], ◌∷◌, length, Option, Some, None, option_map, unwrap_or, refl, subst, ⊎_elim, arith, eq-or-lt_of_le}
use Rattle.ts_certificate.specs.declared.certificate.TreeLine.{TreeLine}
use Rattle.ts_certificate.specs.declared.certificate.TreeLine.TheVariants.{Split, Remove, No, Worse, Yes}
use Rattle.ts_model.specs.ModelParts.{ModelParts}
use Rattle.ts_filter.specs.Boxes.{Box, values_at}
use Rattle.ts_filter.specs.RefutedWorseDrop.{Spans, IsRefuted, IsDrop}
use Rattle.ts_filter.specs.Tests.{is_drop}
use Rattle.ts_filter.proofs.TestLaws.{tests_tell}
use Rattle.ts_search.specs.Dive.{Find}
use Rattle.ts_filter.specs.declared.drops.Removal.{Removal}
use Rattle.ts_search.specs.Drops.{least, or_later, drop_of, drop_at, drop_from, next_drop}
use Rattle.ts_frontier.specs.Forms.{Form, Alone, Wide, form}
use Rattle.ts_search.specs.LineOf.{Search, Contest, Sought, TheBest, TheFirst, search_in, last, requirements, inner, is_refuted_at, bar_of, cut_by, refuted_last, no_line, first_no, removal_line, branch_line, inner_worse, wide_line, form_line, line_of}
use Rattle.ts_search.proofs.Known.{to_refuted}

pub record IsLeast (q : ℕ → Bool) (f j i : ℕ) : Type 0 where
  pub holds : q i ≡ true
  pub from : j ≤ i
  pub to : i < j + f
  pub first : (k : ℕ) → j ≤ k → k < i → q k ≡ false

abbrev pub LeastFits : (ℕ → Bool) → ℕ → ℕ → Option ℕ → Type 0
LeastFits q f j None = (i : ℕ) → j ≤ i → i < j + f → q i ≡ false
LeastFits q f j (Some i) = IsLeast q f j i

at_or_above : (q : ℕ → Bool) (j k : ℕ) → j ≤ k → q j ≡ false → (suc j ≤ k → q k ≡ false) → q k ≡ false
at_or_above q j k h e g = ⊎_elim (λ s. subst (λ z. q z ≡ false) s e) (λ l. g (omega arith)) (eq-or-lt_of_le h)

least_later : (q : ℕ → Bool) (f j : ℕ) → q j ≡ false → (o : Option ℕ) → LeastFits q f (suc j) o → LeastFits q (suc f) j o
least_later q f j e None h = λ i a b. at_or_above q j i a e (λ m. h i m (omega arith))
least_later q f j e (Some i) h = record {
  holds = h.holds;
  from = (let m = h.from in omega arith);
  to = (let m = h.to in omega arith);
  first = λ k a b. at_or_above q j k a e (λ m. h.first k m b);
}

pub least_fits : (q : ℕ → Bool) (f j : ℕ) → LeastFits q f j (least q f j)
least_fits q zero j = λ i a b. absurd (omega arith)
least_fits q (suc f) j =
    elim (q j) as (λ b. q j ≡ b → LeastFits q (suc f) j (cond b (Some j) (least q f (suc j)))) [
      | true ↦ λ e. record { holds = e; from = omega arith; to = omega arith; first = λ k a b. absurd (omega arith) }
      | false ↦ λ e. least_later q f j e (least q f (suc j)) (least_fits q f (suc j))
    ] refl

-- the next drop is one that may be made
abbrev pub DropFits : ModelParts → Spans → Box → Option Removal → Type 0
DropFits m s b None = Unit {0}
DropFits m s b (Some r) = IsDrop m.requirements s r.cell r.value r.require b

module _ (m : ModelParts) (s : Spans) (b : Box) where
  or_fits : (o later : Option Removal) → DropFits m s b o → DropFits m s b later → DropFits m s b (or_later o later)
  or_fits None later f g = g
  or_fits (Some r) later f g = f

  of_fits : (k : ℕ) (v : ℤ) → DropFits m s b (drop_of m s b k v)
  of_fits k v = go (least (λ j. is_drop m.requirements s k v j b) (length m.requirements) 1)
      (least_fits (λ j. is_drop m.requirements s k v j b) (length m.requirements) 1)
    where
      go : (o : Option ℕ) → LeastFits (λ j. is_drop m.requirements s k v j b) (length m.requirements) 1 o →
          DropFits m s b (option_map (λ j. record { cell = k; value = v; require = j }) o)
      go None f = tt
      go (Some j) f = ((tests_tell s).drop m.requirements k v j b).0 f.holds

  at_fits : (k : ℕ) (values : List ℤ) → DropFits m s b (drop_at m s b k values)
  at_fits k [] = tt
  at_fits k (v ∷ values) = or_fits (drop_of m s b k v) (drop_at m s b k values) (of_fits k v) (at_fits k values)

  from_fits : (n k : ℕ) → DropFits m s b (drop_from m s b n k)
  from_fits zero k = tt
  from_fits (suc n) k =
      or_fits (drop_at m s b k (values_at k b)) (drop_from m s b n (suc k)) (at_fits k (values_at k b)) (from_fits n (suc k))

  pub drop_fits : DropFits m s b (next_drop m s b)
  drop_fits = from_fits (length b) 1

-- whether the best is sought
abbrev pub seeks_best : Sought → Bool
seeks_best (TheBest c found) = true
seeks_best (TheFirst c) = false

-- whether the objective is cut at p by what a series has to reach
abbrev pub is_cut_off : Sought → ℕ → Box → Bool
is_cut_off (TheBest c found) p b = cut_by c (bar_of found c.warm) p b
is_cut_off (TheFirst c) p b = false

-- no requirement is refuted at the last cell
abbrev pub NoneRefuted : Sought → Box → Type 0
NoneRefuted q b = (j : ℕ) → 1 ≤ j → j ≤ requirements (search_in q) → is_refuted_at (search_in q) j (last (search_in q)) b ≡ false

-- why a line is the box's line
pub data Choice (q : Sought) (b : Box) : TreeLine → Type 0 where
  by_refuted : {j p : ℕ} → IsRefuted (search_in q).model.requirements (search_in q).spans j p b → Choice q b (No j p)
  by_cut : {p : ℕ} → is_cut_off q p b ≡ true → Choice q b (Worse p)
  by_new : {p : ℕ} {x : List ℤ} → seeks_best q ≡ true → p ≡ last (search_in q) → form b ≡ Alone x → NoneRefuted q b →
      is_cut_off q (last (search_in q)) b ≡ false → Choice q b (Worse p)
  by_yes : {x : List ℤ} → seeks_best q ≡ false → form b ≡ Alone x → NoneRefuted q b → Choice q b Yes
  by_drop : {k : ℕ} {v : ℤ} {j : ℕ} → IsDrop (search_in q).model.requirements (search_in q).spans k v j b → Choice q b (Remove k v j)
  by_split : {k : ℕ} {t : ℤ} → form b ≡ Wide k t → Choice q b (Split k t)

module _ (q : Sought) (b : Box) where
  abbrev c : Search
  c = search_in q

  refuted_first : (o : Option ℕ) → LeastFits (λ j. is_refuted_at c j (last c) b) (requirements c) 1 o → (rest : TreeLine) →
      (NoneRefuted q b → Choice q b rest) → Choice q b (unwrap_or (option_map (λ j. No j (last c)) o) rest)
  refuted_first None h rest g = g (λ j r s. h j r (omega arith))
  refuted_first (Some j) h rest g = by_refuted (to_refuted c j (last c) b h.holds)

  drop_first : (o : Option Removal) → DropFits c.model c.spans b o → (rest : TreeLine) → Choice q b rest →
      Choice q b (unwrap_or (option_map removal_line o) rest)
  drop_first None h rest g = g
  drop_first (Some r) h rest g = by_drop h

  abbrev NoFits : Option TreeLine → Type 0
  NoFits None = Unit {0}
  NoFits (Some l) = Choice q b l

  no_line_fits : (j : ℕ) (o : Option ℕ) → LeastFits (λ p. is_refuted_at c j p b) (inner c) 1 o → (rest : Option TreeLine) → NoFits rest →
      NoFits (no_line j o rest)
  no_line_fits j None h rest g = g
  no_line_fits j (Some p) h rest g = by_refuted (to_refuted c j p b h.holds)

  first_no_fits : (f j : ℕ) → NoFits (first_no c b f j)
  first_no_fits zero j = tt
  first_no_fits (suc f) j =
      no_line_fits j (least (λ p. is_refuted_at c j p b) (inner c) 1) (least_fits (λ p. is_refuted_at c j p b) (inner c) 1) (first_no c b f (suc j))
      (first_no_fits f (suc j))

  no_first : (o : Option TreeLine) → NoFits o → (rest : TreeLine) → Choice q b rest → Choice q b (unwrap_or o rest)
  no_first None h rest g = g
  no_first (Some l) h rest g = h

  branch_choice : (k : ℕ) (t : ℤ) → form b ≡ Wide k t → Choice q b (branch_line c b k t)
  branch_choice k t f = drop_first (next_drop c.model c.spans b) (drop_fits c.model c.spans b) (Split k t) (by_split f)

worse_first : (c : Contest) (found : Option Find) (b : Box) (o : Option ℕ) → LeastFits (λ p. cut_by c (bar_of found c.warm) p b) (inner c.search) 1 o →
    (rest : TreeLine) → Choice (TheBest c found) b rest → Choice (TheBest c found) b (unwrap_or (option_map (λ p. Worse p) o) rest)
worse_first c found b None h rest g = g
worse_first c found b (Some p) h rest g = by_cut h.holds

inner_choice : (q : Sought) (b : Box) (rest : TreeLine) → Choice q b rest → Choice q b (inner_worse q b rest)
inner_choice (TheBest c found) b rest g =
    worse_first c found b (least (λ p. cut_by c (bar_of found c.warm) p b) (inner c.search) 1)
    (least_fits (λ p. cut_by c (bar_of found c.warm) p b) (inner c.search) 1) rest g
inner_choice (TheFirst c) b rest g = g

wide_choice : (q : Sought) (b : Box) (k : ℕ) (t : ℤ) → form b ≡ Wide k t → Choice q b (wide_line q b k t)
wide_choice q b k t f =
    no_first q b (first_no (search_in q) b (requirements (search_in q)) 1) (first_no_fits q b (requirements (search_in q)) 1)
    (inner_worse q b (branch_line (search_in q) b k t)) (inner_choice q b (branch_line (search_in q) b k t) (branch_choice q b k t f))

form_choice : (q : Sought) (b : Box) (f : Form) → form b ≡ f → NoneRefuted q b → Choice q b (form_line q b f)
form_choice (TheBest c found) b (Alone x) f n =
    elim (cut_by c (bar_of found c.warm) (last c.search) b) as (λ z. cut_by c (bar_of found c.warm) (last c.search) b ≡ z →
    Choice (TheBest c found) b (Worse (last c.search))) [
      | true ↦ λ z. by_cut z
      | false ↦ λ z. by_new refl refl f n z
    ] refl
form_choice (TheBest c found) b (Wide k t) f n =
    elim (cut_by c (bar_of found c.warm) (last c.search) b) as (λ z. cut_by c (bar_of found c.warm) (last c.search) b ≡ z →
    Choice (TheBest c found) b (cond z (Worse (last c.search)) (wide_line (TheBest c found) b k t))) [
      | true ↦ λ z. by_cut z
      | false ↦ λ z. wide_choice (TheBest c found) b k t f
    ] refl
form_choice (TheFirst c) b (Alone x) f n = by_yes refl f n
form_choice (TheFirst c) b (Wide k t) f n = wide_choice (TheFirst c) b k t f

pub line_choice : (q : Sought) (b : Box) → Choice q b (line_of q b)
line_choice q b =
    refuted_first q b (refuted_last (search_in q) b)
    (least_fits (λ j. is_refuted_at (search_in q) j (last (search_in q)) b) (requirements (search_in q)) 1) (form_line q b (form b))
    (λ n. form_choice q b (form b) refl n)

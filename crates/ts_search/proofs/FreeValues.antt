-- What witnesses show of single values.
use Rattle.std.proofs.Common.{◌≡◌, ℕ, ◌+◌, ◌-◌, ◌<◌, ◌≤◌, ℤ, ◌≤ℤ◌, Bool, true, false, not, List, length, Some, slice_get, ⊎_elim, refl, sym, ◌∙◌, ap, subst, arith}
use Rattle.std.proofs.lemmas.Int.{ints}
use Rattle.std.proofs.lemmas.Option.{slice_get_within}
use Rattle.std.specs.Int.{int_min}
use Rattle.std.specs.Prelude.{Contains, IsTrue, cond, int_lt}
use Rattle.ts_base.specs.Limits.{IsCellValue, most_cells}
use Rattle.ts_base.specs.Windows.{LooksInside}
use Rattle.ts_bound.specs.Looks.{count_looked, is_looked, place_in}
use Rattle.ts_bound.specs.TermSpans.{automata_of}
use Rattle.ts_bound.proofs.Looking.{looked_length}
use Rattle.ts_filter.specs.Boxes.{Box, HasCell, values_at}
use Rattle.ts_filter.specs.KeptCells.{IsFree}
use Rattle.ts_filter.specs.RefutedWorseDrop.{Spans, IsDrop}
use Rattle.ts_filter.specs.Tests.{is_drop}
use Rattle.ts_filter.proofs.BoxParts.{domain_at, inside_length}
use Rattle.ts_filter.proofs.SoundLaws.{clash}
use Rattle.ts_filter.proofs.TestLaws.{tests_tell}
use Rattle.ts_glue.specs.Machines.{window_of}
use Rattle.ts_model.specs.declared.model.Require.{Require}
use Rattle.ts_spans.specs.Machines.{spans_in}
use Rattle.ts_witness.specs.Laws.{IsKept}
use Rattle.ts_witness.specs.Witnesses.{series_of}
use Rattle.ts_search.proofs.Marks.{below_split, looks_on, same_or_other}
use Rattle.ts_search.proofs.Witnessed.{asked, bring_few, inside_few, value_fits}
use Rattle.ts_search.specs.LineOf.{last}
use Rattle.ts_search.specs.Shown.{IsHeld, Knows}
use Rattle.ts_search.specs.Views.{search_of}
use Rattle.ts_search.specs.declared.shown.Shown.{Shown}
use Rattle.ts_search.specs.declared.witnesses.Witnesses.{Witnesses}

-- a witness of one of the requirements, on a box of which more is known

module _ (rs : List Require) (s : Spans) (b : Box) (w : Witnesses) (h : Knows rs s b w) (i : ℕ) (x : Shown) (r : Require)
    (there : slice_get w.each.items i ≡ Some x) (is : slice_get rs i ≡ Some r) where
  require : slice_get h.problem.model.now.requirements.items i ≡ Some r
  require = ap (λ z. slice_get z i) (sym h.same) ∙ is

  size : length b ≡ last (search_of h.problem)
  size = inside_length b (search_of h.problem).model.cells h.part.inside

  pub known_held : IsHeld r x
  known_held = h.shown.held.each i x r there require

  pub known_looks : (n : ℕ) → n ≡ length b → LooksInside n (window_of x.machine.now)
  known_looks n e =
      subst (λ n. LooksInside n (window_of x.machine.now)) (sym (e ∙ size))
      (looks_on h.problem h.posed w h.shown.held r.term i x r there require refl)

  pub known_count : (n : ℕ) → n ≡ length b → length (series_of x.witness) ≡ count_looked (window_of x.machine.now) n
  known_count n e = h.shown.held.count i x r there require ∙ ap (count_looked (window_of x.machine.now)) (sym (e ∙ size))

  pub known_domains : length x.spared.cells.now ≡ length (series_of x.witness)
  known_domains =
      ap length (h.shown.held.domains i x r there require)
      ∙ looked_length (window_of x.machine.now) (search_of h.problem).model.cells
      (looks_on h.problem h.posed w h.shown.held r.term i x r there require refl) ∙ sym (h.shown.held.count i x r there require)

  pub known_few : length (series_of x.witness) ≤ most_cells
  known_few =
      inside_few (window_of x.machine.now) b (series_of x.witness) (known_looks (length b) refl)
      (bring_few h.problem h.posed w b h.part h.shown.held i x r there require) (h.shown.inside i x r there require)

  -- with a value with which it meets the requirement, that drops none
  pub known_kept : (k : ℕ) (v : ℤ) → is_looked (window_of x.machine.now) k ≡ true →
      IsKept (automata_of x.machine.now) r (series_of x.witness) (place_in (window_of x.machine.now) k) v → IsDrop rs s k v (i + 1) b → ⊥
  known_kept k v looked kept drop =
      let q = h.problem in
      let j : i + 1 - 1 ≡ i = omega arith in
      let same : IsDrop q.model.now.requirements.items (search_of q).spans k v (i + 1) b =
      subst (λ z. IsDrop z (search_of q).spans k v (i + 1) b) h.same (subst (λ z. IsDrop rs z k v (i + 1) b) h.spans drop) in
      clash (is_drop q.model.now.requirements.items (search_of q).spans k v (i + 1) b)
      (((tests_tell (search_of q).spans).drop q.model.now.requirements.items k v (i + 1) b).1 same)
      (kept (search_of q).model (spans_in (search_of q).model) (i + 1) b
      (asked q h.posed w b h.part h.shown (i + 1) x r (omega arith) (ap (slice_get w.each.items) j ∙ there)
      (ap (slice_get q.model.now.requirements.items) j ∙ require)) k drop.cell looked refl drop.there)

-- a value of the box is one that a cell may have
pub known_value : (rs : List Require) (s : Spans) (b : Box) (w : Witnesses) → Knows rs s b w → (k : ℕ) (v : ℤ) → HasCell k b → Contains (values_at k b) v →
    IsCellValue v
known_value rs s b w h k v cell has =
    let from = cell.0 in let to = cell.1 in value_fits (values_at k b) v (domain_at b (k - 1) h.part.box (omega (arith, from, to))) has

-- the requirements before a place drop none of the values

abbrev pub LetBelow : List Require → Box → Witnesses → (term k : ℕ) → (v to : ℤ) → ℕ → Type 0
LetBelow rs b w term k v to n =
    (s : Spans) (i : ℕ) (r : Require) → Knows rs s b w → i < n → slice_get rs i ≡ Some r → r.term ≡ term → (x : ℤ) → v ≤ℤ x → x ≤ℤ to →
    IsDrop rs s k x (i + 1) b → ⊥

pub let_none : (rs : List Require) (b : Box) (w : Witnesses) (term k : ℕ) (v to : ℤ) → LetBelow rs b w term k v to 0
let_none rs b w term k v to s i r h below is on x from up drop = omega (arith, below)

-- what is at most two numbers is at most the lesser of them
pub up_to_both : (v a b less : ℤ) → less ≡ int_min a b → v ≤ℤ a → v ≤ℤ b → v ≤ℤ less
up_to_both v a b less e first second =
    subst (λ z. v ≤ℤ z) (sym e) (elim (int_lt b a) as (λ t. v ≤ℤ cond t b a) [ true ↦ second | false ↦ first ])

pub let_next : (rs : List Require) (b : Box) (w : Witnesses) (term k : ℕ) (v to one less : ℤ) (n : ℕ) → less ≤ℤ to → less ≤ℤ one →
    LetBelow rs b w term k v to n →
    ((s : Spans) (r : Require) → Knows rs s b w → slice_get rs n ≡ Some r → r.term ≡ term → (x : ℤ) → v ≤ℤ x → x ≤ℤ one → IsDrop rs s k x (n + 1) b → ⊥) →
    LetBelow rs b w term k v less (n + 1)
let_next rs b w term k v to one less n under under_one lets more s i r h below is on x from up drop =
    ⊎_elim
    (λ e. more s r h (ap (slice_get rs) (sym e) ∙ is) on x from (omega (arith, ints, under_one, up)) (subst (λ z. IsDrop rs s k x (z + 1) b) e drop))
    (λ apart. lets s i r h (below_split i n below apart) is on x from (omega (arith, ints, under, up)) drop) (same_or_other i n)

pub all_let : (rs : List Require) (b : Box) (w : Witnesses) (term k : ℕ) (v to : ℤ) (n : ℕ) → LetBelow rs b w term k v to n → length rs ≤ n →
    (s : Spans) → Knows rs s b w → (x : ℤ) → v ≤ℤ x → x ≤ℤ to → IsFree rs s b term k x
all_let rs b w term k v to n lets few s h x from up j r is on drop =
    let below = slice_get_within rs (j - 1) r is.1 in
    let first = is.0 in
    let next : j ≡ j - 1 + 1 = omega (arith, first) in
    lets s (j - 1) r h (omega (arith, below, few)) is.1 on x from up (subst (λ z. IsDrop rs s k x z b) next drop)

pub is_so : (x : Bool) → not x ≡ false → IsTrue x
is_so true h = refl
is_so false h = absurd (let z : ◌≡◌ {A = Bool} true false = h in cc)

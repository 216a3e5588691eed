-- The model of `sample` has a series that meets: each cell at its least value, where no peak is wider than 3.
use Rattle.std.proofs.Common.{◌≡◌, ℕ, zero, suc, ◌+◌, ◌≤◌, ℤ, pos, Bool, true, ◌&&◌, List, [], ◌∷◌, length, take, refl, sym, ◌∙◌, ap, subst, arith}
use Rattle.std.proofs.lemmas.Bool.{and_parts}
use Rattle.std.specs.Prelude.{Contains}
use Rattle.ts_base.specs.declared.ext.Ext.{Ext}
use Rattle.ts_base.specs.declared.ext.Ext.TheVariants.{NegInf, Int, PosInf}
use Rattle.ts_base.specs.Limits.{most_cells}
use Rattle.ts_base.specs.Numbers.{ext_le}
use Rattle.ts_domain.specs.BoxSeries.{InBox}
use Rattle.ts_pattern.specs.declared.name.Aggregator.TheVariants.{Max}
use Rattle.ts_pattern.specs.declared.name.Feature.TheVariants.{Width}
use Rattle.ts_pattern.specs.declared.name.PatternId.TheVariants.{Peak}
use Rattle.ts_pattern.specs.PatternTable.{pattern_a}
use Rattle.ts_pattern.specs.TermValue.{value_of}
use Rattle.ts_automaton.specs.declared.state.Mark.TheVariants.{Zero}
use Rattle.ts_automaton.specs.AutomatonRun.{AreCellValues, Standing, after_from, answer, finish_of, finish_value, under_mark, start_of, step_of}
use Rattle.ts_automaton.specs.Body.{Body}
use Rattle.ts_automaton.specs.Registers.{numbers}
use Rattle.ts_seed.specs.SeedTable.{seed_table}
use Rattle.ts_decorate.specs.Decoration.{decorated_body}
use Rattle.ts_model.specs.Meets.{Meets}
use Rattle.ts_run.specs.Quantities.{IsWithin}
use Rattle.ts_run.specs.SampleModel.{cells_from, least_of, sample_stated, six_from}
use Rattle.ts_run.proofs.SampleModelLaws.{cells_count, least_small, low_within, six_at}
use Rattle.ts_run.proofs.ValueSizes.{answers}

-- n cells from cell k on, each at its least value
abbrev pub least_from : ℕ → ℕ → List ℤ
least_from k zero = []
least_from k (suc n) = pos (least_of k) ∷ least_from (k + 1) n

first_in : (l : ℕ) → Contains (six_from l) (pos l)
first_in l = subst (λ (i : ℕ). Contains (six_from l) (pos i)) (let e : l + 0 ≡ l = omega arith in e) (six_at l 0 (omega arith))

least_inside : (k n : ℕ) → InBox (least_from k n) (cells_from k n)
least_inside k zero = tt
least_inside k (suc n) = (first_in (least_of k), least_inside (k + 1) n)

least_count : (k n : ℕ) → length (least_from k n) ≡ n
least_count k zero = refl
least_count k (suc n) = ap suc (least_count (k + 1) n)

least_within : (k n : ℕ) → AreCellValues (least_from k n)
least_within k zero = tt
least_within k (suc n) =
    let small = least_small k in (low_within (least_of k) (omega (arith, small)), least_within (k + 1) n)

least_taken : (j k n : ℕ) → j ≤ n → take j (least_from k n) ≡ least_from k j
least_taken zero k n h = refl
least_taken (suc j) k zero h = absurd (omega (arith, h))
least_taken (suc j) k (suc n) h = ap (λ (z : List ℤ). pos (least_of k) ∷ z) (least_taken j (k + 1) n (omega (arith, h)))

-- the automaton of the greatest width of a peak
abbrev widest : Body
widest = decorated_body (seed_table Peak).rows (pattern_a Peak) Max Width

-- the automaton's answer is at most 3, after a series and each front of it
abbrev is_narrow : Standing Ext → Bool
is_narrow s = ext_le (finish_of widest s 1) (Int (pos 3))

abbrev stays_narrow : Standing Ext → ℤ → List ℤ → Bool
stays_narrow s x [] = is_narrow s
stays_narrow s x (y ∷ ys) = is_narrow s && stays_narrow (step_of widest s x y) y ys

narrow_front : (ys : List ℤ) (j : ℕ) (x : ℤ) (s : Standing Ext) → stays_narrow s x ys ≡ true → is_narrow (after_from widest s x (take j ys)) ≡ true
narrow_front [] zero x s h = h
narrow_front [] (suc j) x s h = h
narrow_front (y ∷ ys) zero x s h = (and_parts (is_narrow s) (stays_narrow (step_of widest s x y) y ys) h).0
narrow_front (y ∷ ys) (suc j) x s h =
    narrow_front ys j y (step_of widest s x y) (and_parts (is_narrow s) (stays_narrow (step_of widest s x y) y ys) h).1

-- with 512 cells the automaton's answer stays at most 3
all_narrow : stays_narrow (start_of widest) (pos (least_of 1)) (least_from 2 511) ≡ true
all_narrow = refl

-- the number of cells doesn't matter
mark_same : (n : ℕ) (v : Ext) → under_mark Zero n v ≡ under_mark Zero 1 v
mark_same n NegInf = refl
mark_same n (Int x) = refl
mark_same n PosInf = refl

least_answer : (j : ℕ) → j ≤ 511 → ext_le (answer widest (least_from 1 (suc j))) (Int (pos 3)) ≡ true
least_answer j h =
    let end = finish_value numbers widest (after_from widest (start_of widest) (pos (least_of 1)) (least_from 2 j)).regs in
    let narrow = narrow_front (least_from 2 511) j (pos (least_of 1)) (start_of widest) all_narrow in
    let front = subst (λ (z : List ℤ). is_narrow (after_from widest (start_of widest) (pos (least_of 1)) z) ≡ true) (least_taken j 2 511 h) narrow in
    subst (λ v. ext_le v (Int (pos 3)) ≡ true) (sym (mark_same (length (least_from 1 (suc j))) end)) front

least_value : (n : ℕ) → 1 ≤ n → n ≤ 512 → ext_le (value_of Max Width Peak (least_from 1 n)) (Int (pos 3)) ≡ true
least_value zero some few = absurd (omega (arith, some))
least_value (suc j) some few =
    let count = least_count 1 (suc j) in
    subst (λ v. ext_le v (Int (pos 3)) ≡ true)
    (answers Peak Max Width (least_from 1 (suc j)) (omega (arith, count)) (omega (arith, count, few)) (least_within 1 (suc j)))
    (least_answer j (omega (arith, few)))

pub sample_meets : (n : ℕ) → IsWithin 1 most_cells n → Meets (sample_stated n) (least_from 1 n)
sample_meets n h = record {
  cells = least_count 1 n ∙ sym (cells_count 1 n);
  inside = least_inside 1 n;
  requirements = ((value_of Max Width Peak (least_from 1 n), refl, least_value n h.0 h.1), tt);
}

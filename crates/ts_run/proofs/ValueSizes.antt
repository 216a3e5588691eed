-- The value of a term is far within 64 bits: on a series within the limits no sum reaches the size at which sums are held.
use Rattle.std.proofs.Common.{◌≡◌, ℕ, zero, suc, ◌+◌, ◌≤◌, ℤ, pos, negsuc, true, List, [], ◌∷◌, length, map, Option, Some, None, slice_get, refl, sym, ◌∙◌, ap, subst, arith}
use Rattle.std.proofs.lemmas.Bool.{lt-ltb}
use Rattle.std.proofs.lemmas.Option.{same_Some}
use Rattle.ts_base.specs.declared.ext.Ext.{Ext}
use Rattle.ts_base.specs.declared.ext.Ext.TheVariants.{NegInf, Int, PosInf}
use Rattle.ts_base.specs.Limits.{IsCellValue}
use Rattle.ts_base.specs.Signature.{signature_of}
use Rattle.ts_transducer.specs.declared.row.Row.{Row}
use Rattle.ts_transducer.specs.Typing.{is_typed}
use Rattle.ts_pattern.specs.declared.name.Aggregator.{Aggregator}
use Rattle.ts_pattern.specs.declared.name.Feature.{Feature}
use Rattle.ts_pattern.specs.declared.name.PatternId.{PatternId}
use Rattle.ts_pattern.specs.PatternTable.{pattern_shape, pattern_b, pattern_a}
use Rattle.std.specs.List.{AllByRecursion}
use Rattle.ts_base.specs.Windows.{LooksInside, looked_at}
use Rattle.ts_base.proofs.WindowLaws.{each_looked, few_looked, some_looked}
use Rattle.ts_model.specs.ModelParts.{StatedTerm}
use Rattle.ts_model.specs.TermValue.{stated_value}
use Rattle.ts_pattern.specs.TermValue.{aggregate_of_ranges, value_of}
use Rattle.ts_validate.proofs.Law.{closed_valid}
use Rattle.ts_automaton.specs.declared.state.Mark.{Mark}
use Rattle.ts_automaton.specs.declared.state.Mark.TheVariants.{Same, Zero, Cells}
use Rattle.ts_automaton.specs.AutomatonRun.{AreCellValues, after_from, answer, under_mark}
use Rattle.ts_seed.specs.SeedTable.{seed_table, table_of}
use Rattle.ts_seed.proofs.Closed.{rows_closed}
use Rattle.ts_decorate.specs.Decoration.{decorated_body, mark_of}
use Rattle.ts_decorate.proofs.CallerLemmas.{answers_ranges, total_exact, finish_is}
use Rattle.ts_decorate.proofs.Exact.{exact, held_at_limit}
use Rattle.ts_decorate.specs.Operators.{total_of}
use Rattle.ts_decorate.proofs.Runs.{table_start}
use Rattle.ts_decorate.proofs.Sizes.{limit, size_of}
use Rattle.ts_domain.specs.BoxSeries.{InBox, IsBox}
use Rattle.ts_domain.proofs.Sets.{each_contains}
use Rattle.ts_model.specs.FirstBest.{objective_of, value_of_term}
use Rattle.ts_model.specs.ModelParts.{ModelParts}
use Rattle.ts_compile.proofs.Tables.{table_fits}
use Rattle.ts_certificate.specs.Ranges.{is_ext}

-- the size at which sums are held, and 512 cells
abbrev most_size : ℕ
most_size = 100000000000000512

mark_size : (m : Mark) (n : ℕ) (v : Ext) → size_of (under_mark m n v) ≤ size_of v + n
mark_size Same n v = omega arith
mark_size Zero n NegInf = omega arith
mark_size Zero n (Int x) = omega arith
mark_size Zero n PosInf = omega arith
mark_size Cells n NegInf = omega arith
mark_size Cells n (Int x) = omega arith
mark_size Cells n PosInf = omega arith

within_size : (s t n : ℕ) → s ≤ t + n → t ≤ limit → n ≤ 512 → s ≤ most_size
within_size s t n h k l = omega (arith, h, k, l)

module _ (rows : List Row) (typed : is_typed rows ≡ true) (few : length rows ≤ 8) (a : ℕ) (g : Aggregator) (f : Feature) where
  answer_small : (xs : List ℤ) → 1 ≤ length xs → length xs ≤ 512 → AreCellValues xs → size_of (answer (decorated_body rows a g f) xs) ≤ most_size
  answer_small [] some short h = absurd (omega (arith, some))
  answer_small (x ∷ ys) some short h =
      let total = total_of (held_at_limit g f) (after_from (decorated_body rows a g f) (table_start (exact g f)) x ys).regs in
      subst (λ v. size_of (under_mark (mark_of g f) (length (x ∷ ys)) v) ≤ most_size) (sym (finish_is rows typed few a g f x ys))
      (within_size _ (size_of total) (length (x ∷ ys)) (mark_size (mark_of g f) (length (x ∷ ys)) total)
      (total_exact rows typed few a g f x ys (omega (arith, short)) h.0 h.1).1 short)

-- the automaton of a pattern by the rows of its seed answers the value of the term
pub answers : (id : PatternId) (g : Aggregator) (f : Feature) (xs : List ℤ) → 1 ≤ length xs → length xs ≤ 512 → AreCellValues xs →
    answer (decorated_body (seed_table id).rows (pattern_a id) g f) xs ≡ value_of g f id xs
unfolding value_of
answers id g f xs some short cells =
    let fits = table_fits id in
    let rows = (seed_table id).rows in
    answers_ranges rows fits.0 fits.1 (pattern_a id) fits.2 g f xs some (omega (arith, short)) cells
    ∙ ap (λ z. aggregate_of_ranges g f z xs)
    (closed_valid rows fits.0 (pattern_shape id) (pattern_b id) (pattern_a id) (seed_table id).plan (rows_closed id (table_of id) (table_of id).rows refl refl)
    (signature_of xs))

value_small : (id : PatternId) (g : Aggregator) (f : Feature) (xs : List ℤ) → 1 ≤ length xs → length xs ≤ 512 → AreCellValues xs →
    size_of (value_of g f id xs) ≤ most_size
value_small id g f xs some short cells =
    let fits = table_fits id in
    subst (λ v. size_of v ≤ most_size) (answers id g f xs some short cells)
    (answer_small (seed_table id).rows fits.0 fits.1 (pattern_a id) g f xs some short cells)

ext_fits : (v : Ext) → size_of v ≤ most_size → is_ext v ≡ true
ext_fits NegInf h = refl
ext_fits (Int (pos n)) h = lt-ltb n 9223372036854775808 (omega (arith, h))
ext_fits (Int (negsuc n)) h = lt-ltb n 9223372036854775808 (omega (arith, h))
ext_fits PosInf h = refl

at_place : (x : List ℤ) → 1 ≤ length x → length x ≤ 512 → AreCellValues x → (ts : List (List ℕ × StatedTerm)) →
    AllByRecursion (λ t. LooksInside (length x) t.1.window) ts → (k : ℕ) (v : Ext) → slice_get (map (λ t. stated_value t.1 x) ts) k ≡ Some v →
    size_of v ≤ most_size
at_place x some short cells [] inside k v e = absurd (let g : ◌≡◌ {A = Option Ext} None (Some v) = e in cc)
at_place x some short cells (t ∷ ts) inside zero v e =
    let w = t.1.window in
    let few = few_looked w x inside.0 in
    subst (λ z. size_of z ≤ most_size) (same_Some (stated_value t.1 x) v e)
    (value_small t.1.pattern t.1.aggregator t.1.feature (looked_at w x) (some_looked w x some inside.0) (omega (arith, few, short))
    (each_looked IsCellValue w x cells))
at_place x some short cells (t ∷ ts) inside (suc k) v e = at_place x some short cells ts inside.1 k v e

-- a series of a box has values of cells
pub cells_within : (x : List ℤ) (b : List (List ℤ)) → InBox x b → IsBox b → AreCellValues x
cells_within [] [] h i = tt
cells_within [] (d ∷ b) h i = absurd h
cells_within (v ∷ x) [] h i = absurd h
cells_within (v ∷ x) (d ∷ b) h i = (each_contains IsCellValue d v i.0.within h.0, cells_within x b h.1 i.1)

by_place : (m : ModelParts) (x : List ℤ) (v : Ext) (o : Option ℕ) → 1 ≤ length x → length x ≤ 512 → AreCellValues x →
    AllByRecursion (λ t. LooksInside (length x) t.1.window) m.terms → value_of_term m x o ≡ Some v → is_ext v ≡ true
by_place m x v None some short cells inside e = absurd (let g : ◌≡◌ {A = Option Ext} None (Some v) = e in cc)
by_place m x v (Some term) some short cells inside e = ext_fits v (at_place x some short cells m.terms inside term v e)

-- the number of the objective is written within 64 bits
pub objective_fits : (m : ModelParts) (x : List ℤ) (v : Ext) → 1 ≤ length x → length x ≤ 512 → AreCellValues x →
    AllByRecursion (λ t. LooksInside (length x) t.1.window) m.terms → objective_of m x ≡ Some v → is_ext v ≡ true
objective_fits m x v some short cells inside e = by_place m x v m.objective some short cells inside e

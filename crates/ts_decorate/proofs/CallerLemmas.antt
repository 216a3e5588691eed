-- For the crates above: what a decorated automaton answers.
use Rattle.std.specs.Prelude.{◌≡◌, ℕ, suc, ◌+◌, ◌≤◌, ℤ, pos, true, List, [], ◌∷◌, length, map, refl}
use Rattle.std.specs.List.{AllByRecursion}
use Rattle.std.proofs.Common.{sym, ◌∙◌, ap, subst, arith}
use Rattle.ts_base.specs.declared.letter.Letter.TheVariants.{Less}
use Rattle.ts_base.specs.declared.ext.Ext.{Ext}
use Rattle.ts_base.specs.Limits.{IsCellValue}
use Rattle.ts_base.specs.Signature.{signature_of}
use Rattle.ts_transducer.specs.declared.row.Row.{Row}
use Rattle.ts_transducer.specs.Typing.{is_typed}
use Rattle.ts_transducer.specs.Decode.{decode}
use Rattle.ts_transducer.specs.Inside.{IsInside}
use Rattle.ts_transducer.proofs.CallerLemmas.{move_stays, decode_inside_each}
use Rattle.ts_pattern.specs.declared.name.Aggregator.{Aggregator}
use Rattle.ts_pattern.specs.declared.name.Feature.{Feature}
use Rattle.ts_pattern.specs.Arithmetic.{less_fold, cell_value}
use Rattle.ts_automaton.specs.Registers.{numbers}
use Rattle.ts_automaton.specs.AutomatonRun.{Standing, after_from, finish_value, under_mark, IsInMark, AreCellValues, HoldsMark, HoldsMarkUpTo}
use Rattle.ts_decorate.specs.Decoration.{mark_of, decorated_body}
use Rattle.ts_decorate.specs.Answers.{AnswersRanges, longest}
use Rattle.ts_decorate.specs.Operators.{total_of}
use Rattle.ts_decorate.proofs.Exact.{exact, held_at_limit, IsGood, IsAny, cell_good, cell_laws, less_laws, idle_right}
use Rattle.ts_decorate.proofs.Runs.{table_start, table_after}
use Rattle.ts_decorate.proofs.Evaluation.{AtRest, start_rests, total_is, after_is, rests_behind}
use Rattle.ts_decorate.proofs.Sizes.{limit, size_of, neutral_size, default_size, after_same, total_same, total_size, cost_small}
use Rattle.ts_decorate.proofs.Registers.{ranges_value}
use Rattle.ts_decorate.proofs.Answers.{answer_is}
use Rattle.ts_decorate.proofs.Features.{aggregate_is}
use Rattle.ts_decorate.proofs.Promises.{aggregate_in_mark}

cells_good : (f : Feature) (xs : List ℤ) → AllByRecursion (IsGood f) (map (cell_value f) xs)
cells_good f [] = tt
cells_good f (x ∷ xs) = (cell_good f x, cells_good f xs)

cells_any : (xs : List Ext) → AllByRecursion IsAny xs
cells_any [] = tt
cells_any (x ∷ xs) = (tt, cells_any xs)

-- a series has a letter fewer than cells
letters : (x : ℤ) (ys : List ℤ) → length (signature_of (x ∷ ys)) ≡ length ys
letters x [] = refl
letters x (y ∷ ys) = ap suc (letters y ys)

module _ (rows : List Row) (typed : is_typed rows ≡ true) (few : length rows ≤ 8) (a : ℕ) (g : Aggregator) (f : Feature) where
  -- the registers after the series, before the mark: no sum is held, so exact operators give the same
  pub total_exact : (x : ℤ) (ys : List ℤ) → length ys ≤ 99999 → IsCellValue x → AreCellValues ys →
      let total = total_of (held_at_limit g f) (after_from (decorated_body rows a g f) (table_start (exact g f)) x ys).regs in
      (total ≡ total_of (exact g f) (table_after (exact g f) (cell_value f) a rows (table_start (exact g f)) x ys).regs) × (size_of total ≤ limit)
  total_exact x ys short h i =
      let o = exact g f in
      let first = move_stays rows typed 0 Less in
      let cost = cost_small f ys x h i in
      let n = neutral_size f in
      let d = default_size g in
      let same = after_same g f a rows ys x (table_start o) (omega arith) in
      let size = same.1 in
      let end = table_after o (cell_value f) a rows (table_start o) x ys in
      let last = total_size g f end.regs in
      let is =
      ap (λ st. total_of (held_at_limit g f) st.regs) (after_is rows typed few a g f ys x (table_start o) (omega arith) (start_rests g f))
      ∙ ap (λ st. total_of (held_at_limit g f) st.regs) same.0
      ∙ total_same g f end.regs (omega arith) in
      (is, subst (λ v. size_of v ≤ limit) (sym is) (omega arith))

  -- which the finish expression reads
  pub finish_is : (x : ℤ) (ys : List ℤ) →
      let s = (after_from (decorated_body rows a g f) (table_start (exact g f)) x ys).regs in
      finish_value numbers (decorated_body rows a g f) s ≡ total_of (held_at_limit g f) s
  finish_is x ys =
      let st = table_start (exact g f) in
      let first = move_stays rows typed 0 Less in
      let same = after_is rows typed few a g f ys x st (omega arith) (start_rests g f) in
      let rest = rests_behind rows typed few a g f ys x st (start_rests g f) in
      total_is g f (after_from (decorated_body rows a g f) st x ys).regs (pos 0) (pos 0)
      (subst (λ (t : Standing Ext). AtRest (less_fold f) t.regs) (sym same) rest)

module _ (rows : List Row) (typed : is_typed rows ≡ true) (few : length rows ≤ 8) (a : ℕ) (one : a ≤ 1) (g : Aggregator) (f : Feature) where
  ranges_in : (x : ℤ) (ys : List ℤ) → AllByRecursion (IsInside (length (x ∷ ys))) (decode rows a (signature_of (x ∷ ys)))
  ranges_in x ys =
      let w = signature_of (x ∷ ys) in
      let n : length w + 1 ≡ suc (length ys) = let e = letters x ys in omega (arith, e) in
      subst (λ m. AllByRecursion (IsInside m) (decode rows a w)) n (decode_inside_each rows a w one)

  -- they hold the fold over the ranges
  total_ranges : (x : ℤ) (ys : List ℤ) → length ys ≤ 99999 → IsCellValue x → AreCellValues ys →
      total_of (held_at_limit g f) (after_from (decorated_body rows a g f) (table_start (exact g f)) x ys).regs
      ≡ ranges_value (exact g f) (map (cell_value f) (x ∷ ys)) (decode rows a (signature_of (x ∷ ys)))
  total_ranges x ys short h i =
      let vs = map (cell_value f) (x ∷ ys) in
      (total_exact rows typed few a g f x ys short h i).0
      ∙ answer_is (exact g f) (IsGood f) (cell_laws f) IsAny (less_laws f) (idle_right g f) (cell_value f) rows typed a one vs (cell_value f x)
      (cells_good f (x ∷ ys)) (cells_any vs) x ys refl

  pub answers_ranges : AnswersRanges (decorated_body rows a g f) rows a g f
  answers_ranges [] some short h = absurd (omega (arith, some))
  answers_ranges (x ∷ ys) some short h =
      ap (λ v. under_mark (mark_of g f) (length (x ∷ ys)) v) (finish_is rows typed few a g f x ys ∙ total_ranges x ys (omega (arith, short)) h.0 h.1)
      ∙ aggregate_is g f (decode rows a (signature_of (x ∷ ys))) (x ∷ ys) (ranges_in x ys)

  pub keeps_mark : HoldsMarkUpTo longest (decorated_body rows a g f)
  keeps_mark [] some short h = absurd (omega (arith, some))
  keeps_mark (x ∷ ys) some short h =
      subst (λ v. IsInMark (mark_of g f) (length (x ∷ ys)) v) (sym (answers_ranges (x ∷ ys) some short h))
      (aggregate_in_mark g f (decode rows a (signature_of (x ∷ ys))) (x ∷ ys) (ranges_in x ys))

  pub is_marked : HoldsMark (decorated_body rows a g f)
  is_marked xs some short h = keeps_mark xs some (omega (arith, short)) h

-- For crates above: what a machine keeps; the glued value where a series is cut into the cells before one, that one, and those after it; the law
-- Local by such cuts.
use Rattle.std.proofs.Common.{◌≡◌, ◌≤◌, ◌<◌, ℕ, zero, suc, ◌+◌, ◌-◌, ℤ, pos, List, [], ◌∷◌, ◌++◌, length, take, drop, reverse, get_or, refl, sym, ◌∙◌, ap, subst, arith}
use Rattle.std.specs.Prelude.{IsTrue, Option, None, Some, option_map, unwrap_or}
use Rattle.std.proofs.lemmas.List.{length-append, length-take-le, reverse-append}
use Rattle.std.proofs.Math.Seq.{take-append-add, drop-append_seam, get_or-append_seam}
use Rattle.ts_base.specs.declared.ext.Ext.{Ext}
use Rattle.ts_automaton.specs.Body.{Body}
use Rattle.ts_automaton.specs.Typing.{is_automaton}
use Rattle.ts_automaton.specs.AutomatonRun.{Standing, Stands, start_of, step_of, after_from, after, answer, AreCellValues}
use Rattle.ts_automaton.proofs.RunLaws.{kinds_are_kept}
use Rattle.ts_glue.specs.declared.machine.Half.{Half}
use Rattle.ts_glue.specs.Pairs.{table_view, Pair, pair}
use Rattle.ts_glue.specs.Glued.{glued_value, left_at, right_at, cell_at, Glued, LocalUpTo}
use Rattle.ts_glue.specs.Rules.{IsGluing}
use Rattle.ts_glue.specs.Laws.{MachinesKeepRules}
use Rattle.ts_glue.proofs.Locality.{same_up_to_last}

-- what a machine is, and what it keeps

abbrev pair_with : Body → Half → Pair
pair_with b h = pair b h.reverse (table_view h.table)

pub machines_keep_rules : MachinesKeepRules
machines_keep_rules m p = go m.half refl
  where
    go : (o : Option Half) → m.half ≡ o → option_map (pair_with m.forward) o ≡ Some p → IsGluing p
    go None e f = cc
    go (Some h) e f = subst IsGluing (ap (λ z. unwrap_or z p) f) (m.rules h e, m.local h e)

back : (n : ℕ) → n + 1 - 1 ≡ n
back n = omega arith

-- runs, one cell further

from_more : (b : Body) (zs : List ℤ) (s : Standing Ext) (z x y : ℤ) →
    after_from b s z (zs ++ x ∷ y ∷ []) ≡ step_of b (after_from b s z (zs ++ x ∷ [])) x y
from_more b [] s z x y = refl
from_more b (w ∷ zs) s z x y = from_more b zs (step_of b s z w) w x y

pub after_more : (b : Body) (before : List ℤ) (x y : ℤ) → after b (before ++ x ∷ y ∷ []) ≡ step_of b (after b (before ++ x ∷ [])) x y
after_more b [] x y = refl
after_more b (z ∷ zs) x y = from_more b zs (start_of b) z x y

-- from the last cell down to x, of which y is the one read before
pub after_back : (b : Body) (x y : ℤ) (rest : List ℤ) → after b (reverse (x ∷ y ∷ rest)) ≡ step_of b (after b (reverse (y ∷ rest))) y x
after_back b x y rest =
    let one : reverse (y ∷ rest) ≡ reverse rest ++ y ∷ [] = reverse-append (y ∷ []) rest in
    ap (after b) (reverse-append (x ∷ y ∷ []) rest) ∙ after_more b (reverse rest) y x ∙ ap (λ z. step_of b (after b z) y x) (sym one)

from_stands : (b : Body) → IsTrue (is_automaton b) → (ys : List ℤ) (s : Standing Ext) (x : ℤ) → Stands b s → Stands b (after_from b s x ys)
from_stands b a [] s x h = h
from_stands b a (y ∷ ys) s x h = from_stands b a ys (step_of b s x y) y ((kinds_are_kept b a).step s h x y)

-- after any series the registers have the kinds of their state
pub after_stands : (b : Body) → IsTrue (is_automaton b) → (xs : List ℤ) → Stands b (after b xs)
after_stands b a [] = (kinds_are_kept b a).start
after_stands b a (x ∷ xs) = from_stands b a xs (start_of b) x (kinds_are_kept b a).start

-- where a series is cut at a cell

module _ (p : Pair) (before : List ℤ) (x : ℤ) (rest : List ℤ) where
  abbrev pub whole : List ℤ
  whole = before ++ x ∷ rest

  pub left_cut : left_at p whole (length before + 1) ≡ after p.forward (before ++ x ∷ [])
  left_cut = ap (after p.forward) (take-append-add before (x ∷ rest) 1)

  pub right_cut : right_at p whole (length before + 1) ≡ after p.reverse (reverse (x ∷ rest))
  right_cut =
      ap (λ k. after p.reverse (reverse (drop k whole))) (back (length before))
      ∙ ap (λ z. after p.reverse (reverse z)) (drop-append_seam before (x ∷ rest))

  pub cell_cut : cell_at whole (length before + 1) ≡ x
  cell_cut = ap (λ k. get_or whole k (pos 0)) (back (length before)) ∙ get_or-append_seam before x rest (pos 0)

  -- the glued value at the cell x
  abbrev pub glued_cut : Ext
  glued_cut = glued_value p (after p.forward (before ++ x ∷ [])) (after p.reverse (reverse (x ∷ rest))) x (length whole)

  pub glued_is_cut : Glued p whole (length before + 1) ≡ glued_cut
  glued_is_cut =
      ap (λ s. glued_value p s (right_at p whole (length before + 1)) (cell_at whole (length before + 1)) (length whole)) left_cut
      ∙ ap (λ s. glued_value p (after p.forward (before ++ x ∷ [])) s (cell_at whole (length before + 1)) (length whole)) right_cut
      ∙ ap (λ c. glued_value p (after p.forward (before ++ x ∷ [])) (after p.reverse (reverse (x ∷ rest))) c (length whole)) cell_cut

-- a series is cut at each of its cells
pub cut_at : (xs : List ℤ) (i : ℕ) (d : ℤ) → i < length xs → take i xs ++ get_or xs i d ∷ drop (suc i) xs ≡ xs
cut_at [] i d h = absurd (omega (arith, h))
cut_at (x ∷ xs) zero d h = refl
cut_at (x ∷ xs) (suc i) d h = ap (◌∷◌ x) (cut_at xs i d (omega (arith, h)))

module _ (n : ℕ) (p : Pair) where
  -- the glued value of each cut is the answer
  abbrev pub AnswersAtCuts : Type 0
  AnswersAtCuts =
      (before : List ℤ) (x : ℤ) (rest : List ℤ) → length (before ++ x ∷ rest) ≤ n → AreCellValues (before ++ x ∷ rest) →
      glued_cut p before x rest ≡ answer p.forward (before ++ x ∷ rest)

  at_each_cell : AnswersAtCuts → (xs : List ℤ) → length xs ≤ n → AreCellValues xs → (i : ℕ) → i < length xs → Glued p xs (i + 1) ≡ answer p.forward xs
  at_each_cell h xs few cells i below =
      let e = cut_at xs i (pos 0) below in
      let k : length (take i xs) + 1 ≡ i + 1 = ap (λ z. z + 1) (length-take-le i xs (omega (arith, below))) in
      let before = take i xs in
      let x = get_or xs i (pos 0) in
      let rest = drop (suc i) xs in
      subst (λ z. Glued p z (i + 1) ≡ answer p.forward z) e
      (subst (λ m. Glued p (before ++ x ∷ rest) m ≡ answer p.forward (before ++ x ∷ rest)) k
      (glued_is_cut p before x rest
      ∙ h before x rest (subst (λ z. length z ≤ n) (sym e) few) (subst AreCellValues (sym e) cells)))

  pub local_by_cuts : AnswersAtCuts → LocalUpTo n p
  local_by_cuts h xs some few cells =
      let at : (k : ℕ) → 1 ≤ k → k ≤ length xs → Glued p xs k ≡ answer p.forward xs =
      λ k i j. subst (λ z. Glued p xs z ≡ answer p.forward xs) (forth k i) (at_each_cell h xs few cells (k - 1) (omega (arith, i, j))) in
      (at (length xs) some (omega arith), λ k i j. at k i (omega (arith, j)) ∙ sym (at (k + 1) (omega arith) (omega (arith, j))))
    where
      forth : (k : ℕ) → 1 ≤ k → k - 1 + 1 ≡ k
      forth k i = omega (arith, i)

  pub answers_at_cuts : LocalUpTo n p → AnswersAtCuts
  answers_at_cuts l before x rest few cells =
      let xs = before ++ x ∷ rest in
      let some : length before + 1 ≤ length xs = subst (λ m. length before + 1 ≤ m) (sym (length-append before (x ∷ rest))) (omega arith) in
      let h = l xs (omega (arith, some)) few cells in
      sym (glued_is_cut p before x rest)
      ∙ same_up_to_last (Glued p xs) (answer p.forward xs) (length xs) h.0 h.1 (length xs - (length before + 1)) (length before + 1) (omega arith)
      (omega (arith, some))

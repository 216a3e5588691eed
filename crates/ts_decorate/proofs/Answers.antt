-- The answer of a table run with exact operators is the fold over the ranges that are decoded.
use Rattle.std.specs.Prelude.{◌≡◌, ℕ, ◌+◌, ◌<◌, ◌≤◌, ℤ, true, List, [], ◌∷◌, ◌++◌, length, drop, get_or, map, Option, None, refl}
use Rattle.std.specs.List.{AllByRecursion}
use Rattle.std.specs.Option.{option_to_list}
use Rattle.std.proofs.Common.{sym, ◌∙◌, ap, subst, arith, append_assoc, length-drop, get_or-drop, drop-drop}
use Rattle.ts_base.specs.declared.range.Range.{Range}
use Rattle.ts_base.specs.Signature.{letter_of, signature_of}
use Rattle.ts_transducer.specs.declared.row.Row.{Row}
use Rattle.ts_transducer.specs.Typing.{is_typed}
use Rattle.ts_transducer.specs.Decode.{start_after, held_after, emitted_at, row_at, arrow_at, decode_from, decode}
use Rattle.ts_transducer.proofs.CallerLemmas.{move_typed, start_idle}
use Rattle.ts_automaton.specs.AutomatonRun.{Standing}
use Rattle.ts_decorate.specs.Operators.{Half, Operators, range_after, cells_after, ranges_after, total_of}
use Rattle.ts_decorate.proofs.Folds.{FoldLaws}
use Rattle.ts_decorate.proofs.Runs.{table_start, table_step, table_after}
use Rattle.ts_decorate.proofs.Registers.{CellsHold, ranges_value, cells_step, result_step, at_the_end}

module _ {V : Type 0} (o : Operators V) (good : V → Type 0) (laws : FoldLaws o.whole.phi o.whole.neutral good) (good_less : V → Type 0)
    (laws_less : FoldLaws o.less.phi o.less.neutral good_less) (right : (y : V) → o.g y (o.read o.whole.idle o.less.idle) ≡ y)
    (over : ℤ → V) (rows : List Row) (typed : is_typed rows ≡ true) (a : ℕ) (one : a ≤ 1)
    (vs : List V) (z : V) (fine : AllByRecursion good vs) (fine_less : AllByRecursion good_less vs) where
  -- what C and D hold, or E and F
  abbrev Stands : Half V → ℕ → ℕ → Option ℕ → Option Range → V → V → Type 0
  Stands h k q s r c d = CellsHold h a vs k (row_at rows q).kind s r c d

  -- one half over one sign, at the cells x and y
  half_step : (h : Half V) (fits : V → Type 0) → FoldLaws h.phi h.neutral fits → AllByRecursion fits vs →
      (x y : ℤ) (k q : ℕ) (s : Option ℕ) (r : Option Range) (c d : V) → k + 1 < length vs → get_or vs k z ≡ over x → get_or vs (k + 1) z ≡ over y →
      let m = arrow_at rows q (letter_of x y) in
      Stands h k q s r c d →
      Stands h (k + 1) m.next (start_after m.phase (k + 1) s) (held_after m.phase a (k + 1) s r) (range_after h a m.phase c d (over x) (over y))
      (cells_after h a m.phase d (over x) (over y))
  half_step h fits half_laws all x y k q s r c d room here next i =
      let m = arrow_at rows q (letter_of x y) in
      let s' = start_after m.phase (k + 1) s in
      let r' = held_after m.phase a (k + 1) s r in
      let t = move_typed rows typed q (letter_of x y) in
      let cells = cells_step h fits half_laws a one vs z all m.phase (row_at rows q).kind (row_at rows m.next).kind k s r c d room t i in
      subst (λ u. Stands h (k + 1) m.next s' r' (range_after h a m.phase c d u (over y)) (cells_after h a m.phase d u (over y))) here
      (subst (λ u. Stands h (k + 1) m.next s' r' (range_after h a m.phase c d (get_or vs k z) u) (cells_after h a m.phase d (get_or vs k z) u)) next cells)

  -- from any sign on: the cells that follow are x and ys
  answer_from : (ys : List ℤ) (x : ℤ) (k : ℕ) (st : Standing V) (s : Option ℕ) (r : Option Range) (rs : List Range) →
      drop k vs ≡ map over (x ∷ ys) → Stands o.whole k st.state s r st.regs.c st.regs.d → Stands o.less k st.state s r st.regs.e st.regs.f →
      st.regs.r ≡ ranges_value o vs rs →
      total_of o (table_after o over a rows st x ys).regs ≡ ranges_value o vs (rs ++ decode_from rows a k st.state s r (signature_of (x ∷ ys)))
  answer_from [] x k st s r rs e h i v =
      at_the_end o good laws good_less laws_less a one vs z fine fine_less right k (row_at rows st.state).kind s r st.regs rs h i v
  answer_from (y ∷ ys) x k st s r rs e h i v =
      let l = letter_of x y in
      let m = arrow_at rows st.state l in
      let f = m.phase in
      let n = length-drop k vs in
      let room : k + 1 < length vs = let j : length (drop k vs) ≡ length (map over (x ∷ y ∷ ys)) = ap length e in omega arith in
      let here : get_or vs k z ≡ over x =
      ap (λ j. get_or vs j z) (let j : k ≡ k + 0 = omega arith in j) ∙ sym (get_or-drop k vs 0 z) ∙ ap (λ j. get_or j 0 z) e in
      let next : get_or vs (k + 1) z ≡ over y = sym (get_or-drop k vs 1 z) ∙ ap (λ j. get_or j 1 z) e in
      let rest : drop (k + 1) vs ≡ map over (y ∷ ys) = sym (drop-drop 1 k vs) ∙ ap (drop 1) e in
      let t = move_typed rows typed st.state l in
      let ranges =
      result_step o good laws good_less laws_less a one vs z fine fine_less f (row_at rows st.state).kind
      (row_at rows m.next).kind k s r st.regs rs room t h i v in
      let s' = start_after f (k + 1) s in
      let r' = held_after f a (k + 1) s r in
      let cells = half_step o.whole good laws fine x y k st.state s r st.regs.c st.regs.d room here next h in
      let cells_less = half_step o.less good_less laws_less fine_less x y k st.state s r st.regs.e st.regs.f room here next i in
      let ranges' = subst (λ u. ranges_after o a f st.regs u (over y) ≡ ranges_value o vs (rs ++ option_to_list (emitted_at f a (k + 1) s r))) here
      (subst (λ u. ranges_after o a f st.regs (get_or vs k z) u ≡ ranges_value o vs (rs ++ option_to_list (emitted_at f a (k + 1) s r))) next ranges) in
      answer_from ys y (k + 1) (table_step o over a rows st x y) s' r' (rs ++ option_to_list (emitted_at f a (k + 1) s r)) rest cells cells_less ranges'
      ∙ ap (λ u. ranges_value o vs u)
      (append_assoc rs (option_to_list (emitted_at f a (k + 1) s r)) (decode_from rows a (k + 1) m.next s' r' (signature_of (y ∷ ys))))

  idle_start : (h : Half V) → Stands h 0 0 None None h.idle h.neutral
  idle_start h = subst (λ u. CellsHold h a vs 0 u None None h.idle h.neutral) (sym (start_idle rows typed)) (refl, refl, refl, refl)

  -- the law of decoration, in exact arithmetic and before the mark
  pub answer_is : (x : ℤ) (ys : List ℤ) → vs ≡ map over (x ∷ ys) →
      total_of o (table_after o over a rows (table_start o) x ys).regs ≡ ranges_value o vs (decode rows a (signature_of (x ∷ ys)))
  answer_is x ys e = answer_from ys x 0 (table_start o) None None [] e (idle_start o.whole) (idle_start o.less) refl

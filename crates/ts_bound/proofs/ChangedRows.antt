-- Rows after a change of the cells: those that stay known, or are known again, are those of the cells now.
use Rattle.std.proofs.Common.{◌≡◌, ℕ, ◌-◌, ◌<◌, ◌≤◌, ℤ, List, [], length, take, drop, reverse, get_or, Option, Some, None, sym, ap, ◌∙◌, subst, arith}
use Rattle.std.proofs.lemmas.List.{get_or-reverse, length-reverse}
use Rattle.ts_domain.specs.Boxes.{Box}
use Rattle.ts_glue.specs.Pairs.{Pair}
use Rattle.ts_sweep.specs.Sides.{Sides}
use Rattle.ts_bound.specs.declared.gone.Change.{Change}
use Rattle.ts_bound.specs.declared.planned.Planned.{Planned}
use Rattle.ts_bound.specs.AnyRows.{form_sides}
use Rattle.ts_bound.specs.Gone.{AreLost}
use Rattle.ts_bound.specs.BoxRows.{AreBehind, AreFirst, AreKeptBehind, GoOnBehind, IsChange, IsPlannedBack}
use Rattle.ts_bound.specs.RowStacks.{AreKept, GoOn, IsLeft, Stack, sight}
use Rattle.ts_bound.proofs.KnownRows.{reverse_take, turned_front}
use Rattle.ts_bound.proofs.LaidRows.{left_planned, left_stays}

-- the cells from the last one on

turned_rest : (n before : ℕ) (b later : Box) → length b ≡ n → length later ≡ n → take before later ≡ take before b →
    drop (n - before) (reverse later) ≡ drop (n - before) (reverse b)
turned_rest n before b later e f same =
    ap (λ m. drop (m - before) (reverse later)) (sym f) ∙ sym (reverse_take before later) ∙ ap reverse same ∙ reverse_take before b
    ∙ ap (λ m. drop (m - before) (reverse b)) e

turned_cell : (n last : ℕ) (b : Box) → length b ≡ n → 0 < last → last ≤ n → get_or (reverse b) (n - last) [] ≡ get_or b (last - 1) []
turned_cell n last b long some within =
    let place : length b - 1 - (n - last) ≡ last - 1 = omega (arith, long, some, within) in
    get_or-reverse b (n - last) [] (omega (arith, long, some, within)) ∙ ap (λ i. get_or b i []) place

-- the domains of a cell that changes

module _ (c : Change) (b later : Box) (d : IsChange c b later) where
  pub long_later : length later ≡ length b
  long_later = d.differ.count_later ∙ sym d.differ.count

  pub first_inside : c.first < length b
  first_inside = let some = c.some in let within = c.within in let n = d.differ.count in omega (arith, some, within, n)

  pub last_inside : c.last - 1 < length b
  last_inside = let some = c.some in let within = c.within in let n = d.differ.count in omega (arith, some, within, n)

  turned : (cells : Box) → length cells ≡ c.count → get_or (reverse cells) (c.count - c.last) [] ≡ get_or cells (c.last - 1) []
  turned cells e = let some = c.some in turned_cell c.count c.last cells e (omega (arith, some)) c.within

  -- what a change leaves of the backward rows

  pub behind_left : (p : Option Pair) (ends : Sides) (old new : Stack) (before now : List ℤ) → form_sides old.planned.form ≡ ends →
      IsPlannedBack p old.planned → AreBehind p ends b old.known → GoOnBehind p ends b old.laid → AreKeptBehind p ends b old.kept →
      get_or b (c.last - 1) [] ≡ before → get_or (reverse later) (c.count - c.last) [] ≡ now →
      IsLeft (c.count - c.last) (c.count - c.first) c.gone_last before now old new →
      AreBehind p ends later new.known × GoOnBehind p ends later new.laid × AreKeptBehind p ends later new.kept
  behind_left None ends old new before now is plan h g k e e' f = (tt, tt, tt)
  behind_left (Some p) ends old new before now is plan h g k e e' f =
      let known = subst (λ s. AreFirst (sight p.reverse s) (reverse b) old.known) (sym is) h in
      let laid = subst (λ s. GoOn (sight p.reverse s) (reverse b) old.laid.rows old.laid.from) (sym is) g in
      let kept = subst (λ s. AreKept (sight p.reverse s) (reverse b) old.kept) (sym is) k in
      let lost = subst (λ z. AreLost c.gone_last z now) e
      (subst (AreLost c.gone_last (get_or b (c.last - 1) [])) (sym (turned later d.differ.count_later) ∙ e') d.gone_last) in
      let rows = left_stays p.reverse (reverse b) (reverse later) (c.count - c.last) (c.count - c.first) old plan known laid kept
      (length-reverse later ∙ long_later ∙ sym (length-reverse b))
      (turned_front c.count c.last b later d.differ.count d.differ.count_later d.differ.behind)
      (turned_rest c.count c.first b later d.differ.count d.differ.count_later d.differ.before) before now (turned b d.differ.count ∙ e) e' c.gone_last new f
      lost in
      let same = ap (λ (q : Planned). form_sides q.form) (left_planned (c.count - c.last) (c.count - c.first) c.gone_last before now old new f) ∙ is in (
        subst (λ s. AreFirst (sight p.reverse s) (reverse later) new.known) same rows.known,
        subst (λ s. GoOn (sight p.reverse s) (reverse later) new.laid.rows new.laid.from) same rows.laid,
        subst (λ s. AreKept (sight p.reverse s) (reverse later) new.kept) same rows.kept,
      )

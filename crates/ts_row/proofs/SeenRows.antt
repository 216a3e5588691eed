-- What is seen of the next row depends on what is seen of the row before.
use Rattle.std.proofs.Common.{◌≡◌, ◌⊎◌, inl, inr, ◌<◌, ℕ, Bool, true, false, cond, nat_eq, ℤ, length, refl, sym, ap, ◌∙◌}
use Rattle.std.specs.Prelude.{IsTrue}
use Rattle.ts_base.specs.declared.letter.Letter.{Letter}
use Rattle.ts_base.specs.declared.letter.Letter.TheVariants.{Less, Equal, Greater}
use Rattle.ts_automaton.specs.declared.regs.Hull.{Hull}
use Rattle.ts_automaton.specs.Body.{Body, Move, move_on, node_at}
use Rattle.ts_automaton.specs.Formula.{is_zero}
use Rattle.ts_automaton.specs.Registers.{rests}
use Rattle.ts_automaton.specs.Typing.{is_automaton}
use Rattle.ts_hull.specs.Hulls.{none, hull_of_both}
use Rattle.ts_hull.specs.Sealed.{move_at}
use Rattle.ts_hull.specs.Sweeps.{total}
use Rattle.ts_hull.proofs.Sums.{total_same}
use Rattle.ts_row.specs.Rows.{gives_to, next_hull, state_gives}
use Rattle.ts_row.proofs.WidthLaws.{move_narrow, move_rests}
use Rattle.ts_sweep.specs.Columns.{gives}
use Rattle.ts_sweep.specs.Fronts.{IsMoveFor}
use Rattle.ts_sweep.specs.FrontLaws.{move_for}
use Rattle.ts_sweep.specs.Sides.{Sides, BothEnds, seen_hull}
use Rattle.ts_sweep.proofs.SeenLaws.{seen_both, seen_cond, seen_total}
use Rattle.ts_sweep.proofs.SeenMoves.{gives_seen}

module _ (s : Sides) (b : Body) (rules : IsTrue (is_automaton b)) (alone : (s ≡ BothEnds) ⊎ (b.wide ≡ false)) (n : ℕ) (v : ℕ → ℤ) (w : ℤ) (t : ℕ) where
  -- what is seen of what a move of a state gives
  one_seen : (q : ℕ) (l : Letter) (h : ℕ → Hull) → q < length b.states →
      seen_hull s (gives_to (move_at b q l) l false n v (λ i. seen_hull s (h i)) w t) ≡ seen_hull s (gives_to (move_at b q l) l false n v h w t)
  unfolding move_at
  one_seen q l h lt =
      let m = move_on l (node_at b.states q) in
      let suits : IsMoveFor s m = move_for s b.wide m alone (move_narrow b rules q l lt m refl) in
      seen_cond s (nat_eq m.next t) (gives m l false n v (λ i. seen_hull s (h i)) w)
      ∙ ap (λ z. cond (nat_eq m.next t) z none) (gives_seen s b.wide m l false n v h w alone suits (move_rests b rules q l lt m refl))
      ∙ sym (seen_cond s (nat_eq m.next t) (gives m l false n v h w))

  three_seen : (x y z x' y' z' : Hull) → seen_hull s x ≡ seen_hull s x' → seen_hull s y ≡ seen_hull s y' → seen_hull s z ≡ seen_hull s z' →
      seen_hull s (hull_of_both (hull_of_both x y) z) ≡ seen_hull s (hull_of_both (hull_of_both x' y') z')
  three_seen x y z x' y' z' p q r =
      seen_both s (hull_of_both x y) z ∙ ap (λ u. hull_of_both u (seen_hull s z)) (seen_both s x y)
      ∙ ap (λ u. hull_of_both (hull_of_both u (seen_hull s y)) (seen_hull s z)) p
      ∙ ap (λ u. hull_of_both (hull_of_both (seen_hull s x') u) (seen_hull s z)) q
      ∙ ap (hull_of_both (hull_of_both (seen_hull s x') (seen_hull s y'))) r
      ∙ sym (seen_both s (hull_of_both x' y') z' ∙ ap (λ u. hull_of_both u (seen_hull s z')) (seen_both s x' y'))

  state_seen : (q : ℕ) (h : ℕ → Hull) → q < length b.states →
      seen_hull s (state_gives b q n v (λ i. seen_hull s (h i)) w t) ≡ seen_hull s (state_gives b q n v h w t)
  unfolding state_gives
  state_seen q h lt = three_seen _ _ _ _ _ _ (one_seen q Less h lt) (one_seen q Equal h lt) (one_seen q Greater h lt)

  -- what is seen of what all states give
  pub next_seen : (h : ℕ → ℕ → Hull) →
      seen_hull s (next_hull b n v (λ q i. seen_hull s (h q i)) w t) ≡ seen_hull s (next_hull b n v h w t)
  next_seen h =
      let seen_one : ℕ → Hull = λ q. state_gives b q n v (λ i. seen_hull s (h q i)) w t in
      let one : ℕ → Hull = λ q. state_gives b q n v (h q) w t in
      seen_total s (length b.states) seen_one
      ∙ total_same (length b.states) (λ q. seen_hull s (seen_one q)) (λ q. seen_hull s (one q)) (λ q lt. state_seen q (h q) lt)
      ∙ sym (seen_total s (length b.states) one)

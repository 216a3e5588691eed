-- A row that takes in moves, one after another.
use Rattle.std.proofs.Common.{◌≡◌, inl, ℕ, suc, ◌+◌, ◌<◌, ◌≤◌, Bool, true, false, cond, nat_eq, ℤ, List, [], length, get_or, set, refl, sym, ap, subst, ◌∙◌, arith}
use Rattle.std.proofs.lemmas.Bool.{eqb-true, eqb-false}
use Rattle.std.proofs.lemmas.List.{length-set, get_or-set_same, get_or-set_other}
use Rattle.ts_automaton.specs.declared.regs.Hull.{Hull}
use Rattle.ts_automaton.specs.Body.{Body, Move}
use Rattle.ts_hull.specs.Hulls.{none, hull_of_both}
use Rattle.ts_hull.specs.Sweeps.{total as hull_total}
use Rattle.ts_hull.proofs.SpanHulls.{both_assoc}
use Rattle.ts_row.specs.declared.between.Between.{Between}
use Rattle.ts_row.specs.declared.between.On.{On}
use Rattle.ts_row.specs.Rows.{nothing, lanes_of, AreAll, IsColumn, IsRow, hull_in, seen_gives, state_gives, HasTaken}
use Rattle.ts_row.specs.Takings.{count_in, value_in, HasMoved, taken_to}
use Rattle.ts_sweep.specs.declared.packed.PackedHull.{PackedHull}
use Rattle.ts_sweep.specs.Columns.{gives, hull_at}
use Rattle.ts_sweep.specs.PackedLaws.{packed_takes_none, none_unpacked}
use Rattle.ts_sweep.specs.Packed.{unpacked}
use Rattle.ts_sweep.specs.Sides.{lane_count, seen_hull, sides}
use Rattle.ts_sweep.specs.SidesLaws.{none_by}
use Rattle.ts_sweep.proofs.SeenLaws.{none_seen, seen_total}

-- a row that takes in one thing after the other has taken in both
pub taken_both : (n s k : ℕ) (w : ℕ → ℤ) (f g : ℤ → ℕ → Hull) (a b c : List (List (PackedHull n))) → HasTaken n s k w f a b → HasTaken n s k w g b c →
    HasTaken n s k w (λ x t. hull_of_both (f x t) (g x t)) a c
taken_both n s k w f g a b c p q t j lt less =
    q t j lt less ∙ ap (λ z. hull_of_both z (g (w j) t)) (p t j lt less) ∙ both_assoc (hull_in n a t j) (f (w j) t) (g (w j) t)

pub taken_as : (n s k : ℕ) (w : ℕ → ℤ) (f g : ℤ → ℕ → Hull) (a b : List (List (PackedHull n))) → ((x : ℤ) (t : ℕ) → f x t ≡ g x t) →
    HasTaken n s k w f a b → HasTaken n s k w g a b
taken_as n s k w f g a b same p t j lt less = p t j lt less ∙ ap (hull_of_both (hull_in n a t j)) (same (w j) t)

-- a move is taken in into the column that it leads to
module _ (n s k r : ℕ) (old : List (List (PackedHull n))) (column : List (PackedHull n)) (new : List (List (PackedHull n))) (row : IsRow n s k old)
    (inside : r < s) (set_is : new ≡ set old r column) where
  here_is : get_or new r [] ≡ column
  here_is = let len = row.len in ap (λ z. get_or z r []) set_is ∙ get_or-set_same old r column [] (omega (arith, inside, len))

  other_is : (u : ℕ) → (r ≡ u → ⊥) → get_or new u [] ≡ get_or old u []
  other_is u apart = ap (λ z. get_or z u []) set_is ∙ get_or-set_other old r u column [] (λ e. apart (sym e))

  pub row_with : IsColumn n k column → IsRow n s k new
  row_with packed = record {
    len = ap length set_is ∙ length-set old r column ∙ row.len;
    columns = λ q lt. go q lt (nat_eq r q) refl;
  }
    where
      go : (q : ℕ) → q < s → (b : Bool) → nat_eq r q ≡ b → IsColumn n k (get_or new q [])
      go q lt true e = subst (λ z. IsColumn n k (get_or new z [])) (eqb-true r q e) (subst (IsColumn n k) (sym here_is) packed)
      go q lt false e = subst (IsColumn n k) (sym (other_is q (eqb-false r q e))) (row.columns q lt)

  pub move_taken : (t : Between n) (on : On) (m : Move) → 6 ≤ lane_count n → m.next ≡ r → count_in t.next_values.now ≡ k →
      HasMoved n t on m (get_or old r []) column → HasTaken n s k (value_in t.next_values.now) (taken_to n t on m) old new
  move_taken t on m big leads counted moved u j lt less = go (nat_eq m.next u) refl
    where
      x : Hull
      x = gives m on.letter on.twin (count_in t.values.now) (value_in t.values.now) (hull_at (lanes_of n) (nothing n) t.before.now)
          (value_in t.next_values.now j)

      go : (b : Bool) → nat_eq m.next u ≡ b → hull_in n new u j ≡ hull_of_both (hull_in n old u j) (seen_hull (sides n) (cond (nat_eq m.next u) x none))
      go true e =
          let to : r ≡ u = sym leads ∙ eqb-true m.next u e in
          subst (λ z. hull_in n new z j ≡ hull_of_both (hull_in n old z j) (seen_hull (sides n) x)) to
          (ap (λ z. unpacked (lanes_of n (get_or z j (nothing n)))) here_is ∙ moved j (omega (arith, less, counted)))
          ∙ ap (λ b. hull_of_both (hull_in n old u j) (seen_hull (sides n) (cond b x none))) (sym e)
      go false e =
          let apart : r ≡ u → ⊥ = λ same. eqb-false m.next u e (leads ∙ same) in
          ap (λ z. unpacked (lanes_of n (get_or z j (nothing n)))) (other_is u apart)
          ∙ sym (packed_takes_none (lane_count n) (lanes_of n (get_or (get_or old u []) j (nothing n))) big ((row.columns u lt).1 j less))
          ∙ ap (hull_of_both (hull_in n old u j)) (sym (none_seen (sides n)))
          ∙ ap (λ b. hull_of_both (hull_in n old u j) (seen_hull (sides n) (cond b x none))) (sym e)

-- a row has taken in the moves of the states so far
pub record IsFilled (n : ℕ) (b : Body) (count : ℕ) (v : ℕ → ℤ) (h : ℕ → ℕ → Hull) (k : ℕ) (w : ℕ → ℤ) (q : ℕ) (next : List (List (PackedHull n))) : Type 0 where
  pub row : IsRow n (length b.states) k next
  pub hulls : (t j : ℕ) → t < length b.states → j < k → hull_in n next t j ≡ hull_total q (λ p. seen_gives n b p count v (h p) (w j) t)

empty_total : (f : ℕ → Hull) → none ≡ hull_total 0 f
unfolding hull_total
empty_total f = refl

more_total : (q : ℕ) (f : ℕ → Hull) → hull_of_both (hull_total q f) (f q) ≡ hull_total (suc q) f
unfolding hull_total
more_total q f = refl

pub filled_none : (n : ℕ) (b : Body) (count : ℕ) (v : ℕ → ℤ) (h : ℕ → ℕ → Hull) (k : ℕ) (w : ℕ → ℤ) (next : List (List (PackedHull n))) → 6 ≤ lane_count n →
    length next ≡ length b.states → ((q : ℕ) → q < length b.states → AreAll n (nothing n) k (get_or next q [])) → IsFilled n b count v h k w 0 next
filled_none n b count v h k w next big len each = record {
  row = record {
    len = len;
    columns = λ q lt. ((each q lt).0, λ i less. inl (ap (lanes_of n) ((each q lt).1 i less) ∙ none_by (sides n) n));
  };
  hulls = λ t j lt less. ap (λ z. unpacked (lanes_of n z)) ((each t lt).1 j less) ∙ ap unpacked (none_by (sides n) n)
      ∙ none_unpacked (lane_count n) big ∙ empty_total _;
}

pub filled_more : (n : ℕ) (b : Body) (count : ℕ) (v : ℕ → ℤ) (h : ℕ → ℕ → Hull) (k : ℕ) (w : ℕ → ℤ) (q : ℕ) (next next' : List (List (PackedHull n))) →
    IsFilled n b count v h k w q next → IsRow n (length next) k next' → HasTaken n (length next) k w (seen_gives n b q count v (h q)) next next' →
    IsFilled n b count v h k w (q + 1) next'
filled_more n b count v h k w q next next' filled row taken =
    let long = filled.row.len in
    let more : suc q ≡ q + 1 = omega arith in
    record {
      row = subst (λ z. IsRow n z k next') long row;
      hulls = λ t j lt less. taken t j (omega (arith, lt, long)) less
          ∙ ap (λ z. hull_of_both z (seen_gives n b q count v (h q) (w j) t)) (filled.hulls t j lt less)
          ∙ more_total q (λ p. seen_gives n b p count v (h p) (w j) t)
          ∙ ap (λ z. hull_total z (λ p. seen_gives n b p count v (h p) (w j) t)) more;
    }

pub filled_all : (n : ℕ) (b : Body) (count : ℕ) (v : ℕ → ℤ) (h : ℕ → ℕ → Hull) (k : ℕ) (w : ℕ → ℤ) (q : ℕ) (next : List (List (PackedHull n))) →
    IsFilled n b count v h k w q next → q ≡ length b.states →
    IsRow n (length b.states) k next
    × ((t j : ℕ) → t < length b.states → j < k → hull_in n next t j
    ≡ seen_hull (sides n) (hull_total (length b.states) (λ p. state_gives b p count v (h p) (w j) t)))
filled_all n b count v h k w q next filled same = (
  filled.row,
  λ t j lt less. filled.hulls t j lt less ∙ ap (λ z. hull_total z (λ p. seen_gives n b p count v (h p) (w j) t)) same
      ∙ sym (seen_total (sides n) (length b.states) (λ p. state_gives b p count v (h p) (w j) t)),
)

pub two_taken : (n s k : ℕ) (w : ℕ → ℤ) (f g h : ℤ → ℕ → Hull) (a b c : List (List (PackedHull n))) → IsRow n s k b → HasTaken n s k w f a b →
    HasTaken n (length b) k w g b c → ((x : ℤ) (t : ℕ) → hull_of_both (f x t) (g x t) ≡ h x t) → HasTaken n s k w h a c
two_taken n s k w f g h a b c row p q same =
    taken_as n s k w (λ x t. hull_of_both (f x t) (g x t)) h a c same
    (taken_both n s k w f g a b c p (subst (λ z. HasTaken n z k w g b c) row.len q))

-- a column that stays as it is until a move is taken in has taken it in from the start
pub moved_from : (n : ℕ) (t : Between n) (on : On) (m : Move) (a b c : List (PackedHull n)) → b ≡ a → HasMoved n t on m b c → HasMoved n t on m a c
moved_from n t on m a b c same moved = subst (λ z. HasMoved n t on m z c) same moved

-- The value whose end is best, the least of several, by looking at one value after another.
use Rattle.std.proofs.Common.{◌≡◌, ◌⊎◌, ℕ, ◌≤◌, ℤ, ◌≤ℤ◌, ◌<ℤ◌, Bool, true, false, not, List, [], ◌∷◌}
use Rattle.std.proofs.Common.{Option, Some, None, drop, length, slice_get, refl, sym, ◌∙◌, ap, subst, inl, inr, ⊎_elim, arith}
use Rattle.std.proofs.lemmas.Int.{ints}
use Rattle.std.proofs.lemmas.Bool.{not-false, not-true, not_from_false}
use Rattle.std.proofs.lemmas.Option.{none-some, same_Some}
use Rattle.std.specs.Prelude.{Contains}
use Rattle.ts_base.specs.declared.ext.Ext.{Ext}
use Rattle.ts_base.specs.declared.goal.Goal.{Goal}
use Rattle.ts_base.specs.declared.goal.Goal.TheVariants.{Maximise, Minimise}
use Rattle.ts_base.specs.Numbers.{ext_le}
use Rattle.ts_base.proofs.Order.{le_trans, le_antisym, le_other}
use Rattle.ts_domain.specs.Values.{IsRising}
use Rattle.ts_domain.proofs.Sets.{contains_cons, nothing_in, each_contains}
use Rattle.ts_model.specs.FirstBest.{is_better}
use Rattle.ts_bound.specs.Looks.{is_looked}
use Rattle.ts_bound.specs.TermSpans.{Automata, LooksIn}
use Rattle.ts_bound.proofs.Reached.{values_narrowed}
use Rattle.ts_glue.specs.Pairs.{Pair}
use Rattle.ts_filter.specs.Boxes.{Box, HasCell, values_at}
use Rattle.ts_filter.specs.Ends.{best_end}
use Rattle.ts_filter.specs.KeptValue.{IsPreferred, IsKeptOver, IsKept, end_with, end_in}
use Rattle.ts_filter.specs.CellHulls.{AtCell}
use Rattle.ts_filter.proofs.DropLaws.{rising_parts}
use Rattle.ts_filter.proofs.Looked.{value_outside}

-- v isn't better than w: then w is better, or they are the same
not_better : (goal : Goal) (v w : Ext) → is_better goal v w ≡ false → (is_better goal w v ≡ true) ⊎ (w ≡ v)
not_better Maximise v w e = go (ext_le w v) refl
  where
    go : (t : Bool) → ext_le w v ≡ t → (not (ext_le w v) ≡ true) ⊎ (w ≡ v)
    go true f = inr (le_antisym w v f (not-false (ext_le v w) e))
    go false f = inl (not_from_false (ext_le w v) f)
not_better Minimise v w e = go (ext_le v w) refl
  where
    go : (t : Bool) → ext_le v w ≡ t → (not (ext_le v w) ≡ true) ⊎ (w ≡ v)
    go true f = inr (le_antisym w v (not-false (ext_le w v) e) f)
    go false f = inl (not_from_false (ext_le v w) f)

-- the order of what isn't at most
strict : (a b c : Ext) → not (ext_le a b) ≡ true → not (ext_le b c) ≡ true → not (ext_le a c) ≡ true
strict a b c e f = go (ext_le a c) refl
  where
    go : (t : Bool) → ext_le a c ≡ t → not (ext_le a c) ≡ true
    go false g = not_from_false (ext_le a c) g
    go true g =
        let h = le_trans b a c (le_other a b (not-true (ext_le a b) e)) g in
        let n = not-true (ext_le b c) f in absurd (let z : ◌≡◌ {A = Bool} true false = sym h ∙ n in cc)

pub better_trans : (goal : Goal) (u v w : Ext) → is_better goal u v ≡ true → is_better goal v w ≡ true → is_better goal u w ≡ true
better_trans Maximise u v w e f = strict u v w e f
better_trans Minimise u v w e f = strict w v u f e

at_most_self : (v : ℤ) → v ≤ℤ v
at_most_self v = omega (arith, ints)

less : (a b : ℤ) → a <ℤ b → a ≤ℤ b
less a b l = omega (arith, ints, l)

module _ (goal : Goal) (end : ℤ → Ext) where
  prefer_self : (v : ℤ) → IsPreferred goal end v v
  prefer_self v = inr (refl, at_most_self v)

  -- a value that is better than the one kept so far is preferred to all that this was preferred to
  prefer_better : (v w u : ℤ) → is_better goal (end v) (end w) ≡ true → IsPreferred goal end w u → IsPreferred goal end v u
  prefer_better v w u e (inl f) = inl (better_trans goal (end v) (end w) (end u) e f)
  prefer_better v w u e (inr f) = inl (subst (λ x. is_better goal (end v) x ≡ true) f.0 e)

  keep_first : (w v : ℤ) → w ≤ℤ v → is_better goal (end v) (end w) ≡ false → IsPreferred goal end w v
  keep_first w v l e = ⊎_elim (λ f. inl f) (λ f. inr (f, l)) (not_better goal (end v) (end w) e)

-- what is known while the values are gone through
pub record IsSoFar (goal : Goal) (end : ℤ → Ext) (all left : List ℤ) (kept : ℤ) : Type 0 where
  pub there : Contains all kept
  pub inside : (u : ℤ) → Contains left u → Contains all u
  pub rises : IsRising left
  pub low : (u : ℤ) → Contains left u → kept ≤ℤ u
  pub over : (u : ℤ) → Contains all u → Contains left u ⊎ IsPreferred goal end kept u

module _ (goal : Goal) (end : ℤ → Ext) (all : List ℤ) where
  module _ (left rest : List ℤ) (kept v : ℤ) (h : IsSoFar goal end all left kept) (e : left ≡ v ∷ rest) where
    first_left : Contains left v
    first_left = subst (λ z. Contains z v) (sym e) ((contains_cons v rest v).1 (inl refl))

    rest_left : (u : ℤ) → Contains rest u → Contains left u
    rest_left u c = subst (λ z. Contains z u) (sym e) ((contains_cons v rest u).1 (inr c))

    from_left : (u : ℤ) → Contains left u → (v ≡ u) ⊎ Contains rest u
    from_left u c = (contains_cons v rest u).0 (subst (λ z. Contains z u) e c)

    pub kept_changes : is_better goal (end v) (end kept) ≡ true → IsSoFar goal end all rest v
    kept_changes f =
        let r = rising_parts v rest (subst IsRising e h.rises) in
        record {
          there = h.inside v first_left;
          inside = λ u c. h.inside u (rest_left u c);
          rises = r.1;
          low = λ u c. less v u (each_contains (λ y. v <ℤ y) rest u r.0 c);
          over = λ u c. ⊎_elim
              (λ l. ⊎_elim (λ same. inr (subst (λ x. IsPreferred goal end v x) same (prefer_self goal end v))) (λ g. inl g) (from_left u l))
              (λ g. inr (prefer_better goal end v kept u f g)) (h.over u c);
        }

    pub kept_stays : is_better goal (end v) (end kept) ≡ false → IsSoFar goal end all rest kept
    kept_stays f =
        let r = rising_parts v rest (subst IsRising e h.rises) in
        record {
          there = h.there;
          inside = λ u c. h.inside u (rest_left u c);
          rises = r.1;
          low = λ u c. h.low u (rest_left u c);
          over = λ u c. ⊎_elim
              (λ l. ⊎_elim (λ same. inr (subst (λ x. IsPreferred goal end kept x) same (keep_first goal end kept v (h.low v first_left) f)))
              (λ g. inl g) (from_left u l))
              (λ g. inr g) (h.over u c);
        }

  pub kept_of_all : (left : List ℤ) (kept : ℤ) → IsSoFar goal end all left kept → left ≡ [] → (u : ℤ) → Contains all u → IsPreferred goal end kept u
  kept_of_all left kept h e u c = ⊎_elim (λ l. absurd (nothing_in u (subst (λ z. Contains z u) e l))) (λ g. g) (h.over u c)

-- the least value is kept before the others are gone through
pub kept_begins : (goal : Goal) (end : ℤ → Ext) (all : List ℤ) (first : ℤ) → IsRising all → slice_get all 0 ≡ Some first →
    IsSoFar goal end all (drop 1 all) first
kept_begins goal end [] first rises e = absurd (none-some first e)
kept_begins goal end (v ∷ rest) first rises e =
    let r = rising_parts v rest rises in
    subst (λ w. IsSoFar goal end (v ∷ rest) rest w) (same_Some v first e) (record {
      there = (contains_cons v rest v).1 (inl refl);
      inside = λ u c. (contains_cons v rest u).1 (inr c);
      rises = r.1;
      low = λ u c. less v u (each_contains (λ y. v <ℤ y) rest u r.0 c);
      over = λ u c. ⊎_elim (λ same. inr (subst (λ x. IsPreferred goal end v x) same (prefer_self goal end v))) (λ g. inl g)
          ((contains_cons v rest u).0 c);
    })

pub some_first : (all : List ℤ) (first : ℤ) → slice_get all 0 ≡ Some first → 1 ≤ length all
some_first [] first e = absurd (none-some first e)
some_first (v ∷ rest) first e = omega arith

-- the comparison that the code makes is that of the ends
pub told_so : (goal : Goal) (x y e f : Ext) (r t : Bool) → r ≡ is_better goal x y → x ≡ e → y ≡ f → r ≡ t → is_better goal e f ≡ t
told_so goal x y e f r t h p q s =
    sym (ap (λ z. is_better goal z f) p) ∙ sym (ap (λ z. is_better goal x z) q) ∙ sym h ∙ s

module _ (a : Automata) (goal : Goal) (k : ℕ) (b : Box) (v : ℤ) (looks : LooksIn a b) where
  ends_same : (u : ℤ) → HasCell k b → end_in a goal k b u ≡ end_with a goal k b u
  ends_same u c = ap (best_end goal) (sym (values_narrowed a b looks k c.0 c.1 u))

  by_same_ends : (u : ℤ) → HasCell k b → IsPreferred goal (end_in a goal k b) v u → IsPreferred goal (end_with a goal k b) v u
  by_same_ends u c (inl h) =
      inl (subst (λ x. is_better goal x (end_with a goal k b u) ≡ true) (ends_same v c)
      (subst (λ x. is_better goal (end_in a goal k b v) x ≡ true) (ends_same u c) h))
  by_same_ends u c (inr h) = inr (sym (ends_same v c) ∙ h.0 ∙ ends_same u c, h.1)

  pub kept_split : (a.pair ≡ None → ⊥) → HasCell k b → Contains (values_at k b) v →
      ((u : ℤ) → Contains (values_at k b) u → IsPreferred goal (end_in a goal k b) v u) → IsKept a goal k b v
  kept_split n c there best = record { there = there; over = λ u g. go u g a.pair refl }
    where
      go : (u : ℤ) → Contains (values_at k b) u → (o : Option Pair) → a.pair ≡ o → IsKeptOver o goal (end_with a goal k b) v u
      go u g None e = absurd (n e)
      go u g (Some p) e = by_same_ends u c (best u g)

  -- where the machine can't be split the least value is kept, and outside the window, where all ends are one
  pub kept_least : (a.pair ≡ None) ⊎ (is_looked a.window k ≡ false) → HasCell k b → Contains (values_at k b) v →
      ((u : ℤ) → Contains (values_at k b) u → v ≤ℤ u) → IsKept a goal k b v
  kept_least why c there least = record { there = there; over = λ u g. go u (least u g) a.pair refl why }
    where
      go : (u : ℤ) → v ≤ℤ u → (o : Option Pair) → a.pair ≡ o → (a.pair ≡ None) ⊎ (is_looked a.window k ≡ false) → IsKeptOver o goal (end_with a goal k b) v u
      go u le None is why = le
      go u le (Some p) is (inl plain) = absurd (none-some p (sym plain ∙ is))
      go u le (Some p) is (inr e) = inr (
        sym (ends_same v c) ∙ ap (best_end goal) (value_outside a k b v e ∙ sym (value_outside a k b u e)) ∙ ends_same u c,
        le,
      )

pub kept_by : (t : AtCell) (a : Automata) (b : Box) (goal : Goal) (k : ℕ) (v : ℤ) → LooksIn a b → t.machine ≡ a → t.cells ≡ b → t.cell ≡ k →
    (a.pair ≡ None → ⊥) → HasCell k b → Contains (values_at t.cell t.cells) v →
    ((u : ℤ) → Contains (values_at t.cell t.cells) u → IsPreferred goal (end_in t.machine goal t.cell t.cells) v u) → IsKept a goal k b v
kept_by t a b goal k v looks is_a is_b is_k n c there best =
    kept_split a goal k b v looks n c
    (subst (λ c. Contains (values_at k c) v) is_b (subst (λ j. Contains (values_at j t.cells) v) is_k there))
    (subst (λ m. (u : ℤ) → Contains (values_at k b) u → IsPreferred goal (end_in m goal k b) v u) is_a
    (subst (λ c. (u : ℤ) → Contains (values_at k c) u → IsPreferred goal (end_in t.machine goal k c) v u) is_b
    (subst (λ j. (u : ℤ) → Contains (values_at j t.cells) u → IsPreferred goal (end_in t.machine goal j t.cells) v u) is_k best)))

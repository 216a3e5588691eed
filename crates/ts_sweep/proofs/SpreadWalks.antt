-- A walk over values, in the order in which what they give can't rise any more.
use Rattle.std.proofs.Common.{◌≡◌, ◌⊎◌, inl, inr, ◌≤◌, ◌<◌, ◌≤ℤ◌, ◌<ℤ◌, ℕ, suc, ◌+◌, ◌-◌, ◌+ℤ◌, ◌-ℤ◌, ℤ, pos, Bool, true, false, cond, ◌||◌, int_le, int_lt, refl, sym, ap, subst, ◌∙◌, arith}
use Rattle.std.specs.Int.{int_max, int_min}
use Rattle.std.specs.Ordering.{int_eq}
use Rattle.std.proofs.lemmas.Int.{ints}
use Rattle.ts_base.specs.declared.letter.Letter.{Letter}
use Rattle.ts_base.specs.declared.letter.Letter.TheVariants.{Less, Equal, Greater}
use Rattle.ts_hull.specs.Sweeps.{compares}
use Rattle.ts_hull.proofs.Letters.{equal_is}
use Rattle.ts_sweep.specs.declared.packed.Ends.{Ends}
use Rattle.ts_sweep.specs.FrontLaws.{never_added}
use Rattle.ts_sweep.specs.Lanes.{least}
use Rattle.ts_sweep.specs.Small.{IsSmall}
use Rattle.ts_sweep.specs.Spreads.{Falls, apart, beyond, end_of, lesser, top}
use Rattle.ts_sweep.specs.Sweeps.{step_place, total}
use Rattle.ts_sweep.proofs.Entries.{passes_is}
use Rattle.ts_sweep.proofs.PairSteps.{before_or}
use Rattle.ts_sweep.proofs.RunSteps.{place_inside, place_place}
use Rattle.ts_sweep.proofs.SpreadLanes.{total_above, total_least, total_some}

-- what was found by the first k steps
pub record IsWalked (up : Bool) (test : ℕ → Bool) (f : ℕ → ℤ) (n k : ℕ) (found : ℤ) : Type 0 where
  pub low : least ≤ℤ found
  pub under : found ≤ℤ total int_max least test f n
  pub over : (q : ℕ) → q < n → q < k → test (step_place up n q) ≡ true → f (step_place up n q) ≤ℤ found

le_left : (a b : ℤ) → a ≤ℤ int_max a b
le_left a b = grind (arith, ints)

le_right : (a b : ℤ) → b ≤ℤ int_max a b
le_right a b = grind (arith, ints)

le_lub : (a b c : ℤ) → a ≤ℤ c → b ≤ℤ c → int_max a b ≤ℤ c
le_lub a b c p q = grind (arith, ints)

le_trans : (a b c : ℤ) → a ≤ℤ b → b ≤ℤ c → a ≤ℤ c
le_trans a b c p q = omega (arith, ints, p, q)

both_capped : (a b most : ℤ) → most ≤ℤ a → a ≤ℤ b → int_min a most ≡ int_min b most
both_capped a b most p q = grind (arith, ints)

le_same : (a b : ℤ) → a ≤ℤ b → b ≤ℤ a → a ≡ b
le_same a b p q = omega (arith, ints, p, q)

module _ (up : Bool) (test : ℕ → Bool) (f : ℕ → ℤ) (n : ℕ) where
  pub walk_begun : (k : ℕ) → ((q : ℕ) → q < n → q < k → test (step_place up n q) ≡ false) → IsWalked up test f n k least
  walk_begun k skipped = record {
    low = omega (arith, ints);
    under = total_some test f n;
    over = λ q inside less e. never_added (sym e ∙ skipped q inside less);
  }

  pub walk_more : (k : ℕ) (found found' : ℤ) → IsWalked up test f n k found → k < n →
      found' ≡ cond (test (step_place up n k)) (int_max found (f (step_place up n k))) found → IsWalked up test f n (k + 1) found'
  walk_more k found found' walked inside is = subst (IsWalked up test f n (k + 1)) (sym is) (go (test (step_place up n k)) refl)
    where
      go : (b : Bool) → test (step_place up n k) ≡ b → IsWalked up test f n (k + 1) (cond b (int_max found (f (step_place up n k))) found)
      go true e = record {
        low = le_trans least found _ walked.low (le_left found (f (step_place up n k)));
        under = le_lub found (f (step_place up n k)) _ walked.under (total_above test f n (step_place up n k) (place_inside up n k inside) e);
        over = λ q less so passed. elim (before_or q k (omega (arith, so))) [
          | inl lt ↦ le_trans (f (step_place up n q)) found _ (walked.over q less lt passed) (le_left found (f (step_place up n k)))
          | inr same ↦ subst (λ z. f (step_place up n z) ≤ℤ int_max found (f (step_place up n k))) (sym same) (le_right found (f (step_place up n k)))
        ];
      }
      go false e = record {
        low = walked.low;
        under = walked.under;
        over = λ q less so passed. elim (before_or q k (omega (arith, so))) [
          | inl lt ↦ walked.over q less lt passed
          | inr same ↦ never_added (sym (ap (λ z. test (step_place up n z)) (sym same) ∙ passed) ∙ e)
        ];
      }

  -- a walk ends where there is enough, or where no later value gives more
  pub walk_end : (k : ℕ) (found most : ℤ) → IsWalked up test f n k found →
      (most ≤ℤ found) ⊎ ((q : ℕ) → q < n → k ≤ q → test (step_place up n q) ≡ true → f (step_place up n q) ≤ℤ found) →
      int_min found most ≡ int_min (total int_max least test f n) most
  walk_end k found most walked (inl enough) = both_capped found (total int_max least test f n) most enough walked.under
  walk_end k found most walked (inr rest) =
      ap (λ z. int_min z most) (le_same found (total int_max least test f n) walked.under
      (total_least test f n found walked.low (λ i inside e. subst (λ z. f z ≤ℤ found) (place_place up n i inside)
      (each (step_place up n i) (place_inside up n i inside) (ap test (place_place up n i inside) ∙ e)))))
    where
      before_or_not : (a b : ℕ) → (a < b) ⊎ (b ≤ a)
      before_or_not a b = grind arith

      each : (q : ℕ) → q < n → test (step_place up n q) ≡ true → f (step_place up n q) ≤ℤ found
      each q inside e = elim (before_or_not q k) [ inl less ↦ walked.over q inside less e | inr more ↦ rest q inside more e ]

-- what a hull gives is at most the difference

min_right : (a b : ℤ) → int_min a b ≤ℤ b
min_right a b = grind (arith, ints)

apart_low : (above : Bool) (v w : ℤ) → IsSmall v → IsSmall w → least ≤ℤ apart above v w
apart_low true v w p q = let a = p.0 in let b = p.1 in let c = q.0 in let d = q.1 in grind (arith, ints)
apart_low false v w p q = let a = p.0 in let b = p.1 in let c = q.0 in let d = q.1 in grind (arith, ints)

lesser_apart : (above bounded some : Bool) (r : Ends) (v w : ℤ) → IsSmall v → IsSmall w → lesser above bounded some r v w ≤ℤ apart above v w
lesser_apart above true true r v w p q = min_right (end_of above r) (apart above v w)
lesser_apart above false true r v w p q = omega (arith, ints)
lesser_apart above bounded false r v w p q = apart_low above v w p q

-- values in rising order
ordered : (v : ℕ → ℤ) (n i j : ℕ) → ((i j : ℕ) → i < j → j < n → v i <ℤ v j) → i ≤ j → j < n → v i ≤ℤ v j
ordered v n i j rises le inside = go (before_or i j (omega (arith, le)))
  where
    go : (i < j) ⊎ (i ≡ j) → v i ≤ℤ v j
    go (inl less) = let lt = rises i j less inside in omega (arith, ints, lt)
    go (inr same) = let e : v i ≡ v j = ap v same in omega (arith, ints, e)

down_ordered : (v : ℕ → ℤ) (n k q : ℕ) → ((i j : ℕ) → i < j → j < n → v i <ℤ v j) → k ≤ q → q < n →
    v (step_place false n q) ≤ℤ v (step_place false n k)
down_ordered v n k q rises le inside =
    ordered v n (step_place false n q) (step_place false n k) rises (omega (arith, le, inside)) (omega (arith, le, inside))

-- in the order of steps the differences fall
falls_on : (above up : Bool) (l : Letter) (twin : Bool) (w : ℤ) (v : ℕ → ℤ) (n k q : ℕ) → Falls above up l twin w →
    ((i j : ℕ) → i < j → j < n → v i <ℤ v j) → k ≤ q → q < n → compares l twin (v (step_place up n k)) w ≡ true →
    compares l twin (v (step_place up n q)) w ≡ true → apart above (v (step_place up n q)) w ≤ℤ apart above (v (step_place up n k)) w
falls_on above true l twin w v n k q falls rises le inside here there = falls (v k) (v q) (ordered v n k q rises le inside) here there
falls_on above false l twin w v n k q falls rises le inside here there =
    falls (v (step_place false n k)) (v (step_place false n q)) (down_ordered v n k q rises le inside) here there

-- values that compare lie on one side
abbrev Beside : Letter → ℤ → ℤ → Type 0
Beside Less v w = v ≤ℤ w
Beside Equal v w = v ≡ w
Beside Greater v w = w ≤ℤ v

lt_le : (v w : ℤ) → int_lt v w ≡ true → v ≤ℤ w
lt_le v w e = grind (arith, ints)

le_le : (v w : ℤ) → int_le v w ≡ true → v ≤ℤ w
le_le v w e = grind (arith, ints)

eq_is : (v w : ℤ) → int_eq v w ≡ true → v ≡ w
eq_is v w e = grind (arith, ints)

or_same : (b : Bool) → (b || b) ≡ true → b ≡ true
or_same true e = refl
or_same false e = e

beside_is : (l : Letter) (twin : Bool) (v w : ℤ) → compares l twin v w ≡ true → Beside l v w
beside_is Less false v w e = lt_le v w (passes_is true false v w ∙ e)
beside_is Less true v w e = le_le v w (passes_is true true v w ∙ e)
beside_is Equal false v w e = eq_is v w (sym (equal_is v w) ∙ e)
beside_is Equal true v w e = eq_is v w (sym (equal_is v w) ∙ or_same _ e)
beside_is Greater false v w e = lt_le w v (passes_is false false v w ∙ e)
beside_is Greater true v w e = le_le w v (passes_is false true v w ∙ e)

-- values of a run that are skipped don't compare
apart_of : (b : Bool) → (b ≡ true → true ≡ false) → b ≡ false
apart_of true h = h refl
apart_of false h = refl

less_skipped : (twin : Bool) (w : ℤ) (v : ℤ) → w <ℤ v → compares Less twin v w ≡ false
less_skipped twin w v h = apart_of (compares Less twin v w) (λ e. let p = beside_is Less twin v w e in absurd (omega (arith, ints, h, p)))

greater_skipped : (twin : Bool) (w : ℤ) (v : ℤ) → v <ℤ w → compares Greater twin v w ≡ false
greater_skipped twin w v h = apart_of (compares Greater twin v w) (λ e. let p = beside_is Greater twin v w e in absurd (omega (arith, ints, h, p)))

more_than : (a b w : ℤ) → a ≤ℤ b → int_lt w a ≡ true → int_lt w b ≡ true
more_than a b w le e = grind (arith, ints)

more_or : (a b w : ℤ) → a ≤ℤ b → int_le w a ≡ true → int_le w b ≡ true
more_or a b w le e = grind (arith, ints)

less_than : (a b w : ℤ) → a ≤ℤ b → int_lt b w ≡ true → int_lt a w ≡ true
less_than a b w le e = grind (arith, ints)

less_or : (a b w : ℤ) → a ≤ℤ b → int_le b w ≡ true → int_le a w ≡ true
less_or a b w le e = grind (arith, ints)

greater_too : (twin : Bool) (a b w : ℤ) → a ≤ℤ b → compares Greater twin a w ≡ true → compares Greater twin b w ≡ true
greater_too false a b w le e = sym (passes_is false false b w) ∙ more_than a b w le (passes_is false false a w ∙ e)
greater_too true a b w le e = sym (passes_is false true b w) ∙ more_or a b w le (passes_is false true a w ∙ e)

less_too : (twin : Bool) (a b w : ℤ) → a ≤ℤ b → compares Less twin b w ≡ true → compares Less twin a w ≡ true
less_too false a b w le e = sym (passes_is true false a w) ∙ less_than a b w le (passes_is true false b w ∙ e)
less_too true a b w le e = sym (passes_is true true a w) ∙ less_or a b w le (passes_is true true b w ∙ e)

-- where those that compare come last, none does before one that doesn't
pub none_before : (up : Bool) (l : Letter) (twin : Bool) (n : ℕ) (v : ℕ → ℤ) (w : ℤ) (k m : ℕ) → l ≡ cond up Greater Less →
    ((i j : ℕ) → i < j → j < n → v i <ℤ v j) → k ≤ m → m < n → compares l twin (v (step_place up n m)) w ≡ false →
    compares l twin (v (step_place up n k)) w ≡ false
none_before true l twin n v w k m is rises le inside e =
    ap (λ z. compares z twin (v k) w) is
    ∙ apart_of (compares Greater twin (v k) w) (λ f. sym (greater_too twin (v k) (v m) w (ordered v n k m rises le inside) f)
    ∙ ap (λ z. compares z twin (v m) w) (sym is) ∙ e)
none_before false l twin n v w k m is rises le inside e =
    ap (λ z. compares z twin (v (n - suc k)) w) is
    ∙ apart_of (compares Less twin (v (n - suc k)) w)
    (λ f. sym (less_too twin (v (n - suc m)) (v (n - suc k)) w (down_ordered v n k m rises le inside) f)
    ∙ ap (λ z. compares z twin (v (n - suc m)) w) (sym is) ∙ e)

-- what is skipped by halves: no more than the steps up to one at which nothing compares
pub halves_more : (up : Bool) (l : Letter) (twin : Bool) (n : ℕ) (v : ℕ → ℤ) (w : ℤ) (m : ℕ) → l ≡ cond up Greater Less →
    ((i j : ℕ) → i < j → j < n → v i <ℤ v j) → m < n → compares l twin (v (step_place up n m)) w ≡ false → (k : ℕ) → k < n → k < m + 1 →
    compares l twin (v (step_place up n k)) w ≡ false
halves_more up l twin n v w m is rises inside e k lt less = none_before up l twin n v w k m is rises (omega (arith, less)) inside e

run_low : (a : ℤ) (n : ℕ) (v w : ℤ) (k : ℕ) → (a +ℤ pos k) ≡ v → pos (suc k) <ℤ (w -ℤ a) → v <ℤ w
run_low a n v w k is h = omega (arith, ints, is, h)

run_high : (a : ℤ) (n : ℕ) (v w : ℤ) (k : ℕ) → k < n → (a +ℤ pos (n - suc k)) ≡ v → pos (suc k) <ℤ ((a +ℤ pos n) -ℤ w) → w <ℤ v
run_high a n v w k lt is h = omega (arith, ints, lt, is, h)

pub skipped_is : (up : Bool) (l : Letter) (twin : Bool) (a : ℤ) (n : ℕ) (v : ℕ → ℤ) (w : ℤ) (k : ℕ) → l ≡ cond up Greater Less → k < n →
    ((i : ℕ) → i < n → (a +ℤ pos i) ≡ v i) → pos (suc k) <ℤ beyond up a n w → compares l twin (v (step_place up n k)) w ≡ false
skipped_is true l twin a n v w k e lt is h =
    ap (λ z. compares z twin (v k) w) e ∙ greater_skipped twin w (v k) (run_low a n (v k) w k (is k lt) h)
skipped_is false l twin a n v w k e lt is h =
    ap (λ z. compares z twin (v (n - suc k)) w) e
    ∙ less_skipped twin w (v (n - suc k)) (run_high a n (v (n - suc k)) w k lt (is (n - suc k) (omega (arith, lt))) h)

pub not_less : (a b : ℤ) → int_lt a b ≡ false → b ≤ℤ a
not_less a b e = grind (arith, ints)

-- where the differences fall, no later hull gives more
pub walk_rest : (above up bounded : Bool) (l : Letter) (twin : Bool) (w : ℤ) (v : ℕ → ℤ) (n k : ℕ) (some : ℕ → Bool) (r : ℕ → Ends) (found : ℤ) →
    Falls above up l twin w → ((i j : ℕ) → i < j → j < n → v i <ℤ v j) → ((i : ℕ) → i < n → IsSmall (v i)) → IsSmall w →
    (k < n → compares l twin (v (step_place up n k)) w ≡ true) → (k < n → apart above (v (step_place up n k)) w ≤ℤ found) → (q : ℕ) → q < n → k ≤ q →
    compares l twin (v (step_place up n q)) w ≡ true →
    lesser above bounded (some (step_place up n q)) (r (step_place up n q)) (v (step_place up n q)) w ≤ℤ found
walk_rest above up bounded l twin w v n k some r found falls rises sv sw reached more q inside le passed =
    let lt : k < n = omega (arith, inside, le) in
    let p = step_place up n q in
    le_trans (lesser above bounded (some p) (r p) (v p) w) (apart above (v p) w) found
    (lesser_apart above bounded (some p) (r p) (v p) w (sv p (place_inside up n q inside)) sw)
    (le_trans (apart above (v p) w) (apart above (v (step_place up n k)) w) found
    (falls_on above up l twin w v n k q falls rises le inside (reached lt) passed) (more lt))

-- no difference is above the greatest number
apart_high : (above : Bool) (v w : ℤ) → IsSmall v → IsSmall w → apart above v w ≤ℤ pos 9223372036854775807
apart_high true v w p q = let a = p.0 in let b = p.1 in let c = q.0 in let d = q.1 in grind (arith, ints)
apart_high false v w p q = let a = p.0 in let b = p.1 in let c = q.0 in let d = q.1 in grind (arith, ints)

min_left_of : (a b : ℤ) → a ≤ℤ b → int_min a b ≡ a
min_left_of a b h = grind (arith, ints)

pub top_most : (above : Bool) (l : Letter) (twin : Bool) (n : ℕ) (some : ℕ → Bool) (r : ℕ → Ends) (v : ℕ → ℤ) (w : ℤ) →
    ((i : ℕ) → i < n → IsSmall (v i)) → IsSmall w → int_min (top above false l twin n some r v w) (pos 9223372036854775807)
    ≡ top above false l twin n some r v w
top_most above l twin n some r v w sv sw =
    min_left_of _ _ (total_least (λ i. compares l twin (v i) w) (λ i. lesser above false (some i) (r i) (v i) w) n (pos 9223372036854775807)
    (omega (arith, ints)) (λ i lt e. le_trans _ (apart above (v i) w) _ (lesser_apart above false (some i) (r i) (v i) w (sv i lt) sw)
    (apart_high above (v i) w (sv i lt) sw)))

-- what is chosen where a test holds
pub chosen : {A : Type 0} (b : Bool) (x y z : A) → b ≡ true → z ≡ x → z ≡ cond b x y
chosen true x y z e is = is
chosen false x y z e is = never_added (sym e)

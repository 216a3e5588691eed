-- Hulls of many: in any order, cut in two, with what gives nothing left out.
use Rattle.std.proofs.Common.{◌≡◌, ℕ, zero, suc, ◌<◌, Bool, true, false, cond, List, [], ◌∷◌, ◌++◌, refl, sym, ◌∙◌, ap, arith}
use Rattle.std.specs.Prelude.{fold}
use Rattle.std.proofs.lemmas.List.Sums.{fold-append}
use Rattle.ts_automaton.specs.declared.regs.Hull.{Hull}
use Rattle.ts_hull.specs.Hulls.{none, hull_of_both}
use Rattle.ts_hull.specs.Sweeps.{total}
use Rattle.ts_hull.proofs.HullLaws.{TakesNone, both_takes_none, none_takes_none}
use Rattle.ts_hull.proofs.SpanHulls.{both_comm, both_assoc}

pub none_left : (h : Hull) → TakesNone h → hull_of_both none h ≡ h
none_left h e = both_comm none h ∙ e

pub total_same : (n : ℕ) (f g : ℕ → Hull) → ((i : ℕ) → i < n → f i ≡ g i) → total n f ≡ total n g
unfolding total
total_same zero f g h = refl
total_same (suc n) f g h = ap (λ z. hull_of_both z (f n)) (total_same n f g (λ i l. h i (omega arith))) ∙ ap (hull_of_both (total n g)) (h n (omega arith))

pub total_canonical : (n : ℕ) (f : ℕ → Hull) → TakesNone (total n f)
unfolding total
total_canonical zero f = none_takes_none
total_canonical (suc n) f = both_takes_none (total n f) (f n)

pub four : (a b c d : Hull) → hull_of_both (hull_of_both a b) (hull_of_both c d) ≡ hull_of_both (hull_of_both a c) (hull_of_both b d)
four a b c d =
    both_assoc a b (hull_of_both c d) ∙ ap (hull_of_both a) (sym (both_assoc b c d) ∙ ap (λ z. hull_of_both z d) (both_comm b c) ∙ both_assoc c b d)
    ∙ sym (both_assoc a c (hull_of_both b d))

pub total_join : (n : ℕ) (f g : ℕ → Hull) → total n (λ i. hull_of_both (f i) (g i)) ≡ hull_of_both (total n f) (total n g)
unfolding total
total_join zero f g = sym none_takes_none
total_join (suc n) f g = ap (λ z. hull_of_both z (hull_of_both (f n) (g n))) (total_join n f g) ∙ four (total n f) (total n g) (f n) (g n)

pub total_none : (n : ℕ) → total n (λ i. none) ≡ none
unfolding total
total_none zero = refl
total_none (suc n) = ap (λ z. hull_of_both z none) (total_none n) ∙ none_takes_none

pub total_swap : (n m : ℕ) (f : ℕ → ℕ → Hull) → total n (λ i. total m (λ j. f i j)) ≡ total m (λ j. total n (λ i. f i j))
unfolding total
total_swap zero m f = sym (total_none m)
total_swap (suc n) m f = ap (λ z. hull_of_both z (total m (λ j. f n j))) (total_swap n m f) ∙ sym (total_join m (λ j. total n (λ i. f i j)) (λ j. f n j))

pub total_canon : (n : ℕ) (f : ℕ → Hull) → total n (λ i. hull_of_both (f i) none) ≡ total n f
unfolding total
total_canon zero f = refl
total_canon (suc n) f = ap (λ z. hull_of_both z (hull_of_both (f n) none)) (total_canon n f) ∙ sym (both_assoc (total n f) (f n) none)
    ∙ both_takes_none (total n f) (f n)

pub total_cond : (b : Bool) (n : ℕ) (f : ℕ → Hull) → total n (λ i. cond b (f i) none) ≡ cond b (total n f) none
total_cond true n f = refl
total_cond false n f = total_none n

-- the first one apart
pub total_first : (n : ℕ) (f : ℕ → Hull) → total (suc n) f ≡ hull_of_both (hull_of_both none (f 0)) (total n (λ i. f (suc i)))
unfolding total
total_first zero f = sym (both_takes_none none (f 0))
total_first (suc n) f = ap (λ z. hull_of_both z (f (suc n))) (total_first n f) ∙ both_assoc (hull_of_both none (f 0)) (total n (λ i. f (suc i))) (f (suc n))

-- a list's hull

pub fold_out : (hs : List Hull) (h : Hull) → TakesNone h → fold hull_of_both h hs ≡ hull_of_both h (fold hull_of_both none hs)
fold_out [] h e = sym e
fold_out (k ∷ hs) h e =
    fold_out hs (hull_of_both h k) (both_takes_none h k)
    ∙ ap (λ z. hull_of_both z (fold hull_of_both none hs)) (sym (ap (λ z. hull_of_both z k) e) ∙ both_assoc h none k)
    ∙ both_assoc h (hull_of_both none k) (fold hull_of_both none hs)
    ∙ ap (hull_of_both h) (sym (fold_out hs (hull_of_both none k) (both_takes_none none k)))

pub fold_canonical : (hs : List Hull) (h : Hull) → TakesNone h → TakesNone (fold hull_of_both h hs)
fold_canonical [] h e = e
fold_canonical (k ∷ hs) h e = fold_canonical hs (hull_of_both h k) (both_takes_none h k)

pub fold_both : (hs ks : List Hull) → fold hull_of_both none (hs ++ ks) ≡ hull_of_both (fold hull_of_both none hs) (fold hull_of_both none ks)
fold_both hs ks = fold-append hull_of_both none hs ks ∙ fold_out ks (fold hull_of_both none hs) (fold_canonical hs none none_takes_none)

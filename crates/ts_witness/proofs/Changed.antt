-- A series with one cell changed, cut at that cell, and the glued value there.
use Rattle.std.proofs.Common.{◌≡◌, ◌<◌, ◌≤◌, ℕ, zero, suc, ◌+◌, ◌-◌, ℤ, List, [], ◌∷◌, ◌++◌, length, take, drop, set, get_or, reverse, Option, Some, None, Bool, true, false, refl, sym, ◌∙◌, ap, subst, arith}
use Rattle.std.specs.Prelude.{IsSome, IfSome, option_map, unwrap_or}
use Rattle.std.proofs.lemmas.List.{set-get_or, reverse-append, length-set, length-reverse, take-append-drop, append_assoc}
use Rattle.std.proofs.Math.Seq.{take-suc, take-append_seam, drop-append_seam}
use Rattle.ts_base.specs.declared.ext.Ext.{Ext}
use Rattle.ts_base.specs.Limits.{IsCellValue, most_cells}
use Rattle.ts_automaton.specs.Body.{Body}
use Rattle.ts_automaton.specs.AutomatonRun.{Standing, AreCellValues, after, answer, finish_of}
use Rattle.ts_glue.specs.declared.machine.Machine.{Machine}
use Rattle.ts_glue.specs.Machines.{forward_of, pair_of}
use Rattle.ts_glue.specs.Pairs.{Pair, pair, table_view}
use Rattle.ts_glue.specs.Glued.{glued_value}
use Rattle.ts_glue.proofs.CallerLemmas.{machines_keep_rules, answers_at_cuts}

pub set_is_cut : {A : Type 0} (xs : List A) (i : ℕ) (v : A) → i < length xs → set xs i v ≡ take i xs ++ v ∷ drop (suc i) xs
set_is_cut [] i v l = absurd (omega (arith, l))
set_is_cut (x ∷ xs) zero v l = refl
set_is_cut (x ∷ xs) (suc i) v l = ap (◌∷◌ x) (set_is_cut xs i v (omega (arith, l)))

pub set_cells : (xs : List ℤ) (i : ℕ) (v : ℤ) → AreCellValues xs → IsCellValue v → AreCellValues (set xs i v)
set_cells [] i v h c = h
set_cells (x ∷ xs) zero v h c = (c, h.1)
set_cells (x ∷ xs) (suc i) v h c = (h.0, set_cells xs i v h.1 c)

drop_length : {A : Type 0} (xs : List A) (i : ℕ) → i ≤ length xs → length (drop i xs) + i ≡ length xs
drop_length xs zero l = omega arith
drop_length [] (suc i) l = absurd (omega (arith, l))
drop_length (x ∷ xs) (suc i) l = let h = drop_length xs i (omega (arith, l)) in omega (arith, h)

-- the cells from place i on, from the last one on, are the first ones of the reversed series
reversed_length : (xs : List ℤ) (i : ℕ) → i ≤ length xs → length xs - i ≡ length (reverse (drop i xs))
reversed_length xs i l = let h = drop_length xs i l in let e = length-reverse (drop i xs) in omega (arith, h, e)

reversed_cut : (xs : List ℤ) (i : ℕ) → reverse xs ≡ reverse (drop i xs) ++ reverse (take i xs)
reversed_cut xs i = ap reverse (sym (take-append-drop i xs)) ∙ reverse-append (take i xs) (drop i xs)

pub behind_cut : (xs : List ℤ) (i : ℕ) → i ≤ length xs → take (length xs - i) (reverse xs) ≡ reverse (drop i xs)
behind_cut xs i l =
    ap (λ k. take k (reverse xs)) (reversed_length xs i l) ∙ ap (λ z. take (length (reverse (drop i xs))) z) (reversed_cut xs i)
    ∙ take-append_seam (reverse (drop i xs)) (reverse (take i xs))

ahead_cut : (xs : List ℤ) (i : ℕ) → i ≤ length xs → drop (length xs - i) (reverse xs) ≡ reverse (take i xs)
ahead_cut xs i l =
    ap (λ k. drop k (reverse xs)) (reversed_length xs i l) ∙ ap (λ z. drop (length (reverse (drop i xs))) z) (reversed_cut xs i)
    ∙ drop-append_seam (reverse (drop i xs)) (reverse (take i xs))

-- a change of place i is one of the place as far from the end in the reversed series
pub mirror_set : (xs : List ℤ) (i j : ℕ) (v : ℤ) → i < length xs → j ≡ length xs - suc i → set (reverse xs) j v ≡ reverse (set xs i v)
mirror_set xs i j v l e =
    set_is_cut (reverse xs) j v (let n = length-reverse xs in omega (arith, n, l, e))
    ∙ ap (λ z. z ++ v ∷ drop (suc j) (reverse xs)) (ap (λ k. take k (reverse xs)) e ∙ behind_cut xs (suc i) (omega (arith, l)))
    ∙ ap (λ z. reverse (drop (suc i) xs) ++ v ∷ z) (ap (λ k. drop k (reverse xs)) next ∙ ahead_cut xs i (omega (arith, l)))
    ∙ sym (append_assoc (reverse (drop (suc i) xs)) (v ∷ []) (reverse (take i xs)))
    ∙ ap (λ z. z ++ reverse (take i xs)) (sym (reverse-append (v ∷ []) (drop (suc i) xs)))
    ∙ sym (reverse-append (take i xs) (v ∷ drop (suc i) xs)) ∙ ap reverse (sym (set_is_cut xs i v l))
  where
    next : suc j ≡ length xs - i
    next = omega (arith, e, l)

-- the forward automaton of a machine is that of its pair

forward_of_made : {H : Type 0} (o : Option H) (f : H → Pair) (b : Body) (p : Pair) → ((h : H) → (f h).forward ≡ b) → option_map f o ≡ Some p → p.forward ≡ b
forward_of_made None f b p each e = cc
forward_of_made (Some h) f b p each e = ap (λ z. (unwrap_or z p).forward) (sym e) ∙ each h

pub forward_is : (m : Machine) (p : Pair) → pair_of m ≡ Some p → p.forward ≡ forward_of m
forward_is m p e = forward_of_made m.half (λ h. pair m.forward h.reverse (table_view h.table)) m.forward p (λ h. refl) e

module _ (m : Machine) (xs : List ℤ) (i j : ℕ) (v : ℤ) (l : i < length xs) (e : j ≡ length xs - suc i) (few : length xs ≤ most_cells) (cells : AreCellValues xs)
    (c : IsCellValue v) where
  module _ (p : Pair) (has : pair_of m ≡ Some p) where
    at_cut : glued_value p (after p.forward (take i xs ++ v ∷ [])) (after p.reverse (reverse (v ∷ drop (suc i) xs))) v
        (length (take i xs ++ v ∷ drop (suc i) xs)) ≡ answer p.forward (take i xs ++ v ∷ drop (suc i) xs)
    at_cut =
        answers_at_cuts most_cells p (machines_keep_rules m p has).1 (take i xs) v (drop (suc i) xs)
        (subst (λ z. length z ≤ most_cells) (set_is_cut xs i v l) (subst (λ z. z ≤ most_cells) (sym (length-set xs i v)) few))
        (subst AreCellValues (set_is_cut xs i v l) (set_cells xs i v cells c))

    pub glued_with : (left right : Standing Ext) → left ≡ after (forward_of m) (take i xs ++ v ∷ []) →
        right ≡ after p.reverse (take j (reverse xs) ++ v ∷ []) → glued_value p left right v (length xs) ≡ answer (forward_of m) (set xs i v)
    glued_with left right f g =
        let lefts = f ∙ ap (λ b. after b (take i xs ++ v ∷ [])) (sym (forward_is m p has)) in
        let behind = ap (λ k. take k (reverse xs)) e ∙ behind_cut xs (suc i) (omega (arith, l)) in
        let rights = g ∙ ap (λ z. after p.reverse (z ++ v ∷ [])) behind ∙ ap (after p.reverse) (sym (reverse-append (v ∷ []) (drop (suc i) xs))) in
        let count = sym (length-set xs i v) ∙ ap length (set_is_cut xs i v l) in
        ap (λ s. glued_value p s right v (length xs)) lefts
        ∙ ap (λ s. glued_value p (after p.forward (take i xs ++ v ∷ [])) s v (length xs)) rights
        ∙ ap (λ n. glued_value p (after p.forward (take i xs ++ v ∷ [])) (after p.reverse (reverse (v ∷ drop (suc i) xs))) v n) count
        ∙ at_cut ∙ ap (λ z. answer p.forward z) (sym (set_is_cut xs i v l)) ∙ ap (λ b. answer b (set xs i v)) (forward_is m p has)

  pub value_told : (o : Option Pair) → pair_of m ≡ o → IsSome o → (result : Ext) (n : ℕ) (left right : Standing Ext) → n ≡ length xs →
      IfSome o (λ p. result ≡ glued_value p left right v n) → left ≡ after (forward_of m) (take i xs ++ v ∷ []) →
      ((p : Pair) → pair_of m ≡ Some p → right ≡ after p.reverse (take j (reverse xs) ++ v ∷ [])) → result ≡ answer (forward_of m) (set xs i v)
  value_told None has some result n left right count h f g = absurd (let z : ◌≡◌ {A = Bool} false true = some in cc)
  value_told (Some p) has some result n left right count h f g =
      h ∙ ap (λ k. glued_value p left right v k) count ∙ glued_with p has left right f (g p has)

take_all : (xs : List ℤ) → take (length xs) xs ≡ xs
take_all [] = refl
take_all (x ∷ xs) = ap (◌∷◌ x) (take_all xs)

last_cut : (xs : List ℤ) (d : ℤ) → 1 ≤ length xs → take (length xs - 1) xs ++ get_or xs (length xs - 1) d ∷ [] ≡ xs
last_cut xs d l =
    sym (take-suc xs (length xs - 1) d (omega (arith, l))) ∙ ap (λ k. take k xs) back ∙ take_all xs
  where
    back : suc (length xs - 1) ≡ length xs
    back = omega (arith, l)

-- what the forward automaton answers where it has read all but the last cell, and then that one
pub whole_value : (b : Body) (xs : List ℤ) (n k : ℕ) (cell d : ℤ) (at : Standing Ext) (result : Ext) → 1 ≤ length xs → n ≡ length xs → k ≡ length xs →
    cell ≡ get_or xs (n - 1) d → at ≡ after b (take (n - 1) xs ++ cell ∷ []) → result ≡ finish_of b at k → result ≡ answer b xs
whole_value b xs n k cell d at result some e f g h r =
    let all = ap (λ z. take (n - 1) xs ++ z ∷ []) g ∙ ap (λ z. take (z - 1) xs ++ get_or xs (z - 1) d ∷ []) e ∙ last_cut xs d some in
    r ∙ ap (λ s. finish_of b s k) (h ∙ ap (after b) all) ∙ ap (λ z. finish_of b (after b xs) z) f

-- a value that stands there already changes nothing
pub same_answer : (b : Body) (xs : List ℤ) (i k : ℕ) (x d : ℤ) → k ≡ i + 1 → x ≡ get_or xs i d → answer b (set xs (k - 1) x) ≡ answer b xs
same_answer b xs i k x d is e =
    let at : k - 1 ≡ i = omega (arith, is) in
    ap (λ z. answer b (set xs z x)) at ∙ ap (λ z. answer b (set xs i z)) e ∙ ap (answer b) (set-get_or xs i d)

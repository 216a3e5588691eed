-- A total over a list with one more number, for any way to join numbers; and how large totals are.
use Rattle.std.specs.Prelude.{◌≡◌, ℕ, zero, suc, ◌+◌, ◌*◌, ◌<◌, ◌≤◌, ℤ, List, [], ◌∷◌, ◌++◌, map, length, take, Option, None, Some, IfSome, refl}
use Rattle.std.specs.List.{fold, AllByRecursion}
use Rattle.std.proofs.Common.{sym, ◌∙◌, ap, subst, arith, get_or}
use Rattle.std.proofs.lemmas.Int.{ints, clamps}
use Rattle.std.proofs.lemmas.List.{take_more, map-append}
use Rattle.ts_base.specs.declared.op.Op.{Op}
use Rattle.ts_base.specs.declared.op.Op.TheVariants.{Add, Max, Min}
use Rattle.ts_base.specs.Operators.{int_op}
use Rattle.ts_pattern.specs.FeatureValue.{over}
use Rattle.ts_occurrence.specs.Total.{IsWithin, with_one}

fold_last : (op : ℤ → ℤ → ℤ) (x y : ℤ) (xs : List ℤ) → fold op x (xs ++ y ∷ []) ≡ op (fold op x xs) y
fold_last op x y [] = refl
fold_last op x y (z ∷ xs) = fold_last op (op x z) y xs

over_last : (op : ℤ → ℤ → ℤ) (y : ℤ) (xs : List ℤ) → over op (xs ++ y ∷ []) ≡ Some (with_one op (over op xs) y)
over_last op y [] = refl
over_last op y (x ∷ xs) = ap (λ z. Some z) (fold_last op x y xs)

pub over_more : (op : ℤ → ℤ → ℤ) (xs : List ℤ) (k : ℕ) (d x t : ℤ) (o : Option ℤ) → k < length xs → x ≡ get_or xs k d → o ≡ over op (take k xs) →
    t ≡ with_one op o x → Some t ≡ over op (take (k + 1) xs)
over_more op xs k d x t o q e b h =
    ap (λ z. Some z) h
    ∙ ap (λ z. Some (with_one op z x)) b
    ∙ ap (λ z. Some (with_one op (over op (take k xs)) z)) e
    ∙ sym (over_last op (get_or xs k d) (take k xs))
    ∙ ap (λ z. over op z) (sym (take_more xs k d q))

-- the total over what a list is mapped to, with one element more
pub over_map_more : {A : Type 0} (op : ℤ → ℤ → ℤ) (f : A → ℤ) (xs : List A) (k : ℕ) (d : A) (x t : ℤ) (o : Option ℤ) → k < length xs → x ≡ f (get_or xs k d) →
    o ≡ over op (map f (take k xs)) → t ≡ with_one op o x → Some t ≡ over op (map f (take (k + 1) xs))
over_map_more op f xs k d x t o q e b h =
    ap (λ z. Some z) h
    ∙ ap (λ z. Some (with_one op z x)) b
    ∙ ap (λ z. Some (with_one op (over op (map f (take k xs))) z)) e
    ∙ sym (over_last op (f (get_or xs k d)) (map f (take k xs)))
    ∙ ap (λ z. over op z) (sym (map-append f (take k xs) (get_or xs k d ∷ [])))
    ∙ ap (λ z. over op (map f z)) (sym (take_more xs k d q))

joined_within : (o : Op) (m n : ℕ) (t x : ℤ) → IsWithin m t → IsWithin n x → IsWithin (m + n) (int_op o t x)
joined_within Add m n t x h k = let h0 = h.0 in let h1 = h.1 in let k0 = k.0 in let k1 = k.1 in (omega (arith, ints), omega (arith, ints))
joined_within Max m n t x h k = let h0 = h.0 in let h1 = h.1 in let k0 = k.0 in let k1 = k.1 in (omega (arith, ints, clamps), omega (arith, ints, clamps))
joined_within Min m n t x h k = let h0 = h.0 in let h1 = h.1 in let k0 = k.0 in let k1 = k.1 in (omega (arith, ints, clamps), omega (arith, ints, clamps))

pub within_more : (p : Op) (n k : ℕ) (x t : ℤ) (o : Option ℤ) → IfSome o (λ s. IsWithin (n * k) s) → IsWithin n x → t ≡ with_one (int_op p) o x →
    IsWithin (n * (k + 1)) t
within_more p n k x t None h b e = let b0 = b.0 in let b1 = b.1 in subst (λ s. IsWithin (n * (k + 1)) s) (sym e) (wider n (n * (k + 1)) x (omega arith) b)
  where
    wider : (m n : ℕ) (x : ℤ) → m ≤ n → IsWithin m x → IsWithin n x
    wider m n x q h = let h0 = h.0 in let h1 = h.1 in (omega (arith, ints), omega (arith, ints))
within_more p n k x t (Some s) h b e =
    subst (λ m. IsWithin m t) (let q : n * k + n ≡ n * (k + 1) = omega arith in q)
    (subst (λ z. IsWithin (n * k + n) z) (sym e) (joined_within p (n * k) n s x h b))

-- a range in the list of ranges
pub each_at : {A : Type 0} (P : A → Type 0) (xs : List A) (k : ℕ) (d : A) → AllByRecursion P xs → k < length xs → P (get_or xs k d)
each_at P [] k d h q = absurd (omega arith)
each_at P (x ∷ xs) zero d h q = h.0
each_at P (x ∷ xs) (suc k) d h q = each_at P xs k d h.1 (omega arith)

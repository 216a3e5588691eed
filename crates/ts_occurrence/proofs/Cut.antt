-- Where a stack of ranges is cut: one more range from the end that begins at the cell or after it, or the first that
-- begins before it.
use Rattle.std.specs.Prelude.{◌≡◌, ℕ, ◌+◌, ◌-◌, ◌<◌, ◌≤◌, List, ◌∷◌, length, drop, Some}
use Rattle.std.proofs.Common.{sym, ◌∙◌, ap, subst, arith, get_or, add-one, drop-cons}
use Rattle.std.proofs.lemmas.Option.{slice_get-get_or}
use Rattle.ts_base.specs.declared.range.Range.{Range}
use Rattle.std.specs.List.{AllByRecursion}
use Rattle.ts_occurrence.specs.Noted.{IsCut}

cut_more : (cell k : ℕ) (xs : List Range) (x : Range) → 0 < k → k ≤ length xs → x ≡ get_or xs (k - 1) x → cell ≤ x.first →
    AllByRecursion (λ r. cell ≤ r.first) (drop k xs) → AllByRecursion (λ r. cell ≤ r.first) (drop (k - 1) xs)
cut_more cell k xs x p q e c h =
    let inside : k - 1 < length xs = omega arith in
    let next : k - 1 + 1 ≡ k = omega arith in
    let parts : drop (k - 1) xs ≡ get_or xs (k - 1) x ∷ drop (k - 1 + 1) xs = rw (add-one, drop-cons xs (k - 1) x) in
    subst (λ z. AllByRecursion (λ r. cell ≤ r.first) z) (sym (parts ∙ ap (λ z. get_or xs (k - 1) x ∷ drop z xs) next))
    (subst (λ (z : Range). cell ≤ z.first) e c, h)

cut_done : (cell k : ℕ) (xs : List Range) (x : Range) → k ≤ length xs → x ≡ get_or xs (k - 1) x → x.first < cell →
    AllByRecursion (λ r. cell ≤ r.first) (drop k xs) →
    IsCut xs cell k
cut_done cell k xs x q e c h =
    record {
      inside = q;
      before = λ r p g.
          let i : k - 1 < length xs = omega arith in
          let same : Some x ≡ Some r = ap (λ z. Some z) e ∙ sym (slice_get-get_or xs (k - 1) x i) ∙ g in
          let is : x ≡ r = cc in
          subst (λ (z : Range). z.first < cell) is c;
      behind = h;
    }

-- inside the list what is read doesn't depend on what would be given outside
any_default : (xs : List Range) (i : ℕ) (e x : Range) → i < length xs → get_or xs i e ≡ get_or xs i x
any_default xs i e x p =
    let same : Some (get_or xs i e) ≡ Some (get_or xs i x) = sym (slice_get-get_or xs i e p) ∙ slice_get-get_or xs i x p in
    cc

pub more_at : (cell k : ℕ) (xs : List Range) (e : Range) → 0 < k → k ≤ length xs → cell ≤ (get_or xs (k - 1) e).first →
    AllByRecursion (λ r. cell ≤ r.first) (drop k xs) → AllByRecursion (λ r. cell ≤ r.first) (drop (k - 1) xs)
more_at cell k xs e p q c h = cut_more cell k xs (get_or xs (k - 1) e) p q (any_default xs (k - 1) e (get_or xs (k - 1) e) (omega arith)) c h

pub done_at : (cell k : ℕ) (xs : List Range) (e : Range) → 0 < k → k ≤ length xs → (get_or xs (k - 1) e).first < cell →
    AllByRecursion (λ r. cell ≤ r.first) (drop k xs) → IsCut xs cell k
done_at cell k xs e p q c h = cut_done cell k xs (get_or xs (k - 1) e) q (any_default xs (k - 1) e (get_or xs (k - 1) e) (omega arith)) c h

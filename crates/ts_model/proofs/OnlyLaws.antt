-- A text has one reading.
use Rattle.std.proofs.Common.{◌≡◌, ℕ, true, false, ◌&&◌, inl, inr, Option, Some, None, Ok, Err, sym, ap, ◌∙◌}
use Rattle.std.specs.Prelude.{Result, is_none}
use Rattle.ts_token.specs.Text.{Cut}
use Rattle.ts_token.specs.FirstBadLaws.{good_bad, one_bad}
use Rattle.ts_model.specs.declared.error.ModelKind.{ModelKind}
use Rattle.ts_model.specs.declared.model.Need.{Need}
use Rattle.ts_model.specs.ModelParts.{ModelParts, has_cells}
use Rattle.ts_model.specs.ModelReading.{needs_lists, needs_objective, so_far, kind_at, IsEnd, IsRefused, IsModel, IsReading}

one_end : (need : Need) (c : Cut) (bad : Option ℕ) (l k : ℕ) (a b : ModelKind) → IsEnd need c bad l a → IsEnd need c bad k b → (l ≡ k) × (a ≡ b)
one_end need c (Some line) l k a b x y = (x.0 ∙ sym y.0, x.1 ∙ sym y.1)
one_end need c None l k a b (inl x) (inl y) = (x.1 ∙ sym y.1, x.2 ∙ sym y.2)
one_end need c None l k a b (inl x) (inr y) = let p = x.0 in let q = y.0 in absurd (cc)
one_end need c None l k a b (inr x) (inl y) = let p = x.0 in let q = y.0 in absurd (cc)
one_end need c None l k a b (inr x) (inr y) = (x.3 ∙ sym y.3, x.4 ∙ sym y.4)

one_refusal : (need : Need) (c : Cut) (l k : ℕ) (a b : ModelKind) → IsRefused need c l a → IsRefused need c k b → (l ≡ k) × (a ≡ b)
one_refusal need c l k a b (inl x) (inl y) = one_bad (kind_at (needs_lists need)) c.rows l k a b x y
one_refusal need c l k a b (inl x) (inr y) = absurd (good_bad (kind_at (needs_lists need)) c.rows l a y.0 x)
one_refusal need c l k a b (inr x) (inl y) = absurd (good_bad (kind_at (needs_lists need)) c.rows k b x.0 y)
one_refusal need c l k a b (inr x) (inr y) = one_end need c c.not_text l k a b x.1 y.1

not_both_end : (need : Need) (c : Cut) (m : ModelParts) (bad : Option ℕ) (l : ℕ) (a : ModelKind) → bad ≡ None → has_cells m ≡ true →
    (needs_objective need && is_none m.objective) ≡ false → m ≡ so_far c.rows → IsEnd need c bad l a → ⊥
not_both_end need c m (Some line) l a text has aim is e = cc
not_both_end need c m None l a text has aim is (inl x) = let p = x.0 in let q = ap has_cells is in cc
not_both_end need c m None l a text has aim is (inr x) =
    let p : (needs_objective need && is_none m.objective) ≡ true = (λ i. x.1 i && is_none ((ap (λ (s : ModelParts). s.objective) is ∙ x.2) i)) in cc

not_both : (need : Need) (c : Cut) (m : ModelParts) (l : ℕ) (a : ModelKind) → IsModel need c m → IsRefused need c l a → ⊥
not_both need c m l a good (inl bad) = good_bad (kind_at (needs_lists need)) c.rows l a good.0 bad
not_both need c m l a good (inr e) = not_both_end need c m c.not_text l a good.1 good.2 good.3 good.4 e.1

-- there is one reading
pub one_reading : (need : Need) (c : Cut) (r s : Result ModelParts (ℕ × ModelKind)) → IsReading need c r → IsReading need c s → r ≡ s
one_reading need c (Ok m) (Ok n) x y = ap (λ (z : ModelParts). Ok z) (x.4 ∙ sym y.4)
one_reading need c (Ok m) (Err e) x y = absurd (not_both need c m e.0 e.1 x y)
one_reading need c (Err e) (Ok m) x y = absurd (not_both need c m e.0 e.1 y x)
one_reading need c (Err e) (Err f) x y = let same = one_refusal need c e.0 f.0 e.1 f.1 x y in λ i. Err (same.0 i, same.1 i)

-- A text has one reading.
use Rattle.std.proofs.Common.{◌≡◌, ℕ, inl, inr, Option, Some, None, Ok, Err, sym, ap, ◌∙◌}
use Rattle.std.specs.Prelude.{Result}
use Rattle.std.proofs.lemmas.Option.{same_Some}
use Rattle.ts_token.specs.Text.{Cut}
use Rattle.ts_token.specs.FirstBadLaws.{good_bad, one_bad}
use Rattle.ts_user.specs.declared.user_stop.UserKind.{UserKind}
use Rattle.ts_user.specs.Stated.{Described}
use Rattle.ts_user.specs.PatternReading.{is_alone, so_far, kind_at, end_kind, IsEnd, IsRefused, IsPattern, IsReading}

one_end : (c : Cut) (bad : Option ℕ) (l k : ℕ) (a b : UserKind) → IsEnd c bad l a → IsEnd c bad k b → (l ≡ k) × (a ≡ b)
one_end c (Some line) l k a b x y = (x.0 ∙ sym y.0, x.1 ∙ sym y.1)
one_end c None l k a b x y = (x.0 ∙ sym y.0, same_Some a b (sym x.1 ∙ y.1))

one_refusal : (c : Cut) (l k : ℕ) (a b : UserKind) → IsRefused c l a → IsRefused c k b → (l ≡ k) × (a ≡ b)
one_refusal c l k a b (inl x) (inl y) = one_bad (kind_at (is_alone c)) c.rows l k a b x y
one_refusal c l k a b (inl x) (inr y) = absurd (good_bad (kind_at (is_alone c)) c.rows l a y.0 x)
one_refusal c l k a b (inr x) (inl y) = absurd (good_bad (kind_at (is_alone c)) c.rows k b x.0 y)
one_refusal c l k a b (inr x) (inr y) = one_end c c.not_text l k a b x.1 y.1

not_both_end : (c : Cut) (bad : Option ℕ) (l : ℕ) (a : UserKind) → bad ≡ None → end_kind (so_far c.rows) ≡ None → IsEnd c bad l a → ⊥
not_both_end c (Some line) l a text fits e = cc
not_both_end c None l a text fits e = let p = e.1 in cc

not_both : (c : Cut) (d : Described) (l : ℕ) (a : UserKind) → IsPattern c d → IsRefused c l a → ⊥
not_both c d l a good (inl bad) = good_bad (kind_at (is_alone c)) c.rows l a good.0 bad
not_both c d l a good (inr e) = not_both_end c c.not_text l a good.1 good.2 e.1

-- there is one reading
pub one_reading : (c : Cut) (r s : Result Described (ℕ × UserKind)) → IsReading c r → IsReading c s → r ≡ s
one_reading c (Ok m) (Ok n) x y = ap (λ (z : Described). Ok z) (x.3 ∙ sym y.3)
one_reading c (Ok m) (Err e) x y = absurd (not_both c m e.0 e.1 x y)
one_reading c (Err e) (Ok m) x y = absurd (not_both c m e.0 e.1 y x)
one_reading c (Err e) (Err f) x y = let same = one_refusal c e.0 f.0 e.1 f.1 x y in λ i. Err (same.0 i, same.1 i)

-- The numbers of a series, word by word.
use Rattle.std.proofs.Common.{◌≡◌, ℕ, Option, Some, None, List, [], ◌∷◌, ◌++◌, refl, sym, ap, ◌∙◌, append_assoc}
use Rattle.std.specs.Prelude.{ℤ}
use Rattle.ts_certificate.specs.Ranges.{value_of}
use Rattle.ts_certificate.specs.HeadLines.{onto_values, values_of}

-- numbers read before those of the rest
abbrev pub values_ahead : List ℤ → Option (List ℤ) → Option (List ℤ)
values_ahead vs None = None
values_ahead vs (Some more) = Some (vs ++ more)

one_ahead : (vs : List ℤ) (v : ℤ) (o : Option (List ℤ)) → values_ahead (vs ++ v ∷ []) o ≡ values_ahead vs (onto_values (Some v) o)
one_ahead vs v None = refl
one_ahead vs v (Some more) = ap (λ (x : List ℤ). Some x) (append_assoc vs (v ∷ []) more)

pub value_taken : (vs new : List ℤ) (v pushed : ℤ) (first : List ℕ) (before after : List (List ℕ)) (all : Option (List ℤ)) → before ≡ first ∷ after →
    Some v ≡ value_of first → pushed ≡ v → new ≡ vs ++ pushed ∷ [] → values_ahead vs (values_of before) ≡ all → values_ahead new (values_of after) ≡ all
value_taken vs new v pushed first before after all words value_is same new_is so_far =
    ap (λ (x : List ℤ). values_ahead x (values_of after)) new_is
    ∙ ap (λ (x : ℤ). values_ahead (vs ++ x ∷ []) (values_of after)) same
    ∙ one_ahead vs v (values_of after)
    ∙ ap (λ o. values_ahead vs (onto_values o (values_of after))) value_is
    ∙ ap (λ (x : List (List ℕ)). values_ahead vs (values_of x)) (sym words)
    ∙ so_far

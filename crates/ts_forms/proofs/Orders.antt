-- How two nodes compare, by the numbers of their parts.
use Rattle.std.specs.Prelude.{◌≡◌, ℕ, ◌<◌, List, length, refl}
use Rattle.std.specs.declared.cmp.Ordering.{Ordering}
use Rattle.std.specs.declared.cmp.Ordering.TheVariants.{Less as Before, Equal as Same, Greater as After}
use Rattle.std.specs.Ordering.{ordering_then}
use Rattle.std.proofs.Common.{sym, ◌∙◌, ap}
use Rattle.ts_regex.specs.Shape.{Shape}
use Rattle.ts_regex.specs.NormalForm.{shape_cmp}
use Rattle.ts_regex.proofs.NormalForms.{cmp_equal, cmp_itself}
use Rattle.ts_forms.specs.Nodes.{form_at}
use Rattle.ts_forms.specs.Tables.{AreDifferent}

-- one number

pub same_number : (ss : List Shape) (i j : ℕ) → i ≡ j → Same ≡ shape_cmp (form_at ss i) (form_at ss j)
same_number ss i j e = sym (ap (λ z. shape_cmp (form_at ss i) (form_at ss z)) (sym e) ∙ cmp_itself (form_at ss i))

-- two pairs of parts: the first tell the order unless they are the same

by_seconds : (r t s u : Shape) (o : Ordering) → r ≡ t → o ≡ shape_cmp s u → o ≡ ordering_then (shape_cmp r t) (shape_cmp s u)
by_seconds r t s u o e q =
    q ∙ sym (ap (λ z. ordering_then z (shape_cmp s u)) (ap (λ z. shape_cmp r z) (sym e) ∙ cmp_itself r))

then_first : (a b : Ordering) → (a ≡ Same → ⊥) → a ≡ ordering_then a b
then_first Before b n = refl
then_first Same b n = absurd (n refl)
then_first After b n = refl

by_firsts : (ss : List Shape) (i j : ℕ) (s u : Shape) (o : Ordering) → AreDifferent ss → i < length ss → j < length ss → (i ≡ j → ⊥) →
    o ≡ shape_cmp (form_at ss i) (form_at ss j) → o ≡ ordering_then (shape_cmp (form_at ss i) (form_at ss j)) (shape_cmp s u)
by_firsts ss i j s u o d p q n e =
    e ∙ then_first (shape_cmp (form_at ss i) (form_at ss j)) (shape_cmp s u) (λ h. n (d i j p q (cmp_equal (form_at ss i) (form_at ss j) h)))

-- two expressions of two parts each, by their parts
module _ (op : Shape → Shape → Shape) (each : (a b c d : Shape) → shape_cmp (op a b) (op c d) ≡ ordering_then (shape_cmp a c) (shape_cmp b d)) where
  by_parts : (a b r s t u : Shape) → a ≡ op r s → b ≡ op t u → shape_cmp a b ≡ ordering_then (shape_cmp r t) (shape_cmp s u)
  by_parts a b r s t u e g = ap (λ z. shape_cmp z b) e ∙ ap (λ z. shape_cmp (op r s) z) g ∙ each r s t u

  pub by_second_parts : (ss : List Shape) (i j r s t u : ℕ) (o : Ordering) → form_at ss i ≡ op (form_at ss r) (form_at ss s) →
      form_at ss j ≡ op (form_at ss t) (form_at ss u) → r ≡ t → o ≡ shape_cmp (form_at ss s) (form_at ss u) → o ≡ shape_cmp (form_at ss i) (form_at ss j)
  by_second_parts ss i j r s t u o e g h q =
      by_seconds (form_at ss r) (form_at ss t) (form_at ss s) (form_at ss u) o (ap (λ z. form_at ss z) h) q
      ∙ sym (by_parts (form_at ss i) (form_at ss j) (form_at ss r) (form_at ss s) (form_at ss t) (form_at ss u) e g)

  pub by_first_parts : (ss : List Shape) (i j r s t u : ℕ) (o : Ordering) → AreDifferent ss → form_at ss i ≡ op (form_at ss r) (form_at ss s) →
      form_at ss j ≡ op (form_at ss t) (form_at ss u) → r < length ss → t < length ss → (r ≡ t → ⊥) →
      o ≡ shape_cmp (form_at ss r) (form_at ss t) → o ≡ shape_cmp (form_at ss i) (form_at ss j)
  by_first_parts ss i j r s t u o d e g p q n h =
      by_firsts ss r t (form_at ss s) (form_at ss u) o d p q n h
      ∙ sym (by_parts (form_at ss i) (form_at ss j) (form_at ss r) (form_at ss s) (form_at ss t) (form_at ss u) e g)

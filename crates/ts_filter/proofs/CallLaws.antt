-- What the calls answer of the machine of a term is what the definitions say of the spans of all machines.
use Rattle.std.proofs.Common.{◌≡◌, ℕ, ◌-◌, ◌≤◌, ℤ, List, [], ◌∷◌, length, Some, slice_get, sym, ◌∙◌, ap, subst}
use Rattle.std.proofs.lemmas.List.{length-set}
use Rattle.std.proofs.lemmas.Option.{same_Some}
use Rattle.std.specs.Prelude.{Contains}
use Rattle.ts_base.specs.declared.goal.Goal.{Goal}
use Rattle.ts_bound.specs.TermSpans.{Automata, term_span, IsUsable as IsUsableOf}
use Rattle.ts_model.specs.declared.model.Require.{Require}
use Rattle.ts_model.specs.ModelParts.{ModelParts}
use Rattle.ts_filter.specs.declared.bar.Bar.{Bar}
use Rattle.ts_filter.specs.Boxes.{Box, values_at, only}
use Rattle.ts_filter.specs.Excluded.{Refutes, Cuts}
use Rattle.ts_filter.specs.MachineSpans.{spans_of, CallsTell}
use Rattle.ts_filter.specs.RefutedWorseDrop.{IsUsable, IsRequirement, IsRefuted, IsCut, IsDrop}
use Rattle.ts_filter.proofs.MachineLaws.{spans_are_of_machines}

-- a cell may be used on a box exactly where it may on the box with one value there
pub usable_only : (a : Automata) (b : Box) (k : ℕ) (v : ℤ) → IsUsableOf a k b → IsUsableOf a k (only k v b)
usable_only a b k v u =
    let n = length-set b (k - 1) (v ∷ []) in
    record { from = u.from; to = subst (λ m. k ≤ m) (sym n) u.to; last = λ e. u.last e ∙ sym n }

pub usable_whole : (a : Automata) (b : Box) (k : ℕ) (v : ℤ) → IsUsableOf a k (only k v b) → IsUsableOf a k b
usable_whole a b k v u =
    let n = length-set b (k - 1) (v ∷ []) in
    record { from = u.from; to = subst (λ m. k ≤ m) n u.to; last = λ e. u.last e ∙ n }

module _ (rs : List Require) (ms : List Automata) (term : ℕ) (a : Automata) (has : slice_get ms term ≡ Some a) where
  module _ (j : ℕ) (r : Require) (i : IsRequirement rs j r) (t : r.term ≡ term) where
    span_is : (p : ℕ) (b : Box) → (spans_of ms).span_at r.term p b ≡ term_span a p b
    span_is p b = ap (λ z. (spans_of ms).span_at z p b) t ∙ (spans_are_of_machines ms term a has).span p b

    pub to_refuted : (p : ℕ) (b : Box) → IsUsableOf a p b → Refutes r.op r.bound (term_span a p b) → IsRefuted rs (spans_of ms) j p b
    to_refuted p b u h = record {
      require = r;
      is = i;
      usable = subst (λ z. IsUsable (spans_of ms) z p b) (sym t) (((spans_are_of_machines ms term a has).usable p b).1 u);
      refutes = subst (λ s. Refutes r.op r.bound s) (sym (span_is p b)) h;
    }

    from_refuted : (p : ℕ) (b : Box) → IsRefuted rs (spans_of ms) j p b → Refutes r.op r.bound (term_span a p b)
    from_refuted p b h =
        subst (λ s. Refutes r.op r.bound s) (span_is p b)
        (subst (λ (q : Require). Refutes q.op q.bound ((spans_of ms).span_at q.term p b)) (same_Some h.require r (sym h.is.1 ∙ i.1)) h.refutes)

    to_dropped : (k : ℕ) (v : ℤ) (b : Box) → IsUsableOf a k b → 2 ≤ length (values_at k b) → Contains (values_at k b) v →
        Refutes r.op r.bound (term_span a k (only k v b)) → IsDrop rs (spans_of ms) k v j b
    to_dropped k v b u m c h = record { cell = (u.from, u.to); many = m; there = c; refuted = to_refuted k (only k v b) (usable_only a b k v u) h }

  module _ (m : ModelParts) (goal : Goal) (p : ℕ) (b : Box) (bar : Bar) (e : m.objective ≡ Some term) where
    to_cut : IsUsableOf a p b → Cuts goal bar (term_span a p b) → IsCut m (spans_of ms) goal p b bar
    to_cut u h = record {
      term = term;
      is = e;
      usable = ((spans_are_of_machines ms term a has).usable p b).1 u;
      cuts = subst (λ s. Cuts goal bar s) (sym ((spans_are_of_machines ms term a has).span p b)) h;
    }

    from_cut : IsCut m (spans_of ms) goal p b bar → Cuts goal bar (term_span a p b)
    from_cut h =
        subst (λ s. Cuts goal bar s) ((spans_are_of_machines ms term a has).span p b)
        (subst (λ z. Cuts goal bar ((spans_of ms).span_at z p b)) (same_Some h.term term (sym h.is ∙ e)) h.cuts)

pub calls_tell : CallsTell
calls_tell m rs ms term a has = record {
  refuted = λ j p b r i t u. (to_refuted rs ms term a has j r i t p b u, from_refuted rs ms term a has j r i t p b);
  cut = λ goal p b bar e u. (to_cut rs ms term a has m goal p b bar e u, from_cut rs ms term a has m goal p b bar e);
  drop = λ j k v b r i t u n c. (
    to_dropped rs ms term a has j r i t k v b u n c,
    λ d. from_refuted rs ms term a has j r i t k (only k v b) d.refuted,
  );
}

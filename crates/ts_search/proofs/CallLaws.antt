-- What the calls on a machine's spans answer is what the definitions test.
use Rattle.std.proofs.Common.{◌≡◌, ◌↔◌, ℕ, ◌-◌, ◌<◌, ◌≤◌, ℤ, ◌<ℤ◌, Bool, true, false, List, length, Option, Some, None, slice_get, refl, sym, ◌∙◌, ap, subst, inl, inr, arith}
use Rattle.std.proofs.lemmas.Bool.{false_from_ne_true}
use Rattle.std.proofs.lemmas.Int.{ints}
use Rattle.std.specs.Prelude.{IsTrue}
use Rattle.ts_base.specs.declared.goal.Goal.{Goal}
use Rattle.ts_base.specs.declared.span.Span.{Span}
use Rattle.ts_domain.specs.BoxSeries.{IsBox}
use Rattle.ts_domain.proofs.Sets.{same_test}
use Rattle.ts_bound.specs.TermSpans.{Automata, term_span, IsUsable as IsUsableOf}
use Rattle.ts_model.specs.declared.model.Require.{Require}
use Rattle.ts_model.specs.ModelParts.{ModelParts}
use Rattle.ts_filter.specs.declared.bar.Bar.{Bar}
use Rattle.ts_filter.specs.declared.drops.Removal.{Removal}
use Rattle.ts_filter.specs.Boxes.{Box}
use Rattle.ts_filter.specs.Drops.{IsNoLater, IsFirstDrop}
use Rattle.ts_filter.specs.Excluded.{Refutes, Cuts}
use Rattle.ts_filter.specs.FirstCell.{IsEarly, IsFirstCell}
use Rattle.ts_filter.specs.MachineSpans.{spans_of, AreOfMachine}
use Rattle.ts_filter.specs.RefutedWorseDrop.{Spans, IsUsable, IsRequirement, IsRefuted}
use Rattle.ts_filter.specs.Tests.{is_refuted, is_cut}
use Rattle.ts_filter.proofs.MachineLaws.{spans_are_of_machines}
use Rattle.ts_filter.proofs.TestLaws.{tests_tell}
use Rattle.ts_filter.proofs.SoundLaws.{clash}
use Rattle.ts_search.specs.Drops.{least, next_drop}
use Rattle.ts_search.proofs.Choice.{LeastFits, least_fits}
use Rattle.ts_search.proofs.NextDrop.{next_drop_fits}

-- the least of n numbers is one of them

pub least_is : (q : ℕ → Bool) (f j : ℕ) (o : Option ℕ) → LeastFits q f j o → o ≡ least q f j
least_is q f j o h = go o h (least q f j) (least_fits q f j)
  where
    go : (o : Option ℕ) → LeastFits q f j o → (p : Option ℕ) → LeastFits q f j p → o ≡ p
    go None h None g = refl
    go None h (Some i) g = absurd (clash (q i) g.holds (h i g.from g.to))
    go (Some i) h None g = absurd (clash (q i) h.holds (g i h.from h.to))
    go (Some i) h (Some k) g = ap Some (same_least i k (λ l. clash (q i) h.holds (g.first i h.from l)) (λ l. clash (q k) g.holds (h.first k g.from l)))
      where
        same_least : (i k : ℕ) → (i < k → ⊥) → (k < i → ⊥) → i ≡ k
        same_least i k f g = grind arith

-- the first cell below the last, where the test says what is asked of a usable cell
pub first_is : (a : Automata) (Excluded : Span → Type 0) (b : Box) (q : ℕ → Bool) →
    ((p : ℕ) → q p ≡ true → IsUsableOf a p b × Excluded (term_span a p b)) → ((p : ℕ) → IsUsableOf a p b → Excluded (term_span a p b) → q p ≡ true) →
    (n : ℕ) → length b ≡ n → (found : Option ℕ) → IsFirstCell a Excluded b found → found ≡ least q (n - 1) 1
first_is a Excluded b q told tests n size found h = least_is q (n - 1) 1 found (fits found h)
  where
    early : (p : ℕ) → p < length b → q p ≡ true → IsEarly a Excluded b p
    early p l e = let t = told p e in record { usable = t.0; below = l; excluded = t.1 }

    fits : (found : Option ℕ) → IsFirstCell a Excluded b found → LeastFits q (n - 1) 1 found
    fits None h = λ i from to. false_from_ne_true (q i) (λ e. h i (early i (omega (arith, size, from, to)) e))
    fits (Some p) h =
        let low = h.0.usable.from in
        let high = h.0.below in
        record {
          holds = tests p h.0.usable h.0.excluded;
          from = low;
          to = omega (arith, size, low, high);
          first = λ k from below. false_from_ne_true (q k)
              (λ e. let least = h.1 k (early k (omega (arith, below, high)) e) in omega (arith, least, below));
        }

-- the tests of a term, by its machine

module _ (ms : List Automata) (term : ℕ) (a : Automata) (has : slice_get ms term ≡ Some a) where
  of_machine : AreOfMachine ms term a
  of_machine = spans_are_of_machines ms term a has

  module _ (rs : List Require) (j : ℕ) (r : Require) (is : IsRequirement rs j r) (of_term : r.term ≡ term) where
    pub to_machine : (p : ℕ) (b : Box) → IsRefuted rs (spans_of ms) j p b → IsUsableOf a p b × Refutes r.op r.bound (term_span a p b)
    to_machine p b d =
        let same : d.require ≡ r = (let e : ◌≡◌ {A = Option Require} (Some d.require) (Some r) = sym d.is.1 ∙ is.1 in cc) in
        let here = ap (λ (q : Require). q.term) same ∙ of_term in (
          (of_machine.usable p b).0 (subst (λ z. IsUsable (spans_of ms) z p b) here d.usable),
          subst (λ z. Refutes r.op r.bound z) (ap (λ z. (spans_of ms).span_at z p b) of_term ∙ of_machine.span p b)
              (subst (λ (q : Require). Refutes q.op q.bound ((spans_of ms).span_at q.term p b)) same d.refutes),
        )

    pub from_machine : (p : ℕ) (b : Box) → IsUsableOf a p b → Refutes r.op r.bound (term_span a p b) → IsRefuted rs (spans_of ms) j p b
    from_machine p b u f = record {
      require = r;
      is = is;
      usable = subst (λ z. IsUsable (spans_of ms) z p b) (sym of_term) ((of_machine.usable p b).1 u);
      refutes = subst (λ z. Refutes r.op r.bound z) (sym (ap (λ z. (spans_of ms).span_at z p b) of_term ∙ of_machine.span p b)) f;
    }

    test_to : (p : ℕ) (b : Box) → is_refuted rs (spans_of ms) j p b ≡ true → IsUsableOf a p b × Refutes r.op r.bound (term_span a p b)
    test_to p b e = to_machine p b (((tests_tell (spans_of ms)).refuted rs j p b).0 e)

    test_from : (p : ℕ) (b : Box) → IsUsableOf a p b → Refutes r.op r.bound (term_span a p b) → is_refuted rs (spans_of ms) j p b ≡ true
    test_from p b u f = ((tests_tell (spans_of ms)).refuted rs j p b).1 (from_machine p b u f)

    -- whether a requirement is refuted at a cell that may be used
    pub refuted_is : (p : ℕ) (b : Box) → IsUsableOf a p b → (told : Bool) → IsTrue told ↔ Refutes r.op r.bound (term_span a p b) →
        told ≡ is_refuted rs (spans_of ms) j p b
    refuted_is p b u told h =
        same_test told (is_refuted rs (spans_of ms) j p b) (λ e. test_from p b u (h.0 e)) (λ e. h.1 (test_to p b e).1)

    -- the first cell below the last at which a requirement is refuted
    pub first_refuted_is : (b : Box) (n : ℕ) → length b ≡ n → (found : Option ℕ) → IsFirstCell a (Refutes r.op r.bound) b found →
        found ≡ least (λ p. is_refuted rs (spans_of ms) j p b) (n - 1) 1
    first_refuted_is b n size found h =
        first_is a (Refutes r.op r.bound) b (λ p. is_refuted rs (spans_of ms) j p b) (λ p. test_to p b) (λ p. test_from p b) n size found h

  module _ (m : ModelParts) (objective : m.objective ≡ Some term) (goal : Goal) (bar : Bar) where
    pub cut_to : (p : ℕ) (b : Box) → is_cut m (spans_of ms) goal p b bar ≡ true → IsUsableOf a p b × Cuts goal bar (term_span a p b)
    cut_to p b e =
        let d = ((tests_tell (spans_of ms)).cut m goal p b bar).0 e in
        let same : d.term ≡ term = (let f : ◌≡◌ {A = Option ℕ} (Some d.term) (Some term) = sym d.is ∙ objective in cc) in (
          (of_machine.usable p b).0 (subst (λ z. IsUsable (spans_of ms) z p b) same d.usable),
          subst (λ z. Cuts goal bar z) (ap (λ z. (spans_of ms).span_at z p b) same ∙ of_machine.span p b) d.cuts,
        )

    pub cut_from : (p : ℕ) (b : Box) → IsUsableOf a p b → Cuts goal bar (term_span a p b) → is_cut m (spans_of ms) goal p b bar ≡ true
    cut_from p b u f = ((tests_tell (spans_of ms)).cut m goal p b bar).1 (record {
      term = term;
      is = objective;
      usable = (of_machine.usable p b).1 u;
      cuts = subst (λ z. Cuts goal bar z) (sym (of_machine.span p b)) f;
    })

    -- whether the objective is cut at the last cell
    pub cut_is : (b : Box) (n : ℕ) → length b ≡ n → 1 ≤ n → (told : Bool) → IsTrue told ↔ Cuts goal bar (term_span a (length b) b) →
        told ≡ is_cut m (spans_of ms) goal n b bar
    cut_is b n size some told h =
        let u : IsUsableOf a (length b) b = record { from = omega (arith, size, some); to = omega arith; last = λ e. refl } in
        same_test told (is_cut m (spans_of ms) goal (length b) b bar) (λ e. cut_from (length b) b u (h.0 e)) (λ e. h.1 (cut_to (length b) b e).1)
        ∙ ap (λ z. is_cut m (spans_of ms) goal z b bar) size

    -- the first cell below the last at which the objective is cut
    pub first_cut_is : (b : Box) (n : ℕ) → length b ≡ n → (found : Option ℕ) → IsFirstCell a (Cuts goal bar) b found →
        found ≡ least (λ p. is_cut m (spans_of ms) goal p b bar) (n - 1) 1
    first_cut_is b n size found h =
        first_is a (Cuts goal bar) b (λ p. is_cut m (spans_of ms) goal p b bar) (λ p. cut_to p b) (λ p. cut_from p b) n size found h

-- where no cell has the test, none is the least
pub never_least : (n j : ℕ) → least (λ p. false) n j ≡ None
never_least n j = sym (least_is (λ p. false) n j None (λ i from to. refl))

-- the drop that comes first is one

never_below : (v w : ℤ) → v <ℤ w → w <ℤ v → ⊥
never_below v w l g = omega (arith, ints, l, g)

never_same : (v w : ℤ) → v <ℤ w → w ≡ v → ⊥
never_same v w l g = omega (arith, ints, l, g)

same_drop : (r t : Removal) → IsNoLater r t → IsNoLater t r → r ≡ t
same_drop r t (inl a) (inl b) = absurd (omega (arith, a, b))
same_drop r t (inl a) (inr b) = absurd (let e = b.0 in omega (arith, a, e))
same_drop r t (inr a) (inl b) = absurd (let e = a.0 in omega (arith, b, e))
same_drop r t (inr (e, inl l)) (inr (f, inl g)) = absurd (never_below r.value t.value l g)
same_drop r t (inr (e, inl l)) (inr (f, inr g)) = absurd (never_same r.value t.value l g.0)
same_drop r t (inr (e, inr l)) (inr (f, inl g)) = absurd (never_same t.value r.value g l.0)
same_drop r t (inr (e, inr l)) (inr (f, inr g)) =
    let least : r.require ≡ t.require = (let a = l.1 in let b = g.1 in omega (arith, a, b)) in
    (λ i. record { cell = e i; value = l.0 i; require = least i })

module _ (m : ModelParts) (s : Spans) (b : Box) (box : IsBox b) where
  pub drop_is : (found : Option Removal) → IsFirstDrop m.requirements s b found → found ≡ next_drop m s b
  drop_is found h = one found (next_drop m s b) h (next_drop_fits m s b box)
    where
      one : (found next : Option Removal) → IsFirstDrop m.requirements s b found → IsFirstDrop m.requirements s b next → found ≡ next
      one None None h g = refl
      one None (Some r) h g = absurd (h r g.0)
      one (Some t) None h g = absurd (g t h.0)
      one (Some t) (Some r) h g = ap Some (same_drop t r (h.1 r g.0) (g.1 t h.0))

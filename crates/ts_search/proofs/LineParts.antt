-- `no J P` below the last cell names the first requirement that is refuted there, and its first cell.
use Rattle.std.proofs.Common.{◌≡◌, ◌⊎◌, ℕ, zero, suc, ◌<◌, ◌≤◌, true, Option, Some, None, sym, subst, inl, inr, ⊎_elim, arith, eq-or-lt_of_le}
use Rattle.std.proofs.lemmas.Bool.{cases_lt}
use Rattle.ts_certificate.specs.declared.certificate.TreeLine.{TreeLine}
use Rattle.ts_certificate.specs.declared.certificate.TreeLine.TheVariants.{No}
use Rattle.ts_filter.specs.Boxes.{Box}
use Rattle.ts_filter.proofs.SoundLaws.{clash}
use Rattle.ts_search.specs.Drops.{least}
use Rattle.ts_search.specs.Laws.{FirstNoFits}
use Rattle.ts_search.specs.LineOf.{Search, requirements, inner, is_refuted_at, no_line, first_no}
use Rattle.ts_search.proofs.Choice.{LeastFits, least_fits}
use Rattle.ts_search.proofs.Known.{to_refuted, from_refuted}

-- the line names the first requirement from k on that is refuted below the last cell, and its first cell
record Leads (c : Search) (b : Box) (k : ℕ) (l : TreeLine) : Type 0 where
  requirement : ℕ
  cell : ℕ
  line : l ≡ No requirement cell
  from : k ≤ requirement
  holds : is_refuted_at c requirement cell b ≡ true
  some : 1 ≤ cell
  below : cell ≤ inner c
  first : (j p : ℕ) → k ≤ j → is_refuted_at c j p b ≡ true → 1 ≤ p → p ≤ inner c → (requirement < j) ⊎ ((requirement ≡ j) × (cell ≤ p))

some_line : (l k : TreeLine) → ◌≡◌ {A = Option TreeLine} (Some l) (Some k) → l ≡ k
some_line l k e = cc

module _ (c : Search) (b : Box) where
  here : (k p : ℕ) (l : TreeLine) → LeastFits (λ p. is_refuted_at c k p b) (inner c) 1 (Some p) → No k p ≡ l → Leads c b k l
  here k p l f e = record {
    requirement = k;
    cell = p;
    line = sym e;
    from = omega arith;
    holds = f.holds;
    some = f.from;
    below = (let n = f.to in omega arith);
    first = λ j q from r one few. ⊎_elim
        (λ s. inr (
          s,
          ⊎_elim (λ n. absurd (clash (is_refuted_at c k q b) (subst (λ z. is_refuted_at c z q b ≡ true) (sym s) r) (f.first q one n))) (λ n. n)
              (cases_lt q p),
        ))
        (λ n. inl n) (eq-or-lt_of_le from);
  }

  later : (k : ℕ) (l : TreeLine) → LeastFits (λ p. is_refuted_at c k p b) (inner c) 1 None → Leads c b (suc k) l → Leads c b k l
  later k l f r = record {
    requirement = r.requirement;
    cell = r.cell;
    line = r.line;
    from = (let n = r.from in omega arith);
    holds = r.holds;
    some = r.some;
    below = r.below;
    first = λ j q from t one few. ⊎_elim
        (λ s. absurd (clash (is_refuted_at c k q b) (subst (λ z. is_refuted_at c z q b ≡ true) (sym s) t) (f q one (omega (arith, few)))))
        (λ n. r.first j q n t one few) (eq-or-lt_of_le from);
  }

  leads : (n k : ℕ) (l : TreeLine) → first_no c b n k ≡ Some l → Leads c b k l
  leads zero k l e = absurd (let f : ◌≡◌ {A = Option TreeLine} None (Some l) = e in cc)
  leads (suc n) k l e =
      go (least (λ p. is_refuted_at c k p b) (inner c) 1) (least_fits (λ p. is_refuted_at c k p b) (inner c) 1) e (λ next. leads n (suc k) l next)
    where
      go : (o : Option ℕ) → LeastFits (λ p. is_refuted_at c k p b) (inner c) 1 o → no_line k o (first_no c b n (suc k)) ≡ Some l →
          (first_no c b n (suc k) ≡ Some l → Leads c b (suc k) l) → Leads c b k l
      go None f q next = later k l f (next q)
      go (Some p) f q next = here k p l f (some_line (No k p) l q)

pub first_no_fits : FirstNoFits
first_no_fits c b l e =
    let r = leads c b (requirements c) 1 l e in
    record {
      requirement = r.requirement;
      cell = r.cell;
      line = r.line;
      refuted = to_refuted c r.requirement r.cell b r.holds;
      below = (let n = r.below in let one = r.some in omega arith);
      first = λ j p t n. r.first j p t.is.0 (from_refuted c j p b t) t.usable.cell.0 (omega (arith, n));
    }

-- What a running hull may be closed with more in it.
use Rattle.std.proofs.Common.{◌≡◌, ℤ, sym, subst}
use Rattle.ts_sweep.specs.Small.{IsSmall}

module _ {X : Type 0} (both : X → X → X) (fit closable : X → Type 0) (front : X → ℤ → X)
    (closable_both : (a b : X) → closable a → closable b → closable (both a b)) (closable_front : (h : X) (v : ℤ) → fit h → IsSmall v → closable (front h v))
  where
    pub closable_more : (run h r : X) (v : ℤ) → closable run → fit h → IsSmall v → r ≡ both run (front h v) → closable r
    closable_more run h r v can fits small is = subst closable (sym is) (closable_both run (front h v) can (closable_front h v fits small))

-- Hulls with other ends of all registers.
use Rattle.std.proofs.Common.{◌≡◌, Bool, true, cond, sym, ap, ◌∙◌}
use Rattle.ts_automaton.specs.Registers.{EachOf, each}
use Rattle.ts_sweep.specs.declared.packed.Ends.{Ends}
use Rattle.ts_sweep.specs.declared.packed.Name.{Name}
use Rattle.ts_sweep.specs.Moves.{of_name, replaced_all}

pub same_each : {c e d f r c' e' d' f' r' : Ends} → c ≡ c' → e ≡ e' → d ≡ d' → f ≡ f' → r ≡ r' →
    ◌≡◌ {A = EachOf Ends} (each c e d f r) (each c' e' d' f' r')
same_each p q s t u = cc

module _ {X : Type 0} (replaced : X → Name → Ends → X) where
  pub same_replaced : (h : X) (x y : EachOf Ends) → x ≡ y → replaced_all replaced h (of_name x) ≡ replaced_all replaced h (of_name y)
  same_replaced h x y e = ap (λ z. replaced_all replaced h (of_name z)) e

-- what is closed is chosen, where a part has a tail and registers lie in the hull
pub closed_chosen : {X : Type 0} (tail some : Bool) (new none run z : X) → tail ≡ true → some ≡ true → z ≡ new → z ≡ cond tail (cond some new none) run
closed_chosen tail some new none run z t s is =
    is ∙ sym (ap (λ b. cond b (cond some new none) run) t ∙ ap (λ b. cond b new none) s)

-- The law Local makes the glued value at every cell the forward answer.
use Rattle.std.proofs.Common.{◌≡◌, ◌≤◌, ◌<◌, ℕ, zero, suc, ◌+◌, ◌-◌, length, ◌∙◌, subst, arith}
use Rattle.ts_base.specs.declared.ext.Ext.{Ext}
use Rattle.ts_automaton.specs.AutomatonRun.{answer}
use Rattle.ts_glue.specs.Glued.{Glued}
use Rattle.ts_glue.specs.Laws.{LocalIsAnswer}

-- what is the same at neighbouring cells is the same at all: d cells are left
pub same_up_to_last : (value : ℕ → Ext) (e : Ext) (n : ℕ) → value n ≡ e → ((k : ℕ) → 1 ≤ k → k < n → value k ≡ value (k + 1)) →
    (d k : ℕ) → 1 ≤ k → k + d ≡ n → value k ≡ e
same_up_to_last value e n last next zero k some i =
    let j : n ≡ k = omega (arith, i) in subst (λ z. value z ≡ e) j last
same_up_to_last value e n last next (suc d) k some i =
    next k some (omega (arith, i)) ∙ same_up_to_last value e n last next d (k + 1) (omega arith) (omega (arith, i))

pub local_is_answer : LocalIsAnswer
local_is_answer n p l xs few cells k some most =
    let h = l xs (omega (arith, some, most)) few cells in
    same_up_to_last (Glued p xs) (answer p.forward xs) (length xs) h.0 h.1 (length xs - k) k some (omega (arith, some, most))

-- The laws of hulls of a state in a row.
-- Lemmas, no definitions: they are here since ghost members of impls cite them.
use Rattle.std.proofs.Common.{◌≡◌, ℕ, List, length, map, refl, sym, ◌∙◌}
use Rattle.std.specs.List.{range_with_len}
use Rattle.std.proofs.lemmas.List.FromFn.{length-map-range_with_len}
use Rattle.ts_automaton.specs.declared.regs.Hull.{Hull}
use Rattle.ts_sweep.specs.Strided.{AreBeside}

pub same_count : {A B : Type 0} (n : ℕ) (f : ℕ → A) (g : ℕ → B) → length (map f (range_with_len 0 n))
    ≡ length (map g (range_with_len 0 n))
same_count n f g = length-map-range_with_len f 0 n ∙ sym (length-map-range_with_len g 0 n)

pub beside_itself : (state states count : ℕ) (row : List Hull) → AreBeside state states count row row
beside_itself state states count row = record { len = refl; same = λ p apart. refl }

pub beside_both : (state states count : ℕ) (a b d : List Hull) → AreBeside state states count a b →
    AreBeside state states count b d →
    AreBeside state states count a d
beside_both state states count a b d p q =
    record { len = q.len ∙ p.len; same = λ i apart. q.same i apart ∙ p.same i apart }

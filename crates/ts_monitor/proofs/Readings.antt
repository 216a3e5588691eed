-- One reading more: where the automata stand then, and the values of their terms.
use Rattle.std.proofs.Common.{◌≡◌, ℕ, zero, suc, ◌+◌, ◌≤◌, ◌<◌, ℤ, Some, List, [], ◌∷◌, ◌++◌, length, map, refl, sym, ◌∙◌, ap, subst, arith, length-append}
use Rattle.std.specs.Prelude.{slice_get, ◌^◌}
use Rattle.std.proofs.lemmas.Int.{ints, to_z-of_z}
use lib.Signed.{mag}
use mir.Val.{SFits, hbits, of_z, to_z}
use mir.Syntax.{w64}
use Rattle.ts_base.specs.declared.ext.Ext.{Ext}
use Rattle.ts_base.specs.Limits.{IsCellValue}
use Rattle.ts_automaton.specs.Body.{Body}
use Rattle.ts_automaton.specs.AutomatonRun.{Standing, after, after_from, start_of, step_of, finish_of, AreCellValues}
use Rattle.ts_decorate.specs.Answers.{longest}
use Rattle.ts_pattern.specs.declared.term.Term.{Term}
use Rattle.ts_pattern.specs.TermValue.{term_value}
use Rattle.ts_compile.specs.Compiled.{machine_body}
use Rattle.ts_compile.proofs.Tables.{compiled_answers}
use Rattle.ts_monitor.specs.Monitors.{IsLast, Watched, StandsFor, moved, moved_after, standings_after}

from_last : (b : Body) (s : Standing Ext) (x : ℤ) (xs : List ℤ) (l v : ℤ) → IsLast (x ∷ xs) l →
    after_from b s x (xs ++ v ∷ []) ≡ step_of b (after_from b s x xs) l v
from_last b s x [] l v e = ap (λ z. step_of b s z v) e
from_last b s x (y ∷ ys) l v e = from_last b (step_of b s x y) y ys l v e

-- after some readings the next one makes a move from the last
pub standings_moved : (bs : List Body) (x : ℤ) (xs : List ℤ) (l v : ℤ) → IsLast (x ∷ xs) l →
    moved bs (standings_after bs (x ∷ xs)) l v ≡ standings_after bs ((x ∷ xs) ++ v ∷ [])
standings_moved [] x xs l v e = refl
standings_moved (b ∷ bs) x xs l v e =
    ap (λ z. z ∷ moved bs (standings_after bs (x ∷ xs)) l v) (sym (from_last b (start_of b) x xs l v e))
    ∙ ap (◌∷◌ (after b ((x ∷ xs) ++ v ∷ []))) (standings_moved bs x xs l v e)

pub last_added : (xs : List ℤ) (v : ℤ) → IsLast (xs ++ v ∷ []) v
last_added [] v = refl
last_added (x ∷ []) v = refl
last_added (x ∷ y ∷ ys) v = last_added (y ∷ ys) v

pub readings_added : (xs : List ℤ) (v : ℤ) → AreCellValues xs → IsCellValue v → AreCellValues (xs ++ v ∷ [])
readings_added [] v h k = (k, tt)
readings_added (x ∷ xs) v h k = (h.0, readings_added xs v h.1 k)

-- a monitor that stands for some readings stands for one more after its move
pub taken : (w z : Watched) (v : ℤ) → z.terms ≡ w.terms → z.count ≡ w.count + 1 → z.last ≡ v →
    z.standings ≡ moved_after w.count (map machine_body w.terms) w.standings w.last v → IsCellValue v →
    (xs : List ℤ) → StandsFor w xs → StandsFor z (xs ++ v ∷ [])
taken w z v terms count last move reading [] s = record {
  count = count ∙ ap (λ n. n + 1) s.count;
  last = sym last;
  standings =
      move
      ∙ ap (λ n. moved_after n (map machine_body w.terms) w.standings w.last v) s.count
      ∙ s.standings
      ∙ ap (λ ts. standings_after (map machine_body ts) (v ∷ [])) (sym terms);
  readings = (reading, tt);
}
taken w z v terms count last move reading (x ∷ xs) s = record {
  count = count ∙ ap (λ n. n + 1) s.count ∙ sym (length-append (x ∷ xs) (v ∷ []));
  last = subst (IsLast ((x ∷ xs) ++ v ∷ [])) (sym last) (last_added (x ∷ xs) v);
  standings =
      move
      ∙ ap (λ n. moved_after n (map machine_body w.terms) w.standings w.last v) s.count
      ∙ ap (λ z. moved (map machine_body w.terms) z w.last v) s.standings
      ∙ standings_moved (map machine_body w.terms) x xs w.last v s.last
      ∙ ap (λ ts. standings_after (map machine_body ts) ((x ∷ xs) ++ v ∷ [])) (sym terms);
  readings = readings_added (x ∷ xs) v s.readings reading;
}

-- what the automaton at a place answers is the value of its term
pub value_there : (ts : List Term) (xs : List ℤ) (k : ℕ) (b : Body) (s : Standing Ext) → 1 ≤ length xs → length xs ≤ longest → AreCellValues xs →
    slice_get (map machine_body ts) k ≡ Some b → slice_get (standings_after (map machine_body ts) xs) k ≡ Some s →
    slice_get (map (λ t. term_value t xs) ts) k ≡ Some (finish_of b s (length xs))
value_there [] xs k b s some few cells at here = cc
value_there (t ∷ ts) xs zero b s some few cells at here =
    let same : machine_body t ≡ b = cc in
    let stands : after (machine_body t) xs ≡ s = cc in
    ap Some (sym (compiled_answers t xs some few cells) ∙ ap (λ z. finish_of (machine_body t) z (length xs)) stands ∙ ap (λ z. finish_of z s (length xs)) same)
value_there (t ∷ ts) xs (suc k) b s some few cells at here = value_there ts xs k b s some few cells at here

-- a number that was passed on is the same
pub as_passed : (z : ℤ) → mag z < 2 ^ hbits w64 → to_z w64 (of_z w64 z) ≡ z
as_passed z h = let fits : SFits w64 z = grind (arith, ints) in to_z-of_z w64 z fits

pub reading_passed : (z : ℤ) → IsCellValue z → to_z w64 (of_z w64 z) ≡ z
reading_passed z h = let low = h.0 in let high = h.1 in let fits : SFits w64 z = grind (arith, ints) in to_z-of_z w64 z fits

-- what the automaton at a place answers of the readings that a monitor stands for
pub value_told : (w : Watched) (k : ℕ) (b : Body) (s : Standing Ext) (v : Ext) → 1 ≤ w.count → w.count ≤ longest →
    slice_get (map machine_body w.terms) k ≡ Some b → slice_get w.standings k ≡ Some s → v ≡ finish_of b s w.count →
    (xs : List ℤ) → StandsFor w xs → slice_get (map (λ t. term_value t xs) w.terms) k ≡ Some v
value_told w k b s v some few at here is xs h =
    value_there w.terms xs k b s (subst (λ n. 1 ≤ n) h.count some) (subst (λ n. n ≤ longest) h.count few) h.readings at
    (subst (λ z. slice_get z k ≡ Some s) h.standings here)
    ∙ ap (λ n. Some (finish_of b s n)) (sym h.count)
    ∙ ap Some (sym is)

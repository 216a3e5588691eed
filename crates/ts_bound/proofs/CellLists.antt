-- The values of a domain in a list of their own.
use Rattle.std.proofs.Common.{◌≡◌, ℕ, ◌+◌, ◌<◌, Bool, true, ◌+ℤ◌, ℤ, pos, List, [], ◌∷◌, ◌++◌, length, get_or, refl, sym, ap, ◌∙◌, subst, arith}
use Rattle.std.specs.Prelude.{OnOk, Ok, Result}
use Rattle.std.proofs.lemmas.Int.{ints}
use Rattle.std.proofs.lemmas.List.{ext_get_or}
use Rattle.ts_domain.specs.Values.{IsDomain, run}
use Rattle.ts_domain.proofs.Runs.{get_or-run, length-run, run_split}
use Rattle.ts_bound.specs.CellLists.{AreLent}
use Rattle.ts_bound.proofs.ValueLaws.{cells_at, domain_few, domain_rises, domain_small}

pub lent_domain : (vs : List ℤ) (low : ℤ) (is_run : Bool) → IsDomain vs →
    (is_run ≡ true → (i : ℕ) → i < length vs → (low +ℤ pos i) ≡ get_or vs i (pos 0)) → AreLent vs is_run
lent_domain vs low is_run d run = record {
  small = domain_small vs d;
  rises = domain_rises vs d;
  few = domain_few vs d;
  first = λ e some. cells_at vs d 0 some;
  run = λ e i lt.
      let from = run e 0 (omega (arith, lt)) in
      let at = run e i lt in
      omega (arith, ints, from, at);
}

-- values without a gap are a run of numbers
pub run_is : (vs : List ℤ) (count : ℕ) (low : ℤ) → count ≡ length vs → ((i : ℕ) → i < length vs → (low +ℤ pos i) ≡ get_or vs i (pos 0)) →
    vs ≡ run low count
run_is vs count low is each =
    ext_get_or (pos 0) vs (run low count) (sym is ∙ sym (length-run low count))
    (λ i lt. sym (each i lt) ∙ sym (get_or-run low count i (pos 0) (subst (λ n. i < n) (sym is) lt)))

-- a run of no number, and a run with one more
pub run_none : (low : ℤ) → run low 0 ≡ []
unfolding run
run_none low = refl

pub run_more : (low : ℤ) (i : ℕ) (items new : List ℤ) (x : ℤ) → new ≡ items ++ x ∷ [] → items ≡ run low i → x ≡ low +ℤ pos i → new ≡ run low (i + 1)
unfolding run
run_more low i items new x more is value = more ∙ ap (λ z. z ++ x ∷ []) is ∙ ap (λ v. run low i ++ v ∷ []) value ∙ sym (run_split low i 1)

-- what holds if there was memory
pub at_ok : {T E P : Type 0} {r : Result T E} {x : T} → r ≡ Ok x → OnOk r P → P
at_ok {P = P} e h = subst (λ z. OnOk z P) e h

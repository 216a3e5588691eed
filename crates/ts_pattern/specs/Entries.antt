-- The starts at which a match may still begin or grow, and what becomes of them at a letter (after Brzozowski 1964).
-- An entry has a mark, as the number of the signs before its start, the residual that is left to read, and a tag.
use Rattle.std.specs.Prelude.{Bool, not, ◌&&◌, if◌then◌else◌, List, [], ◌∷◌, ◌++◌, map}
use Rattle.std.specs.List.{filter, list_any}
use Rattle.ts_base.specs.declared.letter.Letter.{Letter}
use Rattle.ts_regex.specs.Shape.{Shape}
use Rattle.ts_regex.specs.Derivative.{nullable, has_word, has_longer}
use Rattle.ts_regex.specs.NormalForm.{residual, same_shape}

pub record Entry (X R T : Type 0) : Type 0 where
  pub mark : X
  pub residual : R
  pub tag : T

-- what is asked of residuals: the one after a letter, the tests on their words, and whether two are the same
pub record Residuals (R : Type 0) : Type 0 where
  pub next : R → Letter → R
  pub has_word : R → Bool
  pub nullable : R → Bool
  pub has_longer : R → Bool
  pub same : R → R → Bool

-- expressions in normal form as residuals
abbrev pub shapes : Residuals Shape
shapes =
    record {
      next = λ r l. residual r l;
      has_word = λ r. has_word r;
      nullable = λ r. nullable r;
      has_longer = λ r. has_longer r;
      same = λ r s. same_shape r s;
    }

abbrev pub derive_entry : {X R T : Type 0} → Residuals R → Letter → Entry X R T → Entry X R T
derive_entry t l e = record { mark = e.mark; residual = t.next e.residual l; tag = e.tag }

abbrev pub derive_entries : {X R T : Type 0} → Residuals R → Letter → List (Entry X R T) → List (Entry X R T)
derive_entries t l es = map (λ e. derive_entry t l e) es

-- without those whose residual has no word
abbrev pub live_entries : {X R T : Type 0} → Residuals R → List (Entry X R T) → List (Entry X R T)
live_entries t es = filter (λ e. t.has_word e.residual) es

abbrev pub without : {X R T : Type 0} → Residuals R → R → List (Entry X R T) → List (Entry X R T)
without t r es = filter (λ e. not (t.same r e.residual)) es

-- of entries with the same residual the first
abbrev pub keep : {X R T : Type 0} → Residuals R → List (Entry X R T) → List (Entry X R T)
keep t [] = []
keep t (e ∷ es) = e ∷ without t e.residual (keep t es)

-- what is left of the entries after the letter
abbrev pub survivors : {X R T : Type 0} → Residuals R → Letter → List (Entry X R T) → List (Entry X R T)
survivors t l before = keep t (live_entries t (derive_entries t l before))

-- the entry comes last, unless its residual has no word or is that of an earlier one
abbrev pub with_entry : {X R T : Type 0} → Residuals R → List (Entry X R T) → Entry X R T → List (Entry X R T)
with_entry t kept e =
    if t.has_word e.residual && not (list_any (λ k. t.same k.residual e.residual) kept) then kept ++ e ∷ [] else kept

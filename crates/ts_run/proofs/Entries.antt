-- The terms of a model by their places: their names and their values on a series.
use Rattle.std.proofs.Common.{◌≡◌, ℕ, zero, suc, ◌+◌, Some, List, [], ◌∷◌, ◌++◌, drop, map, sym, ◌∙◌, ap, append-nil, append_assoc, arith, length, refl, ◌≤◌, String}
use Rattle.std.specs.Prelude.{slice_get, Option}
use Rattle.std.specs.Global.{Global}
use Rattle.std.specs.String.{string_bytes}
use Rattle.std.proofs.lemmas.List.{drop_all}
use Rattle.ts_base.specs.declared.ext.Ext.{Ext}
use Rattle.ts_pattern.specs.declared.term.Term.{Term}
use Rattle.std.specs.List.{zip}
use Rattle.ts_model.specs.declared.model.Window.{Window}
use Rattle.ts_model.specs.Views.{term_of, with_windows}
use Rattle.ts_run.specs.Verdict.{value_line, value_lines}
use Rattle.ts_compile.proofs.Terms.{drop_at}

-- the name of the term at a place
pub name_at : (entries : List (String Global × Term)) (windows : List (Option Window)) (k : ℕ) (name : String Global) →
    slice_get (map (λ e. e.0) entries) k ≡ Some name →
    slice_get (map (λ t. t.0) (map term_of (with_windows entries windows))) k ≡ Some (string_bytes name)
name_at [] windows k name e = grind arith
name_at (x ∷ es) windows zero name e = let same : x.0 ≡ name = cc in ap (λ z. Some (string_bytes z)) same
name_at (x ∷ es) windows (suc k) name e = name_at es (drop 1 windows) k name e

-- one more of the value lines is written
pub line_taken : (names : List (List ℕ)) (values : List Ext) (k : ℕ) (name : List ℕ) (value : Ext) (text more all : List ℕ) →
    slice_get names k ≡ Some name → slice_get values k ≡ Some value → text ++ value_lines (zip (drop k names) (drop k values)) ≡ all →
    more ≡ text ++ value_line name value → more ++ value_lines (zip (drop (k + 1) names) (drop (k + 1) values)) ≡ all
line_taken names values k name value text more all n v p q =
    ap (λ z. z ++ value_lines (zip (drop (k + 1) names) (drop (k + 1) values))) q
    ∙ append_assoc text (value_line name value) (value_lines (zip (drop (k + 1) names) (drop (k + 1) values)))
    ∙ ap (λ z. text ++ value_lines (zip (name ∷ drop (k + 1) names) z)) (sym (drop_at values k value v))
    ∙ ap (λ z. text ++ value_lines (zip z (drop k values))) (sym (drop_at names k name n))
    ∙ p

-- all value lines are written where no value is left
none_left : (names : List (List ℕ)) → value_lines (zip names []) ≡ []
none_left [] = refl
none_left (n ∷ ns) = refl

pub all_lines_taken : (names : List (List ℕ)) (values : List Ext) (k : ℕ) (text all : List ℕ) → length values ≤ k →
    text ++ value_lines (zip (drop k names) (drop k values)) ≡ all → text ≡ all
all_lines_taken names values k text all over p =
    sym (append-nil text) ∙ ap (λ z. text ++ z) (sym (ap (λ z. value_lines (zip (drop k names) z)) (drop_all k values over) ∙ none_left (drop k names))) ∙ p

-- Terms by name.
use Rattle.std.proofs.Common.{◌≡◌, ℕ, ◌+◌, Bool, cond, not, Some, None, List, [], ◌∷◌, ◌++◌, length, map, refl, sym, ap, ◌∙◌, nat_lt, String, Global, ◌≤◌, true, false, suc, arith}
use Rattle.std.specs.Prelude.{is_some, Option}
use Rattle.std.proofs.lemmas.Bool.{ltb-false}
use Rattle.indexmap.specs.IndexMap.{insert_entry}
use Rattle.std.specs.List.{position, position_or_len}
use Rattle.std.specs.Str.{bytes_eq}
use Rattle.std.specs.String.{string_bytes, string_eq}
use Rattle.std.proofs.lemmas.List.{length-map, map-append}
use Rattle.std.proofs.Common.{length-append}
use Rattle.ts_pattern.specs.declared.term.Term.{Term}
use Rattle.std.specs.Prelude.{option_map}
use Rattle.ts_model.specs.declared.model.ModelTerm.{ModelTerm}
use Rattle.ts_model.specs.declared.model.Window.{Window}
use Rattle.ts_model.specs.ModelParts.{StatedTerm, term_at}
use Rattle.ts_model.specs.Views.{model_term, range_in, stated_of, term_of, with_windows}
use Rattle.ts_model.proofs.TermWindows.{keys_stay, windows_added}

module _ {A B : Type 0} (p : A → Bool) (q : B → Bool) (f : A → B) (same : (a : A) → p a ≡ q (f a)) where
  pub place_map : (xs : List A) → position_or_len p xs ≡ position_or_len q (map f xs)
  place_map [] = refl
  place_map (x ∷ xs) = ap (λ v. cond (not v) (1 + position_or_len p xs) 0) (same x) ∙ ap (λ (n : ℕ). cond (not (q (f x))) (1 + n) 0) (place_map xs)

  pub position_map : (xs : List A) → position p xs ≡ position q (map f xs)
  position_map xs =
      let same_length : length xs ≡ length (map f xs) = simp length-map in
      ap (λ (n : ℕ). cond (nat_lt n (length xs)) (Some n) None) (place_map xs)
      ∙ ap (λ (k : ℕ). cond (nat_lt (position_or_len q (map f xs)) k) (Some (position_or_len q (map f xs))) None) same_length

-- the place of a name among the terms is that of its key
place_stays : (name : List ℕ) (es : List (String Global × ModelTerm)) →
    position (λ (k : String Global). bytes_eq name (string_bytes k)) (map (λ e. e.0) es) ≡ term_at name (map term_of es)
place_stays name es =
    sym (position_map (λ (e : String Global × ModelTerm). bytes_eq name (string_bytes e.0))
    (λ (k : String Global). bytes_eq name (string_bytes k)) (λ e. e.0) (λ _. refl) es)
    ∙ position_map (λ (e : String Global × ModelTerm). bytes_eq name (string_bytes e.0)) (λ (t : List ℕ × StatedTerm). bytes_eq name t.0) term_of (λ _. refl) es

-- the map's own place of a name is the place of its term
pub found_term : (name : List ℕ) (es : List (String Global × Term)) (ws : List (Option Window)) →
    position (λ (k : String Global). bytes_eq name (string_bytes k)) (map (λ e. e.0) es) ≡ term_at name (map term_of (with_windows es ws))
found_term name es ws =
    ap (position (λ (k : String Global). bytes_eq name (string_bytes k))) (sym (keys_stay es ws)) ∙ place_stays name (with_windows es ws)

absent : {A : Type 0} (p : A → Bool) (xs : List A) → is_some (position p xs) ≡ false → length xs ≤ position_or_len p xs
absent p xs h = go (nat_lt (position_or_len p xs) (length xs)) refl h where
  go : (t : Bool) → nat_lt (position_or_len p xs) (length xs) ≡ t → is_some (cond t (Some (position_or_len p xs)) None) ≡ false →
      length xs ≤ position_or_len p xs
  go true e f = cc
  go false e f = ltb-false _ _ e

inserted_step : (eq : String Global → String Global → Bool) (k : String Global) (v : Term) (e : String Global × Term) (es : List (String Global × Term))
    (t : Bool) →
    (length es ≤ position_or_len (λ (e : String Global × Term). eq k e.0) es → insert_entry eq es k v ≡ es ++ (k, v) ∷ []) →
    suc (length es) ≤ cond (not t) (1 + position_or_len (λ (e : String Global × Term). eq k e.0) es) 0 →
    cond t ((e.0, v) ∷ es) (e ∷ insert_entry eq es k v) ≡ e ∷ (es ++ (k, v) ∷ [])
inserted_step eq k v e es true later h = absurd (omega arith)
inserted_step eq k v e es false later h = ap (λ (x : List (String Global × Term)). e ∷ x) (later (omega arith))

inserted : (eq : String Global → String Global → Bool) (k : String Global) (v : Term) (es : List (String Global × Term)) →
    length es ≤ position_or_len (λ (e : String Global × Term). eq k e.0) es → insert_entry eq es k v ≡ es ++ (k, v) ∷ []
inserted eq k v [] h = refl
inserted eq k v (e ∷ es) h = inserted_step eq k v e es (eq k e.0) (inserted eq k v es) h

-- a name that no term has is no key
key_last : (name : List ℕ) (v : Term) (k : String Global) (es : List (String Global × Term)) (ws : List (Option Window)) → string_bytes k ≡ name →
    is_some (term_at name (map term_of (with_windows es ws))) ≡ false → insert_entry string_eq es k v ≡ es ++ (k, v) ∷ []
key_last name v k es ws key new =
    let same =
    position_map (λ (e : String Global × Term). string_eq k e.0) (λ (k : String Global). bytes_eq name (string_bytes k)) (λ e. e.0)
    (λ e. ap (λ (x : List ℕ). bytes_eq x (string_bytes e.0)) key) es in
    inserted string_eq k v es (absent (λ (e : String Global × Term). string_eq k e.0) es (ap is_some (same ∙ found_term name es ws) ∙ new))

-- a new name goes to the end, with its window
pub term_added : (name : List ℕ) (v : Term) (w : Option Window) (k : String Global) (es : List (String Global × Term)) (ws : List (Option Window)) →
    string_bytes k ≡ name → length ws ≡ length es → is_some (term_at name (map term_of (with_windows es ws))) ≡ false →
    map term_of (with_windows (insert_entry string_eq es k v) (ws ++ w ∷ []))
    ≡ map term_of (with_windows es ws) ++ (name, stated_of (model_term v (option_map range_in w))) ∷ []
term_added name v w k es ws key many new =
    ap (λ (x : List (String Global × Term)). map term_of (with_windows x (ws ++ w ∷ []))) (key_last name v k es ws key new)
    ∙ ap (map term_of) (windows_added es ws k v w many)
    ∙ simp map-append (ap (λ (x : List ℕ). map term_of (with_windows es ws) ++ (x, stated_of (model_term v (option_map range_in w))) ∷ []) key)

-- one more entry
pub count_added : (name : List ℕ) (v : Term) (k : String Global) (es : List (String Global × Term)) (ws : List (Option Window)) → string_bytes k ≡ name →
    is_some (term_at name (map term_of (with_windows es ws))) ≡ false → length (insert_entry string_eq es k v) ≡ length es + 1
count_added name v k es ws key new = ap length (key_last name v k es ws key new) ∙ length-append es ((k, v) ∷ [])

-- The terms of a model by their places: their machines and their values on a series.
use Rattle.std.proofs.Common.{◌≡◌, ℕ, zero, suc, ◌+◌, ℤ, Some, List, [], ◌∷◌, ◌++◌, ◌≤◌, length, drop, map, sym, ◌∙◌, ap, subst, append_assoc, append-nil, arith, String}
use Rattle.std.specs.Prelude.{slice_get, Option, Result, Ok, Err, IfOk}
use Rattle.ts_base.specs.declared.ext.Ext.{Ext}
use Rattle.std.specs.Global.{Global}
use Rattle.std.proofs.lemmas.List.{drop_all, map-append}
use Rattle.ts_pattern.specs.declared.term.Term.{Term}
use Rattle.std.specs.List.{AllByRecursion}
use Rattle.ts_base.specs.Windows.{LooksInside}
use Rattle.ts_model.specs.declared.model.ModelTerm.{ModelTerm}
use Rattle.ts_model.specs.TermValue.{stated_value}
use Rattle.ts_model.specs.Views.{stated_of, term_of}

-- an element and those after it
pub drop_at : {A : Type 0} (xs : List A) (k : ℕ) (x : A) → slice_get xs k ≡ Some x → drop k xs ≡ x ∷ drop (k + 1) xs
drop_at [] k x e = grind arith
drop_at (y ∷ ys) zero x e = let same : y ≡ x = cc in ap (λ z. z ∷ ys) same
drop_at (y ∷ ys) (suc k) x e =
    let more : suc k + 1 ≡ suc (k + 1) = omega arith in
    drop_at ys k x e ∙ ap (λ n. x ∷ drop n (y ∷ ys)) (sym more)

-- what is seen of the element at a place
pub seen_there : {A B C : Type 0} (f : A → B) (g : B → C) (xs : List A) (k : ℕ) (x : B) → slice_get (map f xs) k ≡ Some x →
    slice_get (map (λ y. g (f y)) xs) k ≡ Some (g x)
seen_there f g [] k x e = cc
seen_there f g (y ∷ ys) zero x e = let same : f y ≡ x = cc in ap (λ z. Some (g z)) same
seen_there f g (y ∷ ys) (suc k) x e = seen_there f g ys k x e

-- the value of the term at a place
pub value_found : (xs : List ℤ) (entries : List (String Global × ModelTerm)) (k : ℕ) (t : ModelTerm) → slice_get (map (λ e. e.1) entries) k ≡ Some t →
    slice_get (map (λ t. stated_value t.1 xs) (map term_of entries)) k ≡ Some (stated_value (stated_of t) xs)
value_found xs [] k t e = grind arith
value_found xs (x ∷ es) zero t e = let same : x.1 ≡ t = cc in ap (λ z. Some (stated_value (stated_of z) xs)) same
value_found xs (x ∷ es) (suc k) t e = value_found xs es k t e

-- the cells that the term at a place looks at are there
pub looks_there : (n : ℕ) (entries : List (String Global × ModelTerm)) (k : ℕ) (t : ModelTerm) → slice_get (map (λ e. e.1) entries) k ≡ Some t →
    AllByRecursion (λ t. LooksInside n t.1.window) (map term_of entries) → LooksInside n t.window
looks_there n [] k t e all = cc
looks_there n (x ∷ es) zero t e all = let same : x.1 ≡ t = cc in subst (λ (z : ModelTerm). LooksInside n z.window) same all.0
looks_there n (x ∷ es) (suc k) t e all = looks_there n es k t e all.1

-- one more term is taken, with its machine
pub term_taken : (all made more : List Term) (k : ℕ) (t : Term) → slice_get all k ≡ Some t → more ≡ made ++ t ∷ [] → made ++ drop k all ≡ all →
    more ++ drop (k + 1) all ≡ all
term_taken all made more k t e pushed before =
    ap (λ z. z ++ drop (k + 1) all) pushed
    ∙ append_assoc made (t ∷ []) (drop (k + 1) all)
    ∙ ap (λ z. made ++ z) (sym (drop_at all k t e))
    ∙ before

-- all are taken
pub all_taken : {A : Type 0} (all made : List A) (k : ℕ) → length all ≤ k → made ++ drop k all ≡ all → made ≡ all
all_taken all made k over before = sym (append-nil made) ∙ ap (λ z. made ++ z) (sym (drop_all k all over)) ∙ before

pub machine_made : {X Y B : Type 0} (f : X → B) (g : Y → B) (xs all : List X) (ys more : List Y) (x : X) (y : Y) → f x ≡ g y →
    all ≡ xs ++ x ∷ [] → more ≡ ys ++ y ∷ [] → map f xs ≡ map g ys → map f all ≡ map g more
machine_made f g xs all ys more x y same made pushed before =
    ap (map f) made
    ∙ map-append f xs (x ∷ [])
    ∙ ap (λ b. map f xs ++ b ∷ []) same
    ∙ ap (λ z. z ++ g y ∷ []) before
    ∙ sym (map-append g ys (y ∷ []))
    ∙ ap (map g) (sym pushed)

-- what is answered is the value found
pub value_answered : {E : Type 0} (r : Result Ext E) (found : Option Ext) (v : Ext) → found ≡ Some v → IfOk r (λ x. x ≡ v) → IfOk r (λ x. found ≡ Some x)
value_answered (Ok x) found v e h = e ∙ ap Some (sym h)
value_answered (Err s) found v e h = tt

-- A line that is followed: what it asks of a call, and that the call makes what the line makes.
use Rattle.std.proofs.Common.{◌≡◌, ℕ, ℤ, [], ◌++◌, sym, ap, ◌∙◌, subst}
use Rattle.ts_certificate.specs.declared.certificate.TreeLine.{TreeLine}
use Rattle.ts_certificate.specs.declared.certificate.TreeLine.TheVariants.{Split, Remove}
use Rattle.ts_domain.specs.Kept.{values_up_to, values_above, values_without}
use Rattle.ts_filter.specs.Boxes.{Box, HasCell, values_at}
use Rattle.ts_filter.specs.Steps.{made_by}
use Rattle.ts_frontier.specs.Follow.{MakesBoxes, makes_some}
use Rattle.ts_frontier.specs.Waiting.{Waiting, first, rest, after_split, after_remove}

-- the line is known, and its number in a form of its own
pub split_cell : (l : TreeLine) (k : ℕ) (t : ℤ) (b : Box) → l ≡ Split k t → MakesBoxes l b → HasCell k b
split_cell l k t b is may = (subst (λ l. MakesBoxes l b) is may).cell

pub low_asked : (l : TreeLine) (k : ℕ) (t t' : ℤ) (b : Box) → l ≡ Split k t → MakesBoxes l b → t' ≡ t → values_up_to t' (values_at k b) ≡ [] → ⊥
low_asked l k t t' b is may same none =
    (subst (λ l. MakesBoxes l b) is may).below (ap (λ z. values_up_to z (values_at k b)) (sym same) ∙ none)

pub high_asked : (l : TreeLine) (k : ℕ) (t t' : ℤ) (b : Box) → l ≡ Split k t → MakesBoxes l b → t' ≡ t → values_above t' (values_at k b) ≡ [] → ⊥
high_asked l k t t' b is may same none =
    (subst (λ l. MakesBoxes l b) is may).above (ap (λ z. values_above z (values_at k b)) (sym same) ∙ none)

pub remove_cell : (l : TreeLine) (k : ℕ) (v : ℤ) (j : ℕ) (b : Box) → l ≡ Remove k v j → MakesBoxes l b → HasCell k b
remove_cell l k v j b is may = (subst (λ l. MakesBoxes l b) is may).cell

pub other_asked : (l : TreeLine) (k : ℕ) (v v' : ℤ) (j : ℕ) (b : Box) → l ≡ Remove k v j → MakesBoxes l b → v' ≡ v →
    values_without v' (values_at k b) ≡ [] → ⊥
other_asked l k v v' j b is may same none =
    (subst (λ l. MakesBoxes l b) is may).leaves (ap (λ z. values_without z (values_at k b)) (sym same) ∙ none)

pub split_told : (l : TreeLine) (k : ℕ) (t t' : ℤ) (w w' : Waiting) → l ≡ Split k t → t' ≡ t → w' ≡ after_split k t' w →
    w'.boxes ≡ made_by l (first w.boxes) ++ rest w.boxes
split_told l k t t' w w' is same done =
    ap (λ w. w.boxes) (done ∙ ap (λ z. after_split k z w) same) ∙ ap (λ l. made_by l (first w.boxes) ++ rest w.boxes) (sym is)

pub remove_told : (l : TreeLine) (k : ℕ) (v v' : ℤ) (j : ℕ) (w w' : Waiting) → l ≡ Remove k v j → v' ≡ v → w' ≡ after_remove k v' w →
    w'.boxes ≡ made_by l (first w.boxes) ++ rest w.boxes
remove_told l k v v' j w w' is same done =
    ap (λ w. w.boxes) (done ∙ ap (λ z. after_remove k z w) same) ∙ ap (λ l. made_by l (first w.boxes) ++ rest w.boxes) (sym is)

-- after a split the next box is present
pub split_ready : (l : TreeLine) (k : ℕ) (t t' : ℤ) (w w' : Waiting) → l ≡ Split k t → w' ≡ after_split k t' w → w'.ready ≡ makes_some l
split_ready l k t t' w w' is done = ap (λ w. w.ready) done ∙ ap makes_some (sym is)

pub remove_ready : (l : TreeLine) (k : ℕ) (v v' : ℤ) (j : ℕ) (w w' : Waiting) → l ≡ Remove k v j → w' ≡ after_remove k v' w →
    w'.ready ≡ makes_some l
remove_ready l k v v' j w w' is done = ap (λ w. w.ready) done ∙ ap makes_some (sym is)

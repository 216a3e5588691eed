-- The found series, and those that are listed, after a line.
use Rattle.std.proofs.Common.{◌≡◌, ℕ, ℤ, Bool, true, false, cond, List, [], ◌∷◌, ◌++◌, map, Vec, Global, Option, Some, refl, sym, ◌∙◌, ap}
use Rattle.std.proofs.lemmas.List.{map-append}
use Rattle.ts_base.specs.declared.ext.Ext.{Ext}
use Rattle.ts_certificate.specs.declared.certificate.TreeLine.TheVariants.{Worse, Yes}
use Rattle.ts_domain.specs.BoxSeries.{InBox}
use Rattle.ts_filter.specs.Boxes.{Box, IsPart}
use Rattle.ts_filter.proofs.BoxParts.{in_box_inside}
use Rattle.ts_search.specs.Dive.{Find, value_of, find}
use Rattle.ts_frontier.specs.declared.halve.Form.{Form as FoundForm}
use Rattle.ts_frontier.specs.declared.halve.Form.TheVariants.{Alone as FoundAlone, Wide as FoundWide}
use Rattle.ts_frontier.specs.Forms.{Form, Alone, Wide, form, form_seen}
use Rattle.ts_search.specs.LineOf.{Contest, bar_of, counts_for}
use Rattle.ts_search.specs.Turns.{found_after, listed_after}
use Rattle.ts_search.proofs.Parts.{alone_within}

module _ (c : Contest) (f : Option Find) (b : Box) where
  -- of several series nothing is found
  pub found_wide : (k : ℕ) (t : ℤ) → form b ≡ Wide k t → (p : ℕ) → f ≡ found_after c f (form b) (Worse p)
  found_wide k t wide p = ap (λ g. found_after c f g (Worse p)) (sym wide)

  module _ (x : List ℤ) (v : Ext) (r : Bool) (alone : form b ≡ Alone x) (value : v ≡ value_of c.search.model x)
      (is : r ≡ counts_for c (bar_of f c.warm) v) where
    counted : (t : Bool) → r ≡ t → (p : ℕ) → cond t (Some (find c.search.model x)) f ≡ found_after c f (form b) (Worse p)
    counted t e p =
        ap (λ z. cond z (Some (find c.search.model x)) f) (sym e ∙ is ∙ ap (counts_for c (bar_of f c.warm)) value)
        ∙ ap (λ g. found_after c f g (Worse p)) (sym alone)

    -- a series that reaches more is found
    pub found_new : r ≡ true → (p : ℕ) → let new : Find = record { series = x; value = v } in Some new ≡ found_after c f (form b) (Worse p)
    found_new e p = ap (λ z. Some (record { series = x; value = z })) value ∙ counted true e p

    -- a series that doesn't reach more isn't found
    pub found_old : r ≡ false → (p : ℕ) → f ≡ found_after c f (form b) (Worse p)
    found_old e p = counted false e p

-- the one series of a box inside the model's is one of the model's box
pub left_within : (cells b : Box) (x : List ℤ) → IsPart b cells → form b ≡ Alone x → InBox x cells
left_within cells b x i alone = in_box_inside b cells x i.inside (alone_within cells b x i alone)

-- what the form that the code has says of the box

pub wide_told : (o : FoundForm) (g : Form) → form_seen o ≡ g → ((x : Vec ℤ Global) → o ≡ FoundAlone x → ⊥) → (k : ℕ) × (t : ℤ) × (g ≡ Wide k t)
wide_told (FoundAlone x) g told wide = absurd (wide x refl)
wide_told (FoundWide h) g told wide = (h.cell, h.at, sym told)

pub alone_told : (o : FoundForm) (g : Form) (x : Vec ℤ Global) → form_seen o ≡ g → o ≡ FoundAlone x → g ≡ Alone x.items
alone_told o g x told is = sym told ∙ ap form_seen is

-- listings

pub listed_wide : (b : Box) (xs : List (List ℤ)) (k : ℕ) (t : ℤ) → form b ≡ Wide k t → xs ≡ listed_after xs (form b) Yes
listed_wide b xs k t wide = ap (λ g. listed_after xs g Yes) (sym wide)

pub listed_one : (b : Box) (old new : List (Vec ℤ Global)) (x : Vec ℤ Global) → form b ≡ Alone x.items → new ≡ old ++ x ∷ [] →
    map (λ y. y.items) new ≡ listed_after (map (λ y. y.items) old) (form b) Yes
listed_one b old new x alone pushed =
    ap (map (λ y. y.items)) pushed ∙ map-append (λ (y : Vec ℤ Global). y.items) old (x ∷ [])
    ∙ ap (λ g. listed_after (map (λ y. y.items) old) g Yes) (sym alone)

-- Trees and steps: one and the same; how many lines a tree has, and how many boxes wait.
use Rattle.std.proofs.Common.{◌≡◌, ℕ, ◌+◌, ◌≤◌, List, [], ◌∷◌, ◌++◌, length, refl, sym, ◌∙◌, ap, subst, arith, append_assoc, append-nil, length-append}
use Rattle.std.specs.List.{AllByRecursion}
use Rattle.ts_certificate.specs.declared.certificate.TreeLine.{TreeLine}
use Rattle.ts_certificate.specs.declared.certificate.TreeLine.TheVariants.{Split, Remove, No, Worse, Yes, Unsearched}
use Rattle.ts_domain.specs.BoxSeries.{IsBox}
use Rattle.ts_domain.proofs.BoxLaws.{some_series}
use Rattle.ts_model.specs.ModelParts.{ModelParts, total_of}
use Rattle.ts_filter.specs.Boxes.{Box, low_side, high_side, without, only, IsPart}
use Rattle.ts_filter.specs.Laws.{StepsGoOn, FormedIsShort, FitIsFormed, TreeIsSteps}
use Rattle.ts_filter.specs.RefutedWorseDrop.{Spans}
use Rattle.ts_filter.specs.Rules.{Head, KeepsRule}
use Rattle.ts_filter.specs.Steps.{made_by, Steps}
use Rattle.ts_filter.specs.Tree.{Tree, Leaf, Drop, Fork, tree_lines, reported_by, reported_after, Fits}
use Rattle.ts_filter.proofs.BoxParts.{inside_length, low_part, high_part, without_part, only_part, others_stay, part_self, box_total, low_total, high_total, without_total, sides_count, drop_count}

module _ (m : ModelParts) (s : Spans) (h : Head) where
  pub tree_steps : (told : ℕ) (b : Box) (t : Tree) (w : List Box) (rest : List TreeLine) (left : List Box) (after : ℕ) →
      Fits m s h told b t → Steps m s h w (reported_after t told) rest left after → Steps m s h (b ∷ w) told (tree_lines t ++ rest) left after
  tree_steps told b (Leaf (Split k t)) w rest left after f r = absurd f.0
  tree_steps told b (Leaf (Remove k v j)) w rest left after f r = absurd f.0
  tree_steps told b (Leaf (No j p)) w rest left after f r = (f.1, r)
  tree_steps told b (Leaf (Worse p)) w rest left after f r = (f.1, r)
  tree_steps told b (Leaf Yes) w rest left after f r = (f.1, r)
  tree_steps told b (Leaf Unsearched) w rest left after f r = (f.1, r)
  tree_steps told b (Drop k v j t) w rest left after f r = (f.0, tree_steps told (without k v b) t w rest left after f.1 r)
  tree_steps told b (Fork k t a d) w rest left after f r =
      let upper = tree_steps (reported_after a told) (high_side k t b) d w rest left after f.2 r in
      let lower = tree_steps told (low_side k t b) a (high_side k t b ∷ w) (tree_lines d ++ rest) left after f.1 upper in
      (f.0, subst (λ z. Steps m s h (low_side k t b ∷ high_side k t b ∷ w) told z left after) (sym (append_assoc (tree_lines a) (tree_lines d) rest)) lower)

  -- one tree for each box that waits
  abbrev Forest : ℕ → List Box → List TreeLine → ℕ → Type 0
  Forest told [] ls after = (ls ≡ []) × (told ≡ after)
  Forest told (b ∷ w) ls after =
      (t : Tree) × (rest : List TreeLine) × (ls ≡ tree_lines t ++ rest) × Fits m s h told b t × Forest (reported_after t told) w rest after

  steps_tree : (ls : List TreeLine) (told : ℕ) (w : List Box) (after : ℕ) → Steps m s h w told ls [] after → Forest told w ls after
  steps_tree [] told [] after f = (refl, f.1)
  steps_tree [] told (b ∷ w) after f = absurd (let e = f.0 in cc)
  steps_tree (l ∷ ls) told [] after f = absurd f
  steps_tree (Split k t ∷ ls) told (b ∷ w) after f =
      let a = steps_tree ls told (low_side k t b ∷ high_side k t b ∷ w) after f.1 in
      let d = a.4 in (
        Fork k t a.0 d.0,
        d.1,
        ap (λ z. Split k t ∷ z) (a.2 ∙ ap (λ z. tree_lines a.0 ++ z) d.2 ∙ sym (append_assoc (tree_lines a.0) (tree_lines d.0) d.1)),
        (f.0, a.3, d.3),
        d.4,
      )
  steps_tree (Remove k v j ∷ ls) told (b ∷ w) after f =
      let a = steps_tree ls told (without k v b ∷ w) after f.1 in
      (Drop k v j a.0, a.1, ap (λ z. Remove k v j ∷ z) a.2, (f.0, a.3), a.4)
  steps_tree (No j p ∷ ls) told (b ∷ w) after f = (Leaf (No j p), ls, refl, (tt, f.0), steps_tree ls told w after f.1)
  steps_tree (Worse p ∷ ls) told (b ∷ w) after f = (Leaf (Worse p), ls, refl, (tt, f.0), steps_tree ls told w after f.1)
  steps_tree (Yes ∷ ls) told (b ∷ w) after f = (Leaf Yes, ls, refl, (tt, f.0), steps_tree ls (told + 1) w after f.1)
  steps_tree (Unsearched ∷ ls) told (b ∷ w) after f = (Leaf Unsearched, ls, refl, (tt, f.0), steps_tree ls told w after f.1)

  pub to_steps : (b : Box) (t : Tree) → Fits m s h 0 b t → Steps m s h (b ∷ []) 0 (tree_lines t) [] (reported_after t 0)
  to_steps b t f =
      subst (λ z. Steps m s h (b ∷ []) 0 z [] (reported_after t 0)) (append-nil (tree_lines t)) (tree_steps 0 b t [] [] [] (reported_after t 0) f (refl, refl))

  -- the boxes that a line makes lie inside too
  pub parts_made : (told : ℕ) (l : TreeLine) (b : Box) (w : List Box) → AllByRecursion (λ c. IsPart c m.cells) (b ∷ w) → KeepsRule m s h told b l →
      AllByRecursion (λ c. IsPart c m.cells) (made_by l b ++ w)
  parts_made told (Split k t) b w e f = (low_part k t b m.cells e.0 f.cell f.below, (high_part k t b m.cells e.0 f.cell f.above, e.1))
  parts_made told (Remove k v j) b w e f = (without_part k v b m.cells e.0 f.cell (others_stay k v b e.0.box f.cell f.many f.there), e.1)
  parts_made told (No j p) b w e f = e.1
  parts_made told (Worse p) b w e f = e.1
  parts_made told Yes b w e f = e.1
  parts_made told Unsearched b w e f = e.1

  pub parts_steps : (ls : List TreeLine) (told : ℕ) (w left : List Box) (after : ℕ) → AllByRecursion (λ c. IsPart c m.cells) w →
      Steps m s h w told ls left after → AllByRecursion (λ c. IsPart c m.cells) left
  parts_steps [] told w left after e f = subst (λ z. AllByRecursion (λ c. IsPart c m.cells) z) f.0 e
  parts_steps (l ∷ ls) told [] left after e f = absurd f
  parts_steps (l ∷ ls) told (b ∷ w) left after e f =
      parts_steps ls (reported_by l told) (made_by l b ++ w) left after (parts_made told l b w e f.0) f.1

  steps_more : (ls more : List TreeLine) (told : ℕ) (w left end : List Box) (after last : ℕ) → Steps m s h w told ls left after →
      Steps m s h left after more end last → Steps m s h w told (ls ++ more) end last
  steps_more [] more told w left end after last f g =
      subst (λ z. Steps m s h z told more end last) (sym f.0) (subst (λ n. Steps m s h left n more end last) (sym f.1) g)
  steps_more (l ∷ ls) more told [] left end after last f g = absurd f
  steps_more (l ∷ ls) more told (b ∷ w) left end after last f g =
      (f.0, steps_more ls more (reported_by l told) (made_by l b ++ w) left end after last f.1 g)

  -- each box, with those after it counted and its own values, is at most so much
  abbrev Few : ℕ → List Box → Type 0
  Few top [] = Unit {0}
  Few top (b ∷ w) = (length (b ∷ w) + total_of b ≤ top) × Few top w

  few_made : (told top : ℕ) (l : TreeLine) (b : Box) (w : List Box) → IsBox b → Few top (b ∷ w) → KeepsRule m s h told b l → Few top (made_by l b ++ w)
  few_made told top (Split k t) b w i e f =
      let n = e.0 in let low = low_total k t b f.cell f.above in let high = high_total k t b f.cell in ((omega arith), ((omega arith), e.1))
  few_made told top (Remove k v j) b w i e f = let n = e.0 in let less = without_total k v b i f.cell f.there in ((omega arith), e.1)
  few_made told top (No j p) b w i e f = e.1
  few_made told top (Worse p) b w i e f = e.1
  few_made told top Yes b w i e f = e.1
  few_made told top Unsearched b w i e f = e.1

  few_steps : (top : ℕ) (ls : List TreeLine) (told : ℕ) (w left : List Box) (after : ℕ) → AllByRecursion (λ c. IsPart c m.cells) w → Few top w →
      Steps m s h w told ls left after → Few top left
  few_steps top [] told w left after i e f = subst (λ z. Few top z) f.0 e
  few_steps top (l ∷ ls) told [] left after i e f = absurd f
  few_steps top (l ∷ ls) told (b ∷ w) left after i e f =
      few_steps top ls (reported_by l told) (made_by l b ++ w) left after (parts_made told l b w i f.0) (few_made told top l b w i.0.box e f.0) f.1

  few_waiting : (top : ℕ) (w : List Box) → Few top w → AllByRecursion (λ c. IsPart c m.cells) w → length m.cells ≤ top → length w + length m.cells ≤ top
  few_waiting top [] e g n = omega arith
  few_waiting top (b ∷ w) e g n = let r = e.0 in omega (arith, box_total b g.0.box, inside_length b m.cells g.0.inside)

  pub few : (ls : List TreeLine) (w : List Box) (told : ℕ) → IsBox m.cells → Steps m s h (m.cells ∷ []) 0 ls w told →
      length w + length m.cells ≤ total_of m.cells + 1
  few ls w told i f =
      let top = total_of m.cells + 1 in
      let least = box_total m.cells i in
      few_waiting top w (few_steps top ls 0 (m.cells ∷ []) w told (part_self m.cells i, tt) ((omega arith), tt) f)
      (parts_steps ls 0 (m.cells ∷ []) w told (part_self m.cells i, tt) f) (omega arith)

pub tree_is_steps : TreeIsSteps
tree_is_steps m s h b ls told = (
  λ f. subst (λ z. Steps m s h (b ∷ []) 0 z [] told) f.1
      (subst (λ n. Steps m s h (b ∷ []) 0 (tree_lines f.0) [] n) f.3 (to_steps m s h b f.0 f.2)),
  λ g. let f = steps_tree m s h ls 0 (b ∷ []) told g in
      (f.0, sym (f.2 ∙ ap (λ z. tree_lines f.0 ++ z) f.4.0 ∙ append-nil (tree_lines f.0)), f.3, f.4.1),
)

pub steps_go_on : StepsGoOn
steps_go_on m s h ls more w left end told after last f g = steps_more m s h ls more told w left end after last f g

-- a leaf takes a series, a drop takes one and leaves the rest to one tree, a split shares them between two
pub formed_short : FormedIsShort
formed_short (Leaf l) b i f = omega (arith, some_series b i)
formed_short (Drop k v j t) b i f =
    let left = (without_part k v b b (part_self b i) f.0.cell f.0.leaves).box in
    let one = some_series (only k v b) (only_part k v b b (part_self b i) f.0.cell f.0.there).box in
    omega (arith, drop_count k v b i f.0.cell f.0.there, one, formed_short t (without k v b) left f.1)
formed_short (Fork k t lower upper) b i f =
    let low = (low_part k t b b (part_self b i) f.0.cell f.0.below).box in
    let high = (high_part k t b b (part_self b i) f.0.cell f.0.above).box in
    omega (
      arith,
      sides_count k t b f.0.cell,
      formed_short lower (low_side k t b) low f.1,
      formed_short upper (high_side k t b) high f.2,
      length-append (tree_lines lower) (tree_lines upper),
    )

pub fit_formed : FitIsFormed
fit_formed m s h told (Leaf l) b i f = f.0
fit_formed m s h told (Drop k v j t) b i f =
    let leaves = others_stay k v b i f.0.cell f.0.many f.0.there in
    let left = (without_part k v b b (part_self b i) f.0.cell leaves).box in
    (record { cell = f.0.cell; there = f.0.there; leaves = leaves }, fit_formed m s h told t (without k v b) left f.1)
fit_formed m s h told (Fork k t lower upper) b i f =
    let low = (low_part k t b b (part_self b i) f.0.cell f.0.below).box in
    let high = (high_part k t b b (part_self b i) f.0.cell f.0.above).box in
    (f.0, fit_formed m s h told lower (low_side k t b) low f.1, fit_formed m s h (reported_after lower told) upper (high_side k t b) high f.2)

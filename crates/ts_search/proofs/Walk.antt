-- Steps under another head, the best series reported, and lines that stay open.
use Rattle.std.proofs.Common.{◌≡◌, ℕ, List, [], ◌∷◌, ◌++◌, length, Option, refl, ap, arith}
use Rattle.ts_certificate.specs.declared.certificate.TreeLine.{TreeLine}
use Rattle.ts_certificate.specs.declared.certificate.TreeLine.TheVariants.{Split, Remove, No, Worse, Yes, Unsearched}
use Rattle.ts_certificate.specs.Certificate.{checked_count, open_count}
use Rattle.ts_model.specs.ModelParts.{ModelParts}
use Rattle.ts_filter.specs.Boxes.{Box}
use Rattle.ts_filter.specs.RefutedWorseDrop.{Spans}
use Rattle.ts_filter.specs.Rules.{Head, MayStayOpen, KeepsRule}
use Rattle.ts_filter.specs.Steps.{made_by, Steps}
use Rattle.ts_filter.specs.Tree.{reported_by}
use Rattle.ts_search.specs.Dive.{Find}
use Rattle.ts_frontier.specs.Forms.{form}
use Rattle.ts_search.specs.Found.{tally_after, tally}
use Rattle.ts_search.specs.LineOf.{Contest}
use Rattle.ts_search.specs.Turns.{left_open}

abbrev pub IsChecked : TreeLine → Type 0
IsChecked (Split k t) = Unit {0}
IsChecked (Remove k v j) = Unit {0}
IsChecked (No j p) = Unit {0}
IsChecked (Worse p) = Unit {0}
IsChecked Yes = Unit {0}
IsChecked Unsearched = ⊥

abbrev pub AllChecked : List TreeLine → Type 0
AllChecked [] = Unit {0}
AllChecked (l ∷ ls) = IsChecked l × AllChecked ls

pub all_checked_snoc : (ls : List TreeLine) (l : TreeLine) → AllChecked ls → IsChecked l → AllChecked (ls ++ l ∷ [])
all_checked_snoc [] l h k = (k, tt)
all_checked_snoc (m ∷ ls) l h k = (h.0, all_checked_snoc ls l h.1 k)

module _ (m : ModelParts) (s : Spans) where
  pub steps_under : (h g : Head) → ((y : ℕ) (b : Box) (l : TreeLine) → IsChecked l → KeepsRule m s h y b l → KeepsRule m s g y b l) →
      (ls : List TreeLine) (y : ℕ) (w left : List Box) (after : ℕ) → AllChecked ls → Steps m s h w y ls left after → Steps m s g w y ls left after
  steps_under h g r [] y w left after a f = f
  steps_under h g r (l ∷ ls) y [] left after a f = f
  steps_under h g r (l ∷ ls) y (b ∷ w) left after a f =
      (r y b l a.0 f.0, steps_under h g r ls (reported_by l y) (made_by l b ++ w) left after a.1 f.1)

  pub open_steps : (h : Head) → MayStayOpen h.claim → (w : List Box) (y : ℕ) → Steps m s h w y (left_open w) [] y
  open_steps h o [] y = (refl, refl)
  open_steps h o (b ∷ w) y = (o, open_steps h o w y)

-- the best reported series over one more line, and over open lines

module _ (c : Contest) where
  pub tally_snoc : (h : Head) (l : TreeLine) (b : Box) (u : List Box) (ls : List TreeLine) (f : Option Find) (y : ℕ) (w : List Box) (after : ℕ) →
      Steps c.search.model c.search.spans h w y ls (b ∷ u) after → tally c f w (ls ++ l ∷ []) ≡ tally_after c (tally c f w ls) (form b) l
  tally_snoc h l b u [] f y w after p = ap (λ z. tally c f z (l ∷ [])) p.0
  tally_snoc h l b u (m ∷ ls) f y [] after p = absurd p
  tally_snoc h l b u (m ∷ ls) f y (d ∷ w) after p = tally_snoc h l b u ls (tally_after c f (form d) m) (reported_by m y) (made_by m d ++ w) after p.1

  pub tally_open : (v : List Box) (ls : List TreeLine) (f : Option Find) (w : List Box) → tally c f w (ls ++ left_open v) ≡ tally c f w ls
  tally_open [] [] f w = refl
  tally_open (b ∷ v) [] f [] = refl
  tally_open (b ∷ v) [] f (d ∷ w) = tally_open v [] f w
  tally_open v (l ∷ ls) f [] = refl
  tally_open v (l ∷ ls) f (d ∷ w) = tally_open v ls (tally_after c f (form d) l) (made_by l d ++ w)

pub checked_open : (ls : List TreeLine) (w : List Box) → AllChecked ls → checked_count (ls ++ left_open w) ≡ length ls
checked_open [] [] h = refl
checked_open [] (b ∷ w) h = checked_open [] w h
checked_open (Split k t ∷ ls) w h = omega (arith, checked_open ls w h.1)
checked_open (Remove k v j ∷ ls) w h = omega (arith, checked_open ls w h.1)
checked_open (No j p ∷ ls) w h = omega (arith, checked_open ls w h.1)
checked_open (Worse p ∷ ls) w h = omega (arith, checked_open ls w h.1)
checked_open (Yes ∷ ls) w h = omega (arith, checked_open ls w h.1)
checked_open (Unsearched ∷ ls) w h = absurd h.0

pub opens_open : (ls : List TreeLine) (w : List Box) → AllChecked ls → open_count (ls ++ left_open w) ≡ length w
opens_open [] [] h = refl
opens_open [] (b ∷ w) h = omega (arith, opens_open [] w h)
opens_open (Split k t ∷ ls) w h = opens_open ls w h.1
opens_open (Remove k v j ∷ ls) w h = opens_open ls w h.1
opens_open (No j p ∷ ls) w h = opens_open ls w h.1
opens_open (Worse p ∷ ls) w h = opens_open ls w h.1
opens_open (Yes ∷ ls) w h = opens_open ls w h.1
opens_open (Unsearched ∷ ls) w h = absurd h.0

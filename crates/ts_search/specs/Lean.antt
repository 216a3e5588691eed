-- The lines that a search may write.
use Rattle.std.specs.Prelude.{◌≡◌, ℕ, ◌<◌, Bool, true, false, ◌||◌, List, [], ◌∷◌, ◌++◌}
use Rattle.std.specs.Prelude.{Option, Some, None, MatchOption, option_map}
use Rattle.ts_certificate.specs.declared.certificate.Claim.{Claim}
use Rattle.ts_certificate.specs.declared.certificate.Claim.TheVariants.{Best, Infeasible, BudgetBest, BudgetNone}
use Rattle.ts_certificate.specs.declared.certificate.Claim.TheVariants.{Full, All, BudgetList}
use Rattle.ts_certificate.specs.declared.certificate.TreeLine.{TreeLine}
use Rattle.ts_certificate.specs.declared.certificate.TreeLine.TheVariants.{Split, Remove, No, Worse, Yes, Unsearched}
use Rattle.ts_certificate.specs.Certificate.{Cert}
use Rattle.ts_model.specs.ModelParts.{ModelParts}
use Rattle.ts_filter.specs.declared.bar.Bar.TheVariants.{Better, AsGood}
use Rattle.ts_filter.specs.Boxes.{Box}
use Rattle.ts_filter.specs.RefutedWorseDrop.{Spans, IsRefuted}
use Rattle.ts_filter.specs.Steps.{made_by}
use Rattle.ts_filter.specs.Tree.{reported_by}
use Rattle.ts_search.specs.Dive.{Find}
use Rattle.ts_search.specs.Drops.{least, or_later, next_drop}
use Rattle.ts_frontier.specs.Forms.{Form, Alone, Wide, form}
use Rattle.ts_search.specs.Found.{tally_after}
use Rattle.ts_search.specs.LineOf.{Contest, Sought, TheBest, TheFirst, search_in, sought_for, last, inner}
use Rattle.ts_search.specs.LineOf.{requirements, is_cut_at, refuted_last, first_no}

-- the objective is not better at p than the best series reported before; where none was reported this holds nowhere
abbrev pub below_reported : Contest → Option Find → ℕ → Box → Bool
below_reported c None p b = false
below_reported c (Some f) p b = is_cut_at c p b (Better f.value)

-- the objective isn't as good at p as the warm series; without a warm series this holds nowhere
abbrev pub below_warm : Contest → Option Find → ℕ → Box → Bool
below_warm c None p b = false
below_warm c (Some w) p b = is_cut_at c p b (AsGood w.value)

-- the objective is below what was reported or is warm; a listing has no objective
abbrev pub below : Sought → ℕ → Box → Bool
below (TheBest c best) p b = below_reported c best p b || below_warm c c.warm p b
below (TheFirst c) p b = false

abbrev pub worse_line : ℕ → Bool → Option TreeLine
worse_line p true = Some (Worse p)
worse_line p false = None

-- `worse n`: on a box of one series, or below what was reported or is warm
abbrev pub last_worse : Sought → Box → Form → Option TreeLine
last_worse (TheBest c best) b (Alone x) = Some (Worse (last c.search))
last_worse (TheBest c best) b (Wide k t) = worse_line (last c.search) (below (TheBest c best) (last c.search) b)
last_worse (TheFirst c) b form = None

-- `worse P`, at the least cell below the last one
abbrev pub inner_reason : Sought → Box → Option TreeLine
inner_reason (TheBest c best) b =
    option_map (λ p. Worse p) (least (λ p. below (TheBest c best) p b) (inner c.search) 1)
inner_reason (TheFirst c) b = None

-- the first of `no J n`, `worse n`, `no J P` and `worse P` that holds
abbrev pub first_reason : Sought → Box → Option TreeLine
first_reason q b =
    or_later (option_map (λ j. No j (last (search_in q))) (refuted_last (search_in q) b))
    (or_later (last_worse q b (form b))
    (or_later (first_no (search_in q) b (requirements (search_in q)) 1) (inner_reason q b)))

-- a split or a drop may stand: no requirement is refuted at a usable cell, and at none the objective is below what was
-- reported or is warm
pub record IsFree (q : Sought) (b : Box) : Type 0 where
  pub refuted : (j p : ℕ) → IsRefuted (search_in q).model.requirements (search_in q).spans j p b → ⊥
  pub above : (p : ℕ) → below q p b ≡ false

-- a drop is the next one, and a split stands where no drop is possible, at the first open cell and its lower middle
abbrev pub IsLeanLine : Sought → Box → TreeLine → Type 0
IsLeanLine q b (Split k t) =
    IsFree q b × (next_drop (search_in q).model (search_in q).spans b ≡ None) × (form b ≡ Wide k t)
IsLeanLine q b (Remove k v j) =
    IsFree q b × (next_drop (search_in q).model (search_in q).spans b
    ≡ Some (record { cell = k; value = v; require = j }))
IsLeanLine q b (No j p) = first_reason q b ≡ Some (No j p)
IsLeanLine q b (Worse p) = first_reason q b ≡ Some (Worse p)
IsLeanLine q b Yes = Unit {0}
IsLeanLine q b Unsearched = Unit {0}

-- a checked line stands after no `open` line, and in `full C` not after `yes` line number C
abbrev pub InTime : Option ℕ → Bool → ℕ → Type 0
InTime most opened reported = (opened ≡ false) × MatchOption most (Unit {0}) (λ count. reported < count)

abbrev pub StandsInTime : Option ℕ → Bool → ℕ → TreeLine → Type 0
StandsInTime most opened reported (Split k t) = InTime most opened reported
StandsInTime most opened reported (Remove k v j) = InTime most opened reported
StandsInTime most opened reported (No j p) = InTime most opened reported
StandsInTime most opened reported (Worse p) = InTime most opened reported
StandsInTime most opened reported Yes = InTime most opened reported
StandsInTime most opened reported Unsearched = Unit {0}

abbrev pub or_open : Bool → TreeLine → Bool
or_open opened (Split k t) = opened
or_open opened (Remove k v j) = opened
or_open opened (No j p) = opened
or_open opened (Worse p) = opened
or_open opened Yes = opened
or_open opened Unsearched = true

-- what is sought after one more line: the best series that was reported is another, perhaps
abbrev pub sought_after : Sought → Form → TreeLine → Sought
sought_after (TheBest c best) form l = TheBest c (tally_after c best form l)
sought_after (TheFirst c) form l = TheFirst c

-- the lines for the boxes that wait are lean; before them an `open` line stands or not, and a number of `yes` lines
abbrev pub AreLean : Sought → Option ℕ → Bool → ℕ → List Box → List TreeLine → Type 0
AreLean q most opened reported waiting [] = Unit {0}
AreLean q most opened reported [] (l ∷ ls) = ⊥
AreLean q most opened reported (b ∷ waiting) (l ∷ ls) =
    StandsInTime most opened reported l × IsLeanLine q b l
    × AreLean (sought_after q (form b) l) most (or_open opened l) (reported_by l reported) (made_by l b ++ waiting) ls

-- how many `yes` lines end a tree
abbrev pub most_reported : Claim → Option ℕ
most_reported (Best v) = None
most_reported Infeasible = None
most_reported (BudgetBest v) = None
most_reported BudgetNone = None
most_reported (Full count) = Some count
most_reported (All count) = None
most_reported (BudgetList count) = None

abbrev pub Lean : ModelParts → Spans → Cert → Type 0
Lean m s c = AreLean (sought_for m s c.aim) (most_reported c.claim) false 0 (m.cells ∷ []) c.tree

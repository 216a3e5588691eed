-- What a search for the reached configurations of a plan has found: each arrival, and at each number the place of its
-- arrival.
use Rattle.std.specs.Prelude.{◌≡◌, ℕ, zero, suc, ◌+◌, ◌<◌, ◌≤◌, true, false, List, [], ◌∷◌, ◌++◌, Option, None, Some, MatchOption, length, slice_get, slice_index_or}
use Rattle.ts_base.specs.declared.letter.Letter.{Letter}
use Rattle.ts_base.specs.declared.letter.Letter.TheVariants.{Less, Equal, Greater}
use Rattle.ts_regex.specs.Shape.{Shape, shape_of}
use Rattle.ts_transducer.specs.declared.row.Row.{Row}
use Rattle.ts_pattern.specs.declared.pattern.Pattern.{Pattern}
use Rattle.ts_pattern.specs.declared.plan.Plan.{Plan}
use Rattle.ts_pattern.specs.Plans.{plain_plan, subject}
use Rattle.ts_pattern.specs.Closed.{PlainConfiguration, Subject, step_of, step_listed, meets_checks}
use Rattle.ts_validate.specs.declared.step.Look.{Look}
use Rattle.ts_validate.specs.declared.arrival.Arrival.{Arrival}
use Rattle.ts_validate.specs.declared.arrival.Tour.{Tour}

abbrev pub configuration_at : {R : Type 0} → List (PlainConfiguration R) → ℕ → PlainConfiguration R
configuration_at [] i = record { state = 0; live = [] }
configuration_at (x ∷ xs) zero = x
configuration_at (x ∷ xs) (suc i) = configuration_at xs i

-- configuration i, by its residuals themselves
abbrev pub value_at : Subject Shape → ℕ → PlainConfiguration Shape
value_at s i = configuration_at s.configurations i

-- a pattern and a plan against a transducer's rows
abbrev pub against : List Row → Pattern → Plan → Subject Shape
against rows p plan = subject rows (shape_of p.regex) p.b (plain_plan plan)

-- i is the least number of x
abbrev pub IsFirst : Subject Shape → PlainConfiguration Shape → ℕ → Type 0
IsFirst s x i = (i < length s.configurations) × (value_at s i ≡ x) × ((j : ℕ) → j < i → value_at s j ≡ x → ⊥)

-- what a look at the step of x on l shows
pub record Sees (s : Subject Shape) (x : PlainConfiguration Shape) (l : Letter) (k : Look) : Type 0 where
  pub none : k.next ≡ None → step_listed s x l ≡ false
  pub some : (j : ℕ) → k.next ≡ Some j → (step_listed s x l ≡ true) × IsFirst s (step_of s x l) j
  pub meets : k.meets ≡ meets_checks s x l

-- one more arrival
abbrev pub arrival : ℕ → ℕ → Letter → Arrival
arrival configuration from l = record { configuration = configuration; from = from; letter = l }

-- arrival k, and the place at number c
abbrev pub arrival_at : List Arrival → ℕ → Arrival
arrival_at arrivals k = slice_index_or arrivals k (arrival 0 0 Less)

abbrev pub place_at : List (Option ℕ) → ℕ → Option ℕ
place_at places c = slice_index_or places c None

-- how many places are none
abbrev pub open_places : List (Option ℕ) → ℕ
open_places [] = 0
open_places (None ∷ places) = open_places places + 1
open_places (Some k ∷ places) = open_places places

-- the configuration of arrival k
abbrev pub arrival_value : Subject Shape → List Arrival → ℕ → PlainConfiguration Shape
arrival_value s arrivals k = value_at s (arrival_at arrivals k).configuration

-- arrival k goes on from an earlier one by its letter
abbrev pub GoesOn : Subject Shape → List Arrival → ℕ → Type 0
GoesOn s arrivals k =
    ((arrival_at arrivals k).from < k)
    × (step_listed s (arrival_value s arrivals (arrival_at arrivals k).from) (arrival_at arrivals k).letter ≡ true)
    × (arrival_value s arrivals k ≡ step_of s (arrival_value s arrivals (arrival_at arrivals k).from)
    (arrival_at arrivals k).letter)

pub record Reaches (s : Subject Shape) (arrivals : List Arrival) (places : List (Option ℕ)) : Type 0 where
  pub size : length places ≡ length s.configurations
  pub count : open_places places + length arrivals ≡ length places
  pub some : 0 < length arrivals
  pub start : (arrival_at arrivals 0).configuration ≡ 0
  pub steps : (k : ℕ) → 0 < k → k < length arrivals → GoesOn s arrivals k
  pub inside : (k : ℕ) → k < length arrivals → (arrival_at arrivals k).configuration < length s.configurations
  pub there : (c k : ℕ) → place_at places c ≡ Some k →
      (k < length arrivals) × ((arrival_at arrivals k).configuration ≡ c)
  pub back : (k : ℕ) → k < length arrivals → place_at places (arrival_at arrivals k).configuration ≡ Some k

-- where the step of arrival k on l is listed, its first number has arrived
abbrev pub StepArrives : Subject Shape → List Arrival → ℕ → Letter → Type 0
StepArrives s arrivals k l =
    step_listed s (arrival_value s arrivals k) l ≡ true →
    (m : ℕ) × (m < length arrivals)
    × IsFirst s (step_of s (arrival_value s arrivals k) l) (arrival_at arrivals m).configuration

-- the steps of the first arrivals have all arrived
abbrev pub StepsArrive : Subject Shape → List Arrival → ℕ → Type 0
StepsArrive s arrivals done = (k : ℕ) → k < done → (l : Letter) → StepArrives s arrivals k l

-- what was there stays in its place
abbrev pub ArrivalsGrow : List Arrival → List Arrival → Type 0
ArrivalsGrow old new = (more : List Arrival) × (new ≡ old ++ more)

-- the letters from the start to arrival k
pub data IsPath (arrivals : List Arrival) : ℕ → List Letter → Type 0 where
  PathStart : (k : ℕ) (w : List Letter) → k ≡ 0 → w ≡ [] → IsPath arrivals k w
  PathOn : (k : ℕ) (v w : List Letter) → 0 < k → IsPath arrivals (arrival_at arrivals k).from v →
      w ≡ v ++ (arrival_at arrivals k).letter ∷ [] → IsPath arrivals k w

-- the checks hold on each letter
abbrev pub AllMeet : Subject Shape → ℕ → Type 0
AllMeet s i = (l : Letter) → meets_checks s (value_at s i) l ≡ true

-- the checks hold on each letter before l
abbrev pub MeetsBefore : Subject Shape → ℕ → Letter → Type 0
MeetsBefore s i Less = Unit {0}
MeetsBefore s i Equal = meets_checks s (value_at s i) Less ≡ true
MeetsBefore s i Greater = (meets_checks s (value_at s i) Less ≡ true) × (meets_checks s (value_at s i) Equal ≡ true)

-- l is the first letter on which a check of configuration i fails
abbrev pub FailsFirst : Subject Shape → ℕ → Letter → Type 0
FailsFirst s i l = (meets_checks s (value_at s i) l ≡ false) × MeetsBefore s i l

-- of each arrival whose steps were taken: the first letter on which a check fails there, if one does
abbrev pub AreJudged : Subject Shape → List Arrival → List (Option Letter) → Type 0
AreJudged s arrivals failing =
    (k : ℕ) (o : Option Letter) → slice_get failing k ≡ Some o →
    MatchOption o (AllMeet s (arrival_at arrivals k).configuration)
    (λ l. FailsFirst s (arrival_at arrivals k).configuration l)

-- a tour: its arrivals are reached, and the steps of the first of them were taken and judged
pub record IsTour (s : Subject Shape) (t : Tour) : Type 0 where
  pub reaches : Reaches s t.arrivals.items t.places.items
  pub followed : StepsArrive s t.arrivals.items (length t.failing.items)
  pub judged : AreJudged s t.arrivals.items t.failing.items
  pub inside : length t.failing.items ≤ length t.arrivals.items

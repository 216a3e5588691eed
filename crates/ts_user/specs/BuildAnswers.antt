-- What the answers of `build_plan` mean.
use Rattle.std.specs.Prelude.{◌≡◌, ℕ, ◌+◌, ◌≤◌, false, List, [], ◌∷◌, ◌++◌, map, length}
use Rattle.ts_base.specs.declared.letter.Letter.{Letter}
use Rattle.ts_regex.specs.Shape.{Shape, shape_of}
use Rattle.ts_transducer.specs.declared.row.Row.{Row}
use Rattle.ts_pattern.specs.declared.pattern.Pattern.{Pattern}
use Rattle.ts_pattern.specs.declared.plan.Plan.{Plan}
use Rattle.ts_pattern.specs.Closed.{PlainConfiguration, Subject}
use Rattle.ts_pattern.specs.Plans.{plain_plan, subject}
use Rattle.ts_user.specs.declared.build_stop.BuildStop.{BuildStop}
use Rattle.ts_user.specs.declared.build_stop.BuildStop.TheVariants.{Refused, TooMany, Memory}
use Rattle.ts_user.specs.SignatureOrder.{place}
use Rattle.ts_user.specs.FirstReached.{unplanned, reached, agrees, IsFirst, PassBelow, AreFirst, AreAllFirst}

abbrev pub most_configurations : ℕ
most_configurations = 512

-- the list has the configurations that are reached, each once, in the order in which they are first reached; there are
-- at most 512, and all checks hold
pub record IsListing (s : Subject Shape) (xs : List (PlainConfiguration Shape)) : Type 0 where
  pub signatures : List (List Letter)
  pub all : AreAllFirst s signatures
  pub values : xs ≡ map (λ w. reached s w) signatures
  pub few : length signatures ≤ most_configurations
  pub pass : (n : ℕ) → PassBelow s n

-- w is the first signature by whose last step a check fails, its front is the first one to its configuration, and at
-- most 512 configurations are reached before it
pub record IsRefused (s : Subject Shape) (w : List Letter) : Type 0 where
  pub front : List Letter
  pub letter : Letter
  pub is : w ≡ front ++ letter ∷ []
  pub first : IsFirst s front
  pub fails : agrees s (reached s front) letter ≡ false
  pub before : PassBelow s (place w)
  pub listed : List (List Letter)
  pub signatures : AreFirst s listed (place w)
  pub few : length listed ≤ most_configurations

-- some configuration is reached after 512 others, and no check fails until then
pub record IsTooMany (s : Subject Shape) : Type 0 where
  pub signature : List Letter
  pub first : IsFirst s signature
  pub pass : PassBelow s (place signature + 1)
  pub listed : List (List Letter)
  pub signatures : AreFirst s listed (place signature)
  pub full : length listed ≡ most_configurations

abbrev pub IsStop : Subject Shape → BuildStop → Type 0
IsStop s (Refused signature) = IsRefused s signature.items
IsStop s TooMany = IsTooMany s
IsStop s Memory = Unit {0}

-- rows and a pattern, with no plan yet
abbrev pub unplanned_of : List Row → Pattern → Subject Shape
unplanned_of rows p = unplanned rows (shape_of p.regex) p.b

-- the configurations of a plan, by their residuals themselves
abbrev pub values_of : List Row → Pattern → Plan → List (PlainConfiguration Shape)
values_of rows p plan = (subject rows (shape_of p.regex) p.b (plain_plan plan)).configurations

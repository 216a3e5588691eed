-- A plan by its values: the residuals as plain expressions, and the configurations by the numbers of their residuals.
use Rattle.std.specs.Prelude.{ℕ, zero, suc, Bool, true, false, ◌&&◌, ◌==◌, nat_lt, List, [], ◌∷◌, map, length}
use Rattle.std.specs.List.{list_all}
use Rattle.ts_base.specs.declared.letter.Letter.TheVariants.{Less, Equal, Greater}
use Rattle.ts_regex.specs.Shape.{Shape, Empty, shape_of}
use Rattle.ts_regex.specs.NormalForm.{normal_form, same_shape}
use Rattle.ts_transducer.specs.declared.row.Row.{Row}
use Rattle.ts_pattern.specs.declared.plan.Tag.{Tag}
use Rattle.ts_pattern.specs.declared.plan.Live.{Live}
use Rattle.ts_pattern.specs.declared.plan.Configuration.{Configuration}
use Rattle.ts_pattern.specs.declared.plan.Plan.{Plan}
use Rattle.ts_pattern.specs.Entries.{Entry, shapes}
use Rattle.ts_pattern.specs.Closed.{PlainConfiguration, Subject, first_passes, meets_checks}

pub record PlainPlan : Type 0 where
  pub residuals : List Shape
  pub configurations : List (PlainConfiguration ℕ)

abbrev pub plain_live : Live → Entry (Unit {0}) ℕ Tag
plain_live e = record { mark = tt; residual = e.residual; tag = e.tag }

abbrev pub plain_configuration : Configuration → PlainConfiguration ℕ
plain_configuration x = record { state = x.state; live = map (λ e. plain_live e) x.live.items }

abbrev pub plain_plan : Plan → PlainPlan
plain_plan plan =
    record {
      residuals = map (λ r. shape_of r) plan.residuals.items;
      configurations = map (λ x. plain_configuration x) plan.configurations.items;
    }

-- the residual of a number
abbrev pub shape_at : List Shape → ℕ → Shape
shape_at [] i = Empty
shape_at (r ∷ rs) zero = r
shape_at (r ∷ rs) (suc i) = shape_at rs i

abbrev pub entry_value : {X : Type 0} → List Shape → Entry X ℕ Tag → Entry X Shape Tag
entry_value rs e = record { mark = e.mark; residual = shape_at rs e.residual; tag = e.tag }

-- a configuration with its residuals themselves
abbrev pub configuration_value : List Shape → PlainConfiguration ℕ → PlainConfiguration Shape
configuration_value rs x = record { state = x.state; live = map (λ e. entry_value rs e) x.live }

-- rows against a pattern (its expression p and its trim b) by a plan
abbrev pub subject : List Row → Shape → ℕ → PlainPlan → Subject Shape
subject rows p b plan =
    record {
      rows = rows;
      trim = b;
      whole = normal_form p;
      configurations = map (λ x. configuration_value plan.residuals x) plan.configurations;
      on = shapes;
    }

abbrev pub is_empty : {A : Type 0} → List A → Bool
is_empty [] = true
is_empty (x ∷ xs) = false

abbrev pub is_blank : PlainConfiguration ℕ → Bool
is_blank x = (x.state == 0) && is_empty x.live

-- residual 0 is the pattern in normal form, configuration 0 the start state with no entry, and each number exists
abbrev pub is_plan_of : Shape → PlainPlan → Bool
is_plan_of p plan =
    first_passes (λ r. same_shape r (normal_form p)) plan.residuals
    && (first_passes (λ x. is_blank x) plan.configurations
    && list_all (λ x. list_all (λ e. nat_lt e.residual (length plan.residuals)) x.live) plan.configurations)

-- each configuration that is listed meets the checks
abbrev pub all_meet : {R : Type 0} → Subject R → Bool
all_meet s =
    list_all (λ x. meets_checks s x Less && (meets_checks s x Equal && meets_checks s x Greater)) s.configurations

-- a test of Closed that computes
abbrev pub is_closed : List Row → Shape → ℕ → PlainPlan → Bool
is_closed rows p b plan = is_plan_of p plan && all_meet (subject rows p b plan)

-- The first lines of a certificate, its aim, its claim and its series: how each is spelled, and what words say.
use Rattle.std.specs.Prelude.{ℕ, codes, ℤ, Bool, true, false, List, [], ◌∷◌, map, if◌then◌else◌, Option, Some, None}
use Rattle.std.specs.Fmt.{signed_decimal}
use Rattle.std.specs.List.{list_all}
use Rattle.std.specs.Option.{option_map}
use Rattle.std.specs.Str.{bytes_eq}
use Rattle.ts_base.specs.declared.goal.Goal.TheVariants.{Maximise, Minimise}
use Rattle.ts_base.specs.Text.{ext_text}
use Rattle.ts_base.specs.Words.{Words}
use Rattle.ts_certificate.specs.declared.certificate.Aim.{Aim}
use Rattle.ts_certificate.specs.declared.certificate.Aim.TheVariants.{Best as BestOf, List as ListOf}
use Rattle.ts_certificate.specs.declared.certificate.Claim.{Claim}
use Rattle.ts_certificate.specs.declared.certificate.Claim.TheVariants.{Best as BestIs, Infeasible, BudgetBest, BudgetNone}
use Rattle.ts_certificate.specs.declared.certificate.Claim.TheVariants.{Full, All, BudgetList}
use Rattle.ts_certificate.specs.Ranges.{count_text, is_value, is_asked, is_listed, is_ext}
use Rattle.ts_token.specs.Number.{ext_of}
use Rattle.ts_certificate.specs.Ranges.{value_of, asked_of, listed_of}
use Rattle.ts_certificate.specs.WordCounts.{one_of, if_alone}

abbrev pub aim_words : Aim → Words
aim_words (BestOf Maximise) = record { first = codes "maximise"; more = [] }
aim_words (BestOf Minimise) = record { first = codes "minimise"; more = [] }
aim_words (ListOf m) = record { first = codes "generate"; more = count_text m ∷ [] }

-- a listing asks for at least one series
abbrev pub is_aim : Aim → Bool
is_aim (BestOf goal) = true
is_aim (ListOf m) = is_asked m

abbrev pub list_from : Option (List ℕ) → Option Aim
list_from None = None
list_from (Some w) = option_map ListOf (asked_of w)

abbrev pub aim_of : Words → Option Aim
aim_of w =
    if bytes_eq w.first (codes "maximise") then if_alone (BestOf Maximise) w.more
    else (if bytes_eq w.first (codes "minimise") then if_alone (BestOf Minimise) w.more
    else (if bytes_eq w.first (codes "generate") then list_from (one_of w.more)
    else None))

abbrev pub claim_words : Claim → Words
claim_words (BestIs v) = record { first = codes "best"; more = ext_text v ∷ [] }
claim_words Infeasible = record { first = codes "infeasible"; more = [] }
claim_words (BudgetBest v) = record { first = codes "budget"; more = ext_text v ∷ [] }
claim_words BudgetNone = record { first = codes "budget"; more = codes "none" ∷ [] }
claim_words (Full c) = record { first = codes "full"; more = count_text c ∷ [] }
claim_words (All c) = record { first = codes "all"; more = count_text c ∷ [] }
claim_words (BudgetList c) = record { first = codes "budget"; more = count_text c ∷ [] }

-- after `maximise` and `minimise`
abbrev pub is_best_claim : Claim → Bool
is_best_claim (BestIs v) = is_ext v
is_best_claim Infeasible = true
is_best_claim (BudgetBest v) = is_ext v
is_best_claim BudgetNone = true
is_best_claim c = false

-- after `generate`
abbrev pub is_list_claim : Claim → Bool
is_list_claim (Full c) = is_listed c
is_list_claim (All c) = is_listed c
is_list_claim (BudgetList c) = is_listed c
is_list_claim c = false

abbrev pub is_claim : Aim → Claim → Bool
is_claim (BestOf goal) c = is_best_claim c
is_claim (ListOf m) c = is_list_claim c

abbrev pub best_from : Option (List ℕ) → Option Claim
best_from None = None
best_from (Some w) = option_map BestIs (ext_of w)

abbrev pub budget_from : Option (List ℕ) → Option Claim
budget_from None = None
budget_from (Some w) = if bytes_eq w (codes "none") then Some BudgetNone else option_map BudgetBest (ext_of w)

abbrev pub best_claim_of : Words → Option Claim
best_claim_of w =
    if bytes_eq w.first (codes "best") then best_from (one_of w.more)
    else (if bytes_eq w.first (codes "infeasible") then if_alone Infeasible w.more
    else (if bytes_eq w.first (codes "budget") then budget_from (one_of w.more)
    else None))

abbrev pub count_from : Option (List ℕ) → Option ℕ
count_from None = None
count_from (Some w) = listed_of w

abbrev pub list_claim_of : Words → Option Claim
list_claim_of w =
    if bytes_eq w.first (codes "full") then option_map Full (count_from (one_of w.more))
    else (if bytes_eq w.first (codes "all") then option_map All (count_from (one_of w.more))
    else (if bytes_eq w.first (codes "budget") then option_map BudgetList (count_from (one_of w.more))
    else None))

abbrev pub claim_of : Aim → Words → Option Claim
claim_of (BestOf goal) w = best_claim_of w
claim_of (ListOf m) w = list_claim_of w

abbrev pub series_words : List ℤ → Words
series_words values = record { first = codes "series"; more = map signed_decimal values }

-- one number or more
abbrev pub is_series : List ℤ → Bool
is_series [] = false
is_series (v ∷ vs) = list_all is_value (v ∷ vs)

abbrev pub onto_values : Option ℤ → Option (List ℤ) → Option (List ℤ)
onto_values None vs = None
onto_values (Some v) None = None
onto_values (Some v) (Some vs) = Some (v ∷ vs)

abbrev pub values_of : List (List ℕ) → Option (List ℤ)
values_of [] = Some []
values_of (w ∷ ws) = onto_values (value_of w) (values_of ws)

abbrev pub some_values : Option (List ℤ) → Option (List ℤ)
some_values None = None
some_values (Some []) = None
some_values (Some (v ∷ vs)) = Some (v ∷ vs)

abbrev pub series_of : Words → Option (List ℤ)
series_of w = if bytes_eq w.first (codes "series") then some_values (values_of w.more) else None

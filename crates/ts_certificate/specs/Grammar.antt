-- The grammar of a line, by what the lines before it say.
use Rattle.std.specs.Prelude.{◌≡◌, ◌≢◌, ℕ, codes, ◌+◌, ◌-◌, ◌==◌, ℤ, Bool, true, false, not, ◌&&◌, List, [], ◌∷◌}
use Rattle.std.specs.Prelude.{if◌then◌else◌, Option, Some, None, Result, Ok, Err}
use Rattle.ts_base.specs.Words.{Words, full_line}
use Rattle.ts_certificate.specs.declared.certificate.Aim.{Aim}
use Rattle.ts_certificate.specs.declared.certificate.Claim.{Claim}
use Rattle.ts_certificate.specs.declared.certificate.Claim.TheVariants.{Best, Infeasible, BudgetBest, BudgetNone}
use Rattle.ts_certificate.specs.declared.certificate.Claim.TheVariants.{Full, All, BudgetList}
use Rattle.ts_certificate.specs.declared.certificate.TreeLine.{TreeLine}
use Rattle.ts_certificate.specs.declared.certificate.TreeLine.TheVariants.{Unsearched}
use Rattle.ts_certificate.specs.declared.state.State.{State}
use Rattle.ts_certificate.specs.declared.state.State.TheVariants.{Start, AfterAim, InSeries, InTree, AfterEnd}
use Rattle.ts_certificate.specs.declared.stop.LineStop.{LineStop}
use Rattle.ts_certificate.specs.declared.stop.LineStop.TheVariants.{Grammar, Counts, Memory}
use Rattle.ts_certificate.specs.HeadLines.{aim_words, is_aim, claim_words, is_claim, series_words, is_series}
use Rattle.ts_certificate.specs.Ranges.{count_text, is_whole}
use Rattle.ts_certificate.specs.TreeLines.{tree_words, is_tree_line}

-- what a line says; the end says the number of tree lines other than `open`, and that of the `open` lines
pub data CertLine : Type 0 where
  SaysAim : Aim → CertLine
  SaysClaim : Claim → CertLine
  SaysSeries : List ℤ → CertLine
  SaysTree : TreeLine → CertLine
  SaysEnd : ℕ → ℕ → CertLine

abbrev pub end_words : ℕ → ℕ → Words
end_words checked unsearched = record { first = codes "end"; more = count_text checked ∷ count_text unsearched ∷ [] }

abbrev pub line_words : CertLine → Words
line_words (SaysAim a) = aim_words a
line_words (SaysClaim c) = claim_words c
line_words (SaysSeries vs) = series_words vs
line_words (SaysTree l) = tree_words l
line_words (SaysEnd checked unsearched) = end_words checked unsearched

-- the one text of a line, with its LF
abbrev pub line_text : CertLine → List ℕ
line_text l = full_line (line_words l)

-- how many series lines a claim asks for
abbrev pub series_count : Claim → ℕ
series_count (Best v) = 1
series_count Infeasible = 0
series_count (BudgetBest v) = 1
series_count BudgetNone = 0
series_count (Full c) = c
series_count (All c) = c
series_count (BudgetList c) = c

-- so many series lines are to come before the tree
abbrev pub series_left : ℕ → State
series_left n = if n == 0 then InTree 0 0 else InSeries n

abbrev pub after_series : State → State
after_series (InSeries n) = series_left (n - 1)
after_series s = s

abbrev pub is_open : TreeLine → Bool
is_open Unsearched = true
is_open l = false

-- a tree line more is counted
abbrev pub after_tree : State → Bool → State
after_tree (InTree c u) o = if o then InTree c (u + 1) else InTree (c + 1) u
after_tree s o = s

-- where a certificate stands after one more line
abbrev pub next_state : State → CertLine → State
next_state s (SaysAim a) = AfterAim a
next_state s (SaysClaim c) = series_left (series_count c)
next_state s (SaysSeries vs) = after_series s
next_state s (SaysTree l) = after_tree s (is_open l)
next_state s (SaysEnd checked unsearched) = AfterEnd

-- where it stands after these lines
abbrev pub state_after : State → List CertLine → State
state_after s [] = s
state_after s (l ∷ ls) = state_after (next_state s l) ls

-- one tree line or more, and the counts of those before
abbrev pub is_end : ℕ → ℕ → ℕ → ℕ → Bool
is_end c u checked unsearched = not (c + u == 0) && (checked == c && unsearched == u)

-- the line may come where the certificate stands, and keeps its ranges
abbrev pub may_follow : State → CertLine → Bool
may_follow Start (SaysAim a) = is_aim a
may_follow (AfterAim a) (SaysClaim c) = is_claim a c
may_follow (InSeries n) (SaysSeries vs) = is_series vs
may_follow (InTree c u) (SaysTree l) = is_tree_line l
may_follow (InTree c u) (SaysEnd checked unsearched) = is_end c u checked unsearched
may_follow s l = false

-- the line may come where the certificate stands, whatever the counts of an end line
abbrev pub may_come : State → CertLine → Bool
may_come (InTree c u) (SaysEnd checked unsearched) = not (c + u == 0) && (is_whole checked && is_whole unsearched)
may_come s l = may_follow s l

-- the first of an end line's counts that differs from what was found, beside what was found
abbrev pub difference : State → ℕ → ℕ → Option (ℕ × ℕ)
difference (InTree c u) p o = if p == c then (if o == u then None else Some (o, u)) else Some (p, c)
difference s p o = None

-- an end line that may come, with another count
pub record IsOtherCount (s : State) (text : List ℕ) (said found : ℕ) : Type 0 where
  pub checked : ℕ
  pub unsearched : ℕ
  pub come : may_come s (SaysEnd checked unsearched) ≡ true
  pub is : text ≡ line_text (SaysEnd checked unsearched)
  pub differ : difference s checked unsearched ≡ Some (said, found)

-- what a line is where the certificate stands: the text of a line that may follow; an end line with another count; or
-- the text of no line that may come there
abbrev pub IsLine : State → List ℕ → Result CertLine LineStop → Type 0
IsLine s text (Ok l) = (may_follow s l ≡ true) × (text ≡ line_text l)
IsLine s text (Err (Counts said found)) = IsOtherCount s text said found
IsLine s text (Err Grammar) = (l : CertLine) → may_come s l ≡ true → text ≢ line_text l
IsLine s text (Err Memory) = ⊥

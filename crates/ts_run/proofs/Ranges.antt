-- The numbers of a command that words give are in their ranges.
use Rattle.std.proofs.Common.{◌≡◌, ℕ, Bool, true, false, cond, ℤ, pos, negsuc, Option, Some, None, List, [], ◌∷◌, refl}
use Rattle.std.specs.Prelude.{◌&&◌, IfSome, codes, nat_le, option_map}
use Rattle.std.specs.Str.{bytes_eq}
use Rattle.std.proofs.lemmas.Bool.{and_parts, leb-true}
use Rattle.ts_base.specs.declared.goal.Goal.{Goal}
use Rattle.ts_base.specs.declared.goal.Goal.TheVariants.{Maximise, Minimise}
use Rattle.ts_base.specs.Limits.{most_cells, most_checked, most_listed}
use Rattle.ts_token.specs.Number.{number_of}
use Rattle.ts_run.specs.Commands.{KeepsRanges, budget_of, command_of, generate_by, generate_of, if_alone, sample_of}
use Rattle.ts_run.specs.Quantities.{IsWithin, kept_within, number_within, usual_lines}
use Rattle.ts_run.specs.declared.command.Command.{Command}
use Rattle.ts_run.specs.declared.command.Command.TheVariants.{Check, Compile, Verify, Best, Generate, Sample, Mark, Watch}

-- a number that is kept is in its range
range_kept : (least most : ℕ) (o : Option ℤ) → IfSome (kept_within least most o) (IsWithin least most)
range_kept least most None = tt
range_kept least most (Some (pos n)) = by (nat_le least n && nat_le n most) refl
  where
    by : (b : Bool) → (nat_le least n && nat_le n most) ≡ b → IfSome (cond b (Some n) None) (IsWithin least most)
    by true e = let both = and_parts (nat_le least n) (nat_le n most) e in (leb-true least n both.0, leb-true n most both.1)
    by false e = tt
range_kept least most (Some (negsuc n)) = tt

within : (least most : ℕ) (word : List ℕ) → IfSome (number_within least most word) (IsWithin least most)
within least most word = range_kept least most (number_of word)

chosen : {X : Type 0} (P : X → Type 0) (b : Bool) (x y : Option X) → IfSome x P → IfSome y P → IfSome (cond b x y) P
chosen P true x y h k = h
chosen P false x y h k = k

mapped : {X : Type 0} (P : X → Type 0) (f : X → Command) → ((x : X) → P x → KeepsRanges (f x)) → (o : Option X) → IfSome o P →
    IfSome (option_map f o) KeepsRanges
mapped P f keeps None h = tt
mapped P f keeps (Some x) h = keeps x h

budget : (words : List (List ℕ)) → IfSome (budget_of words) (IsWithin 1 most_checked)
budget [] = (leb-true 1 usual_lines refl, leb-true usual_lines most_checked refl)
budget (word ∷ []) = tt
budget (word ∷ number ∷ []) =
    chosen (IsWithin 1 most_checked) (bytes_eq word (codes "--budget")) (number_within 1 most_checked number) None (within 1 most_checked number) tt
budget (word ∷ number ∷ other ∷ words) = tt

-- by command

alone : (command : Command) → KeepsRanges command → (words : List (List ℕ)) → IfSome (if_alone command words) KeepsRanges
alone command h [] = h
alone command h (word ∷ words) = tt

best : (goal : Goal) (words : List (List ℕ)) → IfSome (option_map (λ lines. Best goal lines) (budget_of words)) KeepsRanges
best goal words = mapped (IsWithin 1 most_checked) (λ lines. Best goal lines) (λ lines h. h) (budget_of words) (budget words)

generate : (count lines : Option ℕ) → IfSome count (IsWithin 1 most_listed) → IfSome lines (IsWithin 1 most_checked) →
    IfSome (generate_by count lines) KeepsRanges
generate None lines h k = tt
generate (Some count) lines h k = mapped (IsWithin 1 most_checked) (λ n. Generate count n) (λ n within_lines. (h, within_lines)) lines k

generated : (words : List (List ℕ)) → IfSome (generate_of words) KeepsRanges
generated [] = tt
generated (number ∷ words) = generate (number_within 1 most_listed number) (budget_of words) (within 1 most_listed number) (budget words)

sampled : (words : List (List ℕ)) → IfSome (sample_of words) KeepsRanges
sampled [] = tt
sampled (number ∷ []) = mapped (IsWithin 1 most_cells) (λ n. Sample n) (λ n h. h) (number_within 1 most_cells number) (within 1 most_cells number)
sampled (number ∷ other ∷ words) = tt

pub keeps_ranges : (words : List (List ℕ)) → IfSome (command_of words) KeepsRanges
keeps_ranges [] = tt
keeps_ranges (word ∷ words) =
    chosen KeepsRanges (bytes_eq word (codes "check")) _ _ (alone Check tt words)
    (chosen KeepsRanges (bytes_eq word (codes "compile")) _ _ (alone Compile tt words)
    (chosen KeepsRanges (bytes_eq word (codes "maximise")) _ _ (best Maximise words)
    (chosen KeepsRanges (bytes_eq word (codes "minimise")) _ _ (best Minimise words)
    (chosen KeepsRanges (bytes_eq word (codes "generate")) _ _ (generated words)
    (chosen KeepsRanges (bytes_eq word (codes "verify")) _ _ (alone Verify tt words)
    (chosen KeepsRanges (bytes_eq word (codes "sample")) _ _ (sampled words)
    (chosen KeepsRanges (bytes_eq word (codes "mark")) _ _ (alone Mark tt words)
    (chosen KeepsRanges (bytes_eq word (codes "watch")) _ _ (alone Watch tt words) tt))))))))

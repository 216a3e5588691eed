-- What a single word of a model text is: a first word, a comparison, a name, a bound, a range.
use Rattle.std.specs.Prelude.{ℕ, codes, ◌+◌, ◌==◌, ℤ, Bool, true, false, ◌&&◌, List, [], ◌∷◌, length, take, drop, if◌then◌else◌, nat_le, Option, Some, None}
use Rattle.std.specs.List.{find, list_all, position}
use Rattle.std.specs.Str.{bytes_eq}
use Rattle.ts_domain.specs.declared.interval.Interval.{Interval}
use Rattle.ts_token.specs.Number.{number_of, is_digit}
use Rattle.ts_pattern.specs.declared.name.Aggregator.{Aggregator}
use Rattle.ts_pattern.specs.declared.name.Feature.{Feature}
use Rattle.ts_pattern.specs.declared.name.PatternId.{PatternId}
use Rattle.ts_pattern.specs.Names.{aggregator_name, all_aggregators, feature_name, all_features, pattern_name, all_patterns}
use Rattle.ts_model.specs.declared.words.Form.{Form}
use Rattle.ts_model.specs.declared.words.Form.TheVariants.{Cells, Domain, Cell, Term, Require, Objective}
use Rattle.ts_model.specs.declared.model.Op.{Op}
use Rattle.ts_model.specs.declared.model.Op.TheVariants.{Equal, Unequal, AtMost, AtLeast, Below, Above}

-- the form of a line that begins with this word
unfoldable pub form_of : List ℕ → Option Form
form_of word =
    if bytes_eq word (codes "cells") then Some Cells
    else (if bytes_eq word (codes "domain") then Some Domain
    else (if bytes_eq word (codes "cell") then Some Cell
    else (if bytes_eq word (codes "term") then Some Term
    else (if bytes_eq word (codes "require") then Some Require
    else (if bytes_eq word (codes "objective") then Some Objective
    else None)))))

unfoldable pub op_of : List ℕ → Option Op
op_of word =
    if bytes_eq word (codes "=") then Some Equal
    else (if bytes_eq word (codes "!=") then Some Unequal
    else (if bytes_eq word (codes "<=") then Some AtMost
    else (if bytes_eq word (codes ">=") then Some AtLeast
    else (if bytes_eq word (codes "<") then Some Below
    else (if bytes_eq word (codes ">") then Some Above
    else None)))))

unfoldable pub is_equals : List ℕ → Bool
is_equals word = bytes_eq word (codes "=")

unfoldable pub is_count : List ℕ → Bool
is_count word = bytes_eq word (codes "count")

unfoldable pub is_in : List ℕ → Bool
is_in word = bytes_eq word (codes "in")

unfoldable pub is_letter : ℕ → Bool
is_letter b = nat_le 97 b && nat_le b 122

unfoldable pub is_name_byte : ℕ → Bool
is_name_byte b = if is_letter b then true else (if is_digit b then true else b == 95)

-- 1 to 32 of a to z, 0 to 9 and '_', a letter first
unfoldable pub is_name : List ℕ → Bool
is_name [] = false
is_name (b ∷ bs) = is_letter b && (list_all is_name_byte bs && nat_le (length bs) 31)

abbrev pub made_range : Option ℤ → Option ℤ → Option Interval
made_range None high = None
made_range (Some low) None = None
made_range (Some low) (Some high) = Some (record { low = low; high = high })

abbrev pub is_dot : ℕ → Bool
is_dot b = b == 46

abbrev pub starts_dot : List ℕ → Bool
starts_dot [] = false
starts_dot (b ∷ bs) = is_dot b

abbrev pub range_cut : List ℕ → Option ℕ → Option Interval
range_cut word None = made_range (number_of word) (number_of word)
range_cut word (Some n) =
    if starts_dot (drop (n + 1) word) then made_range (number_of (take n word)) (number_of (drop (n + 2) word))
    else None

-- a number, or two numbers with '..' between them
unfoldable pub range_of : List ℕ → Option Interval
range_of word = range_cut word (position is_dot word)

-- one more in front, if it and all others are there
abbrev pub onto : {A : Type 0} → Option A → Option (List A) → Option (List A)
onto None rest = None
onto (Some x) None = None
onto (Some x) (Some xs) = Some (x ∷ xs)

-- the ranges that the words are, if each is one
abbrev pub ranges_of : List (List ℕ) → Option (List Interval)
ranges_of [] = Some []
ranges_of (word ∷ words) = onto (range_of word) (ranges_of words)

-- the name of the table that the word is

unfoldable pub aggregator_of : List ℕ → Option Aggregator
aggregator_of word = find (λ x. bytes_eq (aggregator_name x) word) all_aggregators

unfoldable pub feature_of : List ℕ → Option Feature
feature_of word = find (λ x. bytes_eq (feature_name x) word) all_features

unfoldable pub pattern_of : List ℕ → Option PatternId
pattern_of word = find (λ x. bytes_eq (pattern_name x) word) all_patterns

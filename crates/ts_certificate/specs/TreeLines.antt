-- The lines of a tree: how each is spelled, and what the words of a line say.
use Rattle.std.specs.Prelude.{ℕ, codes, ℤ, Bool, true, ◌&&◌, List, [], ◌∷◌, if◌then◌else◌, Option, Some, None}
use Rattle.std.specs.Fmt.{signed_decimal}
use Rattle.std.specs.Str.{bytes_eq}
use Rattle.ts_base.specs.Words.{Words}
use Rattle.ts_certificate.specs.declared.certificate.TreeLine.{TreeLine}
use Rattle.ts_certificate.specs.declared.certificate.TreeLine.TheVariants.{Split, Remove, No, Worse, Yes, Unsearched}
use Rattle.ts_certificate.specs.Ranges.{count_text, is_value, is_cell, is_requirement, value_of, cell_of, requirement_of}
use Rattle.ts_certificate.specs.WordCounts.{one_of, two_of, three_of, if_alone}

-- the words of a line
abbrev pub tree_words : TreeLine → Words
tree_words (Split k t) = record { first = codes "split"; more = count_text k ∷ signed_decimal t ∷ [] }
tree_words (Remove k v j) = record { first = codes "drop"; more = count_text k ∷ signed_decimal v ∷ count_text j ∷ [] }
tree_words (No j p) = record { first = codes "no"; more = count_text j ∷ count_text p ∷ [] }
tree_words (Worse p) = record { first = codes "worse"; more = count_text p ∷ [] }
tree_words Yes = record { first = codes "yes"; more = [] }
tree_words Unsearched = record { first = codes "open"; more = [] }

-- its numbers are within their ranges
abbrev pub is_tree_line : TreeLine → Bool
is_tree_line (Split k t) = is_cell k && is_value t
is_tree_line (Remove k v j) = is_cell k && (is_value v && is_requirement j)
is_tree_line (No j p) = is_requirement j && is_cell p
is_tree_line (Worse p) = is_cell p
is_tree_line Yes = true
is_tree_line Unsearched = true

abbrev pub split_made : Option ℕ → Option ℤ → Option TreeLine
split_made None t = None
split_made (Some k) None = None
split_made (Some k) (Some t) = Some (Split k t)

abbrev pub remove_made : Option ℕ → Option ℤ → Option ℕ → Option TreeLine
remove_made None v j = None
remove_made (Some k) None j = None
remove_made (Some k) (Some v) None = None
remove_made (Some k) (Some v) (Some j) = Some (Remove k v j)

abbrev pub no_made : Option ℕ → Option ℕ → Option TreeLine
no_made None p = None
no_made (Some j) None = None
no_made (Some j) (Some p) = Some (No j p)

abbrev pub worse_made : Option ℕ → Option TreeLine
worse_made None = None
worse_made (Some p) = Some (Worse p)

abbrev pub split_from : Option (List ℕ × List ℕ) → Option TreeLine
split_from None = None
split_from (Some p) = split_made (cell_of p.0) (value_of p.1)

abbrev pub remove_from : Option (List ℕ × List ℕ × List ℕ) → Option TreeLine
remove_from None = None
remove_from (Some p) = remove_made (cell_of p.0) (value_of p.1) (requirement_of p.2)

abbrev pub no_from : Option (List ℕ × List ℕ) → Option TreeLine
no_from None = None
no_from (Some p) = no_made (requirement_of p.0) (cell_of p.1)

abbrev pub worse_from : Option (List ℕ) → Option TreeLine
worse_from None = None
worse_from (Some w) = worse_made (cell_of w)

abbrev pub split_of : List (List ℕ) → Option TreeLine
split_of ws = split_from (two_of ws)

abbrev pub remove_of : List (List ℕ) → Option TreeLine
remove_of ws = remove_from (three_of ws)

abbrev pub no_of : List (List ℕ) → Option TreeLine
no_of ws = no_from (two_of ws)

abbrev pub worse_of : List (List ℕ) → Option TreeLine
worse_of ws = worse_from (one_of ws)

abbrev pub tree_of : Words → Option TreeLine
tree_of w =
    if bytes_eq w.first (codes "split") then split_of w.more
    else (if bytes_eq w.first (codes "no") then no_of w.more
    else (if bytes_eq w.first (codes "worse") then worse_of w.more
    else (if bytes_eq w.first (codes "drop") then remove_of w.more
    else (if bytes_eq w.first (codes "yes") then if_alone Yes w.more
    else (if bytes_eq w.first (codes "open") then if_alone Unsearched w.more
    else None)))))

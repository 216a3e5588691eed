-- The occurrences of an expression in a signature as a list: of all places, those that are a match and lie in no other
-- match (Global Constraint Catalog, Volume II).
use Rattle.std.specs.Prelude.{ℕ, zero, suc, ◌+◌, ◌==◌, nat_le, Bool, not, ◌&&◌, ◌||◌, List, [], ◌∷◌, ◌++◌, map, length, slice_range}
use Rattle.std.specs.List.{filter, list_all}
use Rattle.ts_base.specs.declared.letter.Letter.{Letter}
use Rattle.ts_base.specs.declared.range.Range.{Range}
use Rattle.ts_regex.specs.Shape.{Shape}
use Rattle.ts_regex.specs.Membership.{is_word}
use Rattle.ts_pattern.specs.OccurrenceList.{Place, e_range}

-- the places from start on with the ends e, e+1, .., so many of them
abbrev pub places_from : ℕ → ℕ → ℕ → List Place
places_from start e zero = []
places_from start e (suc count) = record { start = start; end = e } ∷ places_from start (e + 1) count

-- the places in so many signs after the first ones, by rising start, then by rising end
abbrev pub places_after : ℕ → ℕ → List Place
places_after start zero = []
places_after start (suc count) = places_from start (start + 1) (suc count) ++ places_after (start + 1) count

unfoldable pub match_places : Shape → List Letter → List Place
match_places p w = filter (λ x. is_word p (slice_range w x.start x.end)) (places_after 0 (length w))

-- y isn't another place that contains x
abbrev pub is_not_wider : Place → Place → Bool
is_not_wider x y = ((x.start == y.start) && (x.end == y.end)) || not (nat_le y.start x.start && nat_le x.end y.end)

unfoldable pub occurrence_places : Shape → List Letter → List Place
occurrence_places p w = filter (λ x. list_all (is_not_wider x) (match_places p w)) (match_places p w)

-- the e-ranges of the occurrences, by rising start
unfoldable pub occurrence_ranges : Shape → ℕ → ℕ → List Letter → List Range
occurrence_ranges p b a w = map (λ x. e_range b a x) (occurrence_places p w)

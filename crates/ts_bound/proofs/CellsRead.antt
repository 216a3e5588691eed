-- The cells that a machine looks at: how many there are, and which is read at a place.
use Rattle.std.proofs.Common.{◌≡◌, ℕ, ◌+◌, ◌-◌, ◌<◌, ◌≤◌, false, ◌&&◌, [], length, reverse, get_or, Option, Some, None, sym, ap, ◌∙◌, arith}
use Rattle.std.proofs.lemmas.Bool.{lt-leb}
use Rattle.std.proofs.lemmas.List.{length-reverse, get_or-reverse}
use Rattle.std.specs.Prelude.{nat_le}
use Rattle.ts_base.specs.declared.range.Range.{Range}
use Rattle.ts_base.specs.Windows.{LooksInside, looked_at}
use Rattle.ts_domain.specs.Boxes.{Box, values_at}
use Rattle.ts_bound.specs.Looks.{count_looked, is_looked, first_looked, last_looked, place_in}
use Rattle.ts_bound.specs.TermSpans.{LooksIn, automata_of}
use Rattle.ts_bound.proofs.Looking.{ends_inside, looked_by, looked_get, looked_length, place_inside}
use Rattle.ts_glue.specs.declared.machine.Machine.{Machine}
use Rattle.ts_glue.specs.Machines.{window_of}
use Rattle.ts_bound.specs.declared.reading.Direction.{Direction}
use Rattle.ts_bound.specs.declared.reading.Direction.TheVariants.{FromFirst, FromLast}
use Rattle.ts_bound.specs.Reading.{in_order}

-- how many cells a machine looks at, as the code counts them
pub counted : (m : Machine) (b : Box) (w : Option Range) (n count : ℕ) → LooksIn (automata_of m) b → w ≡ window_of m → n ≡ length b →
    count ≡ count_looked w n → count ≡ length (looked_at (window_of m) b)
counted m b w n count looks is is_n is_count =
    is_count ∙ ap (λ z. count_looked z n) is ∙ ap (count_looked (window_of m)) is_n ∙ sym (looked_length (window_of m) b looks)

pub counted_as : (m : Machine) (b : Box) (w : Option Range) (n count : ℕ) → w ≡ window_of m → n ≡ length b → count ≡ count_looked w n →
    count_looked (window_of m) (length b) ≡ count
counted_as m b w n count is is_n is_count = sym (is_count ∙ ap (λ z. count_looked z n) is ∙ ap (count_looked (window_of m)) is_n)

-- a cell before the first one isn't looked at
pub unseen : (w : Option Range) (first : ℕ) → first ≡ first_looked w → 1 < first → is_looked w 1 ≡ false
unseen None first is lt = absurd (omega (arith, is, lt))
unseen (Some r) first is lt = ap (λ t. t && nat_le 1 r.last) (lt-leb r.first 1 (omega (arith, is, lt)))

-- the cell that is read at a place, from the first on or from the last one back

pub forward_cell : (w : Option Range) (b : Box) (i k : ℕ) → LooksInside (length b) w → i < length (looked_at w b) → k ≡ first_looked w + i →
    (1 ≤ k) × (k ≤ length b) × (values_at k b ≡ get_or (looked_at w b) i [])
forward_cell w b i k h lt is =
    let long = looked_length w b h in let ends = ends_inside w (length b) h in let first = ends.0 in let last = ends.1 in
    let there = looked_by w (length b) k (omega (arith, is)) (omega (arith, is, lt, long, first)) in
    let at : place_in w k - 1 ≡ i = (let place = place_inside w k there in omega (arith, place, is, first)) in (
      omega (arith, is, first),
      omega (arith, is, lt, long, last, first),
      sym (looked_get b k w [] h there) ∙ ap (λ j. get_or (looked_at w b) j []) at,
    )

pub backward_cell : (w : Option Range) (b : Box) (i k : ℕ) → LooksInside (length b) w → i < length (reverse (looked_at w b)) →
    k ≡ last_looked w (length b) - i → (1 ≤ k) × (k ≤ length b) × (values_at k b ≡ get_or (reverse (looked_at w b)) i [])
backward_cell w b i k h more is =
    let long = looked_length w b h in let first = (ends_inside w (length b) h).0 in let turned = length-reverse (looked_at w b) in
    let lt : i < length (looked_at w b) = omega (arith, more, turned) in
    let j = length (looked_at w b) - 1 - i in
    let there = forward_cell w b j k h (omega (arith, lt)) (omega (arith, is, lt, long, first)) in
    (there.0, there.1, there.2 ∙ sym (get_or-reverse (looked_at w b) i [] lt))

pub read_forward : (direction : Direction) (w : Option Range) (b : Box) (i k : ℕ) → direction ≡ FromFirst → LooksInside (length b) w →
    i < length (in_order direction (looked_at w b)) →
    k ≡ first_looked w + i → (1 ≤ k) × (k ≤ length b) × (values_at k b ≡ get_or (in_order direction (looked_at w b)) i [])
read_forward FromFirst w b i k e h lt is = forward_cell w b i k h lt is
read_forward FromLast w b i k e h lt is = cc

pub read_backward : (direction : Direction) (w : Option Range) (b : Box) (i k : ℕ) → direction ≡ FromLast → LooksInside (length b) w →
    i < length (in_order direction (looked_at w b)) →
    k ≡ last_looked w (length b) - i → (1 ≤ k) × (k ≤ length b) × (values_at k b ≡ get_or (in_order direction (looked_at w b)) i [])
read_backward FromFirst w b i k e h lt is = cc
read_backward FromLast w b i k e h lt is = backward_cell w b i k h lt is

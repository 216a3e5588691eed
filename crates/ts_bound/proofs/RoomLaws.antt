-- What the rows of machines take in memory: cell by cell, machine by machine, in numbers that have a greatest.
use Rattle.std.proofs.Common.{◌≡◌, ℕ, ℤ, ◌+◌, ◌<◌, ◌++◌, List, [], ◌∷◌, Option, length, map, take, get_or, sym, ap, ◌∙◌, arith}
use Rattle.std.proofs.lemmas.List.{length-map, length-take-le, map-append, take_more}
use Rattle.ts_base.specs.declared.range.Range.{Range}
use Rattle.ts_domain.specs.Boxes.{Box}
use Rattle.ts_bound.specs.TermSpans.{Automata, automata_of}
use Rattle.ts_glue.specs.declared.machine.Machine.{Machine}
use Rattle.ts_bound.specs.Room.{bytes_at, bytes_from, counted_at, saturated, values_from}

-- sums made one by one are the sum of all at once

one_more : (p q a r : ℕ) → a ≡ saturated p → r ≡ saturated (a + q) → r ≡ saturated (p + q)
one_more p q a r x z = omega (arith, x, z)

sum_saturated : (p q a b r : ℕ) → a ≡ saturated p → b ≡ saturated q → r ≡ saturated (a + b) → r ≡ saturated (p + q)
sum_saturated p q a b r x y z = omega (arith, x, y, z)

values_append : (w : Option Range) (k : ℕ) (cells : Box) (x : List ℤ) →
    values_from w k (cells ++ x ∷ []) ≡ values_from w k cells + counted_at w (k + length cells) x
values_append w k [] x =
    let at : k ≡ k + length {A = List ℤ} [] = omega (arith) in
    let here = ap (λ n. counted_at w n x) at in
    omega (arith, here)
values_append w k (c ∷ cells) x =
    let more = values_append w (k + 1) cells x in
    let at : (k + 1) + length cells ≡ k + length (c ∷ cells) = omega (arith) in
    let here = ap (λ n. counted_at w n x) at in
    omega (arith, more, here)

bytes_append : (named : List ℕ) (k : ℕ) (ms : List Automata) (m : Automata) (cells : Box) →
    bytes_from named k (ms ++ m ∷ []) cells ≡ bytes_from named k ms cells + bytes_at named (k + length ms) m cells
bytes_append named k [] m cells =
    let at : k ≡ k + length {A = Automata} [] = omega (arith) in
    let here = ap (λ n. bytes_at named n m cells) at in
    omega (arith, here)
bytes_append named k (a ∷ ms) m cells =
    let more = bytes_append named (k + 1) ms m cells in
    let at : (k + 1) + length ms ≡ k + length (a ∷ ms) = omega (arith) in
    let here = ap (λ n. bytes_at named n m cells) at in
    omega (arith, more, here)

-- one cell more
pub one_cell_more : (w : Option Range) (cells : Box) (i : ℕ) (x : List ℤ) (a q r : ℕ) → i < length cells → x ≡ get_or cells i x →
    a ≡ saturated (values_from w 1 (take i cells)) → q ≡ counted_at w (i + 1) x → r ≡ saturated (a + q) →
    r ≡ saturated (values_from w 1 (take (i + 1) cells))
one_cell_more w cells i x a q r inside is made here both =
    let count = length-take-le i cells (omega (arith, inside)) in
    let at : 1 + length (take i cells) ≡ i + 1 = omega (arith, count) in
    let all : values_from w 1 (take (i + 1) cells) ≡ values_from w 1 (take i cells) + counted_at w (i + 1) x =
    ap (values_from w 1) (take_more cells i x inside ∙ ap (λ y. take i cells ++ y ∷ []) (sym is))
    ∙ values_append w 1 (take i cells) x ∙ ap (λ n. values_from w 1 (take i cells) + counted_at w n x) at in
    one_more _ _ a r made (both ∙ ap (λ n. saturated (a + n)) here) ∙ ap saturated (sym all)

-- one machine more
pub one_machine_more : (named : List ℕ) (ms : List Machine) (cells : Box) (i : ℕ) (m : Machine) (a q r : ℕ) → i < length ms → m ≡ get_or ms i m →
    a ≡ saturated (bytes_from named 0 (map automata_of (take i ms)) cells) → q ≡ saturated (bytes_at named i (automata_of m) cells) →
    r ≡ saturated (a + q) → r ≡ saturated (bytes_from named 0 (map automata_of (take (i + 1) ms)) cells)
one_machine_more named ms cells i m a q r inside is made here both =
    let front = map automata_of (take i ms) in
    let count : length front ≡ i = length-map (take i ms) automata_of ∙ length-take-le i ms (omega (arith, inside)) in
    let at : 0 + length front ≡ i = omega (arith, count) in
    let more : take (i + 1) ms ≡ take i ms ++ m ∷ [] =
    take_more ms i m inside ∙ ap (λ y. take i ms ++ y ∷ []) (sym is) in
    let all : map automata_of (take (i + 1) ms) ≡ front ++ automata_of m ∷ [] =
    ap (map automata_of) more ∙ map-append automata_of (take i ms) (m ∷ []) in
    let whole : bytes_from named 0 (map automata_of (take (i + 1) ms)) cells ≡ bytes_from named 0 front cells + bytes_at named i (automata_of m) cells =
    ap (λ ts. bytes_from named 0 ts cells) all ∙ bytes_append named 0 front (automata_of m) cells
    ∙ ap (λ n. bytes_from named 0 front cells + bytes_at named n (automata_of m) cells) at in
    sum_saturated _ _ a q r made here both ∙ ap saturated (sym whole)

-- In a well typed table each move fits the kinds of its two states, and the start is Idle.
use Rattle.std.specs.Prelude.{◌≡◌, ℕ, zero, suc, Bool, true, ◌&&◌, ◌<◌, List, [], ◌∷◌, length, slice_get, refl}
use Rattle.std.specs.List.{list_all}
use Rattle.std.proofs.Common.{ap, arith}
use Rattle.std.proofs.lemmas.Bool.{and_parts, false≢true}
use Rattle.ts_base.specs.declared.letter.Letter.{Letter}
use Rattle.ts_base.specs.declared.letter.Letter.TheVariants.{Less, Equal, Greater}
use Rattle.ts_base.specs.declared.range.Kind.{Kind}
use Rattle.ts_base.specs.declared.range.Kind.TheVariants.{Idle, Pending, Held}
use Rattle.ts_transducer.specs.declared.row.Phase.{Phase}
use Rattle.ts_transducer.specs.declared.row.Row.{Row}
use Rattle.ts_transducer.specs.Typing.{is_idle, is_free, may_move, leads_well, arrow_is_typed, row_is_typed, starts_idle, is_typed}
use Rattle.ts_transducer.specs.Decode.{resting_row, row_at, arrow_on, arrow_at}

idle_free : (k : Kind) → is_idle k ≡ true → is_free k ≡ true
idle_free Idle q = refl
idle_free Pending q = absurd (false≢true q)
idle_free Held q = absurd (false≢true q)

rest_typed : (rows : List Row) → starts_idle rows ≡ true → arrow_is_typed rows Idle resting_row.less ≡ true
rest_typed [] q = absurd (false≢true q)
rest_typed (r ∷ rows) q = idle_free r.kind q

resting_row_typed : (rows : List Row) → starts_idle rows ≡ true → row_is_typed rows resting_row ≡ true
resting_row_typed rows q = let h = rest_typed rows q in ap (λ b. b && b && b) h

one_typed : (all : List Row) → starts_idle all ≡ true → (rows : List Row) (q : ℕ) → list_all (λ r. row_is_typed all r) rows ≡ true →
    row_is_typed all (row_at rows q) ≡ true
one_typed all i [] q h = resting_row_typed all i
one_typed all i (r ∷ rows) zero h = (and_parts (row_is_typed all r) (list_all (λ r. row_is_typed all r) rows) h).0
one_typed all i (r ∷ rows) (suc q) h = one_typed all i rows q (and_parts (row_is_typed all r) (list_all (λ r. row_is_typed all r) rows) h).1

three_typed : (x y z : Bool) → x && y && z ≡ true → (x ≡ true) × (y ≡ true) × (z ≡ true)
three_typed x y z h = let g = and_parts (x && y) z h in let f = and_parts x y g.0 in (f.0, f.1, g.1)

arrow_typed : (rows : List Row) (r : Row) (l : Letter) → row_is_typed rows r ≡ true → arrow_is_typed rows r.kind (arrow_on l r) ≡ true
arrow_typed rows r l h =
    go l (three_typed (arrow_is_typed rows r.kind r.less) (arrow_is_typed rows r.kind r.equal) (arrow_is_typed rows r.kind r.greater) h)
  where
    go : (l : Letter) →
        (arrow_is_typed rows r.kind r.less ≡ true) × (arrow_is_typed rows r.kind r.equal ≡ true) × (arrow_is_typed rows r.kind r.greater ≡ true) →
        arrow_is_typed rows r.kind (arrow_on l r) ≡ true
    go Less g = g.0
    go Equal g = g.1
    go Greater g = g.2

led_typed : (rows : List Row) (n : ℕ) (k : Kind) (f : Phase) → leads_well k f (slice_get rows n) ≡ true → may_move k f (row_at rows n).kind ≡ true
led_typed [] n k f h = absurd (false≢true h)
led_typed (r ∷ rows) zero k f h = h
led_typed (r ∷ rows) (suc n) k f h = led_typed rows n k f h

-- the move of any state on any letter leads to a state, and fits both kinds
pub moves_well : (rows : List Row) → is_typed rows ≡ true → (q : ℕ) (l : Letter) → arrow_is_typed rows (row_at rows q).kind (arrow_at rows q l) ≡ true
moves_well rows h q l =
    let g = and_parts (starts_idle rows) (list_all (λ r. row_is_typed rows r) rows) h in
    arrow_typed rows (row_at rows q) l (one_typed rows g.0 rows q g.1)

pub move_fits : (rows : List Row) → is_typed rows ≡ true → (q : ℕ) (l : Letter) →
    may_move (row_at rows q).kind (arrow_at rows q l).phase (row_at rows (arrow_at rows q l).next).kind ≡ true
move_fits rows h q l = led_typed rows (arrow_at rows q l).next (row_at rows q).kind (arrow_at rows q l).phase (moves_well rows h q l)

idle_first : (rows : List Row) → starts_idle rows ≡ true → is_idle (row_at rows 0).kind ≡ true
idle_first [] q = refl
idle_first (r ∷ rows) q = q

pub first_idle : (rows : List Row) → is_typed rows ≡ true → is_idle (row_at rows 0).kind ≡ true
first_idle rows h = idle_first rows (and_parts (starts_idle rows) (list_all (λ r. row_is_typed rows r) rows) h).0

pub next_exists : (rows : List Row) (n : ℕ) (k : Kind) (f : Phase) → leads_well k f (slice_get rows n) ≡ true → n < length rows
next_exists [] n k f h = absurd (false≢true h)
next_exists (r ∷ rows) zero k f h = omega arith
next_exists (r ∷ rows) (suc n) k f h = let i = next_exists rows n k f h in omega arith

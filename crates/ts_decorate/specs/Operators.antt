-- What a phase letter does to the registers, over any values: C is the range that is held, D the cells that may still
-- come to it, R the ranges that were emitted; E and F are to what is taken away from a range as C and D are to it
-- (Global Constraint Catalog, Volume II: decoration of transducers).
use Rattle.std.specs.Prelude.{ℕ, zero, suc}
use Rattle.ts_transducer.specs.declared.row.Phase.{Phase}
use Rattle.ts_transducer.specs.declared.row.Phase.TheVariants.{Out, OutR, OutA, MaybeB, MaybeA, Found, FoundE, Inside}
use Rattle.ts_automaton.specs.Registers.{EachOf, each}

-- C with D, or E with F: phi joins the cells of a range, and beside `neutral` leaves each of them as it is; `idle`
-- stands where no range is held
pub record Half (V : Type 0) : Type 0 where
  pub phi : V → V → V
  pub neutral : V
  pub idle : V

-- `read` is what both halves make of a range; g joins the ranges, and `default` stands where there is none
pub record Operators (V : Type 0) : Type 0 where
  pub whole : Half V
  pub less : Half V
  pub read : V → V → V
  pub g : V → V → V
  pub default : V

-- the cells so far and the last one that a range could now have: the cell read where an occurrence leaves its last cell
-- out, else the next one
abbrev pub with_last : {V : Type 0} → Half V → ℕ → V → V → V → V
with_last h zero d here next = h.phi d next
with_last h (suc a) d here next = h.phi d here

-- and all cells up to that one
abbrev pub with_all : {V : Type 0} → Half V → ℕ → V → V → V → V
with_all h zero d here next = h.phi (h.phi d here) next
with_all h (suc a) d here next = h.phi d here

-- the range that is held after a sign, by what the cell read and the next one are worth
abbrev pub range_after : {V : Type 0} → Half V → ℕ → Phase → V → V → V → V → V
range_after h a Out c d here next = c
range_after h a OutR c d here next = c
range_after h a OutA c d here next = h.idle
range_after h a MaybeB c d here next = c
range_after h a MaybeA c d here next = c
range_after h a Found c d here next = with_all h a d here next
range_after h a FoundE c d here next = c
range_after h a Inside c d here next = h.phi c (with_last h a d here next)

-- the cells that may still come to it
abbrev pub cells_after : {V : Type 0} → Half V → ℕ → Phase → V → V → V → V
cells_after h a Out d here next = d
cells_after h a OutR d here next = h.neutral
cells_after h a OutA d here next = h.neutral
cells_after h a MaybeB d here next = h.phi d here
cells_after h a MaybeA d here next = with_last h a d here next
cells_after h a Found d here next = h.neutral
cells_after h a FoundE d here next = h.neutral
cells_after h a Inside d here next = h.neutral

-- the ranges that were emitted
abbrev pub ranges_after : {V : Type 0} → Operators V → ℕ → Phase → EachOf V → V → V → V
ranges_after o a Out s here next = s.r
ranges_after o a OutR s here next = s.r
ranges_after o a OutA s here next = o.g s.r (o.read s.c s.e)
ranges_after o a MaybeB s here next = s.r
ranges_after o a MaybeA s here next = s.r
ranges_after o a Found s here next = s.r
ranges_after o a FoundE s here next =
    o.g s.r (o.read (with_all o.whole a s.d here next) (with_all o.less a s.f here next))
ranges_after o a Inside s here next = s.r

abbrev pub after_phase : {V : Type 0} → Operators V → ℕ → Phase → EachOf V → V → V → EachOf V
after_phase o a p s here next =
    each (range_after o.whole a p s.c s.d here next) (range_after o.less a p s.e s.f here next)
    (cells_after o.whole a p s.d here next) (cells_after o.less a p s.f here next) (ranges_after o a p s here next)

-- the registers at the start, and what they say in the end
abbrev pub at_start : {V : Type 0} → Operators V → EachOf V
at_start o = each o.whole.idle o.less.idle o.whole.neutral o.less.neutral o.default

abbrev pub total_of : {V : Type 0} → Operators V → EachOf V → V
total_of o s = o.g s.r (o.read s.c s.e)

-- Hulls of a state in a row of hulls, packed as they are read.
use Rattle.std.specs.Prelude.{◌≡◌, ◌≢◌, ◌<◌, ◌+◌, ◌*◌, ℕ, ℤ, pos, true, false, cond, List, length, get_or, replicate}
use Rattle.ts_base.specs.declared.span.Span.{Span}
use Rattle.ts_automaton.specs.declared.regs.Hull.{Hull}
use Rattle.ts_automaton.specs.Laws.{HoldZero}
use Rattle.ts_automaton.specs.Registers.{spans_of}
use Rattle.ts_hull.specs.Hulls.{none}
use Rattle.ts_hull.specs.Sealed.{some_hull}
use Rattle.ts_hull.specs.Smalls.{small_hull}
use Rattle.ts_hull.specs.Sweeps.{hull_in}
use Rattle.ts_sweep.specs.declared.packed.Ends.{Ends}
use Rattle.ts_sweep.specs.declared.packed.PackedHull.{PackedHull}
use Rattle.ts_sweep.specs.Lanes.{no_lanes}
use Rattle.ts_sweep.specs.Moves.{of_name, with_all}
use Rattle.ts_sweep.specs.Packed.{ends, is_wide, negated}
use Rattle.ts_sweep.specs.Trees.{lane_of}

-- the ends of a span
abbrev pub span_ends : Span → Ends
span_ends s = ends (lane_of (negated s.lo)) (lane_of s.hi)

-- the lanes of a hull; nothing where no registers lie in it
unfoldable pub lanes_of : ℕ → Hull → List ℤ
lanes_of n h =
    cond (some_hull h) (with_all n (replicate n (pos 0)) (λ k. span_ends (of_name (spans_of h) k))) (no_lanes n)

-- n lanes may stand for a hull: its numbers are small, and E and F of a narrow one hold 0
pub record IsPackable (n : ℕ) (h : Hull) : Type 0 where
  pub small : small_hull h ≡ true
  pub rests : is_wide n ≡ false → some_hull h ≡ true → HoldZero (spans_of h)

-- the hull of a state, of `states`, at a place
abbrev pub packed_at : (n states state : ℕ) → List Hull → ℕ → PackedHull n
packed_at n states state row i = record { at = lanes_of n (hull_in states state row i) }

-- rows that are the same but for the hulls of a state, of `states`, of the first `count` values
pub record AreBeside (state states count : ℕ) (a b : List Hull) : Type 0 where
  pub len : length b ≡ length a
  pub same : (p : ℕ) → ((i : ℕ) → i < count → p ≢ i * states + state) → get_or b p none ≡ get_or a p none

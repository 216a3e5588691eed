-- One end of a span alone, in its lane, and what is needed of ends.
use Rattle.std.specs.Prelude.{◌≡◌, ◌||◌, ◌+ℤ◌, ℤ, Bool, true, false}
use Rattle.std.specs.Int.{int_max, int_min}
use Rattle.ts_base.specs.declared.op.Op.{Op}
use Rattle.ts_base.specs.declared.op.Op.TheVariants.{Add, Max, Min}
use Rattle.ts_automaton.specs.Registers.{EachOf}
use Rattle.ts_sweep.specs.declared.packed.Ends.{Ends}
use Rattle.ts_sweep.specs.Lanes.{least}
use Rattle.ts_sweep.specs.Operators.{crossed}
use Rattle.ts_sweep.specs.Packed.{ends, IsWithin}
use Rattle.ts_sweep.specs.Sides.{Sides, BothEnds, UpperEnds, LowerEnds}
use Rattle.ts_meet.specs.declared.lane.End.{End}
use Rattle.ts_meet.specs.declared.lane.End.TheVariants.{Below, Above}
use Rattle.ts_meet.specs.declared.needed.Needed.{Needed}
use Rattle.ts_meet.specs.declared.needed.Needed.TheVariants.{Both, One}
use Rattle.ts_meet.specs.Joints.{is_add}

-- the lane of an end
abbrev pub lane_at : End → Ends → ℤ
lane_at Below e = e.below
lane_at Above e = e.above

-- there is a lane for the end
abbrev pub keeps : Sides → End → Bool
keeps BothEnds k = true
keeps UpperEnds Below = false
keeps UpperEnds Above = true
keeps LowerEnds Below = true
keeps LowerEnds Above = false

-- what an operator makes of two lanes of an end, where no sum is clamped
abbrev pub lane_folded : End → Op → ℤ → ℤ → ℤ
lane_folded k Add x y = x +ℤ y
lane_folded Below Max x y = int_min x y
lane_folded Above Max x y = int_max x y
lane_folded Below Min x y = int_max x y
lane_folded Above Min x y = int_min x y

-- two numbers are so small that their sum isn't clamped
abbrev pub AreFewAdded : ℤ → ℤ → Type 0
AreFewAdded x y = IsWithin 5 x × IsWithin 5 y

-- numbers of an end that are added in the answer of a run are small
pub record IsLanePlain (k : End) (wide : Bool) (o : Op) (s : EachOf Ends) : Type 0 where
  pub result : is_add o ≡ true → IsWithin 1 (lane_at k s.r)
  pub held : (wide || is_add o) ≡ true → IsWithin 1 (lane_at k s.c)
  pub away : wide ≡ true → IsWithin 1 (lane_at k (crossed s.e))

-- the end alone, and ends that are needed
abbrev pub end_alone : End → ℤ → Ends
end_alone Below x = ends x least
end_alone Above x = ends least x

abbrev pub needed_ends : Needed → Ends
needed_ends (Both e) = e
needed_ends (One k x) = end_alone k x

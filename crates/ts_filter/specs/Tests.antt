-- Refuted, cut and drop as tests that compute.
use Rattle.std.specs.Prelude.{ℕ, ◌-◌, ℤ, Bool, false, ◌&&◌, ◌||◌, List, length, Option, Some, None, nat_eq, nat_le}
use Rattle.std.specs.Prelude.{slice_get}
use Rattle.ts_base.specs.declared.goal.Goal.{Goal}
use Rattle.ts_model.specs.declared.model.Require.{Require}
use Rattle.ts_model.specs.Judgement.{is_among}
use Rattle.ts_model.specs.ModelParts.{ModelParts}
use Rattle.ts_filter.specs.declared.bar.Bar.{Bar}
use Rattle.ts_filter.specs.Boxes.{Box, values_at, only}
use Rattle.ts_filter.specs.Ends.{refutes, cuts}
use Rattle.ts_filter.specs.RefutedWorseDrop.{Spans}

abbrev pub has_cell : ℕ → Box → Bool
has_cell k b = nat_le 1 k && nat_le k (length b)

abbrev pub is_usable : Spans → ℕ → ℕ → Box → Bool
is_usable s term p b = has_cell p b && (s.reversible term || nat_eq p (length b))

abbrev pub refuted_by : Spans → ℕ → Box → Option Require → Bool
refuted_by s p b None = false
refuted_by s p b (Some r) = is_usable s r.term p b && refutes r.op r.bound (s.span_at r.term p b)

abbrev pub is_refuted : List Require → Spans → ℕ → ℕ → Box → Bool
is_refuted requirements s j p b = nat_le 1 j && refuted_by s p b (slice_get requirements (j - 1))

abbrev pub cut_by : Spans → Goal → ℕ → Box → Bar → Option ℕ → Bool
cut_by s goal p b bar None = false
cut_by s goal p b bar (Some term) = is_usable s term p b && cuts goal bar (s.span_at term p b)

abbrev pub is_cut : ModelParts → Spans → Goal → ℕ → Box → Bar → Bool
is_cut m s goal p b bar = cut_by s goal p b bar m.objective

abbrev pub has_others : ℕ → ℤ → Box → Bool
has_others k v b = nat_le 2 (length (values_at k b)) && is_among (values_at k b) v

abbrev pub is_drop : List Require → Spans → ℕ → ℤ → ℕ → Box → Bool
is_drop requirements s k v j b = has_cell k b && (has_others k v b && is_refuted requirements s j k (only k v b))

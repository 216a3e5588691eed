use Rattle.std.proofs.Common.{rules}
use Rattle.ts_machine_tests.proofs.Splits.{split_is}
use Rattle.ts_machine_tests.proofs.met.span_in_lanes.Goals as goal

pub met-requires : goal.met-requires
met-requires g c = (
  search rules,
  (
    search rules,
    (
      c.requires.registers,
      (
        c.requires.lanes,
        (
          c.requires.both,
          (search (rules, split_is), (search (rules, split_is), search rules)),
        ),
      ),
    ),
  ),
)

use Rattle.std.proofs.Common.{sym}
use Rattle.ts_filter.proofs.Refuting.{first_before}
use Rattle.ts_filter.proofs.term_requirements.TermRequirements.among.Goals as goal

pub invariant_of-own : goal.invariant_of-own
invariant_of-own c =
    let is_first = sym c.in_ok-first.ensures in
    let behind = c.end_of-end.ensures.none_behind in
    record {
      few = c.requires;
      is_first = is_first;
      some = first_before c.args.all.now c.args.term c.in_ok-first.first c.end_of-end.result is_first behind;
      within = c.end_of-end.ensures.within;
      none_behind = behind;
    }

use Rattle.std.proofs.Common.{ap, ◌∙◌, map}
use Rattle.ts_pattern.specs.Plans.{plain_live}
use Rattle.ts_seed.proofs.Plans.{entries_written}
use Rattle.ts_seed.proofs.table.configuration.Goals as goal

abbrev pub returns : goal.returns
returns c =
    ap (λ es. record { state = c.args.state; live = es }) (ap (λ es. map (λ e. plain_live e) es) c.in_ok-entries.ensures ∙ entries_written c.args.entries.now)

use Rattle.ts_filter.proofs.kept.kept_value.Goals as goal

pub kept_value-requires-clause-known : goal.kept_value-requires-clause-known
kept_value-requires-clause-known c = c.new.ensures.known _

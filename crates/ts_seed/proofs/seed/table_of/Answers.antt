use Rattle.std.proofs.Common.{ap, ◌∙◌}
use Rattle.ts_seed.specs.Written.{table_read}
use Rattle.ts_seed.proofs.Kept.{typed, few_rows, all_earlier}
use Rattle.ts_seed.proofs.seed.table_of.Goals as goal

abbrev pub returns-clause-table : goal.returns-clause-table
returns-clause-table c = ap (λ reading. table_read reading c.printed.result) c.reading_of.ensures ∙ c.printed.ensures

abbrev pub returns-clause-few : goal.returns-clause-few
returns-clause-few c = few_rows c.args.id _ c.printed.result c.printed.ensures

abbrev pub returns-clause-typed : goal.returns-clause-typed
returns-clause-typed c = typed c.args.id

abbrev pub returns-clause-earlier : goal.returns-clause-earlier
returns-clause-earlier c = all_earlier c.args.id _ c.printed.result c.printed.ensures

use Rattle.ts_token.proofs.ShortLaws.{few_now, short_now, stands_now}
use Rattle.ts_token.proofs.short.ShortLine.bytes.Goals as goal

pub returns-clause-stands : goal.returns-clause-stands
returns-clause-stands c line short = stands_now line c.deref.result.now c.args.self.now c.deref.ensures.value short

pub returns-clause-few : goal.returns-clause-few
returns-clause-few c line short = few_now line c.deref.result.now c.args.self.now c.deref.ensures.value short

pub returns-clause-short : goal.returns-clause-short
returns-clause-short c line short = short_now line c.deref.result.now c.args.self.now c.deref.ensures.value short

use Rattle.ts_run.proofs.watch.Watching.new.Goals as goal

pub returns : goal.returns
returns c = (c.new.ensures.taken, c.new.ensures.need)

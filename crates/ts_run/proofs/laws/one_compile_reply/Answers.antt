use Rattle.ts_run.proofs.CompileLaws as laws
use Rattle.ts_run.proofs.laws.one_compile_reply.Goals as goal

pub returns : goal.returns
returns c = laws.one_compile_reply

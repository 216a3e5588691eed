use Rattle.std.proofs.Common.{arith}
use Rattle.ts_search.proofs.problem.Problem.requirements.Goals as goal

pub overflow_cast-result : goal.overflow_cast-result
overflow_cast-result c = let few = c.requires.requirements in let size = c.len.ensures in omega (arith, few, size)

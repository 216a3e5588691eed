use Rattle.std.proofs.Common.{◌≡◌, ◌++◌, drop}
use Rattle.ts_model.specs.Views.{terms_in}
use Rattle.ts_compile.specs.ProgramText.{program_text}
use Rattle.ts_compile.proofs.text.write_program.Given as goal

abbrev pub invariant-loop-k : goal.invariant-loop-k
invariant-loop-k l = l.text.items ++ program_text (drop l.k (terms_in l.m)) ≡ program_text (terms_in l.m)

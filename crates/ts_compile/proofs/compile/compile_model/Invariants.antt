use Rattle.std.proofs.Common.{◌≡◌, ◌++◌, drop, map}
use Rattle.ts_glue.specs.Machines.{window_of}
use Rattle.ts_compile.specs.Compiled.{HaveBodies, HavePairs}
use Rattle.ts_compile.specs.Programs.{terms_of, windows_of}
use Rattle.ts_compile.proofs.compile.compile_model.Given as goal

abbrev pub invariant-loop-k : goal.invariant-loop-k
invariant-loop-k l =
    HaveBodies l.machines.items l.terms.items × HavePairs l.machines.items l.terms.items × (l.terms.items ++ drop l.k (terms_of l.m) ≡ terms_of l.m)
    × (map window_of l.machines.items ++ drop l.k (windows_of l.m) ≡ windows_of l.m)

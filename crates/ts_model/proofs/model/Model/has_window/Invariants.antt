use Rattle.std.proofs.Common.{◌≡◌, drop}
use Rattle.ts_model.specs.Views.{terms_in}
use Rattle.ts_model.proofs.TermWindows.{any_window}
use Rattle.ts_model.proofs.model.Model.has_window.Given as goal

abbrev pub invariant-loop-k : goal.invariant-loop-k
invariant-loop-k l = any_window (drop l.k (terms_in l.self)) ≡ any_window (terms_in l.self)

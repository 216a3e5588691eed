use Rattle.ts_regex.proofs.Members.{Passed}
use Rattle.ts_forms.specs.Nodes.{form_at}
use Rattle.ts_forms.specs.Tables.{shapes, forms_at}
use Rattle.ts_forms.proofs.forms.Forms.place_of.Given as goal

-- i belongs after the members that were passed
abbrev pub invariant-loop-k : goal.invariant-loop-k
invariant-loop-k l = Passed (form_at (shapes l.self) l.i) (forms_at (shapes l.self) l.found) l.k

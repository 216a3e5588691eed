use Rattle.std.proofs.Common.{vec_len}
use Rattle.ts_regex.specs.NormalForm.{nest}
use Rattle.ts_forms.specs.Tables.{shapes, forms_at}
use Rattle.ts_forms.proofs.Members.{IsNested}
use Rattle.ts_forms.proofs.forms.Forms.nest.Given as goal

abbrev pub invariant-loop-member : goal.invariant-loop-member
invariant-loop-member l = IsNested l.fn.self l.self (nest (forms_at (shapes l.fn.self) l.fn.found.items)) l.found.items l.union

abbrev pub decreases-loop-member : goal.decreases-loop-member
decreases-loop-member l = vec_len l.found

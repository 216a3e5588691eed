use Rattle.std.proofs.Common.{rules, SFits, ◌∙◌, ◌+◌, refl, w64, to_z, of_z}
use Rattle.std.proofs.lemmas.Int.{to_z-of_z}
use Rattle.ts_glue.specs.Machines.{forward_of}
use Rattle.ts_witness.specs.Witnesses.{series_of}
use Rattle.ts_witness.proofs.Changed.{same_answer}
use Rattle.ts_witness.proofs.witness.Witness.value.Goals as goal

pub returns-in-Some-clause-value : goal.returns-in-Some-clause-value
returns-in-Some-clause-value c =
    let i = c.min-i.result in
    let raw = c.index-cell.result.now in
    let fits : SFits w64 raw = search rules in
    c.value_with.ensures.value
    ∙ same_answer (forward_of c.args.m.now) (series_of c.args.self.now) i (i + 1) (to_z w64 (of_z w64 raw)) raw refl
    (to_z-of_z w64 raw fits ∙ c.index-cell.ensures)

use Rattle.std.proofs.Common.{rules, ◌<◌, ◌∙◌, List, length, sym, subst, arith}
use Rattle.ts_base.specs.declared.letter.Letter.{Letter}
use Rattle.ts_occurrence.proofs.Values.{signature_length}
use Rattle.ts_base.specs.Signature.{signature_of}
use Rattle.ts_regex.specs.Shape.{shape_of}
use Rattle.ts_transducer.specs.Rows.{rows_of}
use Rattle.ts_validate.specs.Validations.{pattern_of}
use Rattle.ts_mark.proofs.Counts.{few_decoded}
use Rattle.ts_mark.proofs.Rising.{rise_found}
use Rattle.ts_mark.proofs.ranges.marks.Goals as goal

pub decoded-requires-clause-few : goal.decoded-requires-clause-few
decoded-requires-clause-few c =
    let n = signature_length c.args.series.now c.requires.some in
    subst (λ (w : List Letter). length w < 4000000000) (sym (c.deref.ensures.value ∙ c.in_ok-letters.ensures)) (omega arith)

pub returns-clause-few : goal.returns-clause-few
returns-clause-few c =
    few_decoded (rows_of c.transducer.result.now) c.args.a c.deref.result.now c.args.series.now c.decoded.result
    (c.deref.ensures.value ∙ c.in_ok-letters.ensures) c.requires.some c.decoded.ensures

pub returns-clause-rising : goal.returns-clause-rising
returns-clause-rising c =
    rise_found (shape_of (pattern_of c.args.v.now).regex) (signature_of c.args.series.now) (pattern_of c.args.v.now).b c.args.a c.decoded.result
    c.requires.small (search rules)

use Rattle.std.proofs.Common.{sym, ◌∙◌, ap, arith}
use Rattle.std.specs.Prelude.{slice_get}
use Rattle.std.specs.String.{string_bytes}
use Rattle.std.proofs.lemmas.Option.{slice_get-get_or}
use Rattle.ts_model.specs.Views.{model_parts}
use Rattle.ts_run.specs.Verdict.{names_of}
use Rattle.ts_run.proofs.Entries.{all_lines_taken, line_taken, name_at}
use Rattle.ts_run.proofs.verdict.push_values.Goals as goal

pub loop-k-preserved : goal.loop-k-preserved
loop-k-preserved c =
    let named =
    name_at c.args.model.now.terms.entries c.args.model.now.windows.items c.loop-k.k c.index.result.now
    (ap (λ names. slice_get names c.loop-k.k) (sym c.keys-names.ensures.rest) ∙ c.index.ensures) in
    line_taken (names_of (model_parts c.args.model.now)) c.args.values.now c.loop-k.k
    (string_bytes c.index.result.now) _ c.loop-k.text.items c.push_value.new.text.items _
    named (slice_get-get_or c.args.values.now c.loop-k.k _ c.loop-k-test.true) c.loop-k.invariant c.in_ok-push_value.ensures

pub returns : goal.returns
returns c =
    all_lines_taken (names_of (model_parts c.args.model.now)) c.args.values.now c.loop-k.k c.loop-k.text.items _
    (omega (arith, c.loop-k-test.false)) c.loop-k.invariant

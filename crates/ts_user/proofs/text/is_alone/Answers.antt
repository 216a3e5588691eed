use Rattle.std.proofs.Common.{arith, subst, ap, sym, ◌∙◌, true, false, length, cond, Bool, length-append}
use Rattle.ts_token.specs.declared.content.Content.{Content}
use Rattle.ts_token.specs.Contents.{Holds}
use Rattle.ts_token.specs.Gist.{without_end}
use Rattle.ts_token.specs.Text.{lines_of, cut_of}
use Rattle.ts_user.specs.PatternReading.{is_alone}
use Rattle.ts_user.proofs.TextLines.{alone_is, first_cut, skipped_on, words_on, no_text, has_one}
use Rattle.ts_user.proofs.text.is_alone.Goals as goal

pub loop-rest-init : goal.loop-rest-init
loop-rest-init c = record { one = alone_is c.args.text.now; short = omega arith }

pub returns-in-NotText : goal.returns-in-NotText
returns-in-NotText c =
    let line = without_end c.first_line.result.0.now in
    let holds = subst (λ (h : Content). Holds h line) c.in-NotText.is c.line_content.ensures in
    let made = c.first_line.ensures in
    let cut = first_cut c.loop-rest.rest.now c.first_line.result.0.now c.first_line.result.1.now made.cut made.parts made.some in
    no_text c.loop-rest.is_found c.loop-rest.rest.now line c.first_line.result.1.now (is_alone (cut_of c.args.text.now))
    cut holds c.loop-rest.invariant.one

pub returns-in-Words : goal.returns-in-Words
returns-in-Words c =
    let line = without_end c.first_line.result.0.now in
    let holds = subst (λ (h : Content). Holds h line) c.in-Words.is c.line_content.ensures in
    let made = c.first_line.ensures in
    let cut = first_cut c.loop-rest.rest.now c.first_line.result.0.now c.first_line.result.1.now made.cut made.parts made.some in
    ap (λ (f : Bool). cond f false (has_one true (lines_of c.first_line.result.1.now))) (sym c.if-is_found.true)
    ∙ words_on c.loop-rest.is_found c.loop-rest.rest.now line c.first_line.result.1.now (is_alone (cut_of c.args.text.now))
    cut holds.0 holds.1 c.loop-rest.invariant.one

pub loop-rest-preserved-in-Skipped : goal.loop-rest-preserved-in-Skipped
loop-rest-preserved-in-Skipped c =
    let line = without_end c.first_line.result.0.now in
    let holds = subst (λ (h : Content). Holds h line) c.in-Skipped.is c.line_content.ensures in
    let made = c.first_line.ensures in
    let cut = first_cut c.loop-rest.rest.now c.first_line.result.0.now c.first_line.result.1.now made.cut made.parts made.some in
    record {
      one = skipped_on c.loop-rest.is_found c.loop-rest.rest.now line c.first_line.result.1.now (is_alone (cut_of c.args.text.now))
          cut holds.0 holds.1 c.loop-rest.invariant.one;
      short =
          let size = ap length made.parts ∙ length-append c.first_line.result.0.now c.first_line.result.1.now in
          omega (arith, size, c.loop-rest.invariant.short);
    }

pub loop-rest-preserved : goal.loop-rest-preserved
loop-rest-preserved c =
    let line = without_end c.first_line.result.0.now in
    let holds = subst (λ (h : Content). Holds h line) c.in-Words-2.is c.line_content.ensures in
    let made = c.first_line.ensures in
    let cut = first_cut c.loop-rest.rest.now c.first_line.result.0.now c.first_line.result.1.now made.cut made.parts made.some in
    record {
      one =
          ap (λ (f : Bool). cond f false (has_one true (lines_of c.first_line.result.1.now))) (sym c.if-is_found.false)
          ∙ words_on c.loop-rest.is_found c.loop-rest.rest.now line c.first_line.result.1.now (is_alone (cut_of c.args.text.now))
          cut holds.0 holds.1 c.loop-rest.invariant.one;
      short =
          let size = ap length made.parts ∙ length-append c.first_line.result.0.now c.first_line.result.1.now in
          omega (arith, size, c.loop-rest.invariant.short);
    }

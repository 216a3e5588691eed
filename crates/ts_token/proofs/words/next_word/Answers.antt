use Rattle.std.proofs.Common.{◌∙◌, ap, arith, length}
use Rattle.std.specs.Prelude.{unwrap_or}
use Rattle.std.proofs.lemmas.Bool.Decides.{nat_tests}
use Rattle.ts_token.proofs.WordLaws.{none_found, next_found, some_taken}
use Rattle.ts_token.proofs.words.next_word.Goals as goal

pub returns-then-is_empty-clause-none : goal.returns-then-is_empty-clause-none
returns-then-is_empty-clause-none c =
    none_found c.args.column c.unwrap_or-blanks.result c.args.rest.now c.split_at.result.1.now
    (c.unwrap_or-blanks.ensures ∙ ap (λ o. unwrap_or o (length c.args.rest.now)) c.solid_at.ensures)
    c.split_at.ensures.back
    (grind (arith, nat_tests))

pub returns-clause-some : goal.returns-clause-some
returns-clause-some c = record {
  words =
      next_found c.args.column c.unwrap_or-blanks.result c.unwrap_or-len.result c.args.rest.now c.split_at.result.1.now c.split_at-2.result.0.now
      c.split_at-2.result.1.now
      (c.unwrap_or-blanks.ensures ∙ ap (λ o. unwrap_or o (length c.args.rest.now)) c.solid_at.ensures)
      c.split_at.ensures.back
      (grind (arith, nat_tests))
      (c.unwrap_or-len.ensures ∙ ap (λ o. unwrap_or o (length c.split_at.result.1.now)) c.blank_at.ensures)
      c.split_at-2.ensures.front
      c.split_at-2.ensures.back;
  place = omega arith;
  shorter =
      let taken = some_taken c.unwrap_or-blanks.result c.unwrap_or-len.result c.args.rest.now c.split_at.result.1.now
      (c.unwrap_or-blanks.ensures ∙ ap (λ o. unwrap_or o (length c.args.rest.now)) c.solid_at.ensures)
      c.split_at.ensures.back
      (grind (arith, nat_tests))
      (c.unwrap_or-len.ensures ∙ ap (λ o. unwrap_or o (length c.split_at.result.1.now)) c.blank_at.ensures) in
      omega arith;
}

use Rattle.std.proofs.Common.{sym, ◌∙◌, arith}
use Rattle.ts_token.proofs.NumberLaws.{over}
use Rattle.ts_token.proofs.numbers.digits_value.Goals as goal

pub returns-in_err-checked_mul : goal.returns-in_err-checked_mul
returns-in_err-checked_mul c =
    c.from_residual.ensures
    ∙ sym (over c.args.limit c.loop-b.value c.loop-b.b-index c.args.digits.now (omega arith) (sym c.is_digit.ensures ∙ c.if-not-is_digit.false)
    (omega (arith, c.in_err-checked_mul.ensures)) c.loop-b.invariant.rest)

pub returns-in_err-value : goal.returns-in_err-value
returns-in_err-value c =
    c.from_residual-in_err-value.ensures
    ∙ sym (over c.args.limit c.loop-b.value c.loop-b.b-index c.args.digits.now (omega arith) (sym c.is_digit.ensures ∙ c.if-not-is_digit.false)
    (omega (arith, c.in_err-value.ensures, c.in_ok-checked_mul.ensures)) c.loop-b.invariant.rest)

pub returns-then-value-limit : goal.returns-then-value-limit
returns-then-value-limit c =
    sym (over c.args.limit c.loop-b.value c.loop-b.b-index c.args.digits.now (omega arith) (sym c.is_digit.ensures ∙ c.if-not-is_digit.false)
    (omega (arith, c.in_ok-value.ensures, c.in_ok-checked_mul.ensures)) c.loop-b.invariant.rest)

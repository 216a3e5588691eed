use Rattle.ts_transducer.specs.Rows.{rows_of}
use Rattle.ts_validate.proofs.Made.{valid_made, valid_copy}
use Rattle.ts_validate.proofs.closure.validate.Goals as goal

pub invariant_of-result : goal.invariant_of-result
invariant_of-result c =
    record {
      valid = valid_copy (rows_of c.args.t) c.args.p.now c.in_ok-pattern.pattern c.in_ok-pattern.ensures.regex c.in_ok-pattern.ensures.b
          c.in_ok-pattern.ensures.a
          (valid_made c.rows.result.now (rows_of c.args.t) c.args.p.now c.args.plan.now c.rows.ensures.rows c.args.t.typed c.in_ok-check.ensures.closed);
    }

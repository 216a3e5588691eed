use Rattle.std.proofs.Common.{length, ap}
use Rattle.ts_regex.specs.Shape.{shape_of}
use Rattle.ts_pattern.proofs.PlanTest.{is_of_read}
use Rattle.ts_pattern.proofs.plan.Plan.is_of.Goals as goal

pub returns : goal.returns
returns c =
    let residuals = c.as_slice-residuals.result.now in
    let same = c.as_slice-residuals.ensures.value in
    is_of_read c.args.self.now (shape_of c.args.pattern.now.regex) (shape_of c.in_ok-whole.whole) (length residuals) c.begins_with-first.result
    c.starts_blank-blank.result c.all_known-known.result c.each_holds.result residuals c.deref.result.now c.deref-2.result.now
    same c.deref.ensures.value c.deref-2.ensures.value c.in_ok-whole.ensures.exact (ap (λ z. length z) same)
    c.begins_with-first.ensures c.starts_blank-blank.ensures c.all_known-known.ensures c.each_holds.ensures

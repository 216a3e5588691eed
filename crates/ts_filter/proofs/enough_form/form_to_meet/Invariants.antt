use Rattle.ts_bound.specs.AnyRows.{form_sides}
use Rattle.ts_filter.proofs.AlikeLaws.{ServeUpTo}
use Rattle.ts_filter.proofs.enough_form.form_to_meet.Given as goal

abbrev pub invariant-loop-k : goal.invariant-loop-k
invariant-loop-k l = ServeUpTo l.own.all.now l.own.term (form_sides l.form) l.mark l.n l.k

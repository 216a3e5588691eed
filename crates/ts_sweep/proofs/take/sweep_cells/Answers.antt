use Rattle.std.proofs.Common.{◌+ℤ◌, pos, ◌∙◌, arith}
use Rattle.ts_sweep.proofs.Taken.{runs_as}
use Rattle.ts_sweep.proofs.take.sweep_cells.Goals as goal

pub returns-in-Some-Some-clause-taken : goal.returns-in-Some-Some-clause-taken
returns-in-Some-Some-clause-taken g c =
    let this = c.in-Some-Some.ensures in
    let next = c.in-Some-Some.ensures' in
    let long = g.met.C.Column.same_length c.args.from c.args.before.now ∙ c.requires.same in
    let next_long = c.requires.next_same in
    runs_as g.H.Hull.both g.H.Hull.none g.C.Column.taking g.C.Column.blank _ c.args.twin (g.F.Fronts.front c.args.by)
    (g.F.Fronts.closing c.args.by) (g.C.Column.hulls c.args.from c.args.before.now) (λ i. c.in-Some-Some.run'.first +ℤ pos i)
    (g.V.Values.value c.args.values) (λ j. c.in-Some-Some.next_run.first +ℤ pos j) (g.W.Values.value c.args.next_values)
    (g.C.Column.column c.args.to c.args.next.now) _ (λ i lt. this.3 i (omega (arith, lt, long)))
    (λ j lt. next.3 j (omega (arith, lt, next_long))) c.sweep_runs.ensures.taken

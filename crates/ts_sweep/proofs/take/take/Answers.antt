use Rattle.ts_sweep.proofs.Taken.{less_met, greater_met, equal_met}
use Rattle.ts_sweep.proofs.take.take.Goals as goal

pub returns-in-Less-clause-taken : goal.returns-in-Less-clause-taken
returns-in-Less-clause-taken g c =
    less_met g.H.Hull.both g.H.Hull.none g.C.Column.taking g.C.Column.blank c.args.letter c.args.twin (g.F.Fronts.front c.args.by)
    (g.F.Fronts.closing c.args.by) (g.C.Column.hulls c.args.from c.args.before.now) (g.V.Values.value c.args.values)
    (g.W.Values.value c.args.next_values) (g.C.Column.column c.args.to c.args.next.now) _ c.in-Less.is c.sweep_cells.ensures.taken

pub returns-in-Greater-clause-taken : goal.returns-in-Greater-clause-taken
returns-in-Greater-clause-taken g c =
    greater_met g.H.Hull.both g.H.Hull.none g.C.Column.taking g.C.Column.blank c.args.letter c.args.twin (g.F.Fronts.front c.args.by)
    (g.F.Fronts.closing c.args.by) (g.C.Column.hulls c.args.from c.args.before.now) (g.V.Values.value c.args.values)
    (g.W.Values.value c.args.next_values) (g.C.Column.column c.args.to c.args.next.now) _ c.in-Greater.is c.sweep_cells-in-Greater.ensures.taken

pub returns-in-Equal-clause-taken : goal.returns-in-Equal-clause-taken
returns-in-Equal-clause-taken g c =
    equal_met g.H.Hull.both g.H.Hull.none g.C.Column.taking g.C.Column.blank c.args.letter c.args.twin (g.F.Fronts.front c.args.by)
    (g.F.Fronts.closing c.args.by) (g.C.Column.hulls c.args.from c.args.before.now) (g.V.Values.value c.args.values)
    (g.W.Values.value c.args.next_values) (g.C.Column.column c.args.to c.args.next.now) _ c.in-Equal.is (c.requires.alone c.in-Equal.is)
    c.sweep_equal.ensures.taken

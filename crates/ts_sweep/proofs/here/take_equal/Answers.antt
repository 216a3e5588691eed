use Rattle.std.proofs.Common.{ap, ◌∙◌, true}
use Rattle.ts_automaton.specs.declared.expr.Atom.TheVariants.{Zero}
use Rattle.ts_automaton.specs.Body.{move_of}
use Rattle.ts_automaton.specs.Formula.{Leaf}
use Rattle.ts_hull.proofs.Wholes.{whole_split}
use Rattle.ts_sweep.specs.Here.{here_move}
use Rattle.ts_sweep.specs.Moves.{of_width}
use Rattle.ts_sweep.specs.Packed.{is_wide}
use Rattle.ts_sweep.proofs.Equals.{fronts_here, moved_here, rests_here}
use Rattle.ts_sweep.proofs.Widths.{fronts_whole, width_cut}
use Rattle.ts_sweep.proofs.here.take_equal.Goals as goal

pub take_column-requires-clause-whole : goal.take_column-requires-clause-whole
take_column-requires-clause-whole g c = fronts_whole (is_wide g.H.Packed.count) (Leaf Zero) _ (Leaf Zero) _ (Leaf Zero)

pub returns-clause-taken : goal.returns-clause-taken
returns-clause-taken g c =
    let wide = is_wide g.H.Packed.count in
    let m = move_of c.args.t.now in
    let k = here_move true m in
    λ is. moved_here g.H.Packed.sides g.H.Packed.lanes g.H.Hull.none m _ (g.V.Values.value c.args.values) c.args.before.now _
    (g.W.Values.value c.args.next_values) _ _
    (c.take_column.ensures.taken is k (width_cut wide k (rests_here wide true m c.requires.width) ∙ ap (of_width wide) (whole_split k (fronts_here m))))

use Rattle.std.proofs.Common.{◌≡◌, ◌⊎◌, false, sym, subst, rules}
use Rattle.ts_automaton.specs.Registers.{spans_of}
use Rattle.ts_row.specs.Rows.{lanes_of}
use Rattle.ts_sweep.specs.MoveLaws.{some_unpacked}
use Rattle.ts_sweep.specs.Packed.{unpacked}
use Rattle.ts_sweep.specs.Sides.{BothEnds, lane_count, sides}
use Rattle.ts_meet.specs.Joints.{expression}
use Rattle.ts_meet.proofs.Meeting.{pair_packs}
use Rattle.ts_meet.proofs.settled.answers_settle.Goals as goal

pub glued-glued-requires : goal.glued-glued-requires
glued-glued-requires g c =
    let alone = subst (λ w. (sides g.row.N ≡ BothEnds) ⊎ (w ≡ false)) (sym c.apart.ensures.wide) c.requires.alone in
    (search rules, (c.requires.registers, (alone, (c.requires.left, (c.requires.right, c.apart.ensures.worth)))))

pub marked-requires : goal.marked-requires
marked-requires g c = c.glued-glued.ensures.some

pub returns : goal.returns
returns g c so p q r h apart x =
    let xs = lanes_of g.row.N c.args.left.now in let ys = lanes_of g.row.N c.args.right.now in let n = lane_count g.row.N in
    let told = c.reaches.ensures so in
    record {
      ends = c.marked.result;
      packs = pair_packs (sides g.row.N) p c.args.joints.now q r (spans_of (unpacked xs)) (spans_of (unpacked ys)) x c.args.cells
          (expression c.apart.result) c.glued-glued.result c.marked.result h (some_unpacked n xs c.requires.registers c.requires.left)
          (some_unpacked n ys c.requires.registers c.requires.right) (c.apart.ensures.value p q r x h apart) c.glued-glued.ensures c.marked.ensures;
      below = told.0;
      above = told.1;
    }

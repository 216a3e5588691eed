use Rattle.std.proofs.Common.{◌≡◌, ℤ, ap, ◌∙◌}
use Rattle.ts_automaton.specs.declared.regs.Hull.{Hull}
use Rattle.ts_sweep.specs.Columns.{gives, hull_at}
use Rattle.ts_sweep.specs.Packed.{unpacked}
use Rattle.ts_sweep.specs.Sides.{seen_hull}
use Rattle.ts_sweep.proofs.RunSteps.{as_passed}
use Rattle.ts_sweep.proofs.pairs.take_given.Goals as goal

pub returns : goal.returns
returns g c =
    let given : ℤ → Hull = λ w. seen_hull g.H.Packed.sides (gives (g.M.PairMove.made c.args.by) c.args.letter c.args.twin (g.V.Values.len c.args.values)
    (g.V.Values.value c.args.values) (hull_at g.H.Packed.lanes g.H.Hull.none c.args.before.now) w) in
    record {
      gift = c.given-gift.result;
      packed = c.given-gift.ensures.packed;
      value = as_passed (λ w. unpacked (g.H.Packed.lanes c.given-gift.result) ≡ given w) c.at-w.result c.at-w.ensures.small c.given-gift.ensures.value
          ∙ ap given c.at-w.ensures.value;
      joined = c.join_at.ensures;
    }

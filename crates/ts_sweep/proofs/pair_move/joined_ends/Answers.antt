use Rattle.std.proofs.Common.{◌≡◌, sym, ap, subst, ◌∙◌}
use Rattle.ts_sweep.specs.declared.packed.Ends.{Ends}
use Rattle.ts_sweep.specs.declared.packed.Name.TheVariants.{R}
use Rattle.ts_sweep.specs.Packed.{AreWithin, is_wide, name_ends}
use Rattle.ts_sweep.specs.PairMoves.{found_ends}
use Rattle.ts_sweep.specs.Sides.{as_read, kept_ends}
use Rattle.ts_sweep.specs.Trees.{folded_by}
use Rattle.ts_sweep.proofs.PairLaws.{found_kept, found_within, kept_joined}
use Rattle.ts_sweep.proofs.PairSteps.{as_both_passed}
use Rattle.ts_sweep.proofs.pair_move.joined_ends.Goals as goal

pub folded_small-requires-clause-first : goal.folded_small-requires-clause-first
folded_small-requires-clause-first g c = λ add. subst (AreWithin 1) (sym c.ends.ensures.value) (c.requires.small add)

pub folded_small-requires-clause-second : goal.folded_small-requires-clause-second
folded_small-requires-clause-second g c =
    subst (AreWithin 1)
    (sym (as_both_passed (λ x y. c.found_ends-found.result ≡ found_ends (is_wide g.H.Packed.count) c.args.cells x y) c.args.x c.args.y
    c.requires.this c.requires.next c.found_ends-found.ensures))
    (found_within (is_wide g.H.Packed.count) c.args.cells c.args.x c.args.y c.requires.this c.requires.next)

pub returns : goal.returns
returns g c =
    let s = g.H.Packed.sides in
    let wide = is_wide g.H.Packed.count in
    let xs = as_read s (g.H.Packed.lanes c.args.h) in
    ap (kept_ends s) (c.folded_small.ensures
    ∙ ap (folded_by c.args.ranges c.ends.result) (as_both_passed (λ x y. c.found_ends-found.result ≡ found_ends wide c.args.cells x y) c.args.x c.args.y
    c.requires.this c.requires.next c.found_ends-found.ensures)
    ∙ ap (λ r. folded_by c.args.ranges r (found_ends wide c.args.cells c.args.x c.args.y)) c.ends.ensures.value)
    ∙ kept_joined s c.args.ranges (name_ends xs R) (found_ends wide c.args.cells c.args.x c.args.y) _
    (found_kept s wide c.args.cells xs c.args.x c.args.y g.met.H.Packed.alone c.requires.one c.requires.begun c.requires.this c.requires.next)

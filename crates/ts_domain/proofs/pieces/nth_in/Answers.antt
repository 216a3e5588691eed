use Rattle.std.proofs.Common.{arith, Some, sym, ap, ◌∙◌}
use Rattle.std.proofs.lemmas.Int.{to_z-of_z}
use mir.Syntax.{w64}
use Rattle.ts_domain.proofs.Counts.{piece_nth}
use Rattle.ts_domain.proofs.pieces.nth_in.Goals as goal

pub overflow_add-at : goal.overflow_add-at
overflow_add-at c =
    let small = (piece_nth c.args.ranges.now.items.items c.args.piece c.place_of.result c.args.i c.requires.apart c.requires.piece c.requires.below
    c.place_of.ensures).1 in
    omega (arith, small)

pub at_place-requires-clause-below : goal.at_place-requires-clause-below
at_place-requires-clause-below c =
    (piece_nth c.args.ranges.now.items.items c.args.piece c.place_of.result c.args.i c.requires.apart c.requires.piece c.requires.below
    c.place_of.ensures).0

pub returns : goal.returns
returns c =
    (piece_nth c.args.ranges.now.items.items c.args.piece c.place_of.result c.args.i c.requires.apart c.requires.piece c.requires.below
    c.place_of.ensures).2 _
    (c.at_place.ensures ∙ ap (λ v. Some v) (sym (to_z-of_z w64 c.at_place.result (record { sfits = c.at_place.type_inv }))))

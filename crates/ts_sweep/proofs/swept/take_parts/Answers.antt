use Rattle.std.proofs.Common.{sym, ap, ◌∙◌}
use Rattle.ts_sweep.specs.AnyParts.{parts_cut}
use Rattle.ts_sweep.specs.Moves.{of_width}
use Rattle.ts_sweep.specs.Packed.{is_wide}
use Rattle.ts_sweep.proofs.Widths.{width_cut, swept_width, whole_width, parts_whole}
use Rattle.ts_sweep.proofs.swept.take_parts.Goals as goal

pub take_column-requires-clause-whole : goal.take_column-requires-clause-whole
take_column-requires-clause-whole g c =
    whole_width (is_wide g.H.Packed.count) (parts_cut c.args.parts)
    (parts_whole c.args.parts (sym c.any_tail.ensures ∙ c.if-not-any_tail.true))

pub returns-then-not-any_tail-clause-taken : goal.returns-then-not-any_tail-clause-taken
returns-then-not-any_tail-clause-taken g c =
    let wide = is_wide g.H.Packed.count in
    λ is m width cut_is. c.take_column.ensures.taken is m (width_cut wide m width ∙ ap (of_width wide) cut_is)

pub take_next-requires-clause-swept : goal.take_next-requires-clause-swept
take_next-requires-clause-swept g c = swept_width (is_wide g.H.Packed.count) (parts_cut c.args.parts) c.requires.swept

pub returns-clause-taken : goal.returns-clause-taken
returns-clause-taken g c =
    let wide = is_wide g.H.Packed.count in
    λ is m width cut_is. c.take_next.ensures.taken is m (width_cut wide m width ∙ ap (of_width wide) cut_is)

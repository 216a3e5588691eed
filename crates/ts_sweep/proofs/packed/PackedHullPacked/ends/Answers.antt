use Rattle.std.proofs.Common.{◌≡◌, length, rules, sym, ap, ◌∙◌}
use Rattle.ts_sweep.specs.Packed.{ends_in, place}
use Rattle.ts_sweep.specs.Sides.{as_read, lanes_in, sides}
use Rattle.ts_sweep.specs.SidesLaws.{lanes_length, read_length}
use Rattle.ts_sweep.proofs.packed.PackedHullPacked.ends.Goals as goal

pub returns-clause-value : goal.returns-clause-value
returns-clause-value g c =
    let xs = c.args.self.now.at in
    let zs = as_read (sides g.row.N) (lanes_in g.row.N xs) in
    let long : length xs ≡ g.row.N = search rules in
    c.ends_of.ensures ∙ ap (ends_in zs) c.place.ensures.value
    ∙ ap (λ m. ends_in zs (place m c.args.register)) (sym (read_length (sides g.row.N) (lanes_in g.row.N xs) ∙ lanes_length (sides g.row.N) g.row.N xs long))

use Rattle.std.proofs.Common.{rules, SFits, ◌≡◌, vec_len, length, ◌∙◌, ◌-◌, ◌++◌, ◌∷◌, [], ap, take, w64, to_z, of_z}
use Rattle.std.proofs.lemmas.Int.{to_z-of_z}
use Rattle.ts_automaton.specs.AutomatonRun.{after, finish_of, standing_of}
use Rattle.ts_glue.specs.Machines.{forward_of}
use Rattle.ts_witness.specs.Witnesses.{series_of}
use Rattle.ts_witness.proofs.Changed.{whole_value}
use Rattle.ts_witness.proofs.witness.Witness.value_at_end.Goals as goal

pub returns-clause-value : goal.returns-clause-value
returns-clause-value c =
    let xs = series_of c.args.self.now in
    let b = forward_of c.args.m.now in
    let n = c.len-n.result in
    let cell = to_z w64 (of_z w64 c.index-cell.result.now) in
    let fits : SFits w64 c.index-cell.result.now = search rules in
    let count : vec_len c.args.self.now.ahead.cells ≡ length xs = search rules in
    let at = standing_of c.with-at.result in
    whole_value b xs n n cell c.index-cell.result.now at c.finish.result c.requires.some (c.len-n.ensures ∙ count) (c.len-n.ensures ∙ count)
    (to_z-of_z w64 c.index-cell.result.now fits ∙ c.index-cell.ensures)
    (c.with-at.ensures.value ∙ ap (λ z. after z (take (n - 1) xs ++ cell ∷ [])) c.forward.ensures)
    (c.finish.ensures ∙ ap (λ z. finish_of z at n) c.forward-2.ensures)

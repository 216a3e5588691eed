use Rattle.std.proofs.Common.{rules, ◌≡◌, vec_len, length, ◌∙◌, ◌-◌, ap, sym, set, reverse, arith, w64, to_z, of_z}
use Rattle.ts_glue.specs.Machines.{forward_of}
use Rattle.ts_witness.specs.Witnesses.{series_of}
use Rattle.ts_witness.proofs.Changed.{mirror_set}
use Rattle.ts_witness.proofs.witness.Witness.set.Goals as goal

pub returns-clause-witness : goal.returns-clause-witness
returns-clause-witness c =
    let xs = series_of c.args.self.now in
    let k = c.args.k in
    let j = c.len-n.result - k in
    let v = to_z w64 (of_z w64 c.args.v) in
    let count : vec_len c.args.self.now.ahead.cells ≡ length xs = search rules in
    λ m h. record {
      mirror = c.set-2.ensures.cells ∙ ap (λ z. set z j v) h.mirror
          ∙ mirror_set xs (k - 1) j v (omega (arith, c.requires.from, c.requires.to)) (omega (arith, c.requires.from, c.len-n.ensures, count))
          ∙ ap reverse (sym c.set.ensures.cells);
      ahead = c.set.ensures.runs (forward_of m) h.ahead;
      behind = λ p e. c.set-2.ensures.runs p.reverse (h.behind p e);
    }

use Rattle.std.proofs.Common.{rules, ◌≡◌, ◌-◌, suc, vec_len, length, subst, arith, reverse}
use Rattle.ts_witness.specs.Runs.{IsSide}
use Rattle.ts_witness.specs.Witnesses.{series_of}
use Rattle.ts_witness.proofs.witness.Witness.sides.Goals as goal

pub returns-clause-sides : goal.returns-clause-sides
returns-clause-sides c =
    let y = series_of c.args.self.now in
    let i = c.args.k - 1 in
    let count : vec_len c.args.self.now.ahead.cells ≡ length y = search rules in
    let n = c.len-n.ensures in let from = c.requires.from in
    let j : c.len-n.result - c.args.k ≡ length y - suc i = omega (arith, n, count, from) in
    record {
      left = subst (λ b. IsSide b y i c.side-left.result) c.forward.ensures c.side-left.ensures.side;
      right = λ p is. subst (λ z. IsSide p.reverse (reverse y) z c.side_behind-right.result) j
          (subst (λ z. IsSide p.reverse z (c.len-n.result - c.args.k) c.side_behind-right.result) c.requires.witness.mirror
          (c.side_behind-right.ensures.side p is));
    }

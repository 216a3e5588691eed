use Rattle.std.proofs.Common.{rules, ◌≡◌, ◌-◌, suc, vec_len, length, subst, arith, reverse}
use Rattle.ts_witness.specs.Runs.{IsSide}
use Rattle.ts_witness.specs.Witnesses.{series_of}
use Rattle.ts_witness.proofs.witness.Witness.has_beside.Goals as goal

pub returns-clause-sides : goal.returns-clause-sides
returns-clause-sides c =
    let y = series_of c.args.self.now in
    let i = c.args.k - 1 in
    let s = c.args.sides.now in
    let count : vec_len c.args.self.now.ahead.cells ≡ length y = search rules in
    let n = c.len-n.ensures in let from = c.requires.from in
    let j : c.len-n.result - c.args.k ≡ length y - suc i = omega (arith, n, count, from) in
    λ t. record {
      left = subst (λ b. IsSide b y i s.left) c.forward.ensures (c.has_beside.ensures.side c.if-not-has_beside.false);
      right = λ p is. subst (λ z. IsSide p.reverse (reverse y) z s.right) j
          (subst (λ z. IsSide p.reverse z (c.len-n.result - c.args.k) s.right) c.requires.witness.mirror (c.has_behind.ensures.side t p is));
    }

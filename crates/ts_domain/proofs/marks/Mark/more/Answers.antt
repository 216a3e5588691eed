use Rattle.std.proofs.Common.{ap, sym, cond, pos, neg_ℤ}
use Rattle.ts_domain.specs.Marks.{gain_of}
use Rattle.ts_domain.proofs.marks.Mark.more.Goals as goal

pub returns-then-self : goal.returns-then-self
unfolding gain_of
returns-then-self c = ap (λ b. cond b (neg_ℤ (pos 1)) (pos 1)) (sym c.if-self.true)

pub returns-else-self : goal.returns-else-self
unfolding gain_of
returns-else-self c = ap (λ b. cond b (neg_ℤ (pos 1)) (pos 1)) (sym c.if-self.false)

use Rattle.std.proofs.Common.{Some, sym, ap, ◌∙◌}
use Rattle.std.proofs.lemmas.Int.{to_z-of_z}
use mir.Syntax.{w64}
use Rattle.ts_domain.proofs.Stretches.{last_of}
use Rattle.ts_domain.proofs.domain.Domain.nth_of.Goals as goal

pub returns-then-i-size : goal.returns-then-i-size
returns-then-i-size c =
    last_of c.args.self.now c.args.i c.args.size _ c.requires.size c.if-i-size.true c.greatest.ensures.last ∙
    ap (λ v. Some v) (sym (to_z-of_z w64 c.greatest.result (record { sfits = c.greatest.type_inv })))

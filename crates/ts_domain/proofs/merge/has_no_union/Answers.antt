use Rattle.std.proofs.Common.{inl, inr, sym, ap, length}
use Rattle.std.proofs.lemmas.Bool.{eqb-false}
use Rattle.ts_domain.proofs.Unions.{some_empty}
use Rattle.ts_domain.proofs.merge.has_no_union.Goals as goal

pub returns-else-is_empty : goal.returns-else-is_empty
returns-else-is_empty c =
    let s = some_empty c.args.lows.now c.args.highs.now _ c.requires c.has_empty.ensures in
    (λ yes. inr (s.0 yes), λ h. elim h [ inl none ↦ absurd (eqb-false _ 0 (sym c.if-is_empty.ensures) (ap length none)) | inr some ↦ s.1 some ])

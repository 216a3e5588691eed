-- What `validate` makes is valid.
use Rattle.std.specs.Prelude.{◌≡◌, true, List}
use Rattle.std.proofs.Common.{sym, subst}
use Rattle.ts_regex.specs.Shape.{shape_of}
use Rattle.ts_transducer.specs.declared.row.Row.{Row}
use Rattle.ts_transducer.specs.Typing.{is_typed}
use Rattle.ts_pattern.specs.declared.pattern.Pattern.{Pattern}
use Rattle.ts_pattern.specs.declared.plan.Plan.{Plan}
use Rattle.ts_pattern.specs.Closed.{IsClosed}
use Rattle.ts_pattern.specs.Plans.{plain_plan}
use Rattle.ts_pattern.specs.Valid.{IsValid}
use Rattle.ts_validate.specs.Reaches.{against}
use Rattle.ts_validate.proofs.Law.{closed_valid}

closed_made : (lent rows : List Row) (p : Pattern) (plan : Plan) → lent ≡ rows → IsClosed (against lent p plan) → IsClosed (against rows p plan)
closed_made lent rows p plan e c = subst (λ z. IsClosed (against z p plan)) e c

pub valid_made : (lent rows : List Row) (p : Pattern) (plan : Plan) → lent ≡ rows → is_typed rows ≡ true → IsClosed (against lent p plan) →
    IsValid rows (shape_of p.regex) p.b p.a
valid_made lent rows p plan e t c = closed_valid rows t (shape_of p.regex) p.b p.a (plain_plan plan) (closed_made lent rows p plan e c)

pub valid_copy : (rows : List Row) (p q : Pattern) → shape_of q.regex ≡ shape_of p.regex → q.b ≡ p.b → q.a ≡ p.a → IsValid rows (shape_of p.regex) p.b p.a →
    IsValid rows (shape_of q.regex) q.b q.a
valid_copy rows p q r b a h =
    subst (λ z. IsValid rows z q.b q.a) (sym r) (subst (λ z. IsValid rows (shape_of p.regex) z q.a) (sym b)
    (subst (λ z. IsValid rows (shape_of p.regex) p.b z) (sym a) h))

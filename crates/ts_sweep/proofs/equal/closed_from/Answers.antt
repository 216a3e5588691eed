use Rattle.std.proofs.Common.{◌≡◌, get_or, sym, ap, subst, ◌∙◌}
use Rattle.ts_sweep.proofs.RunSteps.{as_passed}
use Rattle.ts_sweep.proofs.equal.closed_from.Goals as goal

pub taken_from-front-requires-clause-takes : goal.taken_from-front-requires-clause-takes
taken_from-front-requires-clause-takes g c =
    let h = g.H.Hull in
    ap (λ x. h.both x h.none) c.nothing.ensures ∙ g.met.H.Hull.idempotent h.none ∙ sym c.nothing.ensures

pub closed-requires-clause-closable : goal.closed-requires-clause-closable
closed-requires-clause-closable g c =
    c.taken_from-front.ensures.closable
    (subst (g.F.Fronts.closable c.args.by) (sym c.nothing.ensures) (g.met.F.Fronts.closable_none c.args.by))

pub returns : goal.returns
returns g c =
    let front = g.F.Fronts.front c.args.by (get_or (g.C.Column.hulls c.args.from c.args.before.now) c.args.i g.H.Hull.none) in
    let value = g.V.Values.value c.args.values c.args.i in
    as_passed (λ z. c.closed.result ≡ g.F.Fronts.closing c.args.by c.taken_from-front.result z) c.at-v.result c.at-v.ensures.small c.closed.ensures
    ∙ ap (λ z. g.F.Fronts.closing c.args.by z c.at-v.result)
    (c.taken_from-front.ensures.value ∙ ap (λ z. g.H.Hull.both z (front value)) c.nothing.ensures)
    ∙ ap (g.F.Fronts.closing c.args.by (g.H.Hull.both g.H.Hull.none (front value))) c.at-v.ensures.value

use Rattle.std.proofs.Common.{◌∙◌, ap, sym}
use Rattle.std.proofs.lemmas.Bool.{false≢true}
use Rattle.ts_bound.specs.TermSpans.{automata_of}
use Rattle.ts_search.proofs.Narrower.{cuts_inside, machine_at}
use Rattle.ts_search.proofs.Posed.{objective_there}
use Rattle.ts_search.proofs.inside.excludes_inside.Goals as goal

pub returns-in-Same-clause-inside : goal.returns-in-Same-clause-inside
returns-in-Same-clause-inside c = λ t found.
    let q = c.args.contest.now in let m = c.index-machines-contest.result in
    let has = machine_at q.problem c.requires.posed c.args.machines.now c.requires.machines q.objective
    (objective_there q.problem c.requires.posed q.objective c.requires.objective) m c.index-machines-contest.is in (
      c.refutes_inside.ensures.inside t,
      cuts_inside q c.requires.objective (automata_of m) has (ap (λ z. z.mark) (sym c.forward.ensures) ∙ sym c.in-Same.ensures),
    )

pub returns-in_default : goal.returns-in_default
returns-in_default c =
    let q = c.args.contest.now in let m = c.index-machines-contest.result in
    let has = machine_at q.problem c.requires.posed c.args.machines.now c.requires.machines q.objective
    (objective_there q.problem c.requires.posed q.objective c.requires.objective) m c.index-machines-contest.is in
    record {
      inside = λ t. absurd (false≢true t);
      all = (
        λ t. absurd (false≢true t),
        λ h. absurd (c.in_default.not-Same (c.mark.ensures ∙ ap (λ z. z.mark) c.forward.ensures ∙ h.0 (automata_of m) has)),
      );
    }

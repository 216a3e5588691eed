use Rattle.std.proofs.Common.{◌∙◌, sym, subst}
use Rattle.ts_bound.specs.TermSpans.{LooksIn, automata_of}
use Rattle.ts_glue.specs.Machines.{window_of}
use Rattle.ts_witness.specs.Witnesses.{series_of}
use Rattle.ts_search.proofs.Witnessed.{inside_few}
use Rattle.ts_search.proofs.shown.Shown.bring.Goals as goal

pub judge-requires-clause-few : goal.judge-requires-clause-few
judge-requires-clause-few c =
    inside_few (window_of c.args.self.now.machine.now) c.args.cells.now.present (series_of c.seat_all.new.self.witness) c.requires.looks c.requires.few
    c.seat_all.ensures.inside

pub judge-requires-2-clause-few : goal.judge-requires-2-clause-few
judge-requires-2-clause-few c =
    let b = c.args.cells.now.present in
    inside_few (window_of c.judge.new.self.machine.now) b (series_of c.climb.new.self.witness)
    (subst (λ z. LooksIn (automata_of z.now) b) (sym (c.judge.ensures.machine ∙ c.seat_all.ensures.machine)) c.requires.looks) c.requires.few
    c.climb.ensures.inside

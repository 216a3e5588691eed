use Rattle.std.proofs.Common.{◌∙◌, ap, map, refl}
use Rattle.std.proofs.lemmas.Result.{IfOk-weaker}
use Rattle.ts_certificate.specs.Certificate.{cert_seen}
use Rattle.ts_model.specs.Views.{model_parts}
use Rattle.ts_bound.specs.TermSpans.{automata_of}
use Rattle.ts_spans.specs.Machines.{spans_in}
use Rattle.ts_spans.proofs.OfProgram.{machines_are}
use Rattle.ts_search.specs.Solved.{IsSolution}
use Rattle.ts_search.specs.Views.{state_of}
use Rattle.ts_search.proofs.Certified.{solved, with_dive}
use Rattle.ts_search.proofs.OfProgram.{are_right, posed_best}
use Rattle.ts_search.proofs.best.solve.Goals as goal

-- the problem may be asked: its spans are right
pub dive-requires-clause-posed : goal.dive-requires-clause-posed
dive-requires-clause-posed c = posed_best c.args.m.now c.requires.whole c.requires.limits _ refl

pub grow-requires-clause-posed : goal.grow-requires-clause-posed
grow-requires-clause-posed c = posed_best c.args.m.now c.requires.whole c.requires.limits _ refl

pub new-requires-clause-posed : goal.new-requires-clause-posed
new-requires-clause-posed c = posed_best c.args.m.now c.requires.whole c.requires.limits _ refl

-- the machines of the program are those of the model's terms
pub new-requires-clause-machines : goal.new-requires-clause-machines
new-requires-clause-machines c = ap (map automata_of) c.machines.ensures ∙ machines_are c.args.p.now c.args.m.now c.requires.program

pub returns : goal.returns
returns c =
    let m = model_parts c.args.m.now in
    let s = spans_in m in
    let q = with_dive m s c.args.goal _ c.in_ok-contest.ensures.found in
    IfOk-weaker c.certificate.result _
    (λ z. IsSolution m s c.args.goal c.args.budget (cert_seen z))
    (λ z made. solved m s c.args.goal c.args.budget _ (state_of c.in_ok-tree.tree) (cert_seen z)
    (are_right m c.requires.whole c.requires.limits.box) (c.requires.limits.objective refl) q
    c.in_ok-tree.ensures.turns made)
    c.certificate.ensures

pub excludes_inside-leaps-requires-clause-posed : goal.excludes_inside-leaps-requires-clause-posed
excludes_inside-leaps-requires-clause-posed c = posed_best c.args.m.now c.requires.whole c.requires.limits _ refl

pub excludes_inside-leaps-requires-clause-machines : goal.excludes_inside-leaps-requires-clause-machines
excludes_inside-leaps-requires-clause-machines c = ap (map automata_of) c.machines-2.ensures ∙ machines_are c.args.p.now c.args.m.now c.requires.program

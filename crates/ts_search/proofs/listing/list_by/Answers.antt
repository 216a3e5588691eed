use Rattle.std.proofs.Common.{◌≡◌, ◌∙◌, ap, map, refl}
use Rattle.std.proofs.lemmas.Result.{IfOk-weaker}
use Rattle.ts_certificate.specs.Certificate.{cert_seen}
use Rattle.ts_model.specs.Views.{model_parts}
use Rattle.ts_search.specs.Listed.{IsListAnswer}
use Rattle.ts_bound.specs.TermSpans.{automata_of}
use Rattle.ts_spans.specs.Machines.{spans_in}
use Rattle.ts_spans.proofs.OfProgram.{machines_are}
use Rattle.ts_search.specs.Turns.{list_certificate}
use Rattle.ts_search.specs.Views.{list_state_of}
use Rattle.ts_search.proofs.Certified.{listed}
use Rattle.ts_search.proofs.OfProgram.{are_right, posed_list}
use Rattle.ts_search.proofs.listing.list_by.Goals as goal

pub list_grow-requires-clause-posed : goal.list_grow-requires-clause-posed
list_grow-requires-clause-posed c = posed_list c.args.m.now c.requires.whole c.requires.limits _ refl

pub witnesses_of-requires-clause-posed : goal.witnesses_of-requires-clause-posed
witnesses_of-requires-clause-posed c = posed_list c.args.m.now c.requires.whole c.requires.limits _ refl

-- the machines of the program are those of the model's terms
pub witnesses_of-requires-clause-machines : goal.witnesses_of-requires-clause-machines
witnesses_of-requires-clause-machines c = ap (map automata_of) c.machines.ensures ∙ machines_are c.args.p.now c.args.m.now c.requires.program

pub returns : goal.returns
returns c =
    let m = model_parts c.args.m.now in
    let s = spans_in m in
    IfOk-weaker c.certificate.result (λ z. cert_seen z ≡ list_certificate c.args.count (list_state_of c.in_ok-tree.tree))
    (λ z. IsListAnswer m s c.args.count c.args.budget (cert_seen z))
    (λ z made. listed m s c.args.count c.args.budget (list_state_of c.in_ok-tree.tree) (cert_seen z) _
    (are_right m c.requires.whole c.requires.limits.box) refl c.in_ok-tree.ensures.turns made)
    c.certificate.ensures

pub may_leap-leaps-requires-clause-posed : goal.may_leap-leaps-requires-clause-posed
may_leap-leaps-requires-clause-posed c = posed_list c.args.m.now c.requires.whole c.requires.limits _ refl

pub may_leap-leaps-requires-clause-machines : goal.may_leap-leaps-requires-clause-machines
may_leap-leaps-requires-clause-machines c = ap (map automata_of) c.machines-2.ensures ∙ machines_are c.args.p.now c.args.m.now c.requires.program

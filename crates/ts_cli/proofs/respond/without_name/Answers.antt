use Rattle.std.proofs.Common.{◌∙◌, ap, Ok}
use Rattle.std.specs.Vec.Iter.{into_iter_items, into_iter_len}
use Rattle.std.proofs.lemmas.Iterator.{items_from_collect}
use Rattle.std.proofs.lemmas.Iterator.Adapters.{YieldsList-from_vec, YieldsList-from_skip}
use Rattle.ts_cli.proofs.respond.without_name.Goals as goal

pub returns-in-Ok-clause-words : goal.returns-in-Ok-clause-words
returns-in-Ok-clause-words c =
    let source = c.skip.ensures.source in
    items_from_collect {E = Unit {0}} (Ok c.in-Ok.words) c.in-Ok.ensures.ran
    (YieldsList-from_skip 1 (YieldsList-from_vec (into_iter_items c.args.args) (ap into_iter_items source) (ap into_iter_len source
    ∙ c.args.args.rest.ok.0)) c.skip.ensures.count)

use Rattle.std.proofs.Common.{◌≡◌, rules, tests, map}
use Rattle.std.proofs.lemmas.Iterator.{items_from_collect, YieldsList-from_map}
use Rattle.std.proofs.lemmas.Iterator.Consumers.{YieldsList-from_first, YieldsList-from_filter, YieldsList-at}
use Rattle.std.proofs.lemmas.Result.{IfOk-at_ok}
use Rattle.std.specs.Prelude.{filter}
use Rattle.ts_domain.specs.Kept.{keeps}
use Rattle.ts_domain.proofs.MarkKept.{single}
use Rattle.ts_domain.proofs.keep.singles.Goals as goal

pub returns : goal.returns
returns c = IfOk-at_ok (λ w. w.items ≡ map single (filter (keeps c.args.keep) c.args.domain.now)) c.in_ok-parts.was
    (items_from_collect c.collect.result c.collect.ensures.ran (YieldsList-from_map _ single (YieldsList-at c.map.ensures.source
    (YieldsList-from_filter _ (keeps c.args.keep)
    (YieldsList-at c.filter.ensures.source (YieldsList-from_first (λ x. x) (λ s. s) c.args.domain.now c.values.ensures))
    c.filter.ensures.closure (λ x b q k. search (rules, tests)))) c.map.ensures.closure (λ x r q k. search (rules, tests))))

use Rattle.std.proofs.Common.{◌≡◌, ◌++◌, drop, replicate, ap, rules}
use Rattle.std.proofs.lemmas.List.{places}
use Rattle.ts_row.proofs.packed_row.fill_first.Goals as goal

pub returns : goal.returns
returns g c =
    let filled : c.fill.new.self ≡ replicate c.args.count c.args.first = search (rules, places) in
    ap (λ z. z ++ drop c.args.count c.args.hulls.now) filled

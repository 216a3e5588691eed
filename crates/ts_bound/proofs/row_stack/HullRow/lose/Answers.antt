use Rattle.std.proofs.Common.{◌+◌, ap, refl}
use Rattle.ts_bound.proofs.ShownRows.{less_behind, less_in_front}
use Rattle.ts_bound.proofs.row_stack.HullRow.lose.Goals as goal

pub returns-then-gone-eq0 : goal.returns-then-gone-eq0
returns-then-gone-eq0 c =
    let old = c.args.self.now in
    less_in_front c.args.gone old (record old { from = old.from + c.min.result }) c.requires.from c.requires.to refl refl refl c.if-gone-eq0.true
    (ap (λ n. old.from + n) c.min.ensures) refl

pub returns-then-gone-count : goal.returns-then-gone-count
returns-then-gone-count c =
    let old = c.args.self.now in
    less_behind c.args.gone old (record old { to = old.from + c.min-then-gone-count.result }) c.requires.from c.requires.to refl refl refl
    c.if-gone-count.true refl (ap (λ n. old.from + n) c.min-then-gone-count.ensures)

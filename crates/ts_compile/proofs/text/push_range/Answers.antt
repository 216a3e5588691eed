use Rattle.std.proofs.Common.{codes}
use Rattle.std.specs.Fmt.{decimal}
use Rattle.ts_compile.proofs.Texts.{range_pushed}
use Rattle.ts_compile.proofs.text.push_range.Goals as goal

pub returns : goal.returns
returns c =
    range_pushed c.args.text.now.items (decimal c.args.range.first) (codes "..") (decimal c.args.range.last) c.push_cell.new.text.items
    c.extend_from_slice.new.self.items c.push_cell-2.new.text.items c.in_ok-push_cell.ensures.ok c.in_ok-extend_from_slice.ensures.items
    c.in_ok-push_cell-2.ensures.ok

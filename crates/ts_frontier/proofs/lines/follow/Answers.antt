use Rattle.std.proofs.Common.{rules}
use Rattle.std.proofs.lemmas.Int.{to_z-of_z}
use Rattle.std.proofs.lemmas.Result.{on_ok_weaker}
use mir.Syntax.{w64}
use Rattle.ts_frontier.proofs.Following.{split_cell, low_asked, high_asked, remove_cell, other_asked, split_told, remove_told, split_ready, remove_ready}
use Rattle.ts_frontier.proofs.lines.follow.Goals as goal

pub split-requires-clause-cell : goal.split-requires-clause-cell
split-requires-clause-cell c = split_cell c.args.line.now c.in-Split.k c.in-Split.t _ c.in-Split.is c.requires.fits

pub split-requires-clause-low : goal.split-requires-clause-low
split-requires-clause-low c =
    low_asked c.args.line.now c.in-Split.k c.in-Split.t _ _ c.in-Split.is c.requires.fits (to_z-of_z w64 c.in-Split.t (search rules))

pub split-requires-clause-high : goal.split-requires-clause-high
split-requires-clause-high c =
    high_asked c.args.line.now c.in-Split.k c.in-Split.t _ _ c.in-Split.is c.requires.fits (to_z-of_z w64 c.in-Split.t (search rules))

pub remove-requires-clause-cell : goal.remove-requires-clause-cell
remove-requires-clause-cell c = remove_cell c.args.line.now c.in-Remove.k c.in-Remove.v _ _ c.in-Remove.is c.requires.fits

pub remove-requires-clause-stays : goal.remove-requires-clause-stays
remove-requires-clause-stays c =
    other_asked c.args.line.now c.in-Remove.k c.in-Remove.v _ _ _ c.in-Remove.is c.requires.fits (to_z-of_z w64 c.in-Remove.v (search rules))

pub returns-in-Split-clause-ok : goal.returns-in-Split-clause-ok
returns-in-Split-clause-ok c =
    on_ok_weaker c.split.result
    (split_told c.args.line.now c.in-Split.k c.in-Split.t _ c.args.frontier.now c.split.new.self c.in-Split.is
    (to_z-of_z w64 c.in-Split.t (search rules)))
    c.split.ensures.ok

pub returns-in-Remove-clause-ok : goal.returns-in-Remove-clause-ok
returns-in-Remove-clause-ok c =
    on_ok_weaker c.remove.result
    (remove_told c.args.line.now c.in-Remove.k c.in-Remove.v _ _ c.args.frontier.now c.remove.new.self c.in-Remove.is
    (to_z-of_z w64 c.in-Remove.v (search rules)))
    c.remove.ensures.ok

pub returns-in-Split-clause-ready : goal.returns-in-Split-clause-ready
returns-in-Split-clause-ready c =
    on_ok_weaker c.split.result
    (split_ready c.args.line.now c.in-Split.k c.in-Split.t _ c.args.frontier.now c.split.new.self c.in-Split.is)
    c.split.ensures.ok

pub returns-in-Remove-clause-ready : goal.returns-in-Remove-clause-ready
returns-in-Remove-clause-ready c =
    on_ok_weaker c.remove.result
    (remove_ready c.args.line.now c.in-Remove.k c.in-Remove.v _ _ c.args.frontier.now c.remove.new.self c.in-Remove.is)
    c.remove.ensures.ok

use Rattle.std.proofs.Common.{ap, ◌∙◌, refl}
use Rattle.ts_bound.specs.TermSpans.{automata_of}
use Rattle.ts_glue.specs.Machines.{forward_of, window_of}
use Rattle.ts_bound.specs.declared.planned.Planned.{Planned}
use Rattle.ts_filter.specs.HeldMachine.{machine_in}
use Rattle.ts_filter.proofs.TableRows.{ahead_known}
use Rattle.ts_filter.proofs.box_tables.BoxTables.make_ahead.Goals as goal

pub returns-clause-known : goal.returns-clause-known
returns-clause-known c =
    ahead_known (automata_of (machine_in c.self.inside.machine)) c.args.cells.now.present _ c.args.self.now _ c.forward.result.now c.window.result
    (c.window.ensures ∙ ap window_of c.get-machine.ensures) c.requires.known c.self.inside.ahead c.make_rows.new.rows c.self.inside.behind
    (c.forward.ensures ∙ ap forward_of c.get-machine.ensures)
    c.make_rows.ensures.known (ap (λ (q : Planned). q.form) c.make_rows.ensures.planned) c.self.view_is refl

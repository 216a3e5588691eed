use Rattle.std.proofs.Common.{ap, ◌∙◌, refl}
use Rattle.ts_bound.specs.TermSpans.{automata_of}
use Rattle.ts_glue.specs.Machines.{reverse_of, window_of}
use Rattle.ts_bound.specs.declared.planned.Planned.{Planned}
use Rattle.ts_filter.specs.HeldMachine.{machine_in}
use Rattle.ts_filter.proofs.TableRows.{behind_known}
use Rattle.ts_filter.proofs.box_tables.BoxTables.make_behind.Goals as goal

pub returns-clause-known : goal.returns-clause-known
returns-clause-known c =
    behind_known (automata_of (machine_in c.self.inside.machine)) c.args.cells.now.present _ c.args.self.now _ c.in-Some.reverse.now c.window.result
    (c.window.ensures ∙ ap window_of c.get-machine.ensures) c.requires.known c.self.inside.ahead c.self.inside.behind c.make_rows.new.rows
    (c.in-Some.ensures ∙ ap reverse_of c.get-machine.ensures)
    c.make_rows.ensures.known (ap (λ (q : Planned). q.form) c.make_rows.ensures.planned ∙ c.self.invariant.0.form) c.self.view_is refl

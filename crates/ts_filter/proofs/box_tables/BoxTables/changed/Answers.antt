use Rattle.std.proofs.Common.{◌≡◌, Bool, true, false, ap, ◌∙◌, refl}
use Rattle.ts_glue.specs.Machines.{window_of}
use Rattle.ts_filter.proofs.ChangedTables.{stay_known, tables_left}
use Rattle.ts_filter.proofs.box_tables.BoxTables.changed.Goals as goal

pub returns-clause-known : goal.returns-clause-known
returns-clause-known c = λ known.
    stay_known _ c.args.change c.args.seen.now c.args.cells.now.present _ _ _ _ _ c.self.invariant.0.forward c.self.invariant.0.reverse c.self.invariant.0.form
    _ _ _ _ c.leave.ensures c.leave-2.ensures c.window-window.result c.args.self.now _ _ (c.window-window.ensures ∙ ap window_of c.get.ensures)
    c.clear.ensures.items c.self.view_is refl c.requires.change c.index-seen-change.is c.at.ensures c.index-seen-change-2.is c.at-2.ensures known

pub invariant_of-self : goal.invariant_of-self
invariant_of-self c = (
  tables_left _ _ c.args.change _ _ _ _ _ _ _ _ c.self.invariant.0 c.leave.ensures c.leave-2.ensures,
  λ e. absurd (let z : ◌≡◌ {A = Bool} false true = e in cc),
)

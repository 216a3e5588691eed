use Rattle.std.proofs.Common.{◌∙◌, refl, sym, subst}
use Rattle.ts_automaton.specs.Body.{Body}
use Rattle.ts_bound.specs.RowStacks.{IsPlanned}
use Rattle.ts_bound.specs.TermSpans.{automata_of}
use Rattle.ts_glue.specs.declared.machine.Machine.{Machine}
use Rattle.ts_filter.specs.KnownRows.{AreTables}
use Rattle.ts_filter.proofs.TableRows.{nothing_known}
use Rattle.ts_filter.proofs.box_tables.BoxTables.new.Goals as goal

pub returns-clause-known : goal.returns-clause-known
returns-clause-known c = λ cells.
    nothing_known _ _ _ _ _ _ _ cells c.new-ahead.ensures.none c.rows_behind-behind.ensures.none c.new.ensures.items refl

pub invariant_of-result : goal.invariant_of-result
invariant_of-result c =
    let ahead = c.new-ahead.result.planned in let behind = c.rows_behind-behind.result.planned in (
      subst (λ (m : Machine). AreTables (automata_of m) ahead behind c.joints_of-joints.result) c.get-m.ensures
          (record {
            whole = c.machine_is_whole.ensures;
            forward = subst (λ (b : Body). IsPlanned b ahead) c.forward-2.ensures c.new-ahead.ensures.planned;
            reverse = c.rows_behind-behind.ensures.planned;
            form = c.rows_behind-behind.ensures.form ∙ sym c.new-ahead.ensures.form;
            meets = c.joints_of-joints.ensures;
          }),
      λ e. record { none_ahead = c.new-ahead.ensures.none; none_behind = c.rows_behind-behind.ensures.none; none_quiet = c.new.ensures.items },
    )

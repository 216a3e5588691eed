use Rattle.std.proofs.Common.{List, IsTrue, ap, ◌∙◌, subst}
use Rattle.ts_model.specs.declared.model.Require.{Require}
use Rattle.ts_filter.specs.KnownRows.{KnownRows}
use Rattle.ts_filter.specs.TermDrops.{AreAmong}
use Rattle.ts_filter.proofs.box_tables.BoxTables.is_quiet.Goals as goal

pub returns : goal.returns
returns c =
    let own = c.args.own in
    subst (λ (l : List Require). IsTrue c.are_among.result → AreAmong own.all.now own.term l)
    (c.as_slice.ensures.value ∙ ap (λ (t : KnownRows). t.quiet) c.self.view_is) c.are_among.ensures

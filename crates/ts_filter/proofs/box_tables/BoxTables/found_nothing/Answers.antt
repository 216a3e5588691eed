use Rattle.std.proofs.Common.{ap, ◌∙◌, refl}
use Rattle.ts_filter.proofs.Quiet.{remembered}
use Rattle.ts_filter.proofs.SoundLaws.{clash}
use Rattle.ts_filter.proofs.box_tables.BoxTables.found_nothing.Goals as goal

pub returns : goal.returns
returns c =
    remembered c.args.own.all.now c.args.own.term _ c.self.inside.ahead c.self.inside.behind _ c.replace.new.dest.items c.args.self.now _
    (λ e. clash c.is_plain.result (c.is_plain.ensures.1 e) c.if-is_plain.false) (ap (λ q. q.items) c.replace.ensures.after ∙ c.in_ok-quiet.ensures)
    c.self.view_is refl

use Rattle.std.proofs.Common.{◌∙◌, ap, map}
use Rattle.ts_transducer.specs.declared.row.Row.{Row}
use Rattle.ts_validate.specs.Numbers.{kept_at}
use Rattle.ts_validate.proofs.Looking.{row_is, computed, next_seen, meets_seen}
use Rattle.ts_validate.proofs.step.look_at.Goals as goal

pub returns-clause-next : goal.returns-clause-next
returns-clause-next c =
    let h = computed c.args.rows.now c.args.table.now c.args.b c.args.configurations.now c.args.here.now c.args.letter c.arrow-arrow.result
    c.in_ok-kept.kept.items c.as_slice-live.result.now c.none_kept-free.result c.all_listed-listed.result c.place-next.result c.row.result
    c.as_slice-3.result.now c.as_slice-live.ensures.value c.row.ensures c.arrow-arrow.ensures c.in_ok-kept.ensures c.none_kept-free.ensures
    c.all_listed-listed.ensures c.as_slice-3.ensures.value c.place-next.ensures in
    next_seen c.args.rows.now c.args.table.now c.args.b c.args.configurations.now c.args.here.now c.args.letter c.arrow-arrow.result c.in_ok-kept.kept.items
    c.none_kept-free.result c.all_listed-listed.result c.place-next.result c.kept_agree-agree.result c.looked.result h c.looked.ensures

pub returns-clause-meets : goal.returns-clause-meets
returns-clause-meets c =
    let h = computed c.args.rows.now c.args.table.now c.args.b c.args.configurations.now c.args.here.now c.args.letter c.arrow-arrow.result
    c.in_ok-kept.kept.items c.as_slice-live.result.now c.none_kept-free.result c.all_listed-listed.result c.place-next.result c.row.result
    c.as_slice-3.result.now c.as_slice-live.ensures.value c.row.ensures c.arrow-arrow.ensures c.in_ok-kept.ensures c.none_kept-free.ensures
    c.all_listed-listed.ensures c.as_slice-3.ensures.value c.place-next.ensures in
    meets_seen c.args.rows.now c.args.table.now c.args.b c.args.configurations.now c.args.here.now c.args.letter c.arrow-arrow.result c.in_ok-kept.kept.items
    c.none_kept-free.result c.all_listed-listed.result c.place-next.result c.kept_agree-agree.result c.looked.result h c.looked.ensures
    c.as_slice-2.result.now c.row-kind.result.kind
    (c.as_slice-2.ensures.value ∙ c.in_ok-seen.ensures ∙ ap (λ z. map (λ e. kept_at c.args.table.now e) z) c.as_slice.ensures.value)
    (ap (λ (z : Row). z.kind) (c.row-kind.ensures ∙ row_is c.args.rows.now c.arrow-arrow.result.next)) c.kept_agree-agree.ensures

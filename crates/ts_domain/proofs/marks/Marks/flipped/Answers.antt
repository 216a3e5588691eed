use Rattle.std.proofs.Common.{◌++◌, sym, ap, ◌∙◌, subst, pos, neg_ℤ}
use Rattle.ts_domain.specs.Marks.{MarksFrom}
use Rattle.ts_domain.proofs.Places.{small_fits}
use Rattle.ts_domain.proofs.MarkReads.{plain_cut}
use Rattle.ts_domain.proofs.MarkCuts.{sides, just_one, one_then, one_before, with_mark, flipped_out, flipped_in}
use Rattle.ts_domain.proofs.marks.Marks.flipped.Goals as goal

pub joined-requires : goal.joined-requires
joined-requires c =
    let r = c.split-cut.result in
    sides (neg_ℤ (pos 1000000)) r.before r.at r.behind (subst (MarksFrom (neg_ℤ (pos 1000000))) c.split-cut.ensures.all c.requires.rising)

pub returns-then-not-is_empty : goal.returns-then-not-is_empty
returns-then-not-is_empty c =
    let e = c.split-cut.ensures in let r = c.split-cut.result in
    flipped_out c.args.mark c.args.self r.before r.at r.behind c.joined.result c.requires.rising
    (plain_cut c.args.mark.value c.args.self r.before r.at r.behind (small_fits c.args.mark.value c.requires.from c.requires.to) e.all e.before e.at e.behind)
    (c.is_empty.ensures.no c.if-not-is_empty.true) c.joined.ensures

pub joined_at-one-requires : goal.joined_at-one-requires
joined_at-one-requires c = just_one c.args.mark c.new.result c.new-2.result c.new.ensures c.new-2.ensures c.requires.from c.requires.to

pub joined-requires-2 : goal.joined-requires-2
joined-requires-2 c =
    let e = c.split-cut.ensures in let r = c.split-cut.result in
    subst (MarksFrom (neg_ℤ (pos 1000000)))
    (one_then c.args.mark c.new.result c.new-2.result c.joined_at-one.result r.behind c.new.ensures c.new-2.ensures c.joined_at-one.ensures)
    (one_before c.args.mark c.args.self r.before r.at r.behind c.requires.rising
    (plain_cut c.args.mark.value c.args.self r.before r.at r.behind (small_fits c.args.mark.value c.requires.from c.requires.to) e.all e.before e.at e.behind)
    c.requires.from c.requires.to)

pub joined-requires-3 : goal.joined-requires-3
joined-requires-3 c =
    let e = c.split-cut.ensures in let r = c.split-cut.result in
    subst (λ l. MarksFrom (neg_ℤ (pos 1000000)) (r.before ++ l))
    (one_then c.args.mark c.new.result c.new-2.result c.joined_at-one.result r.behind c.new.ensures c.new-2.ensures c.joined_at-one.ensures
    ∙ sym c.joined-2.ensures)
    (with_mark c.args.mark c.args.self r.before r.at r.behind c.requires.rising
    (plain_cut c.args.mark.value c.args.self r.before r.at r.behind (small_fits c.args.mark.value c.requires.from c.requires.to) e.all e.before e.at e.behind)
    c.requires.from c.requires.to)

pub returns : goal.returns
returns c =
    let e = c.split-cut.ensures in let r = c.split-cut.result in
    flipped_in c.args.mark c.args.self r.before r.at r.behind c.joined-3.result
    (plain_cut c.args.mark.value c.args.self r.before r.at r.behind (small_fits c.args.mark.value c.requires.from c.requires.to) e.all e.before e.at e.behind)
    (c.is_empty.ensures.yes c.if-not-is_empty.false)
    (c.joined-3.ensures ∙ ap (λ l. r.before ++ l) (c.joined-2.ensures ∙
    sym (one_then c.args.mark c.new.result c.new-2.result c.joined_at-one.result r.behind c.new.ensures c.new-2.ensures c.joined_at-one.ensures)))

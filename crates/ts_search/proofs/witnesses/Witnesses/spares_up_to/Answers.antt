use Rattle.std.proofs.Common.{rules, ◌≡◌, ◌∙◌, length, vec_len, sym, subst, arith, w64, ◌+◌}
use Rattle.std.proofs.lemmas.Int.{to_z-of_z}
use Rattle.ts_search.proofs.Marks.{SparedBelow, all_spared, spared_next}
use Rattle.ts_search.proofs.witnesses.Witnesses.spares_up_to.Goals as goal

pub loop-i-preserved : goal.loop-i-preserved
loop-i-preserved c = record {
  shown = c.spares_by_one-limit.ensures.shown;
  met = c.spares_by_one-limit.ensures.met;
  same = c.spares_by_one-limit.ensures.same ∙ c.loop-i.invariant.same;
  same_ends = c.spares_by_one-limit.ensures.same_ends ∙ c.loop-i.invariant.same_ends;
  spared = subst (λ z. SparedBelow c.args.problem.now c.args.cells.now.present c.args.at z (c.loop-i.i + 1))
      (sym (to_z-of_z w64 c.spares_by_one-limit.result (search rules)))
      (spared_next c.args.problem.now c.args.cells.now.present c.args.at _ c.spares_by_one-limit.result c.loop-i.i
      c.spares_by_one-limit.ensures.most c.loop-i.invariant.spared c.spares_by_one-limit.ensures.spared);
}

pub returns-clause-spared : goal.returns-clause-spared
returns-clause-spared c =
    let q = c.args.problem.now in
    let end = c.len-i-end.ensures in let past = c.loop-i-test.false in
    let count : vec_len q.model.now.requirements ≡ length q.model.now.requirements.items = search rules in
    all_spared q c.args.cells.now.present c.args.at _ c.loop-i.i c.loop-i.invariant.spared (omega (arith, end, past, count))

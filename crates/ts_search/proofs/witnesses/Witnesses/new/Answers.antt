use Rattle.std.proofs.Common.{rules, ◌≡◌, [], ◌∷◌, ◌+◌, ◌-◌, ◌∙◌, ap, length, slice_get, sym, subst, vec_len, arith}
use Rattle.std.proofs.lemmas.List.{length-append}
use Rattle.ts_bound.specs.TermSpans.{LooksIn, automata_of}
use Rattle.ts_search.proofs.Witnessed.{all_made, found, machine_looks, made_witness, one_more_made, unmarked_sized}
use Rattle.ts_search.proofs.witnesses.Witnesses.new.Goals as goal

pub new-requires-clause-looks : goal.new-requires-clause-looks
new-requires-clause-looks c =
    let q = c.args.problem.now in
    let i = c.loop-i.i in let r = c.index-r.result.now in let m = c.index-machines-r.result in
    let count : vec_len q.model.now.requirements ≡ length q.model.now.requirements.items = search rules in
    let below = c.loop-i-test.true in let end = c.len-i-end.ensures in
    let at : i + 1 - 1 ≡ i = omega arith in
    let is = ap (slice_get q.model.now.requirements.items) at
    ∙ found q.model.now.requirements.items i r c.index-r.ensures (omega (arith, below, end, count)) in
    subst (LooksIn (automata_of m)) (sym c.deref.ensures.value)
    (machine_looks q c.requires.posed c.args.machines.now c.requires.machines (i + 1) r is m c.index-machines-r.is)

pub loop-i-preserved : goal.loop-i-preserved
loop-i-preserved c =
    let q = c.args.problem.now in
    let i = c.loop-i.i in let r = c.index-r.result.now in let m = c.index-machines-r.result in
    let s = c.in_ok-new.field-0 in
    let count : vec_len q.model.now.requirements ≡ length q.model.now.requirements.items = search rules in
    let below = c.loop-i-test.true in let end = c.len-i-end.ensures in
    let at : i + 1 - 1 ≡ i = omega arith in
    let there = found q.model.now.requirements.items i r c.index-r.ensures (omega (arith, below, end, count)) in
    let long = ap length c.in_ok-push.ensures.items ∙ length-append c.loop-i.each.items (s ∷ []) in
    let same = c.loop-i.invariant.count in
    record {
      count = omega (arith, long, same);
      made = one_more_made q c.loop-i.each.items c.push.new.self.items i s r c.loop-i.invariant.made c.loop-i.invariant.count c.in_ok-push.ensures.items there
          (made_witness q c.requires.posed c.args.machines.now c.requires.machines (i + 1) r (ap (slice_get q.model.now.requirements.items) at ∙ there) m
          c.index-machines-r.is c.deref.result.now c.deref.ensures.value s c.in_ok-new.ensures.machine c.in_ok-new.ensures.held c.in_ok-new.ensures.count
          c.in_ok-new.ensures.cells);
    }

pub returns : goal.returns
returns c =
    let q = c.args.problem.now in
    let count : vec_len q.model.now.requirements ≡ length q.model.now.requirements.items = search rules in
    let end = c.len-i-end.ensures in let to = c.loop-i.auto.i-end in let same = c.loop-i.invariant.count in
    all_made q _ (omega (arith, end, to, same, count)) c.loop-i.invariant.made (unmarked_sized q c.in_ok-kept.kept c.in_ok-kept.ensures) c.in_ok-ends.ensures

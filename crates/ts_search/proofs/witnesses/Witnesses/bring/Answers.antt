use Rattle.std.proofs.Common.{rules, ◌≡◌, refl, ◌∙◌, arith, length, vec_len}
use Rattle.std.proofs.lemmas.List.{length-set}
use Rattle.std.specs.Vec.{with_item}
use Rattle.ts_search.specs.declared.witnesses.Witnesses.{Witnesses}
use Rattle.ts_search.proofs.Witnessed.{all_inside, bring_count, bring_few, bring_looks, bring_some, found, held_after, inside_after}
use Rattle.ts_search.proofs.witnesses.Witnesses.bring.Goals as goal

pub loop-i-init : goal.loop-i-init
loop-i-init c = record { count = refl; held = c.requires.held; inside = λ i s r below e f. absurd (omega (arith, below)) }

pub index-r-requires : goal.index-r-requires
index-r-requires c =
    let below = c.loop-i-test.true in
    let few = c.loop-i.invariant.held.few in
    let count = c.loop-i.invariant.count in
    let end = c.len-i-end.ensures in
    omega (arith, below, few, count, end)

pub bring-requires-clause-held : goal.bring-requires-clause-held
bring-requires-clause-held c =
    let q = c.args.problem.now in let w = c.loop-i.self in let b = c.args.cells.now.present in
    let i = c.loop-i.i in let r = c.index-r.result.now in let s = c.index_mut.result.now in
    let count : vec_len c.args.self.now.each ≡ length c.args.self.now.each.items = search rules in
    let below = c.loop-i-test.true in let end = c.len-i-end.ensures in let same = c.loop-i.invariant.count in let few = c.loop-i.invariant.held.few in
    let require = found q.model.now.requirements.items i r c.index-r.ensures (omega (arith, below, end, same, few, count)) in
    let there = found w.each.items i s c.index_mut.ensures.value (omega (arith, below, end, same, count)) in
    c.loop-i.invariant.held.each i s r there require

pub bring-requires-clause-looks : goal.bring-requires-clause-looks
bring-requires-clause-looks c =
    let q = c.args.problem.now in let w = c.loop-i.self in let b = c.args.cells.now.present in
    let i = c.loop-i.i in let r = c.index-r.result.now in let s = c.index_mut.result.now in
    let count : vec_len c.args.self.now.each ≡ length c.args.self.now.each.items = search rules in
    let below = c.loop-i-test.true in let end = c.len-i-end.ensures in let same = c.loop-i.invariant.count in let few = c.loop-i.invariant.held.few in
    let require = found q.model.now.requirements.items i r c.index-r.ensures (omega (arith, below, end, same, few, count)) in
    let there = found w.each.items i s c.index_mut.ensures.value (omega (arith, below, end, same, count)) in
    bring_looks q c.requires.posed w b c.requires.part c.loop-i.invariant.held i s r there require

pub bring-requires-clause-some : goal.bring-requires-clause-some
bring-requires-clause-some c =
    let q = c.args.problem.now in let w = c.loop-i.self in let b = c.args.cells.now.present in
    let i = c.loop-i.i in let r = c.index-r.result.now in let s = c.index_mut.result.now in
    let count : vec_len c.args.self.now.each ≡ length c.args.self.now.each.items = search rules in
    let below = c.loop-i-test.true in let end = c.len-i-end.ensures in let same = c.loop-i.invariant.count in let few = c.loop-i.invariant.held.few in
    let require = found q.model.now.requirements.items i r c.index-r.ensures (omega (arith, below, end, same, few, count)) in
    let there = found w.each.items i s c.index_mut.ensures.value (omega (arith, below, end, same, count)) in
    bring_some q c.requires.posed w b c.requires.part c.loop-i.invariant.held i s r there require

pub bring-requires-clause-few : goal.bring-requires-clause-few
bring-requires-clause-few c =
    let q = c.args.problem.now in let w = c.loop-i.self in let b = c.args.cells.now.present in
    let i = c.loop-i.i in let r = c.index-r.result.now in let s = c.index_mut.result.now in
    let count : vec_len c.args.self.now.each ≡ length c.args.self.now.each.items = search rules in
    let below = c.loop-i-test.true in let end = c.len-i-end.ensures in let same = c.loop-i.invariant.count in let few = c.loop-i.invariant.held.few in
    let require = found q.model.now.requirements.items i r c.index-r.ensures (omega (arith, below, end, same, few, count)) in
    let there = found w.each.items i s c.index_mut.ensures.value (omega (arith, below, end, same, count)) in
    bring_few q c.requires.posed w b c.requires.part c.loop-i.invariant.held i s r there require

pub bring-requires-clause-count : goal.bring-requires-clause-count
bring-requires-clause-count c =
    let q = c.args.problem.now in let w = c.loop-i.self in let b = c.args.cells.now.present in
    let i = c.loop-i.i in let r = c.index-r.result.now in let s = c.index_mut.result.now in
    let count : vec_len c.args.self.now.each ≡ length c.args.self.now.each.items = search rules in
    let below = c.loop-i-test.true in let end = c.len-i-end.ensures in let same = c.loop-i.invariant.count in let few = c.loop-i.invariant.held.few in
    let require = found q.model.now.requirements.items i r c.index-r.ensures (omega (arith, below, end, same, few, count)) in
    let there = found w.each.items i s c.index_mut.ensures.value (omega (arith, below, end, same, count)) in
    bring_count q c.requires.posed w b c.requires.part c.loop-i.invariant.held i s r there require

pub loop-i-preserved : goal.loop-i-preserved
loop-i-preserved c =
    let q = c.args.problem.now in let w = c.loop-i.self in let b = c.args.cells.now.present in
    let i = c.loop-i.i in let r = c.index-r.result.now in let s = c.index_mut.result.now in
    let count : vec_len c.args.self.now.each ≡ length c.args.self.now.each.items = search rules in
    let below = c.loop-i-test.true in let end = c.len-i-end.ensures in let same = c.loop-i.invariant.count in let few = c.loop-i.invariant.held.few in
    let require = found q.model.now.requirements.items i r c.index-r.ensures (omega (arith, below, end, same, few, count)) in
    let there = found w.each.items i s c.index_mut.ensures.value (omega (arith, below, end, same, count)) in
    let after : Witnesses = record { each = with_item w.each i c.bring.new.self; kept = w.kept; ends = w.ends } in
    record {
      count = length-set w.each.items i c.bring.new.self ∙ c.loop-i.invariant.count;
      held = held_after q c.requires.posed w b c.requires.part c.loop-i.invariant.held i s r there require c.bring.new.self after refl refl refl
          c.bring.ensures.machine
          c.bring.ensures.cells c.bring.ensures.held c.bring.ensures.inside;
      inside = inside_after q c.requires.posed w b c.requires.part c.loop-i.invariant.held i s r there require c.bring.new.self after refl refl refl
          c.bring.ensures.machine c.bring.ensures.cells c.bring.ensures.held c.bring.ensures.inside c.loop-i.invariant.inside;
    }

pub returns : goal.returns
returns c =
    let count : vec_len c.args.self.now.each ≡ length c.args.self.now.each.items = search rules in
    let past = c.loop-i-test.false in let end = c.len-i-end.ensures in let same = c.loop-i.invariant.count in
    all_inside c.args.problem.now c.loop-i.self c.args.cells.now.present c.loop-i.i c.loop-i.invariant.held c.loop-i.invariant.inside
    (omega (arith, past, end, same, count))

use Rattle.std.proofs.Common.{◌≡◌, ◌+◌, ◌-◌, ◌∙◌, [], ap, get_or, refl, subst, arith}
use Rattle.std.proofs.lemmas.List.{length-set}
use Rattle.ts_search.specs.Shown.{IsEnds}
use Rattle.ts_search.proofs.Marks.{all_ends, ends_next}
use Rattle.ts_search.proofs.marked.note_ends.Goals as goal

pub loop-k-preserved : goal.loop-k-preserved
loop-k-preserved c =
    let b = c.args.cells.now.present in
    let k = c.loop-k.k in
    let at : k + 1 - 1 ≡ k = omega arith in
    let is : IsEnds c.cell.result.now c.ends.result = record { low = c.ends.ensures.low; all = c.ends.ensures.all } in
    record {
      count = length-set c.loop-k.ends.items k c.ends.result ∙ c.loop-k.invariant.count;
      ends = ends_next b c.loop-k.ends.items _ k c.ends.result c.loop-k.invariant.ends refl
          (subst (λ d. IsEnds d c.ends.result) (c.cell.ensures ∙ ap (λ z. get_or b z []) at) is);
    }

pub returns-clause-ends : goal.returns-clause-ends
returns-clause-ends c =
    let long = c.loop-k.invariant.count in let count = c.cells-k-end.ensures.count in let end = c.loop-k-test.false in
    all_ends c.args.cells.now.present c.loop-k.ends.items c.loop-k.k c.loop-k.invariant.ends (omega (arith, long, count, end))

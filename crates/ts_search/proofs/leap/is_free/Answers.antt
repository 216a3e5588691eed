use Rattle.std.proofs.Common.{rules, subst, sym}
use Rattle.std.proofs.lemmas.Int.{to_z-of_z}
use mir.Syntax.{w64}
use Rattle.ts_filter.specs.Boxes.{only}
use Rattle.ts_filter.specs.RefutedWorseDrop.{IsRefuted}
use Rattle.ts_search.specs.Views.{search_of}
use Rattle.ts_search.proofs.CodeLeaps.{none_at_all}
use Rattle.ts_search.proofs.leap.is_free.Goals as goal

pub returns-clause-free : goal.returns-clause-free
returns-clause-free c = λ t j r.
    let s = search_of c.args.problem.now in let b = c.args.cells.now.present in
    none_at_all s b c.args.k _ c.loop-j.j c.requirements-j-end.result c.loop-j-test.false c.requirements-j-end.ensures.count c.loop-j.invariant.none j
    (subst (λ z. IsRefuted s.model.requirements s.spans j c.args.k (only c.args.k z b)) (sym (to_z-of_z w64 c.args.v (search rules))) r)

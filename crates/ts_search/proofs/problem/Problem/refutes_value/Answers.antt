use Rattle.std.proofs.Common.{rules, ◌≡◌, ◌↔◌, ◌∙◌, ap, arith, slice_get, subst}
use Rattle.std.proofs.lemmas.Int.{to_z-of_z}
use Rattle.std.proofs.lemmas.Result.{IfOk-weaker}
use Rattle.std.specs.Prelude.{IsTrue}
use mir.Syntax.{w64}
use Rattle.ts_bound.specs.TermSpans.{term_span}
use Rattle.ts_filter.specs.Boxes.{only}
use Rattle.ts_filter.specs.Excluded.{Refutes}
use Rattle.ts_filter.specs.OfTerm.{OfTerm}
use Rattle.ts_filter.proofs.SoundLaws.{clash}
use Rattle.ts_search.specs.LineOf.{is_refuted_at}
use Rattle.ts_search.specs.Views.{search_of}
use Rattle.ts_search.proofs.CodeLeaps.{value_told}
use Rattle.ts_search.proofs.Posed.{busy, looks_of, required_is, required_there, tables_long, told_in}
use Rattle.ts_search.proofs.problem.Problem.refutes_value.Goals.{else-is_plain-via-then-is_plain+else-k-cells, else-is_plain-via-else-is_plain}
use Rattle.ts_search.proofs.problem.Problem.refutes_value.Goals as goal

pub refuted_value-requires-clause-on : goal.refuted_value-requires-clause-on
refuted_value-requires-clause-on c = c.requires.asked.on (busy c.args.self.now c.args.j c.requires.from c.requires.to)

pub refuted_value-requires-clause-looks : goal.refuted_value-requires-clause-looks
refuted_value-requires-clause-looks c =
    let q = c.args.self.now in
    looks_of q c.requires.asked.posed c.args.cells.now.present c.requires.asked.part c.args.tables.now.machines c.index-require.result.now.term
    c.requires.asked.tables

pub returns-clause-answered : goal.returns-clause-answered
returns-clause-answered c =
    let q = c.args.self.now in let b = c.args.cells.now.present in let r = c.index-require.result.now in
    let at = only c.args.k c.args.v b in
    let is = required_is q c.requires.asked.posed c.args.j r c.requires.from c.requires.to c.index-require.ensures in
    IfOk-weaker c.refuted_value.result _ (λ told. told ≡ is_refuted_at (search_of q) c.args.j c.args.k at)
    (λ told g. told_in q c.args.tables.now.machines r.term (λ a. IsTrue told ↔ Refutes r.op r.bound (term_span a c.args.k at))
    (told ≡ is_refuted_at (search_of q) c.args.j c.args.k at) c.requires.asked.tables
    (tables_long q c.requires.asked.posed c.args.tables.now.machines r.term c.requires.asked.tables (required_there q c.requires.asked.posed c.args.j r is))
    (subst (λ z. OfTerm c.args.tables.now.machines r.term (λ a. IsTrue told ↔ Refutes r.op r.bound (term_span a c.args.k (only c.args.k z b))))
    (to_z-of_z w64 c.args.v (search rules)) g)
    (λ a there h. value_told q b c.args.j r a c.requires.from is there c.args.k c.args.v c.requires.cell told
    (λ none. elim c.else-is_plain.branch [
      | else-is_plain-via-then-is_plain+else-k-cells w ↦
          let to = c.requires.cell.1 in let count = w.cells.ensures.count in let above = w.if-k-cells.false in omega (arith, to, count, above)
      | else-is_plain-via-else-is_plain w ↦
          absurd (clash c.is_plain.result ((c.is_plain.ensures a (ap (λ l. slice_get l r.term) c.requires.asked.tables ∙ there)).1 none) w.if-is_plain.false)
    ]) h))
    c.refuted_value.ensures.answered

use Rattle.std.proofs.Common.{◌<◌, ◌≤◌, ◌∙◌, length, slice_get, subst, sym, arith}
use Rattle.ts_bound.specs.TermSpans.{LooksIn}
use Rattle.ts_filter.specs.Drops.{IsFirstOf}
use Rattle.ts_filter.specs.KeptCells.{IsKeptIfKnown, Tells}
use Rattle.ts_filter.specs.OfTerm.{OfTerm}
use Rattle.ts_filter.specs.Tables.{Tables}
use Rattle.ts_filter.specs.TermDrops.{IsDropUpTo}
use Rattle.ts_filter.proofs.DropLaws.{first_of_all}
use Rattle.ts_filter.proofs.SparedLaws.{kept_of, told_of_each}
use Rattle.ts_filter.proofs.TermsAsked.{drops_more, looks_of, machines_long}
use Rattle.ts_filter.proofs.all_tables.AllTables.first_by_terms.Goals as goal

pub first_drop-requires-clause-looks : goal.first_drop-requires-clause-looks
first_drop-requires-clause-looks g c =
    let b = c.args.cells.now.present in
    subst (λ (t : Tables). OfTerm t.machines c.loop-term.term (λ a. LooksIn a b)) (sym c.loop-term.invariant.same)
    (looks_of b c.args.self.now.machines c.loop-term.term c.requires.looks)

pub first_drop-requires-clause-kept : goal.first_drop-requires-clause-kept
first_drop-requires-clause-kept g c =
    let rs = c.args.requirements.now in let b = c.args.cells.now.present in let term = c.loop-term.term in let kept = c.args.kept.now in
    subst (λ o. OfTerm c.loop-term.self.machines term (λ a. IsKeptIfKnown rs term a b o)) (sym c.of_term-known.ensures)
    (subst (λ (t : Tables). OfTerm t.machines term (λ a. IsKeptIfKnown rs term a b (slice_get kept term))) (sym c.loop-term.invariant.same)
    (kept_of rs c.args.self.now.machines b kept c.requires.kept term c.requires.looks))

pub loop-term-preserved : goal.loop-term-preserved
loop-term-preserved g c =
    let rs = c.args.requirements.now in let all = c.args.self.now.machines in let b = c.args.cells.now.present in let term = c.loop-term.term in
    let long = machines_long c.self.inside.each.items c.self.view_is in
    let below : term < length all = omega (arith, long, c.loop-term-test.true, c.len-term-end.ensures) in
    record {
      same = c.first_drop.ensures.same ∙ c.loop-term.invariant.same;
      first = drops_more rs all b term c.last_asked-last.result c.loop-term.first c.in_ok-found.found c.earlier-first.result below
          c.requires.looks c.last_asked-last.ensures c.loop-term.invariant.first
          (subst (λ (t : Tables). OfTerm t.machines term (λ a. IsFirstOf (IsDropUpTo rs term a b c.last_asked-last.result) c.in_ok-found.found))
          c.loop-term.invariant.same c.in_ok-found.ensures.found)
          c.earlier-first.ensures;
    }

pub returns-clause-found : goal.returns-clause-found
returns-clause-found g c =
    let all = c.args.self.now.machines in
    let long = machines_long c.self.inside.each.items c.self.view_is in
    let end : length all ≤ c.loop-term.term = omega (arith, long, c.loop-term-test.false, c.len-term-end.ensures) in
    first_of_all c.args.requirements.now all c.args.cells.now.present c.loop-term.term _ c.loop-term.first c.requires.terms end
    c.loop-term.invariant.first

pub first_drop-requires-clause-spares : goal.first_drop-requires-clause-spares
first_drop-requires-clause-spares g c =
    let rs = c.args.requirements.now in let b = c.args.cells.now.present in let term = c.loop-term.term in
    subst (λ (t : Tables). OfTerm t.machines term (λ a. Tells g.S.Spares.knows rs term a b c.args.spares.now)) (sym c.loop-term.invariant.same)
    (told_of_each g.S.Spares.knows rs c.args.self.now.machines b c.args.spares.now c.requires.spares term c.requires.looks)

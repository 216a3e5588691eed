use Rattle.std.proofs.Common.{rules, ◌≡◌, ◌-◌, ◌∙◌, ap, subst, sym, arith, w64}
use Rattle.std.proofs.lemmas.Int.{ints, to_z-of_z}
use Rattle.ts_bound.specs.Looks.{first_looked, last_looked, place_in}
use Rattle.ts_bound.specs.TermSpans.{automata_of}
use Rattle.ts_bound.proofs.Looking.{looked_by, place_bounds, place_inside}
use Rattle.ts_glue.specs.Machines.{window_of}
use Rattle.ts_witness.specs.Laws.{IsKept}
use Rattle.ts_witness.specs.Witnesses.{series_of}
use Rattle.ts_search.proofs.shown.Shown.tell.Goals as goal

pub returns-clause-looked : goal.returns-clause-looked
returns-clause-looked c = λ t.
    let w = window_of c.args.self.now.machine.now in
    let is_first = c.ends-first.ensures.first ∙ ap first_looked c.window.ensures in
    let is_last = c.ends-first.ensures.last ∙ ap (λ z. last_looked z c.args.n) c.window.ensures in
    let from = c.if-k-first.false in let to = c.if-last-k.false in
    looked_by w c.args.n c.args.k (omega (arith, is_first, from)) (omega (arith, is_last, to))

pub keeps_from-free-requires-clause-from : goal.keeps_from-free-requires-clause-from
keeps_from-free-requires-clause-from c =
    let is_first = c.ends-first.ensures.first ∙ ap first_looked c.window.ensures in
    let from = c.if-k-first.false in
    omega (arith, is_first, from)

pub keeps_from-free-requires-clause-to : goal.keeps_from-free-requires-clause-to
keeps_from-free-requires-clause-to c =
    let w = window_of c.args.self.now.machine.now in
    let is_first = c.ends-first.ensures.first ∙ ap first_looked c.window.ensures in
    let is_last = c.ends-first.ensures.last ∙ ap (λ z. last_looked z c.args.n) c.window.ensures in
    let from = c.if-k-first.false in let to = c.if-last-k.false in
    let place : c.args.k - (c.ends-first.result.0 - 1) ≡ place_in w c.args.k = ap (λ z. c.args.k - (z - 1)) is_first
    ∙ sym (place_inside w c.args.k (looked_by w c.args.n c.args.k (omega (arith, is_first, from)) (omega (arith, is_last, to)))) in
    let bounds = (place_bounds w c.args.n c.args.k c.requires.looks c.requires.from c.requires.to).1 in
    let count = c.requires.count in omega (arith, place, bounds, count)

pub returns-clause-kept : goal.returns-clause-kept
returns-clause-kept c = λ t x low high.
    let v_is = to_z-of_z w64 c.args.v c.ranges.v in
    let to_is = to_z-of_z w64 c.keeps_from-free.result.1 (search rules) in
    let w = window_of c.args.self.now.machine.now in
    let is_first = c.ends-first.ensures.first ∙ ap first_looked c.window.ensures in
    let is_last = c.ends-first.ensures.last ∙ ap (λ z. last_looked z c.args.n) c.window.ensures in
    let from = c.if-k-first.false in let to = c.if-last-k.false in
    let place : c.args.k - (c.ends-first.result.0 - 1) ≡ place_in w c.args.k = ap (λ z. c.args.k - (z - 1)) is_first
    ∙ sym (place_inside w c.args.k (looked_by w c.args.n c.args.k (omega (arith, is_first, from)) (omega (arith, is_last, to)))) in
    subst (λ p. IsKept (automata_of c.args.self.now.machine.now) c.args.r.now (series_of c.args.self.now.witness) p x) place
    (c.keeps_from-free.ensures.kept t x (omega (arith, ints, low, v_is)) (omega (arith, ints, high, to_is)))

use Rattle.std.proofs.Common.{rules, ◌≡◌, ◌<◌, arith, length, refl, vec_len}
use Rattle.ts_bound.specs.TermSpans.{automata_of}
use Rattle.ts_filter.proofs.SoundLaws.{each_at}
use Rattle.ts_model.specs.declared.model.Require.{Require}
use Rattle.ts_model.specs.Views.{model_parts}
use Rattle.ts_spans.specs.Machines.{automata_in}
use Rattle.ts_search.specs.Views.{search_of}
use Rattle.ts_search.proofs.Narrower.{all_show, as_read, one_fails, one_more_shows, refutes_inside}
use Rattle.ts_search.proofs.Posed.{tables_long}
use Rattle.ts_search.proofs.Witnessed.{found}
use Rattle.ts_search.proofs.inside.refutes_inside.Goals as goal

pub returns-clause-inside : goal.returns-clause-inside
returns-clause-inside c = λ t.
    let q = c.args.problem.now in
    let count : vec_len q.model.now.requirements ≡ length q.model.now.requirements.items = search rules in
    let size = c.len-i-end.ensures in let end = c.loop-i-test.false in
    refutes_inside q
    (λ r i e. tables_long q c.requires.posed (automata_in (model_parts q.model.now)) r.term refl
    (each_at (λ (z : Require). z.term < length (search_of q).model.terms) q.model.now.requirements.items i r c.requires.posed.right.whole.requirements e))
    c.loop-i.i (omega (arith, count, size, end)) c.loop-i.invariant

pub returns-clause-all : goal.returns-clause-all
returns-clause-all c =
    let q = c.args.problem.now in
    let count : vec_len q.model.now.requirements ≡ length q.model.now.requirements.items = search rules in
    let size = c.len-i-end.ensures in let end = c.loop-i-test.false in
    (λ t. all_show (model_parts q.model.now) c.loop-i.i (omega (arith, count, size, end)) c.loop-i.invariant, λ all. refl)

pub returns-then-not-shows_inside-clause-all : goal.returns-then-not-shows_inside-clause-all
returns-then-not-shows_inside-clause-all c =
    let q = c.args.problem.now in let r = c.index-r.result.now in let m = c.index-machines-r.result in
    let count : vec_len q.model.now.requirements ≡ length q.model.now.requirements.items = search rules in
    let below = c.loop-i-test.true in let end = c.len-i-end.ensures in
    let there = found q.model.now.requirements.items c.loop-i.i r c.index-r.ensures (omega (arith, below, end, count)) in
    let tells = as_read (automata_of m) c.forward.result.now c.mark.result r c.shows_inside.result c.forward.ensures c.mark.ensures c.shows_inside.ensures in
    one_fails q c.requires.posed c.args.machines.now c.requires.machines c.loop-i.i r there m c.index-machines-r.is c.shows_inside.result tells
    c.if-not-shows_inside.true

pub loop-i-preserved : goal.loop-i-preserved
loop-i-preserved c =
    let q = c.args.problem.now in let r = c.index-r.result.now in let m = c.index-machines-r.result in
    let count : vec_len q.model.now.requirements ≡ length q.model.now.requirements.items = search rules in
    let below = c.loop-i-test.true in let end = c.len-i-end.ensures in
    let there = found q.model.now.requirements.items c.loop-i.i r c.index-r.ensures (omega (arith, below, end, count)) in
    let tells = as_read (automata_of m) c.forward.result.now c.mark.result r c.shows_inside.result c.forward.ensures c.mark.ensures c.shows_inside.ensures in
    one_more_shows q c.requires.posed c.args.machines.now c.requires.machines c.loop-i.i r there m c.index-machines-r.is c.shows_inside.result tells
    c.if-not-shows_inside.false c.loop-i.invariant

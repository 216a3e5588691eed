use Rattle.std.proofs.Common.{◌+◌, ◌<◌, ℕ, [], get_or, sym, subst, ◌∙◌, arith, rules}
use Rattle.std.proofs.lemmas.List.{length-set}
use Rattle.ts_glue.proofs.Calls.{filled_more}
use Rattle.ts_meet.specs.declared.column.Watched.{Watched}
use Rattle.ts_meet.specs.Peaks.{AreWatched, unwatched}
use Rattle.ts_meet.specs.Settled.{ArePlaces}
use Rattle.ts_meet.proofs.column.watched_in.Goals as goal

pub column-requires : goal.column-requires
column-requires g c =
    let long = c.requires.row.len in let below = c.loop-q-test.true in let end = c.loop-q.auto.q-end in
    (search rules, (search rules, omega (arith, long, below, end)))

pub over-requires : goal.over-requires
over-requires g c =
    let before = c.loop-q-test.true in let end = c.loop-q.auto.q-end in let below : c.loop-q.q < c.args.states = omega (arith, before, end) in
    let places = subst (ArePlaces g.row.N (c.args.from + c.args.count)) (sym c.column.ensures) (c.requires.row.places c.loop-q.q below) in
    (search rules, (c.requires.registers, places))

pub loop-q-preserved : goal.loop-q-preserved
loop-q-preserved g c =
    let n = g.row.N in let a = c.args in
    let long = c.loop-q.invariant.0 in let before = c.loop-q-test.true in let end = c.loop-q.auto.q-end in
    let few = c.requires.few in let made = c.over.result in
    let there : ℕ → Watched → Type 0 = λ q k. AreWatched n k (get_or a.row.now q []) a.from a.count in (
      length-set c.loop-q.all c.loop-q.q made ∙ long,
      filled_more there c.loop-q.all c.loop-q.q made unwatched (omega (arith, long, few, before, end)) c.loop-q.invariant.1
          (subst (λ z. AreWatched n made z a.from a.count) c.column.ensures c.over.ensures),
    )

pub returns : goal.returns
returns g c q below =
    let end = c.loop-q.auto.q-end in let after = c.loop-q-test.false in
    c.loop-q.invariant.1 q (omega (arith, below, end, after))

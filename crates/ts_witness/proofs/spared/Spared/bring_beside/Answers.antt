use Rattle.std.proofs.Common.{◌<◌, ◌-◌, ◌∙◌, ap, refl, sym, subst, length, arith}
use Rattle.ts_witness.specs.declared.spared.Known.{Known}
use Rattle.ts_witness.specs.Witnesses.{AreSides, series_of}
use Rattle.ts_witness.proofs.KnownValues.{beside_cleared, cleared, entry_is, entry_there, put_spared, seen_beside}
use Rattle.ts_witness.proofs.spared.Spared.bring_beside.Goals as goal

-- the series is as it was when the place was last seen
pub returns-then-self-lt18446744073709551615-clause-here : goal.returns-then-self-lt18446744073709551615-clause-here
returns-then-self-lt18446744073709551615-clause-here c =
    let xs = c.args.self.now.each.items in
    let i = c.args.k - 1 in
    let count = c.requires.count in let from = c.requires.from in let to = c.requires.to in
    let below : i < length xs = omega (arith, count, from, to) in
    λ e there. c.requires.beside.now i e there
    (ap (λ (z : Known). z.time) (entry_is xs i c.index.result.now e c.index.ensures below there) ∙ c.if-index-self.true)
    c.if-self-lt18446744073709551615.true

-- what is beside the place is the same

pub returns-then-has_beside-clause-spared : goal.returns-then-has_beside-clause-spared
returns-then-has_beside-clause-spared c =
    let xs = c.args.self.now.each.items in
    let i = c.args.k - 1 in
    let count = c.requires.count in let from = c.requires.from in let to = c.requires.to in
    let there = entry_there xs i c.index_mut.result.now c.index_mut.ensures.value (omega (arith, count, from, to)) in
    λ r h. put_spared c.args.m.now r c.args.self.now _ i _ refl refl refl h (h.each i c.index_mut.result.now there)

pub returns-then-has_beside-clause-beside : goal.returns-then-has_beside-clause-beside
returns-then-has_beside-clause-beside c =
    let m = c.args.m.now in
    let y = series_of c.args.witness.now in
    let xs = c.args.self.now.each.items in
    let i = c.args.k - 1 in
    let count = c.requires.count in let from = c.requires.from in let to = c.requires.to in
    let below : i < length xs = omega (arith, count, from, to) in
    let same = entry_is xs i c.index_mut.result.now c.index-2.result.now c.index_mut.ensures.value below
    (entry_there xs i c.index-2.result.now c.index-2.ensures below) in
    seen_beside m y c.args.self.now _ i _ refl refl refl
    (subst (λ (z : Known). AreSides m y i z.sides) same (c.has_beside.ensures.sides c.if-has_beside.true)) c.requires.beside

pub returns-then-has_beside-clause-here : goal.returns-then-has_beside-clause-here
returns-then-has_beside-clause-here c =
    let m = c.args.m.now in
    let y = series_of c.args.witness.now in
    let xs = c.args.self.now.each.items in
    let i = c.args.k - 1 in
    let count = c.requires.count in let from = c.requires.from in let to = c.requires.to in
    let below : i < length xs = omega (arith, count, from, to) in
    let same = entry_is xs i c.index_mut.result.now c.index-2.result.now c.index_mut.ensures.value below
    (entry_there xs i c.index-2.result.now c.index-2.ensures below) in
    λ e there. beside_cleared m y xs i _ e below
    (subst (λ (z : Known). AreSides m y i z.sides) same (c.has_beside.ensures.sides c.if-has_beside.true)) there

-- what is beside the place is another

pub returns-else-has_beside-clause-spared : goal.returns-else-has_beside-clause-spared
returns-else-has_beside-clause-spared c =
    λ r h. cleared c.args.m.now r c.args.self.now _ (c.args.k - 1) c.nothing.result c.nothing.ensures.none refl refl refl h

pub returns-else-has_beside-clause-beside : goal.returns-else-has_beside-clause-beside
returns-else-has_beside-clause-beside c =
    let m = c.args.m.now in
    let y = series_of c.args.witness.now in
    let i = c.args.k - 1 in
    seen_beside m y c.args.self.now _ i c.nothing.result refl refl c.nothing.ensures.time
    (subst (λ z. AreSides m y i z) (sym c.nothing.ensures.sides)
    (subst (λ x. AreSides m x i c.sides.result) c.has_beside.ensures.series c.sides.ensures.sides)) c.requires.beside

pub returns-else-has_beside-clause-here : goal.returns-else-has_beside-clause-here
returns-else-has_beside-clause-here c =
    let m = c.args.m.now in
    let y = series_of c.args.witness.now in
    let i = c.args.k - 1 in
    let count = c.requires.count in let from = c.requires.from in let to = c.requires.to in
    λ e there. beside_cleared m y c.args.self.now.each.items i c.nothing.result e (omega (arith, count, from, to))
    (subst (λ z. AreSides m y i z) (sym c.nothing.ensures.sides)
    (subst (λ x. AreSides m x i c.sides.result) c.has_beside.ensures.series c.sides.ensures.sides)) there

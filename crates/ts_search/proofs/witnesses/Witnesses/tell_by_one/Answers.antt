use Rattle.std.proofs.Common.{rules, ◌≡◌, ◌∙◌, length, vec_len, ap, subst, sym, arith, w64}
use Rattle.std.proofs.lemmas.Int.{ints, to_z-of_z}
use Rattle.std.proofs.lemmas.Option.{same_Some}
use Rattle.ts_base.specs.Limits.{IsCellValue}
use Rattle.ts_model.specs.declared.model.Require.{Require}
use Rattle.ts_search.proofs.FreeValues.{known_count, known_domains, known_few, known_held, known_kept, known_looks, known_value}
use Rattle.ts_search.proofs.Witnessed.{found}
use Rattle.ts_search.proofs.witnesses.Witnesses.tell_by_one.Goals as goal

pub tell-requires-clause-held : goal.tell-requires-clause-held
tell-requires-clause-held c =
    let rs = c.args.requirements.now in let b = c.args.cells.now.present in let w = c.args.self.now in let i = c.args.i in
    let count : vec_len w.each ≡ length w.each.items = search rules in
    let below = c.if-i-len.false in let size = c.len.ensures in
    let there = found w.each.items i c.index.result.now c.index.ensures (omega (arith, below, size, count)) in
    known_held rs c.requires.knows.0 b w c.requires.knows.1 i c.index.result.now c.args.r.now there c.requires.is

pub tell-requires-clause-looks : goal.tell-requires-clause-looks
tell-requires-clause-looks c =
    let rs = c.args.requirements.now in let b = c.args.cells.now.present in let w = c.args.self.now in let i = c.args.i in
    let count : vec_len w.each ≡ length w.each.items = search rules in
    let below = c.if-i-len.false in let size = c.len.ensures in
    let there = found w.each.items i c.index.result.now c.index.ensures (omega (arith, below, size, count)) in
    known_looks rs c.requires.knows.0 b w c.requires.knows.1 i c.index.result.now c.args.r.now there c.requires.is c.cells.result c.cells.ensures.count

pub tell-requires-clause-few : goal.tell-requires-clause-few
tell-requires-clause-few c =
    let rs = c.args.requirements.now in let b = c.args.cells.now.present in let w = c.args.self.now in let i = c.args.i in
    let count : vec_len w.each ≡ length w.each.items = search rules in
    let below = c.if-i-len.false in let size = c.len.ensures in
    let there = found w.each.items i c.index.result.now c.index.ensures (omega (arith, below, size, count)) in
    known_few rs c.requires.knows.0 b w c.requires.knows.1 i c.index.result.now c.args.r.now there c.requires.is

pub tell-requires-clause-count : goal.tell-requires-clause-count
tell-requires-clause-count c =
    let rs = c.args.requirements.now in let b = c.args.cells.now.present in let w = c.args.self.now in let i = c.args.i in
    let count : vec_len w.each ≡ length w.each.items = search rules in
    let below = c.if-i-len.false in let size = c.len.ensures in
    let there = found w.each.items i c.index.result.now c.index.ensures (omega (arith, below, size, count)) in
    known_count rs c.requires.knows.0 b w c.requires.knows.1 i c.index.result.now c.args.r.now there c.requires.is c.cells.result c.cells.ensures.count

pub tell-requires-clause-domains : goal.tell-requires-clause-domains
tell-requires-clause-domains c =
    let rs = c.args.requirements.now in let b = c.args.cells.now.present in let w = c.args.self.now in let i = c.args.i in
    let count : vec_len w.each ≡ length w.each.items = search rules in
    let below = c.if-i-len.false in let size = c.len.ensures in
    let there = found w.each.items i c.index.result.now c.index.ensures (omega (arith, below, size, count)) in
    known_domains rs c.requires.knows.0 b w c.requires.knows.1 i c.index.result.now c.args.r.now there c.requires.is

pub tell-requires-clause-value : goal.tell-requires-clause-value
tell-requires-clause-value c =
    subst IsCellValue (sym (to_z-of_z w64 c.args.v c.ranges.v))
    (known_value c.args.requirements.now c.requires.knows.0 c.args.cells.now.present c.args.self.now c.requires.knows.1 c.args.k c.args.v
    c.requires.cell c.requires.value)

pub returns-then-r-term-clause-free : goal.returns-then-r-term-clause-free
returns-then-r-term-clause-free c = λ t s u h is on.
    absurd (c.if-r-term.true (ap (λ (z : Require). z.term) (same_Some c.args.r.now u (sym c.requires.is ∙ is)) ∙ on))

pub returns-clause-free : goal.returns-clause-free
returns-clause-free c = λ t s u h is on x from to drop.
    let rs = c.args.requirements.now in let b = c.args.cells.now.present in let w = c.args.self.now in let i = c.args.i in
    let count : vec_len w.each ≡ length w.each.items = search rules in
    let below = c.if-i-len.false in let size = c.len.ensures in
    let there = found w.each.items i c.index.result.now c.index.ensures (omega (arith, below, size, count)) in
    let v_is = to_z-of_z w64 c.args.v c.ranges.v in
    known_kept rs s b w h i c.index.result.now c.args.r.now there c.requires.is c.args.k x (c.tell.ensures.looked t)
    (c.tell.ensures.kept t x (omega (arith, ints, from, v_is)) to) drop

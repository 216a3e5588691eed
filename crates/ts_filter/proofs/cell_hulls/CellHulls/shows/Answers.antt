use Rattle.std.proofs.Common.{◌≡◌, ◌↔◌, ℤ, Bool, true, false, not, subst, Contains, IsTrue, w64}
use Rattle.std.proofs.lemmas.Int.{to_z-of_z}
use Rattle.ts_bound.specs.TermSpans.{term_span, value_span}
use Rattle.ts_bound.proofs.Reached.{values_within}
use Rattle.ts_filter.specs.PartLaws.{part_excludes}
use Rattle.ts_filter.specs.Question.{Excludes}
use Rattle.ts_filter.proofs.cell_hulls.CellHulls.shows.Goals as goal

never : (told : Bool) → IsTrue (not told) → told ≡ true → ⊥
never true isnt is = absurd (let f : ◌≡◌ false true = isnt in cc)
never false isnt is = absurd (let f : ◌≡◌ false true = is in cc)

pub returns-then-contains : goal.returns-then-contains
returns-then-contains c = λ isnt excluded.
    let t = c.args.self.now in let v = c.args.v in let is = to_z-of_z w64 v c.ranges.v in
    let there : Contains c.values.result.now v = subst (Contains c.values.result.now) is (c.contains.ensures.0 c.if-contains.true) in
    let told = subst (λ (w : ℤ). (c.value_excludes.result ≡ true) ↔ Excludes c.args.asked (value_span t.machine t.cell t.cells w)) is
    c.value_excludes.ensures in
    never c.value_excludes.result isnt
    (told.1 (part_excludes c.args.asked (value_span t.machine t.cell t.cells v) (term_span t.machine t.cell t.cells)
    (values_within t.machine t.cells c.values.ensures.there.looks t.cell v (subst (λ l. Contains l v) c.values.ensures.values there)) excluded))

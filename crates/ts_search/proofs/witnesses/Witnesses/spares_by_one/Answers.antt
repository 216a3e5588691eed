use Rattle.std.proofs.Common.{rules, ◌≡◌, ◌≤ℤ◌, refl, sym, subst, length, vec_len, arith, w64, to_z, of_z}
use Rattle.std.specs.Prelude.{Contains}
use Rattle.std.specs.Vec.{with_item}
use Rattle.std.proofs.lemmas.Int.{to_z-of_z}
use Rattle.std.proofs.lemmas.Option.{slice_get_within}
use Rattle.ts_filter.specs.Boxes.{values_at}
use Rattle.ts_search.specs.declared.witnesses.Witnesses.{Witnesses}
use Rattle.ts_search.proofs.Marks.{met_after, met_there, none_of_other, shown_after, spared_there, spares_count, spares_few, spares_from, spares_split, spares_to, value_known}
use Rattle.ts_search.proofs.Witnessed.{found}
use Rattle.ts_search.proofs.witnesses.Witnesses.spares_by_one.Goals as goal

pub index_mut-requires : goal.index_mut-requires
index_mut-requires c =
    let q = c.args.problem.now in let w = c.args.self.now in let b = c.args.cells.now.present in
    let r = c.index-r.result.now in
    let is = found q.model.now.requirements.items c.args.i r c.index-r.ensures c.requires.place in
    let s = met_there q c.requires.posed w b c.requires.part c.requires.shown c.args.at.term c.args.i r c.requires.met is c.if-r-at.false in
    let count : vec_len w.each ≡ length w.each.items = search rules in
    let below = slice_get_within w.each.items c.args.i s.0 s.1 in omega (arith, below, count)

pub spares_up_to-requires-clause-split : goal.spares_up_to-requires-clause-split
spares_up_to-requires-clause-split c =
    let q = c.args.problem.now in let w = c.args.self.now in let b = c.args.cells.now.present in
    let r = c.index-r.result.now in
    let is = found q.model.now.requirements.items c.args.i r c.index-r.ensures c.requires.place in
    let some = met_there q c.requires.posed w b c.requires.part c.requires.shown c.args.at.term c.args.i r c.requires.met is c.if-r-at.false in
    let s = c.index_mut.result.now in
    let there = found w.each.items c.args.i s c.index_mut.ensures.value (slice_get_within w.each.items c.args.i some.0 some.1) in
    spares_split q c.requires.posed w b c.requires.part c.requires.shown c.args.i s r there is c.args.at c.if-r-at.false c.requires.spare c.requires.cell

pub spares_up_to-requires-clause-held : goal.spares_up_to-requires-clause-held
spares_up_to-requires-clause-held c =
    let q = c.args.problem.now in let w = c.args.self.now in let b = c.args.cells.now.present in
    let r = c.index-r.result.now in
    let is = found q.model.now.requirements.items c.args.i r c.index-r.ensures c.requires.place in
    let some = met_there q c.requires.posed w b c.requires.part c.requires.shown c.args.at.term c.args.i r c.requires.met is c.if-r-at.false in
    let s = c.index_mut.result.now in
    let there = found w.each.items c.args.i s c.index_mut.ensures.value (slice_get_within w.each.items c.args.i some.0 some.1) in
    c.requires.shown.held.each c.args.i s r there is

pub spares_up_to-requires-clause-few : goal.spares_up_to-requires-clause-few
spares_up_to-requires-clause-few c =
    let q = c.args.problem.now in let w = c.args.self.now in let b = c.args.cells.now.present in
    let r = c.index-r.result.now in
    let is = found q.model.now.requirements.items c.args.i r c.index-r.ensures c.requires.place in
    let some = met_there q c.requires.posed w b c.requires.part c.requires.shown c.args.at.term c.args.i r c.requires.met is c.if-r-at.false in
    let s = c.index_mut.result.now in
    let there = found w.each.items c.args.i s c.index_mut.ensures.value (slice_get_within w.each.items c.args.i some.0 some.1) in
    spares_few q c.requires.posed w b c.requires.part c.requires.shown c.args.i s r there is c.args.at c.if-r-at.false c.requires.spare c.requires.cell

pub spares_up_to-requires-clause-count : goal.spares_up_to-requires-clause-count
spares_up_to-requires-clause-count c =
    let q = c.args.problem.now in let w = c.args.self.now in let b = c.args.cells.now.present in
    let r = c.index-r.result.now in
    let is = found q.model.now.requirements.items c.args.i r c.index-r.ensures c.requires.place in
    let some = met_there q c.requires.posed w b c.requires.part c.requires.shown c.args.at.term c.args.i r c.requires.met is c.if-r-at.false in
    let s = c.index_mut.result.now in
    let there = found w.each.items c.args.i s c.index_mut.ensures.value (slice_get_within w.each.items c.args.i some.0 some.1) in
    spares_count q c.requires.posed w b c.requires.part c.requires.shown c.args.i s r there is c.args.at c.if-r-at.false c.requires.spare c.requires.cell

pub spares_up_to-requires-clause-from : goal.spares_up_to-requires-clause-from
spares_up_to-requires-clause-from c =
    let q = c.args.problem.now in let w = c.args.self.now in let b = c.args.cells.now.present in
    let r = c.index-r.result.now in
    let is = found q.model.now.requirements.items c.args.i r c.index-r.ensures c.requires.place in
    let some = met_there q c.requires.posed w b c.requires.part c.requires.shown c.args.at.term c.args.i r c.requires.met is c.if-r-at.false in
    let s = c.index_mut.result.now in
    let there = found w.each.items c.args.i s c.index_mut.ensures.value (slice_get_within w.each.items c.args.i some.0 some.1) in
    spares_from q c.requires.posed w b c.requires.part c.requires.shown c.args.i s r there is c.args.at c.if-r-at.false c.requires.spare c.requires.cell

pub spares_up_to-requires-clause-to : goal.spares_up_to-requires-clause-to
spares_up_to-requires-clause-to c =
    let q = c.args.problem.now in let w = c.args.self.now in let b = c.args.cells.now.present in
    let r = c.index-r.result.now in
    let is = found q.model.now.requirements.items c.args.i r c.index-r.ensures c.requires.place in
    let some = met_there q c.requires.posed w b c.requires.part c.requires.shown c.args.at.term c.args.i r c.requires.met is c.if-r-at.false in
    let s = c.index_mut.result.now in
    let there = found w.each.items c.args.i s c.index_mut.ensures.value (slice_get_within w.each.items c.args.i some.0 some.1) in
    spares_to q c.requires.posed w b c.requires.part c.requires.shown c.args.i s r there is c.args.at c.if-r-at.false c.requires.spare c.requires.cell

-- `low` is a value of the cell, so one of the model's
pub spares_up_to-requires-clause-there : goal.spares_up_to-requires-clause-there
spares_up_to-requires-clause-there c =
    let q = c.args.problem.now in let w = c.args.self.now in let b = c.args.cells.now.present in
    let r = c.index-r.result.now in
    let is = found q.model.now.requirements.items c.args.i r c.index-r.ensures c.requires.place in
    let some = met_there q c.requires.posed w b c.requires.part c.requires.shown c.args.at.term c.args.i r c.requires.met is c.if-r-at.false in
    let s = c.index_mut.result.now in
    let there = found w.each.items c.args.i s c.index_mut.ensures.value (slice_get_within w.each.items c.args.i some.0 some.1) in
    value_known q c.requires.posed w b c.requires.part c.requires.shown c.args.i s r there is c.args.at c.if-r-at.false c.requires.spare c.requires.cell
    (to_z w64 (of_z w64 c.args.values.low))
    (subst (Contains (values_at c.args.at.cell b)) (sym (to_z-of_z w64 c.args.values.low (search rules))) c.requires.ends.low)

pub returns-clause-shown : goal.returns-clause-shown
returns-clause-shown c =
    let q = c.args.problem.now in let w = c.args.self.now in let b = c.args.cells.now.present in
    let r = c.index-r.result.now in
    let is = found q.model.now.requirements.items c.args.i r c.index-r.ensures c.requires.place in
    let some = met_there q c.requires.posed w b c.requires.part c.requires.shown c.args.at.term c.args.i r c.requires.met is c.if-r-at.false in
    let s = c.index_mut.result.now in
    let there = found w.each.items c.args.i s c.index_mut.ensures.value (slice_get_within w.each.items c.args.i some.0 some.1) in
    shown_after q c.requires.posed w b c.requires.part c.requires.shown c.args.i s r there is c.args.at c.if-r-at.false c.requires.spare c.requires.cell
    c.spares_up_to.new.self _ refl refl refl c.spares_up_to.ensures.machine c.spares_up_to.ensures.cells c.spares_up_to.ensures.held
    c.spares_up_to.ensures.series c.spares_up_to.ensures.met

pub returns-clause-met : goal.returns-clause-met
returns-clause-met c =
    let q = c.args.problem.now in let w = c.args.self.now in let b = c.args.cells.now.present in
    let r = c.index-r.result.now in
    let is = found q.model.now.requirements.items c.args.i r c.index-r.ensures c.requires.place in
    let some = met_there q c.requires.posed w b c.requires.part c.requires.shown c.args.at.term c.args.i r c.requires.met is c.if-r-at.false in
    let s = c.index_mut.result.now in
    let there = found w.each.items c.args.i s c.index_mut.ensures.value (slice_get_within w.each.items c.args.i some.0 some.1) in
    let after : Witnesses = record { each = with_item w.each c.args.i c.spares_up_to.new.self; kept = w.kept; ends = w.ends } in
    met_after q c.requires.posed w b c.requires.part c.requires.shown c.args.i s r there is c.args.at c.if-r-at.false c.requires.spare c.requires.cell
    c.spares_up_to.new.self after refl refl refl c.spares_up_to.ensures.machine c.spares_up_to.ensures.cells c.spares_up_to.ensures.held
    c.spares_up_to.ensures.series c.spares_up_to.ensures.met
    c.args.at.term c.requires.met

pub returns-clause-spared : goal.returns-clause-spared
returns-clause-spared c =
    let q = c.args.problem.now in let w = c.args.self.now in let b = c.args.cells.now.present in
    let r = c.index-r.result.now in
    let is = found q.model.now.requirements.items c.args.i r c.index-r.ensures c.requires.place in
    let some = met_there q c.requires.posed w b c.requires.part c.requires.shown c.args.at.term c.args.i r c.requires.met is c.if-r-at.false in
    let s = c.index_mut.result.now in
    let there = found w.each.items c.args.i s c.index_mut.ensures.value (slice_get_within w.each.items c.args.i some.0 some.1) in
    λ u require on v up.
    spared_there q c.requires.posed w b c.requires.part c.requires.shown c.args.i s r there is c.args.at c.if-r-at.false c.requires.spare c.requires.cell
    c.args.values.low c.spares_up_to.result (λ v has. (c.requires.ends.all v has).0)
    (λ v has low up. c.spares_up_to.ensures.kept v has (subst (λ z. z ≤ℤ v) (sym (to_z-of_z w64 c.args.values.low (search rules))) low) up) v
    (subst (λ z. v ≤ℤ z) (to_z-of_z w64 c.spares_up_to.result (search rules)) up)

-- a requirement of another term

pub returns-then-r-at-clause-spared : goal.returns-then-r-at-clause-spared
returns-then-r-at-clause-spared c =
    let q = c.args.problem.now in
    let is = found q.model.now.requirements.items c.args.i c.index-r.result.now c.index-r.ensures c.requires.place in
    λ u require on v up drop. none_of_other q c.args.at.term c.args.i c.index-r.result.now u is c.if-r-at.true require on

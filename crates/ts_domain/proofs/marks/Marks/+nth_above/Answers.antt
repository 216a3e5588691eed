use Rattle.std.proofs.Common.{sym, ap, ◌∙◌, subst, arith}
use Rattle.ts_domain.specs.MarkTree.{marks_of, RootFits}
use Rattle.ts_domain.specs.Pieces.{values_in}
use Rattle.ts_domain.specs.Values.{values_of}
use Rattle.ts_domain.proofs.MarkPlaces.{empty_place, standing, mark_over, count_fits, first_side, second_side, found_before, found_here}
use Rattle.ts_domain.proofs.MarkPlaces.{found_past_gone, found_past}
use Rattle.ts_domain.proofs.MarkedSets.{base_rises, base_few}
use Rattle.ts_domain.proofs.marks.Marks.+nth_above.Goals as goal

pub overflow_add-count_up_to : goal.overflow_add-count_up_to
overflow_add-count_up_to t c =
    let all = values_in (values_of c.args.ranges.now.items.items) c.args.piece in
    let p = empty_place c.args.t all c.args.self.now c.count_up_to.result c.args.i c.ranges.t
    (base_rises c.args.ranges.now.items.items c.args.piece c.requires.apart) (base_few c.args.ranges.now.items.items c.args.piece c.requires.apart)
    (ap marks_of (sym c.in-Empty.is) ∙ c.self.view_is) c.count_up_to.ensures c.requires.below in
    let small = p.0 in omega (arith, small)

pub nth_in-requires-clause-below : goal.nth_in-requires-clause-below
nth_in-requires-clause-below t c =
    let all = values_in (values_of c.args.ranges.now.items.items) c.args.piece in
    let p = empty_place c.args.t all c.args.self.now c.count_up_to.result c.args.i c.ranges.t
    (base_rises c.args.ranges.now.items.items c.args.piece c.requires.apart) (base_few c.args.ranges.now.items.items c.args.piece c.requires.apart)
    (ap marks_of (sym c.in-Empty.is) ∙ c.self.view_is) c.count_up_to.ensures c.requires.below in
    p.1

pub returns-in-Empty : goal.returns-in-Empty
returns-in-Empty t c =
    let all = values_in (values_of c.args.ranges.now.items.items) c.args.piece in
    let p = empty_place c.args.t all c.args.self.now c.count_up_to.result c.args.i c.ranges.t
    (base_rises c.args.ranges.now.items.items c.args.piece c.requires.apart) (base_few c.args.ranges.now.items.items c.args.piece c.requires.apart)
    (ap marks_of (sym c.in-Empty.is) ∙ c.self.view_is) c.count_up_to.ensures c.requires.below in
    p.2 c.nth_in.result (record { sfits = c.nth_in.type_inv }) c.nth_in.ensures

pub count_between-requires-clause-rising : goal.count_between-requires-clause-rising
count_between-requires-clause-rising t c =
    let all = values_in (values_of c.args.ranges.now.items.items) c.args.piece in
    let n = c.in-Full.node.value in
    let s = standing all c.args.t c.args.self.now n (ap marks_of (sym c.in-Full.is) ∙ c.self.view_is) (subst RootFits c.in-Full.is c.self.invariant).0
    (base_rises c.args.ranges.now.items.items c.args.piece c.requires.apart) (base_few c.args.ranges.now.items.items c.args.piece c.requires.apart)
    c.ranges.t c.requires.told c.requires.above in
    mark_over all c.args.t c.args.self.now n s c.deref.result.now c.deref.ensures

pub with_more-before-requires-clause-small : goal.with_more-before-requires-clause-small
with_more-before-requires-clause-small t c =
    let all = values_in (values_of c.args.ranges.now.items.items) c.args.piece in
    let n = c.in-Full.node.value in
    let s = standing all c.args.t c.args.self.now n (ap marks_of (sym c.in-Full.is) ∙ c.self.view_is) (subst RootFits c.in-Full.is c.self.invariant).0
    (base_rises c.args.ranges.now.items.items c.args.piece c.requires.apart) (base_few c.args.ranges.now.items.items c.args.piece c.requires.apart)
    c.ranges.t c.requires.told c.requires.above in
    let f = count_fits all c.args.t c.args.self.now n s c.deref.result.now c.deref-2.result.now c.count_between.result c.more.result c.deref.ensures
    c.deref-2.ensures c.count_between.ensures c.more.ensures in
    f.0

pub with_more-before-requires-clause-from : goal.with_more-before-requires-clause-from
with_more-before-requires-clause-from t c =
    let all = values_in (values_of c.args.ranges.now.items.items) c.args.piece in
    let n = c.in-Full.node.value in
    let s = standing all c.args.t c.args.self.now n (ap marks_of (sym c.in-Full.is) ∙ c.self.view_is) (subst RootFits c.in-Full.is c.self.invariant).0
    (base_rises c.args.ranges.now.items.items c.args.piece c.requires.apart) (base_few c.args.ranges.now.items.items c.args.piece c.requires.apart)
    c.ranges.t c.requires.told c.requires.above in
    let f = count_fits all c.args.t c.args.self.now n s c.deref.result.now c.deref-2.result.now c.count_between.result c.more.result c.deref.ensures
    c.deref-2.ensures c.count_between.ensures c.more.ensures in
    f.1

pub with_more-before-requires-clause-to : goal.with_more-before-requires-clause-to
with_more-before-requires-clause-to t c =
    let all = values_in (values_of c.args.ranges.now.items.items) c.args.piece in
    let n = c.in-Full.node.value in
    let s = standing all c.args.t c.args.self.now n (ap marks_of (sym c.in-Full.is) ∙ c.self.view_is) (subst RootFits c.in-Full.is c.self.invariant).0
    (base_rises c.args.ranges.now.items.items c.args.piece c.requires.apart) (base_few c.args.ranges.now.items.items c.args.piece c.requires.apart)
    c.ranges.t c.requires.told c.requires.above in
    let f = count_fits all c.args.t c.args.self.now n s c.deref.result.now c.deref-2.result.now c.count_between.result c.more.result c.deref.ensures
    c.deref-2.ensures c.count_between.ensures c.more.ensures in
    f.2

pub nth_above-requires : goal.nth_above-requires
nth_above-requires t c =
    let all = values_in (values_of c.args.ranges.now.items.items) c.args.piece in
    let n = c.in-Full.node.value in
    let s = standing all c.args.t c.args.self.now n (ap marks_of (sym c.in-Full.is) ∙ c.self.view_is) (subst RootFits c.in-Full.is c.self.invariant).0
    (base_rises c.args.ranges.now.items.items c.args.piece c.requires.apart) (base_few c.args.ranges.now.items.items c.args.piece c.requires.apart)
    c.ranges.t c.requires.told c.requires.above in
    let f = count_fits all c.args.t c.args.self.now n s c.deref.result.now c.deref-2.result.now c.count_between.result c.more.result c.deref.ensures
    c.deref-2.ensures c.count_between.ensures c.more.ensures in
    let k = c.with_more-before.result in
    let is = f.3 k c.with_more-before.ensures in
    let side = first_side all c.args.t c.args.self.now n s c.deref-then-i-before.result.now c.deref-then-i-before.ensures in
    let found = found_before all c.args.t c.args.self.now n s c.deref-then-i-before.result.now k c.args.i c.deref-then-i-before.ensures is c.if-i-before.true in
    let smaller = side.0 in
    (omega (arith, c.decreases, smaller), (c.requires.apart, (c.requires.piece, (side.1, (side.2, found.0)))))

pub nth_above-requires-then-deref : goal.nth_above-requires-then-deref
nth_above-requires-then-deref t c =
    let all = values_in (values_of c.args.ranges.now.items.items) c.args.piece in
    let n = c.in-Full.node.value in
    let s = standing all c.args.t c.args.self.now n (ap marks_of (sym c.in-Full.is) ∙ c.self.view_is) (subst RootFits c.in-Full.is c.self.invariant).0
    (base_rises c.args.ranges.now.items.items c.args.piece c.requires.apart) (base_few c.args.ranges.now.items.items c.args.piece c.requires.apart)
    c.ranges.t c.requires.told c.requires.above in
    let f = count_fits all c.args.t c.args.self.now n s c.deref.result.now c.deref-2.result.now c.count_between.result c.more.result c.deref.ensures
    c.deref-2.ensures c.count_between.ensures c.more.ensures in
    let k = c.with_more-before.result in
    let is = f.3 k c.with_more-before.ensures in
    let side = second_side all c.args.t c.args.self.now n s c.deref.result.now c.deref-then-deref.result.now c.deref.ensures c.deref-then-deref.ensures in
    let found = found_past_gone all c.args.t c.args.self.now n s c.deref.result.now c.deref-else-i-before.result.now c.deref-then-deref.result.now k c.args.i
    c.deref.ensures c.deref-else-i-before.ensures c.deref-then-deref.ensures is c.if-i-before.false c.if-deref.true c.requires.below in
    let smaller = side.0 in
    (omega (arith, c.decreases, smaller), (c.requires.apart, (c.requires.piece, (side.1, (side.2, found.0)))))

pub nth_above-requires-else-i-before-2 : goal.nth_above-requires-else-i-before-2
nth_above-requires-else-i-before-2 t c =
    let all = values_in (values_of c.args.ranges.now.items.items) c.args.piece in
    let n = c.in-Full.node.value in
    let s = standing all c.args.t c.args.self.now n (ap marks_of (sym c.in-Full.is) ∙ c.self.view_is) (subst RootFits c.in-Full.is c.self.invariant).0
    (base_rises c.args.ranges.now.items.items c.args.piece c.requires.apart) (base_few c.args.ranges.now.items.items c.args.piece c.requires.apart)
    c.ranges.t c.requires.told c.requires.above in
    let f = count_fits all c.args.t c.args.self.now n s c.deref.result.now c.deref-2.result.now c.count_between.result c.more.result c.deref.ensures
    c.deref-2.ensures c.count_between.ensures c.more.ensures in
    let k = c.with_more-before.result in
    let is = f.3 k c.with_more-before.ensures in
    let side = second_side all c.args.t c.args.self.now n s c.deref.result.now c.deref-else-i-before-2.result.now c.deref.ensures
    c.deref-else-i-before-2.ensures in
    let found = found_past all c.args.t c.args.self.now n s c.deref.result.now c.deref-else-i-before.result.now c.deref-else-i-before-2.result.now k c.args.i
    c.deref.ensures c.deref-else-i-before.ensures c.deref-else-i-before-2.ensures is c.if-i-before.false c.if-deref.false c.if-i-before-2.false
    c.requires.below in
    let smaller = side.0 in
    (omega (arith, c.decreases, smaller), (c.requires.apart, (c.requires.piece, (side.1, (side.2, found.0)))))

pub returns-then-i-before : goal.returns-then-i-before
returns-then-i-before t c =
    let all = values_in (values_of c.args.ranges.now.items.items) c.args.piece in
    let n = c.in-Full.node.value in
    let s = standing all c.args.t c.args.self.now n (ap marks_of (sym c.in-Full.is) ∙ c.self.view_is) (subst RootFits c.in-Full.is c.self.invariant).0
    (base_rises c.args.ranges.now.items.items c.args.piece c.requires.apart) (base_few c.args.ranges.now.items.items c.args.piece c.requires.apart)
    c.ranges.t c.requires.told c.requires.above in
    let f = count_fits all c.args.t c.args.self.now n s c.deref.result.now c.deref-2.result.now c.count_between.result c.more.result c.deref.ensures
    c.deref-2.ensures c.count_between.ensures c.more.ensures in
    let k = c.with_more-before.result in
    let is = f.3 k c.with_more-before.ensures in
    (found_before all c.args.t c.args.self.now n s c.deref-then-i-before.result.now k c.args.i c.deref-then-i-before.ensures is c.if-i-before.true).1
    c.nth_above.result (record { sfits = c.nth_above.type_inv }) c.nth_above.ensures

pub returns-then-deref : goal.returns-then-deref
returns-then-deref t c =
    let all = values_in (values_of c.args.ranges.now.items.items) c.args.piece in
    let n = c.in-Full.node.value in
    let s = standing all c.args.t c.args.self.now n (ap marks_of (sym c.in-Full.is) ∙ c.self.view_is) (subst RootFits c.in-Full.is c.self.invariant).0
    (base_rises c.args.ranges.now.items.items c.args.piece c.requires.apart) (base_few c.args.ranges.now.items.items c.args.piece c.requires.apart)
    c.ranges.t c.requires.told c.requires.above in
    let f = count_fits all c.args.t c.args.self.now n s c.deref.result.now c.deref-2.result.now c.count_between.result c.more.result c.deref.ensures
    c.deref-2.ensures c.count_between.ensures c.more.ensures in
    let k = c.with_more-before.result in
    let is = f.3 k c.with_more-before.ensures in
    let found = found_past_gone all c.args.t c.args.self.now n s c.deref.result.now c.deref-else-i-before.result.now c.deref-then-deref.result.now k c.args.i
    c.deref.ensures c.deref-else-i-before.ensures c.deref-then-deref.ensures is c.if-i-before.false c.if-deref.true c.requires.below in
    found.1 c.nth_above-then-deref.result (record { sfits = c.nth_above-then-deref.type_inv }) c.nth_above-then-deref.ensures

pub returns-then-i-before-2 : goal.returns-then-i-before-2
returns-then-i-before-2 t c =
    let all = values_in (values_of c.args.ranges.now.items.items) c.args.piece in
    let n = c.in-Full.node.value in
    let s = standing all c.args.t c.args.self.now n (ap marks_of (sym c.in-Full.is) ∙ c.self.view_is) (subst RootFits c.in-Full.is c.self.invariant).0
    (base_rises c.args.ranges.now.items.items c.args.piece c.requires.apart) (base_few c.args.ranges.now.items.items c.args.piece c.requires.apart)
    c.ranges.t c.requires.told c.requires.above in
    let f = count_fits all c.args.t c.args.self.now n s c.deref.result.now c.deref-2.result.now c.count_between.result c.more.result c.deref.ensures
    c.deref-2.ensures c.count_between.ensures c.more.ensures in
    let k = c.with_more-before.result in
    let is = f.3 k c.with_more-before.ensures in
    found_here all c.args.t c.args.self.now n s c.deref.result.now c.deref-else-i-before.result.now k c.args.i c.deref.ensures c.deref-else-i-before.ensures is
    c.if-deref.false c.if-i-before-2.true

pub returns-else-i-before-2 : goal.returns-else-i-before-2
returns-else-i-before-2 t c =
    let all = values_in (values_of c.args.ranges.now.items.items) c.args.piece in
    let n = c.in-Full.node.value in
    let s = standing all c.args.t c.args.self.now n (ap marks_of (sym c.in-Full.is) ∙ c.self.view_is) (subst RootFits c.in-Full.is c.self.invariant).0
    (base_rises c.args.ranges.now.items.items c.args.piece c.requires.apart) (base_few c.args.ranges.now.items.items c.args.piece c.requires.apart)
    c.ranges.t c.requires.told c.requires.above in
    let f = count_fits all c.args.t c.args.self.now n s c.deref.result.now c.deref-2.result.now c.count_between.result c.more.result c.deref.ensures
    c.deref-2.ensures c.count_between.ensures c.more.ensures in
    let k = c.with_more-before.result in
    let is = f.3 k c.with_more-before.ensures in
    let found = found_past all c.args.t c.args.self.now n s c.deref.result.now c.deref-else-i-before.result.now c.deref-else-i-before-2.result.now k c.args.i
    c.deref.ensures c.deref-else-i-before.ensures c.deref-else-i-before-2.ensures is c.if-i-before.false c.if-deref.false c.if-i-before-2.false
    c.requires.below in
    found.1 c.nth_above-else-i-before-2.result (record { sfits = c.nth_above-else-i-before-2.type_inv })
    c.nth_above-else-i-before-2.ensures

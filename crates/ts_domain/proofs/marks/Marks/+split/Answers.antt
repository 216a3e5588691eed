use Rattle.std.proofs.Common.{◌≡◌, true, false, sym, ap, ◌∙◌, subst}
use mir.Val.{to_z, of_z}
use mir.Syntax.{w64}
use Rattle.std.specs.Prelude.{int_lt}
use Rattle.ts_domain.specs.MarkTree.{marks_of, RootFits}
use Rattle.ts_domain.proofs.MarkReads.{opened, left_of_cut, right_of_cut, one_mark, plain_cut, cut_left, cut_right, cut_here, told_less, told_more, told_equal}
use Rattle.ts_domain.proofs.marks.Marks.+split.Goals as goal

pub joined_at-requires : goal.joined_at-requires
joined_at-requires t c =
    let o = opened c.in-Full.node.value c.deref_mut.result.now c.args.self c.take_sides-before.result.0 c.take_sides-before.new.self.mark
    c.take_sides-before.result.1 (ap marks_of (sym c.in-Full.is) ∙ c.self.view_is) (subst RootFits c.in-Full.is c.self.invariant).0
    (c.deref_mut.ensures.value ∙ ap (λ b. b.value) c.in-Full.node-is) c.take_sides-before.ensures.before c.take_sides-before.ensures.behind
    c.take_sides-before.ensures.mark in
    left_of_cut _ _ _ _ c.split-cut.result.before c.split-cut.result.at _ o c.split-cut.ensures.all

pub joined_at-requires-then-here-v : goal.joined_at-requires-then-here-v
joined_at-requires-then-here-v t c =
    let o = opened c.in-Full.node.value c.deref_mut.result.now c.args.self c.take_sides-before.result.0 c.take_sides-before.new.self.mark
    c.take_sides-before.result.1 (ap marks_of (sym c.in-Full.is) ∙ c.self.view_is) (subst RootFits c.in-Full.is c.self.invariant).0
    (c.deref_mut.ensures.value ∙ ap (λ b. b.value) c.in-Full.node-is) c.take_sides-before.ensures.before c.take_sides-before.ensures.behind
    c.take_sides-before.ensures.mark in
    right_of_cut _ _ _ _ c.split-cut-then-here-v.result.before c.split-cut-then-here-v.result.at c.split-cut-then-here-v.result.behind o
    c.split-cut-then-here-v.ensures.all

pub joined_at-requires-else-here-v : goal.joined_at-requires-else-here-v
joined_at-requires-else-here-v t c =
    let o = opened c.in-Full.node.value c.deref_mut.result.now c.args.self c.take_sides-before.result.0 c.take_sides-before.new.self.mark
    c.take_sides-before.result.1 (ap marks_of (sym c.in-Full.is) ∙ c.self.view_is) (subst RootFits c.in-Full.is c.self.invariant).0
    (c.deref_mut.ensures.value ∙ ap (λ b. b.value) c.in-Full.node-is) c.take_sides-before.ensures.before c.take_sides-before.ensures.behind
    c.take_sides-before.ensures.mark in
    one_mark _ _ _ _ _ _ o c.new.ensures c.new-else-here-v.ensures

pub returns-then-v-here : goal.returns-then-v-here
returns-then-v-here t c =
    let o = opened c.in-Full.node.value c.deref_mut.result.now c.args.self c.take_sides-before.result.0 c.take_sides-before.new.self.mark
    c.take_sides-before.result.1 (ap marks_of (sym c.in-Full.is) ∙ c.self.view_is) (subst RootFits c.in-Full.is c.self.invariant).0
    (c.deref_mut.ensures.value ∙ ap (λ b. b.value) c.in-Full.node-is) c.take_sides-before.ensures.before c.take_sides-before.ensures.behind
    c.take_sides-before.ensures.mark in
    let e = c.split-cut.ensures in let r = c.split-cut.result in
    let lt = told_less c.args.v c.take_sides-before.new.self.mark.value c.ranges.v o.from o.to
    (subst (λ d. int_lt (to_z w64 (of_z w64 c.args.v)) (to_z w64 (of_z w64 d.mark.value)) ≡ true) c.deref.ensures c.if-v-here.true) in
    let cut = cut_left c.args.v c.args.self c.take_sides-before.result.0 c.take_sides-before.new.self.mark c.take_sides-before.result.1 r.before r.at r.behind
    c.joined_at.result o lt (plain_cut c.args.v c.take_sides-before.result.0 r.before r.at r.behind c.ranges.v e.all e.before e.at e.behind)
    c.joined_at.ensures in
    record { all = cut.all; before = cut.before; at = cut.at; behind = cut.behind }

pub returns-then-here-v : goal.returns-then-here-v
returns-then-here-v t c =
    let o = opened c.in-Full.node.value c.deref_mut.result.now c.args.self c.take_sides-before.result.0 c.take_sides-before.new.self.mark
    c.take_sides-before.result.1 (ap marks_of (sym c.in-Full.is) ∙ c.self.view_is) (subst RootFits c.in-Full.is c.self.invariant).0
    (c.deref_mut.ensures.value ∙ ap (λ b. b.value) c.in-Full.node-is) c.take_sides-before.ensures.before c.take_sides-before.ensures.behind
    c.take_sides-before.ensures.mark in
    let e = c.split-cut-then-here-v.ensures in let r = c.split-cut-then-here-v.result in
    let lt = told_more c.args.v c.take_sides-before.new.self.mark.value c.ranges.v o.from o.to
    (subst (λ d. int_lt (to_z w64 (of_z w64 d.mark.value)) (to_z w64 (of_z w64 c.args.v)) ≡ true) c.deref.ensures c.if-here-v.true) in
    let cut = cut_right c.args.v c.args.self c.take_sides-before.result.0 c.take_sides-before.new.self.mark c.take_sides-before.result.1 r.before r.at r.behind
    c.joined_at-then-here-v.result o lt (plain_cut c.args.v c.take_sides-before.result.1 r.before r.at r.behind c.ranges.v e.all e.before e.at e.behind)
    c.joined_at-then-here-v.ensures in
    record { all = cut.all; before = cut.before; at = cut.at; behind = cut.behind }

pub returns-else-here-v : goal.returns-else-here-v
returns-else-here-v t c =
    let o = opened c.in-Full.node.value c.deref_mut.result.now c.args.self c.take_sides-before.result.0 c.take_sides-before.new.self.mark
    c.take_sides-before.result.1 (ap marks_of (sym c.in-Full.is) ∙ c.self.view_is) (subst RootFits c.in-Full.is c.self.invariant).0
    (c.deref_mut.ensures.value ∙ ap (λ b. b.value) c.in-Full.node-is) c.take_sides-before.ensures.before c.take_sides-before.ensures.behind
    c.take_sides-before.ensures.mark in
    let same = told_equal c.args.v c.take_sides-before.new.self.mark.value c.ranges.v o.from o.to
    (subst (λ d. int_lt (to_z w64 (of_z w64 c.args.v)) (to_z w64 (of_z w64 d.mark.value)) ≡ false) c.deref.ensures c.if-v-here.false)
    (subst (λ d. int_lt (to_z w64 (of_z w64 d.mark.value)) (to_z w64 (of_z w64 c.args.v)) ≡ false) c.deref.ensures c.if-here-v.false) in
    let cut = cut_here c.args.v c.args.self c.take_sides-before.result.0 c.take_sides-before.new.self.mark c.take_sides-before.result.1 c.new.result
    c.new-else-here-v.result c.joined_at-else-here-v.result o same c.new.ensures c.new-else-here-v.ensures c.joined_at-else-here-v.ensures in
    record { all = cut.all; before = cut.before; at = cut.at; behind = cut.behind }

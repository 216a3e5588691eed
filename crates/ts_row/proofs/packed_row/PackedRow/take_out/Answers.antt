use Rattle.std.proofs.Common.{rules, ◌≡◌, ◌+◌, ◌-◌, ◌*◌, length, ap, subst, ◌∙◌, arith}
use Rattle.ts_row.specs.Rows.{columns_in}
use Rattle.ts_row.proofs.Columns.{AreLess, all_less, column_inside, columns_length, ends_less, less_more, none_less}
use Rattle.ts_row.proofs.packed_row.PackedRow.take_out.Goals as goal

pub loop-q-init : goal.loop-q-init
loop-q-init g c =
    let r = c.self.inside in (
      none_less r.states r.stride r.count c.args.from c.args.to c.args.self.now r.hulls.items c.self.invariant.0 c.self.invariant.1 c.self.view_is,
      c.if-to-self.true,
    )

pub move_down-requires : goal.move_down-requires
move_down-requires g c =
    let s = c.self.inside in
    let r = c.loop-q.self-inside in
    let is = c.loop-q.invariant.0 in
    let there = columns_length s.states s.stride s.count s.hulls.items in
    let same = ap length c.self.view_is in
    let here = is.len in (
      search rules,
      (
        c.requires,
        (
          c.loop-q.invariant.1,
          column_inside r.states r.stride r.count r.hulls.items is.room is.few c.loop-q.q (omega (arith, c.loop-q-test.true, there, same, here)),
        ),
      ),
    )

pub loop-q-preserved : goal.loop-q-preserved
loop-q-preserved g c =
    let s = c.self.inside in
    let r = c.loop-q.self-inside in
    let is = c.loop-q.invariant.0 in
    let there = columns_length s.states s.stride s.count s.hulls.items in
    let same = ap length c.self.view_is in
    let here = is.len in
    let between = c.loop-q.invariant.1 in
    let start = c.loop-q.q * r.stride in (
      less_more r.states r.stride r.count c.args.from c.args.to c.loop-q.q (start + r.count - (start + c.args.to)) c.args.self.now r.hulls.items
          c.move_down.new.hulls.items c.requires (omega (arith, between)) (omega (arith, c.loop-q-test.true, there, same, here)) is
          c.move_down.ensures.len (omega arith) c.move_down.ensures.copied c.move_down.ensures.below c.move_down.ensures.above,
      between,
    )

pub overflow_sub-self-then-to-self : goal.overflow_sub-self-then-to-self
overflow_sub-self-then-to-self g c = let between = c.loop-q.invariant.1 in omega (arith, between)

pub returns-after-loop-q : goal.returns-after-loop-q
returns-after-loop-q g c =
    let s = c.self.inside in
    let r = c.loop-q.self-inside in
    let is = c.loop-q.invariant.0 in
    let there = columns_length s.states s.stride s.count s.hulls.items in
    let same = ap length c.self.view_is in
    let here = is.len in
    let between = c.loop-q.invariant.1 in
    let e : c.loop-q.q ≡ r.states = omega (arith, c.loop-q-test.false, c.loop-q.auto.q-end, there, same, here) in
    all_less r.states r.stride r.count c.args.from c.args.to c.args.self.now r.hulls.items c.requires (omega (arith, between))
    (subst (λ k. AreLess r.states r.stride r.count c.args.from c.args.to c.args.self.now k r.hulls.items) e is)

pub returns-else-to-self : goal.returns-else-to-self
returns-else-to-self g c =
    let r = c.self.inside in
    ap (λ k. columns_in r.states r.stride k r.hulls.items) c.min-self-inside.ensures
    ∙ ends_less r.states r.stride r.count c.args.from c.args.to c.args.self.now r.hulls.items c.self.invariant.0 c.self.invariant.1 c.self.view_is
    c.requires (omega (arith, c.if-to-self.false))

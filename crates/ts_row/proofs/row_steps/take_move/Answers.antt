use Rattle.std.proofs.Common.{length, refl, sym, subst, rules}
use Rattle.ts_automaton.specs.Body.{move_of}
use Rattle.ts_row.specs.Rows.{IsColumn}
use Rattle.ts_row.specs.Takings.{count_in, HasMoved}
use Rattle.ts_row.proofs.Columns.{lent_column, lent_inside, row_written}
use Rattle.ts_row.proofs.Steps.{row_with, move_taken}
use Rattle.ts_row.proofs.row_steps.take_move.Goals as goal

pub take_at-requires : goal.take_at-requires
take_at-requires g c =
    let s = c.next.inside in
    let k = count_in c.args.t.now.next_values.now in
    let r = c.args.turn.now.next in
    let same = (c.requires.row.columns r c.requires.leads).0 in (
      search rules,
      (
        search rules,
        (
          c.requires.covered,
          (
            c.requires.width,
            (
              c.requires.suits,
              (
                c.requires.plan,
                (
                  lent_inside s.states s.stride s.count k s.hulls.items c.deref_mut.result.now c.args.next.now r c.next.invariant.0 c.next.invariant.1
                      c.next.view_is c.requires.leads c.deref_mut.ensures.value same,
                  subst (IsColumn g.row.N k) (sym (lent_column s.states s.stride s.count k s.hulls.items c.deref_mut.result.now c.args.next.now r
                      c.next.invariant.0 c.next.invariant.1 c.next.view_is c.requires.leads c.deref_mut.ensures.value same))
                      (c.requires.row.columns r c.requires.leads),
                ),
              ),
            ),
          ),
        ),
      ),
    )

pub returns-clause-row : goal.returns-clause-row
returns-clause-row g c =
    let s = c.next.inside in
    let k = count_in c.args.t.now.next_values.now in
    let r = c.args.turn.now.next in
    let old = c.args.next.now in
    let same = (c.requires.row.columns r c.requires.leads).0 in
    let taken = c.take_at.ensures in
    row_with g.row.N (length old) k r old taken.column _ c.requires.row c.requires.leads
    (row_written s.states s.stride s.count k s.hulls.items c.deref_mut.result.now old r c.next.invariant.0 c.next.invariant.1 c.next.view_is
    c.requires.leads c.deref_mut.ensures.value same taken.column c.take_at.new.hulls s.hulls.len (sym s.hulls.ok.0) taken.packed.0 taken.written)
    taken.packed

pub returns-clause-taken : goal.returns-clause-taken
returns-clause-taken g c =
    let s = c.next.inside in
    let t = c.args.t.now in
    let k = count_in t.next_values.now in
    let r = c.args.turn.now.next in
    let old = c.args.next.now in
    let same = (c.requires.row.columns r c.requires.leads).0 in
    let taken = c.take_at.ensures in
    move_taken g.row.N (length old) k r old taken.column _ c.requires.row c.requires.leads
    (row_written s.states s.stride s.count k s.hulls.items c.deref_mut.result.now old r c.next.invariant.0 c.next.invariant.1 c.next.view_is
    c.requires.leads c.deref_mut.ensures.value same taken.column c.take_at.new.hulls s.hulls.len (sym s.hulls.ok.0) taken.packed.0 taken.written)
    t c.args.on (move_of c.args.turn.now) t.registers refl refl
    (subst (λ z. HasMoved g.row.N t c.args.on (move_of c.args.turn.now) z taken.column)
    (lent_column s.states s.stride s.count k s.hulls.items c.deref_mut.result.now old r c.next.invariant.0 c.next.invariant.1 c.next.view_is
    c.requires.leads c.deref_mut.ensures.value same) taken.moved)

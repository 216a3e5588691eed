use Rattle.std.proofs.Common.{◌≡◌, ℤ, List, sym, ap, ◌∙◌}
use Rattle.ts_automaton.specs.Registers.{EachOf, each}
use Rattle.ts_sweep.specs.declared.packed.Ends.{Ends}
use Rattle.ts_sweep.specs.declared.packed.Name.TheVariants.{E, D, F, R}
use Rattle.ts_sweep.specs.Moves.{beside, of_name}
use Rattle.ts_sweep.specs.MoveLaws.{all_lanes}
use Rattle.ts_sweep.specs.Packed.{is_wide}
use Rattle.ts_sweep.specs.Sides.{as_read, kept_ends}
use Rattle.ts_sweep.specs.Trees.{tree_value}
use Rattle.ts_sweep.proofs.PairSteps.{as_both_passed, moved_nothing, moved_some}
use Rattle.ts_sweep.proofs.pairs.moved.Goals as goal

pub returns-then-not-is_some-clause-value : goal.returns-then-not-is_some-clause-value
returns-then-not-is_some-clause-value g c =
    moved_nothing g.H.Packed.sides (g.M.PairMove.made c.args.by) g.H.Packed.count (g.H.Packed.lanes c.args.h) c.args.x c.args.y c.requires.registers
    c.requires.packed
    (sym c.is_some.ensures ∙ c.if-not-is_some.true)

pub returns-clause-packed : goal.returns-clause-packed
returns-clause-packed g c =
    let replaced = g.H.Packed.replaced in
    let lanes = g.H.Packed.lanes in
    let s = g.H.Packed.sides in
    let n = g.H.Packed.count in
    let m = g.M.PairMove.made c.args.by in
    let xs : List ℤ = as_read s (lanes c.args.h) in
    let e : EachOf Ends = each c.ends-c.result c.ends_beside-e.result c.ends-d.result c.ends_beside-f.result c.ends-r.result in
    let is = c.with-5.ensures ∙ ap (λ z. replaced z R e.r) (c.with-4.ensures ∙ ap (λ z. replaced z F e.f)
    (c.with-3.ensures ∙ ap (λ z. replaced z D e.d) (c.with-2.ensures ∙ ap (λ z. replaced z E e.e) c.with.ensures))) in
    (moved_some s m n (lanes c.args.h) (lanes c.with-5.result) c.args.x c.args.y e.c e.e e.d e.f e.r g.met.H.Packed.alone c.requires.registers
    c.requires.width
    c.requires.suits c.requires.packed (sym c.is_some.ensures ∙ c.if-not-is_some.false) c.requires.this c.requires.next
    (as_both_passed (λ x y. kept_ends s e.c ≡ kept_ends s (tree_value m.to.c xs x y)) c.args.x c.args.y c.requires.this c.requires.next c.ends-c.ensures)
    (as_both_passed (λ x y. kept_ends s e.e ≡ kept_ends s (beside (is_wide n) (tree_value m.to.e xs x y))) c.args.x c.args.y c.requires.this c.requires.next
    c.ends_beside-e.ensures)
    (as_both_passed (λ x y. kept_ends s e.d ≡ kept_ends s (tree_value m.to.d xs x y)) c.args.x c.args.y c.requires.this c.requires.next c.ends-d.ensures)
    (as_both_passed (λ x y. kept_ends s e.f ≡ kept_ends s (beside (is_wide n) (tree_value m.to.f xs x y))) c.args.x c.args.y c.requires.this c.requires.next
    c.ends_beside-f.ensures)
    (as_both_passed (λ x y. kept_ends s e.r ≡ kept_ends s (tree_value m.to.r xs x y)) c.args.x c.args.y c.requires.this c.requires.next c.ends-r.ensures)
    (ap lanes is ∙ all_lanes s lanes replaced n g.H.Hull.none g.met.H.Packed.none_lanes g.met.H.Packed.replaced_lanes c.args.h (of_name e))).0

pub returns-clause-value : goal.returns-clause-value
returns-clause-value g c =
    let replaced = g.H.Packed.replaced in
    let lanes = g.H.Packed.lanes in
    let s = g.H.Packed.sides in
    let n = g.H.Packed.count in
    let m = g.M.PairMove.made c.args.by in
    let xs : List ℤ = as_read s (lanes c.args.h) in
    let e : EachOf Ends = each c.ends-c.result c.ends_beside-e.result c.ends-d.result c.ends_beside-f.result c.ends-r.result in
    let is = c.with-5.ensures ∙ ap (λ z. replaced z R e.r) (c.with-4.ensures ∙ ap (λ z. replaced z F e.f)
    (c.with-3.ensures ∙ ap (λ z. replaced z D e.d) (c.with-2.ensures ∙ ap (λ z. replaced z E e.e) c.with.ensures))) in
    (moved_some s m n (lanes c.args.h) (lanes c.with-5.result) c.args.x c.args.y e.c e.e e.d e.f e.r g.met.H.Packed.alone c.requires.registers
    c.requires.width
    c.requires.suits c.requires.packed (sym c.is_some.ensures ∙ c.if-not-is_some.false) c.requires.this c.requires.next
    (as_both_passed (λ x y. kept_ends s e.c ≡ kept_ends s (tree_value m.to.c xs x y)) c.args.x c.args.y c.requires.this c.requires.next c.ends-c.ensures)
    (as_both_passed (λ x y. kept_ends s e.e ≡ kept_ends s (beside (is_wide n) (tree_value m.to.e xs x y))) c.args.x c.args.y c.requires.this c.requires.next
    c.ends_beside-e.ensures)
    (as_both_passed (λ x y. kept_ends s e.d ≡ kept_ends s (tree_value m.to.d xs x y)) c.args.x c.args.y c.requires.this c.requires.next c.ends-d.ensures)
    (as_both_passed (λ x y. kept_ends s e.f ≡ kept_ends s (beside (is_wide n) (tree_value m.to.f xs x y))) c.args.x c.args.y c.requires.this c.requires.next
    c.ends_beside-f.ensures)
    (as_both_passed (λ x y. kept_ends s e.r ≡ kept_ends s (tree_value m.to.r xs x y)) c.args.x c.args.y c.requires.this c.requires.next c.ends-r.ensures)
    (ap lanes is ∙ all_lanes s lanes replaced n g.H.Hull.none g.met.H.Packed.none_lanes g.met.H.Packed.replaced_lanes c.args.h (of_name e))).1

use Rattle.std.proofs.Common.{◌≡◌, true, false, length, rules, sym, ap, ◌∙◌}
use Rattle.ts_base.specs.declared.span.Span.{Span}
use Rattle.ts_hull.proofs.HullLaws.{same_hull}
use Rattle.ts_sweep.specs.declared.packed.Ends.{Ends}
use Rattle.ts_sweep.specs.declared.packed.Name.{Name}
use Rattle.ts_sweep.specs.declared.packed.Name.TheVariants.{C, E, D, F, R}
use Rattle.ts_sweep.specs.Packed.{ends_span, is_wide, name_ends}
use Rattle.ts_sweep.specs.Sides.{as_read, lanes_in, sides}
use Rattle.ts_sweep.specs.SidesLaws.{full_ends, full_wide}
use Rattle.ts_sweep.proofs.Unpacked.{at_rest, wide_unpacked, narrow_unpacked}
use Rattle.ts_sweep.proofs.strided.unpacked.Goals as goal

pub returns-then-is_wide : goal.returns-then-is_wide
returns-then-is_wide g c =
    let n = g.row.N in
    let xs = c.args.h.now.at in
    let long : length xs ≡ n = search rules in
    let at : (k : Name) (t : Span) (e : Ends) → t ≡ ends_span e → e ≡ name_ends (as_read (sides n) (lanes_in n xs)) k → t ≡ ends_span (name_ends xs k) =
    λ k t e p q. p ∙ ap ends_span (q ∙ full_ends n xs k c.requires.registers) in
    wide_unpacked xs _ (ap is_wide long ∙ sym (full_wide n c.requires.registers) ∙ sym c.is_wide.ensures ∙ c.if-is_wide.true)
    (same_hull (at C _ _ c.span-c.ensures c.ends.ensures.value) (at E _ _ c.span-e.ensures c.ends-then-is_wide.ensures.value)
    (at D _ _ c.span-d.ensures c.ends-2.ensures.value) (at F _ _ c.span-f.ensures c.ends-then-is_wide-2.ensures.value)
    (at R _ _ c.span-r.ensures c.ends-3.ensures.value))

pub returns-else-is_wide : goal.returns-else-is_wide
returns-else-is_wide g c =
    let n = g.row.N in
    let xs = c.args.h.now.at in
    let long : length xs ≡ n = search rules in
    let at : (k : Name) (t : Span) (e : Ends) → t ≡ ends_span e → e ≡ name_ends (as_read (sides n) (lanes_in n xs)) k → t ≡ ends_span (name_ends xs k) =
    λ k t e p q. p ∙ ap ends_span (q ∙ full_ends n xs k c.requires.registers) in
    let first = at C _ _ c.span-c.ensures c.ends.ensures.value in
    let rest = c.at_rest-rest.ensures ∙ ap at_rest first in
    narrow_unpacked xs _ (ap is_wide long ∙ sym (full_wide n c.requires.registers) ∙ sym c.is_wide.ensures ∙ c.if-is_wide.false)
    (same_hull first rest (at D _ _ c.span-d.ensures c.ends-2.ensures.value) rest (at R _ _ c.span-r.ensures c.ends-3.ensures.value))

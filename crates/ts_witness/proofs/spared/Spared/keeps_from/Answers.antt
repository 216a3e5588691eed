use Rattle.std.proofs.Common.{rules, ◌≤ℤ◌, true, subst, sym, refl, w64}
use Rattle.std.proofs.lemmas.Int.{to_z-of_z}
use Rattle.ts_bound.specs.TermSpans.{automata_of}
use Rattle.ts_witness.specs.Witnesses.{series_of}
use Rattle.ts_witness.proofs.Alive.{told_kept}
use Rattle.ts_witness.proofs.spared.Spared.keeps_from.Goals as goal

pub alike_up_to-to-requires-clause-letters : goal.alike_up_to-to-requires-clause-letters
alike_up_to-to-requires-clause-letters c = c.requires.spared.letters

pub returns-clause-kept : goal.returns-clause-kept
returns-clause-kept c = λ t w from to.
    let y = series_of c.args.witness.now in let r = c.args.r.now in
    let v_is = to_z-of_z w64 c.args.v c.ranges.v in
    told_kept (automata_of c.args.m.now) r y c.args.k w true
    (sym (c.alike_up_to-to.ensures.alike r w (subst (λ z. z ≤ℤ w) (sym v_is) from)
    (subst (λ z. w ≤ℤ z) (to_z-of_z w64 c.alike_up_to-to.result (search rules)) to) (c.is_known_to_keep.ensures t))) refl

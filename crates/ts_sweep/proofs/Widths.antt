-- Moves of narrow automata, in which E and F stay 0.
use Rattle.std.proofs.Common.{◌≡◌, Bool, true, false, ◌&&◌, ◌||◌, refl, sym, ap}
use Rattle.std.proofs.lemmas.Bool.{and_parts}
use Rattle.ts_automaton.specs.Body.{Move}
use Rattle.ts_automaton.specs.declared.expr.Atom.TheVariants.{C, E, D, F, R, This, Next, Zero, Unit as UnitAtom, NegInf, PosInf}
use Rattle.ts_automaton.specs.Formula.{Formula, Leaf, Join, is_zero}
use Rattle.ts_automaton.specs.Registers.{each, rests}
use Rattle.ts_automaton.proofs.Five.{five_parts, five_true}
use Rattle.ts_hull.specs.Cuts.{Cut, cut_of, all_swept, all_whole}
use Rattle.ts_hull.specs.Splits.{FrontOf, split_formula, is_swept, is_whole}
use Rattle.ts_hull.proofs.Wholes.{same_cut}
use Rattle.ts_sweep.specs.declared.any_part.AnyPart.{AnyPart}
use Rattle.ts_sweep.specs.declared.any_part.AnyPart.TheVariants.{Front, Tail, Double}
use Rattle.ts_sweep.specs.declared.moves.Parts.{Parts}
use Rattle.ts_sweep.specs.AnyParts.{part_split, part_tails, parts_cut}
use Rattle.ts_sweep.specs.FrontLaws.{never_added}
use Rattle.ts_sweep.specs.Moves.{of_width}
use Rattle.ts_sweep.specs.MoveLaws.{or_false}

pub zero_only : (f : Formula) → is_zero f ≡ true → Leaf Zero ≡ f
zero_only (Leaf C) h = cc
zero_only (Leaf E) h = cc
zero_only (Leaf D) h = cc
zero_only (Leaf F) h = cc
zero_only (Leaf R) h = cc
zero_only (Leaf This) h = cc
zero_only (Leaf Next) h = cc
zero_only (Leaf Zero) h = refl
zero_only (Leaf UnitAtom) h = cc
zero_only (Leaf NegInf) h = cc
zero_only (Leaf PosInf) h = cc
zero_only (Join o f g) h = cc

pub both_zero : (wide a b : Bool) → (wide || (a && b)) ≡ true → wide ≡ false → (a ≡ true) × (b ≡ true)
both_zero true a b h e = cc
both_zero false a b h e = and_parts a b h

-- fronts have no tail, whatever the width
pub fronts_whole : (wide : Bool) (c e d f r : Formula) → all_whole (of_width wide (each (FrontOf c) (FrontOf e) (FrontOf d) (FrontOf f) (FrontOf r))) ≡ true
fronts_whole true c e d f r = refl
fronts_whole false c e d f r = refl

-- a move of the width is split as those of the width are
pub width_cut : (wide : Bool) (m : Move) → rests is_zero wide m.to ≡ true → cut_of m ≡ of_width wide (cut_of m)
width_cut true m h = refl
width_cut false m h =
    let zero = and_parts (is_zero m.to.e) (is_zero m.to.f) h in
    same_cut refl (ap split_formula (sym (zero_only m.to.e zero.0))) refl (ap split_formula (sym (zero_only m.to.f zero.1))) refl

-- what can be swept, and what has no tail, can be for every width
pub swept_width : (wide : Bool) (k : Cut) → all_swept k ≡ true → all_swept (of_width wide k) ≡ true
swept_width true k h = h
swept_width false k h =
    let p = five_parts (is_swept k.c) (is_swept k.e) (is_swept k.d) (is_swept k.f) (is_swept k.r) h in
    five_true (is_swept k.c) true (is_swept k.d) true (is_swept k.r) p.0 refl p.2 refl p.4

pub whole_width : (wide : Bool) (k : Cut) → all_whole k ≡ true → all_whole (of_width wide k) ≡ true
whole_width true k h = h
whole_width false k h =
    let p = five_parts (is_whole k.c) (is_whole k.e) (is_whole k.d) (is_whole k.f) (is_whole k.r) h in
    five_true (is_whole k.c) true (is_whole k.d) true (is_whole k.r) p.0 refl p.2 refl p.4

part_whole : (k : AnyPart) → part_tails k ≡ false → is_whole (part_split k) ≡ true
part_whole (Front e) h = refl
part_whole (Tail o e) h = never_added h
part_whole (Double o e f) h = never_added h

pub parts_whole : (p : Parts AnyPart AnyPart AnyPart AnyPart AnyPart) →
    (part_tails p.c || (part_tails p.e || (part_tails p.d || (part_tails p.f || part_tails p.r)))) ≡ false → all_whole (parts_cut p) ≡ true
parts_whole p h =
    let no = or_false (part_tails p.c) (part_tails p.e) (part_tails p.d) (part_tails p.f) (part_tails p.r) h in
    five_true (is_whole (part_split p.c)) (is_whole (part_split p.e)) (is_whole (part_split p.d)) (is_whole (part_split p.f)) (is_whole (part_split p.r))
    (part_whole p.c no.0) (part_whole p.e no.1) (part_whole p.d no.2) (part_whole p.f no.3) (part_whole p.r no.4)

use mir.Val.{SFits}
use Rattle.std.proofs.Common.{◌≡◌, pos, neg_ℤ, sym, ap, ◌∙◌, subst, w64, rules}
use Rattle.std.proofs.lemmas.Int.{to_z-of_z}
use Rattle.ts_base.specs.declared.ext.Ext.TheVariants.{Int}
use Rattle.ts_automaton.specs.declared.expr.Operator.TheVariants.{Fold}
use Rattle.ts_automaton.specs.Registers.{value_in}
use Rattle.ts_glue.specs.Glue.{Left, Right, With, glue_in, held_in, open_in}
use Rattle.ts_meet.specs.Sides.{ends_in}
use Rattle.ts_meet.specs.Joints.{once}
use Rattle.ts_meet.proofs.Gluings.{once_is, side_by_side, side_by_side_taken}
use Rattle.ts_meet.proofs.gluing.Gluing.folded_both.Goals as goal

pub folded-after-requires : goal.folded-after-requires
folded-after-requires g c =
    let f = c.args.self in let m = g.S.Sums.values in let o = g.K.Folding.fold c.args.k in let p = g.P.Registers.part in
    let a = ends_in c.args.left in let b = ends_in c.args.right in
    let fits = side_by_side_taken m g.S.Sums.takes a b o p f.worth c.requires.fits in
    subst (λ z. g.S.Sums.takes (Fold o) z c.open-2.result) (sym c.held-2.ensures)
    (subst (g.S.Sums.takes (Fold o) (value_in m b (pos 0) (pos 0) (held_in p))) (sym c.open-2.ensures) fits.1.2)

pub folded-requires : goal.folded-requires
folded-requires g c =
    let f = c.args.self in let m = g.S.Sums.values in let o = g.K.Folding.fold c.args.k in let p = g.P.Registers.part in
    let a = ends_in c.args.left in let b = ends_in c.args.right in
    let fits = side_by_side_taken m g.S.Sums.takes a b o p f.worth c.requires.fits in
    let before : c.folded-before.result ≡ glue_in m a b (With (Fold o) (Left (held_in p)) (Left (open_in p))) =
    c.folded-before.ensures ∙ ap (λ z. m.join (Fold o) z c.open.result) c.held.ensures ∙ ap (m.join (Fold o) _) c.open.ensures in
    let after : c.folded-after.result ≡ glue_in m a b (With (Fold o) (Right (held_in p)) (Right (open_in p))) =
    c.folded-after.ensures ∙ ap (λ z. m.join (Fold o) z c.open-2.result) c.held-2.ensures ∙ ap (m.join (Fold o) _) c.open-2.ensures in
    subst (λ z. g.S.Sums.takes (Fold o) z c.folded-after.result) (sym before)
    (subst (g.S.Sums.takes (Fold o) (glue_in m a b (With (Fold o) (Left (held_in p)) (Left (open_in p))))) (sym after) fits.2)

pub returns : goal.returns
returns g c =
    let f = c.args.self in let m = g.S.Sums.values in let o = g.K.Folding.fold c.args.k in let p = g.P.Registers.part in
    let a = ends_in c.args.left in let b = ends_in c.args.right in
    let before : c.folded-before.result ≡ glue_in m a b (With (Fold o) (Left (held_in p)) (Left (open_in p))) =
    c.folded-before.ensures ∙ ap (λ z. m.join (Fold o) z c.open.result) c.held.ensures ∙ ap (m.join (Fold o) _) c.open.ensures in
    let after : c.folded-after.result ≡ glue_in m a b (With (Fold o) (Right (held_in p)) (Right (open_in p))) =
    c.folded-after.ensures ∙ ap (λ z. m.join (Fold o) z c.open-2.result) c.held-2.ensures ∙ ap (m.join (Fold o) _) c.open-2.ensures in
    let both : c.folded.result ≡ glue_in m a b (side_by_side o p) =
    c.folded.ensures ∙ ap (λ z. m.join (Fold o) z c.folded-after.result) before ∙ ap (m.join (Fold o) _) after in
    let fits : SFits w64 f.worth = search rules in
    c.once.ensures ∙ ap (λ d. once m o c.folded.result (m.constant (Int (neg_ℤ d)))) (to_z-of_z w64 f.worth fits)
    ∙ ap (λ z. once m o z (m.constant (Int (neg_ℤ f.worth)))) both ∙ once_is m a b o f.worth (side_by_side o p)

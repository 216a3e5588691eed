use Rattle.std.proofs.Common.{◌≡◌, pos, cond, sym, ap, ◌∙◌, rules}
use Rattle.ts_automaton.specs.declared.expr.Operator.TheVariants.{Fold}
use Rattle.ts_automaton.specs.Registers.{value_in}
use Rattle.ts_glue.specs.Glue.{Left, With, glue_in, held_in, open_in}
use Rattle.ts_meet.specs.Sides.{ends_in}
use Rattle.ts_meet.proofs.Gluings.{between_steps, cell_taken, glue_if, held_taken, left_of, open_taken, to_cell}
use Rattle.ts_meet.proofs.gluing.Gluing.folded_between.Goals.{then-self, else-self, then-self-2, else-self-2}
use Rattle.ts_meet.proofs.gluing.Gluing.folded_between.Goals as goal

pub folded-with_cell-requires : goal.folded-with_cell-requires
folded-with_cell-requires g c =
    let f = c.args.self in let m = g.S.Sums.values in let o = g.K.Folding.fold c.args.k in let p = g.P.Registers.part in
    let a = ends_in c.args.left in let b = ends_in c.args.right in
    let opened : c.if-self.opened ≡ cond f.held_left (m.join (Fold o) (value_in m a (pos 0) (pos 0) (held_in p)) (value_in m a (pos 0) (pos 0) (open_in p)))
    (value_in m a (pos 0) (pos 0) (open_in p)) = elim c.if-self.branch [
      | then-self w ↦ search rules
      | else-self w ↦ search rules
    ] in
    let left = opened ∙ sym (glue_if m g.S.Sums.takes a b o f.held_left (With (Fold o) (Left (held_in p)) (Left (open_in p))) (Left (open_in p))) in
    cell_taken m g.S.Sums.takes a b o p f.held_left f.held_right f.worth c.requires.fits c.if-self.opened c.cell.result left c.cell.ensures

pub folded-with_held-requires : goal.folded-with_held-requires
folded-with_held-requires g c =
    let f = c.args.self in let m = g.S.Sums.values in let o = g.K.Folding.fold c.args.k in let p = g.P.Registers.part in
    let a = ends_in c.args.left in let b = ends_in c.args.right in
    let opened : c.if-self.opened ≡ cond f.held_left (m.join (Fold o) (value_in m a (pos 0) (pos 0) (held_in p)) (value_in m a (pos 0) (pos 0) (open_in p)))
    (value_in m a (pos 0) (pos 0) (open_in p)) = elim c.if-self.branch [
      | then-self w ↦ search rules
      | else-self w ↦ search rules
    ] in
    let left = opened ∙ sym (glue_if m g.S.Sums.takes a b o f.held_left (With (Fold o) (Left (held_in p)) (Left (open_in p))) (Left (open_in p))) in
    let with_cell : c.folded-with_cell.result ≡ glue_in m a b (to_cell m g.S.Sums.takes a b o p f.held_left f.worth) =
    c.folded-with_cell.ensures ∙ ap (λ z. m.join (Fold o) z c.cell.result) left
    ∙ ap (m.join (Fold o) (glue_in m a b (left_of m g.S.Sums.takes a b o p f.held_left))) c.cell.ensures in
    held_taken m g.S.Sums.takes a b o p f.held_left f.held_right f.worth c.requires.fits c.if-self-2.true
    c.folded-with_cell.result c.held-then-self-2.result with_cell c.held-then-self-2.ensures

pub folded-requires : goal.folded-requires
folded-requires g c =
    let f = c.args.self in let m = g.S.Sums.values in let o = g.K.Folding.fold c.args.k in let p = g.P.Registers.part in
    let a = ends_in c.args.left in let b = ends_in c.args.right in
    let opened : c.if-self.opened ≡ cond f.held_left (m.join (Fold o) (value_in m a (pos 0) (pos 0) (held_in p)) (value_in m a (pos 0) (pos 0) (open_in p)))
    (value_in m a (pos 0) (pos 0) (open_in p)) = elim c.if-self.branch [
      | then-self w ↦ search rules
      | else-self w ↦ search rules
    ] in
    let left = opened ∙ sym (glue_if m g.S.Sums.takes a b o f.held_left (With (Fold o) (Left (held_in p)) (Left (open_in p))) (Left (open_in p))) in
    let with_cell : c.folded-with_cell.result ≡ glue_in m a b (to_cell m g.S.Sums.takes a b o p f.held_left f.worth) =
    c.folded-with_cell.ensures ∙ ap (λ z. m.join (Fold o) z c.cell.result) left
    ∙ ap (m.join (Fold o) (glue_in m a b (left_of m g.S.Sums.takes a b o p f.held_left))) c.cell.ensures in
    let to = glue_in m a b (to_cell m g.S.Sums.takes a b o p f.held_left f.worth) in
    let held : c.if-self-2.with_held ≡ cond f.held_right (m.join (Fold o) to (value_in m b (pos 0) (pos 0) (held_in p))) to = elim c.if-self-2.branch [
      | then-self-2 w ↦ search rules
      | else-self-2 w ↦ search rules
    ] in
    open_taken m g.S.Sums.takes a b o p f.held_left f.held_right f.worth c.requires.fits c.if-self-2.with_held c.open-2.result held c.open-2.ensures

pub returns : goal.returns
returns g c =
    let f = c.args.self in let m = g.S.Sums.values in let o = g.K.Folding.fold c.args.k in let p = g.P.Registers.part in
    let a = ends_in c.args.left in let b = ends_in c.args.right in
    let opened : c.if-self.opened ≡ cond f.held_left (m.join (Fold o) (value_in m a (pos 0) (pos 0) (held_in p)) (value_in m a (pos 0) (pos 0) (open_in p)))
    (value_in m a (pos 0) (pos 0) (open_in p)) = elim c.if-self.branch [
      | then-self w ↦ search rules
      | else-self w ↦ search rules
    ] in
    let left = opened ∙ sym (glue_if m g.S.Sums.takes a b o f.held_left (With (Fold o) (Left (held_in p)) (Left (open_in p))) (Left (open_in p))) in
    let with_cell : c.folded-with_cell.result ≡ glue_in m a b (to_cell m g.S.Sums.takes a b o p f.held_left f.worth) =
    c.folded-with_cell.ensures ∙ ap (λ z. m.join (Fold o) z c.cell.result) left
    ∙ ap (m.join (Fold o) (glue_in m a b (left_of m g.S.Sums.takes a b o p f.held_left))) c.cell.ensures in
    let to = glue_in m a b (to_cell m g.S.Sums.takes a b o p f.held_left f.worth) in
    let held : c.if-self-2.with_held ≡ cond f.held_right (m.join (Fold o) to (value_in m b (pos 0) (pos 0) (held_in p))) to = elim c.if-self-2.branch [
      | then-self-2 w ↦ search rules
      | else-self-2 w ↦ search rules
    ] in
    between_steps m g.S.Sums.takes a b o p f.held_left f.held_right f.worth c.if-self-2.with_held c.open-2.result
    c.folded.result held c.open-2.ensures c.folded.ensures

use Rattle.std.proofs.Common.{rules, vec_len, length, ◌≡◌, ◌∙◌, ◌-◌, ◌++◌, ◌∷◌, [], ap, sym, subst, take, set, refl, arith, w64, to_z, of_z}
use Rattle.std.proofs.lemmas.Int.{to_z-of_z}
use Rattle.ts_base.specs.Limits.{IsCellValue}
use Rattle.ts_automaton.specs.AutomatonRun.{after, answer, standing_of}
use Rattle.ts_glue.specs.Machines.{forward_of, pair_of}
use Rattle.ts_witness.specs.Witnesses.{series_of}
use Rattle.ts_witness.proofs.Changed.{value_told}
use Rattle.ts_witness.proofs.witness.Witness.known_value_with.Goals as goal

pub returns : goal.returns
returns c =
    let xs = series_of c.args.self.now in
    let m = c.args.m.now in
    let i = c.args.k - 1 in
    let j = c.len-n.result - c.args.k in
    let v = to_z w64 (of_z w64 c.args.v) in
    let v_is : v ≡ c.args.v = to_z-of_z w64 c.args.v c.ranges.v in
    let count : vec_len c.args.self.now.ahead.cells ≡ length xs = search rules in
    let n = c.len-n.ensures ∙ count in
    value_told m xs i j v (omega (arith, c.requires.from, c.requires.to)) (omega (arith, c.requires.from, n)) c.requires.few c.requires.cells
    (subst IsCellValue (sym v_is) c.requires.value) (pair_of m) refl c.requires.split c.glue_value.result c.len-n.result (standing_of c.arrived-ahead.result)
    (standing_of c.arrived_behind-behind.result) n c.glue_value.ensures
    (c.arrived-ahead.ensures.value ∙ ap (λ b. after b (take i xs ++ v ∷ [])) c.forward.ensures)
    (λ p e. c.arrived_behind-behind.ensures.value p e ∙ ap (λ z. after p.reverse (take j z ++ v ∷ [])) c.requires.witness.mirror)
    ∙ ap (λ z. answer (forward_of m) (set xs i z)) v_is

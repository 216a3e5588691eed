use mir.Val.{SFits}
use Rattle.std.specs.Prelude.{Contains}
use Rattle.std.proofs.Common.{◌≡◌, ◌⊎◌, ◌≤ℤ◌, None, false, inl, inr, w64, rules, sym, ap, ◌∙◌, subst, ℤ}
use Rattle.std.proofs.lemmas.Int.{to_z-of_z}
use Rattle.ts_bound.specs.Looks.{is_looked}
use Rattle.ts_filter.specs.CellHulls.{AtCell}
use Rattle.ts_filter.specs.KeptValue.{IsKept}
use Rattle.ts_filter.proofs.KeptLaws.{kept_by, kept_least}
use Rattle.ts_filter.proofs.SoundLaws.{clash}
use Rattle.ts_filter.proofs.box_tables.BoxTables.kept_value.Goals.{then-is_plain-via-then-is_plain, then-is_plain-via-else-is_plain+then-not-looks_at}
use Rattle.ts_filter.proofs.box_tables.BoxTables.kept_value.Goals as goal

pub returns-clause-kept : goal.returns-clause-kept
returns-clause-kept c =
    let fits : SFits w64 c.preferred.result = search rules in
    let a = c.args.self.now.machine in let b = c.args.cells.now.present in
    subst (λ (v : ℤ). IsKept a c.args.goal c.args.k b v) (sym (to_z-of_z w64 c.preferred.result fits))
    (kept_by c.hulls_at.result a b c.args.goal c.args.k c.preferred.result c.requires.looks
    (ap (λ (t : AtCell). t.machine) c.hulls_at.ensures ∙ c.in_ok-make_at.ensures.known.machine)
    (ap (λ (t : AtCell). t.cells) c.hulls_at.ensures) (ap (λ (t : AtCell). t.cell) c.hulls_at.ensures)
    (λ e. clash c.is_plain.result (c.is_plain.ensures.1 e) c.if-is_plain.false) c.requires.cell c.preferred.ensures.there c.preferred.ensures.best)

pub returns-then-is_plain-clause-kept : goal.returns-then-is_plain-clause-kept
returns-then-is_plain-clause-kept c =
    let a = c.args.self.now.machine in let b = c.args.cells.now.present in
    let fits : SFits w64 c.least.result = search rules in
    let why : (a.pair ≡ None) ⊎ (is_looked a.window c.args.k ≡ false) = elim c.then-is_plain.branch [
      | then-is_plain-via-then-is_plain w ↦ inl (c.is_plain.ensures.0 w.if-is_plain.true)
      | then-is_plain-via-else-is_plain+then-not-looks_at w ↦ inr (sym w.looks_at.ensures ∙ w.if-not-looks_at.true)
    ] in
    subst (λ (v : ℤ). IsKept a c.args.goal c.args.k b v) (sym (to_z-of_z w64 c.least.result fits))
    (kept_least a c.args.goal c.args.k b c.least.result c.requires.looks why c.requires.cell
    (subst (λ vs. Contains vs c.least.result) c.cell.ensures c.least.ensures.there)
    (subst (λ vs. (u : ℤ) → Contains vs u → c.least.result ≤ℤ u) c.cell.ensures c.least.ensures.least))

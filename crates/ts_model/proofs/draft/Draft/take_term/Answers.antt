use Rattle.std.proofs.Common.{◌∙◌, Err, sym, ap, subst, refl, arith}
use Rattle.std.specs.Prelude.{is_some, option_map}
use Rattle.std.proofs.lemmas.List.{length-map}
use Rattle.ts_model.specs.Cells.{in_force}
use Rattle.ts_model.specs.ModelParts.{window_made}
use Rattle.ts_model.specs.Views.{Gives, draft_parts, parts_of, range_in}
use Rattle.ts_model.proofs.Takes.{took_term, full_term, twice_term, names_stop, tail_stops, follows_term, few_terms, many_terms}
use Rattle.ts_model.proofs.draft.Draft.take_term.Goals as goal

-- the cells are as many as their own domains, so they are few
pub window_of-requires : goal.window_of-requires
window_of-requires c =
    let cells = c.args.self.now.cells in
    let many = length-map cells.own.items (in_force cells.common_turn cells.common) in
    let few = c.requires.sound.cells.few in
    let counted = c.len.ensures in
    omega (arith, many, few, counted)

-- the refusals of its tail, of its names and of its own name
pub returns-in_err-window-clause-taken : goal.returns-in_err-window-clause-taken
returns-in_err-window-clause-taken c =
    let d = c.args.self.now in
    let stop = c.in_err-window.field-0.0 in
    tail_stops (λ (u : Unit {0}). draft_parts d) d.cells.limited (draft_parts d) c.args.name.now c.args.tail c.args.parts stop c.from_residual.result
    (subst (λ n. Gives (option_map range_in) (Err stop) (window_made n c.args.tail)) c.len.ensures c.in_err-window.ensures)
    (sym c.has_cells.ensures ∙ c.if-not-has_cells.false) c.from_residual.ensures.1

pub returns-in_err-term-clause-taken : goal.returns-in_err-term-clause-taken
returns-in_err-term-clause-taken c =
    let d = c.args.self.now in
    names_stop (λ (u : Unit {0}). draft_parts d) d.cells.limited (draft_parts d) c.args.name.now c.args.tail (option_map range_in c.in_ok-window.window)
    c.args.parts c.in_err-term.field-0.0 c.from_residual-in_err-term.result
    (ap (λ n. window_made n c.args.tail) (sym c.len.ensures) ∙ c.in_ok-window.ensures) c.in_err-term.ensures
    (sym c.has_cells.ensures ∙ c.if-not-has_cells.false) c.from_residual-in_err-term.ensures.1

pub returns-then-is_some-clause-taken : goal.returns-then-is_some-clause-taken
returns-then-is_some-clause-taken c =
    let d = c.args.self.now in
    twice_term d.cells.limited (draft_parts d) c.args.name.now c.args.tail (option_map range_in c.in_ok-window.window) c.args.parts
    (parts_of c.in_ok-term.term) (ap (λ n. window_made n c.args.tail) (sym c.len.ensures) ∙ c.in_ok-window.ensures) c.in_ok-term.ensures
    (sym c.has_cells.ensures ∙ c.if-not-has_cells.false) (sym (ap is_some c.term_at.ensures) ∙ sym c.is_some.ensures ∙ c.if-is_some.true)

-- one more term would be too many
pub returns-then-len-ge-TERMS-clause-taken : goal.returns-then-len-ge-TERMS-clause-taken
returns-then-len-ge-TERMS-clause-taken c =
    let d = c.args.self.now in
    full_term d.cells.limited (draft_parts d) c.args.name.now c.args.tail (option_map range_in c.in_ok-window.window) c.args.parts
    (parts_of c.in_ok-term.term) (ap (λ n. window_made n c.args.tail) (sym c.len.ensures) ∙ c.in_ok-window.ensures) c.in_ok-term.ensures
    (sym c.has_cells.ensures ∙ c.if-not-has_cells.false) (sym (ap is_some c.term_at.ensures) ∙ sym c.is_some.ensures ∙ c.if-is_some.false)
    (many_terms d.terms.entries d.windows.items c.len-2.result (omega arith) c.len-2.ensures.len)

pub returns-clause-taken : goal.returns-clause-taken
returns-clause-taken c =
    took_term c.args.self.now.cells.limited c.args.self.now c.args.name.now c.args.tail c.args.parts c.in_ok-window.window c.in_ok-term.term
    c.in_ok-name.name c.insert.new.self.entries c.push.new.self.items (sym c.has_cells.ensures ∙ c.if-not-has_cells.false)
    (ap (λ n. window_made n c.args.tail) (sym c.len.ensures) ∙ c.in_ok-window.ensures) c.in_ok-term.ensures
    (sym (ap is_some c.term_at.ensures) ∙ sym c.is_some.ensures ∙ c.if-is_some.false)
    (few_terms c.args.self.now.terms.entries c.args.self.now.windows.items c.len-2.result (omega arith) c.len-2.ensures.len) c.requires.sound.windows
    c.in_ok-name.ensures.ok c.in_ok-insert.ensures.entries c.in_ok-push.ensures.items

pub returns-clause-follows : goal.returns-clause-follows
returns-clause-follows c =
    follows_term c.args.self.now _ c.args.name.now c.in_ok-term.term c.in_ok-window.window c.in_ok-name.name c.len-2.result c.requires.sound (omega arith)
    c.len-2.ensures.len c.in_ok-name.ensures.ok (sym (ap is_some c.term_at.ensures) ∙ sym c.is_some.ensures ∙ c.if-is_some.false)
    c.in_ok-insert.ensures.entries c.in_ok-push.ensures.items refl

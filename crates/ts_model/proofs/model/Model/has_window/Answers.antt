use Rattle.std.proofs.Common.{◌≡◌, ◌+◌, length, drop, ap, sym, ◌∙◌, arith}
use Rattle.std.specs.Prelude.{◌||◌}
use Rattle.ts_model.specs.Views.{terms_in}
use Rattle.ts_model.proofs.TermWindows.{any_window, no_more, window_next, windows_count}
use Rattle.ts_model.proofs.model.Model.has_window.Goals as goal

-- this term has one, so there is one
pub returns-then-is_some : goal.returns-then-is_some
returns-then-is_some c =
    let es = terms_in c.args.self.now in
    let k = c.loop-k.k in
    ap (λ b. b || any_window (drop (k + 1) es)) (sym c.if-is_some.true ∙ c.is_some.ensures) ∙ sym (window_next es k c.term.result c.term.ensures)
    ∙ c.loop-k.invariant

-- it has none, so one of the others has it
pub loop-k-preserved : goal.loop-k-preserved
loop-k-preserved c =
    let es = terms_in c.args.self.now in
    let k = c.loop-k.k in
    ap (λ b. b || any_window (drop (k + 1) es)) (sym c.if-is_some.false ∙ c.is_some.ensures) ∙ sym (window_next es k c.term.result c.term.ensures)
    ∙ c.loop-k.invariant

pub returns : goal.returns
returns c =
    let many = windows_count c.args.self.now.terms.entries c.args.self.now.windows.items in
    let over = c.loop-k-test.false in
    let count : c.len-k-end.result ≡ length c.args.self.now.terms.entries = c.len-k-end.ensures.len in
    sym (no_more (terms_in c.args.self.now) c.loop-k.k (omega (arith, many, over, count))) ∙ c.loop-k.invariant

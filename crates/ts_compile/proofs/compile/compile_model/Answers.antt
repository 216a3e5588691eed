use Rattle.std.proofs.Common.{◌≡◌, ◌++◌, ◌∷◌, [], ◌∙◌, ap, arith, length, map}
use Rattle.std.proofs.lemmas.List.{length-map, map-append}
use Rattle.ts_base.specs.Limits.{most_cells}
use Rattle.ts_base.proofs.WindowLaws.{inside_longer}
use Rattle.ts_glue.specs.Machines.{forward_of, pair_of, window_of}
use Rattle.ts_model.specs.Views.{terms_in}
use Rattle.ts_model.proofs.TermWindows.{windows_count}
use Rattle.ts_compile.specs.Compiled.{machine_body, machine_pair}
use Rattle.ts_compile.specs.Programs.{terms_of, windows_of}
use Rattle.ts_compile.proofs.JudgeLaws.{taken}
use Rattle.ts_compile.proofs.Terms.{all_taken, looks_there, machine_made, seen_there, term_taken}
use Rattle.ts_compile.proofs.compile.compile_model.Goals as goal

pub compile_over-requires : goal.compile_over-requires
compile_over-requires c =
    let m = c.args.m.now in
    inside_longer (length m.cells.items) most_cells c.term-term.result.window c.requires.few
    (looks_there (length m.cells.items) (terms_in m) c.loop-k.k c.term-term.result c.term-term.ensures c.requires.windows)

pub loop-k-preserved : goal.loop-k-preserved
loop-k-preserved c =
    let t = c.term-term.result in
    let entries = terms_in c.args.m.now in
    let m = c.in_ok-compile_over.field-0 in
    let terms = c.loop-k.terms.items in
    let machines = c.loop-k.machines.items in
    let more = c.push-in-loop-k.new.self.items in
    let all = c.push.new.self.items in (
      machine_made forward_of machine_body machines all terms more m t.term c.in_ok-compile_over.ensures.body c.in_ok-push.ensures.items
          c.in_ok-push-2.ensures.items c.loop-k.invariant.0,
      machine_made pair_of machine_pair machines all terms more m t.term c.in_ok-compile_over.ensures.pair c.in_ok-push.ensures.items
          c.in_ok-push-2.ensures.items c.loop-k.invariant.1,
      term_taken (terms_of c.args.m.now) terms more c.loop-k.k t.term (seen_there (λ e. e.1) (λ t. t.term) entries c.loop-k.k t c.term-term.ensures)
          c.in_ok-push-2.ensures.items c.loop-k.invariant.2,
      taken (windows_of c.args.m.now) (map window_of machines) (map window_of all) c.loop-k.k t.window
          (seen_there (λ e. e.1) (λ t. t.window) entries c.loop-k.k t c.term-term.ensures) c.loop-k.invariant.3
          (ap (map window_of) c.in_ok-push.ensures.items ∙ map-append window_of machines (m ∷ [])
          ∙ ap (λ w. map window_of machines ++ w ∷ []) c.in_ok-compile_over.ensures.window),
    )

-- after the last term all are there
pub returns : goal.returns
returns c =
    let m = c.args.m.now in
    let many = windows_count m.terms.entries m.windows.items in
    let terms = length-map (terms_in m) (λ e. e.1.term) in
    let windows = length-map (terms_in m) (λ e. e.1.window) in
    let over = c.loop-k-test.false in
    let count : c.len-k-end.result ≡ length m.terms.entries = c.len-k-end.ensures.len in record {
      terms = all_taken (terms_of m) c.loop-k.terms.items c.loop-k.k (omega (arith, many, terms, over, count)) c.loop-k.invariant.2;
      windows = all_taken (windows_of m) (map window_of c.loop-k.machines.items) c.loop-k.k (omega (arith, many, windows, over, count)) c.loop-k.invariant.3;
    }

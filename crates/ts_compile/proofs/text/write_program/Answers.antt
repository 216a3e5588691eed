use Rattle.std.proofs.Common.{◌≡◌, Some, length, ap, sym, ◌∙◌, arith}
use Rattle.std.specs.Prelude.{slice_get}
use Rattle.std.proofs.lemmas.Option.{slice_get-get_or}
use Rattle.ts_glue.specs.Machines.{forward_of, pair_of}
use Rattle.ts_model.specs.Views.{terms_in}
use Rattle.ts_model.proofs.TermWindows.{keys_stay}
use Rattle.ts_compile.specs.Compiled.{machine_body, machine_pair}
use Rattle.ts_compile.proofs.Terms.{seen_there}
use Rattle.ts_compile.proofs.Texts.{part_written, same_at, term_at_machine}
use Rattle.ts_compile.proofs.text.write_program.Goals as goal

pub term-requires : goal.term-requires
term-requires c =
    term_at_machine c.args.p.now c.args.m.now c.machines-machines.result.now c.loop-k.k c.requires c.machines-machines.ensures c.loop-k-test.true

pub index-requires : goal.index-requires
index-requires c =
    let names : length c.keys-names.result ≡ length c.args.m.now.terms.entries = c.keys-names.ensures.len in
    let there =
    term_at_machine c.args.p.now c.args.m.now c.machines-machines.result.now c.loop-k.k c.requires c.machines-machines.ensures c.loop-k-test.true in
    omega (arith, names, there)

pub loop-k-preserved : goal.loop-k-preserved
loop-k-preserved c =
    let p = c.args.p.now in
    let k = c.loop-k.k in
    let name = c.index.result.now in
    let t = c.term.result in
    let m = c.index-machines-k.result in
    let entries = terms_in c.args.m.now in
    let named = ap (λ names. slice_get names k) (keys_stay c.args.m.now.terms.entries c.args.m.now.windows.items ∙ sym c.keys-names.ensures.rest)
    ∙ c.index.ensures in
    let found = ap (λ ms. slice_get ms k) (sym c.machines-machines.ensures)
    ∙ slice_get-get_or c.machines-machines.result.now k m c.loop-k-test.true
    ∙ ap Some (sym c.index-machines-k.is) in
    let termed = ap (λ terms. slice_get terms k) c.requires.terms ∙ seen_there (λ e. e.1) (λ t. t.term) entries k t c.term.ensures in
    let body = same_at forward_of machine_body p.machines.items p.terms.items k m t.term p.bodies found termed in
    let split = same_at pair_of machine_pair p.machines.items p.terms.items k m t.term p.pairs found termed in
    part_written entries k name t (forward_of m) (pair_of m) c.loop-k.text.items c.push_part.new.text.items _
    named c.term.ensures body split c.in_ok-push_part.ensures c.loop-k.invariant

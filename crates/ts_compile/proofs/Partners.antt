-- Every term whose pattern has a partner.
use Rattle.std.specs.Prelude.{◌≡◌, true, length}
use Rattle.std.proofs.lemmas.Bool.{leb-true}
use Rattle.std.proofs.Common.{arith}
use Rattle.ts_pattern.specs.PatternTable.{pattern_a}
use Rattle.ts_decorate.specs.Answers.{longest}
use Rattle.ts_seed.specs.SeedTable.{seed_table}
use Rattle.ts_glue.specs.Glued.{Local, LocalUpTo}
use Rattle.ts_glue.specs.Pairs.{Pair}
use Rattle.ts_glue.specs.Rules.{keeps_rules, IsGluing}
use Rattle.ts_compile.specs.TermPairs.{ForPartners, pair_by}
use Rattle.ts_compile.proofs.Tests.{are_fitting_is}
use Rattle.ts_compile.proofs.Patterns.{is_pair, tested, term_is}
use Rattle.ts_compile.proofs.Local.{is_local}

shorter : (p : Pair) → LocalUpTo longest p → Local p
shorter p h xs some short cells = h xs some (omega (arith, short)) cells

pub terms_keep_rules : ForPartners (λ id partner g f. keeps_rules (pair_by id partner g f) ≡ true)
terms_keep_rules id partner h g f = term_is (λ g f. keeps_rules (pair_by id partner g f)) (tested id partner h).3 g f

pub terms_are_local : ForPartners (λ id partner g f. LocalUpTo longest (pair_by id partner g f))
terms_are_local id partner h g f =
    let x = tested id partner h in
    let fs = (seed_table id).rows in
    let bs = (seed_table partner).rows in
    let js = (seed_table id).joins in
    is_local (pattern_a id) js fs bs (are_fitting_is (pattern_a id) (is_pair js) fs bs x.0)
    (leb-true (length fs) 8 x.1) (leb-true (length bs) 8 x.2) g f

pub terms_glue : ForPartners (λ id partner g f. IsGluing (pair_by id partner g f))
terms_glue id partner h g f =
    (terms_keep_rules id partner h g f, shorter (pair_by id partner g f) (terms_are_local id partner h g f))

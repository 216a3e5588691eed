use Rattle.std.proofs.Common.{refl, subst}
use Rattle.ts_witness.specs.Letters.{ReadsLetters}
use Rattle.ts_witness.proofs.KnownValues.{new_beside, new_spared}
use Rattle.ts_witness.proofs.spared.Spared.new.Goals as goal

pub returns-clause-spared : goal.returns-clause-spared
returns-clause-spared c =
    λ r. new_spared _ _ c.nothing.result c.nothing.ensures.none (c.in_ok-each.ensures.items_if_clones_equal (λ y e. e)) refl c.requires c.args.m.now r
    (λ t. subst ReadsLetters c.forward-2.ensures (c.reads_letters-letters.ensures t))

pub returns-clause-beside : goal.returns-clause-beside
returns-clause-beside c =
    λ y. new_beside _ _ c.nothing.result c.nothing.ensures.time refl (c.in_ok-each.ensures.items_if_clones_equal (λ y e. e)) c.args.m.now y

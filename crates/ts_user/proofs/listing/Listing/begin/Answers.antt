use Rattle.std.proofs.Common.{◌∙◌, ◌∷◌, [], ap, refl}
use Rattle.ts_user.specs.Keys.{key_lists}
use Rattle.ts_user.proofs.Listings.{first_one, first_words, first_key}
use Rattle.ts_user.proofs.listing.Listing.begin.Goals as goal

pub returns-clause-begun : goal.returns-clause-begun
returns-clause-begun c = record {
  blank = record { state = 0; live = c.new.result };
  alone = first_one _ _ _ c.in_ok-push.ensures.configurations c.requires.configurations;
  start = refl;
  empty = c.new.ensures.items;
  signatures = first_words _ _ _ c.in_ok-push.ensures.signatures c.requires.signatures c.new-2.ensures.items;
  keys = ap key_lists c.in_ok-push.ensures.keys ∙ first_key _ _ _ _ c.requires.keys c.in_ok-place.ensures ∙ ap (λ z. z ∷ []) c.in_ok-key.ensures;
}

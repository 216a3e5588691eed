use Rattle.std.proofs.Common.{◌≡◌, Some, sym, subst}
use Rattle.std.specs.Prelude.{◌↔◌}
use Rattle.ts_pattern.specs.Names.{pattern_name}
use Rattle.ts_pattern.proofs.Names.{found_name}
use Rattle.ts_pattern.proofs.name.pattern_of.Goals as goal

pub returns : goal.returns
returns c = λ id. subst (λ r. (r ≡ Some id) ↔ (pattern_name id ≡ c.args.word.now)) (sym c.find_name.ensures) (found_name c.args.word.now id)

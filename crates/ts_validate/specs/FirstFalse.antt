-- The first letter, in the order `<`, `=`, `>`, of which the answer is false.
use Rattle.std.specs.Prelude.{Bool, true, false, Option, None, Some}
use Rattle.ts_base.specs.declared.letter.Letter.{Letter}
use Rattle.ts_base.specs.declared.letter.Letter.TheVariants.{Less, Equal, Greater}

abbrev pub first_false : Bool → Bool → Bool → Option Letter
first_false false b c = Some Less
first_false true false c = Some Equal
first_false true true false = Some Greater
first_false true true true = None

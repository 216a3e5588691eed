-- A name is ASCII text.
use Rattle.std.proofs.Common.{◌≡◌, ℕ, length, ◌<◌, true, ◌&&◌, List, [], ◌∷◌, get_or, arith, IsUtf8, zero, suc}
use Rattle.std.specs.Prelude.{nat_le}
use Rattle.std.specs.List.{list_all}
use Rattle.std.specs.Str.{IsAscii}
use Rattle.std.proofs.lemmas.Str.{IsUtf8-from_ascii}
use Rattle.std.proofs.lemmas.Bool.Decides.{nat_tests}
use Rattle.std.proofs.lemmas.Bool.{and_parts}
use Rattle.ts_model.specs.Words.{is_letter, is_name_byte, is_name}

letter_small : (b : ℕ) → is_letter b ≡ true → b < 128
unfolding is_letter
letter_small b h = grind (arith, nat_tests)

byte_small : (b : ℕ) → is_name_byte b ≡ true → b < 128
unfolding is_name_byte is_letter
byte_small b h = grind (arith, nat_tests)

all_small : (bs : List ℕ) → list_all is_name_byte bs ≡ true → (i : ℕ) → get_or bs i 0 < 128
all_small [] h i = omega arith
all_small (b ∷ bs) h zero = byte_small b (and_parts (is_name_byte b) (list_all is_name_byte bs) h).0
all_small (b ∷ bs) h (suc i) = all_small bs (and_parts (is_name_byte b) (list_all is_name_byte bs) h).1 i

pub name_is_text : (bs : List ℕ) → is_name bs ≡ true → IsUtf8 bs
unfolding is_name
name_is_text [] h = cc
name_is_text (b ∷ bs) h = IsUtf8-from_ascii (b ∷ bs) (small (and_parts (is_letter b) _ h))
  where
    small : (is_letter b ≡ true) × ((list_all is_name_byte bs && nat_le (length bs) 31) ≡ true) → IsAscii (b ∷ bs)
    small p zero = letter_small b p.0
    small p (suc i) = all_small bs (and_parts (list_all is_name_byte bs) (nat_le (length bs) 31) p.1).0 i

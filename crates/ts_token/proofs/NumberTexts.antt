-- A word is a number exactly where it is what is written for that number.
use Rattle.std.proofs.Common.{◌≡◌, ◌≢◌, ℕ, suc, zero, ◌+◌, ◌-◌, ◌*◌, ◌^◌, ◌<◌, ◌≤◌, ◌==◌, Bool, true, false, cond, Option, Some, None, List, [], ◌∷◌, length, get_or, refl, sym, ap, subst, ◌∙◌, arith, rules, nat_le}
use Rattle.std.specs.Int.{w64}
use Rattle.std.specs.Prelude.{ℤ, pos, negsuc, FitsSigned, IfSome, IfNone}
use Rattle.std.specs.Int.Signed.{mag}
use Rattle.std.specs.Fmt.{decimal, signed_decimal}
use Rattle.std.proofs.lemmas.Str.Parse.{IsNumeralModel, numerals_by_fold, IsDigitsTest, FoldsDigits}
use Rattle.std.proofs.lemmas.Fmt.{digits_decimal, digits_value-decimal, decimal-digits_value, decimal_nonempty, first_decimal, decimal_digit}
use Rattle.ts_token.specs.Number.{is_digit, digits_from, unsigned_number, at_most, nonnegative_number, negative_number, number_of}

-- all bytes are digits, and their number
abbrev all_digits : List ℕ → Bool
all_digits [] = true
all_digits (b ∷ bs) = cond (is_digit b) (all_digits bs) false

abbrev value_from : ℕ → List ℕ → ℕ
value_from n [] = n
value_from n (b ∷ bs) = value_from (n * 10 + (b - 48)) bs

abbrev AreDigits : List ℕ → Type 0
AreDigits ds = all_digits ds ≡ true

tells : IsDigitsTest AreDigits
tells = search rules

folds : FoldsDigits value_from
folds = search rules

numerals : IsNumeralModel AreDigits (value_from 0)
numerals = numerals_by_fold AreDigits tells value_from folds

digits_step : (n b : ℕ) (bs : List ℕ) (t : Bool) → (all_digits bs ≡ true → digits_from (n * 10 + (b - 48)) bs ≡ Some (value_from (n * 10 + (b - 48)) bs)) →
    cond t (all_digits bs) false ≡ true →
    cond t (digits_from (n * 10 + (b - 48)) bs) None ≡ Some (value_from (n * 10 + (b - 48)) bs)
digits_step n b bs true ih h = ih h
digits_step n b bs false ih h = cc

digits_read : (n : ℕ) (ds : List ℕ) → all_digits ds ≡ true → digits_from n ds ≡ Some (value_from n ds)
digits_read n [] h = refl
digits_read n (b ∷ bs) h = digits_step n b bs (is_digit b) (digits_read (n * 10 + (b - 48)) bs) h

abbrev IsRead : ℕ → List ℕ → ℕ → Type 0
IsRead n ds m = (all_digits ds ≡ true) × (value_from n ds ≡ m)

only_step : (n b m : ℕ) (bs : List ℕ) (t : Bool) → (digits_from (n * 10 + (b - 48)) bs ≡ Some m → IsRead (n * 10 + (b - 48)) bs m) →
    cond t (digits_from (n * 10 + (b - 48)) bs) None ≡ Some m →
    (cond t (all_digits bs) false ≡ true) × (value_from (n * 10 + (b - 48)) bs ≡ m)
only_step n b m bs true ih h = ih h
only_step n b m bs false ih h = cc

some_is : (n m : ℕ) → Some n ≡ Some m → n ≡ m
some_is n m h = cc

digits_only : (n m : ℕ) (ds : List ℕ) → digits_from n ds ≡ Some m → IsRead n ds m
digits_only n m [] h = (refl, some_is n m h)
digits_only n m (b ∷ bs) h = only_step n b m bs (is_digit b) (digits_only (n * 10 + (b - 48)) m bs) h

-- digits without a leading zero
unsigned_read : (m : ℕ) (ds : List ℕ) → digits_from 0 ds ≡ Some m → 0 < length ds → (get_or ds 0 0 ≡ 48 → length ds ≡ 1) → unsigned_number ds ≡ Some m
unsigned_read m [] h some lead = absurd (omega arith)
unsigned_read m (b ∷ []) h some lead = h
unsigned_read m (b ∷ c ∷ bs) h some lead = go (b == 48) refl where
  go : (t : Bool) → b == 48 ≡ t → cond t None (digits_from 0 (b ∷ c ∷ bs)) ≡ Some m
  go true e = absurd (grind (arith, lead))
  go false e = h

abbrev IsUnsigned : List ℕ → ℕ → Type 0
IsUnsigned ds m = (digits_from 0 ds ≡ Some m) × (0 < length ds) × (get_or ds 0 0 ≡ 48 → length ds ≡ 1)

unsigned_only : (m : ℕ) (ds : List ℕ) → unsigned_number ds ≡ Some m → IsUnsigned ds m
unsigned_only m [] h = cc
unsigned_only m (b ∷ []) h = (h, omega arith, λ e. refl)
unsigned_only m (b ∷ c ∷ bs) h = go (b == 48) refl h where
  go : (t : Bool) → b == 48 ≡ t → cond t None (digits_from 0 (b ∷ c ∷ bs)) ≡ Some m → IsUnsigned (b ∷ c ∷ bs) m
  go true e h = cc
  go false e h = (h, omega arith, λ k. absurd (grind arith))

-- the digits of a number have no leading zero
leads : (n : ℕ) → n < 2 ^ 64 → get_or (decimal n) 0 0 ≡ 48 → length (decimal n) ≡ 1
leads zero fits e = ap length (decimal_digit 0 (omega arith))
leads (suc n) fits e = absurd (omega (arith, first_decimal (suc n) (omega arith) fits, e))

decimal_digits : (n : ℕ) → n < 2 ^ 64 → all_digits (decimal n) ≡ true
decimal_digits n fits = digits_decimal numerals n fits

unsigned_decimal : (n : ℕ) → n < 2 ^ 64 → unsigned_number (decimal n) ≡ Some n
unsigned_decimal n fits =
    unsigned_read n (decimal n) (digits_read 0 (decimal n) (decimal_digits n fits) ∙ ap (λ (k : ℕ). Some k) (digits_value-decimal numerals n fits))
    (decimal_nonempty n fits) (leads n fits)

decimal_unsigned : (n : ℕ) (ds : List ℕ) → n < 2 ^ 64 → unsigned_number ds ≡ Some n → ds ≡ decimal n
decimal_unsigned n ds fits h =
    let parts = unsigned_only n ds h in
    let read = digits_only 0 n ds parts.0 in
    sym (decimal-digits_value numerals ds read.0 parts.1 parts.2 (omega (arith, read.1, fits))) ∙ ap decimal read.1

-- a number that keeps the limit
within_limit : (limit n : ℕ) → n ≤ limit → at_most limit (Some n) ≡ Some n
within_limit limit n h = go (nat_le n limit) refl where
  go : (t : Bool) → nat_le n limit ≡ t → cond t (Some n) None ≡ Some n
  go true e = refl
  go false e = absurd (grind arith)

-- no digit is a minus
without_minus : (n : ℕ) (ds : List ℕ) → n < 2 ^ 63 → all_digits ds ≡ true → unsigned_number ds ≡ Some n → number_of ds ≡ Some (pos n)
without_minus n [] fits digits h = cc
without_minus n (b ∷ bs) fits digits h = go (b == 45) refl where
  go : (t : Bool) → b == 45 ≡ t → cond t (negative_number (at_most 9223372036854775808 (unsigned_number bs)))
      (nonnegative_number (at_most 9223372036854775807 (unsigned_number (b ∷ bs))))
      ≡ Some (pos n)
  go true e =
      let minus : b ≡ 45 = grind arith in
      let wrong : false ≡ true = subst (λ (x : ℕ). all_digits (x ∷ bs) ≡ true) minus digits in
      cc
  go false e = ap (λ (o : Option ℕ). nonnegative_number (at_most 9223372036854775807 o)) h
      ∙ ap nonnegative_number (within_limit 9223372036854775807 n (omega (arith, fits)))

pub number_written : (n : ℤ) → mag n < 2 ^ 63 → number_of (signed_decimal n) ≡ Some n
number_written (pos n) fits = without_minus n (decimal n) fits (decimal_digits n (omega (arith, fits))) (unsigned_decimal n (omega (arith, fits)))
number_written (negsuc n) fits =
    ap (λ (o : Option ℕ). negative_number (at_most 9223372036854775808 o)) (unsigned_decimal (suc n) (omega (arith, fits)))
    ∙ ap negative_number (within_limit 9223372036854775808 (suc n) (omega (arith, fits)))

abbrev IsWritten : List ℕ → ℤ → Type 0
IsWritten word n = (word ≡ signed_decimal n) × (mag n < 2 ^ 63)

negative_only : (ds : List ℕ) (n : ℤ) (o : Option ℕ) → unsigned_number ds ≡ o → negative_number (at_most 9223372036854775808 o) ≡ Some n → IsWritten (45 ∷ ds) n
negative_only ds n None e h = cc
negative_only ds n (Some zero) e h = cc
negative_only ds n (Some (suc m)) e h = go (nat_le (suc m) 9223372036854775808) refl h where
  go : (t : Bool) → nat_le (suc m) 9223372036854775808 ≡ t → negative_number (cond t (Some (suc m)) None) ≡ Some n → IsWritten (45 ∷ ds) n
  go true f h =
      let small : m < 2 ^ 63 = grind arith in
      let written : IsWritten (45 ∷ ds) (negsuc m) = (ap (λ (x : List ℕ). 45 ∷ x) (decimal_unsigned (suc m) ds (omega (arith, small)) e), small) in
      let same : negsuc m ≡ n = cc in
      subst (IsWritten (45 ∷ ds)) same written
  go false f h = cc

nonnegative_only : (ds : List ℕ) (n : ℤ) (o : Option ℕ) → unsigned_number ds ≡ o → nonnegative_number (at_most 9223372036854775807 o) ≡ Some n → IsWritten ds n
nonnegative_only ds n None e h = cc
nonnegative_only ds n (Some m) e h = go (nat_le m 9223372036854775807) refl h where
  go : (t : Bool) → nat_le m 9223372036854775807 ≡ t → nonnegative_number (cond t (Some m) None) ≡ Some n → IsWritten ds n
  go true f h =
      let small : m < 2 ^ 63 = grind arith in
      let written : IsWritten ds (pos m) = (decimal_unsigned m ds (omega (arith, small)) e, small) in
      let same : pos m ≡ n = cc in
      subst (IsWritten ds) same written
  go false f h = cc

pub written_number : (word : List ℕ) (n : ℤ) → number_of word ≡ Some n → (word ≡ signed_decimal n) × (mag n < 2 ^ 63)
written_number [] n h = cc
written_number (b ∷ bs) n h = go (b == 45) refl h where
  go : (t : Bool) → b == 45 ≡ t → cond t (negative_number (at_most 9223372036854775808 (unsigned_number bs)))
      (nonnegative_number (at_most 9223372036854775807 (unsigned_number (b ∷ bs)))) ≡ Some n →
      IsWritten (b ∷ bs) n
  go true e h =
      let minus : b ≡ 45 = grind arith in
      subst (λ (x : ℕ). IsWritten (x ∷ bs) n) (sym minus) (negative_only bs n (unsigned_number bs) refl h)
  go false e h = nonnegative_only (b ∷ bs) n (unsigned_number (b ∷ bs)) refl h

-- what is read is what is written for the number
pub read_is_written : (word : List ℕ) (read : Option ℤ) → read ≡ number_of word → IfSome read (λ n. word ≡ signed_decimal n)
read_is_written word None e = tt
read_is_written word (Some n) e = (written_number word n (sym e)).0

-- where nothing is read, no number is written so
pub none_is_written : (word : List ℕ) (read : Option ℤ) → read ≡ number_of word → IfNone read ((n : ℤ) → FitsSigned w64 n → word ≢ signed_decimal n)
none_is_written word (Some n) e = tt
none_is_written word None e = λ n f same.
    let some : number_of word ≡ Some n = ap number_of same ∙ number_written n f.sfits in
    cc

-- A number within its range is read exactly from what is written for it, which has no space.
use Rattle.std.proofs.Common.{◌≡◌, ℕ, ◌+◌, ◌-◌, ◌*◌, ◌^◌, ◌<◌, ◌≤◌, Bool, true, false, not, cond, Option, Some, None, List, [], ◌∷◌, refl, sym, ap, subst, ◌∙◌, arith, nat_le, nat_lt, codes, ◌&&◌}
use Rattle.std.specs.Prelude.{ℤ, pos, negsuc, neg_ℤ, ◌==◌, int_le}
use Rattle.std.specs.Option.{option_map}
use Rattle.std.specs.Int.Signed.{mag}
use Rattle.std.specs.Fmt.{signed_decimal}
use Rattle.std.specs.Str.{bytes_eq}
use Rattle.std.proofs.lemmas.Bool.{eqb-true, and_parts}
use Rattle.std.proofs.lemmas.Bool.Decides.{nat_tests}
use Rattle.ts_base.specs.declared.ext.Ext.{Ext}
use Rattle.ts_base.specs.declared.ext.Ext.TheVariants.{NegInf, Int, PosInf}
use Rattle.ts_base.specs.Text.{ext_text}
use Rattle.ts_token.specs.Number.{is_digit, digits_from, unsigned_number, at_most, nonnegative_number, negative_number, number_of, ext_of}
use Rattle.ts_base.specs.Words.{is_lf, is_space}
use Rattle.ts_token.proofs.NumberTexts.{number_written, written_number}
use Rattle.ts_certificate.specs.Ranges.{count_text, is_value, only_value, value_of, only_whole, whole_of, is_count, only_count, count_of, is_ext}
use Rattle.ts_base.proofs.WordLaws.{is_inner, is_solid, keyword_or, different}
use Rattle.std.specs.Cmp.Derive.{both_true}

-- a digit ends neither a word nor a line, nor does a minus
not_digit : (b c : ℕ) → is_digit c ≡ false → is_digit b ≡ true → b == c ≡ false
not_digit b c wrong h = go (b == c) refl where
  go : (t : Bool) → b == c ≡ t → t ≡ false
  go true e = sym h ∙ ap is_digit (eqb-true b c e) ∙ wrong
  go false e = refl

digit_inner : (b : ℕ) → is_digit b ≡ true → is_inner b ≡ true
unfolding is_space is_lf
digit_inner b h = ap (λ v. not v && not (b == 10)) (not_digit b 32 refl h) ∙ ap (λ v. not v) (not_digit b 10 refl h)

minus_inner : is_inner 45 ≡ true
unfolding is_space is_lf
minus_inner = refl

solid_more : (b : ℕ) (bs : List ℕ) → is_inner b ≡ true → is_solid bs ≡ true → is_solid (b ∷ bs) ≡ true
solid_more b bs e h = both_true e h

digits_step : (n m b : ℕ) (bs : List ℕ) (t : Bool) → is_digit b ≡ t → (digits_from (n * 10 + (b - 48)) bs ≡ Some m → is_solid bs ≡ true) →
    cond t (digits_from (n * 10 + (b - 48)) bs) None ≡ Some m → is_solid (b ∷ bs) ≡ true
digits_step n m b bs true e later h = solid_more b bs (digit_inner b e) (later h)
digits_step n m b bs false e later h = cc

digits_solid : (n m : ℕ) (ds : List ℕ) → digits_from n ds ≡ Some m → is_solid ds ≡ true
digits_solid n m [] h = refl
digits_solid n m (b ∷ bs) h = digits_step n m b bs (is_digit b) refl (digits_solid (n * 10 + (b - 48)) m bs) h

unsigned_solid : (m : ℕ) (ds : List ℕ) → unsigned_number ds ≡ Some m → is_solid ds ≡ true
unsigned_solid m [] h = cc
unsigned_solid m (b ∷ []) h = digits_solid 0 m (b ∷ []) h
unsigned_solid m (b ∷ c ∷ bs) h = go (b == 48) h where
  go : (t : Bool) → cond t None (digits_from 0 (b ∷ c ∷ bs)) ≡ Some m → is_solid (b ∷ c ∷ bs) ≡ true
  go true k = cc
  go false k = digits_solid 0 m (b ∷ c ∷ bs) k

number_solid : (word : List ℕ) (n : ℤ) → number_of word ≡ Some n → is_solid word ≡ true
number_solid [] n h = cc
number_solid (b ∷ bs) n h = go (b == 45) refl h where
  minus : (o : Option ℕ) → unsigned_number bs ≡ o → b ≡ 45 → negative_number (at_most 9223372036854775808 o) ≡ Some n → is_solid (b ∷ bs) ≡ true
  minus None e is k = cc
  minus (Some m) e is k = solid_more b bs (ap is_inner is ∙ minus_inner) (unsigned_solid m bs e)

  plain : (o : Option ℕ) → unsigned_number (b ∷ bs) ≡ o → nonnegative_number (at_most 9223372036854775807 o) ≡ Some n → is_solid (b ∷ bs) ≡ true
  plain None e k = cc
  plain (Some m) e k = unsigned_solid m (b ∷ bs) e

  go : (t : Bool) → b == 45 ≡ t → cond t (negative_number (at_most 9223372036854775808 (unsigned_number bs)))
      (nonnegative_number (at_most 9223372036854775807 (unsigned_number (b ∷ bs)))) ≡ Some n →
      is_solid (b ∷ bs) ≡ true
  go true e k = minus (unsigned_number bs) refl (eqb-true b 45 e) k
  go false e k = plain (unsigned_number (b ∷ bs)) refl k

pub decimal_solid : (n : ℤ) → mag n < 2 ^ 63 → is_solid (signed_decimal n) ≡ true
decimal_solid n fits = number_solid (signed_decimal n) n (number_written n fits)

-- whole numbers
whole_step : (word : List ℕ) (o : Option ℤ) (n : ℕ) → number_of word ≡ o → only_whole o ≡ Some n → (word ≡ count_text n) × (n < 2 ^ 63)
whole_step word None n e h = cc
whole_step word (Some (negsuc m)) n e h = cc
whole_step word (Some (pos m)) n e h =
    let same : m ≡ n = cc in
    let P : ℕ → Type 0 = λ k. (word ≡ count_text k) × (k < 2 ^ 63) in
    subst P same (written_number word (pos m) e)

pub whole_only : (word : List ℕ) (n : ℕ) → whole_of word ≡ Some n → (word ≡ count_text n) × (n < 2 ^ 63)
whole_only word n h = whole_step word (number_of word) n refl h

pub whole_again : (n : ℕ) → n < 2 ^ 63 → whole_of (count_text n) ≡ Some n
whole_again n fits = ap only_whole (number_written (pos n) fits)

-- counts
pub count_only : (low high : ℕ) (word : List ℕ) (n : ℕ) → count_of low high word ≡ Some n → (word ≡ count_text n) × (is_count low high n ≡ true)
count_only low high word n h = some (whole_of word) refl h where
  test : (m : ℕ) (t : Bool) → whole_of word ≡ Some m → is_count low high m ≡ t → cond t (Some m) None ≡ Some n →
      (word ≡ count_text n) × (is_count low high n ≡ true)
  test m false e f k = cc
  test m true e f k =
      let same : m ≡ n = cc in
      (subst (λ (x : ℕ). word ≡ count_text x) same (whole_only word m e).0, subst (λ (x : ℕ). is_count low high x ≡ true) same f)

  some : (o : Option ℕ) → whole_of word ≡ o → only_count low high o ≡ Some n → (word ≡ count_text n) × (is_count low high n ≡ true)
  some None e k = cc
  some (Some m) e k = test m (is_count low high m) e refl k

pub count_small : (low high n : ℕ) → is_count low high n ≡ true → n ≤ high
count_small low high n h = let e = (and_parts (nat_le low n) (nat_le n high) h).1 in grind (arith, nat_tests)

pub count_again : (low high n : ℕ) → high < 2 ^ 63 → is_count low high n ≡ true → count_of low high (count_text n) ≡ Some n
count_again low high n fits h =
    let small = count_small low high n h in
    ap (only_count low high) (whole_again n (omega arith)) ∙ ap (λ v. cond v (Some n) None) h

-- values
value_small : (v : ℤ) → is_value v ≡ true → mag v < 2 ^ 63
value_small (pos n) h = let e = (and_parts (int_le (neg_ℤ (pos 1000000)) (pos n)) (int_le (pos n) (pos 1000000)) h).1 in grind (arith, nat_tests)
value_small (negsuc n) h = let e = (and_parts (int_le (neg_ℤ (pos 1000000)) (negsuc n)) (int_le (negsuc n) (pos 1000000)) h).0 in grind (arith, nat_tests)

pub value_only : (word : List ℕ) (v : ℤ) → value_of word ≡ Some v → (word ≡ signed_decimal v) × (is_value v ≡ true)
value_only word v h = some (number_of word) refl h where
  test : (u : ℤ) (t : Bool) → number_of word ≡ Some u → is_value u ≡ t → cond t (Some u) None ≡ Some v → (word ≡ signed_decimal v) × (is_value v ≡ true)
  test u false e f k = cc
  test u true e f k =
      let same : u ≡ v = cc in
      (subst (λ (x : ℤ). word ≡ signed_decimal x) same (written_number word u e).0, subst (λ (x : ℤ). is_value x ≡ true) same f)

  some : (o : Option ℤ) → number_of word ≡ o → only_value o ≡ Some v → (word ≡ signed_decimal v) × (is_value v ≡ true)
  some None e k = cc
  some (Some u) e k = test u (is_value u) e refl k

pub value_again : (v : ℤ) → is_value v ≡ true → value_of (signed_decimal v) ≡ Some v
value_again v h = ap only_value (number_written v (value_small v h)) ∙ ap (λ t. cond t (Some v) None) h

pub value_solid : (v : ℤ) → is_value v ≡ true → is_solid (signed_decimal v) ≡ true
value_solid v h = decimal_solid v (value_small v h)

pub count_solid : (low high n : ℕ) → high < 2 ^ 63 → is_count low high n ≡ true → is_solid (count_text n) ≡ true
count_solid low high n fits h =
    let small = count_small low high n h in
    decimal_solid (pos n) (omega arith)

-- numbers and infinities
abbrev IsExt : List ℕ → Ext → Type 0
IsExt word e = (word ≡ ext_text e) × (is_ext e ≡ true)

below : (n : ℕ) → n < 2 ^ 63 → nat_lt n 9223372036854775808 ≡ true
below n h = grind (arith, nat_tests)

ext_number : (word : List ℕ) (o : Option ℤ) (e : Ext) → number_of word ≡ o → option_map Int o ≡ Some e → IsExt word e
ext_number word None e f h = cc
ext_number word (Some n) e f h =
    let same : Int n ≡ e = cc in
    let written = written_number word n f in
    let here : IsExt word (Int n) = (written.0, below (mag n) written.1) in
    subst (IsExt word) same here

pub ext_only : (word : List ℕ) (e : Ext) → ext_of word ≡ Some e → (word ≡ ext_text e) × (is_ext e ≡ true)
unfolding ext_of
ext_only word e h =
    keyword_or (IsExt word e) word (codes "-inf") (Some NegInf) (cond (bytes_eq word (codes "+inf")) (Some PosInf) (option_map Int (number_of word))) e
    (λ is k. let same : NegInf ≡ e = cc in subst (IsExt word) same (is, refl))
    (keyword_or (IsExt word e) word (codes "+inf") (Some PosInf) (option_map Int (number_of word)) e
    (λ is k. let same : PosInf ≡ e = cc in subst (IsExt word) same (is, refl))
    (λ k. ext_number word (number_of word) e refl k))
    h

no_number : (text : List ℕ) (n : ℤ) → mag n < 2 ^ 63 → number_of text ≡ None → bytes_eq (signed_decimal n) text ≡ false
no_number text n fits none = different (signed_decimal n) text (λ is. let wrong : Some n ≡ None = sym (number_written n fits) ∙ ap number_of is ∙ none in cc)

pub fits_ext : (n : ℤ) → is_ext (Int n) ≡ true → mag n < 2 ^ 63
fits_ext n h = grind (arith, nat_tests)

pub ext_again : (e : Ext) → is_ext e ≡ true → ext_of (ext_text e) ≡ Some e
unfolding ext_of
ext_again NegInf h = refl
ext_again PosInf h = refl
ext_again (Int n) h =
    let fits = fits_ext n h in
    ap (λ v. cond v (Some NegInf) (cond (bytes_eq (signed_decimal n) (codes "+inf")) (Some PosInf) (option_map Int (number_of (signed_decimal n)))))
    (no_number (codes "-inf") n fits refl)
    ∙ ap (λ v. cond v (Some PosInf) (option_map Int (number_of (signed_decimal n)))) (no_number (codes "+inf") n fits refl)
    ∙ ap (option_map Int) (number_written n fits)

minus_inf_solid : is_solid (codes "-inf") ≡ true
unfolding is_space is_lf
minus_inf_solid = refl

plus_inf_solid : is_solid (codes "+inf") ≡ true
unfolding is_space is_lf
plus_inf_solid = refl

pub ext_solid : (e : Ext) → is_ext e ≡ true → is_solid (ext_text e) ≡ true
ext_solid NegInf h = minus_inf_solid
ext_solid (Int n) h = decimal_solid n (fits_ext n h)
ext_solid PosInf h = plus_inf_solid

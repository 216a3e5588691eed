-- What is read is within the limits: the parts of an input are no longer than it, and a series that was read has cells
-- from -1,000,000 to 1,000,000.
use Rattle.std.proofs.Common.{◌≡◌, ℕ, ◌<◌, ◌≤◌, ℤ, Bool, true, false, cond, Option, Some, None, Ok, Err, List, [], ◌∷◌, ◌++◌, length, refl, subst, arith, length-append}
use Rattle.std.specs.Prelude.{◌&&◌, nat_le, unwrap_or}
use Rattle.std.specs.Option.{option_map}
use Rattle.std.specs.Borrow.{Bor}
use Rattle.std.specs.List.{AllByRecursion, concat}
use Rattle.std.proofs.lemmas.Bool.{and_parts, leb-true}
use Rattle.std.proofs.lemmas.Int.{ints}
use Rattle.std.proofs.lemmas.List.Elements.{All-from_recursion}
use Rattle.ts_pattern.specs.Limits.{IsSeries}
use Rattle.ts_base.specs.Limits.{IsCellValue, most_cells, too_many}
use Rattle.ts_token.specs.Text.{Cut}
use Rattle.ts_token.specs.Number.{number_of}
use Rattle.ts_base.specs.Words.{strict_lines}
use Rattle.ts_base.proofs.WordLaws.{lines_are}
use Rattle.ts_token.specs.Halves.{is_separator, Halves, after_front, halves, halves_of}
use Rattle.ts_model.specs.declared.error.SeriesStop.TheVariants.{Length}
use Rattle.ts_model.specs.ModelParts.{is_value}
use Rattle.ts_model.specs.Words.{onto}
use Rattle.ts_model.specs.Series.{within, value_of, values_of, numbers_give, words_give, series_words}
use Rattle.ts_model.specs.Series.{any_series_reading, series_reading, series_within}
use Rattle.ts_run.specs.Quantities.{IsWithin}

-- neither part is longer than n
pub record AreWithin (n : ℕ) (h : Halves) : Type 0 where
  pub model : length h.model ≤ n
  pub rest : length (unwrap_or h.rest []) ≤ n

cut_here : (b : Bool) (c : List ℕ) (cs : List (List ℕ)) (h : Halves) → AreWithin (length (concat cs)) h →
    AreWithin (length (c ++ concat cs)) (cond b (record { model = []; rest = Some (concat cs) }) (after_front c h))
cut_here true c cs h w = let n = length-append c (concat cs) in record { model = omega arith; rest = omega arith }
cut_here false c cs h w =
    let n = length-append c (concat cs) in
    let m = length-append c h.model in
    let wm = w.model in
    let wr = w.rest in
    record { model = omega arith; rest = omega arith }

halves_within : (cs : List (List ℕ)) → AreWithin (length (concat cs)) (halves cs)
halves_within [] = record { model = omega arith; rest = omega arith }
halves_within (c ∷ cs) = cut_here (is_separator c) c cs (halves cs) (halves_within cs)

pub parts_within : (text : List ℕ) → AreWithin (length text) (halves_of text)
parts_within text = subst (λ (bytes : List ℕ). AreWithin (length bytes) (halves_of text)) (lines_are text) (halves_within (strict_lines text))

-- either part of a short input is short
pub model_short : (bytes model : List ℕ) → length model ≡ length (halves_of bytes).model → length bytes < too_many → length model < too_many
model_short bytes model same few = let within = (parts_within bytes).model in omega (arith, within, same, few)

pub rest_short : (bytes rest : List ℕ) → length rest ≡ length (unwrap_or (halves_of bytes).rest []) → length bytes < too_many → length rest < too_many
rest_short bytes rest same few = let within = (parts_within bytes).rest in omega (arith, within, same, few)

-- the second part as it is lent, empty where there is none
pub rest_now : (rest : Option (Bor (List ℕ))) (none : Bor (List ℕ)) → none.now ≡ [] → (unwrap_or rest none).now ≡ unwrap_or (option_map (λ r. r.now) rest) []
rest_now None none e = e
rest_now (Some r) none e = refl

value_cell : (v : ℤ) → is_value v ≡ true → IsCellValue v
value_cell v h = grind (arith, ints)

chosen : (b : Bool) (v x : ℤ) → (b ≡ true → IsCellValue v) → cond b (Some v) None ≡ Some x → IsCellValue x
chosen true v x h e = let same : v ≡ x = cc in subst (λ (z : ℤ). IsCellValue z) same (h refl)
chosen false v x h e = cc

within_cell : (o : Option ℤ) (x : ℤ) → within o ≡ Some x → IsCellValue x
within_cell None x e = cc
within_cell (Some v) x e = chosen (is_value v) v x (λ h. value_cell v h) e

pub word_cell : (word : List ℕ) (x : ℤ) → value_of word ≡ Some x → IsCellValue x
unfolding value_of
word_cell word x e = within_cell (number_of word) x e

more_cells : (first : Option ℤ) (rest : Option (List ℤ)) (xs : List ℤ) → ((x : ℤ) → first ≡ Some x → IsCellValue x) →
    ((ys : List ℤ) → rest ≡ Some ys → AllByRecursion IsCellValue ys) → onto first rest ≡ Some xs → AllByRecursion IsCellValue xs
more_cells None rest xs f r e = cc
more_cells (Some x) None xs f r e = cc
more_cells (Some x) (Some ys) xs f r e = let same : x ∷ ys ≡ xs = cc in subst (λ (z : List ℤ). AllByRecursion IsCellValue z) same (f x refl, r ys refl)

words_cells : (words : List (List ℕ)) (xs : List ℤ) → values_of words ≡ Some xs → AllByRecursion IsCellValue xs
words_cells [] xs e = let same : [] ≡ xs = cc in subst (λ (z : List ℤ). AllByRecursion IsCellValue z) same tt
words_cells (w ∷ ws) xs e = more_cells (value_of w) (values_of ws) xs (λ x h. word_cell w x h) (λ ys h. words_cells ws ys h) e

record Fits (least most : ℕ) (xs : List ℤ) : Type 0 where
  few : least ≤ length xs
  many : length xs ≤ most
  cells : AllByRecursion IsCellValue xs

counted : (b : Bool) (least most : ℕ) (vs xs : List ℤ) → (nat_le least (length vs) && nat_le (length vs) most) ≡ b → AllByRecursion IsCellValue vs →
    cond b (Ok vs) (Err Length) ≡ Ok xs → Fits least most xs
counted true least most vs xs t cells e =
    let same : vs ≡ xs = cc in
    let both = and_parts (nat_le least (length vs)) (nat_le (length vs) most) t in
    subst (λ (z : List ℤ). Fits least most z) same
    (record { few = leb-true least (length vs) both.0; many = leb-true (length vs) most both.1; cells = cells })
counted false least most vs xs t cells e = cc

numbers_fit : (least most : ℕ) (o : Option (List ℤ)) (xs : List ℤ) → ((ys : List ℤ) → o ≡ Some ys → AllByRecursion IsCellValue ys) →
    numbers_give least most o ≡ Ok xs → Fits least most xs
numbers_fit least most None xs f e = cc
numbers_fit least most (Some vs) xs f e = counted (nat_le least (length vs) && nat_le (length vs) most) least most vs xs refl (f vs refl) e

words_fit : (least most : ℕ) (o : Option (List (List ℕ))) (xs : List ℤ) → words_give least most o ≡ Ok xs → Fits least most xs
words_fit least most None xs e = cc
words_fit least most (Some words) xs e = numbers_fit least most (values_of words) xs (λ ys h. words_cells words ys h) e

within_fits : (least most : ℕ) (c : Cut) (xs : List ℤ) → series_within least most c ≡ Ok xs → Fits least most xs
within_fits least most c xs e = words_fit least most (series_words c c.not_text) xs e

-- a series that was read has as many values as were asked for
pub series_count : (n : ℕ) (c : Cut) (xs : List ℤ) → series_reading n c ≡ Ok xs → length xs ≡ n
series_count n c xs e =
    let f = within_fits n n c xs e in
    let few = f.few in
    let many = f.many in
    omega (arith, few, many)

-- a series that was read for a model of 1 to 512 cells
pub series_fits : (n : ℕ) (c : Cut) (xs : List ℤ) → series_reading n c ≡ Ok xs → 1 ≤ n → n ≤ 512 → IsSeries xs
series_fits n c xs e some few =
    let f = within_fits n n c xs e in
    let least = f.few in
    let most = f.many in
    record { some = omega (arith, least, some); few = omega (arith, most, few); cells = All-from_recursion IsCellValue xs f.cells }

-- a series of any number of values has 1 to 512 of them
pub any_series_fits : (c : Cut) (xs : List ℤ) → any_series_reading c ≡ Ok xs → IsWithin 1 most_cells (length xs)
any_series_fits c xs e = let f = within_fits 1 most_cells c xs e in (f.few, f.many)

-- A word says the same by its first bytes: no number, name or other word of a model is longer.
use Rattle.std.proofs.Common.{◌≡◌, ℕ, zero, suc, ◌+◌, ◌^◌, ◌<◌, ◌≤◌, ℤ, pos, negsuc, Bool, true, false, cond, ◌&&◌, Option, Some, None, Err, List, [], ◌∷◌, length, take, drop, map, refl, sym, ap, subst, ◌∙◌, arith, take_all, length-take, length-drop, codes, nat_lt, ◌==◌}
use Rattle.std.specs.Prelude.{ok_or, nat_le, is_some, ◌||◌}
use Rattle.std.specs.List.{find, list_all, position}
use Rattle.std.specs.Option.{option_map}
use Rattle.std.specs.Str.{bytes_eq}
use Rattle.std.specs.Fmt.{signed_decimal}
use Rattle.std.proofs.lemmas.Bool.{and_parts, ltb-true}
use Rattle.std.proofs.lemmas.List.{length-map}
use Rattle.std.proofs.lemmas.Bool.Decides.{nat_tests}
use Rattle.std.proofs.lemmas.Fmt.{length-decimal-le}
use Rattle.std.specs.Int.Signed.{mag}
use Rattle.std.proofs.lemmas.Slice.Eq.{bytes_eq-Decides}
use Rattle.ts_base.specs.declared.ext.Ext.{Ext}
use Rattle.ts_base.specs.declared.ext.Ext.TheVariants.{NegInf, Int, PosInf}
use Rattle.ts_domain.specs.declared.interval.Interval.{Interval}
use Rattle.ts_token.specs.Gist.{heads}
use Rattle.ts_token.specs.Number.{number_of, ext_of}
use Rattle.ts_token.specs.Text.{Piece}
use Rattle.ts_token.proofs.NumberTexts.{written_number}
use Rattle.ts_pattern.specs.declared.name.Aggregator.{Aggregator}
use Rattle.ts_pattern.specs.declared.name.Aggregator.TheVariants.{Sum}
use Rattle.ts_pattern.specs.declared.name.Feature.{Feature}
use Rattle.ts_pattern.specs.declared.name.Feature.TheVariants.{One}
use Rattle.ts_pattern.specs.declared.name.PatternId.{PatternId}
use Rattle.ts_pattern.specs.Names.{aggregator_name, all_aggregators, feature_name, all_features, pattern_name, all_patterns}
use Rattle.ts_model.specs.declared.words.Form.{Form}
use Rattle.ts_model.specs.declared.words.Form.TheVariants.{Cells, Domain, Cell, Term, Require, Objective}
use Rattle.ts_model.specs.declared.model.Op.{Op}
use Rattle.ts_model.specs.declared.model.Op.TheVariants.{Equal, Unequal, AtMost, AtLeast, Below, Above}
use Rattle.ts_model.specs.declared.error.ModelKind.TheVariants.{Shape, Number}
use Rattle.ts_model.specs.ModelReading.{texts_of, taken_as, line_gives}
use Rattle.ts_model.specs.ModelParts.{ModelParts}
use Rattle.ts_model.specs.Series.{value_of, within}
use Rattle.ts_model.specs.Statement.{SaysCells, SaysDomain, SaysObjective, word_at, term_length, has_tail, has_term_length, has_shape, made_parts, parts_said, tail_said, said_cell, said_require, said_term, said_by, parsed_by, parsed_as, meaning_in}
use Rattle.ts_model.specs.Words.{form_of, op_of, is_equals, is_count, is_in, is_letter, is_name_byte, is_name, made_range, is_dot, starts_dot, range_cut, range_of, onto, ranges_of, aggregator_of, feature_of, pattern_of}

abbrev cut : List ℕ → List ℕ
cut w = take 64 w

-- the first bytes are all of a word, or as many as no word has of which something is found
module _ {A : Type 0} (f : List ℕ → Option A) (short : (w : List ℕ) (a : A) → f w ≡ Some a → length w < 64) where
  none_long : (w : List ℕ) → 64 ≤ length w → f w ≡ None
  none_long w long = go (f w) refl where
    go : (o : Option A) → f w ≡ o → o ≡ None
    go None e = refl
    go (Some a) e = absurd (omega (arith, short w a e, long))

  kept : (w : List ℕ) → f (cut w) ≡ f w
  kept w = go (nat_lt (length w) 64) refl where
    go : (t : Bool) → nat_lt (length w) 64 ≡ t → f (cut w) ≡ f w
    go true e = ap f (take_all 64 w (grind (arith, nat_tests)))
    go false e =
        let long : 64 ≤ length w = grind (arith, nat_tests) in
        none_long (cut w) (omega (arith, length-take 64 w, long)) ∙ sym (none_long w long)

module _ (f : List ℕ → Bool) (short : (w : List ℕ) → f w ≡ true → length w < 64) where
  false_long : (w : List ℕ) → 64 ≤ length w → f w ≡ false
  false_long w long = go (f w) refl where
    go : (t : Bool) → f w ≡ t → t ≡ false
    go false e = refl
    go true e = absurd (omega (arith, short w e, long))

  kept_test : (w : List ℕ) → f (cut w) ≡ f w
  kept_test w = go (nat_lt (length w) 64) refl where
    go : (t : Bool) → nat_lt (length w) 64 ≡ t → f (cut w) ≡ f w
    go true e = ap f (take_all 64 w (grind (arith, nat_tests)))
    go false e =
        let long : 64 ≤ length w = grind (arith, nat_tests) in
        false_long (cut w) (omega (arith, length-take 64 w, long)) ∙ sym (false_long w long)

-- a word that is this one
same_short : (w l : List ℕ) → nat_lt (length l) 64 ≡ true → bytes_eq w l ≡ true → length w < 64
same_short w l small e = subst (λ (x : List ℕ). length x < 64) (sym ((bytes_eq-Decides w l).0 e)) (ltb-true (length l) 64 small)

choice : {A : Type 0} (w l : List ℕ) (a b : A) (rest : Option A) → nat_lt (length l) 64 ≡ true → (rest ≡ Some b → length w < 64) →
    cond (bytes_eq w l) (Some a) rest ≡ Some b → length w < 64
choice w l a b rest small later e = go (bytes_eq w l) refl e where
  go : (t : Bool) → bytes_eq w l ≡ t → cond t (Some a) rest ≡ Some b → length w < 64
  go true h e = same_short w l small h
  go false h e = later e

form_short : (w : List ℕ) (form : Form) → form_of w ≡ Some form → length w < 64
unfolding form_of
form_short w form e =
    choice w (codes "cells") Cells form _ refl (choice w (codes "domain") Domain form _ refl (choice w (codes "cell") Cell form _ refl
    (choice w (codes "term") Term form _ refl (choice w (codes "require") Require form _ refl
    (choice w (codes "objective") Objective form None refl (λ h. cc)))))) e

op_short : (w : List ℕ) (op : Op) → op_of w ≡ Some op → length w < 64
unfolding op_of
op_short w op e =
    choice w (codes "=") Equal op _ refl (choice w (codes "!=") Unequal op _ refl (choice w (codes "<=") AtMost op _ refl
    (choice w (codes ">=") AtLeast op _ refl (choice w (codes "<") Below op _ refl
    (choice w (codes ">") Above op None refl (λ h. cc)))))) e

equals_short : (w : List ℕ) → is_equals w ≡ true → length w < 64
unfolding is_equals
equals_short w e = same_short w (codes "=") refl e

count_short : (w : List ℕ) → is_count w ≡ true → length w < 64
unfolding is_count
count_short w e = same_short w (codes "count") refl e

in_short : (w : List ℕ) → is_in w ≡ true → length w < 64
unfolding is_in
in_short w e = same_short w (codes "in") refl e

name_short : (w : List ℕ) → is_name w ≡ true → length w < 64
unfolding is_name
name_short [] e = cc
name_short (b ∷ bs) e =
    let p = and_parts (is_letter b) (list_all is_name_byte bs && nat_le (length bs) 31) e in
    let few = (and_parts (list_all is_name_byte bs) (nat_le (length bs) 31) p.1).1 in
    at_most few
  where
    at_most : nat_le (length bs) 31 ≡ true → length (b ∷ bs) < 64
    at_most h = grind (arith, nat_tests)

decimal_short : (n : ℤ) → mag n < 2 ^ 63 → length (signed_decimal n) ≤ 20
decimal_short (pos n) fits = let l = length-decimal-le 19 n (omega arith) (omega (arith, fits)) (omega (arith, fits)) in omega (arith, l)
decimal_short (negsuc n) fits = let l = length-decimal-le 19 (suc n) (omega arith) (omega (arith, fits)) (omega (arith, fits)) in omega (arith, l)

number_small : (w : List ℕ) (n : ℤ) → number_of w ≡ Some n → length w ≤ 20
number_small w n e =
    let is = written_number w n e in
    let same : length w ≡ length (signed_decimal n) = ap length is.0 in
    omega (arith, same, decimal_short n is.1)

number_short : (w : List ℕ) (n : ℤ) → number_of w ≡ Some n → length w < 64
number_short w n e = omega (arith, number_small w n e)

value_short : (w : List ℕ) (n : ℤ) → value_of w ≡ Some n → length w < 64
unfolding value_of
value_short w n e = go (number_of w) refl e where
  go : (o : Option ℤ) → number_of w ≡ o → within o ≡ Some n → length w < 64
  go None h f = cc
  go (Some m) h f = number_short w m h

-- a number that a cell may have
pub value_kept : (w : List ℕ) → value_of (take 64 w) ≡ value_of w
value_kept w = kept value_of value_short w

ext_short : (w : List ℕ) (x : Ext) → ext_of w ≡ Some x → length w < 64
unfolding ext_of
ext_short w x e =
    choice w (codes "-inf") NegInf x _ refl (choice w (codes "+inf") PosInf x (option_map Int (number_of w)) refl (go (number_of w) refl)) e
  where
    go : (o : Option ℤ) → number_of w ≡ o → option_map Int o ≡ Some x → length w < 64
    go None h f = cc
    go (Some n) h f = number_short w n h

made_by : (low high : Option ℤ) (r : Interval) → made_range low high ≡ Some r → (a : ℤ) × (b : ℤ) × (low ≡ Some a) × (high ≡ Some b)
made_by None high r e = absurd (cc)
made_by (Some a) None r e = absurd (cc)
made_by (Some a) (Some b) r e = (a, b, refl, refl)

cut_short : (w : List ℕ) (at : Option ℕ) (r : Interval) → range_cut w at ≡ Some r → length w < 64
cut_short w None r e =
    let p = made_by (number_of w) (number_of w) r e in
    number_short w p.0 p.2
cut_short w (Some n) r e = go (starts_dot (drop (n + 1) w)) e where
  go : (t : Bool) → cond t (made_range (number_of (take n w)) (number_of (drop (n + 2) w))) None ≡ Some r → length w < 64
  go true h =
      let p = made_by (number_of (take n w)) (number_of (drop (n + 2) w)) r h in
      omega (arith, number_small (take n w) p.0 p.2, number_small (drop (n + 2) w) p.1 p.3, length-take n w, length-drop (n + 2) w)
  go false h = cc

range_short : (w : List ℕ) (r : Interval) → range_of w ≡ Some r → length w < 64
unfolding range_of
range_short w r e = cut_short w (position is_dot w) r e

found_step : {A : Type 0} (name : A → List ℕ) (w : List ℕ) (y x : A) (rest : Option A) (t : Bool) → bytes_eq (name y) w ≡ t →
    nat_lt (length (name y)) 64 ≡ true → (rest ≡ Some x → length w < 64) → cond t (Some y) rest ≡ Some x → length w < 64
found_step name w y x rest true h small later e =
    subst (λ (v : List ℕ). length v < 64) ((bytes_eq-Decides (name y) w).0 h) (ltb-true (length (name y)) 64 small)
found_step name w y x rest false h small later e = later e

found_short : {A : Type 0} (name : A → List ℕ) (w : List ℕ) (xs : List A) (x : A) → list_all (λ y. nat_lt (length (name y)) 64) xs ≡ true →
    find (λ y. bytes_eq (name y) w) xs ≡ Some x → length w < 64
found_short name w [] x small e = cc
found_short name w (y ∷ ys) x small e =
    let s = and_parts (nat_lt (length (name y)) 64) (list_all (λ y. nat_lt (length (name y)) 64) ys) small in
    found_step name w y x (find (λ y. bytes_eq (name y) w) ys) (bytes_eq (name y) w) refl s.0 (found_short name w ys x s.1) e

aggregator_short : (w : List ℕ) (x : Aggregator) → aggregator_of w ≡ Some x → length w < 64
unfolding aggregator_of
aggregator_short w x e = found_short aggregator_name w all_aggregators x refl e

feature_short : (w : List ℕ) (x : Feature) → feature_of w ≡ Some x → length w < 64
unfolding feature_of
feature_short w x e = found_short feature_name w all_features x refl e

pattern_short : (w : List ℕ) (x : PatternId) → pattern_of w ≡ Some x → length w < 64
unfolding pattern_of
pattern_short w x e = found_short pattern_name w all_patterns x refl e

name_kept : (w : List ℕ) → is_name w ≡ true → cut w ≡ w
name_kept w e = take_all 64 w (omega (arith, name_short w e))

abbrev cut_all : List (List ℕ) → List (List ℕ)
cut_all ws = map cut ws

word_cut : (ws : List (List ℕ)) (k : ℕ) → word_at (cut_all ws) k ≡ cut (word_at ws k)
word_cut [] k = refl
word_cut (w ∷ ws) zero = refl
word_cut (w ∷ ws) (suc k) = word_cut ws k

count_cut : (ws : List (List ℕ)) → length (cut_all ws) ≡ length ws
count_cut ws = length-map ws cut

rest_cut : (ws : List (List ℕ)) → drop 1 (cut_all ws) ≡ cut_all (drop 1 ws)
rest_cut [] = refl
rest_cut (w ∷ ws) = refl

ranges_cut : (ws : List (List ℕ)) → ranges_of (cut_all ws) ≡ ranges_of ws
ranges_cut [] = refl
ranges_cut (w ∷ ws) = ap (λ r. onto r (ranges_of (cut_all ws))) (kept range_of range_short w) ∙ ap (onto (range_of w)) (ranges_cut ws)

-- what is asked of the word at a place
at_option : {A : Type 0} (f : List ℕ → Option A) → ((w : List ℕ) (a : A) → f w ≡ Some a → length w < 64) → (ws : List (List ℕ)) (k : ℕ) →
    f (word_at (cut_all ws) k) ≡ f (word_at ws k)
at_option f short ws k = ap f (word_cut ws k) ∙ kept f short (word_at ws k)

at_test : (f : List ℕ → Bool) → ((w : List ℕ) → f w ≡ true → length w < 64) → (ws : List (List ℕ)) (k : ℕ) →
    f (word_at (cut_all ws) k) ≡ f (word_at ws k)
at_test f short ws k = ap f (word_cut ws k) ∙ kept_test f short (word_at ws k)

term_cut : (ws : List (List ℕ)) → term_length (cut_all ws) ≡ term_length ws
term_cut ws = ap (λ v. cond v 4 5) (at_test is_count count_short ws 2)

tail_cut : (n : ℕ) (ws : List (List ℕ)) → has_tail n (cut_all ws) ≡ has_tail n ws
tail_cut n ws =
    ap (λ (k : ℕ). (k == n + 2) && is_in (word_at (cut_all ws) n)) (count_cut ws) ∙ ap (λ v. (length ws == n + 2) && v) (at_test is_in in_short ws n)

ends_cut : (ws : List (List ℕ)) → has_term_length (cut_all ws) ≡ has_term_length ws
ends_cut ws =
    ap (λ (n : ℕ). (length (cut_all ws) == n) || has_tail n (cut_all ws)) (term_cut ws)
    ∙ ap (λ (k : ℕ). (k == term_length ws) || has_tail (term_length ws) (cut_all ws)) (count_cut ws)
    ∙ ap (λ v. (length ws == term_length ws) || v) (tail_cut (term_length ws) ws)

range_cut_at : (ws : List (List ℕ)) → tail_said (cut_all ws) ≡ tail_said ws
range_cut_at ws =
    ap (λ (n : ℕ). cond (length (cut_all ws) == n) (Some None) (option_map Some (range_of (word_at (cut_all ws) (n + 1))))) (term_cut ws)
    ∙ ap (λ (k : ℕ). cond (k == term_length ws) (Some None) (option_map Some (range_of (word_at (cut_all ws) (term_length ws + 1))))) (count_cut ws)
    ∙ ap (λ r. cond (length ws == term_length ws) (Some None) (option_map Some r)) (at_option range_of range_short ws (term_length ws + 1))

shape_cut : (form : Form) (ws : List (List ℕ)) → has_shape form (cut_all ws) ≡ has_shape form ws
shape_cut Cells ws = ap (λ (n : ℕ). n == 1) (count_cut ws)
shape_cut Domain ws = ap (λ (n : ℕ). nat_lt 0 n) (count_cut ws)
shape_cut Cell ws = ap (λ (n : ℕ). nat_lt 1 n) (count_cut ws)
shape_cut Term ws =
    ap (λ v. v && (is_name (word_at (cut_all ws) 0) && is_equals (word_at (cut_all ws) 1))) (ends_cut ws)
    ∙ ap (λ v. has_term_length ws && (v && is_equals (word_at (cut_all ws) 1))) (at_test is_name name_short ws 0)
    ∙ ap (λ v. has_term_length ws && (is_name (word_at ws 0) && v)) (at_test is_equals equals_short ws 1)
shape_cut Require ws =
    ap (λ (n : ℕ). (n == 3) && (is_name (word_at (cut_all ws) 0) && is_some (op_of (word_at (cut_all ws) 1)))) (count_cut ws)
    ∙ ap (λ v. (length ws == 3) && (v && is_some (op_of (word_at (cut_all ws) 1)))) (at_test is_name name_short ws 0)
    ∙ ap (λ o. (length ws == 3) && (is_name (word_at ws 0) && is_some o)) (at_option op_of op_short ws 1)
shape_cut Objective ws =
    ap (λ (n : ℕ). (n == 1) && is_name (word_at (cut_all ws) 0)) (count_cut ws) ∙ ap (λ v. (length ws == 1) && v) (at_test is_name name_short ws 0)

parts_cut : (ws : List (List ℕ)) → parts_said (cut_all ws) ≡ parts_said ws
parts_cut ws =
    ap (λ v. cond v (made_parts (Some Sum) (Some One) (pattern_of (word_at (cut_all ws) 3)))
    (made_parts (aggregator_of (word_at (cut_all ws) 2)) (feature_of (word_at (cut_all ws) 3)) (pattern_of (word_at (cut_all ws) 4))))
    (at_test is_count count_short ws 2)
    ∙ ap (λ p. cond (is_count (word_at ws 2)) (made_parts (Some Sum) (Some One) p)
    (made_parts (aggregator_of (word_at (cut_all ws) 2)) (feature_of (word_at (cut_all ws) 3)) (pattern_of (word_at (cut_all ws) 4))))
    (at_option pattern_of pattern_short ws 3)
    ∙ ap (λ a. cond (is_count (word_at ws 2)) (made_parts (Some Sum) (Some One) (pattern_of (word_at ws 3)))
    (made_parts a (feature_of (word_at (cut_all ws) 3)) (pattern_of (word_at (cut_all ws) 4)))) (at_option aggregator_of aggregator_short ws 2)
    ∙ ap (λ f. cond (is_count (word_at ws 2)) (made_parts (Some Sum) (Some One) (pattern_of (word_at ws 3)))
    (made_parts (aggregator_of (word_at ws 2)) f (pattern_of (word_at (cut_all ws) 4)))) (at_option feature_of feature_short ws 3)
    ∙ ap (λ p. cond (is_count (word_at ws 2)) (made_parts (Some Sum) (Some One) (pattern_of (word_at ws 3)))
    (made_parts (aggregator_of (word_at ws 2)) (feature_of (word_at ws 3)) p)) (at_option pattern_of pattern_short ws 4)

-- the name of a line of this shape is kept whole
first_kept : (ws : List (List ℕ)) → is_name (word_at ws 0) ≡ true → word_at (cut_all ws) 0 ≡ word_at ws 0
first_kept ws e = word_cut ws 0 ∙ name_kept (word_at ws 0) e

said_cut : (form : Form) (ws : List (List ℕ)) → has_shape form ws ≡ true → said_by form (cut_all ws) ≡ said_by form ws
said_cut Cells ws e = ap (option_map SaysCells) (at_option number_of number_short ws 0)
said_cut Domain ws e = ap (option_map SaysDomain) (ranges_cut ws)
said_cut Cell ws e =
    ap (λ n. said_cell n (ranges_of (drop 1 (cut_all ws)))) (at_option number_of number_short ws 0)
    ∙ ap (said_cell (number_of (word_at ws 0))) (ap ranges_of (rest_cut ws) ∙ ranges_cut (drop 1 ws))
said_cut Term ws e =
    let p = (and_parts (has_term_length ws) (is_name (word_at ws 0) && is_equals (word_at ws 1)) e).1 in
    let name = (and_parts (is_name (word_at ws 0)) (is_equals (word_at ws 1)) p).0 in
    ap (λ (x : List ℕ). said_term x (tail_said (cut_all ws)) (parts_said (cut_all ws))) (first_kept ws name)
    ∙ ap (λ t. said_term (word_at ws 0) t (parts_said (cut_all ws))) (range_cut_at ws)
    ∙ ap (said_term (word_at ws 0) (tail_said ws)) (parts_cut ws)
said_cut Require ws e =
    let p = (and_parts (length ws == 3) (is_name (word_at ws 0) && is_some (op_of (word_at ws 1))) e).1 in
    let name = (and_parts (is_name (word_at ws 0)) (is_some (op_of (word_at ws 1))) p).0 in
    ap (λ (x : List ℕ). said_require x (op_of (word_at (cut_all ws) 1)) (ext_of (word_at (cut_all ws) 2))) (first_kept ws name)
    ∙ ap (λ o. said_require (word_at ws 0) o (ext_of (word_at (cut_all ws) 2))) (at_option op_of op_short ws 1)
    ∙ ap (said_require (word_at ws 0) (op_of (word_at ws 1))) (at_option ext_of ext_short ws 2)
said_cut Objective ws e =
    let name = (and_parts (length ws == 1) (is_name (word_at ws 0)) e).1 in
    ap (λ (x : List ℕ). Some (SaysObjective x)) (first_kept ws name)

by_cut : (form : Form) (ws : List (List ℕ)) → parsed_by form (cut_all ws) ≡ parsed_by form ws
by_cut form ws =
    ap (λ v. cond v (ok_or (said_by form (cut_all ws)) Number) (Err Shape)) (shape_cut form ws) ∙ go (has_shape form ws) refl
  where
    go : (t : Bool) → has_shape form ws ≡ t →
        cond t (ok_or (said_by form (cut_all ws)) Number) (Err Shape) ≡ cond t (ok_or (said_by form ws) Number) (Err Shape)
    go true e = ap (λ o. ok_or o Number) (said_cut form ws e)
    go false e = refl

as_cut : (form : Option Form) (ws : List (List ℕ)) → parsed_as form (cut_all ws) ≡ parsed_as form ws
as_cut None ws = refl
as_cut (Some form) ws = by_cut form ws

parsed_cut : (ws : List (List ℕ)) → meaning_in (cut_all ws) ≡ meaning_in ws
parsed_cut [] = refl
parsed_cut (w ∷ ws) = ap (λ f. parsed_as f (cut_all ws)) (kept form_of form_short w) ∙ as_cut (form_of w) ws

heads_are : (ws : List Piece) → heads ws ≡ cut_all (texts_of ws)
heads_are [] = refl
heads_are (w ∷ ws) = ap (λ (x : List (List ℕ)). cut w.text ∷ x) (heads_are ws)

-- what a line states is seen by the first bytes of its words
pub heads_give : (lists : Bool) (m : ModelParts) (ws : List Piece) → line_gives lists m (texts_of ws) ≡ line_gives lists m (heads ws)
heads_give lists m ws = ap (taken_as lists m) (sym (parsed_cut (texts_of ws)) ∙ ap meaning_in (sym (heads_are ws)))

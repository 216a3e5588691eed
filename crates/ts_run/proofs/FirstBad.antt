-- The line that is named is the first bad one.
use Rattle.std.proofs.Common.{◌≡◌, ◌⊎◌, ℕ, zero, suc, ◌+◌, ◌<◌, ◌≤◌, ℤ, inl, inr, Bool, true, false, cond, ltb, Option, Some, None, List, [], ◌∷◌, ◌++◌, length, take, refl, sym, ◌∙◌, ap, subst, arith, length-append}
use Rattle.std.specs.Prelude.{option_map, unwrap_or}
use Rattle.std.proofs.lemmas.Bool.{ltb-false, ltb-true}
use Rattle.ts_decorate.specs.Answers.{longest}
use Rattle.ts_model.specs.Series.{value_of}
use Rattle.ts_token.specs.Text.{Piece, is_skipped, is_text, lines_of, words_of}
use Rattle.ts_run.specs.FirstBad.{IsBadAt, IsBadBehind, IsFirstBad, ReadsToFirstBad, readings_in}
use Rattle.ts_run.specs.Watch.{Readings, after_values, bad_at, line_gives, line_onto, only_value, readings_from, readings_of, words_give}

-- a line gives one reading at most

abbrev AtMostOne : Option (List ℤ) → Type 0
AtMostOne None = Unit {0}
AtMostOne (Some values) = length values ≤ 1

one_value : (o : Option ℤ) → AtMostOne (option_map (λ v. v ∷ []) o)
one_value None = tt
one_value (Some v) = omega arith

one_word : (words : List Piece) → AtMostOne (only_value words)
one_word [] = omega arith
one_word (word ∷ []) = one_value (value_of word.text)
one_word (word ∷ other ∷ words) = tt

one_of_words : (words : List Piece) → AtMostOne (words_give words)
one_of_words words = go (is_skipped words)
  where
    go : (t : Bool) → AtMostOne (cond t (Some []) (only_value words))
    go true = omega arith
    go false = one_word words

one_of_line : (line : List ℕ) → AtMostOne (line_gives line)
one_of_line line = go (is_text line)
  where
    go : (t : Bool) → AtMostOne (cond t (words_give (words_of line)) None)
    go true = one_of_words (words_of line)
    go false = tt

-- how lines are read after `count` readings, the first of them with this number: up to the first bad one, or all

record EndsAtBad (count number : ℕ) (lines : List (List ℕ)) : Type 0 where
  place : ℕ
  first : IsFirstBad count lines place
  reads : readings_from count number lines ≡ record { values = readings_in (take place lines); bad = Some (number + place) }

record TakesAll (count number : ℕ) (lines : List (List ℕ)) : Type 0 where
  good : (i : ℕ) → IsBadAt count lines i → ⊥
  reads : readings_from count number lines ≡ record { values = readings_in lines; bad = None }

abbrev IsReadSo : ℕ → ℕ → List (List ℕ) → Type 0
IsReadSo count number lines = EndsAtBad count number lines ⊎ TakesAll count number lines

module _ (count number : ℕ) (line : List ℕ) (lines : List (List ℕ)) where
  -- the first line is bad
  bad_first : IsBadBehind count (line_gives line) → line_onto count number (line_gives line) (λ n. readings_from n (number + 1) lines) ≡ bad_at number →
      IsReadSo count number (line ∷ lines)
  bad_first bad is = inl (record {
    place = 0;
    first = record {
      bad = (line, refl, subst (λ (n : ℕ). IsBadBehind n (line_gives line)) (omega arith) bad);
      first = λ j less. absurd (omega (arith, less));
    };
    reads = is ∙ ap (λ (n : ℕ). record { values = []; bad = Some n }) (omega arith);
  })

  -- the first line is good, and gives these readings
  module _ (values : List ℤ) (gives : line_gives line ≡ Some values) (good : IsBadBehind count (Some values) → ⊥)
      (is : readings_from count number (line ∷ lines) ≡ after_values values (readings_from (count + length values) (number + 1) lines)) where
    with_line : (ls : List (List ℕ)) → readings_in (line ∷ ls) ≡ values ++ readings_in ls
    with_line ls = ap (λ (o : Option (List ℤ)). unwrap_or o [] ++ readings_in ls) gives

    counted : (i : ℕ) → count + length values + length (readings_in (take i lines)) ≡ count + length (readings_in (line ∷ take i lines))
    counted i =
        let same = ap (λ (xs : List ℤ). length xs) (with_line (take i lines)) in
        let long = length-append values (readings_in (take i lines)) in
        omega (arith, same, long)

    later : (i : ℕ) → IsBadAt (count + length values) lines i → IsBadAt count (line ∷ lines) (suc i)
    later i h = (h.0, h.1, subst (λ (n : ℕ). IsBadBehind n (line_gives h.0)) (counted i) h.2)

    earlier : (i : ℕ) → IsBadAt count (line ∷ lines) (suc i) → IsBadAt (count + length values) lines i
    earlier i h = (h.0, h.1, subst (λ (n : ℕ). IsBadBehind n (line_gives h.0)) (sym (counted i)) h.2)

    not_first : IsBadAt count (line ∷ lines) 0 → ⊥
    not_first h =
        let same : line ≡ h.0 = cc in
        good (subst (λ (n : ℕ). IsBadBehind n (Some values)) (omega arith)
        (subst (λ o. IsBadBehind (count + length (readings_in [])) o) gives
        (subst (λ (l : List ℕ). IsBadBehind (count + length (readings_in [])) (line_gives l)) (sym same) h.2)))

    none_before : (k : ℕ) → ((j : ℕ) → j < k → IsBadAt (count + length values) lines j → ⊥) → (j : ℕ) → j < suc k → IsBadAt count (line ∷ lines) j → ⊥
    none_before k first zero less h = not_first h
    none_before k first (suc j) less h = first j (omega (arith, less)) (earlier j h)

    good_first : IsReadSo (count + length values) (number + 1) lines → IsReadSo count number (line ∷ lines)
    good_first (inl e) = inl (record {
      place = suc e.place;
      first = record { bad = later e.place e.first.bad; first = none_before e.place e.first.first };
      reads = is ∙ ap (after_values values) e.reads
          ∙ ap (λ (xs : List ℤ). record { values = xs; bad = Some (number + 1 + e.place) }) (sym (with_line (take e.place lines)))
          ∙ ap (λ (n : ℕ). record { values = readings_in (line ∷ take e.place lines); bad = Some n }) (omega arith);
    })
    good_first (inr e) = inr (record {
      good = all_good e.good;
      reads = is ∙ ap (after_values values) e.reads ∙ ap (λ (xs : List ℤ). record { values = xs; bad = None }) (sym (with_line lines));
    })
      where
        all_good : ((i : ℕ) → IsBadAt (count + length values) lines i → ⊥) → (i : ℕ) → IsBadAt count (line ∷ lines) i → ⊥
        all_good later_good zero h = not_first h
        all_good later_good (suc i) h = later_good i (earlier i h)

  abbrev Onto : Option (List ℤ) → Readings
  Onto g = line_onto count number g (λ n. readings_from n (number + 1) lines)

  no_values : (values : List ℤ) → length values ≤ 0 → values ≡ []
  no_values [] h = refl
  no_values (v ∷ vs) h = absurd (omega (arith, h))

  by_room : (t : Bool) (v : ℤ) → ltb count longest ≡ t → line_gives line ≡ Some (v ∷ []) → ((n : ℕ) → IsReadSo n (number + 1) lines) →
      IsReadSo count number (line ∷ lines)
  by_room true v room e later =
      let less = ltb-true count longest room in
      good_first (v ∷ []) e (λ h. omega (arith, less, h.1))
      (ap Onto e ∙ ap (λ t. cond t (after_values (v ∷ []) (readings_from (count + 1) (number + 1) lines)) (bad_at number)) room)
      (later (count + length (v ∷ [])))
  by_room false v room e later =
      let many = ltb-false count longest room in
      bad_first (subst (IsBadBehind count) (sym e) (omega arith, many))
      (ap Onto e ∙ ap (λ t. cond t (after_values (v ∷ []) (readings_from (count + 1) (number + 1) lines)) (bad_at number)) room)

  by_line : (g : Option (List ℤ)) → line_gives line ≡ g → AtMostOne g → ((n : ℕ) → IsReadSo n (number + 1) lines) → IsReadSo count number (line ∷ lines)
  by_line None e one later = bad_first (subst (IsBadBehind count) (sym e) tt) (ap Onto e)
  by_line (Some []) e one later =
      good_first [] e (λ h. omega (arith, h.0)) (ap Onto e ∙ ap (λ (n : ℕ). readings_from n (number + 1) lines) (omega arith))
      (later (count + length {A = ℤ} []))
  by_line (Some (v ∷ vs)) e one later =
      let alone = no_values vs (omega (arith, one)) in
      by_room (ltb count longest) v refl (e ∙ ap (λ (xs : List ℤ). Some (v ∷ xs)) alone) later

read_so : (count number : ℕ) (lines : List (List ℕ)) → IsReadSo count number lines
read_so count number [] = inr (record { good = λ i h. cc; reads = refl })
read_so count number (line ∷ lines) = by_line count number line lines (line_gives line) refl (one_of_line line) (λ n. read_so n (number + 1) lines)

-- there is one first line

same_first : (count : ℕ) (lines : List (List ℕ)) (i k : ℕ) → IsFirstBad count lines i → IsFirstBad count lines k → i ≡ k
same_first count lines i k a b = go (ltb i k) (ltb k i) refl refl
  where
    go : (s t : Bool) → ltb i k ≡ s → ltb k i ≡ t → i ≡ k
    go true t e f = absurd (b.first i (ltb-true i k e) a.bad)
    go false true e f = absurd (a.first k (ltb-true k i f) b.bad)
    go false false e f = let least = ltb-false i k e in let most = ltb-false k i f in omega (arith, least, most)

module _ (text : List ℕ) where
  abbrev ls : List (List ℕ)
  ls = lines_of text

  abbrev r : Readings
  r = readings_of text

  bad_is : (e : EndsAtBad 0 1 ls) → r.bad ≡ Some (1 + e.place)
  bad_is e = ap (λ (x : Readings). x.bad) e.reads

  reads_so : IsReadSo 0 1 ls → ReadsToFirstBad text
  reads_so (inl e) = record {
    named = λ i. (
      λ h.
          let same : 1 + e.place ≡ i + 1 = some_same (1 + e.place) (i + 1) (sym (bad_is e) ∙ h) in
          let same_place : e.place ≡ i = omega (arith, same) in
          subst (λ (n : ℕ). IsFirstBad 0 ls n) same_place e.first,
      λ h. bad_is e ∙ ap (λ (n : ℕ). Some n) (next e.place i (same_first 0 ls e.place i e.first h)),
    );
    none = (λ h. absurd (no_none (1 + e.place) (sym (bad_is e) ∙ h)), λ good. absurd (good e.place e.first.bad));
    before = λ i h.
        ap (λ (x : Readings). x.values) e.reads ∙ ap (λ (n : ℕ). readings_in (take n ls)) (same_first 0 ls e.place i e.first h);
    all = λ h. absurd (no_none (1 + e.place) (sym (bad_is e) ∙ h));
  }
    where
      some_same : (a b : ℕ) → Some a ≡ Some b → a ≡ b
      some_same a b e = cc

      no_none : (a : ℕ) → Some a ≡ None → ⊥
      no_none a e = cc

      next : (a b : ℕ) → a ≡ b → 1 + a ≡ b + 1
      next a b e = omega (arith, e)
  reads_so (inr e) = record {
    named = λ i. (λ h. absurd (none_some (i + 1) (sym (ap (λ (x : Readings). x.bad) e.reads) ∙ h)), λ h. absurd (e.good i h.bad));
    none = (λ h. e.good, λ good. ap (λ (x : Readings). x.bad) e.reads);
    before = λ i h. absurd (e.good i h.bad);
    all = λ h. ap (λ (x : Readings). x.values) e.reads;
  }
    where
      none_some : (a : ℕ) → None ≡ Some a → ⊥
      none_some a e = cc

pub readings_end_at_first_bad : (text : List ℕ) → ReadsToFirstBad text
readings_end_at_first_bad text = reads_so text (read_so 0 1 (lines_of text))

-- What is noted at a letter keeps the list the list of the occurrences.
use Rattle.std.specs.Prelude.{◌≡◌, ℕ, zero, suc, ◌+◌, ◌-◌, ◌<◌, ◌≤◌, true, false, cond, List, [], ◌∷◌, ◌++◌, map, length, take, drop, slice_get, Option, None, Some, refl}
use Rattle.std.proofs.Common.{sym, ◌∙◌, ap, subst, arith, ⊎_elim, length-append, length-drop, append-nil}
use Rattle.std.proofs.lemmas.List.{map-append, length-take, drop-map, take-map, take-append-drop}
use Rattle.ts_base.specs.declared.letter.Letter.{Letter}
use Rattle.ts_base.specs.declared.range.Range.{Range}
use Rattle.ts_regex.specs.Shape.{Shape}
use Rattle.ts_regex.specs.Language.{InLanguage}
use Rattle.ts_regex.specs.Derivative.{nullable}
use Rattle.ts_regex.proofs.Laws.{nullable_law}
use Rattle.ts_pattern.specs.EachOf.{OneOf}
use Rattle.std.specs.List.{AllByRecursion}
use Rattle.ts_pattern.specs.Occurrences.{IsMatch, IsOccurrence}
use Rattle.ts_pattern.specs.OccurrenceList.{Place, RisingPlaces, AreOccurrences, e_range, AreRanges}
use Rattle.ts_transducer.specs.Inside.{IsInside}
use Rattle.ts_pattern.specs.Trims.{FitsTrims}
use Rattle.ts_pattern.proofs.CallerLemmas.{IsLeastStart, Rising, Covers, Follows, AreLive, Accepts, match_kept, none_ends, to_the_end, each_and, each_map, occurrences_none, occurrences_some}
use Rattle.ts_occurrence.specs.Live.{Start, first_ending}
use Rattle.ts_occurrence.specs.Noted.{IsCut, IsNoted}

-- where nothing is found, no entry accepts
none_accepts : (es : List Start) → first_ending es ≡ None → OneOf Accepts es → ⊥
none_accepts [] q h = h
none_accepts (e ∷ es) q h =
    elim (nullable e.residual) as (λ b. nullable e.residual ≡ b → cond b (Some e.mark) (first_ending es) ≡ None → ⊥) [
      | true ↦ λ n r. cc
      | false ↦ λ n r. ⊎_elim (λ a. let y : nullable e.residual ≡ true = (nullable_law e.residual).1 a in let bad : false ≡ true = sym n ∙ y in cc)
          (λ a. none_accepts es r a) h
    ] refl q

-- what is found is the mark of an entry that accepts, and no entry that accepts is earlier
found_accepts : (P : Start → Type 0) (m : ℕ) (es : List Start) → AllByRecursion P es → first_ending es ≡ Some m → (e : Start) × P e × Accepts e × (e.mark ≡ m)
found_accepts P m [] h q = cc
found_accepts P m (e ∷ es) h q =
    elim (nullable e.residual) as (λ b. nullable e.residual ≡ b → cond b (Some e.mark) (first_ending es) ≡ Some m →
    (e : Start) × P e × Accepts e × (e.mark ≡ m)) [
      | true ↦ λ n r. (e, h.0, (nullable_law e.residual).0 n, cc)
      | false ↦ λ n r. found_accepts P m es h.1 r
    ] refl q

covered_later : (low s : ℕ) (es : List Start) → Rising low es → OneOf (Covers s []) es → low ≤ s
covered_later low s [] r h = absurd h
covered_later low s (e ∷ es) r h =
    ⊎_elim (λ c. let x = r.0 in let y = c.0 in omega arith) (λ c. let x = r.0 in let y = covered_later (e.mark + 1) s es r.1 c in omega arith) h

found_least : (m s low : ℕ) (es : List Start) → Rising low es → first_ending es ≡ Some m → OneOf (Covers s []) es → m ≤ s
found_least m s low [] r q h = absurd h
found_least m s low (e ∷ es) r q h =
    elim (nullable e.residual) as (λ b. nullable e.residual ≡ b → cond b (Some e.mark) (first_ending es) ≡ Some m → m ≤ s) [
      | true ↦ λ n k. let same : e.mark ≡ m = cc in
          ⊎_elim (λ c. let x = c.0 in omega arith) (λ c. let x = covered_later (e.mark + 1) s es r.1 c in omega arith) h
      | false ↦ λ n k. ⊎_elim
          (λ c. let y : nullable e.residual ≡ true = (nullable_law e.residual).1 c.1 in let bad : false ≡ true = sym n ∙ y in cc)
          (λ c. found_least m s (e.mark + 1) es r.1 k c)
          h
    ] refl q

-- the start found begins a match that ends at the last sign, and is the least such
least_found : (p : Shape) (w : List Letter) (l : Letter) (es : List Start) (m : ℕ) → AreLive p (w ++ l ∷ []) (length (w ++ l ∷ [])) es →
    first_ending es ≡ Some m → IsLeastStart p w l m
least_found p w l es m h q =
    let n = length-append w (l ∷ []) in
    let f = found_accepts (λ e. (e.mark < length (w ++ l ∷ [])) × Follows p (w ++ l ∷ []) e) m es
    (each_and (λ e. e.mark < length (w ++ l ∷ [])) (Follows p (w ++ l ∷ [])) es h.below h.follows) q in
    record { is = from_entry f.0 f.1.0 f.1.1 f.2 f.3; least = λ s k. found_least m s 0 es h.rising q (match_kept p w l es h s k) }
  where
    from_entry : (e : Start) → e.mark < length (w ++ l ∷ []) → Follows p (w ++ l ∷ []) e → Accepts e → e.mark ≡ m → IsMatch p (w ++ l ∷ []) m (length w + 1)
    from_entry e b f a q =
        let n = length-append w (l ∷ []) in
        subst (λ s. IsMatch p (w ++ l ∷ []) s (length w + 1)) q
        (record {
          some = omega arith;
          inside = omega arith;
          word = subst (λ y. InLanguage p y) (append-nil (drop e.mark (w ++ l ∷ [])) ∙ sym (to_the_end (w ++ l ∷ []) e.mark (length w + 1) (omega arith)))
              (f.to [] a);
        })

-- what is found is a start before the signs read
pub found_below : (k m : ℕ) (es : List Start) → AllByRecursion (λ e. e.mark < k) es → first_ending es ≡ Some m → m < k
found_below k m es h q =
    let f = found_accepts (λ e. e.mark < k) m es h q in
    let x = f.1 in
    let y = f.3 in
    omega arith

-- ranges and places
get_map : {A B : Type 0} (f : A → B) (n : ℕ) (xs : List A) (x : A) → slice_get xs n ≡ Some x → slice_get (map f xs) n ≡ Some (f x)
get_map f n [] x q = cc
get_map f zero (y ∷ xs) x q = ap (λ z. Some (f z)) (let e : y ≡ x = cc in e)
get_map f (suc n) (y ∷ xs) x q = get_map f n xs x q

each_of_map : {A B : Type 0} (P : B → Type 0) (f : A → B) (xs : List A) → AllByRecursion P (map f xs) → AllByRecursion (λ x. P (f x)) xs
each_of_map P f [] h = tt
each_of_map P f (x ∷ xs) h = (h.0, each_of_map P f xs h.1)

each_to_map : {A B : Type 0} (P : B → Type 0) (f : A → B) (xs : List A) → AllByRecursion (λ x. P (f x)) xs → AllByRecursion P (map f xs)
each_to_map P f [] h = tt
each_to_map P f (x ∷ xs) h = (h.0, each_to_map P f xs h.1)

-- the places before a start rise, so it is enough to know the last of them
before_start : (m low n : ℕ) (xs : List Place) → RisingPlaces low xs → n ≤ length xs →
    ((x : Place) (k : ℕ) → n ≡ suc k → slice_get xs k ≡ Some x → x.start < m) → AllByRecursion (λ x. x.start < m) (take n xs)
before_start m low zero xs r q h = tt
before_start m low (suc zero) [] r q h = tt
before_start m low (suc zero) (x ∷ xs) r q h = (h x 0 refl refl, tt)
before_start m low (suc (suc n)) [] r q h = tt
before_start m low (suc (suc n)) (x ∷ []) r q h = absurd (omega arith)
before_start m low (suc (suc n)) (x ∷ y ∷ xs) r q h =
    let rest : AllByRecursion (λ z. z.start < m) (take (suc n) (y ∷ xs)) =
    before_start m (x.start + 1) (suc n) (y ∷ xs) r.1 (omega arith) (λ z k a b. h z (suc k) (ap suc a) b) in
    ((let a = rest.0 in let b = r.1.0 in omega arith), rest)

-- one more letter
pub noted_step : (p : Shape) (b a : ℕ) (w : List Letter) (l : Letter) (es : List Start) (old new : List Range) →
    AreLive p (w ++ l ∷ []) (length (w ++ l ∷ [])) es → IsNoted b a (length w) (first_ending es) old new → AreRanges p b a w old →
    AreRanges p b a (w ++ l ∷ []) new
noted_step p b a w l es old new h n r = go (first_ending es) refl n
  where
    some : (m : ℕ) → first_ending es ≡ Some m → (kept : ℕ) → IsCut old (m + 1 + b) kept →
        new ≡ take kept old ++ e_range b a (record { start = m; end = length w + 1 }) ∷ [] → AreRanges p b a (w ++ l ∷ []) new
    some m q kept c e =
        let places = r.0 in
        let cut : IsCut (map (λ x. e_range b a x) places) (m + 1 + b) kept = subst (λ z. IsCut z (m + 1 + b) kept) r.2 c in
        let last : Place = record { start = m; end = length w + 1 } in (
          take kept places ++ last ∷ [],
          occurrences_some p w l m (take kept places) (drop kept places) (least_found p w l es m h q)
              (subst (λ z. AreOccurrences p w z) (sym (take-append-drop kept places)) r.1)
              (before_start m 0 kept places r.1.rising (inside_places places kept cut.inside)
              (λ x k z g. let i : kept - 1 ≡ k = omega arith in
              let y = cut.before (e_range b a x) (omega arith)
              (get_map (λ x. e_range b a x) (kept - 1) places x (subst (λ j. slice_get places j ≡ Some x) (sym i) g)) in omega arith))
              (each_map (λ x. m + 1 + b ≤ (e_range b a x).first) (λ x. m ≤ x.start) (λ x k. omega arith) (drop kept places)
              (each_of_map (λ g. m + 1 + b ≤ g.first) (λ x. e_range b a x) (drop kept places)
              (subst (λ z. AllByRecursion (λ g. m + 1 + b ≤ g.first) z) (drop-map (λ x. e_range b a x) kept places) cut.behind))),
          e
              ∙ ap (λ z. take kept z ++ e_range b a last ∷ []) r.2
              ∙ ap (λ z. z ++ e_range b a last ∷ []) (take-map (λ x. e_range b a x) kept places)
              ∙ sym (map-append (λ x. e_range b a x) (take kept places) (last ∷ [])),
        )
      where
        inside_places : (places : List Place) (kept : ℕ) → kept ≤ length (map (λ x. e_range b a x) places) → kept ≤ length places
        inside_places places kept q = subst (λ n. kept ≤ n) (length_map places) q
          where
            length_map : (xs : List Place) → length (map (λ x. e_range b a x) xs) ≡ length xs
            length_map [] = refl
            length_map (x ∷ xs) = ap suc (length_map xs)

    go : (o : Option ℕ) → first_ending es ≡ o → IsNoted b a (length w) o old new → AreRanges p b a (w ++ l ∷ []) new
    go None q n = (r.0, occurrences_none p w l r.0 (none_ends p w l es h (none_accepts es q)) r.1, n ∙ r.2)
    go (Some m) q n = some m q n.0 n.1 n.2

-- with fitting trims each range has a cell and lies in the series
pub inside_series : (p : Shape) (b a : ℕ) (w : List Letter) (ranges : List Range) → FitsTrims p b a → AreRanges p b a w ranges →
    AllByRecursion (λ r. IsInside (length w + 1) r) ranges
inside_series p b a w ranges f h =
    subst (λ z. AllByRecursion (λ r. IsInside (length w + 1) r) z) (sym h.2)
    (each_to_map (λ r. IsInside (length w + 1) r) (λ x. e_range b a x) h.0
    (each_map (λ x. IsOccurrence p w x.start x.end) (λ x. IsInside (length w + 1) (e_range b a x)) (λ x o. one x o) h.0 h.1.each))
  where
    one : (x : Place) → IsOccurrence p w x.start x.end → IsInside (length w + 1) (e_range b a x)
    one x o =
        let s = o.is.some in
        let i = o.is.inside in
        let n = word_length w x.start x.end s i in
        let k = f (take (x.end - x.start) (drop x.start w)) o.is.word (omega arith) in
        (omega arith, omega arith, omega arith)
      where
        word_length : (w : List Letter) (s e : ℕ) → s < e → e ≤ length w → length (take (e - s) (drop s w)) ≡ e - s
        word_length w s e p q = omega (arith, length-take (e - s) (drop s w), length-drop s w)

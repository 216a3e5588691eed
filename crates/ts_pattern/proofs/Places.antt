-- How the list of the occurrences changes when one letter is read, and that it is determined.
use Rattle.std.specs.Prelude.{◌≡◌, ◌⊎◌, ℕ, ◌+◌, ◌<◌, ◌≤◌, List, [], ◌∷◌, ◌++◌, length, refl}
use Rattle.std.proofs.Common.{sym, ◌∙◌, ap, inl, inr, arith, ⊎_elim}
use Rattle.ts_base.specs.declared.letter.Letter.{Letter}
use Rattle.ts_regex.specs.Shape.{Shape}
use Rattle.ts_pattern.specs.EachOf.{OneOf}
use Rattle.std.specs.List.{AllByRecursion}
use Rattle.ts_pattern.specs.Occurrences.{IsOccurrence}
use Rattle.ts_pattern.specs.OccurrenceList.{Place, RisingPlaces, IsPlace, AreOccurrences}
use Rattle.ts_pattern.proofs.Elements.{each_map, each_and, each_push, each_left, one_left, one_right}
use Rattle.ts_pattern.proofs.OneLetter.{NoneEnds, IsLeastStart, none_up, none_down, some_last, some_up, some_down}

rising_left : (a : ℕ) (es fs : List Place) → RisingPlaces a (es ++ fs) → RisingPlaces a es
rising_left a [] fs h = tt
rising_left a (x ∷ es) fs h = (h.0, rising_left (x.start + 1) es fs h.1)

rising_to : (a m n : ℕ) (es : List Place) → RisingPlaces a es → a ≤ m → AllByRecursion (λ x. x.start < m) es →
    RisingPlaces a (es ++ record { start = m; end = n } ∷ [])
rising_to a m n [] h q b = (q, tt)
rising_to a m n (x ∷ es) h q b = (h.0, rising_to (x.start + 1) m n es h.1 (let y = b.0 in omega arith) b.1)

-- the pairs before the last one start before it
pub before_last : (a : ℕ) (es : List Place) (x : Place) → RisingPlaces a (es ++ x ∷ []) → (a ≤ x.start) × AllByRecursion (λ y. y.start < x.start) es
before_last a [] x h = (h.0, tt)
before_last a (y ∷ es) x h =
    let k = before_last (y.start + 1) es x h.1 in
    let k0 = k.0 in
    let h0 = h.0 in
    (omega arith, (omega arith, k.1))

split_one : {A : Type 0} (p : A → Type 0) (es fs : List A) → OneOf p (es ++ fs) → OneOf p es ⊎ OneOf p fs
split_one p [] fs h = inr h
split_one p (x ∷ es) fs h = ⊎_elim (λ a. inl (inl a)) (λ a. ⊎_elim (λ b. inl (inr b)) (λ b. inr b) (split_one p es fs a)) h

pub occurrences_none : (p : Shape) (w : List Letter) (l : Letter) (ps : List Place) → NoneEnds p w l → AreOccurrences p w ps → AreOccurrences p (w ++ l ∷ []) ps
occurrences_none p w l ps nil h =
    record {
      rising = h.rising;
      each = each_map (λ x. IsOccurrence p w x.start x.end) (λ x. IsOccurrence p (w ++ l ∷ []) x.start x.end)
          (λ x o. none_up p w l nil x.start x.end o) ps h.each;
      all = λ s e o. h.all s e (none_down p w l nil s e o);
    }

pub occurrences_some : (p : Shape) (w : List Letter) (l : Letter) (m : ℕ) (old rest : List Place) → IsLeastStart p w l m → AreOccurrences p w (old ++ rest) →
    AllByRecursion (λ x. x.start < m) old → AllByRecursion (λ x. m ≤ x.start) rest →
    AreOccurrences p (w ++ l ∷ []) (old ++ record { start = m; end = length w + 1 } ∷ [])
occurrences_some p w l m old rest k h b c =
    record {
      rising = rising_to 0 m (length w + 1) old (rising_left 0 old rest h.rising) (omega arith) b;
      each = each_push (λ x. IsOccurrence p (w ++ l ∷ []) x.start x.end) old (record { start = m; end = length w + 1 })
          (each_map (λ x. (x.start < m) × IsOccurrence p w x.start x.end) (λ x. IsOccurrence p (w ++ l ∷ []) x.start x.end)
          (λ x o. some_up p w l m k x.start x.end o.0 o.1) old
          (each_and (λ x. x.start < m) (λ x. IsOccurrence p w x.start x.end) old b (each_left (λ x. IsOccurrence p w x.start x.end) old rest h.each)))
          (some_last p w l m k);
      all = λ s e o. ⊎_elim
          (λ q. one_right (IsPlace s e) old (record { start = m; end = length w + 1 } ∷ []) (inl (sym q.0, sym q.1)))
          (λ q. ⊎_elim
          (λ a. one_left (IsPlace s e) old (record { start = m; end = length w + 1 } ∷ []) a)
          (λ a. absurd (apart s e m rest q.0 c a))
          (split_one (IsPlace s e) old rest (h.all s e q.1)))
          (some_down p w l m k s e o);
    }
  where
    apart : (s e m : ℕ) (rest : List Place) → s < m → AllByRecursion (λ x. m ≤ x.start) rest → OneOf (IsPlace s e) rest → ⊥
    apart s e m [] q c a = a
    apart s e m (x ∷ rest) q c a = ⊎_elim (λ z. let y = z.0 in let u = c.0 in omega arith) (λ z. apart s e m rest q c.1 z) a

-- two occurrences with one start are equal
pub same_start_same : (p : Shape) (w : List Letter) (s e e' : ℕ) → IsOccurrence p w s e → IsOccurrence p w s e' → e ≤ e' → e' ≡ e
same_start_same p w s e e' o o' q = (o.maximal s e' o'.is (omega arith) q).1

pub place_is : (x y : Place) → x.start ≡ y.start → x.end ≡ y.end → x ≡ y
place_is x y q r = ap (λ z. record { start = z; end = x.end }) q ∙ ap (λ z. record { start = y.start; end = z }) r

later_places : (a : ℕ) (xs : List Place) → RisingPlaces a xs → AllByRecursion (λ x. a ≤ x.start) xs
later_places a [] h = tt
later_places a (x ∷ xs) h = (
  h.0,
  each_map (λ y. x.start + 1 ≤ y.start) (λ y. a ≤ y.start) (λ y q. let z = h.0 in omega arith) xs
      (later_places (x.start + 1) xs h.1),
)

is_later : (a s e : ℕ) (xs : List Place) → AllByRecursion (λ x. a ≤ x.start) xs → OneOf (IsPlace s e) xs → a ≤ s
is_later a s e [] h k = absurd k
is_later a s e (x ∷ xs) h k = ⊎_elim (λ q. let y = h.0 in let z = q.0 in omega arith) (λ q. is_later a s e xs h.1 q) k

-- each pair of the one list, all of them above a, stands in the other without its first
in_the_rest : (a : ℕ) (y : Place) (xs ys : List Place) → y.start < a → AllByRecursion (λ x. a ≤ x.start) xs →
    AllByRecursion (λ x. OneOf (IsPlace x.start x.end) (y ∷ ys)) xs →
    AllByRecursion (λ x. OneOf (IsPlace x.start x.end) ys) xs
in_the_rest a y [] ys q h k = tt
in_the_rest a y (x ∷ xs) ys q h k =
    (⊎_elim (λ z. absurd (let u = z.0 in let v = h.0 in omega arith)) (λ z. z) k.0, in_the_rest a y xs ys q h.1 k.1)

rising_same : (a b : ℕ) (xs ys : List Place) → RisingPlaces a xs → RisingPlaces b ys → AllByRecursion (λ x. OneOf (IsPlace x.start x.end) ys) xs →
    AllByRecursion (λ y. OneOf (IsPlace y.start y.end) xs) ys → xs ≡ ys
rising_same a b [] [] r q h k = refl
rising_same a b [] (y ∷ ys) r q h k = absurd k.0
rising_same a b (x ∷ xs) [] r q h k = absurd h.0
rising_same a b (x ∷ xs) (y ∷ ys) r q h k =
    let xl : AllByRecursion (λ z. x.start + 1 ≤ z.start) xs = later_places (x.start + 1) xs r.1 in
    let yl : AllByRecursion (λ z. y.start + 1 ≤ z.start) ys = later_places (y.start + 1) ys q.1 in
    let same : x ≡ y = ⊎_elim
    (λ z. sym (place_is y x z.0 z.1))
    (λ z. ⊎_elim
    (λ u. place_is x y u.0 u.1)
    (λ u. absurd (let g = is_later (y.start + 1) x.start x.end ys yl z in let i = is_later (x.start + 1) y.start y.end xs xl u in omega arith))
    k.0)
    h.0 in
    let starts : x.start ≡ y.start = ap (λ (z : Place). z.start) same in
    ap (λ z. z ∷ xs) same
    ∙ ap (λ z. y ∷ z) (rising_same (x.start + 1) (y.start + 1) xs ys r.1 q.1
    (in_the_rest (x.start + 1) y xs ys (omega arith) xl h.1)
    (in_the_rest (y.start + 1) x ys xs (omega arith) yl k.1))

-- the list of the occurrences is one
pub occurrences_unique : (p : Shape) (w : List Letter) (xs ys : List Place) → AreOccurrences p w xs → AreOccurrences p w ys → xs ≡ ys
occurrences_unique p w xs ys h k =
    rising_same 0 0 xs ys h.rising k.rising
    (each_map (λ x. IsOccurrence p w x.start x.end) (λ x. OneOf (IsPlace x.start x.end) ys) (λ x o. k.all x.start x.end o) xs h.each)
    (each_map (λ x. IsOccurrence p w x.start x.end) (λ x. OneOf (IsPlace x.start x.end) xs) (λ x o. h.all x.start x.end o) ys k.each)

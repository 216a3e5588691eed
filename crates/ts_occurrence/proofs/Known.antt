-- The residuals that a search has met: one more of them, and one more number noted.
use Rattle.std.specs.Prelude.{◌≡◌, ◌⊎◌, ℕ, zero, suc, ◌<◌, ◌≤◌, true, false, List, [], ◌∷◌, ◌++◌, length, get_or, set, Option, None, Some, refl}
use Rattle.std.specs.List.{slice_get, position, position_or_len}
use Rattle.std.specs.Option.{option_map}
use Rattle.std.proofs.Common.{sym, ◌∙◌, ap, subst, inl, inr, arith, ⊎_elim, true≢false}
use Rattle.std.proofs.lemmas.Grind.{common_steps}
use Rattle.std.proofs.lemmas.List.{map-append, length-map}
use Rattle.std.proofs.lemmas.List.Quantifiers.{position-Some}
use Rattle.std.proofs.lemmas.List.Sums.{fails_before_first}
use Rattle.std.proofs.lemmas.Option.{same_Some, none-some, slice_get-map, slice_get-get_or, slice_get_within, get_or_from_slice_get}
use Rattle.std.proofs.Math.Seq.{map-set_same}
use Rattle.ts_pattern.proofs.CallerLemmas.{front_or_last}
use Rattle.ts_base.specs.declared.letter.Letter.{Letter}
use Rattle.ts_base.specs.declared.letter.Letter.TheVariants.{Less, Equal, Greater}
use Rattle.ts_regex.specs.declared.regex.Regex.{Regex}
use Rattle.ts_regex.specs.Shape.{Shape, Empty, shape_of}
use Rattle.ts_regex.specs.Derivative.{nullable, has_word}
use Rattle.ts_regex.specs.NormalForm.{residual, same_shape}
use Rattle.ts_regex.proofs.Laws.{same_law}
use Rattle.ts_occurrence.specs.declared.residuals.MetResidual.{MetResidual}
use Rattle.ts_occurrence.specs.Residuals.{shapes_met, number_after, with_number_after, met_of, IsNumber, AnswersRight, AreConsistent, Grows}

-- lists

front : {A : Type 0} (xs ys : List A) (k : ℕ) (x : A) → slice_get xs k ≡ Some x → slice_get (xs ++ ys) k ≡ Some x
front [] ys k x q = absurd (none-some x q)
front (y ∷ xs) ys zero x q = q
front (y ∷ xs) ys (suc k) x q = front xs ys k x q

last : {A : Type 0} (xs : List A) (x : A) → slice_get (xs ++ x ∷ []) (length xs) ≡ Some x
last [] x = refl
last (y ∷ xs) x = last xs x

pub known_get : (ms : List MetResidual) (k : ℕ) (m : MetResidual) → slice_get ms k ≡ Some m → IsNumber (shapes_met ms) (shape_of m.residual) k
known_get ms k m q = slice_get-map (λ x. shape_of x.residual) ms k ∙ ap (λ o. option_map (λ (x : MetResidual). shape_of x.residual) o) q

pub known_length : (ms : List MetResidual) → length (shapes_met ms) ≡ length ms
known_length ms = length-map ms (λ x. shape_of x.residual)

-- what stands at a place
at : {A : Type 0} (xs : List A) (k : ℕ) (x d : A) → k < length xs → x ≡ get_or xs k d → slice_get xs k ≡ Some x
at xs k x d q e = slice_get-get_or xs k d q ∙ ap (λ z. Some z) (sym e)

pub residual_is : (ms : List MetResidual) (k : ℕ) (m d : MetResidual) → k < length ms → m ≡ get_or ms k d → shape_of m.residual ≡ get_or (shapes_met ms) k Empty
residual_is ms k m d q e = sym (get_or_from_slice_get (shapes_met ms) k (shape_of m.residual) Empty (known_get ms k m (at ms k m d q e)))

-- the answers at a number
pub answers_at : (ms : List MetResidual) → AreConsistent ms → (k : ℕ) (m d : MetResidual) → k < length ms → m ≡ get_or ms k d →
    (m.has_word ≡ has_word (get_or (shapes_met ms) k Empty)) × (m.nullable ≡ nullable (get_or (shapes_met ms) k Empty))
answers_at ms h k m d q e =
    let a = h.answers k m (at ms k m d q e) in
    let s = residual_is ms k m d q e in
    (a.0 ∙ ap (λ z. has_word z) s, a.1 ∙ ap (λ z. nullable z) s)

-- a number stays one
pub within_grown : (old : List Shape) (new : List MetResidual) (k : ℕ) → Grows old (shapes_met new) → k < length old → k < length new
within_grown old new k g q =
    let there = slice_get_within (shapes_met new) k (get_or old k Empty) (g k (get_or old k Empty) (slice_get-get_or old k Empty q)) in
    let z = known_length new in
    omega arith

pub grows_on : (xs ys zs : List Shape) → Grows xs ys → Grows ys zs → Grows xs zs
grows_on xs ys zs g h n r q = h n r (g n r q)

pub same_grown : (old new : List MetResidual) (k : ℕ) (r : Shape) → Grows (shapes_met old) (shapes_met new) → k < length old →
    get_or (shapes_met old) k Empty ≡ r →
    get_or (shapes_met new) k Empty ≡ r
same_grown old new k r g q e =
    let inside : k < length (shapes_met old) = (let z = known_length old in omega arith) in
    get_or_from_slice_get (shapes_met new) k (get_or (shapes_met old) k Empty) Empty
    (g k (get_or (shapes_met old) k Empty) (slice_get-get_or (shapes_met old) k Empty inside))
    ∙ e

pub stays_within : (old new : List MetResidual) (k : ℕ) → Grows (shapes_met old) (shapes_met new) → k < length old → k < length new
stays_within old new k g q = within_grown (shapes_met old) new k g (let z = known_length old in omega arith)

pub number_within : (ms : List MetResidual) (n : ℕ) (r : Shape) → IsNumber (shapes_met ms) r n → n < length ms
number_within ms n r q =
    let inside = slice_get_within (shapes_met ms) n r q in
    let z = known_length ms in
    omega arith

-- one more residual

grown_by_one : (ms : List MetResidual) (m : MetResidual) → Grows (shapes_met ms) (shapes_met (ms ++ m ∷ []))
grown_by_one ms m n r q = subst (λ z. IsNumber z r n) (sym (map-append (λ x. shape_of x.residual) ms (m ∷ [])))
    (front (shapes_met ms) (shape_of m.residual ∷ []) n r q)

last_is : (ms : List MetResidual) (m : MetResidual) → IsNumber (shapes_met (ms ++ m ∷ [])) (shape_of m.residual) (length ms)
last_is ms m = known_get (ms ++ m ∷ []) (length ms) m (last ms m)

-- the residual stands nowhere
abbrev Lacks : List MetResidual → Shape → Type 0
Lacks ms r = (n : ℕ) → IsNumber (shapes_met ms) r n → ⊥

right_with_one : (ms : List MetResidual) (m : MetResidual) → AreConsistent ms → Lacks ms (shape_of m.residual) → AnswersRight m →
    ((l : Letter) → number_after m l ≡ None) →
    AreConsistent (ms ++ m ∷ [])
right_with_one ms m h lacks right none =
    record {
      once = λ i j r p q. once i j r (split i r p) (split j r q);
      answers = λ k x p. ⊎_elim (λ c. h.answers k x c) (λ c. subst (λ z. AnswersRight z) c.1 right) (front_or_last ms m k x p);
      after = λ k n x l p q. ⊎_elim
          (λ c. grown_by_one ms m n (residual (shape_of x.residual) l) (h.after k n x l c q))
          (λ c. absurd (none-some n (sym (none l) ∙ ap (λ (z : MetResidual). number_after z l) c.1 ∙ q)))
          (front_or_last ms m k x p);
    }
  where
    split : (i : ℕ) (r : Shape) → IsNumber (shapes_met (ms ++ m ∷ [])) r i →
        IsNumber (shapes_met ms) r i ⊎ ((i ≡ length (shapes_met ms)) × (shape_of m.residual ≡ r))
    split i r p = front_or_last (shapes_met ms) (shape_of m.residual) i r (subst (λ z. IsNumber z r i) (map-append (λ x. shape_of x.residual) ms (m ∷ [])) p)

    once : (i j : ℕ) (r : Shape) → IsNumber (shapes_met ms) r i ⊎ ((i ≡ length (shapes_met ms)) × (shape_of m.residual ≡ r)) →
        IsNumber (shapes_met ms) r j ⊎ ((j ≡ length (shapes_met ms)) × (shape_of m.residual ≡ r)) → i ≡ j
    once i j r p q =
        ⊎_elim
        (λ a. ⊎_elim (λ b. h.once i j r a b) (λ b. absurd (lacks i (subst (λ z. IsNumber (shapes_met ms) z i) (sym b.1) a))) q)
        (λ a. ⊎_elim (λ b. absurd (lacks j (subst (λ z. IsNumber (shapes_met ms) z j) (sym a.1) b))) (λ b. a.0 ∙ sym b.0) q)
        p

-- one more number noted

kept_residual : (m : MetResidual) (n : ℕ) (l : Letter) → shape_of (with_number_after m l n).residual ≡ shape_of m.residual
kept_residual m n Less = refl
kept_residual m n Equal = refl
kept_residual m n Greater = refl

kept_answers : (m : MetResidual) (n : ℕ) (l : Letter) → AnswersRight m → AnswersRight (with_number_after m l n)
kept_answers m n Less h = h
kept_answers m n Equal h = h
kept_answers m n Greater h = h

known_kept : (ms : List MetResidual) (k n : ℕ) (m d : MetResidual) (l : Letter) → m ≡ get_or ms k d →
    shapes_met (set ms k (with_number_after m l n)) ≡ shapes_met ms
known_kept ms k n m d l e = map-set_same (λ x. shape_of x.residual) ms k (with_number_after m l n) d
    (kept_residual m n l ∙ ap (λ (z : MetResidual). shape_of z.residual) e)

-- a number after m is that of before or the one noted
noted : (m : MetResidual) (n i : ℕ) (l k : Letter) → number_after (with_number_after m l n) k ≡ Some i → (number_after m k ≡ Some i) ⊎ ((l ≡ k) × (n ≡ i))
noted m n i Less Less q = inr (refl, same_Some n i q)
noted m n i Less Equal q = inl q
noted m n i Less Greater q = inl q
noted m n i Equal Less q = inl q
noted m n i Equal Equal q = inr (refl, same_Some n i q)
noted m n i Equal Greater q = inl q
noted m n i Greater Less q = inl q
noted m n i Greater Equal q = inl q
noted m n i Greater Greater q = inr (refl, same_Some n i q)

-- what stands in a list with one element changed
set_or_old : {A : Type 0} (xs : List A) (i k : ℕ) (y x : A) → slice_get (set xs i y) k ≡ Some x → ((k ≡ i) × (y ≡ x)) ⊎ (slice_get xs k ≡ Some x)
set_or_old [] i k y x q = absurd (none-some x q)
set_or_old (z ∷ xs) zero zero y x q = inl (refl, same_Some y x q)
set_or_old (z ∷ xs) zero (suc k) y x q = inr q
set_or_old (z ∷ xs) (suc i) zero y x q = inr q
set_or_old (z ∷ xs) (suc i) (suc k) y x q = ⊎_elim (λ h. inl (ap (λ n. suc n) h.0, h.1)) (λ h. inr h) (set_or_old xs i k y x q)

right_with_number : (ms : List MetResidual) (i n : ℕ) (m d : MetResidual) (l : Letter) → i < length ms → m ≡ get_or ms i d →
    IsNumber (shapes_met ms) (residual (shape_of m.residual) l) n → AreConsistent ms → AreConsistent (set ms i (with_number_after m l n))
right_with_number ms i n m d l inside e number h =
    let same : shapes_met (set ms i (with_number_after m l n)) ≡ shapes_met ms = known_kept ms i n m d l e in
    record {
      once = λ a b r p q. h.once a b r (subst (λ z. IsNumber z r a) same p) (subst (λ z. IsNumber z r b) same q);
      answers = λ k x p. ⊎_elim
          (λ g. subst (λ z. AnswersRight z) g.1 (kept_answers m n l (h.answers i m (at ms i m d inside e))))
          (λ g. h.answers k x g)
          (set_or_old ms i k (with_number_after m l n) x p);
      after = λ k j x c p q. subst (λ z. IsNumber z (residual (shape_of x.residual) c) j) (sym same)
          (⊎_elim (λ g. changed x c j (sym g.1) q) (λ g. h.after k j x c g q) (set_or_old ms i k (with_number_after m l n) x p));
    }
  where
    changed : (x : MetResidual) (c : Letter) (j : ℕ) → x ≡ with_number_after m l n → number_after x c ≡ Some j →
        IsNumber (shapes_met ms) (residual (shape_of x.residual) c) j
    changed x c j same q =
        let shape : shape_of x.residual ≡ shape_of m.residual = ap (λ (z : MetResidual). shape_of z.residual) same ∙ kept_residual m n l in
        subst (λ z. IsNumber (shapes_met ms) (residual z c) j) (sym shape)
        (⊎_elim
        (λ g. h.after i j m c (at ms i m d inside e) g)
        (λ g. subst (λ z. IsNumber (shapes_met ms) (residual (shape_of m.residual) z) j) g.0
        (subst (λ z. IsNumber (shapes_met ms) (residual (shape_of m.residual) l) z) g.1 number))
        (noted m n j l c (ap (λ (z : MetResidual). number_after z c) (sym same) ∙ q)))

-- the number of what a letter leaves of residual k, noted
pub noted_right : (old now : List MetResidual) (k n : ℕ) (l : Letter) (m d new : MetResidual) (r rest : Shape) → k < length old →
    r ≡ get_or (shapes_met old) k Empty →
    rest ≡ residual r l → Grows (shapes_met old) (shapes_met now) → AreConsistent now → IsNumber (shapes_met now) rest n → m ≡ get_or now k d →
    new ≡ with_number_after m l n →
    AreConsistent (set now k new) × Grows (shapes_met old) (shapes_met (set now k new))
    × IsNumber (shapes_met (set now k new)) (residual (get_or (shapes_met old) k Empty) l) n
noted_right old now k n l m d new r rest q er es g h number em en =
    let here : k < length (shapes_met old) = (let z = known_length old in omega arith) in
    let inside : k < length now = within_grown (shapes_met old) now k g here in
    let kept : r ≡ shape_of m.residual = same_Some r (shape_of m.residual)
    (sym (subst (λ z. IsNumber (shapes_met now) z k) (sym er) (g k (get_or (shapes_met old) k Empty) (slice_get-get_or (shapes_met old) k Empty here)))
    ∙ known_get now k m (at now k m d inside em)) in
    let is : rest ≡ residual (shape_of m.residual) l = es ∙ ap (λ z. residual z l) kept in
    let same : shapes_met (set now k new) ≡ shapes_met now = ap (λ z. shapes_met (set now k z)) en ∙ known_kept now k n m d l em in (
      subst (λ z. AreConsistent (set now k z)) (sym en) (right_with_number now k n m d l inside em (subst (λ z. IsNumber (shapes_met now) z n) is number) h),
      subst (λ z. Grows (shapes_met old) z) (sym same) g,
      subst (λ z. IsNumber z (residual (get_or (shapes_met old) k Empty) l) n) (sym same)
          (subst (λ z. IsNumber (shapes_met now) z n) (es ∙ ap (λ z. residual z l) er) number),
    )

-- looking one up

pub found_is : (ms : List MetResidual) (r : Shape) (n : ℕ) → position (λ m. same_shape (shape_of m.residual) r) ms ≡ Some n → IsNumber (shapes_met ms) r n
found_is [] r n q = absurd (none-some n q)
found_is (d ∷ ms) r n q =
    let there = position-Some (λ m. same_shape (shape_of m.residual) r) (d ∷ ms) n d q in
    known_get (d ∷ ms) n (get_or (d ∷ ms) n d) (slice_get-get_or (d ∷ ms) n d there.0)
    ∙ ap (λ z. Some z) ((same_law (shape_of (get_or (d ∷ ms) n d).residual) r).0 there.1)

not_found : (ms : List MetResidual) (r : Shape) → position (λ m. same_shape (shape_of m.residual) r) ms ≡ None → Lacks ms r
not_found ms r q n p = there (slice_get ms n) refl
  where
    there : (o : Option MetResidual) → slice_get ms n ≡ o → ⊥
    there None e = absurd (none-some r
        (sym (slice_get-map (λ x. shape_of x.residual) ms n ∙ ap (λ o. option_map (λ (x : MetResidual). shape_of x.residual) o) e) ∙ p))
    there (Some m) e =
        let inside : n < length ms = slice_get_within ms n m e in
        let past : length ms ≤ position_or_len (λ m. same_shape (shape_of m.residual) r) ms = grind (arith, common_steps) in
        let no : same_shape (shape_of (get_or ms n m).residual) r ≡ false = fails_before_first (λ m. same_shape (shape_of m.residual) r) ms n m (omega arith) in
        let is : get_or ms n m ≡ m = get_or_from_slice_get ms n m m e in
        let shape : shape_of m.residual ≡ r = same_Some (shape_of m.residual) r (sym (known_get ms n m e) ∙ p) in
        let yes : same_shape (shape_of (get_or ms n m).residual) r ≡ true =
        (same_law (shape_of (get_or ms n m).residual) r).1 (ap (λ (z : MetResidual). shape_of z.residual) is ∙ shape) in
        absurd (true≢false (sym yes ∙ no))

-- a residual that wasn't met before comes last
pub pushed_right : (old new : List MetResidual) (m : MetResidual) (r : Regex) (n : ℕ) → AreConsistent old →
    position (λ x. same_shape (shape_of x.residual) (shape_of r)) old ≡ None → m ≡ met_of r →
    new ≡ old ++ m ∷ [] → n ≡ length old →
    AreConsistent new × Grows (shapes_met old) (shapes_met new) × IsNumber (shapes_met new) (shape_of r) n
pushed_right old new m r n h none em en el =
    let shape : shape_of m.residual ≡ shape_of r = ap (λ (z : MetResidual). shape_of z.residual) em in (
      subst (λ z. AreConsistent z) (sym en) (right_with_one old m h (subst (λ z. Lacks old z) (sym shape) (not_found old (shape_of r) none))
          (subst (λ z. AnswersRight z) (sym em) (refl, refl)) (λ l. ap (λ (z : MetResidual). number_after z l) em ∙ nowhere l)),
      subst (λ z. Grows (shapes_met old) (shapes_met z)) (sym en) (grown_by_one old m),
      subst (λ z. IsNumber (shapes_met z) (shape_of r) n) (sym en)
          (subst (λ z. IsNumber (shapes_met (old ++ m ∷ [])) (shape_of r) z) (sym el)
          (subst (λ z. IsNumber (shapes_met (old ++ m ∷ [])) z (length old)) shape (last_is old m))),
    )
  where
    nowhere : (l : Letter) → number_after (met_of r) l ≡ None
    nowhere Less = refl
    nowhere Equal = refl
    nowhere Greater = refl

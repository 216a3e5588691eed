-- The tests `nullable`, `has_word` and `has_longer` and the derivative say what they say of the language.
use Rattle.std.specs.Prelude.{◌≡◌, ◌⊎◌, Bool, true, false, cond, ◌&&◌, List, [], ◌∷◌, ◌++◌, refl}
use Rattle.std.proofs.Common.{sym, ◌∙◌, ap, subst, inl, inr, ⊎_elim}
use Rattle.std.proofs.lemmas.Bool.{false≢true, and_parts, and_from, or_left, or_right}
use Rattle.ts_base.specs.declared.letter.Letter.{Letter}
use Rattle.ts_base.specs.declared.letter.Letter.TheVariants.{Less, Equal, Greater}
use Rattle.ts_regex.specs.Shape.{Shape, Empty, Eps, One, Cat, Alt, Star}
use Rattle.ts_regex.specs.Language.{IsRepeated, NoMore, OnceMore, InLanguage}
use Rattle.ts_regex.specs.Derivative.{same_letter, nullable, derivative, has_word, has_longer}
use Rattle.ts_regex.proofs.Booleans.{either_true}

pub letters_equal : (l m : Letter) → same_letter l m ≡ true → l ≡ m
letters_equal Less Less q = refl
letters_equal Equal Equal q = refl
letters_equal Greater Greater q = refl
letters_equal l m q = absurd (false≢true q)

pub letter_itself : (l : Letter) → same_letter l l ≡ true
letter_itself Less = refl
letter_itself Equal = refl
letter_itself Greater = refl

-- a list that has no member
abbrev pub IsNil : List Letter → Type 0
IsNil [] = Unit {0}
IsNil (x ∷ xs) = ⊥

abbrev pub head_or : Letter → List Letter → Letter
head_or d [] = d
head_or d (x ∷ xs) = x

abbrev pub tail_of : List Letter → List Letter
tail_of [] = []
tail_of (x ∷ xs) = xs

pub nil_cons : (x : Letter) (xs : List Letter) → [] ≡ x ∷ xs → ⊥
nil_cons x xs q = subst (λ z. IsNil z) q tt

pub nil_append : (x y : List Letter) → [] ≡ x ++ y → (x ≡ []) × (y ≡ [])
nil_append [] y q = (refl, sym q)
nil_append (a ∷ x) y q = absurd (nil_cons a (x ++ y) q)

pub nullable_to : (r : Shape) → nullable r ≡ true → InLanguage r []
nullable_to Empty q = absurd (false≢true q)
nullable_to Eps q = refl
nullable_to (One l) q = absurd (false≢true q)
nullable_to (Cat r s) q = let h = and_parts (nullable r) (nullable s) q in ([], [], refl, nullable_to r h.0, nullable_to s h.1)
nullable_to (Alt r s) q = ⊎_elim (λ a. inl (nullable_to r a)) (λ a. inr (nullable_to s a)) (either_true (nullable r) (nullable s) q)
nullable_to (Star r) q = NoMore [] refl

pub nullable_back : (r : Shape) → InLanguage r [] → nullable r ≡ true
nullable_back Empty h = absurd h
nullable_back Eps h = refl
nullable_back (One l) h = absurd (nil_cons l [] h)
nullable_back (Cat r s) h =
    let e = nil_append h.0 h.1 h.2 in
    and_from (nullable r) (nullable s) (nullable_back r (subst (λ z. InLanguage r z) e.0 h.3)) (nullable_back s (subst (λ z. InLanguage s z) e.1 h.4))
nullable_back (Alt r s) h =
    ⊎_elim (λ a. or_left (nullable r) (nullable s) (nullable_back r a)) (λ a. or_right (nullable r) (nullable s) (nullable_back s a)) h
nullable_back (Star r) h = refl

-- the derivative of a Cat: with a second member only where the empty word is in the first part
pub cond_left : (b : Bool) (r s : Shape) (v : List Letter) → InLanguage r v → InLanguage (cond b (Alt r s) r) v
cond_left true r s v h = inl h
cond_left false r s v h = h

pub cond_right : (b : Bool) (r s : Shape) (v : List Letter) → b ≡ true → InLanguage s v → InLanguage (cond b (Alt r s) r) v
cond_right true r s v q h = inr h
cond_right false r s v q h = absurd (false≢true q)

pub cond_is : (b : Bool) (r s : Shape) (v : List Letter) → InLanguage (cond b (Alt r s) r) v → InLanguage r v ⊎ ((b ≡ true) × InLanguage s v)
cond_is true r s v h = ⊎_elim (λ a. inl a) (λ a. inr (refl, a)) h
cond_is false r s v h = inl h

pub one_to : (b : Bool) (m l : Letter) (v : List Letter) → (b ≡ true → m ≡ l) → InLanguage (cond b Eps Empty) v → l ∷ v ≡ m ∷ []
one_to true m l v g h = ap (λ z. l ∷ z) h ∙ ap (λ z. z ∷ []) (sym (g refl))
one_to false m l v g h = absurd h

pub one_back : (b : Bool) (v : List Letter) → b ≡ true → v ≡ [] → InLanguage (cond b Eps Empty) v
one_back true v q h = h
one_back false v q h = absurd (false≢true q)

pub derivative_to : (r : Shape) (l : Letter) (v : List Letter) → InLanguage (derivative r l) v → InLanguage r (l ∷ v)
derivative_to Empty l v h = absurd h
derivative_to Eps l v h = absurd h
derivative_to (One m) l v h = one_to (same_letter m l) m l v (λ q. letters_equal m l q) h
derivative_to (Cat r s) l v h =
    ⊎_elim
    (λ a. (l ∷ a.0, a.1, ap (λ z. l ∷ z) a.2, derivative_to r l a.0 a.3, a.4))
    (λ a. ([], l ∷ v, refl, nullable_to r a.0, derivative_to s l v a.1))
    (cond_is (nullable r) (Cat (derivative r l) s) (derivative s l) v h)
derivative_to (Alt r s) l v h = ⊎_elim (λ a. inl (derivative_to r l v a)) (λ a. inr (derivative_to s l v a)) h
derivative_to (Star r) l v h = OnceMore l h.0 h.1 (l ∷ v) (ap (λ z. l ∷ z) h.2) (derivative_to r l h.0 h.3) h.4

-- a non-empty word of a Star begins with a non-empty word of the inner one
pub star_cut : (P : List Letter → Type 0) (l : Letter) (v w : List Letter) → IsRepeated P w → l ∷ v ≡ w →
    (x : List Letter) × (y : List Letter) × (v ≡ x ++ y) × P (l ∷ x) × IsRepeated P y
star_cut P l v w (NoMore w' e) q = absurd (nil_cons l v (sym (q ∙ e)))
star_cut P l v w (OnceMore m x y w' e px sy) q =
    let f : l ∷ v ≡ m ∷ (x ++ y) = q ∙ e in
    (x, y, ap (λ z. tail_of z) f, subst (λ z. P (z ∷ x)) (sym (ap (λ z. head_or l z) f)) px, sy)

pub cat_back : (r s : Shape) (l : Letter) (v : List Letter) → ((x : List Letter) → InLanguage r (l ∷ x) → InLanguage (derivative r l) x) →
    (InLanguage s (l ∷ v) → InLanguage (derivative s l) v) → (x y : List Letter) → l ∷ v ≡ x ++ y → InLanguage r x → InLanguage s y →
    InLanguage (derivative (Cat r s) l) v
cat_back r s l v fr fs [] y e px py =
    cond_right (nullable r) (Cat (derivative r l) s) (derivative s l) v (nullable_back r px) (fs (subst (λ z. InLanguage s z) (sym e) py))
cat_back r s l v fr fs (m ∷ x) y e px py =
    cond_left (nullable r) (Cat (derivative r l) s) (derivative s l) v
    (x, y, ap (λ z. tail_of z) e, fr x (subst (λ z. InLanguage r (z ∷ x)) (sym (ap (λ z. head_or l z) e)) px), py)

pub derivative_back : (r : Shape) (l : Letter) (v : List Letter) → InLanguage r (l ∷ v) → InLanguage (derivative r l) v
derivative_back Empty l v h = absurd h
derivative_back Eps l v h = absurd (nil_cons l v (sym h))
derivative_back (One m) l v h =
    one_back (same_letter m l) v (subst (λ z. same_letter m z ≡ true) (sym (ap (λ z. head_or l z) h)) (letter_itself m)) (ap (λ z. tail_of z) h)
derivative_back (Cat r s) l v h = cat_back r s l v (λ x k. derivative_back r l x k) (λ k. derivative_back s l v k) h.0 h.1 h.2 h.3 h.4
derivative_back (Alt r s) l v h = ⊎_elim (λ a. inl (derivative_back r l v a)) (λ a. inr (derivative_back s l v a)) h
derivative_back (Star r) l v h = let c = star_cut (λ z. InLanguage r z) l v (l ∷ v) h refl in (c.0, c.1, c.2, derivative_back r l c.0 c.3, c.4)

pub word_to : (r : Shape) → has_word r ≡ true → (v : List Letter) × InLanguage r v
word_to Empty q = absurd (false≢true q)
word_to Eps q = ([], refl)
word_to (One l) q = (l ∷ [], refl)
word_to (Cat r s) q =
    let h = and_parts (has_word r) (has_word s) q in
    let x = word_to r h.0 in
    let y = word_to s h.1 in
    (x.0 ++ y.0, (x.0, y.0, refl, x.1, y.1))
word_to (Alt r s) q =
    ⊎_elim (λ a. let x = word_to r a in (x.0, inl x.1)) (λ a. let y = word_to s a in (y.0, inr y.1)) (either_true (has_word r) (has_word s) q)
word_to (Star r) q = ([], NoMore [] refl)

pub word_back : (r : Shape) (v : List Letter) → InLanguage r v → has_word r ≡ true
word_back Empty v h = absurd h
word_back Eps v h = refl
word_back (One l) v h = refl
word_back (Cat r s) v h = and_from (has_word r) (has_word s) (word_back r h.0 h.3) (word_back s h.1 h.4)
word_back (Alt r s) v h = ⊎_elim (λ a. or_left (has_word r) (has_word s) (word_back r v a)) (λ a. or_right (has_word r) (has_word s) (word_back s v a)) h
word_back (Star r) v h = refl

-- the expression has this word of at least one letter
abbrev pub HasLonger : Shape → Type 0
HasLonger r = (l : Letter) × (v : List Letter) × InLanguage r (l ∷ v)

-- a word of two parts of which the second has a letter
pub longer_second : (r s : Shape) (x : List Letter) (m : Letter) (y : List Letter) → InLanguage r x → InLanguage s (m ∷ y) → HasLonger (Cat r s)
longer_second r s [] m y px py = (m, y, ([], m ∷ y, refl, px, py))
longer_second r s (l ∷ x) m y px py = (l, x ++ m ∷ y, (l ∷ x, m ∷ y, refl, px, py))

pub longer_to : (r : Shape) → has_longer r ≡ true → HasLonger r
longer_to Empty q = absurd (false≢true q)
longer_to Eps q = absurd (false≢true q)
longer_to (One l) q = (l, [], refl)
longer_to (Cat r s) q =
    ⊎_elim
    (λ a.
    let h = and_parts (has_longer r) (has_word s) a in
    let x = longer_to r h.0 in
    let y = word_to s h.1 in
    (x.0, x.1 ++ y.0, (x.0 ∷ x.1, y.0, refl, x.2, y.1)))
    (λ a.
    let h = and_parts (has_word r) (has_longer s) a in
    let x = word_to r h.0 in
    let y = longer_to s h.1 in
    longer_second r s x.0 y.0 y.1 x.1 y.2)
    (either_true (has_longer r && has_word s) (has_word r && has_longer s) q)
longer_to (Alt r s) q =
    ⊎_elim (λ a. let x = longer_to r a in (x.0, x.1, inl x.2)) (λ a. let y = longer_to s a in (y.0, y.1, inr y.2)) (either_true (has_longer r) (has_longer s) q)
longer_to (Star r) q =
    let x = longer_to r q in
    (x.0, x.1 ++ [], OnceMore x.0 x.1 [] (x.0 ∷ (x.1 ++ [])) refl x.2 (NoMore [] refl))

pub longer_cut : (r s : Shape) (l : Letter) (v : List Letter) → ((m : Letter) (x : List Letter) → InLanguage r (m ∷ x) → has_longer r ≡ true) →
    (InLanguage s (l ∷ v) → has_longer s ≡ true) → (x y : List Letter) → l ∷ v ≡ x ++ y → InLanguage r x → InLanguage s y → has_longer (Cat r s) ≡ true
longer_cut r s l v fr fs [] y e px py =
    or_right (has_longer r && has_word s) (has_word r && has_longer s)
    (and_from (has_word r) (has_longer s) (word_back r [] px) (fs (subst (λ z. InLanguage s z) (sym e) py)))
longer_cut r s l v fr fs (m ∷ x) y e px py =
    or_left (has_longer r && has_word s) (has_word r && has_longer s) (and_from (has_longer r) (has_word s) (fr m x px) (word_back s y py))

pub longer_back : (r : Shape) (l : Letter) (v : List Letter) → InLanguage r (l ∷ v) → has_longer r ≡ true
longer_back Empty l v h = absurd h
longer_back Eps l v h = absurd (nil_cons l v (sym h))
longer_back (One m) l v h = refl
longer_back (Cat r s) l v h = longer_cut r s l v (λ m x k. longer_back r m x k) (λ k. longer_back s l v k) h.0 h.1 h.2 h.3 h.4
longer_back (Alt r s) l v h =
    ⊎_elim (λ a. or_left (has_longer r) (has_longer s) (longer_back r l v a)) (λ a. or_right (has_longer r) (has_longer s) (longer_back s l v a)) h
longer_back (Star r) l v h = let c = star_cut (λ z. InLanguage r z) l v (l ∷ v) h refl in longer_back r l c.0 c.3

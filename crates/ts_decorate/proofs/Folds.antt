-- Folds over the cells of a range, by an operator that is associative and leaves a neutral value as it is.
use Rattle.std.specs.Prelude.{◌≡◌, ℕ, zero, suc, ◌+◌, ◌-◌, ◌<◌, ◌≤◌, List, [], ◌∷◌, ◌++◌, length, take, drop, get_or, slice_range, fold, refl}
use Rattle.std.specs.List.{AllByRecursion}
use Rattle.std.proofs.Common.{sym, ◌∙◌, ap, arith, length-drop, append-nil, append_assoc, take-suc, get_or-drop}
use Rattle.std.proofs.lemmas.List.Sums.{fold-append}

-- the laws of phi with its neutral value, on good values
pub record FoldLaws {V : Type 0} (phi : V → V → V) (neutral : V) (good : V → Type 0) : Type 0 where
  pub closed : (x y : V) → good x → good y → good (phi x y)
  pub neutral_good : good neutral
  pub assoc : (x y z : V) → good x → good y → good z → phi (phi x y) z ≡ phi x (phi y z)
  pub right : (x : V) → good x → phi x neutral ≡ x

pub fold_good : {V : Type 0} {phi : V → V → V} {neutral : V} {good : V → Type 0} → FoldLaws phi neutral good →
    (a : V) (xs : List V) → good a → AllByRecursion good xs → good (fold phi a xs)
fold_good f a [] g h = g
fold_good {phi = phi} f a (x ∷ xs) g h = fold_good f (phi a x) xs (f.closed a x g h.0) h.1

fold_shift : {V : Type 0} {phi : V → V → V} {neutral : V} {good : V → Type 0} → FoldLaws phi neutral good →
    (a b : V) (ys : List V) → good a → good b → AllByRecursion good ys → phi a (fold phi b ys) ≡ fold phi (phi a b) ys
fold_shift f a b [] g k h = refl
fold_shift {phi = phi} f a b (y ∷ ys) g k h =
    fold_shift f a (phi b y) ys g (f.closed b y k h.0) h.1 ∙ ap (λ z. fold phi z ys) (sym (f.assoc a b y g k h.0))

pub fold_join : {V : Type 0} (phi : V → V → V) (neutral : V) (good : V → Type 0) → FoldLaws phi neutral good →
    (xs ys : List V) → AllByRecursion good xs → AllByRecursion good ys →
    phi (fold phi neutral xs) (fold phi neutral ys) ≡ fold phi neutral (xs ++ ys)
fold_join phi neutral good f xs ys g h =
    let a = fold_good f neutral xs f.neutral_good g in
    fold_shift f (fold phi neutral xs) neutral ys a f.neutral_good h
    ∙ ap (λ z. fold phi z ys) (f.right (fold phi neutral xs) a)
    ∙ sym (fold-append phi neutral xs ys)

-- the items first to last, counted from 1
abbrev pub items_of : {V : Type 0} → List V → ℕ → ℕ → List V
items_of xs first last = slice_range xs (first - 1) last

pub one_more : {V : Type 0} (xs : List V) (z : V) (f e : ℕ) → 1 ≤ f → f ≤ e + 1 → e < length xs →
    items_of xs f (e + 1) ≡ items_of xs f e ++ get_or xs e z ∷ []
one_more xs z f e p q r =
    let j = e - (f - 1) in
    let n : e + 1 - (f - 1) ≡ suc j = omega arith in
    let long = length-drop (f - 1) xs in
    let at : f - 1 + j ≡ e = omega arith in
    ap (λ m. take m (drop (f - 1) xs)) n
    ∙ take-suc (drop (f - 1) xs) j z (omega arith)
    ∙ ap (λ y. take j (drop (f - 1) xs) ++ y ∷ []) (get_or-drop (f - 1) xs j z ∙ ap (λ m. get_or xs m z) at)

pub no_items : {V : Type 0} (xs : List V) (e : ℕ) → items_of xs (e + 1) e ≡ []
no_items xs e = ap (λ m. take m (drop (e + 1 - 1) xs)) (let m : e - (e + 1 - 1) ≡ 0 = omega arith in m)

pub two_parts : {V : Type 0} (xs : List V) (z : V) (f e j : ℕ) → 1 ≤ f → f ≤ e + 1 → e + j ≤ length xs →
    items_of xs f e ++ items_of xs (e + 1) (e + j) ≡ items_of xs f (e + j)
two_parts xs z f e zero p q r =
    let same : e + 0 ≡ e = omega arith in
    ap (λ m. items_of xs f e ++ items_of xs (e + 1) m) same
    ∙ ap (λ y. items_of xs f e ++ y) (no_items xs e)
    ∙ append-nil (items_of xs f e) ∙ ap (λ m. items_of xs f m) (sym same)
two_parts xs z f e (suc j) p q r =
    let more : e + suc j ≡ e + j + 1 = omega arith in
    ap (λ m. items_of xs f e ++ items_of xs (e + 1) m) more
    ∙ ap (λ y. items_of xs f e ++ y) (one_more xs z (e + 1) (e + j) (omega arith) (omega arith) (omega arith))
    ∙ sym (append_assoc (items_of xs f e) (items_of xs (e + 1) (e + j)) (get_or xs (e + j) z ∷ []))
    ∙ ap (λ y. y ++ get_or xs (e + j) z ∷ []) (two_parts xs z f e j p q (omega arith))
    ∙ sym (one_more xs z f (e + j) p (omega arith) (omega arith))
    ∙ ap (λ m. items_of xs f m) (sym more)

pub fold_more : {V : Type 0} (phi : V → V → V) (neutral : V) (xs : List V) (z : V) (f e : ℕ) → 1 ≤ f → f ≤ e + 1 → e < length xs →
    phi (fold phi neutral (items_of xs f e)) (get_or xs e z) ≡ fold phi neutral (items_of xs f (e + 1))
fold_more phi neutral xs z f e p q r =
    sym (fold-append phi neutral (items_of xs f e) (get_or xs e z ∷ [])) ∙ ap (λ y. fold phi neutral y) (sym (one_more xs z f e p q r))

all_take : {A : Type 0} (p : A → Type 0) (n : ℕ) (xs : List A) → AllByRecursion p xs → AllByRecursion p (take n xs)
all_take p zero [] h = tt
all_take p zero (x ∷ xs) h = tt
all_take p (suc n) [] h = tt
all_take p (suc n) (x ∷ xs) h = (h.0, all_take p n xs h.1)

all_drop : {A : Type 0} (p : A → Type 0) (n : ℕ) (xs : List A) → AllByRecursion p xs → AllByRecursion p (drop n xs)
all_drop p zero [] h = tt
all_drop p zero (x ∷ xs) h = h
all_drop p (suc n) [] h = tt
all_drop p (suc n) (x ∷ xs) h = all_drop p n xs h.1

pub all_items : {A : Type 0} (p : A → Type 0) (xs : List A) (f e : ℕ) → AllByRecursion p xs → AllByRecursion p (items_of xs f e)
all_items p xs f e h = all_take p (e - (f - 1)) (drop (f - 1) xs) (all_drop p (f - 1) xs h)

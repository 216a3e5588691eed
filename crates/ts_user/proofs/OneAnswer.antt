-- Of the answers but for lack of memory only one can be right. And the row of signatures is that of turns.
use Rattle.std.specs.Prelude.{◌≡◌, ◌⊎◌, ℕ, zero, suc, ◌+◌, ◌<◌, ◌≤◌, List, [], ◌∷◌, ◌++◌, length}
use Rattle.std.proofs.Common.{sym, ◌∙◌, ap, subst, inl, inr, arith, ⊎_elim}
use Rattle.std.proofs.lemmas.Bool.{false≢true}
use Rattle.ts_base.specs.declared.letter.Letter.{Letter}
use Rattle.ts_regex.specs.Shape.{Shape}
use Rattle.ts_pattern.specs.Closed.{PlainConfiguration, Subject, step_of}
use Rattle.ts_user.specs.SignatureOrder.{digit, place, signature_at}
use Rattle.ts_user.specs.FirstReached.{IsFirst, Rises, StandsIn}
use Rattle.ts_user.specs.BuildAnswers.{most_configurations, IsListing, IsRefused, IsTooMany}
use Rattle.ts_user.proofs.Places.{place_push, digit_bounds, place_same, split, at_most}
use Rattle.ts_user.proofs.Taking.{reached_push}

-- of two signatures of a rising list the one with the less place comes first
before : (bs : List (List Letter)) (j k : ℕ) → Rises bs → j < length bs → place (signature_at bs j) < place (signature_at bs k) → j < k
before bs j k r q e = ⊎_elim (λ a. a) (λ a. absurd (go (at_most k j (omega (arith, a))))) (split j k)
  where
    go : (k < j) ⊎ (k ≡ j) → ⊥
    go (inl b) = let g = r k j b q in omega (arith, g, e)
    go (inr b) = let g = ap (λ z. place (signature_at bs z)) b in omega (arith, g, e)

-- where each signature of a rising list stands in another one, signature i stands there at i or later
stands_late : (ws bs : List (List Letter)) → Rises ws → Rises bs → ((i : ℕ) → i < length ws → StandsIn bs (signature_at ws i)) → (i : ℕ) → i < length ws →
    (j : ℕ) × (i ≤ j) × (j < length bs) × (signature_at bs j ≡ signature_at ws i)
stands_late ws bs r t h zero q = let a = h 0 q in (a.0, omega arith, a.1, a.2)
stands_late ws bs r t h (suc i) q =
    let a = stands_late ws bs r t h i (omega (arith, q)) in
    let b = h (suc i) q in
    let up = r i (suc i) (omega arith) q in
    let later : a.0 < b.0 = before bs a.0 b.0 t a.2 (subst (λ z. z < place (signature_at bs b.0)) (sym (ap (λ z. place z) a.3))
    (subst (λ z. place (signature_at ws i) < z) (sym (ap (λ z. place z) b.2)) up)) in
    let low = a.1 in
    (b.0, omega (arith, later, low), b.1, b.2)

-- 512 before one more: a rising list that has them all has more than 512
too_long : (s : Subject Shape) (bs : List (List Letter)) (t : IsTooMany s) → Rises bs →
    ((w : List Letter) → IsFirst s w → place w < place t.signature + 1 → StandsIn bs w) → most_configurations < length bs
too_long s bs t r has =
    let full = t.full in
    let last : 511 < length t.listed = omega (arith, full) in
    let a = stands_late t.listed bs (t.signatures).rises r
    (λ i q. let e = (t.signatures).each i q in let low = e.1 in has (signature_at t.listed i) e.0 (omega (arith, low))) 511 last in
    let b = has t.signature t.first (omega arith) in
    let low = ((t.signatures).each 511 last).1 in
    let later : a.0 < b.0 = before bs a.0 b.0 r a.2 (subst (λ z. z < place (signature_at bs b.0)) (sym (ap (λ z. place z) a.3))
    (subst (λ z. place (signature_at t.listed 511) < z) (sym (ap (λ z. place z) b.2)) low)) in
    let at = a.1 in let there = b.1 in
    omega (arith, later, at, there)

pub listed_not_refused : (s : Subject Shape) (xs : List (PlainConfiguration Shape)) (w : List Letter) → IsListing s xs → IsRefused s w → ⊥
listed_not_refused s xs w h r =
    false≢true (sym r.fails ∙ h.pass (place w + 1) r.front r.letter (let e = ap (λ z. place z) r.is in omega (arith, e)))

pub listed_not_too_many : (s : Subject Shape) (xs : List (PlainConfiguration Shape)) → IsListing s xs → IsTooMany s → ⊥
listed_not_too_many s xs h t =
    let long = too_long s h.signatures t (h.all).rises (λ w f q. (h.all).all w f) in
    let few = h.few in
    omega (arith, long, few)

pub refused_not_too_many : (s : Subject Shape) (w : List Letter) → IsRefused s w → IsTooMany s → ⊥
refused_not_too_many s w r t = ⊎_elim (λ a. late a) (λ a. early a) (split (place t.signature) (place w))
  where
    early : place w ≤ place t.signature → ⊥
    early a = false≢true (sym r.fails ∙ t.pass r.front r.letter (let e = ap (λ z. place z) r.is in omega (arith, e, a)))

    late : place t.signature < place w → ⊥
    late a =
        let long = too_long s r.listed t (r.signatures).rises (λ v f q. (r.signatures).all v (omega (arith, q, a)) f) in
        let few = r.few in
        omega (arith, long, few)

pub one_refusal : (s : Subject Shape) (v w : List Letter) → IsRefused s v → IsRefused s w → v ≡ w
one_refusal s v w g h = ⊎_elim (λ a. absurd (first v w g h a)) (λ a. ⊎_elim (λ b. absurd (first w v h g b)) (λ b. place_same v w (omega (arith, a, b)))
    (split (place w) (place v))) (split (place v) (place w))
  where
    first : (v w : List Letter) → IsRefused s v → IsRefused s w → place v < place w → ⊥
    first v w g h q = false≢true (sym g.fails ∙ h.before g.front g.letter (let e = ap (λ z. place z) g.is in omega (arith, e, q)))

-- by turns

pub front_is_first : (s : Subject Shape) (v : List Letter) (l : Letter) → IsFirst s (v ++ l ∷ []) → IsFirst s v
front_is_first s v l h u q e =
    let a = place_push u l in let b = place_push v l in
    h (u ++ l ∷ []) (omega (arith, a, b, q)) (reached_push s u l ∙ ap (λ z. step_of s z l) e ∙ sym (reached_push s v l))

pub turns_in_order : (u v : List Letter) (l m : Letter) → place u < place v → place (u ++ l ∷ []) < place (v ++ m ∷ [])
turns_in_order u v l m q =
    let a = place_push u l in let b = place_push v m in let c = digit_bounds l in let d = digit_bounds m in omega (arith, a, b, c, d, q)

pub letters_in_order : (u : List Letter) (l m : Letter) → digit l < digit m → place (u ++ l ∷ []) < place (u ++ m ∷ [])
letters_in_order u l m q = let a = place_push u l in let b = place_push u m in omega (arith, a, b, q)

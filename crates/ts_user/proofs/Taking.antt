-- Signatures one after the other, from each first one on: what is known of those before goes on to the next.
use Rattle.std.specs.Prelude.{◌≡◌, ◌⊎◌, ℕ, zero, suc, ◌+◌, ◌*◌, ◌<◌, ◌≤◌, true, List, [], ◌∷◌, ◌++◌, length, refl}
use Rattle.std.proofs.Common.{sym, ◌∙◌, ap, subst, inl, inr, arith, ⊎_elim}
use Rattle.ts_base.specs.declared.letter.Letter.{Letter}
use Rattle.ts_base.specs.declared.letter.Letter.TheVariants.{Less, Equal, Greater}
use Rattle.ts_regex.specs.Shape.{Shape}
use Rattle.ts_pattern.specs.Closed.{PlainConfiguration, Subject, step_of}
use Rattle.ts_user.specs.SignatureOrder.{digit, place, signature_at}
use Rattle.ts_user.specs.FirstReached.{blank, reached_from, reached, agrees, IsFirst, PassBelow, AreFirst, AreAllFirst}
use Rattle.ts_user.specs.Listings.{IsCovered, IsTaken, IsWhole, IsReady}
use Rattle.ts_user.proofs.Places.{place_push, digit_bounds, HasLast, last_of, place_same, split, at_most}

from_push : (s : Subject Shape) (x : PlainConfiguration Shape) (w : List Letter) (l : Letter) →
    reached_from s x (w ++ l ∷ []) ≡ step_of s (reached_from s x w) l
from_push s x [] l = refl
from_push s x (m ∷ w) l = from_push s (step_of s x m) w l

pub reached_push : (s : Subject Shape) (w : List Letter) (l : Letter) → reached s (w ++ l ∷ []) ≡ step_of s (reached s w) l
reached_push s w l = from_push s blank w l

-- a list with one more signature

pub at_old : (ws : List (List Letter)) (w : List Letter) (i : ℕ) → i < length ws → signature_at (ws ++ w ∷ []) i ≡ signature_at ws i
at_old [] w i q = absurd (omega (arith, q))
at_old (v ∷ ws) w zero q = refl
at_old (v ∷ ws) w (suc i) q = at_old ws w i (omega (arith, q))

pub at_new : (ws : List (List Letter)) (w : List Letter) (i : ℕ) → i ≡ length ws → signature_at (ws ++ w ∷ []) i ≡ w
at_new [] w zero q = refl
at_new [] w (suc i) q = absurd (omega (arith, q))
at_new (v ∷ ws) w zero q = absurd (omega (arith, q))
at_new (v ∷ ws) w (suc i) q = at_new ws w i (omega (arith, q))

length_push : (ws : List (List Letter)) (w : List Letter) → length (ws ++ w ∷ []) ≡ length ws + 1
length_push [] w = refl
length_push (v ∷ ws) w = let h = length_push ws w in omega (arith, h)

-- the signatures of one more place, where the one there is u with the letter l

push_parts : (u v : List Letter) (l m : Letter) → place (v ++ m ∷ []) ≡ place (u ++ l ∷ []) → (v ≡ u) × (m ≡ l)
push_parts u v l m e =
    let p = place_push v m in let q = place_push u l in let c = digit_bounds m in let d = digit_bounds l in
    let front : place v ≡ place u = omega (arith, p, q, c, d, e) in
    let last : digit m ≡ digit l = omega (arith, p, q, front, e) in
    (place_same v u front, same m l last)
  where
    same : (l m : Letter) → digit l ≡ digit m → l ≡ m
    same Less Less q = refl
    same Less Equal q = absurd (omega (arith, q))
    same Less Greater q = absurd (omega (arith, q))
    same Equal Less q = absurd (omega (arith, q))
    same Equal Equal q = refl
    same Equal Greater q = absurd (omega (arith, q))
    same Greater Less q = absurd (omega (arith, q))
    same Greater Equal q = absurd (omega (arith, q))
    same Greater Greater q = refl

pub pass_more : (s : Subject Shape) (n : ℕ) (u : List Letter) (l : Letter) → n ≡ place (u ++ l ∷ []) → PassBelow s n →
    agrees s (reached s u) l ≡ true → PassBelow s (n + 1)
pass_more s n u l e h a v m q =
    ⊎_elim (λ r. h v m r)
    (λ r. let k = push_parts u v l m (r ∙ e) in
    ap (λ z. agrees s (reached s z) m) k.0 ∙ ap (λ z. agrees s (reached s u) z) k.1 ∙ a)
    (at_most (place (v ++ m ∷ [])) n q)

-- the configuration there is listed
pub take_old : (s : Subject Shape) (ws : List (List Letter)) (n : ℕ) (u : List Letter) (l : Letter) → IsTaken s ws n → n ≡ place (u ++ l ∷ []) →
    agrees s (reached s u) l ≡ true → (i : ℕ) → i < length ws → reached s (signature_at ws i) ≡ reached s (u ++ l ∷ []) → IsTaken s ws (n + 1)
take_old s ws n u l h e a i q r =
    record {
      rises = h.rises;
      each = h.each;
      inside = λ j p. let k = h.inside j p in omega (arith, k);
      covers = λ w p. ⊎_elim (λ below. h.covers w below)
          (λ here. (i, q, let k = h.inside i q in omega (arith, here, k), r ∙ ap (λ z. reached s z) (place_same (u ++ l ∷ []) w (sym e ∙ sym here))))
          (at_most (place w) n p);
      pass = pass_more s n u l e h.pass a;
    }

-- the configuration there wasn't listed, and is now
pub take_new : (s : Subject Shape) (ws : List (List Letter)) (n : ℕ) (u : List Letter) (l : Letter) → IsTaken s ws n → n ≡ place (u ++ l ∷ []) →
    agrees s (reached s u) l ≡ true → ((i : ℕ) → i < length ws → reached s (signature_at ws i) ≡ reached s (u ++ l ∷ []) → ⊥) →
    IsTaken s (ws ++ (u ++ l ∷ []) ∷ []) (n + 1)
take_new s ws n u l h e a none =
    let w : List Letter = u ++ l ∷ [] in
    let size : length (ws ++ w ∷ []) ≡ length ws + 1 = length_push ws w in
    record {
      rises = λ i j p q. ⊎_elim
          (λ (b : j < length ws). let o = at_old ws w j b in let m = at_old ws w i (omega (arith, p, b)) in
          subst (λ z. place (signature_at (ws ++ w ∷ []) i) < place z) (sym o) (subst (λ z. place z < place (signature_at ws j)) (sym m) (h.rises i j p b)))
          (λ (b : j ≡ length ws). let i_old : i < length ws = omega (arith, p, b) in
          subst (λ z. place (signature_at (ws ++ w ∷ []) i) < place z) (sym (at_new ws w j b))
          (subst (λ z. place z < place w) (sym (at_old ws w i i_old)) (subst (λ z. place (signature_at ws i) < z) e (h.inside i i_old))))
          (at_most j (length ws) (subst (λ z. j < z) size q));
      each = λ i q. ⊎_elim
          (λ (b : i < length ws). subst (λ z. IsFirst s z) (sym (at_old ws w i b)) (h.each i b))
          (λ (b : i ≡ length ws). subst (λ z. IsFirst s z) (sym (at_new ws w i b)) (first w e none))
          (at_most i (length ws) (subst (λ z. i < z) size q));
      inside = λ i q. ⊎_elim
          (λ (b : i < length ws). let k = subst (λ z. place z < n) (sym (at_old ws w i b)) (h.inside i b) in omega (arith, k))
          (λ (b : i ≡ length ws). let k = ap (λ z. place z) (at_new ws w i b) in omega (arith, k, e))
          (at_most i (length ws) (subst (λ z. i < z) size q));
      covers = λ v p. ⊎_elim
          (λ (below : place v < n). let c = h.covers v below in let o = at_old ws w c.0 c.1 in
          (c.0, let k = c.1 in omega (arith, k, size), subst (λ z. place z ≤ place v) (sym o) c.2, ap (λ z. reached s z) o ∙ c.3))
          (λ (here : place v ≡ n). let o = at_new ws w (length ws) refl in (
            length ws,
            omega (arith, size),
            let k = ap (λ z. place z) o in omega (arith, k, here, e),
            ap (λ z. reached s z) (o ∙ place_same w v (sym e ∙ sym here)),
          ))
          (at_most (place v) n p);
      pass = pass_more s n u l e h.pass a;
    }
  where
    first : (w : List Letter) → n ≡ place w → ((i : ℕ) → i < length ws → reached s (signature_at ws i) ≡ reached s w → ⊥) → IsFirst s w
    first w e none v q r = let c = h.covers v (omega (arith, q, e)) in none c.0 c.1 (c.3 ∙ r)

-- from the last letter of a first signature to the first letter of the next: the front of those between is no first one

between : (s : Subject Shape) (ws : List (List Letter)) (n k : ℕ) → IsTaken s ws n → k < length ws → n ≡ 3 * place (signature_at ws k) + 4 →
    (v : List Letter) (m : Letter) → (i : ℕ) → i < length ws → i ≤ k → reached s (signature_at ws i) ≡ reached s v →
    (agrees s (reached s v) m ≡ true)
    × ((j : ℕ) × (j < length ws) × (place (signature_at ws j) ≤ 3 * place (signature_at ws i) + digit m) ×
    (reached s (signature_at ws j) ≡ reached s (v ++ m ∷ [])))
between s ws n k h q e v m i p o r =
    let p1 : place (signature_at ws i) ≤ place (signature_at ws k) = up (at_most i k (omega (arith, o))) in
    let b = digit_bounds m in
    let t = place_push (signature_at ws i) m in
    let low : place (signature_at ws i ++ m ∷ []) < n = omega (arith, p1, b, t, e) in
    let c = h.covers (signature_at ws i ++ m ∷ []) low in (
      ap (λ z. agrees s z m) (sym r) ∙ h.pass (signature_at ws i) m low,
      (
        c.0,
        c.1,
        subst (λ z. place (signature_at ws c.0) ≤ z) t c.2,
        c.3 ∙ reached_push s (signature_at ws i) m ∙ ap (λ z. step_of s z m) r ∙ sym (reached_push s v m),
      ),
    )
  where
    up : (i < k) ⊎ (i ≡ k) → place (signature_at ws i) ≤ place (signature_at ws k)
    up (inl a) = let g = h.rises i k a q in omega (arith, g)
    up (inr a) = let g = ap (λ z. place (signature_at ws z)) a in omega (arith, g)

-- a signature that comes before signature k + 1 is one up to k
up_to : (s : Subject Shape) (ws : List (List Letter)) (n k : ℕ) → IsTaken s ws n → k + 1 < length ws → (i : ℕ) → i < length ws →
    place (signature_at ws i) < place (signature_at ws (k + 1)) → i ≤ k
up_to s ws n k h q i p o = go (split i (k + 1)) (split (k + 1) i)
  where
    go : (i < k + 1) ⊎ (k + 1 ≤ i) → (k + 1 < i) ⊎ (i ≤ k + 1) → i ≤ k
    go (inl a) b = omega (arith, a)
    go (inr a) (inl b) = absurd (let g = h.rises (k + 1) i b p in omega (arith, g, o))
    go (inr a) (inr b) = absurd (let same : i ≡ k + 1 = omega (arith, a, b) in let g = ap (λ z. place (signature_at ws z)) same in omega (arith, g, o))

pub jump : (s : Subject Shape) (ws : List (List Letter)) (n k : ℕ) → IsTaken s ws n → k + 1 < length ws → n ≡ 3 * place (signature_at ws k) + 4 →
    IsTaken s ws (3 * place (signature_at ws (k + 1)) + 1)
jump s ws n k h q e =
    let rise = h.rises k (k + 1) (omega arith) q in
    let here = h.inside (k + 1) q in
    record {
      rises = h.rises;
      each = h.each;
      inside = λ i p. let g = h.inside i p in omega (arith, g, rise, e);
      covers = λ w p. go w p rise here (last_of w) (split (place w) n);
      pass = λ v m p. passes v m p rise here (split (place (v ++ m ∷ [])) n);
    }
  where
    front : (v : List Letter) (m : Letter) → place (v ++ m ∷ []) < 3 * place (signature_at ws (k + 1)) + 1 →
        place (signature_at ws k) < place (signature_at ws (k + 1)) →
        place (signature_at ws (k + 1)) < n → (i : ℕ) × (i < length ws) × (i ≤ k) × (place (signature_at ws i) ≤ place v) ×
        (reached s (signature_at ws i) ≡ reached s v)
    front v m p rise here =
        let t = place_push v m in let b = digit_bounds m in
        let before : place v < place (signature_at ws (k + 1)) = omega (arith, t, b, p) in
        let c = h.covers v (omega (arith, before, here)) in
        let low = c.2 in
        (c.0, c.1, up_to s ws n k h q c.0 c.1 (omega (arith, low, before)), c.2, c.3)

    passes : (v : List Letter) (m : Letter) → place (v ++ m ∷ []) < 3 * place (signature_at ws (k + 1)) + 1 →
        place (signature_at ws k) < place (signature_at ws (k + 1)) →
        place (signature_at ws (k + 1)) < n → (place (v ++ m ∷ []) < n) ⊎ (n ≤ place (v ++ m ∷ [])) → agrees s (reached s v) m ≡ true
    passes v m p rise here (inl a) = h.pass v m a
    passes v m p rise here (inr a) =
        let f = front v m p rise here in
        (between s ws n k h (omega (arith, q)) e v m f.0 f.1 f.2 f.4).0

    go : (w : List Letter) → place w < 3 * place (signature_at ws (k + 1)) + 1 → place (signature_at ws k) < place (signature_at ws (k + 1)) →
        place (signature_at ws (k + 1)) < n → (w ≡ []) ⊎ HasLast w → (place w < n) ⊎ (n ≤ place w) → IsCovered s ws w
    go w p rise here t (inl a) = h.covers w a
    go w p rise here (inl b) (inr a) = absurd (let z : place w ≡ 0 = ap (λ z. place z) b in omega (arith, z, a, e))
    go w p rise here (inr g) (inr a) =
        let f = front g.0 g.1 (subst (λ z. place z < 3 * place (signature_at ws (k + 1)) + 1) g.2 p) rise here in
        let c = (between s ws n k h (omega (arith, q)) e g.0 g.1 f.0 f.1 f.2 f.4).1 in
        let t = place_push g.0 g.1 in let u = ap (λ z. place z) g.2 in let x = c.2 in let y = f.3 in
        (c.0, c.1, omega (arith, t, u, x, y), c.3 ∙ ap (λ z. reached s z) (sym g.2))

-- after the last letter of the last signature there is nothing new

covered : (s : Subject Shape) (ws : List (List Letter)) (n k : ℕ) → IsTaken s ws n → k + 1 ≡ length ws → n ≡ 3 * place (signature_at ws k) + 4 →
    (size : ℕ) (w : List Letter) → length w ≤ size → IsCovered s ws w
covered s ws n k h q e zero w r = go (last_of w)
  where
    go : (w ≡ []) ⊎ HasLast w → IsCovered s ws w
    go (inl a) = h.covers w (let z : place w ≡ 0 = ap (λ z. place z) a in omega (arith, z, e))
    go (inr g) = absurd (let t = g.3 in omega (arith, t, r))
covered s ws n k h q e (suc size) w r = go (last_of w) (λ v t. covered s ws n k h q e size v (omega (arith, t, r)))
  where
    go : (w ≡ []) ⊎ HasLast w → ((v : List Letter) → length v + 1 ≡ length w → IsCovered s ws v) → IsCovered s ws w
    go (inl a) ih = h.covers w (let z : place w ≡ 0 = ap (λ z. place z) a in omega (arith, z, e))
    go (inr g) ih =
        let f = ih g.0 (sym g.3) in
        let c = (between s ws n k h (omega (arith, q)) e g.0 g.1 f.0 f.1 (let o = f.1 in omega (arith, o, q)) f.3).1 in
        let t = place_push g.0 g.1 in let u = ap (λ z. place z) g.2 in let x = c.2 in let y = f.2 in
        (c.0, c.1, omega (arith, t, u, x, y), c.3 ∙ ap (λ z. reached s z) (sym g.2))

pub finish : (s : Subject Shape) (ws : List (List Letter)) (n k : ℕ) → IsTaken s ws n → k + 1 ≡ length ws → n ≡ 3 * place (signature_at ws k) + 4 → IsWhole s ws
finish s ws n k h q e =
    record {
      rises = h.rises;
      each = h.each;
      covers = λ w. covered s ws n k h q e (length w) w (omega arith);
      pass = λ v m. let c = covered s ws n k h q e (length v) v (omega arith) in
          (between s ws n k h (omega (arith, q)) e v m c.0 c.1 (let o = c.1 in omega (arith, o, q)) c.3).0;
    }

-- the steps on the three letters of signature k were taken
pub ready_next : (s : Subject Shape) (ws : List (List Letter)) (n k : ℕ) → IsTaken s ws n → k < length ws → n ≡ 3 * place (signature_at ws k) + 4 →
    IsReady s ws (k + 1)
ready_next s ws n k h q e = record { more = λ p. jump s ws n k h p e; done = λ p. finish s ws n k h p e }

-- the empty signature comes first
pub ready_first : (s : Subject Shape) → IsReady s ([] ∷ []) 0
ready_first s =
    record {
      more = λ p. record {
        rises = λ i j a b. absurd (omega (arith, a, b));
        each = λ i a. let z : 0 ≡ i = omega (arith, a) in subst (λ z. IsFirst s (signature_at ([] ∷ []) z)) z (λ v b c. omega (arith, b));
        inside = λ i a. let z : 0 ≡ i = omega (arith, a) in subst (λ z. place (signature_at ([] ∷ []) z) < 1) z (omega arith);
        covers = λ w a. (0, omega arith, omega arith, ap (λ z. reached s z) (place_same [] w (omega (arith, a))));
        pass = λ v l a. absurd (let t = place_push v l in let b = digit_bounds l in omega (arith, t, b, a));
      };
      done = λ p. absurd (omega (arith, p));
    }

-- what the answers say

pub signatures_are : (s : Subject Shape) (ws : List (List Letter)) (n : ℕ) → IsTaken s ws n → AreFirst s ws n
signatures_are s ws n h =
    record {
      rises = h.rises;
      each = λ i q. (h.each i q, h.inside i q);
      all = λ w q f. let c = h.covers w q in (
        c.0,
        c.1,
        ⊎_elim (λ b. absurd (f (signature_at ws c.0) b c.3))
            (λ b. let low = c.2 in place_same (signature_at ws c.0) w (omega (arith, b, low))) (split (place (signature_at ws c.0)) (place w)),
      );
    }

pub all_signatures_are : (s : Subject Shape) (ws : List (List Letter)) → IsWhole s ws → AreAllFirst s ws
all_signatures_are s ws h =
    record {
      rises = h.rises;
      each = h.each;
      all = λ w f. let c = h.covers w in (
        c.0,
        c.1,
        ⊎_elim (λ b. absurd (f (signature_at ws c.0) b c.3))
            (λ b. let low = c.2 in place_same (signature_at ws c.0) w (omega (arith, b, low))) (split (place (signature_at ws c.0)) (place w)),
      );
    }

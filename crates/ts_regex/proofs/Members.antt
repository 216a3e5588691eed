-- How the code comes to the sorted members of an Alt.
use Rattle.std.specs.Prelude.{◌≡◌, ℕ, suc, ◌+◌, ◌<◌, List, [], ◌∷◌, ◌++◌, map, length, take, drop, get_or, refl}
use Rattle.std.specs.declared.cmp.Ordering.{Ordering}
use Rattle.std.specs.declared.cmp.Ordering.TheVariants.{Less as Before, Equal as Same, Greater as After}
use Rattle.std.specs.List.{insert}
use Rattle.std.proofs.Common.{sym, ◌∙◌, ap, subst, append_assoc, arith}
use Rattle.std.proofs.lemmas.List.{map-append, length-map, get_or-map, take-append-drop}
use Rattle.std.specs.List.{take-map, drop-map}
use Rattle.std.proofs.Math.Seq.{drop-cons, take-suc}
use Rattle.ts_regex.specs.declared.regex.Regex.{Regex}
use Rattle.ts_regex.specs.Shape.{Shape, Empty, Alt, shape_of}
use Rattle.ts_regex.specs.NormalForm.{shape_cmp, members, insert_member, insert_members, nest, normal_alt}
use Rattle.ts_regex.proofs.NormalForms.{placed}

pub all_append : (rs ts ss : List Shape) → insert_members (rs ++ ts) ss ≡ insert_members rs (insert_members ts ss)
all_append [] ts ss = refl
all_append (r ∷ rs) ts ss = ap (λ z. insert_member r z) (all_append rs ts ss)

-- the last two members may be joined
pub nest_last : (rs : List Shape) (s t : Shape) → nest (rs ++ s ∷ t ∷ []) ≡ nest (rs ++ Alt s t ∷ [])
nest_last [] s t = refl
nest_last (r ∷ []) s t = refl
nest_last (r ∷ q ∷ rs) s t = ap (λ z. Alt r z) (nest_last (q ∷ rs) s t)

-- r goes in after the first k of the members
abbrev pub Passed : Shape → List Shape → ℕ → Type 0
Passed r ss k = insert_member r ss ≡ take k ss ++ insert_member r (drop k ss)

-- member k begins the rest from k on
pub rest_at : (xs : List Regex) (k : ℕ) (x : Regex) → k < length xs → x ≡ get_or xs k x → drop k (map shape_of xs) ≡ shape_of x ∷ drop (suc k) (map shape_of xs)
rest_at xs k x p q =
    drop-map shape_of k xs
    ∙ ap (λ z. map shape_of z) (drop-cons xs k x p)
    ∙ ap (λ z. shape_of z ∷ map shape_of (drop (suc k) xs)) (sym q)
    ∙ ap (λ z. shape_of x ∷ z) (sym (drop-map shape_of (suc k) xs))

-- and ends the members up to k
pub front_at : (xs : List Regex) (k : ℕ) (x : Regex) → k < length xs → x ≡ get_or xs k x →
    take (suc k) (map shape_of xs) ≡ take k (map shape_of xs) ++ shape_of x ∷ []
front_at xs k x p q =
    take-suc (map shape_of xs) k Empty (let n = length-map xs shape_of in omega arith)
    ∙ ap (λ z. take k (map shape_of xs) ++ z ∷ []) (get_or-map shape_of xs k x Empty p ∙ ap shape_of (sym q))

-- where r is compared with member k
pub compared : (r : Shape) (xs : List Regex) (k : ℕ) (x : Regex) (o : Ordering) → k < length xs → x ≡ get_or xs k x → Passed r (map shape_of xs) k →
    shape_cmp r (shape_of x) ≡ o → insert_member r (map shape_of xs) ≡ take k (map shape_of xs) ++ placed o r (shape_of x) (drop (suc k) (map shape_of xs))
compared r xs k x o p q h e =
    h
    ∙ ap (λ z. take k (map shape_of xs) ++ z)
    (ap (λ z. insert_member r z) (rest_at xs k x p q) ∙ ap (λ z. placed z r (shape_of x) (drop (suc k) (map shape_of xs))) e)

pub before_member : (r : Shape) (xs : List Regex) (k : ℕ) (x : Regex) → k < length xs → x ≡ get_or xs k x → Passed r (map shape_of xs) k →
    Before ≡ shape_cmp r (shape_of x) → insert_member r (map shape_of xs) ≡ insert (map shape_of xs) k r
before_member r xs k x p q h e =
    compared r xs k x Before p q h (sym e) ∙ ap (λ z. take k (map shape_of xs) ++ r ∷ z) (sym (rest_at xs k x p q))

pub same_member : (r : Shape) (xs : List Regex) (k : ℕ) (x : Regex) → k < length xs → x ≡ get_or xs k x → Passed r (map shape_of xs) k →
    Same ≡ shape_cmp r (shape_of x) → insert_member r (map shape_of xs) ≡ map shape_of xs
same_member r xs k x p q h e =
    compared r xs k x Same p q h (sym e) ∙ ap (λ z. take k (map shape_of xs) ++ z) (sym (rest_at xs k x p q)) ∙ take-append-drop k (map shape_of xs)

pub after_member : (r : Shape) (xs : List Regex) (k : ℕ) (x : Regex) → k < length xs → x ≡ get_or xs k x → Passed r (map shape_of xs) k →
    After ≡ shape_cmp r (shape_of x) → Passed r (map shape_of xs) (k + 1)
after_member r xs k x p q h e =
    subst (λ n. Passed r (map shape_of xs) n) (let n : suc k ≡ k + 1 = omega arith in n)
    (compared r xs k x After p q h (sym e)
    ∙ sym (append_assoc (take k (map shape_of xs)) (shape_of x ∷ []) (insert_member r (drop (suc k) (map shape_of xs))))
    ∙ ap (λ z. z ++ insert_member r (drop (suc k) (map shape_of xs))) (sym (front_at xs k x p q)))

pub map_insert : (xs : List Regex) (k : ℕ) (r : Regex) → map shape_of (insert xs k r) ≡ insert (map shape_of xs) k (shape_of r)
map_insert xs k r =
    map-append shape_of (take k xs) (r ∷ drop k xs)
    ∙ ap (λ z. z ++ shape_of r ∷ map shape_of (drop k xs)) (sym (take-map shape_of k xs))
    ∙ ap (λ z. take k (map shape_of xs) ++ shape_of r ∷ z) (sym (drop-map shape_of k xs))

-- the members zs are xs with r in its place k, which was found in ys, that are xs
pub member_put : (xs ys zs : List Regex) (k : ℕ) (r : Regex) → ys ≡ xs → zs ≡ insert xs k r →
    insert_member (shape_of r) (map shape_of ys) ≡ insert (map shape_of ys) k (shape_of r) → map shape_of zs ≡ insert_member (shape_of r) (map shape_of xs)
member_put xs ys zs k r p q h =
    ap (λ z. map shape_of z) q ∙ map_insert xs k r ∙ sym (subst (λ z. insert_member (shape_of r) (map shape_of z) ≡ insert (map shape_of z) k (shape_of r)) p h)

-- the members old were new and m, and v joins m with the last one, u
pub nest_step : (all : Shape) (old new : List Regex) (m : Regex) (u v : Shape) → all ≡ nest (map shape_of old ++ u ∷ []) → old ≡ new ++ m ∷ [] →
    v ≡ Alt (shape_of m) u → all ≡ nest (map shape_of new ++ v ∷ [])
nest_step all old new m u v h e q =
    h
    ∙ ap (λ z. nest (map shape_of z ++ u ∷ [])) e
    ∙ ap (λ z. nest (z ++ u ∷ [])) (map-append shape_of new (m ∷ []))
    ∙ ap nest (append_assoc (map shape_of new) (shape_of m ∷ []) (u ∷ []))
    ∙ nest_last (map shape_of new) (shape_of m) u
    ∙ ap (λ z. nest (map shape_of new ++ z ∷ [])) (sym q)

-- the members of s are put into an empty list, then those of r
pub members_of_both : (none ss rs : List Regex) (r s n : Shape) → none ≡ [] → map shape_of ss ≡ insert_members (members s) (map shape_of none) →
    map shape_of rs ≡ insert_members (members r) (map shape_of ss) → n ≡ nest (map shape_of rs) → n ≡ normal_alt r s
members_of_both none ss rs r s n p q t h =
    h
    ∙ ap nest (t ∙ ap (λ z. insert_members (members r) z) (q ∙ ap (λ z. insert_members (members s) (map shape_of z)) p)
    ∙ sym (all_append (members r) (members s) []))

-- The order of expressions tells different ones apart, and normal forms keep the language.
use Rattle.std.specs.Prelude.{◌≡◌, ◌⊎◌, true, false, List, [], ◌∷◌, ◌++◌, refl}
use Rattle.std.specs.declared.cmp.Ordering.{Ordering}
use Rattle.std.specs.declared.cmp.Ordering.TheVariants.{Less as Before, Equal as Same, Greater as After}
use Rattle.std.specs.Ordering.{nat_cmp, ordering_then, is_eq}
use Rattle.std.proofs.Common.{sym, ◌∙◌, ap, subst, inl, inr, ⊎_elim, append_assoc}
use Rattle.std.proofs.lemmas.Bool.{false≢true}
use Rattle.std.proofs.lemmas.List.{append-nil}
use Rattle.ts_base.specs.declared.letter.Letter.{Letter}
use Rattle.ts_base.specs.declared.letter.Letter.TheVariants.{Less, Equal, Greater}
use Rattle.ts_regex.specs.Shape.{Shape, Empty, Eps, One, Cat, Alt, Star}
use Rattle.ts_regex.specs.Language.{IsRepeated, NoMore, OnceMore, InLanguage}
use Rattle.ts_regex.specs.Derivative.{letter_rank}
use Rattle.ts_regex.specs.NormalForm.{shape_cmp, chain, follow, normal_cat, members, insert_member, insert_members, nest, normal_alt, normal_star, normal_form}
use Rattle.ts_regex.proofs.Derivatives.{nil_cons}

-- ---- the order

-- an answer other than `Equal` is not `Equal`
pub unlike : {P : Type 0} (o : Ordering) → is_eq o ≡ false → o ≡ Same → P
unlike o p q = absurd (false≢true (sym p ∙ ap is_eq q))

pub both_same : (a b : Ordering) → ordering_then a b ≡ Same → (a ≡ Same) × (b ≡ Same)
both_same Before b q = unlike Before refl q
both_same Same b q = (refl, q)
both_same After b q = unlike After refl q

pub ranks_equal : (l m : Letter) → nat_cmp (letter_rank l) (letter_rank m) ≡ Same → l ≡ m
ranks_equal Less Less q = refl
ranks_equal Equal Equal q = refl
ranks_equal Greater Greater q = refl
ranks_equal l m q = unlike (nat_cmp (letter_rank l) (letter_rank m)) refl q

pub rank_itself : (l : Letter) → nat_cmp (letter_rank l) (letter_rank l) ≡ Same
rank_itself Less = refl
rank_itself Equal = refl
rank_itself Greater = refl

pub cmp_equal : (r s : Shape) → shape_cmp r s ≡ Same → r ≡ s
cmp_equal Empty Empty q = refl
cmp_equal Eps Eps q = refl
cmp_equal (One l) (One m) q = ap One (ranks_equal l m q)
cmp_equal (Cat r s) (Cat t u) q =
    let h = both_same (shape_cmp r t) (shape_cmp s u) q in ap (λ z. Cat z s) (cmp_equal r t h.0) ∙ ap (λ z. Cat t z) (cmp_equal s u h.1)
cmp_equal (Alt r s) (Alt t u) q =
    let h = both_same (shape_cmp r t) (shape_cmp s u) q in ap (λ z. Alt z s) (cmp_equal r t h.0) ∙ ap (λ z. Alt t z) (cmp_equal s u h.1)
cmp_equal (Star r) (Star s) q = ap Star (cmp_equal r s q)
cmp_equal r s q = unlike (shape_cmp r s) refl q

pub cmp_itself : (r : Shape) → shape_cmp r r ≡ Same
cmp_itself Empty = refl
cmp_itself Eps = refl
cmp_itself (One l) = rank_itself l
cmp_itself (Cat r s) = ap (λ o. ordering_then o (shape_cmp s s)) (cmp_itself r) ∙ cmp_itself s
cmp_itself (Alt r s) = ap (λ o. ordering_then o (shape_cmp s s)) (cmp_itself r) ∙ cmp_itself s
cmp_itself (Star r) = cmp_itself r

pub is_same : (o : Ordering) → is_eq o ≡ true → o ≡ Same
is_same Before q = absurd (false≢true q)
is_same Same q = refl
is_same After q = absurd (false≢true q)

-- ---- Cat

pub chained_to : (r s : Shape) (w : List Letter) → InLanguage (chain r s) w → InLanguage (Cat r s) w
chained_to (Cat r t) s w h =
    let k = chained_to t s h.1 h.4 in
    (h.0 ++ k.0, k.1, h.2 ∙ ap (λ z. h.0 ++ z) k.2 ∙ sym (append_assoc h.0 k.0 k.1), (h.0, k.0, refl, h.3, k.3), k.4)
chained_to r s w h = h

pub chained_back : (r s : Shape) (w : List Letter) → InLanguage (Cat r s) w → InLanguage (chain r s) w
chained_back (Cat r t) s w h =
    let p = h.3 in
    (p.0, p.1 ++ h.1, h.2 ∙ ap (λ z. z ++ h.1) p.2 ∙ append_assoc p.0 p.1 h.1, p.3, chained_back t s (p.1 ++ h.1) (p.1, h.1, refl, p.4, h.4))
chained_back r s w h = h

pub followed_to : (r s : Shape) (w : List Letter) → InLanguage (follow r s) w → InLanguage (Cat r s) w
followed_to r Empty w h = absurd h
followed_to r Eps w h = (w, [], sym (append-nil w), h, refl)
followed_to r s w h = chained_to r s w h

pub followed_back : (r s : Shape) (w : List Letter) → InLanguage (Cat r s) w → InLanguage (follow r s) w
followed_back r Empty w h = absurd h.4
followed_back r Eps w h = subst (λ z. InLanguage r z) (sym (h.2 ∙ ap (λ z. h.0 ++ z) h.4 ∙ append-nil h.0)) h.3
followed_back r s w h = chained_back r s w h

pub cat_to : (r s : Shape) (w : List Letter) → InLanguage (normal_cat r s) w → InLanguage (Cat r s) w
cat_to Empty s w h = absurd h
cat_to Eps s w h = ([], w, refl, refl, h)
cat_to r s w h = followed_to r s w h

pub cat_back : (r s : Shape) (w : List Letter) → InLanguage (Cat r s) w → InLanguage (normal_cat r s) w
cat_back Empty s w h = absurd h.3
cat_back Eps s w h = subst (λ z. InLanguage s z) (sym (h.2 ∙ ap (λ z. z ++ h.1) h.3)) h.4
cat_back r s w h = followed_back r s w h

-- ---- Alt

-- the word is in the language of a member
abbrev pub HasMember : List Shape → List Letter → Type 0
HasMember [] w = ⊥
HasMember (r ∷ rs) w = InLanguage r w ⊎ HasMember rs w

pub append_to : (rs ss : List Shape) (w : List Letter) → HasMember (rs ++ ss) w → HasMember rs w ⊎ HasMember ss w
append_to [] ss w h = inr h
append_to (r ∷ rs) ss w h = ⊎_elim (λ a. inl (inl a)) (λ a. ⊎_elim (λ b. inl (inr b)) (λ b. inr b) (append_to rs ss w a)) h

pub append_left : (rs ss : List Shape) (w : List Letter) → HasMember rs w → HasMember (rs ++ ss) w
append_left [] ss w h = absurd h
append_left (r ∷ rs) ss w h = ⊎_elim (λ a. inl a) (λ a. inr (append_left rs ss w a)) h

pub append_right : (rs ss : List Shape) (w : List Letter) → HasMember ss w → HasMember (rs ++ ss) w
append_right [] ss w h = h
append_right (r ∷ rs) ss w h = inr (append_right rs ss w h)

pub members_to : (r : Shape) (w : List Letter) → HasMember (members r) w → InLanguage r w
members_to Empty w h = absurd h
members_to (Alt r s) w h = ⊎_elim (λ a. inl (members_to r w a)) (λ a. inr (members_to s w a)) (append_to (members r) (members s) w h)
members_to r w h = ⊎_elim (λ a. a) (λ a. absurd a) h

pub members_back : (r : Shape) (w : List Letter) → InLanguage r w → HasMember (members r) w
members_back Empty w h = absurd h
members_back (Alt r s) w h =
    ⊎_elim (λ a. append_left (members r) (members s) w (members_back r w a)) (λ a. append_right (members r) (members s) w (members_back s w a)) h
members_back r w h = inl h

-- one step of `insert_member`, at any answer of the comparison
abbrev pub placed : Ordering → Shape → Shape → List Shape → List Shape
placed o r s ss = elim o as (λ o. List Shape) [ Before ↦ r ∷ s ∷ ss | Same ↦ s ∷ ss | After ↦ s ∷ insert_member r ss ]

pub placed_to : (o : Ordering) (r s : Shape) (ss : List Shape) (w : List Letter) → (HasMember (insert_member r ss) w → InLanguage r w ⊎ HasMember ss w) →
    HasMember (placed o r s ss) w → InLanguage r w ⊎ HasMember (s ∷ ss) w
placed_to Before r s ss w k h = h
placed_to Same r s ss w k h = inr h
placed_to After r s ss w k h = ⊎_elim (λ a. inr (inl a)) (λ a. ⊎_elim (λ b. inl b) (λ b. inr (inr b)) (k a)) h

pub placed_back : (o : Ordering) (r s : Shape) (ss : List Shape) (w : List Letter) → shape_cmp r s ≡ o →
    (InLanguage r w ⊎ HasMember ss w → HasMember (insert_member r ss) w) → InLanguage r w ⊎ HasMember (s ∷ ss) w → HasMember (placed o r s ss) w
placed_back Before r s ss w q k h = h
placed_back Same r s ss w q k h = ⊎_elim (λ a. inl (subst (λ z. InLanguage z w) (cmp_equal r s q) a)) (λ a. a) h
placed_back After r s ss w q k h = ⊎_elim (λ a. inr (k (inl a))) (λ a. ⊎_elim (λ b. inl b) (λ b. inr (k (inr b))) a) h

pub insert_to : (r : Shape) (ss : List Shape) (w : List Letter) → HasMember (insert_member r ss) w → InLanguage r w ⊎ HasMember ss w
insert_to r [] w h = h
insert_to r (s ∷ ss) w h = placed_to (shape_cmp r s) r s ss w (λ k. insert_to r ss w k) h

pub insert_back : (r : Shape) (ss : List Shape) (w : List Letter) → InLanguage r w ⊎ HasMember ss w → HasMember (insert_member r ss) w
insert_back r [] w h = h
insert_back r (s ∷ ss) w h = placed_back (shape_cmp r s) r s ss w refl (λ k. insert_back r ss w k) h

pub all_to : (rs : List Shape) (w : List Letter) → HasMember (insert_members rs []) w → HasMember rs w
all_to [] w h = h
all_to (r ∷ rs) w h = ⊎_elim (λ a. inl a) (λ a. inr (all_to rs w a)) (insert_to r (insert_members rs []) w h)

pub all_back : (rs : List Shape) (w : List Letter) → HasMember rs w → HasMember (insert_members rs []) w
all_back [] w h = h
all_back (r ∷ rs) w h = insert_back r (insert_members rs []) w (⊎_elim (λ a. inl a) (λ a. inr (all_back rs w a)) h)

pub nest_to : (rs : List Shape) (w : List Letter) → InLanguage (nest rs) w → HasMember rs w
nest_to [] w h = h
nest_to (r ∷ []) w h = inl h
nest_to (r ∷ s ∷ ss) w h = ⊎_elim (λ a. inl a) (λ a. inr (nest_to (s ∷ ss) w a)) h

pub nest_back : (rs : List Shape) (w : List Letter) → HasMember rs w → InLanguage (nest rs) w
nest_back [] w h = h
nest_back (r ∷ []) w h = ⊎_elim (λ a. a) (λ a. absurd a) h
nest_back (r ∷ s ∷ ss) w h = ⊎_elim (λ a. inl a) (λ a. inr (nest_back (s ∷ ss) w a)) h

pub alt_to : (r s : Shape) (w : List Letter) → InLanguage (normal_alt r s) w → InLanguage (Alt r s) w
alt_to r s w h = members_to (Alt r s) w (all_to (members r ++ members s) w (nest_to (insert_members (members r ++ members s) []) w h))

pub alt_back : (r s : Shape) (w : List Letter) → InLanguage (Alt r s) w → InLanguage (normal_alt r s) w
alt_back r s w h = nest_back (insert_members (members r ++ members s) []) w (all_back (members r ++ members s) w (members_back (Alt r s) w h))

-- ---- Star

pub repeated_map : (P Q : List Letter → Type 0) → ((v : List Letter) → P v → Q v) → (w : List Letter) → IsRepeated P w → IsRepeated Q w
repeated_map P Q f w (NoMore w' e) = NoMore w' e
repeated_map P Q f w (OnceMore l x y w' e p q) = OnceMore l x y w' e (f (l ∷ x) p) (repeated_map P Q f y q)

pub repeated_append : (P : List Letter → Type 0) (v w : List Letter) → IsRepeated P v → IsRepeated P w → IsRepeated P (v ++ w)
repeated_append P v w (NoMore v' e) q = subst (λ z. IsRepeated P (z ++ w)) (sym e) q
repeated_append P v w (OnceMore l x y v' e p s) q =
    OnceMore l x (y ++ w) (v' ++ w) (ap (λ z. z ++ w) e ∙ append_assoc (l ∷ x) y w) p (repeated_append P y w s q)

-- words of repeated words are repeated words
pub repeated_flat : (P : List Letter → Type 0) (w : List Letter) → IsRepeated (λ v. IsRepeated P v) w → IsRepeated P w
repeated_flat P w (NoMore w' e) = NoMore w' e
repeated_flat P w (OnceMore l x y w' e p q) = subst (λ z. IsRepeated P z) (sym e) (repeated_append P (l ∷ x) y p (repeated_flat P y q))

pub repeated_twice : (P : List Letter → Type 0) (w : List Letter) → IsRepeated P w → IsRepeated (λ v. IsRepeated P v) w
repeated_twice P w (NoMore w' e) = NoMore w' e
repeated_twice P w (OnceMore l x y w' e p q) =
    OnceMore l x y w' e (OnceMore l x [] (l ∷ x) (sym (append-nil (l ∷ x))) p (NoMore [] refl)) (repeated_twice P y q)

-- where no non-empty word is left to repeat, only the empty word is repeated
pub repeated_none : (P : List Letter → Type 0) → ((l : Letter) (x : List Letter) → P (l ∷ x) → ⊥) → (w : List Letter) → IsRepeated P w → w ≡ []
repeated_none P f w (NoMore w' e) = e
repeated_none P f w (OnceMore l x y w' e p q) = absurd (f l x p)

pub star_to : (r : Shape) (w : List Letter) → InLanguage (normal_star r) w → InLanguage (Star r) w
star_to Empty w h = NoMore w h
star_to Eps w h = NoMore w h
star_to (Star r) w h = repeated_twice (λ v. InLanguage r v) w h
star_to r w h = h

pub star_back : (r : Shape) (w : List Letter) → InLanguage (Star r) w → InLanguage (normal_star r) w
star_back Empty w h = repeated_none (λ v. ⊥) (λ l x p. p) w h
star_back Eps w h = repeated_none (λ v. v ≡ []) (λ l x p. nil_cons l x (sym p)) w h
star_back (Star r) w h = repeated_flat (λ v. InLanguage r v) w h
star_back r w h = h

-- ---- the law

pub normal_to : (r : Shape) (w : List Letter) → InLanguage (normal_form r) w → InLanguage r w
normal_to Empty w h = h
normal_to Eps w h = h
normal_to (One l) w h = h
normal_to (Cat r s) w h =
    let k = cat_to (normal_form r) (normal_form s) w h in (k.0, k.1, k.2, normal_to r k.0 k.3, normal_to s k.1 k.4)
normal_to (Alt r s) w h = ⊎_elim (λ a. inl (normal_to r w a)) (λ a. inr (normal_to s w a)) (alt_to (normal_form r) (normal_form s) w h)
normal_to (Star r) w h = repeated_map (λ v. InLanguage (normal_form r) v) (λ v. InLanguage r v) (λ v a. normal_to r v a) w (star_to (normal_form r) w h)

pub normal_back : (r : Shape) (w : List Letter) → InLanguage r w → InLanguage (normal_form r) w
normal_back Empty w h = h
normal_back Eps w h = h
normal_back (One l) w h = h
normal_back (Cat r s) w h = cat_back (normal_form r) (normal_form s) w (h.0, h.1, h.2, normal_back r h.0 h.3, normal_back s h.1 h.4)
normal_back (Alt r s) w h = alt_back (normal_form r) (normal_form s) w (⊎_elim (λ a. inl (normal_back r w a)) (λ a. inr (normal_back s w a)) h)
normal_back (Star r) w h =
    star_back (normal_form r) w (repeated_map (λ v. InLanguage r v) (λ v. InLanguage (normal_form r) v) (λ v a. normal_back r v a) w h)

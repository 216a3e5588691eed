-- The members of a normal form rise: an insertion keeps the order, and no member is an Alt itself.
use Rattle.std.specs.Prelude.{◌≡◌, List, [], ◌∷◌, ◌++◌, refl}
use Rattle.std.specs.declared.cmp.Ordering.{Ordering}
use Rattle.std.specs.declared.cmp.Ordering.TheVariants.{Less as Before, Equal as Same, Greater as After}
use Rattle.std.specs.Ordering.{nat_cmp, ordering_then, ordering_reverse}
use Rattle.std.specs.List.{AllByRecursion}
use Rattle.std.proofs.Common.{sym, ◌∙◌, ap, subst}
use Rattle.ts_base.specs.declared.letter.Letter.{Letter}
use Rattle.ts_base.specs.declared.letter.Letter.TheVariants.{Less, Equal, Greater}
use Rattle.ts_regex.specs.Shape.{Shape, Empty, Eps, One, Cat, Alt, Star}
use Rattle.ts_regex.specs.Derivative.{letter_rank}
use Rattle.ts_regex.specs.NormalForm.{shape_cmp, chain, follow, normal_cat, members, insert_member, insert_members, nest, normal_alt, normal_star, normal_form}
use Rattle.ts_regex.specs.Rising.{AreRising}
use Rattle.ts_regex.proofs.NormalForms.{placed}

-- two expressions compared the other way round

ranks_turned : (l m : Letter) → nat_cmp (letter_rank m) (letter_rank l) ≡ ordering_reverse (nat_cmp (letter_rank l) (letter_rank m))
ranks_turned Less Less = refl
ranks_turned Less Equal = refl
ranks_turned Less Greater = refl
ranks_turned Equal Less = refl
ranks_turned Equal Equal = refl
ranks_turned Equal Greater = refl
ranks_turned Greater Less = refl
ranks_turned Greater Equal = refl
ranks_turned Greater Greater = refl

then_turned : (a b : Ordering) → ordering_then (ordering_reverse a) (ordering_reverse b) ≡ ordering_reverse (ordering_then a b)
then_turned Before b = refl
then_turned Same b = refl
then_turned After b = refl

cmp_turned : (r s : Shape) → shape_cmp s r ≡ ordering_reverse (shape_cmp r s)
cmp_turned Empty Empty = refl
cmp_turned Eps Eps = refl
cmp_turned (One l) (One m) = ranks_turned l m
cmp_turned (Cat r s) (Cat t u) =
    ap (λ o. ordering_then o (shape_cmp u s)) (cmp_turned r t)
    ∙ ap (λ o. ordering_then (ordering_reverse (shape_cmp r t)) o) (cmp_turned s u)
    ∙ then_turned (shape_cmp r t) (shape_cmp s u)
cmp_turned (Alt r s) (Alt t u) =
    ap (λ o. ordering_then o (shape_cmp u s)) (cmp_turned r t)
    ∙ ap (λ o. ordering_then (ordering_reverse (shape_cmp r t)) o) (cmp_turned s u)
    ∙ then_turned (shape_cmp r t) (shape_cmp s u)
cmp_turned (Star r) (Star s) = cmp_turned r s
cmp_turned r s = refl

after_turned : (r s : Shape) → shape_cmp r s ≡ After → shape_cmp s r ≡ Before
after_turned r s q = cmp_turned r s ∙ ap ordering_reverse q

-- an insertion keeps the order

abbrev IsBeforeAll : Shape → List Shape → Type 0
IsBeforeAll s [] = Unit {0}
IsBeforeAll s (t ∷ ts) = shape_cmp s t ≡ Before

rising_onto : (s : Shape) (ts : List Shape) → IsBeforeAll s ts → AreRising ts → AreRising (s ∷ ts)
rising_onto s [] h k = tt
rising_onto s (t ∷ ts) h k = (h, k)

rising_parts : (s : Shape) (ts : List Shape) → AreRising (s ∷ ts) → IsBeforeAll s ts × AreRising ts
rising_parts s [] h = (tt, tt)
rising_parts s (t ∷ ts) h = h

still_before : (s r : Shape) (ts : List Shape) → shape_cmp s r ≡ Before → IsBeforeAll s ts → IsBeforeAll s (insert_member r ts)
still_before s r [] p h = p
still_before s r (t ∷ ts) p h = elim (shape_cmp r t) as (λ o. IsBeforeAll s (placed o r t ts)) [ Before ↦ p | Same ↦ h | After ↦ h ]

placed_rising : (o : Ordering) (r s : Shape) (ss : List Shape) → shape_cmp r s ≡ o → AreRising (s ∷ ss) → AreRising (insert_member r ss) →
    AreRising (placed o r s ss)
placed_rising Before r s ss q h k = (q, h)
placed_rising Same r s ss q h k = h
placed_rising After r s ss q h k =
    rising_onto s (insert_member r ss) (still_before s r ss (after_turned r s q) (rising_parts s ss h).0) k

insert_rising : (r : Shape) (ss : List Shape) → AreRising ss → AreRising (insert_member r ss)
insert_rising r [] h = tt
insert_rising r (s ∷ ss) h = placed_rising (shape_cmp r s) r s ss refl h (insert_rising r ss (rising_parts s ss h).1)

inserts_rising : (rs ss : List Shape) → AreRising ss → AreRising (insert_members rs ss)
inserts_rising [] ss h = h
inserts_rising (r ∷ rs) ss h = insert_rising r (insert_members rs ss) (inserts_rising rs ss h)

-- a member has itself as its one member

abbrev AreMembers : List Shape → Type 0
AreMembers rs = AllByRecursion (λ r. members r ≡ r ∷ []) rs

both_members : (rs ss : List Shape) → AreMembers rs → AreMembers ss → AreMembers (rs ++ ss)
both_members [] ss h k = k
both_members (r ∷ rs) ss h k = (h.0, both_members rs ss h.1 k)

members_are : (r : Shape) → AreMembers (members r)
members_are Empty = tt
members_are (Alt r s) = both_members (members r) (members s) (members_are r) (members_are s)
members_are r = (refl, tt)

insert_are : (r : Shape) (ss : List Shape) → members r ≡ r ∷ [] → AreMembers ss → AreMembers (insert_member r ss)
insert_are r [] m h = (m, tt)
insert_are r (s ∷ ss) m h =
    elim (shape_cmp r s) as (λ o. AreMembers (placed o r s ss)) [ Before ↦ (m, h) | Same ↦ h | After ↦ (h.0, insert_are r ss m h.1) ]

inserts_are : (rs ss : List Shape) → AreMembers rs → AreMembers ss → AreMembers (insert_members rs ss)
inserts_are [] ss h k = k
inserts_are (r ∷ rs) ss h k = insert_are r (insert_members rs ss) h.0 (inserts_are rs ss h.1 k)

members_nest : (rs : List Shape) → AreMembers rs → members (nest rs) ≡ rs
members_nest [] h = refl
members_nest (r ∷ []) h = h.0
members_nest (r ∷ s ∷ ss) h = ap (λ z. z ++ members (nest (s ∷ ss))) h.0 ∙ ap (λ z. r ∷ z) (members_nest (s ∷ ss) h.1)

-- normal forms

alt_rising : (r s : Shape) → AreRising (members (normal_alt r s))
alt_rising r s =
    let all = members r ++ members s in
    let are = inserts_are all [] (both_members (members r) (members s) (members_are r) (members_are s)) tt in
    subst (λ z. AreRising z) (sym (members_nest (insert_members all []) are)) (inserts_rising all [] tt)

chain_rising : (r t : Shape) → AreRising (members (chain r t))
chain_rising (Cat r s) t = tt
chain_rising r t = tt

follow_rising : (r s : Shape) → AreRising (members r) → AreRising (members (follow r s))
follow_rising r Empty h = tt
follow_rising r Eps h = h
follow_rising r s h = chain_rising r s

cat_rising : (r s : Shape) → AreRising (members r) → AreRising (members s) → AreRising (members (normal_cat r s))
cat_rising Empty s h k = tt
cat_rising Eps s h k = k
cat_rising r s h k = follow_rising r s h

star_rising : (r : Shape) → AreRising (members (normal_star r))
star_rising Empty = tt
star_rising Eps = tt
star_rising (Star r) = tt
star_rising r = tt

pub form_rising : (r : Shape) → AreRising (members (normal_form r))
form_rising Empty = tt
form_rising Eps = tt
form_rising (One l) = tt
form_rising (Cat r s) = cat_rising (normal_form r) (normal_form s) (form_rising r) (form_rising s)
form_rising (Alt r s) = alt_rising (normal_form r) (normal_form s)
form_rising (Star r) = star_rising (normal_form r)

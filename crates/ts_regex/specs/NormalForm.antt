-- The normal form, meant to be one for expressions that differ in brackets, order and repeats alone (Brzozowski 1964,
-- "similar" expressions).
use Rattle.std.specs.Prelude.{ℕ, Bool, List, [], ◌∷◌, ◌++◌}
use Rattle.std.specs.declared.cmp.Ordering.{Ordering}
use Rattle.std.specs.declared.cmp.Ordering.TheVariants.{Less as Before, Equal as Same, Greater as After}
use Rattle.std.specs.Ordering.{nat_cmp, ordering_then, is_eq}
use Rattle.ts_base.specs.declared.letter.Letter.{Letter}
use Rattle.ts_regex.specs.Shape.{Shape, Empty, Eps, One, Cat, Alt, Star}
use Rattle.ts_regex.specs.Derivative.{letter_rank, derivative}

abbrev pub shape_rank : Shape → ℕ
shape_rank Empty = 0
shape_rank Eps = 1
shape_rank (One l) = 2
shape_rank (Cat r s) = 3
shape_rank (Alt r s) = 4
shape_rank (Star r) = 5

-- by the variant, then by the parts from left to right
abbrev pub shape_cmp : Shape → Shape → Ordering
shape_cmp (One l) (One m) = nat_cmp (letter_rank l) (letter_rank m)
shape_cmp (Cat r s) (Cat t u) = ordering_then (shape_cmp r t) (shape_cmp s u)
shape_cmp (Alt r s) (Alt t u) = ordering_then (shape_cmp r t) (shape_cmp s u)
shape_cmp (Star r) (Star s) = shape_cmp r s
shape_cmp r s = nat_cmp (shape_rank r) (shape_rank s)

abbrev pub same_shape : Shape → Shape → Bool
same_shape r s = is_eq (shape_cmp r s)

-- r followed by t, nested to the right
abbrev pub chain : Shape → Shape → Shape
chain (Cat r s) t = Cat r (chain s t)
chain r t = Cat r t

-- r, which is neither Empty nor Eps, followed by s
abbrev pub follow : Shape → Shape → Shape
follow r Empty = Empty
follow r Eps = r
follow r s = chain r s

-- a Cat of two normal forms
abbrev pub normal_cat : Shape → Shape → Shape
normal_cat Empty s = Empty
normal_cat Eps s = s
normal_cat r s = follow r s

-- the members that are no Alt, from left to right, without Empty
abbrev pub members : Shape → List Shape
members Empty = []
members (Alt r s) = members r ++ members s
members r = r ∷ []

-- r in its place among sorted members, unless it stands there
abbrev pub insert_member : Shape → List Shape → List Shape
insert_member r [] = r ∷ []
insert_member r (s ∷ ss) =
    elim (shape_cmp r s) as (λ o. List Shape) [
      | Before ↦ r ∷ s ∷ ss
      | Same ↦ s ∷ ss
      | After ↦ s ∷ insert_member r ss
    ]

-- each in its place among sorted members
abbrev pub insert_members : List Shape → List Shape → List Shape
insert_members [] ss = ss
insert_members (r ∷ rs) ss = insert_member r (insert_members rs ss)

-- the Alt of the members, nested to the right
abbrev pub nest : List Shape → Shape
nest [] = Empty
nest (r ∷ []) = r
nest (r ∷ s ∷ ss) = Alt r (nest (s ∷ ss))

-- an Alt of two normal forms: its members sorted, each once
abbrev pub normal_alt : Shape → Shape → Shape
normal_alt r s = nest (insert_members (members r ++ members s) [])

-- a Star of a normal form
abbrev pub normal_star : Shape → Shape
normal_star Empty = Eps
normal_star Eps = Eps
normal_star (Star r) = Star r
normal_star r = Star r

abbrev pub normal_form : Shape → Shape
normal_form Empty = Empty
normal_form Eps = Eps
normal_form (One l) = One l
normal_form (Cat r s) = normal_cat (normal_form r) (normal_form s)
normal_form (Alt r s) = normal_alt (normal_form r) (normal_form s)
normal_form (Star r) = normal_star (normal_form r)

-- what an occurrence that has read l still has to read
abbrev pub residual : Shape → Letter → Shape
residual r l = normal_form (derivative r l)

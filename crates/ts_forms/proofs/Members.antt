-- How numbers come to the sorted members of an Alt; f leads from numbers to expressions.
use Rattle.std.specs.Prelude.{◌≡◌, ℕ, suc, ◌+◌, ◌<◌, List, [], ◌∷◌, ◌++◌, map, length, take, drop, get_or, Result, Ok, Err, IfOk}
use Rattle.std.specs.declared.cmp.Ordering.{Ordering}
use Rattle.std.specs.declared.cmp.Ordering.TheVariants.{Less as Before, Equal as Same, Greater as After}
use Rattle.std.specs.List.{insert}
use Rattle.std.proofs.Common.{sym, ◌∙◌, ap, subst, append_assoc, arith}
use Rattle.std.proofs.lemmas.List.{map-append, length-map, get_or-map, take-append-drop}
use Rattle.std.specs.List.{take-map, drop-map}
use Rattle.std.proofs.Math.Seq.{drop-cons, take-suc}
use Rattle.ts_regex.specs.Shape.{Shape, Empty, Alt}
use Rattle.ts_regex.specs.NormalForm.{shape_cmp, members, insert_member, insert_members, nest, normal_alt}
use Rattle.ts_regex.proofs.NormalForms.{placed}
use Rattle.ts_regex.proofs.Members.{Passed, all_append, nest_last}
use Rattle.ts_forms.specs.declared.forms.Forms.{Forms}
use Rattle.ts_forms.specs.Nodes.{form_at}
use Rattle.ts_forms.specs.Tables.{shapes, Grows, IsTable, IsPut, AreThere, forms_at}
use Rattle.ts_forms.proofs.Growth.{grows_not, grows_on, put_as, all_there_on, all_forms_on}

module _ (f : ℕ → Shape) where
  -- member k begins the rest from k on
  rest_at : (xs : List ℕ) (k d : ℕ) → k < length xs → drop k (map f xs) ≡ f (get_or xs k d) ∷ drop (suc k) (map f xs)
  rest_at xs k d p =
      drop-map f k xs ∙ ap (λ z. map f z) (drop-cons xs k d p) ∙ ap (λ z. f (get_or xs k d) ∷ z) (sym (drop-map f (suc k) xs))

  -- and ends the members up to k
  front_at : (xs : List ℕ) (k d : ℕ) → k < length xs → take (suc k) (map f xs) ≡ take k (map f xs) ++ f (get_or xs k d) ∷ []
  front_at xs k d p =
      take-suc (map f xs) k Empty (let n = length-map xs f in omega (arith, n, p))
      ∙ ap (λ z. take k (map f xs) ++ z ∷ []) (get_or-map f xs k d Empty p)

  -- where r is compared with member k
  compared : (r : Shape) (xs : List ℕ) (k d : ℕ) (o : Ordering) → k < length xs → Passed r (map f xs) k → shape_cmp r (f (get_or xs k d)) ≡ o →
      insert_member r (map f xs) ≡ take k (map f xs) ++ placed o r (f (get_or xs k d)) (drop (suc k) (map f xs))
  compared r xs k d o p h e =
      h
      ∙ ap (λ z. take k (map f xs) ++ z)
      (ap (λ z. insert_member r z) (rest_at xs k d p) ∙ ap (λ z. placed z r (f (get_or xs k d)) (drop (suc k) (map f xs))) e)

  pub before_member : (r : Shape) (xs : List ℕ) (k d : ℕ) → k < length xs → Passed r (map f xs) k → Before ≡ shape_cmp r (f (get_or xs k d)) →
      insert_member r (map f xs) ≡ insert (map f xs) k r
  before_member r xs k d p h e =
      compared r xs k d Before p h (sym e) ∙ ap (λ z. take k (map f xs) ++ r ∷ z) (sym (rest_at xs k d p))

  pub same_member : (r : Shape) (xs : List ℕ) (k d : ℕ) → k < length xs → Passed r (map f xs) k → Same ≡ shape_cmp r (f (get_or xs k d)) →
      insert_member r (map f xs) ≡ map f xs
  same_member r xs k d p h e =
      compared r xs k d Same p h (sym e) ∙ ap (λ z. take k (map f xs) ++ z) (sym (rest_at xs k d p)) ∙ take-append-drop k (map f xs)

  pub after_member : (r : Shape) (xs : List ℕ) (k d : ℕ) → k < length xs → Passed r (map f xs) k → After ≡ shape_cmp r (f (get_or xs k d)) →
      Passed r (map f xs) (k + 1)
  after_member r xs k d p h e =
      subst (λ n. Passed r (map f xs) n) (let n : suc k ≡ k + 1 = omega arith in n)
      (compared r xs k d After p h (sym e)
      ∙ sym (append_assoc (take k (map f xs)) (f (get_or xs k d) ∷ []) (insert_member r (drop (suc k) (map f xs))))
      ∙ ap (λ z. z ++ insert_member r (drop (suc k) (map f xs))) (sym (front_at xs k d p)))

  pub map_insert : (xs : List ℕ) (k : ℕ) (r : ℕ) → map f (insert xs k r) ≡ insert (map f xs) k (f r)
  map_insert xs k r =
      map-append f (take k xs) (r ∷ drop k xs)
      ∙ ap (λ z. z ++ f r ∷ map f (drop k xs)) (sym (take-map f k xs))
      ∙ ap (λ z. take k (map f xs) ++ f r ∷ z) (sym (drop-map f k xs))

  -- the members zs are xs with r in its place k, which was found in ys, that are xs
  pub member_put : (xs ys zs : List ℕ) (k : ℕ) (r : ℕ) → ys ≡ xs → zs ≡ insert xs k r →
      insert_member (f r) (map f ys) ≡ insert (map f ys) k (f r) → map f zs ≡ insert_member (f r) (map f xs)
  member_put xs ys zs k r p q h =
      ap (λ z. map f z) q ∙ map_insert xs k r ∙ sym (subst (λ z. insert_member (f r) (map f z) ≡ insert (map f z) k (f r)) p h)

  -- the members old were new and m, and v joins m with the last one, u
  pub nest_step : (all : Shape) (old new : List ℕ) (m : ℕ) (u v : Shape) → all ≡ nest (map f old ++ u ∷ []) → old ≡ new ++ m ∷ [] →
      v ≡ Alt (f m) u → all ≡ nest (map f new ++ v ∷ [])
  nest_step all old new m u v h e q =
      h
      ∙ ap (λ z. nest (map f z ++ u ∷ [])) e
      ∙ ap (λ z. nest (z ++ u ∷ [])) (map-append f new (m ∷ []))
      ∙ ap nest (append_assoc (map f new) (f m ∷ []) (u ∷ []))
      ∙ nest_last (map f new) (f m) u
      ∙ ap (λ z. nest (map f new ++ z ∷ [])) (sym q)

-- the members of s are put in, then those of r
pub members_of_both : {A E : Type 0} (ss : List Shape) (i r s : ℕ) (old mid new : List ℕ) (o : Result A E) →
    form_at ss i ≡ Alt (form_at ss r) (form_at ss s) → forms_at ss mid ≡ insert_members (members (form_at ss s)) (forms_at ss old) →
    IfOk o (λ _. forms_at ss new ≡ insert_members (members (form_at ss r)) (forms_at ss mid)) →
    IfOk o (λ _. forms_at ss new ≡ insert_members (members (form_at ss i)) (forms_at ss old))
members_of_both ss i r s old mid new (Ok x) e p q =
    q
    ∙ ap (λ z. insert_members (members (form_at ss r)) z) p
    ∙ sym (all_append (members (form_at ss r)) (members (form_at ss s)) (forms_at ss old))
    ∙ sym (ap (λ z. insert_members (members z) (forms_at ss old)) e)
members_of_both ss i r s old mid new (Err stop) e p q = tt

-- the members that are left, and the union of those that were taken, make up all
pub record IsNested (f g : Forms) (all : Shape) (left : List ℕ) (union : ℕ) : Type 0 where
  pub table : IsTable g
  pub grows : Grows (shapes f) (shapes g)
  pub there : AreThere (shapes g) left
  pub union_there : union < length (shapes g)
  pub same : all ≡ nest (forms_at (shapes g) left ++ form_at (shapes g) union ∷ [])

last_there : (ss : List Shape) (is : List ℕ) (i : ℕ) → AreThere ss (is ++ i ∷ []) → i < length ss
last_there ss [] i h = h.0
last_there ss (j ∷ is) i h = last_there ss is i h.1

-- the last of them is taken
pub taken_there : (ss : List Shape) (old new : List ℕ) (i : ℕ) → old ≡ new ++ i ∷ [] → AreThere ss old → i < length ss
taken_there ss old new i e h = last_there ss new i (subst (λ z. AreThere ss z) e h)

without_last : (ss : List Shape) (is : List ℕ) (i : ℕ) → AreThere ss (is ++ i ∷ []) → AreThere ss is
without_last ss [] i h = tt
without_last ss (j ∷ is) i h = (h.0, without_last ss is i h.1)

-- the last member is taken
pub nested_first : (f : Forms) (old new : List ℕ) (last : ℕ) → IsTable f → AreThere (shapes f) old → old ≡ new ++ last ∷ [] →
    IsNested f f (nest (forms_at (shapes f) old)) new last
nested_first f old new last t h e =
    record {
      table = t;
      grows = grows_not (shapes f);
      there = without_last (shapes f) new last (subst (λ z. AreThere (shapes f) z) e h);
      union_there = taken_there (shapes f) old new last e h;
      same = ap nest (ap (λ z. forms_at (shapes f) z) e ∙ map-append (λ i. form_at (shapes f) i) new (last ∷ []));
    }

-- one member more is taken
pub nested_more : (f g h : Forms) (all : Shape) (old new : List ℕ) (union member m : ℕ) → IsNested f g all old union → old ≡ new ++ member ∷ [] →
    IsPut g h (Alt (form_at (shapes g) member) (form_at (shapes g) union)) m → IsNested f h all new m
nested_more f g h all old new union member m k e p =
    let there : AreThere (shapes g) new = without_last (shapes g) new member (subst (λ z. AreThere (shapes g) z) e k.there) in
    record {
      table = p.table;
      grows = grows_on (shapes f) (shapes g) (shapes h) k.grows p.grows;
      there = all_there_on (shapes g) (shapes h) new p.grows there;
      union_there = p.number.0;
      same = nest_step (λ i. form_at (shapes g) i) all old new member (form_at (shapes g) union) (form_at (shapes h) m) k.same e p.number.1
          ∙ ap (λ z. nest (z ++ form_at (shapes h) m ∷ [])) (sym (all_forms_on (shapes g) (shapes h) new p.grows there));
    }

-- the members of b are put into an empty list, then those of a
alt_members : (ss : List Shape) (none first both : List ℕ) (a b : Shape) → none ≡ [] → forms_at ss first ≡ insert_members (members b) (forms_at ss none) →
    forms_at ss both ≡ insert_members (members a) (forms_at ss first) → forms_at ss both ≡ insert_members (members a ++ members b) []
alt_members ss none first both a b e p q =
    q
    ∙ ap (λ z. insert_members (members a) z) p
    ∙ ap (λ z. insert_members (members a) (insert_members (members b) (forms_at ss z))) e
    ∙ sym (all_append (members a) (members b) [])

pub alt_put : {E : Type 0} (f g : Forms) (none first both : List ℕ) (i j : ℕ) (o : Result ℕ E) → none ≡ [] →
    forms_at (shapes f) first ≡ insert_members (members (form_at (shapes f) j)) (forms_at (shapes f) none) →
    forms_at (shapes f) both ≡ insert_members (members (form_at (shapes f) i)) (forms_at (shapes f) first) →
    IfOk o (λ k. IsPut f g (nest (forms_at (shapes f) both)) k) → IfOk o (λ k. IsPut f g (normal_alt (form_at (shapes f) i) (form_at (shapes f) j)) k)
alt_put f g none first both i j (Ok k) e p q h =
    let a : Shape = form_at (shapes f) i in let b : Shape = form_at (shapes f) j in
    put_as f g (nest (forms_at (shapes f) both)) (normal_alt a b) k (ap nest (alt_members (shapes f) none first both a b e p q)) h
alt_put f g none first both i j (Err stop) e p q h = tt

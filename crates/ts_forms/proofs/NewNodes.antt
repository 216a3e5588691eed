-- A node that is new stands for an expression that is new, so the table says of it what it says of the others.
use Rattle.std.specs.Prelude.{◌≡◌, ◌⊎◌, ℕ, zero, suc, ◌+◌, ◌<◌, ◌≤◌, List, [], ◌∷◌, ◌++◌, Some, length, slice_get, get_or, refl}
use Rattle.std.proofs.Common.{sym, ◌∙◌, ap, subst, inl, inr, arith, ⊎_elim}
use Rattle.std.proofs.lemmas.Bool.{eqb-false}
use Rattle.std.proofs.lemmas.Option.{none-some, same_Some, slice_get-get_or}
use Rattle.std.proofs.Math.Seq.{get_or-append_seam}
use Rattle.ts_base.specs.declared.letter.Letter.{Letter}
use Rattle.ts_base.specs.declared.letter.Letter.TheVariants.{Less, Equal, Greater}
use Rattle.ts_regex.specs.Shape.{Shape, Empty, Eps, One, Cat, Alt, Star}
use Rattle.ts_regex.specs.Derivative.{nullable, derivative}
use Rattle.ts_forms.specs.declared.node.Node.{Node}
use Rattle.ts_forms.specs.declared.node.Node.TheVariants.{Empty as EmptyNode, Eps as EpsNode, Less as LessNode, Equal as EqualNode, Greater as GreaterNode, Cat as CatNode, Alt as AltNode, Star as StarNode}
use Rattle.ts_forms.specs.declared.known.Known.{Known}
use Rattle.ts_forms.specs.declared.forms.Forms.{Forms}
use Rattle.ts_forms.specs.Nodes.{form_at, shape_by, HasParts, shapes_onto, left_on, words_of}
use Rattle.ts_forms.specs.Tables.{shapes, Grows, IsNoted, IsKnown, AreDifferent, IsTable, IsPut}
use Rattle.ts_forms.proofs.Growth.{form_on, known_on}

-- nodes of the same expression are the same

abbrev part_first : Shape → Shape
part_first (Cat r s) = r
part_first (Alt r s) = r
part_first (Star r) = r
part_first r = r

abbrev part_second : Shape → Shape
part_second (Cat r s) = s
part_second (Alt r s) = s
part_second r = r

abbrev kind : Shape → ℕ
kind Empty = 0
kind Eps = 1
kind (One Less) = 2
kind (One Equal) = 3
kind (One Greater) = 4
kind (Cat r s) = 5
kind (Alt r s) = 6
kind (Star r) = 7

same_node : (ss : List Shape) → AreDifferent ss → (m n : Node) → HasParts (length ss) m → HasParts (length ss) n → shape_by ss m ≡ shape_by ss n → m ≡ n
same_node ss d EmptyNode EmptyNode h g e = refl
same_node ss d EpsNode EpsNode h g e = refl
same_node ss d LessNode LessNode h g e = refl
same_node ss d EqualNode EqualNode h g e = refl
same_node ss d GreaterNode GreaterNode h g e = refl
same_node ss d (CatNode i j) (CatNode k l) h g e =
    ap (λ z. CatNode z j) (d i k h.0 g.0 (ap part_first e)) ∙ ap (λ z. CatNode k z) (d j l h.1 g.1 (ap part_second e))
same_node ss d (AltNode i j) (AltNode k l) h g e =
    ap (λ z. AltNode z j) (d i k h.0 g.0 (ap part_first e)) ∙ ap (λ z. AltNode k z) (d j l h.1 g.1 (ap part_second e))
same_node ss d (StarNode i) (StarNode k) h g e = ap StarNode (d i k h g (ap part_first e))
same_node ss d m n h g e = absurd (eqb-false (kind (shape_by ss m)) (kind (shape_by ss n)) refl (ap kind e))

-- one node more

shapes_push : (ss : List Shape) (ns : List Node) (n : Node) → shapes_onto ss (ns ++ n ∷ []) ≡ shapes_onto ss ns ++ shape_by (shapes_onto ss ns) n ∷ []
shapes_push ss [] n = refl
shapes_push ss (m ∷ ns) n = shapes_push (ss ++ shape_by ss m ∷ []) ns n

parts_on : (i n : ℕ) (m : Node) → i ≤ n → HasParts i m → HasParts n m
parts_on i n EmptyNode q h = tt
parts_on i n EpsNode q h = tt
parts_on i n LessNode q h = tt
parts_on i n EqualNode q h = tt
parts_on i n GreaterNode q h = tt
parts_on i n (CatNode j k) q h = let a = h.0 in let b = h.1 in (omega (arith, q, a), omega (arith, q, b))
parts_on i n (AltNode j k) q h = let a = h.0 in let b = h.1 in (omega (arith, q, a), omega (arith, q, b))
parts_on i n (StarNode j) q h = omega (arith, q, h)

pub node_on : (a b : List Shape) (n : Node) → Grows a b → HasParts (length a) n → shape_by b n ≡ shape_by a n
node_on a b EmptyNode p h = refl
node_on a b EpsNode p h = refl
node_on a b LessNode p h = refl
node_on a b EqualNode p h = refl
node_on a b GreaterNode p h = refl
node_on a b (CatNode i j) p h = ap (λ z. Cat z (form_at b j)) (form_on a b i p h.0) ∙ ap (λ z. Cat (form_at a i) z) (form_on a b j p h.1)
node_on a b (AltNode i j) p h = ap (λ z. Alt z (form_at b j)) (form_on a b i p h.0) ∙ ap (λ z. Alt (form_at a i) z) (form_on a b j p h.1)
node_on a b (StarNode i) p h = ap Star (form_on a b i p h)

push_length : {A : Type 0} (xs : List A) (x : A) → length (xs ++ x ∷ []) ≡ length xs + 1
push_length [] x = refl
push_length (y ∷ xs) x = let h = push_length xs x in omega (arith, h)

-- an element of a list with one more is one of the list, or the last
pub get_push : {A : Type 0} (xs : List A) (x y : A) (i : ℕ) → slice_get (xs ++ x ∷ []) i ≡ Some y →
    ((i < length xs) × (slice_get xs i ≡ Some y)) ⊎ ((i ≡ length xs) × (x ≡ y))
get_push [] x y zero q = inr (refl, same_Some x y q)
get_push [] x y (suc i) q = absurd (none-some y q)
get_push (z ∷ xs) x y zero q = inl (omega arith, q)
get_push (z ∷ xs) x y (suc i) q =
    ⊎_elim (λ a. inl (let b = a.0 in omega (arith, b), a.1)) (λ a. inr (let b = a.0 in omega (arith, b), a.1)) (get_push xs x y i q)

at_most : (i n : ℕ) → i < n + 1 → (i < n) ⊎ (i ≡ n)
at_most zero zero q = inr refl
at_most zero (suc n) q = inl (omega arith)
at_most (suc i) zero q = absurd (omega (arith, q))
at_most (suc i) (suc n) q =
    ⊎_elim (λ a. inl (omega (arith, a))) (λ a. inr (omega (arith, a))) (at_most i n (omega (arith, q)))

last_form : (ss : List Shape) (r : Shape) (i : ℕ) → i ≡ length ss → form_at (ss ++ r ∷ []) i ≡ r
last_form ss r i q = ap (λ z. form_at (ss ++ r ∷ []) z) q ∙ get_or-append_seam ss r [] Empty

fresh_known : (ss : List Shape) (r : Shape) → IsKnown ss r (words_of r)
fresh_known ss r = record { nullable = refl; some = refl; longer = refl; normal = tt; left = λ l. none_left l }
  where
    none_left : (l : Letter) → IsNoted ss (derivative r l) (left_on l (words_of r))
    none_left Less = tt
    none_left Equal = tt
    none_left Greater = tt

module _ (old new : Forms) (n : Node) (t : IsTable old) (parts : HasParts (length (shapes old)) n)
    (ns : new.nodes.items ≡ old.nodes.items ++ n ∷ []) (ps : new.places.keys ≡ old.places.keys ++ n ∷ [])
    (ks : new.known.items ≡ old.known.items ++ words_of (shape_by (shapes old) n) ∷ [])
    (none : (i : ℕ) → slice_get old.nodes.items i ≡ Some n → ⊥) where
  more_shapes : shapes new ≡ shapes old ++ shape_by (shapes old) n ∷ []
  more_shapes = ap (λ z. shapes_onto [] z) ns ∙ shapes_push [] old.nodes.items n

  more_grows : Grows (shapes old) (shapes new)
  more_grows = (shape_by (shapes old) n ∷ [], more_shapes)

  more_length : length (shapes new) ≡ length (shapes old) + 1
  more_length = ap (λ z. length z) more_shapes ∙ push_length (shapes old) (shape_by (shapes old) n)

  more_last : (i : ℕ) → i ≡ length (shapes old) → form_at (shapes new) i ≡ shape_by (shapes old) n
  more_last i q = ap (λ z. form_at z i) more_shapes ∙ last_form (shapes old) (shape_by (shapes old) n) i q

  nowhere : (i : ℕ) → i < length (shapes old) → form_at (shapes old) i ≡ shape_by (shapes old) n → ⊥
  nowhere i q e =
      let size = t.as_many_nodes in
      let got = slice_get-get_or old.nodes.items i n (omega (arith, q, size)) in
      let m : Node = get_or old.nodes.items i n in
      let is = t.nodes i m got in
      none i (got ∙ ap (λ z. Some z) (same_node (shapes old) t.once m n (parts_on i (length (shapes old)) m (omega (arith, q)) is.0) parts (sym is.1 ∙ e)))

  more_once : (i j : ℕ) → (i < length (shapes old)) ⊎ (i ≡ length (shapes old)) → (j < length (shapes old)) ⊎ (j ≡ length (shapes old)) →
      form_at (shapes new) i ≡ form_at (shapes new) j → i ≡ j
  more_once i j (inl a) (inl b) q =
      t.once i j a b (sym (form_on (shapes old) (shapes new) i more_grows a) ∙ q ∙ form_on (shapes old) (shapes new) j more_grows b)
  more_once i j (inl a) (inr b) q =
      absurd (nowhere i a (sym (form_on (shapes old) (shapes new) i more_grows a) ∙ q ∙ more_last j b))
  more_once i j (inr a) (inl b) q =
      absurd (nowhere j b (sym (form_on (shapes old) (shapes new) j more_grows b) ∙ sym q ∙ more_last i a))
  more_once i j (inr a) (inr b) q = a ∙ sym b

  more_nodes : (i : ℕ) (m : Node) → ((i < length old.nodes.items) × (slice_get old.nodes.items i ≡ Some m)) ⊎ ((i ≡ length old.nodes.items) × (n ≡ m)) →
      HasParts i m × (form_at (shapes new) i ≡ shape_by (shapes new) m)
  more_nodes i m (inl a) =
      let size = t.as_many_nodes in let low = a.0 in
      let there : i < length (shapes old) = omega (arith, low, size) in
      let is = t.nodes i m a.1 in (
        is.0,
        form_on (shapes old) (shapes new) i more_grows there ∙ is.1
            ∙ sym (node_on (shapes old) (shapes new) m more_grows (parts_on i (length (shapes old)) m (omega (arith, there)) is.0)),
      )
  more_nodes i m (inr a) =
      let at : i ≡ length (shapes old) = a.0 ∙ t.as_many_nodes in
      subst (λ z. HasParts i z × (form_at (shapes new) i ≡ shape_by (shapes new) z)) a.1 (
        subst (λ z. HasParts z n) (sym at) parts,
        more_last i at ∙ sym (node_on (shapes old) (shapes new) n more_grows parts),
      )

  more_known : (i : ℕ) (k : Known) →
      ((i < length old.known.items) × (slice_get old.known.items i ≡ Some k)) ⊎ ((i ≡ length old.known.items) × (words_of (shape_by (shapes old) n) ≡ k)) →
      IsKnown (shapes new) (form_at (shapes new) i) k
  more_known i k (inl a) =
      let size = t.as_many_known in let low = a.0 in
      let there : i < length (shapes old) = omega (arith, low, size) in
      subst (λ z. IsKnown (shapes new) z k) (sym (form_on (shapes old) (shapes new) i more_grows there))
      (known_on (shapes old) (shapes new) (form_at (shapes old) i) k more_grows (t.known i k a.1))
  more_known i k (inr a) =
      subst (λ z. IsKnown (shapes new) (form_at (shapes new) i) z) a.1
      (subst (λ z. IsKnown (shapes new) z (words_of (shape_by (shapes old) n))) (sym (more_last i (a.0 ∙ t.as_many_known)))
      (fresh_known (shapes new) (shape_by (shapes old) n)))

  pub put_new : (j : ℕ) → j ≡ length old.nodes.items → IsPut old new (shape_by (shapes old) n) j
  put_new j q =
      let at : j ≡ length (shapes old) = q ∙ t.as_many_nodes in
      let size = more_length in
      record {
        table = record {
          places = ps ∙ ap (λ z. z ++ n ∷ []) t.places ∙ sym ns;
          as_many_nodes = ap (λ z. length z) ns ∙ push_length old.nodes.items n ∙ ap (λ z. z + 1) t.as_many_nodes ∙ sym more_length;
          as_many_known =
              ap (λ z. length z) ks ∙ push_length old.known.items (words_of (shape_by (shapes old) n)) ∙ ap (λ z. z + 1) t.as_many_known ∙ sym more_length;
          nodes = λ i m g. more_nodes i m (get_push old.nodes.items n m i (ap (λ z. slice_get z i) (sym ns) ∙ g));
          known = λ i k g. more_known i k (get_push old.known.items (words_of (shape_by (shapes old) n)) k i (ap (λ z. slice_get z i) (sym ks) ∙ g));
          once = λ i k a b g. more_once i k (at_most i (length (shapes old)) (omega (arith, a, size)))
              (at_most k (length (shapes old)) (omega (arith, b, size))) g;
        };
        grows = more_grows;
        number = (omega (arith, at, size), more_last j at);
      }

-- What is read in a table, and what is noted there.
use Rattle.std.specs.Prelude.{◌≡◌, ◌⊎◌, ℕ, zero, suc, ◌<◌, Bool, true, ◌&&◌, ◌||◌, List, [], ◌∷◌, Some, length, slice_get, slice_set, get_or, refl}
use Rattle.std.proofs.Common.{sym, ◌∙◌, ap, subst, inl, inr, arith, ⊎_elim}
use Rattle.std.proofs.lemmas.Option.{none-some, same_Some, slice_get_read, slice_get_within}
use Rattle.ts_base.specs.declared.letter.Letter.{Letter}
use Rattle.ts_base.specs.declared.letter.Letter.TheVariants.{Less, Equal, Greater}
use Rattle.ts_regex.specs.Shape.{Shape, Cat, Alt, Star}
use Rattle.ts_regex.specs.Derivative.{nullable, has_word, has_longer, derivative}
use Rattle.ts_regex.specs.NormalForm.{normal_form}
use Rattle.ts_forms.specs.declared.node.Node.{Node}
use Rattle.ts_forms.specs.declared.known.Known.{Known}
use Rattle.ts_forms.specs.declared.forms.Forms.{Forms}
use Rattle.ts_forms.specs.Nodes.{form_at, shape_by, HasParts, shapes_onto, left_on, left_with, words_of, words_alone, words_cat, words_alt, words_star}
use Rattle.ts_forms.specs.Tables.{shapes, Grows, IsNumberOf, IsNoted, IsKnown, IsTable, IsPut}
use Rattle.ts_forms.proofs.Growth.{grows_not}

-- nothing stands there

pub table_none : (f : Forms) → f.nodes.items ≡ [] → f.places.keys ≡ [] → f.known.items ≡ [] → IsTable f
table_none f ns ps ks =
    let is : shapes f ≡ [] = ap (λ z. shapes_onto [] z) ns in
    let size : length (shapes f) ≡ 0 = ap (λ z. length z) is in
    record {
      places = ps ∙ sym ns;
      as_many_nodes = ap (λ z. length z) ns ∙ sym size;
      as_many_known = ap (λ z. length z) ks ∙ sym size;
      nodes = λ i n q. absurd (none-some n (ap (λ z. slice_get z i) (sym ns) ∙ q));
      known = λ i k q. absurd (none-some k (ap (λ z. slice_get z i) (sym ks) ∙ q));
      once = λ i j p q e. absurd (omega (arith, p, size));
    }

-- a node, and what is known of it

pub node_there : (f : Forms) (i : ℕ) → IsTable f → i < length (shapes f) → i < length f.nodes.items
node_there f i t q = let size = t.as_many_nodes in omega (arith, q, size)

pub known_there : (f : Forms) (i : ℕ) → IsTable f → i < length (shapes f) → i < length f.known.items
known_there f i t q = let size = t.as_many_known in omega (arith, q, size)

pub node_read : (f : Forms) (i : ℕ) (n : Node) → IsTable f → i < length (shapes f) → n ≡ get_or f.nodes.items i n →
    HasParts i n × (form_at (shapes f) i ≡ shape_by (shapes f) n)
node_read f i n t q e = t.nodes i n (slice_get_read f.nodes.items (length f.nodes.items) i n refl (node_there f i t q) e)

pub node_parts : (f : Forms) (i : ℕ) (n : Node) → IsTable f → i < length (shapes f) → n ≡ get_or f.nodes.items i n → HasParts i n
node_parts f i n t q e = (node_read f i n t q e).0

pub node_shape : (f : Forms) (i : ℕ) (n : Node) → IsTable f → i < length (shapes f) → n ≡ get_or f.nodes.items i n →
    form_at (shapes f) i ≡ shape_by (shapes f) n
node_shape f i n t q e = (node_read f i n t q e).1

pub known_read : (f : Forms) (i : ℕ) (k : Known) → IsTable f → i < length (shapes f) → k ≡ get_or f.known.items i k →
    IsKnown (shapes f) (form_at (shapes f) i) k
known_read f i k t q e = t.known i k (slice_get_read f.known.items (length f.known.items) i k refl (known_there f i t q) e)

-- which words there are

same_alone : (a b c d e f : Bool) → a ≡ d → b ≡ e → c ≡ f → words_alone a b c ≡ words_alone d e f
same_alone a b c d e f p q r = ap (λ z. words_alone z b c) p ∙ ap (λ z. words_alone d z c) q ∙ ap (λ z. words_alone d e z) r

both : (op : Bool → Bool → Bool) (a b c d : Bool) → a ≡ c → b ≡ d → op a b ≡ op c d
both op a b c d p q = ap (λ z. op z b) p ∙ ap (λ z. op c z) q

abbrev and : Bool → Bool → Bool
and a b = a && b

abbrev or : Bool → Bool → Bool
or a b = a || b

pub words_cat_are : (ss : List Shape) (r s : Shape) (k m : Known) → IsKnown ss r k → IsKnown ss s m → words_cat k m ≡ words_of (Cat r s)
words_cat_are ss r s k m h g =
    same_alone (k.nullable && m.nullable) (k.some && m.some) ((k.longer && m.some) || (k.some && m.longer)) (nullable r && nullable s)
    (has_word r && has_word s) ((has_longer r && has_word s) || (has_word r && has_longer s))
    (both and k.nullable m.nullable (nullable r) (nullable s) h.nullable g.nullable)
    (both and k.some m.some (has_word r) (has_word s) h.some g.some)
    (both or (k.longer && m.some) (k.some && m.longer) (has_longer r && has_word s) (has_word r && has_longer s)
    (both and k.longer m.some (has_longer r) (has_word s) h.longer g.some)
    (both and k.some m.longer (has_word r) (has_longer s) h.some g.longer))

pub words_alt_are : (ss : List Shape) (r s : Shape) (k m : Known) → IsKnown ss r k → IsKnown ss s m → words_alt k m ≡ words_of (Alt r s)
words_alt_are ss r s k m h g =
    same_alone (k.nullable || m.nullable) (k.some || m.some) (k.longer || m.longer) (nullable r || nullable s) (has_word r || has_word s)
    (has_longer r || has_longer s) (both or k.nullable m.nullable (nullable r) (nullable s) h.nullable g.nullable)
    (both or k.some m.some (has_word r) (has_word s) h.some g.some) (both or k.longer m.longer (has_longer r) (has_longer s) h.longer g.longer)

pub words_star_are : (ss : List Shape) (r : Shape) (k : Known) → IsKnown ss r k → words_star k ≡ words_of (Star r)
words_star_are ss r k h = ap (λ z. words_alone true true z) h.longer

-- notes at a node leave the expressions as they are

get_set : {A : Type 0} (xs : List A) (x y : A) (i k : ℕ) → slice_get (slice_set xs i x) k ≡ Some y → ((k ≡ i) × (x ≡ y)) ⊎ (slice_get xs k ≡ Some y)
get_set [] x y i k q = inr q
get_set (z ∷ xs) x y zero zero q = inl (refl, same_Some x y q)
get_set (z ∷ xs) x y zero (suc k) q = inr q
get_set (z ∷ xs) x y (suc i) zero q = inr q
get_set (z ∷ xs) x y (suc i) (suc k) q =
    ⊎_elim (λ a. inl (let b = a.0 in omega (arith, b), a.1)) (λ a. inr a) (get_set xs x y i k q)

set_length : {A : Type 0} (xs : List A) (i : ℕ) (x : A) → length (slice_set xs i x) ≡ length xs
set_length [] i x = refl
set_length (z ∷ xs) zero x = refl
set_length (z ∷ xs) (suc i) x = let h = set_length xs i x in omega (arith, h)

pub table_noted : (old new : Forms) (i : ℕ) (k : Known) → IsTable old → new.nodes.items ≡ old.nodes.items → new.places.keys ≡ old.places.keys →
    new.known.items ≡ slice_set old.known.items i k → IsKnown (shapes old) (form_at (shapes old) i) k → IsTable new
table_noted old new i k t ns ps ks h =
    let is : shapes old ≡ shapes new = ap (λ z. shapes_onto [] z) (sym ns) in
    record {
      places = ps ∙ t.places ∙ sym ns;
      as_many_nodes = ap (λ z. length z) ns ∙ t.as_many_nodes ∙ ap (λ z. length z) is;
      as_many_known = ap (λ z. length z) ks ∙ set_length old.known.items i k ∙ t.as_many_known ∙ ap (λ z. length z) is;
      nodes = λ j n q. subst (λ z. HasParts j n × (form_at z j ≡ shape_by z n)) is (t.nodes j n (ap (λ z. slice_get z j) (sym ns) ∙ q));
      known = λ j m q. subst (λ z. IsKnown z (form_at z j) m) is (
          ⊎_elim (λ a. subst (λ z. IsKnown (shapes old) (form_at (shapes old) z) m) (sym a.0)
          (subst (λ z. IsKnown (shapes old) (form_at (shapes old) i) z) a.1 h)) (λ a. t.known j m a)
          (get_set old.known.items k m i j (ap (λ z. slice_get z j) (sym ks) ∙ q)));
      once = subst (λ (z : List Shape). (i j : ℕ) → i < length z → j < length z → form_at z i ≡ form_at z j → i ≡ j) is t.once;
    }

pub same_table : (old new : Forms) → IsTable old → new.nodes.items ≡ old.nodes.items → new.places.keys ≡ old.places.keys → new.known.items ≡ old.known.items →
    IsTable new
same_table old new t ns ps ks =
    let is : shapes old ≡ shapes new = ap (λ z. shapes_onto [] z) (sym ns) in
    record {
      places = ps ∙ t.places ∙ sym ns;
      as_many_nodes = ap (λ z. length z) ns ∙ t.as_many_nodes ∙ ap (λ z. length z) is;
      as_many_known = ap (λ z. length z) ks ∙ t.as_many_known ∙ ap (λ z. length z) is;
      nodes = λ j n q. subst (λ z. HasParts j n × (form_at z j ≡ shape_by z n)) is (t.nodes j n (ap (λ z. slice_get z j) (sym ns) ∙ q));
      known = λ j m q. subst (λ z. IsKnown z (form_at z j) m) is (t.known j m (ap (λ z. slice_get z j) (sym ks) ∙ q));
      once = subst (λ (z : List Shape). (i j : ℕ) → i < length z → j < length z → form_at z i ≡ form_at z j → i ≡ j) is t.once;
    }

-- the node stood there
pub put_old : (old new : Forms) (n : Node) (j : ℕ) → IsTable old → new.nodes.items ≡ old.nodes.items → new.places.keys ≡ old.places.keys →
    new.known.items ≡ old.known.items → slice_get old.nodes.items j ≡ Some n → IsPut old new (shape_by (shapes old) n) j
put_old old new n j t ns ps ks q =
    let is : shapes old ≡ shapes new = ap (λ z. shapes_onto [] z) (sym ns) in
    let size = t.as_many_nodes in let low = slice_get_within old.nodes.items j n q in
    let there : j < length (shapes old) = omega (arith, low, size) in
    record {
      table = same_table old new t ns ps ks;
      grows = subst (λ z. Grows (shapes old) z) is (grows_not (shapes old));
      number = subst (λ z. IsNumberOf z (shape_by (shapes old) n) j) is (there, (t.nodes j n q).1);
    }

pub normal_noted : (ss : List Shape) (r : Shape) (k : Known) (j : ℕ) → IsKnown ss r k → IsNumberOf ss (normal_form r) j →
    IsKnown ss r (record k { normal = Some j })
normal_noted ss r k j h n = record { nullable = h.nullable; some = h.some; longer = h.longer; normal = n; left = λ l. same_left l }
  where
    same_left : (l : Letter) → IsNoted ss (derivative r l) (left_on l (record k { normal = Some j }))
    same_left Less = h.left Less
    same_left Equal = h.left Equal
    same_left Greater = h.left Greater

pub left_noted : (ss : List Shape) (r : Shape) (k : Known) (l : Letter) (j : ℕ) → IsKnown ss r k → IsNumberOf ss (derivative r l) j →
    IsKnown ss r (left_with k l j)
left_noted ss r k Less j h n = record { nullable = h.nullable; some = h.some; longer = h.longer; normal = h.normal; left = λ l. at_left l }
  where
    at_left : (l : Letter) → IsNoted ss (derivative r l) (left_on l (left_with k Less j))
    at_left Less = n
    at_left Equal = h.left Equal
    at_left Greater = h.left Greater
left_noted ss r k Equal j h n = record { nullable = h.nullable; some = h.some; longer = h.longer; normal = h.normal; left = λ l. at_left l }
  where
    at_left : (l : Letter) → IsNoted ss (derivative r l) (left_on l (left_with k Equal j))
    at_left Less = h.left Less
    at_left Equal = n
    at_left Greater = h.left Greater
left_noted ss r k Greater j h n = record { nullable = h.nullable; some = h.some; longer = h.longer; normal = h.normal; left = λ l. at_left l }
  where
    at_left : (l : Letter) → IsNoted ss (derivative r l) (left_on l (left_with k Greater j))
    at_left Less = h.left Less
    at_left Equal = h.left Equal
    at_left Greater = n

-- a note is made of expression i

pub normal_in_table : (old new : Forms) (i j : ℕ) (k : Known) → IsTable old → i < length (shapes old) →
    IsNumberOf (shapes old) (normal_form (form_at (shapes old) i)) j → k ≡ get_or old.known.items i k → new.nodes.items ≡ old.nodes.items →
    new.places.keys ≡ old.places.keys →
    new.known.items ≡ slice_set old.known.items i (record k { normal = Some j }) → IsTable new
normal_in_table old new i j k t low h q ns ps ks =
    table_noted old new i (record k { normal = Some j }) t ns ps ks (normal_noted (shapes old) (form_at (shapes old) i) k j (known_read old i k t low q) h)

pub left_in_table : (old new : Forms) (i j : ℕ) (l : Letter) (k m : Known) → IsTable old → i < length (shapes old) →
    IsNumberOf (shapes old) (derivative (form_at (shapes old) i) l) j → k ≡ get_or old.known.items i k → m ≡ left_with k l j →
    new.nodes.items ≡ old.nodes.items → new.places.keys ≡ old.places.keys →
    new.known.items ≡ slice_set old.known.items i m → IsTable new
left_in_table old new i j l k m t low h q e ns ps ks =
    table_noted old new i m t ns ps ks
    (subst (λ z. IsKnown (shapes old) (form_at (shapes old) i) z) (sym e)
    (left_noted (shapes old) (form_at (shapes old) i) k l j (known_read old i k t low q) h))

-- Different configurations have different keys, and a key is found where it stands.
use Rattle.std.specs.Prelude.{◌≡◌, ℕ, zero, suc, ◌+◌, ◌<◌, Bool, true, false, not, ◌||◌, if◌then◌else◌, List, [], ◌∷◌, ◌++◌, None, Some, map, slice_get, get_or, length, nat_eq, take, refl}
use Rattle.std.specs.List.{list_any}
use Rattle.std.specs.Cmp.Lexicographic.{pointwise, bytes_decides}
use Rattle.std.proofs.Common.{Vec, Global, sym, ◌∙◌, ap, arith}
use Rattle.std.proofs.lemmas.Bool.{false≢true}
use Rattle.std.proofs.lemmas.List.{append_assoc, map-append, take_more}
use Rattle.std.proofs.lemmas.Option.{none-some, same_Some}
use Rattle.indexmap.specs.IndexSet.{insert_key}
use Rattle.ts_pattern.specs.declared.plan.Tag.{Tag}
use Rattle.ts_pattern.specs.declared.plan.Tag.TheVariants.{Young, Due, InD, InC, Loose}
use Rattle.ts_pattern.specs.declared.plan.Live.{Live}
use Rattle.ts_pattern.specs.declared.plan.Configuration.{Configuration}
use Rattle.ts_user.specs.Keys.{tag_number, entry_keys, configuration_key, IsPlaced}
use Rattle.ts_user.specs.Listings.{AreSame}

-- the entries of a configuration are read back from its key

abbrev tag_of : ℕ → Tag
tag_of zero = Due
tag_of (suc zero) = InD
tag_of (suc (suc zero)) = InC
tag_of (suc (suc (suc zero))) = Loose
tag_of (suc (suc (suc (suc signs)))) = Young signs

tag_back : (g : Tag) → tag_of (tag_number g) ≡ g
tag_back Due = refl
tag_back InD = refl
tag_back InC = refl
tag_back Loose = refl
tag_back (Young signs) = ap tag_of (let n : signs + 4 ≡ suc (suc (suc (suc signs))) = omega arith in n)

abbrev entries_of : List ℕ → List Live
entries_of [] = []
entries_of (n ∷ []) = []
entries_of (n ∷ g ∷ ns) = record { residual = n; tag = tag_of g } ∷ entries_of ns

entries_back : (es : List Live) → entries_of (entry_keys es) ≡ es
entries_back [] = refl
entries_back (e ∷ es) =
    ap (λ z. record { residual = e.residual; tag = z } ∷ entries_of (entry_keys es)) (tag_back e.tag) ∙ ap (λ z. e ∷ z) (entries_back es)

abbrev rest_of : List ℕ → List ℕ
rest_of [] = []
rest_of (n ∷ ns) = ns

pub same_configuration : (x y : Configuration) → configuration_key x ≡ configuration_key y → AreSame x y
same_configuration x y e = (
  ap (λ z. get_or z 0 0) e,
  sym (entries_back x.live.items) ∙ ap (λ z. entries_of (rest_of z)) e ∙ entries_back y.live.items,
)

pub configuration_keys_same : (x y : Configuration) → AreSame x y → configuration_key x ≡ configuration_key y
configuration_keys_same x y a = ap (λ z. z ∷ entry_keys x.live.items) a.0 ∙ ap (λ z. y.state ∷ entry_keys z) a.1

-- where a key stands

pub key_at : {A B : Type 0} (f : A → B) (xs : List A) (i : ℕ) (b : B) → slice_get (map f xs) i ≡ Some b → (x : A) × (slice_get xs i ≡ Some x) × (f x ≡ b)
key_at f [] i b q = absurd (none-some b q)
key_at f (x ∷ xs) zero b q = (x, refl, same_Some (f x) b q)
key_at f (x ∷ xs) (suc i) b q = key_at f xs i b q

pub key_there : {A B : Type 0} (f : A → B) (xs : List A) (i : ℕ) (x : A) → slice_get xs i ≡ Some x → slice_get (map f xs) i ≡ Some (f x)
key_there f [] i x q = absurd (none-some x q)
key_there f (y ∷ xs) zero x q = ap (λ z. Some (f z)) (same_Some y x q)
key_there f (y ∷ xs) (suc i) x q = key_there f xs i x q

-- a set of keys

abbrev pub list_eq : Vec ℕ Global → Vec ℕ Global → Bool
list_eq v w = pointwise nat_eq v.items w.items

is_none : (ks : List (Vec ℕ Global)) (v : Vec ℕ Global) → list_any (λ w. pointwise nat_eq v.items w.items) ks ≡ false → (i : ℕ) →
    slice_get (map (λ (w : Vec ℕ Global). w.items) ks) i ≡ Some v.items → ⊥
is_none [] v n i q = none-some v.items q
is_none (k ∷ ks) v n i q = go (pointwise nat_eq v.items k.items) refl (λ m j r. is_none ks v m j r) n i q
  where
    go : (b : Bool) → pointwise nat_eq v.items k.items ≡ b →
        (list_any (λ w. pointwise nat_eq v.items w.items) ks ≡ false → (i : ℕ) → slice_get (map (λ (w : Vec ℕ Global). w.items) ks) i ≡ Some v.items → ⊥) →
        b || list_any (λ w. pointwise nat_eq v.items w.items) ks ≡ false → (i : ℕ) →
        slice_get (map (λ (w : Vec ℕ Global). w.items) (k ∷ ks)) i ≡ Some v.items → ⊥
    go true e h m i q = false≢true (sym m)
    go false e h m zero q = false≢true (sym e ∙ (bytes_decides v.items k.items).1 (sym (same_Some k.items v.items q)))
    go false e h m (suc i) q = h m i q

abbrev pub lists_of : List (Vec ℕ Global) → List (List ℕ)
lists_of ks = map (λ v. v.items) ks

pub placed_new : (ks new : List (Vec ℕ Global)) (v : Vec ℕ Global) (is_new : Bool) →
    is_new ≡ not (list_any (λ w. pointwise nat_eq v.items w.items) ks) → new ≡ insert_key list_eq ks v → is_new ≡ true →
    IsPlaced (lists_of ks) (lists_of new) v.items None
placed_new ks new v is_new a e q = go (list_any (λ w. pointwise nat_eq v.items w.items) ks) refl
  where
    go : (b : Bool) → list_any (λ w. pointwise nat_eq v.items w.items) ks ≡ b → IsPlaced (lists_of ks) (lists_of new) v.items None
    go true t = absurd (false≢true (sym (ap (λ z. not z) t) ∙ sym a ∙ q))
    go false t = (
      ap lists_of (e ∙ ap (λ b. if b then ks else ks ++ v ∷ []) t) ∙ map-append (λ (w : Vec ℕ Global). w.items) ks (v ∷ []),
      is_none ks v t,
    )

pub placed_old : (ks new : List (Vec ℕ Global)) (v : Vec ℕ Global) (is_new : Bool) (i : ℕ) →
    is_new ≡ not (list_any (λ w. pointwise nat_eq v.items w.items) ks) → new ≡ insert_key list_eq ks v → is_new ≡ false →
    ((k : Vec ℕ Global) × (slice_get new i ≡ Some k) × (pointwise nat_eq v.items k.items ≡ true)) → IsPlaced (lists_of ks) (lists_of new) v.items (Some i)
placed_old ks new v is_new i a e q s = go (list_any (λ w. pointwise nat_eq v.items w.items) ks) refl
  where
    go : (b : Bool) → list_any (λ w. pointwise nat_eq v.items w.items) ks ≡ b → IsPlaced (lists_of ks) (lists_of new) v.items (Some i)
    go false t = absurd (false≢true (sym q ∙ a ∙ ap (λ z. not z) t))
    go true t =
        let stay : new ≡ ks = e ∙ ap (λ b. if b then ks else ks ++ v ∷ []) t in (
          ap lists_of stay,
          key_there (λ (w : Vec ℕ Global). w.items) ks i s.0 (sym (ap (λ z. slice_get z i) stay) ∙ s.1)
              ∙ ap Some (sym ((bytes_decides v.items (s.0).items).0 s.2)),
        )

-- one entry more

entries_push : (es : List Live) (e : Live) → entry_keys (es ++ e ∷ []) ≡ entry_keys es ++ e.residual ∷ tag_number e.tag ∷ []
entries_push [] e = refl
entries_push (f ∷ es) e = ap (λ z. f.residual ∷ tag_number f.tag ∷ z) (entries_push es e)

pub key_more : (state : ℕ) (es : List Live) (i : ℕ) (d : Live) (old mid new : List ℕ) (g : ℕ) → i < length es → old ≡ state ∷ entry_keys (take i es) →
    mid ≡ old ++ (get_or es i d).residual ∷ [] → g ≡ tag_number (get_or es i d).tag → new ≡ mid ++ g ∷ [] → new ≡ state ∷ entry_keys (take (i + 1) es)
key_more state es i d old mid new g q h m t n =
    let e : Live = get_or es i d in
    n ∙ ap (λ z. z ++ g ∷ []) (m ∙ ap (λ z. z ++ e.residual ∷ []) h)
    ∙ append_assoc (state ∷ entry_keys (take i es)) (e.residual ∷ []) (g ∷ [])
    ∙ ap (λ z. (state ∷ entry_keys (take i es)) ++ e.residual ∷ z ∷ []) t
    ∙ ap (λ z. state ∷ z) (sym (entries_push (take i es) e))
    ∙ ap (λ z. state ∷ entry_keys z) (sym (take_more es i d q))

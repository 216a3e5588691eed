-- A node is found by its hash where it stands, and comes last where it is new.
use Rattle.std.specs.Prelude.{◌≡◌, ◌⊎◌, ℕ, zero, suc, ◌+◌, Bool, true, false, not, ◌||◌, if◌then◌else◌, List, [], ◌∷◌, ◌++◌, Some, length, slice_get, refl}
use Rattle.std.specs.List.{list_any}
use Rattle.std.proofs.Common.{sym, ◌∙◌, ap, rules, ⊎_elim}
use Rattle.std.proofs.lemmas.Bool.{false≢true}
use Rattle.std.proofs.lemmas.Option.{none-some, same_Some}
use Rattle.indexmap.specs.IndexSet.{insert_key}
use Rattle.ts_forms.specs.declared.node.Node.{Node}
use Rattle.ts_forms.specs.contracts.node.NodePartialEq.TheImpl as node_eq
use Rattle.ts_forms.specs.declared.known.Known.{Known}
use Rattle.ts_forms.specs.declared.forms.Forms.{Forms}
use Rattle.ts_forms.specs.Nodes.{shape_by, HasParts, words_of}
use Rattle.ts_forms.specs.Tables.{shapes, IsTable, IsPut}
use Rattle.ts_forms.proofs.NewNodes.{get_push, put_new}
use Rattle.ts_forms.proofs.Readings.{put_old}

-- the test of two nodes that the set of nodes asks
abbrev eq : Node → Node → Bool
eq m n = node_eq.eq-value.it m n

eq_right : (m n : Node) → eq m n ≡ true → m ≡ n
eq_right m n = search rules

eq_itself : (m : Node) → eq m m ≡ true
eq_itself m = search rules

nowhere : (n : Node) (ms : List Node) → list_any (eq n) ms ≡ false → (i : ℕ) → slice_get ms i ≡ Some n → ⊥
nowhere n [] h i q = none-some n q
nowhere n (m ∷ ms) h i q = go (eq n m) refl (nowhere n ms) h i q
  where
    go : (b : Bool) → eq n m ≡ b → (list_any (eq n) ms ≡ false → (i : ℕ) → slice_get ms i ≡ Some n → ⊥) →
        b || list_any (eq n) ms ≡ false → (i : ℕ) → slice_get (m ∷ ms) i ≡ Some n → ⊥
    go true e rest h i q = false≢true (sym h)
    go false e rest h zero q = false≢true (sym e ∙ ap (λ z. eq n z) (same_Some m n q) ∙ eq_itself n)
    go false e rest h (suc i) q = rest h i q

pub put_fresh : (old new : Forms) (n : Node) (k : Known) (is_new : Bool) (j : ℕ) → IsTable old → HasParts (length (shapes old)) n →
    k ≡ words_of (shape_by (shapes old) n) → is_new ≡ not (list_any (eq n) old.places.keys) → new.places.keys ≡ insert_key eq old.places.keys n →
    (m : Node) × (slice_get new.places.keys j ≡ Some m) × (eq n m ≡ true) → is_new ≡ true →
    new.nodes.items ≡ old.nodes.items ++ n ∷ [] → new.known.items ≡ old.known.items ++ k ∷ [] → IsPut old new (shape_by (shapes old) n) j
put_fresh old new n k is_new j t parts w a e found q ns ks = go (list_any (eq n) old.places.keys) refl
  where
    go : (b : Bool) → list_any (eq n) old.places.keys ≡ b → IsPut old new (shape_by (shapes old) n) j
    go true h = absurd (false≢true (sym (ap (λ z. not z) h) ∙ sym a ∙ q))
    go false h =
        let ps : new.places.keys ≡ old.places.keys ++ n ∷ [] = e ∙ ap (λ b. if b then old.places.keys else old.places.keys ++ n ∷ []) h in
        let none : (i : ℕ) → slice_get old.nodes.items i ≡ Some n → ⊥ = λ i g. nowhere n old.places.keys h i (ap (λ z. slice_get z i) t.places ∙ g) in
        let m : Node = found.0 in
        put_new old new n t parts ns ps (ks ∙ ap (λ z. old.known.items ++ z ∷ []) w) none j
        (⊎_elim (λ g. absurd (none j (ap (λ z. slice_get z j) (sym t.places) ∙ g.1 ∙ ap (λ z. Some z) (sym (eq_right n m found.2)))))
        (λ g. g.0 ∙ ap (λ z. length z) t.places) (get_push old.places.keys n m j (ap (λ z. slice_get z j) (sym ps) ∙ found.1)))

pub put_stays : (old new : Forms) (n : Node) (is_new : Bool) (j : ℕ) → IsTable old → is_new ≡ not (list_any (eq n) old.places.keys) →
    new.places.keys ≡ insert_key eq old.places.keys n → (m : Node) × (slice_get new.places.keys j ≡ Some m) × (eq n m ≡ true) → is_new ≡ false →
    new.nodes.items ≡ old.nodes.items → new.known.items ≡ old.known.items → IsPut old new (shape_by (shapes old) n) j
put_stays old new n is_new j t a e found q ns ks = go (list_any (eq n) old.places.keys) refl
  where
    go : (b : Bool) → list_any (eq n) old.places.keys ≡ b → IsPut old new (shape_by (shapes old) n) j
    go false h = absurd (false≢true (sym q ∙ a ∙ ap (λ z. not z) h))
    go true h =
        let ps : new.places.keys ≡ old.places.keys = e ∙ ap (λ b. if b then old.places.keys else old.places.keys ++ n ∷ []) h in
        let m : Node = found.0 in
        put_old old new n j t ns ps ks (
        ap (λ z. slice_get z j) (sym (ps ∙ t.places)) ∙ found.1 ∙ ap (λ z. Some z) (sym (eq_right n m found.2))
        )

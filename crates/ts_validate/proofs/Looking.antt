-- What a look at a step computes is the step by numbers.
use Rattle.std.specs.Prelude.{◌≡◌, ℕ, zero, suc, ◌+◌, ◌==◌, nat_lt, Bool, true, false, cond, not, ◌&&◌, List, [], ◌∷◌, ◌++◌, Option, None, Some, is_some, map, length, slice_get, refl}
use Rattle.std.specs.List.{list_all, position, position_or_len, zip}
use Rattle.std.proofs.Common.{sym, ◌∙◌, ap, ⊎_elim}
use Rattle.std.proofs.lemmas.Bool.{eq-eqb}
use Rattle.std.proofs.lemmas.Bool.Decides.{eqb_tells}
use Rattle.std.proofs.Math.Dec.{eqb-suc-zero, eqb-zero-suc, eqb-suc-suc}
use Rattle.std.proofs.lemmas.List.{length-map}
use Rattle.std.proofs.lemmas.List.Folds.{list_all-append}
use Rattle.ts_base.specs.declared.letter.Letter.{Letter}
use Rattle.ts_base.specs.declared.range.Kind.{Kind}
use Rattle.ts_transducer.specs.declared.row.Phase.{Phase}
use Rattle.ts_transducer.specs.declared.row.Arrow.{Arrow}
use Rattle.ts_transducer.specs.declared.row.Row.{Row}
use Rattle.ts_transducer.specs.Decode.{row_at, arrow_on}
use Rattle.ts_pattern.specs.declared.plan.Tag.{Tag}
use Rattle.ts_pattern.specs.declared.plan.Live.{Live}
use Rattle.ts_pattern.specs.declared.plan.Configuration.{Configuration}
use Rattle.ts_pattern.specs.Entries.{Entry, survivors}
use Rattle.ts_pattern.specs.Closed.{PlainConfiguration, Subject, is_ind, first_tag, tag_after, no_ind, retag_entries, with_start, move_of, entries_before, kept_entries, step_of, entries_agree, same_tag, same_live, same_configuration}
use Rattle.ts_pattern.specs.Plans.{plain_live, plain_configuration}
use Rattle.ts_validate.specs.declared.knowledge.Knowledge.{Knowledge}
use Rattle.ts_validate.specs.declared.facts.Kept.{Kept}
use Rattle.ts_validate.specs.declared.step.Look.{Look}
use Rattle.ts_validate.specs.Numbers.{known_at, kept_at, plain_lives, plain_configurations, configuration_after, numbers, numbered_subject, is_listed, all_listed, next_place, number_meets}
use Rattle.ts_validate.specs.Facts.{facts_of, facts_agree}
use Rattle.ts_validate.specs.Looks.{look_of, row_or}
use Rattle.ts_validate.proofs.Plain.{all_mapped}
use Rattle.ts_validate.proofs.FactsOf.{facts_law, seen_are}

pub row_is : (rows : List Row) (q : ℕ) → row_or (slice_get rows q) ≡ row_at rows q
row_is [] q = refl
row_is (r ∷ rows) zero = refl
row_is (r ∷ rows) (suc q) = row_is rows q

-- the two live lists, entry by entry

abbrev entry_same : List Knowledge → Phase → Bool → Live → Live → Bool
entry_same table f free x e = ((known_at table x.residual).own == (known_at table e.residual).own) && same_tag x.tag (tag_after f free e.tag)

assoc : (a b c : Bool) → (a && b) && c ≡ a && (b && c)
assoc true b c = refl
assoc false b c = refl

swap : (a b c : Bool) → a && (b && c) ≡ b && (a && c)
swap true b c = refl
swap false true c = refl
swap false false c = refl

zip_same : (table : List Knowledge) (f : Phase) (free : Bool) (xs es : List Live) →
    (length xs == length es) && list_all (λ p. entry_same table f free p.0 p.1) (zip xs es)
    ≡ same_live (numbers table) (plain_lives xs) (retag_entries f free (plain_lives es))
zip_same table f free [] [] = refl
zip_same table f free [] (e ∷ es) = ap (λ z. z && true) (eqb-zero-suc (length es))
zip_same table f free (x ∷ xs) [] = ap (λ z. z && true) (eqb-suc-zero (length xs))
zip_same table f free (x ∷ xs) (e ∷ es) =
    ap (λ z. z && (entry_same table f free x e && list_all (λ p. entry_same table f free p.0 p.1) (zip xs es))) (eqb-suc-suc (length xs) (length es))
    ∙ swap (length xs == length es) (entry_same table f free x e) (list_all (λ p. entry_same table f free p.0 p.1) (zip xs es))
    ∙ ap (λ z. entry_same table f free x e && z) (zip_same table f free xs es)
    ∙ assoc ((known_at table x.residual).own == (known_at table e.residual).own) (same_tag x.tag (tag_after f free e.tag))
    (same_live (numbers table) (plain_lives xs) (retag_entries f free (plain_lives es)))

pub same_yes : (table : List Knowledge) (f : Phase) (free : Bool) (xs es : List Live) (r : Bool) →
    r ≡ list_all (λ p. entry_same table f free p.0 p.1) (zip xs es) → length xs ≡ length es →
    r ≡ same_live (numbers table) (plain_lives xs) (retag_entries f free (plain_lives es))
same_yes table f free xs es r e q =
    e ∙ ap (λ z. z && list_all (λ p. entry_same table f free p.0 p.1) (zip xs es)) (sym (eq-eqb (length xs) (length es) q)) ∙ zip_same table f free xs es

pub same_no : (table : List Knowledge) (f : Phase) (free : Bool) (xs es : List Live) → (length xs ≡ length es → ⊥) →
    (length xs == length es) ≡ same_live (numbers table) (plain_lives xs) (retag_entries f free (plain_lives es))
same_no table f free xs es q = ⊎_elim
    (λ c. absurd (q c.1))
    (λ c. c.0 ∙ ap (λ z. z && list_all (λ p. entry_same table f free p.0 p.1) (zip xs es)) (sym c.0) ∙ zip_same table f free xs es)
    (eqb_tells (length xs) (length es))

-- the new entry counts too

and_true : (a b : Bool) → b ≡ true → a && b ≡ a
and_true true b q = q
and_true false b q = refl

all_push : {A : Type 0} (p : A → Bool) (xs : List A) (d : A) → list_all p (xs ++ d ∷ []) ≡ list_all p xs && p d
all_push p xs d = list_all-append p xs (d ∷ []) ∙ ap (λ z. list_all p xs && z) (and_true (p d) true refl)

new_free : (b : ℕ) → not (is_ind (first_tag b)) ≡ true
new_free zero = refl
new_free (suc b) = refl

free_is : (b : ℕ) (live : List Live) → list_all (λ e. not (is_ind e.tag)) live ≡ no_ind (with_start tt 0 b (plain_lives live))
free_is b live =
    all_mapped (λ (e : Entry (Unit {0}) ℕ Tag). not (is_ind e.tag)) (λ e. plain_live e) live
    ∙ sym (and_true (list_all (λ (e : Entry (Unit {0}) ℕ Tag). not (is_ind e.tag)) (plain_lives live)) (not (is_ind (first_tag b))) (new_free b))
    ∙ sym (all_push (λ (e : Entry (Unit {0}) ℕ Tag). not (is_ind e.tag)) (plain_lives live) (record { mark = tt; residual = 0; tag = first_tag b }))

listed_is : (table : List Knowledge) (l : Letter) (b : ℕ) (live : List Live) →
    list_all (λ e. is_listed table l e.residual) live && is_listed table l 0
    ≡ all_listed table l (with_start tt 0 b (plain_lives live))
listed_is table l b live =
    ap (λ z. z && is_listed table l 0)
    (all_mapped (λ (e : Entry (Unit {0}) ℕ Tag). is_listed table l e.residual) (λ e. plain_live e) live)
    ∙ sym (all_push (λ (e : Entry (Unit {0}) ℕ Tag). is_listed table l e.residual) (plain_lives live)
    (record { mark = tt; residual = 0; tag = first_tag b }))

len_mapped : {A B : Type 0} (p : B → Bool) (h : A → B) (xs : List A) → position_or_len (λ x. p (h x)) xs ≡ position_or_len p (map h xs)
len_mapped p h [] = refl
len_mapped p h (x ∷ xs) = ap (λ z. cond (not (p (h x))) (1 + z) 0) (len_mapped p h xs)

place_mapped : {A B : Type 0} (p : B → Bool) (h : A → B) (xs : List A) → position (λ x. p (h x)) xs ≡ position p (map h xs)
place_mapped p h xs =
    ap (λ z. cond (nat_lt z (length xs)) (Some z) None) (len_mapped p h xs)
    ∙ ap (λ z. cond (nat_lt (position_or_len p (map h xs)) z) (Some (position_or_len p (map h xs))) None) (sym (length-map xs h))

look_next : (c : Bool) (n : Option ℕ) (a : Bool) → (look_of c n a).next ≡ cond c n None
look_next true n a = refl
look_next false n a = refl

look_meets : (c : Bool) (n : Option ℕ) (a : Bool) → (look_of c n a).meets ≡ is_some (cond c n None) && a
look_meets true n a = refl
look_meets false n a = refl

-- what was computed on the way
pub record Computed (rows : List Row) (table : List Knowledge) (b : ℕ) (cs : List Configuration) (here : Configuration) (l : Letter) (arrow : Arrow)
    (left : List Live) (free listed : Bool) (next : Option ℕ) : Type 0 where
  pub arrow_is : arrow ≡ arrow_on l (row_at rows here.state)
  pub left_is : plain_lives left ≡ survivors (numbers table) l (with_start tt 0 b (plain_lives here.live.items))
  pub free_is : free ≡ no_ind (with_start tt 0 b (plain_lives here.live.items))
  pub listed_is : listed ≡ all_listed table l (with_start tt 0 b (plain_lives here.live.items))
  pub next_is : next ≡ position (λ y. same_configuration (numbers table) (plain_configuration y)
      (configuration_after arrow free left)) cs

next_of : (rows : List Row) (table : List Knowledge) (b : ℕ) (cs : List Configuration) (here : Configuration) (l : Letter) (arrow : Arrow) (left : List Live)
    (free listed : Bool) (next : Option ℕ) → Computed rows table b cs here l arrow left free listed next →
    cond listed next None ≡ next_place table (numbered_subject rows table b (plain_configurations cs)) (plain_configuration here) l
next_of rows table b cs here l arrow left free listed next h =
    let s : Subject ℕ = numbered_subject rows table b (plain_configurations cs) in
    let x : PlainConfiguration ℕ = plain_configuration here in
    let to : PlainConfiguration ℕ = step_of s x l in
    let same : configuration_after arrow free left ≡ to =
    ap (λ (z : Arrow). record { state = z.next; live = retag_entries z.phase free (plain_lives left) }) h.arrow_is
    ∙ ap (λ z. record { state = (move_of s x l).next; live = retag_entries (move_of s x l).phase z (plain_lives left) }) h.free_is
    ∙ ap (λ z. record { state = (move_of s x l).next; live = retag_entries (move_of s x l).phase (no_ind (entries_before s x)) z }) h.left_is in
    ap (λ z. cond z next None) h.listed_is
    ∙ ap (λ z. cond (all_listed table l (entries_before s x)) z None)
    (h.next_is ∙ ap (λ z. position (λ y. same_configuration (numbers table) (plain_configuration y) z) cs) same
    ∙ place_mapped (λ y. same_configuration (numbers table) y to) (λ y. plain_configuration y) cs)

pub next_seen : (rows : List Row) (table : List Knowledge) (b : ℕ) (cs : List Configuration) (here : Configuration) (l : Letter) (arrow : Arrow)
    (left : List Live)
    (free listed : Bool) (next : Option ℕ) (agree : Bool) (look : Look) → Computed rows table b cs here l arrow left free listed next →
    look ≡ look_of listed next agree → look.next ≡ next_place table (numbered_subject rows table b (plain_configurations cs)) (plain_configuration here) l
next_seen rows table b cs here l arrow left free listed next agree look h q =
    ap (λ (z : Look). z.next) q ∙ look_next listed next agree ∙ next_of rows table b cs here l arrow left free listed next h

pub meets_seen : (rows : List Row) (table : List Knowledge) (b : ℕ) (cs : List Configuration) (here : Configuration) (l : Letter) (arrow : Arrow)
    (left : List Live)
    (free listed : Bool) (next : Option ℕ) (agree : Bool) (look : Look) → Computed rows table b cs here l arrow left free listed next →
    look ≡ look_of listed next agree → (seen : List Kept) (kind : Kind) → seen ≡ map (λ e. kept_at table e) left →
    kind ≡ (row_at rows arrow.next).kind → agree ≡ facts_agree (facts_of arrow.phase free seen) arrow.phase kind →
    look.meets ≡ number_meets table (numbered_subject rows table b (plain_configurations cs)) (plain_configuration here) l
meets_seen rows table b cs here l arrow left free listed next agree look h q seen kind u v w =
    let s : Subject ℕ = numbered_subject rows table b (plain_configurations cs) in
    let x : PlainConfiguration ℕ = plain_configuration here in
    let agreed : agree ≡ entries_agree (numbers table) (move_of s x l).phase (row_at rows (move_of s x l).next).kind (no_ind (entries_before s x))
    (kept_entries s x l) =
    w ∙ ap (λ z. facts_agree (facts_of arrow.phase free z) arrow.phase kind) (u ∙ seen_are table left)
    ∙ facts_law (numbers table) arrow.phase kind free (plain_lives left)
    ∙ ap (λ z. entries_agree (numbers table) arrow.phase z free (plain_lives left)) v
    ∙ ap (λ (z : Arrow). entries_agree (numbers table) z.phase (row_at rows z.next).kind free (plain_lives left)) h.arrow_is
    ∙ ap (λ z. entries_agree (numbers table) (move_of s x l).phase (row_at rows (move_of s x l).next).kind z (plain_lives left)) h.free_is
    ∙ ap (λ z. entries_agree (numbers table) (move_of s x l).phase (row_at rows (move_of s x l).next).kind (no_ind (entries_before s x)) z) h.left_is in
    ap (λ (z : Look). z.meets) q ∙ look_meets listed next agree
    ∙ ap (λ z. is_some z && agree) (next_of rows table b cs here l arrow left free listed next h)
    ∙ ap (λ z. is_some (next_place table s x l) && z) agreed

pub computed : (rows : List Row) (table : List Knowledge) (b : ℕ) (cs : List Configuration) (here : Configuration) (l : Letter) (arrow : Arrow)
    (left live : List Live) (free listed : Bool) (next : Option ℕ) (row : Row) (slice : List Live) →
    live ≡ here.live.items → row ≡ row_or (slice_get rows here.state) → arrow ≡ arrow_on l row →
    plain_lives left ≡ survivors (numbers table) l (with_start tt 0 b (plain_lives live)) →
    free ≡ list_all (λ e. not (is_ind e.tag)) live →
    listed ≡ (list_all (λ e. is_listed table l e.residual) live && is_listed table l 0) → slice ≡ left →
    next ≡ position (λ y. same_configuration (numbers table) (plain_configuration y)
    (configuration_after arrow free slice)) cs →
    Computed rows table b cs here l arrow left free listed next
computed rows table b cs here l arrow left live free listed next row slice hl hr ha hk hf hi hs hp =
    record {
      arrow_is = ha ∙ ap (λ z. arrow_on l z) (hr ∙ row_is rows here.state);
      left_is = hk ∙ ap (λ z. survivors (numbers table) l (with_start tt 0 b (plain_lives z))) hl;
      free_is = hf ∙ free_is b live ∙ ap (λ z. no_ind (with_start tt 0 b (plain_lives z))) hl;
      listed_is = hi ∙ listed_is table l b live ∙ ap (λ z. all_listed table l (with_start tt 0 b (plain_lives z))) hl;
      next_is = hp ∙ ap
          (λ z. position
          (λ y. same_configuration (numbers table) (plain_configuration y)
          (configuration_after arrow free z)) cs) hs;
    }

-- What the tests of the checks say, as facts on the words of the residuals and on the tags.
use Rattle.std.specs.Prelude.{◌≡◌, ◌⊎◌, Bool, true, false, not, ◌&&◌, ◌||◌, List, [], ◌∷◌, refl}
use Rattle.std.specs.List.{list_any}
use Rattle.std.proofs.Common.{sym, ◌∙◌, ap, inl, inr, ⊎_elim}
use Rattle.std.proofs.lemmas.Bool.{and_parts, false≢true, not-true}
use Rattle.ts_base.specs.declared.range.Kind.{Kind}
use Rattle.ts_regex.specs.Shape.{Shape}
use Rattle.ts_regex.specs.Derivative.{nullable, has_longer}
use Rattle.ts_regex.proofs.Laws.{nullable_law, no_longer}
use Rattle.ts_transducer.specs.declared.row.Phase.{Phase}
use Rattle.ts_transducer.specs.Typing.{is_held}
use Rattle.ts_pattern.specs.declared.plan.Tag.{Tag}
use Rattle.ts_pattern.specs.declared.plan.Tag.TheVariants.{Young, Due, InD, InC, Loose}
use Rattle.ts_pattern.specs.EachOf.{OneOf, First}
use Rattle.ts_pattern.specs.Entries.{Entry, shapes}
use Rattle.ts_pattern.specs.Closed.{is_due, is_ind, is_inc, tag_after, retag_entries, implies, is_find, is_match, is_found_e, is_out_a, is_maybe_b, first_passes, acceptance_agrees, find_starts_right, early_find_ends, held_start_first, pending_keeps_start, entries_agree}
use Rattle.ts_pattern.proofs.CallerLemmas.{Accepts}
use Rattle.ts_validate.proofs.Traces.{IsShort, MeetsChecks}

implied : (a b : Bool) → implies a b ≡ true → a ≡ true → b ≡ true
implied true b h q = h
implied false b h q = absurd (false≢true q)

any_one : {A : Type 0} (p : A → Bool) (P : A → Type 0) → ((x : A) → p x ≡ true → P x) → (xs : List A) → list_any p xs ≡ true → OneOf P xs
any_one p P f [] h = absurd (false≢true h)
any_one p P f (x ∷ xs) h = go (p x) (list_any p xs) (f x) (any_one p P f xs) refl h
  where
    go : (b c : Bool) → (p x ≡ true → P x) → (c ≡ true → OneOf P xs) → p x ≡ b → b || c ≡ true → P x ⊎ OneOf P xs
    go true c here there q r = inl (here q)
    go false c here there q r = inr (there r)

one_any : {A : Type 0} (p : A → Bool) (P : A → Type 0) → ((x : A) → P x → p x ≡ true) → (xs : List A) → OneOf P xs → list_any p xs ≡ true
one_any p P f [] h = absurd h
one_any p P f (x ∷ xs) h =
    ⊎_elim (λ a. ap (λ b. b || list_any p xs) (f x a)) (λ a. last (p x) (list_any p xs) (one_any p P f xs a)) h
  where
    last : (a b : Bool) → b ≡ true → a || b ≡ true
    last true b q = refl
    last false b q = q

first_first : {A : Type 0} (p : A → Bool) (P : A → Type 0) → ((x : A) → p x ≡ true → P x) → (xs : List A) → first_passes p xs ≡ true → First P xs
first_first p P f [] h = false≢true h
first_first p P f (x ∷ xs) h = f x h

first_one : {A : Type 0} (P : A → Type 0) (xs : List A) → First P xs → OneOf P xs
first_one P [] h = h
first_one P (x ∷ xs) h = inl h

ind_tag : (g : Tag) → is_ind g ≡ true → g ≡ InD
ind_tag (Young m) q = absurd (false≢true q)
ind_tag Due q = absurd (false≢true q)
ind_tag InD q = refl
ind_tag InC q = absurd (false≢true q)
ind_tag Loose q = absurd (false≢true q)

inc_tag : (g : Tag) → is_inc g ≡ true → g ≡ InC
inc_tag (Young m) q = absurd (false≢true q)
inc_tag Due q = absurd (false≢true q)
inc_tag InD q = absurd (false≢true q)
inc_tag InC q = refl
inc_tag Loose q = absurd (false≢true q)

starts : (g : Tag) (free : Bool) → is_ind g || (is_due g && free) ≡ true → (g ≡ InD) ⊎ ((g ≡ Due) × (free ≡ true))
starts (Young m) free q = absurd (false≢true q)
starts Due free q = inr (refl, q)
starts InD free q = inl refl
starts InC free q = absurd (false≢true q)
starts Loose free q = absurd (false≢true q)

-- a fact on the tag after the step, of an entry, is one on the entry with its new tag
one_retagged : {X : Type 0} (f : Phase) (free : Bool) (P : Tag → Type 0) (es : List (Entry X Shape Tag)) → OneOf (λ e. P (tag_after f free e.tag)) es →
    OneOf (λ e. P e.tag) (retag_entries f free es)
one_retagged f free P [] h = h
one_retagged f free P (e ∷ es) h = ⊎_elim (λ a. inl a) (λ a. inr (one_retagged f free P es a)) h

first_retagged : {X : Type 0} (f : Phase) (free : Bool) (P : Tag → Type 0) (es : List (Entry X Shape Tag)) → First (λ e. P (tag_after f free e.tag)) es →
    First (λ e. P e.tag) (retag_entries f free es)
first_retagged f free P [] h = h
first_retagged f free P (e ∷ es) h = h

pub checks_met : {X : Type 0} (f : Phase) (k : Kind) (free : Bool) (sv : List (Entry X Shape Tag)) → entries_agree shapes f k free sv ≡ true →
    MeetsChecks f k free sv
checks_met {X} f k free sv h =
    let h0 = and_parts (acceptance_agrees shapes f sv)
    (find_starts_right f free sv && (early_find_ends shapes f sv && (held_start_first f k free sv && pending_keeps_start f free sv))) h in
    let h1 = and_parts (find_starts_right f free sv) (early_find_ends shapes f sv && (held_start_first f k free sv && pending_keeps_start f free sv)) h0.1 in
    let h2 = and_parts (early_find_ends shapes f sv) (held_start_first f k free sv && pending_keeps_start f free sv) h1.1 in
    let h3 = and_parts (held_start_first f k free sv) (pending_keeps_start f free sv) h2.1 in
    let accept = and_parts (implies (list_any (λ (e : Entry X Shape Tag). nullable e.residual) sv) (is_match f))
    (implies (is_match f) (first_passes (λ (e : Entry X Shape Tag). nullable e.residual) sv)) h0.0 in
    let hold = and_parts (implies (is_held k) (first_passes (λ (e : Entry X Shape Tag). is_inc (tag_after f free e.tag)) sv))
    (implies (is_out_a f) (not (list_any (λ (e : Entry X Shape Tag). is_inc e.tag) sv))) h3.0 in
    let matches : OneOf Accepts sv → is_match f ≡ true =
    (λ o. implied (list_any (λ (e : Entry X Shape Tag). nullable e.residual) sv) (is_match f) accept.0
    (one_any (λ (e : Entry X Shape Tag). nullable e.residual) Accepts (λ e a. (nullable_law e.residual).1 a) sv o)) in
    let head : is_match f ≡ true → First Accepts sv =
    (λ q. first_first (λ (e : Entry X Shape Tag). nullable e.residual) Accepts (λ e a. (nullable_law e.residual).0 a) sv
    (implied (is_match f) (first_passes (λ (e : Entry X Shape Tag). nullable e.residual) sv) accept.1 q)) in
    record {
      some = λ q. first_one Accepts sv (head q);
      nil = λ q o. false≢true (sym q ∙ matches o);
      first = λ o. head (matches o);
      begin = λ q. first_first (λ (e : Entry X Shape Tag). is_ind e.tag || (is_due e.tag && free)) (λ e. (e.tag ≡ InD) ⊎ ((e.tag ≡ Due) × (free ≡ true)))
          (λ e a. starts e.tag free a) sv
          (implied (is_find f) (first_passes (λ (e : Entry X Shape Tag). is_ind e.tag || (is_due e.tag && free)) sv) h1.0 q);
      ends = λ q. first_first (λ (e : Entry X Shape Tag). not (has_longer e.residual)) IsShort
          (λ e a l v. no_longer e.residual (not-true (has_longer e.residual) a) l v) sv
          (implied (is_found_e f) (first_passes (λ (e : Entry X Shape Tag). not (has_longer e.residual)) sv) h2.0 (ap (λ z. is_found_e z) q));
      holds = λ q. first_retagged f free (λ g. g ≡ InC) sv
          (first_first (λ (e : Entry X Shape Tag). is_inc (tag_after f free e.tag)) (λ e. tag_after f free e.tag ≡ InC)
          (λ e a. inc_tag (tag_after f free e.tag) a) sv
          (implied (is_held k) (first_passes (λ (e : Entry X Shape Tag). is_inc (tag_after f free e.tag)) sv) hold.0 (ap (λ z. is_held z) q)));
      leaves = λ q o. false≢true
          (sym (not-true (list_any (λ (e : Entry X Shape Tag). is_inc e.tag) sv)
          (implied (is_out_a f) (not (list_any (λ (e : Entry X Shape Tag). is_inc e.tag) sv)) hold.1 (ap (λ z. is_out_a z) q)))
          ∙ one_any (λ (e : Entry X Shape Tag). is_inc e.tag) (λ e. e.tag ≡ InC) (λ e a. ap (λ z. is_inc z) a) sv o);
      pends = λ q. one_retagged f free (λ g. g ≡ InD) sv
          (any_one (λ (e : Entry X Shape Tag). is_ind (tag_after f free e.tag)) (λ e. tag_after f free e.tag ≡ InD) (λ e a. ind_tag (tag_after f free e.tag) a)
          sv
          (implied (is_maybe_b f) (list_any (λ (e : Entry X Shape Tag). is_ind (tag_after f free e.tag)) sv) h3.1 (ap (λ z. is_maybe_b z) q)));
    }

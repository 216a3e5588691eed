-- Why a closed plan is enough: the trace of a run, and what stays true of it over one letter.
--
-- A trace is the decoder with the live starts of the pattern's matches beside it, and with the occurrence that each
-- range stands for (`done`, `pair`), which no transducer knows. `IsTraced` holds of it after each word w:
-- - live: each start keeps what is left to read from it, and of equal residuals the earliest start is kept, which covers
--   the later ones. This is so in any step, whatever the transducer does.
-- - places: a match ends at the letter where some survivor's residual has the empty word, and then the first survivor is
--   the least start of one. Without a match the occurrences stay; else the new one drops those that start there or later.
-- - early: what is done starts before each start that has still a letter to read, so a find drops none of it; and in a
--   held state the first entry is the held start, so that "in" drops the held occurrence alone.
-- - tags, pending: where d is set, its start is live with the tag InD; where a range is held, its start has InC. So the
--   range of a find begins at the cell of the first survivor, which is what `ranges` and `emitted` say.
-- - kinds: the typing of the moves says in which states d and c are set.
-- At the end what was emitted and what is held are the e-ranges of all occurrences, by rising start.
--
-- check                                  field of MeetsChecks   used in
-- step is listed                         (none)                 the configuration is reached (Law)
-- acceptance agrees                      some, nil, first       places: which start a match has, or that none ends here
-- the find starts at the pending start   begin                  ranges, emitted (begins_at)
-- an early find ends                     ends                   early (early_find)
-- held start is the first entry          holds                  first_held; places and ranges at "in" (same_start)
-- a release leaves none                  leaves                 early (early_release)
-- a pending sign keeps a start           pends                  pending
use Rattle.std.specs.Prelude.{◌≡◌, ◌⊎◌, ℕ, ◌+◌, ◌<◌, ◌≤◌, Bool, true, false, not, ◌&&◌, List, [], ◌∷◌, ◌++◌, length, map, Option, None, Some, refl}
use Rattle.std.proofs.Common.{sym, ◌∙◌, ap, subst, inl, inr, arith, ⊎_elim}
use Rattle.std.proofs.lemmas.Bool.{false≢true}
use Rattle.std.specs.Option.{option_to_list}
use Rattle.ts_base.specs.declared.letter.Letter.{Letter}
use Rattle.ts_base.specs.declared.range.Range.{Range}
use Rattle.ts_base.specs.declared.range.Kind.{Kind}
use Rattle.ts_base.specs.declared.range.Kind.TheVariants.{Held}
use Rattle.ts_regex.specs.Shape.{Shape}
use Rattle.ts_regex.specs.Language.{InLanguage}
use Rattle.ts_transducer.specs.declared.row.Phase.{Phase}
use Rattle.ts_transducer.specs.declared.row.Phase.TheVariants.{OutA, MaybeB, FoundE}
use Rattle.ts_pattern.specs.declared.plan.Tag.{Tag}
use Rattle.ts_pattern.specs.declared.plan.Tag.TheVariants.{Young, Due, InD, InC, Loose}
use Rattle.ts_transducer.specs.Decode.{begins, start_after, held_after, emitted_at}
use Rattle.ts_transducer.specs.Keeps.{KindHolds}
use Rattle.ts_pattern.specs.EachOf.{OneOf, First}
use Rattle.std.specs.List.{AllByRecursion}
use Rattle.ts_pattern.specs.Occurrences.{IsOccurrence}
use Rattle.ts_pattern.specs.OccurrenceList.{Place, AreOccurrences, e_range}
use Rattle.ts_pattern.specs.Entries.{Entry, Residuals, survivors}
use Rattle.ts_pattern.specs.Closed.{tag_after, is_ind, first_tag, no_ind, retag_entries, with_start, is_match, is_find}
use Rattle.ts_pattern.proofs.CallerLemmas.{Rising, AreRight, Covers, each_push, Follows, AreLive, each_survivor, rising_each, Accepts, each_and, each_map, each_left}
use Rattle.ts_validate.proofs.Keeps.{first_of, held_range, first_mark, done_after, pair_after, TagHolds}

abbrev pub IsShort : {X : Type 0} → Entry X Shape Tag → Type 0
IsShort e = (l : Letter) (v : List Letter) → InLanguage e.residual (l ∷ v) → ⊥

-- the checks, but for "step is listed", of the survivors of a step with the phase f into a state of the kind k'
pub record MeetsChecks {X : Type 0} (f : Phase) (k' : Kind) (free : Bool) (sv : List (Entry X Shape Tag)) : Type 0 where
  -- at a match some survivor has the empty word, and else none has it
  pub some : is_match f ≡ true → OneOf Accepts sv
  pub nil : is_match f ≡ false → OneOf Accepts sv → ⊥
  -- where one has it the first one has it
  pub first : OneOf Accepts sv → First Accepts sv
  -- a find begins at the first survivor
  pub begin : is_find f ≡ true → First (λ e. (e.tag ≡ InD) ⊎ ((e.tag ≡ Due) × (free ≡ true))) sv
  -- and where it is complete at once, its start has nothing left to read
  pub ends : f ≡ FoundE → First IsShort sv
  -- in a held state the first entry is the held start
  pub holds : k' ≡ Held → First (λ e. e.tag ≡ InC) (retag_entries f free sv)
  -- which is live no more where the range is released
  pub leaves : f ≡ OutA → OneOf (λ e. e.tag ≡ InC) sv → ⊥
  -- the start that the decoder keeps is live
  pub pends : f ≡ MaybeB → OneOf (λ e. e.tag ≡ InD) (retag_entries f free sv)

-- the pair starts before each entry that still has a non-empty word
abbrev pub After : ℕ → Entry ℕ Shape Tag → Type 0
After s e = (l : Letter) (v : List Letter) → InLanguage e.residual (l ∷ v) → s < e.mark

-- the pair starts before each entry, whatever word it has
abbrev pub Strictly : ℕ → Entry ℕ Shape Tag → Type 0
Strictly s e = (v : List Letter) → InLanguage e.residual v → s < e.mark

-- the decoder (the kind of its state, its start d, its range c and what it emitted), the live starts, and the places in
-- the word of the occurrences that were emitted (`done`) and that is held (`pair`)
pub record Trace : Type 0 where
  pub state : Kind
  pub d : Option ℕ
  pub c : Option Range
  pub emitted : List Range
  pub live : List (Entry ℕ Shape Tag)
  pub done : List Place
  pub pair : Option Place

-- after the signs w
pub record IsTraced (p : Shape) (a b : ℕ) (w : List Letter) (t : Trace) : Type 0 where
  -- the kind of the state says what of d and c is set
  pub kinds : KindHolds t.state t.d t.c
  -- starts rise, each has what is left to read from it, and each start that a match may have is covered
  pub live : AreLive p w (length w) t.live
  -- each tag says how the start's first cell stands to d and c
  pub tags : AllByRecursion (λ e. TagHolds (length w) b t.d t.c e.mark e.tag) t.live
  -- the start d is that of a live entry
  pub pending : (x : ℕ) → t.d ≡ Some x → OneOf (λ e. e.tag ≡ InD) t.live
  -- the held start is the first live entry
  pub first_held : t.state ≡ Held → First (λ e. e.tag ≡ InC) t.live
  -- what is done starts before each entry that has a letter to read
  pub early : AllByRecursion (λ x. AllByRecursion (After x.start) t.live) t.done
  -- c and what was emitted are the e-ranges of `pair` and `done`
  pub ranges : t.c ≡ held_range a b t.pair
  pub emitted : t.emitted ≡ map (λ x. e_range b a x) t.done
  -- and these are all occurrences, by rising start
  pub places : AreOccurrences p w (t.done ++ option_to_list t.pair)

-- one letter: the phase f of the move, and the kind k' of the state that it leads to
abbrev pub trace_step : Residuals Shape → Shape → ℕ → ℕ → ℕ → Letter → Phase → Kind → Trace → Trace
trace_step t p0 a b k l f k' x =
    let before = with_start k p0 b x.live in
    let sv = survivors t l before in
    record {
      state = k';
      d = start_after f (k + 1) x.d;
      c = held_after f a (k + 1) x.d x.c;
      emitted = x.emitted ++ option_to_list (emitted_at f a (k + 1) x.d x.c);
      live = retag_entries f (no_ind before) sv;
      done = done_after f (k + 1) sv x.done x.pair;
      pair = pair_after f (k + 1) sv x.pair;
    }

-- lists that change their tags alone
pub each_retag : (f : Phase) (free : Bool) (p q : Entry ℕ Shape Tag → Type 0) →
    ((e : Entry ℕ Shape Tag) → p e → q (record { mark = e.mark; residual = e.residual; tag = tag_after f free e.tag })) → (es : List (Entry ℕ Shape Tag)) →
    AllByRecursion p es → AllByRecursion q (retag_entries f free es)
each_retag f free p q g [] h = tt
each_retag f free p q g (e ∷ es) h = (g e h.0, each_retag f free p q g es h.1)

one_retag : (f : Phase) (free : Bool) (p q : Entry ℕ Shape Tag → Type 0) →
    ((e : Entry ℕ Shape Tag) → p e → q (record { mark = e.mark; residual = e.residual; tag = tag_after f free e.tag })) → (es : List (Entry ℕ Shape Tag)) →
    OneOf p es → OneOf q (retag_entries f free es)
one_retag f free p q g [] h = h
one_retag f free p q g (e ∷ es) h = ⊎_elim (λ a. inl (g e a)) (λ a. inr (one_retag f free p q g es a)) h

rising_retag : (f : Phase) (free : Bool) (a : ℕ) (es : List (Entry ℕ Shape Tag)) → Rising a es → Rising a (retag_entries f free es)
rising_retag f free a [] h = tt
rising_retag f free a (e ∷ es) h = (h.0, rising_retag f free (e.mark + 1) es h.1)

pub live_retag : (f : Phase) (free : Bool) (p : Shape) (w : List Letter) (k : ℕ) (es : List (Entry ℕ Shape Tag)) → AreLive p w k es →
    AreLive p w k (retag_entries f free es)
live_retag f free p w k es h =
    record {
      rising = rising_retag f free 0 es h.rising;
      below = each_retag f free (λ e. e.mark < k) (λ e. e.mark < k) (λ e q. q) es h.below;
      follows = each_retag f free (Follows p w) (Follows p w) (λ e q. record { to = q.to; back = q.back }) es h.follows;
      covered = λ s v q x. one_retag f free (Covers s v) (Covers s v) (λ e y. y) es (h.covered s v q x);
    }

-- where no entry has InD, d is none
pub no_ind_one : (es : List (Entry ℕ Shape Tag)) → no_ind es ≡ true → OneOf (λ e. e.tag ≡ InD) es → ⊥
no_ind_one [] q h = h
no_ind_one (e ∷ es) q h =
    ⊎_elim (λ a. false≢true (subst (λ g. not (is_ind g) && no_ind es ≡ true) a q)) (λ a. no_ind_one es (right e.tag (no_ind es) q) a) h
  where
    right : (g : Tag) (x : Bool) → not (is_ind g) && x ≡ true → x ≡ true
    right (Young m) x q = q
    right Due x q = q
    right InD x q = absurd (false≢true q)
    right InC x q = q
    right Loose x q = q

pub is_none : (d : Option ℕ) → ((x : ℕ) → d ≡ Some x → ⊥) → d ≡ None
is_none None h = refl
is_none (Some x) h = absurd (h x refl)

-- where the range of a find begins
pub begins_at : (k b : ℕ) (d : Option ℕ) (c : Option Range) (free : Bool) (sv : List (Entry ℕ Shape Tag)) → (free ≡ true → d ≡ None) →
    AllByRecursion (λ e. TagHolds k b d c e.mark e.tag) sv → First (λ e. (e.tag ≡ InD) ⊎ ((e.tag ≡ Due) × (free ≡ true))) sv →
    begins (k + 1) d ≡ first_mark sv + 1 + b
begins_at k b d c free [] g h x = absurd x
begins_at k b d c free (e ∷ es) g h x =
    ⊎_elim
    (λ q. let y : d ≡ Some (e.mark + 1 + b) = subst (λ z. TagHolds k b d c e.mark z) q h.0 in ap (λ z. begins (k + 1) z) y)
    (λ q. let y : e.mark + b ≡ k = subst (λ z. TagHolds k b d c e.mark z) q.0 h.0 in
    ap (λ z. begins (k + 1) z) (g q.1) ∙ (let z : k + 1 ≡ e.mark + 1 + b = omega arith in z))
    x

-- early, before the letter, with the new start
pub early_before : (p p0 : Shape) (a b : ℕ) (w : List Letter) (t : Trace) → IsTraced p a b w t →
    AllByRecursion (λ x. AllByRecursion (After x.start) (with_start (length w) p0 b t.live)) t.done
early_before p p0 a b w t h =
    let occ = each_left (λ x. IsOccurrence p w x.start x.end) t.done (option_to_list t.pair) h.places.each in
    each_map (λ x. AllByRecursion (After x.start) t.live × IsOccurrence p w x.start x.end)
    (λ x. AllByRecursion (After x.start) (with_start (length w) p0 b t.live))
    (λ x q. each_push (After x.start) t.live (record { mark = length w; residual = p0; tag = first_tag b }) q.0
    (λ l v y. let i = q.1.is.some in let j = q.1.is.inside in omega arith))
    t.done (each_and (λ x. AllByRecursion (After x.start) t.live) (λ x. IsOccurrence p w x.start x.end) t.done h.early occ)

-- each pair that is done starts before each survivor with a word
pub strictly_after : (t : Residuals Shape) → AreRight t → (l : Letter) (before : List (Entry ℕ Shape Tag)) (ps : List Place) →
    AllByRecursion (λ x. AllByRecursion (After x.start) before) ps → AllByRecursion (λ x. AllByRecursion (Strictly x.start) (survivors t l before)) ps
strictly_after t f l before ps h =
    each_map (λ x. AllByRecursion (After x.start) before) (λ x. AllByRecursion (Strictly x.start) (survivors t l before))
    (λ x q. each_survivor t l (After x.start) (Strictly x.start) (λ e y v z. y l v (f.quotient e.residual l v z)) before q) ps h

pub below_first : (ps : List Place) (sv : List (Entry ℕ Shape Tag)) → AllByRecursion (λ x. AllByRecursion (Strictly x.start) sv) ps → First Accepts sv →
    AllByRecursion (λ x. x.start < first_mark sv) ps
below_first ps [] h x = absurd x
below_first ps (e ∷ es) h x = each_map (λ y. AllByRecursion (Strictly y.start) (e ∷ es)) (λ y. y.start < e.mark) (λ y q. q.0 [] x) ps h

pub early_old : (f : Phase) (free : Bool) (sv : List (Entry ℕ Shape Tag)) (ps : List Place) → AllByRecursion (λ x. AllByRecursion (Strictly x.start) sv) ps →
    AllByRecursion (λ x. AllByRecursion (After x.start) (retag_entries f free sv)) ps
early_old f free sv ps h =
    each_map (λ x. AllByRecursion (Strictly x.start) sv) (λ x. AllByRecursion (After x.start) (retag_entries f free sv))
    (λ x q. each_retag f free (Strictly x.start) (After x.start) (λ e y l v z. y (l ∷ v) z) sv q) ps h

-- an early find: what comes after the first survivor starts later, and the first has no longer word
pub early_find : (f : Phase) (free : Bool) (sv : List (Entry ℕ Shape Tag)) → Rising 0 sv → First IsShort sv →
    AllByRecursion (After (first_mark sv)) (retag_entries f free sv)
early_find f free [] r x = absurd x
early_find f free (e ∷ es) r x = (
  (λ l v y. absurd (x l v y)),
  each_retag f free (λ z. e.mark + 1 ≤ z.mark) (After e.mark) (λ z q l v y. omega (arith, q)) es (rising_each (e.mark + 1) es r.1),
)

-- a release: the held start is no survivor, and all others start later
pub early_release : (t : Residuals Shape) (f : Phase) (free : Bool) (l : Letter) (s : ℕ) (before : List (Entry ℕ Shape Tag)) →
    AllByRecursion (λ e. (e.tag ≡ InC → ⊥) → s < e.mark) before → (OneOf (λ e. e.tag ≡ InC) (survivors t l before) → ⊥) →
    AllByRecursion (After s) (retag_entries f free (survivors t l before))
early_release t f free l s before h g =
    each_retag f free (λ e. ((e.tag ≡ InC → ⊥) → s < e.mark) × (e.tag ≡ InC → ⊥)) (After s) (λ e q l' v y. q.0 q.1) (survivors t l before)
    (each_and (λ e. (e.tag ≡ InC → ⊥) → s < e.mark) (λ e. e.tag ≡ InC → ⊥) (survivors t l before)
    (each_survivor t l (λ e. (e.tag ≡ InC → ⊥) → s < e.mark) (λ e. (e.tag ≡ InC → ⊥) → s < e.mark) (λ e q. q) before h)
    (not_one (survivors t l before) g))
  where
    not_one : (es : List (Entry ℕ Shape Tag)) → (OneOf (λ e. e.tag ≡ InC) es → ⊥) → AllByRecursion (λ e. e.tag ≡ InC → ⊥) es
    not_one [] g = tt
    not_one (e ∷ es) g = ((λ q. g (inl q)), not_one es (λ q. g (inr q)))

pub held_before : (k b : ℕ) (d : Option ℕ) (c : Option Range) (s z : ℕ) (es : List (Entry ℕ Shape Tag)) (fresh : Entry ℕ Shape Tag) →
    c ≡ Some (record { first = s + 1 + b; last = z }) → Rising 0 es → AllByRecursion (λ e. e.mark < k) es →
    AllByRecursion (λ e. TagHolds k b d c e.mark e.tag) es →
    First (λ e. e.tag ≡ InC) es → fresh.mark ≡ k → AllByRecursion (λ e. (e.tag ≡ InC → ⊥) → s < e.mark) (es ++ fresh ∷ [])
held_before k b d c s z [] fresh q r m h x y = absurd x
held_before k b d c s z (e ∷ es) fresh q r m h x y =
    let g = subst (λ u. TagHolds k b d c e.mark u) x h.0 in
    let i : e.mark + 1 + b ≡ s + 1 + b = ap (λ u. first_of u) (sym g.1 ∙ q) in
    let j : e.mark ≡ s = omega arith in
    let m0 = m.0 in (
      (λ u. absurd (u x)),
      each_push (λ u. (u.tag ≡ InC → ⊥) → s < u.mark) es fresh
          (each_map (λ u. e.mark + 1 ≤ u.mark) (λ u. (u.tag ≡ InC → ⊥) → s < u.mark) (λ u v t. omega arith) es (rising_each (e.mark + 1) es r.1))
          (λ u. omega arith),
    )

-- The requirements of one term that a span refutes, by looking at them one after another.
use Rattle.std.proofs.Common.{◌≡◌, ◌↔◌, ◌⊎◌, ℕ, ◌+◌, ◌-◌, ◌<◌, ◌≤◌, Bool, true, false, cond, List}
use Rattle.std.proofs.Common.{length, Option, Some, None, slice_get, get_or, refl, sym, ◌∙◌, ap, subst, ⊎_elim, arith}
use Rattle.std.proofs.lemmas.Bool.{eq-eqb, eqb-true, ltb-false, cases_lt}
use Rattle.std.proofs.lemmas.List.Quantifiers.{position-Some}
use Rattle.std.proofs.lemmas.List.Sums.{fails_before_first}
use Rattle.std.proofs.lemmas.Option.{same_Some, slice_get_within, slice_get-get_or, get_or_from_slice_get}
use Rattle.std.specs.Prelude.{Contains, is_some, nat_eq, nat_lt}
use Rattle.std.specs.List.{position, position_or_len}
use Rattle.ts_base.specs.declared.ext.Ext.{Ext}
use Rattle.ts_base.specs.declared.ext.Ext.TheVariants.{NegInf}
use Rattle.ts_base.specs.declared.span.Span.{Span}
use Rattle.ts_base.specs.Spans.{Holds}
use Rattle.ts_model.specs.declared.model.Op.TheVariants.{Equal}
use Rattle.ts_model.specs.declared.model.Require.{Require}
use Rattle.ts_filter.specs.Excluded.{Refutes}
use Rattle.ts_filter.specs.TermDrops.{IsRefuting, RefutesSome, NoneFrom, IsFirstRefuting}
use Rattle.ts_filter.proofs.SoundLaws.{clash}

pub next_or_later : (a i : ℕ) → a < i → (i ≡ a + 1) ⊎ (a + 1 < i)
next_or_later a i l = grind arith

no_require : Require
no_require = record { term = 0; op = Equal; bound = NegInf }

module _ (rs : List Require) (term : ℕ) (s : Span) where
  -- the span refutes none of the first requirements
  abbrev pub NoneOf : ℕ → Type 0
  NoneOf at = (i : ℕ) → IsRefuting rs term s i → at < i

  abbrev is_own : Require → Bool
  is_own r = nat_eq r.term term

  own_at : (i : ℕ) → (h : IsRefuting rs term s i) → is_own (get_or rs (i - 1) h.require) ≡ true
  own_at i h = ap is_own (get_or_from_slice_get rs (i - 1) h.require h.require h.is.1) ∙ eq-eqb h.require.term term h.of_term

  -- none comes before the first requirement of the term
  pub none_before_first : (first : ℕ) → position is_own rs ≡ Some first → NoneOf first
  none_before_first first e i h =
      ⊎_elim (λ l. absurd (clash _ (own_at i h) ((position-Some is_own rs first h.require e).2 (i - 1) l)))
      (λ l. let some = h.is.0 in omega (arith, l, some)) (cases_lt (i - 1) first)

  -- where no requirement is of the term, none is refuted
  pub none_of_term : (i : ℕ) → position is_own rs ≡ None → IsRefuting rs term s i → ⊥
  none_of_term i e h = go (nat_lt (position_or_len is_own rs) (length rs)) refl e
    where
      inside : i - 1 < length rs
      inside = slice_get_within rs (i - 1) h.require h.is.1

      go : (t : Bool) → nat_lt (position_or_len is_own rs) (length rs) ≡ t → cond t (Some (position_or_len is_own rs)) None ≡ None → ⊥
      go true l f = absurd (let g : ◌≡◌ {A = Option ℕ} (Some (position_or_len is_own rs)) None = f in cc)
      go false l f =
          let all = ltb-false _ _ l in
          clash _ (own_at i h) (fails_before_first is_own rs (i - 1) h.require (omega (arith, all, inside)))

  -- a span without numbers refutes the first requirement of the term
  pub first_of_none : (first : ℕ) → position is_own rs ≡ Some first → ((v : Ext) → Holds s v → ⊥) → IsRefuting rs term s (first + 1)
  first_of_none first e none =
      let there = position-Some is_own rs first no_require e in let place : (first + 1) - 1 ≡ first = omega arith in
      record {
        require = get_or rs first no_require;
        is = (omega arith, ap (λ j. slice_get rs j) place ∙ slice_get-get_or rs first no_require there.0);
        of_term = eqb-true (get_or rs first no_require).term term there.1;
        refutes = λ v held. absurd (none v held);
      }

  at_place : (at i : ℕ) (r : Require) → slice_get rs at ≡ Some r → (h : IsRefuting rs term s i) → i ≡ at + 1 → h.require ≡ r
  at_place at i r e h same =
      let place : i - 1 ≡ at = omega (arith, same) in
      same_Some h.require r (sym h.is.1 ∙ (ap (λ j. slice_get rs j) place ∙ e))

  pub none_of_more : (at : ℕ) (d : Require) → NoneOf at → at < length rs →
      ((get_or rs at d).term ≡ term × Refutes (get_or rs at d).op (get_or rs at d).bound s → ⊥) → NoneOf (at + 1)
  none_of_more at d f l n i h =
      ⊎_elim
      (λ same. let is = at_place at i (get_or rs at d) (slice_get-get_or rs at d l) h same in
      absurd (n (subst (λ z. z.term ≡ term) is h.of_term, subst (λ z. Refutes z.op z.bound s) is h.refutes)))
      (λ later. later) (next_or_later at i (f i h))

  pub first_found : (at : ℕ) (d : Require) → NoneOf at → at < length rs →
      (get_or rs at d).term ≡ term × Refutes (get_or rs at d).op (get_or rs at d).bound s → IsFirstRefuting rs term s (Some (at + 1))
  first_found at d f l h =
      let place : (at + 1) - 1 ≡ at = omega arith in (
        record { require = get_or rs at d; is = (omega arith, ap (λ j. slice_get rs j) place ∙ slice_get-get_or rs at d l); of_term = h.0; refutes = h.1 },
        λ i g. let m = f i g in omega (arith, m),
      )

  -- whether the span refutes some requirement of the term
  pub some_told : (o : Option ℕ) (told : Bool) → told ≡ is_some o → IsFirstRefuting rs term s o → (told ≡ true) ↔ RefutesSome rs term s
  some_told None told e none = (λ so. absurd (clash told so e), λ h. absurd (none h.0 h.1))
  some_told (Some j) told e first = (λ so. (j, first.0), λ h. e)

  pub none_of_all : (at end : ℕ) → NoneOf at → NoneFrom rs term end → end ≤ at → IsFirstRefuting rs term s None
  none_of_all at end f behind l i h =
      let below = behind (i - 1) h.require h.is.1 h.of_term in
      let above = f i h in let first = h.is.0 in omega (arith, l, below, above, first)

  -- where the first requirement of the term is the last, it decides for all
  pub only_tells : (first end : ℕ) (d : Require) → position is_own rs ≡ Some first → NoneFrom rs term end → end ≤ first + 1 →
      Refutes (get_or rs first d).op (get_or rs first d).bound s ↔ RefutesSome rs term s
  only_tells first end d e behind last = (
    λ h. (
      first + 1,
      record {
        require = get_or rs first d;
        is = (omega arith, ap (λ j. slice_get rs j) place ∙ there);
        of_term = eqb-true (get_or rs first d).term term found.1;
        refutes = h;
      },
    ),
    λ h. subst (λ z. Refutes z.op z.bound s) (at_place first h.0 (get_or rs first d) there h.1 (same h)) h.1.refutes,
  )
    where
      found : (first < length rs) × (is_own (get_or rs first d) ≡ true)
      found = let f = position-Some is_own rs first d e in (f.0, f.1)

      there : slice_get rs first ≡ Some (get_or rs first d)
      there = slice_get-get_or rs first d found.0

      place : (first + 1) - 1 ≡ first
      place = omega arith

      same : (h : RefutesSome rs term s) → h.0 ≡ first + 1
      same h =
          let from = none_before_first first e h.0 h.1 in
          let to = behind (h.0 - 1) h.1.require h.1.is.1 h.1.of_term in
          omega (arith, from, to, last)

-- where the first one of the term is the last, it is the only one
pub only_there : (rs : List Require) (term first end : ℕ) (d : Require) → position (λ (q : Require). nat_eq q.term term) rs ≡ Some first →
    NoneFrom rs term end → end ≤ first + 1 → (r : Require) → Contains rs r → r.term ≡ term → r ≡ get_or rs first d
only_there rs term first end d e behind last r there of_term =
    let own : Require → Bool = λ (q : Require). nat_eq q.term term in
    let i = there.0 in let is : slice_get rs i ≡ Some r = slice_get-get_or rs i r there.1 ∙ ap Some there.2 in
    let to = behind i r is of_term in
    ⊎_elim
    (λ before. absurd (clash _ (ap own there.2 ∙ eq-eqb r.term term of_term) ((position-Some own rs first r e).2 i before)))
    (λ from. let same : first ≡ i = omega (arith, from, to, last) in
    sym (ap (λ j. get_or rs j d) same ∙ get_or_from_slice_get rs i r d is)) (cases_lt i first)

-- the requirements of the term stand before the place after the last one

pub none_from_end : (rs : List Require) (term : ℕ) → NoneFrom rs term (length rs)
none_from_end rs term i r e same = slice_get_within rs i r e

pub none_from_before : (rs : List Require) (term end : ℕ) (d : Require) → NoneFrom rs term end → ((get_or rs (end - 1) d).term ≡ term → ⊥) →
    NoneFrom rs term (end - 1)
none_from_before rs term end d f other i r e same =
    below end i (f i r e same) (λ last. other (ap (λ (x : Require). x.term) (ap (λ j. get_or rs j d) (sym last) ∙ get_or_from_slice_get rs i r d e) ∙ same))
  where
    below : (end i : ℕ) → i < end → (i ≡ end - 1 → ⊥) → i < end - 1
    below end i l n = grind (arith, l, n)

-- the first requirement of the term stands before the place after the last one
pub first_before : (rs : List Require) (term first end : ℕ) → position (λ r. nat_eq r.term term) rs ≡ Some first → NoneFrom rs term end → first < end
first_before rs term first end e behind =
    let there = position-Some (λ r. nat_eq r.term term) rs first no_require e in
    behind first (get_or rs first no_require) (slice_get-get_or rs first no_require there.0) (eqb-true (get_or rs first no_require).term term there.1)

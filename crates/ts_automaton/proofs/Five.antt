-- Five tests at once, one for each register, and five things of which each is there or not; so whether a hull is none.
use Rattle.std.proofs.Common.{◌≡◌, Bool, true, false, not, ◌&&◌, ◌||◌, Option, Some, None, refl, ap, subst, ◌∙◌}
use Rattle.std.specs.Cmp.Derive.{both_true}
use Rattle.ts_base.specs.declared.span.Span.{Span}
use Rattle.ts_base.specs.Spans.{has_some}
use Rattle.ts_automaton.specs.Registers.{EachOf, each, rests}
use Rattle.ts_automaton.specs.Typing.{each_is}
use Rattle.ts_automaton.specs.SpanRun.{none_hull, has_registers}
use Rattle.ts_automaton.specs.Lines.{all_five, extra}

pub five_parts : (a b c d e : Bool) → (a && b && c && d && e) ≡ true → (a ≡ true) × (b ≡ true) × (c ≡ true) × (d ≡ true) × (e ≡ true)
five_parts true true true true e h = (refl, refl, refl, refl, h)
five_parts true true true false e h = cc
five_parts true true false d e h = cc
five_parts true false c d e h = cc
five_parts false b c d e h = cc

pub five_true : (a b c d e : Bool) → a ≡ true → b ≡ true → c ≡ true → d ≡ true → e ≡ true → (a && b && c && d && e) ≡ true
five_true true true true true e h i j k l = l
five_true true true true false e h i j k l = cc
five_true true true false d e h i j k l = cc
five_true true false c d e h i j k l = cc
five_true false b c d e h i j k l = cc

-- no span of a hull that isn't none is none
abbrev pub AreSome : EachOf Span → Type 0
AreSome h = (has_some h.c ≡ true) × (has_some h.e ≡ true) × (has_some h.d ≡ true) × (has_some h.f ≡ true) × (has_some h.r ≡ true)

pub registers_parts : (h : EachOf Span) → has_registers h ≡ true → AreSome h
unfolding has_registers
registers_parts h e = five_parts (has_some h.c) (has_some h.e) (has_some h.d) (has_some h.f) (has_some h.r) e

pub some_registers : (h : EachOf Span) → AreSome h → has_registers h ≡ true
unfolding has_registers
some_registers h s = five_true (has_some h.c) (has_some h.e) (has_some h.d) (has_some h.f) (has_some h.r) s.0 s.1 s.2 s.3 s.4

pub none_registers : has_registers none_hull ≡ false
unfolding has_registers
none_registers = refl

any_not : (a b c d e : Bool) → (not a || not b || not c || not d || not e) ≡ not (a && b && c && d && e)
any_not true true true true e = refl
any_not true true true false e = refl
any_not true true false d e = refl
any_not true false c d e = refl
any_not false b c d e = refl

-- the tests of all spans of a hull
pub none_is : (h : EachOf Span) (u v w x y : Bool) → u ≡ not (has_some h.c) → v ≡ not (has_some h.e) → w ≡ not (has_some h.d) → x ≡ not (has_some h.f) →
    y ≡ not (has_some h.r) → (u || v || w || x || y) ≡ not (has_registers h)
unfolding has_registers
none_is h u v w x y p q r s t =
    ap (λ z. z || v || w || x || y) p
    ∙ ap (λ z. not (has_some h.c) || z || w || x || y) q
    ∙ ap (λ z. not (has_some h.c) || not (has_some h.e) || z || x || y) r
    ∙ ap (λ z. not (has_some h.c) || not (has_some h.e) || not (has_some h.d) || z || y) s
    ∙ ap (λ z. not (has_some h.c) || not (has_some h.e) || not (has_some h.d) || not (has_some h.f) || z) t
    ∙ any_not (has_some h.c) (has_some h.e) (has_some h.d) (has_some h.f) (has_some h.r)

module _ {A : Type 0} where
  abbrev pub AreAll : Option A → Option A → Option A → Option A → Option A → EachOf A → Type 0
  AreAll c e d f r a = (c ≡ Some a.c) × (e ≡ Some a.e) × (d ≡ Some a.d) × (f ≡ Some a.f) × (r ≡ Some a.r)

  pub all_parts : (c e d f r : Option A) (a : EachOf A) → all_five c e d f r ≡ Some a → AreAll c e d f r a
  all_parts None e d f r a h = cc
  all_parts (Some c) None d f r a h = cc
  all_parts (Some c) (Some e) None f r a h = cc
  all_parts (Some c) (Some e) (Some d) None r a h = cc
  all_parts (Some c) (Some e) (Some d) (Some f) None a h = cc
  all_parts (Some c) (Some e) (Some d) (Some f) (Some r) a h =
      let is : each c e d f r ≡ a = cc in
      subst (λ (x : EachOf A). AreAll (Some c) (Some e) (Some d) (Some f) (Some r) x) is (refl, refl, refl, refl, refl)

  pub all_again : (c e d f r : Option A) (a : EachOf A) → AreAll c e d f r a → all_five c e d f r ≡ Some a
  all_again c e d f r a h =
      ap (λ (o : Option A). all_five o e d f r) h.0
      ∙ ap (λ (o : Option A). all_five (Some a.c) o d f r) h.1
      ∙ ap (λ (o : Option A). all_five (Some a.c) (Some a.e) o f r) h.2
      ∙ ap (λ (o : Option A). all_five (Some a.c) (Some a.e) (Some a.d) o r) h.3
      ∙ ap (λ (o : Option A). all_five (Some a.c) (Some a.e) (Some a.d) (Some a.f) o) h.4

  -- what is read for each register passes a test, where what E and F are at rest passes it
  module _ (test is_rest : A → Bool) (rest : A) (good : test rest ≡ true) (at_rest : is_rest rest ≡ true) where
    abbrev Passes : Option A → Type 0
    Passes o = (x : A) → o ≡ Some x → test x ≡ true

    pub read_tests : (wide : Bool) (c e d f r : Option A) (a : EachOf A) → Passes c → Passes e → Passes d → Passes f → Passes r →
        all_five c (extra wide rest e) d (extra wide rest f) r ≡ Some a → (each_is test a && rests is_rest wide a) ≡ true
    read_tests false c e d f r a tc te td tf tr h =
        let p = all_parts c (Some rest) d (Some rest) r a h in
        let e_is : rest ≡ a.e = (let q = p.1 in cc) in
        let f_is : rest ≡ a.f = (let q = p.3 in cc) in
        let good_e = subst (λ (x : A). test x ≡ true) e_is good in
        let good_f = subst (λ (x : A). test x ≡ true) f_is good in
        let rest_e = subst (λ (x : A). is_rest x ≡ true) e_is at_rest in
        let rest_f = subst (λ (x : A). is_rest x ≡ true) f_is at_rest in
        both_true (five_true (test a.c) (test a.e) (test a.d) (test a.f) (test a.r) (tc a.c p.0) good_e (td a.d p.2) good_f (tr a.r p.4))
        (both_true rest_e rest_f)
    read_tests true c e d f r a tc te td tf tr h =
        let p = all_parts c e d f r a h in
        both_true (five_true (test a.c) (test a.e) (test a.d) (test a.f) (test a.r) (tc a.c p.0) (te a.e p.1) (td a.d p.2) (tf a.f p.3) (tr a.r p.4)) refl

-- What a question finds in two spans alike, and the questions for which one end of a span is enough.
use Rattle.std.proofs.Common.{◌≡◌, ◌↔◌, ℕ, ℤ, pos, ◌≤ℤ◌, ◌<ℤ◌, int_le, Bool, true, false, cond, not, refl, sym, ap, subst, ◌∙◌, arith}
use Rattle.std.specs.Prelude.{IsTrue}
use Rattle.std.proofs.lemmas.Int.{ints}
use Rattle.ts_base.specs.declared.ext.Ext.{Ext}
use Rattle.ts_base.specs.declared.ext.Ext.TheVariants.{NegInf, Int, PosInf}
use Rattle.ts_base.specs.declared.goal.Goal.{Goal}
use Rattle.ts_base.specs.declared.goal.Goal.TheVariants.{Maximise, Minimise}
use Rattle.ts_base.specs.declared.span.Span.{Span}
use Rattle.ts_base.specs.Numbers.{ext_le, ext_max, ext_min}
use Rattle.ts_base.specs.Spans.{Holds, has_some, none_span, one_span, span_hull}
use Rattle.ts_base.proofs.Order.{le_refl, le_trans, le_antisym}
use Rattle.ts_base.proofs.SpanLaws.{hull_left, hull_right, none_empty, none_held, one_some}
use Rattle.ts_automaton.specs.AutomatonRun.{under_mark}
use Rattle.ts_automaton.specs.SpanRun.{marked_span}
use Rattle.ts_automaton.specs.declared.state.Mark.{Mark}
use Rattle.ts_automaton.specs.declared.state.Mark.TheVariants.{Same, Zero, Cells}
use Rattle.ts_hull.specs.Sealed.{least_span, span_from}
use Rattle.ts_hull.proofs.SpanHulls.{both_hull, hull_both}
use Rattle.ts_sweep.specs.Sides.{Sides, BothEnds, UpperEnds, LowerEnds, seen}
use Rattle.ts_sweep.proofs.SeenLaws.{some_seen}
use Rattle.ts_model.specs.declared.model.Op.{Op}
use Rattle.ts_model.specs.declared.model.Op.TheVariants.{AtMost, AtLeast, Below, Above}
use Rattle.ts_model.specs.Compares.{compares}
use Rattle.ts_filter.specs.declared.bar.Bar.{Bar}
use Rattle.ts_filter.specs.declared.bar.Bar.TheVariants.{Better, AsGood}
use Rattle.ts_filter.specs.declared.question.Question.{Question}
use Rattle.ts_filter.specs.declared.question.Question.TheVariants.{Compares, MeetsEach, Counts, Ranks}
use Rattle.ts_filter.specs.Alike.{AreAlike, IsServed, MarkKeeps}
use Rattle.ts_filter.specs.Ends.{best_end}
use Rattle.ts_filter.specs.Excluded.{Cuts, Refutes, counts}

top_of : (a : Ext) → IsTrue (ext_le a PosInf)
top_of NegInf = refl
top_of (Int x) = refl
top_of PosInf = refl

-- ends that tell of all numbers between

-- no number of the span meets the test
abbrev pub NoneMeets : (Ext → Bool) → Span → Type 0
NoneMeets test s = (v : Ext) → Holds s v → test v ≡ false

-- where neither of two numbers meets it, none between them does
abbrev pub IsOneSided : (Ext → Bool) → Type 0
IsOneSided test = (low v high : Ext) → IsTrue (ext_le low v) → IsTrue (ext_le v high) → test low ≡ false → test high ≡ false → test v ≡ false

-- a mark puts no number in the place of an infinity that meets it otherwise
abbrev pub IsKeptBy : Mark → ℕ → (Ext → Bool) → Type 0
IsKeptBy mark n test = (e : Ext) → test (under_mark mark n e) ≡ test e

-- what is seen of a span decides the test
abbrev pub IsSeenBy : Sides → (Ext → Bool) → Type 0
IsSeenBy ends test = (s : Span) → NoneMeets test (seen ends s) ↔ NoneMeets test s

both_so : {P Q R S : Type 0} → P ↔ R → Q ↔ S → (P × Q) ↔ (R × S)
both_so p q = (λ h. (p.0 h.0, q.0 h.1), λ h. (p.1 h.0, q.1 h.1))

then_so : {P Q R : Type 0} → P ↔ Q → Q ↔ R → P ↔ R
then_so p q = (λ h. q.0 (p.0 h), λ h. p.1 (q.1 h))

pub back_so : {P Q : Type 0} → P ↔ Q → Q ↔ P
back_so p = (p.1, p.0)

module _ (test : Ext → Bool) where
  none_of_none : (s : Span) → has_some s ≡ false → NoneMeets test s
  none_of_none s none v h = absurd ((none_held s).0 none v h)

  min_fails : (a b : Ext) → test a ≡ false → test b ≡ false → test (ext_min a b) ≡ false
  min_fails a b p q = elim (ext_le a b) as (λ t. test (cond t a b) ≡ false) [ true ↦ p | false ↦ q ]

  max_fails : (a b : Ext) → test a ≡ false → test b ≡ false → test (ext_max a b) ≡ false
  max_fails a b p q = elim (ext_le a b) as (λ t. test (cond t b a) ≡ false) [ true ↦ q | false ↦ p ]

  one_fails : (e : Ext) → NoneMeets test (one_span e) ↔ (test e ≡ false)
  one_fails e = (λ h. h e (le_refl e, le_refl e), λ h v held. subst (λ x. test x ≡ false) (le_antisym e v held.0 held.1) h)

  module _ (sided : IsOneSided test) where
    by_ends : (s : Span) → has_some s ≡ true → NoneMeets test s ↔ ((test s.lo ≡ false) × (test s.hi ≡ false))
    by_ends s some = (
      λ h. (h s.lo (le_refl s.lo, some), h s.hi (some, le_refl s.hi)),
      λ h v held. sided s.lo v s.hi held.0 held.1 h.0 h.1,
    )

    hull_fails : (s t : Span) → NoneMeets test s → NoneMeets test t → NoneMeets test (span_hull s t)
    hull_fails s t p q v = go (has_some s) (has_some t) refl refl
      where
        go : (a b : Bool) → has_some s ≡ a → has_some t ≡ b →
            Holds (cond a (cond b (record { lo = ext_min s.lo t.lo; hi = ext_max s.hi t.hi }) s) (cond b t none_span)) v → test v ≡ false
        go true true e f held =
            sided (ext_min s.lo t.lo) v (ext_max s.hi t.hi) held.0 held.1
            (min_fails s.lo t.lo (p s.lo (le_refl s.lo, e)) (q t.lo (le_refl t.lo, f)))
            (max_fails s.hi t.hi (p s.hi (e, le_refl s.hi)) (q t.hi (f, le_refl t.hi)))
        go true false e f held = p v held
        go false true e f held = q v held
        go false false e f held = absurd (none_empty v held)

    -- a hull splits
    pub splits : (s t : Span) → NoneMeets test (span_hull s t) ↔ (NoneMeets test s × NoneMeets test t)
    splits s t = (
      λ h. (λ v held. h v (hull_left s t v held), λ v held. h v (hull_right s t v held)),
      λ h. hull_fails s t h.0 h.1,
    )

    module _ (mark : Mark) (n : ℕ) (kept : IsKeptBy mark n test) where
      marked_end : (e : Ext) → NoneMeets test (one_span (under_mark mark n e)) ↔ (test e ≡ false)
      marked_end e = then_so (one_fails (under_mark mark n e)) (λ h. sym (kept e) ∙ h, λ h. kept e ∙ h)

      marked_so : (s : Span) → NoneMeets test (marked_span mark n s) ↔ NoneMeets test s
      marked_so s = go (has_some s) refl
        where
          go : (t : Bool) → has_some s ≡ t →
              NoneMeets test (cond t (span_hull (one_span (under_mark mark n s.lo)) (one_span (under_mark mark n s.hi))) none_span) ↔ NoneMeets test s
          go true some =
              then_so (splits (one_span (under_mark mark n s.lo)) (one_span (under_mark mark n s.hi)))
              (then_so (both_so (marked_end s.lo) (marked_end s.hi)) (back_so (by_ends s some)))
          go false none = (λ h. none_of_none s none, λ h. none_of_none none_span refl)

      pub served_so : (ends : Sides) → IsSeenBy ends test → (s u : Span) →
          NoneMeets test (span_hull u (marked_span mark n (seen ends s))) ↔ NoneMeets test (span_hull u (marked_span mark n s))
      served_so ends told s u =
          let one = then_so (marked_so (seen ends s)) (then_so (told s) (back_so (marked_so s))) in
          then_so (splits u (marked_span mark n (seen ends s)))
          (then_so (both_so (λ h. h, λ h. h) one) (back_so (splits u (marked_span mark n s))))

  -- the upper end decides a test that goes on upwards

  abbrev pub GoesUp : Type 0
  GoesUp = (v w : Ext) → IsTrue (ext_le v w) → test w ≡ false → test v ≡ false

  abbrev pub GoesDown : Type 0
  GoesDown = (v w : Ext) → IsTrue (ext_le v w) → test v ≡ false → test w ≡ false

  up_sided : GoesUp → IsOneSided test
  up_sided up low v high p q e f = up v high q f

  down_sided : GoesDown → IsOneSided test
  down_sided down low v high p q e f = down low v p e

  up_seen : GoesUp → IsSeenBy UpperEnds test
  up_seen up s = go (has_some s) refl
    where
      go : (t : Bool) → has_some s ≡ t → NoneMeets test (cond t (span_from NegInf s.hi) none_span) ↔ NoneMeets test s
      go true some = (
        λ h v held. h v (refl, held.1),
        λ h v held. up v s.hi held.1 (h s.hi (some, le_refl s.hi)),
      )
      go false none = (λ h. none_of_none s none, λ h. none_of_none none_span refl)

  down_seen : GoesDown → IsSeenBy LowerEnds test
  down_seen down s = go (has_some s) refl
    where
      go : (t : Bool) → has_some s ≡ t → NoneMeets test (cond t (span_from s.lo PosInf) none_span) ↔ NoneMeets test s
      go true some = (
        λ h v held. h v (held.0, top_of v),
        λ h v held. down s.lo v held.0 (h s.lo (le_refl s.lo, some)),
      )
      go false none = (λ h. none_of_none s none, λ h. none_of_none none_span refl)

-- comparisons

not_so : (t : Bool) → not t ≡ false → t ≡ true
not_so true e = refl
not_so false e = sym e

false_so : (t u : Bool) → (t ≡ true → u ≡ true) → u ≡ false → t ≡ false
false_so true u f e = sym (f refl) ∙ e
false_so false u f e = refl

not_false_so : (t u : Bool) → (t ≡ true → u ≡ true) → not t ≡ false → not u ≡ false
not_false_so t u f e = ap not (f (not_so t e))

at_least_up : (b : Ext) → GoesUp (compares AtLeast b)
at_least_up b v w le = false_so (ext_le b v) (ext_le b w) (λ h. le_trans b v w h le)

above_up : (b : Ext) → GoesUp (compares Above b)
above_up b v w le = not_false_so (ext_le w b) (ext_le v b) (λ h. le_trans v w b le h)

at_most_down : (b : Ext) → GoesDown (compares AtMost b)
at_most_down b v w le = false_so (ext_le w b) (ext_le v b) (λ h. le_trans v w b le h)

below_down : (b : Ext) → GoesDown (compares Below b)
below_down b v w le = not_false_so (ext_le b v) (ext_le b w) (λ h. le_trans b v w h le)

-- one end is enough for a comparison that the mark keeps

module _ (b : Ext) (mark : Mark) (n : ℕ) where
  pub serves_at_least : IsKeptBy mark n (compares AtLeast b) → IsServed UpperEnds mark n (Compares AtLeast b)
  serves_at_least kept s u =
      let t = compares AtLeast b in let up = at_least_up b in served_so t (up_sided t up) mark n kept UpperEnds (up_seen t up) s u

  pub serves_above : IsKeptBy mark n (compares Above b) → IsServed UpperEnds mark n (Compares Above b)
  serves_above kept s u =
      let t = compares Above b in let up = above_up b in served_so t (up_sided t up) mark n kept UpperEnds (up_seen t up) s u

  pub serves_at_most : IsKeptBy mark n (compares AtMost b) → IsServed LowerEnds mark n (Compares AtMost b)
  serves_at_most kept s u =
      let t = compares AtMost b in let down = at_most_down b in served_so t (down_sided t down) mark n kept LowerEnds (down_seen t down) s u

  pub serves_below : IsKeptBy mark n (compares Below b) → IsServed LowerEnds mark n (Compares Below b)
  serves_below kept s u =
      let t = compares Below b in let down = below_down b in served_so t (down_sided t down) mark n kept LowerEnds (down_seen t down) s u

  -- what a mark keeps of a comparison, it keeps of the opposite one
  pub kept_below : IsKeptBy mark n (compares AtLeast b) → IsKeptBy mark n (compares Below b)
  kept_below kept e = ap not (kept e)

  pub kept_at_most : IsKeptBy mark n (compares Above b) → IsKeptBy mark n (compares AtMost b)
  kept_at_most kept e = by_not (ext_le (under_mark mark n e) b) (ext_le e b) (kept e)
    where
      by_not : (t u : Bool) → not t ≡ not u → t ≡ u
      by_not true true f = refl
      by_not true false f = sym f
      by_not false true f = sym f
      by_not false false f = refl

-- a number that counts meets a comparison with that of the bar

counts_so : (op : Op) (goal : Goal) (w : Ext) (bar : Bar) → ((v : Ext) → counts goal bar v ≡ compares op w v) →
    (s : Span) → Refutes op w s ↔ Cuts goal bar s
counts_so op goal w bar same s = (λ h v held. same v ∙ h v held, λ h v held. sym (same v) ∙ h v held)

not_not : (t : Bool) → not (not t) ≡ t
not_not true = refl
not_not false = refl

served_to_count : (ends : Sides) (mark : Mark) (n : ℕ) (op : Op) (goal : Goal) (w : Ext) (bar : Bar) →
    ((v : Ext) → counts goal bar v ≡ compares op w v) → IsServed ends mark n (Compares op w) → IsServed ends mark n (Counts goal bar)
served_to_count ends mark n op goal w bar same served s u =
    let told = counts_so op goal w bar same in
    then_so (back_so (told (span_hull u (marked_span mark n (seen ends s)))))
    (then_so (served s u) (told (span_hull u (marked_span mark n s))))

module _ (ends : Sides) (mark : Mark) (n : ℕ) (w : Ext) where
  pub serves_greater : IsServed ends mark n (Compares Above w) → IsServed ends mark n (Counts Maximise (Better w))
  serves_greater = served_to_count ends mark n Above Maximise w (Better w) (λ v. refl)

  pub serves_as_great : IsServed ends mark n (Compares AtLeast w) → IsServed ends mark n (Counts Maximise (AsGood w))
  serves_as_great = served_to_count ends mark n AtLeast Maximise w (AsGood w) (λ v. not_not (ext_le w v))

  pub serves_less : IsServed ends mark n (Compares Below w) → IsServed ends mark n (Counts Minimise (Better w))
  serves_less = served_to_count ends mark n Below Minimise w (Better w) (λ v. refl)

  pub serves_as_little : IsServed ends mark n (Compares AtMost w) → IsServed ends mark n (Counts Minimise (AsGood w))
  serves_as_little = served_to_count ends mark n AtMost Minimise w (AsGood w) (λ v. not_not (ext_le v w))

-- both ends are enough for every question

pub alike_self : (asked : Question) (s : Span) → AreAlike asked s s
alike_self (Compares op bound) s = (λ h. h, λ h. h)
alike_self (MeetsEach own) s = λ r there of_term. (λ h. h, λ h. h)
alike_self (Counts goal bar) s = (λ h. h, λ h. h)
alike_self (Ranks goal) s = refl

-- both ends are enough for any question
pub both_serve : (ends : Sides) (mark : Mark) (n : ℕ) (asked : Question) → ends ≡ BothEnds → IsServed ends mark n asked
both_serve ends mark n asked is =
    subst (λ z. IsServed z mark n asked) (sym is) (λ s u. alike_self asked (span_hull u (marked_span mark n s)))

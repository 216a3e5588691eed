-- The invariant of the trace goes over one letter where the step meets its checks, and holds of the empty word.
use Rattle.std.specs.Prelude.{◌≡◌, ℕ, ◌+◌, ◌-◌, Bool, true, List, [], ◌∷◌, ◌++◌, length, map, None, Some, refl}
use Rattle.std.proofs.Common.{sym, ◌∙◌, ap, subst, arith, length-append}
use Rattle.std.proofs.lemmas.Option.{none-some}
use Rattle.std.proofs.lemmas.List.{map-append}
use Rattle.std.specs.Option.{option_to_list}
use Rattle.ts_base.specs.declared.letter.Letter.{Letter}
use Rattle.ts_base.specs.declared.range.Range.{Range}
use Rattle.ts_base.specs.declared.range.Kind.{Kind}
use Rattle.ts_base.specs.declared.range.Kind.TheVariants.{Idle, Held}
use Rattle.ts_regex.specs.Shape.{Shape}
use Rattle.ts_regex.specs.Language.{InLanguage}
use Rattle.ts_transducer.specs.declared.row.Phase.{Phase}
use Rattle.ts_transducer.specs.declared.row.Phase.TheVariants.{OutA, Found, Inside}
use Rattle.ts_pattern.specs.declared.plan.Tag.{Tag}
use Rattle.ts_pattern.specs.declared.plan.Tag.TheVariants.{InD, InC}
use Rattle.ts_transducer.specs.Decode.{begins, start_after, held_after}
use Rattle.ts_pattern.specs.EachOf.{First}
use Rattle.std.specs.List.{AllByRecursion}
use Rattle.ts_pattern.specs.OccurrenceList.{Place, e_range}
use Rattle.ts_pattern.specs.Entries.{Entry, Residuals, survivors}
use Rattle.ts_pattern.specs.Closed.{tag_after, first_tag, no_ind, retag_entries, with_start, is_find}
use Rattle.ts_pattern.proofs.CallerLemmas.{AreRight, each_push, one_left, AreLive, live_appended, each_survivor, live_step}
use Rattle.ts_transducer.proofs.CallerLemmas.{IsFree, Typed, free_range, kinds_step}
use Rattle.ts_validate.proofs.Keeps.{held_range, first_mark, free_pair, held_pair, pending_only, tag_step, first_tag_holds, TagHolds}
use Rattle.ts_validate.proofs.Traces.{MeetsChecks, After, Strictly, Trace, IsTraced, trace_step, each_retag, live_retag, no_ind_one, is_none, begins_at, early_before, strictly_after, below_first, early_find, early_release, held_before}
use Rattle.ts_validate.proofs.OneMore.{found_step, ranges_step, emitted_step, early_step, same_start, listed_held}

found_free : (f : Phase) (k k' : Kind) → Typed k f k' → f ≡ Found → IsFree k
found_free f k k' t q = (subst (λ z. Typed k z k') q t).0

inside_held : (f : Phase) (k k' : Kind) → Typed k f k' → f ≡ Inside → (k ≡ Held) × (k' ≡ Held)
inside_held f k k' t q = subst (λ z. Typed k z k') q t

out_a_held : (f : Phase) (k k' : Kind) → Typed k f k' → f ≡ OutA → k ≡ Held
out_a_held f k k' t q = (subst (λ z. Typed k z k') q t).0

-- the law's step: the invariant goes over one letter
pub traced_step : (t : Residuals Shape) → AreRight t → (p p0 : Shape) → ((v : List Letter) → InLanguage p0 v → InLanguage p v) →
    ((v : List Letter) → InLanguage p v → InLanguage p0 v) →
    (a b : ℕ) (w : List Letter) (l : Letter) (f : Phase) (k' : Kind) (x : Trace) → Typed x.state f k' →
    MeetsChecks f k' (no_ind (with_start (length w) p0 b x.live)) (survivors t l (with_start (length w) p0 b x.live)) →
    IsTraced p a b w x → IsTraced p a b (w ++ l ∷ []) (trace_step t p0 a b (length w) l f k' x)
traced_step t r p p0 there back a b w l f k' x ty ch h =
    let before : List (Entry ℕ Shape Tag) = with_start (length w) p0 b x.live in
    let free : Bool = no_ind before in
    let sv : List (Entry ℕ Shape Tag) = survivors t l before in
    let more : length (w ++ l ∷ []) ≡ length w + 1 = length-append w (l ∷ []) in
    let lived : AreLive p w (length w + 1) before = live_appended p p0 there back w (first_tag b) x.live h.live in
    let left : AreLive p (w ++ l ∷ []) (length (w ++ l ∷ [])) sv = live_step t r p w l before lived in
    let tags_before : AllByRecursion (λ e. TagHolds (length w) b x.d x.c e.mark e.tag) before =
    each_push (λ e. TagHolds (length w) b x.d x.c e.mark e.tag) x.live (record { mark = length w; residual = p0; tag = first_tag b }) h.tags
    (first_tag_holds (length w) b x.d x.c) in
    let tags_left : AllByRecursion (λ e. TagHolds (length w) b x.d x.c e.mark e.tag) sv =
    each_survivor t l (λ e. TagHolds (length w) b x.d x.c e.mark e.tag) (λ e. TagHolds (length w) b x.d x.c e.mark e.tag) (λ e q. q) before tags_before in
    let unset : free ≡ true → x.d ≡ None = (λ q. is_none x.d
    (λ y e. no_ind_one before q
    (one_left (λ e. e.tag ≡ InD) x.live (record { mark = length w; residual = p0; tag = first_tag b } ∷ []) (h.pending y e)))) in
    let unheld : f ≡ Found → x.c ≡ None = (λ q. free_range x.state x.d x.c (found_free f x.state k' ty q) h.kinds) in
    let unpaired : IsFree x.state → x.pair ≡ None = free_pair a b x.state x.d x.c x.pair h.kinds h.ranges in
    let paired : x.state ≡ Held → (y : Place) × (x.pair ≡ Some y) = held_pair a b x.state x.d x.c x.pair h.kinds h.ranges in
    let strict : AllByRecursion (λ y. AllByRecursion (Strictly y.start) sv) x.done = strictly_after t r l before x.done (early_before p p0 a b w x h) in
    let begin : is_find f ≡ true → begins (length w + 1) x.d ≡ first_mark sv + 1 + b =
    (λ q. begins_at (length w) b x.d x.c free sv unset tags_left (ch.begin q)) in
    let same : f ≡ Inside → (y : Place) → x.pair ≡ Some y → first_mark sv ≡ y.start =
    (λ q y e. same_start (length w) a b x.d x.c free y sv (h.ranges ∙ ap (λ z. held_range a b z) e) tags_left
    (subst (λ z. First (λ e. e.tag ≡ InC) (retag_entries z free sv)) q (ch.holds (inside_held f x.state k' ty q).1))) in
    record {
      kinds = kinds_step f a (length w + 1) x.state k' x.d x.c ty h.kinds;
      live = live_retag f free p (w ++ l ∷ []) (length (w ++ l ∷ [])) sv left;
      tags = each_retag f free (λ e. TagHolds (length w) b x.d x.c e.mark e.tag)
          (λ e. TagHolds (length (w ++ l ∷ [])) b (start_after f (length w + 1) x.d) (held_after f a (length w + 1) x.d x.c) e.mark e.tag)
          (λ e q. subst (λ z. TagHolds z b (start_after f (length w + 1) x.d) (held_after f a (length w + 1) x.d x.c) e.mark (tag_after f free e.tag))
          (sym more) (tag_step f free (length w) b a x.d x.c e.mark e.tag unset unheld q)) sv tags_left;
      pending = λ y q. ch.pends (pending_only f x.state k' (length w + 1) x.d x.c y ty h.kinds q);
      first_held = λ q. ch.holds q;
      early = early_step (length w + 1) f free sv x.done x.pair strict
          (λ q. early_find f free sv left.rising (ch.ends q))
          (λ q.
          let y = paired (out_a_held f x.state k' ty q) in
          subst (λ z. AllByRecursion (λ y. AllByRecursion (After y.start) (retag_entries f free sv)) (option_to_list z)) (sym y.1) (
            early_release t f free l y.0.start before
                (held_before (length w) b x.d x.c y.0.start (y.0.end + 1 - a) x.live (record { mark = length w; residual = p0; tag = first_tag b })
                (h.ranges ∙ ap (λ z. held_range a b z) y.1) h.live.rising h.live.below h.tags (h.first_held (out_a_held f x.state k' ty q)) refl)
                (ch.leaves q),
            tt,
          ));
      ranges = ranges_step a b (length w + 1) f x.state k' x.d x.c sv x.pair ty paired h.ranges begin same;
      emitted = emitted_step a b (length w + 1) f x.d x.c sv x.done x.pair x.emitted h.ranges begin h.emitted;
      places = found_step p w l f x.state k' sv x.done x.pair ty unpaired paired left (λ q. ch.first (ch.some q)) ch.nil
          (λ q. below_first x.done sv strict (ch.first (ch.some q))) same h.places;
    }

abbrev pub no_trace : Trace
no_trace = record { state = Idle; d = None; c = None; emitted = []; live = []; done = []; pair = None }

pub traced_start : (p : Shape) (a b : ℕ) → IsTraced p a b [] no_trace
traced_start p a b =
    record {
      kinds = (refl, refl);
      live = record { rising = tt; below = tt; follows = tt; covered = λ s v q x. absurd (omega (arith, q)) };
      tags = tt;
      pending = λ x q. absurd (none-some x q);
      first_held = λ q. absurd (idle_held q);
      early = tt;
      ranges = refl;
      emitted = refl;
      places = record { rising = tt; each = tt; all = λ s e o. let i = o.is.some in let j = o.is.inside in omega arith };
    }
  where
    idle_held : Idle ≡ Held → ⊥
    idle_held q = subst (λ z. IsFree z) q tt

-- what Decode gives at the end
abbrev pub decoded : Trace → List Range
decoded x = x.emitted ++ option_to_list x.c

pub decoded_is : (p : Shape) (a b : ℕ) (w : List Letter) (x : Trace) → IsTraced p a b w x →
    decoded x ≡ map (λ x. e_range b a x) (x.done ++ option_to_list x.pair)
decoded_is p a b w x h =
    ap (λ z. z ++ option_to_list x.c) h.emitted
    ∙ ap (λ z. map (λ x. e_range b a x) x.done ++ z) (ap (λ z. option_to_list z) h.ranges ∙ listed_held a b x.pair)
    ∙ sym (map-append (e_range b a) x.done (option_to_list x.pair))

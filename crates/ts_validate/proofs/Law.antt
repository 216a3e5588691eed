-- Closed implies Valid: the trace of each signature stands at a reached configuration of the plan, and so each of its
-- steps meets the checks.
use Rattle.std.specs.Prelude.{◌≡◌, ℕ, ◌+◌, Bool, true, List, [], ◌∷◌, ◌++◌, length, map, refl}
use Rattle.std.proofs.Common.{sym, ◌∙◌, ap, subst, arith, length-append, append-nil, append_assoc}
use Rattle.std.proofs.lemmas.Bool.{and_parts}
use Rattle.std.proofs.lemmas.List.{map-append}
use Rattle.std.specs.Option.{option_to_list}
use Rattle.ts_base.specs.declared.letter.Letter.{Letter}
use Rattle.ts_base.specs.declared.range.Kind.{Kind}
use Rattle.ts_regex.specs.Shape.{Shape}
use Rattle.ts_regex.specs.NormalForm.{normal_form}
use Rattle.ts_regex.proofs.Laws.{normal_law}
use Rattle.ts_transducer.specs.declared.row.Phase.{Phase}
use Rattle.ts_transducer.specs.declared.row.Row.{Row}
use Rattle.ts_transducer.specs.Typing.{is_typed}
use Rattle.ts_transducer.specs.Decode.{emitted_at, row_at, arrow_on, decode_from, decode}
use Rattle.ts_transducer.proofs.CallerLemmas.{Typed, move_typed, start_idle}
use Rattle.ts_pattern.specs.declared.plan.Tag.{Tag}
use Rattle.std.specs.List.{AllByRecursion}
use Rattle.ts_pattern.specs.Entries.{Entry, shapes, survivors}
use Rattle.ts_pattern.specs.OccurrenceList.{AreRanges}
use Rattle.ts_pattern.specs.Closed.{PlainConfiguration, first_tag, no_ind, retag_entries, with_start, step_of, entries_agree, step_listed, FromStart, OneStepOn, IsReached, IsClosed}
use Rattle.ts_pattern.specs.Plans.{PlainPlan, subject}
use Rattle.ts_pattern.proofs.CallerLemmas.{ranges_are, are_ranges, shapes_right, renamed, NextAgrees, WordsAgree, survivors_renamed, retag_renamed, no_ind_renamed, agree_renamed}
use Rattle.ts_pattern.specs.Valid.{IsValid}
use Rattle.ts_validate.proofs.Traces.{Trace, IsTraced, trace_step}
use Rattle.ts_validate.proofs.TraceStep.{traced_step, traced_start, no_trace, decoded, decoded_is}
use Rattle.ts_validate.proofs.Checks.{checks_met}

abbrev phase_at : List Row → ℕ → Letter → Phase
phase_at rows q l = (arrow_on l (row_at rows q)).phase

abbrev next_at : List Row → ℕ → Letter → ℕ
next_at rows q l = (arrow_on l (row_at rows q)).next

abbrev kind_at : List Row → ℕ → Kind
kind_at rows q = (row_at rows q).kind

-- without the starts

abbrev bare_entry : Entry ℕ Shape Tag → Entry (Unit {0}) Shape Tag
bare_entry e = renamed (λ (x : ℕ). tt) (λ r. r) e

abbrev bare : List (Entry ℕ Shape Tag) → List (Entry (Unit {0}) Shape Tag)
bare es = map (λ e. bare_entry e) es

bare_survivors : (l : Letter) (es : List (Entry ℕ Shape Tag)) → bare (survivors shapes l es) ≡ survivors shapes l (bare es)
bare_survivors l es = survivors_renamed shapes shapes (λ (x : ℕ). tt) (λ r. r) (λ r. Unit {0}) (λ r s p q. refl) l es (agrees es)
  where
    agrees : (es : List (Entry ℕ Shape Tag)) → AllByRecursion (λ e. NextAgrees shapes shapes (λ r. r) (λ r. Unit {0}) l e.residual) es
    agrees [] = tt
    agrees (e ∷ es) = (record { has = refl; value = λ q. refl; left = λ q. tt }, agrees es)

bare_agree : (f : Phase) (k : Kind) (free : Bool) (es : List (Entry ℕ Shape Tag)) → entries_agree shapes f k free es ≡ entries_agree shapes f k free (bare es)
bare_agree f k free es = agree_renamed shapes shapes (λ (x : ℕ). tt) (λ r. r) f k free es (words es)
  where
    words : (es : List (Entry ℕ Shape Tag)) → AllByRecursion (λ e. WordsAgree shapes shapes (λ r. r) e.residual) es
    words [] = tt
    words (e ∷ es) = (record { nullable = refl; longer = refl }, words es)

bare_appended : (k : ℕ) (p : Shape) (b : ℕ) (es : List (Entry ℕ Shape Tag)) → bare (with_start k p b es) ≡ with_start tt p b (bare es)
bare_appended k p b es = map-append (λ e. bare_entry e) es (record { mark = k; residual = p; tag = first_tag b } ∷ [])

bare_free : (k : ℕ) (p : Shape) (b : ℕ) (es : List (Entry ℕ Shape Tag)) → no_ind (with_start k p b es) ≡ no_ind (with_start tt p b (bare es))
bare_free k p b es = sym (no_ind_renamed (λ (x : ℕ). tt) (λ (r : Shape). r) (with_start k p b es)) ∙ ap (λ z. no_ind z) (bare_appended k p b es)

bare_kept : (k : ℕ) (p : Shape) (b : ℕ) (l : Letter) (es : List (Entry ℕ Shape Tag)) →
    bare (survivors shapes l (with_start k p b es)) ≡ survivors shapes l (with_start tt p b (bare es))
bare_kept k p b l es = bare_survivors l (with_start k p b es) ∙ ap (λ z. survivors shapes l z) (bare_appended k p b es)

-- the entries of the trace make the step of the plan
bare_step : (k : ℕ) (p : Shape) (b : ℕ) (l : Letter) (f : Phase) (es : List (Entry ℕ Shape Tag)) →
    bare (retag_entries f (no_ind (with_start k p b es)) (survivors shapes l (with_start k p b es)))
    ≡ retag_entries f (no_ind (with_start tt p b (bare es))) (survivors shapes l (with_start tt p b (bare es)))
bare_step k p b l f es =
    retag_renamed (λ (x : ℕ). tt) (λ (r : Shape). r) f (no_ind (with_start k p b es)) (survivors shapes l (with_start k p b es))
    ∙ ap (λ z. retag_entries f z (bare (survivors shapes l (with_start k p b es)))) (bare_free k p b es)
    ∙ ap (λ z. retag_entries f (no_ind (with_start tt p b (bare es))) z) (bare_kept k p b l es)

-- and meet the plan's checks
agree_traced : (k : ℕ) (p : Shape) (b : ℕ) (l : Letter) (f : Phase) (k' : Kind) (es : List (Entry ℕ Shape Tag)) →
    entries_agree shapes f k' (no_ind (with_start tt p b (bare es))) (survivors shapes l (with_start tt p b (bare es))) ≡ true →
    entries_agree shapes f k' (no_ind (with_start k p b es)) (survivors shapes l (with_start k p b es)) ≡ true
agree_traced k p b l f k' es h =
    bare_agree f k' (no_ind (with_start k p b es)) (survivors shapes l (with_start k p b es))
    ∙ ap (λ z. entries_agree shapes f k' z (bare (survivors shapes l (with_start k p b es)))) (bare_free k p b es)
    ∙ ap (λ z. entries_agree shapes f k' (no_ind (with_start tt p b (bare es))) z) (bare_kept k p b l es)
    ∙ h

-- the run of the trace over the signs, from the state q after k signs
abbrev run : List Row → Shape → ℕ → ℕ → ℕ → ℕ → Trace → List Letter → Trace
run rows p0 a b k q x [] = x
run rows p0 a b k q x (l ∷ ls) = run rows p0 a b (k + 1) (next_at rows q l)
    (trace_step shapes p0 a b k l (phase_at rows q l) (kind_at rows (next_at rows q l)) x) ls

run_decodes : (rows : List Row) (p0 : Shape) (a b k q : ℕ) (x : Trace) (ls : List Letter) →
    decoded (run rows p0 a b k q x ls) ≡ x.emitted ++ decode_from rows a k q x.d x.c ls
run_decodes rows p0 a b k q x [] = refl
run_decodes rows p0 a b k q x (l ∷ ls) =
    let y : Trace = trace_step shapes p0 a b k l (phase_at rows q l) (kind_at rows (next_at rows q l)) x in
    run_decodes rows p0 a b (k + 1) (next_at rows q l) y ls
    ∙ append_assoc x.emitted (option_to_list (emitted_at (phase_at rows q l) a (k + 1) x.d x.c)) (decode_from rows a (k + 1) (next_at rows q l) y.d y.c ls)

-- the trace after more signs, where the plan is closed
traced_run : (rows : List Row) → is_typed rows ≡ true → (p : Shape) (b a : ℕ) (plan : PlainPlan) → IsClosed (subject rows p b plan) →
    (ls w : List Letter) (k q : ℕ) (x : Trace) → k ≡ length w → x.state ≡ kind_at rows q →
    IsReached (subject rows p b plan) (record { state = q; live = bare x.live }) → IsTraced p a b w x →
    IsTraced p a b (w ++ ls) (run rows (normal_form p) a b k q x ls)
traced_run rows ty p b a plan cl [] w k q x e s g h = subst (λ z. IsTraced p a b z x) (sym (append-nil w)) h
traced_run rows ty p b a plan cl (l ∷ ls) w k q x e s g h =
    let y : Trace = trace_step shapes (normal_form p) a b k l (phase_at rows q l) (kind_at rows (next_at rows q l)) x in
    let at : PlainConfiguration Shape = record { state = q; live = bare x.live } in
    let fine = and_parts (step_listed (subject rows p b plan) at l)
    (entries_agree shapes (phase_at rows q l) (kind_at rows (next_at rows q l)) (no_ind (with_start tt (normal_form p) b (bare x.live)))
    (survivors shapes l (with_start tt (normal_form p) b (bare x.live)))) (cl at g l) in
    let typed : Typed x.state (phase_at rows q l) (kind_at rows (next_at rows q l)) =
    subst (λ z. Typed z (phase_at rows q l) (kind_at rows (next_at rows q l))) (sym s)
    (move_typed rows ty q l) in
    let ch = checks_met (phase_at rows q l) (kind_at rows (next_at rows q l)) (no_ind (with_start (length w) (normal_form p) b x.live))
    (survivors shapes l (with_start (length w) (normal_form p) b x.live))
    (agree_traced (length w) (normal_form p) b l (phase_at rows q l) (kind_at rows (next_at rows q l)) x.live fine.1) in
    let one : IsTraced p a b (w ++ l ∷ []) y =
    subst (λ z. IsTraced p a b (w ++ l ∷ []) (trace_step shapes (normal_form p) a b z l (phase_at rows q l) (kind_at rows (next_at rows q l)) x)) (sym e)
    (traced_step shapes shapes_right p (normal_form p) (λ v i. (normal_law p v).0 i) (λ v i. (normal_law p v).1 i) a b w l (phase_at rows q l)
    (kind_at rows (next_at rows q l)) x typed ch h) in
    let long : k + 1 ≡ length (w ++ l ∷ []) = (let n = length-append w (l ∷ []) in omega arith) in
    let same : record { state = next_at rows q l; live = bare y.live } ≡ step_of (subject rows p b plan) at l =
    ap (λ z. record { state = next_at rows q l; live = z }) (bare_step k (normal_form p) b l (phase_at rows q l) x.live) in
    let on : IsReached (subject rows p b plan) (record { state = next_at rows q l; live = bare y.live }) =
    (g.0 ++ l ∷ [], OneStepOn g.0 (g.0 ++ l ∷ []) at (record { state = next_at rows q l; live = bare y.live }) l g.1 fine.0 refl same) in
    subst (λ z. IsTraced p a b z (run rows (normal_form p) a b (k + 1) (next_at rows q l) y ls)) (append_assoc w (l ∷ []) ls)
    (traced_run rows ty p b a plan cl ls (w ++ l ∷ []) (k + 1) (next_at rows q l) y long refl on one)

-- a closed plan shows that the transducer finds the occurrences
pub closed_valid : (rows : List Row) → is_typed rows ≡ true → (p : Shape) (b a : ℕ) (plan : PlainPlan) → IsClosed (subject rows p b plan) → IsValid rows p b a
closed_valid rows ty p b a plan cl w =
    let x : Trace = run rows (normal_form p) a b 0 0 no_trace w in
    let h : IsTraced p a b w x = traced_run rows ty p b a plan cl w [] 0 0 no_trace refl (sym (start_idle rows ty))
    ([], FromStart [] (record { state = 0; live = [] }) refl refl) (traced_start p a b) in
    ranges_are p b a w (decode rows a w) (
      x.done ++ option_to_list x.pair,
      h.places,
      sym (run_decodes rows (normal_form p) a b 0 0 no_trace w)
          ∙ decoded_is p a b w x h,
    )

-- in words of maximal matches
pub closed_matches : (rows : List Row) → is_typed rows ≡ true → (p : Shape) (b a : ℕ) (plan : PlainPlan) → IsClosed (subject rows p b plan) →
    (w : List Letter) → AreRanges p b a w (decode rows a w)
closed_matches rows ty p b a plan cl w = subst (λ z. AreRanges p b a w z) (sym (closed_valid rows ty p b a plan cl w)) (are_ranges p b a w)

-- The spans of many values, taken in at once.
use Rattle.std.proofs.Common.{◌≡◌, ℕ, zero, suc, ◌+◌, ◌-◌, ◌<◌, ◌≤◌, ℤ, pos, IsTrue, List, [], ◌∷◌, ◌++◌, length, map, take, drop, slice_get, get_or, Option, Some, None, refl, sym, ap, ◌∙◌, subst, arith}
use Rattle.std.specs.Prelude.{fold}
use Rattle.std.proofs.Math.Seq.{take-add}
use Rattle.std.proofs.lemmas.List.{get_or-drop, get_or-take, length-drop, length-take-le, map-append, take-append-drop, take_more}
use Rattle.std.proofs.lemmas.List.Sums.{fold-append}
use Rattle.std.proofs.lemmas.Option.{slice_get-get_or}
use Rattle.ts_base.specs.declared.span.Span.{Span}
use Rattle.ts_base.specs.Spans.{Holds, none_span, span_hull}
use Rattle.ts_base.specs.SpanLayer.{IsWithin}
use Rattle.ts_base.proofs.SpanLaws.{hull_left}
use Rattle.ts_automaton.specs.Body.{Body}
use Rattle.ts_automaton.specs.Typing.{is_automaton}
use Rattle.ts_hull.proofs.HullLaws.{hull_canonical}
use Rattle.ts_glue.specs.Glue.{is_wide}
use Rattle.ts_glue.specs.Pairs.{Pair}
use Rattle.ts_meet.specs.Along.{finish_along, hull_over}
use Rattle.ts_meet.specs.Joints.{AreJoints}
use Rattle.ts_meet.specs.Meets.{finish_hull, hull_of_spans}
use Rattle.ts_meet.proofs.Places.{over_more, over_none}
use Rattle.ts_bound.specs.Blocks.{finishes, last_at, split_at}
use Rattle.ts_bound.specs.HullTables.{cells_after, cells_before, hulls_at}
use Rattle.ts_bound.proofs.SpanEnds.{IsPairOf, last_one}
use Rattle.ts_bound.specs.declared.any_row.AnyRow.{AnyRow}
use Rattle.ts_bound.specs.AnyRows.{IsRowOf, columns, form_of, form_sides, glued_between, lanes_of, viewed}
use Rattle.ts_filter.specs.declared.cell_hulls.BackSide.{BackSide}
use Rattle.ts_filter.specs.declared.question.Question.{Question}
use Rattle.ts_filter.specs.declared.so_far.SoFar.{SoFar}
use Rattle.ts_filter.specs.Alike.{FindsAlike, IsServed}
use Rattle.ts_filter.specs.Boxes.{Box}
use Rattle.ts_filter.specs.CellHulls.{IsSide, places_of}
use Rattle.ts_filter.specs.Question.{Excludes}
use Rattle.ts_filter.specs.PartLaws.{part_excludes}
use Rattle.ts_filter.specs.SoFar.{IsSoFar, WithParts}
use Rattle.ts_filter.proofs.AlikeLaws.{finds_back, finds_both, finds_on, finds_same, finds_with, hull_assoc, hull_comm}
use Rattle.ts_filter.proofs.CellLaws.{left_is}
use Rattle.ts_filter.proofs.MeetLaws.{finish_alike, split_found}
use Rattle.ts_filter.proofs.SoFarLaws.{excludes_found}

-- the hull of spans before and behind a place

hull_front : (ys : List Span) (s t : Span) → fold span_hull (span_hull s t) ys ≡ span_hull s (fold span_hull t ys)
hull_front [] s t = refl
hull_front (y ∷ ys) s t = ap (λ z. fold span_hull z ys) (hull_assoc s t y) ∙ hull_front ys s (span_hull t y)

all_form : (xs : List Span) (s : Span) → span_hull s none_span ≡ s → span_hull (fold span_hull s xs) none_span ≡ fold span_hull s xs
all_form [] s e = e
all_form (x ∷ xs) s e = all_form xs (span_hull s x) (hull_canonical s x)

all_append : (xs ys : List Span) → hull_of_spans (xs ++ ys) ≡ span_hull (hull_of_spans xs) (hull_of_spans ys)
all_append xs ys =
    fold-append span_hull none_span xs ys ∙ ap (λ z. fold span_hull z ys) (sym (all_form xs none_span refl)) ∙ hull_front ys (hull_of_spans xs) none_span

pub map_same : (f g : ℤ → Span) (values : List ℤ) → ((v : ℤ) → f v ≡ g v) → map f values ≡ map g values
map_same f g [] h = refl
map_same f g (v ∷ vs) h = ap (λ s. s ∷ map f vs) (h v) ∙ ap (λ l. g v ∷ l) (map_same f g vs h)

-- what is found alike place by place is in the hull

module _ (asked : Question) (f : ℕ → Span) (g : ℤ → Span) (values : List ℤ) where
  one_found : (m : ℕ) → m < length values → FindsAlike asked (f m) (g (get_or values m (pos 0))) →
      FindsAlike asked (hull_over f m) (hull_of_spans (map g (take m values))) →
      FindsAlike asked (hull_over f (m + 1)) (hull_of_spans (map g (take (m + 1) values)))
  one_found m lt h before =
      let x = get_or values m (pos 0) in let front = hull_of_spans (map g (take m values)) in
      subst (λ z. FindsAlike asked z (hull_of_spans (map g (take (m + 1) values)))) (sym (over_more f m))
      (subst (FindsAlike asked (span_hull (hull_over f m) (f m)))
      (sym (ap (λ l. hull_of_spans (map g l)) (take_more values m (pos 0) lt)
      ∙ ap hull_of_spans (map-append g (take m values) (x ∷ [])) ∙ fold-append span_hull none_span (map g (take m values)) (g x ∷ [])))
      (finds_both asked (hull_over f m) front (f m) (g x) before h))

  pub over_found : (m : ℕ) → m ≤ length values → ((i : ℕ) → i < m → FindsAlike asked (f i) (g (get_or values i (pos 0)))) →
      FindsAlike asked (hull_over f m) (hull_of_spans (map g (take m values)))
  over_found zero le h = finds_same asked (hull_over f 0) none_span (over_none f)
  over_found (suc m) le h =
      let e : m + 1 ≡ suc m = omega arith in
      subst (λ k. FindsAlike asked (hull_over f k) (hull_of_spans (map g (take k values)))) e
      (one_found m (omega (arith, le)) (h m (omega arith)) (over_found m (omega (arith, le)) (λ i lt. h i (omega (arith, lt)))))

at_place : (values : List ℤ) (from i : ℕ) → get_or (drop from values) i (pos 0) ≡ get_or values (from + i) (pos 0)
at_place values from i = get_or-drop from values i (pos 0)

few_left : (values : List ℤ) (from to : ℕ) → from ≤ to → to ≤ length values → to - from ≤ length (drop from values)
few_left values from to order inside = let e = length-drop from values in omega (arith, e, inside, order)

-- the front of a list of spans

pub front_long : (list : List ℤ) (from to : ℕ) → length list ≡ 64 → to ≤ from + 64 → length (take ((to - from) - 0) list) ≡ to - from
front_long list from to long few =
    let e : (to - from) - 0 ≡ to - from = omega arith in length-take-le ((to - from) - 0) list (omega (arith, long, few)) ∙ e

pub front_listed : (list values : List ℤ) (from to : ℕ) → ((i : ℕ) → i < to - from → get_or list i (pos 0) ≡ get_or values (from + i) (pos 0)) →
    (i : ℕ) → i < to - from → get_or (take ((to - from) - 0) list) i (pos 0) ≡ get_or values (from + i) (pos 0)
front_listed list values from to listed i lt = get_or-take ((to - from) - 0) list i (pos 0) (omega (arith, lt)) ∙ listed i lt

-- the glued spans of the values at places, whose list the loop reads

module _ (asked : Question) (f : Body) (place : ℕ) (cells : Box) (values : List ℤ) (row : AnyRow) (side : BackSide)
    (same : form_of (viewed side.row) ≡ form_of row) (ahead : IsRowOf f (cells_before place cells) values row) (n : ℕ) (is_n : n ≡ length cells)
    (served : IsServed (form_sides (form_of row)) f.mark n asked) (from to : ℕ) (order : from ≤ to) (inside : to ≤ length values)
    (list : List ℤ) (long : length list ≡ to - from)
    (listed : (i : ℕ) → i < to - from → get_or list i (pos 0) ≡ get_or values (from + i) (pos 0)) where
  split_some : (p : Pair) → IsPairOf f (Some p) → p.forward.wide ≡ is_wide p → IsSide (Some p) (cells_after place cells) values side →
      FindsAlike asked (hull_over (λ i. glued_between p row (viewed side.row) (from + i) (get_or list i (pos 0)) n) (length list))
      (hull_of_spans (map (split_at f (Some p) place cells) (places_of from to values)))
  split_some p is width h =
      let g : ℤ → Span = split_at f (Some p) place cells in
      let there : ℕ → Span = λ i. glued_between p row (viewed side.row) (from + i) (get_or list i (pos 0)) n in
      subst (λ m. FindsAlike asked (hull_over there m) (hull_of_spans (map g (places_of from to values)))) (sym long)
      (over_found asked there g (drop from values) (to - from) (few_left values from to order inside)
      (λ i lt.
      let v = get_or values (from + i) (pos 0) in let before : from + i < length values = omega (arith, lt, inside, order) in
      subst (λ z. FindsAlike asked (there i) (g z)) (sym (at_place values from i))
      (subst (λ z. FindsAlike asked (glued_between p row (viewed side.row) (from + i) z n) (g v)) (sym (listed i lt))
      (split_found asked f place cells values (from + i) v row side same ahead (slice_get-get_or values (from + i) (pos 0) before) n is_n served p is width
      h))))

  -- what is said of the hull of the glued spans holds of a span in which the question finds the same as in those of the values
  pub many_split : (Told : Span → Type 0) (o : Option Pair) → IsPairOf f o → ((p : Pair) → o ≡ Some p → p.forward.wide ≡ is_wide p) →
      IsSide o (cells_after place cells) values side →
      ((p : Pair) → AreJoints p side.joints.now →
      Told (hull_over (λ i. glued_between p row (viewed side.row) (from + i) (get_or list i (pos 0)) n) (length list))) →
      (s : Span) × FindsAlike asked s (hull_of_spans (map (split_at f o place cells) (places_of from to values))) × Told s
  many_split Told None is width h told = absurd h
  many_split Told (Some p) is width h told =
      let s = hull_over (λ i. glued_between p row (viewed side.row) (from + i) (get_or list i (pos 0)) n) (length list) in
      (s, split_some p is (width p refl) h, told p h.0)

-- the finish spans of the values at places, whose list the loop reads
pub many_last : (asked : Question) (a : Body) (place : ℕ) (cells : Box) (values : List ℤ) (row : AnyRow) (n from to : ℕ) (s : Span) →
    IsRowOf a (cells_before place cells) values row → IsTrue (is_automaton a) → IsServed (form_sides (form_of row)) a.mark n asked → n ≡ length cells →
    from ≤ to → to ≤ length values → s ≡ finish_along (lanes_of row) a (columns row) from (to - from) n →
    FindsAlike asked s (hull_of_spans (map (last_at a place cells) (places_of from to values)))
many_last asked a place cells values row n from to s is rules served is_n order inside is_s =
    let g : ℤ → Span = last_at a place cells in
    let there : ℕ → Span = λ i. finish_hull (lanes_of row) a (columns row) (from + i) n in
    subst (λ z. FindsAlike asked z (hull_of_spans (map g (places_of from to values)))) (sym is_s)
    (over_found asked there g (drop from values) (to - from) (few_left values from to order inside)
    (λ i lt.
    let v = get_or values (from + i) (pos 0) in let before : from + i < length values = omega (arith, lt, inside, order) in
    let hs = hulls_at a (cells_before place cells) v in
    subst (λ z. FindsAlike asked (there i) (g z)) (sym (at_place values from i))
    (subst (FindsAlike asked (there i)) (last_one a place cells v hs n (hull_of_spans (finishes a hs n (length a.states))) refl is_n refl)
    (finish_alike asked a (cells_before place cells) values (from + i) v row n is (slice_get-get_or values (from + i) (pos 0) before) rules served))))

-- the spans of the values at places are taken in

front_within : (xs ys : List Span) → IsWithin (hull_of_spans xs) (hull_of_spans (xs ++ ys))
front_within xs ys e h = subst (λ s. Holds s e) (sym (all_append xs ys)) (hull_left (hull_of_spans xs) (hull_of_spans ys) e h)

module _ (known : SoFar) (asked : Question) (f : ℤ → Span) (values : List ℤ) (whole : Span) (from to : ℕ) (order : from ≤ to)
    (same : known.asked ≡ asked) (all : whole ≡ hull_of_spans (map f values))
    (so_far : FindsAlike asked known.span (hull_of_spans (map f (take from values)))) where
  both_found : FindsAlike asked (span_hull known.span (hull_of_spans (map f (places_of from to values)))) (hull_of_spans (map f (take to values)))
  both_found =
      let part = hull_of_spans (map f (places_of from to values)) in let front = hull_of_spans (map f (take from values)) in
      let e : from + (to - from) ≡ to = omega (arith, order) in
      subst (FindsAlike asked (span_hull known.span part))
      (sym (all_append (map f (take from values)) (map f (places_of from to values)))
      ∙ ap hull_of_spans (sym (map-append f (take from values) (places_of from to values)))
      ∙ ap (λ l. hull_of_spans (map f l)) (sym (take-add from (to - from) values) ∙ ap (λ k. take k values) e))
      (finds_with asked known.span front part so_far)

  pub places_more : (more : SoFar) → WithParts known (hull_of_spans (map f (places_of from to values)) ∷ []) (Some more) →
      (more.asked ≡ asked) × FindsAlike asked more.span (hull_of_spans (map f (take to values))) × IsSoFar more
  places_more more h =
      let both = span_hull known.span (hull_of_spans (map f (places_of from to values))) in (
        h.0 ∙ same,
        finds_on asked more.span both (hull_of_spans (map f (take to values))) (subst (λ a. FindsAlike a more.span both) same h.1) both_found,
        h.2,
      )

  pub places_stop : WithParts known (hull_of_spans (map f (places_of from to values)) ∷ []) None → Excludes asked whole → ⊥
  places_stop stop none =
      let both = span_hull known.span (hull_of_spans (map f (places_of from to values))) in
      let front = map f (take to values) in let rest = map f (drop to values) in
      let split : map f values ≡ front ++ rest =
      ap (map f) (sym (take-append-drop to values)) ∙ map-append f (take to values) (drop to values) in
      let none_here : Excludes asked (hull_of_spans (front ++ rest)) =
      subst (λ l. Excludes asked (hull_of_spans l)) split (subst (Excludes asked) all none) in
      stop (subst (λ a. Excludes a both) (sym same)
      (excludes_found asked (hull_of_spans front) both (finds_back asked both (hull_of_spans front) both_found)
      (part_excludes asked (hull_of_spans front) (hull_of_spans (front ++ rest)) (front_within front rest) none_here)))

-- one place alone
pub one_place : (f : ℤ → Span) (values : List ℤ) (from to : ℕ) (v : ℤ) → to - from ≡ 1 → from < length values → slice_get values from ≡ Some v →
    span_hull (f v) none_span ≡ f v → hull_of_spans (map f (places_of from to values)) ≡ f v
one_place f values from to v one lt is form =
    ap (λ k. hull_of_spans (map f (take k (drop from values)))) one ∙ ap (λ l. hull_of_spans (map f (take 1 l))) (left_is values from v lt is)
    ∙ hull_comm none_span (f v) ∙ form

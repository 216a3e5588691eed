-- What packed rows show where they meet at a value is, as far as a question finds, the span of the value.
use Rattle.std.proofs.Common.{◌≡◌, ◌⊎◌, inl, inr, ⊎_elim, ℕ, ◌+◌, ◌-◌, ◌*◌, ◌<◌, ◌≤◌, ℤ, false, IsTrue, List, ◌∷◌, [], ◌++◌, length, map, take, drop, slice_get, get_or, Option, Some, None, refl, sym, ap, ◌∙◌, subst, arith}
use Rattle.std.specs.Prelude.{IsSome, IfSome, flat_map, option_map}
use Rattle.std.specs.List.{range_with_len}
use Rattle.std.proofs.lemmas.List.{get_or-take, get_or-drop}
use Rattle.std.proofs.lemmas.Option.{slice_get_within}
use Rattle.ts_base.specs.declared.span.Span.{Span}
use Rattle.ts_base.specs.Spans.{none_span, span_hull}
use Rattle.ts_automaton.specs.declared.regs.Hull.{Hull}
use Rattle.ts_automaton.specs.Body.{Body}
use Rattle.ts_automaton.specs.Registers.{spans_of}
use Rattle.ts_automaton.specs.SpanRun.{finish_span_of, finished_span, marked_span}
use Rattle.ts_automaton.specs.Typing.{is_automaton}
use Rattle.ts_hull.specs.Hulls.{none}
use Rattle.ts_hull.proofs.HullLaws.{hull_canonical}
use Rattle.ts_row.specs.Rows.{hull_in}
use Rattle.ts_row.proofs.Flat.{flat_at}
use Rattle.ts_glue.specs.declared.machine.Machine.{Machine}
use Rattle.ts_glue.specs.Glue.{is_wide}
use Rattle.ts_glue.specs.Glued.{glue_span_at, glued_span}
use Rattle.ts_glue.specs.Machines.{pair_of}
use Rattle.ts_glue.specs.Pairs.{Pair}
use Rattle.ts_glue.proofs.CallerLemmas.{machines_keep_rules}
use Rattle.ts_glue.proofs.Facts.{facts_of}
use Rattle.ts_sweep.specs.Sides.{Sides, BothEnds, has_wide, seen_hull, sides}
use Rattle.ts_meet.specs.declared.joints.Joints.{Joints}
use Rattle.ts_meet.specs.Asked.{IsAnswer}
use Rattle.ts_meet.specs.Joints.{AreJoints}
use Rattle.ts_meet.specs.Meets.{HasPlace, finish_hull, finish_seen, finishes_in, glued_hull, glued_seen, hull_of_spans, spans_between}
use Rattle.ts_meet.specs.Settled.{HavePlaces}
use Rattle.ts_meet.proofs.CallerLemmas.{row_place, row_places, spans_are, finishes_are, with_hull}
use Rattle.ts_meet.proofs.SeenGlue.{finished_span_seen, glue_span_seen}
use Rattle.ts_bound.specs.Blocks.{finishes, glued_all, glued_with, back_hulls, last_at, split_at, standing_of}
use Rattle.ts_bound.specs.HullTables.{cells_after, cells_before, hulls_at, row_of}
use Rattle.ts_bound.specs.PackedRows.{IsPackedRow}
use Rattle.ts_bound.proofs.SeenRows.{seen_at}
use Rattle.ts_bound.proofs.SpanEnds.{IsPairOf, last_one, split_one}
use Rattle.ts_bound.specs.declared.any_row.AnyRow.{AnyRow}
use Rattle.ts_bound.specs.declared.any_row.AnyRow.TheVariants.{Narrow, Upper, Lower, Wide}
use Rattle.ts_bound.specs.AnyRows.{Columns, IsFormOf, IsRowOf, columns, form_of, form_sides, glued_between, lanes_of, viewed}
use Rattle.ts_bound.proofs.PackedStacks.{form_alone, lanes_are}
use Rattle.ts_filter.specs.declared.cell_hulls.BackSide.{BackSide}
use Rattle.ts_filter.specs.declared.question.Question.{Question}
use Rattle.ts_filter.specs.declared.so_far.SoFar.{SoFar}
use Rattle.ts_filter.specs.Alike.{FindsAlike, IsServed}
use Rattle.ts_filter.specs.Boxes.{Box}
use Rattle.ts_filter.specs.CellHulls.{IsSide}
use Rattle.ts_filter.specs.KnownRows.{HasJoints}
use Rattle.ts_filter.specs.Question.{Excludes}
use Rattle.ts_filter.specs.SoFar.{WithParts}
use Rattle.ts_filter.proofs.AlikeLaws.{EachAlike, finds_back, finds_folded, finds_on, finds_same, finds_self}
use Rattle.ts_filter.proofs.CellLaws.{row_block}
use Rattle.ts_filter.proofs.SoFarLaws.{excludes_found, part_found}

-- the hull of a state at a value

hull_there : (m : ℕ) (a : Body) (before : Box) (values : List ℤ) (i q : ℕ) (v : ℤ) (row : Columns m) → IsPackedRow m a before values row →
    slice_get values i ≡ Some v → q < length a.states → hull_in m row q i ≡ seen_hull (sides m) (get_or (hulls_at a before v) q none)
hull_there m a before values i q v row is e lt =
    let s = length a.states in let whole = row_of a before values in
    let wide : i * s + s - i * s ≡ s = omega arith in
    sym (flat_at m s (length values) row q i lt (slice_get_within values i v e)) ∙ ap (λ l. get_or l (i * s + q) none) is.is_flat
    ∙ sym (seen_at (sides m) s q whole i)
    ∙ ap (seen_hull (sides m))
    (sym (get_or-drop (i * s) whole q none) ∙ sym (get_or-take s (drop (i * s) whole) q none lt)
    ∙ ap (λ w. get_or (take w (drop (i * s) whole)) q none) (sym wide)
    ∙ ap (λ l. get_or l q none) (row_block a before values i v whole _ s refl refl e refl))

-- there is a packed hull for each state
pub place_there : (m : ℕ) (a : Body) (before : Box) (values : List ℤ) (i : ℕ) (v : ℤ) (row : Columns m) (s : ℕ) → s ≡ length a.states →
    IsPackedRow m a before values row → slice_get values i ≡ Some v → HasPlace m s i row
place_there m a before values i v row s is_s is e =
    subst (λ k. HasPlace m k i row) (sym is_s) (row_place m (length a.states) (length values) i row is.is_row (slice_get_within values i v e))

-- there is a packed hull at each place before another
pub places_there : (m : ℕ) (a : Body) (before : Box) (values : List ℤ) (row : Columns m) (s : ℕ) → s ≡ length a.states → IsPackedRow m a before values row →
    (to : ℕ) → to ≤ length values → HavePlaces m s to row
places_there m a before values row s is_s is to inside =
    subst (λ k. HavePlaces m k to row) (sym is_s) (row_places m (length a.states) (length values) to row is.is_row inside)

-- a row has a form of its automaton
pub width_of_form : (row : AnyRow) (a : Body) → a.wide ≡ has_wide (lanes_of row) → IsFormOf a.wide (form_of row)
width_of_form row a e = e ∙ ap has_wide (sym (lanes_are row))

-- spans made of what is seen are found alike, and so are their hulls

module _ (asked : Question) where
  each_map : (f g : ℕ → Span) (qs : List ℕ) → ((q : ℕ) → FindsAlike asked (f q) (g q)) → EachAlike asked (map f qs) (map g qs)
  each_map f g [] h = tt
  each_map f g (q ∷ qs) h = (h q, each_map f g qs h)

  each_append : (ss ts us vs : List Span) → EachAlike asked ss ts → EachAlike asked us vs → EachAlike asked (ss ++ us) (ts ++ vs)
  each_append [] [] us vs h k = k
  each_append [] (t ∷ ts) us vs h k = absurd h
  each_append (s ∷ ss) [] us vs h k = absurd h
  each_append (s ∷ ss) (t ∷ ts) us vs h k = (h.0, each_append ss ts us vs h.1 k)

  each_flat : (f g : ℕ → List Span) (qs : List ℕ) → ((q : ℕ) → EachAlike asked (f q) (g q)) → EachAlike asked (flat_map f qs) (flat_map g qs)
  each_flat f g [] h = tt
  each_flat f g (q ∷ qs) h = each_append (f q) (g q) (flat_map f qs) (flat_map g qs) (h q) (each_flat f g qs h)

  hull_found : (ss ts us : List Span) → ss ≡ us → EachAlike asked us ts → FindsAlike asked (hull_of_spans ss) (hull_of_spans ts)
  hull_found ss ts us e each =
      subst (λ l. FindsAlike asked (hull_of_spans l) (hull_of_spans ts)) (sym e)
      (finds_folded asked us ts none_span none_span (finds_self asked none_span) each)

  finish_one : (s : Sides) (b : Body) (q : ℕ) (h : Hull) (n : ℕ) → IsTrue (is_automaton b) → (s ≡ BothEnds) ⊎ (b.wide ≡ false) →
      IsServed s b.mark n asked → FindsAlike asked (finish_seen s b (with_hull q (seen_hull s h)) n) (finish_span_of b (with_hull q h) n)
  finish_one s b q h n rules alone served =
      subst (λ z. FindsAlike asked (marked_span b.mark n z) (finish_span_of b (with_hull q h) n)) (sym (finished_span_seen s b (spans_of h) rules alone))
      (served (finished_span b (spans_of h)))

  glued_one : (s : Sides) (p : Pair) (q r : ℕ) (h k : Hull) (x : ℤ) (n : ℕ) → (s ≡ BothEnds) ⊎ (is_wide p ≡ false) →
      IsServed s p.forward.mark n asked →
      FindsAlike asked (glued_seen s p (with_hull q (seen_hull s h)) (with_hull r (seen_hull s k)) x n) (glued_span p (with_hull q h) (with_hull r k) x n)
  glued_one s p q r h k x n alone served =
      subst (λ z. FindsAlike asked (marked_span p.forward.mark n z) (glued_span p (with_hull q h) (with_hull r k) x n))
      (sym (glue_span_seen s p (with_hull q h) (with_hull r k) x alone)) (served (glue_span_at p (with_hull q h) (with_hull r k) x))

  -- the finish span at the last cell
  finish_found : (m : ℕ) (a : Body) (before : Box) (values : List ℤ) (i : ℕ) (v : ℤ) (row : Columns m) (n : ℕ) → IsPackedRow m a before values row →
      slice_get values i ≡ Some v → IsTrue (is_automaton a) → (sides m ≡ BothEnds) ⊎ (a.wide ≡ false) → IsServed (sides m) a.mark n asked →
      FindsAlike asked (finish_hull m a row i n) (hull_of_spans (finishes a (hulls_at a before v) n (length a.states)))
  unfolding finishes
  finish_found m a before values i v row n is e rules alone served =
      let hs = hulls_at a before v in let there : ℕ → Hull = λ q. seen_hull (sides m) (get_or hs q none) in let all = range_with_len 0 (length a.states) in
      hull_found (finishes_in m a row i n (length a.states)) (finishes a hs n (length a.states))
      (map (λ q. finish_seen (sides m) a (with_hull q (there q)) n) all)
      (finishes_are m a row i n (length a.states) there (λ q lt. hull_there m a before values i q v row is e lt))
      (each_map (λ q. finish_seen (sides m) a (with_hull q (there q)) n) (λ q. finish_span_of a (standing_of hs q) n) all
      (λ q. finish_one (sides m) a q (get_or hs q none) n rules alone served))

  -- the finish span of a row in any form
  pub finish_alike : (a : Body) (before : Box) (values : List ℤ) (i : ℕ) (v : ℤ) (row : AnyRow) (n : ℕ) → IsRowOf a before values row →
      slice_get values i ≡ Some v → IsTrue (is_automaton a) → IsServed (form_sides (form_of row)) a.mark n asked →
      FindsAlike asked (finish_hull (lanes_of row) a (columns row) i n) (hull_of_spans (finishes a (hulls_at a before v) n (length a.states)))
  finish_alike a before values i v row n is e rules served =
      finish_found (lanes_of row) a before values i v (columns row) n is.packed e rules
      (subst (λ m. (sides m ≡ BothEnds) ⊎ (a.wide ≡ false)) (lanes_are row) (form_alone a.wide (form_of row) (width_of_form row a is.width)))
      (subst (λ m. IsServed (sides m) a.mark n asked) (lanes_are row) served)

  glued_all_found : (m : ℕ) (p : Pair) (ls rs : List Hull) (left right : Columns m) (i : ℕ) (x : ℤ) (cells k l : ℕ) →
      ((q : ℕ) → q < l → hull_in m left q i ≡ seen_hull (sides m) (get_or ls q none)) →
      ((r : ℕ) → r < k → hull_in m right r i ≡ seen_hull (sides m) (get_or rs r none)) →
      (sides m ≡ BothEnds) ⊎ (is_wide p ≡ false) → IsServed (sides m) p.forward.mark cells asked →
      FindsAlike asked (hull_of_spans (spans_between m p left right i x cells k l)) (hull_of_spans (glued_all (Some p) ls rs x cells k l))
  unfolding glued_all glued_with
  glued_all_found m p ls rs left right i x cells k l h j alone served =
      let s = sides m in let hl : ℕ → Hull = λ q. seen_hull s (get_or ls q none) in let hr : ℕ → Hull = λ r. seen_hull s (get_or rs r none) in
      let seen_with : ℕ → List Span = λ q. map (λ r. glued_seen s p (with_hull q (hl q)) (with_hull r (hr r)) x cells) (range_with_len 0 k) in
      let true_with : ℕ → List Span = λ q. map (λ r. glued_span p (standing_of ls q) (standing_of rs r) x cells) (range_with_len 0 k) in
      hull_found (spans_between m p left right i x cells k l) (flat_map true_with (range_with_len 0 l)) (flat_map seen_with (range_with_len 0 l))
      (spans_are m p i x cells left right hl hr k l h j)
      (each_flat seen_with true_with (range_with_len 0 l)
      (λ q. each_map (λ r. glued_seen s p (with_hull q (hl q)) (with_hull r (hr r)) x cells) (λ r. glued_span p (standing_of ls q) (standing_of rs r) x cells)
      (range_with_len 0 k) (λ r. glued_one s p q r (get_or ls q none) (get_or rs r none) x cells alone served)))

-- the glued span at another cell

module _ (asked : Question) (f : Body) (before behind : Box) (values : List ℤ) (i : ℕ) (v : ℤ) (e : slice_get values i ≡ Some v) (p : Pair) (n : ℕ)
    (is : p.forward ≡ f) (width : p.forward.wide ≡ is_wide p) where
  abbrev GluedSpan : Span
  GluedSpan = hull_of_spans (glued_all (Some p) (hulls_at f before v) (hulls_at p.reverse behind v) v n (length p.reverse.states) (length f.states))

  glued_in : (m : ℕ) (left right : Columns m) → IsPackedRow m f before values left → IsPackedRow m p.reverse behind values right →
      (sides m ≡ BothEnds) ⊎ (f.wide ≡ false) → IsServed (sides m) f.mark n asked → FindsAlike asked (glued_hull m p left right i v n) GluedSpan
  glued_in m left right ahead back alone served =
      let ls = hulls_at f before v in let rs = hulls_at p.reverse behind v in
      subst (λ (a : Body). FindsAlike asked (hull_of_spans (spans_between m p left right i v n (length p.reverse.states) (length a.states))) GluedSpan) (sym is)
      (glued_all_found asked m p ls rs left right i v n (length p.reverse.states) (length f.states)
      (λ q lt. hull_there m f before values i q v left ahead e lt) (λ r lt. hull_there m p.reverse behind values i r v right back e lt)
      (⊎_elim (λ both. inl both) (λ narrow. inr (sym width ∙ ap (λ (a : Body). a.wide) is ∙ narrow)) alone)
      (subst (λ (a : Body). IsServed (sides m) a.mark n asked) (sym is) served))

  glued_by : (left right : AnyRow) → form_of right ≡ form_of left → IsRowOf f before values left → IsRowOf p.reverse behind values right →
      IsServed (form_sides (form_of left)) f.mark n asked → FindsAlike asked (glued_between p left right i v n) GluedSpan
  glued_by (Narrow left) (Narrow right) same ahead back served = glued_in 6 left right ahead.packed back.packed (inl refl) served
  glued_by (Upper left) (Upper right) same ahead back served = glued_in 3 left right ahead.packed back.packed (inr ahead.width) served
  glued_by (Lower left) (Lower right) same ahead back served = glued_in 4 left right ahead.packed back.packed (inr ahead.width) served
  glued_by (Wide left) (Wide right) same ahead back served = glued_in 10 left right ahead.packed back.packed (inl refl) served
  glued_by (Narrow left) (Upper right) same ahead back served = cc
  glued_by (Narrow left) (Lower right) same ahead back served = cc
  glued_by (Narrow left) (Wide right) same ahead back served = cc
  glued_by (Upper left) (Narrow right) same ahead back served = cc
  glued_by (Upper left) (Lower right) same ahead back served = cc
  glued_by (Upper left) (Wide right) same ahead back served = cc
  glued_by (Lower left) (Narrow right) same ahead back served = cc
  glued_by (Lower left) (Upper right) same ahead back served = cc
  glued_by (Lower left) (Wide right) same ahead back served = cc
  glued_by (Wide left) (Narrow right) same ahead back served = cc
  glued_by (Wide left) (Upper right) same ahead back served = cc
  glued_by (Wide left) (Lower right) same ahead back served = cc

-- the automata of a machine are as wide as its pair
pub as_wide : (m : Machine) (p : Pair) → pair_of m ≡ Some p → p.forward.wide ≡ is_wide p
as_wide m p e = (facts_of p (machines_keep_rules m p e).0).forward_width

module _ (f : Body) (before behind : Box) (values : List ℤ) (row : AnyRow) (side : BackSide) (ahead : IsRowOf f before values row) where
  -- the rows of a pair of automata meet in a form of their width
  pub width_there : (o : Option Pair) → IsPairOf f o → ((p : Pair) → o ≡ Some p → p.forward.wide ≡ is_wide p) → IsSide o behind values side →
      IsFormOf side.joints.now.wide (form_of row)
  width_there None is width h = absurd h
  width_there (Some p) is width h =
      h.0.wide ∙ sym (width p refl) ∙ ap (λ (a : Body). a.wide) is ∙ ahead.width ∙ ap has_wide (sym (lanes_are row))

  pub left_places : (to : ℕ) → to ≤ length values → (o : Option Pair) → IsPairOf f o → IsSide o behind values side →
      HavePlaces (lanes_of row) side.joints.now.left_states to (columns row)
  left_places to inside None is h = absurd h
  left_places to inside (Some p) is h =
      places_there (lanes_of row) f before values (columns row) side.joints.now.left_states (h.0.left_states ∙ ap (λ (a : Body). length a.states) is)
      ahead.packed to inside

  pub right_places : (to : ℕ) → to ≤ length values → (o : Option Pair) → IsSide o behind values side →
      HavePlaces (lanes_of (viewed side.row)) side.joints.now.right_states to (columns (viewed side.row))
  right_places to inside None h = absurd h
  right_places to inside (Some p) h =
      places_there (lanes_of (viewed side.row)) p.reverse behind values (columns (viewed side.row)) side.joints.now.right_states h.0.right_states h.1.packed to
      inside

module _ (f : Body) (before behind : Box) (values : List ℤ) (i : ℕ) (v : ℤ) (row : AnyRow) (side : BackSide) (ahead : IsRowOf f before values row)
    (e : slice_get values i ≡ Some v) where
  pub left_place : (o : Option Pair) → IsPairOf f o → IsSide o behind values side → HasPlace (lanes_of row) side.joints.now.left_states i (columns row)
  left_place None is h = absurd h
  left_place (Some p) is h =
      place_there (lanes_of row) f before values i v (columns row) side.joints.now.left_states (h.0.left_states ∙ ap (λ (a : Body). length a.states) is)
      ahead.packed e

  pub right_place : (o : Option Pair) → IsSide o behind values side →
      HasPlace (lanes_of (viewed side.row)) side.joints.now.right_states i (columns (viewed side.row))
  right_place None h = absurd h
  right_place (Some p) h =
      place_there (lanes_of (viewed side.row)) p.reverse behind values i v (columns (viewed side.row)) side.joints.now.right_states h.0.right_states
      h.1.packed e

-- what is known where two rows meet

module _ (asked : Question) (f : Body) (place : ℕ) (cells : Box) (values : List ℤ) (i : ℕ) (v : ℤ) (row : AnyRow) (side : BackSide)
    (same : form_of (viewed side.row) ≡ form_of row) (ahead : IsRowOf f (cells_before place cells) values row) (e : slice_get values i ≡ Some v) (n : ℕ)
    (is_n : n ≡ length cells) (served : IsServed (form_sides (form_of row)) f.mark n asked) where
  pub split_found : (p : Pair) → IsPairOf f (Some p) → p.forward.wide ≡ is_wide p → IsSide (Some p) (cells_after place cells) values side →
      FindsAlike asked (glued_between p row (viewed side.row) i v n) (split_at f (Some p) place cells v)
  split_found p is width h =
      let ls = hulls_at f (cells_before place cells) v in let rs = back_hulls (Some p) (cells_after place cells) v in
      let m = length p.reverse.states in let all = hull_of_spans (glued_all (Some p) ls rs v n m (length f.states)) in
      subst (FindsAlike asked (glued_between p row (viewed side.row) i v n))
      (split_one f (Some p) place cells v v ls rs n m all refl refl refl is_n refl refl)
      (glued_by asked f (cells_before place cells) (cells_after place cells) values i v e p n is width row (viewed side.row) same ahead h.1 served)

  pub never_there : (o : Option Pair) → IsPairOf f o → ((p : Pair) → o ≡ Some p → p.forward.wide ≡ is_wide p) →
      IsSide o (cells_after place cells) values side →
      ((p : Pair) → AreJoints p side.joints.now → (x : ℤ) → Excludes asked (glued_between p row (viewed side.row) i x n) → ⊥) →
      Excludes asked (split_at f o place cells v) → ⊥
  never_there None is width h told nothing_has = absurd h
  never_there (Some p) is width h told nothing_has =
      let glued = glued_between p row (viewed side.row) i v n in let split = split_at f (Some p) place cells v in
      told p h.0 v (excludes_found asked split glued (finds_back asked glued split (split_found p is (width p refl) h)) nothing_has)

-- a span with the glued span is an answer

pub none_by : (s : SoFar) (glued split : Span) → FindsAlike s.asked glued split → IsAnswer (Excludes s.asked) (span_hull s.span glued) None →
    WithParts s (split ∷ []) None
none_by s glued split found told = part_found s glued split None found told

pub some_by : (s : SoFar) (glued split t : Span) → FindsAlike s.asked glued split → IsAnswer (Excludes s.asked) (span_hull s.span glued) (Some t) →
    WithParts s (split ∷ []) (Some (record { asked = s.asked; span = t }))
some_by s glued split t found told =
    part_found s glued split (Some (record { asked = s.asked; span = t })) found (
      refl,
      finds_same s.asked t (span_hull s.span glued) told.0,
      record {
        form = ap (λ z. span_hull z none_span) told.0 ∙ hull_canonical s.span glued ∙ sym told.0;
        excluded = subst (Excludes s.asked) (sym told.0) told.1;
      },
    )

-- a span with the finish span is an answer at the last cell
pub last_found : (s : SoFar) (o : Option SoFar) (a : Body) (place : ℕ) (cells : Box) (values : List ℤ) (i : ℕ) (v : ℤ) (row : AnyRow) (n : ℕ) (part : Span) →
    IsRowOf a (cells_before place cells) values row → slice_get values i ≡ Some v → IsTrue (is_automaton a) →
    IsServed (form_sides (form_of row)) a.mark n s.asked → n ≡ length cells → part ≡ finish_hull (lanes_of row) a (columns row) i n →
    WithParts s (part ∷ []) o → WithParts s (last_at a place cells v ∷ []) o
last_found s o a place cells values i v row n part is e rules served is_n is_part h =
    let hull = finish_hull (lanes_of row) a (columns row) i n in let hs = hulls_at a (cells_before place cells) v in
    part_found s part (last_at a place cells v) o
    (finds_on s.asked part hull (last_at a place cells v) (finds_same s.asked part hull is_part)
    (subst (FindsAlike s.asked hull) (last_one a place cells v hs n (hull_of_spans (finishes a hs n (length a.states))) refl is_n refl)
    (finish_alike s.asked a (cells_before place cells) values i v row n is e rules served)))
    h

module _ (s : SoFar) (f : Body) (place : ℕ) (cells : Box) (values : List ℤ) (i : ℕ) (v : ℤ) (row : AnyRow) (side : BackSide)
    (same : form_of (viewed side.row) ≡ form_of row) (ahead : IsRowOf f (cells_before place cells) values row) (e : slice_get values i ≡ Some v) (n : ℕ)
    (is_n : n ≡ length cells) (served : IsServed (form_sides (form_of row)) f.mark n s.asked) (w : ℤ) (is_w : w ≡ v) where
  there_found : (p : Pair) → IsPairOf f (Some p) → p.forward.wide ≡ is_wide p → IsSide (Some p) (cells_after place cells) values side →
      FindsAlike s.asked (glued_between p row (viewed side.row) i w n) (split_at f (Some p) place cells v)
  there_found p is width h =
      subst (λ x. FindsAlike s.asked (glued_between p row (viewed side.row) i x n) (split_at f (Some p) place cells v)) (sym is_w)
      (split_found s.asked f place cells values i v row side same ahead e n is_n served p is width h)

  pub none_told : (o : Option Pair) → IsPairOf f o → ((p : Pair) → o ≡ Some p → p.forward.wide ≡ is_wide p) →
      IsSide o (cells_after place cells) values side →
      ((p : Pair) → AreJoints p side.joints.now → IsAnswer (Excludes s.asked) (span_hull s.span (glued_between p row (viewed side.row) i w n)) None) →
      WithParts s (split_at f o place cells v ∷ []) None
  none_told None is width h told = absurd h
  none_told (Some p) is width h told =
      none_by s (glued_between p row (viewed side.row) i w n) (split_at f (Some p) place cells v) (there_found p is (width p refl) h) (told p h.0)

  pub some_told : (o : Option Pair) (t : Span) → IsPairOf f o → ((p : Pair) → o ≡ Some p → p.forward.wide ≡ is_wide p) →
      IsSide o (cells_after place cells) values side →
      ((p : Pair) → AreJoints p side.joints.now → IsAnswer (Excludes s.asked) (span_hull s.span (glued_between p row (viewed side.row) i w n)) (Some t)) →
      WithParts s (split_at f o place cells v ∷ []) (Some (record { asked = s.asked; span = t }))
  some_told None t is width h told = absurd h
  some_told (Some p) t is width h told =
      some_by s (glued_between p row (viewed side.row) i w n) (split_at f (Some p) place cells v) t (there_found p is (width p refl) h) (told p h.0)

-- of a machine with a reverse automaton

pub split_there : (o : Option Pair) (b : Body) → Some b ≡ option_map (λ q. q.reverse) o → IsSome o
split_there None b e = cc
split_there (Some p) b e = refl

pub side_there : (o : Option Pair) (behind : Box) (values : List ℤ) (side : BackSide) → IsSide o behind values side → IsSome o
side_there None behind values side h = absurd h
side_there (Some p) behind values side h = refl

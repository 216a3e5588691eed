-- What each call makes of the waiting boxes: only the boxes below the marks count, and each call leaves those as they are.
use Rattle.std.proofs.Common.{◌≡◌, ℕ, zero, suc, ◌+◌, ◌-◌, ◌<◌, ◌≤◌, ℤ, Bool, true, false, IsTrue, List, [], ◌∷◌, ◌++◌, length, get_or, ◌↔◌, take, reverse, Option, Some, None, Result, Ok, Err, OnErr, slice_get, refl, sym, ap, ◌∙◌, subst, arith}
use Rattle.std.proofs.lemmas.List.{get_or_append_left, get_or-take, length-take-le, take_more, take_all, reverse-append, length-reverse, length_push}
use mir.Val.{bool_byte}
use Rattle.std.proofs.lemmas.Bool.{false≢true}
use Rattle.std.proofs.Math.Seq.{get_or-append_seam}
use Rattle.ts_domain.specs.Kept.{values_up_to, values_above, values_without}
use Rattle.ts_domain.specs.BoxSeries.{Boxes, all_boxes, box_with, back_to, cell_of}
use Rattle.ts_filter.specs.Boxes.{HasCell, values_at, high_side}
use Rattle.ts_frontier.specs.Waiting.{Waiting, first, rest, after_split, after_remove, after_close}
use Rattle.ts_frontier.specs.Uppers.{upper_side, upper_sides, boxes_of, waiting_of, UppersBelow, UppersFit}
use Rattle.ts_frontier.specs.declared.frontier.Upper.{Upper}

sides_same : (top : ℕ) (hs gs : List (List (List ℤ))) (us : List Upper) → UppersBelow top hs us →
    ((i : ℕ) → i < top → get_or hs i [] ≡ get_or gs i []) → upper_sides gs us ≡ upper_sides hs us
unfolding upper_sides UppersBelow
sides_same top hs gs [] h same = refl
sides_same top hs gs (u ∷ us) h same =
    ap (λ b. high_side u.cell u.above b ∷ upper_sides gs us) (sym (same u.mark h.0)) ∙
    ap (λ l. upper_side hs u ∷ l) (sides_same u.mark hs gs us h.3 (λ i below. same i (omega (arith, below, h.0))))

fits_same : (top top' : ℕ) (hs gs : List (List (List ℤ))) (us : List Upper) → UppersBelow top hs us → top ≤ top' →
    ((i : ℕ) → i < top → get_or hs i [] ≡ get_or gs i []) → UppersBelow top' gs us
unfolding UppersBelow
fits_same top top' hs gs [] h le same = tt
fits_same top top' hs gs (u ∷ us) h le same =
    let e = same u.mark h.0 in (
      omega (arith, h.0, le),
      subst (λ b. HasCell u.cell b) e h.1,
      subst (λ b. values_above u.above (values_at u.cell b) ≡ [] → ⊥) e h.2,
      fits_same u.mark u.mark hs gs us h.3 (omega arith) (λ i below. same i (omega (arith, below, h.0))),
    )

-- one more box on the trail
length-all : (b : Boxes) → length (all_boxes b) ≡ length b.earlier + 1
length-all b = length_push b.earlier b.present

last_box : (b : Boxes) → get_or (all_boxes b) (length b.earlier) [] ≡ b.present
last_box b = get_or-append_seam b.earlier b.present [] []

below_push : (b : Boxes) (k : ℕ) (keep : List ℤ → List ℤ) (i : ℕ) → i < length b.earlier + 1 →
    get_or (all_boxes b) i [] ≡ get_or (all_boxes (box_with k keep b)) i []
below_push b k keep i below = sym (get_or_append_left (all_boxes b) _ [] i (omega (arith, below, length-all b)))

-- back on the trail
all-back : (mark : ℕ) (b : Boxes) → mark ≤ length b.earlier → all_boxes (back_to mark b) ≡ take (mark + 1) (all_boxes b)
all-back mark b h = sym (take_more (all_boxes b) mark [] (omega (arith, h, length-all b)))

below_back : (mark : ℕ) (b : Boxes) → mark ≤ length b.earlier → (i : ℕ) → i < mark + 1 →
    get_or (all_boxes b) i [] ≡ get_or (all_boxes (back_to mark b)) i []
below_back mark b h i below = sym (ap (λ l. get_or l i []) (all-back mark b h) ∙ get_or-take (mark + 1) (all_boxes b) i [] below)

-- the value and the fields
not_ready : (b : Boxes) (us : List Upper) (w : Waiting) → waiting_of b false us ≡ w → IsTrue w.ready → ⊥
not_ready b us w view ready = false≢true (subst (λ w. IsTrue w.ready) (sym view) ready)

pub present_is : (b : Boxes) (r : Bool) (us : List Upper) (w : Waiting) → waiting_of b r us ≡ w → IsTrue w.ready → w.boxes ≡ b.present ∷ rest w.boxes
unfolding boxes_of
present_is b false us w view ready = absurd (not_ready b us w view ready)
present_is b true us w view ready = sym (ap (λ w. w.boxes) view) ∙ ap (λ w. b.present ∷ rest w.boxes) view

pub first_is : (b : Boxes) (r : Bool) (us : List Upper) (w : Waiting) → waiting_of b r us ≡ w → IsTrue w.ready → first w.boxes ≡ b.present
first_is b r us w view ready = ap first (present_is b r us w view ready)

pub cell_is : (b : Boxes) (r : Bool) (us : List Upper) (w : Waiting) (k : ℕ) → waiting_of b r us ≡ w → IsTrue w.ready → HasCell k (first w.boxes) →
    (1 ≤ k) × (k ≤ length b.present)
cell_is b r us w k view ready cell = subst (λ b. HasCell k b) (first_is b r us w view ready) cell

pub some_stay : (b : Boxes) (r : Bool) (us : List Upper) (w : Waiting) (k : ℕ) (keep keep' : List ℤ → List ℤ) → waiting_of b r us ≡ w →
    IsTrue w.ready → keep' ≡ keep → (keep (values_at k (first w.boxes)) ≡ [] → ⊥) → keep' (cell_of k b) ≡ [] → ⊥
some_stay b r us w k keep keep' view ready same stays none =
    stays (ap (λ b. keep (values_at k b)) (first_is b r us w view ready) ∙ sym (ap (λ f. f (cell_of k b)) same) ∙ none)

-- how many wait
length-sides : (hs : List (List (List ℤ))) (us : List Upper) → length (upper_sides hs us) ≡ length us
unfolding upper_sides
length-sides hs [] = refl
length-sides hs (u ∷ us) = omega (arith, length-sides hs us)

pub length-boxes : (b : Boxes) (r : Bool) (us : List Upper) (w : Waiting) (n m : ℕ) → waiting_of b r (reverse us) ≡ w → n ≡ length us →
    m ≡ bool_byte r → n + m ≡ length w.boxes
unfolding boxes_of
length-boxes b true us w n m view is one =
    let e = ap (λ w. length w.boxes) view in omega (arith, e, is, one, length-sides (all_boxes b) (reverse us), length-reverse us)
length-boxes b false us w n m view is one =
    let e = ap (λ w. length w.boxes) view in omega (arith, e, is, one, length-sides (all_boxes b) (reverse us), length-reverse us)

-- a start
pub begun_fits : (b : Boxes) (us : List Upper) → us ≡ [] → UppersFit b true (reverse us)
unfolding UppersBelow
begun_fits b us none = subst (λ us. UppersFit b true (reverse us)) (sym none) tt

pub begun_waiting : (b : Boxes) (us : List Upper) → us ≡ [] →
    let w : Waiting = record { ready = true; boxes = b.present ∷ [] } in waiting_of b true (reverse us) ≡ w
unfolding boxes_of upper_sides
begun_waiting b us none = ap (λ us. waiting_of b true (reverse us)) none

-- an end
pub cleared_fits : (b : Boxes) (us : List Upper) → us ≡ [] → UppersFit b false (reverse us)
unfolding UppersBelow
cleared_fits b us none = subst (λ us. UppersFit b false (reverse us)) (sym none) tt

pub cleared_waiting : (b : Boxes) (us : List Upper) → us ≡ [] →
    let w : Waiting = record { ready = false; boxes = [] } in waiting_of b false (reverse us) ≡ w
unfolding boxes_of upper_sides
cleared_waiting b us none = ap (λ us. waiting_of b false (reverse us)) none

-- a close
pub closed_fits : (b : Boxes) (r : Bool) (us : List Upper) (w : Waiting) → waiting_of b r us ≡ w → IsTrue w.ready → UppersFit b r us →
    UppersBelow (length b.earlier + 1) (all_boxes b) us
closed_fits b false us w view ready h = absurd (not_ready b us w view ready)
closed_fits b true us w view ready h = fits_same (length b.earlier) (length b.earlier + 1) (all_boxes b) (all_boxes b) us h (omega arith) (λ i below. refl)

pub closed_boxes : (b : Boxes) (r : Bool) (us : List Upper) (w : Waiting) → waiting_of b r us ≡ w → IsTrue w.ready →
    waiting_of b false us ≡ after_close w
unfolding boxes_of
closed_boxes b false us w view ready = absurd (not_ready b us w view ready)
closed_boxes b true us w view ready = ap after_close view

-- a change of the present box leaves the entries
same_below : (b : Boxes) (k : ℕ) (keep : List ℤ → List ℤ) (i : ℕ) → i < length b.earlier →
    get_or (all_boxes b) i [] ≡ get_or (all_boxes (box_with k keep b)) i []
same_below b k keep i below = below_push b k keep i (omega (arith, below))

pub removed_fits : (b b' : Boxes) (r : Bool) (us : List Upper) (w : Waiting) (k : ℕ) (v : ℤ) → waiting_of b r us ≡ w → IsTrue w.ready →
    UppersFit b r us → b' ≡ box_with k (values_without v) b → UppersFit b' r us
removed_fits b b' false us w k v view ready h is = absurd (not_ready b us w view ready)
removed_fits b b' true us w k v view ready h is =
    subst (λ c. UppersFit c true us) (sym is)
    (fits_same (length b.earlier) (length (all_boxes b)) (all_boxes b) (all_boxes (box_with k (values_without v) b)) us h
    (omega (arith, length-all b)) (same_below b k (values_without v)))

pub removed_boxes : (b b' : Boxes) (r : Bool) (us : List Upper) (w : Waiting) (k : ℕ) (v : ℤ) → waiting_of b r us ≡ w → IsTrue w.ready →
    UppersFit b r us → b' ≡ box_with k (values_without v) b → waiting_of b' r us ≡ after_remove k v w
unfolding boxes_of
removed_boxes b b' false us w k v view ready h is = absurd (not_ready b us w view ready)
removed_boxes b b' true us w k v view ready h is =
    let c = box_with k (values_without v) b in
    ap (λ x. waiting_of x true us) is ∙
    ap (λ l. waiting c.present l) (sides_same (length b.earlier) (all_boxes b) (all_boxes c) us h (same_below b k (values_without v))) ∙
    ap (after_remove k v) view
  where
    waiting : List (List ℤ) → List (List (List ℤ)) → Waiting
    waiting p l = record { ready = true; boxes = p ∷ l }

-- a split: its upper side is of the box that was the present one
marked : (b : Boxes) (k : ℕ) (keep : List ℤ → List ℤ) → get_or (all_boxes (box_with k keep b)) (length b.earlier) [] ≡ b.present
marked b k keep = sym (below_push b k keep (length b.earlier) (omega arith)) ∙ last_box b

pub split_fits : (b b' : Boxes) (r : Bool) (us : List Upper) (w : Waiting) (k : ℕ) (t : ℤ) → waiting_of b r us ≡ w → IsTrue w.ready →
    UppersFit b r us → b' ≡ box_with k (values_up_to t) b → HasCell k (first w.boxes) → (values_above t (values_at k (first w.boxes)) ≡ [] → ⊥) →
    UppersFit b' r (record { mark = length b.earlier; cell = k; above = t } ∷ us)
unfolding UppersBelow
split_fits b b' false us w k t view ready h is cell stays = absurd (not_ready b us w view ready)
split_fits b b' true us w k t view ready h is cell stays =
    let same = first_is b true us w view ready ∙ sym (marked b k (values_up_to t)) in
    subst (λ c. UppersFit c true (record { mark = length b.earlier; cell = k; above = t } ∷ us)) (sym is) (
      omega (arith, length-all b),
      subst (λ x. HasCell k x) same cell,
      subst (λ x. values_above t (values_at k x) ≡ [] → ⊥) same stays,
      fits_same (length b.earlier) (length b.earlier) (all_boxes b) (all_boxes (box_with k (values_up_to t) b)) us h (omega arith)
          (same_below b k (values_up_to t)),
    )

pub split_boxes : (b b' : Boxes) (r : Bool) (us : List Upper) (w : Waiting) (k : ℕ) (t : ℤ) → waiting_of b r us ≡ w → IsTrue w.ready →
    UppersFit b r us → b' ≡ box_with k (values_up_to t) b →
    waiting_of b' r (record { mark = length b.earlier; cell = k; above = t } ∷ us) ≡ after_split k t w
unfolding boxes_of upper_sides
split_boxes b b' false us w k t view ready h is = absurd (not_ready b us w view ready)
split_boxes b b' true us w k t view ready h is =
    let c = box_with k (values_up_to t) b in
    ap (λ x. waiting_of x true (record { mark = length b.earlier; cell = k; above = t } ∷ us)) is ∙
    ap (λ x. waiting c.present x (upper_sides (all_boxes c) us)) (marked b k (values_up_to t)) ∙
    ap (λ l. waiting c.present b.present l) (sides_same (length b.earlier) (all_boxes b) (all_boxes c) us h (same_below b k (values_up_to t))) ∙
    ap (after_split k t) view
  where
    waiting : List (List ℤ) → List (List ℤ) → List (List (List ℤ)) → Waiting
    waiting p x l = record { ready = true; boxes = p ∷ high_side k t x ∷ l }

-- the entries as they are stored, the newest one last, after a split
newest : (us : List Upper) (u : Upper) → reverse (us ++ u ∷ []) ≡ u ∷ reverse us
newest us u = reverse-append us (u ∷ [])

pushed : (us mid us' : List Upper) (mark k : ℕ) (above t : ℤ) (b : Boxes) → mid ≡ us →
    us' ≡ mid ++ record { mark = mark; cell = k; above = above } ∷ [] → mark ≡ length b.earlier → above ≡ t →
    reverse us' ≡ record { mark = length b.earlier; cell = k; above = t } ∷ reverse us
pushed us mid us' mark k above t b same push place is =
    let stored = push ∙
    ap (λ l. l ++ record { mark = mark; cell = k; above = above } ∷ []) same ∙
    ap (λ m. us ++ record { mark = m; cell = k; above = above } ∷ []) place ∙
    ap (λ z. us ++ record { mark = length b.earlier; cell = k; above = z } ∷ []) is in
    ap reverse stored ∙ newest us (record { mark = length b.earlier; cell = k; above = t })

pub split_fits_at : (b b' : Boxes) (r : Bool) (us mid us' : List Upper) (w : Waiting) (k mark : ℕ) (t above : ℤ) → waiting_of b r (reverse us) ≡ w →
    IsTrue w.ready → UppersFit b r (reverse us) → b' ≡ box_with k (values_up_to above) b →
    mid ≡ us → us' ≡ mid ++ record { mark = mark; cell = k; above = above } ∷ [] → mark ≡ length b.earlier → above ≡ t → HasCell k (first w.boxes) →
    (values_above t (values_at k (first w.boxes)) ≡ [] → ⊥) → UppersFit b' r (reverse us')
split_fits_at b b' r us mid us' w k mark t above view ready h made same push place is cell stays =
    subst (λ l. UppersFit b' r l) (sym (pushed us mid us' mark k above t b same push place is))
    (split_fits b b' r (reverse us) w k t view ready h (made ∙ ap (λ z. box_with k (values_up_to z) b) is) cell stays)

pub split_boxes_at : (b b' : Boxes) (r : Bool) (us mid us' : List Upper) (w : Waiting) (k mark : ℕ) (t above : ℤ) → waiting_of b r (reverse us) ≡ w →
    IsTrue w.ready → UppersFit b r (reverse us) → b' ≡ box_with k (values_up_to above) b →
    mid ≡ us → us' ≡ mid ++ record { mark = mark; cell = k; above = above } ∷ [] → mark ≡ length b.earlier → above ≡ t →
    waiting_of b' r (reverse us') ≡ after_split k t w
split_boxes_at b b' r us mid us' w k mark t above view ready h made same push place is =
    ap (λ l. waiting_of b' r l) (pushed us mid us' mark k above t b same push place is) ∙
    split_boxes b b' r (reverse us) w k t view ready h (made ∙ ap (λ z. box_with k (values_up_to z) b) is)

-- back at the mark of the newest entry
pub mark_within : (b : Boxes) (r : Bool) (u : Upper) (us : List Upper) → UppersFit b r (u ∷ us) → u.mark ≤ length b.earlier
unfolding UppersBelow
mark_within b true u us h = omega (arith, h.0)
mark_within b false u us h = omega (arith, h.0)

upper_cell : (b : Boxes) (r : Bool) (u : Upper) (us : List Upper) → UppersFit b r (u ∷ us) →
    HasCell u.cell (get_or (all_boxes b) u.mark []) × (values_above u.above (values_at u.cell (get_or (all_boxes b) u.mark [])) ≡ [] → ⊥)
unfolding UppersBelow
upper_cell b r u us h = (h.1, h.2)

pub upper_cell_is : (b b' : Boxes) (r : Bool) (u : Upper) (us : List Upper) → UppersFit b r (u ∷ us) → b' ≡ back_to u.mark b →
    (1 ≤ u.cell) × (u.cell ≤ length b'.present)
upper_cell_is b b' r u us h is = subst (λ c. HasCell u.cell c.present) (sym is) (upper_cell b r u us h).0

pub upper_stays : (b b' : Boxes) (r : Bool) (u : Upper) (us : List Upper) (keep : List ℤ → List ℤ) → UppersFit b r (u ∷ us) → b' ≡ back_to u.mark b →
    keep ≡ values_above u.above → keep (cell_of u.cell b') ≡ [] → ⊥
upper_stays b b' r u us keep h is same none =
    (upper_cell b r u us h).1 (ap (λ c. values_above u.above (cell_of u.cell c)) (sym is) ∙ sym (ap (λ f. f (cell_of u.cell b')) same) ∙ none)

-- after the way back: the entries still wait, and nothing is present
pub back_fits : (b b' : Boxes) (u : Upper) (us : List Upper) → UppersFit b false (u ∷ us) → b' ≡ back_to u.mark b → UppersFit b' false (u ∷ us)
unfolding UppersBelow
back_fits b b' u us h is =
    let within = mark_within b false u us h in
    let size : length (back_to u.mark b).earlier ≡ u.mark = length-take-le u.mark (all_boxes b) (omega (arith, within, length-all b)) in
    subst (λ c. UppersFit c false (u ∷ us)) (sym is)
    (fits_same (u.mark + 1) (length (back_to u.mark b).earlier + 1) (all_boxes b) (all_boxes (back_to u.mark b)) (u ∷ us) (omega arith, h.1, h.2, h.3)
    (omega (arith, size)) (below_back u.mark b within))

pub back_boxes : (b b' : Boxes) (u : Upper) (us : List Upper) (w : Waiting) → waiting_of b false (u ∷ us) ≡ w → UppersFit b false (u ∷ us) →
    b' ≡ back_to u.mark b → waiting_of b' false (u ∷ us) ≡ w
unfolding boxes_of UppersBelow
back_boxes b b' u us w view h is =
    ap (λ x. waiting_of x false (u ∷ us)) is ∙
    ap (λ l. waiting l) (sides_same (u.mark + 1) (all_boxes b) (all_boxes (back_to u.mark b)) (u ∷ us) (omega arith, h.1, h.2, h.3)
    (below_back u.mark b (mark_within b false u us h))) ∙ view
  where
    waiting : List (List (List ℤ)) → Waiting
    waiting l = record { ready = false; boxes = l }

-- the newest entry's upper side is made the present box
pub made_fits : (b b' b'' : Boxes) (u : Upper) (us : List Upper) → UppersFit b false (u ∷ us) → b' ≡ back_to u.mark b →
    b'' ≡ box_with u.cell (values_above u.above) b' → UppersFit b'' true us
unfolding UppersBelow
made_fits b b' b'' u us h is made =
    let c = back_to u.mark b in
    let within = mark_within b false u us h in
    let size : length c.earlier ≡ u.mark = length-take-le u.mark (all_boxes b) (omega (arith, within, length-all b)) in
    let e = made ∙ ap (box_with u.cell (values_above u.above)) is in
    subst (λ x. UppersFit x true us) (sym e)
    (fits_same u.mark (length (all_boxes c)) (all_boxes b) (all_boxes (box_with u.cell (values_above u.above) c)) us h.3 (omega (arith, size, length-all c))
    (λ i below. below_back u.mark b within i (omega (arith, below)) ∙ below_push c u.cell (values_above u.above) i (omega (arith, size, below))))

pub made_boxes : (b b' b'' : Boxes) (u : Upper) (us : List Upper) (w : Waiting) → waiting_of b false (u ∷ us) ≡ w → UppersFit b false (u ∷ us) →
    b' ≡ back_to u.mark b → b'' ≡ box_with u.cell (values_above u.above) b' → boxes_of b'' true us ≡ w.boxes
unfolding boxes_of upper_sides UppersBelow
made_boxes b b' b'' u us w view h is made =
    let c = back_to u.mark b in
    let within = mark_within b false u us h in
    let size : length c.earlier ≡ u.mark = length-take-le u.mark (all_boxes b) (omega (arith, within, length-all b)) in
    let e = made ∙ ap (box_with u.cell (values_above u.above)) is in
    ap (λ x. boxes_of x true us) e ∙
    ap (λ l. upper_side (all_boxes b) u ∷ l)
    (sides_same u.mark (all_boxes b) (all_boxes (box_with u.cell (values_above u.above) c)) us h.3
    (λ i below. below_back u.mark b within i (omega (arith, below)) ∙ below_push c u.cell (values_above u.above) i (omega (arith, size, below)))) ∙
    ap (λ w. w.boxes) view

-- the newest entry of the stored ones
read : (us : List Upper) (i : ℕ) (u : Upper) → slice_get us i ≡ Some u → (i < length us) × (get_or us i u ≡ u)
read [] i u h = absurd (let e : None ≡ Some u = h in cc)
read (x ∷ us) zero u h = (omega arith, cc)
read (x ∷ us) (suc i) u h = let r = read us i u h in (omega (arith, r.0), r.1)

pub newest_is : (us : List Upper) (u : Upper) → slice_get us (length us - 1) ≡ Some u → reverse us ≡ u ∷ reverse (take (length us - 1) us)
newest_is us u h =
    let r = read us (length us - 1) u h in
    let parts : us ≡ take (length us - 1) us ++ u ∷ [] =
    sym (take_all (length us - 1 + 1) us (omega arith)) ∙ take_more us (length us - 1) u r.0 ∙ ap (λ x. take (length us - 1) us ++ x ∷ []) r.1 in
    ap reverse parts ∙ newest (take (length us - 1) us) u

pub none_is : (us : List Upper) → slice_get us (length us - 1) ≡ None → us ≡ []
none_is [] h = refl
none_is (u ∷ us) h =
    let e : length (u ∷ us) - 1 ≡ length us = omega arith in
    absurd (some_there (u ∷ us) (length us) (omega arith) (ap (slice_get (u ∷ us)) (sym e) ∙ h))
  where
    some_there : (us : List Upper) (i : ℕ) → i < length us → slice_get us i ≡ None → ⊥
    some_there [] i below h = omega (arith, below)
    some_there (u ∷ us) zero below h = absurd (let e : Some u ≡ None = h in cc)
    some_there (u ∷ us) (suc i) below h = some_there us i (omega (arith, below)) h

-- how the entry that is read last and the entries without it stand to the stored ones
pub newest_read : (us lent : List Upper) (o o' : Option Upper) (u : Upper) → lent ≡ us → o ≡ slice_get lent (length lent - 1) → o' ≡ o → o' ≡ Some u →
    reverse us ≡ u ∷ reverse (take (length us - 1) us)
newest_read us lent o o' u same read' copied some = newest_is us u (sym (ap (λ l. slice_get l (length l - 1)) same) ∙ sym read' ∙ sym copied ∙ some)

pub none_read : (us lent : List Upper) (o o' : Option Upper) → lent ≡ us → o ≡ slice_get lent (length lent - 1) → o' ≡ o → o' ≡ None → us ≡ []
none_read us lent o o' same read' copied none = none_is us (sym (ap (λ l. slice_get l (length l - 1)) same) ∙ sym read' ∙ sym copied ∙ none)

pub rest_read : (us us' : List Upper) (n : ℕ) (u : Upper) → n ≡ length us → us' ≡ take (n - 1) us →
    reverse us ≡ u ∷ reverse (take (length us - 1) us) → reverse us ≡ u ∷ reverse us'
rest_read us us' n u size is h = h ∙ ap (λ l. u ∷ reverse l) (ap (λ m. take (m - 1) us) (sym size) ∙ sym is)

-- whether a box waits
pub some_wait : (bs : List (List (List ℤ))) (b : List (List ℤ)) (rest : List (List (List ℤ))) → bs ≡ b ∷ rest → IsTrue true ↔ (bs ≡ [] → ⊥)
some_wait bs b rest is = ((λ yes none. let e : [] ≡ b ∷ rest = sym none ∙ is in omega (arith, ap length e)), λ some. refl)

pub ready_waits : (b : Boxes) (r : Bool) (us : List Upper) (w : Waiting) → waiting_of b r us ≡ w → r ≡ true → IsTrue true ↔ (w.boxes ≡ [] → ⊥)
ready_waits b r us w view is = some_wait w.boxes b.present (rest w.boxes) (present_is b r us w view (sym (ap (λ w. w.ready) view) ∙ is))

pub none_waits : (b : Boxes) (r : Bool) (us : List Upper) (w : Waiting) → waiting_of b r (reverse us) ≡ w → r ≡ false → us ≡ [] →
    IsTrue false ↔ (w.boxes ≡ [] → ⊥)
unfolding boxes_of upper_sides
none_waits b r us w view is none =
    let empty : w.boxes ≡ [] = sym (ap (λ w. w.boxes) view) ∙ ap (λ x. boxes_of b x (reverse us)) is ∙ ap (λ l. boxes_of b false (reverse l)) none in
    ((λ no. absurd (false≢true no)), λ some. absurd (some empty))

pub upper_waits : (b : Boxes) (r : Bool) (us us' : List Upper) (u : Upper) (w : Waiting) → waiting_of b r us ≡ w → r ≡ false → us ≡ u ∷ us' →
    IsTrue true ↔ (w.boxes ≡ [] → ⊥)
unfolding boxes_of upper_sides
upper_waits b r us us' u w view is parts =
    some_wait w.boxes (upper_side (all_boxes b) u) (upper_sides (all_boxes b) us')
    (sym (ap (λ w. w.boxes) view) ∙ ap (λ x. boxes_of b x us) is ∙ ap (λ l. boxes_of b false l) parts)

-- the calls of a way forward, over the entries newest first
pub mark_at : (b : Boxes) (r : Bool) (us us' : List Upper) (u : Upper) → us ≡ u ∷ us' → UppersFit b r us → u.mark ≤ length b.earlier
mark_at b r us us' u parts h = mark_within b r u us' (subst (λ l. UppersFit b r l) parts h)

pub cell_at : (b b' : Boxes) (r : Bool) (us us' : List Upper) (u : Upper) → us ≡ u ∷ us' → UppersFit b r us → b' ≡ back_to u.mark b →
    (1 ≤ u.cell) × (u.cell ≤ length b'.present)
cell_at b b' r us us' u parts h is = upper_cell_is b b' r u us' (subst (λ l. UppersFit b r l) parts h) is

pub stays_at : (b b' : Boxes) (r : Bool) (us us' : List Upper) (u : Upper) (keep : List ℤ → List ℤ) → us ≡ u ∷ us' → UppersFit b r us →
    b' ≡ back_to u.mark b → keep ≡ values_above u.above → keep (cell_of u.cell b') ≡ [] → ⊥
stays_at b b' r us us' u keep parts h is same = upper_stays b b' r u us' keep (subst (λ l. UppersFit b r l) parts h) is same

pub kept_fits : (b b' b'' : Boxes) (r : Bool) (us us' : List Upper) (u : Upper) → r ≡ false → us ≡ u ∷ us' → UppersFit b r us →
    b' ≡ back_to u.mark b → b'' ≡ b' → UppersFit b'' r us
kept_fits b b' b'' true us us' u is parts h back kept = absurd (false≢true (sym is))
kept_fits b b' b'' false us us' u is parts h back kept =
    subst (λ l. UppersFit b'' false l) (sym parts) (back_fits b b'' u us' (subst (λ l. UppersFit b false l) parts h) (kept ∙ back))

pub kept_boxes : (b b' b'' : Boxes) (r : Bool) (us us' : List Upper) (u : Upper) (w : Waiting) → waiting_of b r us ≡ w → r ≡ false → us ≡ u ∷ us' →
    UppersFit b r us → b' ≡ back_to u.mark b → b'' ≡ b' → waiting_of b'' r us ≡ w
kept_boxes b b' b'' true us us' u w view is parts h back kept = absurd (false≢true (sym is))
kept_boxes b b' b'' false us us' u w view is parts h back kept =
    ap (λ l. waiting_of b'' false l) parts ∙
    back_boxes b b'' u us' w (ap (λ l. waiting_of b false l) (sym parts) ∙ view) (subst (λ l. UppersFit b false l) parts h) (kept ∙ back)

pub next_fits : (b b' b'' : Boxes) (r : Bool) (us us' : List Upper) (u : Upper) (above : ℤ) → r ≡ false → us ≡ u ∷ us' → UppersFit b r us →
    b' ≡ back_to u.mark b → above ≡ u.above → b'' ≡ box_with u.cell (values_above above) b' → UppersFit b'' true us'
next_fits b b' b'' true us us' u above is parts h back same made = absurd (false≢true (sym is))
next_fits b b' b'' false us us' u above is parts h back same made =
    made_fits b b' b'' u us' (subst (λ l. UppersFit b false l) parts h) back (made ∙ ap (λ z. box_with u.cell (values_above z) b') same)

pub next_boxes : (b b' b'' : Boxes) (r : Bool) (us us' : List Upper) (u : Upper) (above : ℤ) (w : Waiting) → waiting_of b r us ≡ w → r ≡ false →
    us ≡ u ∷ us' → UppersFit b r us → b' ≡ back_to u.mark b → above ≡ u.above → b'' ≡ box_with u.cell (values_above above) b' →
    boxes_of b'' true us' ≡ w.boxes
next_boxes b b' b'' true us us' u above w view is parts h back same made = absurd (false≢true (sym is))
next_boxes b b' b'' false us us' u above w view is parts h back same made =
    made_boxes b b' b'' u us' w (ap (λ l. waiting_of b false l) (sym parts) ∙ view) (subst (λ l. UppersFit b false l) parts h) back
    (made ∙ ap (λ z. box_with u.cell (values_above z) b') same)

pub on_err : {T E P : Type 0} (r : Result T E) → P → OnErr r P
on_err (Ok v) p = tt
on_err (Err e) p = p

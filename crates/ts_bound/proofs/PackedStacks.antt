-- Packed rows on top of one another: which rows they are, and what still holds of their states.
use lib.Pointwise.{pointwise}
use Rattle.std.proofs.Common.{◌≡◌, ℕ, suc, ◌+◌, ◌*◌, ◌/◌, ◌<◌, ◌≤◌, ◌⊎◌, inl, inr, ℤ, List, [], ◌∷◌, ◌++◌, length, take, reverse, get_or, Bool, true, false, not, refl, sym, ap, ◌∙◌, subst, arith}
use Rattle.std.specs.Ordering.{int_eq}
use Rattle.std.proofs.lemmas.Bool.Decides.{Decides-int_eq}
use Rattle.std.proofs.lemmas.Slice.Eq.{slice_eq-Decides}
use Rattle.std.proofs.Math.Nat.{mul-div_cancel}
use Rattle.std.proofs.lemmas.List.{take_more, take_all, reverse-append, length-map}
use Rattle.ts_automaton.specs.declared.regs.Hull.{Hull}
use Rattle.ts_automaton.specs.Body.{Body}
use Rattle.ts_domain.specs.Boxes.{Box}
use Rattle.ts_sweep.specs.declared.packed.PackedHull.{PackedHull}
use Rattle.ts_sweep.specs.Sides.{BothEnds, has_wide, seen_hull, sides}
use Rattle.ts_row.specs.Rows.{IsRow, flat_row}
use Rattle.ts_row.proofs.Flat.{flat_length}
use Rattle.ts_bound.specs.HullTables.{row_of}
use Rattle.ts_bound.specs.PackedRows.{seen_row}
use Rattle.ts_bound.proofs.TableLaws.{length-row_of}
use Rattle.ts_bound.specs.declared.any_row.AnyRow.{AnyRow}
use Rattle.ts_bound.specs.declared.any_row.AnyRow.TheVariants.{Narrow, Upper, Lower, Wide}
use Rattle.ts_bound.specs.declared.any_row.Form.{Form}
use Rattle.ts_bound.specs.declared.any_row.Form.TheVariants.{Narrow as NarrowForm, Upper as UpperForm, Lower as LowerForm, Wide as WideForm}
use Rattle.ts_bound.specs.declared.planned.Planned.{Planned}
use Rattle.ts_bound.specs.declared.row_stack.HullRow.{HullRow}
use Rattle.ts_bound.specs.AnyRows.{IsFormOf, IsRowOf, columns, form_lanes, form_of, form_sides, lanes_of}
use Rattle.ts_bound.specs.BoxRows.{AreFirst}
use Rattle.ts_bound.specs.RowStacks.{HasStates, IsLaid, IsPlanned, Rows, hulls_in, rows_seen, seen_by, shown, values_in}
use Rattle.ts_bound.specs.RowWindows.{IsFresh}
use Rattle.ts_bound.proofs.KnownRows.{first_behind, known_at, row_at_place}
use Rattle.ts_bound.proofs.ShownRows.{fresh_shown}

-- a packed row of an automaton has its states, and its values are as many as the cell's

values_long : (s k : ℕ) (row : AnyRow) → 0 < s → IsRow (lanes_of row) s k (columns row) → values_in row ≡ k
values_long s k row some h = (h.columns 0 some).0

cancelled : (x y s : ℕ) → 0 < s → x * s ≡ y * s → x ≡ y
cancelled x y s some e = sym (mul-div_cancel x some) ∙ ap (λ z. z / s) e ∙ mul-div_cancel y some

-- the form tells how many lanes there are
pub lanes_are : (row : AnyRow) → form_lanes (form_of row) ≡ lanes_of row
lanes_are (Narrow row) = refl
lanes_are (Upper row) = refl
lanes_are (Lower row) = refl
lanes_are (Wide row) = refl

-- one end alone is kept of narrow automata only
pub form_alone : (wide : Bool) (f : Form) → IsFormOf wide f → (form_sides f ≡ BothEnds) ⊎ (wide ≡ false)
form_alone wide NarrowForm is = inl refl
form_alone wide UpperForm is = inr is
form_alone wide LowerForm is = inr is
form_alone wide WideForm is = inl refl

-- the lanes tell which ends are seen
ends_are : (p : Planned) (row : AnyRow) → form_of row ≡ p.form → sides (lanes_of row) ≡ form_sides p.form
ends_are p row same = ap sides (sym (lanes_are row)) ∙ ap form_sides same

made_row : (a : Body) (p : Planned) (before : Box) (values : List ℤ) (row : AnyRow) → IsPlanned a p → form_of row ≡ p.form → IsRowOf a before values row →
    HasStates p row × (hulls_in p.states row ≡ seen_row (form_sides p.form) (row_of a before values))
made_row a p before values row is form made =
    let n = lanes_of row in let hulls = columns row in
    let here : IsRow n p.states (length values) hulls = subst (λ s. IsRow n s (length values) hulls) (sym is.states) made.packed.is_row in
    let long : values_in row ≡ length values = values_long p.states (length values) row is.some here in (
      record { form = form; is_row = subst (λ z. IsRow n p.states z hulls) (sym long) here },
      ap (λ z. flat_row n p.states z hulls) long ∙ ap (λ s. flat_row n s (length values) hulls) is.states ∙ made.packed.is_flat
          ∙ ap (λ s. seen_row s (row_of a before values)) (ends_are p row form),
    )

-- a row just made shows all of its values
pub fresh_made : (a : Body) (p : Planned) (before : Box) (values : List ℤ) (r : HullRow) (hulls : List Hull) → IsPlanned a p →
    IsFresh (length values) r → IsRowOf a before values r.packed → HasStates p r.packed × (hulls_in p.states r.packed ≡ hulls) →
    IsLaid p r × (hulls_in p.states (shown r) ≡ hulls)
fresh_made a p before values r hulls is fresh row made =
    let long : values_in r.packed ≡ length values = (row.packed.is_row.columns 0 (subst (λ s. 0 < s) is.states is.some)).0 in
    let all = fresh_shown p r made.0 (long ∙ sym fresh.count) fresh.from (fresh.to ∙ sym fresh.count) in
    (all.0, ap (hulls_in p.states) all.1 ∙ made.1)

pub packed_row : (a : Body) (p : Planned) (before : Box) (values : List ℤ) (row : AnyRow) → IsPlanned a p → HasStates p row →
    hulls_in p.states row ≡ seen_row (form_sides p.form) (row_of a before values) → IsRowOf a before values row
packed_row a p before values row is states told =
    let n = lanes_of row in let hulls = columns row in let seen = seen_row (form_sides p.form) (row_of a before values) in
    let whole : length seen ≡ length values * length a.states =
    length-map (row_of a before values) (seen_hull (form_sides p.form)) ∙ length-row_of a before values in
    let count : values_in row * p.states ≡ length values * p.states =
    sym (flat_length n p.states (values_in row) hulls) ∙ ap length told ∙ whole ∙ ap (λ s. length values * s) (sym is.states) in
    let long : values_in row ≡ length values = cancelled (values_in row) (length values) p.states is.some count in
    let here : IsRow n p.states (length values) hulls = subst (λ z. IsRow n p.states z hulls) long states.is_row in
    record {
      width = is.form ∙ ap has_wide (ap form_lanes (sym states.form) ∙ lanes_are row);
      packed = record {
        is_row = subst (λ s. IsRow n s (length values) hulls) is.states here;
        is_flat = ap (λ s. flat_row n s (length values) hulls) (sym is.states) ∙ ap (λ z. flat_row n p.states z hulls) (sym long) ∙ told
            ∙ ap (λ s. seen_row s (row_of a before values)) (sym (ends_are p row states.form));
      };
    }

-- the row that comes after

turned_more : (cells : Box) (i : ℕ) → i < length cells → reverse (take (suc i) cells) ≡ get_or cells i [] ∷ reverse (take i cells)
turned_more cells i lt =
    let on : suc i ≡ i + 1 = omega arith in
    ap (λ m. reverse (take m cells)) on ∙ ap reverse (take_more cells i [] lt) ∙ reverse-append (take i cells) (get_or cells i [] ∷ [])

pub first_made : (a : Body) (cells : Box) (rows : Rows) (p : Planned) (values : List ℤ) (row : AnyRow) → IsPlanned a p → length rows ≡ 0 →
    length rows < length cells → values ≡ get_or cells (length rows) [] → form_of row ≡ p.form → IsRowOf a [] values row →
    HasStates p row × (hulls_in p.states row ≡ get_or (rows_seen (seen_by a p) cells) (length rows) [])
first_made a cells rows p values row is none lt is_values form made =
    let m = made_row a p [] values row is form made in
    (m.0, first_behind (seen_by a p) cells rows (hulls_in p.states row) values none lt is_values m.1)

module _ (a : Body) (cells : Box) (rows : Rows) (p : Planned) (i : ℕ) (before_values : List ℤ) (before : AnyRow) (is : IsPlanned a p)
    (h : AreFirst (seen_by a p) cells rows) (at : suc i ≡ length rows) (lt : length rows < length cells) (states : HasStates p before)
    (hulls : hulls_in p.states before ≡ get_or rows i []) (is_before : before_values ≡ get_or cells i []) where
  abbrev seen_behind : Box → List ℤ → List Hull
  seen_behind z values = seen_row (form_sides p.form) (row_of a z values)

  -- the row of the cell before
  pub packed_before : IsRowOf a (reverse (take i cells)) before_values before
  packed_before =
      packed_row a p (reverse (take i cells)) before_values before is states
      (hulls ∙ known_at (seen_by a p) cells rows i h (omega (arith, at)) ∙ row_at_place (seen_by a p) cells i (omega (arith, at, lt))
      ∙ ap (seen_behind (reverse (take i cells))) (sym is_before))

  pub next_made : (values : List ℤ) (row : AnyRow) → values ≡ get_or cells (length rows) [] → form_of row ≡ p.form →
      ((b : Box) → IsRowOf a b before_values before → IsRowOf a (before_values ∷ b) values row) →
      HasStates p row × (hulls_in p.states row ≡ get_or (rows_seen (seen_by a p) cells) (length rows) [])
  next_made values row is_values form made =
      let m = made_row a p (before_values ∷ reverse (take i cells)) values row is form (made (reverse (take i cells)) packed_before) in (
        m.0,
        m.1 ∙ ap (λ v. seen_behind (v ∷ reverse (take i cells)) values) is_before
            ∙ ap (λ z. seen_behind z values) (sym (turned_more cells i (omega (arith, at, lt))) ∙ ap (λ n. reverse (take n cells)) at)
            ∙ ap (seen_behind (reverse (take (length rows) cells))) is_values ∙ sym (row_at_place (seen_by a p) cells (length rows) lt),
      )

-- two lists that have the same at each place

pub same_on : {X : Type 0} (xs ys : List X) (i : ℕ) (d e : X) → take i xs ≡ take i ys → i < length xs → length xs ≡ length ys → get_or xs i d ≡ get_or ys i e →
    take (i + 1) xs ≡ take (i + 1) ys
same_on xs ys i d e front lt long is =
    take_more xs i d lt ∙ ap (λ l. l ++ get_or xs i d ∷ []) front ∙ ap (λ x. take i ys ++ x ∷ []) is ∙ sym (take_more ys i e (omega (arith, lt, long)))

pub yes : (b : Bool) → not b ≡ false → b ≡ true
yes true e = refl
yes false e = sym e

lanes_same : (n : ℕ) (x y : PackedHull n) (told : Bool) → told ≡ not (pointwise int_eq x.at y.at) → told ≡ false → x ≡ y
lanes_same n x y told is isnt =
    ap (λ xs. record { at = xs })
    ((slice_eq-Decides Decides-int_eq x.at y.at (pointwise int_eq x.at y.at) refl).0 (yes (pointwise int_eq x.at y.at) (sym is ∙ isnt)))

pub same_hulls_on : (n : ℕ) (xs ys : List (PackedHull n)) (i : ℕ) (x y : PackedHull n) (told : Bool) → take i xs ≡ take i ys → i < length xs →
    length xs ≡ length ys → x ≡ get_or xs i x → y ≡ get_or ys i y → told ≡ not (pointwise int_eq x.at y.at) → told ≡ false →
    take (i + 1) xs ≡ take (i + 1) ys
same_hulls_on n xs ys i x y told front lt long is_x is_y is isnt =
    same_on xs ys i x y front lt long (sym is_x ∙ lanes_same n x y told is isnt ∙ is_y)

pub told_same : (xs ys : List ℤ) (told : Bool) → told ≡ not (pointwise int_eq xs ys) → told ≡ false → xs ≡ ys
told_same xs ys told is isnt =
    (slice_eq-Decides Decides-int_eq xs ys (pointwise int_eq xs ys) refl).0 (yes (pointwise int_eq xs ys) (sym is ∙ isnt))

pub rest_same : (xs ys : List ℤ) (n m : ℕ) (told : Bool) → told ≡ not (pointwise int_eq (take n xs) (take m ys)) → told ≡ false → length xs ≤ n →
    length ys ≤ m →
    xs ≡ ys
rest_same xs ys n m told is isnt le le' =
    sym (take_all n xs le)
    ∙ (slice_eq-Decides Decides-int_eq (take n xs) (take m ys) (pointwise int_eq (take n xs) (take m ys)) refl).0
    (yes (pointwise int_eq (take n xs) (take m ys)) (sym is ∙ isnt))
    ∙ take_all m ys le'

pub all_same : {X : Type 0} (xs ys : List X) (i : ℕ) → take i xs ≡ take i ys → length xs ≤ i → length xs ≡ length ys → xs ≡ ys
all_same xs ys i e l long = sym (take_all i xs l) ∙ e ∙ take_all i ys (omega (arith, l, long))

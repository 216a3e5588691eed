-- Lists of rows as a stack holds them: what a step with one of them makes of the stack.
use Rattle.std.proofs.Common.{◌≡◌, ℕ, ◌+◌, ◌*◌, ◌<◌, ◌≤◌, ◌≢◌, ◌⊎◌, inl, inr, ℤ, List, [], ◌∷◌, ◌++◌, length, map, take, drop, set, get_or, refl, sym, ap, ◌∙◌, subst, arith}
use Rattle.std.specs.Prelude.{All}
use Rattle.std.specs.List.{slice_range}
use Rattle.std.proofs.Math.ListN.{get_or-map}
use Rattle.std.proofs.Math.Seq.{map-set_same}
use Rattle.std.proofs.lemmas.List.{take-map, drop-map, get_or-map as get_or_mapped, get_or-take, get_or-append-add, get_or_append_left, get_or-set_same, get_or-set_other, map-append, map-set, length-map, length-take}
use Rattle.std.proofs.lemmas.List.Elements.{All-append, All-cons, All-get_or, All-take, All-drop}
use Rattle.ts_bound.specs.declared.any_row.AnyRow.{AnyRow}
use Rattle.ts_bound.specs.declared.gone.Gone.{Gone}
use Rattle.ts_bound.specs.declared.planned.Planned.{Planned}
use Rattle.ts_bound.specs.declared.row_stack.HullRow.{HullRow}
use Rattle.ts_bound.specs.AnyRows.{columns, row_part}
use Rattle.ts_bound.specs.RowStacks.{HasStates, IsFilled, IsLaid, IsLess, IsOneMore, IsShown, Kept, NoneKept, Stack, all_hulls, all_kept, hulls_in, kept_at, kept_in, nothing_kept, shown, values_in, with_row, without}
use Rattle.ts_bound.specs.RowWindows.{AreForgotten, HasLost, Shows}
use Rattle.ts_bound.proofs.LaidRows.{above_row, pushed, put_within, row_count, stack}
use Rattle.ts_bound.proofs.WithoutValues.{made_part, made_without}

-- what is shown of a row

pub shown_laid : (p : Planned) (r : HullRow) → IsLaid p r → HasStates p (shown r)
    × (hulls_in p.states (shown r) ≡ slice_range (hulls_in p.states r.packed) (r.from * p.states) (r.to * p.states))
shown_laid p r h = let to = h.to in let count = h.count in made_part p r.from r.to r.packed h.states h.from (omega (arith, to, count))

pub shown_states : (p : Planned) (r : HullRow) (row : AnyRow) → IsLaid p r → row ≡ shown r → length (columns row) ≡ p.states
shown_states p r row h is = ap (λ (a : AnyRow). length (columns a)) is ∙ (shown_laid p r h).0.is_row.len

-- the row at a place
pub laid_at : (p : Planned) (rows : List HullRow) (k : ℕ) (row : HullRow) → All (IsLaid p) rows → k < length rows → row ≡ get_or rows k row → IsLaid p row
laid_at p rows k row laid lt is_row = subst (IsLaid p) (sym is_row) (All-get_or (IsLaid p) rows k row lt laid)

pub laid_shows : (p : Planned) (now : List ℤ) (old new : HullRow) → IsLaid p old → Shows now old new → IsLaid p new
laid_shows p now old new h z = record {
  states = subst (HasStates p) (sym z.packed) h.states;
  count = ap values_in z.packed ∙ h.count ∙ sym z.count;
  from = z.ordered;
  to = z.within;
}

-- a list with another row at a place

module _ {X : Type 0} (at : ℕ) (x d : X) (xs : List X) (le : at ≤ length xs) where
  front_long : length (take at xs) ≡ at
  front_long = let l = length-take at xs in omega (arith, l, le)

  at_row : get_or (with_row at x xs) at d ≡ x
  at_row =
      let here : at ≡ length (take at xs) + 0 = (let l = front_long in omega (arith, l)) in
      ap (λ j. get_or (with_row at x xs) j d) here ∙ get_or-append-add (take at xs) (x ∷ drop (at + 1) xs) 0 d

  at_others : (i : ℕ) → i ≢ at → get_or (with_row at x xs) i d ≡ get_or xs i d
  at_others i ne = go (sides i at ne)
    where
      sides : (i j : ℕ) → i ≢ j → (i < j) ⊎ (j < i)
      sides i j ne = grind (arith, ne)

      go : (i < at) ⊎ (at < i) → get_or (with_row at x xs) i d ≡ get_or xs i d
      go (inl lt) =
          let long = front_long in
          get_or_append_left (take at xs) (x ∷ drop (at + 1) xs) d i (omega (arith, long, lt)) ∙ get_or-take at xs i d lt
      go (inr lt) = above_row xs at x d i le lt

map_with_row : {X Y : Type 0} (f : X → Y) (at : ℕ) (x : X) (xs : List X) → map f (with_row at x xs) ≡ with_row at (f x) (map f xs)
map_with_row f at x xs =
    map-append f (take at xs) (x ∷ drop (at + 1) xs) ∙ ap (λ l. l ++ f x ∷ map f (drop (at + 1) xs)) (sym (take-map f at xs))
    ∙ ap (λ l. take at (map f xs) ++ f x ∷ l) (sym (drop-map f (at + 1) xs))

all_with_row : {X : Type 0} (P : X → Type 0) (at : ℕ) (x : X) (xs : List X) → All P xs → P x → All P (with_row at x xs)
all_with_row P at x xs h is =
    All-append P (take at xs) (x ∷ drop (at + 1) xs) (All-take P at xs h) (All-cons P x (drop (at + 1) xs) is (All-drop P (at + 1) xs h))

-- values that are no longer kept

pub none_forgotten : (from : ℕ) (rows : List HullRow) → AreForgotten from from rows rows
none_forgotten from rows = record {
  hulls = λ s. refl;
  laid = λ p h. h;
  kept = λ s i out. refl;
  none = λ s i le lt. absurd (omega (arith, le, lt));
}

pub forgotten_long : (from to : ℕ) (old new : List HullRow) → AreForgotten from to old new → length new ≡ length old
forgotten_long from to old new f =
    sym (length-map new (λ (r : HullRow). hulls_in 0 (shown r))) ∙ ap length (f.hulls 0) ∙ length-map old (λ (r : HullRow). hulls_in 0 (shown r))

pub one_forgotten : (from i : ℕ) (old mid : List HullRow) (row left : HullRow) → AreForgotten from i old mid → from ≤ i → i < length mid →
    row ≡ get_or mid i row → left.packed ≡ row.packed → left.count ≡ row.count → left.from ≡ row.from → left.to ≡ row.to → left.values.items ≡ [] →
    AreForgotten from (i + 1) old (set mid i left)
one_forgotten from i old mid row left f le lt is packed count first last none = record {
  hulls = λ s.
      map-set_same (λ (r : HullRow). hulls_in s (shown r)) mid i left row
      (ap (hulls_in s) same ∙ ap (λ (r : HullRow). hulls_in s (shown r)) is) ∙ f.hulls s;
  laid = λ p h.
      let now = f.laid p h in
      let here = subst (IsLaid p) (sym is) (All-get_or (IsLaid p) mid i row lt now) in
      subst (All (IsLaid p)) (sym (put_within mid i left lt)) (all_with_row (IsLaid p) i left mid now (record {
        states = subst (HasStates p) (sym packed) here.states;
        count = ap values_in packed ∙ here.count ∙ sym count;
        from = (let order = here.from in omega (arith, order, first, last));
        to = (let within = here.to in omega (arith, within, last, count));
      }));
  kept = λ s j out. others s j (outside j out) ∙ f.kept s j (before j out);
  none = λ s j at less. go s j at less (same_place j);
}
  where
    same : shown left ≡ shown row
    same =
        ap (λ (r : AnyRow). row_part left.from left.to r) packed ∙ ap (λ a. row_part a left.to row.packed) first
        ∙ ap (λ a. row_part row.from a row.packed) last

    outside : (j : ℕ) → (j < from) ⊎ (i + 1 ≤ j) → j ≢ i
    outside j (inl lt) = λ e. omega (arith, lt, e, le)
    outside j (inr more) = λ e. omega (arith, more, e)

    before : (j : ℕ) → (j < from) ⊎ (i + 1 ≤ j) → (j < from) ⊎ (i ≤ j)
    before j (inl lt) = inl lt
    before j (inr more) = inr (omega (arith, more))

    same_place : (j : ℕ) → (j ≡ i) ⊎ (j ≢ i)
    same_place j = grind arith

    others : (s j : ℕ) → j ≢ i → kept_at (all_kept s (set mid i left)) j ≡ kept_at (all_kept s mid) j
    others s j ne =
        ap (λ l. kept_at l j) (map-set (kept_in s) mid i left) ∙ get_or-set_other (all_kept s mid) i j (kept_in s left) nothing_kept ne

    go : (s j : ℕ) → from ≤ j → j < i + 1 → (j ≡ i) ⊎ (j ≢ i) → (kept_at (all_kept s (set mid i left)) j).values ≡ []
    go s j at less (inl e) =
        ap (λ k. (kept_at (all_kept s (set mid i left)) k).values) e
        ∙ ap (λ l. (kept_at l i).values) (map-set (kept_in s) mid i left)
        ∙ ap (λ (w : Kept). w.values)
        (get_or-set_same (all_kept s mid) i (kept_in s left) nothing_kept (let l = length-map mid (kept_in s) in omega (arith, l, lt))) ∙ none
    go s j at less (inr ne) = ap (λ (w : Kept). w.values) (others s j ne) ∙ f.none s j at (omega (arith, less, ne))

-- a stack of these rows, of which the first k are known
abbrev pub held : Planned → List HullRow → ℕ → ℕ → Stack
held p rows k from = stack p (all_hulls p.states rows) k from (all_kept p.states rows)

pub long_hulls : (s k : ℕ) (rows : List HullRow) → k ≤ length rows → k ≤ length (all_hulls s rows)
long_hulls s k rows le = let l = length-map rows (λ (r : HullRow). hulls_in s (shown r)) in omega (arith, l, le)

-- a known row
pub known_laid : (p : Planned) (rows : List HullRow) (k from i : ℕ) (row : HullRow) (s : Stack) → held p rows k from ≡ s → k ≤ length rows →
    All (IsLaid p) rows → i < length s.known → row ≡ get_or rows i row → IsLaid p row
known_laid p rows k from i row s is le laid lt is_row =
    let here : i < length (take k (all_hulls p.states rows)) = subst (λ (t : Stack). i < length t.known) (sym is) lt in
    let front = length-take k (all_hulls p.states rows) in let count = length-map rows (λ (r : HullRow). hulls_in p.states (shown r)) in
    subst (IsLaid p) (sym is_row) (All-get_or (IsLaid p) rows i row (omega (arith, here, front, count, le)) laid)

pub row_inside : (p : Planned) (rows : List HullRow) (k from : ℕ) (s : Stack) → held p rows k from ≡ s → k ≤ length rows →
    length s.known < length s.laid.rows → k < length rows
row_inside p rows k from s is le lt =
    let all = all_hulls p.states rows in
    let here : length (take k all) < length all = subst (λ (t : Stack). length t.known < length t.laid.rows) (sym is) lt in
    let front = length-take k all in let count = length-map rows (λ (r : HullRow). hulls_in p.states (shown r)) in
    omega (arith, here, front, count, le)

-- the first rows stay known alone

module _ (p : Planned) (rows new : List HullRow) (k from count m : ℕ) (f : AreForgotten (count + 1) m rows new)
    (none : NoneKept m (all_kept p.states rows)) where
  none_above : NoneKept (count + 1) (all_kept p.states new)
  none_above i above = go (either i m)
    where
      either : (i j : ℕ) → (i < j) ⊎ (j ≤ i)
      either i j = grind arith

      go : (i < m) ⊎ (m ≤ i) → (kept_at (all_kept p.states new) i).values ≡ []
      go (inl lt) = f.none p.states i above lt
      go (inr out) = ap (λ (w : Kept). w.values) (f.kept p.states i (inr out)) ∙ none i out

  pub forgotten_invariant : k ≤ length rows → All (IsLaid p) rows → m ≤ length rows → count < m →
      (k ≤ length new) × All (IsLaid p) new × (count + 1 ≤ length new) × NoneKept (count + 1) (all_kept p.states new)
  forgotten_invariant le laid within lt =
      let long = ap length (f.hulls p.states) in let here = length-map new (λ (r : HullRow). hulls_in p.states (shown r)) in
      let there = length-map rows (λ (r : HullRow). hulls_in p.states (shown r)) in
      (omega (arith, long, here, there, le), f.laid p laid, omega (arith, long, here, there, within, lt), none_above)

-- a row that has the same hulls as the one at a place
pub standing_row : (s k : ℕ) (rows : List HullRow) (here d row : HullRow) → here ≡ get_or rows k d → shown here ≡ shown row →
    hulls_in s (shown row) ≡ get_or (all_hulls s rows) k (hulls_in s (shown d))
standing_row s k rows here d row is same =
    ap (hulls_in s) (sym same) ∙ ap (λ (r : HullRow). hulls_in s (shown r)) is ∙ sym (get_or-map (λ (r : HullRow). hulls_in s (shown r)) rows k d)

-- a row comes to place k, in the place of another or above all

module _ (p : Planned) (rows new : List HullRow) (k from : ℕ) (row : HullRow) (le : k ≤ length rows) (is_new : new ≡ with_row k row rows) where
  kept_list : all_kept p.states new ≡ with_row k (kept_in p.states row) (all_kept p.states rows)
  kept_list = ap (all_kept p.states) is_new ∙ map_with_row (kept_in p.states) k row rows

  long_kept : k ≤ length (all_kept p.states rows)
  long_kept = let l = length-map rows (kept_in p.states) in omega (arith, l, le)

  kept_here : kept_at (all_kept p.states new) k ≡ kept_in p.states row
  kept_here = ap (λ l. kept_at l k) kept_list ∙ at_row k (kept_in p.states row) nothing_kept (all_kept p.states rows) long_kept

  kept_others : (i : ℕ) → i ≢ k → kept_at (all_kept p.states new) i ≡ kept_at (all_kept p.states rows) i
  kept_others i ne =
      ap (λ l. kept_at l i) kept_list ∙ at_others k (kept_in p.states row) nothing_kept (all_kept p.states rows) long_kept i ne

  -- the row that came to place k is known too
  pub held_more : (next : ℕ) (old : Stack) → held p rows k from ≡ old → from ≤ next → k + 1 ≤ next →
      IsOneMore (hulls_in p.states (shown row)) (kept_in p.states row) old (held p new (k + 1) next)
  held_more next old is to above =
      pushed p (all_hulls p.states rows) (all_hulls p.states new) k from next (all_kept p.states rows) (all_kept p.states new)
      (hulls_in p.states (shown row)) (kept_in p.states row) old is (long_hulls p.states k rows le)
      (ap (all_hulls p.states) is_new ∙ map_with_row (λ (r : HullRow). hulls_in p.states (shown r)) k row rows) to above kept_here kept_others

  -- values are kept below place n alone
  pub held_invariant : (m n : ℕ) → All (IsLaid p) rows → IsLaid p row → m ≤ length rows → NoneKept m (all_kept p.states rows) → m ≤ n →
      (n ≡ m) ⊎ (n ≡ k + 1) → (row.values.items ≡ []) ⊎ (k < n) →
      (k + 1 ≤ length new) × All (IsLaid p) new × (n ≤ length new) × NoneKept n (all_kept p.states new)
  held_invariant m n laid is within none more one here =
      let long = ap length is_new ∙ row_count rows k row le in (
        omega (arith, long),
        subst (All (IsLaid p)) (sym is_new) (all_with_row (IsLaid p) k row rows laid is),
        inside one,
        λ i above. go i above here (place i),
      )
    where
      inside : (n ≡ m) ⊎ (n ≡ k + 1) → n ≤ length new
      inside (inl e) = let long = ap length is_new ∙ row_count rows k row le in omega (arith, long, e, within)
      inside (inr e) = let long = ap length is_new ∙ row_count rows k row le in omega (arith, long, e)

      place : (i : ℕ) → (i ≡ k) ⊎ (i ≢ k)
      place i = grind arith

      go : (i : ℕ) → n ≤ i → (row.values.items ≡ []) ⊎ (k < n) → (i ≡ k) ⊎ (i ≢ k) → (kept_at (all_kept p.states new) i).values ≡ []
      go i above (inl e) (inl same) = ap (λ j. (kept_at (all_kept p.states new) j).values) same ∙ ap (λ (w : Kept). w.values) kept_here ∙ e
      go i above (inr lt) (inl same) = absurd (omega (arith, above, lt, same))
      go i above e (inr ne) = ap (λ (w : Kept). w.values) (kept_others i ne) ∙ none i (omega (arith, more, above))

-- the row at place k becomes another

module _ (p : Planned) (rows : List HullRow) (k from next : ℕ) (row left : HullRow) (old : Stack) (is : held p rows k from ≡ old) (lt : k < length rows)
    (laid : All (IsLaid p) rows) (is_row : row ≡ get_or rows k row) (to : from ≤ next) (above : k + 1 ≤ next) where
  abbrev after : List HullRow
  after = set rows k left

  is_after : after ≡ with_row k left rows
  is_after = put_within rows k left lt

  pub row_laid : IsLaid p row
  row_laid = subst (IsLaid p) (sym is_row) (All-get_or (IsLaid p) rows k row lt laid)

  known_long : length (take k (all_hulls p.states rows)) ≡ k
  known_long =
      let front = length-take k (all_hulls p.states rows) in let all = length-map rows (λ (r : HullRow). hulls_in p.states (shown r)) in
      omega (arith, front, all, lt)

  hulls_there : get_or (all_hulls p.states rows) (length (take k (all_hulls p.states rows))) [] ≡ hulls_in p.states (shown row)
  hulls_there =
      ap (λ n. get_or (all_hulls p.states rows) n []) known_long ∙ get_or_mapped (λ (r : HullRow). hulls_in p.states (shown r)) rows k row [] lt
      ∙ ap (λ (r : HullRow). hulls_in p.states (shown r)) (sym is_row)

  kept_there : kept_at (all_kept p.states rows) (length (take k (all_hulls p.states rows))) ≡ kept_in p.states row
  kept_there =
      ap (kept_at (all_kept p.states rows)) known_long ∙ get_or_mapped (kept_in p.states) rows k row nothing_kept lt
      ∙ ap (kept_in p.states) (sym is_row)

  more : IsOneMore (hulls_in p.states (shown left)) (kept_in p.states left) (held p rows k from) (held p after (k + 1) next)
  more = held_more p rows after k from left (omega (arith, lt)) is_after next (held p rows k from) refl to above

  -- the row at place k without values that are gone
  pub held_less : (g : Gone) (before : List ℤ) → HasLost g before row left → IsLess g before old (held p after (k + 1) next)
  held_less g before z =
      let l = z.kept p row_laid in let s = p.states in let made = made_without p g.from g.to (shown row) (shown_laid p row row_laid).0 in
      subst (λ o. IsLess g before o (held p after (k + 1) next)) is (record {
        filled = l.0;
        is_filled = subst (λ r. IsFilled before r (kept_at (all_kept s rows) (length (take k (all_hulls s rows)))) l.0) (sym hulls_there)
            (subst (λ w. IsFilled before (hulls_in s (shown row)) w l.0) (sym kept_there) l.1);
        kept = kept_in s left;
        is_kept = l.2;
        more = subst (λ r. IsOneMore r (kept_in s left) (held p rows k from) (held p after (k + 1) next))
            (ap (hulls_in s) z.hulls ∙ made.1 ∙ ap (without s g) (sym hulls_there)) more;
      })

  -- the row at place k with the values that it shows again
  pub held_shown : (now : List ℤ) → Shows now row left → IsShown now old (held p after (k + 1) next)
  held_shown now z =
      let s = p.states in let here = kept_in s row in
      let same : kept_in s left ≡ here =
      ap (λ vs. record { values = vs; hulls = hulls_in s left.packed }) z.values
      ∙ ap (λ (r : AnyRow). record { values = row.values.items; hulls = hulls_in s r }) z.packed in
      subst (λ o. IsShown now o (held p after (k + 1) next)) is (record {
        there = (let all = length-map rows (λ (r : HullRow). hulls_in s (shown r)) in let front = known_long in omega (arith, all, front, lt));
        kept = here;
        is_kept = sym kept_there;
        some = z.some;
        from = left.from;
        to = left.to;
        values = z.found;
        more = subst (λ r. IsOneMore r here (held p rows k from) (held p after (k + 1) next))
            ((shown_laid p left (laid_shows p now row left row_laid z)).1
            ∙ ap (λ (r : AnyRow). slice_range (hulls_in s r) (left.from * s) (left.to * s)) z.packed)
            (subst (λ w. IsOneMore (hulls_in s (shown left)) w (held p rows k from) (held p after (k + 1) next)) same more);
      })

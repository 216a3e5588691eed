-- Rows above those that are known: what a change leaves of them, and when they are known too.
use Rattle.std.proofs.Common.{◌≡◌, ℕ, zero, suc, ◌+◌, ◌-◌, ◌*◌, ◌<◌, ◌≤◌, ◌≢◌, ◌⊎◌, inl, inr, ℤ, List, [], ◌∷◌, ◌++◌, length, take, drop, reverse, set, get_or, Option, Some, None, refl, sym, ap, ◌∙◌, subst, arith}
use Rattle.std.specs.List.{remove_range, slice_range}
use Rattle.std.proofs.lemmas.List.{append_assoc, get_or_default, take_at, take_more, take_all, take-take, set_split, get_or-take, get_or-drop, get_or-append-add, length-append, length-take, length-drop}
use Rattle.ts_automaton.specs.declared.regs.Hull.{Hull}
use Rattle.ts_automaton.specs.Body.{Body}
use Rattle.ts_domain.specs.Boxes.{Box}
use Rattle.ts_bound.specs.HullTables.{row_of}
use Rattle.ts_bound.specs.PackedRows.{seen_row}
use Rattle.ts_bound.specs.declared.gone.Gone.{Gone}
use Rattle.ts_bound.specs.declared.planned.Planned.{Planned}
use Rattle.ts_bound.specs.Gone.{AreLost}
use Rattle.ts_bound.specs.BoxRows.{AreFirst, AreRows}
use Rattle.ts_bound.specs.RowStacks.{AreKept, Rows, Kept, Laid, Sight, Stack, IsFilled, IsFollowed, GoOn, IsKept, IsLess, IsLessened, IsPlanned, IsSound, Stands, IsOneMore, IsTruncated, IsKnownAt, IsLeft, IsRestored, IsShown, IsSpliced, kept_at, next_seen, rows_seen, seen_by, with_row, without}
use Rattle.ts_bound.proofs.KnownRows.{few_known, known_at, one_more, row_at_place, row_on_seen, stay_first}
use Rattle.ts_bound.proofs.WithoutValues.{row_lost, row_slice}

-- rows that are known

followed_by : (a : Sight) → IsSound a → (cells : Box) (rows : Rows) (i : ℕ) → i + 1 < length cells →
    get_or rows i [] ≡ get_or (rows_seen a cells) i [] → get_or rows (i + 1) [] ≡ get_or (rows_seen a cells) (i + 1) [] → IsFollowed a cells rows i
followed_by a sound cells rows i lt here there =
    there ∙ row_on_seen a sound cells i lt ∙ ap (λ r. next_seen a (get_or cells i []) r (get_or cells (i + 1) [])) (sym here)

pub known_go_on : (a : Sight) → IsSound a → (cells : Box) (rows : Rows) (from : ℕ) → AreFirst a cells rows → GoOn a cells rows from
known_go_on a sound cells rows from h =
    let few = few_known a cells rows h in
    record {
      few = few;
      each = λ i le lt. followed_by a sound cells rows i (omega (arith, lt, few)) (known_at a cells rows i h (omega (arith, lt)))
          (known_at a cells rows (i + 1) h lt);
    }

-- what a change leaves

rest_at : (b later : Box) (end i : ℕ) → drop end later ≡ drop end b → end ≤ i → get_or later i [] ≡ get_or b i []
rest_at b later end i same le =
    let sum : end + (i - end) ≡ i = omega (arith, le) in
    ap (λ j. get_or later j []) (sym sum) ∙ sym (get_or-drop end later (i - end) []) ∙ ap (λ l. get_or l (i - end) []) same
    ∙ get_or-drop end b (i - end) [] ∙ ap (λ j. get_or b j []) sum

pub still_go_on : (a : Sight) (b later : Box) (rows : Rows) (from end next : ℕ) → GoOn a b rows from → length later ≡ length b → drop end later ≡ drop end b →
    from ≤ next → end ≤ next → GoOn a later rows next
still_go_on a b later rows from end next g count same le to = record {
  few = subst (λ n. length rows ≤ n) (sym count) g.few;
  each = λ i l lt.
      let here = rest_at b later end i same (omega (arith, to, l)) in let there = rest_at b later end (i + 1) same (omega (arith, to, l)) in
      g.each i (omega (arith, le, l)) lt ∙ ap (λ v. next_seen a v (get_or rows i []) (get_or b (i + 1) [])) (sym here)
      ∙ ap (next_seen a (get_or later i []) (get_or rows i [])) (sym there);
}

pub laid_stay : (a : Sight) → IsSound a → (b later : Box) (end : ℕ) (known : Rows) (old new : Laid) → AreFirst a b known → GoOn a b old.rows old.from →
    (known ≡ old.rows) ⊎ (old.from ≤ new.from) → new.rows ≡ old.rows → end ≤ new.from → length later ≡ length b → drop end later ≡ drop end b →
    GoOn a later new.rows new.from
laid_stay a sound b later end known old new h g (inl all) is to count same =
    subst (λ r. GoOn a later r new.from) (sym is)
    (still_go_on a b later old.rows 0 end new.from (subst (λ r. GoOn a b r 0) all (known_go_on a sound b known 0 h)) count same (omega arith) to)
laid_stay a sound b later end known old new h g (inr le) is to count same =
    subst (λ r. GoOn a later r new.from) (sym is) (still_go_on a b later old.rows old.from end new.from g count same le to)

-- a row that is known, in the place of one that lay there before

pub put_within : {X : Type 0} (rows : List X) (at : ℕ) (row : X) → at < length rows → set rows at row ≡ with_row at row rows
put_within rows at row lt = let on : suc at ≡ at + 1 = omega arith in set_split rows at row lt ∙ ap (λ n. take at rows ++ row ∷ drop n rows) on

pub above_row : {X : Type 0} (rows : List X) (at : ℕ) (row d : X) (i : ℕ) → at ≤ length rows → at < i →
    get_or (with_row at row rows) i d ≡ get_or rows i d
above_row rows at row d i le lt =
    let long : length (take at rows) ≡ at = omega (arith, length-take at rows, le) in
    let sum : length (take at rows) + suc (i - (at + 1)) ≡ i = omega (arith, long, lt) in
    let whole : at + 1 + (i - (at + 1)) ≡ i = omega (arith, lt) in
    ap (λ j. get_or (with_row at row rows) j d) (sym sum) ∙ get_or-append-add (take at rows) (row ∷ drop (at + 1) rows) (suc (i - (at + 1))) d
    ∙ get_or-drop (at + 1) rows (i - (at + 1)) d ∙ ap (λ j. get_or rows j d) whole

pub row_count : {X : Type 0} (rows : List X) (at : ℕ) (row : X) → at ≤ length rows → length (with_row at row rows) ≡ at + 1 + (length rows - (at + 1))
row_count rows at row le =
    let l = length-append (take at rows) (row ∷ drop (at + 1) rows) in let t = length-take at rows in let d = length-drop (at + 1) rows in
    omega (arith, l, t, d, le)

with_row_go_on : (a : Sight) (cells : Box) (rows : Rows) (at : ℕ) (row : List Hull) (from next : ℕ) → GoOn a cells rows from → at ≤ length rows →
    at < length cells → from ≤ next → at < next → GoOn a cells (with_row at row rows) next
with_row_go_on a cells rows at row from next g le lt to above =
    let few = g.few in let count = row_count rows at row le in
    record {
      few = omega (arith, count, few, lt);
      each = λ i l there.
          above_row rows at row [] (i + 1) le (omega (arith, l, above)) ∙ g.each i (omega (arith, to, l)) (omega (arith, there, count, l, above))
          ∙ ap (λ r. next_seen a (get_or cells i []) r (get_or cells (i + 1) [])) (sym (above_row rows at row [] i le (omega (arith, l, above))));
    }

-- a row that stood there before, from which the rows above go on

more_known : (a : Sight) → IsSound a → (cells : Box) (rows : Rows) (from k : ℕ) → GoOn a cells rows from → from < k → k < length rows →
    AreFirst a cells (take k rows) → AreFirst a cells (take (k + 1) rows)
more_known a sound cells rows from k g le lt h =
    let few = g.few in
    let long : length (take k rows) ≡ k = omega (arith, length-take k rows, lt) in
    let back : k - 1 + 1 ≡ k = omega (arith, le) in
    let all = rows_seen a cells in
    let here : get_or rows (k - 1) [] ≡ get_or all (k - 1) [] =
    sym (get_or-take k rows (k - 1) [] (omega (arith, le))) ∙ known_at a cells (take k rows) (k - 1) h (omega (arith, long, le)) in
    let step : get_or rows (k - 1 + 1) [] ≡ get_or all (k - 1 + 1) [] =
    g.each (k - 1) (omega (arith, le)) (omega (arith, back, lt))
    ∙ ap (λ r. next_seen a (get_or cells (k - 1) []) r (get_or cells (k - 1 + 1) [])) here
    ∙ sym (row_on_seen a sound cells (k - 1) (omega (arith, back, lt, few))) in
    let row : get_or rows k [] ≡ get_or all (length (take k rows)) [] =
    ap (λ j. get_or rows j []) (sym back) ∙ step ∙ ap (λ j. get_or all j []) (back ∙ sym long) in
    subst (AreFirst a cells) (sym (take_more rows k [] lt))
    (one_more a cells (take k rows) (get_or rows k []) h (omega (arith, long, lt, few)) row)

known_up_to : (a : Sight) → IsSound a → (cells : Box) (rows : Rows) (from k d : ℕ) → GoOn a cells rows from → from < k → k + d ≤ length rows →
    AreFirst a cells (take k rows) →
    AreFirst a cells (take (k + d) rows)
known_up_to a sound cells rows from k zero g le to h = let same : k ≡ k + 0 = omega arith in subst (λ m. AreFirst a cells (take m rows)) same h
known_up_to a sound cells rows from k (suc d) g le to h =
    let same : k + d + 1 ≡ k + suc d = omega arith in
    subst (λ m. AreFirst a cells (take m rows)) same
    (more_known a sound cells rows from (k + d) g (omega (arith, le)) (omega (arith, to)) (known_up_to a sound cells rows from k d g le (omega (arith, to)) h))

pub all_known : (a : Sight) → IsSound a → (cells : Box) (rows : Rows) (from k : ℕ) → GoOn a cells rows from → from ≤ k → k < length rows →
    AreFirst a cells (take k rows) →
    get_or rows k [] ≡ get_or (rows_seen a cells) k [] → AreFirst a cells rows
all_known a sound cells rows from k g le lt h is =
    let few = g.few in
    let long : length (take k rows) ≡ k = omega (arith, length-take k rows, lt) in
    let first : AreFirst a cells (take (k + 1) rows) =
    subst (AreFirst a cells) (sym (take_more rows k [] lt))
    (one_more a cells (take k rows) (get_or rows k []) h (omega (arith, long, lt, few)) (is ∙ ap (λ j. get_or (rows_seen a cells) j []) (sym long))) in
    let whole : k + 1 + (length rows - (k + 1)) ≡ length rows = omega (arith, lt) in
    let up = known_up_to a sound cells rows from (k + 1) (length rows - (k + 1)) g (omega (arith, le)) (omega (arith, whole)) first in
    subst (AreFirst a cells) (take_all (k + 1 + (length rows - (k + 1))) rows (omega (arith, whole))) up

-- the next row is made

-- what is kept of the row at place n, and of all others what was kept

is_place : (i n : ℕ) → (i ≡ n) ⊎ (i ≢ n)
is_place i n = grind arith

more_kept : (a : Sight) (cells : Box) (n : ℕ) (k : Kept) (old new : List Kept) → AreKept a cells old → IsKept a cells n k → kept_at new n ≡ k →
    ((i : ℕ) → i ≢ n → kept_at new i ≡ kept_at old i) → AreKept a cells new
more_kept a cells n k old new h is here others i = go (is_place i n)
  where
    go : (i ≡ n) ⊎ (i ≢ n) → IsKept a cells i (kept_at new i)
    go (inl e) = subst (λ j. IsKept a cells j (kept_at new j)) (sym e) (subst (IsKept a cells n) (sym here) is)
    go (inr ne) = subst (IsKept a cells i) (sym (others i ne)) (h i)

pub none_kept : (a : Sight) (cells : Box) (n : ℕ) (k : Kept) → k.values ≡ [] → IsKept a cells n k
none_kept a cells n k none = λ some. absurd (let long = ap length none in omega (arith, long, some))

-- rows that are made by this plan
made_rows : (a : Body) (p : Planned) (cells : Box) (s : Stack) → s.planned ≡ p → IsPlanned a p → AreFirst (seen_by a p) cells s.known →
    GoOn (seen_by a p) cells s.laid.rows s.laid.from → AreKept (seen_by a p) cells s.kept → AreRows a cells s
made_rows a p cells s same plan known laid kept = record {
  planned = subst (IsPlanned a) (sym same) plan;
  known = subst (λ (q : Planned). AreFirst (seen_by a q) cells s.known) (sym same) known;
  laid = subst (λ (q : Planned). GoOn (seen_by a q) cells s.laid.rows s.laid.from) (sym same) laid;
  kept = subst (λ (q : Planned). AreKept (seen_by a q) cells s.kept) (sym same) kept;
}

pub one_more_row : (a : Body) (cells : Box) (old new : Stack) (row : List Hull) (k : Kept) → AreRows a cells old → length old.known < length cells →
    row ≡ get_or (rows_seen (seen_by a old.planned) cells) (length old.known) [] → IsKept (seen_by a old.planned) cells (length old.known) k →
    IsOneMore row k old new → AreRows a cells new
one_more_row a cells old new row k h lt is kept more =
    let s = seen_by a old.planned in
    made_rows a old.planned cells new more.planned h.planned (subst (AreFirst s cells) (sym more.known) (one_more s cells old.known row h.known lt is))
    (subst (λ r. GoOn s cells r new.laid.from) (sym more.rows)
    (with_row_go_on s cells old.laid.rows (length old.known) row old.laid.from new.laid.from h.laid more.within lt more.from more.above))
    (more_kept s cells (length old.known) k old.kept new.kept h.kept kept more.kept more.others)

pub all_rows_stand : (a : Body) (cells : Box) (old new : Stack) (row : List Hull) → AreRows a cells old → Stands row old →
    row ≡ get_or (rows_seen (seen_by a old.planned) cells) (length old.known) [] → new.planned ≡ old.planned → new.known ≡ old.laid.rows →
    new.laid ≡ old.laid → new.kept ≡ old.kept → AreRows a cells new
all_rows_stand a cells old new row h s is plan all same kept =
    let z = seen_by a old.planned in
    made_rows a old.planned cells new plan h.planned
    (subst (AreFirst z cells) (sym all)
    (all_known z h.planned.sound cells old.laid.rows old.laid.from (length old.known) h.laid s.from s.there
    (subst (AreFirst z cells) s.known h.known) (s.same ∙ is)))
    (subst (λ (l : Laid). GoOn z cells l.rows l.from) (sym same) h.laid) (subst (AreKept z cells) (sym kept) h.kept)

-- a stack as the code holds its rows

-- a stack of which the first k rows are known
abbrev pub stack : Planned → Rows → ℕ → ℕ → List Kept → Stack
stack p rows k from kept = record { planned = p; known = take k rows; laid = record { rows = rows; from = from }; kept = kept }

pub below : (k n m : ℕ) → k ≤ m → n ≡ m → (k ≡ n → ⊥) → k < m
below k n m le e ne = grind (arith, le, e, ne)

pub standing : (p : Planned) (rows : Rows) (k from n : ℕ) (kept : List Kept) (row here d : List Hull) (s : Stack) → stack p rows k from kept ≡ s →
    k ≤ length rows → n ≡ length rows → (k ≡ n → ⊥) → from ≤ k → here ≡ get_or rows k d → here ≡ row → Stands row s
standing p rows k from n kept row here d s is le count ne to at same =
    let lt : k < length rows = below k n (length rows) le count ne in
    let long : length (take k rows) ≡ k = omega (arith, length-take k rows, le) in
    subst (Stands row) is (record {
      known = ap (λ m. take m rows) (sym long);
      there = omega (arith, long, lt);
      same = ap (λ m. get_or rows m []) long ∙ get_or_default rows k [] d lt ∙ sym at ∙ same;
      from = omega (arith, long, to);
    })

pub pushed : (p : Planned) (rows new : Rows) (k from next : ℕ) (kept left : List Kept) (row : List Hull) (here : Kept) (old : Stack) →
    stack p rows k from kept ≡ old → k ≤ length rows → new ≡ with_row k row rows → from ≤ next → k + 1 ≤ next → kept_at left k ≡ here →
    ((i : ℕ) → i ≢ k → kept_at left i ≡ kept_at kept i) → IsOneMore row here old (stack p new (k + 1) next left)
pushed p rows new k from next kept left row here old is le now to above at others =
    let long : length (take k rows) ≡ k = omega (arith, length-take k rows, le) in
    let one : length (take k rows ++ row ∷ []) ≡ k + 1 = omega (arith, length-append (take k rows) (row ∷ []), long) in
    subst (λ (o : Stack). IsOneMore row here o (stack p new (k + 1) next left)) is (record {
      planned = refl;
      known = ap (take (k + 1)) (now ∙ sym (append_assoc (take k rows) (row ∷ []) (drop (k + 1) rows)))
          ∙ take_at (take k rows ++ row ∷ []) (drop (k + 1) rows) (k + 1) one;
      within = omega (arith, long, le);
      rows = now ∙ ap (λ m. with_row m row rows) (sym long);
      from = to;
      above = omega (arith, long, above);
      kept = ap (kept_at left) long ∙ at;
      others = λ i ne. others i (λ e. ne (e ∙ sym long));
    })

-- a row that was known, without the values that its cell has lost

pub known_inside : (p : Planned) (rows : Rows) (k from at : ℕ) (kept : List Kept) (s : Stack) → stack p rows k from kept ≡ s → k ≤ length rows →
    at < k → IsKnownAt at s
known_inside p rows k from at kept s is le lt =
    subst (IsKnownAt at) is (record {
      known = (let l = length-take k rows in omega (arith, l, le, lt));
      laid = omega (arith, le, lt);
      same = sym (get_or-take k rows at [] lt);
    })

module _ (old cut : Stack) (count end : ℕ) (known : IsKnownAt count old) (f : IsTruncated count end old cut) where
  pub are_left : length cut.known ≡ count
  are_left = let l = ap length f.known ∙ length-take count old.known in let lt = known.known in omega (arith, l, lt)

  pub row_above : length cut.known < length cut.laid.rows
  row_above = let rest = ap length f.rows in let here = are_left in let more = known.laid in omega (arith, here, rest, more)

-- what is kept of a row, or was shown of it, without values that are gone, is right

some_before : (xs : List ℤ) (f t : ℕ) → 0 < length (remove_range xs f t) → 0 < length xs
some_before xs f t some =
    let both = length-append (take f xs) (drop t xs) in let front = length-take f xs in let rest = length-drop t xs in
    omega (arith, both, front, rest, some)

module _ (a : Body) (cells : Box) (s : Stack) (h : AreRows a cells s) where
  abbrev sees : Sight
  sees = seen_by a s.planned

  abbrev top : ℕ
  top = length s.known

  abbrev row_there : List ℤ → List Hull
  row_there values = seen_row sees.ends (row_of a (reverse (take top cells)) values)

  -- a row without the values that are gone
  row_less : (values : List ℤ) (f t : ℕ) (row : List Hull) → row ≡ row_there values →
      remove_range row (f * s.planned.states) (t * s.planned.states) ≡ row_there (remove_range values f t)
  row_less values f t row is =
      ap (λ n. remove_range row (f * n) (t * n)) h.planned.states ∙ ap (λ l. remove_range l (f * length a.states) (t * length a.states)) is
      ∙ row_lost sees.ends a (reverse (take top cells)) values f t

  lessened : (old new : Kept) → IsKept sees cells top old → IsLessened s.planned.states old new → IsKept sees cells top new
  lessened old new is (inl same) = subst (IsKept sees cells top) (sym same) is
  lessened old new is (inr (f, t, same)) =
      subst (IsKept sees cells top) (sym same) (λ some. row_less old.values f t old.hulls (is (some_before old.values f t some)))

  filled : (before : List ℤ) (row : List Hull) (new : Kept) → row ≡ row_there before → IsFilled before row (kept_at s.kept top) new →
      IsKept sees cells top new
  filled before row new is (inl same) = subst (IsKept sees cells top) (sym same) (h.kept top)
  filled before row new is (inr same) = subst (IsKept sees cells top) (sym same) (λ some. is)

  less_stays : (gone : Gone) (before : List ℤ) (new : Stack) → top < length cells → get_or s.laid.rows top [] ≡ row_there before →
      get_or cells top [] ≡ remove_range before gone.from gone.to → IsLess gone before s new → AreRows a cells new
  less_stays gone before new lt is lost z =
      let row = get_or s.laid.rows top [] in
      one_more_row a cells s new (without s.planned.states gone row) z.kept h lt
      (row_less before gone.from gone.to row is ∙ ap row_there (sym lost) ∙ sym (row_at_place sees cells top lt))
      (lessened z.filled z.kept (filled before row z.filled is z.is_filled) z.is_kept) z.more

  shown_stays : (now : List ℤ) (new : Stack) → now ≡ get_or cells top [] → IsShown now s new → AreRows a cells new
  shown_stays now new is_now z =
      let few = h.laid.few in let there = z.there in let lt : top < length cells = omega (arith, there, few) in
      let right : IsKept sees cells top z.kept = subst (IsKept sees cells top) (sym z.is_kept) (h.kept top) in
      let n = length a.states in let back = reverse (take top cells) in
      one_more_row a cells s new (slice_range z.kept.hulls (z.from * s.planned.states) (z.to * s.planned.states)) z.kept h lt
      (ap (λ m. slice_range z.kept.hulls (z.from * m) (z.to * m)) h.planned.states
      ∙ ap (λ l. slice_range l (z.from * n) (z.to * n)) (right z.some) ∙ row_slice sees.ends a back z.kept.values z.from z.to
      ∙ ap row_there (sym z.values ∙ is_now) ∙ sym (row_at_place sees cells top lt))
      right z.more

-- what a change leaves, and what is known again

module _ (a : Body) (cells later : Box) (count end : ℕ) (old : Stack) (plan : IsPlanned a old.planned)
    (h : AreFirst (seen_by a old.planned) cells old.known) (g : GoOn (seen_by a old.planned) cells old.laid.rows old.laid.from)
    (k : AreKept (seen_by a old.planned) cells old.kept) (long : length later ≡ length cells) (before : take count later ≡ take count cells)
    (behind : drop end later ≡ drop end cells) where
  abbrev saw : Sight
  saw = seen_by a old.planned

  fronts : (i : ℕ) → i ≤ count → take i later ≡ take i cells
  fronts i le = sym (take-take i count later le) ∙ ap (take i) before ∙ take-take i count cells le

  kept_stay : (new : Stack) → IsTruncated count end old new → AreKept saw later new.kept
  kept_stay new f i = go (is_above i count)
    where
      is_above : (i n : ℕ) → (i ≤ n) ⊎ (n + 1 ≤ i)
      is_above i n = grind arith

      go : (i ≤ count) ⊎ (count + 1 ≤ i) → IsKept saw later i (kept_at new.kept i)
      go (inl le) =
          let was = kept_at old.kept i in
          subst (IsKept saw later i) (sym (f.kept i le))
          (λ some. k i some ∙ ap (λ l. seen_row saw.ends (row_of a (reverse l) was.values)) (sym (fronts i le)))
      go (inr above) = none_kept saw later i (kept_at new.kept i) (f.none i above)

  cut_stays : (new : Stack) → IsTruncated count end old new → AreRows a later new
  cut_stays new f =
      made_rows a old.planned later new f.planned plan (stay_first saw cells later count old.known new.known f.known before h)
      (laid_stay saw plan.sound cells later end old.known old.laid new.laid h g f.from f.rows f.above long behind) (kept_stay new f)

  restored_stays : (now : List ℤ) (new : Stack) → get_or later count [] ≡ now → IsRestored count end now old new → AreRows a later new
  restored_stays now new is z = go z.more
    where
      go : (new ≡ z.cut) ⊎ ((length z.cut.known ≡ count) × IsShown now z.cut new) → AreRows a later new
      go (inl same) = subst (AreRows a later) (sym same) (cut_stays z.cut z.is_cut)
      go (inr (at, shows)) =
          shown_stays a later z.cut (cut_stays z.cut z.is_cut) now new (sym is ∙ ap (λ n. get_or later n []) (sym at)) shows

  spliced_stays : (gone : Gone) (values : List ℤ) (new : Stack) → get_or cells count [] ≡ values →
      get_or later count [] ≡ remove_range values gone.from gone.to → IsSpliced count end gone values old new → AreRows a later new
  spliced_stays gone values new is lost z =
      let cut = z.cut in let f = z.is_cut in let here = are_left old cut count end z.there f in
      let few = few_known saw cells old.known h in let lt = z.there.known in
      let row = λ (n : ℕ) (q : Planned). seen_row (seen_by a q).ends (row_of a (reverse (take n later)) values) in
      less_stays a later cut (cut_stays cut f) gone values new (omega (arith, here, lt, few, long))
      (ap (λ n. get_or cut.laid.rows n []) here ∙ ap (λ (r : Rows). get_or r count []) f.rows ∙ z.there.same
      ∙ known_at saw cells old.known count h lt ∙ row_at_place saw cells count (omega (arith, lt, few))
      ∙ ap (λ l. seen_row saw.ends (row_of a (reverse l) (get_or cells count []))) (sym before)
      ∙ ap (λ vs. seen_row saw.ends (row_of a (reverse (take count later)) vs)) is
      ∙ ap (λ n. row n old.planned) (sym here) ∙ ap (row (length cut.known)) (sym f.planned))
      (ap (λ n. get_or later n []) here ∙ lost) z.less

  pub left_stays : (was now : List ℤ) → get_or cells count [] ≡ was → get_or later count [] ≡ now → (gone : Option Gone) (new : Stack) →
      IsLeft count end gone was now old new → AreLost gone was now → AreRows a later new
  left_stays was now is_was is_now None new f lost = restored_stays now new is_now f
  left_stays was now is_was is_now (Some gone) new (inl f) lost = restored_stays now new is_now f
  left_stays was now is_was is_now (Some gone) new (inr z) lost = spliced_stays gone was new is_was (is_now ∙ lost) z

-- rows that are known again are made by the same plan
restored_planned : (count end : ℕ) (now : List ℤ) (old new : Stack) → IsRestored count end now old new → new.planned ≡ old.planned
restored_planned count end now old new z = go z.more
  where
    go : (new ≡ z.cut) ⊎ ((length z.cut.known ≡ count) × IsShown now z.cut new) → new.planned ≡ old.planned
    go (inl same) = ap (λ (s : Stack). s.planned) same ∙ z.is_cut.planned
    go (inr (at, shows)) = shows.more.planned ∙ z.is_cut.planned

pub left_planned : (count end : ℕ) (gone : Option Gone) (before now : List ℤ) (old new : Stack) → IsLeft count end gone before now old new →
    new.planned ≡ old.planned
left_planned count end None before now old new f = restored_planned count end now old new f
left_planned count end (Some gone) before now old new (inl f) = restored_planned count end now old new f
left_planned count end (Some gone) before now old new (inr z) = z.less.more.planned ∙ z.is_cut.planned

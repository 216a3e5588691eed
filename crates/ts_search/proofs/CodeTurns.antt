-- The loop of a search and of a listing, over plain variables.
use Rattle.std.proofs.Common.{◌≡◌, ℕ, suc, ◌+◌, ◌-◌, ◌<◌, ◌≤◌, ℤ, true, false, cond, nat_lt, List, [], ◌∷◌, ◌++◌, length, map, Vec, Global, inl, inr, None, refl, sym, ap, ◌∙◌, subst, arith}
use Rattle.std.proofs.lemmas.Bool.{lt-ltb, le-ltb}
use Rattle.std.proofs.lemmas.List.{length-map}
use Rattle.ts_certificate.specs.declared.certificate.TreeLine.{TreeLine}
use Rattle.ts_certificate.specs.declared.certificate.TreeLine.TheVariants.{Split, Remove, No, Worse, Yes, Unsearched}
use Rattle.ts_domain.specs.BoxSeries.{IsBox}
use Rattle.ts_filter.specs.Boxes.{Box, IsPart}
use Rattle.ts_filter.specs.Steps.{made_by}
use Rattle.ts_filter.proofs.BoxParts.{low_part, high_part, without_part, others_stay, part_self}
use Rattle.ts_frontier.specs.Follow.{MakesBoxes}
use Rattle.ts_frontier.specs.Waiting.{Waiting, first, rest}
use Rattle.ts_frontier.specs.Forms.{form}
use Rattle.ts_search.specs.LineOf.{Search, Contest, Sought, TheBest, TheFirst, search_in, line_of}
use Rattle.ts_search.specs.Turns.{State, start, turn_on, turn, turns, ListState, list_start, listed_after, list_after, list_turn_on, list_turn, list_turns}
use Rattle.ts_search.proofs.Choice.{Choice, by_refuted, by_cut, by_new, by_yes, by_drop, by_split, line_choice}
use Rattle.ts_search.proofs.ListSolves.{done_stop}
use Rattle.ts_search.proofs.Parts.{AreParts, wide_split}
use Rattle.ts_search.proofs.Solves.{turns_stop}

-- the boxes that the line of a box makes have series, inside the model's

choice_makes : (q : Sought) (b : Box) (l : TreeLine) → IsPart b (search_in q).model.cells → Choice q b l → MakesBoxes l b
choice_makes q b (No j p) i (by_refuted r) = tt
choice_makes q b (Worse p) i (by_cut e) = tt
choice_makes q b (Worse p) i (by_new a e f n k) = tt
choice_makes q b Yes i (by_yes a f n) = tt
choice_makes q b (Remove k v j) i (by_drop d) =
    record { cell = d.cell; there = d.there; leaves = others_stay k v b i.box d.cell d.many d.there }
choice_makes q b (Split k t) i (by_split f) = wide_split (search_in q).model.cells b k t i f
choice_makes q b Unsearched i h = elim h [ ]

pub line_makes : (q : Sought) (b : Box) → IsPart b (search_in q).model.cells → MakesBoxes (line_of q b) b
line_makes q b i = choice_makes q b (line_of q b) i (line_choice q b)

-- the line of the first box that waits makes boxes, as the code has them after `advance`
pub first_makes : (q : Sought) (old bs : List Box) (b : Box) (l : TreeLine) → AreParts (search_in q).model.cells old → bs ≡ old →
    bs ≡ b ∷ rest bs → l ≡ line_of q b → MakesBoxes l (first bs)
first_makes q old bs b l parts same front is =
    let here = subst (AreParts (search_in q).model.cells) (sym same ∙ front) parts in
    subst (λ x. MakesBoxes l x) (sym (ap first front)) (subst (λ z. MakesBoxes z b) (sym is) (line_makes q b here.0))

pub present_part : (cells : Box) (old bs : List Box) (b : Box) → AreParts cells old → bs ≡ old → bs ≡ b ∷ rest bs → IsPart b cells
present_part cells old bs b parts same front = (subst (AreParts cells) (sym same ∙ front) parts).0

parts_after : (cells : Box) (l : TreeLine) (b : Box) (w : List Box) → MakesBoxes l b → AreParts cells (b ∷ w) → AreParts cells (made_by l b ++ w)
parts_after cells (Split k t) b w f e = (low_part k t b cells e.0 f.cell f.below, (high_part k t b cells e.0 f.cell f.above, e.1))
parts_after cells (Remove k v j) b w f e = (without_part k v b cells e.0 f.cell f.leaves, e.1)
parts_after cells (No j p) b w f e = e.1
parts_after cells (Worse p) b w f e = e.1
parts_after cells Yes b w f e = e.1
parts_after cells Unsearched b w f e = e.1

-- after a turn the boxes that wait are still inside the model's
pub turn_parts : (c : Contest) (s : State) → AreParts c.search.model.cells s.pending → AreParts c.search.model.cells (turn c s).pending
turn_parts c s h = go s.pending refl h
  where
    go : (w : List Box) → s.pending ≡ w → AreParts c.search.model.cells w → AreParts c.search.model.cells (turn_on c s w).pending
    go [] e h = subst (AreParts c.search.model.cells) (sym e) h
    go (b ∷ u) e h = parts_after c.search.model.cells (line_of (TheBest c s.found) b) b u (line_makes (TheBest c s.found) b h.0) h

list_turn_parts : (c : Search) (count : ℕ) (s : ListState) → AreParts c.model.cells s.pending → AreParts c.model.cells (list_turn c count s).pending
list_turn_parts c count s h =
    elim (nat_lt (length s.listed) count) as (λ t. AreParts c.model.cells (cond t (list_turn_on c s s.pending) s).pending) [
      | true ↦ go s.pending refl h
      | false ↦ h
    ]
  where
    go : (w : List Box) → s.pending ≡ w → AreParts c.model.cells w → AreParts c.model.cells (list_turn_on c s w).pending
    go [] e h = subst (AreParts c.model.cells) (sym e) h
    go (b ∷ u) e h = parts_after c.model.cells (line_of (TheFirst c) b) b u (line_makes (TheFirst c) b h.0) h

pub list_parts : (c : Search) (count : ℕ) (s s' : ListState) → s' ≡ list_turn c count s → AreParts c.model.cells s.pending → AreParts c.model.cells s'.pending
list_parts c count s s' e h = subst (λ (z : ListState). AreParts c.model.cells z.pending) (sym e) (list_turn_parts c count s h)

-- the loop of a search

module _ (c : Contest) where
  pub grow_more : (n i : ℕ) (s s' z : State) → i < n → s' ≡ turn c s → turns c (n - i) s ≡ z → turns c (n - (i + 1)) s' ≡ z
  grow_more n i s s' z l e f =
      let more : suc (n - (i + 1)) ≡ n - i = omega (arith, l) in
      ap (λ t. turns c (n - (i + 1)) t) e ∙ ap (λ m. turns c m s) more ∙ f

  pub grow_stop : (n i : ℕ) (s z : State) → s.pending ≡ [] → turns c (n - i) s ≡ z → s ≡ z
  grow_stop n i s z e f = sym (turns_stop c (n - i) s e) ∙ f

  pub grow_end : (n i : ℕ) (s z : State) → n ≤ i → turns c (n - i) s ≡ z → s ≡ z
  grow_end n i s z l f = let none : 0 ≡ n - i = omega (arith, l) in ap (λ m. turns c m s) none ∙ f

  pub grow_parts : (s s' : State) → s' ≡ turn c s → AreParts c.search.model.cells s.pending → AreParts c.search.model.cells s'.pending
  grow_parts s s' e h = subst (λ (z : State). AreParts c.search.model.cells z.pending) (sym e) (turn_parts c s h)

  pub grow_none : (n : ℕ) (s : State) → s ≡ start c → turns c (n - 0) s ≡ turns c n (start c)
  grow_none n s e = let none : n - 0 ≡ n = omega arith in ap (λ m. turns c m s) none ∙ ap (turns c n) e

-- the first state: no line, and the model's box alone waits
pub grow_first : (c : Contest) (ls : List TreeLine) (w : Waiting) (b : Box) → ls ≡ [] → w ≡ record { ready = true; boxes = b ∷ [] } → b ≡ c.search.model.cells →
    let s : State = record { lines = ls; pending = w.boxes; found = None } in s ≡ start c
grow_first c ls w b none alone same =
    ap (λ l. state l w.boxes) none ∙ ap (λ (w : Waiting). state [] w.boxes) alone ∙ ap (λ b. state [] (b ∷ [])) same
  where
    state : List TreeLine → List Box → State
    state l p = record { lines = l; pending = p; found = None }

pub first_parts : (cells : Box) (w : List Box) → IsBox cells → w ≡ cells ∷ [] → AreParts cells w
first_parts cells w box e = subst (AreParts cells) (sym e) (part_self cells box, tt)

-- the loop of a listing

module _ (c : Search) (m : ℕ) where
  pub list_more : (n i : ℕ) (s s' z : ListState) → i < n → s' ≡ list_turn c m s → list_turns c m (n - i) s ≡ z → list_turns c m (n - (i + 1)) s' ≡ z
  list_more n i s s' z l e f =
      let more : suc (n - (i + 1)) ≡ n - i = omega (arith, l) in
      ap (λ t. list_turns c m (n - (i + 1)) t) e ∙ ap (λ k. list_turns c m k s) more ∙ f

  pub list_full : (n i : ℕ) (s z : ListState) → m ≤ length s.listed → list_turns c m (n - i) s ≡ z → s ≡ z
  list_full n i s z h f = sym (done_stop c m (n - i) s (inl (le-ltb (length s.listed) m h))) ∙ f

  pub list_out : (n i : ℕ) (s z : ListState) → s.pending ≡ [] → list_turns c m (n - i) s ≡ z → s ≡ z
  list_out n i s z e f = sym (done_stop c m (n - i) s (inr e)) ∙ f

  pub list_end : (n i : ℕ) (s z : ListState) → n ≤ i → list_turns c m (n - i) s ≡ z → s ≡ z
  list_end n i s z l f = let none : 0 ≡ n - i = omega (arith, l) in ap (λ k. list_turns c m k s) none ∙ f

  pub list_none : (n : ℕ) (s : ListState) → s ≡ list_start c → list_turns c m (n - 0) s ≡ list_turns c m n (list_start c)
  list_none n s e = let none : n - 0 ≡ n = omega arith in ap (λ k. list_turns c m k s) none ∙ ap (list_turns c m n) e

pub at_most : (m n len : ℕ) (xs : List (Vec ℤ Global)) → m ≤ n → n ≡ len → len ≡ length xs → m ≤ length (map (λ x. x.items) xs)
at_most m n len xs h is size = let same = length-map xs (λ (v : Vec ℤ Global). v.items) in omega (arith, h, is, size, same)

pub list_first : (c : Search) (ls : List TreeLine) (w : Waiting) (b : Box) (xs : List (List ℤ)) → ls ≡ [] → w ≡ record { ready = true; boxes = b ∷ [] } →
    b ≡ c.model.cells → xs ≡ [] → let s : ListState = record { lines = ls; pending = w.boxes; listed = xs } in s ≡ list_start c
list_first c ls w b xs none alone same empty =
    ap (λ l. state l w.boxes xs) none ∙ ap (λ (w : Waiting). state [] w.boxes xs) alone ∙ ap (λ b. state [] (b ∷ []) xs) same
    ∙ ap (λ x. state [] (c.model.cells ∷ []) x) empty
  where
    state : List TreeLine → List Box → List (List ℤ) → ListState
    state l p x = record { lines = l; pending = p; listed = x }

-- a turn as the code makes it: the first box that waits gets its line
pub list_turned : (c : Search) (old : ListState) (ls : List TreeLine) (w after : List Box) (xs : List (List ℤ)) (b here : Box) (l : TreeLine) →
    w ≡ old.pending → w ≡ b ∷ rest w → l ≡ line_of (TheFirst c) b → ls ≡ old.lines ++ l ∷ [] →
    w ≡ here ∷ rest w → xs ≡ listed_after old.listed (form here) l → after ≡ made_by l (first w) ++ rest w →
    let new : ListState = record { lines = ls; pending = after; listed = xs } in new ≡ list_turn_on c old old.pending
list_turned c old ls w after xs b here l same front is lines again listed boxes =
    made
    ∙ ap (list_after old b (rest w)) is
    ∙ ap (list_turn_on c old) (sym front ∙ same)
  where
    pending : after ≡ made_by l b ++ rest w
    pending = boxes ∙ ap (λ z. made_by l z ++ rest w) (ap first front)

    all : xs ≡ listed_after old.listed (form b) l
    all = listed ∙ ap (λ z. listed_after old.listed (form z) l) (sym (ap first again) ∙ ap first front)

    made : let new : ListState = record { lines = ls; pending = after; listed = xs } in new ≡ list_after old b (rest w) l
    made = λ i. record { lines = lines i; pending = pending i; listed = all i }

-- with room for one more series
pub list_room : (c : Search) (count : ℕ) (old new : ListState) → new ≡ list_turn_on c old old.pending → length old.listed < count →
    new ≡ list_turn c count old
list_room c count old new e room =
    e ∙ ap (λ t. cond t (list_turn_on c old old.pending) old) (sym (lt-ltb (length old.listed) count room))

-- room for one more series in the list that the code has
pub room_for : (m : ℕ) (xs : List (Vec ℤ Global)) → length xs < m → length (map (λ x. x.items) xs) < m
room_for m xs room = let same = length-map xs (λ (v : Vec ℤ Global). v.items) in omega (arith, room, same)

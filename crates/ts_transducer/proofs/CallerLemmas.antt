-- For the crates above: the moves of a typed table as facts, what the decoder keeps over them, and where its ranges lie.
use Rattle.std.specs.Prelude.{◌≡◌, ℕ, ◌+◌, ◌-◌, ◌<◌, ◌≤◌, true, List, [], ◌∷◌, length, Option, None, Some, IfSome, refl}
use Rattle.std.specs.List.{All, AllByRecursion}
use Rattle.std.specs.Option.{option_to_list}
use Rattle.std.proofs.Common.{sym, ◌∙◌, ap, subst, arith, length-append}
use Rattle.std.proofs.lemmas.Bool.{and_parts, false≢true}
use Rattle.std.proofs.lemmas.List.Elements.{All-nil, All-cons, All-append, recursion_from_All}
use Rattle.ts_base.specs.declared.letter.Letter.{Letter}
use Rattle.ts_base.specs.declared.range.Range.{Range}
use Rattle.ts_base.specs.declared.range.Kind.{Kind}
use Rattle.ts_base.specs.declared.range.Kind.TheVariants.{Idle, Pending, Held}
use Rattle.ts_transducer.specs.declared.row.Phase.{Phase}
use Rattle.ts_transducer.specs.declared.row.Phase.TheVariants.{Out, OutR, OutA, MaybeB, MaybeA, Found, FoundE, Inside}
use Rattle.ts_transducer.specs.declared.row.Row.{Row}
use Rattle.ts_transducer.specs.Typing.{is_idle, is_pending, is_held, is_free, may_move, is_typed}
use Rattle.ts_transducer.specs.Decode.{begins, ends_at, start_after, held_after, emitted_at, row_at, arrow_at, decode_from, decode}
use Rattle.ts_transducer.specs.Inside.{IsInside}
use Rattle.ts_transducer.specs.Keeps.{KindHolds, ArePlaced, MoveKeepsKinds, SignKeepsPlaces}
use Rattle.ts_transducer.proofs.Moves.{moves_well, move_fits, first_idle, next_exists}

-- the typing of moves, as facts

abbrev pub IsFree : Kind → Type 0
IsFree Idle = Unit {0}
IsFree Pending = Unit {0}
IsFree Held = ⊥

-- from, letter, to
abbrev pub Typed : Kind → Phase → Kind → Type 0
Typed k Out k' = (k ≡ Idle) × IsFree k'
Typed k OutR k' = (k ≡ Pending) × IsFree k'
Typed k OutA k' = (k ≡ Held) × IsFree k'
Typed k MaybeB k' = IsFree k × (k' ≡ Pending)
Typed k MaybeA k' = (k ≡ Held) × (k' ≡ Held)
Typed k Found k' = IsFree k × (k' ≡ Held)
Typed k FoundE k' = IsFree k × IsFree k'
Typed k Inside k' = (k ≡ Held) × (k' ≡ Held)

pub free_kind : (k : Kind) → is_free k ≡ true → IsFree k
free_kind Idle q = tt
free_kind Pending q = tt
free_kind Held q = false≢true q

pub idle_kind : (k : Kind) → is_idle k ≡ true → k ≡ Idle
idle_kind Idle q = refl
idle_kind Pending q = absurd (false≢true q)
idle_kind Held q = absurd (false≢true q)

pub pending_kind : (k : Kind) → is_pending k ≡ true → k ≡ Pending
pending_kind Idle q = absurd (false≢true q)
pending_kind Pending q = refl
pending_kind Held q = absurd (false≢true q)

pub held_kind : (k : Kind) → is_held k ≡ true → k ≡ Held
held_kind Idle q = absurd (false≢true q)
held_kind Pending q = absurd (false≢true q)
held_kind Held q = refl

pub typed_move : (k : Kind) (f : Phase) (k' : Kind) → may_move k f k' ≡ true → Typed k f k'
typed_move k Out k' q = let h = and_parts (is_idle k) (is_free k') q in (idle_kind k h.0, free_kind k' h.1)
typed_move k OutR k' q = let h = and_parts (is_pending k) (is_free k') q in (pending_kind k h.0, free_kind k' h.1)
typed_move k OutA k' q = let h = and_parts (is_held k) (is_free k') q in (held_kind k h.0, free_kind k' h.1)
typed_move k MaybeB k' q = let h = and_parts (is_free k) (is_pending k') q in (free_kind k h.0, pending_kind k' h.1)
typed_move k MaybeA k' q = let h = and_parts (is_held k) (is_held k') q in (held_kind k h.0, held_kind k' h.1)
typed_move k Found k' q = let h = and_parts (is_free k) (is_held k') q in (free_kind k h.0, held_kind k' h.1)
typed_move k FoundE k' q = let h = and_parts (is_free k) (is_free k') q in (free_kind k h.0, free_kind k' h.1)
typed_move k Inside k' q = let h = and_parts (is_held k) (is_held k') q in (held_kind k h.0, held_kind k' h.1)

-- the move of any state on any letter
pub move_typed : (rows : List Row) → is_typed rows ≡ true → (q : ℕ) (l : Letter) →
    Typed (row_at rows q).kind (arrow_at rows q l).phase (row_at rows (arrow_at rows q l).next).kind
move_typed rows h q l =
    typed_move (row_at rows q).kind (arrow_at rows q l).phase (row_at rows (arrow_at rows q l).next).kind (move_fits rows h q l)

-- the state that a move leads to exists
pub move_stays : (rows : List Row) → is_typed rows ≡ true → (q : ℕ) (l : Letter) → (arrow_at rows q l).next < length rows
move_stays rows h q l = next_exists rows (arrow_at rows q l).next (row_at rows q).kind (arrow_at rows q l).phase (moves_well rows h q l)

-- the start is Idle
pub start_idle : (rows : List Row) → is_typed rows ≡ true → (row_at rows 0).kind ≡ Idle
start_idle rows h = idle_kind (row_at rows 0).kind (first_idle rows h)

-- what is kept in states of each kind

pub free_range : (k : Kind) (d : Option ℕ) (c : Option Range) → IsFree k → KindHolds k d c → c ≡ None
free_range Idle d c f h = h.1
free_range Pending d c f h = h
free_range Held d c f h = absurd f

pub free_holds : (k : Kind) (d : Option ℕ) (c : Option Range) → IsFree k → d ≡ None → c ≡ None → KindHolds k d c
free_holds Idle d c f p q = (p, q)
free_holds Pending d c f p q = q
free_holds Held d c f p q = absurd f

pub kinds_step : (f : Phase) (a n : ℕ) (k k' : Kind) (d : Option ℕ) (c : Option Range) → Typed k f k' → KindHolds k d c →
    KindHolds k' (start_after f n d) (held_after f a n d c)
kinds_step Out a n k k' d c t h = let g = subst (λ z. KindHolds z d c) t.0 h in free_holds k' d c t.1 g.0 g.1
kinds_step OutR a n k k' d c t h = free_holds k' None c t.1 refl (subst (λ z. KindHolds z d c) t.0 h)
kinds_step OutA a n k k' d c t h = free_holds k' None None t.1 refl refl
kinds_step MaybeB a n k k' d c t h = subst (λ z. KindHolds z (Some (begins n d)) c) (sym t.1) (free_range k d c t.0 h)
kinds_step MaybeA a n k k' d c t h = subst (λ z. KindHolds z d c) (t.0 ∙ sym t.1) h
kinds_step Found a n k k' d c t h =
    subst (λ z. KindHolds z None (Some (record { first = begins n d; last = n + 1 - a }))) (sym t.1)
    (refl, (record { first = begins n d; last = n + 1 - a }, refl))
kinds_step FoundE a n k k' d c t h = free_holds k' None c t.1 refl (free_range k d c t.0 h)
kinds_step Inside a n k k' d c t h =
    let g = subst (λ z. KindHolds z d c) t.0 h in
    let r = g.1 in
    subst (λ z. KindHolds z d (ends_at (n + 1 - a) c)) (sym t.1)
    (g.0, (record { first = r.0.first; last = n + 1 - a }, ap (λ z. ends_at (n + 1 - a) z) r.1))

-- the start keeps nothing, and each move keeps what the kinds say
pub start_holds : (rows : List Row) → is_typed rows ≡ true → KindHolds (row_at rows 0).kind None None
start_holds rows h = subst (λ z. KindHolds z None None) (sym (start_idle rows h)) (refl, refl)

pub move_keeps_kinds : (rows : List Row) → is_typed rows ≡ true → (a : ℕ) → MoveKeepsKinds rows a
move_keeps_kinds rows h a k q l d c i =
    kinds_step (arrow_at rows q l).phase a k (row_at rows q).kind (row_at rows (arrow_at rows q l).next).kind d c (move_typed rows h q l) i

-- where the decoder's ranges lie

abbrev StartIn : ℕ → Option ℕ → Type 0
StartIn k d = IfSome d (λ s. (1 ≤ s) × (s ≤ k))

abbrev RangeIn : ℕ → Option Range → Type 0
RangeIn n c = IfSome c (λ r. IsInside n r)

start_more : (k : ℕ) (d : Option ℕ) → StartIn k d → StartIn (k + 1) d
start_more k None h = tt
start_more k (Some s) h = (h.0, let x = h.1 in omega arith)

pub begins_in : (k : ℕ) (d : Option ℕ) → IfSome d (λ s. (1 ≤ s) × (s ≤ k)) → (1 ≤ begins (k + 1) d) × (begins (k + 1) d ≤ k + 1)
begins_in k None h = (omega arith, omega arith)
begins_in k (Some s) h = (h.0, let x = h.1 in omega arith)

pub range_more : (m n : ℕ) (c : Option Range) → m ≤ n → IfSome c (λ r. IsInside m r) → IfSome c (λ r. IsInside n r)
range_more m n None q h = tt
range_more m n (Some r) q h = (h.0, h.1, let x = h.2 in omega arith)

grown_in : (a k : ℕ) (c : Option Range) → a ≤ 1 → RangeIn (k + 1 - a) c → RangeIn (k + 1 + 1 - a) (ends_at (k + 1 + 1 - a) c)
grown_in a k None o h = tt
grown_in a k (Some r) o h = (h.0, (let x = h.1 in let y = h.2 in omega arith), omega arith)

start_step : (f : Phase) (k : ℕ) (d : Option ℕ) → StartIn k d → StartIn (k + 1) (start_after f (k + 1) d)
start_step Out k d h = start_more k d h
start_step OutR k d h = tt
start_step OutA k d h = tt
start_step MaybeB k d h = begins_in k d h
start_step MaybeA k d h = start_more k d h
start_step Found k d h = tt
start_step FoundE k d h = tt
start_step Inside k d h = start_more k d h

-- a find at sign k + 1
find_in : (a k : ℕ) (d : Option ℕ) → a ≤ 1 → StartIn k d → IsInside (k + 1 + 1 - a) (record { first = begins (k + 1) d; last = k + 1 + 1 - a })
find_in a k d o h = let b = begins_in k d h in (b.0, (let x = b.1 in omega arith), omega arith)

module _ (a k : ℕ) (o : a ≤ 1) (d : Option ℕ) (c : Option Range) (start : IfSome d (λ s. (1 ≤ s) × (s ≤ k)))
    (range : IfSome c (λ r. IsInside (k + 1 - a) r)) where
  range_stays : IfSome c (λ r. IsInside (k + 1 + 1 - a) r)
  range_stays = range_more (k + 1 - a) (k + 1 + 1 - a) c (omega arith) range

  range_step : (f : Phase) → IfSome (held_after f a (k + 1) d c) (λ r. IsInside (k + 1 + 1 - a) r)
  range_step Out = range_stays
  range_step OutR = range_stays
  range_step OutA = tt
  range_step MaybeB = range_stays
  range_step MaybeA = range_stays
  range_step Found = find_in a k d o start
  range_step FoundE = range_stays
  range_step Inside = grown_in a k c o range

  emitted_in : (f : Phase) → IfSome (emitted_at f a (k + 1) d c) (λ r. IsInside (k + 1 + 1 - a) r)
  emitted_in Out = tt
  emitted_in OutR = tt
  emitted_in OutA = range_stays
  emitted_in MaybeB = tt
  emitted_in MaybeA = tt
  emitted_in Found = tt
  emitted_in FoundE = find_in a k d o start
  emitted_in Inside = tt

pub sign_keeps_places : (a : ℕ) → a ≤ 1 → SignKeepsPlaces a
sign_keeps_places a o f k d c h =
    (record { start = start_step f k d h.start; range = range_step a k o d c h.start h.range f }, emitted_in a k o d c h.start h.range f)

pub start_placed : (a : ℕ) → ArePlaced a 0 None None
start_placed a = record { start = tt; range = tt }

one_inside : (m n : ℕ) (c : Option Range) → m ≤ n → RangeIn m c → All (λ r. IsInside n r) (option_to_list c)
one_inside m n None q h = All-nil (λ r. IsInside n r)
one_inside m n (Some r) q h = All-cons (λ r. IsInside n r) r [] (range_more m n (Some r) q h) (All-nil (λ r. IsInside n r))

-- every range that is emitted from here on lies in the series of n cells
pub inside_from : (rows : List Row) (a : ℕ) → a ≤ 1 → (w : List Letter) (n k q : ℕ) (d : Option ℕ) (c : Option Range) → k + length w + 1 ≤ n →
    ArePlaced a k d c → All (λ r. IsInside n r) (decode_from rows a k q d c w)
inside_from rows a o [] n k q d c p h = one_inside (k + 1 - a) n c (omega arith) h.range
inside_from rows a o (l ∷ w) n k q d c p h =
    let f = (arrow_at rows q l).phase in
    let g = sign_keeps_places a o f k d c h in
    All-append (λ r. IsInside n r) (option_to_list (emitted_at f a (k + 1) d c)) _ (one_inside (k + 1 + 1 - a) n (emitted_at f a (k + 1) d c) (omega arith) g.1)
    (inside_from rows a o w n (k + 1) (arrow_at rows q l).next (start_after f (k + 1) d) (held_after f a (k + 1) d c) (omega arith) g.0)

pub decode_inside : (rows : List Row) (a : ℕ) (w : List Letter) → a ≤ 1 → All (λ r. IsInside (length w + 1) r) (decode rows a w)
decode_inside rows a w o = inside_from rows a o w (length w + 1) 0 0 None None (omega arith) (start_placed a)

-- each decoded range lies inside the series, by recursion on the list
pub decode_inside_each : (rows : List Row) (a : ℕ) (w : List Letter) → a ≤ 1 → AllByRecursion (λ r. IsInside (length w + 1) r) (decode rows a w)
decode_inside_each rows a w o = recursion_from_All (λ r. IsInside (length w + 1) r) (decode rows a w) (decode_inside rows a w o)

-- how many ranges there are

one_more : (f : Phase) (a k : ℕ) (d : Option ℕ) (c : Option Range) →
    length (option_to_list (emitted_at f a k d c)) + length (option_to_list (held_after f a k d c)) ≤ 1 + length (option_to_list c)
one_more Out a k d c = omega arith
one_more OutR a k d c = omega arith
one_more OutA a k d c = omega arith
one_more MaybeB a k d c = omega arith
one_more MaybeA a k d c = omega arith
one_more Found a k d c = omega arith
one_more FoundE a k d c = omega arith
one_more Inside a k d None = omega arith
one_more Inside a k d (Some r) = omega arith

pub count_from : (rows : List Row) (a : ℕ) (w : List Letter) (k q : ℕ) (d : Option ℕ) (c : Option Range) →
    length (decode_from rows a k q d c w) ≤ length w + length (option_to_list c)
count_from rows a [] k q d c = omega arith
count_from rows a (l ∷ w) k q d c =
    let f = (arrow_at rows q l).phase in
    let rest = decode_from rows a (k + 1) (arrow_at rows q l).next (start_after f (k + 1) d) (held_after f a (k + 1) d c) w in
    let i = count_from rows a w (k + 1) (arrow_at rows q l).next (start_after f (k + 1) d) (held_after f a (k + 1) d c) in
    let m = one_more f a (k + 1) d c in
    let n = length-append (option_to_list (emitted_at f a (k + 1) d c)) rest in
    omega arith

-- an occurrence a sign at most
pub decode_count : (rows : List Row) (a : ℕ) (w : List Letter) → length (decode rows a w) ≤ length w
decode_count rows a w = let h = count_from rows a w 0 0 None None in omega arith

-- A line of which no kind holds.
use Rattle.std.proofs.Common.{◌≡◌, ℕ, ◌+◌, ◌≤◌, Bool, true, false, cond, Some, None, Ok, Err, List, [], ◌∷◌, ◌++◌, length, length-append, map, refl, sym, ap, subst, ◌∙◌, arith, nat_le, String, Global}
use Rattle.std.specs.Prelude.{Option, Result, is_some, option_map}
use Rattle.std.specs.Result.{IsErrAnd}
use Rattle.ts_base.specs.declared.range.Range.{Range}
use Rattle.ts_domain.specs.declared.interval.Interval.{Interval}
use Rattle.std.proofs.lemmas.Bool.Decides.{nat_tests}
use Rattle.std.specs.String.{string_bytes, string_eq}
use Rattle.indexmap.specs.IndexMap.{insert_entry}
use Rattle.ts_pattern.specs.declared.term.Term.{Term}
use Rattle.ts_pattern.specs.Names.{is_pair}
use Rattle.ts_model.specs.declared.statement.TermParts.{TermParts}
use Rattle.ts_model.specs.declared.cells.Cells.{Cells}
use Rattle.ts_model.specs.declared.draft.Draft.{Draft}
use Rattle.ts_model.specs.declared.error.LineStop.{LineStop}
use Rattle.ts_model.specs.declared.error.LineStop.TheVariants.{Bad, NoMemory}
use Rattle.ts_model.specs.declared.error.ModelKind.{ModelKind}
use Rattle.ts_model.specs.declared.error.ModelKind.TheVariants.{BadPair, CellRange, Empty, Limit, TermTwice, UnknownName}
use Rattle.ts_model.specs.Statement.{SaysTerm}
use Rattle.ts_model.specs.declared.model.Window.{Window}
use Rattle.ts_model.specs.ModelParts.{ModelParts, StatedTerm, cells_between, has_cells, is_backward, is_beyond, looks_backward, looks_beyond, parts_after, stated_term, term_made, term_at, window_made}
use Rattle.ts_model.specs.Cells.{IsKept}
use Rattle.ts_model.specs.Views.{Gives, parts_of, range_in, term_of, with_windows, draft_parts, Follows, IsSound}
use Rattle.ts_model.proofs.TermLaws.{count_added, term_added}
use Rattle.ts_model.proofs.TermWindows.{made_good, terms_count}

-- a line that leaves the cells as they are
follows_on : (d new : Draft) → IsSound d → new.cells ≡ d.cells → length new.terms.entries ≤ 32 → length new.windows.items ≡ length new.terms.entries →
    Follows d new
follows_on d new sound cells few many = record {
  sound = record { cells = subst IsKept (sym cells) sound.cells; terms = few; windows = many };
  limited = ap (λ (c : Cells). c.limited) cells;
  turn = let e = ap (λ (c : Cells). c.turn) cells in omega (arith, e);
}

-- no kind holds of a term whose tail lies in the cells

clear_pair : (lists : Bool) (m : ModelParts) (name : List ℕ) (tail : Option Interval) (w : Option Range) (p q : TermParts) (pair : Bool) →
    is_pair p.aggregator p.feature ≡ pair → cond pair (Ok p) (Err BadPair) ≡ Ok q → has_cells m ≡ true →
    looks_beyond (length m.cells) tail ≡ false → looks_backward tail ≡ false → option_map cells_between tail ≡ w →
    is_some (term_at name m.terms) ≡ false → nat_le 32 (length m.terms) ≡ false →
    parts_after lists m (SaysTerm name tail (Some p)) ≡ Ok (record m { terms = m.terms ++ (name, stated_term q w) ∷ [] })
clear_pair lists m name tail w p q false is made some within order window new room = cc
clear_pair lists m name tail w p q true is made some within order window new room =
    let same : p ≡ q = cc in
    rw (some, within, order, is, new, room)
    (ap (λ (x : TermParts). Ok (record m { terms = m.terms ++ (name, stated_term x (option_map cells_between tail)) ∷ [] })) same
    ∙ ap (λ (x : Option Range). Ok (record m { terms = m.terms ++ (name, stated_term q x) ∷ [] })) window)

clear_term : (lists : Bool) (m : ModelParts) (name : List ℕ) (tail : Option Interval) (w : Option Range) (parts : Option TermParts) (q : TermParts) →
    window_made (length m.cells) tail ≡ Ok w → term_made parts ≡ Ok q → has_cells m ≡ true →
    is_some (term_at name m.terms) ≡ false → nat_le 32 (length m.terms) ≡ false →
    parts_after lists m (SaysTerm name tail parts) ≡ Ok (record m { terms = m.terms ++ (name, stated_term q w) ∷ [] })
clear_term lists m name tail w None q window made some new room = cc
clear_term lists m name tail w (Some p) q window made some new room =
    let good = made_good (length m.cells) tail w window in
    clear_pair lists m name tail w p q (is_pair p.aggregator p.feature) refl made some good.within good.order good.is new room

-- or that of the limit alone

full_pair : (lists : Bool) (m : ModelParts) (name : List ℕ) (tail : Option Interval) (p q : TermParts) (pair : Bool) →
    is_pair p.aggregator p.feature ≡ pair → cond pair (Ok p) (Err BadPair) ≡ Ok q → has_cells m ≡ true →
    looks_beyond (length m.cells) tail ≡ false → looks_backward tail ≡ false →
    is_some (term_at name m.terms) ≡ false → nat_le 32 (length m.terms) ≡ true →
    parts_after lists m (SaysTerm name tail (Some p)) ≡ Err Limit
full_pair lists m name tail p q false is made some within order new full = cc
full_pair lists m name tail p q true is made some within order new full = rw (some, within, order, is, new, full) refl

pub full_term : (lists : Bool) (m : ModelParts) (name : List ℕ) (tail : Option Interval) (w : Option Range) (parts : Option TermParts) (q : TermParts) →
    window_made (length m.cells) tail ≡ Ok w → term_made parts ≡ Ok q → has_cells m ≡ true →
    is_some (term_at name m.terms) ≡ false → nat_le 32 (length m.terms) ≡ true →
    parts_after lists m (SaysTerm name tail parts) ≡ Err Limit
full_term lists m name tail w None q window made some new full = cc
full_term lists m name tail w (Some p) q window made some new full =
    let good = made_good (length m.cells) tail w window in
    full_pair lists m name tail p q (is_pair p.aggregator p.feature) refl made some good.within good.order new full

-- or that of a name that a term has

twice_pair : (lists : Bool) (m : ModelParts) (name : List ℕ) (tail : Option Interval) (p q : TermParts) (pair : Bool) →
    is_pair p.aggregator p.feature ≡ pair → cond pair (Ok p) (Err BadPair) ≡ Ok q → has_cells m ≡ true →
    looks_beyond (length m.cells) tail ≡ false → looks_backward tail ≡ false →
    is_some (term_at name m.terms) ≡ true → parts_after lists m (SaysTerm name tail (Some p)) ≡ Err TermTwice
twice_pair lists m name tail p q false is made some within order old = cc
twice_pair lists m name tail p q true is made some within order old = rw (some, within, order, is, old) refl

pub twice_term : (lists : Bool) (m : ModelParts) (name : List ℕ) (tail : Option Interval) (w : Option Range) (parts : Option TermParts) (q : TermParts) →
    window_made (length m.cells) tail ≡ Ok w → term_made parts ≡ Ok q → has_cells m ≡ true →
    is_some (term_at name m.terms) ≡ true → parts_after lists m (SaysTerm name tail parts) ≡ Err TermTwice
twice_term lists m name tail w None q window made some old = cc
twice_term lists m name tail w (Some p) q window made some old =
    let good = made_good (length m.cells) tail w window in
    twice_pair lists m name tail p q (is_pair p.aggregator p.feature) refl made some good.within good.order old

-- or that of its names

names_pair : (lists : Bool) (m : ModelParts) (name : List ℕ) (tail : Option Interval) (p : TermParts) (k : ModelKind) (pair : Bool) →
    is_pair p.aggregator p.feature ≡ pair → cond pair (Ok p) (Err BadPair) ≡ Err k → has_cells m ≡ true →
    looks_beyond (length m.cells) tail ≡ false → looks_backward tail ≡ false → parts_after lists m (SaysTerm name tail (Some p)) ≡ Err k
names_pair lists m name tail p k false is made some within order =
    let same : BadPair ≡ k = cc in rw (some, within, order, is) (ap (λ (x : ModelKind). Err x) same)
names_pair lists m name tail p k true is made some within order = cc

bad_names : (lists : Bool) (m : ModelParts) (name : List ℕ) (tail : Option Interval) (w : Option Range) (parts : Option TermParts) (k : ModelKind) →
    window_made (length m.cells) tail ≡ Ok w → term_made parts ≡ Err k → has_cells m ≡ true → parts_after lists m (SaysTerm name tail parts) ≡ Err k
bad_names lists m name tail w None k window made some =
    let good = made_good (length m.cells) tail w window in
    let same : UnknownName ≡ k = cc in rw (some, good.within, good.order) (ap (λ (x : ModelKind). Err x) same)
bad_names lists m name tail w (Some p) k window made some =
    let good = made_good (length m.cells) tail w window in
    names_pair lists m name tail p k (is_pair p.aggregator p.feature) refl made some good.within good.order

names_stopped : {X : Type 0} (view : X → ModelParts) (lists : Bool) (m : ModelParts) (name : List ℕ) (tail : Option Interval) (w : Option Range)
    (parts : Option TermParts) (stop : LineStop) →
    window_made (length m.cells) tail ≡ Ok w → Gives parts_of (Err stop) (term_made parts) → has_cells m ≡ true →
    Gives view (Err stop) (parts_after lists m (SaysTerm name tail parts))
names_stopped view lists m name tail w parts (Bad k) window made some = bad_names lists m name tail w parts k window made some
names_stopped view lists m name tail w parts NoMemory window made some = tt

pub names_stop : {X : Type 0} (view : X → ModelParts) (lists : Bool) (m : ModelParts) (name : List ℕ) (tail : Option Interval) (w : Option Range)
    (parts : Option TermParts) (stop : LineStop) (result : Result X LineStop) →
    window_made (length m.cells) tail ≡ Ok w → Gives parts_of (Err stop) (term_made parts) → has_cells m ≡ true → IsErrAnd result (λ e. e ≡ stop) →
    Gives view result (parts_after lists m (SaysTerm name tail parts))
names_stop view lists m name tail w parts stop (Ok x) window made some is = absurd is
names_stop view lists m name tail w parts stop (Err e) window made some is =
    subst (λ (s : LineStop). Gives view (Err s) (parts_after lists m (SaysTerm name tail parts))) (sym is)
    (names_stopped view lists m name tail w parts stop window made some)

-- or that of its tail

tail_tests : (lists : Bool) (m : ModelParts) (name : List ℕ) (r : Interval) (parts : Option TermParts) (k : ModelKind) (beyond backward : Bool) →
    is_beyond (length m.cells) r ≡ beyond → is_backward r ≡ backward →
    cond beyond (Err CellRange) (cond backward (Err Empty) (Ok (Some (cells_between r)))) ≡ Err k → has_cells m ≡ true →
    parts_after lists m (SaysTerm name (Some r) parts) ≡ Err k
tail_tests lists m name r parts k true backward over turned made some =
    let same : CellRange ≡ k = cc in rw (some, over) (ap (λ (x : ModelKind). Err x) same)
tail_tests lists m name r parts k false true over turned made some =
    let same : Empty ≡ k = cc in rw (some, over, turned) (ap (λ (x : ModelKind). Err x) same)
tail_tests lists m name r parts k false false over turned made some = cc

bad_tail : (lists : Bool) (m : ModelParts) (name : List ℕ) (tail : Option Interval) (parts : Option TermParts) (k : ModelKind) →
    window_made (length m.cells) tail ≡ Err k → has_cells m ≡ true → parts_after lists m (SaysTerm name tail parts) ≡ Err k
bad_tail lists m name None parts k made some = cc
bad_tail lists m name (Some r) parts k made some =
    tail_tests lists m name r parts k (is_beyond (length m.cells) r) (is_backward r) refl refl made some

tail_stopped : {X : Type 0} (view : X → ModelParts) (lists : Bool) (m : ModelParts) (name : List ℕ) (tail : Option Interval)
    (parts : Option TermParts) (stop : LineStop) →
    Gives (option_map range_in) (Err stop) (window_made (length m.cells) tail) → has_cells m ≡ true →
    Gives view (Err stop) (parts_after lists m (SaysTerm name tail parts))
tail_stopped view lists m name tail parts (Bad k) made some = bad_tail lists m name tail parts k made some
tail_stopped view lists m name tail parts NoMemory made some = tt

pub tail_stops : {X : Type 0} (view : X → ModelParts) (lists : Bool) (m : ModelParts) (name : List ℕ) (tail : Option Interval)
    (parts : Option TermParts) (stop : LineStop) (result : Result X LineStop) →
    Gives (option_map range_in) (Err stop) (window_made (length m.cells) tail) → has_cells m ≡ true → IsErrAnd result (λ e. e ≡ stop) →
    Gives view result (parts_after lists m (SaysTerm name tail parts))
tail_stops view lists m name tail parts stop (Ok x) made some is = absurd is
tail_stops view lists m name tail parts stop (Err e) made some is =
    subst (λ (s : LineStop). Gives view (Err s) (parts_after lists m (SaysTerm name tail parts))) (sym is)
    (tail_stopped view lists m name tail parts stop made some)

pub took_term : (lists : Bool) (d : Draft) (name : List ℕ) (tail : Option Interval) (parts : Option TermParts) (window : Option Window) (term : Term)
    (key : String Global) (entries : List (String Global × Term)) (windows : List (Option Window)) → has_cells (draft_parts d) ≡ true →
    window_made (length (draft_parts d).cells) tail ≡ Ok (option_map range_in window) → term_made parts ≡ Ok (parts_of term) →
    is_some (term_at name (draft_parts d).terms) ≡ false → nat_le 32 (length (draft_parts d).terms) ≡ false →
    length d.windows.items ≡ length d.terms.entries → string_bytes key ≡ name → entries ≡ insert_entry string_eq d.terms.entries key term →
    windows ≡ d.windows.items ++ window ∷ [] →
    parts_after lists (draft_parts d) (SaysTerm name tail parts) ≡ Ok (record (draft_parts d) { terms = map term_of (with_windows entries windows) })
took_term lists d name tail parts window term key entries windows some looked made new room many key_is entries_is windows_is =
    clear_term lists (draft_parts d) name tail (option_map range_in window) parts (parts_of term) looked made some new room
    ∙ ap (λ (x : List (List ℕ × StatedTerm)). Ok (record (draft_parts d) { terms = x }))
    (sym (ap (λ (es : List (String Global × Term)). map term_of (with_windows es windows)) entries_is
    ∙ ap (λ (ws : List (Option Window)). map term_of (with_windows (insert_entry string_eq d.terms.entries key term) ws)) windows_is
    ∙ term_added name term window key d.terms.entries d.windows.items key_is many new))

pub follows_term : (d new : Draft) (name : List ℕ) (term : Term) (window : Option Window) (key : String Global) (n : ℕ) → IsSound d → n ≤ 31 →
    n ≡ length d.terms.entries → string_bytes key ≡ name → is_some (term_at name (draft_parts d).terms) ≡ false →
    new.terms.entries ≡ insert_entry string_eq d.terms.entries key term → new.windows.items ≡ d.windows.items ++ window ∷ [] →
    new.cells ≡ d.cells → Follows d new
follows_term d new name term window key n sound few count key_is fresh entries windows cells =
    let more = ap length entries ∙ count_added name term key d.terms.entries d.windows.items key_is fresh in
    let longer = ap length windows ∙ length-append d.windows.items (window ∷ []) in
    let many = sound.windows in
    follows_on d new sound cells (omega (arith, more, count, few)) (omega (arith, more, longer, many))

pub few_terms : (es : List (String Global × Term)) (ws : List (Option Window)) (n : ℕ) → n ≤ 31 → n ≡ length es →
    nat_le 32 (length (map term_of (with_windows es ws))) ≡ false
few_terms es ws n few count =
    let e = terms_count es ws in
    below (length (map term_of (with_windows es ws))) (omega (arith, e, count, few))
  where
    below : (k : ℕ) → k ≤ 31 → nat_le 32 k ≡ false
    below k h = grind (arith, nat_tests)

pub many_terms : (es : List (String Global × Term)) (ws : List (Option Window)) (n : ℕ) → 32 ≤ n → n ≡ length es →
    nat_le 32 (length (map term_of (with_windows es ws))) ≡ true
many_terms es ws n many count =
    let e = terms_count es ws in
    above (length (map term_of (with_windows es ws))) (omega (arith, e, count, many))
  where
    above : (k : ℕ) → 32 ≤ k → nat_le 32 k ≡ true
    above k h = grind (arith, nat_tests)

-- A plan against a transducer: the step of a configuration on a letter, the six checks of that step, and Closed.
-- Where a plan is closed, the transducer finds the occurrences of the pattern. R is what a residual is: an expression
-- in every contract, and its number in the plan where a plan is tested; X is what an entry says of its start.
use Rattle.std.specs.Prelude.{◌≡◌, ℕ, zero, suc, Bool, true, false, not, ◌&&◌, ◌||◌, ◌==◌, IsTrue, List, [], ◌∷◌, ◌++◌, map}
use Rattle.std.specs.List.{list_all, list_any}
use Rattle.ts_base.specs.declared.letter.Letter.{Letter}
use Rattle.ts_base.specs.declared.range.Kind.{Kind}
use Rattle.ts_transducer.specs.declared.row.Phase.{Phase}
use Rattle.ts_transducer.specs.declared.row.Phase.TheVariants.{OutA, MaybeB, Found, FoundE, Inside}
use Rattle.ts_transducer.specs.declared.row.Arrow.{Arrow}
use Rattle.ts_transducer.specs.declared.row.Row.{Row}
use Rattle.ts_transducer.specs.Typing.{is_held}
use Rattle.ts_transducer.specs.Decode.{row_at, arrow_on}
use Rattle.ts_pattern.specs.declared.plan.Tag.{Tag}
use Rattle.ts_pattern.specs.declared.plan.Tag.TheVariants.{Young, Due, InD, InC, Loose}
use Rattle.ts_pattern.specs.Entries.{Entry, Residuals, survivors}

-- a state, and its live entries, which say nothing of where their starts stand
pub record PlainConfiguration (R : Type 0) : Type 0 where
  pub state : ℕ
  pub live : List (Entry (Unit {0}) R Tag)

-- a transducer's rows, the pattern's trim b and whole expression, the configurations listed, and the residuals' tests
pub record Subject (R : Type 0) : Type 0 where
  pub rows : List Row
  pub trim : ℕ
  pub whole : R
  pub configurations : List (PlainConfiguration R)
  pub on : Residuals R

-- tags

abbrev pub is_due : Tag → Bool
is_due Due = true
is_due g = false

abbrev pub is_ind : Tag → Bool
is_ind InD = true
is_ind g = false

abbrev pub is_inc : Tag → Bool
is_inc InC = true
is_inc g = false

-- the tag of a start at the sign now read
abbrev pub first_tag : ℕ → Tag
first_tag zero = Due
first_tag (suc b) = Young (suc b)

-- one sign fewer to come
abbrev pub younger : ℕ → Tag
younger zero = Due
younger (suc zero) = Due
younger (suc (suc m)) = Young (suc m)

-- free says that no entry had the tag InD
abbrev pub due_after : Phase → Bool → Tag
due_after MaybeB true = InD
due_after Found true = InC
due_after f free = Loose

abbrev pub ind_after : Phase → Tag
ind_after MaybeB = InD
ind_after Found = InC
ind_after f = Loose

abbrev pub inc_after : Phase → Tag
inc_after OutA = Loose
inc_after f = InC

abbrev pub tag_after : Phase → Bool → Tag → Tag
tag_after f free (Young m) = younger m
tag_after f free Due = due_after f free
tag_after f free InD = ind_after f
tag_after f free InC = inc_after f
tag_after f free Loose = Loose

-- the step

-- no entry has the tag InD
abbrev pub no_ind : {X R : Type 0} → List (Entry X R Tag) → Bool
no_ind es = list_all (λ e. not (is_ind e.tag)) es

abbrev pub retag_entry : {X R : Type 0} → Phase → Bool → Entry X R Tag → Entry X R Tag
retag_entry f free e = record { mark = e.mark; residual = e.residual; tag = tag_after f free e.tag }

abbrev pub retag_entries : {X R : Type 0} → Phase → Bool → List (Entry X R Tag) → List (Entry X R Tag)
retag_entries f free es = map (λ e. retag_entry f free e) es

-- with a start at the sign now read
abbrev pub with_start : {X R : Type 0} → X → R → ℕ → List (Entry X R Tag) → List (Entry X R Tag)
with_start x whole b es = es ++ record { mark = x; residual = whole; tag = first_tag b } ∷ []

abbrev pub move_of : {R : Type 0} → Subject R → PlainConfiguration R → Letter → Arrow
move_of s x l = arrow_on l (row_at s.rows x.state)

abbrev pub entries_before : {R : Type 0} → Subject R → PlainConfiguration R → List (Entry (Unit {0}) R Tag)
entries_before s x = with_start tt s.whole s.trim x.live

-- the entries that are kept, with their tags before the step
abbrev pub kept_entries : {R : Type 0} → Subject R → PlainConfiguration R → Letter → List (Entry (Unit {0}) R Tag)
kept_entries s x l = survivors s.on l (entries_before s x)

abbrev pub step_of : {R : Type 0} → Subject R → PlainConfiguration R → Letter → PlainConfiguration R
step_of s x l =
    record {
      state = (move_of s x l).next;
      live = retag_entries (move_of s x l).phase (no_ind (entries_before s x)) (kept_entries s x l);
    }

-- the checks

abbrev pub implies : Bool → Bool → Bool
implies a b = not a || b

-- a match is found
abbrev pub is_find : Phase → Bool
is_find Found = true
is_find FoundE = true
is_find f = false

-- a match ends at the sign
abbrev pub is_match : Phase → Bool
is_match Inside = true
is_match f = is_find f

abbrev pub is_found_e : Phase → Bool
is_found_e FoundE = true
is_found_e f = false

abbrev pub is_out_a : Phase → Bool
is_out_a OutA = true
is_out_a f = false

abbrev pub is_maybe_b : Phase → Bool
is_maybe_b MaybeB = true
is_maybe_b f = false

-- there is a first entry, and it passes the test
abbrev pub first_passes : {A : Type 0} → (A → Bool) → List A → Bool
first_passes test [] = false
first_passes test (e ∷ es) = test e

-- some entry's residual has the empty word exactly at a match, and then the first one's has it
abbrev pub acceptance_agrees : {X R : Type 0} → Residuals R → Phase → List (Entry X R Tag) → Bool
acceptance_agrees t f es =
    implies (list_any (λ e. t.nullable e.residual) es) (is_match f)
    && implies (is_match f) (first_passes (λ e. t.nullable e.residual) es)

-- at a find the first entry was kept as the decoder's start, or it is due and none was
abbrev pub find_starts_right : {X R : Type 0} → Phase → Bool → List (Entry X R Tag) → Bool
find_starts_right f free es =
    implies (is_find f) (first_passes (λ e. is_ind e.tag || (is_due e.tag && free)) es)

-- after a find that is complete at once the first entry's residual has no longer word
abbrev pub early_find_ends : {X R : Type 0} → Residuals R → Phase → List (Entry X R Tag) → Bool
early_find_ends t f es =
    implies (is_found_e f) (first_passes (λ e. not (t.has_longer e.residual)) es)

-- in a held state the first entry is the start of the held range, and where it is released no entry was
abbrev pub held_start_first : {X R : Type 0} → Phase → Kind → Bool → List (Entry X R Tag) → Bool
held_start_first f k free es =
    implies (is_held k) (first_passes (λ e. is_inc (tag_after f free e.tag)) es)
    && implies (is_out_a f) (not (list_any (λ e. is_inc e.tag) es))

-- at a sign that may lie before a match some entry is kept as the decoder's start
abbrev pub pending_keeps_start : {X R : Type 0} → Phase → Bool → List (Entry X R Tag) → Bool
pending_keeps_start f free es =
    implies (is_maybe_b f) (list_any (λ e. is_ind (tag_after f free e.tag)) es)

-- the five checks of the kept entries, with the kind of the next state
abbrev pub entries_agree : {X R : Type 0} → Residuals R → Phase → Kind → Bool → List (Entry X R Tag) → Bool
entries_agree t f k free es =
    acceptance_agrees t f es
    && (find_starts_right f free es
    && (early_find_ends t f es
    && (held_start_first f k free es
    && pending_keeps_start f free es)))

-- the check of the step: it is listed, whatever the numbers of its residuals

abbrev pub same_tag : Tag → Tag → Bool
same_tag (Young m) (Young n) = m == n
same_tag Due Due = true
same_tag InD InD = true
same_tag InC InC = true
same_tag Loose Loose = true
same_tag g h = false

abbrev pub same_live : {R : Type 0} → Residuals R →
    List (Entry (Unit {0}) R Tag) → List (Entry (Unit {0}) R Tag) → Bool
same_live t [] [] = true
same_live t (e ∷ es) (f ∷ fs) = t.same e.residual f.residual && (same_tag e.tag f.tag && same_live t es fs)
same_live t es fs = false

abbrev pub same_configuration : {R : Type 0} → Residuals R → PlainConfiguration R → PlainConfiguration R → Bool
same_configuration t x y = (x.state == y.state) && same_live t x.live y.live

abbrev pub step_listed : {R : Type 0} → Subject R → PlainConfiguration R → Letter → Bool
step_listed s x l = list_any (λ y. same_configuration s.on y (step_of s x l)) s.configurations

-- all six
abbrev pub meets_checks : {R : Type 0} → Subject R → PlainConfiguration R → Letter → Bool
meets_checks s x l =
    step_listed s x l
    && entries_agree s.on (move_of s x l).phase (row_at s.rows (move_of s x l).next).kind (no_ind (entries_before s x))
    (kept_entries s x l)

-- the signs w lead from the start, over listed steps, to x
pub data LeadsTo {R : Type 0} (s : Subject R) : List Letter → PlainConfiguration R → Type 0 where
  FromStart : (w : List Letter) (x : PlainConfiguration R) →
      w ≡ [] → x ≡ record { state = 0; live = [] } → LeadsTo s w x
  OneStepOn : (v w : List Letter) (x y : PlainConfiguration R) (l : Letter) →
      LeadsTo s v x → IsTrue (step_listed s x l) → w ≡ v ++ l ∷ [] → y ≡ step_of s x l → LeadsTo s w y

abbrev pub IsReached : {R : Type 0} → Subject R → PlainConfiguration R → Type 0
IsReached s x = (w : List Letter) × LeadsTo s w x

-- each reached configuration meets the six checks on each letter
abbrev pub IsClosed : {R : Type 0} → Subject R → Type 0
IsClosed {R} s = (x : PlainConfiguration R) → IsReached s x → (l : Letter) → IsTrue (meets_checks s x l)

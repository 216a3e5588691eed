-- What is known of drops before any is looked for: of which terms no requirement is refuted, and up to which value none
-- drops one of a cell. Nothing has to be known.
use Rattle.std.specs.Prelude.{◌≡◌, ℕ, ◌+◌, ◌-◌, ℤ, ◌≤ℤ◌, neg_ℤ, pos, Bool, true, false, List, length, map, replicate, set, get_or}
use Rattle.std.specs.Prelude.{slice_get, Option, Some, None, unwrap_or, Contains, IsTrue}
use Rattle.ts_base.specs.Limits.{IsCellValue}
use Rattle.ts_bound.specs.TermSpans.{Automata, IsUsable, term_span, value_span}
use Rattle.ts_model.specs.declared.model.Require.{Require}
use Rattle.ts_filter.specs.declared.drops.Removal.{Removal}
use Rattle.ts_filter.specs.declared.spares.Answer.{Answer}
use Rattle.ts_filter.specs.Boxes.{Box, values_at}
use Rattle.ts_filter.specs.RefutedWorseDrop.{Spans, IsDrop, IsRefuted, IsRequirement}
use Rattle.ts_filter.specs.TermDrops.{IsDropAt, IsFirstRefuting, IsRefuting, IsTermDrop}

-- what is known of the requirements on a term: that none is refuted at any cell, and up to which value none drops one
-- of a cell, of cell k at place k - 1
pub record TermKept : Type 0 where
  pub alive : Bool
  pub cells : List ℤ

-- a limit that no value of a cell is up to
abbrev pub below_all : ℤ
below_all = neg_ℤ (pos 1000001)

-- by no requirement on the term is a value of cell k up to the limit dropped
abbrev pub IsSpared : List Require → Spans → Box → (term k : ℕ) (limit : ℤ) → Type 0
IsSpared requirements s b term k limit =
    (v : ℤ) (j : ℕ) (r : Require) → IsCellValue v → v ≤ℤ limit → IsRequirement requirements j r → r.term ≡ term →
    IsDrop requirements s k v j b → ⊥

-- by no requirement on the term is the value v of cell k dropped
abbrev pub IsFree : List Require → Spans → Box → (term k : ℕ) (v : ℤ) → Type 0
IsFree requirements s b term k v =
    (j : ℕ) (r : Require) → IsRequirement requirements j r → r.term ≡ term → IsDrop requirements s k v j b → ⊥

-- no requirement on the term is refuted at any cell
abbrev pub IsAliveTerm : List Require → Spans → Box → ℕ → Type 0
IsAliveTerm requirements s b term =
    (p j : ℕ) (r : Require) → IsRequirement requirements j r → r.term ≡ term → IsRefuted requirements s j p b → ⊥

-- what is marked of the terms holds
pub record AreKept (requirements : List Require) (s : Spans) (b : Box) (kept : List TermKept) : Type 0 where
  pub alive : (term : ℕ) (t : TermKept) → slice_get kept term ≡ Some t → t.alive ≡ true →
      IsAliveTerm requirements s b term
  pub spared : (term i : ℕ) (t : TermKept) (limit : ℤ) → slice_get kept term ≡ Some t →
      slice_get t.cells i ≡ Some limit → IsSpared requirements s b term (i + 1) limit

-- nothing is known of a term and of `cells` cells
abbrev pub unknown : ℕ → TermKept
unknown cells = record { alive = false; cells = replicate cells below_all }

-- nothing is known of a term any more
abbrev pub forgotten : TermKept → TermKept
forgotten t = record { alive = false; cells = map (λ limit. below_all) t.cells }

-- of a term it is known, too, that it is alive
abbrev pub with_alive : TermKept → TermKept
with_alive t = record { alive = true; cells = t.cells }

-- of a term it is known, too, that cell k is spared up to the limit
abbrev pub with_spared : ℕ → ℤ → TermKept → TermKept
with_spared k limit t = record { alive = t.alive; cells = set t.cells (k - 1) limit }

-- what is known of the terms, with more known of one of them
abbrev pub with_known : (TermKept → TermKept) → ℕ → List TermKept → List TermKept
with_known more term kept = set kept term (more (get_or kept term (unknown 0)))

-- what is known is of `terms` terms, and of `cells` cells each
pub record AreSized (terms cells : ℕ) (kept : List TermKept) : Type 0 where
  pub terms_count : length kept ≡ terms
  pub cells_count : (term : ℕ) (t : TermKept) → slice_get kept term ≡ Some t → length t.cells ≡ cells

-- whether it is known that the term is alive, and up to which value cell k is spared
abbrev pub is_alive_in : Option TermKept → Bool
is_alive_in None = false
is_alive_in (Some t) = t.alive

abbrev pub spared_in : Option TermKept → ℕ → ℤ
spared_in None k = below_all
spared_in (Some t) k = unwrap_or (slice_get t.cells (k - 1)) below_all

-- by no requirement of the term whose machine this is is a value of cell k up to the limit dropped
abbrev pub IsSparedAt : List Require → ℕ → Automata → Box → ℕ → ℤ → Type 0
IsSparedAt requirements term a b k limit =
    (r : Removal) → IsCellValue r.value → r.value ≤ℤ limit → IsDropAt requirements term a b k r → ⊥

-- what is known of the term whose machine this is holds, by its spans in the whole box
pub record IsTermKept (requirements : List Require) (term : ℕ) (a : Automata) (b : Box) (t : TermKept) : Type 0 where
  pub alive : t.alive ≡ true → (k j : ℕ) → IsUsable a k b → IsRefuting requirements term (term_span a k b) j → ⊥
  pub spared : (i : ℕ) (limit : ℤ) → slice_get t.cells i ≡ Some limit →
      IsSparedAt requirements term a b (i + 1) limit

-- what is known of the term whose machine this is, if anything is, holds, by its spans in the whole box
abbrev pub IsKeptIfKnown : List Require → ℕ → Automata → Box → Option TermKept → Type 0
IsKeptIfKnown requirements term a b None = Unit {0}
IsKeptIfKnown requirements term a b (Some t) = IsTermKept requirements term a b t

-- x knows, of some spans, which values are spared, and each drop by the machine of the term is one by these spans
pub record Tells {A : Type 0} (knows : List Require → Spans → Box → A → Type 0) (requirements : List Require)
    (term : ℕ) (a : Automata) (b : Box) (x : A) : Type 0 where
  pub spans : Spans
  pub known : knows requirements spans b x
  pub drops : (r : Removal) → IsTermDrop requirements term a b r → IsDrop requirements spans r.cell r.value r.require b

-- no value of cell k from v on is dropped, as far as is known, by a requirement of the term whose machine this is
abbrev pub AreFree : List Require → ℕ → Automata → Box → ℕ → ℤ → Answer → Type 0
AreFree requirements term a b k v answer =
    IsTrue answer.free → (w : ℤ) → Contains (values_at k b) w → v ≤ℤ w → w ≤ℤ answer.to →
    IsFirstRefuting requirements term (value_span a k b w) None

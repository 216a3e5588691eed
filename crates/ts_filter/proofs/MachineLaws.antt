-- The spans of a term are those of its machine.
use Rattle.std.proofs.Common.{◌≡◌, ℕ, zero, suc, ◌<◌, ℤ, Bool, true, false, List, [], ◌∷◌, length, Option, Some, None, slice_get, refl, sym, ◌∙◌, ap, arith}
use Rattle.std.proofs.lemmas.List.{length-map}
use Rattle.std.proofs.lemmas.Option.{slice_get_within}
use Rattle.std.specs.Prelude.{is_some}
use Rattle.ts_base.specs.declared.ext.Ext.{Ext}
use Rattle.ts_base.specs.declared.ext.Ext.TheVariants.{NegInf, Int, PosInf}
use Rattle.ts_base.specs.Spans.{Holds, one_span}
use Rattle.ts_domain.specs.BoxSeries.{InBox}
use Rattle.ts_model.specs.TermValue.{stated_value}
use Rattle.ts_model.specs.Meets.{value_at, values_on}
use Rattle.ts_model.specs.ModelParts.{ModelParts}
use Rattle.ts_glue.specs.Pairs.{Pair}
use Rattle.ts_bound.specs.TermSpans.{Automata, IsUsable as IsUsableOf}
use Rattle.ts_filter.specs.Boxes.{Box, box_of, IsPart}
use Rattle.ts_filter.specs.MachineSpans.{every_number, is_split, span_of, spans_of, SpansAreOfMachines, HoldsTerm, MachinesHold, MachinesTell}
use Rattle.ts_filter.specs.RefutedWorseDrop.{IsUsable}

pub slice_get-some : (ms : List Automata) (i : ℕ) → i < length ms → (a : Automata) × (slice_get ms i ≡ Some a)
slice_get-some [] i l = absurd (omega (arith, l))
slice_get-some (a ∷ ms) zero l = (a, refl)
slice_get-some (a ∷ ms) (suc i) l = slice_get-some ms i (omega (arith, l))

none_split : (o : Option Pair) → is_some o ≡ false → o ≡ None
none_split None e = refl
none_split (Some p) e = absurd (let f : ◌≡◌ {A = Bool} true false = e in cc)

module _ (machines : List Automata) (term : ℕ) (a : Automata) (has : slice_get machines term ≡ Some a) where
  to_machine : (p : ℕ) (b : Box) → IsUsable (spans_of machines) term p b → IsUsableOf a p b
  to_machine p b u = record {
    from = u.cell.0;
    to = u.cell.1;
    last = λ n. u.last (ap is_split has ∙ ap (λ (o : Option Pair). is_some o) n);
  }

  from_machine : (p : ℕ) (b : Box) → IsUsableOf a p b → IsUsable (spans_of machines) term p b
  from_machine p b u = record { cell = (u.from, u.to); last = λ n. u.last (none_split a.pair (sym (ap is_split has) ∙ n)) }

pub spans_are_of_machines : SpansAreOfMachines
spans_are_of_machines machines term a has = record {
  span = λ p b. ap (λ o. span_of o p b) has;
  usable = λ p b. (to_machine machines term a has p b, from_machine machines term a has p b);
}

-- every number lies in the span of all numbers
every_held : (v : Ext) → Holds every_number v
every_held NegInf = (refl, refl)
every_held (Int x) = (refl, refl)
every_held PosInf = (refl, refl)

module _ (m : ModelParts) (machines : List Automata) (each : (term : ℕ) (a : Automata) → slice_get machines term ≡ Some a → HoldsTerm m term a) where
  held_by : (term p : ℕ) (b : Box) (x : List ℤ) (v : Ext) → IsPart b m.cells → IsUsable (spans_of machines) term p b → InBox x b →
      value_at m x term ≡ Some v → (o : Option Automata) → slice_get machines term ≡ o → Holds (span_of o p b) v
  held_by term p b x v i u h e None f = every_held v
  held_by term p b x v i u h e (Some a) f = each term a f p b x v i (to_machine machines term a f p b u) h e

pub machines_hold : MachinesHold
machines_hold m machines each term p b x v i u h e = held_by m machines each term p b x v i u h e (slice_get machines term) refl

pub machines_tell : MachinesTell
machines_tell m machines all each term x v h e =
    let n = slice_get_within (values_on m x) term v e in
    let k = length-map m.terms (λ t. stated_value t.1 x) in
    by_machine (slice_get machines term) refl (slice_get-some machines term (omega (arith, n, k, all)))
  where
    by_machine : (o : Option Automata) → slice_get machines term ≡ o → (a : Automata) × (slice_get machines term ≡ Some a) →
        span_of o (length x) (box_of x) ≡ one_span v
    by_machine None f some = absurd (let g : ◌≡◌ {A = Option Automata} None (Some some.0) = sym f ∙ some.1 in cc)
    by_machine (Some a) f some = each term a f x v h e

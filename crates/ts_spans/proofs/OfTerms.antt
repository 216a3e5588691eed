-- The spans of a model's terms hold their values, and those alone on a single series.
use Rattle.std.proofs.Common.{◌≡◌, ℕ, zero, suc, ℤ, List, [], ◌∷◌, length, map, Option, Some, None, slice_get, refl, sym, ◌∙◌, ap, subst, arith}
use Rattle.std.specs.List.{AllByRecursion}
use Rattle.std.specs.Prelude.{IfSome, option_map}
use Rattle.std.proofs.lemmas.List.{length-map}
use Rattle.std.proofs.lemmas.Option.{same_Some}
use Rattle.ts_base.specs.declared.ext.Ext.{Ext}
use Rattle.ts_base.specs.Limits.{IsCellValue}
use Rattle.ts_base.specs.Spans.{Holds as SpanHolds, one_span}
use Rattle.ts_base.specs.Windows.{LooksInside, looked_at}
use Rattle.ts_base.proofs.WindowLaws.{each_looked, few_looked, some_looked}
use Rattle.ts_domain.specs.BoxSeries.{IsBox}
use Rattle.ts_automaton.specs.AutomatonRun.{AreCellValues, HoldsMark, answer}
use Rattle.ts_pattern.specs.declared.name.PatternId.{PatternId}
use Rattle.ts_seed.specs.SeedTable.{seed_table}
use Rattle.ts_compile.specs.TermPairs.{pair_by}
use Rattle.ts_compile.proofs.Partners.{terms_glue}
use Rattle.ts_compile.proofs.Tables.{body_automaton, body_marked, body_answers}
use Rattle.ts_bound.specs.Laws.{Splits, AreAutomata}
use Rattle.ts_bound.specs.TermSpans.{Automata, LooksIn, term_span}
use Rattle.ts_bound.proofs.Reached.{spans_hold, within_limits}
use Rattle.ts_bound.proofs.Singles.{spans_stay_single}
use Rattle.ts_model.specs.Promise.{IsWhole}
use Rattle.ts_model.specs.ModelParts.{ModelParts, StatedTerm}
use Rattle.ts_model.specs.TermValue.{stated_value}
use Rattle.ts_filter.specs.MachineSpans.{HoldsTerm, TellsTerm}
use Rattle.ts_filter.proofs.BoxParts.{inside_length}
use Rattle.ts_filter.proofs.MachineLaws.{machines_hold, machines_tell}
use Rattle.ts_filter.proofs.SoundLaws.{series_length}
use Rattle.ts_spans.specs.Laws.{MachinesAnswer, SpansHoldValues, SpansTellSingles}
use Rattle.ts_spans.specs.Machines.{forward_for, automata_for, automata_in}

-- the machine of a term is whole
pub term_whole : (t : StatedTerm) → AreAutomata (automata_for t)
term_whole t = record { forward = body_automaton t.pattern t.pattern t.aggregator t.feature; pair = split (seed_table t.pattern).partner refl }
  where
    split : (o : Option PatternId) → (seed_table t.pattern).partner ≡ o →
        IfSome (option_map (λ partner. pair_by t.pattern partner t.aggregator t.feature) o) (Splits (forward_for t.pattern t.aggregator t.feature))
    split None e = tt
    split (Some partner) e =
        let glue = terms_glue t.pattern partner e t.aggregator t.feature in
        record { forward = refl; reverse = body_automaton t.pattern partner t.aggregator t.feature; rules = glue.0; local = glue.1 }

-- what is said of the term at a place: its machine, and its value
record AreOf {T : Type 0} (machine : T → Automata) (value : T → Ext) (a : Automata) (v : Ext) : Type 0 where
  term : T
  is_machine : machine term ≡ a
  is_value : value term ≡ v

at_term : {T : Type 0} (machine : T → Automata) (value : T → Ext) (ts : List T) (k : ℕ) (a : Automata) (v : Ext) → slice_get (map machine ts) k ≡ Some a →
    slice_get (map value ts) k ≡ Some v → AreOf machine value a v
at_term machine value [] k a v e f = absurd (let g : ◌≡◌ {A = Option Automata} None (Some a) = e in cc)
at_term machine value (t ∷ ts) zero a v e f = record { term = t; is_machine = same_Some (machine t) a e; is_value = same_Some (value t) v f }
at_term machine value (t ∷ ts) (suc k) a v e f = at_term machine value ts k a v e f

-- the window of each machine lies in the model's cells

each_machine : {T : Type 0} (machine : T → Automata) (P : Automata → Type 0) (ts : List T) → AllByRecursion (λ t. P (machine t)) ts →
    AllByRecursion P (map machine ts)
each_machine machine P [] h = tt
each_machine machine P (t ∷ ts) h = (h.0, each_machine machine P ts h.1)

pub windows_look : (m : ModelParts) → IsWhole m → AllByRecursion (λ a. LooksIn a m.cells) (automata_in m)
windows_look m whole = each_machine (λ t. automata_for t.1) (λ a. LooksIn a m.cells) m.terms whole.windows

machine_at : (P : Automata → Type 0) (machines : List Automata) (k : ℕ) (a : Automata) → AllByRecursion P machines → slice_get machines k ≡ Some a → P a
machine_at P [] k a h e = absurd (let g : ◌≡◌ {A = Option Automata} None (Some a) = e in cc)
machine_at P (b ∷ machines) zero a h e = subst P (same_Some b a e) h.0
machine_at P (b ∷ machines) (suc k) a h e = machine_at P machines k a h.1 e

pub window_looks : (m : ModelParts) → IsWhole m → (k : ℕ) (a : Automata) → slice_get (automata_in m) k ≡ Some a → LooksIn a m.cells
window_looks m whole k a e = machine_at (λ x. LooksIn x m.cells) (automata_in m) k a (windows_look m whole) e

module _ (m : ModelParts) (whole : IsWhole m) where
  -- the term's value is what the automaton answers on the cells that are looked at
  answered : (x : List ℤ) (t : StatedTerm) → length x ≡ length m.cells → LooksInside (length x) t.window → AreCellValues x →
      answer (automata_for t).forward (looked_at t.window x) ≡ stated_value t x
  answered x t long looks cells =
      let fewer = few_looked t.window x looks in let some = whole.some in let few = whole.few in
      body_answers t.pattern t.aggregator t.feature (looked_at t.window x) (some_looked t.window x (omega (arith, long, some)) looks)
      (omega (arith, fewer, long, few)) (each_looked IsCellValue t.window x cells)

  holds_term : (term : ℕ) (a : Automata) → slice_get (automata_in m) term ≡ Some a → HoldsTerm m term a
  holds_term term a has p b x v i u h e =
      let t = at_term (λ t. automata_for t.1) (λ t. stated_value t.1 x) m.terms term a v has e in
      let same = inside_length b m.cells i.inside in let cells = series_length x b h in let few = whole.few in
      let machine = subst (λ z. z.window ≡ a.window) (sym t.is_machine) refl in
      let looks = window_looks m whole term a has in
      let inside = subst (λ n. LooksInside n a.window) (sym same) looks in
      let seen = subst (λ w. LooksInside (length x) w) (sym machine) (subst (λ n. LooksInside n a.window) (sym cells) inside) in
      subst (λ z. SpanHolds (term_span a p b) z) (answered x t.term.1 (cells ∙ same) seen (within_limits x b i.box h) ∙ t.is_value)
      (subst (λ z. SpanHolds (term_span a p b) (answer z.forward (looked_at z.window x))) (sym t.is_machine)
      (spans_hold a (subst AreAutomata t.is_machine (term_whole t.term.1))
      (subst (λ z. HoldsMark z.forward) t.is_machine (body_marked t.term.1.pattern t.term.1.aggregator t.term.1.feature)) b (omega (arith, same, few))
      i.box inside p u x h))

  -- on the box of one series the span at the last cell is its value alone
  tells_term : IsBox m.cells → (term : ℕ) (a : Automata) → slice_get (automata_in m) term ≡ Some a → TellsTerm m term a
  tells_term box term a has x v h e =
      let t = at_term (λ t. automata_for t.1) (λ t. stated_value t.1 x) m.terms term a v has e in
      let cells = series_length x m.cells h in let some = whole.some in let few = whole.few in
      let limits = within_limits x m.cells box h in
      let machine = subst (λ z. z.window ≡ a.window) (sym t.is_machine) refl in
      let inside = subst (λ n. LooksInside n a.window) (sym cells) (window_looks m whole term a has) in
      let alone = subst (λ n. LooksInside n a.window) (sym (length-map x (λ y. y ∷ []))) inside in
      spans_stay_single a (subst AreAutomata t.is_machine (term_whole t.term.1)) x (omega (arith, cells, some)) (omega (arith, cells, few)) limits alone
      ∙ ap one_span (ap (λ (z : Automata). answer z.forward (looked_at z.window x)) (sym t.is_machine)
      ∙ answered x t.term.1 cells (subst (λ w. LooksInside (length x) w) (sym machine) inside) limits ∙ t.is_value)

pub spans_hold_values : SpansHoldValues
spans_hold_values m whole = machines_hold m (automata_in m) (holds_term m whole)

pub spans_tell_singles : SpansTellSingles
spans_tell_singles m whole box =
    machines_tell m (automata_in m) (length-map m.terms (λ t. automata_for t.1)) (tells_term m whole box)

-- the term at the place of a machine
answered_at : {T : Type 0} (machine : T → Automata) (value : T → Ext) (ts : List T) (k : ℕ) (a : Automata) → slice_get (map machine ts) k ≡ Some a →
    (t : T) × (machine t ≡ a) × (slice_get (map value ts) k ≡ Some (value t))
answered_at machine value [] k a e = absurd (let g : ◌≡◌ {A = Option Automata} None (Some a) = e in cc)
answered_at machine value (t ∷ ts) zero a e = (t, same_Some (machine t) a e, refl)
answered_at machine value (t ∷ ts) (suc k) a e = answered_at machine value ts k a e

pub machines_answer : MachinesAnswer
machines_answer m whole box term a has x h =
    let t = answered_at (λ t. automata_for t.1) (λ t. stated_value t.1 x) m.terms term a has in
    let cells = series_length x m.cells h in
    let machine = subst (λ z. z.window ≡ a.window) (sym t.1) refl in
    let inside = subst (λ n. LooksInside n a.window) (sym cells) (window_looks m whole term a has) in
    let looks = subst (λ w. LooksInside (length x) w) (sym machine) inside in
    t.2 ∙ ap Some (sym (ap (λ (z : Automata). answer z.forward (looked_at z.window x)) (sym t.1)
    ∙ answered m whole x t.0.1 cells looks (within_limits x m.cells box h)))

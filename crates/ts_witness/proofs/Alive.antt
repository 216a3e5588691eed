-- Where spans hold the values of their terms, a requirement that a series of the box meets excludes nothing there.
use Rattle.std.proofs.Common.{◌≡◌, Bool, ℕ, zero, suc, ◌+◌, ◌-◌, ◌≤◌, ℤ, false, List, [], ◌∷◌, length, take, drop, set, Option, None, Some, refl, sym, ◌∙◌, ap, subst, arith}
use Rattle.std.proofs.lemmas.Bool.{false_from_ne_true}
use Rattle.std.proofs.lemmas.Option.{same_Some}
use Rattle.std.proofs.lemmas.List.{length-set}
use Rattle.std.specs.Prelude.{Contains, IsTrue}
use Rattle.ts_base.specs.declared.range.Range.{Range}
use Rattle.ts_base.specs.Windows.{LooksInside, looked_at}
use Rattle.ts_domain.specs.BoxSeries.{InBox, IsBox}
use Rattle.ts_domain.specs.Values.{IsDomain}
use Rattle.ts_automaton.specs.AutomatonRun.{answer}
use Rattle.ts_bound.specs.TermSpans.{Automata}
use Rattle.ts_bound.proofs.Looking.{looked_set}
use Rattle.ts_model.specs.declared.model.Require.{Require}
use Rattle.ts_model.specs.Compares.{compares}
use Rattle.ts_model.specs.Meets.{IsMet}
use Rattle.ts_model.specs.ModelParts.{ModelParts}
use Rattle.ts_filter.specs.Boxes.{Box, only, IsPart}
use Rattle.ts_filter.specs.Laws.{HoldsValues}
use Rattle.ts_filter.specs.RefutedWorseDrop.{Spans, IsRequirement, IsRefuted}
use Rattle.ts_filter.specs.Tests.{is_refuted, is_drop}
use Rattle.ts_filter.proofs.BoxParts.{in_box_inside, only_part}
use Rattle.ts_filter.proofs.SoundLaws.{clash}
use Rattle.ts_filter.proofs.TestLaws.{tests_tell}
use Rattle.ts_witness.specs.Laws.{with_cell, MetIsAlive, ChangedIsKept, IsAsked, IsAlive, IsKept}

-- the series with v at a place lies in the box with v alone there
set_in : (i : ℕ) (v : ℤ) (x : List ℤ) (b : Box) → InBox x b → InBox (set x i v) (set b i (v ∷ []))
set_in i v [] [] h = h
set_in i v [] (d ∷ b) h = absurd h
set_in i v (u ∷ x) [] h = absurd h
set_in zero v (u ∷ x) (d ∷ b) h = ((zero, (omega arith), refl), h.1)
set_in (suc i) v (u ∷ x) (d ∷ b) h = (h.0, set_in i v x b h.1)

module _ (m : ModelParts) (s : Spans) (holds : HoldsValues m s) where
  never : (j : ℕ) (r : Require) (b : Box) (x : List ℤ) → IsPart b m.cells → IsRequirement m.requirements j r → InBox x b → IsMet m x r →
      (p : ℕ) → IsRefuted m.requirements s j p b → ⊥
  never j r b x part i h q p f =
      let same = same_Some f.require r (sym f.is.1 ∙ i.1) in
      let is_met = subst (λ z. IsMet m x z) (sym same) q in
      let none = f.refutes is_met.0 (holds f.require.term p b x is_met.0 part f.usable h is_met.1) in
      clash (compares f.require.op f.require.bound is_met.0) is_met.2 none

pub met_is_alive : MetIsAlive
met_is_alive m s holds j r b x part i h q p =
    false_from_ne_true (is_refuted m.requirements s j p b)
    (λ t. never m s holds j r b x part i h q p (((tests_tell s).refuted m.requirements j p b).0 t))

pub changed_is_kept : ChangedIsKept
changed_is_kept m s holds j r b x part i h k v cell there q =
    false_from_ne_true (is_drop m.requirements s k v j b)
    (λ t. let d = ((tests_tell s).drop m.requirements k v j b).0 t in
    never m s holds j r (only k v b) (with_cell k v x) (only_part k v b m.cells part cell there) i (set_in (k - 1) v x b h) q k d.refuted)

-- a series of the cells that are looked at is that of a series of the box

some_value : (d : List ℤ) → IsDomain d → (v : ℤ) × Contains d v
some_value [] h = absurd (h.some refl)
some_value (v ∷ d) h = (v, (zero, omega arith, refl))

some_series : (b : Box) → IsBox b → (x : List ℤ) × InBox x b
some_series [] h = ([], tt)
some_series (d ∷ b) h =
    let v = some_value d h.0 in
    let x = some_series b h.1 in
    (v.0 ∷ x.0, (v.1, x.1))

filled_front : (n : ℕ) (b : Box) (y : List ℤ) → IsBox b → n ≤ length b → InBox y (take n b) → (x : List ℤ) × InBox x b × (take n x ≡ y)
filled_front zero b [] box l h = let x = some_series b box in (x.0, x.1, refl)
filled_front zero b (v ∷ y) box l h = absurd h
filled_front (suc n) [] y box l h = absurd (omega (arith, l))
filled_front (suc n) (d ∷ b) [] box l h = absurd h
filled_front (suc n) (d ∷ b) (v ∷ y) box l h =
    let x = filled_front n b y box.1 (omega (arith, l)) h.1 in
    (v ∷ x.0, (h.0, x.1), ap (◌∷◌ v) x.2)

filled_at : (f n : ℕ) (b : Box) (y : List ℤ) → IsBox b → f + n ≤ length b → InBox y (take n (drop f b)) →
    (x : List ℤ) × InBox x b × (take n (drop f x) ≡ y)
filled_at zero n b y box l h = filled_front n b y box (omega (arith, l)) h
filled_at (suc f) n [] y box l h = absurd (omega (arith, l))
filled_at (suc f) n (d ∷ b) y box l h =
    let v = some_value d box.0 in
    let x = filled_at f n b y box.1 (omega (arith, l)) h in
    (v.0 ∷ x.0, (v.1, x.1), x.2)

filled : (w : Option Range) (b : Box) (y : List ℤ) → IsBox b → LooksInside (length b) w → InBox y (looked_at w b) →
    (x : List ℤ) × InBox x b × (looked_at w x ≡ y)
filled None b y box looks h = (y, h, refl)
filled (Some r) b y box looks h =
    let first = looks.0 in let order = looks.1 in let last = looks.2 in
    filled_at (r.first - 1) (r.last - (r.first - 1)) b y box (omega (arith, first, order, last)) h

-- the requirement's term has the value that the automaton answers there
module _ (a : Automata) (r : Require) (m : ModelParts) (s : Spans) (j : ℕ) (b : Box) (y : List ℤ) (asked : IsAsked a r y m s j b) where
  pub alive_there : IsTrue (compares r.op r.bound (answer a.forward y)) → (p : ℕ) → is_refuted m.requirements s j p b ≡ false
  alive_there met =
      let x = filled a.window b y asked.part.box asked.looks asked.series in
      let value = asked.answers x.0 (in_box_inside b m.cells x.0 asked.part.inside x.1) ∙ ap (λ z. Some (answer a.forward z)) x.2 in
      met_is_alive m s asked.holds j r b x.0 asked.part asked.require x.1 (answer a.forward y, value, met)

pub told_alive : (a : Automata) (r : Require) (y : List ℤ) (t : Bool) → t ≡ compares r.op r.bound (answer a.forward y) → IsTrue t → IsAlive a r y
told_alive a r y t e h m s j b asked = alive_there a r m s j b y asked (sym e ∙ h)

pub told_kept : (a : Automata) (r : Require) (y : List ℤ) (i : ℕ) (v : ℤ) (t : Bool) → t ≡ compares r.op r.bound (answer a.forward (set y (i - 1) v)) →
    IsTrue t → IsKept a r y i v
told_kept a r y i v t e h m s j b asked k cell looked place there =
    false_from_ne_true (is_drop m.requirements s k v j b)
    (λ dropped. let d = ((tests_tell s).drop m.requirements k v j b).0 dropped in
    clash (is_refuted m.requirements s j k (only k v b)) (((tests_tell s).refuted m.requirements j k (only k v b)).1 d.refuted)
    (alive_there a r m s j (only k v b) (set y (i - 1) v) changed (sym e ∙ h) k))
  where
    same : looked_at a.window (only k v b) ≡ set (looked_at a.window b) (i - 1) (v ∷ [])
    same = looked_set b k a.window (v ∷ []) asked.looks looked ∙ ap (λ z. set (looked_at a.window b) (z - 1) (v ∷ [])) place

    changed : IsAsked a r (set y (i - 1) v) m s j (only k v b)
    changed = record {
      holds = asked.holds;
      answers = asked.answers;
      part = only_part k v b m.cells asked.part cell there;
      looks = subst (λ n. LooksInside n a.window) (sym (length-set b (k - 1) (v ∷ []))) asked.looks;
      require = asked.require;
      series = subst (InBox (set y (i - 1) v)) (sym same) (set_in (i - 1) v y (looked_at a.window b) asked.series);
    }

-- The rules of the lines of a tree, by what the code asks of a term's machine.
use Rattle.std.proofs.Common.{◌≡◌, ◌↔◌, ℕ, ◌-◌, ◌<◌, ◌≤◌, ℤ, Bool, true, false, IsTrue, List, length, Option, Some, None, slice_get, refl, sym, ◌∙◌, ap, subst, arith}
use Rattle.std.specs.List.{AllByRecursion}
use Rattle.std.specs.Prelude.{Contains, IfOk, IfSome, MatchOption, Result, Ok, Err}
use Rattle.std.proofs.lemmas.List.{length-map}
use Rattle.std.proofs.lemmas.Option.{same_Some}
use Rattle.ts_base.specs.declared.error.Memory.{Memory}
use Rattle.ts_base.specs.declared.ext.Ext.{Ext}
use Rattle.ts_base.specs.declared.goal.Goal.{Goal}
use Rattle.ts_base.specs.Windows.{LooksInside}
use Rattle.ts_certificate.specs.declared.certificate.Aim.TheVariants.{Best as BestOf}
use Rattle.ts_certificate.specs.declared.certificate.TreeLine.{TreeLine}
use Rattle.ts_domain.specs.BoxSeries.{IsBox}
use Rattle.ts_bound.specs.TermSpans.{Automata, LooksIn, term_span, IsUsable as IsUsableOf}
use Rattle.ts_model.specs.declared.model.Require.{Require}
use Rattle.ts_model.specs.ModelParts.{ModelParts}
use Rattle.ts_filter.specs.declared.bar.Bar.TheVariants.{Better}
use Rattle.ts_filter.specs.Boxes.{Box, HasCell, values_at, only}
use Rattle.ts_filter.specs.Excluded.{Refutes, Cuts}
use Rattle.ts_filter.specs.MachineSpans.{spans_of}
use Rattle.ts_filter.specs.OfTerm.{OfTerm}
use Rattle.ts_filter.specs.RefutedWorseDrop.{Spans, IsUsable, IsRequirement, IsCut, IsDrop, IsRefuted}
use Rattle.ts_filter.specs.Rules.{Head, KeepsRule, claimed_value, IsWorseFor, MayBeWorse}
use Rattle.ts_filter.specs.Tree.{Removes}
use Rattle.ts_filter.proofs.BoxParts.{others_stay}
use Rattle.ts_filter.proofs.CallLaws.{calls_tell, usable_whole}
use Rattle.ts_filter.proofs.MachineLaws.{slice_get-some, spans_are_of_machines}
use Rattle.ts_filter.proofs.SoundLaws.{each_at}
use Rattle.ts_spans.specs.Machines.{automata_for, automata_in, spans_in}
use Rattle.ts_spans.proofs.OfTerms.{window_looks, windows_look}
use Rattle.ts_checker.specs.Subjects.{AreTables}

-- the machine of a term

some_at : (P : ℕ → Type 0) (o : Option ℕ) (t : ℕ) → IfSome o P → o ≡ Some t → P t
some_at P None t h e = absurd (let f : ◌≡◌ {A = Option ℕ} None (Some t) = e in cc)
some_at P (Some u) t h e = subst P (same_Some u t e) h

-- the tables are those of the same machines once they are brought to another box
pub brought : (m : ModelParts) (old new : List Automata) → new ≡ old → AreTables m old → AreTables m new
brought m old new same is = record { machines = same ∙ is.machines; whole = is.whole }

module _ (m : ModelParts) (tables : List Automata) (is : AreTables m tables) where
  tables_count : length tables ≡ length m.terms
  tables_count = ap length is.machines ∙ length-map m.terms (λ t. automata_for t.1)

  -- the window of each machine ends at a cell of each box that has the model's cells
  pub all_look : (b : Box) → length b ≡ length m.cells → AllByRecursion (λ a. LooksIn a b) tables
  all_look b size =
      subst (AllByRecursion (λ a. LooksIn a b)) (sym is.machines)
      (subst (λ n. AllByRecursion (λ (a : Automata). LooksInside n a.window) (automata_in m)) (sym size) (windows_look m is.whole))

  pub box_looks : (b : Box) → length b ≡ length m.cells → (term : ℕ) → OfTerm tables term (λ a. LooksIn a b)
  box_looks b size term a has =
      subst (λ n. LooksInside n a.window) (sym size) (window_looks m is.whole term a (ap (λ l. slice_get l term) (sym is.machines) ∙ has))

  -- each requirement's term has a machine, and so has the objective
  require_stands : (j : ℕ) (r : Require) → IsRequirement m.requirements j r → r.term < length tables
  require_stands j r h =
      let below = each_at (λ q. q.term < length m.terms) m.requirements (j - 1) r is.whole.requirements h.1 in
      let count = tables_count in
      omega (arith, below, count)

  pub asked_stands : (j : ℕ) (r : Require) (rs : List Require) → rs ≡ m.requirements → IsRequirement rs j r → r.term < length tables
  asked_stands j r rs all req = require_stands j r (subst (λ z. IsRequirement z j r) all req)

  pub objective_stands : (t : ℕ) → m.objective ≡ Some t → t < length tables
  objective_stands t e =
      let below = some_at (λ t. t < length m.terms) m.objective t is.whole.objective e in
      let count = tables_count in
      omega (arith, below, count)

-- a drop

module _ (m : ModelParts) (machines : List Automata) (j : ℕ) (r : Require) (is : IsRequirement m.requirements j r) (a : Automata)
    (has : slice_get machines r.term ≡ Some a) (k : ℕ) (v : ℤ) (b : Box) where
  pub drop_told : (t : Bool) → (2 ≤ length (values_at k b)) × Contains (values_at k b) v → IsUsableOf a k b →
      (IsTrue t ↔ Refutes r.op r.bound (term_span a k (only k v b))) → IsTrue t ↔ IsDrop m.requirements (spans_of machines) k v j b
  drop_told t others u told =
      let same = (calls_tell m m.requirements machines r.term a has).drop j k v b r is refl u others.0 others.1 in
      (λ e. same.0 (told.0 e), λ d. told.1 (same.1 d))

-- a drop that keeps its rule may be followed
pub drop_follows : (k : ℕ) (v : ℤ) (b : Box) → IsBox b → HasCell k b → (2 ≤ length (values_at k b)) × Contains (values_at k b) v → Removes k v b
drop_follows k v b i cell others = record { cell = cell; there = others.1; leaves = others_stay k v b i cell others.0 others.1 }

-- worse

module _ (m : ModelParts) (machines : List Automata) (goal : Goal) (bar : Ext) (term : ℕ) (is : m.objective ≡ Some term) (a : Automata)
    (has : slice_get machines term ≡ Some a) (p : ℕ) (b : Box) where
  pub worse_told : (t : Bool) → IsUsableOf a p b → (IsTrue t ↔ Cuts goal (Better bar) (term_span a p b)) →
      IsTrue t ↔ IsCut m (spans_of machines) goal p b (Better bar)
  worse_told t u told =
      let same = (calls_tell m m.requirements machines term a has).cut goal p b (Better bar) is u in
      (λ k. same.0 (told.0 k), λ c. told.1 (same.1 c))

-- the head decides whether there is a bar and a goal
pub worse_when : (m : ModelParts) (s : Spans) (h : Head) (goal : Goal) (bar : Ext) (p : ℕ) (b : Box) (t : Bool) → h.aim ≡ BestOf goal →
    claimed_value h.claim ≡ Some bar → (IsTrue t ↔ IsCut m s goal p b (Better bar)) → IsTrue t ↔ MayBeWorse m s h p b
worse_when m s h goal bar p b t aim claim told =
    subst (λ o. IsTrue t ↔ MatchOption o ⊥ (λ v. IsWorseFor m s h.aim v p b)) (sym claim)
    (subst (λ a. IsTrue t ↔ IsWorseFor m s a bar p b) (sym aim) told)

-- what the calls answer

others_seen : (d : List ℤ) (k : ℕ) (b : Box) (v v' : ℤ) → d ≡ values_at k b → v' ≡ v → (2 ≤ length d) × Contains d v' →
    (2 ≤ length (values_at k b)) × Contains (values_at k b) v
others_seen d k b v v' is same h =
    (subst (λ z. 2 ≤ length z) is h.0, subst (λ z. Contains z v) is (subst (λ z. Contains d z) same h.1))

-- there is no drop where the cell lacks the value or has it alone
pub no_others : (rs : List Require) (s : Spans) (k : ℕ) (v v' : ℤ) (j : ℕ) (b : Box) (d : List ℤ) (o : Bool) → v' ≡ v → d ≡ values_at k b → o ≡ false →
    (IsTrue o ↔ ((2 ≤ length d) × Contains d v')) → IsTrue false ↔ IsDrop rs s k v j b
no_others rs s k v v' j b d o same here none told = (
  λ e. absurd (let f : ◌≡◌ {A = Bool} false true = e in cc),
  λ h.
      sym none ∙ told.1 (
        subst (λ z. 2 ≤ length z) (sym here) h.many,
        subst (λ z. Contains z v') (sym here)
            (subst (λ z. Contains (values_at k b) z) (sym same) h.there),
      ),
)

-- what is known of a term's machine, of the tables that are asked and so of the model's
module _ (m : ModelParts) (tables : List Automata) (is : AreTables m tables) (b : Box) where
  -- the machine of a term that stands
  at_term : (t : ℕ) → t < length tables → (a : Automata) × (slice_get tables t ≡ Some a) × (slice_get (automata_in m) t ≡ Some a)
  at_term t below =
      let there = slice_get-some tables t below in
      (there.0, there.1, ap (λ ms. slice_get ms t) (sym is.machines) ∙ there.1)

  -- a cell that can be used is there
  pub usable_cell : (t p : ℕ) (u : Bool) → t < length tables → IsTrue u → OfTerm tables t (λ a. IsTrue u ↔ IsUsableOf a p b) → HasCell p b
  usable_cell t p u below able usable =
      let at = at_term t below in
      let h = (usable at.0 at.1).0 able in
      (h.from, h.to)

  pub drop_answered : (k : ℕ) (v v' : ℤ) (j : ℕ) (r : Require) (rs : List Require) (d : List ℤ) (u : Bool) (t : Result Bool Memory) → v' ≡ v →
      rs ≡ m.requirements → IsRequirement rs j r → d ≡ values_at k b → (2 ≤ length d) × Contains d v' → IsTrue u →
      OfTerm tables r.term (λ a. IsTrue u ↔ IsUsableOf a k b) →
      IfOk t (λ told. OfTerm tables r.term (λ a. IsTrue told ↔ Refutes r.op r.bound (term_span a k (only k v' b)))) →
      IfOk t (λ keeps. IsTrue keeps ↔ IsDrop m.requirements (spans_in m) k v j b)
  drop_answered k v v' j r rs d u (Err e) same all req here others able usable h = tt
  drop_answered k v v' j r rs d u (Ok t) same all req here others able usable h =
      let require = subst (λ z. IsRequirement z j r) all req in
      let at = at_term r.term (asked_stands m tables is j r rs all req) in
      drop_told m (automata_in m) j r require at.0 at.2 k v b t (others_seen d k b v v' here same others) ((usable at.0 at.1).0 able)
      (subst (λ z. IsTrue t ↔ Refutes r.op r.bound (term_span at.0 k (only k z b))) same (h at.0 at.1))

  -- there is no drop where the cell can't be used
  pub drop_unusable : (k : ℕ) (v : ℤ) (j : ℕ) (r : Require) (rs : List Require) (u : Bool) → rs ≡ m.requirements → IsRequirement rs j r → u ≡ false →
      OfTerm tables r.term (λ a. IsTrue u ↔ IsUsableOf a k b) → IsTrue false ↔ IsDrop m.requirements (spans_in m) k v j b
  drop_unusable k v j r rs u all req unable usable = (
    λ e. absurd (let f : ◌≡◌ {A = Bool} false true = e in cc),
    λ d.
        let require = subst (λ z. IsRequirement z j r) all req in
        let at = at_term r.term (asked_stands m tables is j r rs all req) in
        let seen = subst (λ (q : Require). IsUsable (spans_in m) q.term k (only k v b)) (same_Some d.refuted.require r (sym d.refuted.is.1 ∙ require.1))
        d.refuted.usable in
        let there = ((spans_are_of_machines (automata_in m) r.term at.0 at.2).usable k (only k v b)).0 seen in
        sym unable ∙ (usable at.0 at.1).1 (usable_whole at.0 b k v there),
  )

  pub refuted_answered : (p j : ℕ) (r : Require) (rs : List Require) (u : Bool) (t : Result Bool Memory) → rs ≡ m.requirements → IsRequirement rs j r →
      IsTrue u → OfTerm tables r.term (λ a. IsTrue u ↔ IsUsableOf a p b) →
      IfOk t (λ told. OfTerm tables r.term (λ a. IsTrue told ↔ Refutes r.op r.bound (term_span a p b))) →
      IfOk t (λ keeps. IsTrue keeps ↔ IsRefuted m.requirements (spans_in m) j p b)
  refuted_answered p j r rs u (Err e) all req able usable h = tt
  refuted_answered p j r rs u (Ok t) all req able usable h =
      let require = subst (λ z. IsRequirement z j r) all req in
      let at = at_term r.term (asked_stands m tables is j r rs all req) in
      let same = (calls_tell m m.requirements (automata_in m) r.term at.0 at.2).refuted j p b r require refl ((usable at.0 at.1).0 able) in
      let told = h at.0 at.1 in
      (λ e. same.0 (told.0 e), λ d. told.1 (same.1 d))

  pub worse_answered : (h : Head) (goal : Goal) (bar : Ext) (term p : ℕ) (o : Option Ext) (u : Bool) (t : Result Bool Memory) → h.aim ≡ BestOf goal →
      o ≡ claimed_value h.claim → o ≡ Some bar → m.objective ≡ Some term → IsTrue u → OfTerm tables term (λ a. IsTrue u ↔ IsUsableOf a p b) →
      IfOk t (λ told. OfTerm tables term (λ a. IsTrue told ↔ Cuts goal (Better bar) (term_span a p b))) →
      IfOk t (λ keeps. IsTrue keeps ↔ MayBeWorse m (spans_in m) h p b)
  worse_answered h goal bar term p o u (Err e) aim claim some objective able usable told = tt
  worse_answered h goal bar term p o u (Ok t) aim claim some objective able usable told =
      let at = at_term term (objective_stands m tables is term objective) in
      worse_when m (spans_in m) h goal bar p b t aim (sym claim ∙ some)
      (worse_told m (automata_in m) goal bar term objective at.0 at.2 p b t ((usable at.0 at.1).0 able) (told at.0 at.1))

pub drop_may : (k : ℕ) (v v' : ℤ) (b : Box) (d : List ℤ) (t : Result Bool Memory) → v' ≡ v → IsBox b → HasCell k b → d ≡ values_at k b →
    (2 ≤ length d) × Contains d v' → IfOk t (λ keeps. IsTrue keeps → Removes k v b)
drop_may k v v' b d (Err e) same i cell here others = tt
drop_may k v v' b d (Ok t) same i cell here others = λ _. drop_follows k v b i cell (others_seen d k b v v' here same others)

-- what the code answers of a line is right of the line that it matched
pub line_answered : (m : ModelParts) (s : Spans) (h : Head) (told : ℕ) (b : Box) (l k : TreeLine) (t : Result Bool Memory) → l ≡ k →
    IfOk t (λ keeps. IsTrue keeps ↔ KeepsRule m s h told b k) → IfOk t (λ keeps. IsTrue keeps ↔ KeepsRule m s h told b l)
line_answered m s h told b l k t is f = subst (λ z. IfOk t (λ keeps. IsTrue keeps ↔ KeepsRule m s h told b z)) (sym is) f

-- What the calls answer of a problem that may be asked.
use Rattle.std.proofs.Common.{◌≡◌, ◌↔◌, ℕ, ◌-◌, ◌<◌, ◌≤◌, ℤ, Bool, false, List, [], ◌∷◌, length, get_or, Option, Some, None, slice_get, refl, sym, ◌∙◌, ap, subst, arith}
use Rattle.std.proofs.lemmas.List.{length-map}
use Rattle.std.proofs.lemmas.Option.{none-some, slice_get-get_or, slice_get_within}
use Rattle.std.specs.Prelude.{IsTrue, IfSome}
use Rattle.std.specs.List.{AllByRecursion}
use Rattle.ts_base.specs.Windows.{LooksInside}
use Rattle.ts_bound.specs.TermSpans.{Automata, LooksIn, term_span}
use Rattle.ts_domain.specs.Values.{IsDomain}
use Rattle.ts_model.specs.declared.model.Require.{Require}
use Rattle.ts_model.specs.Views.{model_parts}
use Rattle.ts_model.proofs.TermWindows.{terms_count}
use Rattle.ts_spans.specs.Machines.{automata_for, automata_in}
use Rattle.ts_spans.proofs.OfTerms.{window_looks, windows_look}
use Rattle.ts_filter.specs.declared.bar.Bar.{Bar}
use Rattle.ts_filter.specs.declared.drops.Removal.{Removal}
use Rattle.ts_filter.specs.Boxes.{Box, HasCell, IsPart, values_at}
use Rattle.ts_filter.specs.Drops.{IsFirstDrop}
use Rattle.ts_filter.specs.Excluded.{Refutes, Cuts}
use Rattle.ts_filter.specs.FirstCell.{IsFirstCell}
use Rattle.ts_filter.specs.KeptValue.{IsKept, end_with}
use Rattle.ts_filter.specs.OfTerm.{OfTerm}
use Rattle.ts_filter.proofs.BoxParts.{domain_at, inside_length, place}
use Rattle.ts_filter.proofs.SoundLaws.{each_at}
use Rattle.ts_search.specs.Dive.{kept_for, kept_value}
use Rattle.ts_search.specs.Drops.{least, next_drop}
use Rattle.ts_search.specs.LineOf.{Contest, is_cut_at, cut_by, inner, last, is_refuted_at}
use Rattle.ts_search.specs.Posed.{AreTablesOf, HasObjective, IsIdle, IsPosed}
use Rattle.ts_search.specs.Views.{contest_of, search_of}
use Rattle.ts_search.specs.declared.contest.Contest.{Contest as GivenContest}
use Rattle.ts_search.specs.declared.problem.Problem.{Problem}
use Rattle.ts_search.proofs.CallLaws.{refuted_is, first_refuted_is, cut_is, first_cut_is, never_least, drop_is}
use Rattle.ts_search.proofs.DiveLaws.{best_there}
use Rattle.ts_search.proofs.KeptLaws.{kept_is}

-- what holds of the machine of a term that there is
pub told_of : (tables : List Automata) (term : ℕ) (Is : Automata → Type 0) (Goal : Type 0) → term < length tables → OfTerm tables term Is →
    ((a : Automata) → slice_get tables term ≡ Some a → Is a → Goal) → Goal
told_of [] term Is Goal lt h f = absurd (omega (arith, lt))
told_of (d ∷ tables) term Is Goal lt h f =
    let a = get_or (d ∷ tables) term d in let there = slice_get-get_or (d ∷ tables) term d lt in f a there (h a there)

-- what holds of the machine of a term, among those of the model
pub told_in : (q : Problem) (tables : List Automata) (term : ℕ) (Is : Automata → Type 0) (Goal : Type 0) → AreTablesOf q tables → term < length tables →
    OfTerm tables term Is → ((a : Automata) → slice_get (automata_in (model_parts q.model.now)) term ≡ Some a → Is a → Goal) → Goal
told_in q tables term Is Goal t lt h f = told_of tables term Is Goal lt h (λ a there is. f a (ap (λ l. slice_get l term) (sym t) ∙ there) is)

-- where there is a requirement, or an objective, something is asked
pub busy : (q : Problem) (j : ℕ) → 1 ≤ j → j ≤ length q.model.now.requirements.items → IsIdle q → ⊥
busy q j from to idle = let none = ap length idle.0 in omega (arith, from, to, none)

pub aimed : (q : GivenContest) → HasObjective q → IsIdle q.problem → ⊥
aimed q objective idle = none-some q.objective (sym idle.1 ∙ objective)

module _ (q : Problem) (posed : IsPosed q) where
  -- the machines, one a term
  pub tables_count : (tables : List Automata) → AreTablesOf q tables → length tables ≡ length (search_of q).model.terms
  tables_count tables t = ap length t ∙ length-map (search_of q).model.terms (λ z. automata_for z.1)

  pub tables_long : (tables : List Automata) (term : ℕ) → AreTablesOf q tables → term < length (search_of q).model.terms → term < length tables
  tables_long tables term t lt = let same = tables_count tables t in omega (arith, same, lt)

  -- the term of a requirement, and that of the objective, stand
  pub required_there : (j : ℕ) (r : Require) → slice_get q.model.now.requirements.items (j - 1) ≡ Some r → r.term < length (search_of q).model.terms
  required_there j r e =
      each_at (λ (z : Require). z.term < length (search_of q).model.terms) q.model.now.requirements.items (j - 1) r posed.right.whole.requirements e

  -- the requirement at its place, as the code reads it
  pub required_is : (j : ℕ) (r : Require) → 1 ≤ j → j ≤ length q.model.now.requirements.items → r ≡ get_or q.model.now.requirements.items (j - 1) r →
      slice_get q.model.now.requirements.items (j - 1) ≡ Some r
  required_is j r from to is = slice_get-get_or q.model.now.requirements.items (j - 1) r (omega (arith, from, to)) ∙ ap Some (sym is)

  pub objective_there : (term : ℕ) → q.model.now.objective ≡ Some term → term < length (search_of q).model.terms
  objective_there term e = subst (λ o. IfSome o (λ t. t < length (search_of q).model.terms)) e posed.right.whole.objective

  -- the terms of the text are as many as those that are stated
  pub term_count : length (search_of q).model.terms ≡ length q.model.now.terms.entries
  term_count = terms_count q.model.now.terms.entries q.model.now.windows.items

  pub part_size : (b : Box) → IsPart b (search_of q).model.cells → length b ≡ last (search_of q)
  part_size b i = inside_length b (search_of q).model.cells i.inside

  pub some_cells : 1 ≤ last (search_of q)
  some_cells = posed.right.whole.some

  module _ (b : Box) (i : IsPart b (search_of q).model.cells) where
    -- the window of each machine ends at a cell of the box

    pub each_looks : (tables : List Automata) → AreTablesOf q tables → AllByRecursion (λ a. LooksIn a b) tables
    each_looks tables t =
        subst (AllByRecursion (λ a. LooksIn a b)) (sym t)
        (subst (λ n. AllByRecursion (λ (a : Automata). LooksInside n a.window) (automata_in (search_of q).model)) (sym (part_size b i))
        (windows_look (search_of q).model posed.right.whole))

    pub looks_of : (tables : List Automata) (term : ℕ) → AreTablesOf q tables → OfTerm tables term (λ a. LooksIn a b)
    looks_of tables term t a has =
        subst (λ n. LooksInside n a.window) (sym (part_size b i))
        (window_looks (search_of q).model posed.right.whole term a (ap (λ l. slice_get l term) (sym t) ∙ has))

    -- requirement j with its machine
    module _ (j : ℕ) (r : Require) (a : Automata) (from : 1 ≤ j) (there : slice_get q.model.now.requirements.items (j - 1) ≡ Some r)
        (machine : slice_get (automata_in (model_parts q.model.now)) r.term ≡ Some a) where
      pub refuted_told : (p : ℕ) (told : Bool) → p ≡ length b → IsTrue told ↔ Refutes r.op r.bound (term_span a p b) →
          told ≡ is_refuted_at (search_of q) j (last (search_of q)) b
      refuted_told p told at h =
          let size = part_size b i in
          let some = some_cells in
          refuted_is (automata_in (model_parts q.model.now)) r.term a machine
          q.model.now.requirements.items j r (from, there) refl p b
          (record { from = omega (arith, at, size, some); to = omega (arith, at); last = λ e. at }) told h
          ∙ ap (λ z. is_refuted_at (search_of q) j z b) (at ∙ size)

      pub first_refuted_told : (found : Option ℕ) → IsFirstCell a (Refutes r.op r.bound) b found →
          found ≡ least (λ p. is_refuted_at (search_of q) j p b) (inner (search_of q)) 1
      first_refuted_told found h =
          first_refuted_is (automata_in (model_parts q.model.now)) r.term a machine
          q.model.now.requirements.items j r (from, there) refl b
          (last (search_of q)) (part_size b i) found h

    pub next_drop_told : (found : Option Removal) →
        IsFirstDrop q.model.now.requirements.items (search_of q).spans b found →
        found ≡ next_drop (search_of q).model (search_of q).spans b
    next_drop_told found h =
        drop_is (search_of q).model (search_of q).spans b i.box found h

    -- without a requirement there is no drop
    pub never_dropped : length q.model.now.requirements.items ≡ 0 → None ≡ next_drop (search_of q).model (search_of q).spans b
    never_dropped none =
        next_drop_told None (λ t d. let lt = slice_get_within q.model.now.requirements.items (t.require - 1) d.refuted.require d.refuted.is.1 in
        omega (arith, none, lt))

module _ (q : GivenContest) (posed : IsPosed q.problem) (objective : HasObjective q) where
  -- the objective's machine
  pub objective_long : (tables : List Automata) → AreTablesOf q.problem tables → q.objective < length tables
  objective_long tables t = tables_long q.problem posed tables q.objective t (objective_there q.problem posed q.objective objective)

  module _ (b : Box) (i : IsPart b (search_of q.problem).model.cells) where
    module _ (a : Automata) (machine : slice_get (automata_in (model_parts q.problem.model.now)) q.objective ≡ Some a) where
      pub cut_told : (bar : Bar) (told : Bool) → IsTrue told ↔ Cuts q.goal bar (term_span a (length b) b) →
          told ≡ is_cut_at (contest_of q) (last (search_of q.problem)) b bar
      cut_told bar told h =
          cut_is (automata_in (model_parts q.problem.model.now)) q.objective a machine (search_of q.problem).model objective q.goal bar b
          (last (search_of q.problem)) (part_size q.problem posed b i) (some_cells q.problem posed) told h

      pub first_cut_told : (bar : Bar) (found : Option ℕ) → IsFirstCell a (Cuts q.goal bar) b found →
          found ≡ least (λ p. is_cut_at (contest_of q) p b bar) (inner (search_of q.problem)) 1
      first_cut_told bar found h =
          first_cut_is (automata_in (model_parts q.problem.model.now)) q.objective a machine (search_of q.problem).model objective q.goal bar b
          (last (search_of q.problem)) (part_size q.problem posed b i) found h

      pub kept_told : (k : ℕ) (v : ℤ) → HasCell k b → IsKept a q.goal k b v →
          v ≡ kept_value (search_of q.problem).model (search_of q.problem).spans q.goal k b
      kept_told k v cell h =
          let d : IsDomain (values_at k b) = domain_at b (k - 1) i.box (place k b cell) in
          kept_is (automata_in (model_parts q.problem.model.now)) q.objective a machine q.goal k b
          v d (best_there (end_with a q.goal k b) q.goal (values_at k b) d.some) h
          ∙ ap (kept_for (search_of q.problem).spans q.goal k b) (sym objective)

-- what is cut by a bar, if there is one
module _ (c : Contest) (o : Option Bar) (b : Box) where
  pub cut_by_bar : (bar : Bar) (told : Bool) → o ≡ Some bar → told ≡ is_cut_at c (last c.search) b bar → told ≡ cut_by c o (last c.search) b
  cut_by_bar bar told some h = h ∙ ap (λ z. cut_by c z (last c.search) b) (sym some)

  pub first_cut_by_bar : (bar : Bar) (found : Option ℕ) → o ≡ Some bar → found ≡ least (λ p. is_cut_at c p b bar) (inner c.search) 1 →
      found ≡ least (λ p. cut_by c o p b) (inner c.search) 1
  first_cut_by_bar bar found some h = h ∙ ap (λ z. least (λ p. cut_by c z p b) (inner c.search) 1) (sym some)

  -- without a bar nothing is cut
  pub uncut : o ≡ None → false ≡ cut_by c o (last c.search) b
  uncut none = ap (λ z. cut_by c z (last c.search) b) (sym none)

  pub none_cut : o ≡ None → None ≡ least (λ p. cut_by c o p b) (inner c.search) 1
  none_cut none = sym (never_least (inner c.search) 1) ∙ ap (λ z. least (λ p. cut_by c z p b) (inner c.search) 1) (sym none)

-- The laws, of models and spans.
use Rattle.std.proofs.Common.{◌≡◌, ℕ, ℤ, false, List, [], ◌∷◌, Some, None, MatchOption, refl, sym, ◌∙◌, ap, subst}
use Rattle.ts_base.specs.declared.goal.Goal.{Goal}
use Rattle.ts_certificate.specs.declared.certificate.Aim.{Aim}
use Rattle.ts_certificate.specs.declared.certificate.Aim.TheVariants.{Best as BestOf, List as ListOf}
use Rattle.ts_certificate.specs.Certificate.{Cert}
use Rattle.ts_model.specs.Meets.{Meets}
use Rattle.ts_model.specs.ModelParts.{ModelParts}
use Rattle.ts_filter.specs.Boxes.{Box}
use Rattle.ts_filter.specs.RefutedWorseDrop.{Spans}
use Rattle.ts_search.specs.Dive.{dive_box, value_of}
use Rattle.ts_frontier.specs.Forms.{Form, Alone, Wide, form}
use Rattle.ts_search.specs.Laws.{SearchSolves, SearchLists, OneSolved, OneListed, BudgetIsEnough, ListBudgetIsEnough, DropsEnd, DiveEnds, DiveMeets, DiveEndsEarly}
use Rattle.ts_search.specs.Lean.{AreLean, most_reported, Lean}
use Rattle.ts_search.specs.Listed.{IsListAnswer}
use Rattle.ts_search.specs.LineOf.{TheBest, TheFirst, search_for, contest_for, sought_for}
use Rattle.ts_search.specs.Solved.{IsSolution}
use Rattle.ts_search.specs.Turns.{start, turns, solve_certificate, list_start, list_turns, list_certificate}
use Rattle.ts_search.proofs.DiveLaws.{IsAlone, dive_alone, dive_fits, dive_early}
use Rattle.ts_search.proofs.DropLaws.{dropped_done}
use Rattle.ts_search.proofs.ListLean.{list_lean}
use Rattle.ts_search.proofs.ListSolves.{HasList, list_lists}
use Rattle.ts_search.proofs.ListUnique.{one_listing, list_no_budget}
use Rattle.ts_filter.proofs.SoundLaws.{values_are_sound}
use Rattle.ts_search.proofs.Right.{known, valued, best_known}
use Rattle.ts_search.proofs.Solves.{HasClaim, solve_solves}
use Rattle.ts_search.proofs.Unique.{solve_lean, one_certificate, no_budget}

to_lean : (m : ModelParts) (s : Spans) (a : Cert) (aim : Aim) → a.aim ≡ aim →
    AreLean (sought_for m s aim) (most_reported a.claim) false 0 (m.cells ∷ []) a.tree → Lean m s a
to_lean m s a aim e h = subst (λ z. AreLean (sought_for m s z) (most_reported a.claim) false 0 (m.cells ∷ []) a.tree) (sym e) h

pub search_solves : SearchSolves
search_solves m s goal n right some =
    let c = contest_for m s goal in
    let e = best_known m s goal right some in
    let r = solve_solves c n e some in
    let a = solve_certificate c (turns c n (start c)) in
    record {
      aim = r.aim;
      accepts = r.accepts;
      lean = to_lean m s a (BestOf goal) r.aim (solve_lean c e n);
      within = r.within;
      claim = r.claim;
    }

pub search_lists : SearchLists
search_lists m s count n right =
    let c = search_for m s in
    let k = known c right in
    let r = list_lists c count n k in
    let a = list_certificate count (list_turns c count n (list_start c)) in
    record {
      aim = r.aim;
      accepts = r.accepts;
      lean = to_lean m s a (ListOf count) r.aim (list_lean c count n k);
      within = r.within;
      first = r.first;
      claim = r.claim;
    }

module _ (m : ModelParts) (s : Spans) where
  has_claim : (goal : Goal) (n : ℕ) (a : Cert) → IsSolution m s goal n a → HasClaim (contest_for m s goal) n a
  has_claim goal n a h = record { aim = h.aim; accepts = h.accepts; within = h.within; claim = h.claim }

  lean_for : (goal : Goal) (n : ℕ) (a : Cert) → IsSolution m s goal n a →
      AreLean (TheBest (contest_for m s goal) None) (most_reported a.claim) false 0 (m.cells ∷ []) a.tree
  lean_for goal n a h = subst (λ z. AreLean (sought_for m s z) (most_reported a.claim) false 0 (m.cells ∷ []) a.tree) h.aim h.lean

  has_list : (count n : ℕ) (a : Cert) → IsListAnswer m s count n a → HasList (search_for m s) count n a
  has_list count n a h = record { aim = h.aim; accepts = h.accepts; within = h.within; first = h.first; claim = h.claim }

  list_lean_for : (count n : ℕ) (a : Cert) → IsListAnswer m s count n a →
      AreLean (TheFirst (search_for m s)) (most_reported a.claim) false 0 (m.cells ∷ []) a.tree
  list_lean_for count n a h = subst (λ z. AreLean (sought_for m s z) (most_reported a.claim) false 0 (m.cells ∷ []) a.tree) h.aim h.lean

pub one_solved : OneSolved
one_solved m s goal n a b right some p q =
    let c = contest_for m s goal in
    one_certificate c (known c.search right) n a b (has_claim m s goal n a p) (lean_for m s goal n a p) (has_claim m s goal n b q) (lean_for m s goal n b q)

pub one_listed : OneListed
one_listed m s count n a b right p q =
    let c = search_for m s in
    one_listing c (known c right) count n a b (has_list m s count n a p) (list_lean_for m s count n a p) (has_list m s count n b q)
    (list_lean_for m s count n b q)

pub budget_is_enough : BudgetIsEnough
budget_is_enough m s goal n a right l h b =
    let c = contest_for m s goal in no_budget c (known c.search right) n a h.accepts.tree h.claim l b

pub list_budget_is_enough : ListBudgetIsEnough
list_budget_is_enough m s count n a right l h b =
    let c = search_for m s in list_no_budget c (known c right) count n a (has_list m s count n a h) l b

-- drops

pub drops_end : DropsEnd
drops_end m s b i = dropped_done m s m.cells b i

-- the dive

one_series : (b : Box) (g : Form) → form b ≡ g → IsAlone g → (x : List ℤ) × (form b ≡ Alone x)
one_series b (Alone x) e h = (x, e)
one_series b (Wide k t) e h = absurd h

pub dive_ends : DiveEnds
dive_ends m s goal right = one_series (dive_box m s goal) (form (dive_box m s goal)) refl (dive_alone m s goal right.box)

pub dive_meets : DiveMeets
dive_meets m s goal f right some e =
    let w = subst (λ o. MatchOption o (Unit {0}) (λ w. Meets m w.series × (w.value ≡ value_of m w.series))) e (dive_fits m s goal right.box) in
    (w.0, valued m s right f.series some ∙ ap Some (sym w.1))

pub dive_ends_early : DiveEndsEarly
dive_ends_early m s goal n k b j p right i first few r = dive_early m s goal (values_are_sound m s right.holds) j p b i r n k first few

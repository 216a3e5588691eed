-- From the last state to the certificate, and from a series that was found to its value.
use Rattle.std.proofs.Common.{◌≡◌, ℕ, zero, suc, ◌+◌, ◌<◌, ◌≤◌, ℤ, nat_lt, List, [], ◌∷◌, ◌++◌, length, map, replicate, append_assoc, Vec, Global, Option, Some, None, unwrap_or, refl, sym, ◌∙◌, ap, subst, arith}
use Rattle.std.proofs.lemmas.Bool.{le-ltb, lt-ltb}
use Rattle.std.proofs.lemmas.List.{length-map}
use Rattle.std.proofs.lemmas.List.Elements.{All-from_recursion}
use Rattle.std.specs.List.{AllByRecursion}
use Rattle.std.specs.Option.{option_or}
use Rattle.ts_base.specs.declared.ext.Ext.{Ext}
use Rattle.ts_base.specs.declared.ext.Ext.TheVariants.{NegInf}
use Rattle.ts_base.specs.declared.goal.Goal.{Goal}
use Rattle.ts_base.specs.Limits.{IsCellValue}
use Rattle.ts_certificate.specs.declared.certificate.Aim.TheVariants.{Best as BestOf, List as ListOf}
use Rattle.ts_certificate.specs.declared.certificate.Claim.{Claim}
use Rattle.ts_certificate.specs.declared.certificate.Claim.TheVariants.{Full, All, BudgetList}
use Rattle.ts_certificate.specs.declared.certificate.TreeLine.{TreeLine}
use Rattle.ts_certificate.specs.declared.certificate.TreeLine.TheVariants.{Unsearched}
use Rattle.ts_certificate.specs.Certificate.{Cert}
use Rattle.ts_domain.specs.BoxSeries.{InBox, IsBox}
use Rattle.ts_domain.proofs.Sets.{each_contains}
use Rattle.ts_pattern.specs.Limits.{IsSeries}
use Rattle.ts_model.specs.FirstBest.{value_of_term}
use Rattle.ts_model.specs.Meets.{value_at}
use Rattle.ts_model.specs.Promise.{IsWhole}
use Rattle.ts_model.specs.ModelParts.{ModelParts}
use Rattle.ts_filter.specs.Boxes.{Box}
use Rattle.ts_filter.specs.RefutedWorseDrop.{Spans}
use Rattle.ts_filter.proofs.SoundLaws.{series_length}
use Rattle.ts_search.specs.RightSpans.{AreRight}
use Rattle.ts_search.specs.Dive.{Find, value_of, dive}
use Rattle.ts_search.specs.Listed.{IsListAnswer}
use Rattle.ts_search.specs.LineOf.{Search, Contest, search_for, contest_for}
use Rattle.ts_search.specs.Solved.{IsSolution}
use Rattle.ts_search.specs.Turns.{State, start, turns, left_open, found_or_warm, series_of, done_claim, budget_claim, solve_head, under_head, solve_certificate, ListState, list_start, list_turns, list_claim, list_certificate}
use Rattle.ts_search.specs.Views.{find_of}
use Rattle.ts_search.specs.declared.found.FoundSeries.{FoundSeries}
use Rattle.ts_search.proofs.Closing.{search_solves, search_lists}
use Rattle.ts_search.proofs.ListGood.{list_good_start, list_good_turns}
use Rattle.ts_search.proofs.Right.{known}
use Rattle.std.specs.Prelude.{IsSome}

-- series of a model's box are within the limits

values_within : (x : List ℤ) (b : Box) → InBox x b → IsBox b → AllByRecursion IsCellValue x
values_within [] [] h i = tt
values_within [] (d ∷ b) h i = absurd h
values_within (v ∷ x) [] h i = absurd h
values_within (v ∷ x) (d ∷ b) h i = (each_contains IsCellValue d v i.0.within h.0, values_within x b h.1 i.1)

pub is_series : (m : ModelParts) (x : List ℤ) → IsWhole m → IsBox m.cells → InBox x m.cells → IsSeries x
is_series m x whole box within =
    let long = series_length x m.cells within in
    let some = whole.some in
    let few = whole.few in
    record {
      some = omega (arith, long, some);
      few = omega (arith, long, few);
      cells = All-from_recursion IsCellValue x (values_within x m.cells within box);
    }

-- the value that the call answers is that of the objective
pub value_is : (m : ModelParts) (x : List ℤ) (term : ℕ) (v : Ext) → m.objective ≡ Some term → value_at m x term ≡ Some v → v ≡ value_of m x
value_is m x term v objective told =
    sym (ap (λ o. unwrap_or (value_of_term m x o) NegInf) objective ∙ ap (λ o. unwrap_or o NegInf) told)

-- open lines

pub open_lines : (w : List Box) → left_open w ≡ replicate (length w) Unsearched
open_lines [] = refl
open_lines (b ∷ w) = ap (λ ls. Unsearched ∷ ls) (open_lines w)

pub open_more : (first ls more : List TreeLine) (n : ℕ) → more ≡ ls ++ Unsearched ∷ [] → ls ≡ first ++ replicate n Unsearched →
    more ≡ first ++ replicate (n + 1) Unsearched
open_more first ls more n pushed is =
    let next : suc n ≡ n + 1 = omega arith in
    pushed ∙ ap (λ z. z ++ Unsearched ∷ []) is ∙ append_assoc first (replicate n Unsearched) (Unsearched ∷ [])
    ∙ ap (λ z. first ++ z) (last_same n) ∙ ap (λ k. first ++ replicate k Unsearched) next
  where
    last_same : (n : ℕ) → replicate n Unsearched ++ Unsearched ∷ [] ≡ replicate (suc n) Unsearched
    last_same zero = refl
    last_same (suc n) = ap (λ z. Unsearched ∷ z) (last_same n)

opened : (ls : List TreeLine) (w : List Box) (n : ℕ) (all : List TreeLine) → n ≡ length w → all ≡ ls ++ replicate n Unsearched → all ≡ ls ++ left_open w
opened ls w n all size is = is ∙ ap (λ k. ls ++ replicate k Unsearched) size ∙ ap (λ rest. ls ++ rest) (sym (open_lines w))

-- the found series, or the warm one where none was found
pub or_warm : (f w : Option FoundSeries) → find_of (option_or f w) ≡ found_or_warm (find_of f) (find_of w)
or_warm (Some f) w = refl
or_warm None w = refl

-- the certificate of a search

module _ (c : Contest) (ls : List TreeLine) (w : List Box) (found : Option Find) (n : ℕ) (size : n ≡ length w) where
  abbrev now : State
  now = record { lines = ls; pending = w; found = found }

  abbrev cert : Claim → List (List ℤ) → List TreeLine → Cert
  cert claim series tree = record { aim = BestOf c.goal; claim = claim; series = series; tree = tree }

  head_done : (w : List Box) → length w ≡ 0 → solve_head c found w ≡ record { aim = BestOf c.goal; claim = done_claim found; series = series_of found }
  head_done [] e = refl
  head_done (b ∷ w) e = absurd (omega (arith, e))

  head_left : (w : List Box) → (length w ≡ 0 → ⊥) →
      solve_head c found w ≡ record { aim = BestOf c.goal; claim = budget_claim (found_or_warm found c.warm); series = series_of (found_or_warm found c.warm) }
  head_left [] e = absurd (e (omega arith))
  head_left (b ∷ w) e = refl

  -- every box had its line
  pub done_certificate : (claim : Claim) (series : List (List ℤ)) (tree : List TreeLine) → n ≡ 0 → claim ≡ done_claim found → series ≡ series_of found →
      tree ≡ ls ++ replicate n Unsearched →
      let given : Cert = record { aim = BestOf c.goal; claim = claim; series = series; tree = tree } in given ≡ solve_certificate c now
  done_certificate claim series tree none is_claim same_series is_tree =
      (λ i. cert (is_claim i) (same_series i) (opened ls w n tree size is_tree i))
      ∙ ap (λ h. under_head h (ls ++ left_open w)) (sym (head_done w (sym size ∙ none)))

  -- some boxes still wait
  pub budget_certificate : (claim : Claim) (series : List (List ℤ)) (tree : List TreeLine) → (n ≡ 0 → ⊥) → claim ≡ budget_claim (found_or_warm found c.warm) →
      series ≡ series_of (found_or_warm found c.warm) → tree ≡ ls ++ replicate n Unsearched →
      let given : Cert = record { aim = BestOf c.goal; claim = claim; series = series; tree = tree } in given ≡ solve_certificate c now
  budget_certificate claim series tree some is_claim same_series is_tree =
      (λ i. cert (is_claim i) (same_series i) (opened ls w n tree size is_tree i))
      ∙ ap (λ h. under_head h (ls ++ left_open w)) (sym (head_left w (λ e. some (size ∙ e))))

-- the certificate is solved
pub solved : (m : ModelParts) (s : Spans) (goal : Goal) (n : ℕ) (c : Contest) (state : State) (cert : Cert) → AreRight m s → IsSome m.objective →
    c ≡ contest_for m s goal → state ≡ turns c n (start c) → cert ≡ solve_certificate c state → IsSolution m s goal n cert
solved m s goal n c state cert right some is turned made =
    subst (IsSolution m s goal n)
    (sym (made ∙ ap (solve_certificate c) turned ∙ ap (λ z. solve_certificate z (turns z n (start z))) is))
    (search_solves m s goal n right some)

-- the search with the dive's series
pub with_dive : (m : ModelParts) (s : Spans) (goal : Goal) (w : Option Find) → w ≡ dive m s goal →
    let c : Contest = record { search = search_for m s; goal = goal; warm = w } in c ≡ contest_for m s goal
with_dive m s goal w is = (λ i. record { search = search_for m s; goal = goal; warm = is i })

-- the claim of a listing

pub claim_full : (count listed : ℕ) (w : List Box) → count ≤ listed → Full listed ≡ list_claim (nat_lt listed count) listed w
claim_full count listed w l = ap (λ t. list_claim t listed w) (sym (le-ltb listed count l))

pub claim_all : (count listed : ℕ) (w : List Box) → listed < count → length w ≡ 0 → All listed ≡ list_claim (nat_lt listed count) listed w
claim_all count listed [] l e = ap (λ t. list_claim t listed []) (sym (lt-ltb listed count l))
claim_all count listed (b ∷ w) l e = absurd (omega (arith, e))

pub claim_budget : (count listed : ℕ) (w : List Box) → listed < count → (length w ≡ 0 → ⊥) → BudgetList listed ≡ list_claim (nat_lt listed count) listed w
claim_budget count listed [] l e = absurd (e (omega arith))
claim_budget count listed (b ∷ w) l e = ap (λ t. list_claim t listed (b ∷ w)) (sym (lt-ltb listed count l))

-- the certificate of a listing

pub listed_certificate : (count : ℕ) (ls : List TreeLine) (w : List Box) (xs : List (List ℤ)) (n listed : ℕ) (claim : Claim) (tree : List TreeLine) →
    n ≡ length w → listed ≡ length xs → claim ≡ list_claim (nat_lt listed count) listed w → tree ≡ ls ++ replicate n Unsearched →
    let given : Cert = record { aim = ListOf count; claim = claim; series = xs; tree = tree } in
    let now : ListState = record { lines = ls; pending = w; listed = xs } in given ≡ list_certificate count now
listed_certificate count ls w xs n listed claim tree size many is_claim is_tree =
    (λ i. record {
      aim = ListOf count;
      claim = (is_claim ∙ ap (λ k. list_claim (nat_lt k count) k w) many) i;
      series = xs;
      tree = opened ls w n tree size is_tree i;
    })

pub listed : (m : ModelParts) (s : Spans) (count n : ℕ) (state : ListState) (cert : Cert) (c : Search) → AreRight m s → c ≡ search_for m s →
    state ≡ list_turns c count n (list_start c) → cert ≡ list_certificate count state → IsListAnswer m s count n cert
listed m s count n state cert c right is turned made =
    subst (IsListAnswer m s count n)
    (sym (made ∙ ap (list_certificate count) turned ∙ ap (λ z. list_certificate count (list_turns z count n (list_start z))) is))
    (search_lists m s count n right)

-- no more series are listed than were asked for
pub few_listed : (c : Search) (count n : ℕ) (state : ListState) → AreRight c.model c.spans → state ≡ list_turns c count n (list_start c) →
    length state.listed ≤ count
few_listed c count n state right turned =
    subst (λ (z : ListState). length z.listed ≤ count) (sym turned)
    (list_good_turns c (known c right) count n (list_start c) (list_good_start c count (known c right))).few

pub few_from : (c : Search) (count n : ℕ) (xs : List (Vec ℤ Global)) (state : ListState) → AreRight c.model c.spans →
    state ≡ list_turns c count n (list_start c) → state.listed ≡ map (λ (x : Vec ℤ Global). x.items) xs → length xs ≤ count
few_from c count n xs state right turned is =
    let few = few_listed c count n state right turned in
    let same = ap length is ∙ length-map xs (λ (x : Vec ℤ Global). x.items) in omega (arith, few, same)

-- The lines of a listing are lean.
use Rattle.std.proofs.Common.{◌≡◌, ℕ, zero, suc, ◌<◌, ℤ, Bool, true, false, cond, nat_lt, List, [], ◌∷◌, ◌++◌, length, Option, Some, None, option_map, unwrap_or, refl, ◌∙◌, ap, subst, arith, ltb-true, ltb-false}
use Rattle.ts_certificate.specs.declared.certificate.TreeLine.{TreeLine}
use Rattle.ts_certificate.specs.declared.certificate.TreeLine.TheVariants.{Split, Remove, No, Worse, Yes, Unsearched}
use Rattle.ts_filter.specs.Boxes.{Box, IsPart}
use Rattle.ts_filter.specs.Steps.{made_by, Steps}
use Rattle.ts_filter.specs.Tree.{reported_by}
use Rattle.ts_search.specs.Drops.{or_later, next_drop}
use Rattle.ts_frontier.specs.Forms.{Form, Alone, Wide, form}
use Rattle.ts_search.specs.Lean.{IsFree, IsLeanLine, StandsInTime, or_open, sought_after, AreLean, most_reported}
use Rattle.ts_search.specs.LineOf.{Search, Sought, TheFirst, last, requirements, refuted_last, first_no, branch_line, form_line, line_of}
use Rattle.ts_search.specs.Turns.{ListState, list_turn_on, list_turn, list_turns, list_start, left_open, list_claim, list_certificate}
use Rattle.ts_search.proofs.Known.{Known}
use Rattle.ts_search.proofs.ListGood.{head_so_far, GoodList, list_good_start, list_good_turn, list_good_turns}
use Rattle.ts_search.proofs.Parts.{AreParts}
use Rattle.ts_search.proofs.Reason.{free_of_no, GivesReason, reason_first_no, by_reason, branch_lean}
use Rattle.ts_search.proofs.Unique.{lean_append, stands_now, lean_left}

module _ (c : Search) (b : Box) (i : IsPart b c.model.cells) where
  list_free : refuted_last c b ≡ None → first_no c b (requirements c) 1 ≡ None → IsFree (TheFirst c) b
  list_free p q = record { refuted = free_of_no c b i p q; above = λ k. refl }

  list_has : IsLeanLine (TheFirst c) b (line_of (TheFirst c) b)
  list_has = at_end (refuted_last c b) refl
    where
      inside : refuted_last c b ≡ None → (k : ℕ) (t : ℤ) → form b ≡ Wide k t → (o : Option TreeLine) → first_no c b (requirements c) 1 ≡ o → GivesReason o →
          IsLeanLine (TheFirst c) b (unwrap_or o (branch_line c b k t))
      inside p k t w None q g = branch_lean (TheFirst c) b k t w (list_free p q) (next_drop c.model c.spans b) refl
      inside p k t w (Some l) q g =
          by_reason (TheFirst c) b l g
          (ap (λ o. or_later (option_map (λ j. No j (last c)) o) (or_later (first_no c b (requirements c) 1) None)) p ∙ ap (λ o. or_later o None) q)

      by_form : refuted_last c b ≡ None → (g : Form) → form b ≡ g → IsLeanLine (TheFirst c) b (form_line (TheFirst c) b g)
      by_form p (Alone x) w = tt
      by_form p (Wide k t) w = inside p k t w (first_no c b (requirements c) 1) refl (reason_first_no c b (requirements c) 1)

      at_end : (o : Option ℕ) → refuted_last c b ≡ o → IsLeanLine (TheFirst c) b
          (unwrap_or (option_map (λ j. No j (last c)) o) (form_line (TheFirst c) b (form b)))
      at_end None p = by_form p (form b) refl
      at_end (Some j) p = ap (λ o. or_later (option_map (λ j. No j (last c)) o) (or_later (first_no c b (requirements c) 1) None)) p

module _ (c : Search) (count : ℕ) where
  abbrev IsLeanSoFar : List TreeLine → Type 0
  IsLeanSoFar ls = AreLean (TheFirst c) (Some count) false 0 (c.model.cells ∷ []) ls

  list_lean_turn : (s : ListState) → GoodList c count s → IsLeanSoFar s.lines → IsLeanSoFar (list_turn c count s).lines
  list_lean_turn s g n =
      elim (nat_lt (length s.listed) count) as (λ t. nat_lt (length s.listed) count ≡ t → IsLeanSoFar (cond t (list_turn_on c s s.pending) s).lines) [
        | true ↦ λ q. go (ltb-true (length s.listed) count q) s.pending refl
        | false ↦ λ q. n
      ] refl
    where
      go : length s.listed < count → (w : List Box) → s.pending ≡ w → IsLeanSoFar (list_turn_on c s w).lines
      go room [] at = n
      go room (b ∷ u) at =
          let all = c.model.cells ∷ [] in
          let told = length s.listed in
          let st = subst (λ z. Steps c.model c.spans (head_so_far count s.listed) all 0 s.lines z told) at g.stepped in
          let here = subst (λ z. AreParts c.model.cells z) at g.boxes in
          let l = line_of (TheFirst c) b in
          lean_append c.model c.spans (Some count) (head_so_far count s.listed) false s.lines (l ∷ []) (TheFirst c) 0 all (b ∷ u) told g.all_checked st n
          (stands_now (Some count) told l room, list_has c b here.0, tt)

  list_lean_turns : Known c → (n : ℕ) (s : ListState) → GoodList c count s → IsLeanSoFar s.lines → IsLeanSoFar (list_turns c count n s).lines
  list_lean_turns k zero s g l = l
  list_lean_turns k (suc n) s g l = list_lean_turns k n (list_turn c count s) (list_good_turn c k count s g) (list_lean_turn s g l)

-- without the limit on yes lines

free_follow : (count : ℕ) (o : Bool) (y : ℕ) (l : TreeLine) → StandsInTime (Some count) o y l → StandsInTime None o y l
free_follow count o y (Split k t) h = (h.0, tt)
free_follow count o y (Remove k v j) h = (h.0, tt)
free_follow count o y (No j p) h = (h.0, tt)
free_follow count o y (Worse p) h = (h.0, tt)
free_follow count o y Yes h = (h.0, tt)
free_follow count o y Unsearched h = tt

no_limit : (q : Sought) (count : ℕ) (ls : List TreeLine) (o : Bool) (y : ℕ) (w : List Box) → AreLean q (Some count) o y w ls → AreLean q None o y w ls
no_limit q count [] o y w n = tt
no_limit q count (l ∷ ls) o y [] n = n
no_limit q count (l ∷ ls) o y (b ∷ w) n = (
  free_follow count o y l n.0,
  n.1,
  no_limit (sought_after q (form b) l) count ls (or_open o l) (reported_by l y) (made_by l b ++ w) n.2,
)

as_claimed : (c : Search) (count k : ℕ) (ls : List TreeLine) (t : Bool) (w : List Box) → (t ≡ false → count ≡ k) →
    AreLean (TheFirst c) (Some count) false 0 (c.model.cells ∷ []) ls →
    AreLean (TheFirst c) (most_reported (list_claim t k w)) false 0 (c.model.cells ∷ []) ls
as_claimed c count k ls false w e n = subst (λ z. AreLean (TheFirst c) (Some z) false 0 (c.model.cells ∷ []) ls) (e refl) n
as_claimed c count k ls true [] e n = no_limit (TheFirst c) count ls false 0 (c.model.cells ∷ []) n
as_claimed c count k ls true (b ∷ w) e n = no_limit (TheFirst c) count ls false 0 (c.model.cells ∷ []) n

pub list_lean : (c : Search) (count n : ℕ) → Known c →
    let a = list_certificate count (list_turns c count n (list_start c)) in
    AreLean (TheFirst c) (most_reported a.claim) false 0 (c.model.cells ∷ []) a.tree
list_lean c count n k =
    let all = c.model.cells ∷ [] in
    let s = list_turns c count n (list_start c) in
    let told = length s.listed in
    let begin = list_good_start c count k in
    let g = list_good_turns c k count n (list_start c) begin in
    as_claimed c count told (s.lines ++ left_open s.pending) (nat_lt told count) s.pending
    (λ q. (let a = ltb-false told count q in let b = g.few in omega arith))
    (lean_append c.model c.spans (Some count) (head_so_far count s.listed) false s.lines
    (left_open s.pending) (TheFirst c) 0 all s.pending told g.all_checked g.stepped
    (list_lean_turns c count k n (list_start c) begin tt)
    (lean_left (TheFirst c) (Some count) false told s.pending))

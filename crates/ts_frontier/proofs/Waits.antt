-- Lines that keep their rules may be followed, and few boxes wait: each split gives up a value in each of its sides.
use Rattle.std.proofs.Common.{ℕ, ℤ, ◌+◌, ◌≤◌, List, [], ◌∷◌, ◌++◌, length, Option, Some, None, sym, subst, arith}
use Rattle.std.specs.List.{AllByRecursion}
use Rattle.ts_certificate.specs.declared.certificate.Aim.{Aim}
use Rattle.ts_certificate.specs.declared.certificate.Claim.{Claim}
use Rattle.ts_certificate.specs.declared.certificate.TreeLine.{TreeLine}
use Rattle.ts_certificate.specs.declared.certificate.TreeLine.TheVariants.{Split, Remove, No, Worse, Yes, Unsearched}
use Rattle.ts_certificate.specs.Grammar.{CertLine, SaysAim, SaysClaim, SaysSeries, SaysTree, SaysEnd}
use Rattle.ts_domain.specs.BoxSeries.{IsBox}
use Rattle.ts_model.specs.ModelParts.{ModelParts, total_of}
use Rattle.ts_filter.specs.Boxes.{Box, IsPart}
use Rattle.ts_filter.specs.Lines.{Stand, first_stand, KeepsTreeRule, KeepsLine, waiting_after, stand_after, Leads}
use Rattle.ts_filter.specs.RefutedWorseDrop.{Spans}
use Rattle.ts_filter.specs.Steps.{made_by}
use Rattle.ts_filter.proofs.BoxParts.{inside_length, low_part, high_part, without_part, others_stay, part_self, box_total, low_total, high_total, without_total}
use Rattle.ts_frontier.specs.Follow.{MakesBoxes, LeadTo}
use Rattle.ts_frontier.specs.Laws.{RulesFollow, FewWait, FewWaitAfter}

pub rules_follow : RulesFollow
rules_follow m s h told b (Split k t) i f = f
rules_follow m s h told b (Remove k v j) i f = record {
  cell = f.cell;
  there = f.there;
  leaves = others_stay k v b i f.cell f.many f.there;
}
rules_follow m s h told b (No j p) i f = tt
rules_follow m s h told b (Worse p) i f = tt
rules_follow m s h told b Yes i f = tt
rules_follow m s h told b Unsearched i f = tt

-- each box, with those after it counted and its own values, is at most so much
abbrev Few : ℕ → List Box → Type 0
Few top [] = Unit {0}
Few top (b ∷ w) = (length (b ∷ w) + total_of b ≤ top) × Few top w

-- few boxes wait, and each lies inside the first box
record Bounded (top : ℕ) (m : Box) (w : List Box) : Type 0 where
  parts : AllByRecursion (λ c. IsPart c m) w
  few : Few top w

parts_made : (m : Box) (l : TreeLine) (b : Box) (w : List Box) → AllByRecursion (λ c. IsPart c m) (b ∷ w) → MakesBoxes l b →
    AllByRecursion (λ c. IsPart c m) (made_by l b ++ w)
parts_made m (Split k t) b w e f = (low_part k t b m e.0 f.cell f.below, (high_part k t b m e.0 f.cell f.above, e.1))
parts_made m (Remove k v j) b w e f = (without_part k v b m e.0 f.cell f.leaves, e.1)
parts_made m (No j p) b w e f = e.1
parts_made m (Worse p) b w e f = e.1
parts_made m Yes b w e f = e.1
parts_made m Unsearched b w e f = e.1

few_made : (top : ℕ) (l : TreeLine) (b : Box) (w : List Box) → IsBox b → Few top (b ∷ w) → MakesBoxes l b → Few top (made_by l b ++ w)
few_made top (Split k t) b w i e f =
    let n = e.0 in let low = low_total k t b f.cell f.above in let high = high_total k t b f.cell in ((omega arith), ((omega arith), e.1))
few_made top (Remove k v j) b w i e f = let n = e.0 in let less = without_total k v b i f.cell f.there in ((omega arith), e.1)
few_made top (No j p) b w i e f = e.1
few_made top (Worse p) b w i e f = e.1
few_made top Yes b w i e f = e.1
few_made top Unsearched b w i e f = e.1

one_more : (top : ℕ) (m : Box) (l : TreeLine) (b : Box) (w : List Box) → Bounded top m (b ∷ w) → MakesBoxes l b → Bounded top m (made_by l b ++ w)
one_more top m l b w h f = record { parts = parts_made m l b w h.parts f; few = few_made top l b w h.parts.0.box h.few f }

led : (top : ℕ) (m : Box) (ls : List TreeLine) (w left : List Box) → Bounded top m w → LeadTo w ls left → Bounded top m left
led top m [] w left h f = subst (λ z. Bounded top m z) f h
led top m (l ∷ ls) [] left h f = absurd f
led top m (l ∷ ls) (b ∷ w) left h f = led top m ls (made_by l b ++ w) left (one_more top m l b w h f.0) f.1

-- at the start, and at the end
at_first : (m : Box) → IsBox m → Bounded (total_of m + 1) m (m ∷ [])
at_first m i = record { parts = (part_self m i, tt); few = ((omega arith), tt) }

at_last : (m : Box) (w : List Box) → IsBox m → Bounded (total_of m + 1) m w → length w + length m ≤ total_of m + 1
at_last m [] i h = omega (arith, box_total m i)
at_last m (b ∷ w) i h = let n = h.few.0 in omega (arith, box_total b h.parts.0.box, inside_length b m h.parts.0.inside)

pub few_wait : FewWait
few_wait cells ls waiting i f = at_last cells waiting i (led (total_of cells + 1) cells ls (cells ∷ []) waiting (at_first cells i) f)

-- the lines of a certificate

tree_line : (m : ModelParts) (s : Spans) (top : ℕ) (aim : Option Aim) (claim : Option Claim) (xs : List (List ℤ)) (w : List Box) (told : ℕ) (l : TreeLine) →
    KeepsTreeRule m s aim claim xs w told l → Bounded top m.cells w → Bounded top m.cells (waiting_after w l)
tree_line m s top None claim xs w told l k h = absurd k
tree_line m s top (Some a) None xs w told l k h = absurd k
tree_line m s top (Some a) (Some c) xs [] told l k h = absurd k
tree_line m s top (Some a) (Some c) xs (b ∷ w) told l k h =
    one_more top m.cells l b w h (rules_follow m s (record { aim = a; claim = c; series = xs }) told b l h.parts.0.box k)

cert_line : (m : ModelParts) (s : Spans) (top : ℕ) (t : Stand) (l : CertLine) → KeepsLine m s t l → Bounded top m.cells t.waiting →
    Bounded top m.cells (stand_after t l).waiting
cert_line m s top t (SaysAim a) k h = h
cert_line m s top t (SaysClaim c) k h = h
cert_line m s top t (SaysSeries x) k h = h
cert_line m s top t (SaysTree l) k h = tree_line m s top t.aim t.claim t.series t.waiting t.reported l k h
cert_line m s top t (SaysEnd checked unsearched) k h = h

cert_lines : (m : ModelParts) (s : Spans) (top : ℕ) (t : Stand) (ls : List CertLine) (u : Stand) → Leads m s t ls u → Bounded top m.cells t.waiting →
    Bounded top m.cells u.waiting
cert_lines m s top t [] u f h = subst (λ (z : Stand). Bounded top m.cells z.waiting) f h
cert_lines m s top t (l ∷ ls) u f h = cert_lines m s top (stand_after t l) ls u f.1 (cert_line m s top t l f.0 h)

pub few_wait_after : FewWaitAfter
few_wait_after m s ls t None waiting i f g =
    subst (λ w. length w + length m.cells ≤ total_of m.cells + 1) (sym g)
    (at_last m.cells t.waiting i (cert_lines m s (total_of m.cells + 1) (first_stand m) ls t f (at_first m.cells i)))
few_wait_after m s ls t (Some broken) waiting i f g =
    subst (λ w. length w + length m.cells ≤ total_of m.cells + 1) (sym g) (omega (arith, box_total m.cells i))

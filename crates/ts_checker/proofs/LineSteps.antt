-- A tree line on the box that waits for it: whether it keeps its rule, and may be followed.
use Rattle.std.proofs.Common.{◌≡◌, ◌↔◌, ℕ, ◌<◌, ℤ, Bool, IsTrue, List, [], ◌∷◌, length, Option, Some, None, sym, ◌∙◌, ap, subst}
use Rattle.std.specs.Global.{Vec}
use Rattle.std.specs.Prelude.{IfOk, Result, Ok, Err}
use Rattle.std.proofs.lemmas.List.{length-map}
use Rattle.std.proofs.lemmas.Option.{slice_get_within}
use Rattle.ts_base.specs.declared.error.Memory.{Memory}
use Rattle.ts_certificate.specs.declared.certificate.Aim.{Aim}
use Rattle.ts_certificate.specs.declared.certificate.Claim.{Claim}
use Rattle.ts_certificate.specs.declared.certificate.Parsed.{Parsed}
use Rattle.ts_certificate.specs.declared.certificate.Parsed.TheVariants.{Tree}
use Rattle.ts_certificate.specs.declared.certificate.TreeLine.{TreeLine}
use Rattle.ts_certificate.specs.declared.certificate.TreeLine.TheVariants.{Yes}
use Rattle.ts_certificate.specs.Seen.{line_seen}
use Rattle.ts_model.specs.ModelParts.{ModelParts}
use Rattle.ts_domain.specs.BoxSeries.{Boxes}
use Rattle.ts_filter.specs.Boxes.{Box}
use Rattle.ts_filter.specs.Lines.{Stand, KeepsLine, KeepsTreeRule}
use Rattle.ts_filter.specs.RefutedWorseDrop.{Spans}
use Rattle.ts_filter.specs.Rules.{Head, KeepsRule}
use Rattle.ts_frontier.specs.Follow.{MakesBoxes}
use Rattle.ts_frontier.specs.Waiting.{first, rest}
use Rattle.ts_checker.specs.declared.standing.Standing.{Standing}
use Rattle.ts_checker.specs.Standings.{MayStep, MayTake, stand_of}
use Rattle.ts_checker.specs.Subjects.{AreSized, series_of}

-- the rule of a tree line, where the aim, the claim and the first box are known
pub rule_told : (m : ModelParts) (s : Spans) (aim : Option Aim) (claim : Option Claim) (xs : List (List ℤ)) (boxes : List Box) (told : ℕ) (l : TreeLine)
    (a : Aim) (c : Claim) (b : Box) (t : Bool) → aim ≡ Some a → claim ≡ Some c → boxes ≡ b ∷ rest boxes →
    (IsTrue t ↔ KeepsRule m s (record { aim = a; claim = c; series = xs }) told b l) → IsTrue t ↔ KeepsTreeRule m s aim claim xs boxes told l
rule_told m s aim claim xs boxes told l a c b t is_aim is_claim front told_by_rule =
    subst (λ o. IsTrue t ↔ KeepsTreeRule m s o claim xs boxes told l) (sym is_aim)
    (subst (λ o. IsTrue t ↔ KeepsTreeRule m s (Some a) o xs boxes told l) (sym is_claim)
    (subst (λ w. IsTrue t ↔ KeepsTreeRule m s (Some a) (Some c) xs w told l) (sym front) told_by_rule))

pub tree_answered : (m : ModelParts) (s : Spans) (aim : Option Aim) (claim : Option Claim) (items listed : List (Vec ℤ)) (boxes : List Box) (told : ℕ)
    (l : TreeLine) (a : Aim) (c : Claim) (b : Box) (now : List Box) (t : Result Bool Memory) → aim ≡ Some a → claim ≡ Some c → listed ≡ items →
    now ≡ boxes → now ≡ b ∷ rest now →
    IfOk t (λ keeps. IsTrue keeps ↔ KeepsRule m s (record { aim = a; claim = c; series = series_of listed }) told b l) →
    IfOk t (λ keeps. IsTrue keeps ↔ KeepsTreeRule m s aim claim (series_of items) boxes told l)
tree_answered m s aim claim items listed boxes told l a c b now (Err e) is_aim is_claim lent same front h = tt
tree_answered m s aim claim items listed boxes told l a c b now (Ok t) is_aim is_claim lent same front h =
    subst (λ xs. IsTrue t ↔ KeepsTreeRule m s aim claim (series_of xs) boxes told l) lent
    (rule_told m s aim claim (series_of listed) boxes told l a c b t is_aim is_claim (subst (λ w. w ≡ b ∷ rest w) same front) h)

-- a line that keeps its rule on the present box may be followed there
pub may_step : (t : Standing) (line : TreeLine) (b : Box) → IsTrue t.frontier.ready → t.frontier.boxes ≡ b ∷ rest t.frontier.boxes → MakesBoxes line b →
    (line ≡ Yes → t.reported < length t.series.items) → MayStep t line
may_step t line b ready front may told =
    let one : first t.frontier.boxes ≡ b = ap first front in
    record {
      ready = ready;
      front = front ∙ ap (λ z. z ∷ rest t.frontier.boxes) (sym one);
      fits = subst (MakesBoxes line) (sym one) may;
      reported = told;
    }

-- a `yes` that keeps its rule has a listed series
pub yes_below : (m : ModelParts) (s : Spans) (h : Head) (told : ℕ) (b : Box) (l : TreeLine) → KeepsRule m s h told b l → l ≡ Yes → told < length h.series
yes_below m s h told b l k is =
    let n = subst (λ z. KeepsRule m s h told b z) is k in slice_get_within h.series told n.series n.listed

-- where the rule of a tree line is kept, it may be followed
pub tree_may : (m : ModelParts) (s : Spans) (a : Aim) (c : Claim) (listed : List (Vec ℤ)) (b : Box) (t : Standing) (l : TreeLine) (r : Result Bool Memory) →
    IsTrue t.frontier.ready → t.frontier.boxes ≡ b ∷ rest t.frontier.boxes → listed ≡ t.series.items →
    IfOk r (λ keeps. IsTrue keeps ↔ KeepsRule m s (record { aim = a; claim = c; series = series_of listed }) t.reported b l) →
    IfOk r (λ keeps. IsTrue keeps → MakesBoxes l b) → IfOk r (λ keeps. IsTrue keeps → MayStep t l)
tree_may m s a c listed b t l (Err e) ready front lent keeps may = tt
tree_may m s a c listed b t l (Ok k) ready front lent keeps may = λ kept.
    may_step t l b ready front (may kept) (λ is.
    let below = yes_below m s (record { aim = a; claim = c; series = series_of listed }) t.reported b l (keeps.0 kept) is in
    subst (λ n. t.reported < n) (length-map listed (λ x. x.items) ∙ ap length lent) below)

-- a line that was read as a tree line
pub as_tree : (m : ModelParts) (s : Spans) (t : Stand) (p : Parsed) (l : TreeLine) (r : Result Bool Memory) → p ≡ Tree l →
    IfOk r (λ keeps. IsTrue keeps ↔ KeepsTreeRule m s t.aim t.claim t.series t.waiting t.reported l) →
    IfOk r (λ keeps. IsTrue keeps ↔ KeepsLine m s t (line_seen p))
as_tree m s t p l r is h = subst (λ q. IfOk r (λ keeps. IsTrue keeps ↔ KeepsLine m s t (line_seen q))) (sym is) h

pub may_as_tree : (t : Standing) (p : Parsed) (l : TreeLine) (r : Result Bool Memory) → p ≡ Tree l → IfOk r (λ keeps. IsTrue keeps → MayStep t l) →
    IfOk r (λ keeps. IsTrue keeps → MayTake t p)
may_as_tree t p l r is h = subst (λ q. IfOk r (λ keeps. IsTrue keeps → MayTake t q)) (sym is) h

-- boxes keep their number of cells

pub new_sized : (m : ModelParts) (t : Standing) (root : Boxes) (cells : List (List ℤ)) →
    stand_of t ≡ record { aim = None; claim = None; series = []; waiting = root.present ∷ []; reported = 0 } →
    root ≡ record { earlier = []; present = cells } → cells ≡ m.cells → AreSized m t.frontier.boxes
new_sized m t root cells unfed alone all =
    subst (λ (s : Stand). AreSized m s.waiting) (sym unfed) (ap length (ap (λ (b : Boxes). b.present) alone ∙ all), tt)

pub first_sized : (m : ModelParts) (boxes now : List Box) (b : Box) → now ≡ boxes → now ≡ b ∷ rest now → AreSized m boxes → length b ≡ length m.cells
first_sized m boxes now b same front h = (subst (AreSized m) (sym same ∙ front) h).0

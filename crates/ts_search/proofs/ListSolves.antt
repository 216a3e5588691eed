-- At its end a listing has a certificate that is listed.
use Rattle.std.proofs.Common.{◌≡◌, ◌⊎◌, ℕ, zero, suc, ◌+◌, ◌<◌, ◌≤◌, ℤ, Bool, true, false, cond, nat_lt, List, [], ◌∷◌, ◌++◌, length, refl, sym, ◌∙◌, ap, subst, inl, inr, ⊎_elim, arith, append-nil, ltb-true, ltb-false}
use Rattle.std.proofs.lemmas.List.{length_push}
use Rattle.std.specs.List.{AllByRecursion}
use Rattle.ts_certificate.specs.declared.certificate.Aim.TheVariants.{List as ListOf}
use Rattle.ts_certificate.specs.declared.certificate.Claim.{Claim}
use Rattle.ts_certificate.specs.declared.certificate.Claim.TheVariants.{Full, All, BudgetList}
use Rattle.ts_certificate.specs.declared.certificate.TreeLine.{TreeLine}
use Rattle.ts_certificate.specs.declared.certificate.TreeLine.TheVariants.{Split, Remove, No, Worse, Yes, Unsearched}
use Rattle.ts_certificate.specs.Certificate.{Cert, checked_count}
use Rattle.ts_certificate.specs.Grammar.{series_count}
use Rattle.ts_domain.specs.BoxSeries.{IsBefore, AreRising}
use Rattle.ts_model.specs.Meets.{Meets}
use Rattle.ts_model.specs.ModelParts.{ModelParts}
use Rattle.ts_filter.specs.Accepts.{Accepts, ClaimFits, ComesAfter, IsAsClaimed, AllFit, HasTree}
use Rattle.ts_filter.specs.Boxes.{Box, InSome}
use Rattle.ts_filter.specs.Holds.{IsListed}
use Rattle.ts_filter.specs.Rules.{Head, KeepsRule, MayStayOpen}
use Rattle.ts_filter.specs.Steps.{Steps}
use Rattle.ts_filter.proofs.TreeLaws.{tree_is_steps, steps_go_on}
use Rattle.ts_search.specs.LineOf.{Search, TheFirst, line_of}
use Rattle.ts_search.specs.Listed.{AreFirst, IsListedBy}
use Rattle.ts_search.specs.Turns.{ListState, list_start, list_turn_on, list_turn, list_turns, left_open, list_claim, list_certificate}
use Rattle.ts_search.proofs.Known.{Known}
use Rattle.ts_search.proofs.ListGood.{head_so_far, GoodList, list_good_start, list_good_turns, listed_snoc}
use Rattle.ts_search.proofs.Walk.{IsChecked, steps_under, open_steps, checked_open, opens_open}

abbrev pub IsDone : ℕ → ListState → Type 0
IsDone count s = (nat_lt (length s.listed) count ≡ false) ⊎ (s.pending ≡ [])

done_still : (c : Search) (count : ℕ) (s : ListState) → IsDone count s → list_turn c count s ≡ s
done_still c count s d =
    ⊎_elim
    (λ e. ap (λ t. cond t (list_turn_on c s s.pending) s) e)
    (λ e. ap (λ w. cond (nat_lt (length s.listed) count) (list_turn_on c s w) s) e
    ∙ (elim (nat_lt (length s.listed) count) as (λ t. cond t s s ≡ s) [ true ↦ refl | false ↦ refl ]))
    d

pub done_stop : (c : Search) (count n : ℕ) (s : ListState) → IsDone count s → list_turns c count n s ≡ s
done_stop c count zero s d = refl
done_stop c count (suc n) s d = ap (λ t. list_turns c count n t) (done_still c count s d) ∙ done_stop c count n s d

-- a turn is the last, or adds a line
one_turn : (c : Search) (count : ℕ) (s : ListState) → IsDone count s ⊎ (length (list_turn c count s).lines ≡ length s.lines + 1)
one_turn c count s =
    elim (nat_lt (length s.listed) count) as (λ t. nat_lt (length s.listed) count ≡ t →
    IsDone count s ⊎ (length (cond t (list_turn_on c s s.pending) s).lines ≡ length s.lines + 1)) [
      | true ↦ λ e. go s.pending refl
      | false ↦ λ e. inl (inl e)
    ] refl
  where
    go : (w : List Box) → s.pending ≡ w → IsDone count s ⊎ (length (list_turn_on c s s.pending).lines ≡ length s.lines + 1)
    go [] at = inl (inr at)
    go (b ∷ u) at =
        inr (ap (λ w. length (list_turn_on c s w).lines) at ∙ length_push s.lines (line_of (TheFirst c) b))

pub list_turns_end : (c : Search) (count n : ℕ) (s : ListState) → (length (list_turns c count n s).lines ≤ length s.lines + n) ×
    (IsDone count (list_turns c count n s) ⊎ (length (list_turns c count n s).lines ≡ length s.lines + n))
list_turns_end c count zero s = ((omega arith), inr (omega arith))
list_turns_end c count (suc n) s =
    let r = list_turns_end c count n (list_turn c count s) in
    ⊎_elim
    (λ d.
    let e = done_stop c count (suc n) s d in
    ((let k = ap (λ (z : ListState). length z.lines) e in omega arith), inl (subst (λ z. IsDone count z) (sym e) d)))
    (λ e. ((let few = r.0 in omega arith), ⊎_elim (λ d. inl d) (λ k. inr (omega arith)) r.1))
    (one_turn c count s)

-- series that rise and meet keep the rule of series lines

comes_after : (done : List (List ℤ)) (x : List ℤ) → ((z : List ℤ) → IsListed z done → IsBefore z x) → ComesAfter done x
comes_after [] x g = tt
comes_after (z ∷ []) x g = g z (inl refl)
comes_after (z ∷ y ∷ zs) x g = comes_after (y ∷ zs) x (λ u i. g u (inr i))

listed_of : (P : List ℤ → Type 0) (xs : List (List ℤ)) (x : List ℤ) → AllByRecursion P xs → IsListed x xs → P x
listed_of P [] x h i = absurd i
listed_of P (a ∷ xs) x h i = ⊎_elim (λ e. subst P (sym e) h.0) (λ r. listed_of P xs x h.1 r) i

all_fit : (m : ModelParts) (claim : Claim) → ((ys : List (List ℤ)) (x : List ℤ) → ComesAfter ys x → IsAsClaimed m claim ys x) → (done xs : List (List ℤ)) →
    ((z x : List ℤ) → IsListed z done → IsListed x xs → IsBefore z x) → AreRising xs → AllByRecursion (Meets m) xs → AllFit m claim done xs
all_fit m claim g done [] f r h = tt
all_fit m claim g done (x ∷ xs) f r h = (
  record { meets = h.0; claimed = g done x (comes_after done x (λ z i. f z x i (inl refl))) },
  all_fit m claim g (done ++ x ∷ []) xs
      (λ z y i k. ⊎_elim (λ a. f z y a (inr k)) (λ e. subst (λ w. IsBefore w y) (sym e) (listed_of (IsBefore x) xs y r.0 k)) (listed_snoc done x z i)) r.1 h.1,
)

-- what a certificate has, but for being lean
pub record HasList (c : Search) (count n : ℕ) (cert : Cert) : Type 0 where
  pub aim : cert.aim ≡ ListOf count
  pub accepts : Accepts c.model c.spans cert
  pub within : checked_count cert.tree ≤ n
  pub first : AreFirst c.model cert.series
  pub claim : IsListedBy c.model count n cert.claim cert.series cert.tree

abbrev head : ℕ → Claim → List (List ℤ) → Head
head count claim xs = record { aim = ListOf count; claim = claim; series = xs }

abbrev list_cert : ℕ → Claim → List (List ℤ) → List TreeLine → Cert
list_cert count claim xs ls = record { aim = ListOf count; claim = claim; series = xs; tree = ls }

to_list_tree : (c : Search) (count : ℕ) (claim : Claim) (xs : List (List ℤ)) (ls : List TreeLine) →
    Steps c.model c.spans (head count claim xs) (c.model.cells ∷ []) 0 ls [] (length xs) → HasTree c.model c.spans (list_cert count claim xs ls)
to_list_tree c count claim xs ls f =
    let t = (tree_is_steps c.model c.spans (head count claim xs) c.model.cells ls (length xs)).1 f in
    record { tree = t.0; lines = t.1; fits = t.2; reported = t.3 }

list_more : (c : Search) (count : ℕ) (claim : Claim) (xs : List (List ℤ)) → (y : ℕ) (b : Box) (l : TreeLine) → IsChecked l →
    KeepsRule c.model c.spans (head_so_far count xs) y b l → KeepsRule c.model c.spans (head count claim xs) y b l
list_more c count claim xs y b (Split k t) ch f = f
list_more c count claim xs y b (Remove k v j) ch f = f
list_more c count claim xs y b (No j p) ch f = f
list_more c count claim xs y b (Worse p) ch f = absurd f
list_more c count claim xs y b Yes ch f = record { listing = tt; series = f.series; listed = f.listed; alone = f.alone }
list_more c count claim xs y b Unsearched ch f = absurd ch

module _ (c : Search) (count n : ℕ) (ls : List TreeLine) (w : List Box) (xs : List (List ℤ))
    (g : GoodList c count (record { lines = ls; pending = w; listed = xs })) (few : length ls ≤ n) where
  are_first : AreFirst c.model xs
  are_first = record { rising = g.rising; meet = g.meet; others = λ y k. ⊎_elim (λ i. inr (λ x p. g.before x y p i)) (λ z. inl z) (g.settled y k) }

  stepped_as : (claim : Claim) → Steps c.model c.spans (head count claim xs) (c.model.cells ∷ []) 0 ls w (length xs)
  stepped_as claim =
      steps_under c.model c.spans (head_so_far count xs) (head count claim xs) (list_more c count claim xs) ls 0 (c.model.cells ∷ []) w (length xs)
      g.all_checked g.stepped

  fits : (claim : Claim) → ((ys : List (List ℤ)) (x : List ℤ) → ComesAfter ys x → IsAsClaimed c.model claim ys x) → AllFit c.model claim [] xs
  fits claim k = all_fit c.model claim k [] xs (λ z x i. absurd i) g.rising g.meet

  opened : (claim : Claim) → MayStayOpen claim → Steps c.model c.spans (head count claim xs) (c.model.cells ∷ []) 0 (ls ++ left_open w) [] (length xs)
  opened claim o =
      steps_go_on c.model c.spans (head count claim xs) ls (left_open w) (c.model.cells ∷ []) w [] 0 (length xs) (length xs) (stepped_as claim)
      (open_steps c.model c.spans (head count claim xs) o w (length xs))

  checked : checked_count (ls ++ left_open w) ≡ length ls
  checked = checked_open ls w g.all_checked

  -- what a certificate has, with a claim that fits and lines that are a tree
  has_list : (claim : Claim) → ClaimFits (ListOf count) claim → length xs ≡ series_count claim →
      ((ys : List (List ℤ)) (x : List ℤ) → ComesAfter ys x → IsAsClaimed c.model claim ys x) →
      Steps c.model c.spans (head count claim xs) (c.model.cells ∷ []) 0 (ls ++ left_open w) [] (length xs) →
      IsListedBy c.model count n claim xs (ls ++ left_open w) → HasList c count n (list_cert count claim xs (ls ++ left_open w))
  has_list claim right sum as_claimed steps told = record {
    aim = refl;
    accepts = record {
      aim = tt;
      claim = right;
      count = sum;
      series = fits claim as_claimed;
      tree = to_list_tree c count claim xs (ls ++ left_open w) steps;
    };
    within = omega (arith, checked, few);
    first = are_first;
    claim = told;
  }

  listed_full : length xs ≡ count → HasList c count n (list_cert count (Full (length xs)) xs (ls ++ left_open w))
  listed_full e =
      let claim = Full (length xs) in
      has_list claim e refl (λ ys x k. k) (opened claim tt) (refl, e)

  listed_all : length xs < count → w ≡ [] → HasList c count n (list_cert count (All (length xs)) xs (ls ++ left_open w))
  listed_all l none =
      let claim = All (length xs) in
      let is : ls ++ left_open w ≡ ls = ap (λ z. ls ++ left_open z) none ∙ append-nil ls in
      let st = subst (λ z. Steps c.model c.spans (head count claim xs) (c.model.cells ∷ []) 0 ls z (length xs)) none (stepped_as claim) in
      has_list claim l refl (λ ys x k. k)
      (subst (λ z. Steps c.model c.spans (head count claim xs) (c.model.cells ∷ []) 0 z [] (length xs)) (sym is) st)
      (refl, l, λ y q. ⊎_elim (λ i. absurd (subst (λ z. InSome z y) none i)) (λ z. z) (g.settled y q))

  listed_budget : length xs < count → 0 < length w → length ls ≡ n → HasList c count n (list_cert count (BudgetList (length xs)) xs (ls ++ left_open w))
  listed_budget l more full =
      let claim = BudgetList (length xs) in
      has_list claim l refl (λ ys x k. k) (opened claim tt)
      (refl, l, checked ∙ full, (let o = opens_open ls w g.all_checked in omega (arith, o, more)))

listed_end : (c : Search) (count n : ℕ) (ls : List TreeLine) (w : List Box) (xs : List (List ℤ)) (t : Bool) →
    GoodList c count (record { lines = ls; pending = w; listed = xs }) → length ls ≤ n → nat_lt (length xs) count ≡ t →
    IsDone count (record { lines = ls; pending = w; listed = xs }) ⊎ (length ls ≡ n) →
    HasList c count n (list_cert count (list_claim t (length xs) w) xs (ls ++ left_open w))
listed_end c count n ls w xs false g few e d =
    listed_full c count n ls w xs g few (let a = ltb-false (length xs) count e in let b = g.few in omega arith)
listed_end c count n ls [] xs true g few e d = listed_all c count n ls [] xs g few (ltb-true (length xs) count e) refl
listed_end c count n ls (b ∷ u) xs true g few e d =
    listed_budget c count n ls (b ∷ u) xs g few (ltb-true (length xs) count e) (omega arith)
    (⊎_elim
    (λ q. absurd (⊎_elim (λ a. let k : ◌≡◌ {A = Bool} true false = sym e ∙ a in cc) (λ a. let k : ◌≡◌ {A = List Box} (b ∷ u) [] = a in cc) q))
    (λ q. q) d)

pub list_lists : (c : Search) (count n : ℕ) → Known c → HasList c count n (list_certificate count (list_turns c count n (list_start c)))
list_lists c count n k =
    let s = list_turns c count n (list_start c) in
    let end = list_turns_end c count n (list_start c) in
    listed_end c count n s.lines s.pending s.listed (nat_lt (length s.listed) count)
    (list_good_turns c k count n (list_start c) (list_good_start c count k)) (let few = end.0 in omega arith) refl
    (⊎_elim (λ q. inl q) (λ q. inr (omega arith)) end.1)

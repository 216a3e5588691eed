-- How many boxes wait, by the lines so far.
use Rattle.std.proofs.Common.{◌≡◌, ℕ, ◌+◌, ◌≤◌, ℤ, inl, inr, List, [], ◌∷◌, length, Option, Some, None, refl, sym, ◌∙◌, ap, subst, arith, length-append}
use Rattle.ts_certificate.specs.declared.certificate.Aim.{Aim}
use Rattle.ts_certificate.specs.declared.certificate.Claim.{Claim}
use Rattle.ts_certificate.specs.declared.certificate.TreeLine.{TreeLine}
use Rattle.ts_certificate.specs.declared.certificate.TreeLine.TheVariants.{Split, Remove, No, Worse, Yes, Unsearched}
use Rattle.ts_certificate.specs.declared.stop.CertStop.{CertStop}
use Rattle.ts_certificate.specs.Grammar.{CertLine, SaysAim, SaysClaim, SaysSeries, SaysTree, SaysEnd}
use Rattle.ts_domain.specs.BoxSeries.{IsBox}
use Rattle.ts_model.specs.ModelParts.{ModelParts, total_of}
use Rattle.ts_filter.specs.Boxes.{Box}
use Rattle.ts_filter.specs.Lines.{Stand, first_stand, KeepsTreeRule, stand_after, waiting_after, Leads, IsOutcome}
use Rattle.ts_filter.specs.RefutedWorseDrop.{Spans}
use Rattle.ts_filter.specs.Steps.{made_by}
use Rattle.ts_filter.proofs.BoxParts.{box_total}
use Rattle.ts_frontier.proofs.Waits.{few_wait_after}
use Rattle.ts_checker.specs.Checking.{Checking, IsGoing, HasChecked}
use Rattle.ts_checker.specs.Laws.{splits_by, ends_by, splits, ends, WaitsByLines}
use Rattle.ts_spans.specs.Machines.{spans_in}

-- a line more

made_count : (l : TreeLine) (b : Box) → length (made_by l b) + ends_by l ≡ 1 + splits_by l
made_count (Split k t) b = refl
made_count (Remove k v j) b = refl
made_count (No j p) b = refl
made_count (Worse p) b = refl
made_count Yes b = refl
made_count Unsearched b = refl

tree_count : (m : ModelParts) (s : Spans) (a : Option Aim) (c : Option Claim) (xs : List (List ℤ)) (w : List Box) (told : ℕ) (l : TreeLine) →
    KeepsTreeRule m s a c xs w told l → length (waiting_after w l) + ends_by l ≡ length w + splits_by l
tree_count m s None c xs w told l k = absurd k
tree_count m s (Some a) None xs w told l k = absurd k
tree_count m s (Some a) (Some c) xs [] told l k = absurd k
tree_count m s (Some a) (Some c) xs (b ∷ w) told l k =
    let n = length-append (made_by l b) w in let j = made_count l b in omega (arith, n, j)

lines_count : (m : ModelParts) (s : Spans) (t : Stand) (ls : List CertLine) (u : Stand) → Leads m s t ls u →
    length u.waiting + ends ls ≡ length t.waiting + splits ls
lines_count m s t [] u h = ap (λ (z : Stand). length z.waiting + 0) (sym h)
lines_count m s t (SaysAim a ∷ ls) u h = lines_count m s (stand_after t (SaysAim a)) ls u h.1
lines_count m s t (SaysClaim c ∷ ls) u h = lines_count m s (stand_after t (SaysClaim c)) ls u h.1
lines_count m s t (SaysSeries x ∷ ls) u h = lines_count m s (stand_after t (SaysSeries x)) ls u h.1
lines_count m s t (SaysTree l ∷ ls) u h =
    let rest : length u.waiting + ends ls ≡ length (waiting_after t.waiting l) + splits ls = lines_count m s (stand_after t (SaysTree l)) ls u h.1 in
    let one = tree_count m s t.aim t.claim t.series t.waiting t.reported l h.0 in
    omega (arith, rest, one)
lines_count m s t (SaysEnd checked unsearched ∷ ls) u h = lines_count m s t ls u h.1

-- how many boxes wait, by what is known of the lines

module _ (texts : List (List ℕ)) (c : Checking) (box : IsBox c.model.cells) (h : HasChecked texts c) where
  going : (g : IsGoing texts c) → c.failed ≡ None → length c.stand.waiting + ends g.are.lines ≡ 1 + splits g.are.lines
  going g none =
      lines_count c.model (spans_in c.model) (first_stand c.model) g.are.lines c.stand
      (subst (λ f. IsOutcome c.model (spans_in c.model) g.are.lines c.stand f) none g.found)

  none_few : c.stand.waiting ≡ [] → length c.stand.waiting + length c.model.cells ≤ total_of c.model.cells + 1
  none_few e = let n : length c.stand.waiting ≡ 0 = ap length e in omega (arith, n, box_total c.model.cells box)

  few_going : IsGoing texts c → (f : Option ℕ) → c.failed ≡ f → length c.stand.waiting + length c.model.cells ≤ total_of c.model.cells + 1
  few_going g None e =
      few_wait_after c.model (spans_in c.model) g.are.lines c.stand None c.stand.waiting box
      (subst (λ f. IsOutcome c.model (spans_in c.model) g.are.lines c.stand f) e g.found) refl
  few_going g (Some n) e = none_few (h.emptied (inr (λ k. let z : ◌≡◌ {A = Option ℕ} None (Some n) = sym k ∙ e in cc)))

  few : (o : Option CertStop) → c.reading.stop ≡ o → length c.stand.waiting + length c.model.cells ≤ total_of c.model.cells + 1
  few None e = few_going (h.going e) c.failed refl
  few (Some stop) e = none_few (h.emptied (inl (λ k. let z : ◌≡◌ {A = Option CertStop} None (Some stop) = sym k ∙ e in cc)))

  pub waits : (n : ℕ) → n ≡ length c.stand.waiting → WaitsByLines texts c n
  waits n is = record {
    going = λ g none. ap (λ k. k + ends g.are.lines) is ∙ going g none;
    over = λ o. is ∙ ap length (h.emptied o);
    few = subst (λ k. k + length c.model.cells ≤ total_of c.model.cells + 1) (sym is) (few c.reading.stop refl);
  }

-- the boxes of the frontier are those that contracts see
pub waiting_seen : (seen c : Checking) (boxes : List Box) (n : ℕ) → seen.stand.waiting ≡ boxes → seen ≡ c → n ≡ length boxes → n ≡ length c.stand.waiting
waiting_seen seen c boxes n is same count = count ∙ ap length (sym is ∙ ap (λ (z : Checking). z.stand.waiting) same)

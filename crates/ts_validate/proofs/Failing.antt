-- The first letter on which a check fails, at each arrival whose steps were taken.
use Rattle.std.specs.Prelude.{◌≡◌, ℕ, ◌+◌, ◌<◌, ◌≤◌, Bool, true, false, List, [], ◌∷◌, ◌++◌, Option, MatchOption, length}
use Rattle.std.proofs.Common.{sym, ◌∙◌, ap, subst, arith, ⊎_elim, length-append}
use Rattle.std.proofs.lemmas.Option.{slice_get_within}
use Rattle.ts_base.specs.declared.letter.Letter.{Letter}
use Rattle.ts_base.specs.declared.letter.Letter.TheVariants.{Less, Equal, Greater}
use Rattle.ts_regex.specs.Shape.{Shape}
use Rattle.ts_pattern.specs.Closed.{Subject, meets_checks}
use Rattle.ts_pattern.proofs.CallerLemmas.{front_or_last}
use Rattle.ts_validate.specs.declared.arrival.Arrival.{Arrival}
use Rattle.ts_validate.specs.declared.arrival.Tour.{Tour}
use Rattle.ts_validate.specs.FirstFalse.{first_false}
use Rattle.ts_validate.specs.Reaches.{value_at, arrival_value, arrival_at, StepArrives, StepsArrive, ArrivalsGrow, AllMeet, FailsFirst, AreJudged, IsTour}
use Rattle.ts_validate.proofs.Tours.{arrived_grown, follows_each, follows_grown, followed_more, grown_twice, grown_length}

three : (s : Subject Shape) (i : ℕ) → meets_checks s (value_at s i) Less ≡ true → meets_checks s (value_at s i) Equal ≡ true →
    meets_checks s (value_at s i) Greater ≡ true → AllMeet s i
three s i p q r Less = p
three s i p q r Equal = q
three s i p q r Greater = r

by_cases : (s : Subject Shape) (i : ℕ) (a b c : Bool) → a ≡ meets_checks s (value_at s i) Less → b ≡ meets_checks s (value_at s i) Equal →
    c ≡ meets_checks s (value_at s i) Greater → MatchOption (first_false a b c) (AllMeet s i) (λ l. FailsFirst s i l)
by_cases s i false b c p q r = (sym p, tt)
by_cases s i true false c p q r = (sym q, sym p)
by_cases s i true true false p q r = (sym r, (sym p, sym q))
by_cases s i true true true p q r = three s i (sym p) (sym q) (sym r)

failing_is : (s : Subject Shape) (i : ℕ) (a b c : Bool) (o : Option Letter) → o ≡ first_false a b c → a ≡ meets_checks s (value_at s i) Less →
    b ≡ meets_checks s (value_at s i) Equal → c ≡ meets_checks s (value_at s i) Greater → MatchOption o (AllMeet s i) (λ l. FailsFirst s i l)
failing_is s i a b c o e p q r = subst (λ z. MatchOption z (AllMeet s i) (λ l. FailsFirst s i l)) (sym e) (by_cases s i a b c p q r)

-- the answer for one arrival
abbrev Answers : Subject Shape → Arrival → Option Letter → Type 0
Answers s a o = MatchOption o (AllMeet s a.configuration) (λ l. FailsFirst s a.configuration l)

-- what was judged stays so in a longer tour
judged_grown : (s : Subject Shape) (xs ys : List Arrival) (failing : List (Option Letter)) → length failing ≤ length xs → ArrivalsGrow xs ys →
    AreJudged s xs failing → AreJudged s ys failing
judged_grown s xs ys failing q g h k o e =
    let i : k < length failing = slice_get_within failing k o e in
    let old : arrival_at ys k ≡ arrival_at xs k = arrived_grown xs ys g k (omega arith) in
    subst (λ (z : Arrival). Answers s z o) (sym old) (h k o e)

judged_more : (s : Subject Shape) (xs : List Arrival) (failing : List (Option Letter)) (o : Option Letter) → AreJudged s xs failing →
    Answers s (arrival_at xs (length failing)) o → AreJudged s xs (failing ++ o ∷ [])
judged_more s xs failing o h a k p e = ⊎_elim
    (λ q. h k p q)
    (λ q. subst (λ z. Answers s (arrival_at xs k) z) q.1 (subst (λ z. Answers s (arrival_at xs z) o) (sym q.0) a))
    (front_or_last failing o k p e)

-- the three steps of the next arrival, taken and judged
pub expanded : (s : Subject Shape) (t : Tour) (ys zs ws : List Arrival) (failing more : List (Option Letter)) (from : ℕ) (a b c : Bool)
    (o : Option Letter) → IsTour s t → from ≡ length t.failing.items → from < length t.arrivals.items →
    ArrivalsGrow t.arrivals.items ys → ArrivalsGrow ys zs → ArrivalsGrow zs ws →
    StepArrives s ys from Less → StepArrives s zs from Equal → StepArrives s ws from Greater →
    a ≡ meets_checks s (arrival_value s t.arrivals.items from) Less → b ≡ meets_checks s (arrival_value s ys from) Equal →
    c ≡ meets_checks s (arrival_value s zs from) Greater → o ≡ first_false a b c → failing ≡ t.failing.items → more ≡ failing ++ o ∷ [] →
    StepsArrive s ws (length more) × AreJudged s ws more × (length more ≤ length ws)
expanded s t ys zs ws failing more from a b c o h e q g1 g2 g3 f1 f2 f3 m1 m2 m3 first same push =
    let xs : List Arrival = t.arrivals.items in
    let done : List (Option Letter) = t.failing.items in
    let to_ws : ArrivalsGrow xs ws = grown_twice xs ys ws g1 (grown_twice ys zs ws g2 g3) in
    let long1 = grown_length xs ys g1 in
    let long2 = grown_length ys zs g2 in
    let long3 = grown_length zs ws g3 in
    let at_ys : arrival_at ys from ≡ arrival_at xs from = arrived_grown xs ys g1 from q in
    let at_zs : arrival_at zs from ≡ arrival_at xs from = arrived_grown ys zs g2 from (omega (arith, q, long1)) ∙ at_ys in
    let at_ws : arrival_at ws from ≡ arrival_at xs from = arrived_grown xs ws to_ws from q in
    let all : (l : Letter) → StepArrives s ws from l =
    follows_each s ws from (follows_grown s ys ws from Less (omega (arith, q, long1)) (grown_twice ys zs ws g2 g3) f1)
    (follows_grown s zs ws from Equal (omega (arith, q, long1, long2)) g3 f2) f3 in
    let is : more ≡ done ++ o ∷ [] = push ∙ ap (λ z. z ++ o ∷ []) same in
    let size : length more ≡ length done + 1 = ap (λ (z : List (Option Letter)). length z) is ∙ length-append done (o ∷ []) in
    let answer : Answers s (arrival_at xs from) o =
    failing_is s (arrival_at xs from).configuration a b c o first m1
    (m2 ∙ ap (λ (z : Arrival). meets_checks s (value_at s z.configuration) Equal) at_ys)
    (m3 ∙ ap (λ (z : Arrival). meets_checks s (value_at s z.configuration) Greater) at_zs) in (
      subst (λ z. StepsArrive s ws z) (sym size)
          (followed_more s xs ws (length done) (omega (arith, q, e)) h.followed to_ws (subst (λ z. (l : Letter) → StepArrives s ws z l) e all)),
      subst (λ z. AreJudged s ws z) (sym is)
          (judged_more s ws done o (judged_grown s xs ws done h.inside to_ws h.judged)
          (subst (λ z. Answers s (arrival_at ws z) o) e (subst (λ z. Answers s z o) (sym at_ws) answer))),
      omega (arith, size, q, e, long1, long2, long3),
    )

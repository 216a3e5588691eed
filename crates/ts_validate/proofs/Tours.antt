-- How the tour of the reached configurations grows.
use Rattle.std.specs.Prelude.{◌≡◌, ℕ, zero, suc, ◌+◌, ◌<◌, ◌≤◌, nat_lt, true, ◌&&◌, List, [], ◌∷◌, ◌++◌, Option, None, Some, map, length, set, replicate, reverse, refl}
use Rattle.std.proofs.Common.{sym, ◌∙◌, ap, subst, arith, ⊎_elim, length-append, append_assoc}
use Rattle.std.proofs.Math.Nat.{eq-or-lt_of_le}
use Rattle.ts_base.specs.declared.letter.Letter.{Letter}
use Rattle.ts_base.specs.declared.letter.Letter.TheVariants.{Less, Equal, Greater}
use Rattle.std.specs.List.{list_all, slice_get}
use Rattle.std.proofs.lemmas.Bool.{and_parts, false≢true, cases_eq}
use Rattle.std.proofs.lemmas.List.{reverse-append, length-map, length-set, length-replicate, get_or-set_same, get_or-set_other}
use Rattle.std.proofs.lemmas.Option.{none-some, same_Some}
use Rattle.ts_regex.specs.Shape.{Shape, shape_of}
use Rattle.ts_regex.specs.NormalForm.{normal_form, same_shape}
use Rattle.ts_transducer.specs.declared.row.Row.{Row}
use Rattle.ts_pattern.specs.declared.pattern.Pattern.{Pattern}
use Rattle.ts_pattern.specs.declared.plan.Plan.{Plan}
use Rattle.ts_pattern.specs.declared.plan.Configuration.{Configuration}
use Rattle.ts_pattern.specs.Plans.{plain_plan, plain_configuration, configuration_value, is_blank, is_plan_of}
use Rattle.ts_pattern.specs.Closed.{PlainConfiguration, Subject, first_passes, step_of, step_listed}
use Rattle.ts_validate.specs.declared.step.Look.{Look}
use Rattle.ts_validate.specs.declared.arrival.Arrival.{Arrival}
use Rattle.ts_validate.specs.declared.arrival.Tour.{Tour}
use Rattle.ts_validate.specs.Reaches.{against, value_at, arrival_value, IsFirst, Sees, arrival, arrival_at, place_at, open_places, GoesOn, Reaches, StepArrives, StepsArrive, ArrivalsGrow, IsTour, IsPath, PathStart, PathOn}

-- lists

kept_at : (xs ys : List Arrival) (k : ℕ) → k < length xs → arrival_at (xs ++ ys) k ≡ arrival_at xs k
kept_at [] ys k q = absurd (omega (arith, q))
kept_at (x ∷ xs) ys zero q = refl
kept_at (x ∷ xs) ys (suc k) q = kept_at xs ys k (omega (arith, q))

last_at : (xs : List Arrival) (a : Arrival) → arrival_at (xs ++ a ∷ []) (length xs) ≡ a
last_at [] a = refl
last_at (x ∷ xs) a = last_at xs a

set_size : (os : List (Option ℕ)) (i : ℕ) (o : Option ℕ) → length (set os i o) ≡ length os
set_size os i o = length-set os i o

set_same : (os : List (Option ℕ)) (i : ℕ) (o : Option ℕ) → i < length os → place_at (set os i o) i ≡ o
set_same os i o q = get_or-set_same os i o None q

set_other : (os : List (Option ℕ)) (i j : ℕ) (o : Option ℕ) → (i ≡ j → ⊥) → place_at (set os i o) j ≡ place_at os j
set_other os i j o n = get_or-set_other os i j o None (λ q. n (sym q))

fewer_open : (os : List (Option ℕ)) (i m : ℕ) → i < length os → place_at os i ≡ None → open_places (set os i (Some m)) + 1 ≡ open_places os
fewer_open [] i m q e = absurd (omega (arith, q))
fewer_open (None ∷ os) zero m q e = refl
fewer_open (Some k ∷ os) zero m q e = absurd (none-some k (sym e))
fewer_open (None ∷ os) (suc i) m q e = ap (λ n. n + 1) (fewer_open os i m (omega (arith, q)) e)
fewer_open (Some k ∷ os) (suc i) m q e = fewer_open os i m (omega (arith, q)) e

all_open : (n : ℕ) → open_places (replicate n None) ≡ n
all_open zero = refl
all_open (suc n) = let h = all_open n in omega (arith, h)

replicated : (n : ℕ) → length (replicate {A = Option ℕ} n None) ≡ n
replicated n = length-replicate n None

none_there : (n c : ℕ) → place_at (replicate n None) c ≡ None
none_there zero c = refl
none_there (suc n) zero = refl
none_there (suc n) (suc c) = none_there n c

-- the start

start_count : (n : ℕ) → 0 < n → open_places (set (replicate n None) 0 (Some 0)) + 1 ≡ n
start_count n q = fewer_open (replicate n None) 0 0 (subst (λ z. 0 < z) (sym (replicated n)) q) (none_there n 0) ∙ all_open n

started : (s : Subject Shape) (n : ℕ) (arrivals : List Arrival) (places : List (Option ℕ)) → n ≡ length s.configurations → 0 < n →
    arrivals ≡ arrival 0 0 Less ∷ [] → places ≡ set (replicate n None) 0 (Some 0) → Reaches s arrivals places
started s n arrivals places e q a o =
    let only : Arrival = arrival 0 0 Less in
    let size : length (set (replicate {A = Option ℕ} n None) 0 (Some 0)) ≡ n = set_size (replicate n None) 0 (Some 0) ∙ replicated n in
    let room : 0 < length (replicate {A = Option ℕ} n None) = (let r = replicated n in omega arith) in
    subst (λ z. Reaches s z places) (sym a) (subst (λ z. Reaches s (only ∷ []) z) (sym o) (record {
      size = size ∙ e;
      count = start_count n q ∙ sym size;
      some = omega arith;
      start = refl;
      steps = λ k c d. absurd (omega (arith, c, d));
      inside = λ k d. one k d (λ z. z.configuration < length s.configurations) (omega (arith, q, e));
      there = λ c k t. go c k t;
      back = λ k d. one_back k d room;
    }))
  where
    one : (k : ℕ) → k < 1 → (P : Arrival → Type 0) → P (arrival 0 0 Less) →
        P (arrival_at (arrival 0 0 Less ∷ []) k)
    one zero d P h = h
    one (suc k) d P h = absurd (omega (arith, d))

    one_back : (k : ℕ) → k < 1 → 0 < length (replicate {A = Option ℕ} n None) →
        place_at (set (replicate n None) 0 (Some 0)) (arrival_at (arrival 0 0 Less ∷ []) k).configuration ≡ Some k
    one_back zero d r = set_same (replicate n None) 0 (Some 0) r
    one_back (suc k) d r = absurd (omega (arith, d))

    go : (c k : ℕ) → place_at (set (replicate n None) 0 (Some 0)) c ≡ Some k →
        (k < 1) × ((arrival_at (arrival 0 0 Less ∷ []) k).configuration ≡ c)
    go zero k t = go_zero k (sym (set_same (replicate n None) 0 (Some 0) (let r = replicated n in omega (arith, r, q))) ∙ t)
      where
        go_zero : (k : ℕ) → Some 0 ≡ Some k → (k < 1) × ((arrival_at (arrival 0 0 Less ∷ []) k).configuration ≡ 0)
        go_zero k t = subst (λ z. (z < 1) × ((arrival_at (arrival 0 0 Less ∷ []) z).configuration ≡ 0)) (same_Some 0 k t)
            (omega arith, refl)
    go (suc c) k t = absurd (none-some k (sym (set_other (replicate n None) 0 (suc c) (Some 0) (λ z. omega (arith, z)) ∙ none_there n (suc c)) ∙ t))

-- one more arrival

more_reached : (s : Subject Shape) (xs : List Arrival) (os : List (Option ℕ)) → Reaches s xs os → (next from : ℕ) (l : Letter) → from < length xs →
    next < length s.configurations → place_at os next ≡ None →
    step_listed s (arrival_value s xs from) l ≡ true → value_at s next ≡ step_of s (arrival_value s xs from) l →
    Reaches s (xs ++ arrival next from l ∷ []) (set os next (Some (length xs)))
more_reached s xs os h next from l f i e t v =
    let a : Arrival = arrival next from l in
    let ys : List Arrival = xs ++ a ∷ [] in
    let n : length ys ≡ length xs + 1 = length-append xs (a ∷ []) in
    let room : next < length os = (let z = h.size in omega arith) in
    let last : arrival_at ys (length xs) ≡ a = last_at xs a in
    let old : (k : ℕ) → k < length xs → arrival_at ys k ≡ arrival_at xs k = (λ k q. kept_at xs (a ∷ []) k q) in
    record {
      size = set_size os next (Some (length xs)) ∙ h.size;
      count = (let c = h.count in let d = fewer_open os next (length xs) room e in let z = set_size os next (Some (length xs)) in omega arith);
      some = omega arith;
      start = ap (λ (z : Arrival). z.configuration) (old 0 h.some) ∙ h.start;
      steps = λ k c d. ⊎_elim
          (λ q. subst (λ z. GoesOn s ys z) (sym q) (goes_last last (old from f) f))
          (λ q. goes_old k q (old k q) (h.steps k c q))
          (eq-or-lt_of_le (let z : k ≤ length xs = omega arith in z));
      inside = λ k d. ⊎_elim
          (λ q. subst (λ z. (arrival_at ys z).configuration < length s.configurations) (sym q)
          (subst (λ (z : Arrival). z.configuration < length s.configurations) (sym last) i))
          (λ q. subst (λ (z : Arrival). z.configuration < length s.configurations) (sym (old k q)) (h.inside k q))
          (eq-or-lt_of_le (let z : k ≤ length xs = omega arith in z));
      there = λ c k q. there_more c k q room last;
      back = λ k d. ⊎_elim
          (λ q. subst (λ z. place_at (set os next (Some (length xs))) (arrival_at ys z).configuration ≡ Some z) (sym q)
          (ap (λ (z : Arrival). place_at (set os next (Some (length xs))) z.configuration) last ∙ set_same os next (Some (length xs)) room))
          (λ q. ap (λ (z : Arrival). place_at (set os next (Some (length xs))) z.configuration) (old k q)
          ∙ set_other os next (arrival_at xs k).configuration (Some (length xs)) (λ z. none-some k (sym e ∙ ap (λ y. place_at os y) z ∙ h.back k q))
          ∙ h.back k q)
          (eq-or-lt_of_le (let z : k ≤ length xs = omega arith in z));
    }
  where
    goes_last : arrival_at (xs ++ arrival next from l ∷ []) (length xs)
        ≡ arrival next from l →
        arrival_at (xs ++ arrival next from l ∷ []) from ≡ arrival_at xs from → from < length xs →
        GoesOn s (xs ++ arrival next from l ∷ []) (length xs)
    goes_last u w q =
        subst (λ (z : Arrival). (z.from < length xs)
        × (step_listed s (arrival_value s (xs ++ arrival next from l ∷ []) z.from) z.letter ≡ true)
        × (value_at s z.configuration ≡ step_of s (arrival_value s (xs ++ arrival next from l ∷ []) z.from) z.letter))
        (sym u) (
          q,
          subst (λ (z : Arrival). step_listed s (value_at s z.configuration) l ≡ true) (sym w) t,
          subst (λ (z : Arrival). value_at s next ≡ step_of s (value_at s z.configuration) l) (sym w) v,
        )

    goes_old : (k : ℕ) → k < length xs → arrival_at (xs ++ arrival next from l ∷ []) k ≡ arrival_at xs k → GoesOn s xs k →
        GoesOn s (xs ++ arrival next from l ∷ []) k
    goes_old k q u g =
        let w : arrival_at (xs ++ arrival next from l ∷ []) (arrival_at xs k).from ≡ arrival_at xs (arrival_at xs k).from =
        kept_at xs (arrival next from l ∷ []) (arrival_at xs k).from (let z = g.0 in omega arith) in
        subst (λ (z : Arrival). (z.from < k)
        × (step_listed s (arrival_value s (xs ++ arrival next from l ∷ []) z.from) z.letter ≡ true)
        × (value_at s z.configuration ≡ step_of s (arrival_value s (xs ++ arrival next from l ∷ []) z.from) z.letter))
        (sym u) (
          g.0,
          subst (λ (z : Arrival). step_listed s (value_at s z.configuration) (arrival_at xs k).letter ≡ true) (sym w) g.1,
          subst (λ (z : Arrival). arrival_value s xs k ≡ step_of s (value_at s z.configuration) (arrival_at xs k).letter) (sym w) g.2,
        )

    apart : (c k : ℕ) → (next ≡ c → ⊥) → place_at (set os next (Some (length xs))) c ≡ Some k →
        (k < length (xs ++ arrival next from l ∷ []))
        × ((arrival_at (xs ++ arrival next from l ∷ []) k).configuration ≡ c)
    apart c k n q =
        let g = h.there c k (sym (set_other os next c (Some (length xs)) n) ∙ q) in (
          (let z = length-append xs (arrival next from l ∷ []) in let y = g.0 in omega arith),
          ap (λ (z : Arrival). z.configuration) (kept_at xs (arrival next from l ∷ []) k g.0) ∙ g.1,
        )

    same : (k : ℕ) → next < length os → arrival_at (xs ++ arrival next from l ∷ []) (length xs)
        ≡ arrival next from l → place_at (set os next (Some (length xs))) next ≡ Some k →
        (k < length (xs ++ arrival next from l ∷ []))
        × ((arrival_at (xs ++ arrival next from l ∷ []) k).configuration ≡ next)
    same k r u q =
        subst (λ z. (z < length (xs ++ arrival next from l ∷ []))
        × ((arrival_at (xs ++ arrival next from l ∷ []) z).configuration ≡ next))
        (same_Some (length xs) k (sym (set_same os next (Some (length xs)) r) ∙ q))
        ((let z = length-append xs (arrival next from l ∷ []) in omega arith), ap (λ (z : Arrival). z.configuration) u)

    there_more : (c k : ℕ) → place_at (set os next (Some (length xs))) c ≡ Some k → next < length os →
        arrival_at (xs ++ arrival next from l ∷ []) (length xs) ≡ arrival next from l →
        (k < length (xs ++ arrival next from l ∷ []))
        × ((arrival_at (xs ++ arrival next from l ∷ []) k).configuration ≡ c)
    there_more c k q r u = ⊎_elim
        (λ e. subst (λ z. (k < length (xs ++ arrival next from l ∷ []))
        × ((arrival_at (xs ++ arrival next from l ∷ []) k).configuration ≡ z)) e
        (same k r u (subst (λ z. place_at (set os next (Some (length xs))) z ≡ Some k) (sym e) q)))
        (λ n. apart c k n q)
        (cases_eq next c)

pub add_reached : (s : Subject Shape) (xs ys : List Arrival) (os ps : List (Option ℕ)) → Reaches s xs os → (next from : ℕ) (l : Letter) → from < length xs →
    IsFirst s (step_of s (arrival_value s xs from) l) next → step_listed s (arrival_value s xs from) l ≡ true → None ≡ place_at os next →
    ys ≡ xs ++ arrival next from l ∷ [] → ps ≡ set os next (Some (length xs)) → Reaches s ys ps
add_reached s xs ys os ps h next from l f i t e u v =
    subst (λ z. Reaches s z ps) (sym u) (subst (λ z. Reaches s (xs ++ arrival next from l ∷ []) z) (sym v)
    (more_reached s xs os h next from l f i.0 (sym e) t i.1))

-- what a look shows of arrival `from`
pub seen_first : (s : Subject Shape) (xs : List Arrival) (from : ℕ) (here : Arrival) (l : Letter) (k : Look) (j : ℕ) → here ≡ arrival_at xs from →
    Sees s (value_at s here.configuration) l k → k.next ≡ Some j →
    (step_listed s (arrival_value s xs from) l ≡ true) × IsFirst s (step_of s (arrival_value s xs from) l) j
seen_first s xs from here l k j e h q =
    subst (λ (z : Arrival). (step_listed s (value_at s z.configuration) l ≡ true) × IsFirst s (step_of s (value_at s z.configuration) l) j) e (h.some j q)

pub follows_old : (s : Subject Shape) (xs : List Arrival) (os : List (Option ℕ)) → Reaches s xs os → (from next k : ℕ) (l : Letter) →
    IsFirst s (step_of s (arrival_value s xs from) l) next → Some k ≡ place_at os next → StepArrives s xs from l
follows_old s xs os h from next k l i e =
    let g = h.there next k (sym e) in (λ t. (k, g.0, subst (λ z. IsFirst s (step_of s (arrival_value s xs from) l) z) (sym g.1) i))

pub follows_new : (s : Subject Shape) (xs ys : List Arrival) (from next : ℕ) (l : Letter) → from < length xs →
    IsFirst s (step_of s (arrival_value s xs from) l) next → ys ≡ xs ++ arrival next from l ∷ [] → StepArrives s ys from l
follows_new s xs ys from next l f i u =
    let a : Arrival = arrival next from l in
    let n : length (xs ++ a ∷ []) ≡ length xs + 1 = length-append xs (a ∷ []) in
    subst (λ z. StepArrives s z from l) (sym u)
    (λ t. (
      length xs,
      omega arith,
      subst (λ (z : Arrival). IsFirst s (step_of s (arrival_value s (xs ++ a ∷ []) from) l) z.configuration) (sym (last_at xs a))
          (subst (λ (z : Arrival). IsFirst s (step_of s (value_at s z.configuration) l) next) (sym (kept_at xs (a ∷ []) from f)) i),
    ))

-- what followed still follows in a longer tour
pub follows_grown : (s : Subject Shape) (xs ys : List Arrival) (k : ℕ) (l : Letter) → k < length xs → ArrivalsGrow xs ys →
    StepArrives s xs k l → StepArrives s ys k l
follows_grown s xs ys k l q g h =
    subst (λ z. StepArrives s z k l) (sym g.1) (λ t.
    let old = kept_at xs g.0 k q in
    let m = h (subst (λ (z : Arrival). step_listed s (value_at s z.configuration) l ≡ true) old t) in
    let n : length (xs ++ g.0) ≡ length xs + length g.0 = length-append xs g.0 in
    let c = m.1 in (
      m.0,
      omega arith,
      subst (λ (z : Arrival). IsFirst s (step_of s (arrival_value s (xs ++ g.0) k) l) z.configuration) (sym (kept_at xs g.0 m.0 m.1))
          (subst (λ (z : Arrival). IsFirst s (step_of s (value_at s z.configuration) l) (arrival_at xs m.0).configuration) (sym old) m.2),
    ))

pub grown_twice : (xs ys zs : List Arrival) → ArrivalsGrow xs ys → ArrivalsGrow ys zs → ArrivalsGrow xs zs
grown_twice xs ys zs g h = (g.0 ++ h.0, h.1 ∙ ap (λ z. z ++ h.0) g.1 ∙ append_assoc xs g.0 h.0)

pub grown_length : (xs ys : List Arrival) → ArrivalsGrow xs ys → length xs ≤ length ys
grown_length xs ys g = let e = ap (λ (z : List Arrival). length z) g.1 in let n = length-append xs g.0 in omega arith

pub follows_each : (s : Subject Shape) (xs : List Arrival) (k : ℕ) → StepArrives s xs k Less →
    StepArrives s xs k Equal → StepArrives s xs k Greater → (l : Letter) →
    StepArrives s xs k l
follows_each s xs k a b c Less = a
follows_each s xs k a b c Equal = b
follows_each s xs k a b c Greater = c

pub followed_more : (s : Subject Shape) (xs ys : List Arrival) (done : ℕ) → done < length xs → StepsArrive s xs done → ArrivalsGrow xs ys →
    ((l : Letter) → StepArrives s ys done l) → StepsArrive s ys (done + 1)
followed_more s xs ys done q f g h k c l = ⊎_elim
    (λ e. subst (λ z. StepArrives s ys z l) (sym e) (h l))
    (λ e. follows_grown s xs ys k l (omega arith) g (f k e l))
    (eq-or-lt_of_le (let z : k ≤ done = omega arith in z))

pub arrived_grown : (xs ys : List Arrival) → ArrivalsGrow xs ys → (k : ℕ) → k < length xs → arrival_at ys k ≡ arrival_at xs k
arrived_grown xs ys g k q = ap (λ z. arrival_at z k) g.1 ∙ kept_at xs g.0 k q

-- the start of a plan

sizes : (rs : List Shape) (cs : List Configuration) → length cs ≡ length (map (λ x. configuration_value rs x) (map (λ x. plain_configuration x) cs))
sizes rs [] = refl
sizes rs (c ∷ cs) = ap (λ n. suc n) (sizes rs cs)

some_first : (xs : List (PlainConfiguration ℕ)) → first_passes (λ x. is_blank x) xs ≡ true → 0 < length xs
some_first [] q = absurd (false≢true q)
some_first (x ∷ xs) q = omega arith

plain_size : (cs : List Configuration) → length (map (λ x. plain_configuration x) cs) ≡ length cs
plain_size cs = length-map cs (λ x. plain_configuration x)

plan_some : (p : Shape) (plan : Plan) → is_plan_of p (plain_plan plan) ≡ true → 0 < length plan.configurations.items
plan_some p plan q =
    let h = and_parts (first_passes (λ r. same_shape r (normal_form p)) (plain_plan plan).residuals)
    (first_passes (λ x. is_blank x) (plain_plan plan).configurations
    && list_all (λ x. list_all (λ e. nat_lt e.residual (length (plain_plan plan).residuals)) x.live) (plain_plan plan).configurations) q in
    let k = and_parts (first_passes (λ x. is_blank x) (plain_plan plan).configurations)
    (list_all (λ x. list_all (λ e. nat_lt e.residual (length (plain_plan plan).residuals)) x.live) (plain_plan plan).configurations) h.1 in
    subst (λ z. 0 < z) (plain_size plan.configurations.items) (some_first (plain_plan plan).configurations k.0)

plan_size : (rows : List Row) (p : Pattern) (plan : Plan) → length plan.configurations.items ≡ length (against rows p plan).configurations
plan_size rows p plan = sizes (plain_plan plan).residuals plan.configurations.items

pub started_tour : (rows : List Row) (p : Pattern) (plan : Plan) (n : ℕ) (t : Tour) → is_plan_of (shape_of p.regex) (plain_plan plan) ≡ true →
    n ≡ length plan.configurations.items → t.arrivals.items ≡ arrival 0 0 Less ∷ [] → t.places.items ≡ set (replicate n None) 0 (Some 0) →
    t.failing.items ≡ [] → IsTour (against rows p plan) t
started_tour rows p plan n t f e a o none =
    let no : length t.failing.items ≡ 0 = ap (λ (z : List (Option Letter)). length z) none in
    record {
      reaches = started (against rows p plan) n t.arrivals.items t.places.items (e ∙ plan_size rows p plan)
          (subst (λ z. 0 < z) (sym e) (plan_some (shape_of p.regex) plan f)) a o;
      followed = λ k q. absurd (omega (arith, q, no));
      judged = λ k x q. absurd (none-some x (subst (λ (z : List (Option Letter)). slice_get z k ≡ Some x) none q));
      inside = omega (arith, no);
    }

-- each path to arrival `at` goes on by the letters w to arrival k
abbrev pub Continues : List Arrival → ℕ → ℕ → List Letter → Type 0
Continues xs k at w = (v : List Letter) → IsPath xs at v → IsPath xs k (v ++ w)

-- the letters are collected from the last to the first
pub continues_back : (xs : List Arrival) (k at : ℕ) (back more : List Letter) (last : Arrival) → 0 < at → last ≡ arrival_at xs at →
    more ≡ back ++ last.letter ∷ [] → Continues xs k at (reverse back) → Continues xs k last.from (reverse more)
continues_back xs k at back more last q e u h v path =
    let on : IsPath xs at (v ++ last.letter ∷ []) =
    PathOn at v (v ++ last.letter ∷ []) q (subst (λ (z : Arrival). IsPath xs z.from v) e path) (ap (λ (z : Arrival). v ++ z.letter ∷ []) e) in
    let all : (v ++ last.letter ∷ []) ++ reverse back ≡ v ++ reverse more =
    append_assoc v (last.letter ∷ []) (reverse back)
    ∙ ap (λ z. v ++ z) (sym (ap (λ z. reverse z) u ∙ reverse-append back (last.letter ∷ []))) in
    subst (λ z. IsPath xs k z) all (h (v ++ last.letter ∷ []) on)

pub earlier : (xs : List Arrival) (at : ℕ) (last : Arrival) → last ≡ arrival_at xs at → 0 < at → at < length xs →
    ((j : ℕ) → 0 < j → j < length xs → (arrival_at xs j).from < j) → last.from < length xs
earlier xs at last e q i back = subst (λ (z : Arrival). z.from < length xs) (sym e) (let b = back at q i in omega (arith, b, i))

pub path_done : (xs : List Arrival) (k at : ℕ) (back w : List Letter) → at ≡ 0 → w ≡ reverse back → Continues xs k at (reverse back) → IsPath xs k w
path_done xs k at back w q e h = subst (λ z. IsPath xs k z) (sym e) (h [] (PathStart at [] q refl))

-- The tour reaches each reached configuration, and so its verdict is that of Closed.
use Rattle.std.specs.Prelude.{◌≡◌, ℕ, ◌<◌, ◌≤◌, nat_lt, true, ◌&&◌, List, [], ◌∷◌, Option, None, Some, map, length, get_or, refl}
use Rattle.std.specs.List.{list_all, slice_get}
use Rattle.std.proofs.Common.{sym, ◌∙◌, ap, subst, arith}
use Rattle.std.proofs.lemmas.Bool.{and_parts, false≢true}
use Rattle.std.proofs.lemmas.Option.{none-some, same_Some, slice_get-get_or}
use Rattle.ts_base.specs.declared.letter.Letter.{Letter}
use Rattle.ts_regex.specs.Shape.{Shape, shape_of}
use Rattle.ts_regex.specs.NormalForm.{normal_form, same_shape}
use Rattle.ts_transducer.specs.declared.row.Row.{Row}
use Rattle.ts_pattern.specs.declared.pattern.Pattern.{Pattern}
use Rattle.ts_pattern.specs.declared.plan.Plan.{Plan}
use Rattle.ts_pattern.specs.Closed.{PlainConfiguration, Subject, first_passes, step_of, step_listed, meets_checks, LeadsTo, FromStart, OneStepOn, IsClosed}
use Rattle.ts_pattern.specs.Plans.{plain_plan, configuration_value, is_blank, is_plan_of}
use Rattle.ts_pattern.proofs.CallerLemmas.{blank_value}
use Rattle.ts_validate.specs.declared.arrival.Arrival.{Arrival}
use Rattle.ts_validate.specs.declared.arrival.Tour.{Tour}
use Rattle.ts_validate.specs.declared.failure.Failure.{Failure}
use Rattle.ts_validate.specs.Reaches.{configuration_at, against, value_at, arrival_value, IsFirst, arrival_at, place_at, Reaches, IsTour, IsPath, PathStart, PathOn, AllMeet, FailsFirst}
use Rattle.ts_validate.specs.Failures.{failure_on, failure_from, failure_at}
use Rattle.ts_validate.specs.Refusals.{IsRefusal}

abbrev blank : PlainConfiguration Shape
blank = record { state = 0; live = [] }

-- configuration 0 is the start

first_value : (rs : List Shape) (xs : List (PlainConfiguration ℕ)) → first_passes (λ x. is_blank x) xs ≡ true →
    configuration_at (map (λ x. configuration_value rs x) xs) 0 ≡ blank
first_value rs [] q = absurd (false≢true q)
first_value rs (x ∷ xs) q = blank_value rs x q

start_value : (rows : List Row) (p : Pattern) (plan : Plan) → is_plan_of (shape_of p.regex) (plain_plan plan) ≡ true →
    value_at (against rows p plan) 0 ≡ blank
start_value rows p plan q =
    let h = and_parts (first_passes (λ r. same_shape r (normal_form (shape_of p.regex))) (plain_plan plan).residuals)
    (first_passes (λ x. is_blank x) (plain_plan plan).configurations
    && list_all (λ x. list_all (λ e. nat_lt e.residual (length (plain_plan plan).residuals)) x.live) (plain_plan plan).configurations) q in
    let k = and_parts (first_passes (λ x. is_blank x) (plain_plan plan).configurations)
    (list_all (λ x. list_all (λ e. nat_lt e.residual (length (plain_plan plan).residuals)) x.live) (plain_plan plan).configurations) h.1 in
    first_value (plain_plan plan).residuals (plain_plan plan).configurations k.0

-- each reached configuration has arrived, by its least number

abbrev Arrives : Subject Shape → List Arrival → PlainConfiguration Shape → Type 0
Arrives s xs x = (m : ℕ) × (m < length xs) × IsFirst s x (arrival_at xs m).configuration

complete : (s : Subject Shape) (t : Tour) → IsTour s t → length t.failing.items ≡ length t.arrivals.items → value_at s 0 ≡ blank →
    (w : List Letter) (x : PlainConfiguration Shape) → LeadsTo s w x → Arrives s t.arrivals.items x
complete s t h full b w x (FromStart w' x' e q) = (
  0,
  h.reaches.some,
  subst (λ z. IsFirst s x z) (sym h.reaches.start)
      ((let i = h.reaches.inside 0 h.reaches.some in let z = h.reaches.start in omega arith), b ∙ sym q, λ j c d. absurd (omega (arith, c))),
)
complete s t h full b w x (OneStepOn v w' y x' l g u e q) = go (complete s t h full b v y g) u q
  where
    go : Arrives s t.arrivals.items y → step_listed s y l ≡ true → x ≡ step_of s y l → Arrives s t.arrivals.items x
    go a u q =
        let same : arrival_value s t.arrivals.items a.0 ≡ y = a.2.1 in
        let m = h.followed a.0 (let i = a.1 in omega (arith, i, full)) l (subst (λ z. step_listed s z l ≡ true) (sym same) u) in
        (m.0, m.1, subst (λ z. IsFirst s z (arrival_at t.arrivals.items m.0).configuration) (ap (λ z. step_of s z l) same ∙ sym q) m.2)

-- where no failure is found at an arrival, the checks hold there
meets_there : (s : Subject Shape) (t : Tour) → IsTour s t → length t.failing.items ≡ length t.arrivals.items → (k : ℕ) → k < length t.arrivals.items →
    failure_at t (arrival_at t.arrivals.items k).configuration ≡ None → AllMeet s (arrival_at t.arrivals.items k).configuration
meets_there s t h full k q none =
    go (get_or t.failing.items k None) (slice_get-get_or t.failing.items k None (omega (arith, q, full)))
    (sym (ap (λ z. failure_from t (arrival_at t.arrivals.items k).configuration z) (h.reaches.back k q)) ∙ none)
  where
    go : (o : Option Letter) → slice_get t.failing.items k ≡ Some o →
        failure_on (arrival_at t.arrivals.items k).configuration k (slice_get t.failing.items k) ≡ None →
        AllMeet s (arrival_at t.arrivals.items k).configuration
    go None e n = h.judged k None e
    go (Some l) e n =
        let c = (arrival_at t.arrivals.items k).configuration in
        absurd (none-some (record { configuration = c; place = k; letter = l }) (sym n ∙ ap (λ z. failure_on c k z) e))

-- where no configuration below a number fails, the checks hold at each below it that arrived
arrives_meets : (s : Subject Shape) (t : Tour) → IsTour s t → length t.failing.items ≡ length t.arrivals.items → (n : ℕ) →
    ((i : ℕ) → i < n → failure_at t i ≡ None) → (x : PlainConfiguration Shape) (a : Arrives s t.arrivals.items x) →
    (arrival_at t.arrivals.items a.0).configuration < n → (l : Letter) → meets_checks s x l ≡ true
arrives_meets s t h full n none x a c l =
    subst (λ z. meets_checks s z l ≡ true) a.2.1 (meets_there s t h full a.0 a.1 (none (arrival_at t.arrivals.items a.0).configuration c) l)

pub closed_is : (rows : List Row) (p : Pattern) (plan : Plan) → is_plan_of (shape_of p.regex) (plain_plan plan) ≡ true → (t : Tour) →
    IsTour (against rows p plan) t → length t.failing.items ≡ length t.arrivals.items →
    ((i : ℕ) → i < length t.places.items → failure_at t i ≡ None) → IsClosed (against rows p plan)
closed_is rows p plan f t h full none x r l =
    let s : Subject Shape = against rows p plan in
    let a = complete s t h full (start_value rows p plan f) r.0 x r.1 in
    arrives_meets s t h full (length t.places.items) none x a (let i = h.reaches.inside a.0 a.1 in let z = h.reaches.size in omega arith) l

-- the path to an arrival

path_leads : (s : Subject Shape) (xs : List Arrival) (os : List (Option ℕ)) → Reaches s xs os → value_at s 0 ≡ blank → (k : ℕ) (w : List Letter) →
    IsPath xs k w → k < length xs → LeadsTo s w (arrival_value s xs k)
path_leads s xs os h b k w (PathStart k' w' e q) c =
    FromStart w (arrival_value s xs k) q (ap (λ z. arrival_value s xs z) e ∙ ap (λ z. value_at s z) h.start ∙ b)
path_leads s xs os h b k w (PathOn k' v w' d g e) c =
    let t = h.steps k d c in
    OneStepOn v w (arrival_value s xs (arrival_at xs k).from) (arrival_value s xs k) (arrival_at xs k).letter
    (path_leads s xs os h b (arrival_at xs k).from v g (let z = t.0 in omega arith)) t.1 e t.2

before : (m n : ℕ) → (m < n → ⊥) → n ≤ m
before m n h = omega (arith, h)

-- a failure stands at an arrival, and the checks fail there
pub failure_tells : (s : Subject Shape) (t : Tour) → IsTour s t → (i : ℕ) (f : Failure) → failure_at t i ≡ Some f →
    (place_at t.places.items i ≡ Some f.place) × FailsFirst s i f.letter
failure_tells s t h i f q = from (place_at t.places.items i) refl q
  where
    on : (k : ℕ) → place_at t.places.items i ≡ Some k → (o : Option (Option Letter)) → slice_get t.failing.items k ≡ o → failure_on i k o ≡ Some f →
        (place_at t.places.items i ≡ Some f.place) × FailsFirst s i f.letter
    on k p None e q = absurd (none-some f q)
    on k p (Some None) e q = absurd (none-some f q)
    on k p (Some (Some l)) e q =
        subst (λ (z : Failure). (place_at t.places.items i ≡ Some z.place) × FailsFirst s i z.letter)
        (same_Some (record { configuration = i; place = k; letter = l }) f q)
        (p, subst (λ z. FailsFirst s z l) (h.reaches.there i k p).1 (h.judged k (Some l) e))

    from : (o : Option ℕ) → place_at t.places.items i ≡ o → failure_from t i o ≡ Some f →
        (place_at t.places.items i ≡ Some f.place) × FailsFirst s i f.letter
    from None e q = absurd (none-some f q)
    from (Some k) e q = on k e (slice_get t.failing.items k) refl q

pub refusal_is : (rows : List Row) (p : Pattern) (plan : Plan) → is_plan_of (shape_of p.regex) (plain_plan plan) ≡ true → (t : Tour) →
    IsTour (against rows p plan) t → length t.failing.items ≡ length t.arrivals.items → (f : Failure) → f.configuration < length t.places.items →
    failure_at t f.configuration ≡ Some f → ((i : ℕ) → i < f.configuration → failure_at t i ≡ None) →
    (w : List Letter) → IsPath t.arrivals.items f.place w → IsRefusal (against rows p plan) f.configuration f.letter w
refusal_is rows p plan q t h full f room at none w path =
    let s : Subject Shape = against rows p plan in
    let b : value_at s 0 ≡ blank = start_value rows p plan q in
    let m = failure_tells s t h f.configuration f at in
    let there = h.reaches.there f.configuration f.place m.0 in
    let leads : LeadsTo s w (value_at s f.configuration) =
    subst (λ z. LeadsTo s w (value_at s z)) there.1 (path_leads s t.arrivals.items t.places.items h.reaches b f.place w path there.0) in
    record {
      listed = (let z = h.reaches.size in omega (arith, room));
      leads = leads;
      fails = m.1;
      least = λ i c r l.
          let a = complete s t h full b r.0 (value_at s i) r.1 in
          let n : (arrival_at t.arrivals.items a.0).configuration ≤ i = before i (arrival_at t.arrivals.items a.0).configuration (λ z. a.2.2 i z refl) in
          arrives_meets s t h full f.configuration none (value_at s i) a (omega (arith, n, c)) l;
      refutes = λ c. false≢true (sym m.1.0 ∙ c (value_at s f.configuration) (w, leads) f.letter);
    }

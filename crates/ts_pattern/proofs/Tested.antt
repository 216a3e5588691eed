-- Where the test of Closed is true, the plan is closed: each reached configuration is listed, and all that are listed
-- meet the checks.
use Rattle.std.specs.Prelude.{◌≡◌, ◌⊎◌, ℕ, Bool, true, false, ◌&&◌, ◌||◌, ◌==◌, List, [], ◌∷◌, map, refl}
use Rattle.std.specs.List.{list_all, list_any}
use Rattle.std.proofs.Common.{sym, ◌∙◌, ap, subst, inl, inr, ⊎_elim}
use Rattle.std.proofs.lemmas.Bool.{eqb-true, false≢true, and_parts}
use Rattle.ts_base.specs.declared.letter.Letter.{Letter}
use Rattle.ts_base.specs.declared.letter.Letter.TheVariants.{Less, Equal, Greater}
use Rattle.ts_regex.specs.Shape.{Shape}
use Rattle.ts_transducer.specs.declared.row.Row.{Row}
use Rattle.ts_pattern.specs.declared.plan.Tag.{Tag}
use Rattle.ts_pattern.specs.declared.plan.Tag.TheVariants.{Young, Due, InD, InC, Loose}
use Rattle.ts_pattern.specs.EachOf.{OneOf}
use Rattle.ts_pattern.specs.Entries.{Entry, Residuals, shapes}
use Rattle.ts_pattern.specs.Closed.{PlainConfiguration, Subject, first_passes, same_tag, same_live, same_configuration, step_of, meets_checks, LeadsTo, FromStart, OneStepOn, IsClosed}
use Rattle.ts_pattern.specs.Plans.{PlainPlan, configuration_value, subject, is_empty, is_blank, is_plan_of, all_meet, is_closed}
use Rattle.ts_pattern.proofs.Entries.{shapes_right}

tag_is : (g h : Tag) → same_tag g h ≡ true → g ≡ h
tag_is (Young m) (Young n) q = ap (λ z. Young z) (eqb-true m n q)
tag_is Due Due q = refl
tag_is InD InD q = refl
tag_is InC InC q = refl
tag_is Loose Loose q = refl
tag_is (Young m) Due q = absurd (false≢true q)
tag_is (Young m) InD q = absurd (false≢true q)
tag_is (Young m) InC q = absurd (false≢true q)
tag_is (Young m) Loose q = absurd (false≢true q)
tag_is Due (Young n) q = absurd (false≢true q)
tag_is Due InD q = absurd (false≢true q)
tag_is Due InC q = absurd (false≢true q)
tag_is Due Loose q = absurd (false≢true q)
tag_is InD (Young n) q = absurd (false≢true q)
tag_is InD Due q = absurd (false≢true q)
tag_is InD InC q = absurd (false≢true q)
tag_is InD Loose q = absurd (false≢true q)
tag_is InC (Young n) q = absurd (false≢true q)
tag_is InC Due q = absurd (false≢true q)
tag_is InC InD q = absurd (false≢true q)
tag_is InC Loose q = absurd (false≢true q)
tag_is Loose (Young n) q = absurd (false≢true q)
tag_is Loose Due q = absurd (false≢true q)
tag_is Loose InD q = absurd (false≢true q)
tag_is Loose InC q = absurd (false≢true q)

-- what the test of residuals says of two entries
live_is : {R : Type 0} (t : Residuals R) → ((r s : R) → t.same r s ≡ true → r ≡ s) → (es fs : List (Entry (Unit {0}) R Tag)) → same_live t es fs ≡ true →
    es ≡ fs
live_is t r [] [] q = refl
live_is t r [] (f ∷ fs) q = absurd (false≢true q)
live_is t r (e ∷ es) [] q = absurd (false≢true q)
live_is t r (e ∷ es) (f ∷ fs) q =
    let h = and_parts (t.same e.residual f.residual) (same_tag e.tag f.tag && same_live t es fs) q in
    let k = and_parts (same_tag e.tag f.tag) (same_live t es fs) h.1 in
    ap (λ z. record { mark = tt; residual = z; tag = e.tag } ∷ es) (r e.residual f.residual h.0)
    ∙ ap (λ z. record { mark = tt; residual = f.residual; tag = z } ∷ es) (tag_is e.tag f.tag k.0)
    ∙ ap (λ z. f ∷ z) (live_is t r es fs k.1)

pub configuration_is : {R : Type 0} (t : Residuals R) → ((r s : R) → t.same r s ≡ true → r ≡ s) → (x y : PlainConfiguration R) →
    same_configuration t x y ≡ true → x ≡ y
configuration_is t r x y q =
    let h = and_parts (x.state == y.state) (same_live t x.live y.live) q in
    ap (λ z. record { state = z; live = x.live }) (eqb-true x.state y.state h.0)
    ∙ ap (λ z. record { state = y.state; live = z }) (live_is t r x.live y.live h.1)

-- some configuration of the list is y
listed_one : {R : Type 0} (t : Residuals R) → ((r s : R) → t.same r s ≡ true → r ≡ s) → (xs : List (PlainConfiguration R)) (y : PlainConfiguration R) →
    list_any (λ x. same_configuration t x y) xs ≡ true → OneOf (λ x. x ≡ y) xs
listed_one t r [] y q = absurd (false≢true q)
listed_one t r (x ∷ xs) y q = go (same_configuration t x y) (list_any (λ x. same_configuration t x y) xs) (configuration_is t r x y)
    (listed_one t r xs y) refl q
  where
    go : (b c : Bool) → (same_configuration t x y ≡ true → x ≡ y) → (c ≡ true → OneOf (λ x. x ≡ y) xs) → same_configuration t x y ≡ b → b || c ≡ true →
        (x ≡ y) ⊎ OneOf (λ x. x ≡ y) xs
    go true c here there p h = inl (here p)
    go false c here there p h = inr (there h)

-- a configuration without an entry, at state 0
pub blank_value : (rs : List Shape) (x : PlainConfiguration ℕ) → is_blank x ≡ true → configuration_value rs x ≡ record { state = 0; live = [] }
blank_value rs x q =
    let h = and_parts (x.state == 0) (is_empty x.live) q in
    ap (λ z. record { state = z; live = (configuration_value rs x).live }) (eqb-true x.state 0 h.0)
    ∙ ap (λ z. record { state = 0; live = z }) (gone x.live h.1)
  where
    gone : (es : List (Entry (Unit {0}) ℕ Tag)) → is_empty es ≡ true → (configuration_value rs (record { state = 0; live = es })).live ≡ []
    gone [] q = refl
    gone (e ∷ es) q = absurd (false≢true q)

-- the first configuration is the start with no entry
first_blank : (rs : List Shape) (xs : List (PlainConfiguration ℕ)) → first_passes (λ x. is_blank x) xs ≡ true →
    OneOf (λ y. y ≡ record { state = 0; live = [] }) (map (λ x. configuration_value rs x) xs)
first_blank rs [] q = false≢true q
first_blank rs (x ∷ xs) q = inl (blank_value rs x q)

-- each reached configuration is listed
reached_listed : (rows : List Row) (p : Shape) (b : ℕ) (plan : PlainPlan) → is_plan_of p plan ≡ true → (w : List Letter) (x : PlainConfiguration Shape) →
    LeadsTo (subject rows p b plan) w x → OneOf (λ y. y ≡ x) (subject rows p b plan).configurations
reached_listed rows p b plan f w x (FromStart w' x' e q) =
    subst (λ z. OneOf (λ y. y ≡ z) (subject rows p b plan).configurations) (sym q)
    (first_blank plan.residuals plan.configurations (and_parts (first_passes (λ x. is_blank x) plan.configurations) _ (and_parts _ _ f).1).0)
reached_listed rows p b plan f w x (OneStepOn v w' y x' l h s e q) =
    subst (λ z. OneOf (λ y. y ≡ z) (subject rows p b plan).configurations) (sym q)
    (listed_one shapes shapes_right.equal (subject rows p b plan).configurations (step_of (subject rows p b plan) y l) s)

meets_one : {R : Type 0} (s : Subject R) (xs : List (PlainConfiguration R)) →
    list_all (λ x. meets_checks s x Less && (meets_checks s x Equal && meets_checks s x Greater)) xs ≡ true → (x : PlainConfiguration R) →
    OneOf (λ y. y ≡ x) xs → (l : Letter) → meets_checks s x l ≡ true
meets_one s [] h x o l = absurd o
meets_one {R} s (y ∷ xs) h x o l =
    let k = and_parts (meets_checks s y Less && (meets_checks s y Equal && meets_checks s y Greater))
    (list_all (λ x. meets_checks s x Less && (meets_checks s x Equal && meets_checks s x Greater)) xs) h in
    ⊎_elim (λ q. subst (λ z. meets_checks s z l ≡ true) q (three y k.0 l)) (λ q. meets_one s xs k.1 x q l) o
  where
    three : (y : PlainConfiguration R) → meets_checks s y Less && (meets_checks s y Equal && meets_checks s y Greater) ≡ true → (l : Letter) →
        meets_checks s y l ≡ true
    three y h Less = (and_parts (meets_checks s y Less) (meets_checks s y Equal && meets_checks s y Greater) h).0
    three y h Equal = (and_parts (meets_checks s y Equal) (meets_checks s y Greater)
        (and_parts (meets_checks s y Less) (meets_checks s y Equal && meets_checks s y Greater) h).1).0
    three y h Greater = (and_parts (meets_checks s y Equal) (meets_checks s y Greater)
        (and_parts (meets_checks s y Less) (meets_checks s y Equal && meets_checks s y Greater) h).1).1

-- the test implies Closed
pub closed_by_test : (rows : List Row) (p : Shape) (b : ℕ) (plan : PlainPlan) → is_closed rows p b plan ≡ true → IsClosed (subject rows p b plan)
closed_by_test rows p b plan h x r l =
    let k = and_parts (is_plan_of p plan) (all_meet (subject rows p b plan)) h in
    meets_one (subject rows p b plan) (subject rows p b plan).configurations k.1 x (reached_listed rows p b plan k.0 r.0 x r.1) l

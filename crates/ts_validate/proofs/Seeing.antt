-- A look by numbers shows the step by the residuals themselves.
use Rattle.std.specs.Prelude.{◌≡◌, ℕ, zero, suc, ◌+◌, ◌<◌, ◌≤◌, nat_lt, Bool, true, false, cond, not, ◌&&◌, ◌||◌, List, [], ◌∷◌, Option, None, Some, is_some, map, length, get_or, refl}
use Rattle.std.specs.List.{list_all, list_any, position, position_or_len, AllByRecursion}
use Rattle.std.proofs.Common.{sym, ◌∙◌, ap, subst, arith}
use Rattle.std.proofs.lemmas.Bool.{eq-eqb, and_parts, false≢true, ltb-true, ltb-false}
use Rattle.std.proofs.lemmas.Option.{none-some, same_Some}
use Rattle.std.proofs.lemmas.List.{length-map}
use Rattle.ts_base.specs.declared.letter.Letter.{Letter}
use Rattle.ts_regex.specs.Shape.{Shape}
use Rattle.ts_regex.specs.NormalForm.{normal_form, same_shape}
use Rattle.ts_regex.proofs.Laws.{same_law}
use Rattle.ts_transducer.specs.declared.row.Row.{Row}
use Rattle.ts_pattern.specs.declared.plan.Tag.{Tag}
use Rattle.ts_pattern.specs.declared.plan.Tag.TheVariants.{Young, Due, InD, InC, Loose}
use Rattle.ts_pattern.specs.declared.plan.Configuration.{Configuration}
use Rattle.ts_pattern.specs.Entries.{Entry, shapes}
use Rattle.ts_pattern.specs.Closed.{PlainConfiguration, Subject, step_of, first_passes, same_tag, same_live, same_configuration, step_listed, meets_checks}
use Rattle.ts_pattern.specs.Plans.{shape_at, configuration_value, subject, plain_configuration, is_plan_of, is_blank}
use Rattle.ts_pattern.proofs.CallerLemmas.{shapes_right, configuration_is}
use Rattle.ts_validate.specs.declared.knowledge.Knowledge.{Knowledge}
use Rattle.ts_validate.specs.declared.step.Look.{Look}
use Rattle.ts_validate.specs.Numbers.{table_of, numbered_subject, next_place, number_meets}
use Rattle.ts_validate.specs.Reaches.{configuration_at, value_at, IsFirst, Sees}
use Rattle.ts_validate.proofs.Values.{AreNumbers, HasNumbers, IsFor, plan_of, by_number, by_value, is_listed_after, is_step, agrees, same_valued, agree_valued, not_listed}

-- what a plan of the pattern is

entries_below : (rs : List Shape) (es : List (Entry (Unit {0}) ℕ Tag)) → list_all (λ e. nat_lt e.residual (length rs)) es ≡ true → AreNumbers rs es
entries_below rs [] q = tt
entries_below rs (e ∷ es) q =
    let h = and_parts (nat_lt e.residual (length rs)) (list_all (λ e. nat_lt e.residual (length rs)) es) q in
    (ltb-true e.residual (length rs) h.0, entries_below rs es h.1)

all_below : (rs : List Shape) (xs : List (PlainConfiguration ℕ)) → list_all (λ x. list_all (λ e. nat_lt e.residual (length rs)) x.live) xs ≡ true →
    AllByRecursion (HasNumbers rs) xs
all_below rs [] q = tt
all_below rs (x ∷ xs) q =
    let h = and_parts (list_all (λ e. nat_lt e.residual (length rs)) x.live) (list_all (λ x. list_all (λ e. nat_lt e.residual (length rs)) x.live) xs) q in
    (entries_below rs x.live h.0, all_below rs xs h.1)

first_whole : (rs : List Shape) (n : Shape) → first_passes (λ r. same_shape r n) rs ≡ true → (0 < length rs) × (shape_at rs 0 ≡ n)
first_whole [] n q = absurd (false≢true q)
first_whole (r ∷ rs) n q = (omega arith, (same_law r n).0 q)

plan_for : (p : Shape) (rs : List Shape) (xs : List (PlainConfiguration ℕ)) → is_plan_of p (plan_of rs xs) ≡ true → IsFor p rs xs
plan_for p rs xs q =
    let h = and_parts (first_passes (λ r. same_shape r (normal_form p)) rs)
    (first_passes (λ x. is_blank x) xs && list_all (λ x. list_all (λ e. nat_lt e.residual (length rs)) x.live) xs) q in
    let k = and_parts (first_passes (λ x. is_blank x) xs) (list_all (λ x. list_all (λ e. nat_lt e.residual (length rs)) x.live) xs) h.1 in
    let w = first_whole rs (normal_form p) h.0 in
    record { some = w.0; whole = w.1; numbers = all_below rs xs k.1 }

-- the first place of a test

place_some : {A : Type 0} (p : A → Bool) (xs : List A) (j : ℕ) → position p xs ≡ Some j → (j ≡ position_or_len p xs) × (position_or_len p xs < length xs)
place_some p xs j q = go (nat_lt (position_or_len p xs) (length xs)) refl q
  where
    go : (b : Bool) → nat_lt (position_or_len p xs) (length xs) ≡ b → cond b (Some (position_or_len p xs)) None ≡ Some j →
        (j ≡ position_or_len p xs) × (position_or_len p xs < length xs)
    go true e s = (cc, ltb-true (position_or_len p xs) (length xs) e)
    go false e s = absurd (none-some j s)

place_none : {A : Type 0} (p : A → Bool) (xs : List A) → position p xs ≡ None → length xs ≤ position_or_len p xs
place_none p xs q = go (nat_lt (position_or_len p xs) (length xs)) refl q
  where
    go : (b : Bool) → nat_lt (position_or_len p xs) (length xs) ≡ b → cond b (Some (position_or_len p xs)) None ≡ None → length xs ≤ position_or_len p xs
    go true e s = absurd (none-some (position_or_len p xs) (sym s))
    go false e s = ltb-false (position_or_len p xs) (length xs) e

-- where a test of numbers and one of values agree

found_at : (p : PlainConfiguration ℕ → Bool) (q : PlainConfiguration Shape → Bool) (rs : List Shape) (xs : List (PlainConfiguration ℕ)) →
    AllByRecursion (λ x. p x ≡ q (configuration_value rs x)) xs → position_or_len p xs < length xs →
    q (configuration_at (map (λ x. configuration_value rs x) xs) (position_or_len p xs)) ≡ true
found_at p q rs [] e h = absurd (omega (arith, h))
found_at p q rs (x ∷ xs) e h = go (p x) refl e.0 (found_at p q rs xs e.1) h
  where
    on : (n : ℕ) → q (configuration_at (map (λ x. configuration_value rs x) xs) n) ≡ true →
        q (configuration_at (map (λ x. configuration_value rs x) (x ∷ xs)) (1 + n)) ≡ true
    on n t = ap (λ z. q (configuration_at (map (λ x. configuration_value rs x) (x ∷ xs)) z)) (let u : 1 + n ≡ suc n = omega arith in u) ∙ t

    go : (b : Bool) → p x ≡ b → p x ≡ q (configuration_value rs x) →
        (position_or_len p xs < length xs → q (configuration_at (map (λ x. configuration_value rs x) xs) (position_or_len p xs)) ≡ true) →
        cond (not b) (1 + position_or_len p xs) 0 < suc (length xs) →
        q (configuration_at (map (λ x. configuration_value rs x) (x ∷ xs)) (cond (not b) (1 + position_or_len p xs) 0)) ≡ true
    go true t u m s = sym u ∙ t
    go false t u m s = on (position_or_len p xs) (m (omega (arith, s)))

none_before : (p : PlainConfiguration ℕ → Bool) (q : PlainConfiguration Shape → Bool) (rs : List Shape) (xs : List (PlainConfiguration ℕ)) →
    AllByRecursion (λ x. p x ≡ q (configuration_value rs x)) xs → (i : ℕ) → i < position_or_len p xs →
    q (configuration_at (map (λ x. configuration_value rs x) xs) i) ≡ false
none_before p q rs [] e i h = absurd (omega (arith, h))
none_before p q rs (x ∷ xs) e zero h = go (p x) refl e.0 h
  where
    go : (b : Bool) → p x ≡ b → p x ≡ q (configuration_value rs x) → 0 < cond (not b) (1 + position_or_len p xs) 0 → q (configuration_value rs x) ≡ false
    go true t u s = absurd (omega (arith, s))
    go false t u s = sym u ∙ t
none_before p q rs (x ∷ xs) e (suc i) h = go (p x) (none_before p q rs xs e.1 i) h
  where
    go : (b : Bool) → (i < position_or_len p xs → q (configuration_at (map (λ x. configuration_value rs x) xs) i) ≡ false) →
        suc i < cond (not b) (1 + position_or_len p xs) 0 → q (configuration_at (map (λ x. configuration_value rs x) xs) i) ≡ false
    go true m s = absurd (omega (arith, s))
    go false m s = m (omega (arith, s))

any_at : (q : PlainConfiguration Shape → Bool) (xs : List (PlainConfiguration Shape)) (i : ℕ) → i < length xs → q (configuration_at xs i) ≡ true →
    list_any q xs ≡ true
any_at q [] i h t = absurd (omega (arith, h))
any_at q (x ∷ xs) zero h t = ap (λ z. z || list_any q xs) t
any_at q (x ∷ xs) (suc i) h t = last (q x) (list_any q xs) (any_at q xs i (omega (arith, h)) t)
  where
    last : (a b : Bool) → b ≡ true → a || b ≡ true
    last true b s = refl
    last false b s = s

none_any : (p : PlainConfiguration ℕ → Bool) (q : PlainConfiguration Shape → Bool) (rs : List Shape) (xs : List (PlainConfiguration ℕ)) →
    AllByRecursion (λ x. p x ≡ q (configuration_value rs x)) xs → length xs ≤ position_or_len p xs → list_any q (map (λ x. configuration_value rs x) xs) ≡ false
none_any p q rs [] e h = refl
none_any p q rs (x ∷ xs) e h = go (p x) refl e.0 (none_any p q rs xs e.1) h
  where
    go : (b : Bool) → p x ≡ b → p x ≡ q (configuration_value rs x) → (length xs ≤ position_or_len p xs →
        list_any q (map (λ x. configuration_value rs x) xs) ≡ false) →
        suc (length xs) ≤ cond (not b) (1 + position_or_len p xs) 0 → q (configuration_value rs x) || list_any q
        (map (λ x. configuration_value rs x) xs) ≡ false
    go true t u m s = absurd (omega (arith, s))
    go false t u m s = ap (λ z. z || list_any q (map (λ x. configuration_value rs x) xs)) (sym u ∙ t) ∙ m (omega (arith, s))

each_same : (rows : List Row) (p : Shape) (b : ℕ) (rs : List Shape) (all xs : List (PlainConfiguration ℕ)) → IsFor p rs all → (x : PlainConfiguration ℕ) →
    HasNumbers rs x → (l : Letter) → is_listed_after rs b x l ≡ true → AllByRecursion (HasNumbers rs) xs →
    AllByRecursion (λ y. is_step rows b rs all x l y
    ≡ same_configuration shapes (configuration_value rs y) (step_of (by_value rows p b rs all) (configuration_value rs x) l)) xs
each_same rows p b rs all [] i x h l a k = tt
each_same rows p b rs all (y ∷ xs) i x h l a k = (same_valued rows p b rs all i x y h k.0 l a, each_same rows p b rs all xs i x h l a k.1)

-- a configuration is the same as itself

tag_itself : (g : Tag) → same_tag g g ≡ true
tag_itself (Young m) = eq-eqb m m refl
tag_itself Due = refl
tag_itself InD = refl
tag_itself InC = refl
tag_itself Loose = refl

live_itself : (es : List (Entry (Unit {0}) Shape Tag)) → same_live shapes es es ≡ true
live_itself [] = refl
live_itself (e ∷ es) =
    ap (λ z. z && (same_tag e.tag e.tag && same_live shapes es es)) ((same_law e.residual e.residual).1 refl)
    ∙ ap (λ z. z && same_live shapes es es) (tag_itself e.tag) ∙ live_itself es

pub configuration_itself : (x : PlainConfiguration Shape) → same_configuration shapes x x ≡ true
configuration_itself x = ap (λ z. z && same_live shapes x.live x.live) (eq-eqb x.state x.state refl) ∙ live_itself x.live

sees : (rows : List Row) (p : Shape) (b : ℕ) (rs : List Shape) (xs : List (PlainConfiguration ℕ)) → IsFor p rs xs → (x : PlainConfiguration ℕ) →
    HasNumbers rs x → (l : Letter) (k : Look) →
    k.next ≡ next_place (table_of rs) (by_number rows b rs xs) x l →
    k.meets ≡ number_meets (table_of rs) (by_number rows b rs xs) x l →
    Sees (by_value rows p b rs xs) (configuration_value rs x) l k
sees rows p b rs xs i x h l k q m = go (is_listed_after rs b x l) refl q m
  where
    agree : (o : Option ℕ) → is_listed_after rs b x l ≡ true → (b' : Bool) →
        step_listed (by_value rows p b rs xs) (configuration_value rs x) l ≡ b' → is_some o ≡ b' →
        k.meets ≡ (is_some o && agrees (by_number rows b rs xs) x l) →
        k.meets ≡ meets_checks (by_value rows p b rs xs) (configuration_value rs x) l
    agree o a b' t u v =
        v ∙ ap (λ z. is_some o && z) (agree_valued rows p b rs xs i x h l a)
        ∙ ap (λ z. z && agrees (by_value rows p b rs xs) (configuration_value rs x) l) (u ∙ sym t)

    inner : is_listed_after rs b x l ≡ true → (o : Option ℕ) →
        position (λ y. is_step rows b rs xs x l y) xs ≡ o → k.next ≡ o →
        k.meets ≡ (is_some o && agrees (by_number rows b rs xs) x l) →
        Sees (by_value rows p b rs xs) (configuration_value rs x) l k
    inner a None e u v =
        let s : Subject Shape = by_value rows p b rs xs in
        let to : PlainConfiguration Shape = step_of s (configuration_value rs x) l in
        let no : step_listed s (configuration_value rs x) l ≡ false =
        none_any (λ y. is_step rows b rs xs x l y)
        (λ y. same_configuration shapes y to) rs xs
        (each_same rows p b rs xs xs i x h l a i.numbers)
        (place_none (λ y. is_step rows b rs xs x l y) xs e) in
        record { none = λ q. no; some = λ j q. absurd (none-some j (sym u ∙ q)); meets = agree None a false no refl v }
    inner a (Some m) e u v =
        let s : Subject Shape = by_value rows p b rs xs in
        let to : PlainConfiguration Shape = step_of s (configuration_value rs x) l in
        let test : PlainConfiguration ℕ → Bool = (λ y. is_step rows b rs xs x l y) in
        let same : PlainConfiguration Shape → Bool = (λ y. same_configuration shapes y to) in
        let each : AllByRecursion (λ y. test y ≡ same (configuration_value rs y)) xs = each_same rows p b rs xs xs i x h l a i.numbers in
        let f = place_some test xs m e in
        let size : length s.configurations ≡ length xs = length-map xs (λ y. configuration_value rs y) in
        let there : same (value_at s m) ≡ true = subst (λ z. same (value_at s z) ≡ true) (sym f.0) (found_at test same rs xs each f.1) in
        let short : m < length s.configurations = (let g0 = f.0 in let g1 = f.1 in omega arith) in
        let yes : step_listed s (configuration_value rs x) l ≡ true = any_at same s.configurations m short there in
        record {
          none = λ q. absurd (none-some m (sym q ∙ u));
          some = λ j q. let z : m ≡ j = same_Some m j (sym u ∙ q) in (
            yes,
            subst (λ n. IsFirst s to n) z (
              short,
              configuration_is shapes shapes_right.equal (value_at s m) to there,
              λ n c t. false≢true (sym (none_before test same rs xs each n (subst (λ w. n < w) f.0 c)) ∙ ap (λ w. same w) t ∙ configuration_itself to),
            ),
          );
          meets = agree (Some m) a true yes refl v;
        }

    go : (a : Bool) → is_listed_after rs b x l ≡ a →
        k.next ≡ cond a (position (λ y. is_step rows b rs xs x l y) xs) None →
        k.meets ≡ (is_some
        (cond a (position (λ y. is_step rows b rs xs x l y) xs) None)
        && agrees (by_number rows b rs xs) x l) →
        Sees (by_value rows p b rs xs) (configuration_value rs x) l k
    go true e u v = inner e (position (λ y. is_step rows b rs xs x l y) xs) refl u v
    go false e u v =
        let s : Subject Shape = by_value rows p b rs xs in
        let no : step_listed s (configuration_value rs x) l ≡ false = not_listed rows p b rs xs i x h l e in
        record {
          none = λ q. no;
          some = λ j q. absurd (none-some j (sym u ∙ q));
          meets = v ∙ sym
              (ap (λ z. z && agrees s (configuration_value rs x) l) no);
        }

-- configuration i of a plan

value_is : (rs : List Shape) (xs : List (PlainConfiguration ℕ)) (i : ℕ) → i < length xs →
    configuration_at (map (λ x. configuration_value rs x) xs) i ≡ configuration_value rs (configuration_at xs i)
value_is rs [] i q = absurd (omega (arith, q))
value_is rs (x ∷ xs) zero q = refl
value_is rs (x ∷ xs) (suc i) q = value_is rs xs i (omega (arith, q))

plain_is : (cs : List Configuration) (i : ℕ) (d : Configuration) → i < length cs →
    configuration_at (map (λ x. plain_configuration x) cs) i ≡ plain_configuration (get_or cs i d)
plain_is [] i d q = absurd (omega (arith, q))
plain_is (c ∷ cs) zero d q = refl
plain_is (c ∷ cs) (suc i) d q = plain_is cs i d (omega (arith, q))

numbers_at : (rs : List Shape) (xs : List (PlainConfiguration ℕ)) (i : ℕ) → AllByRecursion (HasNumbers rs) xs → i < length xs →
    HasNumbers rs (configuration_at xs i)
numbers_at rs [] i h q = absurd (omega (arith, q))
numbers_at rs (x ∷ xs) zero h q = h.0
numbers_at rs (x ∷ xs) (suc i) h q = numbers_at rs xs i h.1 (omega (arith, q))

sees_at : (rows : List Row) (p : Shape) (b : ℕ) (rs : List Shape) (cs : List Configuration) (table : List Knowledge) →
    is_plan_of p (plan_of rs (map (λ x. plain_configuration x) cs)) ≡ true → table ≡ table_of rs →
    (i : ℕ) (d here : Configuration) → i < length cs → here ≡ get_or cs i d → (l : Letter) (k : Look) →
    k.next ≡ next_place table (numbered_subject rows table b (map (λ x. plain_configuration x) cs)) (plain_configuration here) l →
    k.meets ≡ number_meets table (numbered_subject rows table b (map (λ x. plain_configuration x) cs)) (plain_configuration here) l →
    Sees (subject rows p b (plan_of rs (map (λ x. plain_configuration x) cs)))
    (value_at (subject rows p b (plan_of rs (map (λ x. plain_configuration x) cs))) i) l k
sees_at rows p b rs cs table f t i d here q e l k n m =
    let xs : List (PlainConfiguration ℕ) = map (λ x. plain_configuration x) cs in
    let g : IsFor p rs xs = plan_for p rs xs f in
    let short : i < length xs = (let z = length-map cs (λ (x : Configuration). plain_configuration x) in omega arith) in
    let x : PlainConfiguration ℕ = configuration_at xs i in
    let is : plain_configuration here ≡ x = ap (λ z. plain_configuration z) e ∙ sym (plain_is cs i d q) in
    subst (λ z. Sees (by_value rows p b rs xs) z l k) (sym (value_is rs xs i short))
    (sees rows p b rs xs g x (numbers_at rs xs i g.numbers short) l k
    (n ∙ ap (λ z. next_place z (numbered_subject rows z b xs) (plain_configuration here) l) t
    ∙ ap (λ z. next_place (table_of rs) (by_number rows b rs xs) z l) is)
    (m ∙ ap (λ z. number_meets z (numbered_subject rows z b xs) (plain_configuration here) l) t
    ∙ ap (λ z. number_meets (table_of rs) (by_number rows b rs xs) z l) is))

pub sees_plan : (rows : List Row) (p : Shape) (b : ℕ) (rs : List Shape) (slice cs : List Configuration) (table : List Knowledge) → slice ≡ cs →
    is_plan_of p (plan_of rs (map (λ x. plain_configuration x) cs)) ≡ true → table ≡ table_of rs →
    (i : ℕ) (here : Configuration) → i < length cs → here ≡ get_or slice i here → (l : Letter) (k : Look) →
    k.next ≡ next_place table (numbered_subject rows table b (map (λ x. plain_configuration x) slice)) (plain_configuration here) l →
    k.meets ≡ number_meets table (numbered_subject rows table b (map (λ x. plain_configuration x) slice)) (plain_configuration here) l →
    Sees (subject rows p b (plan_of rs (map (λ x. plain_configuration x) cs)))
    (value_at (subject rows p b (plan_of rs (map (λ x. plain_configuration x) cs))) i) l k
sees_plan rows p b rs slice cs table e f t i here q g l k n m =
    subst (λ z. Sees (subject rows p b (plan_of rs (map (λ x. plain_configuration x) z)))
    (value_at (subject rows p b (plan_of rs (map (λ x. plain_configuration x) z))) i) l k) e
    (sees_at rows p b rs slice table (subst (λ z. is_plan_of p (plan_of rs (map (λ x. plain_configuration x) z)) ≡ true) (sym e) f) t i here here
    (subst (λ z. i < length z) (sym e) q) g l k n m)

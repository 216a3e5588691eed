-- The plan of a whole listing is closed.
use Rattle.std.specs.Prelude.{◌≡◌, ℕ, zero, suc, ◌<◌, ◌≤◌, ◌==◌, nat_lt, Bool, true, false, ◌&&◌, ◌||◌, List, [], ◌∷◌, ◌++◌, Some, map, length, slice_get, refl}
use Rattle.std.specs.List.{list_all, list_any, AllByRecursion}
use Rattle.std.proofs.Common.{sym, ◌∙◌, ap, subst, arith}
use Rattle.std.proofs.lemmas.Bool.{false≢true, eq-eqb, lt-ltb}
use Rattle.std.proofs.lemmas.List.{length-map}
use Rattle.std.proofs.lemmas.Simd.{map-map}
use Rattle.ts_base.specs.declared.letter.Letter.{Letter}
use Rattle.ts_regex.specs.Shape.{Shape, shape_of}
use Rattle.ts_regex.specs.NormalForm.{normal_form, same_shape}
use Rattle.ts_regex.proofs.Laws.{same_law}
use Rattle.ts_transducer.specs.declared.row.Row.{Row}
use Rattle.ts_pattern.specs.declared.plan.Tag.{Tag}
use Rattle.ts_pattern.specs.declared.plan.Live.{Live}
use Rattle.ts_pattern.specs.declared.plan.Configuration.{Configuration}
use Rattle.ts_pattern.specs.declared.pattern.Pattern.{Pattern}
use Rattle.ts_pattern.specs.declared.plan.Plan.{Plan}
use Rattle.ts_pattern.specs.Entries.{Entry, shapes}
use Rattle.ts_pattern.specs.Closed.{PlainConfiguration, Subject, first_passes, same_configuration, step_of, step_listed, meets_checks, LeadsTo, FromStart, OneStepOn, IsClosed}
use Rattle.ts_pattern.specs.Plans.{PlainPlan, shape_at, configuration_value, plain_configuration, plain_live, plain_plan, is_blank, is_empty, is_plan_of}
use Rattle.ts_validate.specs.Reaches.{against}
use Rattle.ts_validate.proofs.Seeing.{configuration_itself}
use Rattle.ts_user.specs.declared.listing.Listing.{Listing}
use Rattle.ts_user.specs.SignatureOrder.{place, signature_at}
use Rattle.ts_user.specs.FirstReached.{blank, reached, agrees}
use Rattle.ts_user.specs.BuildAnswers.{most_configurations, unplanned_of, values_of, IsListing}
use Rattle.ts_user.specs.Numbered.{AreDifferent, HasResidualsOnce, AreNumbered, IsNumbered, live_numbers, entry_numbers}
use Rattle.ts_user.specs.Books.{residuals_of, values, value_of}
use Rattle.ts_user.specs.Listings.{IsReady, IsWhole, signatures_of, IsListed}
use Rattle.ts_user.proofs.Places.{place_same}
use Rattle.ts_user.proofs.Listings.{residuals_few}
use Rattle.ts_user.proofs.Taking.{reached_push, all_signatures_are}

-- two lists, element by element

same_lists : {V X : Type 0} (f : X → V) (g : List Letter → V) (xs : List X) (ws : List (List Letter)) → length xs ≡ length ws →
    ((i : ℕ) (x : X) → slice_get xs i ≡ Some x → f x ≡ g (signature_at ws i)) → map f xs ≡ map g ws
same_lists f g [] [] n h = refl
same_lists f g [] (w ∷ ws) n h = absurd (omega (arith, n))
same_lists f g (x ∷ xs) [] n h = absurd (omega (arith, n))
same_lists f g (x ∷ xs) (w ∷ ws) n h =
    ap (λ z. z ∷ map f xs) (h 0 x refl) ∙ ap (λ z. g w ∷ z) (same_lists f g xs ws (omega (arith, n)) (λ i y q. h (suc i) y q))

-- the plan's configurations are those of the signatures

pub values_are : (rows : List Row) (p : Pattern) (plan : Plan) (t : Listing) → IsListed (unplanned_of rows p) (shape_of p.regex) t →
    map (λ s. shape_of s) plan.residuals.items ≡ residuals_of t.book → plan.configurations.items ≡ t.configurations.items →
    values_of rows p plan ≡ map (λ w. reached (unplanned_of rows p) w) (signatures_of t)
values_are rows p plan t h r c =
    let rs : List Shape = residuals_of t.book in
    ap (λ z. map (λ x. configuration_value z x) (map (λ x. plain_configuration x) plan.configurations.items)) r
    ∙ ap (λ z. map (λ x. configuration_value rs x) (map (λ x. plain_configuration x) z)) c
    ∙ map-map (λ x. configuration_value rs x) (λ x. plain_configuration x) t.configurations.items
    ∙ same_lists (λ x. value_of rs x) (λ w. reached (unplanned_of rows p) w) t.configurations.items (signatures_of t) h.size h.values

-- closed

leads_to : (rows : List Row) (p : Pattern) (plan : Plan) (w : List Letter) (x : PlainConfiguration Shape) → LeadsTo (against rows p plan) w x →
    x ≡ reached (unplanned_of rows p) w
leads_to rows p plan w x (FromStart _ _ a b) = b ∙ ap (λ z. reached (unplanned_of rows p) z) (sym a)
leads_to rows p plan w x (OneStepOn v _ y _ l h t a b) =
    b ∙ ap (λ z. step_of (unplanned_of rows p) z l) (leads_to rows p plan v y h) ∙ sym (reached_push (unplanned_of rows p) v l)
    ∙ ap (λ z. reached (unplanned_of rows p) z) (sym a)

any_word : (q : PlainConfiguration Shape → Bool) (g : List Letter → PlainConfiguration Shape) (ws : List (List Letter)) (i : ℕ) → i < length ws →
    q (g (signature_at ws i)) ≡ true → list_any q (map g ws) ≡ true
any_word q g [] i h t = absurd (omega (arith, h))
any_word q g (w ∷ ws) zero h t = ap (λ z. z || list_any q (map g ws)) t
any_word q g (w ∷ ws) (suc i) h t = last (q (g w)) (list_any q (map g ws)) (any_word q g ws i (omega (arith, h)) t)
  where
    last : (a b : Bool) → b ≡ true → a || b ≡ true
    last true b s = refl
    last false b s = s

both : (a b : Bool) → a ≡ true → b ≡ true → (a && b) ≡ true
both true b p q = q
both false b p q = absurd (false≢true p)

step_is_listed : (rows : List Row) (p : Pattern) (plan : Plan) (ws : List (List Letter)) → IsWhole (unplanned_of rows p) ws →
    values_of rows p plan ≡ map (λ w. reached (unplanned_of rows p) w) ws → (w : List Letter) (l : Letter) →
    step_listed (against rows p plan) (reached (unplanned_of rows p) w) l ≡ true
step_is_listed rows p plan ws h e w l =
    let s : Subject Shape = unplanned_of rows p in
    let to : PlainConfiguration Shape = step_of s (reached s w) l in
    let c = h.covers (w ++ l ∷ []) in
    let is : reached s (signature_at ws c.0) ≡ to = c.3 ∙ reached_push s w l in
    ap (λ z. list_any (λ y. same_configuration shapes y to) z) e
    ∙ any_word (λ y. same_configuration shapes y to) (λ w. reached s w) ws c.0 c.1
    (ap (λ z. same_configuration shapes z to) is ∙ configuration_itself to)

pub plan_closed : (rows : List Row) (p : Pattern) (plan : Plan) (ws : List (List Letter)) → IsWhole (unplanned_of rows p) ws →
    values_of rows p plan ≡ map (λ w. reached (unplanned_of rows p) w) ws → IsClosed (against rows p plan)
plan_closed rows p plan ws h e x r l =
    let s : Subject Shape = unplanned_of rows p in
    let is : x ≡ reached s r.0 = leads_to rows p plan r.0 x r.1 in
    ap (λ z. meets_checks (against rows p plan) z l) is
    ∙ both (step_listed (against rows p plan) (reached s r.0) l) (agrees s (reached s r.0) l) (step_is_listed rows p plan ws h e r.0 l) (h.pass r.0 l)

pub plan_listing : (rows : List Row) (p : Pattern) (plan : Plan) (t : Listing) → IsListed (unplanned_of rows p) (shape_of p.regex) t →
    IsWhole (unplanned_of rows p) (signatures_of t) → values_of rows p plan ≡ map (λ w. reached (unplanned_of rows p) w) (signatures_of t) →
    IsListing (unplanned_of rows p) (values_of rows p plan)
plan_listing rows p plan t h k e =
    record {
      signatures = signatures_of t;
      all = all_signatures_are (unplanned_of rows p) (signatures_of t) k;
      values = e;
      few = let n = h.size in let m = h.few in subst (λ z. z ≤ most_configurations) n m;
      pass = λ n v l q. k.pass v l;
    }

pub plan_numbered : (rows : List Row) (p : Pattern) (plan : Plan) (t : Listing) → IsListed (unplanned_of rows p) (shape_of p.regex) t →
    map (λ s. shape_of s) plan.residuals.items ≡ residuals_of t.book → plan.configurations.items ≡ t.configurations.items → IsNumbered plan
plan_numbered rows p plan t h r c =
    subst (λ z. AreNumbered 1 (entry_numbers z) (length plan.residuals.items)) (sym c)
    (subst (λ z. AreNumbered 1 (entry_numbers t.configurations.items) z) (length-map plan.residuals.items (λ s. shape_of s))
    (subst (λ z. AreNumbered 1 (entry_numbers t.configurations.items) (length z)) (sym r) h.numbered))

pub plan_once : (rows : List Row) (p : Pattern) (plan : Plan) (t : Listing) → IsListed (unplanned_of rows p) (shape_of p.regex) t →
    map (λ s. shape_of s) plan.residuals.items ≡ residuals_of t.book → HasResidualsOnce plan
plan_once rows p plan t h r = subst (λ z. AreDifferent z) (sym r) h.book.once

-- what is listed is a plan of the pattern

first_whole : (rs : List Shape) (n : Shape) → 0 < length rs → shape_at rs 0 ≡ n → first_passes (λ r. same_shape r n) rs ≡ true
first_whole [] n q e = absurd (omega (arith, q))
first_whole (r ∷ rs) n q e = (same_law r n).1 e

no_entries : (rs : List Shape) (es : List Live) → values rs es ≡ [] → is_empty (map (λ e. plain_live e) es) ≡ true
no_entries rs [] q = refl
no_entries rs (e ∷ es) q = absurd (let n = ap (λ z. length z) q in omega (arith, n))

first_blank : (rs : List Shape) (xs : List Configuration) → 0 < length xs → ((x : Configuration) → slice_get xs 0 ≡ Some x → value_of rs x ≡ blank) →
    first_passes (λ x. is_blank x) (map (λ x. plain_configuration x) xs) ≡ true
first_blank rs [] q h = absurd (omega (arith, q))
first_blank rs (x ∷ xs) q h =
    let is = h x refl in
    both (x.state == 0) (is_empty (map (λ e. plain_live e) x.live.items)) (eq-eqb x.state 0 (ap (λ (z : PlainConfiguration Shape). z.state) is))
    (no_entries rs x.live.items (ap (λ (z : PlainConfiguration Shape). z.live) is))

entries_known : (n : ℕ) (es : List Live) → AllByRecursion (λ i. i < n) (live_numbers es) →
    list_all (λ (e : Entry (Unit {0}) ℕ Tag). nat_lt e.residual n) (map (λ e. plain_live e) es) ≡ true
entries_known n [] h = refl
entries_known n (e ∷ es) h = both (nat_lt e.residual n) (list_all (λ (e : Entry (Unit {0}) ℕ Tag). nat_lt e.residual n) (map (λ e. plain_live e) es))
    (lt-ltb e.residual n h.0) (entries_known n es h.1)

all_known : (n : ℕ) (xs : List Configuration) → ((i : ℕ) (x : Configuration) → slice_get xs i ≡ Some x →
    AllByRecursion (λ i. i < n) (live_numbers x.live.items)) →
    list_all (λ (x : PlainConfiguration ℕ). list_all (λ (e : Entry (Unit {0}) ℕ Tag). nat_lt e.residual n) x.live) (map (λ x. plain_configuration x) xs) ≡ true
all_known n [] h = refl
all_known n (x ∷ xs) h =
    both (list_all (λ (e : Entry (Unit {0}) ℕ Tag). nat_lt e.residual n) (map (λ e. plain_live e) x.live.items))
    (list_all (λ (x : PlainConfiguration ℕ). list_all (λ (e : Entry (Unit {0}) ℕ Tag). nat_lt e.residual n) x.live) (map (λ x. plain_configuration x) xs))
    (entries_known n x.live.items (h 0 x refl)) (all_known n xs (λ i y q. h (suc i) y q))

-- the empty signature comes first
first_word : (s : Subject Shape) (ws : List (List Letter)) → IsWhole s ws → (0 < length ws) × (signature_at ws 0 ≡ [])
first_word s ws h =
    let c = h.covers [] in
    let low = c.1 in let at = c.2 in
    (omega (arith, low), go c.0 low at)
  where
    go : (i : ℕ) → i < length ws → place (signature_at ws i) ≤ 0 → signature_at ws 0 ≡ []
    go zero q e = place_same (signature_at ws 0) [] (omega (arith, e))
    go (suc i) q e = absurd (let r = h.rises 0 (suc i) (omega arith) q in omega (arith, r, e))

is_of : (p : Pattern) (rs : List Shape) (xs : List Configuration) → first_passes (λ r. same_shape r (normal_form (shape_of p.regex))) rs ≡ true →
    first_passes (λ x. is_blank x) (map (λ x. plain_configuration x) xs) ≡ true →
    list_all (λ (x : PlainConfiguration ℕ). list_all (λ (e : Entry (Unit {0}) ℕ Tag). nat_lt e.residual (length rs)) x.live)
    (map (λ x. plain_configuration x) xs) ≡ true →
    (let x : PlainPlan = record { residuals = rs; configurations = map (λ x. plain_configuration x) xs } in is_plan_of (shape_of p.regex) x) ≡ true
is_of p rs xs a b c =
    both (first_passes (λ r. same_shape r (normal_form (shape_of p.regex))) rs)
    (first_passes (λ x. is_blank x) (map (λ x. plain_configuration x) xs)
    && list_all (λ (x : PlainConfiguration ℕ). list_all (λ (e : Entry (Unit {0}) ℕ Tag). nat_lt e.residual (length rs)) x.live)
    (map (λ x. plain_configuration x) xs)) a
    (both (first_passes (λ x. is_blank x) (map (λ x. plain_configuration x) xs))
    (list_all (λ (x : PlainConfiguration ℕ). list_all (λ (e : Entry (Unit {0}) ℕ Tag). nat_lt e.residual (length rs)) x.live)
    (map (λ x. plain_configuration x) xs)) b c)

pub plan_fits : (rows : List Row) (p : Pattern) (plan : Plan) (t : Listing) → IsListed (unplanned_of rows p) (shape_of p.regex) t →
    IsWhole (unplanned_of rows p) (signatures_of t) → map (λ s. shape_of s) plan.residuals.items ≡ residuals_of t.book →
    plan.configurations.items ≡ t.configurations.items →
    is_plan_of (shape_of p.regex) (plain_plan plan) ≡ true
plan_fits rows p plan t h k r c =
    let rs : List Shape = residuals_of t.book in
    let f = first_word (unplanned_of rows p) (signatures_of t) k in
    let size = h.size in
    ap (λ z. is_plan_of (shape_of p.regex) (record { residuals = z; configurations = map (λ x. plain_configuration x) plan.configurations.items })) r
    ∙ ap (λ z. is_plan_of (shape_of p.regex) (record { residuals = rs; configurations = map (λ x. plain_configuration x) z })) c
    ∙ is_of p rs t.configurations.items (first_whole rs (normal_form (shape_of p.regex)) (h.book).some (h.book).whole)
    (first_blank rs t.configurations.items (subst (λ z. 0 < z) (sym size) f.0)
    (λ x q. h.values 0 x q ∙ ap (λ z. reached (unplanned_of rows p) z) f.1))
    (all_known (length rs) t.configurations.items h.listed)

pub plan_few : (rows : List Row) (p : Pattern) (plan : Plan) (t : Listing) → IsListed (unplanned_of rows p) (shape_of p.regex) t →
    map (λ s. shape_of s) plan.residuals.items ≡ residuals_of t.book → length plan.residuals.items ≤ 262145
plan_few rows p plan t h r =
    let few = residuals_few (unplanned_of rows p) (shape_of p.regex) t h in
    let size = length-map plan.residuals.items (λ s. shape_of s) in
    let same = ap (λ z. length z) r in omega (arith, few, size, same)

-- over rows that were lent

pub closed_lent : (lent rows : List Row) (p : Pattern) (plan : Plan) (t : Listing) → lent ≡ rows → IsListed (unplanned_of lent p) (shape_of p.regex) t →
    IsWhole (unplanned_of lent p) (signatures_of t) → map (λ s. shape_of s) plan.residuals.items ≡ residuals_of t.book →
    plan.configurations.items ≡ t.configurations.items →
    IsClosed (against rows p plan)
closed_lent lent rows p plan t e h k r c =
    subst (λ z. IsClosed (against z p plan)) e (plan_closed lent p plan (signatures_of t) k (values_are lent p plan t h r c))

pub listing_lent : (lent rows : List Row) (p : Pattern) (plan : Plan) (t : Listing) → lent ≡ rows → IsListed (unplanned_of lent p) (shape_of p.regex) t →
    IsWhole (unplanned_of lent p) (signatures_of t) → map (λ s. shape_of s) plan.residuals.items ≡ residuals_of t.book →
    plan.configurations.items ≡ t.configurations.items →
    IsListing (unplanned_of rows p) (values_of rows p plan)
listing_lent lent rows p plan t e h k r c =
    subst (λ z. IsListing (unplanned_of z p) (values_of z p plan)) e (plan_listing lent p plan t h k (values_are lent p plan t h r c))

-- the last signature's steps were taken
pub all_taken : (s : Subject Shape) (p : Shape) (t : Listing) (k n : ℕ) → IsListed s p t → IsReady s (signatures_of t) k → k ≤ length t.configurations.items →
    n ≡ length t.configurations.items → n ≤ k → IsWhole s (signatures_of t)
all_taken s p t k n h r q e f = let size = h.size in r.done (omega (arith, size, q, e, f))

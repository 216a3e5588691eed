-- The three tests of a plan are the whole test.
use Rattle.std.proofs.Common.{◌≡◌, ℕ, Bool, ◌&&◌, nat_lt, List, [], ◌∷◌, map, length, refl, sym, ap, ◌∙◌}
use Rattle.std.specs.List.{list_all}
use Rattle.std.proofs.lemmas.List.{length-map}
use Rattle.std.proofs.lemmas.List.Folds.{list_all-map}
use Rattle.ts_regex.specs.declared.regex.Regex.{Regex}
use Rattle.ts_regex.specs.Shape.{Shape, shape_of}
use Rattle.ts_regex.specs.NormalForm.{normal_form, same_shape}
use Rattle.ts_pattern.specs.declared.plan.Tag.{Tag}
use Rattle.ts_pattern.specs.declared.plan.Configuration.{Configuration}
use Rattle.ts_pattern.specs.declared.plan.Plan.{Plan}
use Rattle.ts_pattern.specs.Closed.{PlainConfiguration, first_passes}
use Rattle.ts_pattern.specs.Entries.{Entry}
use Rattle.ts_pattern.specs.Plans.{plain_live, plain_configuration, plain_plan, is_blank, is_plan_of}

-- each residual number is below n, in plain configurations
known_is : (n : ℕ) (xs : List Configuration) → list_all (λ x. list_all (λ e. nat_lt e.residual n) x.live.items) xs
    ≡ list_all (λ (x : PlainConfiguration ℕ). list_all (λ (e : Entry (Unit {0}) ℕ Tag). nat_lt e.residual n) x.live) (map (λ x. plain_configuration x) xs)
known_is n [] = refl
known_is n (x ∷ xs) =
    ap (λ z. z && list_all (λ x. list_all (λ e. nat_lt e.residual n) x.live.items) xs)
    (sym (list_all-map (λ (e : Entry (Unit {0}) ℕ Tag). nat_lt e.residual n) (λ e. plain_live e) x.live.items))
    ∙ ap (λ z. list_all (λ (e : Entry (Unit {0}) ℕ Tag). nat_lt e.residual n) (map (λ e. plain_live e) x.live.items) && z) (known_is n xs)

-- the three tests of a plan are the whole test
is_of_is : (plan : Plan) (p whole : Shape) (n : ℕ) (a b c : Bool) → whole ≡ normal_form p → n ≡ length plan.residuals.items →
    a ≡ first_passes (λ r. same_shape r whole) (map (λ r. shape_of r) plan.residuals.items) →
    b ≡ first_passes (λ x. is_blank x) (map (λ x. plain_configuration x) plan.configurations.items) →
    c ≡ list_all (λ x. list_all (λ e. nat_lt e.residual n) x.live.items) plan.configurations.items → (a && (b && c)) ≡ is_plan_of p (plain_plan plan)
is_of_is plan p whole n a b c normal size first blank known =
    let residuals = map (λ r. shape_of r) plan.residuals.items in
    let configurations = map (λ x. plain_configuration x) plan.configurations.items in
    let all = λ (n : ℕ). list_all (λ (x : PlainConfiguration ℕ). list_all (λ (e : Entry (Unit {0}) ℕ Tag). nat_lt e.residual n) x.live) configurations in
    ap (λ z. z && (b && c)) (first ∙ ap (λ (w : Shape). first_passes (λ r. same_shape r w) residuals) normal)
    ∙ ap (λ z. first_passes (λ r. same_shape r (normal_form p)) residuals && (z && c)) blank
    ∙ ap (λ z. first_passes (λ r. same_shape r (normal_form p)) residuals && (first_passes (λ x. is_blank x) configurations && z))
    (known ∙ known_is n plan.configurations.items ∙ ap all (size ∙ sym (length-map plan.residuals.items (λ r. shape_of r))))

-- a plan is of a pattern if the tests that read slices of the plan's lists pass
pub is_of_read : (plan : Plan) (p whole : Shape) (n : ℕ) (a b c r : Bool) (rs : List Regex) (cs ds : List Configuration) →
    rs ≡ plan.residuals.items → cs ≡ plan.configurations.items → ds ≡ plan.configurations.items → whole ≡ normal_form p → n ≡ length plan.residuals.items →
    a ≡ first_passes (λ r. same_shape r whole) (map (λ r. shape_of r) rs) → b ≡ first_passes (λ x. is_blank x) (map (λ x. plain_configuration x) cs) →
    c ≡ list_all (λ x. list_all (λ e. nat_lt e.residual n) x.live.items) ds → r ≡ (a && (b && c)) → r ≡ is_plan_of p (plain_plan plan)
is_of_read plan p whole n a b c r rs cs ds is_rs is_cs is_ds normal size first blank known all =
    all
    ∙ is_of_is plan p whole n a b c normal size
    (first ∙ ap (λ z. first_passes (λ r. same_shape r whole) (map (λ r. shape_of r) z)) is_rs)
    (blank ∙ ap (λ z. first_passes (λ x. is_blank x) (map (λ x. plain_configuration x) z)) is_cs)
    (known ∙ ap (λ z. list_all (λ (x : Configuration). list_all (λ e. nat_lt e.residual n) x.live.items) z) is_ds)

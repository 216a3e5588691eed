-- Lines from the first to the end, each of which may follow those before, are those of one certificate.
use Rattle.std.proofs.Common.{◌≡◌, ◌≢◌, ℕ, suc, ◌<◌, ◌+◌, ◌-◌, Bool, true, false, not, cond, List, [], ◌∷◌, ◌++◌, length, map, refl, sym, ap, subst, ◌∙◌, ◌&&◌, arith}
use Rattle.std.specs.Prelude.{ℤ, ◌==◌}
use Rattle.std.specs.List.{list_all}
use Rattle.std.proofs.lemmas.Bool.{eqb-true, and_parts, eq-eqb}
use Rattle.std.proofs.lemmas.Bool.Decides.{nat_tests}
use Rattle.ts_certificate.specs.declared.certificate.Aim.{Aim}
use Rattle.ts_certificate.specs.declared.certificate.Claim.{Claim}
use Rattle.ts_certificate.specs.declared.certificate.TreeLine.{TreeLine}
use Rattle.ts_certificate.specs.declared.state.State.{State}
use Rattle.ts_certificate.specs.declared.state.State.TheVariants.{Start, AfterAim, InSeries, InTree, AfterEnd}
use Rattle.ts_certificate.specs.TreeLines.{is_tree_line}
use Rattle.ts_certificate.specs.HeadLines.{is_aim, is_claim, is_series}
use Rattle.ts_certificate.specs.Grammar.{CertLine, SaysAim, SaysClaim, SaysSeries, SaysTree, SaysEnd, series_left, series_count, is_open, is_end, after_series, after_tree, next_state, state_after, may_follow}
use Rattle.ts_certificate.specs.FirstStop.{MayFollow}
use Rattle.ts_certificate.specs.Certificate.{Cert, checked_count, open_count, end_line, cert_lines, IsCertificate}
use Rattle.std.specs.Cmp.Derive.{both_true}

-- each line may follow those before, and they lead from one state to another
abbrev pub Runs : State → List CertLine → State → Type 0
Runs s [] t = s ≡ t
Runs s (l ∷ ls) t = (may_follow s l ≡ true) × Runs (next_state s l) ls t

pub runs_from : (s : State) (ls : List CertLine) (t : State) → MayFollow s ls → state_after s ls ≡ t → Runs s ls t
runs_from s [] t h e = e
runs_from s (l ∷ ls) t h e = (h.0, runs_from (next_state s l) ls t h.1 e)

pub runs_give : (s : State) (ls : List CertLine) (t : State) → Runs s ls t → MayFollow s ls × (state_after s ls ≡ t)
runs_give s [] t h = (tt, h)
runs_give s (l ∷ ls) t h = let later = runs_give (next_state s l) ls t h.1 in ((h.0, later.0), later.1)

runs_append : (s : State) (xs ys : List CertLine) (t u : State) → Runs s xs t → Runs t ys u → Runs s (xs ++ ys) u
runs_append s [] ys t u h k = subst (λ (x : State). Runs x ys u) (sym h) k
runs_append s (x ∷ xs) ys t u h k = (h.0, runs_append (next_state s x) xs ys t u h.1 k)

-- series lines, as many as are listed
owes : (n : ℕ) → series_left (suc n) ≡ InSeries (suc n)
owes n = ap (λ v. cond v (InTree 0 0) (InSeries (suc n))) (no n) where
  no : (n : ℕ) → suc n == 0 ≡ false
  no n = grind (arith, nat_tests)

paid : (n : ℕ) → after_series (InSeries (suc n)) ≡ series_left n
paid n = ap series_left (less n) where
  less : (n : ℕ) → suc n - 1 ≡ n
  less n = omega arith

series_runs : (xs : List (List ℤ)) → list_all is_series xs ≡ true → Runs (series_left (length xs)) (map SaysSeries xs) (InTree 0 0)
series_runs [] h = refl
series_runs (x ∷ xs) h =
    let each = and_parts (is_series x) (list_all is_series xs) h in
    let rest = series_runs xs each.1 in
    let from : Runs (InSeries (suc (length xs))) (map SaysSeries (x ∷ xs)) (InTree 0 0) =
    (each.0, subst (λ (s : State). Runs s (map SaysSeries xs) (InTree 0 0)) (sym (paid (length xs))) rest) in
    subst (λ (s : State). Runs s (map SaysSeries (x ∷ xs)) (InTree 0 0)) (sym (owes (length xs))) from

-- tree lines, which are counted
proving : (a b c d : ℕ) → a ≡ c → b ≡ d → InTree a b ≡ InTree c d
proving a b c d e f = ap (λ (x : ℕ). InTree x b) e ∙ ap (InTree c) f

tree_step : (c u k m : ℕ) (ls : List CertLine) (o : Bool) → ((c u : ℕ) → Runs (InTree c u) ls (InTree (c + k) (u + m))) →
    Runs (after_tree (InTree c u) o) ls (InTree (c + cond o k (k + 1)) (u + cond o (m + 1) m))
tree_step c u k m ls true later = subst (Runs (InTree c (u + 1)) ls) (proving (c + k) (u + 1 + m) (c + k) (u + (m + 1)) refl (omega arith)) (later c (u + 1))
tree_step c u k m ls false later = subst (Runs (InTree (c + 1) u) ls) (proving (c + 1 + k) (u + m) (c + (k + 1)) (u + m) (omega arith) refl) (later (c + 1) u)

tree_runs : (ls : List TreeLine) (c u : ℕ) → list_all is_tree_line ls ≡ true →
    Runs (InTree c u) (map SaysTree ls) (InTree (c + checked_count ls) (u + open_count ls))
tree_runs [] c u h = proving c u (c + 0) (u + 0) (omega arith) (omega arith)
tree_runs (l ∷ ls) c u h =
    let each = and_parts (is_tree_line l) (list_all is_tree_line ls) h in
    (each.0, tree_step c u (checked_count ls) (open_count ls) (map SaysTree ls) (is_open l) (λ d v. tree_runs ls d v each.1))

counts_all : (ls : List TreeLine) → checked_count ls + open_count ls ≡ length ls
counts_all [] = refl
counts_all (l ∷ ls) = go (is_open l) (counts_all ls) where
  go : (o : Bool) → checked_count ls + open_count ls ≡ length ls →
      cond o (checked_count ls) (checked_count ls + 1) + cond o (open_count ls + 1) (open_count ls) ≡ suc (length ls)
  go true e = omega (arith, e)
  go false e = omega (arith, e)

nonzero : (n : ℕ) → 0 < n → not (n == 0) ≡ true
nonzero n h = ap not (no n h) where
  no : (n : ℕ) → 0 < n → n == 0 ≡ false
  no n h = grind (arith, nat_tests)

end_may : (c u : ℕ) → 0 < c + u → is_end c u c u ≡ true
end_may c u h = both_true (nonzero (c + u) h) (both_true (eq-eqb c c refl) (eq-eqb u u refl))

some_length : (ls : List TreeLine) → ls ≢ [] → 0 < length ls
some_length [] h = absurd (h refl)
some_length (l ∷ ls) h = omega arith

zero_plus : (n : ℕ) → 0 + n ≡ n
zero_plus n = omega arith

tree_ends : (ls : List TreeLine) → ls ≢ [] → list_all is_tree_line ls ≡ true → Runs (InTree 0 0) (map SaysTree ls ++ end_line ls ∷ []) AfterEnd
tree_ends ls some h =
    let counts = counts_all ls in
    let long = some_length ls some in
    let here : Runs (InTree 0 0) (map SaysTree ls) (InTree (checked_count ls) (open_count ls)) = subst (Runs (InTree 0 0) (map SaysTree ls))
    (proving (0 + checked_count ls) (0 + open_count ls) (checked_count ls) (open_count ls) (zero_plus (checked_count ls)) (zero_plus (open_count ls)))
    (tree_runs ls 0 0 h) in
    runs_append (InTree 0 0) (map SaysTree ls) (end_line ls ∷ []) (InTree (checked_count ls) (open_count ls)) AfterEnd here
    (end_may (checked_count ls) (open_count ls) (omega (arith, counts, long)), refl)

-- the lines of a certificate may follow one another
pub certificate_runs : (c : Cert) → IsCertificate c → Runs Start (cert_lines c) AfterEnd
certificate_runs c h =
    let series = subst (λ (n : ℕ). Runs (series_left n) (map SaysSeries c.series) (InTree 0 0)) h.listed (series_runs c.series h.series) in (
      h.aim,
      (
        h.claim,
        runs_append (series_left (series_count c.claim)) (map SaysSeries c.series) (map SaysTree c.tree ++ end_line c.tree ∷ [])
            (InTree 0 0) AfterEnd series (tree_ends c.tree h.some h.tree),
      ),
    )

-- tree lines and an end
record IsTreePart (c u : ℕ) (ls : List CertLine) : Type 0 where
  pub tree : List TreeLine
  pub each : list_all is_tree_line tree ≡ true
  pub lines : ls ≡ map SaysTree tree ++ (SaysEnd (c + checked_count tree) (u + open_count tree) ∷ [])
  pub some : 0 < c + u + length tree

saying_end : (a b c d : ℕ) (ls : List CertLine) → a ≡ c → b ≡ d → ls ≡ [] → SaysEnd a b ∷ ls ≡ SaysEnd c d ∷ []
saying_end a b c d ls e f g = ap (λ (x : ℕ). SaysEnd x b ∷ ls) e ∙ ap (λ (x : ℕ). SaysEnd c x ∷ ls) f ∙ ap (λ (x : List CertLine). SaysEnd c d ∷ x) g

no_more : (ls : List CertLine) → Runs AfterEnd ls AfterEnd → ls ≡ []
no_more [] h = refl
no_more (l ∷ ls) h = let wrong = h.0 in cc

end_part : (c u p o : ℕ) (ls : List CertLine) → is_end c u p o ≡ true → Runs AfterEnd ls AfterEnd → IsTreePart c u (SaysEnd p o ∷ ls)
end_part c u p o ls h k =
    let each = and_parts (not (c + u == 0)) (p == c && o == u) h in
    let rest = and_parts (p == c) (o == u) each.1 in
    let first = eqb-true p c rest.0 in
    let second = eqb-true o u rest.1 in
    record {
      tree = [];
      each = refl;
      lines = saying_end p o (c + 0) (u + 0) ls (omega (arith, first)) (omega (arith, second)) (no_more ls k);
      some = let long = positive (c + u) each.0 in omega (arith, long);
    }
  where
    positive : (n : ℕ) → not (n == 0) ≡ true → 0 < n
    positive n e = grind (arith, nat_tests)

onto_tree : (c u : ℕ) (l : TreeLine) (ls : List CertLine) (d v : ℕ) → is_tree_line l ≡ true → IsTreePart d v ls →
    ((t : List TreeLine) → d + checked_count t ≡ c + checked_count (l ∷ t)) → ((t : List TreeLine) → v + open_count t ≡ u + open_count (l ∷ t)) →
    IsTreePart c u (SaysTree l ∷ ls)
onto_tree c u l ls d v h k e f = record {
  tree = l ∷ k.tree;
  each = both_true h k.each;
  lines = ap (λ (x : List CertLine). SaysTree l ∷ x) (k.lines
      ∙ ap (λ (x : CertLine). map SaysTree k.tree ++ x ∷ [])
      (ap (λ (x : ℕ). SaysEnd x (v + open_count k.tree)) (e k.tree) ∙ ap (SaysEnd (c + checked_count (l ∷ k.tree))) (f k.tree)));
  some = omega arith;
}

tree_part_step : (c u : ℕ) (l : TreeLine) (ls : List CertLine) (o : Bool) → is_open l ≡ o → is_tree_line l ≡ true →
    ((d v : ℕ) → Runs (InTree d v) ls AfterEnd → IsTreePart d v ls) → Runs (after_tree (InTree c u) o) ls AfterEnd → IsTreePart c u (SaysTree l ∷ ls)
tree_part_step c u l ls true e h later k =
    onto_tree c u l ls c (u + 1) h (later c (u + 1) k)
    (λ t. ap (λ o. c + cond o (checked_count t) (checked_count t + 1)) (sym e))
    (λ t. open_more u (open_count t) ∙ ap (λ o. u + cond o (open_count t + 1) (open_count t)) (sym e))
  where
    open_more : (u m : ℕ) → u + 1 + m ≡ u + (m + 1)
    open_more u m = omega arith
tree_part_step c u l ls false e h later k =
    onto_tree c u l ls (c + 1) u h (later (c + 1) u k)
    (λ t. checked_more c (checked_count t) ∙ ap (λ o. c + cond o (checked_count t) (checked_count t + 1)) (sym e))
    (λ t. ap (λ o. u + cond o (open_count t + 1) (open_count t)) (sym e))
  where
    checked_more : (c m : ℕ) → c + 1 + m ≡ c + (m + 1)
    checked_more c m = omega arith

tree_part : (ls : List CertLine) (c u : ℕ) → Runs (InTree c u) ls AfterEnd → IsTreePart c u ls
tree_part [] c u h = cc
tree_part (SaysAim a ∷ ls) c u h = let wrong = h.0 in cc
tree_part (SaysClaim d ∷ ls) c u h = let wrong = h.0 in cc
tree_part (SaysSeries vs ∷ ls) c u h = let wrong = h.0 in cc
tree_part (SaysTree l ∷ ls) c u h = tree_part_step c u l ls (is_open l) refl h.0 (λ d v k. tree_part ls d v k) h.1
tree_part (SaysEnd p o ∷ ls) c u h = end_part c u p o ls h.0 h.1

-- series lines, and what follows
record IsSeriesPart (n : ℕ) (ls : List CertLine) : Type 0 where
  pub series : List (List ℤ)
  pub each : list_all is_series series ≡ true
  pub count : length series ≡ n
  pub rest : List CertLine
  pub lines : ls ≡ map SaysSeries series ++ rest
  pub runs : Runs (InTree 0 0) rest AfterEnd

none_owed : (n : ℕ) (ls : List CertLine) → n == 0 ≡ true → Runs (InTree 0 0) ls AfterEnd → IsSeriesPart n ls
none_owed n ls e h = record { series = []; each = refl; count = sym (eqb-true n 0 e); rest = ls; lines = refl; runs = h }

onto_series : (n : ℕ) (x : List ℤ) (ls : List CertLine) → n == 0 ≡ false → is_series x ≡ true → IsSeriesPart (n - 1) ls → IsSeriesPart n (SaysSeries x ∷ ls)
onto_series n x ls e h k = record {
  series = x ∷ k.series;
  each = both_true h k.each;
  count = let same = k.count in let some = nonzero_is n e in omega (arith, same, some);
  rest = k.rest;
  lines = ap (λ (y : List CertLine). SaysSeries x ∷ y) k.lines;
  runs = k.runs;
}
  where
    nonzero_is : (n : ℕ) → n == 0 ≡ false → 0 < n
    nonzero_is n e = grind (arith, nat_tests)

series_part_step : (n : ℕ) (l : CertLine) (ls : List CertLine) (t : Bool) → n == 0 ≡ t → (Runs (series_left (n - 1)) ls AfterEnd → IsSeriesPart (n - 1) ls) →
    Runs (cond t (InTree 0 0) (InSeries n)) (l ∷ ls) AfterEnd → IsSeriesPart n (l ∷ ls)
series_part_step n l ls true e later h = none_owed n (l ∷ ls) e h
series_part_step n (SaysAim a) ls false e later h = let wrong = h.0 in cc
series_part_step n (SaysClaim d) ls false e later h = let wrong = h.0 in cc
series_part_step n (SaysSeries x) ls false e later h = onto_series n x ls e h.0 (later h.1)
series_part_step n (SaysTree l) ls false e later h = let wrong = h.0 in cc
series_part_step n (SaysEnd p o) ls false e later h = let wrong = h.0 in cc

no_end : (n : ℕ) (t : Bool) → cond t (InTree 0 0) (InSeries n) ≡ AfterEnd → ⊥
no_end n true h = cc
no_end n false h = cc

series_part : (ls : List CertLine) (n : ℕ) → Runs (series_left n) ls AfterEnd → IsSeriesPart n ls
series_part [] n h = absurd (no_end n (n == 0) h)
series_part (l ∷ ls) n h = series_part_step n l ls (n == 0) refl (λ k. series_part ls (n - 1) k) h

not_empty : (ls : List TreeLine) → 0 < 0 + 0 + length ls → ls ≢ []
not_empty [] h e = absurd (omega arith)
not_empty (l ∷ ls) h e = cc

abbrev IsOf : List CertLine → Type 0
IsOf ls = (c : Cert) × IsCertificate c × (ls ≡ cert_lines c)

claim_part : (a : Aim) (d : Claim) (ls : List CertLine) → is_aim a ≡ true → is_claim a d ≡ true → IsSeriesPart (series_count d) ls →
    IsOf (SaysAim a ∷ SaysClaim d ∷ ls)
claim_part a d ls h k s =
    let t = tree_part s.rest 0 0 s.runs in
    let c : Cert = record { aim = a; claim = d; series = s.series; tree = t.tree } in (
      c,
      record { aim = h; claim = k; listed = s.count; series = s.each; tree = t.each; some = not_empty t.tree t.some },
      ap (λ (x : List CertLine). SaysAim a ∷ SaysClaim d ∷ x)
          (s.lines ∙ ap (λ (x : List CertLine). map SaysSeries s.series ++ x)
          (t.lines ∙ ap (λ (x : CertLine). map SaysTree t.tree ++ x ∷ [])
          (ap (λ (x : ℕ). SaysEnd x (0 + open_count t.tree)) (zero_plus (checked_count t.tree))
          ∙ ap (SaysEnd (checked_count t.tree)) (zero_plus (open_count t.tree))))),
    )

aim_part : (a : Aim) (ls : List CertLine) → is_aim a ≡ true → Runs (AfterAim a) ls AfterEnd → IsOf (SaysAim a ∷ ls)
aim_part a [] h k = cc
aim_part a (SaysAim b ∷ ls) h k = let wrong = k.0 in cc
aim_part a (SaysClaim d ∷ ls) h k = claim_part a d ls h k.0 (series_part ls (series_count d) k.1)
aim_part a (SaysSeries vs ∷ ls) h k = let wrong = k.0 in cc
aim_part a (SaysTree l ∷ ls) h k = let wrong = k.0 in cc
aim_part a (SaysEnd p o ∷ ls) h k = let wrong = k.0 in cc

-- lines that may follow one another up to the end are those of a certificate
pub runs_certificate : (ls : List CertLine) → Runs Start ls AfterEnd → (c : Cert) × IsCertificate c × (ls ≡ cert_lines c)
runs_certificate [] h = cc
runs_certificate (SaysAim a ∷ ls) h = aim_part a ls h.0 h.1
runs_certificate (SaysClaim d ∷ ls) h = let wrong = h.0 in cc
runs_certificate (SaysSeries vs ∷ ls) h = let wrong = h.0 in cc
runs_certificate (SaysTree l ∷ ls) h = let wrong = h.0 in cc
runs_certificate (SaysEnd p o ∷ ls) h = let wrong = h.0 in cc

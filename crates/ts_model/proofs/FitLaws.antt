-- What every stated model keeps of the limits, line by line.
use Rattle.std.proofs.Common.{◌≡◌, ℕ, zero, suc, ◌+◌, ◌<◌, ◌≤◌, Bool, true, false, cond, not, ◌&&◌, Some, None, Ok, Err, List, [], ◌∷◌, ◌++◌, length, map}
use Rattle.std.proofs.Common.{replicate, set, ◌-◌, ℤ, pos, negsuc, refl, subst, arith, nat_le, nat_lt, length-append, rules}
use Rattle.std.specs.Prelude.{Option, Result, IfSome, IsSome, is_none, unwrap_or}
use Rattle.std.specs.List.{AllByRecursion, list_any}
use Rattle.std.specs.Str.{bytes_eq}
use Rattle.std.proofs.lemmas.Int.{ints}
use Rattle.std.proofs.lemmas.Bool.Decides.{nat_tests}
use Rattle.std.proofs.lemmas.Bool.{leb-false}
use Rattle.std.proofs.lemmas.List.{length-map, length-set}
use Rattle.std.proofs.lemmas.List.Quantifiers.{position-Some}
use Rattle.ts_domain.specs.BoxSeries.{IsBox}
use Rattle.ts_domain.specs.Values.{IsDomain}
use Rattle.ts_token.specs.Text.{Row, Cut}
use Rattle.ts_model.specs.declared.model.Need.{Need}
use Rattle.ts_model.specs.declared.model.Require.{Require}
use Rattle.ts_base.specs.Windows.{LooksInside}
use Rattle.ts_base.proofs.WindowLaws.{inside_longer}
use Rattle.ts_model.specs.declared.error.ModelKind.{ModelKind}
use Rattle.ts_model.specs.declared.error.ModelKind.TheVariants.{NoCells, NoObjective}
use Rattle.ts_model.specs.Statement.{Meaning, SaysCells, SaysDomain, SaysCell, SaysTerm, SaysRequire, SaysObjective, meaning_in}
use Rattle.ts_model.specs.ModelParts.{ModelParts, StatedTerm, nothing, stated_term, term_said, with_meaning, count_of, is_between, is_outside, is_bound, has_cells, over_total, term_at, total_of, union_of, digits, unused_parts, first_kind, kinds, unless_kind}
use Rattle.ts_model.specs.ModelReading.{needs_lists, needs_objective, texts_of, taken_as, onward, read_rows, then_on, unless_bad, ended_model, reading}
use Rattle.ts_model.specs.Promise.{IsWhole, KeepsLimits}
use Rattle.ts_model.proofs.TermWindows.{tail_inside}
use Rattle.ts_model.proofs.SaidRanges.{HasRanges, said_ranges}
use Rattle.ts_model.proofs.UnionLaws.{union_is_domain, digits_are_domain}

record IsFit (lists : Bool) (m : ModelParts) : Type 0 where
  box : IsBox m.cells
  few : length m.cells ≤ 512
  total : lists ≡ true → total_of m.cells ≤ 65536
  terms : length m.terms ≤ 32
  windows : AllByRecursion (λ t. LooksInside (length m.cells) t.1.window) m.terms
  requirements : length m.requirements ≤ 64
  each : AllByRecursion (λ r. r.term < length m.terms) m.requirements
  bounds : AllByRecursion (λ r. is_bound r.bound ≡ true) m.requirements
  objective : IfSome m.objective (λ t. t < length m.terms)

abbrev Fails : Bool × ModelKind → Type 0
Fails k = k.0 ≡ false

fails_step : (k : Bool × ModelKind) (ks : List (Bool × ModelKind)) (b : Bool) → k.0 ≡ b → (first_kind ks ≡ None → AllByRecursion Fails ks) →
    cond b (Some k.1) (first_kind ks) ≡ None → Fails k × AllByRecursion Fails ks
fails_step k ks true e later h = cc
fails_step k ks false e later h = (e, later h)

-- where no kind is the first, each test fails
all_fail : (ks : List (Bool × ModelKind)) → first_kind ks ≡ None → AllByRecursion Fails ks
all_fail [] h = tt
all_fail (k ∷ ks) h = fails_step k ks k.0 refl (all_fail ks) h

under : (lists : Bool) (n : ℕ) → (lists && nat_lt 65536 n) ≡ false → lists ≡ true → n ≤ 65536
under true n h e = grind (arith, nat_tests)
under false n h e = cc

second : (a b : Bool) → cond a true b ≡ false → b ≡ false
second true b h = cc
second false b h = h

counted : (n : ℤ) → not (is_between (pos 1) n (pos 512)) ≡ false → count_of n ≤ 512
counted (pos k) h = grind (arith, ints, nat_tests)
counted (negsuc k) h = omega arith

length_replicate : (n : ℕ) (x : List ℤ) → length (replicate n x) ≡ n
length_replicate zero x = refl
length_replicate (suc n) x = omega (arith, length_replicate n x)

lifted : (n k : ℕ) → n ≤ k → (rs : List Require) → AllByRecursion (λ r. r.term < n) rs → AllByRecursion (λ r. r.term < k) rs
lifted n k h [] all = tt
lifted n k h (r ∷ rs) all = (omega (arith, all.0, h), lifted n k h rs all.1)

lifted_objective : (n k : ℕ) → n ≤ k → (o : Option ℕ) → IfSome o (λ t. t < n) → IfSome o (λ t. t < k)
lifted_objective n k h None all = tt
lifted_objective n k h (Some t) all = omega (arith, all, h)

pushed : (P : Require → Type 0) (rs : List Require) (r : Require) → AllByRecursion P rs → P r → AllByRecursion P (rs ++ r ∷ [])
pushed P [] r all p = (p, tt)
pushed P (x ∷ xs) r all p = (all.0, pushed P xs r all.1 p)

-- windows in the cells lie in as many cells, or more
wider : (n more : ℕ) → n ≤ more → (terms : List (List ℕ × StatedTerm)) → AllByRecursion (λ t. LooksInside n t.1.window) terms →
    AllByRecursion (λ t. LooksInside more t.1.window) terms
wider n more h [] all = tt
wider n more h (t ∷ ts) all = (inside_longer n more t.1.window h all.0, wider n more h ts all.1)

windowed : (n : ℕ) (terms : List (List ℕ × StatedTerm)) (t : List ℕ × StatedTerm) → AllByRecursion (λ t. LooksInside n t.1.window) terms →
    LooksInside n t.1.window → AllByRecursion (λ t. LooksInside n t.1.window) (terms ++ t ∷ [])
windowed n [] t all p = (p, tt)
windowed n (x ∷ xs) t all p = (all.0, windowed n xs t all.1 p)

-- before the `cells` line there is no cell
no_cell : (m : ModelParts) → has_cells m ≡ false → length m.cells ≡ 0
no_cell m h = grind (arith, nat_tests)

term_there : (name : List ℕ) (terms : List (List ℕ × StatedTerm)) (o : Option ℕ) → term_at name terms ≡ o → IfSome o (λ t. t < length terms)
term_there name terms None e = tt
term_there name terms (Some t) e = (position-Some (λ (x : List ℕ × StatedTerm). bytes_eq name x.0) terms t (name, stated_term unused_parts None) e).0

known_there : (n : ℕ) (o : Option ℕ) → is_none o ≡ false → IfSome o (λ t. t < n) → unwrap_or o 0 < n
known_there n None h all = cc
known_there n (Some t) h all = all

bound_test : (a b : Bool) → cond a b true ≡ false → (a ≡ true) × (b ≡ false)
bound_test true b h = (refl, h)
bound_test false b h = cc

outside_test : (a b : Bool) → cond a true b ≡ false → a ≡ false
outside_test true b h = cc
outside_test false b h = refl

box_replicate : (n : ℕ) (d : List ℤ) → IsDomain d → IsBox (replicate n d)
box_replicate zero d h = tt
box_replicate (suc n) d h = (h, box_replicate n d h)

box_map : (cells : List (List ℤ)) (d : List ℤ) → IsDomain d → IsBox (map (λ _. d) cells)
box_map [] d h = tt
box_map (c ∷ cs) d h = (h, box_map cs d h)

box_set : (cells : List (List ℤ)) (i : ℕ) (d : List ℤ) → IsBox cells → IsDomain d → IsBox (set cells i d)
box_set [] i d box h = tt
box_set (c ∷ cs) zero d box h = (h, box.1)
box_set (c ∷ cs) (suc i) d box h = (box.0, box_set cs i d box.1 h)

-- a line of which no kind holds keeps the limits
fit_after : (lists : Bool) (m : ModelParts) (s : Meaning) → HasRanges s → IsFit lists m → first_kind (kinds lists m s) ≡ None → IsFit lists (with_meaning m s)
fit_after lists m (SaysCells n) has fit none =
    let all = all_fail (kinds lists m (SaysCells n)) none in record {
      box = box_replicate (count_of n) (union_of digits) digits_are_domain;
      few = let e = length_replicate (count_of n) (union_of digits) in omega (arith, e, counted n all.1.1.0);
      total = under lists (total_of (replicate (count_of n) (union_of digits))) all.1.1.1.1.1.1.1.1.1.0;
      terms = fit.terms;
      windows =
          let none_yet = no_cell m all.1.0 in
          wider (length m.cells) (length (replicate (count_of n) (union_of digits))) (omega (arith, none_yet)) m.terms fit.windows;
      requirements = fit.requirements;
      each = fit.each;
      bounds = fit.bounds;
      objective = fit.objective;
    }
fit_after lists m (SaysDomain rs) has fit none =
    let all = all_fail (kinds lists m (SaysDomain rs)) none in record {
      box = box_map m.cells (union_of rs) (union_is_domain rs has all.1.1.1.0
          (outside_test (list_any is_outside rs) (over_total lists (with_meaning m (SaysDomain rs))) all.1.1.1.1.1.1.1.1.1.0));
      few = let e : length (map (λ _. union_of rs) m.cells) ≡ length m.cells = simp length-map in omega (arith, e, fit.few);
      total = under lists (total_of (map (λ _. union_of rs) m.cells))
          (second (list_any is_outside rs) (over_total lists (with_meaning m (SaysDomain rs))) all.1.1.1.1.1.1.1.1.1.0);
      terms = fit.terms;
      windows =
          let e : length (map (λ _. union_of rs) m.cells) ≡ length m.cells = simp length-map in
          wider (length m.cells) (length (map (λ _. union_of rs) m.cells)) (omega (arith, e)) m.terms fit.windows;
      requirements = fit.requirements;
      each = fit.each;
      bounds = fit.bounds;
      objective = fit.objective;
    }
fit_after lists m (SaysCell k rs) has fit none =
    let all = all_fail (kinds lists m (SaysCell k rs)) none in record {
      box = box_set m.cells (count_of k - 1) (union_of rs) fit.box (union_is_domain rs has all.1.1.1.0
          (outside_test (list_any is_outside rs) (over_total lists (with_meaning m (SaysCell k rs))) all.1.1.1.1.1.1.1.1.1.0));
      few = let e : length (with_meaning m (SaysCell k rs)).cells ≡ length m.cells = simp length-set in omega (arith, e, fit.few);
      total = under lists (total_of (with_meaning m (SaysCell k rs)).cells)
          (second (list_any is_outside rs) (over_total lists (with_meaning m (SaysCell k rs))) all.1.1.1.1.1.1.1.1.1.0);
      terms = fit.terms;
      windows =
          let e : length (with_meaning m (SaysCell k rs)).cells ≡ length m.cells = simp length-set in
          wider (length m.cells) (length (with_meaning m (SaysCell k rs)).cells) (omega (arith, e)) m.terms fit.windows;
      requirements = fit.requirements;
      each = fit.each;
      bounds = fit.bounds;
      objective = fit.objective;
    }
fit_after lists m (SaysTerm name tail parts) has fit none =
    let all = all_fail (kinds lists m (SaysTerm name tail parts)) none in
    let more : length (with_meaning m (SaysTerm name tail parts)).terms ≡ length m.terms + 1 = simp length-append in record {
      box = fit.box;
      few = fit.few;
      total = fit.total;
      terms = omega (arith, more, leb-false 32 (length m.terms) all.1.1.1.1.1.1.1.1.1.0);
      windows = windowed (length m.cells) m.terms (name, term_said tail parts) fit.windows (tail_inside (length m.cells) tail all.1.1.0 all.1.1.1.0);
      requirements = fit.requirements;
      each = lifted (length m.terms) (length (with_meaning m (SaysTerm name tail parts)).terms) (omega (arith, more)) m.requirements fit.each;
      bounds = fit.bounds;
      objective = lifted_objective (length m.terms) (length (with_meaning m (SaysTerm name tail parts)).terms) (omega (arith, more)) m.objective fit.objective;
    }
fit_after lists m (SaysRequire name op bound) has fit none =
    let all = all_fail (kinds lists m (SaysRequire name op bound)) none in
    let tests = bound_test (is_bound bound) (nat_le 64 (length m.requirements)) all.1.1.1.1.1.1.1.1.1.0 in
    let more : length (with_meaning m (SaysRequire name op bound)).requirements ≡ length m.requirements + 1 = simp length-append in record {
      box = fit.box;
      few = fit.few;
      total = fit.total;
      terms = fit.terms;
      windows = fit.windows;
      requirements = omega (arith, more, leb-false 64 (length m.requirements) tests.1);
      each = pushed (λ r. r.term < length m.terms) m.requirements _ fit.each
          (known_there (length m.terms) (term_at name m.terms) all.1.1.1.1.1.1.0 (term_there name m.terms (term_at name m.terms) refl));
      bounds = pushed (λ r. is_bound r.bound ≡ true) m.requirements _ fit.bounds tests.0;
      objective = fit.objective;
    }
fit_after lists m (SaysObjective name) has fit none = record {
  box = fit.box;
  few = fit.few;
  total = fit.total;
  terms = fit.terms;
  windows = fit.windows;
  requirements = fit.requirements;
  each = fit.each;
  bounds = fit.bounds;
  objective = term_there name m.terms (term_at name m.terms) refl;
}

fit_taken : (lists : Bool) (m after : ModelParts) (number : ℕ) (rows : List Row) (s : Meaning) (k : Option ModelKind) → first_kind (kinds lists m s) ≡ k →
    HasRanges s → IsFit lists m → ((next : ModelParts) → IsFit lists next → read_rows lists next rows ≡ Ok after → IsFit lists after) →
    onward number (unless_kind k (with_meaning m s)) (λ a. read_rows lists a rows) ≡ Ok after → IsFit lists after
fit_taken lists m after number rows s None e has fit later h = later (with_meaning m s) (fit_after lists m s has fit e) h
fit_taken lists m after number rows s (Some k) e has fit later h = cc

fit_said : (lists : Bool) (m after : ModelParts) (number : ℕ) (rows : List Row) (p : Result Meaning ModelKind) → ((s : Meaning) → p ≡ Ok s → HasRanges s) →
    IsFit lists m → ((next : ModelParts) → IsFit lists next → read_rows lists next rows ≡ Ok after → IsFit lists after) →
    onward number (taken_as lists m p) (λ a. read_rows lists a rows) ≡ Ok after → IsFit lists after
fit_said lists m after number rows (Err k) has fit later h = cc
fit_said lists m after number rows (Ok s) has fit later h =
    fit_taken lists m after number rows s (first_kind (kinds lists m s)) refl (has s refl) fit later h

fit_rows : (lists : Bool) (m after : ModelParts) (rows : List Row) → IsFit lists m → read_rows lists m rows ≡ Ok after → IsFit lists after
fit_rows lists m after [] fit h = let same : m ≡ after = cc in subst (IsFit lists) same fit
fit_rows lists m after (row ∷ rows) fit h =
    fit_said lists m after row.number rows (meaning_in (texts_of row.words)) (said_ranges (texts_of row.words)) fit
    (λ next fit' h'. fit_rows lists next after rows fit' h') h

record IsEnded (need : Need) (c : Cut) (m : ModelParts) : Type 0 where
  rows : read_rows (needs_lists need) nothing c.rows ≡ Ok m
  some : has_cells m ≡ true
  objective : (needs_objective need && is_none m.objective) ≡ false

ended_ok : (need : Need) (c : Cut) (n m : ModelParts) (some aim : Bool) → read_rows (needs_lists need) nothing c.rows ≡ Ok n → has_cells n ≡ some →
    (needs_objective need && is_none n.objective) ≡ aim →
    ◌≡◌ {A = Result ModelParts (ℕ × ModelKind)} (cond (not some) (Err (c.count + 1, NoCells)) (cond aim (Err (c.count + 1, NoObjective)) (Ok n)))
    (Ok m) → IsEnded need c m
ended_ok need c n m false aim rows has obj h = cc
ended_ok need c n m true true rows has obj h = cc
ended_ok need c n m true false rows has obj h = let same : n ≡ m = cc in subst (IsEnded need c) same (record { rows = rows; some = has; objective = obj })

text_ok : (need : Need) (c : Cut) (n m : ModelParts) (bad : Option ℕ) → read_rows (needs_lists need) nothing c.rows ≡ Ok n →
    then_on (unless_bad bad n) (ended_model need c.count) ≡ Ok m → IsEnded need c m
text_ok need c n m (Some line) rows h = cc
text_ok need c n m None rows h = ended_ok need c n m (has_cells n) (needs_objective need && is_none n.objective) rows refl refl h

rows_ok : (need : Need) (c : Cut) (m : ModelParts) (r : Result ModelParts (ℕ × ModelKind)) → read_rows (needs_lists need) nothing c.rows ≡ r →
    then_on (then_on r (unless_bad c.not_text)) (ended_model need c.count) ≡ Ok m → IsEnded need c m
rows_ok need c m (Err e) rows h = cc
rows_ok need c m (Ok n) rows h = text_ok need c n m c.not_text rows h

nothing_fits : (lists : Bool) → IsFit lists nothing
nothing_fits lists =
    record {
      box = tt;
      few = omega arith;
      total = λ _. omega arith;
      terms = omega arith;
      windows = tt;
      requirements = omega arith;
      each = tt;
      bounds = tt;
      objective = tt;
    }

ended_is : (need : Need) (c : Cut) (m : ModelParts) → reading need c ≡ Ok m → IsEnded need c m
ended_is need c m h = rows_ok need c m (read_rows (needs_lists need) nothing c.rows) refl h

fits : (need : Need) (c : Cut) (m : ModelParts) → reading need c ≡ Ok m → IsFit (needs_lists need) m
fits need c m h = fit_rows (needs_lists need) nothing m c.rows (nothing_fits (needs_lists need)) (ended_is need c m h).rows

some_cells : (m : ModelParts) → has_cells m ≡ true → 1 ≤ length m.cells
some_cells m h = grind (arith, nat_tests)

asked : (need : Bool) (o : Option ℕ) → (need && is_none o) ≡ false → need ≡ true → IsSome o
asked true None h e = cc
asked true (Some t) h e = search rules
asked false o h e = cc

-- what a text states is whole
pub whole_stated : (need : Need) (c : Cut) (m : ModelParts) → reading need c ≡ Ok m → IsWhole m
whole_stated need c m read =
    let fit = fits need c m read in record {
      some = some_cells m (ended_is need c m read).some;
      few = fit.few;
      windows = fit.windows;
      requirements = fit.each;
      objective = fit.objective;
    }

-- and it keeps the limits
pub limits_stated : (need : Need) (c : Cut) (m : ModelParts) → reading need c ≡ Ok m → KeepsLimits need m
limits_stated need c m read =
    let fit = fits need c m read in record {
      box = fit.box;
      total = fit.total;
      terms = fit.terms;
      requirements = fit.requirements;
      bounds = fit.bounds;
      objective = asked (needs_objective need) m.objective (ended_is need c m read).objective;
    }

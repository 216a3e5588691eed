-- The domains of the cells, line by line.
use Rattle.std.proofs.Common.{◌≡◌, ℕ, zero, suc, ◌+◌, ◌*◌, ◌<◌, ◌≤◌, Bool, true, false, cond, ◌&&◌, Some, None, Ok, Err, List, [], ◌∷◌, length, map, set, get_or, replicate, ℤ, refl, sym, ap, subst, ◌∙◌, arith, nat_lt}
use Rattle.std.specs.Prelude.{Option}
use Rattle.std.specs.List.{AllByRecursion}
use Rattle.std.proofs.lemmas.Bool.Decides.{nat_tests}
use Rattle.std.proofs.lemmas.List.{map-set, length-map, length-set}
use Rattle.std.proofs.lemmas.List.Sums.{sum_by-set, sum_by-cons}
use Rattle.std.proofs.lemmas.List.Folds.{sum_by-replicate}
use Rattle.std.proofs.lemmas.Simd.{splat_is_map}
use Rattle.ts_model.specs.declared.cells.Own.{Own}
use Rattle.ts_model.specs.declared.cells.Cells.{Cells}
use Rattle.ts_model.specs.declared.error.ModelKind.TheVariants.{Limit}
use Rattle.ts_model.specs.ModelParts.{total_of, union_of, digits}
use Rattle.ts_model.specs.Cells.{in_force, domains, within_total, total_set, IsTotal, IsOlder, IsKept}
use Rattle.ts_model.proofs.UnionLaws.{ten_digits}

-- cells without an own domain
pub none_own : (turn n : ℕ) (common : List ℤ) → map (in_force turn common) (replicate n None) ≡ replicate n common
none_own turn zero common = refl
none_own turn (suc n) common = ap (λ (l : List (List ℤ)). common ∷ l) (none_own turn n common)

none_older : (turn n : ℕ) → AllByRecursion (IsOlder turn) (replicate n None)
none_older turn zero = tt
none_older turn (suc n) = (tt, none_older turn n)

digits_total : (n : ℕ) → total_of (replicate n (union_of digits)) ≡ n * 10
digits_total n = sum_by-replicate length n (union_of digits) ∙ ap (λ (k : ℕ). n * k) ten_digits

pub new_kept : (n : ℕ) (own : List (Option Own)) (common : List ℤ) (c : Cells) → n ≤ 512 → own ≡ replicate n None → common ≡ union_of digits →
    c.own.items ≡ own → c.common ≡ common → c.common_turn ≡ 0 → c.total ≡ n * 10 → IsKept c
new_kept n own common c few own_is common_is a b l t = record {
  total = is_total c.limited;
  own = subst (AllByRecursion (IsOlder c.turn)) (sym (a ∙ own_is)) (none_older c.turn n);
  common = omega (arith, l);
  few = let e = ap length (a ∙ own_is) in let f = length_replicate n in omega (arith, e, f, few);
}
  where
    length_replicate : (n : ℕ) → length (replicate {A = Option Own} n None) ≡ n
    length_replicate zero = refl
    length_replicate (suc n) = omega (arith, length_replicate n)

    are : domains c ≡ replicate n (union_of digits)
    are =
        ap (λ (xs : List (Option Own)). map (in_force c.common_turn c.common) xs) (a ∙ own_is)
        ∙ none_own c.common_turn n c.common
        ∙ ap (replicate n) (b ∙ common_is)

    is_total : (limited : Bool) → IsTotal limited c.total (total_of (domains c))
    is_total false = tt
    is_total true = let e = ap total_of are ∙ digits_total n in (t ∙ sym e, omega (arith, t, few))

-- no own domain is as new as the next one
older_on : (turn : ℕ) (own : List (Option Own)) → AllByRecursion (IsOlder turn) own → AllByRecursion (IsOlder (turn + 1)) own
older_on turn [] h = tt
older_on turn (None ∷ os) h = (tt, older_on turn os h.1)
older_on turn (Some o ∷ os) h = (omega (arith, h.0), older_on turn os h.1)

-- a newer common domain is in force everywhere
all_common : (turn old : ℕ) (d common : List ℤ) (own : List (Option Own)) → AllByRecursion (IsOlder turn) own →
    map (in_force (turn + 1) d) own ≡ map (λ _. d) (map (in_force old common) own)
all_common turn old d common [] h = refl
all_common turn old d common (None ∷ os) h = ap (λ (l : List (List ℤ)). d ∷ l) (all_common turn old d common os h.1)
all_common turn old d common (Some o ∷ os) h =
    let older : nat_lt (turn + 1) o.turn ≡ false = not_newer turn o.turn h.0 in
    ap (λ (b : Bool). cond b o.domain d ∷ map (in_force (turn + 1) d) os) older ∙ ap (λ (l : List (List ℤ)). d ∷ l) (all_common turn old d common os h.1)
  where
    not_newer : (m n : ℕ) → n ≤ m → nat_lt (m + 1) n ≡ false
    not_newer m n h = grind (arith, nat_tests)

total_common : (d : List ℤ) (cells : List (List ℤ)) (n : ℕ) → n ≡ length cells → total_of (map (λ _. d) cells) ≡ n * length d
total_common d cells n count = ap total_of (sym (splat_is_map cells n d (sym count))) ∙ sum_by-replicate length n d

-- every cell has one domain
pub over_all : (lists : Bool) (c : Cells) (d : List ℤ) (n size : ℕ) → n ≡ length c.own.items → size ≡ length d → (lists && nat_lt 65536 (n * size)) ≡ true →
    within_total lists (map (λ _. d) (domains c)) ≡ Err Limit
over_all lists c d n size count size_is over =
    let count' : n ≡ length (domains c) = count ∙ simp length-map in
    ap (λ (b : Bool). cond b (Err Limit) (Ok (map (λ _. d) (domains c))))
    (ap (λ (k : ℕ). lists && nat_lt 65536 k) (total_common d (domains c) n count' ∙ ap (λ (k : ℕ). n * k) (sym size_is)) ∙ over)

pub set_all : (limited : Bool) (c : Cells) (d : List ℤ) (n size : ℕ) → IsKept c → n ≡ length c.own.items → size ≡ length d →
    (limited && nat_lt 65536 (n * size)) ≡ false →
    within_total limited (map (λ _. d) (domains c)) ≡ Ok (map (in_force (c.turn + 1) d) c.own.items)
set_all limited c d n size kept count size_is room =
    let count' : n ≡ length (domains c) = count ∙ simp length-map in
    ap (λ (b : Bool). cond b (Err Limit) (Ok (map (λ _. d) (domains c))))
    (ap (λ (k : ℕ). limited && nat_lt 65536 k) (total_common d (domains c) n count' ∙ ap (λ (k : ℕ). n * k) (sym size_is)) ∙ room)
    ∙ ap (λ (x : List (List ℤ)). Ok x) (sym (all_common c.turn c.common_turn d c.common c.own.items kept.own))

pub kept_all : (c new : Cells) (d : List ℤ) (n size total : ℕ) → IsKept c → n ≡ length c.own.items → size ≡ length d → IsTotal c.limited total (n * size) →
    new.own ≡ c.own → new.common ≡ d → new.common_turn ≡ c.turn + 1 → new.turn ≡ c.turn + 1 → new.limited ≡ c.limited → new.total ≡ total → IsKept new
kept_all c new d n size total kept count size_is is own common at now limit total_is = record {
  total =
      subst (IsTotal new.limited new.total) (sym all_total)
      (subst (λ (b : Bool). IsTotal b new.total (n * size)) (sym limit) (subst (λ (k : ℕ). IsTotal c.limited k (n * size)) (sym total_is) is));
  own = subst (λ (t : ℕ). AllByRecursion (IsOlder t) new.own.items) (sym now) (older_on c.turn new.own.items older);
  common = omega (arith, at, now);
  few = let e = ap (λ o. length o.items) own in omega (arith, e, kept.few);
}
  where
    older : AllByRecursion (IsOlder c.turn) new.own.items
    older = subst (λ (o : List (Option Own)). AllByRecursion (IsOlder c.turn) o) (sym (ap (λ o. o.items) own)) kept.own

    all_total : total_of (domains new) ≡ n * size
    all_total =
        let same : domains new ≡ map (λ _. d) (map (in_force 0 []) new.own.items) =
        ap (λ (l : ℕ). map (in_force l new.common) new.own.items) at ∙ ap (λ (e : List ℤ). map (in_force (c.turn + 1) e) new.own.items) common
        ∙ all_common c.turn 0 d [] new.own.items older in
        let count' : n ≡ length (map (in_force 0 []) new.own.items) = count ∙ ap (λ o. length o.items) (sym own) ∙ simp length-map in
        ap total_of same ∙ total_common d (map (in_force 0 []) new.own.items) n count' ∙ ap (λ (k : ℕ). n * k) (sym size_is)

-- one domain has no more values than all
old_within : (cells : List (List ℤ)) (i : ℕ) → length (get_or cells i []) ≤ total_of cells
old_within [] i = omega arith
old_within (c ∷ cs) zero =
    let all : total_of (c ∷ cs) ≡ length c + total_of cs =
    sum_by-cons length c cs in let first : length (get_or (c ∷ cs) zero []) ≡ length c = refl in omega arith
old_within (c ∷ cs) (suc i) =
    let all : total_of (c ∷ cs) ≡ length c + total_of cs =
    sum_by-cons length c cs in let same : length (get_or (c ∷ cs) (suc i) []) ≡ length (get_or cs i []) = refl in omega (arith, old_within cs i)

pub place_within : (place : ℕ) (c : Cells) → IsKept c → c.limited ≡ true → length (get_or (domains c) place []) ≤ c.total
place_within place c kept limit =
    let t = (subst (λ (b : Bool). IsTotal b c.total (total_of (domains c))) limit kept.total).0 in
    omega (arith, t, old_within (domains c) place)

total_at : (cells : List (List ℤ)) (i : ℕ) (d : List ℤ) → i < length cells → total_set cells i (length d) ≡ total_of (set cells i d)
total_at cells i d h = omega (arith, sum_by-set length cells i d [] h, old_within cells i)

all_set : (P : Option Own → Type 0) (xs : List (Option Own)) (i : ℕ) (x : Option Own) → P x → AllByRecursion P xs → AllByRecursion P (set xs i x)
all_set P [] i x p all = tt
all_set P (y ∷ ys) zero x p all = (p, all.1)
all_set P (y ∷ ys) (suc i) x p all = (all.0, all_set P ys i x p all.1)

-- the newest own domain is in force
one_set : (place : ℕ) (c : Cells) (d : List ℤ) → IsKept c →
    map (in_force c.common_turn c.common) (set c.own.items place (Some (record { turn = c.turn + 1; domain = d }))) ≡ set (domains c) place d
one_set place c d kept =
    let newer : nat_lt c.common_turn (c.turn + 1) ≡ true = is_newer c.common_turn c.turn kept.common in
    map-set (in_force c.common_turn c.common) c.own.items place (Some (record { turn = c.turn + 1; domain = d }))
    ∙ ap (λ (b : Bool). set (domains c) place (cond b d c.common)) newer
  where
    is_newer : (m n : ℕ) → m ≤ n → nat_lt m (n + 1) ≡ true
    is_newer m n h = grind (arith, nat_tests)

pub over_one : (lists : Bool) (cells : List (List ℤ)) (place : ℕ) (d : List ℤ) (size : ℕ) → place < length cells → size ≡ length d →
    (lists && nat_lt 65536 (total_set cells place size)) ≡ true → within_total lists (set cells place d) ≡ Err Limit
over_one lists cells place d size there size_is over =
    ap (λ (b : Bool). cond b (Err Limit) (Ok (set cells place d)))
    (ap (λ (k : ℕ). lists && nat_lt 65536 k) (sym (ap (total_set cells place) size_is ∙ total_at cells place d there)) ∙ over)

pub set_one : (limited : Bool) (place : ℕ) (c : Cells) (d : List ℤ) (size : ℕ) → IsKept c → place < length (domains c) → size ≡ length d →
    (limited && nat_lt 65536 (total_set (domains c) place size)) ≡ false →
    within_total limited (set (domains c) place d) ≡ Ok
    (map (in_force c.common_turn c.common) (set c.own.items place (Some (record { turn = c.turn + 1; domain = d }))))
set_one limited place c d size kept there size_is room =
    ap (λ (b : Bool). cond b (Err Limit) (Ok (set (domains c) place d)))
    (ap (λ (k : ℕ). limited && nat_lt 65536 k) (sym (ap (total_set (domains c) place) size_is ∙ total_at (domains c) place d there)) ∙ room)
    ∙ ap (λ (x : List (List ℤ)). Ok x) (sym (one_set place c d kept))

pub kept_one : (place : ℕ) (c new : Cells) (d : List ℤ) (size total : ℕ) → IsKept c → place < length (domains c) → size ≡ length d →
    IsTotal c.limited total (total_set (domains c) place size) →
    new.own.items ≡ set c.own.items place (Some (record { turn = c.turn + 1; domain = d })) → new.common ≡ c.common → new.common_turn ≡ c.common_turn → new.turn
    ≡ c.turn + 1 → new.limited ≡ c.limited → new.total ≡ total → IsKept new
kept_one place c new d size total kept there size_is is own common at now limit total_is = record {
  total =
      subst (IsTotal new.limited new.total) (sym all_total)
      (subst (λ (b : Bool). IsTotal b new.total (total_set (domains c) place size)) (sym limit)
      (subst (λ (k : ℕ). IsTotal c.limited k (total_set (domains c) place size)) (sym total_is) is));
  own =
      subst (λ (t : ℕ). AllByRecursion (IsOlder t) new.own.items) (sym now)
      (subst (AllByRecursion (IsOlder (c.turn + 1))) (sym own)
      (all_set (IsOlder (c.turn + 1)) c.own.items place (Some (record { turn = c.turn + 1; domain = d })) (omega arith)
      (older_on c.turn c.own.items kept.own)));
  common = omega (arith, at, now, kept.common);
  few = let e = ap length own in let f : length
      (set c.own.items place (Some (record { turn = c.turn + 1; domain = d }))) ≡ length c.own.items = simp length-set in omega (arith, e, f, kept.few);
}
  where
    same_force : (l : ℕ) (e : List ℤ) (xs : List (Option Own)) → l ≡ c.common_turn → e ≡ c.common →
        xs ≡ set c.own.items place (Some (record { turn = c.turn + 1; domain = d })) →
        map (in_force l e) xs ≡ map (in_force c.common_turn c.common) (set c.own.items place (Some (record { turn = c.turn + 1; domain = d })))
    same_force l e xs p q r =
        ap (λ (k : ℕ). map (in_force k e) xs) p
        ∙ ap (λ (k : List ℤ). map (in_force c.common_turn k) xs) q
        ∙ ap (map (in_force c.common_turn c.common)) r

    all_total : total_of (domains new) ≡ total_set (domains c) place size
    all_total =
        ap total_of (same_force new.common_turn new.common new.own.items at common own ∙ one_set place c d kept)
        ∙ sym (ap (total_set (domains c) place) size_is ∙ total_at (domains c) place d there)

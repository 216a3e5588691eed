-- What a plan is made of, one line of its table at a time.
use Rattle.std.proofs.Common.{◌≡◌, ℕ, zero, suc, ◌+◌, ◌<◌, nat_lt, IsTrue, List, [], ◌∷◌, ◌++◌, length, map, drop, get_or, refl, sym, ◌∙◌, ap, subst, arith, length-append}
use Rattle.std.proofs.lemmas.List.{drop_more, map_push}
use Rattle.std.proofs.lemmas.Bool.{ltb-true, and_parts}
use Rattle.ts_base.specs.declared.letter.Letter.{Letter}
use Rattle.ts_regex.specs.declared.regex.Regex.{Regex}
use Rattle.ts_regex.specs.Shape.{Shape, shape_of}
use Rattle.ts_regex.specs.NormalForm.{residual}
use Rattle.ts_pattern.specs.declared.plan.Tag.{Tag}
use Rattle.ts_pattern.specs.Plans.{shape_at, plain_live}
use Rattle.ts_seed.specs.declared.table.Reading.{Reading}
use Rattle.ts_seed.specs.Table.{entry, residuals_from}
use Rattle.ts_seed.specs.Written.{live_of, letter_read, origin_read, from_earlier}

-- the entries of a configuration
pub entries_written : (es : List (ℕ × Tag)) → map (λ e. plain_live e) (map (λ e. live_of e) es) ≡ map (λ e. entry e) es
entries_written [] = refl
entries_written (e ∷ es) = ap (λ xs. entry e ∷ xs) (entries_written es)

shape_at_map : (rs : List Regex) (i : ℕ) (x : Regex) → i < length rs → x ≡ get_or rs i x → shape_at (map (λ r. shape_of r) rs) i ≡ shape_of x
shape_at_map [] i x p e = absurd (omega arith)
shape_at_map (r ∷ rs) zero x p e = ap (λ y. shape_of y) (sym e)
shape_at_map (r ∷ rs) (suc i) x p e = shape_at_map rs i x (omega arith) e

-- the residuals rs have become new, and the lines os of the table are left to read
pub record Leads (reading : Reading) (rs : List Regex) (os : List (ℕ × Letter)) (all : List Shape) : Type 0 where
  pub earlier : IsTrue (from_earlier (length rs) os)
  pub rest : residuals_from (map (λ r. shape_of r) rs) (map (λ o. origin_read reading o) os) ≡ all

one_read : (reading : Reading) (rs : List Regex) (o : ℕ × Letter) (os : List (ℕ × Letter)) (all : List Shape) (x y : Regex) →
    Leads reading rs (o ∷ os) all → x ≡ get_or rs o.0 x → shape_of y ≡ residual (shape_of x) (letter_read reading o.1) → Leads reading (rs ++ y ∷ []) os all
one_read reading rs o os all x y h e q =
    let t = and_parts (nat_lt o.0 (length rs)) (from_earlier (length rs + 1) os) h.earlier in
    let at_o : shape_at (map (λ r. shape_of r) rs) o.0 ≡ shape_of x = shape_at_map rs o.0 x (ltb-true o.0 (length rs) t.0) e in
    let left : residual (shape_at (map (λ r. shape_of r) rs) o.0) (letter_read reading o.1) ≡ shape_of y =
    ap (λ s. residual s (letter_read reading o.1)) at_o ∙ sym q in
    record {
      earlier = subst (λ n. IsTrue (from_earlier n os)) (sym (length-append rs (y ∷ []))) t.1;
      rest = ap (λ ss. residuals_from ss (map (λ o. origin_read reading o) os)) (map_push (λ r. shape_of r) rs y ∙ ap (λ s. map (λ r. shape_of r) rs ++ s ∷ [])
          (sym left)) ∙ h.rest;
    }

-- the line at place k is read, with its letter l: the residual x, and y, which the letter leaves of it
pub line_read : (reading : Reading) (rs new : List Regex) (origins : List (ℕ × Letter)) (k : ℕ) (d : ℕ × Letter) (all : List Shape) (x y : Regex) (l : Letter) →
    k < length origins → Leads reading rs (drop k origins) all → x ≡ get_or rs (get_or origins k d).0 x → l ≡ letter_read reading (get_or origins k d).1 →
    shape_of y ≡ residual (shape_of x) l → new ≡ rs ++ y ∷ [] → Leads reading new (drop (k + 1) origins) all
line_read reading rs new origins k d all x y l p before e m q grown =
    let here = get_or origins k d in
    let h : Leads reading rs (here ∷ drop (k + 1) origins) all = subst (λ os. Leads reading rs os all) (drop_more origins k d p) before in
    subst (λ ns. Leads reading ns (drop (k + 1) origins) all) (sym grown)
    (one_read reading rs here (drop (k + 1) origins) all x y h e (q ∙ ap (λ z. residual (shape_of x) z) m))

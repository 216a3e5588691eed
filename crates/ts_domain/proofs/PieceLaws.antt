-- Pieces of a set: what a test leaves of a piece, and the numbers of pieces that rise.
use Rattle.std.proofs.Common.{◌≡◌, ℤ, pos, ◌+ℤ◌, ◌≤ℤ◌, ◌<ℤ◌, ◌↔◌, Bool, true, false, ◌&&◌}
use Rattle.std.proofs.Common.{List, [], sym, ◌∙◌, arith}
use Rattle.std.proofs.lemmas.Int.{ints}
use Rattle.std.specs.Prelude.{filter, int_le, int_lt, Contains}
use Rattle.std.proofs.lemmas.Bool.{and_from, and_parts}
use Rattle.ts_domain.specs.declared.interval.Interval.{Interval}
use Rattle.ts_domain.specs.Pieces.{is_in, values_in, IsPiece, IsLastUpTo, IsFirstFrom, IsPartOf}
use Rattle.ts_domain.proofs.Sets.{contains_filter, filter_alike, filter_none, filter_both, same_test}
use Rattle.ts_domain.proofs.Sets.{le_true, true_le, lt_true, true_lt, le_false, lt_false}

-- a number in a piece
pub in_ends : (p : Interval) (v : ℤ) → is_in p v ≡ true → (p.low ≤ℤ v) × (v ≤ℤ p.high)
in_ends p v h = (grind (arith, ints), grind (arith, ints))

pub ends_in : (p : Interval) (v : ℤ) → p.low ≤ℤ v → v ≤ℤ p.high → is_in p v ≡ true
ends_in p v from to = grind (arith, ints)

pub contains_in : (all : List ℤ) (p : Interval) (v : ℤ) → Contains (values_in all p) v ↔ (Contains all v × (p.low ≤ℤ v) × (v ≤ℤ p.high))
unfolding values_in
contains_in all p v = let f = contains_filter (is_in p) all v in
    (λ h. let g = f.0 h in let e = in_ends p v g.1 in (g.0, e.0, e.1), λ h. f.1 (h.0, ends_in p v h.1 h.2))

-- a piece has the numbers of another one that pass a test
pub part_same : (all : List ℤ) (test : ℤ → Bool) (p q : Interval) →
    ((v : ℤ) → Contains all v → ((p.low ≤ℤ v) × (v ≤ℤ p.high) × (test v ≡ true)) ↔ ((q.low ≤ℤ v) × (v ≤ℤ q.high))) →
    values_in all q ≡ filter test (values_in all p)
unfolding values_in
part_same all test p q h =
    filter_alike (is_in q) (λ v. is_in p v && test v) all (λ v has. same_test (is_in q v) (is_in p v && test v)
    (λ yes. let e = in_ends q v yes in let b = (h v has).1 e in and_from (is_in p v) (test v) (ends_in p v b.0 b.1) b.2)
    (λ yes. let e = and_parts (is_in p v) (test v) yes in let d = in_ends p v e.0 in let g = (h v has).0 (d.0, d.1, e.1) in ends_in q v g.0 g.1)) ∙
    sym (filter_both test (is_in p) all)

pub part_none : (all : List ℤ) (test : ℤ → Bool) (p : Interval) → ((v : ℤ) → p.low ≤ℤ v → v ≤ℤ p.high → test v ≡ false) → filter test (values_in all p) ≡ []
part_none all test p h = filter_none test (values_in all p) (λ v has. let i = (contains_in all p v).0 has in h v i.1 i.2)

-- up to t
pub whole_up_to : (all : List ℤ) (p : Interval) (t : ℤ) → IsPiece all p → p.high ≤ℤ t → IsPartOf all (λ v. int_le v t) p p
whole_up_to all p t is h = record {
  same = part_same all (λ v. int_le v t) p p (λ v has. (λ g. (g.0, g.1), λ g. (g.0, g.1, le_true v t (under v p.high t g.1 h))));
  piece = is;
  from = omega (arith, ints);
  to = omega (arith, ints);
}
  where
    under : (a b c : ℤ) → a ≤ℤ b → b ≤ℤ c → a ≤ℤ c
    under a b c h g = omega (arith, ints, h, g)

pub cut_up_to : (all : List ℤ) (p : Interval) (t v : ℤ) → IsPiece all p → p.low ≤ℤ t → t <ℤ p.high → IsLastUpTo all t v →
    IsPartOf all (λ v. int_le v t) p (record { low = p.low; high = v })
cut_up_to all p t v is from to last = record {
  same = part_same all (λ v. int_le v t) p (record { low = p.low; high = v })
      (λ w has. (
        λ g. (g.0, last.greatest w has (true_le w t g.2)),
        λ g. (g.0, before w v t p.high g.1 last.within to, le_true w t (under w v t g.1 last.within)),
      ));
  piece = (last.greatest p.low is.1 from, is.1, last.has);
  from = omega (arith, ints);
  to = omega (arith, ints, last.within, to);
}
  where
    under : (a b c : ℤ) → a ≤ℤ b → b ≤ℤ c → a ≤ℤ c
    under a b c h g = omega (arith, ints, h, g)

    before : (a b c d : ℤ) → a ≤ℤ b → b ≤ℤ c → c <ℤ d → a ≤ℤ d
    before a b c d h g k = omega (arith, ints, h, g, k)

pub none_up_to : (all : List ℤ) (p : Interval) (t : ℤ) → t <ℤ p.low → filter (λ v. int_le v t) (values_in all p) ≡ []
none_up_to all p t h = part_none all (λ v. int_le v t) p (λ v from to. le_false v t (over t p.low v h from))
  where
    over : (a b c : ℤ) → a <ℤ b → b ≤ℤ c → a <ℤ c
    over a b c h g = omega (arith, ints, h, g)

-- above t
pub whole_above : (all : List ℤ) (p : Interval) (t : ℤ) → IsPiece all p → t <ℤ p.low → IsPartOf all (λ v. int_lt t v) p p
whole_above all p t is h = record {
  same = part_same all (λ v. int_lt t v) p p (λ v has. (λ g. (g.0, g.1), λ g. (g.0, g.1, lt_true t v (over t p.low v h g.0))));
  piece = is;
  from = omega (arith, ints);
  to = omega (arith, ints);
}
  where
    over : (a b c : ℤ) → a <ℤ b → b ≤ℤ c → a <ℤ c
    over a b c h g = omega (arith, ints, h, g)

pub cut_above : (all : List ℤ) (p : Interval) (t v : ℤ) → IsPiece all p → p.low ≤ℤ t → t <ℤ p.high → IsFirstFrom all (t +ℤ pos 1) v →
    IsPartOf all (λ v. int_lt t v) p (record { low = v; high = p.high })
cut_above all p t v is from to first = record {
  same = part_same all (λ v. int_lt t v) p (record { low = v; high = p.high })
      (λ w has. (
        λ g. (first.least w has (next t w (true_lt t w g.2)), g.1),
        λ g. (behind p.low t v w from first.within g.0, g.1, lt_true t w (past t v w first.within g.0)),
      ));
  piece = (first.least p.high is.2 (next t p.high to), first.has, is.2);
  from = omega (arith, ints, first.within, from);
  to = omega (arith, ints);
}
  where
    next : (a b : ℤ) → a <ℤ b → (a +ℤ pos 1) ≤ℤ b
    next a b h = omega (arith, ints, h)

    behind : (a b c d : ℤ) → a ≤ℤ b → (b +ℤ pos 1) ≤ℤ c → c ≤ℤ d → a ≤ℤ d
    behind a b c d h g k = omega (arith, ints, h, g, k)

    past : (b c d : ℤ) → (b +ℤ pos 1) ≤ℤ c → c ≤ℤ d → b <ℤ d
    past b c d g k = omega (arith, ints, g, k)

pub none_above : (all : List ℤ) (p : Interval) (t : ℤ) → p.high ≤ℤ t → filter (λ v. int_lt t v) (values_in all p) ≡ []
none_above all p t h = part_none all (λ v. int_lt t v) p (λ v from to. lt_false t v (under v p.high t to h))
  where
    under : (a b c : ℤ) → a ≤ℤ b → b ≤ℤ c → a ≤ℤ c
    under a b c h g = omega (arith, ints, h, g)

-- a piece begins and ends with its numbers
pub high_in : (all : List ℤ) (p : Interval) → IsPiece all p → Contains (values_in all p) p.high
high_in all p is = (contains_in all p p.high).1 (is.2, is.0, omega (arith, ints))

pub low_in : (all : List ℤ) (p : Interval) → IsPiece all p → Contains (values_in all p) p.low
low_in all p is = (contains_in all p p.low).1 (is.1, omega (arith, ints), is.0)

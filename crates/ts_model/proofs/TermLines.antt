-- How many words a `term` line has.
use Rattle.std.proofs.Common.{◌≡◌, ℕ, ◌+◌, ◌<◌, ◌≤◌, ◌==◌, Bool, ◌&&◌, true, false, cond, Option, Some, None, List, length, refl, ap, ◌∙◌, arith}
use Rattle.std.specs.Prelude.{◌||◌, option_map}
use Rattle.ts_domain.specs.declared.interval.Interval.{Interval}
use Rattle.std.proofs.lemmas.Bool.{and_parts}
use Rattle.std.proofs.lemmas.Bool.Decides.{nat_tests}
use Rattle.ts_model.specs.Words.{is_count, is_in, range_of}
use Rattle.ts_model.specs.Statement.{word_at, term_length, has_tail, has_term_length, tail_said}

-- so many words, or two more with a tail

abbrev pub ends_at : ℕ → List (List ℕ) → Bool
ends_at n ws = (length ws == n) || has_tail n ws

fits_at : (n : ℕ) (ws : List (List ℕ)) → ends_at n ws ≡ true → n ≤ length ws
fits_at n ws h = go (length ws == n) refl h where
  go : (b : Bool) → (length ws == n) ≡ b → (b || has_tail n ws) ≡ true → n ≤ length ws
  go true e h = grind (arith, nat_tests)
  go false e h = let long = (and_parts (length ws == n + 2) (is_in (word_at ws n)) h).0 in grind (arith, nat_tests)

tail_at : (n : ℕ) (ws : List (List ℕ)) → ends_at n ws ≡ true → (length ws == n) ≡ false → length ws ≡ n + 2
tail_at n ws h not_here = go (length ws == n) not_here h where
  go : (b : Bool) → b ≡ false → (b || has_tail n ws) ≡ true → length ws ≡ n + 2
  go true e h = cc
  go false e h = let long = (and_parts (length ws == n + 2) (is_in (word_at ws n)) h).0 in grind (arith, nat_tests)

pub none_there : (n : ℕ) (ws : List (List ℕ)) → (length ws == n) ≡ false → (length ws == n + 2) ≡ false → ends_at n ws ≡ false
none_there n ws here behind = ap (λ b. b || has_tail n ws) here ∙ ap (λ b. b && is_in (word_at ws n)) behind

none_at : (n : ℕ) (ws : List (List ℕ)) → length ws < n → ends_at n ws ≡ false
none_at n ws h =
    let here : (length ws == n) ≡ false = grind (arith, nat_tests) in
    let behind : (length ws == n + 2) ≡ false = grind (arith, nat_tests) in
    none_there n ws here behind

at_least : (b : Bool) → 4 ≤ cond b 4 5
at_least true = omega arith
at_least false = omega arith

pub term_fits : (ws : List (List ℕ)) → has_term_length ws ≡ true → term_length ws ≤ length ws
term_fits ws h = fits_at (term_length ws) ws h

pub term_long : (ws : List (List ℕ)) → has_term_length ws ≡ true → 3 < length ws
term_long ws h = let least = at_least (is_count (word_at ws 2)) in let fits = term_fits ws h in omega (arith, least, fits)

pub tail_there : (ws : List (List ℕ)) → has_term_length ws ≡ true → (length ws == term_length ws) ≡ false → length ws ≡ term_length ws + 2
tail_there ws h not_here = tail_at (term_length ws) ws h not_here

pub too_short : (ws : List (List ℕ)) → length ws < 4 → has_term_length ws ≡ false
too_short ws h = let least = at_least (is_count (word_at ws 2)) in none_at (term_length ws) ws (omega (arith, least, h))

-- the range of the tail

here : (a b : ℕ) → a ≡ b → (a == b) ≡ true
here a b e = grind (arith, nat_tests)

abbrev tail_by : List (List ℕ) → Bool → Option (Option Interval)
tail_by ws b = cond b (Some None) (option_map Some (range_of (word_at ws (term_length ws + 1))))

pub tail_none : (ws : List (List ℕ)) → length ws ≡ term_length ws → tail_said ws ≡ Some None
tail_none ws h = ap (tail_by ws) (here (length ws) (term_length ws) h)

pub tail_some : (ws : List (List ℕ)) (o : Option Interval) → (length ws == term_length ws) ≡ false →
    range_of (word_at ws (term_length ws + 1)) ≡ o → tail_said ws ≡ option_map Some o
tail_some ws o not_here is = ap (tail_by ws) not_here ∙ ap (option_map Some) is

-- where the words reach up to the name of the pattern

least_words : (b : Bool) (n : ℕ) → cond b 4 5 ≤ n → 3 < n
least_words true n h = omega (arith, h)
least_words false n h = omega (arith, h)

more_words : (b : Bool) (n : ℕ) → b ≡ false → cond b 4 5 ≤ n → 4 < n
more_words true n e h = cc
more_words false n e h = omega (arith, h)

pub names_there : (ws : List (List ℕ)) → term_length ws ≤ length ws → 3 < length ws
names_there ws h = least_words (is_count (word_at ws 2)) (length ws) h

pub last_there : (ws : List (List ℕ)) → is_count (word_at ws 2) ≡ false → term_length ws ≤ length ws → 4 < length ws
last_there ws e h = more_words (is_count (word_at ws 2)) (length ws) e h

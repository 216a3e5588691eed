-- A bracket level that is read by recursion is what its bytes are one after another, whatever levels are open around it.
use Rattle.std.specs.Prelude.{◌≡◌, ◌≢◌, ℕ, zero, suc, ◌-◌, ◌<◌, ◌≤◌, ◌⊎◌, List, [], ◌∷◌, length, take, get_or, Option, Some, None, option_map, IfSome, IfOk, Result, Ok, Err}
use Rattle.std.proofs.Math.Seq.{take-suc, take-length}
use Rattle.std.proofs.Common.{refl, sym, ap, subst, ◌∙◌, arith, inl, inr}
use Rattle.ts_regex.specs.Shape.{Shape}
use Rattle.ts_user.specs.FromTheEnd.{symbol_of, Within, Levels, blank_level, with_atom, closed, open_read, symbol_read, read_onto, ended, read_on, read_within, expression_of}
use Rattle.ts_user.specs.declared.expression.Read.{Read}
use Rattle.ts_user.specs.declared.level.Level.{Level}
use Rattle.ts_user.specs.declared.part.Part.{Part}
use Rattle.ts_user.specs.Expressions.{part_of, within_of, at_level, read_by, AtLevelStart}
use Rattle.ts_user.proofs.ExpressionLaws.{onto_append, not_read, short_nodes}

start_open : (word : List ℕ) (end start : ℕ) → AtLevelStart word end start → start ≢ 0 → get_or word (start - 1) 0 ≡ 40
start_open word end start h some = by h.starts
  where
    by : (start ≡ 0) ⊎ (get_or word (start - 1) 0 ≡ 40) → get_or word (start - 1) 0 ≡ 40
    by (inl none) = absurd (some none)
    by (inr is) = is

module _ (most : ℕ) (word : List ℕ) where
  -- one byte more
  byte_more : (n : ℕ) (x : Levels) → 0 < n → n ≤ length word →
      read_on most (take n word) x ≡ ended most (read_onto most (take (n - 1) word) (symbol_read most (symbol_of (get_or word (n - 1) 0)) x))
  byte_more zero x some within = absurd (omega arith)
  byte_more (suc k) x some within =
      let one : k ≡ suc k - 1 = omega arith in
      ap (λ (v : List ℕ). read_on most v x) (take-suc word k 0 (omega arith))
      ∙ ap (ended most) (onto_append most (take k word) (get_or word k 0 ∷ []) (Some x))
      ∙ ap (λ (j : ℕ). ended most (read_onto most (take j word) (symbol_read most (symbol_of (get_or word j 0)) x))) one

  ended_none : (n : ℕ) → ended most (read_onto most (take n word) None) ≡ None
  ended_none n = ap (ended most) (not_read most (take n word))

  -- a byte that can't stand there
  byte_none : (n : ℕ) (x : Levels) → 0 < n → n ≤ length word → None ≡ symbol_read most (symbol_of (get_or word (n - 1) 0)) x →
      None ≡ read_on most (take n word) x
  byte_none n x some within h =
      sym (ended_none (n - 1)) ∙ ap (λ (o : Option Levels). ended most (read_onto most (take (n - 1) word) o)) h ∙ sym (byte_more n x some within)

  byte_some : (n : ℕ) (x y : Levels) → 0 < n → n ≤ length word → Some y ≡ symbol_read most (symbol_of (get_or word (n - 1) 0)) x →
      read_on most (take (n - 1) word) y ≡ read_on most (take n word) x
  byte_some n x y some within h =
      ap (λ (o : Option Levels). ended most (read_onto most (take (n - 1) word) o)) h ∙ sym (byte_more n x some within)

  -- `)`, after which a level ends
  close_more : (n : ℕ) (x : Within) (outer : List Within) → 0 < n → n ≤ length word → get_or word (n - 1) 0 ≡ 41 →
      read_on most (take (n - 1) word) (record { inner = blank_level; outer = x ∷ outer }) ≡ read_on most (take n word) (record { inner = x; outer = outer })
  close_more n x outer some within is =
      byte_some n (record { inner = x; outer = outer }) (record { inner = blank_level; outer = x ∷ outer }) some within
      (ap (λ (b : ℕ). symbol_read most (symbol_of b) (record { inner = x; outer = outer })) (sym is))

  -- `(`, before which a level begins
  open_more : (n : ℕ) (x : Within) (outer : List Within) → n ≢ 0 → n ≤ length word → get_or word (n - 1) 0 ≡ 40 →
      read_on most (take n word) (record { inner = x; outer = outer }) ≡ ended most (read_onto most (take (n - 1) word) (open_read most (closed most x) outer))
  open_more n x outer some within is =
      byte_more n (record { inner = x; outer = outer }) (grind arith) within
      ∙ ap (λ (b : ℕ). ended most (read_onto most (take (n - 1) word) (symbol_read most (symbol_of b) (record { inner = x; outer = outer })))) is

  bracket_none : (n : ℕ) (x y : Within) (outer : List Within) → n ≢ 0 → n ≤ length word → get_or word (n - 1) 0 ≡ 40 → None ≡ closed most x →
      None ≡ read_on most (take n word) (record { inner = x; outer = y ∷ outer })
  bracket_none n x y outer some within is h =
      sym (ended_none (n - 1))
      ∙ ap (λ (p : Option (Option Shape)). ended most (read_onto most (take (n - 1) word) (open_read most p (y ∷ outer)))) h
      ∙ sym (open_more n x (y ∷ outer) some within is)

  bracket_some : (n : ℕ) (r : Option Shape) (x y z : Within) (outer : List Within) → n ≢ 0 → n ≤ length word → get_or word (n - 1) 0 ≡ 40 →
      Some r ≡ closed most x → z ≡ with_atom most r y →
      read_on most (take (n - 1) word) (record { inner = z; outer = outer }) ≡ read_on most (take n word) (record { inner = x; outer = y ∷ outer })
  bracket_some n r x y z outer some within is h e =
      ap (λ (v : Within). read_on most (take (n - 1) word) (record { inner = v; outer = outer })) e
      ∙ ap (λ (p : Option (Option Shape)). ended most (read_onto most (take (n - 1) word) (open_read most p (y ∷ outer)))) h
      ∙ sym (open_more n x (y ∷ outer) some within is)

  -- a `(` whose `)` is missing
  whole_open : (n : ℕ) (x : Within) → n ≢ 0 → n ≤ length word → get_or word (n - 1) 0 ≡ 40 →
      None ≡ read_on most (take n word) (record { inner = x; outer = [] })
  whole_open n x some within is =
      sym (open_more n x [] some within is
      ∙ ap (λ (o : Option Levels). ended most (read_onto most (take (n - 1) word) o)) (by (closed most x)) ∙ ended_none (n - 1))
    where
      by : (p : Option (Option Shape)) → open_read most p [] ≡ None
      by None = refl
      by (Some r) = refl

-- A bracket level as the code reads it.

abbrev IsRead : List ℕ → ℕ → Option Read → Type 0
IsRead word left o = (outer : List Within) → read_by word outer o ≡ read_on 256 (take left word) (record { inner = blank_level; outer = outer })

abbrev Starts : List ℕ → ℕ → Option Read → Type 0
Starts word left o = IfSome o (λ r. AtLevelStart word left r.left)

open_before : (word : List ℕ) (left : ℕ) (o : Option Read) (inner : Read) → Starts word left o → o ≡ Some inner → inner.left ≢ 0 →
    get_or word (inner.left - 1) 0 ≡ 40
open_before word left o inner starts is some =
    start_open word left inner.left (subst (λ (p : Option Read). Starts word left p) is starts) some

few_before : (word : List ℕ) (left : ℕ) (o : Option Read) (inner : Read) → left ≤ length word → Starts word left o → o ≡ Some inner →
    inner.left ≤ length word
few_before word left o inner within starts is =
    let start : AtLevelStart word left inner.left = subst (λ (p : Option Read). Starts word left p) is starts in
    let before = start.before in
    omega arith

pub bracket_unclosed : (word : List ℕ) (left : ℕ) (o : Option Read) (inner : Read) (p : Option Part) (around : Level) (outer : List Within) →
    left ≤ length word → IsRead word left o → Starts word left o → o ≡ Some inner → inner.left ≢ 0 →
    option_map part_of p ≡ closed 256 (within_of inner.level) → p ≡ None →
    None ≡ read_on 256 (take left word) (record { inner = blank_level; outer = within_of around ∷ outer })
bracket_unclosed word left o inner p around outer within read starts is some closes e =
    bracket_none 256 word inner.left (within_of inner.level) (within_of around) outer some (few_before word left o inner within starts is)
    (open_before word left o inner starts is some) (sym (ap (λ (q : Option Part). option_map part_of q) e) ∙ closes)
    ∙ ap (λ (q : Option Read). read_by word (within_of around ∷ outer) q) (sym is) ∙ read (within_of around ∷ outer)

pub bracket_closed : (word : List ℕ) (left : ℕ) (o : Option Read) (inner : Read) (p : Option Part) (atom : Part) (around x : Level) (outer : List Within) →
    left ≤ length word → IsRead word left o → Starts word left o → o ≡ Some inner → inner.left ≢ 0 →
    option_map part_of p ≡ closed 256 (within_of inner.level) → p ≡ Some atom → within_of x ≡ with_atom 256 (part_of atom) (within_of around) →
    read_on 256 (take (inner.left - 1) word) (at_level outer x)
    ≡ read_on 256 (take left word) (record { inner = blank_level; outer = within_of around ∷ outer })
bracket_closed word left o inner p atom around x outer within read starts is some closes e h =
    bracket_some 256 word inner.left (part_of atom) (within_of inner.level) (within_of around) (within_of x) outer some
    (few_before word left o inner within starts is) (open_before word left o inner starts is some)
    (sym (ap (λ (q : Option Part). option_map part_of q) e) ∙ closes) h
    ∙ ap (λ (q : Option Read). read_by word (within_of around ∷ outer) q) (sym is) ∙ read (within_of around ∷ outer)

pub bracket_part : {E : Type 0} → (word : List ℕ) (n : ℕ) (level : Level) (r : Result (Option Read) E) → 0 < n → n ≤ length word →
    get_or word (n - 1) 0 ≡ 41 →
    IfOk r (λ o. (outer : List Within) →
    read_by word outer o ≡ read_on 256 (take (n - 1) word) (record { inner = blank_level; outer = within_of level ∷ outer })) →
    IfOk r (λ o. (outer : List Within) → read_by word outer o ≡ read_on 256 (take n word) (at_level outer level))
bracket_part word n level (Ok o) some within is read = λ outer. read outer ∙ close_more 256 word n (within_of level) outer some within is
bracket_part word n level (Err e) some within is read = read

pub byte_refused : (word : List ℕ) (n : ℕ) (level : Level) (o : Option Level) (outer : List Within) → 0 < n → n ≤ length word →
    ((outer : List Within) → option_map (at_level outer) o ≡ symbol_read 256 (symbol_of (get_or word (n - 1) 0)) (at_level outer level)) → o ≡ None →
    None ≡ read_on 256 (take n word) (at_level outer level)
byte_refused word n level o outer some within read e =
    byte_none 256 word n (at_level outer level) some within (sym (ap (λ (p : Option Level). option_map (at_level outer) p) e) ∙ read outer)

pub byte_taken : (word : List ℕ) (n : ℕ) (level more : Level) (o : Option Level) (outer : List Within) → 0 < n → n ≤ length word →
    ((outer : List Within) → option_map (at_level outer) o ≡ symbol_read 256 (symbol_of (get_or word (n - 1) 0)) (at_level outer level)) → o ≡ Some more →
    read_on 256 (take (n - 1) word) (at_level outer more) ≡ read_on 256 (take n word) (at_level outer level)
byte_taken word n level more o outer some within read e =
    byte_some 256 word n (at_level outer level) (at_level outer more) some within
    (sym (ap (λ (p : Option Level). option_map (at_level outer) p) e) ∙ read outer)

-- a word with a `(` that is not closed
pub word_open : (word : List ℕ) (o : Option Read) (all : Read) → length word ≤ 64 → IsRead word (length word) o → Starts word (length word) o →
    o ≡ Some all → all.left ≢ 0 → None ≡ expression_of word
unfolding expression_of
word_open word o all few read starts is some =
    whole_open 256 word all.left (within_of all.level) some (few_before word (length word) o all (omega arith) starts is)
    (open_before word (length word) o all starts is some)
    ∙ ap (λ (q : Option Read). read_by word [] q) (sym is) ∙ read [] ∙ ap (λ (v : List ℕ). read_within 256 v) (take-length word)
    ∙ ap (λ (m : ℕ). read_within m word) (short_nodes word few)

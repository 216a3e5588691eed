-- Whether a word is an expression is decided by its outline; and one of more than 64 bytes is too large.
use Rattle.std.specs.Prelude.{◌≡◌, ℕ, zero, suc, ◌-◌, ◌<◌, ◌≤◌, true, false, List, [], ◌∷◌, length, drop, get_or, nat_le, Option, Some, None, option_map, is_some, cond}
use Rattle.std.proofs.Math.Seq.{drop-cons}
use Rattle.std.proofs.Common.{refl, sym, ap, ◌∙◌, arith}
use Rattle.std.proofs.lemmas.Bool.{false≢true}
use Rattle.std.proofs.lemmas.Option.{same_Some}
use Rattle.ts_regex.specs.Shape.{Shape, Empty, Eps, One, Cat, Alt, Star}
use Rattle.ts_user.specs.declared.symbol.Symbol.{Symbol}
use Rattle.ts_user.specs.declared.symbol.Symbol.TheVariants.{Sign, Open, Close, Repeated, Or}
use Rattle.ts_user.specs.declared.symbol.Repeat.{Repeat as RepeatSign}
use Rattle.ts_user.specs.declared.outline.Front.{Front}
use Rattle.ts_user.specs.declared.outline.Front.TheVariants.{Blank, Repeat, Atom}
use Rattle.ts_user.specs.declared.outline.Outline.{Outline}
use Rattle.ts_user.specs.Grammar.{nodes}
use Rattle.ts_user.specs.FromTheEnd.{symbol_of, bounded, Within, Levels, closed_as, repeat_read, or_read, open_read, symbol_read, byte_read, levels_of, ended_at, most_nodes, expression_of}
use Rattle.ts_user.specs.Outlines.{front_by, outline_of, open_outlined, repeat_outlined, or_outlined, outline_read, byte_outlined, whole_by, is_whole}
use Rattle.ts_user.proofs.ExpressionLaws.{expression_is, none_at, all_read}

module _ (most : ℕ) where
  opened : (repeat : Option RepeatSign) (s c : Option (Option Shape)) (outer : List Within) →
      option_map outline_of (open_read most (closed_as most repeat s c) outer) ≡ open_outlined (front_by repeat s) (length outer)
  opened (Some sign) s c outer = refl
  opened None None c outer = refl
  opened None (Some r) c [] = refl
  opened None (Some r) c (y ∷ ys) = refl

  repeats : (sign : RepeatSign) (repeat : Option RepeatSign) (x : Levels) (s : Option (Option Shape)) →
      option_map outline_of (repeat_read sign repeat x) ≡ repeat_outlined (front_by repeat s) (length x.outer)
  repeats sign (Some other) x s = refl
  repeats sign None x None = refl
  repeats sign None x (Some r) = refl

  chooses : (repeat : Option RepeatSign) (s c : Option (Option Shape)) (outer : List Within) →
      option_map outline_of (or_read (closed_as most repeat s c) outer) ≡ or_outlined (front_by repeat s) (length outer)
  chooses (Some sign) s c outer = refl
  chooses None None c outer = refl
  chooses None (Some r) c outer = refl

  symbol_outlined : (symbol : Symbol) (x : Levels) → option_map outline_of (symbol_read most (Some symbol) x) ≡ outline_read symbol (outline_of x)
  symbol_outlined (Sign l) x = refl
  symbol_outlined Close x = ap (λ (n : ℕ). Some (record { front = Blank; depth = n })) (omega arith)
  symbol_outlined Open x = opened x.inner.repeat x.inner.sequence x.inner.choices x.outer
  symbol_outlined (Repeated sign) x = repeats sign x.inner.repeat x x.inner.sequence
  symbol_outlined Or x = chooses x.inner.repeat x.inner.sequence x.inner.choices x.outer

  any_outlined : (symbol : Option Symbol) (x : Levels) → option_map outline_of (symbol_read most symbol x) ≡ byte_outlined symbol (outline_of x)
  any_outlined None x = refl
  any_outlined (Some symbol) x = symbol_outlined symbol x

  byte_read_outlined : (b : ℕ) (o : Option Levels) (y : Outline) → option_map outline_of o ≡ Some y →
      option_map outline_of (byte_read most b o) ≡ byte_outlined (symbol_of b) y
  byte_read_outlined b None y h = cc
  byte_read_outlined b (Some x) y h = any_outlined (symbol_of b) x ∙ ap (byte_outlined (symbol_of b)) (same_Some (outline_of x) y h)

  one_more : (word : List ℕ) (n : ℕ) (y : Outline) → 0 < n → n ≤ length word → option_map outline_of (levels_of most (drop n word)) ≡ Some y →
      option_map outline_of (levels_of most (drop (n - 1) word)) ≡ byte_outlined (symbol_of (get_or word (n - 1) 0)) y
  one_more word zero y some within h = absurd (omega arith)
  one_more word (suc k) y some within h =
      let one : k ≡ suc k - 1 = omega arith in
      ap (λ (j : ℕ). option_map outline_of (levels_of most (drop j word))) (sym one)
      ∙ ap (λ v. option_map outline_of (levels_of most v)) (drop-cons word k 0 (omega arith))
      ∙ byte_read_outlined (get_or word k 0) (levels_of most (drop (suc k) word)) y h
      ∙ ap (λ (j : ℕ). byte_outlined (symbol_of (get_or word j 0)) y) one

  closes : (repeat : Option RepeatSign) (s c : Option (Option Shape)) → is_some (closed_as most repeat s c) ≡ whole_by (front_by repeat s) 0
  closes (Some sign) s c = refl
  closes None None c = refl
  closes None (Some r) c = refl

  not_whole : (front : Front) (n : ℕ) → whole_by front (suc n) ≡ false
  not_whole Blank n = refl
  not_whole Repeat n = refl
  not_whole Atom n = grind arith

  ended_outlined : (x : Within) (outer : List Within) → is_some (ended_at most x outer) ≡ whole_by (front_by x.repeat x.sequence) (length outer)
  ended_outlined x [] = closes x.repeat x.sequence x.choices
  ended_outlined x (y ∷ ys) = sym (not_whole (front_by x.repeat x.sequence) (length ys))

no_levels : (o : Option Levels) → option_map outline_of o ≡ None → o ≡ None
no_levels None h = refl
no_levels (Some x) h = cc

-- one byte more
pub outline_more : (word : List ℕ) (n m : ℕ) (y z : Outline) → 0 < n → n ≤ length word → m ≡ n - 1 →
    option_map outline_of (levels_of (most_nodes word) (drop n word)) ≡ Some y → byte_outlined (symbol_of (get_or word m 0)) y ≡ Some z →
    option_map outline_of (levels_of (most_nodes word) (drop m word)) ≡ Some z
outline_more word n m y z some within is h read =
    ap (λ (j : ℕ). option_map outline_of (levels_of (most_nodes word) (drop j word))) is ∙ one_more (most_nodes word) word n y some within h
    ∙ ap (λ (j : ℕ). byte_outlined (symbol_of (get_or word j 0)) y) (sym is) ∙ read

-- a byte that can't stand where it does
pub not_outlined : (word : List ℕ) (n m : ℕ) (y : Outline) → 0 < n → n ≤ length word → m ≡ n - 1 →
    option_map outline_of (levels_of (most_nodes word) (drop n word)) ≡ Some y → byte_outlined (symbol_of (get_or word m 0)) y ≡ None →
    false ≡ is_some (expression_of word)
not_outlined word n m y some within is h read =
    let none = one_more (most_nodes word) word n y some within h ∙ ap (λ (j : ℕ). byte_outlined (symbol_of (get_or word j 0)) y) (sym is) ∙ read in
    ap (λ (e : Option (Option Shape)). is_some e)
    (none_at word (most_nodes word) (n - 1) refl (no_levels (levels_of (most_nodes word) (drop (n - 1) word)) none))

-- all bytes were read
pub all_outlined : (word : List ℕ) (n : ℕ) (y : Outline) → n ≤ 0 → option_map outline_of (levels_of (most_nodes word) (drop n word)) ≡ Some y →
    is_whole y ≡ is_some (expression_of word)
all_outlined word n y last h = go (levels_of (most_nodes word) (drop n word)) refl h
  where
    go : (o : Option Levels) → levels_of (most_nodes word) (drop n word) ≡ o → option_map outline_of o ≡ Some y → is_whole y ≡ is_some (expression_of word)
    go None e h = cc
    go (Some x) e h =
        ap is_whole (sym (same_Some (outline_of x) y h)) ∙ sym (ended_outlined (most_nodes word) x.inner x.outer)
        ∙ ap (λ (p : Option (Option Shape)). is_some p) (all_read word (most_nodes word) n x refl last e)

some_nodes : (r : Shape) → 1 ≤ nodes r
some_nodes Empty = omega arith
some_nodes Eps = omega arith
some_nodes (One l) = omega arith
some_nodes (Cat r s) = omega arith
some_nodes (Alt r s) = omega arith
some_nodes (Star r) = omega arith

none_fits : (most : ℕ) (r : Shape) → most ≡ 0 → bounded most r ≡ None
none_fits most r e =
    let some = some_nodes r in
    let not : nat_le (nodes r) most ≡ false = grind arith in ap (λ b. cond b (Some r) None) not

no_nodes : (word : List ℕ) → 64 < length word → most_nodes word ≡ 0
no_nodes word long = let not : nat_le (length word) 64 ≡ false = grind arith in ap (λ b. cond b 256 0) not

pub long_some : (word : List ℕ) → 64 < length word → is_some (expression_of word) ≡ true → Some None ≡ expression_of word
long_some word long h = go (expression_of word) refl h
  where
    go : (e : Option (Option Shape)) → expression_of word ≡ e → is_some e ≡ true → Some None ≡ e
    go None e h = absurd (false≢true h)
    go (Some p) e h =
        let means = (expression_is word p).0 e in ap Some (sym (means.2 ∙ none_fits (most_nodes word) means.0 (no_nodes word long)))

pub long_none : (word : List ℕ) → is_some (expression_of word) ≡ false → None ≡ expression_of word
long_none word h = go (expression_of word) h
  where
    go : (e : Option (Option Shape)) → is_some e ≡ false → None ≡ e
    go None h = refl
    go (Some p) h = absurd (false≢true (sym h))

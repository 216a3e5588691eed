-- What is kept of a line stands for it.
use Rattle.std.proofs.Common.{◌≡◌, ℕ, zero, suc, ◌+◌, ◌<◌, ◌≤◌, Bool, false, Some, None, List, [], ◌∷◌, ◌++◌, length, refl, sym, ap, subst, ◌∙◌, arith, append_assoc, append-nil, length-append, take, get_or, ◌==◌, take_all}
use Rattle.std.proofs.lemmas.Bool.{eqb-false}
use Rattle.std.proofs.lemmas.List.{length-map, take_more}
use Rattle.std.specs.Prelude.{Result, Ok, Err, OnErr}
use Rattle.ts_token.specs.declared.short.Place.{Place}
use Rattle.ts_token.specs.declared.short.ShortLine.{ShortLine}
use Rattle.ts_token.specs.Gist.{gist, gists, StandsFor}
use Rattle.ts_token.specs.Halves.{is_separator}
use Rattle.ts_token.specs.Places.{place_after, IsAt, IsSmallAt}
use Rattle.ts_token.specs.Short.{IsShort, TakesFirst, TakesIn, most_of}
use Rattle.ts_token.specs.Text.{lines_of}
use Rattle.ts_token.proofs.GistLaws.{some_lines, same_separator}
use Rattle.ts_token.proofs.KeptSizes.{few_kept, small_kept, small_left}
use Rattle.ts_token.proofs.PlaceLaws.{next_place, left_out}

pub stands_now : (line given : List ℕ) (s : ShortLine) → given ≡ s.kept.items → IsShort line s → StandsFor given line
stands_now line given s is short =
    ap gists is ∙ ap gists (sym (append-nil s.kept.items)) ∙ short.stands [] ∙ ap gists (append-nil line)

pub few_now : (line given : List ℕ) (s : ShortLine) → given ≡ s.kept.items → IsShort line s → length given ≤ most_of line
few_now line given s is short =
    subst (λ (x : List ℕ). length x ≤ most_of line) (sym is) (few_kept s.place line s.kept.items short.place short.small)

pub short_now : (line given : List ℕ) (s : ShortLine) → given ≡ s.kept.items → IsShort line s → length given ≤ length line
short_now line given s is short = subst (λ (x : List ℕ). length x ≤ length line) (sym is) short.few

-- one byte more is kept
pub keeps : (old new : ShortLine) (b : ℕ) (place : Place) → new.kept.items ≡ old.kept.items ++ b ∷ [] → new.place ≡ place →
    place_after old.place b ≡ Some place → TakesIn old (b ∷ []) new
keeps old new b place kept place_is after line short = record {
  stands = λ more.
      ap (λ (x : List ℕ). gists (x ++ more)) kept ∙ ap gists (append_assoc old.kept.items (b ∷ []) more) ∙ short.stands (b ∷ more)
      ∙ ap gists (sym (append_assoc line (b ∷ []) more));
  place = subst (λ (k : List ℕ). IsAt new.place k) (sym kept)
      (subst (λ (p : Place). IsAt p (old.kept.items ++ b ∷ [])) (sym place_is) (next_place old.place place old.kept.items b short.place after));
  small = subst (λ (p : Place). IsSmallAt p (line ++ b ∷ []) (length new.kept.items)) (sym place_is)
      (small_kept old.place place line old.kept.items new.kept.items b short.place short.small after kept);
  few = omega (arith, ap length kept, length-append old.kept.items (b ∷ []), length-append line (b ∷ []), short.few);
}

-- one byte more is left out
pub leaves_out : (old : ShortLine) (b : ℕ) → place_after old.place b ≡ None → TakesIn old (b ∷ []) old
leaves_out old b none line short = record {
  stands = λ more.
      left_out old.place old.kept.items b short.place none more ∙ short.stands (b ∷ more) ∙ ap gists (sym (append_assoc line (b ∷ []) more));
  place = short.place;
  small = small_left old.place line old.kept.items b short.place short.small none;
  few = omega (arith, length-append line (b ∷ []), short.few);
}

-- nothing more is kept
pub as_before : (old new : ShortLine) → new.kept.items ≡ old.kept.items → new.place ≡ old.place → TakesIn old [] new
as_before old new kept place line short = record {
  stands = λ more.
      ap (λ (x : List ℕ). gists (x ++ more)) kept ∙ short.stands more ∙ ap (λ (x : List ℕ). gists (x ++ more)) (sym (append-nil line));
  place = subst (λ (k : List ℕ). IsAt new.place k) (sym kept) (subst (λ (p : Place). IsAt p old.kept.items) (sym place) short.place);
  small = subst (λ (k : List ℕ). IsSmallAt new.place (line ++ []) (length k)) (sym kept)
      (subst (λ (p : Place). IsSmallAt p (line ++ []) (length old.kept.items)) (sym place)
      (subst (λ (x : List ℕ). IsSmallAt old.place x (length old.kept.items)) (sym (append-nil line)) short.small));
  few = omega (arith, ap length kept, ap length (append-nil line), short.few);
}

empty_by : (lines : List ℕ) → length (lines_of lines) ≡ 0 → lines ≡ []
empty_by [] e = refl
empty_by (b ∷ bs) e = absurd (omega (arith, some_lines b bs, e))

nil_by : (xs : List ℕ) → length xs ≡ 0 → xs ≡ []
nil_by [] e = refl
nil_by (x ∷ xs) e = absurd (omega arith)

-- no byte is kept, and none came
pub no_byte : (line : List ℕ) (s : ShortLine) → length s.kept.items ≡ 0 → IsShort line s → line ≡ []
no_byte line s none short =
    let same : gists [] ≡ gists line = ap gists (sym (nil_by s.kept.items none)) ∙ stands_now line s.kept.items s refl short in
    empty_by line (sym (length-map (lines_of line) gist) ∙ sym (ap length same))

pub filled_by : (n k : ℕ) → n ≡ k → (n == 0) ≡ false → 0 < k
filled_by n zero e f = absurd (eqb-false n 0 f e)
filled_by n (suc k) e f = omega arith

-- a byte came
pub some_byte : (line : List ℕ) (s : ShortLine) → 0 < length s.kept.items → IsShort line s → 0 < length line
some_byte [] s some short = absurd (filled s.kept.items some (stands_now [] s.kept.items s refl short)) where
  filled : (xs : List ℕ) → 0 < length xs → gists xs ≡ [] → ⊥
  filled [] h e = omega arith
  filled (x ∷ xs) h e = omega (arith, some_lines x xs, length-map (lines_of (x ∷ xs)) gist, ap length e)
some_byte (b ∷ bs) s some short = omega arith

-- nothing is no separator
pub none_separates : (line : List ℕ) → line ≡ [] → false ≡ is_separator line
unfolding is_separator
none_separates line e = sym (ap is_separator e)

pub separates : (line given : List ℕ) (s : ShortLine) (r : Bool) → r ≡ is_separator given → given ≡ s.kept.items → IsShort line s → r ≡ is_separator line
separates line given s r e is short = e ∙ same_separator given line (stands_now line given s is short)

-- bytes one after another
pub takes_none : (s : ShortLine) → TakesIn s [] s
takes_none s line short = subst (λ (x : List ℕ). IsShort x s) (sym (append-nil line)) short

takes_more : (a b c : ShortLine) (xs : List ℕ) (y : ℕ) → TakesIn a xs b → TakesIn b (y ∷ []) c → TakesIn a (xs ++ y ∷ []) c
takes_more a b c xs y first second line short =
    subst (λ (x : List ℕ). IsShort x c) (append_assoc line xs (y ∷ [])) (second (line ++ xs) (first line short))

pub takes_next : (a b c : ShortLine) (bytes : List ℕ) (i : ℕ) → i < length bytes → TakesIn a (take i bytes) b → TakesIn b (get_or bytes i 0 ∷ []) c →
    TakesIn a (take (i + 1) bytes) c
takes_next a b c bytes i within first second =
    subst (λ (x : List ℕ). TakesIn a x c) (sym (take_more bytes i 0 within)) (takes_more a b c (take i bytes) (get_or bytes i 0) first second)

-- some first bytes have come, and none of the rest
pub takes_first : (a b c : ShortLine) (bytes : List ℕ) (i : ℕ) → TakesIn a (take i bytes) b → TakesIn b [] c → TakesFirst a bytes c
takes_first a b c bytes i first none =
    (i, λ line short. subst (λ (x : List ℕ). IsShort x c) (append-nil (line ++ take i bytes)) (none (line ++ take i bytes) (first line short)))

pub takes_all : (a b : ShortLine) (bytes : List ℕ) (i : ℕ) → length bytes ≤ i → TakesIn a (take i bytes) b → TakesIn a bytes b
takes_all a b bytes i all taken = subst (λ (x : List ℕ). TakesIn a x b) (take_all i bytes all) taken

pub on_err : {T E P : Type 0} (r : Result T E) → P → OnErr r P
on_err (Ok x) p = tt
on_err (Err e) p = p

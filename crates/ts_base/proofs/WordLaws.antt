-- For the crates above: a line is the spelling of its words, words without a space or an LF are those of their line,
-- and a text is its lines.
use Rattle.std.proofs.Common.{◌≡◌, ℕ, suc, ◌≤◌, Bool, true, false, not, cond, Option, Some, None, List, [], ◌∷◌, ◌++◌, length, refl, sym, ap, ◌∙◌, ◌&&◌, arith}
use Rattle.std.specs.Prelude.{◌==◌}
use Rattle.std.specs.Cmp.Derive.{both_true}
use Rattle.std.specs.Option.{option_map}
use Rattle.std.specs.List.{list_all, AllByRecursion, concat}
use Rattle.std.specs.Str.{bytes_eq}
use Rattle.std.proofs.lemmas.Bool.{eqb-true, not-true}
use Rattle.std.proofs.lemmas.Bool.{and_parts}
use Rattle.std.proofs.lemmas.List.Folds.{list_all-append}
use Rattle.std.proofs.lemmas.Slice.Eq.{bytes_eq-Decides}
use Rattle.ts_base.specs.Words.{is_lf, is_space, onto_line, strict_lines, without_lf, Words, after_space, onto_word, words_of, all_words, behind, plain_line, full_line}

-- a word that is a keyword, or another
pub keyword_or : {X : Type 0} (P : Type 0) (word text : List ℕ) (here there : Option X) (x : X) → (word ≡ text → here ≡ Some x → P) → (there ≡ Some x → P) →
    cond (bytes_eq word text) here there ≡ Some x → P
keyword_or P word text here there x f g h = go (bytes_eq word text) refl h where
  go : (t : Bool) → bytes_eq word text ≡ t → cond t here there ≡ Some x → P
  go true e k = f ((bytes_eq-Decides word text).0 e) k
  go false e k = g k

pub different : (word text : List ℕ) → (word ≡ text → ⊥) → bytes_eq word text ≡ false
different word text h = go (bytes_eq word text) refl where
  go : (t : Bool) → bytes_eq word text ≡ t → t ≡ false
  go true e = absurd (h ((bytes_eq-Decides word text).0 e))
  go false e = refl

-- a line and its words
space_is : (b : ℕ) → is_space b ≡ true → b ≡ 32
unfolding is_space
space_is b e = eqb-true b 32 e

is_32 : is_space 32 ≡ true
unfolding is_space
is_32 = refl

line_step : (b : ℕ) (bs : List ℕ) (t : Bool) → is_space b ≡ t → plain_line (words_of bs) ≡ bs →
    plain_line (cond t (after_space (words_of bs)) (onto_word b (words_of bs))) ≡ b ∷ bs
line_step b bs true e h = ap (λ (x : List ℕ). 32 ∷ x) h ∙ ap (λ (x : ℕ). x ∷ bs) (sym (space_is b e))
line_step b bs false e h = ap (λ (x : List ℕ). b ∷ x) h

pub line_is : (line : List ℕ) → plain_line (words_of line) ≡ line
line_is [] = refl
line_is (b ∷ bs) = line_step b bs (is_space b) refl (line_is bs)

-- a byte that ends neither a word nor a line
abbrev pub is_inner : ℕ → Bool
is_inner b = not (is_space b) && not (is_lf b)

-- a word of such bytes
abbrev pub is_solid : List ℕ → Bool
is_solid word = list_all is_inner word

abbrev pub AreSolid : List (List ℕ) → Type 0
AreSolid words = AllByRecursion (λ w. is_solid w ≡ true) words

pub inner_only : (b : ℕ) (w : List ℕ) → is_solid (b ∷ w) ≡ true → (is_space b ≡ false) × (is_lf b ≡ false) × (is_solid w ≡ true)
inner_only b w h =
    let each = and_parts (is_inner b) (is_solid w) h in
    let inner = and_parts (not (is_space b)) (not (is_lf b)) each.0 in
    (not-true (is_space b) inner.0, not-true (is_lf b) inner.1, each.1)

word_again : (w : List ℕ) (ws : List (List ℕ)) → is_solid w ≡ true → words_of (behind ws) ≡ record { first = []; more = ws } →
    words_of (w ++ behind ws) ≡ record { first = w; more = ws }
word_again [] ws h rest = rest
word_again (b ∷ w) ws h rest =
    let inner = inner_only b w h in
    ap (λ v. cond v (after_space (words_of (w ++ behind ws))) (onto_word b (words_of (w ++ behind ws)))) inner.0
    ∙ ap (onto_word b) (word_again w ws inner.2 rest)

behind_again : (ws : List (List ℕ)) → AreSolid ws → words_of (behind ws) ≡ record { first = []; more = ws }
behind_again [] h = refl
behind_again (w ∷ ws) h =
    ap (λ v. cond v (after_space (words_of (w ++ behind ws))) (onto_word 32 (words_of (w ++ behind ws)))) is_32
    ∙ ap after_space (word_again w ws h.0 (behind_again ws h.1))

pub words_again : (w : Words) → AreSolid (all_words w) → words_of (plain_line w) ≡ w
words_again w h = word_again w.first w.more h.0 (behind_again w.more h.1)

-- a line and its LF
lf_step : (b c : ℕ) (bs line : List ℕ) (rest : Option (List ℕ)) → option_map (λ (x : List ℕ). b ∷ x) rest ≡ Some line →
    ((more : List ℕ) → rest ≡ Some more → c ∷ bs ≡ more ++ 10 ∷ []) → b ∷ c ∷ bs ≡ line ++ 10 ∷ []
lf_step b c bs line None h later = cc
lf_step b c bs line (Some more) h later =
    let same : b ∷ more ≡ line = cc in
    ap (λ (x : List ℕ). b ∷ x) (later more refl) ∙ ap (λ (x : List ℕ). x ++ 10 ∷ []) same

last_step : (b : ℕ) (line : List ℕ) (t : Bool) → b == 10 ≡ t → cond t (Some []) None ≡ Some line → b ∷ [] ≡ line ++ 10 ∷ []
last_step b line true e h =
    let none : [] ≡ line = cc in
    ap (λ (x : ℕ). x ∷ []) (eqb-true b 10 e) ∙ ap (λ (x : List ℕ). x ++ 10 ∷ []) none
last_step b line false e h = cc

pub lf_is : (text line : List ℕ) → without_lf text ≡ Some line → text ≡ line ++ 10 ∷ []
lf_is [] line h = cc
lf_is (b ∷ []) line h = last_step b line (b == 10) refl h
lf_is (b ∷ c ∷ bs) line h = lf_step b c bs line (without_lf (c ∷ bs)) h (λ more e. lf_is (c ∷ bs) more e)

pub lf_again : (line : List ℕ) → without_lf (line ++ 10 ∷ []) ≡ Some line
lf_again [] = refl
lf_again (b ∷ []) = refl
lf_again (b ∷ c ∷ bs) = ap (option_map (λ (x : List ℕ). b ∷ x)) (lf_again (c ∷ bs))

-- the words of a text are those whose spelling it is
pub text_is : (text line : List ℕ) → without_lf text ≡ Some line → text ≡ full_line (words_of line)
text_is text line h = lf_is text line h ∙ ap (λ (x : List ℕ). x ++ 10 ∷ []) (sym (line_is line))

pub text_again : (w : Words) → without_lf (full_line w) ≡ Some (plain_line w)
text_again w = lf_again (plain_line w)

-- a text and its lines
abbrev pub has_no_lf : List ℕ → Bool
has_no_lf text = list_all (λ b. not (is_lf b)) text

space_no_lf : not (is_lf 32) ≡ true
unfolding is_lf
space_no_lf = refl

is_10 : is_lf 10 ≡ true
unfolding is_lf
is_10 = refl

solid_no_lf : (w : List ℕ) → is_solid w ≡ true → has_no_lf w ≡ true
solid_no_lf [] h = refl
solid_no_lf (b ∷ w) h = let each = inner_only b w h in both_true (ap not each.1) (solid_no_lf w each.2)

joins_no_lf : (xs ys : List ℕ) → has_no_lf xs ≡ true → has_no_lf ys ≡ true → has_no_lf (xs ++ ys) ≡ true
joins_no_lf xs ys h k = list_all-append (λ b. not (is_lf b)) xs ys ∙ both_true h k

behind_no_lf : (ws : List (List ℕ)) → AreSolid ws → has_no_lf (behind ws) ≡ true
behind_no_lf [] h = refl
behind_no_lf (w ∷ ws) h = both_true space_no_lf (joins_no_lf w (behind ws) (solid_no_lf w h.0) (behind_no_lf ws h.1))

pub words_no_lf : (w : Words) → AreSolid (all_words w) → has_no_lf (plain_line w) ≡ true
words_no_lf w h = joins_no_lf w.first (behind w.more) (solid_no_lf w.first h.0) (behind_no_lf w.more h.1)

-- a line without an LF, with its LF, is the first that is cut off
pub line_first : (line rest : List ℕ) → has_no_lf line ≡ true → strict_lines (line ++ (10 ∷ []) ++ rest) ≡ (line ++ (10 ∷ [])) ∷ strict_lines rest
line_first [] rest h = ap (λ v. cond v ((10 ∷ []) ∷ strict_lines rest) (onto_line 10 (strict_lines rest))) is_10
line_first (b ∷ line) rest h =
    let each = and_parts (not (is_lf b)) (has_no_lf line) h in
    let left = strict_lines (line ++ (10 ∷ []) ++ rest) in
    ap (λ v. cond v ((b ∷ []) ∷ left) (onto_line b left)) (not-true (is_lf b) each.0)
    ∙ ap (onto_line b) (line_first line rest each.1)

onto_few : (b : ℕ) (cs : List (List ℕ)) → length (onto_line b cs) ≤ suc (length cs)
onto_few b [] = omega arith
onto_few b (c ∷ cs) = omega arith

pub lines_few : (text : List ℕ) → length (strict_lines text) ≤ length text
lines_few [] = omega arith
lines_few (b ∷ bs) =
    let later = lines_few bs in
    let more = onto_few b (strict_lines bs) in
    elim (is_lf b) as (λ v. length (cond v ((b ∷ []) ∷ strict_lines bs) (onto_line b (strict_lines bs))) ≤ suc (length bs)) [
      | true ↦ omega (arith, later)
      | false ↦ omega (arith, later, more)
    ]

onto_concat : (b : ℕ) (cs : List (List ℕ)) → concat (onto_line b cs) ≡ b ∷ concat cs
onto_concat b [] = refl
onto_concat b (c ∷ cs) = refl

lines_step : (b : ℕ) (bs : List ℕ) (t : Bool) → concat (strict_lines bs) ≡ bs →
    concat (cond t ((b ∷ []) ∷ strict_lines bs) (onto_line b (strict_lines bs))) ≡ b ∷ bs
lines_step b bs true ih = ap (λ (x : List ℕ). b ∷ x) ih
lines_step b bs false ih = onto_concat b (strict_lines bs) ∙ ap (λ (x : List ℕ). b ∷ x) ih

pub lines_are : (text : List ℕ) → concat (strict_lines text) ≡ text
lines_are [] = refl
lines_are (b ∷ bs) = lines_step b bs (is_lf b) (lines_are bs)

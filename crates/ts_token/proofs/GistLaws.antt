-- Lines that end, and what a line that stands for another one keeps of it.
use Rattle.std.proofs.Common.{◌≡◌, ℕ, ◌+◌, ◌<◌, Bool, true, false, cond, not, ◌&&◌, Some, None, List, [], ◌∷◌, ◌++◌, length, take, map, refl, sym, ap, subst, ◌∙◌, arith, append_assoc, append-nil, ◌==◌, take_all, length-take, codes, eqb-true}
use Rattle.std.specs.Prelude.{Option}
use Rattle.std.specs.List.{list_all}
use Rattle.std.specs.Str.{bytes_eq}
use Rattle.std.proofs.lemmas.Slice.Eq.{bytes_eq-Decides}
use Rattle.ts_base.specs.Words.{is_lf, onto_line}
use Rattle.ts_token.specs.Text.{is_blank, is_plain, is_text, ends_here, stops_here, onto_word, lines_of, words_of, words_from, Piece, is_skipped, starts_hash}
use Rattle.ts_token.specs.Gist.{heads, gist, first_of, StandsFor, IsLine, AreEnded}
use Rattle.ts_token.specs.Halves.{is_mark, is_mark_line, is_separator}
use Rattle.ts_token.proofs.Fronts.{front, ending}
use Rattle.ts_token.proofs.LineLaws.{cut_by, first_cut}
use Rattle.ts_token.proofs.WordLaws.{word, word_front}
use Rattle.ts_token.proofs.Drops.{cut_behind}

pub ended_none : AreEnded []
ended_none more = refl

cut_some : (line rest : List ℕ) → 0 < length (cut_by line rest)
cut_some line [] = omega arith
cut_some line (x ∷ rest) = omega arith

pub some_lines : (b : ℕ) (bs : List ℕ) → 0 < length (lines_of (b ∷ bs))
some_lines b bs =
    subst (λ (x : List (List ℕ)). 0 < length x) (sym (first_cut b bs)) (cut_some (front is_lf (b ∷ bs)) (ending is_lf (b ∷ bs)))

onto_append : (b : ℕ) (xs ys : List (List ℕ)) → 0 < length xs → onto_line b (xs ++ ys) ≡ onto_line b xs ++ ys
onto_append b [] ys some = absurd (omega arith)
onto_append b (x ∷ xs) ys some = refl

abbrev line_step : ℕ → Bool → Bool → List (List ℕ) → List (List ℕ)
line_step b lf ends lines = cond lf ([] ∷ lines) (cond (cond (b == 13) ends false) lines (onto_line b lines))

step_append : (b : ℕ) (lf ends : Bool) (xs ys : List (List ℕ)) → 0 < length xs → line_step b lf ends (xs ++ ys) ≡ line_step b lf ends xs ++ ys
step_append b true ends xs ys some = refl
step_append b false ends xs ys some = go (cond (b == 13) ends false) where
  go : (t : Bool) → cond t (xs ++ ys) (onto_line b (xs ++ ys)) ≡ cond t xs (onto_line b xs) ++ ys
  go true = refl
  go false = onto_append b xs ys some

lf_some : (front : List ℕ) → 0 < length (lines_of (front ++ 10 ∷ []))
lf_some [] = some_lines 10 []
lf_some (b ∷ bs) = some_lines b (bs ++ 10 ∷ [])

ends_kept : (bs more : List ℕ) → ends_here ((bs ++ 10 ∷ []) ++ more) ≡ ends_here (bs ++ 10 ∷ [])
ends_kept [] more = refl
ends_kept (c ∷ cs) more = refl

-- bytes that end with an LF
pub ended_lf : (front : List ℕ) → AreEnded (front ++ 10 ∷ [])
unfolding is_lf
ended_lf [] more = refl
ended_lf (b ∷ bs) more =
    ap (line_step b (is_lf b) (ends_here ((bs ++ 10 ∷ []) ++ more))) (ended_lf bs more)
    ∙ ap (λ v. line_step b (is_lf b) v (lines_of (bs ++ 10 ∷ []) ++ lines_of more)) (ends_kept bs more)
    ∙ step_append b (is_lf b) (ends_here (bs ++ 10 ∷ [])) (lines_of (bs ++ 10 ∷ [])) (lines_of more) (lf_some bs)

pub ended_append : (a b : List ℕ) → AreEnded a → AreEnded b → AreEnded (a ++ b)
ended_append a b first second more =
    ap lines_of (append_assoc a b more) ∙ first (b ++ more) ∙ ap (λ (x : List (List ℕ)). lines_of a ++ x) (second more)
    ∙ sym (append_assoc (lines_of a) (lines_of b) (lines_of more)) ∙ ap (λ (x : List (List ℕ)). x ++ lines_of more) (sym (first b))

one : (line bytes : List ℕ) → lines_of line ≡ bytes ∷ [] → IsLine line
one line bytes e = e ∙ ap (λ (x : List ℕ). x ∷ []) (sym (ap first_of e))

-- a line with its LF
pub finished_line : (bytes : List ℕ) → list_all (λ b. not (is_lf b)) bytes ≡ true → IsLine (bytes ++ 10 ∷ [])
unfolding is_lf
finished_line [] none = refl
finished_line (b ∷ bs) none = one ((b ∷ bs) ++ 10 ∷ []) _ (cut_behind b bs (10 ∷ []) none)

-- a line without one
pub unfinished_line : (line : List ℕ) → list_all (λ b. not (is_lf b)) line ≡ true → 0 < length line → IsLine line
unfinished_line [] none some = absurd (omega arith)
unfinished_line (b ∷ bs) none some = one (b ∷ bs) _ (ap lines_of (sym (append-nil (b ∷ bs))) ∙ cut_behind b bs [] none)

abbrev all_text : List Piece → Bool
all_text ws = list_all (λ w. is_text w.text) ws

blank_plain : (b : ℕ) → is_blank b ≡ true → is_plain b ≡ true
unfolding is_blank is_plain
blank_plain b blank = go (b == 32) refl blank where
  go : (t : Bool) → b == 32 ≡ t → cond t true (b == 9) ≡ true → is_plain b ≡ true
  go true e h = ap is_plain (eqb-true b 32 e)
  go false e h = ap is_plain (eqb-true b 9 h)

and_true : (v : Bool) → (v && true) ≡ v
and_true true = refl
and_true false = refl

and_assoc : (a b c : Bool) → ((a && b) && c) ≡ (a && (b && c))
and_assoc true b c = refl
and_assoc false b c = refl

onto_text : (b column : ℕ) (ws : List Piece) → 0 < length ws → all_text (onto_word b column ws) ≡ (is_plain b && all_text ws)
onto_text b column [] some = absurd (omega arith)
onto_text b column (w ∷ ws) some = and_assoc (is_plain b) (is_text w.text) (all_text ws)

after_word : (b column : ℕ) (bs : List ℕ) → all_text (words_from (column + 1) bs) ≡ is_text bs →
    all_text (cond (stops_here bs) (word column (b ∷ []) ∷ words_from (column + 1) bs) (onto_word b column (words_from (column + 1) bs)))
    ≡ (is_plain b && is_text bs)
after_word b column [] later = and_true (is_plain b && true)
after_word b column (c ∷ cs) later = by (is_blank c) refl where
  by : (t : Bool) → is_blank c ≡ t →
      all_text (cond t (word column (b ∷ []) ∷ words_from (column + 1) (c ∷ cs)) (onto_word b column (words_from (column + 1) (c ∷ cs))))
      ≡ (is_plain b && is_text (c ∷ cs))
  by true e = ap (λ v. v && all_text (words_from (column + 1) (c ∷ cs))) (and_true (is_plain b)) ∙ ap (λ v. is_plain b && v) later
  by false e =
      onto_text b column (words_from (column + 1) (c ∷ cs)) (subst (λ (x : List Piece). 0 < length x) (sym (word_front (column + 1) c cs e)) (omega arith))
      ∙ ap (λ v. is_plain b && v) later

word_step : (b column : ℕ) (bs : List ℕ) (t : Bool) → is_blank b ≡ t → all_text (words_from (column + 1) bs) ≡ is_text bs →
    all_text (cond t (words_from (column + 1) bs) (cond (stops_here bs) (word column (b ∷ []) ∷ words_from (column + 1) bs)
    (onto_word b column (words_from (column + 1) bs)))) ≡ (is_plain b && is_text bs)
word_step b column bs true e later = later ∙ ap (λ v. v && is_text bs) (sym (blank_plain b e))
word_step b column bs false e later = after_word b column bs later

-- a line is text where its words are
words_text : (column : ℕ) (line : List ℕ) → all_text (words_from column line) ≡ is_text line
words_text column [] = refl
words_text column (b ∷ bs) = word_step b column bs (is_blank b) refl (words_text (column + 1) bs)

short_kept : (w : List ℕ) → bytes_eq (take 64 w) (codes "%%") ≡ bytes_eq w (codes "%%")
short_kept w = go (bytes_eq w (codes "%%")) refl (bytes_eq (take 64 w) (codes "%%")) refl where
  go : (s : Bool) → bytes_eq w (codes "%%") ≡ s → (t : Bool) → bytes_eq (take 64 w) (codes "%%") ≡ t → t ≡ s
  go true e true f = refl
  go false e false f = refl
  go true e false f =
      let is : w ≡ codes "%%" = (bytes_eq-Decides w (codes "%%")).0 e in
      let again : bytes_eq (take 64 w) (codes "%%") ≡ true = ap (λ (x : List ℕ). bytes_eq (take 64 x) (codes "%%")) is in
      cc
  go false e true f =
      let is : take 64 w ≡ codes "%%" = (bytes_eq-Decides (take 64 w) (codes "%%")).0 f in
      let n : length (take 64 w) ≡ 2 = ap length is in
      let all : take 64 w ≡ w = take_all 64 w (omega (arith, length-take 64 w, n)) in
      let again : bytes_eq w (codes "%%") ≡ true = ap (λ (x : List ℕ). bytes_eq x (codes "%%")) (sym all ∙ is) in
      cc

abbrev is_mark_in : Option (List (List ℕ)) → Bool
is_mark_in None = false
is_mark_in (Some []) = false
is_mark_in (Some (h ∷ [])) = bytes_eq h (codes "%%")
is_mark_in (Some (h ∷ g ∷ hs)) = false

no_hash : (w : List ℕ) → starts_hash w ≡ true → bytes_eq w (codes "%%") ≡ false
no_hash w hash = go (bytes_eq w (codes "%%")) refl where
  go : (t : Bool) → bytes_eq w (codes "%%") ≡ t → t ≡ false
  go true e = let h : starts_hash (codes "%%") ≡ true = ap starts_hash (sym ((bytes_eq-Decides w (codes "%%")).0 e)) ∙ hash in cc
  go false e = refl

mark_text : (ws : List Piece) → is_mark ws ≡ is_mark_in (Some (cond (is_skipped ws) [] (heads ws)))
mark_text [] = refl
mark_text (w ∷ []) = go (starts_hash w.text) refl where
  go : (t : Bool) → starts_hash w.text ≡ t → bytes_eq w.text (codes "%%") ≡ is_mark_in (Some (cond t [] (take 64 w.text ∷ [])))
  go true e = no_hash w.text e
  go false e = sym (short_kept w.text)
mark_text (w ∷ v ∷ ws) = go (starts_hash w.text) where
  go : (t : Bool) → false ≡ is_mark_in (Some (cond t [] (take 64 w.text ∷ take 64 v.text ∷ heads ws)))
  go true = refl
  go false = refl

marks_are_text : (ws : List Piece) → is_mark ws ≡ true → all_text ws ≡ true
unfolding is_plain
marks_are_text [] e = refl
marks_are_text (w ∷ []) e = ap (λ (x : List ℕ). is_text x && true) ((bytes_eq-Decides w.text (codes "%%")).0 e)
marks_are_text (w ∷ v ∷ ws) e = cc

mark_bad : (line : List ℕ) → is_text line ≡ false → is_mark (words_of line) ≡ false
mark_bad line bad = go (is_mark (words_of line)) refl where
  go : (t : Bool) → is_mark (words_of line) ≡ t → t ≡ false
  go true e = let text = sym (words_text 1 line) ∙ marks_are_text (words_of line) e in cc
  go false e = refl

mark_by : (line : List ℕ) → is_mark (words_of line) ≡ is_mark_in (gist line)
mark_by line = go (is_text line) refl where
  go : (t : Bool) → is_text line ≡ t → is_mark (words_of line) ≡ is_mark_in (cond t (Some (cond (is_skipped (words_of line)) [] (heads (words_of line)))) None)
  go true e = mark_text (words_of line)
  go false e = mark_bad line e

abbrev is_mark_first : List (Option (List (List ℕ))) → Bool
is_mark_first [] = false
is_mark_first (g ∷ gs) = is_mark_in g

mark_lines : (lines : List (List ℕ)) → is_mark_line lines ≡ is_mark_first (map gist lines)
mark_lines [] = refl
mark_lines (line ∷ lines) = mark_by line

-- a line that stands for another one is the separator where that is
pub same_separator : (given line : List ℕ) → StandsFor given line → is_separator given ≡ is_separator line
unfolding is_separator
same_separator given line same = mark_lines (lines_of given) ∙ ap is_mark_first same ∙ sym (mark_lines (lines_of line))

-- it is one line where that is
pub same_line : (given line : List ℕ) → StandsFor given line → IsLine line → IsLine given
same_line given line same is = by (lines_of given) refl (same ∙ ap (map gist) is) where
  by : (lines : List (List ℕ)) → lines_of given ≡ lines → map gist lines ≡ gist (first_of (lines_of line)) ∷ [] → IsLine given
  by [] e h = cc
  by (x ∷ []) e h = one given x e
  by (x ∷ y ∷ rest) e h = cc

pub same_gist : (given line : List ℕ) → StandsFor given line → IsLine line → gist (first_of (lines_of given)) ≡ gist (first_of (lines_of line))
same_gist given line same is =
    let both : map gist (first_of (lines_of given) ∷ []) ≡ map gist (first_of (lines_of line) ∷ []) =
    sym (ap (map gist) (same_line given line same is)) ∙ same ∙ ap (map gist) is in
    first both
  where
    first : {g h : Option (List (List ℕ))} → g ∷ [] ≡ h ∷ [] → g ≡ h
    first e = cc

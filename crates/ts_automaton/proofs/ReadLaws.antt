-- A text is read as a block exactly where it is the text of the block, and else refused at its first bad line.
use Rattle.std.proofs.Common.{◌≡◌, ◌≢◌, inl, inr, ℕ, ◌+◌, Option, Some, None, Ok, Err, List, [], ◌∷◌, ◌++◌, length, map, refl, sym, ap, subst, ◌∙◌, append_assoc, append-nil, arith}
use Rattle.std.specs.Prelude.{Result}
use Rattle.std.specs.List.{concat}
use Rattle.std.proofs.lemmas.List.{length-map, map_push, length_push}
use Rattle.ts_base.specs.Words.{Words, strict_lines, without_lf, words_of, all_words, behind}
use Rattle.ts_base.proofs.WordLaws.{AreSolid, words_again, text_is, text_again, words_no_lf, line_first, lines_are}
use Rattle.ts_automaton.specs.AutomatonText.{Sheet, words_text, lines_text}
use Rattle.ts_automaton.specs.Grammar.{IsSheet, Prefix, AtHead, AtStates, AtMoves, AtEnd, Whole, prefix_words, IsPrefix, IsFirstBad, IsOpen, IsAgainstGrammar}
use Rattle.ts_automaton.specs.Reading.{with_words, with_text, with_line, onward, with_lines, end_sheet, sheet_reading}
use Rattle.ts_automaton.proofs.LineLaws.{W}
use Rattle.ts_automaton.proofs.GrowLaws.{grows, no_words}
use Rattle.ts_automaton.proofs.FollowLaws.{Follows, follow, whole_follows}

-- the text of a line has its words
line_read : (d e : Prefix) (l : W) → with_words d l ≡ Some e → AreSolid l → with_line d (words_text l) ≡ Some e
line_read d e [] h solid = absurd (no_words d e h)
line_read d e (w ∷ ws) h solid =
    let words : Words = record { first = w; more = ws } in
    ap (with_text d) (text_again words) ∙ ap (λ (x : Words). with_words d (all_words x)) (words_again words solid) ∙ h

pub follows_read : (d e : Prefix) (n : ℕ) (ls : List W) → Follows d ls e → with_lines d n (map words_text ls) ≡ Ok e
follows_read d e n [] h = ap (λ (x : Prefix). Ok x) h
follows_read d e n (l ∷ ls) h =
    ap (λ o. onward n o (λ f. with_lines f (n + 1) (map words_text ls))) (line_read d h.0 l h.1 h.2) ∙ follows_read h.0 e (n + 1) ls h.3

-- what was read is read from its text
pub text_read : (e : Prefix) → IsPrefix e → with_lines AtHead 1 (map words_text (prefix_words e)) ≡ Ok e
text_read e is = follows_read AtHead e 1 (prefix_words e) (follow e is)

pub follows_chunks : (d e : Prefix) (ls : List W) → Follows d ls e → strict_lines (lines_text ls) ≡ map words_text ls
follows_chunks d e [] h = refl
follows_chunks d e ([] ∷ ls) h = absurd (no_words d h.0 h.1)
follows_chunks d e ((w ∷ ws) ∷ ls) h =
    line_first (w ++ behind ws) (lines_text ls) (words_no_lf (record { first = w; more = ws }) h.2)
    ∙ ap (λ (x : List (List ℕ)). words_text (w ∷ ws) ∷ x) (follows_chunks h.0 e ls h.3)

-- a line that is read is the text of its words
abbrev IsLineOf : Prefix → List ℕ → Prefix → Type 0
IsLineOf d text e = (ws : W) × (text ≡ words_text ws) × (with_words d ws ≡ Some e)

line_words : (d e : Prefix) (text : List ℕ) (o : Option (List ℕ)) → without_lf text ≡ o → with_text d o ≡ Some e → IsLineOf d text e
line_words d e text None f h = cc
line_words d e text (Some line) f h = (all_words (words_of line), text_is text line f, h)

-- a line that is read is one more line, and the prefix stays in the grammar
pub line_grows : (d e : Prefix) (text : List ℕ) → IsPrefix d → with_line d text ≡ Some e → IsPrefix e × (length (prefix_words e) ≡ length (prefix_words d) + 1)
line_grows d e text is h =
    let line = line_words d e text (without_lf text) refl h in
    let more = grows d line.0 e is line.2 in
    (more.1, ap length more.0 ∙ length_push (prefix_words d) line.0)

-- lines that are read are those of what was read
record AreRead (d : Prefix) (texts : List (List ℕ)) (e : Prefix) : Type 0 where
  pub lines : List W
  pub are : texts ≡ map words_text lines
  pub words : prefix_words e ≡ prefix_words d ++ lines
  pub is : IsPrefix e

read_step : (d e : Prefix) (n : ℕ) (text : List ℕ) (texts : List (List ℕ)) (o : Option Prefix) → IsPrefix d → with_line d text ≡ o → ((f : Prefix) →
    IsPrefix f → with_lines f (n + 1) texts ≡ Ok e → AreRead f texts e) → onward n o (λ f. with_lines f (n + 1) texts) ≡ Ok e → AreRead d (text ∷ texts) e
read_step d e n text texts None is f later h = cc
read_step d e n text texts (Some g) is f later h =
    let line = line_words d g text (without_lf text) refl f in
    let more = grows d line.0 g is line.2 in
    let rest = later g more.1 h in
    record {
      lines = line.0 ∷ rest.lines;
      are = ap (λ (x : List ℕ). x ∷ texts) line.1 ∙ ap (λ (x : List (List ℕ)). words_text line.0 ∷ x) rest.are;
      words = rest.words ∙ ap (λ (x : List W). x ++ rest.lines) more.0 ∙ append_assoc (prefix_words d) (line.0 ∷ []) rest.lines;
      is = rest.is;
    }

lines_read : (d e : Prefix) (n : ℕ) (texts : List (List ℕ)) → IsPrefix d → with_lines d n texts ≡ Ok e → AreRead d texts e
lines_read d e n [] is h =
    let same : d ≡ e = cc in
    let words = ap prefix_words (sym same) ∙ sym (append-nil (prefix_words d)) in
    record { lines = []; are = refl; words = words; is = subst IsPrefix same is }
lines_read d e n (text ∷ texts) is h = read_step d e n text texts (with_line d text) is refl (λ f is_f k. lines_read f e (n + 1) texts is_f k) h

-- where the reading stops
record Stops (d : Prefix) (n : ℕ) (texts : List (List ℕ)) (k : ℕ) : Type 0 where
  pub lines : List W
  pub before : Prefix
  pub text : List ℕ
  pub after : List (List ℕ)
  pub parts : texts ≡ map words_text lines ++ (text ∷ after)
  pub words : prefix_words before ≡ prefix_words d ++ lines
  pub is : IsPrefix before
  pub against : with_line before text ≡ None
  pub place : k ≡ n + length lines

stop_step : (d : Prefix) (n k : ℕ) (text : List ℕ) (texts : List (List ℕ)) (o : Option Prefix) → IsPrefix d → with_line d text ≡ o → ((f : Prefix) →
    IsPrefix f → with_lines f (n + 1) texts ≡ Err k → Stops f (n + 1) texts k) →
    onward n o (λ f. with_lines f (n + 1) texts) ≡ Err k → Stops d n (text ∷ texts) k
stop_step d n k text texts None is f later h =
    let same : n ≡ k = cc in
    let words = sym (append-nil (prefix_words d)) in
    let place : k ≡ n + 0 = omega (arith, same) in
    record { lines = []; before = d; text = text; after = texts; parts = refl; words = words; is = is; against = f; place = place }
stop_step d n k text texts (Some g) is f later h =
    let line = line_words d g text (without_lf text) refl f in
    let more = grows d line.0 g is line.2 in
    let rest = later g more.1 h in
    let count = rest.place in
    record {
      lines = line.0 ∷ rest.lines;
      before = rest.before;
      text = rest.text;
      after = rest.after;
      parts = ap (λ (x : List ℕ). x ∷ texts) line.1 ∙ ap (λ (x : List (List ℕ)). words_text line.0 ∷ x) rest.parts;
      words = rest.words ∙ ap (λ (x : List W). x ++ rest.lines) more.0 ∙ append_assoc (prefix_words d) (line.0 ∷ []) rest.lines;
      is = rest.is;
      against = rest.against;
      place = omega (arith, count);
    }

stops : (d : Prefix) (n k : ℕ) (texts : List (List ℕ)) → IsPrefix d → with_lines d n texts ≡ Err k → Stops d n texts k
stops d n k [] is h = cc
stops d n k (text ∷ texts) is h = stop_step d n k text texts (with_line d text) is refl (λ f is_f e. stops f (n + 1) k texts is_f e) h

-- no line that may come there has that text
onward_append : (n : ℕ) (o : Option Prefix) (f : Prefix) (xs ys : List (List ℕ)) → ((d : Prefix) → with_lines d (n + 1) xs ≡ Ok f →
    (m : ℕ) × (with_lines d (n + 1) (xs ++ ys) ≡ with_lines f m ys)) → onward n o (λ d. with_lines d (n + 1) xs) ≡ Ok f →
    (m : ℕ) × (onward n o (λ d. with_lines d (n + 1) (xs ++ ys)) ≡ with_lines f m ys)
onward_append n None f xs ys later h = cc
onward_append n (Some d) f xs ys later h = later d h

lines_append : (d f : Prefix) (n : ℕ) (xs ys : List (List ℕ)) → with_lines d n xs ≡ Ok f → (m : ℕ) × (with_lines d n (xs ++ ys) ≡ with_lines f m ys)
lines_append d f n [] ys h = let same : d ≡ f = cc in (n, ap (λ (x : Prefix). with_lines x n ys) same)
lines_append d f n (x ∷ xs) ys h = onward_append n (with_line d x) f xs ys (λ g k. lines_append g f (n + 1) xs ys k) h

against_all : (d : Prefix) (text : List ℕ) → IsPrefix d → with_line d text ≡ None → (e : Prefix) (ws : W) → IsPrefix e →
    prefix_words e ≡ prefix_words d ++ (ws ∷ []) → text ≢ words_text ws
against_all d text is none e ws is_e words same =
    let whole = text_read e is_e in
    let front = text_read d is in
    let cut = lines_append AtHead d 1 (map words_text (prefix_words d)) (words_text ws ∷ []) front in
    let parts : map words_text (prefix_words e) ≡ map words_text (prefix_words d) ++ (words_text ws ∷ []) = ap (map words_text) words
    ∙ map_push words_text (prefix_words d) ws in
    let stop : with_lines d cut.0 (words_text ws ∷ []) ≡ Err cut.0 = ap (λ o. onward cut.0 o (λ f. Ok f)) (ap (with_line d) (sym same) ∙ none) in
    let wrong : Ok e ≡ Err cut.0 = sym whole ∙ ap (with_lines AtHead 1) parts ∙ cut.1 ∙ stop in
    cc

pub first_bad : (texts : List (List ℕ)) (k : ℕ) → with_lines AtHead 1 texts ≡ Err k → IsFirstBad texts k
first_bad texts k h =
    let stop = stops AtHead 1 k texts tt h in
    let count = stop.place in
    let same : stop.lines ≡ prefix_words stop.before = sym stop.words in
    record {
      before = stop.before;
      text = stop.text;
      after = stop.after;
      is = stop.is;
      parts = stop.parts ∙ ap (λ (x : List W). map words_text x ++ (stop.text ∷ stop.after)) same;
      place = count ∙ ap (λ (x : List W). 1 + length x) same ∙ one_more (length (prefix_words stop.before));
      against = against_all stop.before stop.text stop.is stop.against;
    }
  where
    one_more : (n : ℕ) → 1 + n ≡ n + 1
    one_more n = omega arith

-- whole blocks
pub written_read : (b : Sheet) → IsSheet b → sheet_reading (lines_text (prefix_words (Whole b))) ≡ Ok b
written_read b is =
    let cut = follows_chunks AtHead (Whole b) (prefix_words (Whole b)) (whole_follows b is) in
    ap (λ (x : List (List ℕ)). end_sheet (length x + 1) (with_lines AtHead 1 x)) cut
    ∙ ap (end_sheet (length (map words_text (prefix_words (Whole b))) + 1)) (text_read (Whole b) is)

ended_only : (n : ℕ) (r : Result Prefix ℕ) (b : Sheet) → end_sheet n r ≡ Ok b → r ≡ Ok (Whole b)
ended_only n (Err k) b h = cc
ended_only n (Ok AtHead) b h = cc
ended_only n (Ok (AtStates direction wide states)) b h = cc
ended_only n (Ok (AtMoves direction wide states start moves)) b h = cc
ended_only n (Ok (AtEnd c)) b h = cc
ended_only n (Ok (Whole c)) b h = let same : c ≡ b = cc in ap (λ (x : Sheet). Ok (Whole x)) same

lines_joined : (ls : List W) → concat (map words_text ls) ≡ lines_text ls
lines_joined [] = refl
lines_joined (l ∷ ls) = ap (λ (x : List ℕ). words_text l ++ x) (lines_joined ls)

pub read_written : (text : List ℕ) (b : Sheet) → sheet_reading text ≡ Ok b → IsSheet b × (text ≡ lines_text (prefix_words (Whole b)))
read_written text b h =
    let whole = ended_only (length (strict_lines text) + 1) (with_lines AtHead 1 (strict_lines text)) b h in
    let read = lines_read AtHead (Whole b) 1 (strict_lines text) tt whole in
    (read.is, sym (lines_are text) ∙ ap concat read.are ∙ lines_joined read.lines ∙ ap lines_text (sym read.words))

-- a reading that is not ended
cut_short : (texts : List (List ℕ)) (d : Prefix) (n k : ℕ) → IsOpen d → with_lines AtHead 1 texts ≡ Ok d → ◌≡◌ {A = Result Sheet ℕ} (Err n) (Err k) →
    n ≡ length texts + 1 → IsAgainstGrammar texts k
cut_short texts d n k still e h place =
    let same : n ≡ k = cc in
    let read = lines_read AtHead d 1 texts tt e in
    let are = read.are ∙ ap (map words_text) (sym read.words) in
    inr (record { prefix = d; is = read.is; open_still = still; are = are; place = sym same ∙ place })

ended_refused : (texts : List (List ℕ)) (r : Result Prefix ℕ) (k : ℕ) → with_lines AtHead 1 texts ≡ r → end_sheet (length texts + 1) r ≡ Err k →
    IsAgainstGrammar texts k
ended_refused texts (Err j) k e h = let same : j ≡ k = cc in inl (first_bad texts k (e ∙ ap (λ (x : ℕ). Err x) same))
ended_refused texts (Ok AtHead) k e h = cut_short texts AtHead _ k tt e h refl
ended_refused texts (Ok (AtStates direction wide states)) k e h = cut_short texts (AtStates direction wide states) _ k tt e h refl
ended_refused texts (Ok (AtMoves direction wide states start moves)) k e h = cut_short texts (AtMoves direction wide states start moves) _ k tt e h refl
ended_refused texts (Ok (AtEnd b)) k e h = cut_short texts (AtEnd b) _ k tt e h refl
ended_refused texts (Ok (Whole b)) k e h = cc

pub refused : (text : List ℕ) (k : ℕ) → sheet_reading text ≡ Err k → IsAgainstGrammar (strict_lines text) k
refused text k h = ended_refused (strict_lines text) (with_lines AtHead 1 (strict_lines text)) k refl h

-- and the line that is told is the first bad one
refused_on : (o : Option Prefix) (m n : ℕ) (xs ys : List (List ℕ)) (e : Prefix) (text : List ℕ) →
    ((f : Prefix) → with_lines f (n + 1) xs ≡ Ok e → with_lines f (n + 1) (xs ++ text ∷ ys) ≡ Err m) →
    onward n o (λ f. with_lines f (n + 1) xs) ≡ Ok e → onward n o (λ f. with_lines f (n + 1) (xs ++ text ∷ ys)) ≡ Err m
refused_on None m n xs ys e text later h = cc
refused_on (Some f) m n xs ys e text later h = later f h

lines_refused : (d : Prefix) (m n : ℕ) (xs ys : List (List ℕ)) (e : Prefix) (text : List ℕ) → with_lines d n xs ≡ Ok e → with_line e text ≡ None →
    m ≡ n + length xs →
    with_lines d n (xs ++ text ∷ ys) ≡ Err m
lines_refused d m n [] ys e text h none place =
    let same : d ≡ e = cc in
    let here : n ≡ m = omega (arith, place) in
    ap (λ o. onward n o (λ f. with_lines f (n + 1) ys)) (ap (λ (x : Prefix). with_line x text) same ∙ none) ∙ ap (λ (k : ℕ). Err k) here
lines_refused d m n (x ∷ xs) ys e text h none place =
    refused_on (with_line d x) m n xs ys e text (λ f k. lines_refused f m (n + 1) xs ys e text k none (omega (arith, place))) h

none_or_line : (d : Prefix) (text : List ℕ) (o : Option Prefix) → IsPrefix d → with_line d text ≡ o →
    ((e : Prefix) (ws : W) → IsPrefix e → prefix_words e ≡ prefix_words d ++ (ws ∷ []) → text ≢ words_text ws) → with_line d text ≡ None
none_or_line d text None is h against = h
none_or_line d text (Some e) is h against =
    let line = line_words d e text (without_lf text) refl h in
    let more = grows d line.0 e is line.2 in
    absurd (against e line.0 more.1 more.0 line.1)

bad_told : (texts : List (List ℕ)) (k : ℕ) → IsFirstBad texts k → with_lines AtHead 1 texts ≡ Err k
bad_told texts k bad =
    let none = none_or_line bad.before bad.text (with_line bad.before bad.text) bad.is refl bad.against in
    let count : length (map words_text (prefix_words bad.before)) ≡ length (prefix_words bad.before) = simp length-map in
    let place = bad.place in
    ap (with_lines AtHead 1) bad.parts
    ∙ lines_refused AtHead k 1 (map words_text (prefix_words bad.before)) bad.after bad.before bad.text (text_read bad.before bad.is) none
    (omega (arith, count, place))

open_told : (n : ℕ) (d : Prefix) → IsOpen d → end_sheet n (Ok d) ≡ Err n
open_told n AtHead h = refl
open_told n (AtStates direction wide states) h = refl
open_told n (AtMoves direction wide states start moves) h = refl
open_told n (AtEnd b) h = refl
open_told n (Whole b) h = absurd h

pub refused_again : (text : List ℕ) (k : ℕ) → IsAgainstGrammar (strict_lines text) k → sheet_reading text ≡ Err k
refused_again text k (inl bad) = ap (end_sheet (length (strict_lines text) + 1)) (bad_told (strict_lines text) k bad)
refused_again text k (inr short) =
    let n = length (strict_lines text) + 1 in
    ap (end_sheet n) (ap (with_lines AtHead 1) short.are ∙ text_read short.prefix short.is)
    ∙ open_told n short.prefix short.open_still
    ∙ ap (λ (m : ℕ). Err m) (sym short.place)

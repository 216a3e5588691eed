-- A byte that adds nothing to a line, whatever comes after.
use Rattle.std.proofs.Common.{◌≡◌, ℕ, ◌<◌, ◌≤◌, Bool, true, false, cond, not, ◌&&◌, Some, None, List, [], ◌∷◌, ◌++◌, length, map, refl, sym, ap, subst, ◌∙◌, arith, append_assoc, append-nil, length-append, ◌==◌, eqb-true}
use Rattle.std.proofs.lemmas.List.Folds.{list_all-append}
use Rattle.std.proofs.lemmas.Bool.{and_parts, not-true, and_left}
use Rattle.ts_base.specs.Words.{is_lf}
use Rattle.ts_base.proofs.WordLaws.{has_no_lf}
use Rattle.ts_token.specs.Text.{is_blank, is_plain, is_text, lines_of}
use Rattle.ts_token.specs.Gist.{gist, gists}
use Rattle.ts_token.specs.Places.{is_comment, EndsBlank, EndsSolid}
use Rattle.ts_token.specs.Steps.{without_cr}
use Rattle.ts_token.proofs.Fronts.{front, ending}
use Rattle.ts_token.proofs.LineLaws.{cut_by, first_cut}
use Rattle.ts_token.proofs.Heads.{AreAlike, alike_behind, long_alike, blank_alike, word_heads, gist_by, gist_is, comment_passed}

pub plain_no_lf : (b : ℕ) → is_plain b ≡ true → is_lf b ≡ false
unfolding is_lf is_plain
plain_no_lf b plain = go (b == 10) refl where
  go : (t : Bool) → b == 10 ≡ t → t ≡ false
  go true e = let is : b ≡ 10 = eqb-true b 10 e in let p : is_plain 10 ≡ true = ap is_plain (sym is) ∙ plain in cc
  go false e = refl

pub plain_no_cr : (b : ℕ) → is_plain b ≡ true → (b == 13) ≡ false
unfolding is_plain
plain_no_cr b plain = go (b == 13) refl where
  go : (t : Bool) → b == 13 ≡ t → t ≡ false
  go true e = let is : b ≡ 13 = eqb-true b 13 e in let p : is_plain 13 ≡ true = ap is_plain (sym is) ∙ plain in cc
  go false e = refl

pub text_no_lf : (k : List ℕ) → is_text k ≡ true → has_no_lf k ≡ true
text_no_lf [] text = refl
text_no_lf (b ∷ bs) text =
    let t = and_parts (is_plain b) (is_text bs) text in
    ap (λ v. not v && has_no_lf bs) (plain_no_lf b t.0) ∙ text_no_lf bs t.1

pub text_no_cr : (k : List ℕ) → is_text k ≡ true → without_cr k ≡ k
text_no_cr [] text = refl
text_no_cr (b ∷ []) text = ap (λ v. cond v [] (b ∷ [])) (plain_no_cr b (and_parts (is_plain b) true text).0)
text_no_cr (b ∷ c ∷ bs) text = ap (λ (x : List ℕ). b ∷ x) (text_no_cr (c ∷ bs) (and_parts (is_plain b) (is_text (c ∷ bs)) text).1)

-- where an end is cut off, it is cut off what comes last
pub cr_behind : (k : List ℕ) (x : ℕ) (xs : List ℕ) → without_cr (k ++ x ∷ xs) ≡ k ++ without_cr (x ∷ xs)
cr_behind [] x xs = refl
cr_behind (b ∷ []) x xs = refl
cr_behind (b ∷ c ∷ bs) x xs = ap (λ (y : List ℕ). b ∷ y) (cr_behind (c ∷ bs) x xs)

front_behind : (k more : List ℕ) → has_no_lf k ≡ true → front is_lf (k ++ more) ≡ k ++ front is_lf more
front_behind [] more none = refl
front_behind (b ∷ bs) more none =
    let n = and_parts (not (is_lf b)) (has_no_lf bs) none in
    ap (λ v. cond v [] (b ∷ front is_lf (bs ++ more))) (not-true (is_lf b) n.0) ∙ ap (λ (x : List ℕ). b ∷ x) (front_behind bs more n.1)

ending_behind : (k more : List ℕ) → has_no_lf k ≡ true → ending is_lf (k ++ more) ≡ ending is_lf more
ending_behind [] more none = refl
ending_behind (b ∷ bs) more none =
    let n = and_parts (not (is_lf b)) (has_no_lf bs) none in
    ap (λ v. cond v (b ∷ bs ++ more) (ending is_lf (bs ++ more))) (not-true (is_lf b) n.0) ∙ ending_behind bs more n.1

-- the lines of bytes without an LF and of what comes after
pub cut_behind : (b : ℕ) (bs more : List ℕ) → has_no_lf (b ∷ bs) ≡ true →
    lines_of ((b ∷ bs) ++ more) ≡ cut_by ((b ∷ bs) ++ front is_lf more) (ending is_lf more)
cut_behind b bs more none =
    first_cut b (bs ++ more) ∙ ap (λ (x : List ℕ). cut_by x (ending is_lf (b ∷ bs ++ more))) (front_behind (b ∷ bs) more none)
    ∙ ap (cut_by ((b ∷ bs) ++ front is_lf more)) (ending_behind (b ∷ bs) more none)

-- two lines of which the same is left, whether they end or go on
pub record AreSame (k w : List ℕ) : Type 0 where
  pub going : (more : List ℕ) → gist (k ++ more) ≡ gist (w ++ more)
  pub ended : (more : List ℕ) → gist (without_cr (k ++ more)) ≡ gist (without_cr (w ++ more))

same_cut : (k w more rest : List ℕ) → AreSame k w → map gist (cut_by (k ++ more) rest) ≡ map gist (cut_by (w ++ more) rest)
same_cut k w more [] same = ap (λ g. g ∷ []) (same.going more)
same_cut k w more (x ∷ rest) same = ap (λ g. g ∷ map gist (lines_of rest)) (same.ended more)

same_gists : (b c : ℕ) (bs cs more : List ℕ) → has_no_lf (b ∷ bs) ≡ true → has_no_lf (c ∷ cs) ≡ true → AreSame (b ∷ bs) (c ∷ cs) →
    gists ((b ∷ bs) ++ more) ≡ gists ((c ∷ cs) ++ more)
same_gists b c bs cs more none none' same =
    ap (map gist) (cut_behind b bs more none) ∙ same_cut (b ∷ bs) (c ∷ cs) (front is_lf more) (ending is_lf more) same
    ∙ sym (ap (map gist) (cut_behind c cs more none'))

-- the byte adds nothing
abbrev pub AddsNothing : List ℕ → ℕ → Type 0
AddsNothing k b = (more : List ℕ) → gists (k ++ more) ≡ gists (k ++ b ∷ more)

pub no_lf_more : (k : List ℕ) (b : ℕ) → has_no_lf k ≡ true → is_lf b ≡ false → has_no_lf (k ++ b ∷ []) ≡ true
no_lf_more k b none other =
    list_all-append (λ x. not (is_lf x)) k (b ∷ []) ∙ ap (λ v. v && (not (is_lf b) && true)) none ∙ ap (λ v. not v && true) other

same_adds : (k : List ℕ) (b : ℕ) → 0 < length k → has_no_lf k ≡ true → is_lf b ≡ false → AreSame k (k ++ b ∷ []) → AddsNothing k b
same_adds [] b some none other same = absurd (omega arith)
same_adds (c ∷ cs) b some none other same = λ more.
    same_gists c c cs (cs ++ b ∷ []) more none (no_lf_more (c ∷ cs) b none other) same
    ∙ ap gists (append_assoc (c ∷ cs) (b ∷ []) more)

-- a byte of text adds nothing to a line of text, if it adds nothing wherever the line goes on
text_same : (k : List ℕ) (b : ℕ) → is_text k ≡ true → is_plain b ≡ true → ((more : List ℕ) → gist (k ++ more) ≡ gist (k ++ b ∷ more)) →
    AreSame k (k ++ b ∷ [])
text_same k b text plain on = record {
  going = λ more. on more ∙ ap gist (sym (append_assoc k (b ∷ []) more));
  ended = λ more. by more;
}
  where
    by : (more : List ℕ) → gist (without_cr (k ++ more)) ≡ gist (without_cr ((k ++ b ∷ []) ++ more))
    by [] =
        ap (λ (x : List ℕ). gist (without_cr x)) (append-nil k) ∙ ap gist (text_no_cr k text) ∙ ap gist (sym (append-nil k)) ∙ on []
        ∙ ap gist (sym (cr_behind k b [] ∙ ap (λ v. k ++ cond v [] (b ∷ [])) (plain_no_cr b plain)))
        ∙ ap (λ (x : List ℕ). gist (without_cr x)) (sym (append-nil (k ++ b ∷ [])))
    by (x ∷ xs) =
        ap gist (cr_behind k x xs) ∙ on (without_cr (x ∷ xs)) ∙ ap gist (sym (append_assoc k (b ∷ []) (without_cr (x ∷ xs))))
        ∙ ap gist (sym (cr_behind (k ++ b ∷ []) x xs))

text_adds : (k : List ℕ) (b : ℕ) → 0 < length k → is_text k ≡ true → is_plain b ≡ true → ((more : List ℕ) → gist (k ++ more) ≡ gist (k ++ b ∷ more)) →
    AddsNothing k b
text_adds k b some text plain on = same_adds k b some (text_no_lf k text) (plain_no_lf b plain) (text_same k b text plain on)

-- the byte changes nothing of whether the line is text
text_kept : (k more : List ℕ) (b : ℕ) → is_plain b ≡ true → is_text (k ++ more) ≡ is_text (k ++ b ∷ more)
text_kept k more b plain =
    list_all-append is_plain k more ∙ ap (λ v. is_text k && (v && is_text more)) (sym plain) ∙ sym (list_all-append is_plain k (b ∷ more))

alike_gist : (k more : List ℕ) (b : ℕ) → is_plain b ≡ true → AreAlike (k ++ more) (k ++ b ∷ more) → gist (k ++ more) ≡ gist (k ++ b ∷ more)
alike_gist k more b plain same =
    gist_is (k ++ more) ∙ ap (λ v. gist_by v (word_heads (k ++ more))) (text_kept k more b plain) ∙ ap (gist_by (is_text (k ++ b ∷ more))) same.words
    ∙ sym (gist_is (k ++ b ∷ more))

-- a blank after a blank
pub blank_adds : (k : List ℕ) (b : ℕ) → is_text k ≡ true → EndsBlank k → is_plain b ≡ true → is_blank b ≡ true → AddsNothing k b
blank_adds k b text ends plain blank = text_adds k b some text plain (λ more. alike_gist k more b plain (alike more)) where
  some : 0 < length k
  some = subst (λ (x : List ℕ). 0 < length x) (sym ends.parts) (filled ends.front) where
    filled : (front : List ℕ) → 0 < length (front ++ ends.blank ∷ [])
    filled [] = omega arith
    filled (x ∷ xs) = omega arith

  alike : (more : List ℕ) → AreAlike (k ++ more) (k ++ b ∷ more)
  alike more =
      subst (λ (x : List ℕ). AreAlike (x ++ more) (x ++ b ∷ more)) (sym ends.parts)
      (subst (λ (x : List ℕ). AreAlike x ((ends.front ++ ends.blank ∷ []) ++ b ∷ more)) (sym (append_assoc ends.front (ends.blank ∷ []) more))
      (subst (AreAlike (ends.front ++ ends.blank ∷ more)) (sym (append_assoc ends.front (ends.blank ∷ []) (b ∷ more)))
      (alike_behind ends.front (ends.blank ∷ more) (ends.blank ∷ b ∷ more) (blank_alike ends.blank b more ends.is blank))))

-- a byte of a long word
pub long_adds : (k : List ℕ) (b n : ℕ) → is_text k ≡ true → EndsSolid n k → 64 ≤ n → is_plain b ≡ true → is_blank b ≡ false → AddsNothing k b
long_adds k b n text ends long plain solid = text_adds k b some text plain (λ more. alike_gist k more b plain (alike more)) where
  some : 0 < length k
  some = subst (λ (x : List ℕ). 0 < length x) (sym ends.parts) (omega (arith, ends.long, length-append ends.front ends.word))

  alike : (more : List ℕ) → AreAlike (k ++ more) (k ++ b ∷ more)
  alike more =
      subst (λ (x : List ℕ). AreAlike (x ++ more) (x ++ b ∷ more)) (sym ends.parts)
      (subst (λ (x : List ℕ). AreAlike x ((ends.front ++ ends.word) ++ b ∷ more)) (sym (append_assoc ends.front ends.word more))
      (subst (AreAlike (ends.front ++ (ends.word ++ more))) (sym (append_assoc ends.front ends.word (b ∷ more)))
      (alike_behind ends.front (ends.word ++ more) (ends.word ++ b ∷ more) (long_alike ends.word more b ends.solid solid (omega (arith, ends.long, long))))))

comment_gist : (k more : List ℕ) → is_comment k ≡ true → gist (k ++ more) ≡ cond (is_text (k ++ more)) (Some []) None
comment_gist k more is =
    gist_is (k ++ more) ∙ ap (λ v. cond (is_text (k ++ more)) (Some (cond v [] (word_heads (k ++ more)))) None) (comment_passed k more is)

-- a byte of a comment
pub comment_adds : (k : List ℕ) (b : ℕ) → is_text k ≡ true → is_comment k ≡ true → is_plain b ≡ true → AddsNothing k b
comment_adds [] b text is plain = cc
comment_adds (c ∷ cs) b text is plain = text_adds (c ∷ cs) b (omega arith) text plain on where
  on : (more : List ℕ) → gist ((c ∷ cs) ++ more) ≡ gist ((c ∷ cs) ++ b ∷ more)
  on more =
      comment_gist (c ∷ cs) more is ∙ ap (λ v. cond v (Some []) None) (text_kept (c ∷ cs) more b plain) ∙ sym (comment_gist (c ∷ cs) (b ∷ more) is)

not_text : (line : List ℕ) → is_text line ≡ false → gist line ≡ None
not_text line bad = gist_is line ∙ ap (λ v. gist_by v (word_heads line)) bad

-- bytes after one that isn't text
bad_on : (k more : List ℕ) → is_text k ≡ false → gist (k ++ more) ≡ None
bad_on k more bad = not_text (k ++ more) (list_all-append is_plain k more ∙ and_left (is_text k) (is_text more) bad)

before_more : (t a b : Bool) → (a ≡ false → b ≡ false) → (t && a) ≡ false → (t && b) ≡ false
before_more true a b later e = later e
before_more false a b later e = refl

pub bad_before_cr : (k : List ℕ) → is_text (without_cr k) ≡ false → is_text k ≡ false
bad_before_cr [] bad = bad
bad_before_cr (b ∷ []) bad = go (b == 13) bad where
  go : (t : Bool) → is_text (cond t [] (b ∷ [])) ≡ false → is_text (b ∷ []) ≡ false
  go true e = cc
  go false e = e
bad_before_cr (b ∷ c ∷ bs) bad = before_more (is_plain b) (is_text (without_cr (c ∷ bs))) (is_text (c ∷ bs)) (bad_before_cr (c ∷ bs)) bad

bad_ended : (k more : List ℕ) → is_text (without_cr k) ≡ false → gist (without_cr (k ++ more)) ≡ None
bad_ended k [] bad = not_text (without_cr (k ++ [])) (ap (λ (x : List ℕ). is_text (without_cr x)) (append-nil k) ∙ bad)
bad_ended k (x ∷ xs) bad = ap gist (cr_behind k x xs) ∙ bad_on k (without_cr (x ∷ xs)) (bad_before_cr k bad)

-- any byte after one that isn't text
pub bad_adds : (k : List ℕ) (b : ℕ) → has_no_lf k ≡ true → is_text (without_cr k) ≡ false → is_lf b ≡ false → AddsNothing k b
bad_adds [] b none bad other = cc
bad_adds (c ∷ cs) b none bad other = same_adds (c ∷ cs) b (omega arith) none other (record {
  going = λ more. bad_on (c ∷ cs) more before
      ∙ sym (ap gist (append_assoc (c ∷ cs) (b ∷ []) more) ∙ bad_on (c ∷ cs) (b ∷ more) before);
  ended = λ more. bad_ended (c ∷ cs) more bad
      ∙ sym (ap (λ (x : List ℕ). gist (without_cr x)) (append_assoc (c ∷ cs) (b ∷ []) more) ∙ bad_ended (c ∷ cs) (b ∷ more) bad);
})
  where
    before : is_text (c ∷ cs) ≡ false
    before = bad_before_cr (c ∷ cs) bad

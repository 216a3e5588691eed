-- Where a byte leads, and that a byte which is left out adds nothing.
use Rattle.std.proofs.Common.{◌≡◌, ℕ, ◌+◌, Bool, true, false, cond, not, ◌&&◌, Some, None, List, [], ◌∷◌, ◌++◌, refl, ap, subst, ◌∙◌, arith, append_assoc, length-append, nat_lt, ◌==◌, eqb-true}
use Rattle.std.specs.Prelude.{Option}
use Rattle.std.specs.List.{list_all}
use Rattle.std.proofs.lemmas.Bool.{ltb-false, and_parts}
use Rattle.std.proofs.lemmas.List.Folds.{list_all-append}
use Rattle.ts_base.specs.Words.{is_lf}
use Rattle.ts_base.proofs.WordLaws.{has_no_lf}
use Rattle.ts_token.specs.declared.short.Place.{Place}
use Rattle.ts_token.specs.declared.short.Place.TheVariants.{Start, Margin, Blank, Word, Comment, Return, NotText, Ended}
use Rattle.ts_token.specs.Text.{is_blank, is_plain, is_text}
use Rattle.ts_token.specs.Places.{is_comment, EndsBlank, EndsSolid, IsAt, blank_place, solid_place, text_place, place_on, place_after}
use Rattle.ts_token.specs.Steps.{is_solid}
use Rattle.ts_token.proofs.Drops.{AddsNothing, text_no_lf, blank_adds, long_adds, comment_adds, bad_adds, cr_behind, no_lf_more}

-- where a byte leads from bytes at a place: on to another place, or it adds nothing
abbrev Leads : List ℕ → ℕ → Option Place → Type 0
Leads k b (Some q) = IsAt q (k ++ b ∷ [])
Leads k b None = AddsNothing k b

text_more : (k : List ℕ) (b : ℕ) → is_text k ≡ true → is_plain b ≡ true → is_text (k ++ b ∷ []) ≡ true
text_more k b text plain = list_all-append is_plain k (b ∷ []) ∙ ap (λ v. v && (is_plain b && true)) text ∙ ap (λ v. v && true) plain

bad_more : (k : List ℕ) (b : ℕ) → is_text k ≡ true → is_plain b ≡ false → is_text (k ++ b ∷ []) ≡ false
bad_more k b text bad = list_all-append is_plain k (b ∷ []) ∙ ap (λ v. v && (is_plain b && true)) text ∙ ap (λ v. v && true) bad

still_bad : (k : List ℕ) (b : ℕ) → is_text k ≡ false → is_text (k ++ b ∷ []) ≡ false
still_bad k b bad = list_all-append is_plain k (b ∷ []) ∙ ap (λ v. v && (is_plain b && true)) bad

blanks_more : (k : List ℕ) (b : ℕ) → list_all is_blank k ≡ true → is_blank b ≡ true → list_all is_blank (k ++ b ∷ []) ≡ true
blanks_more k b all blank = list_all-append is_blank k (b ∷ []) ∙ ap (λ v. v && (is_blank b && true)) all ∙ ap (λ v. v && true) blank

hash_more : (k : List ℕ) (b : ℕ) → list_all is_blank k ≡ true → is_blank b ≡ false → (b == 35) ≡ true → is_comment (k ++ b ∷ []) ≡ true
hash_more [] b all solid hash = ap (λ v. cond v false (b == 35)) solid ∙ hash
hash_more (c ∷ cs) b all solid hash =
    let s = and_parts (is_blank c) (list_all is_blank cs) all in
    ap (λ v. cond v (is_comment (cs ++ b ∷ [])) (c == 35)) s.0 ∙ hash_more cs b s.1 solid hash

pub ends_blank : (k : List ℕ) (b : ℕ) → is_blank b ≡ true → EndsBlank (k ++ b ∷ [])
ends_blank k b blank = record { front = k; blank = b; parts = refl; is = blank }

one_solid : (k : List ℕ) (b : ℕ) → is_blank b ≡ false → EndsSolid 1 (k ++ b ∷ [])
one_solid k b solid = record {
  front = k;
  word = b ∷ [];
  parts = refl;
  solid = ap (λ v. not v && true) solid;
  long = omega arith;
}

more_solid : (k : List ℕ) (b n : ℕ) → EndsSolid n k → is_blank b ≡ false → EndsSolid (n + 1) (k ++ b ∷ [])
more_solid k b n ends solid = record {
  front = ends.front;
  word = ends.word ++ b ∷ [];
  parts = ap (λ (x : List ℕ). x ++ b ∷ []) ends.parts ∙ append_assoc ends.front ends.word (b ∷ []);
  solid = list_all-append is_solid ends.word (b ∷ []) ∙ ap (λ v. v && (is_solid b && true)) ends.solid ∙ ap (λ v. not v && true) solid;
  long = omega (arith, ends.long, length-append ends.word (b ∷ []));
}

-- of bytes of text
first_solid : (k : List ℕ) (b : ℕ) → is_text k ≡ true → list_all is_blank k ≡ true → is_plain b ≡ true → is_blank b ≡ false →
    Leads k b (cond (b == 35) (Some Comment) (Some (Word 1)))
first_solid k b text all plain solid = go (b == 35) refl where
  go : (t : Bool) → b == 35 ≡ t → Leads k b (cond t (Some Comment) (Some (Word 1)))
  go true e = (text_more k b text plain, hash_more k b all solid e)
  go false e = (text_more k b text plain, one_solid k b solid)

long_solid : (k : List ℕ) (b n : ℕ) → is_text k ≡ true → EndsSolid n k → is_plain b ≡ true → is_blank b ≡ false →
    Leads k b (cond (nat_lt n 64) (Some (Word (n + 1))) None)
long_solid k b n text ends plain solid = go (nat_lt n 64) refl where
  go : (t : Bool) → nat_lt n 64 ≡ t → Leads k b (cond t (Some (Word (n + 1))) None)
  go true e = (text_more k b text plain, more_solid k b n ends solid)
  go false e = long_adds k b n text ends (ltb-false n 64 e) plain solid

-- bytes of text
abbrev IsTextAt : Place → List ℕ → Type 0
IsTextAt Start k = k ≡ []
IsTextAt Margin k = IsAt Margin k
IsTextAt Blank k = IsAt Blank k
IsTextAt (Word n) k = IsAt (Word n) k
IsTextAt Comment k = IsAt Comment k
IsTextAt Return k = ⊥
IsTextAt NotText k = ⊥
IsTextAt Ended k = ⊥

is_text_at : (p : Place) (k : List ℕ) → IsTextAt p k → is_text k ≡ true
is_text_at Start k at = ap is_text at
is_text_at Margin k at = at.0
is_text_at Blank k at = at.0
is_text_at (Word n) k at = at.0
is_text_at Comment k at = at.0
is_text_at Return k at = absurd at
is_text_at NotText k at = absurd at
is_text_at Ended k at = absurd at

by_solid : (p : Place) (k : List ℕ) (b : ℕ) → IsTextAt p k → is_plain b ≡ true → is_blank b ≡ false → Leads k b (solid_place p b)
by_solid Start k b at plain solid = first_solid k b (ap is_text at) (ap (list_all is_blank) at) plain solid
by_solid Margin k b at plain solid = first_solid k b at.0 at.1 plain solid
by_solid Blank k b at plain solid = (text_more k b at.0 plain, one_solid k b solid)
by_solid (Word n) k b at plain solid = long_solid k b n at.0 at.1 plain solid
by_solid Comment k b at plain solid = comment_adds k b at.0 at.1 plain
by_solid Return k b at plain solid = absurd at
by_solid NotText k b at plain solid = absurd at
by_solid Ended k b at plain solid = absurd at

by_blank : (p : Place) (k : List ℕ) (b : ℕ) → IsTextAt p k → is_plain b ≡ true → is_blank b ≡ true → Leads k b (blank_place p)
by_blank Start k b at plain blank =
    (text_more k b (ap is_text at) plain, blanks_more k b (ap (list_all is_blank) at) blank, ends_blank k b blank)
by_blank Margin k b at plain blank = blank_adds k b at.0 at.2 plain blank
by_blank Blank k b at plain blank = blank_adds k b at.0 at.1 plain blank
by_blank (Word n) k b at plain blank = (text_more k b at.0 plain, ends_blank k b blank)
by_blank Comment k b at plain blank = comment_adds k b at.0 at.1 plain
by_blank Return k b at plain blank = absurd at
by_blank NotText k b at plain blank = absurd at
by_blank Ended k b at plain blank = absurd at

-- a byte that isn't text, and no CR
bad_at : (k : List ℕ) (b : ℕ) → is_text k ≡ true → is_lf b ≡ false → (b == 13) ≡ false → is_plain b ≡ false → IsAt NotText (k ++ b ∷ [])
bad_at k b text lf cr bad = (
  no_lf_more k b (text_no_lf k text) lf,
  ap is_text (cr_behind k b [] ∙ ap (λ v. k ++ cond v [] (b ∷ [])) cr) ∙ bad_more k b text bad,
)

cr_bad : is_plain 13 ≡ false
unfolding is_plain
cr_bad = refl

cr_at : (k : List ℕ) (b : ℕ) → is_text k ≡ true → is_lf b ≡ false → (b == 13) ≡ true → IsAt Return (k ++ b ∷ [])
cr_at k b text lf cr = (no_lf_more k b (text_no_lf k text) lf, bad_more k b text (ap is_plain (eqb-true b 13 cr) ∙ cr_bad))

by_text : (p : Place) (k : List ℕ) (b : ℕ) → IsTextAt p k → is_lf b ≡ false → Leads k b (text_place p b)
by_text p k b at lf = go (b == 13) refl where
  on_blank : (t : Bool) → is_blank b ≡ t → is_plain b ≡ true → Leads k b (cond t (blank_place p) (solid_place p b))
  on_blank true e plain = by_blank p k b at plain e
  on_blank false e plain = by_solid p k b at plain e

  on_plain : (t : Bool) → is_plain b ≡ t → (b == 13) ≡ false → Leads k b (cond (not t) (Some NotText) (cond (is_blank b) (blank_place p) (solid_place p b)))
  on_plain true e cr = on_blank (is_blank b) refl e
  on_plain false e cr = bad_at k b (is_text_at p k at) lf cr e

  go : (t : Bool) → b == 13 ≡ t →
      Leads k b (cond t (Some Return) (cond (not (is_plain b)) (Some NotText) (cond (is_blank b) (blank_place p) (solid_place p b))))
  go true e = cr_at k b (is_text_at p k at) lf e
  go false e = on_plain (is_plain b) refl e

-- after a byte that isn't text, where it is a CR and no LF follows
behind_cr : (k : List ℕ) (b : ℕ) → has_no_lf k ≡ true → is_text k ≡ false → is_lf b ≡ false → IsAt NotText (k ++ b ∷ [])
behind_cr k b none bad lf = (
  no_lf_more k b none lf,
  ap is_text (cr_behind k b []) ∙ list_all-append is_plain k (cond (b == 13) [] (b ∷ [])) ∙ ap (λ v. v && is_text (cond (b == 13) [] (b ∷ []))) bad,
)

by_place : (p : Place) (k : List ℕ) (b : ℕ) → IsAt p k → is_lf b ≡ false → Leads k b (place_on p b)
by_place Start k b at lf = by_text Start k b at lf
by_place Margin k b at lf = by_text Margin k b at lf
by_place Blank k b at lf = by_text Blank k b at lf
by_place (Word n) k b at lf = by_text (Word n) k b at lf
by_place Comment k b at lf = by_text Comment k b at lf
by_place Return k b at lf = behind_cr k b at.0 at.1 lf
by_place NotText k b at lf = bad_adds k b at.0 at.1 lf
by_place Ended k b at lf = tt

other_lf : (b : ℕ) → b == 10 ≡ false → is_lf b ≡ false
unfolding is_lf
other_lf b e = e

leads : (p : Place) (k : List ℕ) (b : ℕ) → IsAt p k → Leads k b (place_after p b)
leads p k b at = go (b == 10) refl where
  go : (t : Bool) → b == 10 ≡ t → Leads k b (cond t (Some Ended) (place_on p b))
  go true e = tt
  go false e = by_place p k b at (other_lf b e)

pub next_place : (p q : Place) (k : List ℕ) (b : ℕ) → IsAt p k → place_after p b ≡ Some q → IsAt q (k ++ b ∷ [])
next_place p q k b at e = subst (Leads k b) e (leads p k b at)

pub left_out : (p : Place) (k : List ℕ) (b : ℕ) → IsAt p k → place_after p b ≡ None → AddsNothing k b
left_out p k b at e = subst (Leads k b) e (leads p k b at)

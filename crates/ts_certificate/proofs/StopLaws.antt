-- What the reader makes of a line is what the line is.
use Rattle.std.proofs.Common.{◌≡◌, ◌≢◌, ℕ, ◌^◌, ◌<◌, ◌+◌, Bool, true, false, not, cond, Option, Some, None, Ok, Err, List, refl, sym, ap, ◌∙◌, codes, ◌&&◌, arith}
use Rattle.std.specs.Prelude.{Result, ◌==◌}
use Rattle.std.specs.Cmp.Derive.{both_true}
use Rattle.std.specs.Str.{bytes_eq}
use Rattle.std.proofs.lemmas.Bool.{not-true, not_from_false, and_parts}
use Rattle.std.proofs.lemmas.Bool.Decides.{nat_tests}
use Rattle.std.proofs.lemmas.Slice.Eq.{bytes_eq-Decides}
use Rattle.ts_base.specs.Words.{Words, without_lf, words_of, full_line}
use Rattle.ts_base.proofs.WordLaws.{words_again, text_is, text_again}
use Rattle.ts_certificate.specs.declared.state.State.{State}
use Rattle.ts_certificate.specs.declared.state.State.TheVariants.{Start, AfterAim, InSeries, InTree, AfterEnd}
use Rattle.ts_certificate.specs.declared.stop.LineStop.{LineStop}
use Rattle.ts_certificate.specs.declared.stop.LineStop.TheVariants.{Grammar, Counts, Memory}
use Rattle.ts_certificate.specs.Grammar.{CertLine, SaysAim, SaysClaim, SaysSeries, SaysTree, SaysEnd, line_text, end_words, may_follow, may_come, difference, IsOtherCount, IsLine}
use Rattle.ts_certificate.specs.HeadLines.{aim_of, claim_of, series_of}
use Rattle.ts_certificate.specs.LineOf.{as_line, end_of, end_or_stop, line_of_words, line_if, line_of}
use Rattle.ts_certificate.specs.Ranges.{is_whole}
use Rattle.ts_certificate.specs.Reading.{tree_lines}
use Rattle.ts_certificate.specs.TreeLines.{tree_of}
use Rattle.ts_certificate.proofs.HeadLaws.{end_only, end_again, end_solid}
use Rattle.ts_certificate.proofs.LineLaws.{line_of_only, line_of_again, counts_small}

whole_small : (n : ℕ) → is_whole n ≡ true → n < 2 ^ 63
whole_small n h = grind (arith, nat_tests)

small_whole : (n : ℕ) → n < 2 ^ 63 → is_whole n ≡ true
small_whole n h = grind (arith, nat_tests)

-- what may follow may come
pub follows_comes : (s : State) (l : CertLine) → tree_lines s < 2 ^ 63 → may_follow s l ≡ true → may_come s l ≡ true
follows_comes (InTree c u) (SaysEnd p o) few h =
    let k = counts_small c u p o few h in
    both_true (and_parts (not (c + u == 0)) (p == c && o == u) h).0 (both_true (small_whole p k.3) (small_whole o k.4))
follows_comes s l few h = h

-- the text of an end line is read as its two counts
end_read : (c u p o : ℕ) → p < 2 ^ 63 → o < 2 ^ 63 → line_of (InTree c u) (line_text (SaysEnd p o)) ≡ end_or_stop c u (Some (p, o))
end_read c u p o f g =
    ap (line_if (InTree c u)) (text_again (end_words p o))
    ∙ ap (line_of_words (InTree c u)) (words_again (end_words p o) (end_solid p o f g))
    ∙ ap (end_or_stop c u) (end_again p o f g)

-- the answers to an end line, by what its tests say: is there no tree line, are the first counts one, and the others
abbrev end_answer : ℕ → ℕ → ℕ → ℕ → Bool → Bool → Bool → Result CertLine LineStop
end_answer c u p o r s t = cond r (Err Grammar) (cond s (cond t (Ok (SaysEnd p o)) (Err (Counts o u))) (Err (Counts p c)))

abbrev other_count : ℕ → ℕ → ℕ → ℕ → Bool → Bool → Option (ℕ × ℕ)
other_count c u p o s t = cond {A = Option (ℕ × ℕ)} s (cond t None (Some (o, u))) (Some (p, c))

-- a difference is what is told of the end line
differs_told : (c u p o said found : ℕ) (s t : Bool) → other_count c u p o s t ≡ Some (said, found) → end_answer c u p o false s t ≡ Err (Counts said found)
differs_told c u p o said found true true k = cc
differs_told c u p o said found true false k = let same : ◌≡◌ {A = ℕ × ℕ} (o, u) (said, found) = cc in ap (λ (x : ℕ × ℕ). Err (Counts x.0 x.1)) same
differs_told c u p o said found false t k = let same : ◌≡◌ {A = ℕ × ℕ} (p, c) (said, found) = cc in ap (λ (x : ℕ × ℕ). Err (Counts x.0 x.1)) same

come_end : (c u p o : ℕ) → may_come (InTree c u) (SaysEnd p o) ≡ true → (c + u == 0 ≡ false) × (p < 2 ^ 63) × (o < 2 ^ 63)
come_end c u p o h =
    let each = and_parts (not (c + u == 0)) (is_whole p && is_whole o) h in
    let rest = and_parts (is_whole p) (is_whole o) each.1 in
    (not-true (c + u == 0) each.0, whole_small p rest.0, whole_small o rest.1)

-- an end line with another count is told as such
counts_told : (s : State) (p o said found : ℕ) → may_come s (SaysEnd p o) ≡ true → difference s p o ≡ Some (said, found) →
    line_of s (line_text (SaysEnd p o)) ≡ Err (Counts said found)
counts_told (InTree c u) p o said found h k =
    let fits = come_end c u p o h in
    end_read c u p o fits.1 fits.2
    ∙ ap (λ r. end_answer c u p o r (p == c) (o == u)) fits.0
    ∙ differs_told c u p o said found (p == c) (o == u) k
counts_told s p o said found h k = cc

no_refusal : (c u p o : ℕ) (r s t : Bool) → r ≡ false → end_answer c u p o r s t ≡ Err Grammar → ⊥
no_refusal c u p o true s t f k = cc
no_refusal c u p o false true true f k = cc
no_refusal c u p o false true false f k = cc
no_refusal c u p o false false t f k = cc

follows_taken : (s : State) (l : CertLine) → tree_lines s < 2 ^ 63 → may_follow s l ≡ true → line_of s (line_text l) ≢ Err Grammar
follows_taken s l few h e = let ok = line_of_again s l few h in cc

-- a line that may come is not refused
comes_taken : (s : State) (l : CertLine) → tree_lines s < 2 ^ 63 → may_come s l ≡ true → line_of s (line_text l) ≢ Err Grammar
comes_taken (InTree c u) (SaysEnd p o) few h e =
    let fits = come_end c u p o h in
    no_refusal c u p o (c + u == 0) (p == c) (o == u) fits.0 (sym (end_read c u p o fits.1 fits.2) ∙ e)
comes_taken s l few h e = follows_taken s l few h e

-- an end line of which another count is told
told_differs : (c u p o said found : ℕ) (r s t : Bool) → c + u == 0 ≡ r → p == c ≡ s → o == u ≡ t → end_answer c u p o r s t ≡ Err (Counts said found) →
    (c + u == 0 ≡ false) × (other_count c u p o (p == c) (o == u) ≡ Some (said, found))
told_differs c u p o said found true s t f g h k = cc
told_differs c u p o said found false true true f g h k = cc
told_differs c u p o said found false true false f g h k =
    let same : ◌≡◌ {A = Option (ℕ × ℕ)} (Some (o, u)) (Some (said, found)) = cc in
    (f, ap (λ v. other_count c u p o v (o == u)) g ∙ ap (λ v. other_count c u p o true v) h ∙ same)
told_differs c u p o said found false false t f g h k =
    let same : ◌≡◌ {A = Option (ℕ × ℕ)} (Some (p, c)) (Some (said, found)) = cc in
    (f, ap (λ v. other_count c u p o v (o == u)) g ∙ same)

end_told : (c u : ℕ) (ws : List (List ℕ)) (e : Option (ℕ × ℕ)) (text : List ℕ) (said found : ℕ) → text ≡ full_line (record { first = codes "end"; more = ws }) →
    end_of ws ≡ e → end_or_stop c u e ≡ Err (Counts said found) → IsOtherCount (InTree c u) text said found
end_told c u ws None text x y is f h = cc
end_told c u ws (Some e) text x y is f h =
    let read = end_only ws e f in
    let why = told_differs c u e.0 e.1 x y (c + u == 0) (e.0 == c) (e.1 == u) refl refl refl h in
    record {
      checked = e.0;
      unsearched = e.1;
      come = both_true (not_from_false (c + u == 0) why.0) (both_true (small_whole e.0 read.1) (small_whole e.1 read.2));
      is = is ∙ ap (λ (x : List (List ℕ)). full_line (record { first = codes "end"; more = x })) read.0;
      differ = why.1;
    }

no_counts : {X : Type 0} (f : X → CertLine) (o : Option X) (x y : ℕ) → as_line f o ≡ Err (Counts x y) → ⊥
no_counts f None x y h = cc
no_counts f (Some v) x y h = cc

tree_told : (c u : ℕ) (w : Words) (text : List ℕ) (x y : ℕ) (t : Bool) → bytes_eq w.first (codes "end") ≡ t → text ≡ full_line w →
    cond t (end_or_stop c u (end_of w.more)) (as_line SaysTree (tree_of w)) ≡ Err (Counts x y) → IsOtherCount (InTree c u) text x y
tree_told c u w text x y true e is h =
    let word : w.first ≡ codes "end" = (bytes_eq-Decides w.first (codes "end")).0 e in
    end_told c u w.more (end_of w.more) text x y (is ∙ ap (λ (x : List ℕ). full_line (record { first = x; more = w.more })) word) refl h
tree_told c u w text x y false e is h = absurd (no_counts SaysTree (tree_of w) x y h)

words_told : (s : State) (w : Words) (text : List ℕ) (x y : ℕ) → text ≡ full_line w → line_of_words s w ≡ Err (Counts x y) → IsOtherCount s text x y
words_told Start w text x y is h = absurd (no_counts SaysAim (aim_of w) x y h)
words_told (AfterAim a) w text x y is h = absurd (no_counts SaysClaim (claim_of a w) x y h)
words_told (InSeries n) w text x y is h = absurd (no_counts SaysSeries (series_of w) x y h)
words_told (InTree c u) w text x y is h = tree_told c u w text x y (bytes_eq w.first (codes "end")) refl is h
words_told AfterEnd w text x y is h = cc

line_told : (s : State) (text : List ℕ) (line : Option (List ℕ)) (x y : ℕ) → without_lf text ≡ line → line_if s line ≡ Err (Counts x y) →
    IsOtherCount s text x y
line_told s text None x y e h = cc
line_told s text (Some line) x y e h = words_told s (words_of line) text x y (text_is text line e) h

-- memory is no matter of the grammar
no_memory : {X : Type 0} (f : X → CertLine) (o : Option X) → as_line f o ≡ Err Memory → ⊥
no_memory f None h = cc
no_memory f (Some v) h = cc

end_memory : (c u : ℕ) (e : Option (ℕ × ℕ)) → end_or_stop c u e ≡ Err Memory → ⊥
end_memory c u None h = cc
end_memory c u (Some e) h = go (c + u == 0) (e.0 == c) (e.1 == u) h where
  go : (r s t : Bool) → end_answer c u e.0 e.1 r s t ≡ Err Memory → ⊥
  go true s t k = cc
  go false true true k = cc
  go false true false k = cc
  go false false t k = cc

words_memory : (s : State) (w : Words) → line_of_words s w ≡ Err Memory → ⊥
words_memory Start w h = no_memory SaysAim (aim_of w) h
words_memory (AfterAim a) w h = no_memory SaysClaim (claim_of a w) h
words_memory (InSeries n) w h = no_memory SaysSeries (series_of w) h
words_memory (InTree c u) w h = go (bytes_eq w.first (codes "end")) h where
  go : (t : Bool) → cond t (end_or_stop c u (end_of w.more)) (as_line SaysTree (tree_of w)) ≡ Err Memory → ⊥
  go true k = end_memory c u (end_of w.more) k
  go false k = no_memory SaysTree (tree_of w) k
words_memory AfterEnd w h = cc

line_memory : (s : State) (line : Option (List ℕ)) → line_if s line ≡ Err Memory → ⊥
line_memory s None h = cc
line_memory s (Some line) h = words_memory s (words_of line) h

is_line : (s : State) (text : List ℕ) (g : Result CertLine LineStop) → tree_lines s < 2 ^ 63 → line_of s text ≡ g → IsLine s text g
is_line s text (Ok l) few e = let read = line_of_only s text l e in (read.1, read.0)
is_line s text (Err Grammar) few e = λ l may is. comes_taken s l few may (ap (line_of s) (sym is) ∙ e)
is_line s text (Err (Counts x y)) few e = line_told s text (without_lf text) x y refl e
is_line s text (Err Memory) few e = line_memory s (without_lf text) e

-- what the reader makes of a line is what the line is
pub line_is : (s : State) (text : List ℕ) → tree_lines s < 2 ^ 63 → IsLine s text (line_of s text)
line_is s text few = is_line s text (line_of s text) few refl

refused_only : (s : State) (text : List ℕ) (g : Result CertLine LineStop) → tree_lines s < 2 ^ 63 → IsLine s text (Err Grammar) → IsLine s text g →
    g ≡ Err Grammar
refused_only s text (Ok l) few none is = absurd (none l (follows_comes s l few is.0) is.1)
refused_only s text (Err Grammar) few none is = refl
refused_only s text (Err (Counts x y)) few none is = absurd (none (SaysEnd is.checked is.unsearched) is.come is.is)
refused_only s text (Err Memory) few none is = absurd is

-- and a line is one thing alone
pub one_line : (s : State) (text : List ℕ) (g : Result CertLine LineStop) → tree_lines s < 2 ^ 63 → IsLine s text g → line_of s text ≡ g
one_line s text (Ok l) few is = ap (line_of s) is.1 ∙ line_of_again s l few is.0
one_line s text (Err Grammar) few is = refused_only s text (line_of s text) few is (line_is s text few)
one_line s text (Err (Counts x y)) few is = ap (line_of s) is.is ∙ counts_told s is.checked is.unsearched x y is.come is.differ
one_line s text (Err Memory) few is = absurd is

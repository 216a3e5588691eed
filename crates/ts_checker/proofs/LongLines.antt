-- What is kept of a long line of a certificate is judged as the whole line, whatever follows both.
use Rattle.std.proofs.Common.{◌≡◌, ℕ, zero, suc, ◌+◌, ◌*◌, ◌^◌, ◌<◌, ◌≤◌, inl, inr, Bool, true, false, cond, Option, Some, None, Err, List, [], ◌∷◌, ◌++◌, length, refl, sym, ap, subst, ◌∙◌, arith, codes, append_assoc}
use Rattle.std.specs.Prelude.{ℤ, pos, nat_le, is_some}
use Rattle.std.specs.Str.{bytes_eq}
use Rattle.std.proofs.lemmas.Bool.Decides.{nat_tests}
use Rattle.std.proofs.lemmas.List.{length-append}
use Rattle.std.proofs.lemmas.Slice.Eq.{bytes_eq-Decides}
use Rattle.ts_base.specs.Words.{is_space, Words, after_space, all_words, behind, onto_word, plain_line, words_of}
use Rattle.ts_base.proofs.WordLaws.{different, lf_again, line_is}
use Rattle.ts_certificate.specs.declared.certificate.Aim.TheVariants.{Best as BestOf, List as ListOf}
use Rattle.ts_certificate.specs.declared.state.State.{State}
use Rattle.ts_certificate.specs.declared.state.State.TheVariants.{Start, AfterAim, InSeries, InTree, AfterEnd}
use Rattle.ts_certificate.specs.declared.stop.LineStop.TheVariants.{Grammar}
use Rattle.ts_certificate.specs.Grammar.{SaysSeries}
use Rattle.ts_certificate.specs.HeadLines.{onto_values, some_values, values_of}
use Rattle.ts_certificate.specs.LineOf.{as_line, line_if, line_of_words}
use Rattle.ts_certificate.specs.Ranges.{value_of}
use Rattle.ts_certificate.specs.Reading.{WantsSeries, tree_lines}
use Rattle.ts_checker.specs.Shortened.{AreAlike, IsSmall, Shortens, open_behind, open_number, open_word, series_of_zeros, zeros}
use Rattle.ts_checker.proofs.LineSizes.{long_refused, value_short}

-- the words of bytes that are joined: the last of the first bytes goes on

abbrev words : List ℕ → List (List ℕ) → Words
words first more = record { first = first; more = more }

abbrev glued : List ℕ → List (List ℕ) → Words → Words
glued f [] w = words (f ++ w.first) w.more
glued f (v ∷ vs) w = words f (all_words (glued v vs w))

onto_glued : (b : ℕ) (f : List ℕ) (vs : List (List ℕ)) (w : Words) → onto_word b (glued f vs w) ≡ glued (b ∷ f) vs w
onto_glued b f [] w = refl
onto_glued b f (v ∷ vs) w = refl

join_step : (b : ℕ) (t : Bool) (u all w : Words) → all ≡ glued u.first u.more w →
    cond t (after_space all) (onto_word b all) ≡ glued (cond t (after_space u) (onto_word b u)).first (cond t (after_space u) (onto_word b u)).more w
join_step b true u all w e = ap after_space e
join_step b false u all w e = ap (onto_word b) e ∙ onto_glued b u.first u.more w

words_join : (xs ys : List ℕ) → words_of (xs ++ ys) ≡ glued (words_of xs).first (words_of xs).more (words_of ys)
words_join [] ys = refl
words_join (b ∷ bs) ys = join_step b (is_space b) (words_of bs) (words_of (bs ++ ys)) (words_of ys) (words_join bs ys)

-- the last word is one word

abbrev last_of : List ℕ → List (List ℕ) → List ℕ
last_of f [] = f
last_of f (v ∷ vs) = last_of v vs

abbrev IsWord : List ℕ → Type 0
IsWord w = words_of w ≡ words w []

last_onto : (b : ℕ) (f : List ℕ) (vs : List (List ℕ)) → is_space b ≡ false → IsWord (last_of f vs) → IsWord (last_of (b ∷ f) vs)
last_onto b f [] e h = ap (λ t. cond t (after_space (words_of f)) (onto_word b (words_of f))) e ∙ ap (onto_word b) h
last_onto b f (v ∷ vs) e h = h

last_step : (b : ℕ) (t : Bool) (u : Words) → is_space b ≡ t → IsWord (last_of u.first u.more) →
    IsWord (last_of (cond t (after_space u) (onto_word b u)).first (cond t (after_space u) (onto_word b u)).more)
last_step b true u e h = h
last_step b false u e h = last_onto b u.first u.more e h

last_word : (line : List ℕ) → IsWord (last_of (words_of line).first (words_of line).more)
last_word [] = refl
last_word (b ∷ bs) = last_step b (is_space b) (words_of bs) refl (last_word bs)

-- numbers read before those of the rest

abbrev ahead : List ℤ → Option (List ℤ) → Option (List ℤ)
ahead vs None = None
ahead vs (Some more) = Some (vs ++ more)

one_ahead : (v : ℤ) (vs : List ℤ) (o : Option (List ℤ)) → onto_values (Some v) (ahead vs o) ≡ ahead (v ∷ vs) o
one_ahead v vs None = refl
one_ahead v vs (Some more) = refl

none_ahead : (o : Option (List ℤ)) → o ≡ ahead [] o
none_ahead None = refl
none_ahead (Some more) = refl

-- words all before the last of which are numbers

record IsOpen (f : List ℕ) (vs : List (List ℕ)) (last : List ℕ) : Type 0 where
  values : List ℤ
  many : length values ≡ length vs
  short : length (behind (f ∷ vs)) ≤ 9 * length vs + 9
  is_last : last_of f vs ≡ last
  last_short : length last ≤ 8
  reads : (w : Words) → values_of (all_words (glued f vs w)) ≡ ahead values (values_of ((last ++ w.first) ∷ w.more))

open_last : (f last : List ℕ) (t : Bool) → nat_le (length f) 8 ≡ t → cond t (Some f) None ≡ Some last → IsOpen f [] last
open_last f last false e h = cc
open_last f last true e h =
    let same : f ≡ last = cc in
    let size = length-append f [] in
    let few : length f ≤ 8 = grind (arith, nat_tests) in
    record {
      values = [];
      many = refl;
      short = omega (arith, size, few);
      is_last = same;
      last_short = subst (λ (x : List ℕ). length x ≤ 8) same few;
      reads = λ w. none_ahead (values_of ((f ++ w.first) ∷ w.more)) ∙ ap (λ (x : List ℕ). ahead [] (values_of ((x ++ w.first) ∷ w.more))) same;
    }

open_more : (f v last : List ℕ) (vs : List (List ℕ)) (x : ℤ) → value_of f ≡ Some x → IsOpen v vs last → IsOpen f (v ∷ vs) last
open_more f v last vs x is o =
    let size = length-append f (behind (v ∷ vs)) in
    let few = value_short f x is in
    let rest = o.short in
    record {
      values = x ∷ o.values;
      many = ap suc o.many;
      short = omega (arith, size, few, rest);
      is_last = o.is_last;
      last_short = o.last_short;
      reads = λ w.
          ap (λ y. onto_values y (values_of (all_words (glued v vs w)))) is ∙ ap (onto_values (Some x)) (o.reads w)
          ∙ one_ahead x o.values (values_of ((last ++ w.first) ∷ w.more));
    }

by_value : (f v last : List ℕ) (vs : List (List ℕ)) (o : Option ℤ) → value_of f ≡ o → (open_word v vs ≡ Some last → IsOpen v vs last) →
    cond (is_some o) (open_word v vs) None ≡ Some last → IsOpen f (v ∷ vs) last
by_value f v last vs None e later h = cc
by_value f v last vs (Some x) e later h = open_more f v last vs x e (later h)

open_only : (f : List ℕ) (vs : List (List ℕ)) (last : List ℕ) → open_word f vs ≡ Some last → IsOpen f vs last
open_only f [] last h = open_last f last (nat_le (length f) 8) refl h
open_only f (v ∷ vs) last h = by_value f v last vs (value_of f) refl (open_only v vs last) h

too_long : (f more : List ℕ) (rest : List (List ℕ)) (t : Bool) → nat_le (length f) 8 ≡ t → cond t (Some f) None ≡ None →
    values_of ((f ++ more) ∷ rest) ≡ None
too_long f more rest true e h = cc
too_long f more rest false e h = go (value_of (f ++ more)) refl
  where
    go : (o : Option ℤ) → value_of (f ++ more) ≡ o → onto_values o (values_of rest) ≡ None
    go None k = refl
    go (Some x) k =
        let few = value_short (f ++ more) x k in
        let size = length-append f more in
        let many : 8 < length f = grind (arith, nat_tests) in
        absurd (omega (arith, few, size, many))

none_by : (f v : List ℕ) (vs : List (List ℕ)) (w : Words) (o : Option ℤ) → value_of f ≡ o →
    (open_word v vs ≡ None → values_of (all_words (glued v vs w)) ≡ None) → cond (is_some o) (open_word v vs) None ≡ None →
    values_of (f ∷ all_words (glued v vs w)) ≡ None
none_by f v vs w None e later h = ap (λ y. onto_values y (values_of (all_words (glued v vs w)))) e
none_by f v vs w (Some x) e later h =
    ap (λ y. onto_values y (values_of (all_words (glued v vs w)))) e ∙ ap (onto_values (Some x)) (later h)

open_none : (f : List ℕ) (vs : List (List ℕ)) → open_word f vs ≡ None → (w : Words) → values_of (all_words (glued f vs w)) ≡ None
open_none f [] h w = too_long f w.first w.more (nat_le (length f) 8) refl h
open_none f (v ∷ vs) h w = none_by f v vs w (value_of f) refl (λ k. open_none v vs k w) h

-- zeros in place of the numbers

series_words : (r : List ℕ) → words_of (codes "series " ++ r) ≡ words (codes "series") (all_words (words_of r))
unfolding is_space
series_words r = refl

zero_words : (r : List ℕ) → words_of (48 ∷ 32 ∷ r) ≡ words (48 ∷ []) (all_words (words_of r))
unfolding is_space
zero_words r = refl

abbrev nones : ℕ → List ℤ
nones zero = []
nones (suc n) = pos 0 ∷ nones n

nones_many : (n : ℕ) → length (nones n) ≡ n
nones_many zero = refl
nones_many (suc n) = ap suc (nones_many n)

zeros_read : (n : ℕ) (r : List ℕ) → values_of (all_words (words_of (zeros n ++ r))) ≡ ahead (nones n) (values_of (all_words (words_of r)))
zeros_read zero r = none_ahead (values_of (all_words (words_of r)))
zeros_read (suc n) r =
    ap (λ w. values_of (all_words w)) (zero_words (zeros n ++ r))
    ∙ ap (onto_values (Some (pos 0))) (zeros_read n r)
    ∙ one_ahead (pos 0) (nones n) (values_of (all_words (words_of r)))

-- lines that begin with `series`, by the numbers of their other words

some_long : (vs : List ℤ) → 512 < length vs → some_values (Some vs) ≡ Some vs
some_long [] h = absurd (omega (arith, h))
some_long (v ∷ vs) h = refl

series_alike : (n : ℕ) (a b : List (List ℕ)) (xs ys : List ℤ) (o : Option (List ℤ)) → values_of a ≡ ahead xs o → values_of b ≡ ahead ys o →
    ((zs : List ℤ) → o ≡ Some zs → (512 < length (xs ++ zs)) × (512 < length (ys ++ zs))) →
    AreAlike (as_line SaysSeries (some_values (values_of a))) (as_line SaysSeries (some_values (values_of b)))
series_alike n a b xs ys None e f long =
    inl (ap (λ v. as_line SaysSeries (some_values v)) e, ap (λ v. as_line SaysSeries (some_values v)) f)
series_alike n a b xs ys (Some zs) e f long =
    let both = long zs refl in
    inr (record {
      few = xs ++ zs;
      all = ys ++ zs;
      kept_is = ap (λ v. as_line SaysSeries (some_values v)) e ∙ ap (as_line SaysSeries) (some_long (xs ++ zs) both.0);
      line_is = ap (λ v. as_line SaysSeries (some_values v)) f ∙ ap (as_line SaysSeries) (some_long (ys ++ zs) both.1);
      kept_long = both.0;
      line_long = both.1;
    })

words_alike : (s : State) (a b : List (List ℕ)) (xs ys : List ℤ) (o : Option (List ℤ)) → values_of a ≡ ahead xs o → values_of b ≡ ahead ys o →
    ((zs : List ℤ) → o ≡ Some zs → (512 < length (xs ++ zs)) × (512 < length (ys ++ zs))) →
    AreAlike (line_of_words s (words (codes "series") a)) (line_of_words s (words (codes "series") b))
words_alike Start a b xs ys o e f long = inl (refl, refl)
words_alike (AfterAim (BestOf g)) a b xs ys o e f long = inl (refl, refl)
words_alike (AfterAim (ListOf m)) a b xs ys o e f long = inl (refl, refl)
words_alike (InSeries n) a b xs ys o e f long = series_alike n a b xs ys o e f long
words_alike (InTree c u) a b xs ys o e f long = inl (refl, refl)
words_alike AfterEnd a b xs ys o e f long = inl (refl, refl)

series_none : (s : State) (a : List (List ℕ)) → values_of a ≡ None → line_of_words s (words (codes "series") a) ≡ Err Grammar
series_none Start a e = refl
series_none (AfterAim (BestOf g)) a e = refl
series_none (AfterAim (ListOf m)) a e = refl
series_none (InSeries n) a e = ap (λ v. as_line SaysSeries (some_values v)) e
series_none (InTree c u) a e = refl
series_none AfterEnd a e = refl

some_first : (w : List ℕ) (ws : List (List ℕ)) (zs : List ℤ) → values_of (w ∷ ws) ≡ Some zs → 1 ≤ length zs
some_first w ws zs h = go (value_of w) (values_of ws) h
  where
    go : (o : Option ℤ) (p : Option (List ℤ)) → onto_values o p ≡ Some zs → 1 ≤ length zs
    go None p k = cc
    go (Some v) None k = cc
    go (Some v) (Some vs) k =
        let same : v ∷ vs ≡ zs = cc in
        let size = ap length same in
        omega (arith, size)

module _ (line : List ℕ) (long : 4615 < length line) where
  size_is : (f : List ℕ) (vs : List (List ℕ)) → words_of line ≡ words f vs → length line ≡ length f + length (behind vs)
  size_is f vs is = ap length (sym (line_is line) ∙ ap plain_line is) ∙ length-append f (behind vs)

  -- zeros, and the number at which the series goes on
  module _ (f : List ℕ) (vs : List (List ℕ)) (is : words_of line ≡ words (codes "series") (f ∷ vs)) where
    joined : (more : List ℕ) → words_of (line ++ more) ≡ words (codes "series") (all_words (glued f vs (words_of more)))
    joined more = words_join line more ∙ ap (λ (w : Words). glued w.first w.more (words_of more)) is

    open_kept : (last : List ℕ) (n : ℕ) → 512 < n → open_word f vs ≡ Some last → Shortens line (series_of_zeros n ++ last)
    open_kept last n many said =
        let o = open_only f vs last said in
        let word : IsWord last = subst IsWord (ap (λ (w : Words). last_of w.first w.more) is ∙ o.is_last) (last_word line) in
        let size = size_is (codes "series") (f ∷ vs) is in
        let short = o.short in
        let count = o.many in
        let zeros_count = nones_many n in
        record {
          some = omega (arith, long);
          left = let a = length-append (series_of_zeros n) last in let b = length-append (codes "series ") (zeros n) in omega (arith, a, b);
          alike = λ more s few.
              let w = words_of more in
              let rest = zeros n ++ (last ++ more) in
              let end = values_of ((last ++ w.first) ∷ w.more) in
              let kept : words_of ((series_of_zeros n ++ last) ++ more) ≡ words (codes "series") (all_words (words_of rest)) =
              ap words_of (append_assoc (series_of_zeros n) last more ∙ append_assoc (codes "series ") (zeros n) (last ++ more)) ∙ series_words rest in
              let tail : words_of (last ++ more) ≡ words (last ++ w.first) w.more =
              words_join last more ∙ ap (λ (u : Words). glued u.first u.more w) word in
              let few_read : values_of (all_words (words_of rest)) ≡ ahead (nones n) end =
              zeros_read n (last ++ more) ∙ ap (λ u. ahead (nones n) (values_of (all_words u))) tail in
              let both : (zs : List ℤ) → end ≡ Some zs → (512 < length (nones n ++ zs)) × (512 < length (o.values ++ zs)) =
              λ zs e.
              let one = some_first (last ++ w.first) w.more zs e in
              let a = length-append (nones n) zs in
              let b = length-append o.values zs in
              (omega (arith, a, zeros_count, many), omega (arith, b, count, one, short, size, long)) in
              subst (λ u. AreAlike (line_of_words s u) (line_of_words s (words_of (line ++ more)))) (sym kept)
              (subst (λ u. AreAlike (line_of_words s (words (codes "series") (all_words (words_of rest)))) (line_of_words s u)) (sym (joined more))
              (words_alike s (all_words (words_of rest)) (all_words (glued f vs w)) (nones n) o.values end few_read (o.reads w) both));
        }

    open_refused : open_word f vs ≡ None → (more : List ℕ) (s : State) → line_of_words s (words_of (line ++ more)) ≡ Err Grammar
    open_refused none more s =
        ap (line_of_words s) (joined more) ∙ series_none s (all_words (glued f vs (words_of more))) (open_none f vs none (words_of more))

  -- a line that doesn't begin with `series`

  other_first : (f : List ℕ) (vs : List (List ℕ)) (w : Words) → words_of line ≡ words f vs → bytes_eq f (codes "series") ≡ false →
      bytes_eq (glued f vs w).first (codes "series") ≡ false
  other_first f [] w is e =
      let size = size_is f [] is in
      let more = length-append f w.first in
      different (f ++ w.first) (codes "series") (λ same. let six = ap length same in omega (arith, size, more, six, long))
  other_first f (v ∷ vs) w is e = e

  not_series : (n : ℕ) (w : Words) → bytes_eq w.first (codes "series") ≡ false → line_of_words (InSeries n) w ≡ Err Grammar
  not_series n w e = ap (λ t. as_line SaysSeries (cond t (some_values (values_of w.more)) None)) e

  by_length : (more : List ℕ) (s : State) → (WantsSeries s → ⊥) → tree_lines s < 2 ^ 63 → line_of_words s (words_of (line ++ more)) ≡ Err Grammar
  by_length more s other few =
      let a = length-append line more in
      let b = length-append (line ++ more) (10 ∷ []) in
      sym (ap (line_if s) (lf_again (line ++ more))) ∙ long_refused s ((line ++ more) ++ 10 ∷ []) other few (omega (arith, a, b, long))

  other_refused : (f : List ℕ) (vs : List (List ℕ)) → words_of line ≡ words f vs → bytes_eq f (codes "series") ≡ false → (more : List ℕ) (s : State) →
      tree_lines s < 2 ^ 63 → line_of_words s (words_of (line ++ more)) ≡ Err Grammar
  other_refused f vs is e more Start few = by_length more Start (λ n. n) few
  other_refused f vs is e more (AfterAim a) few = by_length more (AfterAim a) (λ n. n) few
  other_refused f vs is e more (InSeries n) few =
      let all = words_join line more ∙ ap (λ (w : Words). glued w.first w.more (words_of more)) is in
      ap (line_of_words (InSeries n)) all ∙ not_series n (glued f vs (words_of more)) (other_first f vs (words_of more) is e)
  other_refused f vs is e more (InTree c u) few = by_length more (InTree c u) (λ n. n) few
  other_refused f vs is e more AfterEnd few = by_length more AfterEnd (λ n. n) few

  refused_by : (f : List ℕ) (vs : List (List ℕ)) (t : Bool) → words_of line ≡ words f vs → bytes_eq f (codes "series") ≡ t →
      cond t (open_behind vs) None ≡ None → (more : List ℕ) (s : State) → tree_lines s < 2 ^ 63 → line_of_words s (words_of (line ++ more)) ≡ Err Grammar
  refused_by f vs false is e none more s few = other_refused f vs is e more s few
  refused_by f [] true is e none more s few =
      let size = size_is f [] is in
      let six = ap length ((bytes_eq-Decides f (codes "series")).0 e) in
      absurd (omega (arith, size, six, long))
  refused_by f (v ∷ vs) true is e none more s few =
      open_refused v vs (is ∙ ap (λ (x : List ℕ). words x (v ∷ vs)) ((bytes_eq-Decides f (codes "series")).0 e)) none more s

  -- no line begins with the byte 63
  no_line : (more : List ℕ) (s : State) → line_of_words s (words_of (63 ∷ more)) ≡ Err Grammar
  unfolding is_space
  no_line more Start = refl
  no_line more (AfterAim (BestOf g)) = refl
  no_line more (AfterAim (ListOf m)) = refl
  no_line more (InSeries n) = refl
  no_line more (InTree c u) = refl
  no_line more AfterEnd = refl

  pub none_kept : open_number (words_of line) ≡ None → Shortens line (63 ∷ [])
  none_kept none = record {
    some = omega (arith, long);
    left = omega arith;
    alike = λ more s few. inl (
      no_line more s,
      refused_by (words_of line).first (words_of line).more (bytes_eq (words_of line).first (codes "series")) refl refl none more s few,
    );
  }

  number_by : (w : Words) (t : Bool) (last : List ℕ) (n : ℕ) → words_of line ≡ w → bytes_eq w.first (codes "series") ≡ t →
      cond t (open_behind w.more) None ≡ Some last → 512 < n → Shortens line (series_of_zeros n ++ last)
  number_by w false last n is e h many = cc
  number_by w true last n is e h many = go w.more refl h
    where
      go : (vs : List (List ℕ)) → w.more ≡ vs → open_behind vs ≡ Some last → Shortens line (series_of_zeros n ++ last)
      go [] f k = cc
      go (v ∷ vs) f k =
          open_kept v vs (is ∙ ap (λ (x : List ℕ). words x w.more) ((bytes_eq-Decides w.first (codes "series")).0 e) ∙ ap (words (codes "series")) f)
          last n many k

  pub series_kept : (last : List ℕ) (n : ℕ) → 512 < n → open_number (words_of line) ≡ Some last → Shortens line (series_of_zeros n ++ last)
  series_kept last n many h = number_by (words_of line) (bytes_eq (words_of line).first (codes "series")) last n refl refl h many

pub kept_mark : (line : List ℕ) → 4615 < length line → (old new : List ℕ) → open_number (words_of line) ≡ None → old ≡ [] → new ≡ old ++ 63 ∷ [] →
    Shortens line new
kept_mark line long old new none empty is =
    subst (Shortens line) (sym (is ∙ ap (λ (x : List ℕ). x ++ 63 ∷ []) empty)) (none_kept line long none)

pub kept_series : (line : List ℕ) → 4615 < length line → (last old new : List ℕ) (n : ℕ) → 512 < n → open_number (words_of line) ≡ Some last →
    old ≡ series_of_zeros n → new ≡ old ++ last → Shortens line new
kept_series line long last old new n many some zeroed is =
    subst (Shortens line) (sym (is ∙ ap (λ (x : List ℕ). x ++ last) zeroed)) (series_kept line long last n many some)

-- a zero more

zeros_end : (n : ℕ) → zeros n ++ 48 ∷ 32 ∷ [] ≡ zeros (suc n)
zeros_end zero = refl
zeros_end (suc n) = ap (λ (x : List ℕ). 48 ∷ 32 ∷ x) (zeros_end n)

pub zeros_more : (n : ℕ) (old new : List ℕ) → old ≡ series_of_zeros n → new ≡ old ++ 48 ∷ 32 ∷ [] → new ≡ series_of_zeros (n + 1)
zeros_more n old new is more =
    more ∙ ap (λ (x : List ℕ). x ++ 48 ∷ 32 ∷ []) is ∙ append_assoc (codes "series ") (zeros n) (48 ∷ 32 ∷ [])
    ∙ ap (λ (x : List ℕ). codes "series " ++ x) (zeros_end n) ∙ ap series_of_zeros (next n)
  where
    next : (n : ℕ) → suc n ≡ n + 1
    next n = omega arith

-- few bytes

zeros_size : (n : ℕ) → length (zeros n) ≡ n + n
zeros_size zero = refl
zeros_size (suc n) = let size = zeros_size n in omega (arith, size)

number_size : (w : Words) (last : List ℕ) → open_number w ≡ Some last → length last ≤ 8
number_size w last h = go (bytes_eq w.first (codes "series")) w.more h
  where
    go : (t : Bool) (ws : List (List ℕ)) → cond t (open_behind ws) None ≡ Some last → length last ≤ 8
    go false ws k = cc
    go true [] k = cc
    go true (v ∷ vs) k = (open_only v vs last k).last_short

pub series_small : (w : Words) (last old new : List ℕ) (n : ℕ) → n < 514 → open_number w ≡ Some last → old ≡ series_of_zeros n → new ≡ old ++ last →
    IsSmall new
series_small w last old new n few some zeroed is =
    let all = ap length is in
    let parts = length-append old last in
    let front = ap length zeroed in
    let words = length-append (codes "series ") (zeros n) in
    let size = zeros_size n in
    let short = number_size w last some in
    omega (arith, all, parts, front, words, size, short, few)

pub mark_small : (old new : List ℕ) → old ≡ [] → new ≡ old ++ 63 ∷ [] → IsSmall new
mark_small old new empty is =
    let all = ap length (is ∙ ap (λ (x : List ℕ). x ++ 63 ∷ []) empty) in omega (arith, all)

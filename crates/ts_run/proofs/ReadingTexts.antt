-- The values of the terms, put after a text one after the other.
use Rattle.std.proofs.Common.{◌≡◌, ◌≤◌, ℕ, ◌+◌, Some, List, [], ◌∷◌, ◌++◌, drop, length, map, take, sym, ◌∙◌, ap, append_assoc, append-nil, arith}
use Rattle.std.proofs.lemmas.List.{length-map}
use Rattle.std.specs.Prelude.{slice_get}
use Rattle.std.specs.Fmt.{decimal}
use Rattle.std.proofs.Math.ListN.{drop_of_length-le}
use Rattle.std.proofs.Math.Seq.{take-append_seam}
use Rattle.ts_base.specs.declared.ext.Ext.{Ext}
use Rattle.ts_base.specs.Text.{ext_text}
use Rattle.ts_base.specs.Words.{behind}
use Rattle.ts_compile.proofs.Terms.{drop_at}

-- the number of readings is written
pub number_written : (values : List Ext) (old text : List ℕ) (count n : ℕ) → text ≡ old ++ decimal count → count ≡ n →
    text ++ behind (map ext_text (drop 0 values)) ≡ old ++ (decimal n ++ behind (map ext_text values))
number_written values old text count n put same =
    ap (λ (t : List ℕ). t ++ behind (map ext_text values)) (put ∙ ap (λ (k : ℕ). old ++ decimal k) same)
    ∙ append_assoc old (decimal n) (behind (map ext_text values))

-- one more of the values is written
pub value_written : (values : List Ext) (k : ℕ) (value : Ext) (text more all : List ℕ) → slice_get values k ≡ Some value →
    text ++ behind (map ext_text (drop k values)) ≡ all → more ≡ text ++ 32 ∷ ext_text value →
    more ++ behind (map ext_text (drop (k + 1) values)) ≡ all
value_written values k value text more all there so_far put =
    let left = behind (map ext_text (drop (k + 1) values)) in
    ap (λ (t : List ℕ). t ++ left) put ∙ append_assoc text (32 ∷ ext_text value) left
    ∙ ap (λ (vs : List Ext). text ++ behind (map ext_text vs)) (sym (drop_at values k value there)) ∙ so_far

-- as many values as terms
pub few_values : {A : Type 0} (f : A → Ext) (terms : List A) (values : List Ext) (k : ℕ) → map f terms ≡ values → length terms ≤ k → length values ≤ k
few_values f terms values k is few =
    let count = length-map terms f in
    let same = ap (λ (vs : List Ext). length vs) is in
    omega (arith, count, same, few)

-- all values are written, and the line's end
pub line_written : (values : List Ext) (k : ℕ) (old text more row : List ℕ) → length values ≤ k → text ++ behind (map ext_text (drop k values)) ≡ old ++ row →
    more ≡ text ++ 10 ∷ [] → more ≡ old ++ (row ++ 10 ∷ [])
line_written values k old text more row all so_far put =
    put
    ∙ ap (λ (t : List ℕ). t ++ 10 ∷ [])
    (sym (append-nil text) ∙ ap (λ (vs : List Ext). text ++ behind (map ext_text vs)) (sym (drop_of_length-le values all)) ∙ so_far)
    ∙ append_assoc old row (10 ∷ [])

-- what was put after a text is cut off again
pub cut_back : (old text now front : List ℕ) (n : ℕ) → n ≡ length old → text ≡ old ++ front → now ≡ take n text → now ≡ old
cut_back old text now front n long put cut =
    cut ∙ ap (λ (k : ℕ). take k text) long ∙ ap (take (length old)) put ∙ take-append_seam old front

-- what was put after a text, and more after that
pub put_twice : (text mid more front piece : List ℕ) → mid ≡ text ++ front → more ≡ mid ++ piece → more ≡ text ++ (front ++ piece)
put_twice text mid more front piece e f = f ∙ ap (λ (t : List ℕ). t ++ piece) e ∙ append_assoc text front piece

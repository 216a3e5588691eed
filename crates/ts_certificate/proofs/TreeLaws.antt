-- The words of a tree line are read as that line, and what is read as a line has its words.
use Rattle.std.proofs.Common.{◌≡◌, ℕ, true, Option, Some, None, List, [], ◌∷◌, refl, sym, ap, subst, ◌∙◌, codes, ◌&&◌, lit<}
use Rattle.std.specs.Prelude.{ℤ}
use Rattle.std.specs.Option.{option_map}
use Rattle.std.specs.Fmt.{signed_decimal}
use Rattle.ts_certificate.specs.declared.certificate.TreeLine.{TreeLine}
use Rattle.ts_certificate.specs.declared.certificate.TreeLine.TheVariants.{Split, Remove, No, Worse, Yes, Unsearched}
use Rattle.ts_base.specs.Words.{is_lf, is_space, Words, all_words}
use Rattle.ts_certificate.specs.WordCounts.{one_of, two_of, three_of, if_alone}
use Rattle.ts_certificate.specs.Ranges.{count_text, is_value, value_of, is_cell, cell_of, is_requirement, requirement_of}
use Rattle.ts_certificate.specs.TreeLines.{tree_words, is_tree_line, split_made, remove_made, no_made, worse_made, split_from, remove_from, no_from, worse_from, split_of, remove_of, no_of, worse_of, tree_of}
use Rattle.ts_base.proofs.WordLaws.{is_solid, AreSolid, keyword_or}
use Rattle.std.specs.Cmp.Derive.{both_true}
use Rattle.std.proofs.lemmas.Bool.{and_parts}
use Rattle.ts_certificate.proofs.NumberLaws.{count_only, count_again, count_solid, value_only, value_again, value_solid}

-- at this first word
pub at_word : (P : List ℕ → Type 0) (first text : List ℕ) → first ≡ text → P text → P first
at_word P first text is h = subst P (sym is) h

-- what is made of a value that was read
pub made_of : {V X : Type 0} (P : X → Type 0) (make : V → X) (o : Option V) (x : X) → ((v : V) → o ≡ Some v → P (make v)) → option_map make o ≡ Some x → P x
made_of P make None x f h = cc
made_of P make (Some v) x f h = let same : make v ≡ x = cc in subst P same (f v refl)

-- no word is left, and x is the value
pub alone_only : {X : Type 0} (P : List (List ℕ) → X → Type 0) (y x : X) (ws : List (List ℕ)) → P [] y → if_alone y ws ≡ Some x → P ws x
alone_only P y x [] p h = let same : y ≡ x = cc in subst (P []) same p
alone_only P y x (w ∷ ws) p h = cc

-- exactly one word, two or three
pub one_only : (ws : List (List ℕ)) (a : List ℕ) → one_of ws ≡ Some a → ws ≡ a ∷ []
one_only [] a h = cc
one_only (b ∷ []) a h = let same : b ≡ a = cc in ap (λ (x : List ℕ). x ∷ []) same
one_only (b ∷ c ∷ ws) a h = cc

pub two_only : (ws : List (List ℕ)) (p : List ℕ × List ℕ) → two_of ws ≡ Some p → ws ≡ p.0 ∷ p.1 ∷ []
two_only [] p h = cc
two_only (a ∷ []) p h = cc
two_only (a ∷ b ∷ []) p h = let same : (a, b) ≡ p = cc in ap (λ (q : List ℕ × List ℕ). q.0 ∷ q.1 ∷ []) same
two_only (a ∷ b ∷ c ∷ ws) p h = cc

pub three_only : (ws : List (List ℕ)) (p : List ℕ × List ℕ × List ℕ) → three_of ws ≡ Some p → ws ≡ p.0 ∷ p.1 ∷ p.2 ∷ []
three_only [] p h = cc
three_only (a ∷ []) p h = cc
three_only (a ∷ b ∷ []) p h = cc
three_only (a ∷ b ∷ c ∷ []) p h = let same : (a, b, c) ≡ p = cc in ap (λ (q : List ℕ × List ℕ × List ℕ). q.0 ∷ q.1 ∷ q.2 ∷ []) same
three_only (a ∷ b ∷ c ∷ d ∷ ws) p h = cc

-- the words are those of the line, which keeps its ranges
abbrev pub IsTree : List ℕ → List (List ℕ) → TreeLine → Type 0
IsTree first more l = (record { first = first; more = more } ≡ tree_words l) × (is_tree_line l ≡ true)

split_some : (a b : List ℕ) (k : Option ℕ) (t : Option ℤ) (l : TreeLine) → cell_of a ≡ k → value_of b ≡ t → split_made k t ≡ Some l →
    IsTree (codes "split") (a ∷ b ∷ []) l
split_some a b None t l e f h = cc
split_some a b (Some k) None l e f h = cc
split_some a b (Some k) (Some t) l e f h =
    let same : Split k t ≡ l = cc in
    let first = count_only 1 512 a k e in
    let second = value_only b t f in
    let here : IsTree (codes "split") (a ∷ b ∷ []) (Split k t) = (
      ap (λ (x : List ℕ). record { first = codes "split"; more = x ∷ b ∷ [] }) first.0
          ∙ ap (λ (x : List ℕ). record { first = codes "split"; more = count_text k ∷ x ∷ [] }) second.0,
      both_true first.1 second.1,
    ) in
    subst (IsTree (codes "split") (a ∷ b ∷ [])) same here

split_only : (ws : List (List ℕ)) (o : Option (List ℕ × List ℕ)) (l : TreeLine) → two_of ws ≡ o → split_from o ≡ Some l → IsTree (codes "split") ws l
split_only ws None l e h = cc
split_only ws (Some p) l e h = subst (λ (x : List (List ℕ)). IsTree (codes "split") x l) (sym (two_only ws p e))
    (split_some p.0 p.1 (cell_of p.0) (value_of p.1) l refl refl h)

no_some : (a b : List ℕ) (j p : Option ℕ) (l : TreeLine) → requirement_of a ≡ j → cell_of b ≡ p → no_made j p ≡ Some l → IsTree (codes "no") (a ∷ b ∷ []) l
no_some a b None p l e f h = cc
no_some a b (Some j) None l e f h = cc
no_some a b (Some j) (Some p) l e f h =
    let same : No j p ≡ l = cc in
    let first = count_only 1 64 a j e in
    let second = count_only 1 512 b p f in
    let here : IsTree (codes "no") (a ∷ b ∷ []) (No j p) = (
      ap (λ (x : List ℕ). record { first = codes "no"; more = x ∷ b ∷ [] }) first.0
          ∙ ap (λ (x : List ℕ). record { first = codes "no"; more = count_text j ∷ x ∷ [] }) second.0,
      both_true first.1 second.1,
    ) in
    subst (IsTree (codes "no") (a ∷ b ∷ [])) same here

no_only : (ws : List (List ℕ)) (o : Option (List ℕ × List ℕ)) (l : TreeLine) → two_of ws ≡ o → no_from o ≡ Some l → IsTree (codes "no") ws l
no_only ws None l e h = cc
no_only ws (Some p) l e h = subst (λ (x : List (List ℕ)). IsTree (codes "no") x l) (sym (two_only ws p e))
    (no_some p.0 p.1 (requirement_of p.0) (cell_of p.1) l refl refl h)

worse_some : (a : List ℕ) (p : Option ℕ) (l : TreeLine) → cell_of a ≡ p → worse_made p ≡ Some l → IsTree (codes "worse") (a ∷ []) l
worse_some a None l e h = cc
worse_some a (Some p) l e h =
    let same : Worse p ≡ l = cc in
    let first = count_only 1 512 a p e in
    let here : IsTree (codes "worse") (a ∷ []) (Worse p) = (ap (λ (x : List ℕ). record { first = codes "worse"; more = x ∷ [] }) first.0, first.1) in
    subst (IsTree (codes "worse") (a ∷ [])) same here

worse_only : (ws : List (List ℕ)) (o : Option (List ℕ)) (l : TreeLine) → one_of ws ≡ o → worse_from o ≡ Some l → IsTree (codes "worse") ws l
worse_only ws None l e h = cc
worse_only ws (Some a) l e h = subst (λ (x : List (List ℕ)). IsTree (codes "worse") x l) (sym (one_only ws a e)) (worse_some a (cell_of a) l refl h)

remove_some : (a b c : List ℕ) (k : Option ℕ) (v : Option ℤ) (j : Option ℕ) (l : TreeLine) → cell_of a ≡ k → value_of b ≡ v → requirement_of c ≡ j →
    remove_made k v j ≡ Some l → IsTree (codes "drop") (a ∷ b ∷ c ∷ []) l
remove_some a b c None v j l e f g h = cc
remove_some a b c (Some k) None j l e f g h = cc
remove_some a b c (Some k) (Some v) None l e f g h = cc
remove_some a b c (Some k) (Some v) (Some j) l e f g h =
    let same : Remove k v j ≡ l = cc in
    let first = count_only 1 512 a k e in
    let second = value_only b v f in
    let third = count_only 1 64 c j g in
    let here : IsTree (codes "drop") (a ∷ b ∷ c ∷ []) (Remove k v j) = (
      ap (λ (x : List ℕ). record { first = codes "drop"; more = x ∷ b ∷ c ∷ [] }) first.0
          ∙ ap (λ (x : List ℕ). record { first = codes "drop"; more = count_text k ∷ x ∷ c ∷ [] }) second.0
          ∙ ap (λ (x : List ℕ). record { first = codes "drop"; more = count_text k ∷ signed_decimal v ∷ x ∷ [] }) third.0,
      both_true first.1 (both_true second.1 third.1),
    ) in
    subst (IsTree (codes "drop") (a ∷ b ∷ c ∷ [])) same here

remove_only : (ws : List (List ℕ)) (o : Option (List ℕ × List ℕ × List ℕ)) (l : TreeLine) → three_of ws ≡ o → remove_from o ≡ Some l →
    IsTree (codes "drop") ws l
remove_only ws None l e h = cc
remove_only ws (Some p) l e h = subst (λ (x : List (List ℕ)). IsTree (codes "drop") x l) (sym (three_only ws p e))
    (remove_some p.0 p.1 p.2 (cell_of p.0) (value_of p.1) (requirement_of p.2) l refl refl refl h)

pub tree_only : (w : Words) (l : TreeLine) → tree_of w ≡ Some l → (w ≡ tree_words l) × (is_tree_line l ≡ true)
tree_only w l h =
    keyword_or (IsTree w.first w.more l) w.first (codes "split") (split_of w.more) _ l
    (λ is k. at_word (λ z. IsTree z w.more l) w.first (codes "split") is (split_only w.more (two_of w.more) l refl k))
    (keyword_or (IsTree w.first w.more l) w.first (codes "no") (no_of w.more) _ l
    (λ is k. at_word (λ z. IsTree z w.more l) w.first (codes "no") is (no_only w.more (two_of w.more) l refl k))
    (keyword_or (IsTree w.first w.more l) w.first (codes "worse") (worse_of w.more) _ l
    (λ is k. at_word (λ z. IsTree z w.more l) w.first (codes "worse") is (worse_only w.more (one_of w.more) l refl k))
    (keyword_or (IsTree w.first w.more l) w.first (codes "drop") (remove_of w.more) _ l
    (λ is k. at_word (λ z. IsTree z w.more l) w.first (codes "drop") is (remove_only w.more (three_of w.more) l refl k))
    (keyword_or (IsTree w.first w.more l) w.first (codes "yes") (if_alone Yes w.more) _ l
    (λ is k. at_word (λ z. IsTree z w.more l) w.first (codes "yes") is
    (alone_only (IsTree (codes "yes")) Yes l w.more (refl, refl) k))
    (keyword_or (IsTree w.first w.more l) w.first (codes "open") (if_alone Unsearched w.more) None l
    (λ is k. at_word (λ z. IsTree z w.more l) w.first (codes "open") is (alone_only (IsTree (codes "open")) Unsearched l w.more (refl, refl) k))
    (λ k. cc))))))
    h

pub tree_again : (l : TreeLine) → is_tree_line l ≡ true → tree_of (tree_words l) ≡ Some l
tree_again (Split k t) h =
    let each = and_parts (is_cell k) (is_value t) h in
    ap (λ o. split_made o (value_of (signed_decimal t))) (count_again 1 512 k (lit< tt) each.0) ∙ ap (split_made (Some k)) (value_again t each.1)
tree_again (Remove k v j) h =
    let each = and_parts (is_cell k) (is_value v && is_requirement j) h in
    let rest = and_parts (is_value v) (is_requirement j) each.1 in
    ap (λ o. remove_made o (value_of (signed_decimal v)) (requirement_of (count_text j))) (count_again 1 512 k (lit< tt) each.0)
    ∙ ap (λ o. remove_made (Some k) o (requirement_of (count_text j))) (value_again v rest.0)
    ∙ ap (remove_made (Some k) (Some v)) (count_again 1 64 j (lit< tt) rest.1)
tree_again (No j p) h =
    let each = and_parts (is_requirement j) (is_cell p) h in
    ap (λ o. no_made o (cell_of (count_text p))) (count_again 1 64 j (lit< tt) each.0) ∙ ap (no_made (Some j)) (count_again 1 512 p (lit< tt) each.1)
tree_again (Worse p) h = ap worse_made (count_again 1 512 p (lit< tt) h)
tree_again Yes h = refl
tree_again Unsearched h = refl

word_solid : (is_solid (codes "split") ≡ true) × (is_solid (codes "drop") ≡ true) × (is_solid (codes "no") ≡ true) × (is_solid (codes "worse") ≡ true) ×
    (is_solid (codes "yes") ≡ true) × (is_solid (codes "open") ≡ true)
unfolding is_space is_lf
word_solid = (refl, refl, refl, refl, refl, refl)

pub tree_solid : (l : TreeLine) → is_tree_line l ≡ true → AreSolid (all_words (tree_words l))
tree_solid (Split k t) h =
    let each = and_parts (is_cell k) (is_value t) h in
    (word_solid.0, (count_solid 1 512 k (lit< tt) each.0, (value_solid t each.1, tt)))
tree_solid (Remove k v j) h =
    let each = and_parts (is_cell k) (is_value v && is_requirement j) h in
    let rest = and_parts (is_value v) (is_requirement j) each.1 in
    (word_solid.1, (count_solid 1 512 k (lit< tt) each.0, (value_solid v rest.0, (count_solid 1 64 j (lit< tt) rest.1, tt))))
tree_solid (No j p) h =
    let each = and_parts (is_requirement j) (is_cell p) h in
    (word_solid.2, (count_solid 1 64 j (lit< tt) each.0, (count_solid 1 512 p (lit< tt) each.1, tt)))
tree_solid (Worse p) h = (word_solid.3, (count_solid 1 512 p (lit< tt) h, tt))
tree_solid Yes h = (word_solid.4, tt)
tree_solid Unsearched h = (word_solid.5, tt)

use Rattle.std.proofs.Common.{◌≡◌, ℕ, List, [], ◌∷◌, ◌++◌, Option, Some, None, refl, sym, ap, ◌∙◌, MatchOption, rules}
use Rattle.std.specs.Borrow.{Bor}
use Rattle.std.proofs.lemmas.Bool.Decides.{Decides-eqb}
use Rattle.std.proofs.lemmas.Slice.Eq.{strip_suffix_is}
use Rattle.ts_base.specs.Words.{without_lf}
use Rattle.ts_base.proofs.WordLaws.{lf_is, lf_again}
use Rattle.ts_base.proofs.words.without_lf.Goals as goal

none_without : (text : List ℕ) (o : Option (List ℕ)) → without_lf text ≡ o → ((front : List ℕ) → text ≡ front ++ 10 ∷ [] → ⊥) → without_lf text ≡ None
none_without text None e h = e
none_without text (Some line) e h = absurd (h line (lf_is text line e))

is_stripped : (text lf : List ℕ) (r : Option (Bor (List ℕ))) → lf ≡ 10 ∷ [] →
    MatchOption r ((front : List ℕ) → text ≡ front ++ lf → ⊥) (λ x. text ≡ x.now ++ lf) →
    MatchOption r (without_lf text ≡ None) (λ line. without_lf text ≡ Some line.now)
is_stripped text lf None is h = none_without text (without_lf text) refl (λ front e. h front (e ∙ ap (λ (x : List ℕ). front ++ x) (sym is)))
is_stripped text lf (Some x) is h = ap without_lf (h ∙ ap (λ (y : List ℕ). x.now ++ y) is) ∙ lf_again x.now

pub returns : goal.returns
returns c = is_stripped c.args.text.now c.as_slice.result.now c.strip_suffix.result (search rules)
    (strip_suffix_is Decides-eqb c.args.text.now c.as_slice.result.now c.strip_suffix.result c.strip_suffix.ensures.cases)

-- A text that is cut in pieces: its lines, and the halves before and after the line '%%'.
use Rattle.std.proofs.Common.{◌≡◌, ℕ, ◌<◌, Bool, true, false, not, cond, Option, Some, None, List, [], ◌∷◌, ◌++◌, length, refl, sym, ap, ◌∙◌, ◌&&◌, subst, arith, append_assoc, append-nil}
use Rattle.std.specs.Prelude.{◌==◌, MatchOption, filter, is_some}
use Rattle.std.specs.Cmp.Derive.{both_true}
use Rattle.std.specs.List.{concat, list_all, AllByRecursion}
use Rattle.std.specs.Option.{option_map}
use Rattle.std.proofs.lemmas.Bool.{not-true, and_parts}
use Rattle.std.proofs.lemmas.List.Folds.{list_all-append}
use Rattle.ts_base.specs.Words.{is_lf, onto_line, strict_lines, without_lf}
use Rattle.ts_base.proofs.WordLaws.{lf_again, lf_is, lines_are}
use Rattle.ts_token.specs.Halves.{Halves, after_front, halves, halves_of, is_separator}
use Rattle.ts_model.specs.ModelTexts.{AreWhole, IsFinished, IsPart, IsUnfinished, has_lf, whole_lines}

-- the lines that a text is cut into are parts of lines

pub lf_test : (b : ℕ) → (b == 10) ≡ is_lf b
unfolding is_lf
lf_test b = refl

is_10 : is_lf 10 ≡ true
unfolding is_lf
is_10 = refl

lone_lf : (b : ℕ) → is_lf b ≡ true → IsPart (b ∷ [])
lone_lf b e = subst (λ t. MatchOption (cond t (Some []) None) (IsUnfinished (b ∷ [])) IsUnfinished) (sym (lf_test b ∙ e)) refl

longer : (b : ℕ) (line : List ℕ) → is_lf b ≡ false → IsPart line → IsPart (b ∷ line)
longer b [] e h =
    subst (λ t. MatchOption (cond t (Some []) None) (IsUnfinished (b ∷ [])) IsUnfinished) (sym (lf_test b ∙ e)) (both_true (ap not e) refl)
longer b (c ∷ cs) e h = go (without_lf (c ∷ cs)) h
  where
    go : (o : Option (List ℕ)) → MatchOption o (IsUnfinished (c ∷ cs)) IsUnfinished →
        MatchOption (option_map (λ (line : List ℕ). b ∷ line) o) (IsUnfinished (b ∷ c ∷ cs)) IsUnfinished
    go None k = both_true (ap not e) k
    go (Some p) k = both_true (ap not e) k

cut_at : (b : ℕ) (t : Bool) (lines : List (List ℕ)) → is_lf b ≡ t → AllByRecursion IsPart lines →
    AllByRecursion IsPart (cond t ((b ∷ []) ∷ lines) (onto_line b lines))
cut_at b true lines e h = (lone_lf b e, h)
cut_at b false [] e h = (longer b [] e refl, tt)
cut_at b false (l ∷ ls) e h = (longer b l e h.0, h.1)

cut_parts : (text : List ℕ) → AllByRecursion IsPart (strict_lines text)
cut_parts [] = tt
cut_parts (b ∷ bs) = cut_at b (is_lf b) (strict_lines bs) refl (cut_parts bs)

pub first_is_part : (text part : List ℕ) (lines : List (List ℕ)) → strict_lines text ≡ part ∷ lines → IsPart part
first_is_part text part lines cut = (subst (AllByRecursion IsPart) cut (cut_parts text)).0

-- a line put together of its parts

pub joins : (xs ys : List ℕ) → IsUnfinished xs → IsUnfinished ys → IsUnfinished (xs ++ ys)
joins xs ys h k = list_all-append (λ b. not (is_lf b)) xs ys ∙ both_true h k

pub part_open : (part : List ℕ) → without_lf part ≡ None → IsPart part → IsUnfinished part
part_open part none h = subst (λ o. MatchOption o (IsUnfinished part) IsUnfinished) none h

pub part_ends : (line part bare : List ℕ) → IsUnfinished line → without_lf part ≡ Some bare → IsPart part → IsFinished (line ++ part)
part_ends line part bare free is h = (
  line ++ bare,
  ap without_lf (ap (λ (x : List ℕ). line ++ x) (lf_is part bare is) ∙ sym (append_assoc line bare (10 ∷ []))) ∙ lf_again (line ++ bare),
  joins line bare free (subst (λ o. MatchOption o (IsUnfinished part) IsUnfinished) is h),
)

closed_first : (bare more : List ℕ) → IsUnfinished bare → strict_lines (bare ++ 10 ∷ more) ≡ (bare ++ 10 ∷ []) ∷ strict_lines more
closed_first [] more h = ap (λ t. cond t ((10 ∷ []) ∷ strict_lines more) (onto_line 10 (strict_lines more))) is_10
closed_first (b ∷ bs) more h =
    let each = and_parts (not (is_lf b)) (list_all (λ c. not (is_lf c)) bs) h in
    let left = strict_lines (bs ++ 10 ∷ more) in
    ap (λ t. cond t ((b ∷ []) ∷ left) (onto_line b left)) (not-true (is_lf b) each.0) ∙ ap (onto_line b) (closed_first bs more each.1)

pub finished_first : (line more : List ℕ) → IsFinished line → strict_lines (line ++ more) ≡ line ∷ strict_lines more
finished_first line more f =
    let is = lf_is line f.0 f.1 in
    let parts : line ++ more ≡ f.0 ++ 10 ∷ more = ap (λ (x : List ℕ). x ++ more) is ∙ append_assoc f.0 (10 ∷ []) more in
    ap strict_lines parts ∙ closed_first f.0 more f.2 ∙ ap (λ (x : List ℕ). x ∷ strict_lines more) (sym is)

finished_alone : (line : List ℕ) → IsFinished line → strict_lines line ≡ line ∷ []
finished_alone line f = ap strict_lines (sym (append-nil line)) ∙ finished_first line [] f

-- bytes after the last LF are a line, unless there are none
abbrev pub last_line : List ℕ → List (List ℕ)
last_line [] = []
last_line (b ∷ bs) = (b ∷ bs) ∷ []

onto_last : (b : ℕ) (bs : List ℕ) → onto_line b (last_line bs) ≡ (b ∷ bs) ∷ []
onto_last b [] = refl
onto_last b (c ∷ cs) = refl

pub unfinished_alone : (line : List ℕ) → IsUnfinished line → strict_lines line ≡ last_line line
unfinished_alone [] h = refl
unfinished_alone (b ∷ bs) h =
    let each = and_parts (not (is_lf b)) (list_all (λ c. not (is_lf c)) bs) h in
    ap (λ t. cond t ((b ∷ []) ∷ strict_lines bs) (onto_line b (strict_lines bs))) (not-true (is_lf b) each.0)
    ∙ ap (onto_line b) (unfinished_alone bs each.1) ∙ onto_last b bs

-- which lines have their LF

no_lf_last : (bare : List ℕ) → IsUnfinished (bare ++ 10 ∷ []) → ⊥
no_lf_last bare h =
    let each = and_parts (list_all (λ b. not (is_lf b)) bare) (not (is_lf 10) && true) (sym (list_all-append (λ b. not (is_lf b)) bare (10 ∷ [])) ∙ h) in
    let here = and_parts (not (is_lf 10)) true each.1 in
    let wrong : true ≡ false = sym is_10 ∙ not-true (is_lf 10) here.0 in cc

pub none_without : (line : List ℕ) → IsUnfinished line → without_lf line ≡ None
none_without line h = go (without_lf line) refl
  where
    go : (o : Option (List ℕ)) → without_lf line ≡ o → o ≡ None
    go None e = refl
    go (Some bare) e = absurd (no_lf_last bare (subst IsUnfinished (lf_is line bare e) h))

pub none_ended : (line : List ℕ) → IsUnfinished line → filter has_lf (last_line line) ≡ []
none_ended [] h = refl
none_ended (b ∷ bs) h = ap (λ o. cond (is_some o) ((b ∷ bs) ∷ []) []) (none_without (b ∷ bs) h)

-- whole lines

pub whole_none : AreWhole []
whole_none more = refl

-- an unfinished line is none
pub whole_unfinished : (line : List ℕ) → IsUnfinished line → whole_lines line ≡ []
whole_unfinished line h = ap (λ (x : List (List ℕ)). concat (filter has_lf x)) (unfinished_alone line h) ∙ ap concat (none_ended line h)

-- a finished one is
pub whole_finished : (line : List ℕ) → IsFinished line → AreWhole line
whole_finished line f more =
    ap (λ (x : List (List ℕ)). concat (filter has_lf x)) (finished_first line more f)
    ∙ ap (λ o. concat (cond (is_some o) (line ∷ filter has_lf (strict_lines more)) (filter has_lf (strict_lines more)))) f.1

pub whole_append : (a b : List ℕ) → AreWhole a → AreWhole b → AreWhole (a ++ b)
whole_append a b first second more =
    ap whole_lines (append_assoc a b more) ∙ first (b ++ more) ∙ ap (λ (x : List ℕ). a ++ x) (second more) ∙ sym (append_assoc a b (whole_lines more))

-- the halves before and after a line that is '%%', or another

abbrev made : List ℕ → Option (List ℕ) → Halves
made model rest = record { model = model; rest = rest }

abbrev pub halves_by : Bool → List ℕ → List ℕ → Halves
halves_by t line more = cond t (made [] (Some more)) (after_front line (halves_of more))

pub finished_halves : (line more : List ℕ) → IsFinished line → halves_of (line ++ more) ≡ halves_by (is_separator line) line more
finished_halves line more f =
    ap halves (finished_first line more f)
    ∙ ap (λ (x : List ℕ). cond (is_separator line) (made [] (Some x)) (after_front line (halves_of more))) (lines_are more)

-- a last line without an LF is of the model, or the '%%' after which nothing stands

last_halves : (line : List ℕ) → 0 < length line → halves (last_line line) ≡ cond (is_separator line) (made [] (Some [])) (made line None)
last_halves [] some = absurd (omega (arith, some))
last_halves (b ∷ bs) some = ap (λ (x : List ℕ). cond (is_separator (b ∷ bs)) (made [] (Some [])) (made x None)) (append-nil (b ∷ bs))

pub unfinished_halves : (line : List ℕ) → IsUnfinished line → 0 < length line →
    halves_of line ≡ cond (is_separator line) (made [] (Some [])) (made line None)
unfinished_halves line h some = ap halves (unfinished_alone line h) ∙ last_halves line some

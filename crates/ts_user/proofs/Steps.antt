-- The step of a configuration by numbers of residuals that are found on the way is the step by the residuals
-- themselves.
use Rattle.std.specs.Prelude.{◌≡◌, ℕ, zero, suc, ◌+◌, ◌<◌, ◌≤◌, ◌==◌, Bool, true, false, cond, not, ◌&&◌, ◌||◌, List, [], ◌∷◌, ◌++◌, Some, map, take, length, get_or, slice_get, nat_eq, if◌then◌else◌, refl}
use Rattle.std.specs.List.{list_all, list_any, AllByRecursion}
use Rattle.std.proofs.Common.{sym, ◌∙◌, ap, subst, inl, inr, arith, ⊎_elim, take_all}
use Rattle.std.proofs.lemmas.Bool.{false≢true, eqb-true, eq-eqb}
use Rattle.std.proofs.lemmas.List.{length-map, map-append, take_more}
use Rattle.ts_base.specs.declared.letter.Letter.{Letter}
use Rattle.ts_regex.specs.Shape.{Shape}
use Rattle.ts_regex.specs.Derivative.{has_word, nullable, has_longer}
use Rattle.ts_regex.specs.NormalForm.{residual, normal_form, same_shape}
use Rattle.ts_regex.proofs.Laws.{same_law}
use Rattle.ts_forms.specs.Tables.{Grows}
use Rattle.ts_forms.proofs.Growth.{grows_not, grows_on}
use Rattle.ts_transducer.specs.declared.row.Phase.{Phase}
use Rattle.ts_transducer.specs.declared.row.Arrow.{Arrow}
use Rattle.ts_transducer.specs.declared.row.Row.{Row}
use Rattle.ts_transducer.specs.Decode.{row_at, arrow_on}
use Rattle.ts_pattern.specs.declared.plan.Tag.{Tag}
use Rattle.ts_pattern.specs.declared.plan.Live.{Live}
use Rattle.ts_pattern.specs.declared.plan.Configuration.{Configuration}
use Rattle.ts_pattern.specs.Entries.{Entry, shapes, derive_entry, survivors, with_entry}
use Rattle.ts_pattern.specs.Closed.{PlainConfiguration, Subject, is_ind, first_tag, no_ind, tag_after, retag_entry, retag_entries, with_start, move_of, entries_before, kept_entries, entries_agree}
use Rattle.ts_pattern.specs.Plans.{shape_at, entry_value, plain_live}
use Rattle.ts_pattern.proofs.CallerLemmas.{survivors_push, shapes_follow, retag_renamed}
use Rattle.ts_validate.specs.declared.facts.Kept.{Kept}
use Rattle.ts_validate.specs.declared.words.Words.{Words}
use Rattle.ts_validate.specs.Numbers.{plain_lives}
use Rattle.ts_validate.specs.Facts.{words_of, kept_by, facts_of, facts_agree}
use Rattle.ts_validate.specs.Looks.{row_or}
use Rattle.ts_validate.proofs.FactsOf.{facts_law}
use Rattle.ts_validate.proofs.Looking.{row_is}
use Rattle.ts_user.specs.declared.book.Book.{Book}
use Rattle.ts_user.specs.FirstReached.{unplanned}
use Rattle.ts_user.specs.Numbered.{AreNumbered, live_numbers}
use Rattle.ts_user.specs.Books.{residuals_of, IsNumberOf, IsBook, IsAfter, AreListed, values, IsAdded, IsLeft, with_new, value_of, IsStep}
use Rattle.ts_user.proofs.Books.{book_length, push_length, shape_old, found_grows}

-- more residuals

longer : (old more : List Shape) → length old ≤ length (old ++ more)
longer [] more = omega arith
longer (r ∷ old) more = let h = longer old more in omega (arith, h)

pub grows_length : (old new : List Shape) → Grows old new → length old ≤ length new
grows_length old new g = subst (λ z. length old ≤ length z) (sym g.1) (longer old g.0)

below : (m n : ℕ) (is : List ℕ) → m ≤ n → AllByRecursion (λ i. i < m) is → AllByRecursion (λ i. i < n) is
below m n [] q h = tt
below m n (i ∷ is) q h = (let a = h.0 in omega (arith, a, q), below m n is q h.1)

pub listed_grow : (old new : List Shape) (es : List Live) → Grows old new → AreListed old es → AreListed new es
listed_grow old new es g h = below (length old) (length new) (live_numbers es) (grows_length old new g) h

shape_grow : (old new : List Shape) (i : ℕ) → Grows old new → i < length old → shape_at new i ≡ shape_at old i
shape_grow old new i g q = ap (λ z. shape_at z i) g.1 ∙ shape_old old g.0 i q

value_grow : (old new : List Shape) (e : Live) → Grows old new → e.residual < length old → entry_value new (plain_live e) ≡ entry_value old (plain_live e)
value_grow old new e g q = ap (λ z. record { mark = tt; residual = z; tag = e.tag }) (shape_grow old new e.residual g q)

pub values_grow : (old new : List Shape) (es : List Live) → Grows old new → AreListed old es → values new es ≡ values old es
values_grow old new [] g h = refl
values_grow old new (e ∷ es) g h =
    ap (λ z. z ∷ values new es) (value_grow old new e g h.0) ∙ ap (λ z. entry_value old (plain_live e) ∷ z) (values_grow old new es g h.1)

-- numbers in their order

numbered_old : (n : ℕ) (is : List ℕ) (j all : ℕ) → AreNumbered n is all → j < all → AreNumbered n (is ++ j ∷ []) all
numbered_old n [] j all h q = inl (omega (arith, h, q), h)
numbered_old n (i ∷ is) j all h q = ⊎_elim (λ a. inl (a.0, numbered_old n is j all a.1 q)) (λ a. inr (a.0, numbered_old (n + 1) is j all a.1 q)) h

numbered_new : (n : ℕ) (is : List ℕ) (j all : ℕ) → AreNumbered n is all → j ≡ all → AreNumbered n (is ++ j ∷ []) (all + 1)
numbered_new n [] j all h q = inr (omega (arith, h, q), omega (arith, h))
numbered_new n (i ∷ is) j all h q = ⊎_elim (λ a. inl (a.0, numbered_new n is j all a.1 q)) (λ a. inr (a.0, numbered_new (n + 1) is j all a.1 q)) h

-- one entry

bools_same : (a b : Bool) → (a ≡ true → b ≡ true) → (b ≡ true → a ≡ true) → a ≡ b
bools_same true b f g = sym (f refl)
bools_same false true f g = g refl
bools_same false false f g = refl

-- an entry has the residual j where it has d, of which j is the number
any_agrees : (rs : List Shape) (d : Shape) (j : ℕ) → ((i k : ℕ) → i < length rs → k < length rs → shape_at rs i ≡ shape_at rs k → i ≡ k) → IsNumberOf rs d j →
    (es : List Live) → AreListed rs es →
    list_any (λ (e : Live). e.residual == j) es ≡ list_any (λ (k : Entry (Unit {0}) Shape Tag). same_shape k.residual d) (values rs es)
any_agrees rs d j once is [] h = refl
any_agrees rs d j once is (e ∷ es) h =
    ap (λ z. z || list_any (λ (e : Live). e.residual == j) es)
    (bools_same (e.residual == j) (same_shape (shape_at rs e.residual) d)
    (λ q. (same_law (shape_at rs e.residual) d).1 (ap (λ z. shape_at rs z) (eqb-true e.residual j q) ∙ is.1))
    (λ q. eq-eqb e.residual j (once e.residual j h.0 is.0 ((same_law (shape_at rs e.residual) d).0 q ∙ sym is.1))))
    ∙ ap (λ z. same_shape (shape_at rs e.residual) d || z) (any_agrees rs d j once is es h.1)

none_has : (n j : ℕ) → n ≤ j → (es : List Live) → AllByRecursion (λ i. i < n) (live_numbers es) → list_any (λ (e : Live). e.residual == j) es ≡ false
none_has n j q [] h = refl
none_has n j q (e ∷ es) h = go (e.residual == j) refl (none_has n j q es h.1)
  where
    go : (b : Bool) → (e.residual == j) ≡ b → list_any (λ (e : Live). e.residual == j) es ≡ false → b || list_any (λ (e : Live). e.residual == j) es ≡ false
    go true t k = absurd (let s = eqb-true e.residual j t in let a = h.0 in omega (arith, s, a, q))
    go false t k = k

-- what a letter leaves of the entry e
abbrev left_of : List Shape → Letter → Live → Entry (Unit {0}) Shape Tag
left_of rs l e = derive_entry shapes l (entry_value rs (plain_live e))

with_value : (old new : List Shape) (l : Letter) (e : Live) (es : List Live) (j : ℕ) → has_word (residual (shape_at old e.residual) l) ≡ true →
    Grows old new → IsNumberOf new (residual (shape_at old e.residual) l) j → AreListed old es →
    ((i k : ℕ) → i < length new → k < length new → shape_at new i ≡ shape_at new k → i ≡ k) →
    values new (with_new es j e.tag) ≡ with_entry shapes (values old es) (left_of old l e)
with_value old new l e es j w g is h once =
    let d : Shape = residual (shape_at old e.residual) l in
    let same : values new es ≡ values old es = values_grow old new es g h in
    let any : list_any (λ (k : Live). k.residual == j) es ≡ list_any (λ (k : Entry (Unit {0}) Shape Tag). same_shape k.residual d) (values old es) =
    any_agrees new d j once is es (listed_grow old new es g h) ∙ ap (λ z. list_any (λ (k : Entry (Unit {0}) Shape Tag). same_shape k.residual d) z) same in
    go (list_any (λ (k : Live). k.residual == j) es) ∙ ap (λ z. cond (true && not z) (values new es ++ left_of old l e ∷ []) (values new es)) any
    ∙ ap (λ z. cond (z && not (list_any (λ (k : Entry (Unit {0}) Shape Tag). same_shape k.residual d) (values old es))) (values new es ++ left_of old l e ∷ [])
    (values new es)) (sym w)
    ∙ ap (λ z. cond (has_word d && not (list_any (λ (k : Entry (Unit {0}) Shape Tag). same_shape k.residual d) (values old es)))
    (z ++ left_of old l e ∷ []) z) same
  where
    push : values new (es ++ record { residual = j; tag = e.tag } ∷ []) ≡ values new es ++ left_of old l e ∷ []
    push =
        ap (λ z. map (λ e. entry_value new e) z) (map-append (λ e. plain_live e) es (record { residual = j; tag = e.tag } ∷ []))
        ∙ map-append (λ e. entry_value new e) (plain_lives es) (plain_live (record { residual = j; tag = e.tag }) ∷ [])
        ∙ ap (λ z. values new es ++ record { mark = tt; residual = z; tag = e.tag } ∷ []) is.1

    go : (b : Bool) → values new (cond b es (es ++ record { residual = j; tag = e.tag } ∷ []))
        ≡ cond (true && not b) (values new es ++ left_of old l e ∷ []) (values new es)
    go true = refl
    go false = push

numbers_push : (es : List Live) (j : ℕ) (g : Tag) → live_numbers (es ++ record { residual = j; tag = g } ∷ []) ≡ live_numbers es ++ j ∷ []
numbers_push es j g = map-append (λ (e : Live). e.residual) es (record { residual = j; tag = g } ∷ [])

all_push : (n j : ℕ) (is : List ℕ) → j < n → AllByRecursion (λ i. i < n) is → AllByRecursion (λ i. i < n) (is ++ j ∷ [])
all_push n j [] q h = (q, tt)
all_push n j (i ∷ is) q h = (h.0, all_push n j is q h.1)

-- whether a number stands among those of the entries
stands_same : (j : ℕ) (es : List Live) → list_any (nat_eq j) (live_numbers es) ≡ list_any (λ (e : Live). e.residual == j) es
stands_same j [] = refl
stands_same j (e ∷ es) =
    ap (λ z. z || list_any (nat_eq j) (live_numbers es))
    (bools_same (nat_eq j e.residual) (e.residual == j) (λ q. eq-eqb e.residual j (sym (eqb-true j e.residual q)))
    (λ q. eq-eqb j e.residual (sym (eqb-true e.residual j q))))
    ∙ ap (λ z. (e.residual == j) || z) (stands_same j es)

abbrev pub entry_on : Bool → List Live → ℕ → Tag → List Live
entry_on stands es j g = if stands then es else es ++ record { residual = j; tag = g } ∷ []

-- an entry is added, since its number is new, or isn't
pub entry_told : (stands : Bool) (es new : List Live) (ns : List ℕ) (j : ℕ) (g : Tag) (is_new : Bool) → ns ≡ live_numbers es →
    is_new ≡ not (list_any (nat_eq j) ns) → is_new ≡ not stands → new ≡ entry_on stands es j g → new ≡ with_new es j g
entry_told stands es new ns j g is_new e a q n =
    let any : list_any (nat_eq j) (live_numbers es) ≡ stands =
    nots_same (list_any (nat_eq j) (live_numbers es)) stands (ap (λ z. not (list_any (nat_eq j) z)) (sym e) ∙ sym a ∙ q) in
    n ∙ ap (λ z. entry_on z es j g) (sym any ∙ stands_same j es)
  where
    nots_same : (b d : Bool) → not b ≡ not d → b ≡ d
    nots_same true true q = refl
    nots_same true false q = absurd (false≢true q)
    nots_same false true q = absurd (false≢true (sym q))
    nots_same false false q = refl

pub added_some : (old new : List Shape) (l : Letter) (e : Live) (es after : List Live) (j : ℕ) → AreListed old es →
    IsAfter old new (residual (shape_at old e.residual) l) (Some j) → ((i k : ℕ) → i < length new → k < length new → shape_at new i ≡ shape_at new k → i ≡ k) →
    after ≡ with_new es j e.tag → IsAdded old new l e es after
added_some old new l e es after j h a once q =
    let d : Shape = residual (shape_at old e.residual) l in
    let f = a.1 in
    let g : Grows old new = found_grows old new d j f in
    subst (λ z. IsAdded old new l e es z) (sym q)
    (record {
      grows = g;
      one_residual =
          ⊎_elim (λ b. let s = ap (λ z. length z) b in omega (arith, s)) (λ b. let s = ap (λ z. length z) b.0 ∙ push_length old d in omega (arith, s)) f.0;
      one_entry = one_in (list_any (λ (k : Live). k.residual == j) es);
      value = with_value old new l e es j a.0 g f.1 h once;
      listed = listed_in (list_any (λ (k : Live). k.residual == j) es) (f.1).0 (listed_grow old new es g h);
      numbered = λ n s. ⊎_elim (λ b. same_in n (list_any (λ (k : Live). k.residual == j) es) (subst (λ z. j < length z) b (f.1).0) b s)
          (λ b. new_in n b s) f.0;
    })
  where
    one_in : (b : Bool) → length (cond b es (es ++ record { residual = j; tag = e.tag } ∷ [])) ≤ length es + 1
    one_in true = omega arith
    one_in false = let s = push_length es (let x : Live = record { residual = j; tag = e.tag } in x) in omega (arith, s)

    listed_in : (b : Bool) → j < length new → AreListed new es → AreListed new (cond b es (es ++ record { residual = j; tag = e.tag } ∷ []))
    listed_in true q k = k
    listed_in false q k = subst (λ z. AllByRecursion (λ i. i < length new) z) (sym (numbers_push es j e.tag)) (all_push (length new) j (live_numbers es) q k)

    same_in : (n : ℕ) (b : Bool) → j < length old → new ≡ old → AreNumbered n (live_numbers es) (length old) →
        AreNumbered n (live_numbers (cond b es (es ++ record { residual = j; tag = e.tag } ∷ []))) (length new)
    same_in n true q r k = subst (λ z. AreNumbered n (live_numbers es) (length z)) (sym r) k
    same_in n false q r k =
        subst (λ z. AreNumbered n (live_numbers (es ++ record { residual = j; tag = e.tag } ∷ [])) (length z)) (sym r)
        (subst (λ z. AreNumbered n z (length old)) (sym (numbers_push es j e.tag)) (numbered_old n (live_numbers es) j (length old) k q))

    new_in : (n : ℕ) → (new ≡ old ++ residual (shape_at old e.residual) l ∷ []) × (j ≡ length old) → AreNumbered n (live_numbers es) (length old) →
        AreNumbered n (live_numbers (with_new es j e.tag)) (length new)
    new_in n b k =
        subst (λ z. AreNumbered n (live_numbers (cond z es (es ++ record { residual = j; tag = e.tag } ∷ []))) (length new))
        (sym (none_has (length old) j (let s = b.1 in omega (arith, s)) es h))
        (subst (λ z. AreNumbered n (live_numbers (es ++ record { residual = j; tag = e.tag } ∷ [])) z)
        (sym (ap (λ z. length z) b.0 ∙ push_length old (residual (shape_at old e.residual) l)))
        (subst (λ z. AreNumbered n z (length old + 1)) (sym (numbers_push es j e.tag)) (numbered_new n (live_numbers es) j (length old) k b.1)))

-- all entries, and the start at the sign now read

-- what the letter leaves of the first i entries
pub record IsLeftTo (old new : List Shape) (l : Letter) (live kept : List Live) : Type 0 where
  pub grows : Grows old new
  pub few_residuals : length new ≤ length old + length live
  pub few_entries : length kept ≤ length live
  pub value : values new kept ≡ survivors shapes l (values old live)
  pub listed : AreListed new kept
  pub numbered : AreNumbered (length old) (live_numbers kept) (length new)

pub left_start : (old : List Shape) (l : Letter) → IsLeftTo old old l [] []
left_start old l = record { grows = grows_not old; few_residuals = omega arith; few_entries = omega arith; value = refl; listed = tt; numbered = refl }

listed_at : (n : ℕ) (es : List Live) (i : ℕ) (d : Live) → AllByRecursion (λ i. i < n) (live_numbers es) → i < length es → (get_or es i d).residual < n
listed_at n [] i d h q = absurd (omega (arith, q))
listed_at n (e ∷ es) zero d h q = h.0
listed_at n (e ∷ es) (suc i) d h q = listed_at n es i d h.1 (omega (arith, q))

pub entry_listed : (old new : List Shape) (es : List Live) (i : ℕ) (d : Live) → AreListed old es → i < length es → Grows old new → (n : ℕ) → length new ≡ n →
    (get_or es i d).residual < n
entry_listed old new es i d h q g n s = let a = listed_at (length old) es i d h q in let b = grows_length old new g in omega (arith, a, b, s)

values_push : (rs : List Shape) (es : List Live) (e : Live) → values rs (es ++ e ∷ []) ≡ values rs es ++ entry_value rs (plain_live e) ∷ []
values_push rs es e =
    ap (λ z. map (λ e. entry_value rs e) z) (map-append (λ e. plain_live e) es (e ∷ []))
    ∙ map-append (λ e. entry_value rs e) (plain_lives es) (plain_live e ∷ [])

pub left_more : (old mid new : List Shape) (l : Letter) (live : List Live) (i : ℕ) (d : Live) (before after : List Live) → AreListed old live →
    i < length live →
    IsLeftTo old mid l (take i live) before → IsAdded mid new l (get_or live i d) before after → IsLeftTo old new l (take (i + 1) live) after
left_more old mid new l live i d before after h q k a =
    let e : Live = get_or live i d in
    let more : length (take (i + 1) live) ≡ length (take i live) + 1 = ap (λ z. length z) (take_more live i d q) ∙ push_length (take i live) e in
    let rk = k.few_residuals in let ra = a.one_residual in let ek = k.few_entries in let ea = a.one_entry in
    record {
      grows = grows_on old mid new k.grows a.grows;
      few_residuals = omega (arith, more, rk, ra);
      few_entries = omega (arith, more, ek, ea);
      value = a.value ∙ ap (λ z. with_entry shapes z (derive_entry shapes l (entry_value mid (plain_live e)))) k.value
          ∙ ap (λ z. with_entry shapes (survivors shapes l (values old (take i live))) (derive_entry shapes l z))
          (value_grow old mid e k.grows (listed_at (length old) live i d h q))
          ∙ sym (survivors_push shapes shapes_follow l (values old (take i live)) (entry_value old (plain_live e)))
          ∙ ap (λ z. survivors shapes l z) (sym (values_push old (take i live) e))
          ∙ ap (λ z. survivors shapes l (values old z)) (sym (take_more live i d q));
      listed = a.listed;
      numbered = a.numbered (length old) k.numbered;
    }

pub left_last : (old mid new : List Shape) (whole : Shape) (b : ℕ) (l : Letter) (live : List Live) (i : ℕ) (g : Tag) (before after : List Live) →
    0 < length old → shape_at old 0 ≡ whole → length live ≤ i → g ≡ first_tag b → IsLeftTo old mid l (take i live) before →
    IsAdded mid new l (record { residual = 0; tag = g }) before after → IsLeft old new whole b l live after
left_last old mid new whole b l live i g before after some first q t k a =
    let all = ap (λ z. length z) (take_all i live q) in let ek = k.few_entries in let ea = a.one_entry in
    record {
      grows = grows_on old mid new k.grows a.grows;
      few = omega (arith, all, ek, ea);
      value = a.value ∙ ap (λ z. with_entry shapes z (derive_entry shapes l (entry_value mid (plain_live (record { residual = 0; tag = g })))))
          (k.value ∙ ap (λ z. survivors shapes l (values old z)) (take_all i live q))
          ∙ ap (λ z. with_entry shapes (survivors shapes l (values old live)) (derive_entry shapes l (record { mark = tt; residual = z; tag = g })))
          (shape_grow old mid 0 k.grows some ∙ first)
          ∙ ap (λ z. with_entry shapes (survivors shapes l (values old live)) (derive_entry shapes l (record { mark = tt; residual = whole; tag = z }))) t
          ∙ sym (survivors_push shapes shapes_follow l (values old live) (record { mark = tt; residual = whole; tag = first_tag b }));
      listed = a.listed;
      numbered = a.numbered (length old) k.numbered;
    }

-- there is room for the next residual
pub room_at : (old : List Shape) (book : Book) (l : Letter) (live kept : List Live) (i n : ℕ) → IsLeftTo old (residuals_of book) l (take i live) kept →
    length old ≡ n → n + length live < 4000000000 → length book.residuals.items < 4000000000
room_at old book l live kept i n h e q =
    let few = h.few_residuals in let size = book_length book in let part = take_short live i in
    omega (arith, few, size, e, q, part)
  where
    take_short : {A : Type 0} (xs : List A) (i : ℕ) → length (take i xs) ≤ length xs
    take_short [] zero = omega arith
    take_short [] (suc i) = omega arith
    take_short (x ∷ xs) zero = omega arith
    take_short (x ∷ xs) (suc i) = let h = take_short xs i in omega (arith, h)

-- the tags after the step

pub tags_more : (f : Phase) (free : Bool) (es : List Live) (i : ℕ) (d : Live) (old new : List Live) (g : Tag) → i < length es →
    plain_lives old ≡ retag_entries f free (plain_lives (take i es)) → g ≡ tag_after f free (get_or es i d).tag →
    new ≡ old ++ record { residual = (get_or es i d).residual; tag = g } ∷ [] →
    plain_lives new ≡ retag_entries f free (plain_lives (take (i + 1) es))
tags_more f free es i d old new g q h t n =
    let e : Live = get_or es i d in
    ap (λ z. plain_lives z) n ∙ map-append (λ e. plain_live e) old (record { residual = e.residual; tag = g } ∷ [])
    ∙ ap (λ z. z ++ record { mark = tt; residual = e.residual; tag = g } ∷ []) h
    ∙ ap (λ z. retag_entries f free (plain_lives (take i es)) ++ record { mark = tt; residual = e.residual; tag = z } ∷ []) t
    ∙ sym (map-append (λ (e : Entry (Unit {0}) ℕ Tag). retag_entry f free e) (plain_lives (take i es)) (plain_live e ∷ []))
    ∙ ap (λ z. retag_entries f free z) (sym (map-append (λ e. plain_live e) (take i es) (e ∷ [])))
    ∙ ap (λ z. retag_entries f free (plain_lives z)) (sym (take_more es i d q))

pub numbers_more : (es : List Live) (i : ℕ) (d : Live) (old new : List Live) (g : Tag) → i < length es → live_numbers old ≡ live_numbers (take i es) →
    new ≡ old ++ record { residual = (get_or es i d).residual; tag = g } ∷ [] → live_numbers new ≡ live_numbers (take (i + 1) es)
numbers_more es i d old new g q h n =
    let e : Live = get_or es i d in
    ap (λ z. live_numbers z) n ∙ numbers_push old e.residual g ∙ ap (λ z. z ++ e.residual ∷ []) h
    ∙ sym (map-append (λ (e : Live). e.residual) (take i es) (e ∷ []))
    ∙ ap (λ z. live_numbers z) (sym (take_more es i d q))

-- the whole step

free_start : (rs : List Shape) (whole : Shape) (b : ℕ) (es : List Live) → list_all (λ (e : Live). not (is_ind e.tag)) es
    ≡ no_ind (with_start tt whole b (values rs es))
free_start rs whole b [] = first b
  where
    first : (b : ℕ) → true ≡ not (is_ind (first_tag b)) && true
    first zero = refl
    first (suc b) = refl
free_start rs whole b (e ∷ es) = ap (λ z. not (is_ind e.tag) && z) (free_start rs whole b es)

-- each entry's residual has its words
pub words_there : (rs : List Shape) (words : List Words) (es : List Live) (i : ℕ) (d : Live) (n : ℕ) → words ≡ map (λ r. words_of r) rs → n ≡ length words →
    AreListed rs es → i < length es → (get_or es i d).residual < n
words_there rs words es i d n e t h q =
    let low = listed_at (length rs) es i d h q in
    let size : length words ≡ length rs = ap (λ z. length z) e ∙ length-map rs (λ r. words_of r) in
    omega (arith, low, size, t)

-- the entries of a front of the list, as the checks see them
pub kept_more : (rs : List Shape) (es : List Live) (i : ℕ) (d : Live) (words : List Words) (w : Words) (old new : List Kept) → i < length es → AreListed rs es →
    words ≡ map (λ r. words_of r) rs → w ≡ get_or words (get_or es i d).residual w → old ≡ kept_by shapes (values rs (take i es)) →
    new ≡ old ++ record { words = w; tag = (get_or es i d).tag } ∷ [] → new ≡ kept_by shapes (values rs (take (i + 1) es))
kept_more rs es i d words w old new q h ew is ok on =
    let e : Live = get_or es i d in
    let word : w ≡ words_of (shape_at rs e.residual) =
    is ∙ ap (λ z. get_or z e.residual w) ew ∙ word_there rs e.residual w (listed_at (length rs) es i d h q) in
    on ∙ ap (λ z. z ++ record { words = w; tag = e.tag } ∷ []) ok
    ∙ ap (λ z. kept_by shapes (values rs (take i es)) ++ record { words = z; tag = e.tag } ∷ []) word
    ∙ sym (map-append (λ (k : Entry (Unit {0}) Shape Tag). seen_as k) (values rs (take i es)) (entry_value rs (plain_live e) ∷ []))
    ∙ ap (λ z. kept_by shapes z) (sym (values_push rs (take i es) e))
    ∙ ap (λ z. kept_by shapes (values rs z)) (sym (take_more es i d q))
  where
    seen_as : Entry (Unit {0}) Shape Tag → Kept
    seen_as k = record { words = record { nullable = nullable k.residual; longer = has_longer k.residual }; tag = k.tag }

    word_there : (rs : List Shape) (i : ℕ) (w : Words) → i < length rs → get_or (map (λ r. words_of r) rs) i w ≡ words_of (shape_at rs i)
    word_there [] i w q = absurd (omega (arith, q))
    word_there (r ∷ rs) zero w q = refl
    word_there (r ∷ rs) (suc i) w q = word_there rs i w (omega (arith, q))

pub step_made : (rows : List Row) (p : Shape) (b : ℕ) (old : List Shape) (book : Book) (here to : Configuration) (l : Letter) (arrow : Arrow) (row next : Row)
    (live kept after : List Live) (free ok : Bool) (seen : List Kept) → IsBook p book → live ≡ here.live.items →
    row ≡ row_or (slice_get rows here.state) → arrow ≡ arrow_on l row → next ≡ row_or (slice_get rows arrow.next) →
    IsLeft old (residuals_of book) (normal_form p) b l live kept → free ≡ list_all (λ (e : Live). not (is_ind e.tag)) live →
    seen ≡ kept_by shapes (values (residuals_of book) kept) → ok ≡ facts_agree (facts_of arrow.phase free seen) arrow.phase next.kind → (last : List Live) →
    last ≡ kept → plain_lives after ≡ retag_entries arrow.phase free (plain_lives last) → live_numbers after ≡ live_numbers last →
    to ≡ record { state = arrow.next; live = to.live } → to.live.items ≡ after →
    IsStep (unplanned rows p b) old (residuals_of book) here l to ok
step_made rows p b old book here to l arrow row next live kept after free ok seen h el er ea en k ef es eo last ek ev em et2 ei =
    let new : List Shape = residuals_of book in
    let s : Subject Shape = unplanned rows p b in
    let x : PlainConfiguration Shape = value_of old here in
    let ar : arrow ≡ move_of s x l = ea ∙ ap (λ z. arrow_on l z) (er ∙ row_is rows here.state) in
    let fr : free ≡ no_ind (entries_before s x) = ef ∙ free_start old (normal_form p) b live
    ∙ ap (λ z. no_ind (with_start tt (normal_form p) b (values old z))) el in
    let kp : values new kept ≡ kept_entries s x l = k.value ∙ ap (λ z. survivors shapes l (with_start tt (normal_form p) b (values old z))) el in
    let as_many : length to.live.items ≡ length kept = ap (λ z. length z) ei ∙ sym (length-map after (λ (e : Live). e.residual))
    ∙ ap (λ z. length z) (em ∙ ap (λ z. live_numbers z) ek) ∙ length-map kept (λ (e : Live). e.residual) in
    let few = k.few in let as_live = ap (λ z. length z) el in
    record {
      grows = k.grows;
      few = omega (arith, as_many, few, as_live);
      value = ap (λ (z : Configuration). value_of new z) et2
          ∙ ap (λ z. record { state = arrow.next; live = map (λ e. entry_value new e) (plain_lives z) }) ei
          ∙ ap (λ z. record { state = arrow.next; live = map (λ e. entry_value new e) z }) (ev ∙ ap (λ z. retag_entries arrow.phase free (plain_lives z)) ek)
          ∙ ap (λ z. record { state = arrow.next; live = z }) (retag_renamed (λ (u : Unit {0}). u) (λ i. shape_at new i) arrow.phase free (plain_lives kept))
          ∙ ap (λ z. record { state = arrow.next; live = retag_entries arrow.phase free z }) kp
          ∙ ap (λ z. record { state = arrow.next; live = retag_entries arrow.phase z (kept_entries s x l) }) fr
          ∙ ap (λ (z : Arrow). record { state = z.next; live = retag_entries z.phase (no_ind (entries_before s x)) (kept_entries s x l) }) ar;
      agrees = eo ∙ ap (λ z. facts_agree (facts_of arrow.phase free z) arrow.phase next.kind) es
          ∙ facts_law shapes arrow.phase next.kind free (values new kept)
          ∙ ap (λ z. entries_agree shapes arrow.phase next.kind free z) kp
          ∙ ap (λ z. entries_agree shapes arrow.phase next.kind z (kept_entries s x l)) fr
          ∙ ap (λ (z : Row). entries_agree shapes arrow.phase z.kind (no_ind (entries_before s x)) (kept_entries s x l)) (en ∙ row_is rows arrow.next)
          ∙ ap (λ (z : Arrow). entries_agree shapes z.phase (row_at rows z.next).kind (no_ind (entries_before s x)) (kept_entries s x l)) ar;
      listed = subst (λ z. AllByRecursion (λ i. i < length new) z) (sym (ap (λ z. live_numbers z) ei ∙ em ∙ ap (λ z. live_numbers z) ek)) k.listed;
      numbered = subst (λ z. AreNumbered (length old) z (length new)) (sym (ap (λ z. live_numbers z) ei ∙ em ∙ ap (λ z. live_numbers z) ek)) k.numbered;
    }

-- What a letter leaves of entries, one entry after the other: each is added where it has a word and stands not yet.
use Rattle.std.specs.Prelude.{◌≡◌, ℕ, ◌+◌, ◌<◌, ◌≤◌, ◌==◌, Bool, true, false, cond, not, ◌&&◌, List, [], ◌∷◌, ◌++◌, take, length, get_or}
use Rattle.std.specs.List.{list_any}
use Rattle.std.proofs.Common.{sym, ◌∙◌, ap, take_all}
use Rattle.std.proofs.lemmas.Bool.{eqb-true, eq-eqb}
use Rattle.std.proofs.lemmas.List.{map-append, take_more}
use Rattle.ts_base.specs.declared.letter.Letter.{Letter}
use Rattle.ts_pattern.specs.declared.plan.Tag.{Tag}
use Rattle.ts_pattern.specs.declared.plan.Live.{Live}
use Rattle.ts_pattern.specs.Entries.{Entry, derive_entry, survivors, with_entry}
use Rattle.ts_pattern.specs.Closed.{first_tag, with_start}
use Rattle.ts_pattern.specs.Plans.{plain_live}
use Rattle.ts_validate.specs.declared.knowledge.Knowledge.{Knowledge}
use Rattle.ts_validate.specs.Numbers.{known_at, next_on, plain_lives, numbers}
use Rattle.ts_pattern.proofs.CallerLemmas.{SameFollows, survivors_push}
use Rattle.ts_validate.proofs.Plain.{any_mapped}

-- what the letter leaves of an entry
abbrev left_entry : List Knowledge → Letter → Live → Entry (Unit {0}) ℕ Tag
left_entry table l e = derive_entry (numbers table) l (plain_live e)

numbers_follow : (table : List Knowledge) → SameFollows (numbers table)
numbers_follow table x k d p q =
    eq-eqb (known_at table x).own (known_at table d).own
    (eqb-true (known_at table x).own (known_at table k).own p ∙ eqb-true (known_at table k).own (known_at table d).own q)

pub left_more : (table : List Knowledge) (l : Letter) (live : List Live) (i : ℕ) (d : Live) (old new : List Live) → i < length live →
    plain_lives old ≡ survivors (numbers table) l (plain_lives (take i live)) →
    plain_lives new ≡ with_entry (numbers table) (plain_lives old) (left_entry table l (get_or live i d)) →
    plain_lives new ≡ survivors (numbers table) l (plain_lives (take (i + 1) live))
left_more table l live i d old new q h k =
    k ∙ ap (λ z. with_entry (numbers table) z (left_entry table l (get_or live i d))) h
    ∙ sym (survivors_push (numbers table) (numbers_follow table) l (plain_lives (take i live)) (plain_live (get_or live i d)))
    ∙ ap (λ z. survivors (numbers table) l z) (sym (map-append (λ e. plain_live e) (take i live) (get_or live i d ∷ [])))
    ∙ ap (λ z. survivors (numbers table) l (plain_lives z)) (sym (take_more live i d q))

pub left_last : (table : List Knowledge) (l : Letter) (b : ℕ) (live : List Live) (i : ℕ) (g : Tag) (old new : List Live) → length live ≤ i → g ≡ first_tag b →
    plain_lives old ≡ survivors (numbers table) l (plain_lives (take i live)) →
    plain_lives new ≡ with_entry (numbers table) (plain_lives old) (left_entry table l (record { residual = 0; tag = g })) →
    plain_lives new ≡ survivors (numbers table) l (with_start tt 0 b (plain_lives live))
left_last table l b live i g old new q t h k =
    k ∙ ap (λ z. with_entry (numbers table) (plain_lives old) (left_entry table l (record { residual = 0; tag = z }))) t
    ∙ ap (λ z. with_entry (numbers table) z (left_entry table l (record { residual = 0; tag = first_tag b })))
    (h ∙ ap (λ z. survivors (numbers table) l (plain_lives z)) (take_all i live q))
    ∙ sym (survivors_push (numbers table) (numbers_follow table) l (plain_lives live) (plain_live (record { residual = 0; tag = first_tag b })))

-- an entry that is added, and one that isn't
join_test : (table : List Knowledge) (l : Letter) (e : Live) (old : List Live) (r : ℕ) → r ≡ next_on l (known_at table e.residual) →
    (not (r == length table) && not (list_any (λ k. (known_at table k.residual).own == (known_at table r).own) old))
    ≡ ((numbers table).has_word ((numbers table).next e.residual l)
    && not (list_any (λ (k : Entry (Unit {0}) ℕ Tag). (numbers table).same k.residual ((numbers table).next e.residual l)) (plain_lives old)))
join_test table l e old r q =
    ap (λ z. not (r == length table) && not z) (any_mapped (λ (k : Entry (Unit {0}) ℕ Tag). (known_at table k.residual).own == (known_at table r).own)
    (λ e. plain_live e) old)
    ∙ ap (λ z. not (z == length table)
    && not (list_any (λ (k : Entry (Unit {0}) ℕ Tag). (known_at table k.residual).own == (known_at table z).own) (plain_lives old))) q

pub join_yes : (table : List Knowledge) (l : Letter) (e : Live) (old new slice : List Live) (r : ℕ) (b : Bool) → r ≡ next_on l (known_at table e.residual) →
    slice ≡ old →
    b ≡ (not (r == length table) && not (list_any (λ k. (known_at table k.residual).own == (known_at table r).own) slice)) → b ≡ true →
    new ≡ old ++ record { residual = r; tag = e.tag } ∷ [] →
    plain_lives new ≡ with_entry (numbers table) (plain_lives old) (left_entry table l e)
join_yes table l e old new slice r b q s t u n =
    let yes : (not (r == length table) && not (list_any (λ (k : Live). (known_at table k.residual).own == (known_at table r).own) old)) ≡ true =
    ap (λ z. not (r == length table) && not (list_any (λ (k : Live). (known_at table k.residual).own == (known_at table r).own) z)) (sym s) ∙ sym t ∙ u in
    ap (λ z. plain_lives z) n ∙ map-append (λ e. plain_live e) old (record { residual = r; tag = e.tag } ∷ [])
    ∙ ap (λ z. plain_lives old ++ record { mark = tt; residual = z; tag = e.tag } ∷ []) q
    ∙ ap (λ z. cond z (plain_lives old ++ derive_entry (numbers table) l (plain_live e) ∷ []) (plain_lives old)) (sym (sym (join_test table l e old r q) ∙ yes))

pub join_no : (table : List Knowledge) (l : Letter) (e : Live) (old slice : List Live) (r : ℕ) (b : Bool) → r ≡ next_on l (known_at table e.residual) →
    slice ≡ old →
    b ≡ (not (r == length table) && not (list_any (λ k. (known_at table k.residual).own == (known_at table r).own) slice)) → b ≡ false →
    plain_lives old ≡ with_entry (numbers table) (plain_lives old) (left_entry table l e)
join_no table l e old slice r b q s t u =
    let no : (not (r == length table) && not (list_any (λ (k : Live). (known_at table k.residual).own == (known_at table r).own) old)) ≡ false =
    ap (λ z. not (r == length table) && not (list_any (λ (k : Live). (known_at table k.residual).own == (known_at table r).own) z)) (sym s) ∙ sym t ∙ u in
    ap (λ z. cond z (plain_lives old ++ derive_entry (numbers table) l (plain_live e) ∷ []) (plain_lives old)) (sym (sym (join_test table l e old r q) ∙ no))

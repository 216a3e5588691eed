-- What is known of the machines of terms, and their drops, one after the other.
use Rattle.std.proofs.Common.{◌≡◌, ℕ, zero, suc, ◌+◌, ◌<◌, List, [], ◌∷◌, length, set, get_or, Option, Some, sym, ap, ◌∙◌, subst, arith}
use Rattle.std.specs.Prelude.{IfOk, Result, Ok, Err}
use Rattle.std.proofs.lemmas.Option.{none-some, same_Some, slice_get-get_or, get_or_from_slice_get}
use Rattle.std.specs.List.{AllByRecursion}
use Rattle.std.proofs.Math.Seq.{map-set_same}
use Rattle.std.proofs.lemmas.List.{get_or-map, length-map}
use Rattle.std.proofs.lemmas.List.Elements.{All-set}
use Rattle.ts_base.specs.declared.error.Memory.{Memory}
use Rattle.ts_bound.specs.TermSpans.{Automata, LooksIn}
use Rattle.ts_model.specs.declared.model.Require.{Require}
use Rattle.ts_filter.specs.declared.drops.Removal.{Removal}
use Rattle.ts_filter.specs.Boxes.{Box}
use Rattle.ts_filter.specs.Drops.{IsFirstOf}
use Rattle.ts_filter.specs.KnownRows.{KnownRows, AreKnown}
use Rattle.ts_filter.specs.OfTerm.{OfTerm}
use Rattle.ts_filter.specs.Tables.{Tables, AreRowsOfEach, machines_of}
use Rattle.ts_filter.specs.TermDrops.{IsDropUpTo, cell_up_to, earlier_of}
use Rattle.ts_filter.proofs.DropLaws.{DropBelow, first_below_more}

abbrev machine_of : KnownRows → Automata
machine_of t = t.machine

-- what holds of the machine that is read holds of the term's
pub told_of_term : {T : Type 0} (all : List Automata) (term : ℕ) (x : Automata) (P : Automata → T → Type 0) (r : Result T Memory) →
    x ≡ get_or all term x → IfOk r (P x) → IfOk r (λ t. OfTerm all term (λ a. P a t))
told_of_term all term x P (Ok t) is h = λ a has. subst (λ z. P z t) (is ∙ get_or_from_slice_get all term a x has) h
told_of_term all term x P (Err e) is h = tt

-- there are as many tables as machines
pub machines_long : {seen : Box} (each : List KnownRows) {t : Tables} → record { machines = machines_of each; cells = seen } ≡ t →
    length t.machines ≡ length each
machines_long each view = sym (ap (λ (u : Tables). length u.machines) view) ∙ length-map each machine_of

-- a question to the tables of a term, which have rows of the box that is seen
module _ {seen : Box} (each : List KnownRows) {t : Tables} {term : ℕ} {x : KnownRows} (view : record { machines = machines_of each; cells = seen } ≡ t)
    (lt : term < length t.machines) (is : x ≡ get_or each term x) where
  machines_are : machines_of each ≡ t.machines
  machines_are = ap (λ (u : Tables). u.machines) view

  seen_is : seen ≡ t.cells
  seen_is = ap (λ (u : Tables). u.cells) view

  there : term < length each
  there = subst (λ n. term < n) (machines_long each view) lt

  machine_read : x.machine ≡ get_or t.machines term x.machine
  machine_read = ap machine_of is ∙ sym (get_or-map machine_of each term x x.machine there) ∙ ap (λ l. get_or l term x.machine) machines_are

  -- before a question to the tables of a term

  pub asked_of : (P : Automata → Type 0) → OfTerm t.machines term P → P x.machine
  asked_of P h = h x.machine (slice_get-get_or t.machines term x.machine lt ∙ ap Some (sym machine_read))

  pub known_of : (b : Box) → AreRowsOfEach seen each → t.cells ≡ b → AreKnown b x
  known_of b rows on = subst (λ z. AreKnown z x) (seen_is ∙ on) (subst (AreKnown seen) (sym is) (rows term x there))

  -- after a question to the tables of a term

  pub told_of : {T : Type 0} (P : Automata → T → Type 0) (r : Result T Memory) → IfOk r (P x.machine) → IfOk r (λ v. OfTerm t.machines term (λ a. P a v))
  told_of P r h = told_of_term t.machines term x.machine P r machine_read h

  pub same_after : (y : KnownRows) → y.machine ≡ x.machine → record { machines = machines_of (set each term y); cells = seen } ≡ t
  same_after y machine =
      ap (λ l. record { machines = l; cells = seen }) (map-set_same machine_of each term y x (machine ∙ ap machine_of is)) ∙ view

  pub rows_after : (b : Box) (y : KnownRows) → AreRowsOfEach seen each → t.cells ≡ b → AreKnown b y → AreRowsOfEach seen (set each term y)
  rows_after b y rows on known = All-set (AreKnown seen) each term y (subst (λ z. AreKnown z y) (sym (seen_is ∙ on)) known) rows

-- what holds of each machine holds of the term's
pub looks_of : (b : Box) (all : List Automata) (term : ℕ) → AllByRecursion (λ a. LooksIn a b) all → OfTerm all term (λ a. LooksIn a b)
looks_of b [] term h a e = absurd (none-some a e)
looks_of b (d ∷ all) zero h a e = subst (λ x. LooksIn x b) (same_Some d a e) h.0
looks_of b (d ∷ all) (suc term) h a e = looks_of b all term h.1 a e

-- one more term whose drops are known
pub drops_more : (rs : List Require) (all : List Automata) (b : Box) (term to : ℕ) (first found both : Option Removal) → term < length all →
    AllByRecursion (λ a. LooksIn a b) all → to ≡ cell_up_to first (length b) → IsFirstOf (DropBelow rs all b term) first →
    OfTerm all term (λ a. IsFirstOf (IsDropUpTo rs term a b to) found) → both ≡ earlier_of first found → IsFirstOf (DropBelow rs all b (term + 1)) both
drops_more rs [] b term to first found both lt looks is h f e = absurd (omega (arith, lt))
drops_more rs (d ∷ all) b term to first found both lt looks is h f e =
    let a = get_or (d ∷ all) term d in let there = slice_get-get_or (d ∷ all) term d lt in
    subst (IsFirstOf (DropBelow rs (d ∷ all) b (term + 1))) (sym e)
    (first_below_more rs (d ∷ all) b term a there (looks_of b (d ∷ all) term looks a there) first found to is h (f a there))

-- The tables of all terms, one after the other: what a change of the box leaves of each.
use Rattle.std.proofs.Common.{◌≡◌, ℕ, ◌+◌, ◌<◌, ◌≤◌, List, [], ◌∷◌, length, set, get_or, sym, ap, ◌∙◌, subst, arith}
use Rattle.std.specs.List.{All, AllByRecursion, AllWithin}
use Rattle.std.proofs.Math.Seq.{map-set_same}
use Rattle.std.proofs.lemmas.List.{get_or-set_other, length-map}
use Rattle.std.proofs.lemmas.List.Elements.{All-from_recursion, AllWithin-more_set}
use Rattle.ts_bound.specs.TermSpans.{Automata, LooksIn}
use Rattle.ts_filter.specs.Boxes.{Box}
use Rattle.ts_filter.specs.KnownRows.{KnownRows, AreKnown, AreRowsOf}
use Rattle.ts_filter.specs.Tables.{AreRowsOfEach, machines_of}

abbrev machine_of : KnownRows → Automata
machine_of t = t.machine

same_machines : (each each' : List KnownRows) (term : ℕ) (x y : KnownRows) → x ≡ get_or each term x → y.machine ≡ x.machine → each' ≡ set each term y →
    machines_of each' ≡ machines_of each
same_machines each each' term x y is machine now = ap machines_of now ∙ map-set_same machine_of each term y x (machine ∙ ap machine_of is)

-- of all terms, those before `term` have forgotten all

pub record AreForgotten (old each : List KnownRows) (term : ℕ) : Type 0 where
  pub machines : machines_of each ≡ machines_of old
  pub known : (b : Box) → AllWithin (AreKnown b) each 0 term

pub one_forgotten : (old each each' : List KnownRows) (term : ℕ) (x y : KnownRows) → AreForgotten old each term → term < length each → x ≡ get_or each term x →
    y.machine ≡ x.machine → ((b : Box) → AreRowsOf b y) → each' ≡ set each term y → AreForgotten old each' (term + 1)
one_forgotten old each each' term x y h lt is machine known now = record {
  machines = same_machines each each' term x y is machine now ∙ h.machines;
  known = λ b. subst (λ l. AllWithin (AreKnown b) l 0 (term + 1)) (sym now) (AllWithin-more_set each term y lt (AreKnown b) (h.known b) (known _));
}

-- the tables of the terms before `term` follow a box to a later one

pub record HaveMet (cells later : Box) (old each : List KnownRows) (term : ℕ) : Type 0 where
  pub machines : machines_of each ≡ machines_of old
  pub rest : (k : ℕ) (d : KnownRows) → term ≤ k → get_or each k d ≡ get_or old k d
  pub met : AreRowsOfEach cells old → AllWithin (AreKnown later) each 0 term

pub as_many : (old each : List KnownRows) → machines_of each ≡ machines_of old → length each ≡ length old
as_many old each h = sym (length-map each machine_of) ∙ ap length h ∙ length-map old machine_of

module _ (cells later : Box) (old each : List KnownRows) (term : ℕ) (x : KnownRows) (h : HaveMet cells later old each term) (lt : term < length each)
    (is : x ≡ get_or each term x) where
  -- the tables of the next term are as they were

  as_it_was : get_or old term x ≡ x
  as_it_was = sym (h.rest term x (omega arith)) ∙ sym is

  there : term < length old
  there = subst (λ m. term < m) (as_many old each h.machines) lt

  pub looks_next : All (λ t. LooksIn t.machine later) old → LooksIn x.machine later
  looks_next looks = subst (λ (t : KnownRows). LooksIn t.machine later) as_it_was (looks term x there)

  pub one_met : (each' : List KnownRows) (y : KnownRows) → y.machine ≡ x.machine → (AreKnown cells x → AreKnown later y) → each' ≡ set each term y →
      HaveMet cells later old each' (term + 1)
  one_met each' y machine stay now = record {
    machines = same_machines each each' term x y is machine now ∙ h.machines;
    rest = λ k d le. ap (λ l. get_or l k d) now ∙ get_or-set_other each term k y d (λ e. omega (arith, le, e)) ∙ h.rest k d (omega (arith, le));
    met = λ known.
        subst (λ l. AllWithin (AreKnown later) l 0 (term + 1)) (sym now)
        (AllWithin-more_set each term y lt (AreKnown later) (h.met known) (stay (subst (AreKnown cells) as_it_was (known term x there))));
  }

pub all_met : (cells later : Box) (old each : List KnownRows) (term : ℕ) → HaveMet cells later old each term → length old ≤ term →
    AreRowsOfEach cells old → AreRowsOfEach later each
all_met cells later old each term h end known = λ k d lt.
    let long = as_many old each h.machines in h.met known k d (omega arith) (omega (arith, lt, long, end))

-- the machines look inside the box
pub looks_each : (b : Box) (each : List KnownRows) → AllByRecursion (λ a. LooksIn a b) (machines_of each) → All (λ t. LooksIn t.machine b) each
looks_each b each h = All-from_recursion (λ t. LooksIn t.machine b) each (by_term each h)
  where
    by_term : (ts : List KnownRows) → AllByRecursion (λ a. LooksIn a b) (machines_of ts) → AllByRecursion (λ t. LooksIn t.machine b) ts
    by_term [] h = tt
    by_term (t ∷ ts) h = (h.0, by_term ts h.1)

use Rattle.std.proofs.Common.{◌≡◌, ◌∷◌, [], ◌++◌, List, length, map, refl, sym, ap, ◌∙◌, subst, append_assoc, append-nil, arith}
use Rattle.std.specs.Vec.Iter.{into_iter_items}
use Rattle.ts_bound.specs.TermSpans.{Automata, automata_of}
use Rattle.ts_glue.specs.declared.machine.Machine.{Machine}
use Rattle.std.proofs.lemmas.List.{map-append}
use Rattle.std.proofs.lemmas.List.Elements.{All-push}
use Rattle.ts_filter.specs.KnownRows.{AreKnown, KnownRows}
use Rattle.ts_filter.specs.Tables.{AreRowsOfEach, machines_of}
use Rattle.ts_filter.proofs.all_tables.AllTables.owning.Goals as goal

-- the tables of one machine more
one_more : (each each' all : List Automata) (left left' : List Machine) (m : Machine) (a : Automata) → left ≡ m ∷ left' → a ≡ automata_of m →
    each' ≡ each ++ a ∷ [] → each ++ map automata_of left ≡ all → each' ++ map automata_of left' ≡ all
one_more each each' all left left' m a is same push h =
    ap (λ l. l ++ map automata_of left') push ∙ append_assoc each (a ∷ []) (map automata_of left')
    ∙ ap (λ (z : Automata). each ++ z ∷ map automata_of left') same ∙ ap (λ l. each ++ map automata_of l) (sym is) ∙ h

none_left : (left : List Machine) → length left ≡ 0 → left ≡ []
none_left [] h = refl
none_left (m ∷ left) h = absurd (omega (arith, h))

pub loop-machine-preserved : goal.loop-machine-preserved
loop-machine-preserved c =
    let at = c.loop-machine in
    let left = into_iter_items at.machine-iterator in
    let steps : left ≡ c.in-Some.machine ∷ into_iter_items c.next.new.self = c.in-Some.ensures.steps.0 in record {
      machines = one_more (machines_of at.each.items) (machines_of c.push.new.self.items) _ left (into_iter_items c.next.new.self) c.in-Some.machine
          c.new.result.machine steps c.new.ensures.machine
          (ap machines_of c.in_ok-push.ensures.items ∙ map-append (λ (t : KnownRows). t.machine) at.each.items (c.new.result ∷ []))
          at.invariant.machines;
      known = λ b. subst (AreRowsOfEach b) (sym c.in_ok-push.ensures.items)
          (All-push (AreKnown b) at.each.items c.new.result (at.invariant.known b) (c.new.ensures.known _));
      count = let was = at.invariant.count in
          let gone = c.in-Some.ensures.steps.1 in
          let short = ap length steps in
          omega (arith, was, gone, short);
    }

pub returns : goal.returns
returns c =
    let at = c.loop-machine in
    let none = c.in-None.ensures.steps in
    let empty : into_iter_items at.machine-iterator ≡ [] = none_left _ (sym at.invariant.count ∙ none.0) in
    c.of.ensures ∙ sym (append-nil (machines_of at.each.items)) ∙ ap (λ l. machines_of at.each.items ++ map automata_of l) (sym empty) ∙ at.invariant.machines
    ∙ ap (map automata_of) c.into_iter-machine-iterator.ensures.into_iter_gives.0

use Rattle.std.proofs.Common.{◌∷◌, [], ◌++◌, map, take, ap, ◌∙◌, subst, sym}
use Rattle.std.proofs.lemmas.List.{map-append, map_more}
use Rattle.std.proofs.lemmas.List.Elements.{All-push}
use Rattle.ts_bound.specs.TermSpans.{Automata, automata_of}
use Rattle.ts_filter.specs.KnownRows.{AreKnown, KnownRows}
use Rattle.ts_filter.specs.Tables.{AreRowsOfEach, machines_of}
use Rattle.ts_filter.proofs.all_tables.AllTables.new.Goals as goal

pub loop-machine-preserved : goal.loop-machine-preserved
loop-machine-preserved c =
    let at = c.loop-machine in let all = c.args.machines.now in let i = at.machine-index in let m = c.machine-item.result in record {
      machines = ap machines_of c.in_ok-push.ensures.items ∙ map-append (λ (t : KnownRows). t.machine) at.each.items (c.new.result ∷ [])
          ∙ ap (λ l. l ++ c.new.result.machine ∷ []) at.invariant.machines
          ∙ ap (λ (a : Automata). map automata_of (take i all) ++ a ∷ []) (c.new.ensures.machine ∙ ap automata_of c.machine-item.is)
          ∙ sym (map_more automata_of all i m c.loop-machine-test.true);
      known = λ b. subst (AreRowsOfEach b) (sym c.in_ok-push.ensures.items)
          (All-push (AreKnown b) at.each.items c.new.result (at.invariant.known b) (c.new.ensures.known _));
    }

use Rattle.std.proofs.Common.{◌≡◌, length, refl, arith}
use Rattle.ts_automaton.specs.Body.{parts_of}
use Rattle.ts_automaton.specs.Reading.{sheet_seen}
use Rattle.ts_automaton.proofs.TextLaws.{few_by, rules_by, taken_by, fault_by, moves_by}
use Rattle.ts_automaton.proofs.automaton_text.judged.Goals as goal

pub parts_in-requires : goal.parts_in-requires
parts_in-requires c = moves_by (sheet_seen c.args.block) c.args.block.moves.items c.requires refl

pub first_fault-requires : goal.first_fault-requires
first_fault-requires c =
    let few = few_by (sheet_seen c.args.block) (parts_of c.in_ok-parts.parts) c.in_ok-parts.parts.states.items c.requires c.in_ok-parts.ensures refl in
    omega (arith, few)

pub from_parts-requires : goal.from_parts-requires
from_parts-requires c = rules_by (sheet_seen c.args.block) (parts_of c.in_ok-parts.parts) c.requires c.in_ok-parts.ensures c.in-None.ensures

pub line_at-requires : goal.line_at-requires
line_at-requires c =
    let few = few_by (sheet_seen c.args.block) (parts_of c.in_ok-parts.parts) c.in_ok-parts.parts.states.items c.requires c.in_ok-parts.ensures refl in
    omega (arith, few)

pub returns-in-None : goal.returns-in-None
returns-in-None c =
    taken_by (sheet_seen c.args.block) (parts_of c.in_ok-parts.parts) c.from_parts.result c.requires c.in_ok-parts.ensures
    c.in-None.ensures c.from_parts.ensures

pub returns-in-Some : goal.returns-in-Some
returns-in-Some c =
    let items = c.in_ok-parts.parts.states.items in
    let count : c.len.result ≡ length items = omega (arith, c.len.ensures) in
    fault_by (sheet_seen c.args.block) (parts_of c.in_ok-parts.parts) items c.in-Some.place c.len.result c.line_at.result
    c.in_ok-parts.ensures c.in-Some.ensures refl count c.line_at.ensures

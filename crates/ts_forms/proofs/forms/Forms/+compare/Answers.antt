use Rattle.std.specs.Prelude.{length, refl}
use Rattle.ts_regex.specs.Shape.{Cat, Alt}
use Rattle.ts_forms.specs.Tables.{shapes}
use Rattle.ts_forms.proofs.Orders.{same_number, by_second_parts, by_first_parts}
use Rattle.ts_forms.proofs.Puts.{part_there}
use Rattle.ts_forms.proofs.forms.Forms.+compare.Goals as goal

pub returns-then-i-j : goal.returns-then-i-j
returns-then-i-j t c = same_number (shapes c.args.self.now) c.args.i c.args.j c.if-i-j.true

pub returns-in-Cat-Cat : goal.returns-in-Cat-Cat
returns-in-Cat-Cat t c =
    let e = c.in-Cat-Cat in
    by_second_parts (λ r s. Cat r s) (λ r s t u. refl) (shapes c.args.self.now) c.args.i c.args.j e.r e.s e.t e.u c.compare.result e.ensures.shape
    e.ensures'.shape c.if-r-t.true c.compare.ensures

pub returns-in-Cat-Cat-2 : goal.returns-in-Cat-Cat-2
returns-in-Cat-Cat-2 t c =
    let e = c.in-Cat-Cat in let n = length (shapes c.args.self.now) in
    by_first_parts (λ r s. Cat r s) (λ r s t u. refl) (shapes c.args.self.now) c.args.i c.args.j e.r e.s e.t e.u c.compare-in-Cat-Cat-2.result
    c.requires.table.once e.ensures.shape e.ensures'.shape (part_there e.r c.args.i n e.ensures.parts.0 c.requires.first)
    (part_there e.t c.args.j n e.ensures'.parts.0 c.requires.second) c.if-r-t.false c.compare-in-Cat-Cat-2.ensures

pub returns-in-Alt-Alt : goal.returns-in-Alt-Alt
returns-in-Alt-Alt t c =
    let e = c.in-Alt-Alt in
    by_second_parts (λ r s. Alt r s) (λ r s t u. refl) (shapes c.args.self.now) c.args.i c.args.j e.r e.s e.t e.u c.compare-in-Alt-Alt.result
    e.ensures.shape e.ensures'.shape c.if-r-t-2.true c.compare-in-Alt-Alt.ensures

pub returns-in-Alt-Alt-2 : goal.returns-in-Alt-Alt-2
returns-in-Alt-Alt-2 t c =
    let e = c.in-Alt-Alt in let n = length (shapes c.args.self.now) in
    by_first_parts (λ r s. Alt r s) (λ r s t u. refl) (shapes c.args.self.now) c.args.i c.args.j e.r e.s e.t e.u c.compare-in-Alt-Alt-2.result
    c.requires.table.once e.ensures.shape e.ensures'.shape (part_there e.r c.args.i n e.ensures.parts.0 c.requires.first)
    (part_there e.t c.args.j n e.ensures'.parts.0 c.requires.second) c.if-r-t-2.false c.compare-in-Alt-Alt-2.ensures

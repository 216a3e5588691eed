use Rattle.std.proofs.Common.{rules}
use Rattle.ts_regex.specs.Shape.{Cat, Alt, shape_of}
use Rattle.ts_forms.proofs.Puts.{put_whole}
use Rattle.ts_forms.proofs.forms.Forms.+add.Goals as goal

pub returns-in_ok-second-in-Cat : goal.returns-in_ok-second-in-Cat
returns-in_ok-second-in-Cat t c =
    put_whole (λ r s. Cat r s) (shape_of c.args.r.now) c.args.self.now c.add.new.self c.add-in-Cat.new.self c.put-in-Cat.new.self
    (shape_of c.deref.result.now) (shape_of c.deref-in-Cat.result.now) c.in_ok-first-in-Cat.first c.in_ok-second-in-Cat.second c.put-in-Cat.result
    (search rules) c.in_ok-first-in-Cat.ensures c.in_ok-second-in-Cat.ensures c.put-in-Cat.ensures

pub returns-in_ok-second-in-Alt : goal.returns-in_ok-second-in-Alt
returns-in_ok-second-in-Alt t c =
    put_whole (λ r s. Alt r s) (shape_of c.args.r.now) c.args.self.now c.add-in-Alt.new.self c.add-in-Alt-2.new.self c.put-in-Alt.new.self
    (shape_of c.deref-in-Alt.result.now) (shape_of c.deref-in-Alt-2.result.now) c.in_ok-first-in-Alt.first c.in_ok-second-in-Alt.second
    c.put-in-Alt.result (search rules) c.in_ok-first-in-Alt.ensures c.in_ok-second-in-Alt.ensures c.put-in-Alt.ensures

use Rattle.std.specs.Prelude.{refl}
use Rattle.ts_forms.proofs.Places.{put_fresh, put_stays}
use Rattle.ts_forms.proofs.forms.Forms.put.Goals as goal

pub returns-in_ok-push-2 : goal.returns-in_ok-push-2
returns-in_ok-push-2 c =
    let e = c.in_ok-place.ensures in
    put_fresh c.args.self.now _ c.args.node c.words-words.result c.in_ok-place.is_new c.in_ok-place.place c.requires.table
    c.requires.parts c.words-words.ensures e.added e.keys e.stored c.if-is_new.true c.in_ok-push.ensures.items c.in_ok-push-2.ensures.items

pub returns-else-is_new : goal.returns-else-is_new
returns-else-is_new c =
    let e = c.in_ok-place.ensures in
    put_stays c.args.self.now _ c.args.node c.in_ok-place.is_new c.in_ok-place.place c.requires.table e.added e.keys e.stored
    c.if-is_new.false refl refl

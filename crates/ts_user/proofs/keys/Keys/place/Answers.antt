use Rattle.ts_user.proofs.KeyLaws.{placed_new, placed_old}
use Rattle.ts_user.proofs.keys.Keys.place.Goals as goal

pub returns-then-is_new : goal.returns-then-is_new
returns-then-is_new c =
    let e = c.in_ok-place.ensures in
    placed_new c.args.self.now.lists.keys c.insert_full.new.self.keys c.args.key c.in_ok-place.is_new e.added e.keys c.if-is_new.true

pub returns-else-is_new : goal.returns-else-is_new
returns-else-is_new c =
    let e = c.in_ok-place.ensures in
    placed_old c.args.self.now.lists.keys c.insert_full.new.self.keys c.args.key c.in_ok-place.is_new c.in_ok-place.place e.added e.keys c.if-is_new.false
    e.stored

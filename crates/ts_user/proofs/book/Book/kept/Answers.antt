use Rattle.std.specs.Vec.{vec_len}
use Rattle.std.proofs.Common.{◌≡◌, ◌∙◌, ap, arith, rules, length, take_all}
use Rattle.ts_pattern.specs.Entries.{shapes}
use Rattle.ts_validate.specs.Facts.{kept_by}
use Rattle.ts_user.specs.Books.{residuals_of, values}
use Rattle.ts_user.proofs.Steps.{words_there, kept_more}
use Rattle.ts_user.proofs.book.Book.kept.Goals as goal

pub index-requires : goal.index-requires
index-requires c =
    let size : vec_len c.args.self.now.words ≡ length c.args.self.now.words.items = search rules in
    words_there (residuals_of c.args.self.now) c.args.self.now.words.items c.args.live.now c.loop-entry.entry-index _ (vec_len c.args.self.now.words)
    c.requires.words size c.requires.listed c.loop-entry-test.true

pub loop-entry-preserved : goal.loop-entry-preserved
loop-entry-preserved c =
    kept_more (residuals_of c.args.self.now) c.args.live.now c.loop-entry.entry-index _ c.args.self.now.words.items c.index.result.now
    c.loop-entry.kept.items c.push.new.self.items c.loop-entry-test.true c.requires.listed c.requires.words c.index.ensures c.loop-entry.invariant
    c.in_ok-push.ensures.items

pub returns : goal.returns
returns c =
    c.loop-entry.invariant
    ∙ ap (λ z. kept_by shapes (values (residuals_of c.args.self.now) z)) (take_all c.loop-entry.entry-index c.args.live.now (omega arith))

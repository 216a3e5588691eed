use Rattle.std.proofs.Common.{◌<◌, subst, sym, take}
use Rattle.ts_user.proofs.Books.{book_length}
use Rattle.ts_regex.specs.Shape.{shape_of}
use Rattle.ts_regex.specs.NormalForm.{normal_form}
use Rattle.ts_user.specs.Books.{residuals_of}
use Rattle.ts_user.proofs.Steps.{IsLeftTo, left_start, entry_listed, left_more, left_last, room_at}
use Rattle.ts_user.proofs.step.left.Goals as goal

pub loop-entry-init : goal.loop-entry-init
loop-entry-init c =
    record {
      book = c.requires.book;
      left = subst (λ z. IsLeftTo (residuals_of c.args.book.now) (residuals_of c.args.book.now) c.args.letter (take 0 c.args.live.now) z)
          (sym c.new-kept.ensures.none) (left_start (residuals_of c.args.book.now) c.args.letter);
      found = c.new-kept.ensures.found;
    }

pub add_left-requires-clause-there : goal.add_left-requires-clause-there
add_left-requires-clause-there c =
    entry_listed (residuals_of c.args.book.now) (residuals_of c.loop-entry.book) c.args.live.now c.loop-entry.entry-index _ c.requires.listed
    c.loop-entry-test.true c.loop-entry.invariant.left.grows _ (book_length c.loop-entry.book)

pub add_left-requires-clause-room : goal.add_left-requires-clause-room
add_left-requires-clause-room c =
    room_at (residuals_of c.args.book.now) c.loop-entry.book c.args.letter c.args.live.now c.loop-entry.kept.live.items c.loop-entry.entry-index _
    c.loop-entry.invariant.left (book_length c.args.book.now) c.requires.room

pub loop-entry-preserved : goal.loop-entry-preserved
loop-entry-preserved c =
    record {
      book = c.in_ok-add_left.ensures.book;
      left = left_more (residuals_of c.args.book.now) (residuals_of c.loop-entry.book) (residuals_of c.add_left.new.book) c.args.letter c.args.live.now
          c.loop-entry.entry-index _ c.loop-entry.kept.live.items c.add_left.new.kept.live.items c.requires.listed c.loop-entry-test.true
          c.loop-entry.invariant.left
          c.in_ok-add_left.ensures.added;
      found = c.in_ok-add_left.ensures.found;
    }

pub add_left-requires-2-clause-there : goal.add_left-requires-2-clause-there
add_left-requires-2-clause-there c =
    let some = c.loop-entry.invariant.book.some in
    let size = book_length c.loop-entry.book in
    subst (λ z. 0 < z) size some

pub add_left-requires-2-clause-room : goal.add_left-requires-2-clause-room
add_left-requires-2-clause-room c =
    room_at (residuals_of c.args.book.now) c.loop-entry.book c.args.letter c.args.live.now c.loop-entry.kept.live.items c.loop-entry.entry-index _
    c.loop-entry.invariant.left (book_length c.args.book.now) c.requires.room

pub returns-clause-left : goal.returns-clause-left
returns-clause-left c =
    left_last (residuals_of c.args.book.now) (residuals_of c.loop-entry.book) (residuals_of c.add_left-2.new.book) (normal_form (shape_of c.args.p.now.regex))
    c.args.p.now.b c.args.letter c.args.live.now c.loop-entry.entry-index c.first_tag.result c.loop-entry.kept.live.items c.add_left-2.new.kept.live.items
    c.requires.book.some c.requires.book.whole c.loop-entry-test.false c.first_tag.ensures c.loop-entry.invariant.left c.in_ok-add_left-2.ensures.added

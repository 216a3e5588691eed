use Rattle.std.proofs.Common.{◌∙◌, refl, sym}
use Rattle.ts_filter.proofs.BoxParts.{inside_length}
use Rattle.ts_search.specs.Views.{search_of}
use Rattle.ts_search.proofs.Marks.{mark_none}
use Rattle.ts_search.proofs.witnesses.Witnesses.mark.Goals as goal

pub note_ends-requires : goal.note_ends-requires
note_ends-requires c =
    c.requires.shown.held.ends ∙ sym (inside_length c.args.cells.now.present (search_of c.args.problem.now).model.cells c.requires.part.inside)

pub loop-term-init : goal.loop-term-init
loop-term-init c =
    let size = inside_length c.args.cells.now.present (search_of c.args.problem.now).model.cells c.requires.part.inside in
    record {
      marked = mark_none c.args.problem.now c.requires.posed c.args.self.now _ c.args.cells.now.present refl
          (c.note_ends.ensures.count ∙ size ∙ sym c.requires.shown.held.ends) c.note_ends.ensures.ends c.forget.ensures c.requires.shown;
    }

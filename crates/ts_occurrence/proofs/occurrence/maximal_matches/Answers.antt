use Rattle.std.proofs.Common.{◌+◌, ◌∙◌, ap, length, take}
use Rattle.ts_base.specs.declared.letter.Letter.TheVariants.{Less}
use Rattle.ts_regex.specs.Shape.{shape_of}
use Rattle.ts_pattern.proofs.CallerLemmas.{AreLive}
use Rattle.ts_occurrence.specs.Residuals.{shapes_met}
use Rattle.ts_occurrence.specs.Live.{entries_of, first_ending}
use Rattle.ts_occurrence.proofs.Known.{stays_within, same_grown}
use Rattle.ts_occurrence.proofs.Reading.{live_grown, no_later, ranges_grown}
use Rattle.ts_occurrence.proofs.occurrence.maximal_matches.Goals as goal

pub note-requires-clause-earlier : goal.note-requires-clause-earlier
note-requires-clause-earlier c =
    no_later (shape_of c.args.p.now.regex) c.args.w.now c.loop-k.k (entries_of (shapes_met c.after_letter.new.residuals.met.items) c.in_ok-live.live.items)
    c.first_ending-ending.result c.loop-k-test.true
    (live_grown (shape_of c.args.p.now.regex) _ c.args.w.now c.loop-k.k _ (entries_of (shapes_met c.loop-k.residuals.met.items) c.loop-k.live.items)
    (entries_of (shapes_met c.after_letter.new.residuals.met.items) c.in_ok-live.live.items) c.loop-k-test.true c.loop-k.invariant.whole c.loop-k.invariant.live
    c.in_ok-live.ensures.exact)
    (c.first_ending-ending.ensures ∙ ap (λ z. first_ending (entries_of (shapes_met c.after_letter.new.residuals.met.items) z)) c.deref.ensures.value)

pub loop-k-preserved : goal.loop-k-preserved
loop-k-preserved c =
    let live : AreLive (shape_of c.args.p.now.regex) (take (c.loop-k.k + 1) c.args.w.now) (length (take (c.loop-k.k + 1) c.args.w.now))
    (entries_of (shapes_met c.after_letter.new.residuals.met.items) c.in_ok-live.live.items) =
    live_grown (shape_of c.args.p.now.regex) _ c.args.w.now c.loop-k.k _ (entries_of (shapes_met c.loop-k.residuals.met.items) c.loop-k.live.items)
    (entries_of (shapes_met c.after_letter.new.residuals.met.items) c.in_ok-live.live.items) c.loop-k-test.true c.loop-k.invariant.whole c.loop-k.invariant.live
    c.in_ok-live.ensures.exact in
    record {
      some = stays_within c.loop-k.residuals.met.items c.after_letter.new.residuals.met.items 0 c.in_ok-live.ensures.grown c.loop-k.invariant.some;
      whole = same_grown c.loop-k.residuals.met.items c.after_letter.new.residuals.met.items 0 _ c.in_ok-live.ensures.grown c.loop-k.invariant.some
          c.loop-k.invariant.whole;
      right = c.in_ok-live.ensures.right;
      met = c.in_ok-live.ensures.known;
      live = live;
      found = ranges_grown (shape_of c.args.p.now.regex) c.args.p.now.b c.args.p.now.a c.args.w.now c.loop-k.k Less
          (entries_of (shapes_met c.after_letter.new.residuals.met.items) c.in_ok-live.live.items) c.first_ending-ending.result c.loop-k.found.items
          c.note.new.found.items c.loop-k-test.true live
          (c.first_ending-ending.ensures ∙ ap (λ z. first_ending (entries_of (shapes_met c.after_letter.new.residuals.met.items) z)) c.deref.ensures.value)
          c.in_ok-note.ensures c.loop-k.invariant.found;
    }

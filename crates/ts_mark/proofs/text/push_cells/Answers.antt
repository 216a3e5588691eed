use Rattle.std.proofs.Common.{◌≡◌, ◌∙◌, ◌+◌, ℕ, drop, subst, sym}
use Rattle.ts_mark.specs.Walk.{ended, begun}
use Rattle.ts_mark.proofs.Texts.{cell_more}
use Rattle.ts_mark.proofs.Walk.{ended_goes_on, begun_goes_on}
use Rattle.ts_mark.proofs.text.push_cells.Goals as goal

pub loop-k-preserved : goal.loop-k-preserved
loop-k-preserved c =
    let ranges = c.args.ranges.now in
    let k = c.loop-k.k in
    let starts = c.past_ended-first.ensures.exact ∙ c.loop-k.invariant.starts in
    let ends = c.past_begun-behind.ensures.exact ∙ c.loop-k.invariant.ends in
    record {
      words =
          cell_more ranges k c.args.cells c.past_ended-first.result c.past_begun-behind.result c.loop-k.text.items c.push.new.self.items
          c.push_joined.new.text.items _ c.requires.rising c.loop-k-test.true c.loop-k.invariant.words starts ends c.in_ok-push.ensures.items
          c.in_ok-push_joined.ensures;
      starts = subst (λ (n : ℕ). n + ended (k + 1 + 1) (drop n ranges) ≡ ended (k + 1 + 1) ranges) (sym starts) (ended_goes_on (k + 1) ranges);
      ends = subst (λ (n : ℕ). n + begun (k + 1 + 1) (drop n ranges) ≡ begun (k + 1 + 1) ranges) (sym ends) (begun_goes_on (k + 1) ranges);
      first = c.past_ended-first.ensures.inside;
      behind = c.past_begun-behind.ensures.inside;
    }

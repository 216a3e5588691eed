use Rattle.std.proofs.Common.{refl}
use Rattle.ts_base.specs.Words.{full_line}
use Rattle.ts_certificate.specs.TreeLines.{tree_words}
use Rattle.ts_certificate.specs.Certificate.{tree_text}
use Rattle.ts_certificate.proofs.TextLaws.{one_more}
use Rattle.ts_certificate.proofs.write.push_tree.Goals as goal

pub loop-line-preserved : goal.loop-line-preserved
loop-line-preserved c =
    one_more (λ l. full_line (tree_words l)) tree_text (λ l ls. refl) c.args.tree.now c.loop-line.line-index _
    c.loop-line.text.items c.push_tree_line.new.text.items _ c.loop-line-test.true c.in_ok-push_tree_line.ensures c.loop-line.invariant

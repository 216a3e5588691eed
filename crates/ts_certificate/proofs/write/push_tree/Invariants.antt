use Rattle.std.proofs.Common.{◌≡◌, ◌++◌, drop}
use Rattle.ts_certificate.specs.Certificate.{tree_text}
use Rattle.ts_certificate.proofs.write.push_tree.Given as goal

abbrev pub invariant-loop-line : goal.invariant-loop-line
invariant-loop-line l = l.text.items ++ tree_text (drop l.line-index l.tree) ≡ l.fn.text.items ++ tree_text l.tree

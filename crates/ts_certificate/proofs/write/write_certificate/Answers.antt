use Rattle.std.proofs.Common.{map, ap, ◌∙◌, ◌++◌}
use Rattle.ts_certificate.specs.Grammar.{SaysSeries, SaysTree, SaysAim, SaysClaim, line_text}
use Rattle.ts_certificate.specs.Certificate.{series_text, tree_text, end_line}
use Rattle.ts_certificate.proofs.TextLaws.{five_parts}
use Rattle.ts_certificate.proofs.write.write_certificate.Goals as goal

pub returns : goal.returns
returns c =
    let cert = c.args.c.now in
    five_parts (line_text (SaysAim cert.aim)) (line_text (SaysClaim cert.claim)) (map SaysSeries (map (λ v. v.items) cert.series.items))
    (map SaysTree cert.tree.items) (end_line cert.tree.items)
    c.in_ok-text.text.items c.push_aim.new.text.items c.push_claim.new.text.items c.push_all_series.new.text.items c.push_tree.new.text.items
    c.push_end.new.text.items c.in_ok-text.ensures.items c.in_ok-push_aim.ensures c.in_ok-push_claim.ensures
    (c.in_ok-push_all_series.ensures ∙ ap (λ xs. c.push_claim.new.text.items ++ series_text (map (λ v. v.items) xs)) c.deref.ensures.value)
    (c.in_ok-push_tree.ensures ∙ ap (λ xs. c.push_all_series.new.text.items ++ tree_text xs) c.deref-2.ensures.value)
    (c.in_ok-push_end.ensures ∙ ap (λ xs. c.push_tree.new.text.items ++ line_text (end_line xs)) c.deref-3.ensures.value)

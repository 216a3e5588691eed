use Rattle.std.proofs.Common.{arith, map, sym, ◌∙◌, ℤ, Vec, Global}
use Rattle.std.proofs.lemmas.List.{length-map}
use Rattle.ts_search.proofs.Certified.{listed_certificate}
use Rattle.ts_search.proofs.listing.certificate.Goals as goal

-- a count fits 32 bits, and no more are listed
pub overflow_cast-listed : goal.overflow_cast-listed
overflow_cast-listed c = let few = c.requires in let size = c.len-listed.ensures in let count = c.ranges.count in omega (arith, few, size, count)

pub returns : goal.returns
returns c =
    let xs = c.args.tree.listed.items in
    listed_certificate c.args.count c.args.tree.lines.items c.args.tree.frontier.boxes (map (λ (x : Vec ℤ Global). x.items) xs) c.waiting-waiting.result
    c.len-listed.result c.claim.result c.push_open.new.lines.items c.waiting-waiting.ensures
    (c.len-listed.ensures ∙ c.args.tree.listed.ok.0 ∙ sym (length-map xs (λ (x : Vec ℤ Global). x.items)))
    (c.claim.ensures c.args.tree.frontier.boxes (sym c.waiting-waiting.ensures)) c.in_ok-push_open.ensures

use Rattle.std.proofs.Common.{◌≤◌, ◌-◌, length}
use Rattle.ts_regex.specs.Shape.{shape_of}
use Rattle.ts_user.specs.BuildAnswers.{unplanned_of}
use Rattle.ts_user.specs.Listings.{IsListed, IsReady, signatures_of}
use Rattle.ts_user.proofs.plan.expand_all.Given as goal

abbrev pub invariant-loop-next : goal.invariant-loop-next
invariant-loop-next l = record {
  listed : IsListed (unplanned_of l.rows l.p) (shape_of l.p.regex) l.listing;
  ready : IsReady (unplanned_of l.rows l.p) (signatures_of l.listing) l.next;
  inside : l.next ≤ length l.listing.configurations.items;
}

abbrev pub decreases-loop-next : goal.decreases-loop-next
decreases-loop-next l = 512 - l.next

-- A reply leaves what was fetched, or what is fetched now.
use Rattle.std.proofs.Common.{arith}
use Rattle.rtrb.specs.Ring.{known_items}
use Rattle.lane_rings.specs.Ends.{fetched_replies, seen_replies, taken}
use Rattle.lane_rings.specs.Intakes.{inside}
use Rattle.lane_rings.proofs.Handing.{first-comes, handed-next, one-passed}
use Rattle.lane_rings.proofs.near.Near.take.Goals as goal

pub returns-clause-offered : goal.returns-clause-offered
returns-clause-offered c = (c.fetch.ensures.lists.0, c.fetch.ensures.lists.1)

pub returns-clause-taken : goal.returns-clause-taken
returns-clause-taken c =
    handed-next c.next.result _ _ (taken c.args.self.now) (fetched_replies c.fetch.new.self) _ c.next.ensures.handed c.fetch.ensures.lists.2 c.next.ensures.value

pub returns-clause-next : goal.returns-clause-next
returns-clause-next c r first =
    first-comes c.next.result (seen_replies c.args.self.now) (fetched_replies c.fetch.new.self) (known_items c.fetch.new.self.replies.ring) (inside c.next.new.self) r
    c.fetch.ensures.seen first c.next.ensures.value (c.fetch.ensures.none (omega arith))

pub returns-clause-fetched : goal.returns-clause-fetched
returns-clause-fetched c =
    one-passed (fetched_replies c.args.self.now) (fetched_replies c.fetch.new.self) _ c.next.ensures.batch c.fetch.ensures.few c.fetch.ensures.stays

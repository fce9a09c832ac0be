use Rattle.std.proofs.Common.{◌∙◌, arith}
use Rattle.rtrb.specs.Ring.{known_items}
use Rattle.lane_rings.specs.Ends.{fetched_replies, seen_replies}
use Rattle.lane_rings.proofs.Handing.{first-copied}
use Rattle.lane_rings.proofs.near.Near.peek.Goals as goal

-- the first that was seen before is the first that is there now
pub returns-clause-same : goal.returns-clause-same
returns-clause-same c r first =
    c.copied.ensures
    ∙ first-copied c.first.result (seen_replies c.args.self.now) (fetched_replies c.fetch.new.self) (known_items c.fetch.new.self.replies.ring) r
    c.fetch.ensures.seen first c.first.ensures.none c.first.ensures.first (c.fetch.ensures.none (omega arith))

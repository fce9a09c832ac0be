-- A lane more is asked.
use Rattle.std.proofs.Common.{◌<◌, ◌≤◌, ◌+◌, ℕ, length, refl, ◌∙◌, arith}
use Rattle.std.proofs.lemmas.List.{length-set}
use Rattle.event_scheduler.proofs.Dealing.{room_more, there_less}
use Rattle.event_scheduler.proofs.Lanes.{same_sight, still_hidden}
use Rattle.evt_types.specs.Plan.{depth_of}
use Rattle.lane_rings.specs.Ends.{room_in}
use Rattle.transcripts.specs.Standing.{unanswered_at}
use Rattle.event_scheduler.proofs.deal.room_among.Goals as goal
use Rattle.event_scheduler.proofs.deal.room_among.Goals.{then-room-asked, else-room-asked}

pub loop-lane-init : goal.loop-lane-init
loop-lane-init c =
    record {
      same = λ pool seen v p n. refl;
      count = refl;
      shown = c.requires.shown;
      there = c.requires.there;
      least = omega arith;
      room = λ m has out. absurd (out has);
    }

pub index_mut-requires : goal.index_mut-requires
index_mut-requires c = omega (arith, c.loop-lane.lanes.ok, c.loop-lane.invariant.there c.in-Some.lane c.in-Some.ensures.first.there)

pub loop-lane-smaller : goal.loop-lane-smaller
loop-lane-smaller c = c.in-Some.ensures.lighter

pub loop-lane-preserved : goal.loop-lane-preserved
loop-lane-preserved c =
    let was = c.loop-lane.invariant in
    let i = c.in-Some.lane in
    let lanes = c.loop-lane.lanes.items in
    let within : i < length lanes = was.there i c.in-Some.ensures.first.there in
    let at = c.index_mut.ensures.value in
    let put = c.room_for-room.ensures in
    let now = c.room_for-room.new.self in
    let lower : c.if-room-asked.least ≤ c.loop-lane.least =
    elim c.if-room-asked.branch [ then-room-asked w ↦ omega (arith, w.min-least.ensures, w.least-is) | else-room-asked w ↦ omega (arith, w.least-is) ]
    in
    let fits : (n : ℕ) → n ≤ c.if-room-asked.least → n + length (unanswered_at c.args.core.now i) ≤ depth_of c.args.core.now.shape i → n ≤ room_in now =
    λ n few held.
    elim c.if-room-asked.branch [
      | then-room-asked w ↦ omega (arith, few, w.min-least.ensures, w.least-is, put.room)
      | else-room-asked w ↦ omega (arith, few, held, was.least, w.least-is, w.if-room-asked.false, put.room, c.min-asked.ensures, c.lane_room.ensures)
    ]
    in
    record {
      same = λ pool seen v p n. was.same pool seen v p n ∙ same_sight pool seen lanes v p n i c.index_mut.result.now now at put.lane put.lists.0 put.lists.2 put.lists.3;
      count = length-set _ _ _ ∙ was.count;
      shown = still_hidden lanes i c.index_mut.result.now now at put.lists.1 was.shown;
      there = λ l has. omega (arith, there_less (length lanes) i c.loop-lane.left c.pop.new.self c.in-Some.ensures.gone c.in-Some.ensures.others was.there l has, length-set lanes i now);
      least = omega (arith, lower, was.least);
      room = room_more c.args.core.now lanes c.args.among c.loop-lane.left c.pop.new.self i now c.loop-lane.least c.if-room-asked.least within c.in-Some.ensures.others lower fits was.room;
    }

-- What contracts see of a core, and what holds of each.
use Rattle.std.specs.Prelude.{ℕ, ◌≡◌, ◌≤◌, List, length, map, All, ◌<◌, ◌^◌}
use Rattle.evt_types.specs.Fault.{IsWithinLimits}
use Rattle.evt_types.specs.Plan.{bound_of, lanes_of}
use Rattle.transcripts.specs.Standing.{View, inside_of, entries_of}
use Rattle.transcripts.specs.Sweep.{sweep_room}
use Rattle.transcripts.specs.Transcript.{Held}
use Rattle.evt_types.specs.declared.event.Numbered.{Numbered}
use Rattle.order_parts.specs.declared.history.Entry.{Entry}
use Rattle.sched_core.specs.Inner.{IsQueueOf, HaveSlots, unplaced}
use Rattle.order_parts.specs.Histories.{HaveRoom}
use Rattle.order_parts.specs.History.{Entries}
use Rattle.sched_core.specs.Links.{AreLinks}
use Rattle.sched_core.specs.OpenSlots.{AreOpenSlots}
use Rattle.sched_core.specs.Ordered.{ArePlaces, places_in}
use Rattle.sched_core.specs.Pinned.{ArePins}
use Rattle.sched_core.specs.Service.{AreAhead}
use Rattle.parked_queue.specs.Waits.{Waits}
use Rattle.sched_core.specs.SlotLanes.{AreSlotLanes, slot_lane_count}
use Rattle.sched_core.specs.declared.state.Core.TheInside.{Inside}

abbrev pub waiting_in : Waits → List Numbered
waiting_in q = q.waiting

abbrev pub next_in : Waits → ℕ
next_in q = q.next

abbrev pub unanswered_in : Entries → List Held
unanswered_in l = map unplaced l.entries

abbrev pub entries_in : Entries → List Entry
entries_in l = l.entries

-- what the core holds
abbrev pub view_in : Inside → View
view_in a =
    record {
      shape = a.shape;
      waiting = map waiting_in a.queues;
      next = map next_in a.queues;
      places = map places_in a.orders;
      unanswered = map unanswered_in a.lanes;
      extras = a.extras.items;
      shut = a.shut;
    }

-- There are as many queues and lanes as are configured, each with the room that it may need, and the pins and counts are
-- right.
pub record IsCore (a : Inside) : Type 0 where
  pub limits : IsWithinLimits a.shape
  pub queues : length a.queues ≡ length a.shape.queues
  pub lanes : length a.lanes ≡ lanes_of a.shape
  pub extras : length a.extras.items ≡ lanes_of a.shape
  pub sound : All (IsQueueOf (bound_of a.shape)) a.queues
  pub slots : HaveSlots a.shape a.queues
  pub room : HaveRoom a.shape a.lanes
  pub pins : ArePins a.shape (map unanswered_in a.lanes) a.pins
  pub inside : a.inside ≡ inside_of (view_in a)
  pub within : inside_of (view_in a) ≤ bound_of a.shape
  pub bound : a.bound ≡ bound_of a.shape
  pub small : bound_of a.shape < 2 ^ 64
  pub log_room : a.log_room ≡ sweep_room a.shape
  pub entries : a.entries ≡ entries_of (view_in a)
  pub few : entries_of (view_in a) ≤ 2 ^ 63
  pub links : AreLinks a.shape (length a.shape.queues) a.links.items
  pub ahead : AreAhead a.shape (length a.shape.queues) a.ahead.items
  pub slot_lanes : AreSlotLanes a.shape (slot_lane_count a.shape) a.slot_lanes.items
  pub open_slots : AreOpenSlots a.shape a.lanes a.open_slots.items
  pub places : ArePlaces a.shape a.queues a.orders (map entries_in a.lanes) a.extras.items

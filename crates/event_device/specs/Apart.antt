-- A device that is taken apart: what its parts are known to be, and what is left once their seats are joined.
use Rattle.std.specs.Prelude.{ℕ, ◌≡◌, ◌+◌, Bool, true, false, List, ◌++◌, length, map, slice_get, All, Some, count_by, sum_by}
use Rattle.std.specs.Arc.{arc_value}
use Rattle.std.specs.List.{range_with_len}
use Rattle.credit_pool.specs.Pool as credits
use Rattle.evt_types.specs.Fault.{IsWithinLimits}
use Rattle.evt_types.specs.Operation.{is_new_reply}
use Rattle.evt_types.specs.Plan.{flow_lanes, flow_links}
use Rattle.evt_types.specs.declared.event.Reply.{Reply}
use Rattle.flow_claims.specs.declared.seating.Past.{Past}
use Rattle.lane_rings.specs.Ends.{answered, held_list, unanswered}
use Rattle.lane_rings.specs.Identity.{far_id, near_id}
use Rattle.lane_rings.specs.declared.far.Far.{Far}
use Rattle.lists.specs.Lists.{has}
use Rattle.event_ports.specs.Handed.{flow_count}
use Rattle.event_ports.specs.Lanes.{held_of, pair_in}
use Rattle.event_ports.specs.Ports.{account_of, hand, own_site}
use Rattle.event_ports.specs.Stop.{AreLeft, AreStintsOf, IsPaid, IsShared, flows_in}
use Rattle.event_ports.specs.declared.lane.Lane.TheVariants.{Own}
use Rattle.event_ports.specs.declared.port.Port.{Port}
use Rattle.event_ports.specs.declared.rest.Rest.{Rest}
use Rattle.event_device.specs.Control.{control_of, was_shut}
use Rattle.event_device.specs.Device.{Device, IsDevice, IsPortOf, control_site, number_of}
use Rattle.event_device.specs.declared.apart.Apart.{Apart}
use Rattle.event_device.specs.declared.apart.Still.{Still}

-- They are of one device, all ports by number, and its scheduler's seat drew nothing.
pub record IsApart (a : Apart) : Type 0 where
  pub device : Device
  pub fits : IsDevice device
  pub plan : a.parts.core.shape ≡ device.plan
  pub within : IsWithinLimits device.plan
  pub pool : arc_value a.parts.pool ≡ device.pool
  pub lanes : map near_id a.parts.lanes.items ≡ device.lanes
  pub seat : credits.IsSeatOf (arc_value a.parts.pool) a.parts.seat
  pub one_part : (credits.account a.parts.seat).parts ≡ 1
  pub undrawn : (credits.account a.parts.seat).drawn ≡ 0
  pub unset : (credits.account a.parts.seat).set_shut ≡ false
  pub control_is : control_of a.control ≡ control_site device
  pub ports_are : All (IsPortOf device) a.ports.items
  pub numbers : map number_of a.ports.items ≡ range_with_len 0 (length device.plan.ports)

abbrev pub own_end : Rest → Far
own_end r = r.own

-- What the lanes' ends have is what the ports submitted and hold: the ports' own ends by port, the flow lanes' ends in all.
pub record AreEndsOf (owns ends : List Far) (sorted : List Port) : Type 0 where
  pub answered_is : map answered owns ≡ map (λ q. (hand q).said Own) sorted
  pub held : map held_list owns ≡ map (λ q. map pair_in (held_of Own (hand q).holding)) sorted
  pub holding : sum_by (λ q. length (hand q).holding) sorted ≡ sum_by (λ q. length (held_of Own (hand q).holding)) sorted + sum_by (λ far. length (unanswered far)) ends
  pub flows : (P : Reply → Bool) → sum_by (λ far. count_by P (answered far)) ends ≡ sum_by (flows_in P (length ends)) sorted
  pub counts : All (λ q. flow_count (own_site q).lanes ≡ length ends) sorted

-- the stints of linked ports, one after the other, had what the flow lane's end has, and no NEW went to it
abbrev pub IsFlowEnd : (ℕ → ℕ → Bool) → List Past → ℕ → Far → Type 0
IsFlowEnd linked finished j far = IsShared linked finished j far × (count_by is_new_reply (answered far) ≡ 0)

-- The rests are the ports', and the ends are the flow lanes', which with the ports' own are those of all lanes; what was drawn and not
-- returned is no longer free; and the bit was seen set only where the control set it.
pub record IsStill (a : Apart) (rests : List Rest) (ends : List Far) (s : Still) : Type 0 where
  pub core : s.core ≡ a.parts.core
  pub nears : s.nears ≡ a.parts.lanes
  pub own : s.own ≡ a.parts.pocket
  pub left : AreLeft a.ports.items rests
  pub lanes : map near_id s.nears.items ≡ map far_id (map own_end rests ++ ends)
  pub flows : length ends ≡ length (flow_lanes a.parts.core.shape)
  pub finished : List Past
  pub stints : AreStintsOf a.ports.items finished
  pub shared : (j : ℕ) (far : Far) → slice_get ends j ≡ Some far → IsFlowEnd (λ port lane. has lane (flow_links a.parts.core.shape port)) finished j far
  pub ends_are : AreEndsOf (map own_end rests) ends a.ports.items
  pub paid : All IsPaid a.ports.items
  pub free : s.free + sum_by (λ p. (account_of p).drawn) a.ports.items ≡ a.parts.core.shape.limit + (credits.account a.parts.seat).returned + sum_by (λ p. (account_of p).returned) a.ports.items
  pub shut : (credits.account a.parts.seat).saw_shut ≡ true → was_shut a.control ≡ true

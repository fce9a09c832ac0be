-- What a scheduler is made of.
use Rattle.std.specs.Prelude.{ℕ, ◌≡◌, false, List, [], map, All}
use Rattle.std.specs.Arc.{arc_value}
use Rattle.credit_pool.specs.Pool.{account}
use Rattle.credit_pool.specs.declared.account.Account.{Account}
use Rattle.event_scheduler.specs.Scheduler.{Sight, depth_in, sight}
use Rattle.event_scheduler.specs.declared.parts.Parts.{Parts}
use Rattle.evt_types.specs.Plan.{Plan, depth_of, lanes}
use Rattle.lane_rings.specs.Ends.{hidden_offers, offered, taken}
use Rattle.lane_rings.specs.Identity.{near_id}
use Rattle.lane_rings.specs.declared.near.Near.{Near}

-- nothing was drawn or returned, and the bit wasn't set
pub record IsUnused (v : Account) : Type 0 where
  pub drawn : v.drawn ≡ 0
  pub returned : v.returned ≡ 0
  pub unset : v.set_shut ≡ false

-- the ends of all lanes, as deep as the plan says, of which nothing was offered or taken
pub record AreUnused (p : Plan) (nears : List Near) : Type 0 where
  pub depths : map depth_in (map near_id nears) ≡ map (depth_of p) (lanes p)
  pub offered : All (λ near. offered near ≡ []) nears
  pub taken : All (λ near. taken near ≡ []) nears
  pub shown : All (λ near. hidden_offers near ≡ []) nears

-- the scheduler that is made of these, and has accepted so many new events
abbrev pub sight_in : Parts → ℕ → Sight
sight_in p accepted_new = sight (arc_value p.pool) p.core p.lanes.items (account p.seat) p.pocket accepted_new

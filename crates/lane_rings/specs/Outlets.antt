-- What went into a ring, and what is gathered for it.
use Rattle.std.specs.Prelude.{ℕ, ◌-◌, ◌++◌, List, length}
use Rattle.rtrb.specs.Ring.{sent}
use Rattle.lane_rings.specs.declared.gathering.Gathering.{Gathering}
use Rattle.lane_rings.specs.declared.outlet.Outlet.{Outlet}

module _ {T : Type 0} where
  -- all that went into the ring
  abbrev pub put_in : Outlet T → List T
  put_in o = sent o.ring

  -- how many items more there is a free slot for, as far as that is known
  abbrev pub room_of : Outlet T → ℕ
  room_of o = o.free

  -- the same, and then what is still gathered
  abbrev pub all_put : Gathering T → List T
  all_put o = put_in o.outlet ++ o.batch.items

  -- what the other end can't see yet
  abbrev pub kept_back : Gathering T → List T
  kept_back o = o.batch.items

  -- how many items more there is a free slot for, beside what is gathered
  abbrev pub room_beside : Gathering T → ℕ
  room_beside o = room_of o.outlet - length o.batch.items

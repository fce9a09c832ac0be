-- The lanes where replies of some were brought out of their rings.
use Rattle.std.specs.Prelude.{ℕ, ◌≡◌, List, [], map, slice_index_or}
use Rattle.evt_types.specs.declared.event.Reply.{Reply}
use Rattle.lane_rings.specs.Ends.{fetched_replies, hidden_offers, offered, seen_replies, taken}
use Rattle.lane_rings.specs.Identity.{near_id}
use Rattle.lane_rings.specs.declared.near.Near.{Near}

-- the lanes are the same but for what was seen of their replies
pub record SameLanes (before after : List Near) : Type 0 where
  pub ids : map near_id after ≡ map near_id before
  pub offers : map offered after ≡ map offered before
  pub hidden : map hidden_offers after ≡ map hidden_offers before
  pub takings : map taken after ≡ map taken before

-- what was seen of a lane's replies and isn't taken
abbrev pub seen_in : List Near → ℕ → List Reply
seen_in lanes l = slice_index_or (map seen_replies lanes) l []

-- the replies of a lane that were brought out of its ring and aren't taken
abbrev pub fetched_in : List Near → ℕ → List Reply
fetched_in lanes l = slice_index_or (map fetched_replies lanes) l []

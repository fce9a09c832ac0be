-- What was offered to the lanes and isn't in their rings yet.
use Rattle.std.specs.Prelude.{ℕ, ◌≡◌, List, [], map, slice_index_or}
use Rattle.evt_types.specs.declared.event.Delivery.{Delivery}
use Rattle.lane_rings.specs.Ends.{hidden_offers}
use Rattle.lane_rings.specs.declared.near.Near.{Near}

-- of one lane
abbrev pub hidden_at : List Near → ℕ → List Delivery
hidden_at lanes l = slice_index_or (map hidden_offers lanes) l []

-- all that was offered is in the rings
abbrev pub NoneHidden : List Near → Type 0
NoneHidden lanes = (l : ℕ) → hidden_at lanes l ≡ []

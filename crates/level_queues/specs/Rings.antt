-- What holds of the rings that hold the four lists.
use Rattle.std.specs.Prelude.{ℕ, ◌≡◌, ◌<◌, List}
use Rattle.circular_buffer.specs.Buffer.{Buffer}
use Rattle.evt_types.specs.declared.event.Numbered.{Numbered}
use Rattle.level_queues.specs.Lists.{lists_of, ring_at, AreLevels}

-- each has the same capacity, and the lists are sound
pub record AreRings (bs : List (Buffer Numbered)) : Type 0 where
  pub same : (k : ℕ) → k < 4 → (ring_at bs k).capacity ≡ (lists_of bs).capacity
  pub sound : AreLevels (lists_of bs)

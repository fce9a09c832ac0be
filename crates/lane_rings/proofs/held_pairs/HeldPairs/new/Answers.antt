use Rattle.std.proofs.Common.{arith}
use Rattle.std.proofs.lemmas.Grind.{common_steps}
use Rattle.lists.proofs.Windows.{window_none}
use Rattle.lane_rings.proofs.held_pairs.HeldPairs.new.Goals as goal

pub returns : goal.returns
returns c = (window_none 0 c.in_ok-places.places.items, grind (arith, common_steps))

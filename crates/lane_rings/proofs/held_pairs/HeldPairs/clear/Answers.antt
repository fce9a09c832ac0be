use Rattle.std.proofs.Common.{List, [], ℕ, ◌∙◌, ap, length}
use Rattle.lane_rings.specs.HeldPairs.{Held, holds}
use Rattle.lists.proofs.Windows.{window_none}
use Rattle.lane_rings.proofs.held_pairs.HeldPairs.clear.Goals as goal

pub returns : goal.returns
returns c =
    ap (λ (ps : List (ℕ × ℕ)). holds ps (length c.self.inside.places.items)) (window_none c.self.inside.first c.self.inside.places.items) ∙ ap (λ (v : Held). holds [] v.room) c.self.view_is

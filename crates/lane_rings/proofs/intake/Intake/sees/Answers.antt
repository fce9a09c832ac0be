-- A batch that isn't empty has something.
use Rattle.std.proofs.Common.{◌≡◌, rules}
use Rattle.rtrb.specs.Ring.{known_items}
use Rattle.lane_rings.specs.Intakes.{inside}
use Rattle.lane_rings.proofs.Handing.{none-first, row-filled}
use Rattle.lane_rings.proofs.intake.Intake.sees.Goals as goal

pub returns-then-self-clause-some : goal.returns-then-self-clause-some
returns-then-self-clause-some g c some none =
    let now = c.args.self.now in
    let same : now.at ≡ now.end = row-filled now.at now.end now.places.items now.within.0 now.within.1 (none-first (inside now) (known_items now.ring) none) in
    search rules

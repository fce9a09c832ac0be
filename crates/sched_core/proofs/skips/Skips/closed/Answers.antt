use Rattle.std.proofs.Common.{ℕ, ◌≡◌, ◌<◌, true, subst}
use Rattle.std.specs.Prelude.{◌↔◌}
use Rattle.small_set.specs.SmallSets.{Has, set_at}
use Rattle.transcripts.specs.Choice.{Passed, has_bounced}
use Rattle.sched_core.proofs.LaneSets.{first_set}
use Rattle.sched_core.proofs.skips.Skips.closed.Goals as goal

pub returns : goal.returns
returns c = subst (λ (s : Passed). (l : ℕ) → l < 64 → Has (set_at c.self.inside.bounced 0) l ↔ (has_bounced s l ≡ true)) c.self.view_is (first_set c.self.inside.bounced)

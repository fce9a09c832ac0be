use Rattle.std.proofs.Common.{◌≡◌, drop}
use Rattle.std.specs.Prelude.{◌&&◌, nat_lt, slice_get}
use Rattle.std.specs.List.{find}
use Rattle.transcripts.specs.Lawful.{keeps_some}
use Rattle.judge_app.proofs.orders.first_above.Given as goal

abbrev pub invariant-loop-other : goal.invariant-loop-other
invariant-loop-other l =
    find (λ m. nat_lt l.number m && keeps_some l.shape l.queue (slice_get l.accepted m) (slice_get l.accepted l.number)) (drop l.other-index l.sources)
    ≡ find (λ m. nat_lt l.number m && keeps_some l.shape l.queue (slice_get l.accepted m) (slice_get l.accepted l.number)) l.sources

use Rattle.std.proofs.Common.{◌≡◌, drop}
use Rattle.std.specs.Prelude.{not, ◌&&◌, ◌==◌, nat_lt, slice_index}
use Rattle.std.specs.List.{find}
use Rattle.judge_app.proofs.orders.first_kept.Given as goal

abbrev pub invariant-loop-other : goal.invariant-loop-other
invariant-loop-other l =
    find (λ m. not (m == l.number) && nat_lt (slice_index l.taken m) (slice_index l.sent m)) (drop l.other-index l.numbers)
    ≡ find (λ m. not (m == l.number) && nat_lt (slice_index l.taken m) (slice_index l.sent m)) l.numbers

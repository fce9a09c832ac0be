use Rattle.std.proofs.Common.{◌≡◌, ◌+◌, ◌-◌, ◌%◌, ◌^◌, ◌≤◌, length}
use Rattle.event_ports.specs.Lanes.{Releases}
use Rattle.event_ports.specs.Desks.{own_site, account_of, claim_seating, pocket_of, hand}
use Rattle.event_ports.proofs.desk.Desk.release_rows.Given as goal

abbrev pub invariant-loop-released : goal.invariant-loop-released
invariant-loop-released l =
    (own_site l.self ≡ own_site l.initial.self) × (account_of l.self ≡ account_of l.initial.self)
    × Releases l.released (hand l.initial.self) (hand l.self) × (pocket_of l.self ≡ (pocket_of l.initial.self + l.released) % 2 ^ 64)
    × (l.released ≤ length (hand l.initial.self).holding) × (claim_seating l.self ≡ claim_seating l.initial.self)

abbrev pub decreases-loop-released : goal.decreases-loop-released
decreases-loop-released l = l.held - l.released

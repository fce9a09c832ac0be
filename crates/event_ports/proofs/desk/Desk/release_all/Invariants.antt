use Rattle.std.proofs.Common.{◌≡◌, ◌+◌, ◌%◌, ◌^◌, length}
use Rattle.event_ports.specs.Lanes.{Releases}
use Rattle.event_ports.specs.Desks.{own_site, account_of, claim_seating, pocket_of, hand}
use Rattle.event_ports.proofs.desk.Desk.release_all.Given as goal

abbrev pub invariant-loop-released : goal.invariant-loop-released
invariant-loop-released l =
    (own_site l.self ≡ own_site l.fn.self) × (account_of l.self ≡ account_of l.fn.self)
    × Releases l.released (hand l.fn.self) (hand l.self) × (pocket_of l.self ≡ (pocket_of l.fn.self + l.released) % 2 ^ 64)
    × (l.held ≡ length (hand l.fn.self).holding)
    × ((claim_seating l.self).loads ≡ (claim_seating l.fn.self).loads) × ((claim_seating l.self).reads ≡ (claim_seating l.fn.self).reads)

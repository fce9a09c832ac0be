-- A stint that was taken is open, and what the reads tell.
use Rattle.std.proofs.Common.{rules, ◌≡◌, ◌*◌, ◌/◌, ◌%◌, ℕ, refl, subst}
use Rattle.flow_claims.specs.Seats.{after_load}
use Rattle.flow_claims.specs.Claims.{seating, port_of}
use Rattle.flow_claims.specs.Answers.{Taken}
use Rattle.flow_claims.proofs.Claiming.{free_left}
use Rattle.flow_claims.proofs.Weighing.{fresh_received, fresh_answered}
use Rattle.flow_claims.proofs.Calls.{taken_after, taken_open}
use Rattle.flow_claims.proofs.claims.Claims.claim.Goals as goal

pub returns-in-Ok-clause-answer : goal.returns-in-Ok-clause-answer
returns-in-Ok-clause-answer c =
    let word : ℕ = c.probe-word.result in
    let free : word % 256 ≡ 0 = search rules in
    let By : ℕ → Type 0 = λ p. Taken p c.args.lane (word / 256) c.in-Ok.far (seating c.probe-word.new.seat) (seating c.seize.new.seat) in
    let seized : By (port_of c.args.seat.now) = subst By c.probe-word.ensures.seat.1 c.in-Ok.ensures.held in
    let is = taken_after (port_of c.args.seat.now) c.args.lane word c.in-Ok.far (seating c.args.seat.now) (seating c.probe-word.new.seat) (seating c.seize.new.seat)
    c.probe-word.ensures.seating free seized in
    let left = free_left c.args.lane word (seating c.args.seat.now) c.probe-word.ensures.told free in
    let looked = after_load c.args.lane (256 * (word / 256)) (seating c.args.seat.now) in
    let after = seating c.seize.new.seat in (
      refl,
      left.not_held,
      is,
      taken_open (port_of c.args.seat.now) _ looked after is,
      fresh_received (port_of c.args.seat.now) c.args.lane (word / 256) c.in-Ok.far looked after is,
      fresh_answered (port_of c.args.seat.now) c.args.lane (word / 256) c.in-Ok.far looked after is,
    )

pub returns-in-Ok-clause-refused : goal.returns-in-Ok-clause-refused
returns-in-Ok-clause-refused c = λ none. absurd (none _ refl)

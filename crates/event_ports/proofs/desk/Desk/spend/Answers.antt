-- What was drawn is in the pocket before the event is submitted.
use Rattle.std.proofs.Common.{◌≡◌, ℕ, ◌+◌, ◌-◌, Ok, subst, arith}
use Rattle.event_ports.specs.Handed.{hand_of}
use Rattle.event_ports.specs.Lanes.{reply_of}
use Rattle.event_ports.specs.Desks.{MaySpendMore, hand, pocket_of}
use Rattle.event_ports.proofs.Refusing.{rests_more, submitted_after}
use Rattle.event_ports.proofs.desk.Desk.spend.Goals as goal

pub returns-in-Ok-clause-submitted : goal.returns-in-Ok-clause-submitted
returns-in-Ok-clause-submitted c =
    submitted_after (Ok tt) c.args.event.now.op (reply_of c.args.event.now) (hand c.args.self.now) (hand c.stock.new.self) (hand_of c.submit.new.self) c.stock.ensures.same c.in-Ok.ensures.submitted

pub returns-in-Err-clause-submitted : goal.returns-in-Err-clause-submitted
returns-in-Err-clause-submitted c = rests_more (hand c.args.self.now) (hand c.stock.new.self) (hand_of c.submit.new.self) c.stock.ensures.same c.in-Err.ensures.submitted

pub returns-in-Ok-clause-pays : goal.returns-in-Ok-clause-pays
returns-in-Ok-clause-pays c =
    let stocked = c.in_ok-stock.ensures.stocked in
    let back : pocket_of c.stock.new.self ≡ pocket_of c.stock.new.self - 1 + 1 = omega (arith, stocked.1) in
    subst (λ (n : ℕ). MaySpendMore c.args.self.now n c.stock.new.self) back stocked.0

pub returns-in-Err-clause-refused : goal.returns-in-Err-clause-refused
returns-in-Err-clause-refused c = (c.in-Err.ensures.refused.1, c.in_ok-stock.ensures.stocked.0)

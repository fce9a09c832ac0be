-- No row begins with a FORWARD_MORE.
use Rattle.std.proofs.Common.{refl}
use Rattle.event_ports.proofs.desk.Desk.submit_row.Goals as goal

pub returns-in-ForwardMore-clause-chain : goal.returns-in-ForwardMore-clause-chain
returns-in-ForwardMore-clause-chain c = record { between = c.args.self.now; taken = refl; ends = refl }

pub returns-then-replies-lt2-clause-chain : goal.returns-then-replies-lt2-clause-chain
returns-then-replies-lt2-clause-chain c = record { between = c.args.self.now; taken = refl; ends = refl }

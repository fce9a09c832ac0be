use Rattle.std.proofs.Common.{rules}
use Rattle.event_handles.proofs.Sweeps.{none_sent}
use Rattle.event_handles.proofs.hub.Hub.new.Goals as goal

pub invariant_of-result-clause-are_sent : goal.invariant_of-result-clause-are_sent
invariant_of-result-clause-are_sent c = let none = none_sent in search rules

use Rattle.std.proofs.Common.{◌++◌, ◌∷◌, [], ap, ◌∙◌}
use Rattle.event_ports.specs.declared.lane.Holding.{Holding}
use Rattle.event_ports.proofs.held_ring.HeldRing.note_one.Goals as goal

pub returns-clause-noted : goal.returns-clause-noted
returns-clause-noted c =
    c.push.ensures.noted ∙ ap (λ (h : Holding). c.args.self.now.items ++ h ∷ []) (λ i. record { lane = c.args.lane; queue = c.queue.ensures i; number = c.number.ensures i })

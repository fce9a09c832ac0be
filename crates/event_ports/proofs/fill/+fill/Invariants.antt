use Rattle.event_ports.proofs.fill.+fill.Given as goal

abbrev pub decreases-fill : goal.decreases-fill
decreases-fill l = l.tries

use Rattle.pipeline_threads.proofs.threads.+run_ports.Given as goal

abbrev pub decreases-run_ports : goal.decreases-run_ports
decreases-run_ports g l = l.count

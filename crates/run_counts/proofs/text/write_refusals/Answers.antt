use Rattle.run_counts.proofs.text.write_refusals.Goals as goal

pub returns : goal.returns
returns c = c.in_ok-write.ensures.bytes

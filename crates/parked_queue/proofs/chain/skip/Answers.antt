use Rattle.std.proofs.Common.{◌≡◌, ◌<◌, Some, ap, slice_get, subst, sym, vec_len}
use Rattle.parked_queue.specs.Chains.{next_of}
use Rattle.parked_queue.proofs.Nodes.{node_read}
use Rattle.parked_queue.proofs.chain.skip.Goals as goal
use Rattle.parked_queue.proofs.chain.skip.Goals.{After-index}

there : (c : After-index) → slice_get c.args.nodes.now.items c.args.node ≡ Some c.index.result.now
there c = node_read c.args.nodes.now c.args.node c.index.result.now c.requires.node c.index.ensures

pub index-requires-2 : goal.index-requires-2
index-requires-2 c = subst (λ n. n < vec_len c.args.nodes.now) (ap next_of (there c)) c.requires.behind

pub returns-clause-skipped : goal.returns-clause-skipped
returns-clause-skipped c = sym (ap next_of (there (goal.at.returns-clause-skipped c).After-index))

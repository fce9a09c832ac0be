use Rattle.std.proofs.Common.{slice_get, vec_len}
use Rattle.parked_queue.proofs.NewStores.{store_new}
use Rattle.parked_queue.proofs.Views.{view_none}
use Rattle.parked_queue.proofs.waiting.WaitingLists.new.Goals as goal

pub invariant_of-result : goal.invariant_of-result
invariant_of-result c =
    store_new c.in_ok-nodes.nodes c.in_ok-count.count c.in_ok-nodes.ensures c.in_ok-chains.chains.items c.args.lists c.args.room c.in_ok-chains.ensures c.in_ok-count.ensures

pub returns : goal.returns
returns c =
    view_none (slice_get c.in_ok-nodes.nodes.items) (vec_len c.in_ok-nodes.nodes) c.in_ok-chains.chains.items c.args.lists c.args.room c.in_ok-chains.ensures

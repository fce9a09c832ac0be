use Rattle.std.proofs.Common.{◌≡◌, ℕ, List, length, take, slice_get, vec_len}
use Rattle.parked_queue.specs.Lists.{numbered_from}
use Rattle.parked_queue.specs.Store.{HasCome, IsOfStore}
use Rattle.parked_queue.specs.declared.chain.Chain.{Chain}
use Rattle.parked_queue.proofs.chain.append_row.Given as goal

abbrev pub invariant-loop-index : goal.invariant-loop-index
invariant-loop-index l =
    ((cs : List Chain) (room k : ℕ)
    → IsOfStore (slice_get l.initial.nodes.items) (vec_len l.initial.nodes) l.initial.free l.initial.chain (length l.replies) cs room k
    → HasCome (slice_get l.initial.nodes.items) (slice_get l.nodes.items) (vec_len l.initial.nodes) l.free l.chain (numbered_from l.number (take l.index l.replies)) cs room k)
    × (vec_len l.nodes ≡ vec_len l.initial.nodes)

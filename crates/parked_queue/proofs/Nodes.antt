-- What a list of nodes has at each node.
use Rattle.std.proofs.Common.{◌≡◌, ℕ, zero, suc, ◌<◌, List, [], ◌∷◌, length, slice_get, slice_index_or, Option, Some, None, Vec, IsSome, false, true, refl, sym, subst, arith, vec_len}
use Rattle.std.proofs.lemmas.Option.{slice_get_read}
use Rattle.std.specs.declared.alloc.Global.{Global}
use Rattle.parked_queue.specs.declared.chain.Node.{Node}

-- a node as the code reads it
pub node_read : (nodes : Vec Node Global) (i : ℕ) (n : Node) → i < vec_len nodes → n ≡ slice_index_or nodes.items i n → slice_get nodes.items i ≡ Some n
node_read nodes i n p e = slice_get_read nodes.items (vec_len nodes) i n nodes.ok.0 p e

some_within : (ns : List Node) (i : ℕ) → IsSome (slice_get ns i) → i < length ns
some_within [] i s = absurd (let e : false ≡ true = s in cc)
some_within (n ∷ ns) zero s = omega arith
some_within (n ∷ ns) (suc i) s = omega (arith, some_within ns i s)

pub list_within : (nodes : Vec Node Global) (i : ℕ) → IsSome (slice_get nodes.items i) → i < vec_len nodes
list_within nodes i s = omega (arith, some_within nodes.items i s, nodes.ok.0)

within_some : (ns : List Node) (i : ℕ) → i < length ns → IsSome (slice_get ns i)
within_some [] i p = absurd (omega arith)
within_some (n ∷ ns) zero p = refl
within_some (n ∷ ns) (suc i) p = within_some ns i (omega arith)

pub list_there : (nodes : Vec Node Global) (i : ℕ) → i < vec_len nodes → IsSome (slice_get nodes.items i)
list_there nodes i p = within_some nodes.items i (omega (arith, nodes.ok.0))

pub node_found : (o : Option Node) → IsSome o → (n : Node) × (o ≡ Some n)
node_found None s = absurd (let e : false ≡ true = s in cc)
node_found (Some n) s = (n, refl)

pub some_found : (o : Option Node) (n : Node) → o ≡ Some n → IsSome o
some_found o n e = subst (λ (x : Option Node). IsSome x) (sym e) refl

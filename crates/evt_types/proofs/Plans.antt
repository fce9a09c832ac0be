-- The ports as contracts see them.
use Rattle.std.proofs.Common.{◌≡◌, ℕ, ◌+◌, ◌<◌, Bool, false, ◌||◌, List, [], ◌∷◌, length, map, slice_index_or, ◌∙◌, refl, sym, ap, subst}
use Rattle.std.specs.List.{list_any, sum_by, All}
use Rattle.std.proofs.lemmas.List.{get_or-map, get_or_default, length-map}
use Rattle.std.proofs.lemmas.List.Folds.{fold-map}
use Rattle.evt_types.specs.Plan.{Plan, PortPlan, port_of, port_plan}
use Rattle.evt_types.specs.declared.draft.PortDraft.{PortDraft}

-- a test of the ports
pub any_of_ports :
    (test : PortPlan → Bool) (ports : List PortDraft) → list_any test (map port_plan ports) ≡ list_any (λ port. test (port_plan port)) ports
any_of_ports test [] = refl
any_of_ports test (port ∷ ports) = ap (λ b. test (port_plan port) || b) (any_of_ports test ports)

-- a sum over the ports
pub sum_of_ports : (f : PortPlan → ℕ) (ports : List PortDraft) → sum_by f (map port_plan ports) ≡ sum_by (λ port. f (port_plan port)) ports
sum_of_ports f ports = fold-map (λ a x. a + f x) port_plan 0 ports

-- what holds of each port, at one of them
pub port_at :
    (P : PortPlan → Type 0) (ports : List PortDraft) (i : ℕ) (port : PortDraft) → i < length (map port_plan ports)
    → port ≡ slice_index_or ports i port → All P (map port_plan ports) → P (port_plan port)
port_at P ports i port le is all =
    let short : i < length ports = rw length-map at le in
    subst P (get_or-map port_plan ports i port (port_plan port) short ∙ ap port_plan (sym is)) (all i (port_plan port) le)

-- the port of a plan that was read of its list
pub port_read : (p : Plan) (ports : List PortDraft) (l : ℕ) (port : PortDraft) → p.ports ≡ map port_plan ports → l < length ports → port ≡ slice_index_or ports l port → port_of p l ≡ port_plan port
port_read p ports l port is short at =
    ap (λ (qs : List PortPlan). slice_index_or qs l (record { threshold = 0; depth = 0; replies = 0; implicit = false; links = [] })) is
    ∙ (get_or_default (map port_plan ports) l (record { threshold = 0; depth = 0; replies = 0; implicit = false; links = [] }) (port_plan port) (subst (λ n. l < n) (sym (length-map ports port_plan)) short)
    ∙ (get_or-map port_plan ports l port (port_plan port) short ∙ ap port_plan (sym at)))

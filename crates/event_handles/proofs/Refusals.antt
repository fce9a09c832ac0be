-- Why a configuration is refused.
use Rattle.std.proofs.Common.{◌≡◌, ℤ, Some, None, refl, ap, subst, ◌⊎◌, inl, inr, ◌∙◌}
use Rattle.std.specs.Prelude.{MatchOption, Option}
use Rattle.std.specs.Option.{option_map}
use Rattle.evt_types.specs.Fault.{fault_of}
use Rattle.evt_types.specs.Plan.{Plan}
use Rattle.evt_types.specs.declared.shape.ShapeFault.{ShapeFault}
use Rattle.evt_types.specs.declared.shape.ShapeFault.TheVariants as faults
use Rattle.event_handles.specs.Config.{early_fault, late_fault, number_of_fault, plan_of_config}
use Rattle.event_handles.specs.Numbers.{no_memory, not_shared}
use Rattle.event_handles.specs.Start.{IsRefusal}
use Rattle.event_handles.specs.declared.config.Config.{Config}

-- the reasons that are left where there is no early fault
abbrev IsLate : Option ℤ → ℤ → Type 0
IsLate late why = (why ≡ no_memory) ⊎ MatchOption late (why ≡ not_shared) (λ fault. why ≡ fault)

pub refused_late : (c : Config) (why : ℤ) → None ≡ early_fault c → IsLate (late_fault c) why → IsRefusal c why
refused_late c why none late = subst (λ o. MatchOption o (IsLate (late_fault c) why) (λ fault. why ≡ fault)) none late

late_by : (o : Option ShapeFault) (fault : ShapeFault) → ((f : ShapeFault) → o ≡ Some f → fault ≡ f) → (o ≡ None → fault ≡ faults.Memory) → IsLate (option_map number_of_fault o) (number_of_fault fault)
late_by None fault is memory = inl (ap number_of_fault (memory refl))
late_by (Some f) fault is memory = inr (ap number_of_fault (is f refl))

-- the plan's fault, or want of memory
pub refused_by : (c : Config) (p : Plan) (fault : ShapeFault) → None ≡ early_fault c → p ≡ plan_of_config c → ((f : ShapeFault) → fault_of p ≡ Some f → fault ≡ f) → (fault_of p ≡ None → fault ≡ faults.Memory) → IsRefusal c (number_of_fault fault)
refused_by c p fault none plan is memory =
    refused_late c (number_of_fault fault) none
    (late_by (fault_of (plan_of_config c)) fault (λ f there. is f (ap fault_of plan ∙ there)) (λ there. memory (ap fault_of plan ∙ there)))

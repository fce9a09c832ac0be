use Rattle.std.proofs.Common.{◌≡◌, ◌==◌, ◌∙◌, false, not, eqb-true, ap, sym, arith}
use Rattle.std.proofs.lemmas.Bool.{not-false}
use Rattle.event_ports.specs.Flows.{FlowSite}
use Rattle.event_ports.specs.HeldRings.{Held}
use Rattle.event_ports.proofs.Entries.{none_left}
use Rattle.event_ports.proofs.IdleLanes.{idle_lanes, staffed_lanes}
use Rattle.event_ports.proofs.port.Port.new.Goals as goal

pub new-lanes-requires-clause-noted : goal.new-lanes-requires-clause-noted
new-lanes-requires-clause-noted c none =
    let links = c.args.parts.links in
    let empty : not (links.len == 0) ≡ false = ap not (sym c.is_empty.ensures) ∙ sym (ap (λ (h : Held). h.notes) c.in-Ok-new.ensures) ∙ none in
    ap (λ (p : FlowSite). p.links) c.new-flows.ensures.site ∙ none_left links.items (omega (arith, links.ok.0, eqb-true links.len 0 (not-false _ empty)))

pub invariant_of-result-clause-idle : goal.invariant_of-result-clause-idle
invariant_of-result-clause-idle c = idle_lanes c.new-lanes.result

pub invariant_of-result-clause-staffed : goal.invariant_of-result-clause-staffed
invariant_of-result-clause-staffed c = staffed_lanes c.new-lanes.result

use Rattle.std.proofs.Common.{◌≡◌, sym, subst, ◌∙◌, to_z, of_z, w64, arith}
use Rattle.std.proofs.lemmas.Int.{to_z-of_z}
use Rattle.event_handles.specs.Start.{IsRefusal}
use Rattle.event_handles.proofs.Refusals.{refused_by}
use Rattle.event_handles.proofs.draft.shape_of.Goals as goal

pub returns-clause-refused : goal.returns-clause-refused
returns-clause-refused c =
    let refused = refused_by c.args.config.now _ c.in-Err.fault c.in_default.ensures c.in-Ok.ensures (λ f there. cc (c.in-Err.ensures.refused f there)) c.in-Err.ensures.accepted in
    let number : c.number_of_fault.result ≡ to_z w64 (of_z w64 c.number_of_fault.result) = grind (arith, to_z-of_z) in
    subst (IsRefusal c.args.config.now) (sym c.number_of_fault.ensures ∙ number) refused

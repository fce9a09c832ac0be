-- The low half of the word holds flow and types.
use Rattle.std.proofs.Common.{ap, ◌∙◌, ◌+◌, ◌*◌, ◌^◌}
use Rattle.evt_types.specs.declared.event.Event.{Event}
use Rattle.evt_types.proofs.Words.{low_half}
use Rattle.evt_types.proofs.packed.PackedEvent.flow_and_types.Goals as goal

pub returns : goal.returns
returns c =
    c.bits.ensures ∙ low_half c.self.inside.word
    ∙ ap (λ (e : Event). e.flow + 2 ^ 20 * (e.sub_type + 2 ^ 8 * e.event_type)) c.self.view_is

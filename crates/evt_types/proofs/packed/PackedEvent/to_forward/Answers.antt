-- The other bits of the word stay.
use Rattle.std.proofs.Common.{arith, ap, ◌∙◌}
use Rattle.evt_types.specs.declared.event.Event.{Event}
use Rattle.evt_types.specs.declared.event.Op.TheVariants as ops
use Rattle.evt_types.proofs.Words.{as_forward}
use Rattle.evt_types.proofs.packed.PackedEvent.to_forward.Goals as goal

pub returns : goal.returns
returns c =
    as_forward c.self.inside.word _ c.self.inside.payload (omega (arith, c.bits.ensures))
    ∙ ap (λ (e : Event). record e { op = ops.Forward }) c.self.view_is

-- A device may go to another thread, where its log may. Each part is searched for by itself: a `search` that goes down through the whole
-- device runs out of steps.
use denote.RattleType.{RattleType}
use denote.Param.Send.{IsSend, recorded_send, struct_send, view_send, sendable}
use denote.Struct.Declared.{shape}
use Rattle.std.proofs.Crossing.{Vec-send}
use Rattle.step_log.specs.declared.log.StepLog.{Ghosts}
use Rattle.event_ports.proofs.port.Port.TheSendSync as ports
use Rattle.event_device.specs.contracts.running.Device as Device
use Rattle.event_device.specs.contracts.running.Device.TheInside as inside
use Rattle.event_device.proofs.control.Control.TheSendSync as controls
use Rattle.event_device.proofs.recorder.Recorder.TheSendSync as recorders

module _ (L : RattleType) (g : Ghosts L.Denot) (s : IsSend L) where
  -- the recorder, the control, the claims, of which it has no bytes, the ports, and the allocator
  parts_send : IsSend (inside.the_field L g).row
  parts_send =
      struct_send (shape (inside.the_type L g)) (
        recorders.the_send L g s,
        (
          (let control = controls.the_send in search sendable depth 20),
          (
            record { owned = λ d vs. ((λ vss. (tt, ((λ uss. (tt, tt)), tt))), tt); leaving = λ k f vs. tt },
            ((let port = ports.the_send in search (Vec-send, sendable) depth 20), (search sendable depth 20, tt)),
          ),
        ),
      )

  pub device_send : IsSend (Device.the_row L g)
  device_send = view_send (inside.the_row L g) _ _ _ _ (recorded_send (inside.the_field L g).row _ _ (inside.the_type L g).to_one parts_send)

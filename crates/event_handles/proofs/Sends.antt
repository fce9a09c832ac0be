-- A hub may go to another thread.
use denote.Param.Send.{IsSend, recorded_send, struct_send, sendable}
use denote.Struct.Declared.{shape}
use Rattle.evt_types.proofs.event.Kind.TheSendSync as kinds
use Rattle.step_log.specs.contracts.counted.Counted as Counted
use Rattle.step_log.specs.contracts.counted.CountedStepLog.TheImpl as counted_log
use Rattle.step_log.proofs.counted.Counted.TheSendSync as counted
use Rattle.step_tally.specs.contracts.tally.Tally as Tally
use Rattle.step_tally.specs.contracts.tally.TallyStepLog.TheImpl as tally_log
use Rattle.step_tally.proofs.tally.Tally.TheSendSync as tallies
use Rattle.event_device.proofs.Sends.{device_send}
use Rattle.event_device.specs.contracts.running.Device as Device
use Rattle.event_handles.specs.contracts.hub.Hub as Hub
use Rattle.event_handles.proofs.stopped.Stopped.TheSendSync as stopped
use Rattle.event_handles.proofs.sweep_counts.SweepCounts.TheSendSync as sweeps

counting_send : IsSend (Device.the_row (Tally.the_row Counted.the_row counted_log.ghosts) (tally_log.ghosts Counted.the_row counted_log.ghosts tally_log.no_dict tally_log.no_dict))
counting_send = device_send _ _ (tallies.the_send Counted.the_row counted_log.ghosts counted.the_send)

pub fields_send : IsSend Hub.the_field.row
fields_send =
    struct_send (shape Hub.the_type) (
      (let device = counting_send in search sendable depth 20),
      (
        (let kind = kinds.the_send in search sendable depth 20),
        (
          (let account = stopped.the_send in search sendable depth 20),
          ((let counts = sweeps.the_send in search sendable depth 20), (search sendable depth 20, tt)),
        ),
      ),
    )

pub hub_send : IsSend Hub.the_row
hub_send = recorded_send Hub.the_field.row _ _ Hub.the_type.to_one fields_send

use denote.Param.Send.{sendable}
use Rattle.event_handles.proofs.Sends.{hub_send}
use Rattle.event_handles.proofs.hub.to_thread.Goals as goal

pub sent-requires-send-T : goal.sent-requires-send-T
sent-requires-send-T c κs = let hub = hub_send in search sendable depth 10

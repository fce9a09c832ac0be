-- The oldest delivery that is held of a lane is answered, and the lane given back where it was the last.
use Rattle.std.proofs.Common.{◌∙◌, sym}
use Rattle.event_ports.specs.Flows.{hands_of}
use Rattle.event_ports.specs.Lanes.{reply_of}
use Rattle.event_ports.proofs.Calls.{idle_answered, says_before}
use Rattle.event_ports.proofs.Claiming.{asks_same, asks_then}
use Rattle.event_ports.proofs.flows.FlowLanes.answer_oldest.Goals as goal

pub returns-in_err-answer-clause-idle : goal.returns-in_err-answer-clause-idle
returns-in_err-answer-clause-idle c idle j none = c.answer.ensures.entries j ∙ idle j (sym (c.in_err-answer.ensures.lists.held j) ∙ none)

pub returns-in_err-answer-clause-asks : goal.returns-in_err-answer-clause-asks
returns-in_err-answer-clause-asks c = asks_same _ _ c.answer.ensures.seat

pub returns-clause-site : goal.returns-clause-site
returns-clause-site c = c.leave.ensures.site ∙ c.answer.ensures.site

pub returns-clause-lists : goal.returns-clause-lists
returns-clause-lists c =
    says_before (hands_of c.args.self.now) (hands_of c.answer.new.self) (hands_of c.leave.new.self) c.args.lane (reply_of c.args.event.now) c.in_ok-answer.ensures.lists c.leave.ensures.same

pub returns-clause-idle : goal.returns-clause-idle
returns-clause-idle c =
    idle_answered (hands_of c.args.self.now) (hands_of c.answer.new.self) (hands_of c.leave.new.self) c.args.lane (reply_of c.args.event.now) c.in_ok-answer.ensures.lists c.answer.ensures.entries
    c.leave.ensures.same c.leave.ensures.left c.leave.ensures.elsewhere

pub returns-clause-asks : goal.returns-clause-asks
returns-clause-asks c = asks_then _ _ _ (asks_same _ _ c.answer.ensures.seat) c.leave.ensures.asks

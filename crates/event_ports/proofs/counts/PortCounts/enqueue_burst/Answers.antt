-- A burst counts as the enqueues of its single events do.
use Rattle.std.proofs.Common.{ap, sym, ◌∙◌, Option, arith}
use Rattle.event_answers.specs.declared.answer.Refused.{Refused}
use Rattle.event_ports.specs.declared.counts.PortCounts.{PortCounts}
use Rattle.event_ports.specs.Counts.{after_burst, after_refused}
use Rattle.event_ports.proofs.Taken.{each_taken, refused_none, with_taken}
use Rattle.event_ports.proofs.counts.PortCounts.enqueue_burst.Goals as goal

pub returns-in-Some : goal.returns-in-Some
returns-in-Some c =
    let each = each_taken c.args.taken c.args.self.now (omega arith) in
    let counted = c.refuse.ensures ∙ ap (after_refused c.in-Some.refused) (ap (with_taken c.args.self.now) c.saturating_add-self.ensures ∙ sym each) in
    record {
      counted = counted ∙ sym (ap (λ (end : Option Refused). after_burst c.args.taken end c.args.self.now) c.in-Some.is);
      taken = ap (λ (k : PortCounts). k.enqueued) c.refuse.ensures ∙ refused_none c.in-Some.refused _ ∙ c.saturating_add-self.ensures;
    }

pub returns-in_default : goal.returns-in_default
returns-in_default c =
    let each = each_taken c.args.taken c.args.self.now (omega arith) in
    record {
      counted = ap (with_taken c.args.self.now) c.saturating_add-self.ensures ∙ sym each ∙ sym (ap (λ (end : Option Refused). after_burst c.args.taken end c.args.self.now) c.in_default.is);
      taken = c.saturating_add-self.ensures;
    }

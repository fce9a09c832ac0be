-- As many as were noted, or as are unanswered of the own lane.
use Rattle.std.proofs.Common.{length, sym, ap, ◌∙◌, arith}
use Rattle.event_ports.proofs.HeldIn.{held_noted, length_unnoted}
use Rattle.event_ports.proofs.lanes.Lanes.held.Goals as goal

pub returns-then-not-notes-clause-value : goal.returns-then-not-notes-clause-value
returns-then-not-notes-clause-value c =
    c.held.ensures.value ∙ sym (length_unnoted c.args.self.now.own c.args.self.now.order (sym c.notes.ensures ∙ c.if-not-notes.true))

pub returns-then-not-notes-clause-within : goal.returns-then-not-notes-clause-within
returns-then-not-notes-clause-within c = omega (arith, c.held.ensures.within, c.args.self.now.depth.0)

pub returns-clause-value : goal.returns-clause-value
returns-clause-value c = c.len.ensures.len ∙ ap length (sym (held_noted c.args.self.now.own c.args.self.now.order (sym c.notes.ensures ∙ c.if-not-notes.false)))

-- The oldest that was noted, or the own lane's.
use Rattle.std.proofs.Common.{sym, ◌∙◌, arith}
use Rattle.event_ports.proofs.HeldIn.{none_first, own_first}
use Rattle.event_ports.proofs.lanes.Lanes.first.Goals as goal

pub returns-then-held-eq0 : goal.returns-then-held-eq0
returns-then-held-eq0 c =
    sym (none_first c.args.self.now.own c.args.self.now.order (sym c.notes.ensures ∙ c.if-not-notes.true) (omega (arith, c.held.ensures.value, c.if-held-eq0.true)))

pub returns-then-not-notes : goal.returns-then-not-notes
returns-then-not-notes c =
    sym (own_first c.args.self.now.own c.args.self.now.order (sym c.notes.ensures ∙ c.if-not-notes.true) (omega (arith, c.held.ensures.value, c.if-held-eq0.false)))

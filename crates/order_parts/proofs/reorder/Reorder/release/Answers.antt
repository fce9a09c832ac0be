use Rattle.std.proofs.Common.{ap, sym, ◌∙◌}
use Rattle.std.specs.Option.{option_copied_mut}
use Rattle.order_parts.proofs.Changes.{none_resolved, rows_resolved, shown_resolved}
use Rattle.order_parts.proofs.reorder.Reorder.release.Goals as goal
use Rattle.order_parts.proofs.reorder.Reorder.release.Goals.{in-Some, in_default}

pub invariant_of-self : goal.invariant_of-self
invariant_of-self c =
    elim c.match-get_mut.branch [
      | in-Some w ↦
          rw w.self-inside-is (rows_resolved c.self.inside c.self.invariant c.args.self.now c.self.view_is c.args.place w.in-Some.handed.now (sym c.get_mut.ensures.value ∙ ap option_copied_mut w.in-Some.is))
      | in_default w ↦ rw w.self-inside-is c.self.invariant
    ]

pub returns : goal.returns
returns c =
    elim c.match-get_mut.branch [
      | in-Some w ↦
          rw w.self-inside-is
          (shown_resolved c.self.inside c.self.invariant c.args.self.now c.self.view_is c.args.place w.in-Some.handed.now (sym c.get_mut.ensures.value ∙ ap option_copied_mut w.in-Some.is))
      | in_default w ↦
          rw w.self-inside-is (c.self.view_is ∙ none_resolved c.self.inside c.self.invariant c.args.self.now c.self.view_is c.args.place (sym c.get_mut.ensures.value ∙ ap option_copied_mut w.in_default.is))
    ]

use Rattle.std.proofs.Common.{subst, sym}
use Rattle.sched_core.proofs.Runs.{choices_stand}
use Rattle.sched_core.specs.Runs.{HasSlot}
use Rattle.transcripts.specs.Standing.{Stands}
use Rattle.sched_core.proofs.state.Core.give_run.Goals as goal

pub returns-then-gives_row-clause-stands : goal.returns-then-gives_row-clause-stands
returns-then-gives_row-clause-stands g c T stands =
    choices_stand c.args.offer.lane c.args.self.now c.args.skips.now c.gives_row.new.run.items c.gives_row.new.self c.gives_row.new.skips T (c.gives_row.ensures.choices c.if-gives_row.true) stands

pub returns-clause-stands : goal.returns-clause-stands
returns-clause-stands g c T stands =
    let same = c.gives_row.ensures.same c.if-gives_row.false in
    choices_stand c.args.offer.lane c.gives_row.new.self c.gives_row.new.skips c.give_one.new.run.items c.give_one.new.self c.give_one.new.skips T c.give_one.ensures.choices (subst (Stands T) (sym same.0) stands)

pub give_one-requires-clause-slot : goal.give_one-requires-clause-slot
give_one-requires-clause-slot g c = subst (λ v. HasSlot v c.args.offer) (sym (c.gives_row.ensures.same c.if-gives_row.false).0) c.requires.slot

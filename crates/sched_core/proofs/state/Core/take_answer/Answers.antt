use Rattle.std.proofs.Common.{ap, sym, ◌∙◌}
use Rattle.transcripts.specs.Standing.{View, answer_steps, more_steps}
use Rattle.evt_types.specs.declared.step.Outcome.TheVariants.{Forwarded, Released}
use Rattle.transcripts.proofs.WholeStands.{shape_after}
use Rattle.sched_core.proofs.Steps.{more_told, taken_stands}
use Rattle.sched_core.proofs.state.Core.take_answer.Goals as goal

pub returns-in-Forward-clause-stands : goal.returns-in-Forward-clause-stands
returns-in-Forward-clause-stands g c T stands = taken_stands c.args.self.now c.take_forward.new.self T c.args.lane c.args.reply.now.event _ (sym c.op.ensures ∙ c.in-Forward.is) c.take_forward.ensures.view c.requires.lane c.requires.takes stands

pub returns-in-Release-clause-stands : goal.returns-in-Release-clause-stands
returns-in-Release-clause-stands g c T stands = taken_stands c.args.self.now c.take_release.new.self T c.args.lane c.args.reply.now.event _ (sym c.op.ensures ∙ c.in-Release.is) c.take_release.ensures.view c.requires.lane c.requires.takes stands

pub returns-in-New-clause-stands : goal.returns-in-New-clause-stands
returns-in-New-clause-stands g c T stands = taken_stands c.args.self.now c.take_more.new.self T c.args.lane c.args.reply.now.event _ (more_told _ _ c.op.ensures c.requires.answer c.in-New.is) c.take_more.ensures.view c.requires.lane c.requires.takes stands

pub returns-in-Forward-clause-shape : goal.returns-in-Forward-clause-shape
returns-in-Forward-clause-shape g c = ap (λ (v : View). v.shape) c.take_forward.ensures.view ∙ shape_after c.args.self.now (answer_steps c.args.self.now c.args.lane (Forwarded c.args.reply.now.event))

pub returns-in-Release-clause-shape : goal.returns-in-Release-clause-shape
returns-in-Release-clause-shape g c = ap (λ (v : View). v.shape) c.take_release.ensures.view ∙ shape_after c.args.self.now (answer_steps c.args.self.now c.args.lane Released)

pub returns-in-New-clause-shape : goal.returns-in-New-clause-shape
returns-in-New-clause-shape g c = ap (λ (v : View). v.shape) c.take_more.ensures.view ∙ shape_after c.args.self.now (more_steps c.args.self.now c.args.lane c.args.reply.now.event)

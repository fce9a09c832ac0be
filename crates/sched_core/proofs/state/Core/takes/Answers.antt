use Rattle.std.proofs.Common.{ap, sym, ◌∙◌, ◌&&◌, nat_lt, length}
use Rattle.transcripts.specs.Standing.{may_add, may_enter, may_forward}
use Rattle.sched_core.proofs.Steps.{more_told, new_told, taken_model}
use Rattle.sched_core.proofs.state.Core.takes.Goals as goal

pub returns-then-is_new-clause-model : goal.returns-then-is_new-clause-model
returns-then-is_new-clause-model c T stands = taken_model c.args.self.now T c.args.lane c.args.reply.now.event _ _ (new_told _ (sym c.is_new.ensures ∙ c.if-is_new.true)) (c.may_bring.ensures ∙ ap (λ q. nat_lt c.args.lane (length c.args.self.now.shape.ports) && may_enter c.args.self.now q) (c.from-queue.ensures ∙ c.queue.ensures)) stands c.requires.lane

pub returns-in-Forward-clause-model : goal.returns-in-Forward-clause-model
returns-in-Forward-clause-model c T stands = taken_model c.args.self.now T c.args.lane c.args.reply.now.event _ _ (sym c.op.ensures ∙ c.in-Forward.is) (c.may_forward.ensures ∙ ap (may_forward c.args.self.now c.args.lane) (c.from-queue.ensures ∙ c.queue.ensures)) stands c.requires.lane

pub returns-in-Release-clause-model : goal.returns-in-Release-clause-model
returns-in-Release-clause-model c T stands = taken_model c.args.self.now T c.args.lane c.args.reply.now.event _ _ (sym c.op.ensures ∙ c.in-Release.is) c.may_answer.ensures stands c.requires.lane

pub returns-in-New-clause-model : goal.returns-in-New-clause-model
returns-in-New-clause-model c T stands = taken_model c.args.self.now T c.args.lane c.args.reply.now.event _ _ (more_told _ _ c.op.ensures (sym c.is_new.ensures ∙ c.if-is_new.false) c.in-New.is) (c.may_add.ensures ∙ ap (may_add c.args.self.now c.args.lane) (c.from-queue.ensures ∙ c.queue.ensures)) stands c.requires.lane

use Rattle.std.proofs.Common.{ap, arith}
use Rattle.transcript_judge.proofs.RowLists.{accepted_events, accepted_nexts, kinds_set, next_now}
use Rattle.transcript_judge.specs.Waiting.{Waits}
use Rattle.transcript_judge.proofs.waiting.accept_in.Goals as goal

pub accept-requires : goal.accept-requires
accept-requires c = omega (arith, c.requires.few, next_now c.args.waiting.now.items c.args.queue c.index_mut.result.now c.requires.queue c.index_mut.ensures.value)

pub returns-clause-events : goal.returns-clause-events
returns-clause-events c = accepted_events c.args.waiting.now.items c.args.queue c.accept.new.self c.index_mut.result.now c.args.event.now c.requires.queue c.index_mut.ensures.value c.in_ok-accept.ensures

pub returns-clause-next : goal.returns-clause-next
returns-clause-next c = accepted_nexts c.args.waiting.now.items c.args.queue c.accept.new.self c.index_mut.result.now c.args.event.now c.requires.queue c.index_mut.ensures.value c.in_ok-accept.ensures

pub returns-clause-kinds : goal.returns-clause-kinds
returns-clause-kinds c = kinds_set c.args.waiting.now.items c.args.queue c.accept.new.self c.index_mut.result.now c.requires.queue c.index_mut.ensures.value (ap (λ (w : Waits). w.kind) c.in_ok-accept.ensures)

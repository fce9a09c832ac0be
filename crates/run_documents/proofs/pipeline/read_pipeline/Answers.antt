use Rattle.run_documents.proofs.Faults.{gives-named}
use Rattle.run_documents.proofs.Pipelines.{gives-ready}
use Rattle.run_documents.proofs.pipeline.read_pipeline.Goals as goal

pub returns-clause-named : goal.returns-clause-named
returns-clause-named c = gives-named c.args.workers c.args.bytes.now c.planned.result c.planned.ensures

pub returns-clause-staged : goal.returns-clause-staged
returns-clause-staged c = gives-ready _ c.args.workers c.args.bytes.now c.planned.result c.planned.ensures (λ p h. h.staged)

pub returns-clause-proper : goal.returns-clause-proper
returns-clause-proper c = gives-ready _ c.args.workers c.args.bytes.now c.planned.result c.planned.ensures (λ p h. h.proper)

pub returns-clause-some : goal.returns-clause-some
returns-clause-some c = gives-ready _ c.args.workers c.args.bytes.now c.planned.result c.planned.ensures (λ p h. h.some)

pub returns-clause-workers : goal.returns-clause-workers
returns-clause-workers c = gives-ready _ c.args.workers c.args.bytes.now c.planned.result c.planned.ensures (λ p h. h.ports)

pub returns-clause-room : goal.returns-clause-room
returns-clause-room c = gives-ready _ c.args.workers c.args.bytes.now c.planned.result c.planned.ensures (λ p h. h.room)
